use Rattle.std.proofs.Common.{ap, ◌∙◌, sym}
use Rattle.std.specs.Arc.{arc_value}
use Rattle.cache_table.specs.Cache.{state_at}
use Rattle.compute_cache.specs.State.{Plain}
use Rattle.compute_cache.specs.Acts.{act_for}
use Rattle.compute_cache.proofs.Stated.{right_on, right_same, hit_serial, hit_act}
use Rattle.compute_cache.proofs.state.State.ask.Goals as goal

pub invariant_of-self : goal.invariant_of-self
invariant_of-self g c =
    right_same (g.K.Keeps.meaning c.self.inside.job.value) c.take.result _ c.self.inside.table c.take.new.self c.in_err-serial-in-Live.was c.self.invariant c.take.ensures.err

pub invariant_of-self-in-Live : goal.invariant_of-self-in-Live
invariant_of-self-in-Live g c =
    right_on (g.K.Keeps.meaning c.self.inside.job.value) c.self.inside.table c.take.new.self c.self.invariant c.in_ok-serial-in-Live.ensures.values

pub invariant_of-self-in_err-note-in-Running : goal.invariant_of-self-in_err-note-in-Running
invariant_of-self-in_err-note-in-Running g c =
    right_same (g.K.Keeps.meaning c.self.inside.job.value) c.note.result _ c.self.inside.table c.note.new.self c.in_err-note-in-Running.was c.self.invariant c.note.ensures.err

pub invariant_of-self-in-Running : goal.invariant_of-self-in-Running
invariant_of-self-in-Running g c =
    right_on (g.K.Keeps.meaning c.self.inside.job.value) c.self.inside.table c.note.new.self c.self.invariant c.in_ok-note-in-Running.ensures.values

pub returns-in_ok-serial-in-Live-clause-act : goal.returns-in_ok-serial-in-Live-clause-act
returns-in_ok-serial-in-Live-clause-act g c =
    let class = c.args.class in
    let key = c.args.key in
    let serial = c.in_ok-serial-in-Live.serial in
    let table = c.self.inside.table in
    hit_act c.args.call (state_at class key table) serial
    (hit_serial table c.take.new.self c.args.pass class key serial c.look.ensures.kept c.take.ensures.kept c.in_ok-serial-in-Live.ensures.adds)
    ∙ ap (λ (s : Plain _ _). act_for c.args.call (state_at class key s.cache)) c.self.view_is

pub returns-in_ok-serial-in-Live-clause-meant : goal.returns-in_ok-serial-in-Live-clause-meant
returns-in_ok-serial-in-Live-clause-meant g c =
    let class = c.args.class in
    let key = c.args.key in
    let found = c.in_ok-serial-in-Live in
    ap (λ (s : Plain _ _). g.K.Keeps.meaning s.job class key) (sym c.self.view_is)
    ∙ c.self.invariant class key found.serial (arc_value found.value) found.ensures.value
