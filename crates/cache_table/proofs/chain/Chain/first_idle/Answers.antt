use Rattle.std.proofs.Common.{◌≡◌, ◌+◌, ◌-◌, ◌≤◌, sym, ◌∙◌, ap, arith}
use Rattle.std.specs.Prelude.{Some, None, find, option_map, option_copied}
use Rattle.slab.specs.Slab.{get, slab_len}
use Rattle.cache_table.specs.Kept.{is_kept_idle}
use Rattle.cache_table.proofs.Walking.{idle_from, idle-none, idle-end, idle-vacant, idle-here, idle-later}
use Rattle.cache_table.proofs.chain.Chain.first_idle.Goals as goal

pub loop-turn-init : goal.loop-turn-init
loop-turn-init g c =
    let count : slab_len c.self.inside.slots ≡ c.len-turn-end.result - 0 = omega (arith, c.len-turn-end.ensures) in
    ap (find (λ row. is_kept_idle row.1)) (sym c.self.view_is) ∙ ap (λ n. idle_from c.self.inside.slots n c.self.inside.first) count

pub returns-in_err-slot : goal.returns-in_err-slot
returns-in_err-slot g c =
    let count = c.len-turn-end.result - c.loop-turn._turn in
    c.from_residual.ensures
    ∙ sym (ap (option_map (λ row. row.0)) (c.loop-turn.invariant ∙ ap (idle_from c.self.inside.slots count) c.in_err-slot.was ∙ idle-none c.self.inside.slots count))

pub returns-in_err-link : goal.returns-in_err-link
returns-in_err-link g c =
    let count = c.len-turn-end.result - c.loop-turn._turn in
    let slot = c.in_ok-slot.slot in
    let more : 1 ≤ count = omega (arith, c.loop-turn-test.true) in
    let none : get c.self.inside.slots slot ≡ None = sym c.get.ensures ∙ ap option_copied c.in_err-link.was in
    c.from_residual-in_err-link.ensures
    ∙ sym (ap (option_map (λ row. row.0)) (c.loop-turn.invariant ∙ ap (idle_from c.self.inside.slots count) c.in_ok-slot.was ∙ idle-vacant c.self.inside.slots count slot more none))

pub returns-then-is_idle : goal.returns-then-is_idle
returns-then-is_idle g c =
    let count = c.len-turn-end.result - c.loop-turn._turn in
    let slot = c.in_ok-slot.slot in
    let more : 1 ≤ count = omega (arith, c.loop-turn-test.true) in
    let here : get c.self.inside.slots slot ≡ Some c.in_ok-link.link.now = sym c.get.ensures ∙ ap option_copied c.in_ok-link.was in
    sym (idle-here c.self.inside.slots count slot c.in_ok-link.link.now more here (sym c.is_idle.ensures ∙ c.if-is_idle.true))
    ∙ sym (ap (option_map (λ row. row.0)) (c.loop-turn.invariant ∙ ap (idle_from c.self.inside.slots count) c.in_ok-slot.was))

pub loop-turn-preserved : goal.loop-turn-preserved
loop-turn-preserved g c =
    let count = c.len-turn-end.result - c.loop-turn._turn in
    let slot = c.in_ok-slot.slot in
    let more : 1 ≤ count = omega (arith, c.loop-turn-test.true) in
    let here : get c.self.inside.slots slot ≡ Some c.in_ok-link.link.now = sym c.get.ensures ∙ ap option_copied c.in_ok-link.was in
    let less : count - 1 ≡ c.len-turn-end.result - (c.loop-turn._turn + 1) = omega arith in
    c.loop-turn.invariant ∙ ap (idle_from c.self.inside.slots count) c.in_ok-slot.was
    ∙ idle-later c.self.inside.slots count slot c.in_ok-link.link.now more here (sym c.is_idle.ensures ∙ c.if-is_idle.false)
    ∙ ap (λ n. idle_from c.self.inside.slots n c.in_ok-link.link.now.after) less

pub returns : goal.returns
returns g c =
    let count = c.len-turn-end.result - c.loop-turn._turn in
    let ends : count ≡ 0 = omega (arith, c.loop-turn-test.false) in
    sym (ap (option_map (λ row. row.0)) (c.loop-turn.invariant ∙ idle-end c.self.inside.slots count c.loop-turn.next ends))
