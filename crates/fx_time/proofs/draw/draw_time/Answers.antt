use Rattle.project_model.specs.Effects.{use_of}
use Rattle.std.proofs.Common.{◌≡◌, ℕ, ◌-◌, ◌+◌, List, length, ap, ap₂, sym, ◌∙◌, arith}
use Rattle.std.proofs.lemmas.Result.{on_ok_weaker}
use Rattle.comp_stack.specs.Stack.{Plane}
use Rattle.effect_api.specs.Checked.{planes_of}
use Rattle.fx_color.specs.Color.{amount_of}
use Rattle.fx_time.specs.declared.kind.TimeKind.{TimeKind}
use Rattle.fx_time.specs.declared.kind.TimeKind.TheVariants.{TimeMean}
use Rattle.fx_time.specs.Formulas.{time_mean_at}
use Rattle.fx_time.specs.Worlds.{planes_in}
use Rattle.fx_time.specs.Time.{want_count, time_draws}
use Rattle.fx_time.specs.Laws.{wants_length}
use Rattle.fx_time.proofs.Spans.{echoes_of_use}
use Rattle.fx_time.proofs.draw.draw_time.Goals as goal

pub worlds_of-requires : goal.worlds_of-requires
worlds_of-requires g c =
    (omega arith, (omega arith, c.requires.pixels.one_each ∙ wants_length c.args.kind (use_of c.args.fx.now) c.args.at ∙ sym c.want_count-count.ensures.value))

pub worlds_of-requires-in-TimeMean : goal.worlds_of-requires-in-TimeMean
worlds_of-requires-in-TimeMean g c =
    (omega arith, (omega arith, c.requires.pixels.one_each ∙ wants_length c.args.kind (use_of c.args.fx.now) c.args.at ∙ sym c.want_count-count.ensures.value))

pub returns-in_ok-strengths-in-Echo-clause-drawn : goal.returns-in_ok-strengths-in-Echo-clause-drawn
returns-in_ok-strengths-in-Echo-clause-drawn g c =
    let fx = use_of c.args.fx.now in
    let planes = planes_of c.args.pixels.now.pairs in
    let count : c.want_count-count.result ≡ amount_of fx 0 c.args.at + 1 = c.want_count-count.ensures.value ∙ ap (λ (k : TimeKind). want_count k fx c.args.at) c.in-Echo.is in
    on_ok_weaker c.draw_echoes.result
    (λ shows x y h. shows x y h
    ∙ echoes_of_use g.row.MAX fx c.args.at c.deref.result.now c.deref-in-Echo.result.now planes (c.want_count-count.result - 1)
    (ap planes_in c.deref.ensures.value ∙ c.in_ok-worlds-in-Echo.ensures.planes) (c.deref-in-Echo.ensures.value ∙ c.in_ok-strengths-in-Echo.ensures.values) (omega (arith, count)) x y
    ∙ ap (λ (k : TimeKind). time_draws g.row.MAX k fx c.args.at planes x y) (sym c.in-Echo.is))
    c.draw_echoes.ensures.drawn

pub returns-in_ok-worlds-in-TimeMean-clause-drawn : goal.returns-in_ok-worlds-in-TimeMean-clause-drawn
returns-in_ok-worlds-in-TimeMean-clause-drawn g c =
    let fx = use_of c.args.fx.now in
    let planes = planes_of c.args.pixels.now.pairs in
    let count : length c.deref-in-TimeMean.result.now ≡ want_count TimeMean fx c.args.at =
    ap length c.deref-in-TimeMean.ensures.value ∙ c.in_ok-worlds-in-TimeMean.ensures.many ∙ c.want_count-count.ensures.value
    ∙ ap (λ (k : TimeKind). want_count k fx c.args.at) c.in-TimeMean.is in
    on_ok_weaker c.draw_mean.result
    (λ shows x y h. shows x y h
    ∙ ap₂ (λ (n : ℕ) (ps : List Plane). time_mean_at n ps x y) count (ap planes_in c.deref-in-TimeMean.ensures.value ∙ c.in_ok-worlds-in-TimeMean.ensures.planes)
    ∙ ap (λ (k : TimeKind). time_draws g.row.MAX k fx c.args.at planes x y) (sym c.in-TimeMean.is))
    c.draw_mean.ensures.drawn
