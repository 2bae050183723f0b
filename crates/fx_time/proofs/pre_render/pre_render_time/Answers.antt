use Rattle.project_model.specs.Effects.{use_of}
use Rattle.std.proofs.Common.{List, length, false, refl, sym, subst, ap, ◌∙◌, arith}
use Rattle.geom_rect.specs.declared.rect.Rect.{Rect}
use Rattle.geom_rect.specs.Rect.{meet_of}
use Rattle.effect_api.specs.declared.moment.Want.{Want}
use Rattle.effect_api.specs.Render.{AreCheckouts, AreExact}
use Rattle.effect_api.proofs.Requested.{own_result, own_met}
use Rattle.fx_time.specs.Time.{time_wants, time_bounds}
use Rattle.fx_time.specs.Asked.{asked_of_each}
use Rattle.fx_time.specs.Laws.{wants_length, wants_few, some_wants}
use Rattle.fx_time.proofs.Answered.{each_asked, exactly_asked}
use Rattle.fx_time.proofs.pre_render.pre_render_time.Goals as goal

pub bounds_over-bounds-requires : goal.bounds_over-bounds-requires
bounds_over-bounds-requires c =
    let fx = use_of c.args.fx.now in
    omega (arith, c.requires.extents.one_each, wants_length c.args.kind fx c.args.at, some_wants c.args.kind fx c.args.at)

pub returns-clause-rects : goal.returns-clause-rects
returns-clause-rects c =
    let bounds : Rect = time_bounds c.args.kind (use_of c.args.fx.now) c.args.at c.args.extents.now in
    own_result record { result_rect = c.meet-result_rect.result; max_result_rect = c.bounds_over-bounds.result; extra = false; checkouts = c.in_ok-checkouts.checkouts }
    bounds c.args.request c.bounds_over-bounds.ensures (c.meet-result_rect.ensures.value ∙ ap (meet_of c.args.request) c.bounds_over-bounds.ensures) refl

pub returns-clause-met : goal.returns-clause-met
returns-clause-met c =
    let bounds : Rect = time_bounds c.args.kind (use_of c.args.fx.now) c.args.at c.args.extents.now in
    own_met record { result_rect = c.meet-result_rect.result; max_result_rect = c.bounds_over-bounds.result; extra = false; checkouts = c.in_ok-checkouts.checkouts }
    bounds c.args.request (c.meet-result_rect.ensures.value ∙ ap (meet_of c.args.request) c.bounds_over-bounds.ensures) refl

pub ask_each-requires-clause-few : goal.ask_each-requires-clause-few
ask_each-requires-clause-few c =
    let fx = use_of c.args.fx.now in
    omega (arith, ap length (c.deref.ensures.value ∙ c.in_ok-wants.ensures), wants_length c.args.kind fx c.args.at, wants_few c.args.kind fx c.args.at c.requires.fits)

pub returns-clause-checkouts : goal.returns-clause-checkouts
returns-clause-checkouts c =
    let wants = time_wants c.args.kind (use_of c.args.fx.now) c.args.at in
    let extents = c.args.extents.now in
    let rect = c.meet-result_rect.result in
    subst (AreCheckouts wants extents (λ i. rect))
    (sym (c.in_ok-checkouts.ensures ∙ ap (λ (ws : List Want). asked_of_each ws extents rect (length ws)) (c.deref.ensures.value ∙ c.in_ok-wants.ensures)))
    (each_asked wants extents rect)

pub returns-clause-exact : goal.returns-clause-exact
returns-clause-exact c =
    let wants = time_wants c.args.kind (use_of c.args.fx.now) c.args.at in
    let extents = c.args.extents.now in
    let rect = c.meet-result_rect.result in
    subst (AreExact extents (λ i. rect))
    (sym (c.in_ok-checkouts.ensures ∙ ap (λ (ws : List Want). asked_of_each ws extents rect (length ws)) (c.deref.ensures.value ∙ c.in_ok-wants.ensures)))
    (exactly_asked wants extents rect)
