use Rattle.std.proofs.Common.{◌≡◌, ◌≤◌, ◌∷◌, [], List, length, refl, sym, subst, ap, ◌∙◌, arith}
use Rattle.std.proofs.lemmas.Option.{slice_get_read}
use Rattle.geom_rect.specs.declared.rect.Rect.{Rect}
use Rattle.geom_rect.specs.Rect.{IsWithin, area_of}
use Rattle.argb_world.specs.Picture.{greatest_part}
use Rattle.argb_world.proofs.Places.{area_within}
use Rattle.comp_stack.specs.Layers.{plane_of}
use Rattle.project_model.specs.Effects.{use_of}
use Rattle.effect_api.specs.Effects.{Shows}
use Rattle.smart_plan.specs.Plan.{part_of, IsPart}
use Rattle.smart_plan.specs.Requests.{request_at}
use Rattle.smart_plan.specs.Suffices.{Suffices}
use Rattle.effect_tests.proofs.Cropping.{IsCut, request_read, shown_sparingly}
use Rattle.effect_tests.proofs.sparing.drawn_sparingly.Goals as goal

pub crop-requires : goal.crop-requires
crop-requires g c =
    let items = c.in_ok-plan.plan.pre.checkouts.items in
    let one : length items ≡ 1 = c.in_ok-plan.ensures.checkouts.one_each ∙ ap length c.requires.wants in
    let there = slice_get_read items (length items) 0 c.index.result.now refl (omega (arith, one)) c.index.ensures in
    let inside = (c.in_ok-plan.ensures.requests 0 c.index.result.now there).inside in
    (omega arith, subst (IsWithin c.index.result.now.request) (c.extent-extent.ensures ∙ sym c.requires.whole) inside)

pub blank-requires : goal.blank-requires
blank-requires g c =
    let extents : c.extent-extent.result ∷ [] ≡ c.args.input.now.extent ∷ [] = ap (λ (r : Rect). r ∷ []) c.extent-extent.ensures in
    let bounds = λ (es : List Rect). g.E.Effect.bounds (use_of c.args.fx.now) c.args.at es in
    let inside : IsWithin c.part.result (bounds (c.extent-extent.result ∷ [])) = subst (λ (r : Rect). IsWithin r (bounds (c.extent-extent.result ∷ []))) (sym c.part.ensures.value) c.in_ok-plan.ensures.part.inside in
    let few : area_of (bounds (c.extent-extent.result ∷ [])) ≤ greatest_part = subst (λ (es : List Rect). area_of (bounds es) ≤ greatest_part) (sym extents) c.requires.area in
    (omega arith, (c.requires.depth, (subst (IsWithin c.part.result) (sym c.in_ok-plan.ensures.rects.most) inside, omega (arith, area_within c.part.result (bounds (c.extent-extent.result ∷ [])) inside, few))))

pub returns : goal.returns
returns g c =
    let fx = use_of c.args.fx.now in
    let input = c.args.input.now in
    let part = part_of c.in_ok-plan.plan.pre in
    let items = c.in_ok-plan.plan.pre.checkouts.items in
    let wants = g.E.Effect.wants fx c.args.at in
    let asks = g.E.Effect.asks fx c.args.at in
    let draws = g.E.Draw.draws fx c.args.at in
    let bounds = λ (es : List Rect). g.E.Effect.bounds fx c.args.at es in
    let extents : c.extent-extent.result ∷ [] ≡ input.extent ∷ [] = ap (λ (r : Rect). r ∷ []) c.extent-extent.ensures in
    let one : length items ≡ 1 = c.in_ok-plan.ensures.checkouts.one_each ∙ ap length c.requires.wants in
    let there = slice_get_read items (length items) 0 c.index.result.now refl (omega (arith, one)) c.index.ensures in
    let inside = subst (IsWithin c.index.result.now.request) c.extent-extent.ensures (c.in_ok-plan.ensures.requests 0 c.index.result.now there).inside in
    let asked = request_read items 0 c.index.result.now (omega (arith, one)) c.index.ensures in
    let cut : IsCut input c.in_ok-part.part c.index.result.now.request =
    record { extent = c.in_ok-part.ensures.extent; part = c.in_ok-part.ensures.part; inside = inside; copied = c.in_ok-part.ensures.copied } in
    let part_is = c.in_ok-target.ensures.part ∙ c.part.ensures.value in
    shown_sparingly g.row.MAX g.E.Draw.sums_of wants asks draws (bounds (input.extent ∷ [])) c.args.request items part input c.in_ok-part.part c.drawn.new.target
    c.requires.depth (ap length c.requires.wants) c.requires.asks c.requires.plane (subst (IsCut input c.in_ok-part.part) (sym asked) cut)
    (subst (λ (es : List Rect). Suffices g.row.MAX g.E.Draw.sums_of wants asks es draws (request_at items) part) extents c.in_ok-plan.ensures.suffices)
    (subst (λ (es : List Rect). IsPart (bounds es) c.args.request part) extents c.in_ok-plan.ensures.part)
    (λ given. g.met.E.Draw.draws_are fx c.args.at (plane_of input ∷ []) [] c.requires.given given)
    (c.in_ok-drawn.ensures.frame.1 ∙ part_is)
    (subst (λ (r : Rect). Shows r (draws (plane_of c.in_ok-part.part ∷ []) []) c.drawn.new.target) part_is c.in_ok-drawn.ensures.shown)
