-- What a plan says, from what pre-render answers and what its requests are held to.
use Rattle.std.proofs.Common.{◌≡◌, ℕ, ◌<◌, ℤ, pos, Bool, true, false, List, [], ◌∷◌, length, map, get_or, slice_get, Some, refl, sym, subst, ap, ◌∙◌, arith}
use Rattle.std.proofs.Math.ListN.{get_or-map}
use Rattle.std.proofs.lemmas.List.{length-map, ext_get_or}
use Rattle.std.proofs.lemmas.Option.{slice_get-get_or, slice_get_within}
use Rattle.geom_rect.specs.declared.rect.Rect.{Rect}
use Rattle.geom_rect.specs.Rect.{Has, has, origin}
use Rattle.geom_rect.proofs.Points.{has-true, Has-from_true}
use Rattle.argb_pixel.specs.Pixel.{Argb, clear}
use Rattle.comp_stack.specs.Stack.{Plane}
use Rattle.effect_api.specs.declared.moment.Moment.{Moment}
use Rattle.effect_api.specs.declared.moment.Want.{Want}
use Rattle.effect_api.specs.declared.moment.Ask.{Ask}
use Rattle.effect_api.specs.declared.pre_render.Checkout.{Checkout}
use Rattle.effect_api.specs.declared.pre_render.PreRender.{PreRender}
use Rattle.effect_api.specs.Planes.{IsPlane, AgreeOn, AgreeOnNeed, plane_at, extent_at, extents_of}
use Rattle.effect_api.specs.Render.{IsResult, IsCheckout, AreCheckouts}
use Rattle.effect_api.specs.Effects.{IsLocal}
use Rattle.effect_api.specs.Laws.{extent_of_plane}
use Rattle.smart_plan.specs.Plan.{trimmed, part_of, IsPart, AreMarked}
use Rattle.smart_plan.specs.Requests.{request_at, AreRequests}
use Rattle.smart_plan.specs.Suffices.{Suffices}
use Rattle.smart_plan.specs.Held.{AreHeld, AreMarks}
use Rattle.smart_plan.proofs.Trimming.{Has-trimmed, trimmed_near}

-- the part, from the result
pub part_from_result : (bounds request : Rect) (pre : PreRender) → IsResult bounds request pre → IsPart bounds request (part_of pre)
part_from_result bounds request pre result = record {
  inside = λ x y h. result.inside x y ((Has-trimmed pre.result_rect x y).0 h);
  near = trimmed_near pre.result_rect bounds result.inside;
  whole = λ x y asked there. (Has-trimmed pre.result_rect x y).1 (result.whole x y asked there);
}

-- two planes that are transparent outside an extent agree on what is needed if they agree on what is requested of that extent
agree_from_request : (most : ℕ) (extent need request : Rect) (plane other : Plane) → IsPlane most plane → IsPlane most other
    → plane.extent ≡ extent → other.extent ≡ extent → ((x y : ℤ) → Has need x y → Has extent x y → Has request x y)
    → AgreeOn request plane other → AgreeOn need plane other
agree_from_request most extent need request plane other is other_is same other_same enough agree x y needed = by (has extent x y) refl
  where
    away : (p : Plane) → IsPlane most p → p.extent ≡ extent → has extent x y ≡ false → p.at x y ≡ clear
    away p p_is p_same e = p_is.outside x y (λ h. absurd (differ (sym (has-true extent x y (subst (λ (r : Rect). Has r x y) p_same h)) ∙ e)))
      where
        differ : true ≡ false → ⊥
        differ d = cc

    by : (b : Bool) → has extent x y ≡ b → plane.at x y ≡ other.at x y
    by true e = agree x y (enough x y needed (Has-from_true extent x y e))
    by false e = away plane is same e ∙ sym (away other other_is other_same e)

-- a checkout that stands where one is
there : (olds news : List Checkout) (i : ℕ) (new : Checkout) → length news ≡ length olds → slice_get news i ≡ Some new → slice_get olds i ≡ Some (get_or olds i new)
there olds news i new long now = slice_get-get_or olds i new (omega (arith, long, slice_get_within news i new now))

-- held requests are those of the same wants, and have what is needed
pub checkouts_held : (wants : List Want) (extents : List Rect) (need : ℕ → Rect) (at : Moment) (olds news : List Checkout) → length news ≡ length olds
    → AreHeld at extents olds news → AreCheckouts wants extents need olds → AreCheckouts wants extents need news
checkouts_held wants extents need at olds news long held given = record { one_each = long ∙ given.one_each; each = each }
  where
    each : (i : ℕ) (want : Want) (new : Checkout) → slice_get wants i ≡ Some want → slice_get news i ≡ Some new → IsCheckout want i (extent_at extents i) (need i) new
    each i want new was now =
        let old_there = there olds news i new long now in
        let from = given.each i want (get_or olds i new) was old_there in
        let kept = held i (get_or olds i new) new old_there now in
        record {
          id_is = kept.same_id ∙ from.id_is;
          want_is = kept.same_want ∙ from.want_is;
          enough = λ x y needed inside. kept.enough x y (from.enough x y needed inside) inside;
        }

pub requests_held : (extents : List Rect) (at : Moment) (olds news : List Checkout) → length news ≡ length olds → AreHeld at extents olds news → AreRequests at extents news
requests_held extents at olds news long held i new now = (held i (get_or olds i new) new (there olds news i new long now) now).request

-- the wants are those of the checkouts, so marks of these are marks of those
abbrev no_want : Want
no_want = record { input = 0; tick = record { 0 = pos 0 } }

abbrev no_checkout : Checkout
no_checkout = record { id = 0; want = no_want; request = origin }

wants_are : (wants : List Want) (extents : List Rect) (need : ℕ → Rect) (checkouts : List Checkout) → AreCheckouts wants extents need checkouts
    → map (λ (checkout : Checkout). checkout.want) checkouts ≡ wants
wants_are wants extents need checkouts given = ext_get_or no_want _ wants (long ∙ given.one_each) each
  where
    long : length (map (λ (checkout : Checkout). checkout.want) checkouts) ≡ length checkouts
    long = length-map checkouts (λ (checkout : Checkout). checkout.want)

    each : (i : ℕ) → i < length (map (λ (checkout : Checkout). checkout.want) checkouts) → get_or (map (λ (checkout : Checkout). checkout.want) checkouts) i no_want ≡ get_or wants i no_want
    each i low =
        let want_there = slice_get-get_or wants i no_want (omega (arith, low, long, given.one_each)) in
        let checkout_there = slice_get-get_or checkouts i no_checkout (omega (arith, low, long)) in
        get_or-map (λ (checkout : Checkout). checkout.want) checkouts i no_checkout ∙ (given.each i _ _ want_there checkout_there).want_is

pub marks_of_wants : (wants : List Want) (extents : List Rect) (need : ℕ → Rect) (at : Moment) (checkouts : List Checkout) (marks : List Bool)
    → AreCheckouts wants extents need checkouts → AreMarks at checkouts marks → AreMarked wants at marks
marks_of_wants wants extents need at checkouts marks given marked =
    subst (λ (ws : List Want). AreMarked ws at marks) (wants_are wants extents need checkouts given) (each checkouts marks marked)
  where
    each : (cs : List Checkout) (ms : List Bool) → AreMarks at cs ms → AreMarked (map (λ (checkout : Checkout). checkout.want) cs) at ms
    each [] [] h = tt
    each [] (m ∷ ms) h = h
    each (c ∷ cs) [] h = h
    each (c ∷ cs) (m ∷ ms) h = (h.0, each cs ms h.1)

-- what is drawn locally is drawn from the requests
pub suffices_from_local : (most : ℕ) (sums_of : ℕ → ℕ → Plane → List ℕ) (wants : List Want) (asks : List Ask) (extents : List Rect) (need : Rect → ℕ → Rect)
    (draws : List Plane → List (List ℕ) → ℤ → ℤ → Argb) (rect : Rect) (checkouts : List Checkout) → IsLocal most sums_of wants asks extents need draws
    → AreCheckouts wants extents (need rect) checkouts → Suffices most sums_of wants asks extents draws (request_at checkouts) (trimmed rect)
suffices_from_local most sums_of wants asks extents need draws rect checkouts local given planes worlds sums from other extents_are other_extents agree x y inside =
    local rect planes worlds sums from other extents_are other_extents needed x y ((Has-trimmed rect x y).0 inside)
  where
    extent_is : (ps : List Plane) (i : ℕ) → extents_of ps ≡ extents → (plane_at ps i).extent ≡ extent_at extents i
    extent_is ps i e = sym (extent_of_plane ps i) ∙ ap (λ (rs : List Rect). extent_at rs i) e

    enough : (i : ℕ) → i < length planes → (u v : ℤ) → Has (need rect i) u v → Has (extent_at extents i) u v → Has (request_at checkouts i) u v
    enough i low u v n e =
        let want_there = slice_get-get_or wants i no_want (omega (arith, low, from.one_each)) in
        let checkout_there = slice_get-get_or checkouts i no_checkout (omega (arith, low, from.one_each, given.one_each)) in
        subst (λ (r : Rect). Has r u v) (sym (get_or-map (λ (checkout : Checkout). checkout.request) checkouts i no_checkout))
        ((given.each i _ _ want_there checkout_there).enough u v n e)

    needed : AgreeOnNeed (need rect) planes worlds
    needed i low =
        agree_from_request most (extent_at extents i) (need rect i) (request_at checkouts i) (plane_at planes i) (plane_at worlds i)
        (from.planes_are i _ low) (other.planes_are i _ (omega (arith, low, from.one_each, other.one_each)))
        (extent_is planes i extents_are) (extent_is worlds i other_extents) (enough i low) (agree i low)
