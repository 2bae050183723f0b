-- Sums of planes, as a drawing is given them.
use Rattle.std.specs.Prelude.{sum_by}
use Rattle.std.specs.List.{All}
use Rattle.std.proofs.Common.{◌≡◌, ℕ, ◌+◌, ◌*◌, ◌<◌, ◌≤◌, List, [], ◌∷◌, length, take, refl, ap, sym, subst, ◌∙◌, arith, pos, ◌-ℤ◌, length-take}
use Rattle.std.proofs.lemmas.List.FromFn.{length-map-range_with_len}
use Rattle.std.proofs.lemmas.List.Elements.{All-nil, All-cons, All-head, All-tail, All-from_get_or, All-take, All-weaker}
use Rattle.std.proofs.lemmas.List.Sums.{sum_by-le, sum_by_more}
use Rattle.std.proofs.Math.Nat.{mul-le-mul_right}
use Rattle.geom_rect.specs.Rect.{count_between, area_of}
use Rattle.argb_pixel.specs.Depth.{IsDepth}
use Rattle.argb_pixel.specs.Pixel.{luma_of}
use Rattle.argb_world.specs.Picture.{greatest_part}
use Rattle.comp_stack.specs.Stack.{Plane}
use Rattle.effect_api.specs.declared.moment.Moment.{Moment}
use Rattle.effect_api.specs.declared.moment.Ask.{Ask}
use Rattle.effect_api.specs.Planes.{IsPlane}
use Rattle.effect_api.specs.Checked.{AreSums}
use Rattle.fx_analysis.specs.Sums.{pixels_in, histogram_of, light_of, analysis_sums}
use Rattle.fx_analysis.specs.Formulas.{sums_at, number_in}
use Rattle.fx_analysis.specs.Analysis.{asked, tick_after, histogram_asks, light_asks}
use Rattle.fx_analysis.specs.Counts.{AreCounts, IsLight}
use Rattle.fx_analysis.specs.Laws.{all_over_range}
use Rattle.fx_analysis.proofs.Counting.{long_histogram, count_within, long_rows, sum_within, luma_few, alpha_few}

-- ---- what the sums of a plane are

pub plane_counts : (plane : Plane) → area_of plane.extent ≤ greatest_part → AreCounts (histogram_of (pixels_in plane))
plane_counts plane few = record {
  levels = long_histogram (pixels_in plane);
  few = All-from_get_or (λ n. n ≤ greatest_part) (histogram_of (pixels_in plane)) 0 λ k l.
      let low : k < 256 = omega (arith, l, long_histogram (pixels_in plane)) in
      omega (arith, count_within (pixels_in plane) k low, long_rows plane (count_between plane.extent.top plane.extent.bottom), few);
}

plane_light : (most : ℕ) (plane : Plane) → IsDepth most → IsPlane most plane → area_of plane.extent ≤ greatest_part → IsLight (light_of (pixels_in plane))
plane_light most plane depth is few =
    let height = count_between plane.extent.top plane.extent.bottom in
    let luma = sum_within luma_of plane height (λ x y. luma_few most (plane.at x y) depth (is.pixels x y)) (omega arith) in
    let alpha = sum_within (λ p. p.a) plane height (λ x y. alpha_few most (plane.at x y) depth (is.pixels x y)) (omega arith) in
    let P : ℕ → Type 0 = λ n. n ≤ 32768 * greatest_part in
    record {
      both = refl;
      within = All-cons P (sum_by luma_of (pixels_in plane)) (sum_by (λ p. p.a) (pixels_in plane) ∷ []) (omega (arith, luma, few))
          (All-cons P (sum_by (λ p. p.a) (pixels_in plane)) [] (omega (arith, alpha, few)) (All-nil P));
    }

-- ---- what is given for asks of one class

each_sums : (most : ℕ) (sums_of : ℕ → ℕ → Plane → List ℕ) (P : List ℕ → Type 0) (class : ℕ)
    → ((ask : ℕ) (plane : Plane) → IsPlane most plane → area_of plane.extent ≤ greatest_part → P (sums_of class ask plane))
    → (asks : List Ask) (sums : List (List ℕ)) → All (λ ask. ask.class ≡ class) asks → AreSums most sums_of asks sums → (length sums ≡ length asks) × All P sums
each_sums most sums_of P class holds [] [] classes given = (refl, All-nil P)
each_sums most sums_of P class holds [] (s ∷ rest) classes given = elim given [ ]
each_sums most sums_of P class holds (ask ∷ asks) [] classes given = elim given [ ]
each_sums most sums_of P class holds (ask ∷ asks) (s ∷ rest) classes given =
    let later = each_sums most sums_of P class holds asks rest (All-tail (λ (a : Ask). a.class ≡ class) ask asks classes) given.1 in
    let same = given.0.3 ∙ ap (λ (c : ℕ). sums_of c ask.ask given.0.0) (All-head (λ (a : Ask). a.class ≡ class) ask asks classes) in (
      omega (arith, later.0),
      All-cons P s rest (subst P (sym same) (holds ask.ask given.0.0 given.0.1 given.0.2)) later.1,
    )

pub given_counts : (most : ℕ) (at : Moment) (sums : List (List ℕ)) → AreSums most analysis_sums (histogram_asks at) sums → (length sums ≡ 1) × AreCounts (sums_at sums 0)
given_counts most at sums given =
    let all = each_sums most analysis_sums AreCounts 1 (λ ask plane is few. plane_counts plane few) (histogram_asks at) sums
    (All-cons (λ (a : Ask). a.class ≡ 1) (asked 1 at.tick) [] refl (All-nil _)) given in
    let one : length sums ≡ 1 = all.0 in
    (one, all.1 0 [] (omega (arith, one)))

pub given_lights : (most radius : ℕ) (at : Moment) (sums : List (List ℕ)) → IsDepth most → AreSums most analysis_sums (light_asks radius at) sums
    → (length sums ≡ 2 * radius + 1) × All IsLight sums
given_lights most radius at sums depth given =
    let ask : ℕ → Ask = λ i. asked 2 (tick_after at (pos i -ℤ pos radius)) in
    let all = each_sums most analysis_sums IsLight 2 (λ ask plane is few. plane_light most plane depth is few) (light_asks radius at) sums
    (all_over_range (λ (a : Ask). a.class ≡ 2) ask (λ i. refl) (2 * radius + 1) 0) given in
    (all.0 ∙ length-map-range_with_len ask 0 (2 * radius + 1), all.1)

-- ---- light

pub light_within : (light : List ℕ) (k : ℕ) → IsLight light → k < 2 → number_in light k ≤ 13743895347200
light_within light k is l = is.within k 0 (omega (arith, is.both, l))

pub lights_within : (k : ℕ) (lights : List (List ℕ)) (i : ℕ) → k < 2 → All IsLight lights → sum_by (λ light. number_in light k) (take i lights) ≤ i * 13743895347200
lights_within k lights i l are =
    let each = All-weaker IsLight (λ (light : List ℕ). number_in light k ≤ 13743895347200) (λ light is. light_within light k is l) (take i lights) (All-take IsLight i lights are) in
    let some : length (take i lights) ≤ i = omega (arith, length-take i lights) in
    omega (arith, sum_by-le (λ light. number_in light k) 13743895347200 (take i lights) each, mul-le-mul_right 13743895347200 some)

pub lights_more : (k : ℕ) (lights : List (List ℕ)) (i n m : ℕ) → i < length lights → n ≡ sum_by (λ light. number_in light k) (take i lights) → m ≡ number_in (sums_at lights i) k
    → n + m ≡ sum_by (λ light. number_in light k) (take (i + 1) lights)
lights_more k lights i n m l is item =
    ap (λ (u : ℕ). u + m) is ∙ ap (λ (v : ℕ). sum_by (λ light. number_in light k) (take i lights) + v) item
    ∙ sym (sum_by_more (λ (light : List ℕ). number_in light k) lights i [] l)
