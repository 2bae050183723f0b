-- The laws of the modes.
use Rattle.std.proofs.Common.{◌≡◌, ℕ, ◌+◌, ◌-◌, ◌*◌, ◌/◌, ◌<◌, ◌≤◌, min, max, Bool, true, false, ap, ap₂, subst, ◌∙◌, refl, arith}
use Rattle.std.specs.Prelude.{nat_le, nat_eq, if◌then◌else◌}
use Rattle.std.proofs.Math.Nat.{mul-le-mul_left, mul_comm}
use Rattle.std.proofs.lemmas.Bool.{leb-true}
use Rattle.argb_pixel.specs.Pixel.{Argb, IsPremultiplied, clear, rounded, mul_of, luma_of}
use Rattle.argb_pixel.proofs.Rounded.{rounded_whole}
use Rattle.argb_pixel.proofs.Channels.{depth_pos, same_argb, part_premultiplied, luma_within}
use Rattle.transfer_mode.specs.declared.mode.Mode.{Mode}
use Rattle.transfer_mode.specs.declared.mode.Mode.TheVariants.{Normal, Multiply, Screen, Darken, Lighten, Difference, Exclusion, Add, Subtract, LinearBurn, HardLight, Overlay, LinearLight, PinLight, HardMix, ColorDodge, ColorBurn, StencilAlpha, SilhouetteAlpha, StencilLuma, SilhouetteLuma}
use Rattle.transfer_mode.specs.Both as both
use Rattle.transfer_mode.specs.Transfer.{Rule, Mixes, Keeps, rule_of, blended, mixed, ruled}
use Rattle.transfer_mode.specs.Laws.{MixIsBounded, BlendIsPremultiplied, OpaqueNormalHides, TransparentSourceLeaves, SymmetricModesExchange}
use Rattle.transfer_mode.proofs.Bounds.{both_left, twice_le, channel_within, alpha_within}

-- ---- what a mode makes of two colours

abbrev pub IsBounded : (ℕ → ℕ → ℕ → ℕ → ℕ) → Type 0
IsBounded f = (sa da s d : ℕ) → s ≤ sa → d ≤ da → f sa da s d ≤ sa * da

left_le : (sa da s : ℕ) → s ≤ sa → s * da ≤ sa * da
left_le sa da s h = omega (arith, mul-le-mul_left da h)

right_le : (sa da d : ℕ) → d ≤ da → d * sa ≤ sa * da
right_le sa da d h = omega (arith, mul-le-mul_left sa h)

if_le : (b : Bool) (x y most : ℕ) → x ≤ most → y ≤ most → (if b then x else y) ≤ most
if_le true x y most hx hy = hx
if_le false x y most hx hy = hy

normal_le : IsBounded both.normal
normal_le sa da s d hs hd = left_le sa da s hs

pub multiply_le : IsBounded both.multiply
multiply_le sa da s d hs hd = omega (arith, mul-le-mul_left s hd, left_le sa da s hs)

pub screen_le : IsBounded both.screen
screen_le sa da s d hs hd = omega (arith, both_left sa da s d hs hd)

pub darken_le : IsBounded both.darken
darken_le sa da s d hs hd = omega (arith, left_le sa da s hs)

pub lighten_le : IsBounded both.lighten
lighten_le sa da s d hs hd = omega (arith, left_le sa da s hs, right_le sa da d hd)

pub difference_le : IsBounded both.difference
difference_le sa da s d hs hd = omega (arith, left_le sa da s hs, right_le sa da d hd)

pub exclusion_le : IsBounded both.exclusion
exclusion_le sa da s d hs hd = omega (arith, both_left sa da s d hs hd)

pub add_le : IsBounded both.add
add_le sa da s d hs hd = omega arith

pub subtract_le : IsBounded both.subtract
subtract_le sa da s d hs hd = omega (arith, right_le sa da d hd)

pub linear_burn_le : IsBounded both.linear_burn
linear_burn_le sa da s d hs hd = omega (arith, left_le sa da s hs, right_le sa da d hd)

pub hard_light_le : IsBounded both.hard_light
hard_light_le sa da s d hs hd = by (nat_le (2 * s) sa) refl
  where
    by : (b : Bool) → nat_le (2 * s) sa ≡ b → (if b then 2 * s * d else sa * da - 2 * (sa - s) * (da - d)) ≤ sa * da
    by true e = omega (arith, mul-le-mul_left {m = 2 * s} {n = sa} d (leb-true (2 * s) sa e), right_le sa da d hd)
    by false e = omega arith

pub overlay_le : IsBounded both.overlay
overlay_le sa da s d hs hd = by (nat_le (2 * d) da) refl
  where
    by : (b : Bool) → nat_le (2 * d) da ≡ b → (if b then 2 * s * d else sa * da - 2 * (sa - s) * (da - d)) ≤ sa * da
    by true e = omega (arith, twice_le s d sa da hs (leb-true (2 * d) da e))
    by false e = omega arith

pub linear_light_le : IsBounded both.linear_light
linear_light_le sa da s d hs hd = omega arith

pub pin_light_le : IsBounded both.pin_light
pin_light_le sa da s d hs hd =
    if_le (nat_le (2 * s) sa) (min (d * sa) (2 * s * da)) (max (d * sa) (2 * s * da - sa * da)) (sa * da) (omega (arith, right_le sa da d hd))
    (omega (arith, right_le sa da d hd, left_le sa da s hs))

pub hard_mix_le : IsBounded both.hard_mix
hard_mix_le sa da s d hs hd = if_le (nat_le (sa * da) (s * da + d * sa)) (sa * da) 0 (sa * da) (omega arith) (omega arith)

color_dodge_le : IsBounded both.color_dodge
color_dodge_le sa da s d hs hd =
    if_le (nat_eq s sa) (if nat_eq d 0 then 0 else sa * da) (min (sa * da) (d * sa * sa / (sa - s))) (sa * da)
    (if_le (nat_eq d 0) 0 (sa * da) (sa * da) (omega arith) (omega arith)) (omega arith)

color_burn_le : IsBounded both.color_burn
color_burn_le sa da s d hs hd =
    if_le (nat_eq s 0) (if nat_eq d da then sa * da else 0) (sa * da - min (sa * da) ((da - d) * sa * sa / s)) (sa * da)
    (if_le (nat_eq d da) (sa * da) 0 (sa * da) (omega arith) (omega arith)) (omega arith)

-- a bound holds of the function that a rule names
named : (f both : ℕ → ℕ → ℕ → ℕ → ℕ) → IsBounded f → Mixes f ≡ Mixes both → IsBounded both
named f both bound e = let same : f ≡ both = cc in subst IsBounded same bound

pub mix_bounded : MixIsBounded
mix_bounded mode f sa da s d is hs hd = bound mode is sa da s d hs hd
  where
    bound : (mode : Mode) → rule_of mode ≡ Mixes f → IsBounded f
    bound Normal e = named both.normal f normal_le e
    bound Multiply e = named both.multiply f multiply_le e
    bound Screen e = named both.screen f screen_le e
    bound Darken e = named both.darken f darken_le e
    bound Lighten e = named both.lighten f lighten_le e
    bound Difference e = named both.difference f difference_le e
    bound Exclusion e = named both.exclusion f exclusion_le e
    bound Add e = named both.add f add_le e
    bound Subtract e = named both.subtract f subtract_le e
    bound LinearBurn e = named both.linear_burn f linear_burn_le e
    bound HardLight e = named both.hard_light f hard_light_le e
    bound Overlay e = named both.overlay f overlay_le e
    bound LinearLight e = named both.linear_light f linear_light_le e
    bound PinLight e = named both.pin_light f pin_light_le e
    bound HardMix e = named both.hard_mix f hard_mix_le e
    bound ColorDodge e = named both.color_dodge f color_dodge_le e
    bound ColorBurn e = named both.color_burn f color_burn_le e
    bound StencilAlpha e = absurd cc
    bound SilhouetteAlpha e = absurd cc
    bound StencilLuma e = absurd cc
    bound SilhouetteLuma e = absurd cc

-- ---- what is blended

kept_within : (mode : Mode) (part : ℕ → Argb → ℕ) (most : ℕ) (s : Argb) → rule_of mode ≡ Keeps part → IsPremultiplied most s → part most s ≤ most
kept_within Normal part most s e p = absurd cc
kept_within Multiply part most s e p = absurd cc
kept_within Screen part most s e p = absurd cc
kept_within Darken part most s e p = absurd cc
kept_within Lighten part most s e p = absurd cc
kept_within Difference part most s e p = absurd cc
kept_within Exclusion part most s e p = absurd cc
kept_within Add part most s e p = absurd cc
kept_within Subtract part most s e p = absurd cc
kept_within LinearBurn part most s e p = absurd cc
kept_within HardLight part most s e p = absurd cc
kept_within Overlay part most s e p = absurd cc
kept_within LinearLight part most s e p = absurd cc
kept_within PinLight part most s e p = absurd cc
kept_within HardMix part most s e p = absurd cc
kept_within ColorDodge part most s e p = absurd cc
kept_within ColorBurn part most s e p = absurd cc
kept_within StencilAlpha part most s e p = let is : (λ (m : ℕ) (t : Argb). t.a) ≡ part = cc in subst (λ f. f most s ≤ most) is p.alpha
kept_within SilhouetteAlpha part most s e p = let is : (λ (m : ℕ) (t : Argb). m - t.a) ≡ part = cc in subst (λ f. f most s ≤ most) is (omega arith)
kept_within StencilLuma part most s e p = let is : (λ (m : ℕ) (t : Argb). luma_of t) ≡ part = cc in subst (λ f. f most s ≤ most) is (luma_within most s p)
kept_within SilhouetteLuma part most s e p = let is : (λ (m : ℕ) (t : Argb). m - luma_of t) ≡ part = cc in subst (λ f. f most s ≤ most) is (omega arith)

pub blend_premultiplied : BlendIsPremultiplied
blend_premultiplied most mode s d depth p q = by (rule_of mode) refl
  where
    some : 0 < most
    some = depth_pos most depth

    by : (rule : Rule) → rule_of mode ≡ rule → IsPremultiplied most (ruled most rule s d)
    by (Mixes f) e = record {
      alpha = alpha_within most s.a d.a some p.alpha q.alpha;
      red = channel_within most s.a d.a s.r d.r _ some p.red q.red (mix_bounded mode f s.a d.a s.r d.r e p.red q.red);
      green = channel_within most s.a d.a s.g d.g _ some p.green q.green (mix_bounded mode f s.a d.a s.g d.g e p.green q.green);
      blue = channel_within most s.a d.a s.b d.b _ some p.blue q.blue (mix_bounded mode f s.a d.a s.b d.b e p.blue q.blue);
    }
    by (Keeps part) e = part_premultiplied most most (part most s) d some (kept_within mode part most s e p) q

pub opaque_hides : OpaqueNormalHides
opaque_hides most s d depth p opaque =
    same_argb _ _ _ _ _ _ _ _ (channel s.a d.a) (channel s.r d.r) (channel s.g d.g) (channel s.b d.b)
  where
    channel : (c k : ℕ) → blended most s.a d.a c k (c * d.a) ≡ c
    channel c k =
        let left : most - s.a ≡ 0 = omega arith in
        let none : k * (most - s.a) ≡ 0 = ap (λ t. k * t) left ∙ omega arith in
        let parts : c * (most - d.a) + c * d.a ≡ c * most = omega (arith, ap (λ t. c * t) (let e : (most - d.a) + d.a ≡ most = omega (arith, p.alpha) in e)) in
        ap (λ x. rounded x most) (let e : c * (most - d.a) + k * (most - s.a) + c * d.a ≡ c * most = omega (arith, none, parts) in e)
        ∙ rounded_whole c most (depth_pos most depth)

-- ---- source and destination exchanged

abbrev IsSymmetric : (ℕ → ℕ → ℕ → ℕ → ℕ) → Type 0
IsSymmetric f = (sa da s d : ℕ) → f sa da s d ≡ f da sa d s

exchanged : (most : ℕ) (f : ℕ → ℕ → ℕ → ℕ → ℕ) (s d : Argb) → IsSymmetric f → mixed most f s d ≡ mixed most f d s
exchanged most f s d same =
    same_argb _ _ _ _ _ _ _ _ (channel s.a d.a (s.a * d.a) (d.a * s.a) (mul_comm s.a d.a)) (channel s.r d.r _ _ (same s.a d.a s.r d.r))
    (channel s.g d.g _ _ (same s.a d.a s.g d.g)) (channel s.b d.b _ _ (same s.a d.a s.b d.b))
  where
    channel : (c k x y : ℕ) → x ≡ y → blended most s.a d.a c k x ≡ blended most d.a s.a k c y
    channel c k x y e = ap (λ t. rounded t most) (omega (arith, e))

pub symmetric : SymmetricModesExchange
symmetric most Multiply s d e = exchanged most both.multiply s d λ sa da x y. mul_comm x y
symmetric most Screen s d e = exchanged most both.screen s d λ sa da x y. omega arith
symmetric most Darken s d e = exchanged most both.darken s d λ sa da x y. omega arith
symmetric most Lighten s d e = exchanged most both.lighten s d λ sa da x y. omega arith
symmetric most Difference s d e = exchanged most both.difference s d λ sa da x y. omega arith
symmetric most Exclusion s d e = exchanged most both.exclusion s d λ sa da x y. omega arith
symmetric most Add s d e = exchanged most both.add s d λ sa da x y. omega arith
symmetric most LinearBurn s d e = exchanged most both.linear_burn s d λ sa da x y. omega arith
symmetric most HardMix s d e = exchanged most both.hard_mix s d λ sa da x y.
    ap₂ (λ t u. if nat_le t u then t else 0) (mul_comm sa da) (let m : x * da + y * sa ≡ y * sa + x * da = omega arith in m)
symmetric most Normal s d e = absurd cc
symmetric most Subtract s d e = absurd cc
symmetric most HardLight s d e = absurd cc
symmetric most Overlay s d e = absurd cc
symmetric most LinearLight s d e = absurd cc
symmetric most PinLight s d e = absurd cc
symmetric most ColorDodge s d e = absurd cc
symmetric most ColorBurn s d e = absurd cc
symmetric most StencilAlpha s d e = absurd cc
symmetric most SilhouetteAlpha s d e = absurd cc
symmetric most StencilLuma s d e = absurd cc
symmetric most SilhouetteLuma s d e = absurd cc

-- ---- a transparent source

-- what a mode makes of no source
abbrev IsNothing : (ℕ → ℕ → ℕ → ℕ → ℕ) → Type 0
IsNothing f = (da d : ℕ) → f 0 da 0 d ≡ 0

mixed_clear : (most : ℕ) (f : ℕ → ℕ → ℕ → ℕ → ℕ) (d : Argb) → 0 < most → IsNothing f → mixed most f clear d ≡ d
mixed_clear most f d some nothing =
    same_argb _ _ _ _ _ _ _ _ (channel d.a (0 * d.a) (omega arith)) (channel d.r _ (nothing d.a d.r)) (channel d.g _ (nothing d.a d.g)) (channel d.b _ (nothing d.a d.b))
  where
    channel : (k both : ℕ) → both ≡ 0 → blended most 0 d.a 0 k both ≡ k
    channel k both none =
        let all : most - 0 ≡ most = omega arith in
        let whole : 0 * (most - d.a) + k * (most - 0) + both ≡ k * most = omega (arith, none, ap (λ t. k * t) all) in
        ap (λ x. rounded x most) whole ∙ rounded_whole k most some

kept_whole : (most m : ℕ) (d : Argb) → 0 < most → m ≡ most → mul_of most d m ≡ d
kept_whole most m d some e =
    same_argb _ _ _ _ _ _ _ _ (channel d.a) (channel d.r) (channel d.g) (channel d.b)
  where
    channel : (k : ℕ) → rounded (k * m) most ≡ k
    channel k = ap (λ t. rounded (k * t) most) e ∙ rounded_whole k most some

if_zero : (b : Bool) (x y : ℕ) → x ≡ 0 → y ≡ 0 → (if b then x else y) ≡ 0
if_zero true x y hx hy = hx
if_zero false x y hx hy = hy

pub transparent_leaves : TransparentSourceLeaves
transparent_leaves most Normal d depth e = mixed_clear most both.normal d (depth_pos most depth) λ da k. omega arith
transparent_leaves most Multiply d depth e = mixed_clear most both.multiply d (depth_pos most depth) λ da k. omega arith
transparent_leaves most Screen d depth e = mixed_clear most both.screen d (depth_pos most depth) λ da k. omega arith
transparent_leaves most Darken d depth e = mixed_clear most both.darken d (depth_pos most depth) λ da k. omega arith
transparent_leaves most Lighten d depth e = mixed_clear most both.lighten d (depth_pos most depth) λ da k. omega arith
transparent_leaves most Difference d depth e = mixed_clear most both.difference d (depth_pos most depth) λ da k. omega arith
transparent_leaves most Exclusion d depth e = mixed_clear most both.exclusion d (depth_pos most depth) λ da k. omega arith
transparent_leaves most Add d depth e = mixed_clear most both.add d (depth_pos most depth) λ da k. omega arith
transparent_leaves most Subtract d depth e = mixed_clear most both.subtract d (depth_pos most depth) λ da k. omega arith
transparent_leaves most LinearBurn d depth e = mixed_clear most both.linear_burn d (depth_pos most depth) λ da k. omega arith
transparent_leaves most HardLight d depth e = mixed_clear most both.hard_light d (depth_pos most depth) λ da k. omega arith
transparent_leaves most LinearLight d depth e = mixed_clear most both.linear_light d (depth_pos most depth) λ da k. omega arith
transparent_leaves most PinLight d depth e = mixed_clear most both.pin_light d (depth_pos most depth) λ da k. omega arith
transparent_leaves most Overlay d depth e =
    mixed_clear most both.overlay d (depth_pos most depth) λ da k. if_zero (nat_le (2 * k) da) (2 * 0 * k) (0 * da - 2 * (0 - 0) * (da - k)) (omega arith) (omega arith)
transparent_leaves most HardMix d depth e =
    mixed_clear most both.hard_mix d (depth_pos most depth) λ da k. if_zero (nat_le (0 * da) (0 * da + k * 0)) (0 * da) 0 (omega arith) refl
transparent_leaves most ColorDodge d depth e =
    mixed_clear most both.color_dodge d (depth_pos most depth) λ da k. if_zero (nat_eq k 0) 0 (0 * da) refl (omega arith)
transparent_leaves most ColorBurn d depth e =
    mixed_clear most both.color_burn d (depth_pos most depth) λ da k. if_zero (nat_eq k da) (0 * da) 0 (omega arith) refl
transparent_leaves most StencilAlpha d depth e = absurd cc
transparent_leaves most SilhouetteAlpha d depth e = kept_whole most (most - 0) d (depth_pos most depth) (omega arith)
transparent_leaves most StencilLuma d depth e = absurd cc
transparent_leaves most SilhouetteLuma d depth e = kept_whole most (most - 0) d (depth_pos most depth) (omega arith)
