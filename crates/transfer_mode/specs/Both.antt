-- What each mode makes of two premultiplied colours where both cover: of the alphas sa and da of source and
-- destination and of one colour of each, s and d. It is never more than sa * da. The formulas are this project's own.
use Rattle.std.specs.Prelude.{ℕ, ◌+◌, ◌-◌, ◌*◌, ◌/◌, min, max, nat_le, nat_eq, if◌then◌else◌}

abbrev pub normal : (sa da s d : ℕ) → ℕ
normal sa da s d = s * da

abbrev pub multiply : (sa da s d : ℕ) → ℕ
multiply sa da s d = s * d

abbrev pub screen : (sa da s d : ℕ) → ℕ
screen sa da s d = s * da + d * sa - s * d

abbrev pub darken : (sa da s d : ℕ) → ℕ
darken sa da s d = min (s * da) (d * sa)

abbrev pub lighten : (sa da s d : ℕ) → ℕ
lighten sa da s d = max (s * da) (d * sa)

-- one of the two differences is 0, since none is below it
abbrev pub difference : (sa da s d : ℕ) → ℕ
difference sa da s d = (s * da - d * sa) + (d * sa - s * da)

abbrev pub exclusion : (sa da s d : ℕ) → ℕ
exclusion sa da s d = s * da + d * sa - 2 * s * d

abbrev pub add : (sa da s d : ℕ) → ℕ
add sa da s d = min (sa * da) (s * da + d * sa)

abbrev pub subtract : (sa da s d : ℕ) → ℕ
subtract sa da s d = d * sa - s * da

abbrev pub linear_burn : (sa da s d : ℕ) → ℕ
linear_burn sa da s d = s * da + d * sa - sa * da

abbrev pub hard_light : (sa da s d : ℕ) → ℕ
hard_light sa da s d = if nat_le (2 * s) sa then 2 * s * d else sa * da - 2 * (sa - s) * (da - d)

abbrev pub overlay : (sa da s d : ℕ) → ℕ
overlay sa da s d = if nat_le (2 * d) da then 2 * s * d else sa * da - 2 * (sa - s) * (da - d)

abbrev pub linear_light : (sa da s d : ℕ) → ℕ
linear_light sa da s d = min (sa * da) (d * sa + 2 * s * da - sa * da)

abbrev pub pin_light : (sa da s d : ℕ) → ℕ
pin_light sa da s d =
    if nat_le (2 * s) sa then min (d * sa) (2 * s * da) else max (d * sa) (2 * s * da - sa * da)

abbrev pub hard_mix : (sa da s d : ℕ) → ℕ
hard_mix sa da s d = if nat_le (sa * da) (s * da + d * sa) then sa * da else 0

abbrev pub color_dodge : (sa da s d : ℕ) → ℕ
color_dodge sa da s d =
    if nat_eq s sa
    then (if nat_eq d 0 then 0 else sa * da)
    else min (sa * da) (d * sa * sa / (sa - s))

abbrev pub color_burn : (sa da s d : ℕ) → ℕ
color_burn sa da s d =
    if nat_eq s 0
    then (if nat_eq d da then sa * da else 0)
    else sa * da - min (sa * da) ((da - d) * sa * sa / s)
