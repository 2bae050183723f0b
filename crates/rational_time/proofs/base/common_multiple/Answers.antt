use Rattle.std.proofs.Common.{◌≡◌, ◌*◌, ◌/◌, ℕ}
use Rattle.std.proofs.Math.Nat.{pos_of_dvd_of_pos}
use Rattle.rational_time.proofs.Measures.{IsMultipleOfBoth, multiple_from_measure}
use Rattle.rational_time.proofs.base.common_multiple.Goals as goal

pub nonzero_div-a : goal.nonzero_div-a
nonzero_div-a c = pos_of_dvd_of_pos c.common_measure.ensures.first c.requires.first

-- the product is the least common multiple
multiple : (a b g x y : ℕ) → IsMultipleOfBoth a b (a / g * b) → x ≡ a / g → y ≡ b → IsMultipleOfBoth a b (x * y)
multiple a b g x y h e f = rw (e, f) h

both : (c : goal.After-from-2) → IsMultipleOfBoth c.args.a c.args.b (c.from.result * c.from-2.result)
both c =
    multiple _ _ c.common_measure.result _ _
    (multiple_from_measure _ _ _ c.requires.first c.requires.second c.common_measure.ensures)
    c.from.ensures
    c.from-2.ensures

pub returns-clause-first : goal.returns-clause-first
returns-clause-first c = (both c).first

pub returns-clause-least : goal.returns-clause-least
returns-clause-least c = (both c).least

pub returns-clause-positive : goal.returns-clause-positive
returns-clause-positive c = (both c).positive
