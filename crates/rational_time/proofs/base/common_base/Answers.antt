use Rattle.std.proofs.Common.{◌≡◌, ◌+◌, ◌<◌, ◌≤◌, ℕ, List, take, length, arith, subst, sym, slice_index_or}
use Rattle.std.proofs.lemmas.List.{take_all}
use Rattle.std.proofs.lemmas.Option.{slice_get-get_or}
use Rattle.rational_time.specs.declared.time.Time.{Time}
use Rattle.rational_time.proofs.Bases.{taken}
use Rattle.rational_time.proofs.Multiples.{IsBase, base_of_first, base_with, base_of_part, one_base}
use Rattle.rational_time.proofs.base.common_base.Goals as goal
use Rattle.std.specs.Int.{◌∣◌}

pub loop-time-init : goal.loop-time-init
loop-time-init c = (base_of_first, omega arith)

-- the multiple of the times up to this one
with_this : (times : List Time) (index base more : ℕ) (time : Time) → index < length times → IsBase (take index times) base → base ∣ more → (slice_index_or times index time).scale ∣ more → ((m : ℕ) → base ∣ m → (slice_index_or times index time).scale ∣ m → more ∣ m) → 1 ≤ more → IsBase (take (index + 1) times) more
with_this times index base more time within h first second least positive =
    let here = slice_get-get_or times index time within in
    subst (λ (part : List Time). IsBase part more) (sym (taken times index _ here)) (base_with (take index times) _ base more h (record { first = first; second = second; least = least; positive = positive }))

pub returns-then-with_time-gt-GREATEST_BASE-clause-base : goal.returns-then-with_time-gt-GREATEST_BASE-clause-base
returns-then-with_time-gt-GREATEST_BASE-clause-base c =
    let e = c.common_multiple-with_time.ensures in
    let more = with_this c.args.times.now c.loop-time.time-index c.loop-time.base.ticks c.common_multiple-with_time.result _ c.loop-time-test.true c.loop-time.invariant.0 e.first e.second e.least e.positive in
    let part = base_of_part c.args.times.now (c.loop-time.time-index + 1) c.common_multiple-with_time.result c.requires more in
    omega (arith, part)

pub returns-then-with_time-gt-GREATEST_BASE-clause-small : goal.returns-then-with_time-gt-GREATEST_BASE-clause-small
returns-then-with_time-gt-GREATEST_BASE-clause-small c = returns-then-with_time-gt-GREATEST_BASE-clause-base c

pub loop-time-preserved : goal.loop-time-preserved
loop-time-preserved c =
    let e = c.common_multiple-with_time.ensures in
    let more = with_this c.args.times.now c.loop-time.time-index c.loop-time.base.ticks c.common_multiple-with_time.result _ c.loop-time-test.true c.loop-time.invariant.0 e.first e.second e.least e.positive in
    (more, c.if-with_time-gt-GREATEST_BASE.false)

pub returns-clause-base : goal.returns-clause-base
returns-clause-base c =
    let whole : take c.loop-time.time-index c.args.times.now ≡ c.args.times.now = take_all c.loop-time.time-index c.args.times.now (omega arith) in
    one_base c.args.times.now c.loop-time.base.ticks c.requires
    (subst (λ (times : List Time). IsBase times c.loop-time.base.ticks) whole c.loop-time.invariant.0).multiple
