use Rattle.std.proofs.Common.{◌≡◌, ◌+◌, ◌<◌, ℕ, List, ◌∷◌, [], ◌++◌, take, length, arith, subst, sym, pos, slice_index_or}
use Rattle.std.proofs.lemmas.List.{take_all}
use Rattle.std.proofs.lemmas.Option.{slice_get-get_or}
use Rattle.rational_time.specs.declared.base.TimeError.TheVariants.{ZeroScale, TimeTooFar, BaseTooLarge}
use Rattle.rational_time.specs.declared.time.Time.{Time}
use Rattle.rational_time.specs.Times.{IsBaseOf, IsFirstWithout, IsLeastCommonMultiple, IsNear}
use Rattle.rational_time.proofs.Measures.{IsMultipleOfBoth}
use Rattle.rational_time.proofs.Bases.{base_of_none, base_of_more, multiple_of_more, taken, refused_iff, accepted_iff}
use Rattle.rational_time.proofs.Multiples.{base_value}
use Rattle.rational_time.proofs.base.base_of.Goals as goal

pub loop-index-init : goal.loop-index-init
loop-index-init c = base_of_none

-- the time at an index
abbrev time_at : List Time → ℕ → Time
time_at times index = slice_index_or times index (record { value = pos 0; scale = 0 })

here : (times : List Time) (index ticks : ℕ) → index < length times → IsBaseOf (take index times) ticks → IsFirstWithout times index (time_at times index)
here times index ticks within base = record { before = (ticks, base); here = slice_get-get_or times index _ within }

up_to : (times : List Time) (index : ℕ) → index < length times → take (index + 1) times ≡ take index times ++ time_at times index ∷ []
up_to times index within = taken times index _ (slice_get-get_or times index _ within)

pub returns-then-time-eq0-clause-refused : goal.returns-then-time-eq0-clause-refused
returns-then-time-eq0-clause-refused c =
    refused_iff c.args.times.now (ZeroScale c.loop-index.index)
    (_, here _ _ _ c.loop-index-test.true c.loop-index.invariant, c.if-time-eq0.true)

pub returns-then-not-near-clause-refused : goal.returns-then-not-near-clause-refused
returns-then-not-near-clause-refused c =
    let far : ¬ IsNear (time_at c.args.times.now c.loop-index.index) = λ near. grind (arith, c.is_near-near.ensures.near.1 near) in
    refused_iff c.args.times.now (TimeTooFar c.loop-index.index)
    (_, here _ _ _ c.loop-index-test.true c.loop-index.invariant, omega arith, omega (arith, far))

pub returns-then-multiple-gt-GREATEST_BASE-clause-refused : goal.returns-then-multiple-gt-GREATEST_BASE-clause-refused
returns-then-multiple-gt-GREATEST_BASE-clause-refused c =
    let times : List Time = c.args.times.now in
    let index : ℕ = c.loop-index.index in
    let e = c.common_multiple-multiple.ensures in
    let both : IsMultipleOfBoth c.loop-index.ticks (time_at times index).scale c.common_multiple-multiple.result = record { first = e.first; second = e.second; least = e.least; positive = e.positive } in
    let more = multiple_of_more (take index times) (time_at times index) _ _ c.loop-index.invariant.multiple both in
    refused_iff times (BaseTooLarge index) (
      time_at times index,
      here times index _ c.loop-index-test.true c.loop-index.invariant,
      omega arith,
      c.is_near-near.ensures.near.0 c.if-not-near.false,
      (
        c.common_multiple-multiple.result,
        subst (λ (part : List Time). IsLeastCommonMultiple part c.common_multiple-multiple.result) (sym (up_to times index c.loop-index-test.true)) more,
        c.if-multiple-gt-GREATEST_BASE.true,
      ),
    )

pub loop-index-preserved : goal.loop-index-preserved
loop-index-preserved c =
    let times : List Time = c.args.times.now in
    let index : ℕ = c.loop-index.index in
    let e = c.common_multiple-multiple.ensures in
    let both : IsMultipleOfBoth c.loop-index.ticks (time_at times index).scale c.common_multiple-multiple.result = record { first = e.first; second = e.second; least = e.least; positive = e.positive } in
    let more = base_of_more (take index times) (time_at times index) _ _ c.loop-index.invariant (omega arith) (c.is_near-near.ensures.near.0 c.if-not-near.false) both c.if-multiple-gt-GREATEST_BASE.false in
    subst (λ (part : List Time). IsBaseOf part c.common_multiple-multiple.result) (sym (up_to times index c.loop-index-test.true)) more

pub returns-clause-refused : goal.returns-clause-refused
returns-clause-refused c =
    let whole : take c.loop-index.index c.args.times.now ≡ c.args.times.now = take_all c.loop-index.index c.args.times.now (omega arith) in
    accepted_iff c.args.times.now c.loop-index.ticks _
    (subst (λ (times : List Time). IsBaseOf times c.loop-index.ticks) whole c.loop-index.invariant)

pub returns-clause-value : goal.returns-clause-value
returns-clause-value c =
    let whole : take c.loop-index.index c.args.times.now ≡ c.args.times.now = take_all c.loop-index.index c.args.times.now (omega arith) in
    base_value c.args.times.now c.loop-index.ticks
    (subst (λ (times : List Time). IsBaseOf times c.loop-index.ticks) whole c.loop-index.invariant)
