use Rattle.std.proofs.Common.{◌≡◌, ℕ, ◌+◌, ◌-◌, ◌<◌, length, ℤ, to_z, of_z, w64, arith, subst, sym, ap, ◌∙◌}
use Rattle.std.proofs.lemmas.Int.{ints}
use Rattle.param_stream.specs.declared.key.Keyframe.{Keyframe}
use Rattle.param_stream.specs.Curve.{IsBetween, key_at, key_tick}
use Rattle.param_stream.proofs.Values.{IsReached, ticks_rise, value_none_reached, value_some_reached, value_all_reached}
use Rattle.param_stream.proofs.Kept.{reached_of, reads_key, reads_tick, before_end, between_read, seen, seen_within}
use Rattle.param_stream.proofs.stream.Stream.at.Goals as goal

pub count_reached-reached-requires : goal.count_reached-reached-requires
count_reached-reached-requires c =
    ticks_rise c.self.inside.base.ticks c.self.inside.keys.items c.deref.result.now (c.deref.ensures.value ∙ c.self.invariant.ticks) c.self.invariant.sound.rising

pub returns-then-reached-eq0-clause-value : goal.returns-then-reached-eq0-clause-value
returns-then-reached-eq0-clause-value c =
    let base : ℕ = c.self.inside.base.ticks in
    let some : 0 < length c.self.inside.keys.items = c.self.invariant.sound.some in
    let key = reads_key c.self.inside 0 c.index.result.now c.self.invariant some c.index.ensures in
    let held : to_z w64 (of_z w64 c.index.result.now.value) ≡ c.index.result.now.value = omega (arith, ints, key.bound) in
    let e = c.count_reached-reached.ensures in
    let reached = reached_of c.self.inside c.deref.result.now c.args.tick.0 (to_z w64 (of_z w64 c.args.tick.0)) c.count_reached-reached.result c.self.invariant c.deref.ensures.value (omega (arith, ints)) e.within e.below e.above in
    let none : IsReached base c.self.inside.keys.items c.args.tick.0 0 = rw c.if-reached-eq0.true at reached in
    seen c.self.inside c.args.self.now c.args.tick.0 _ c.self.view_is
    (held ∙ ap (λ (k : Keyframe). k.value) key.is ∙ sym (value_none_reached base c.self.inside.keys.items c.args.tick.0 some none))

pub returns-then-reached-len-clause-value : goal.returns-then-reached-len-clause-value
returns-then-reached-len-clause-value c =
    let base : ℕ = c.self.inside.base.ticks in
    let d : ℕ = c.count_reached-reached.result - 1 in
    let last : d + 1 ≡ length c.self.inside.keys.items = omega arith in
    let next : c.count_reached-reached.result ≡ d + 1 = omega arith in
    let key = reads_key c.self.inside d c.index-2.result.now c.self.invariant (omega arith) c.index-2.ensures in
    let held : to_z w64 (of_z w64 c.index-2.result.now.value) ≡ c.index-2.result.now.value = omega (arith, ints, key.bound) in
    let e = c.count_reached-reached.ensures in
    let reached = reached_of c.self.inside c.deref.result.now c.args.tick.0 (to_z w64 (of_z w64 c.args.tick.0)) c.count_reached-reached.result c.self.invariant c.deref.ensures.value (omega (arith, ints)) e.within e.below e.above in
    let all : IsReached base c.self.inside.keys.items c.args.tick.0 (d + 1) = subst (λ (n : ℕ). IsReached base c.self.inside.keys.items c.args.tick.0 n) next reached in
    seen c.self.inside c.args.self.now c.args.tick.0 _ c.self.view_is
    (held ∙ ap (λ (k : Keyframe). k.value) key.is ∙ sym (value_all_reached base c.self.inside.keys.items c.args.tick.0 d all last))

pub value_between-requires-clause-from : goal.value_between-requires-clause-from
value_between-requires-clause-from c =
    let e = c.count_reached-reached.ensures in
    let count : ℕ = c.count_reached-reached.result in
    let inside : count < length c.self.inside.keys.items = before_end c.self.inside c.deref.result.now count c.len.result c.self.invariant c.deref.ensures.value e.within (omega arith) c.if-reached-len.false in
    let key = reads_key c.self.inside (count - 1) c.index-2.result.now c.self.invariant (omega arith) c.index-2.ensures in
    key.bound

pub value_between-requires-clause-to : goal.value_between-requires-clause-to
value_between-requires-clause-to c =
    let e = c.count_reached-reached.ensures in
    let count : ℕ = c.count_reached-reached.result in
    let inside : count < length c.self.inside.keys.items = before_end c.self.inside c.deref.result.now count c.len.result c.self.invariant c.deref.ensures.value e.within (omega arith) c.if-reached-len.false in
    let next = reads_key c.self.inside count c.index-3.result.now c.self.invariant inside c.index-3.ensures in
    next.bound

pub value_between-requires-clause-start : goal.value_between-requires-clause-start
value_between-requires-clause-start c =
    let e = c.count_reached-reached.ensures in
    let count : ℕ = c.count_reached-reached.result in
    let inside : count < length c.self.inside.keys.items = before_end c.self.inside c.deref.result.now count c.len.result c.self.invariant c.deref.ensures.value e.within (omega arith) c.if-reached-len.false in
    let start = reads_tick c.self.inside (count - 1) c.index-4.result.now c.self.invariant (omega arith) c.index-4.ensures in
    omega (arith, ints, start.near)

pub value_between-requires-clause-end : goal.value_between-requires-clause-end
value_between-requires-clause-end c =
    let e = c.count_reached-reached.ensures in
    let count : ℕ = c.count_reached-reached.result in
    let inside : count < length c.self.inside.keys.items = before_end c.self.inside c.deref.result.now count c.len.result c.self.invariant c.deref.ensures.value e.within (omega arith) c.if-reached-len.false in
    let end = reads_tick c.self.inside count c.index-5.result.now c.self.invariant inside c.index-5.ensures in
    omega (arith, ints, end.near)

pub value_between-requires-clause-reached : goal.value_between-requires-clause-reached
value_between-requires-clause-reached c =
    let e = c.count_reached-reached.ensures in
    let count : ℕ = c.count_reached-reached.result in
    let inside : count < length c.self.inside.keys.items = before_end c.self.inside c.deref.result.now count c.len.result c.self.invariant c.deref.ensures.value e.within (omega arith) c.if-reached-len.false in
    let start = reads_tick c.self.inside (count - 1) c.index-4.result.now c.self.invariant (omega arith) c.index-4.ensures in
    let reached = reached_of c.self.inside c.deref.result.now c.args.tick.0 (to_z w64 (of_z w64 c.args.tick.0)) count c.self.invariant c.deref.ensures.value (omega (arith, ints)) e.within e.below e.above in
    omega (arith, ints, start.is, start.near, reached.below (count - 1) (omega arith))

pub value_between-requires-clause-before : goal.value_between-requires-clause-before
value_between-requires-clause-before c =
    let e = c.count_reached-reached.ensures in
    let count : ℕ = c.count_reached-reached.result in
    let inside : count < length c.self.inside.keys.items = before_end c.self.inside c.deref.result.now count c.len.result c.self.invariant c.deref.ensures.value e.within (omega arith) c.if-reached-len.false in
    let end = reads_tick c.self.inside count c.index-5.result.now c.self.invariant inside c.index-5.ensures in
    let reached = reached_of c.self.inside c.deref.result.now c.args.tick.0 (to_z w64 (of_z w64 c.args.tick.0)) count c.self.invariant c.deref.ensures.value (omega (arith, ints)) e.within e.below e.above in
    omega (arith, ints, end.is, end.near, reached.above count (omega arith) inside)

pub returns-clause-value : goal.returns-clause-value
returns-clause-value c =
    let e = c.count_reached-reached.ensures in
    let count : ℕ = c.count_reached-reached.result in
    let inside : count < length c.self.inside.keys.items = before_end c.self.inside c.deref.result.now count c.len.result c.self.invariant c.deref.ensures.value e.within (omega arith) c.if-reached-len.false in
    let start = reads_tick c.self.inside (count - 1) c.index-4.result.now c.self.invariant (omega arith) c.index-4.ensures in
    let end = reads_tick c.self.inside count c.index-5.result.now c.self.invariant inside c.index-5.ensures in
    let key = reads_key c.self.inside (count - 1) c.index-2.result.now c.self.invariant (omega arith) c.index-2.ensures in
    let next = reads_key c.self.inside count c.index-3.result.now c.self.invariant inside c.index-3.ensures in
    let reached = reached_of c.self.inside c.deref.result.now c.args.tick.0 (to_z w64 (of_z w64 c.args.tick.0)) count c.self.invariant c.deref.ensures.value (omega (arith, ints)) e.within e.below e.above in
    let base : ℕ = c.self.inside.base.ticks in
    let d : ℕ = count - 1 in
    let more : count ≡ d + 1 = omega arith in
    let at_next : key_at c.self.inside.keys.items count ≡ key_at c.self.inside.keys.items (d + 1) = ap (λ (n : ℕ). key_at c.self.inside.keys.items n) more in
    let some : IsReached base c.self.inside.keys.items c.args.tick.0 (d + 1) = subst (λ (n : ℕ). IsReached base c.self.inside.keys.items c.args.tick.0 n) more reached in
    let held : to_z w64 (of_z w64 c.value_between.result) ≡ c.value_between.result = omega (arith, ints) in
    let start_held : to_z w64 (of_z w64 c.index-4.result.now) ≡ c.index-4.result.now = omega (arith, ints, start.near) in
    let end_held : to_z w64 (of_z w64 c.index-5.result.now) ≡ c.index-5.result.now = omega (arith, ints, end.near) in
    let read =
    between_read base (key_at c.self.inside.keys.items d) (key_at c.self.inside.keys.items (d + 1)) c.index-2.result.now c.index-3.result.now c.args.tick.0 (to_z w64 (of_z w64 c.args.tick.0)) (to_z w64 (of_z w64 c.index-4.result.now)) (to_z w64 (of_z w64 c.index-5.result.now)) c.value_between.result
    key.is (next.is ∙ at_next) (start_held ∙ start.is) (end_held ∙ end.is ∙ ap (λ (k : Keyframe). key_tick base k) at_next) (omega (arith, ints)) c.value_between.ensures in
    seen c.self.inside c.args.self.now c.args.tick.0 _ c.self.view_is
    (held ∙ read ∙ sym (value_some_reached base c.self.inside.keys.items c.args.tick.0 d some (omega arith)))

pub returns-clause-within : goal.returns-clause-within
returns-clause-within c =
    subst
    (λ (z : ℤ). IsBetween c.args.self.now.least c.args.self.now.most z)
    (sym (returns-clause-value c))
    (seen_within c.self.inside c.args.self.now c.args.tick.0 c.self.invariant c.self.view_is)
