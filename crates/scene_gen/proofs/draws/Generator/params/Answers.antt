use Rattle.std.proofs.Common.{◌≡◌, ℕ, ◌+◌, ◌<◌, length, drop, List, ◌∷◌, get_or, add-one, drop-cons, pos}
use Rattle.std.proofs.lemmas.List.{drop_all}
use Rattle.std.proofs.lemmas.List.Elements.{All-push, All-same}
use Rattle.scene_gen.specs.Streams.{IsMade}
use Rattle.scene_gen.specs.declared.kinds.ValueRange.{ValueRange}
use Rattle.scene_gen.proofs.Params.{param_more, params_whole}
use Rattle.scene_gen.proofs.draws.Generator.params.Goals as goal

-- the range that comes next
next_range : (ranges : List ValueRange) (i : ℕ) (d : ValueRange) → i < length ranges → drop i ranges ≡ get_or ranges i d ∷ drop (i + 1) ranges
next_range ranges i d h = rw (add-one, drop-cons ranges i d)

pub loop-range-preserved : goal.loop-range-preserved
loop-range-preserved c =
    let grown = c.in_ok-push.ensures.items in (
      param_more c.args.ranges.now _ _ _ c.args.self.now.state c.loop-range.self.state c.param.new.self.state c.loop-range.streams.items c.push.new.self.items c.in_ok-param.field-0
          (next_range c.args.ranges.now c.loop-range.range-index (record { least = pos 0; most = pos 0 }) c.loop-range-test.true)
          c.loop-range.invariant.0 c.in_ok-param.ensures.keys c.in_ok-param.ensures.state grown,
      All-same IsMade c.push.new.self.items _ grown (All-push IsMade c.loop-range.streams.items c.in_ok-param.field-0 c.loop-range.invariant.1 c.in_ok-param.ensures.made),
    )

pub returns-clause-keys : goal.returns-clause-keys
returns-clause-keys c =
    (params_whole c.args.ranges.now _ c.args.self.now.state c.loop-range.self.state c.loop-range.streams.items
    (drop_all c.loop-range.range-index c.args.ranges.now c.loop-range-test.false) c.loop-range.invariant.0).0

pub returns-clause-state : goal.returns-clause-state
returns-clause-state c =
    (params_whole c.args.ranges.now _ c.args.self.now.state c.loop-range.self.state c.loop-range.streams.items
    (drop_all c.loop-range.range-index c.args.ranges.now c.loop-range-test.false) c.loop-range.invariant.0).1
