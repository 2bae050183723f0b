use Rattle.std.proofs.Common.{◌≡◌, length, sym, subst, arith}
use Rattle.std.specs.Vec.Iter.{into_iter_items}
use Rattle.param_stream.specs.Curve.{Curve}
use Rattle.project_model.specs.Effects.{IsParam}
use Rattle.project_model.specs.Ready.{AreReady}
use Rattle.project_model.specs.declared.effect.ParamSchema.{ParamSchema}
use Rattle.project_model.proofs.Joined.{made_more, next_param, split_more}
use Rattle.project_model.proofs.join.params_of.Goals as goal

pub bounds-params-len : goal.bounds-params-len
bounds-params-len c =
    let at : c.len.result ≡ length c.loop-keys.streams.items = omega (arith, c.len.ensures, c.loop-keys.streams.ok) in
    (next_param c.args.base.ticks c.args.params.now c.args.plain c.loop-keys.streams.items c.loop-keys.yielded _ (into_iter_items c.next.new.self) c.len.result c.in-Some.keys
    c.requires.ready c.loop-keys.invariant.0 c.loop-keys.invariant.2 c.in-Some.ensures.steps.0 at).within

pub param_stream-requires-clause-param : goal.param_stream-requires-clause-param
param_stream-requires-clause-param c =
    let at : c.len.result ≡ length c.loop-keys.streams.items = omega (arith, c.len.ensures, c.loop-keys.streams.ok) in
    let here = next_param c.args.base.ticks c.args.params.now c.args.plain c.loop-keys.streams.items c.loop-keys.yielded _ (into_iter_items c.next.new.self) c.len.result c.in-Some.keys
    c.requires.ready c.loop-keys.invariant.0 c.loop-keys.invariant.2 c.in-Some.ensures.steps.0 at in
    subst IsParam (sym c.index-params-len.is) (c.requires.params c.len.result c.index-params-len.result here.within)

pub param_stream-requires-clause-ready : goal.param_stream-requires-clause-ready
param_stream-requires-clause-ready c =
    let at : c.len.result ≡ length c.loop-keys.streams.items = omega (arith, c.len.ensures, c.loop-keys.streams.ok) in
    let here = next_param c.args.base.ticks c.args.params.now c.args.plain c.loop-keys.streams.items c.loop-keys.yielded _ (into_iter_items c.next.new.self) c.len.result c.in-Some.keys
    c.requires.ready c.loop-keys.invariant.0 c.loop-keys.invariant.2 c.in-Some.ensures.steps.0 at in
    subst (λ (param : ParamSchema). AreReady c.args.base.ticks param.least param.most c.in-Some.keys) (sym c.index-params-len.is) (here.ready c.index-params-len.result)

pub loop-keys-preserved : goal.loop-keys-preserved
loop-keys-preserved c =
    let both = made_more (λ (curve : Curve). curve.keys) (λ (curve : Curve). curve.base ≡ c.args.base.ticks) c.loop-keys.streams.items _ _ c.in_ok-param_stream.field-0 c.in-Some.keys
    c.loop-keys.invariant.0 c.loop-keys.invariant.1 c.in_ok-push.ensures.items c.in_ok-param_stream.ensures.keys c.in_ok-param_stream.ensures.base in
    (both.0, both.1, split_more c.loop-keys.yielded _ (into_iter_items c.next.new.self) c.args.plain c.in-Some.keys c.loop-keys.invariant.2 c.in-Some.ensures.steps.0)
