use Rattle.std.proofs.Common.{All, ap, subst, ◌∙◌, arith}
use Rattle.std.proofs.lemmas.List.Elements.{All-head, All-tail}
use Rattle.frame_span.specs.Rendered.{IsSeat}
use Rattle.frame_span.proofs.passes.join_all.Goals as goal

pub join-requires-clause-other_own : goal.join-requires-clause-other_own
join-requires-clause-other_own g c κs within =
    (All-head (IsSeat c.args.cache.now) c.in-Some.pass _ (subst (All (IsSeat c.args.cache.now)) c.in-Some.ensures.cases.0 c.left.invariant.seats)).own

pub join-requires-clause-other_clear : goal.join-requires-clause-other_clear
join-requires-clause-other_clear g c κs within =
    (All-head (IsSeat c.args.cache.now) c.in-Some.pass _ (subst (All (IsSeat c.args.cache.now)) c.in-Some.ensures.cases.0 c.left.invariant.seats)).clear

pub left-preserved : goal.left-preserved
left-preserved g c =
    let opening = c.left.invariant.opening in
    record {
      opening = record {
        own = c.join.ensures.own;
        clear = record {
          turns_are = c.join.ensures.turns ∙ opening.clear.turns_are;
          receipts = ap (λ pass. pass.receipts) c.join.ensures.pass ∙ opening.clear.receipts;
        };
        number = ap (λ pass. pass.number) c.join.ensures.pass ∙ opening.number;
        counts = omega (arith, ap (λ pass. pass.made) c.join.ensures.pass, ap (λ pass. pass.joined) c.join.ensures.pass, opening.counts, c.in-Some.ensures.cases.1);
      };
      seats = All-tail (IsSeat c.args.cache.now) c.in-Some.pass _ (subst (All (IsSeat c.args.cache.now)) c.in-Some.ensures.cases.0 c.left.invariant.seats);
    }
