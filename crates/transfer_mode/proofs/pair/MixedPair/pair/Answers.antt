use Rattle.transfer_mode.proofs.Pairs.{steps_of_pair}
use Rattle.transfer_mode.proofs.pair.MixedPair.pair.Goals as goal

pub returns : goal.returns
returns g c p p' q q' h h' k k' es ed =
    steps_of_pair _ _ _ g.X.Mix.both _ _ _ _ _ _ _ _ _ _ _ _ _ _ _ p p' q q' c.requires.depth
    record {
      sa_is = c.spread-sa.ensures;
      da_is = c.spread-da.ensures;
      all_is = c.product-all.ensures;
      s_da_is = c.product-s_da.ensures;
      d_sa_is = c.product-d_sa.ensures;
      s_d_is = c.product.ensures;
      both_is = c.both_lanes-both.ensures.value;
      sum_is = c.plus.ensures;
      kept_is = c.less.ensures;
      twice_is = c.with_colours-twice.ensures;
      scaled_is = c.most_of_sum.ensures;
      rest_is = c.less-2.ensures;
      result_is = c.rounded.ensures;
    }
    c.requires.small c.both_lanes-both.ensures.bound h h' k k' es ed
