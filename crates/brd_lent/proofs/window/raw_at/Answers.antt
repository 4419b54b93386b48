use Rattle.std.proofs.Common.{length-set, ◌∙◌}
use Rattle.brd_lent.proofs.WindowLemmas.{word-more}
use Rattle.brd_lent.proofs.window.raw_at.Goals as goal

pub loop-i-preserved : goal.loop-i-preserved
loop-i-preserved c =
    let i = c.loop-i.i in
    record {
      so_far =
          word-more c.args.ram.now c.args.at i c.raw_at.result c.loop-i.raw c.requires.aligned c.requires.inside c.loop-i-test.true
          c.loop-i.invariant.count c.raw_at.ensures c.loop-i.invariant.so_far;
      count = length-set c.loop-i.raw i c.raw_at.result ∙ c.loop-i.invariant.count;
    }
