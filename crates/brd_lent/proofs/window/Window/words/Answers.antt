use Rattle.std.proofs.Common.{◌∷◌, [], ◌++◌, take, sym, ap, ◌∙◌, arith, length-set}
use Rattle.std.proofs.lemmas.List.{take_all, take_more, take_more_set}
use Rattle.brd_lent.proofs.window.Window.words.Goals as goal

pub loop-i-preserved : goal.loop-i-preserved
loop-i-preserved c =
    let i = c.loop-i.i in
    record {
      so_far =
          take_more_set c.loop-i.words i c.word.result (omega arith)
          ∙ ap (λ them. them ++ c.word.result ∷ []) c.loop-i.invariant.so_far
          ∙ ap (λ w. take i c.args.self.now ++ w ∷ []) c.word.ensures.is
          ∙ sym (take_more c.args.self.now i 0 (omega (arith, c.loop-i-test.true, c.loop-i.invariant.long)));
      long = c.loop-i.invariant.long;
      count = length-set c.loop-i.words i c.word.result ∙ c.loop-i.invariant.count;
    }

pub returns : goal.returns
returns c =
    sym (take_all c.loop-i.i c.loop-i.words (omega arith)) ∙ c.loop-i.invariant.so_far
    ∙ take_all c.loop-i.i c.args.self.now (omega (arith, c.loop-i.invariant.long))
