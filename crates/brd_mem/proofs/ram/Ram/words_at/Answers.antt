use Rattle.std.proofs.Common.{◌≡◌, ◌+◌, ◌*◌, ◌∷◌, [], ◌++◌, ap, ◌∙◌, sym, arith, length-set}
use Rattle.std.proofs.lemmas.List.{take_more_set}
use Rattle.std.proofs.lemmas.List.FromFn.{map-range_with_len_more}
use Rattle.brd_mem.specs.Memory.{Memory, word_at}
use Rattle.brd_mem.specs.Window.{words_at}
use Rattle.brd_mem.proofs.WindowLemmas.{word-in}
use Rattle.brd_mem.proofs.ram.Ram.words_at.Goals as goal

pub loop-i-preserved : goal.loop-i-preserved
unfolding words_at
loop-i-preserved c =
    let m = c.args.self.now in
    let i = c.loop-i.i in
    let bytes : c.deref.result.now ≡ m.bytes = cc in
    let order : c.self.inside.order ≡ m.order = ap (λ (memory : Memory). memory.order) c.self.view_is in
    let word : c.word_of.result ≡ word_at m (c.args.at + 4 * i) =
    c.word_of.ensures.is ∙ word-in m c.self.inside.order c.deref.result.now c.args.at i order bytes c.loop-i-test.true in
    record {
      so_far =
          take_more_set c.loop-i.words i c.word_of.result (omega (arith, c.loop-i.invariant.count))
          ∙ ap (λ them. them ++ c.word_of.result ∷ []) c.loop-i.invariant.so_far
          ∙ ap (λ w. words_at m c.args.at i ++ w ∷ []) word
          ∙ sym (map-range_with_len_more (λ n. word_at m (c.args.at + 4 * n)) 0 i i (omega arith));
      count = length-set c.loop-i.words i c.word_of.result ∙ c.loop-i.invariant.count;
    }
