use Rattle.std.proofs.Common.{◌≡◌, ◌*◌, true, false, bytes_eq, length, sym, ap, ◌∙◌, refl, arith}
use Rattle.std.proofs.lemmas.Bool.{true≢false}
use Rattle.std.proofs.lemmas.Slice.Eq.{bytes_eq-Decides}
use Rattle.brd_mem.specs.Memory.{size_of}
use Rattle.brd_mem.specs.Pages.{page_size, page_of, with_pages}
use Rattle.brd_mem.proofs.PageLemmas.{all-put}
use Rattle.brd_mem.proofs.ram.Ram.has_same_pages.Goals as goal

pub returns-then-not-has_alike : goal.returns-then-not-has_alike
returns-then-not-has_alike c = (
  λ is. absurd (true≢false (sym is)),
  λ alike.
      let n = c.loop-number.number in
      let pages = ap (λ memory. (page_of memory n).bytes) alike in
      absurd
      (true≢false
      (sym ((bytes_eq-Decides (page_of c.args.self.now n).bytes (page_of c.args.other.now n).bytes).1 pages)
      ∙ sym c.has_alike.ensures
      ∙ c.if-not-has_alike.true)),
)

pub returns : goal.returns
returns c =
    let size : length c.self.inside.bytes.items ≡ size_of c.args.self.now = ap size_of c.self.view_is in (
      λ is.
          sym (all-put c.loop-number.number c.args.other.now c.args.self.now c.requires.sizes c.requires.orders
          (omega (arith, size, c.loop-number.auto.number-end, c.loop-number-test.false, c.self.invariant.0.whole, c.len-number-end.ensures)))
          ∙ ap (with_pages c.args.other.now) c.loop-number.invariant,
      λ alike. refl,
    )
