use Rattle.std.proofs.Common.{◌≡◌, ℕ, ◌+◌, ◌*◌, ◌≤◌, length, take, drop, ap, ◌∙◌, arith}
use Rattle.brd_mem.specs.Memory.{Memory, memory_of_bytes, size_of, with_bytes}
use Rattle.brd_mem.specs.Pages.{page_size}
use Rattle.brd_mem.proofs.PageLemmas.{page-put, halves}
use Rattle.brd_mem.proofs.ram.Ram.copy_from.Goals as goal

pub loop-number-preserved : goal.loop-number-preserved
loop-number-preserved c =
    let size : length c.self.inside.bytes.items ≡ size_of c.args.self.now = ap size_of c.self.view_is in
    let xs = c.args.other.now.bytes in
    let ys = c.args.self.now.bytes in
    let at : ℕ = c.loop-number.number * page_size in
    let within : at + page_size ≤ length xs =
    omega (arith, c.requires.sizes, size, c.loop-number.auto.number-end, c.len-number-end.ensures, c.loop-number-test.true) in
    let next : at + page_size ≡ (c.loop-number.number + 1) * page_size = omega arith in
    record {
      is = c.copy_page.ensures.is
          ∙ ap (λ (memory : Memory). with_bytes memory at (take page_size (drop at xs))) c.loop-number.invariant.is
          ∙ page-put c.args.self.now.order at page_size xs ys within
          ∙ ap (λ to. memory_of_bytes c.args.self.now.order (halves to xs ys)) next;
      size = c.copy_page.ensures.same_size ∙ c.loop-number.invariant.size;
    }
