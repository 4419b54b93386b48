use Rattle.std.proofs.Common.{◌≡◌, ℕ, ◌*◌, true, false, bytes_eq, get_or, length, ap, ◌∙◌, sym, arith}
use Rattle.std.proofs.lemmas.List.{get_or_read}
use Rattle.brd_mem.specs.Memory.{Memory, memory_of_bytes, size_of, bytes_at}
use Rattle.brd_mem.specs.Pages.{page_size}
use Rattle.brd_mem.proofs.MarkLemmas.{clear-equal}
use Rattle.brd_mem.proofs.ram.Ram.has_alike.Goals as goal

pub returns-then-not-index-2 : goal.returns-then-not-index-2
returns-then-not-index-2 c =
    let size : length c.self.inside.bytes.items ≡ size_of c.args.self.now = ap size_of c.self.view_is in
    let other : length c.base.inside.bytes.items ≡ size_of c.args.base.now = ap size_of c.base.view_is in
    let at : ℕ = c.args.number * page_size in
    let clear : get_or c.self.inside.marks.items c.args.number true ≡ false =
    sym (get_or_read c.self.inside.marks.items c.args.number c.index.result.now (omega (arith, c.self.invariant.1.each)) c.index.ensures true)
    ∙ c.if-not-index.true in
    let also : get_or c.base.inside.marks.items c.args.number true ≡ false =
    sym (get_or_read c.base.inside.marks.items c.args.number c.index-then-not-index.result.now (omega (arith, c.base.invariant.1.each))
    c.index-then-not-index.ensures true)
    ∙ c.if-not-index-2.true in
    clear-equal c.self.inside.bytes.items c.base.inside.bytes.items c.self.inside.marks.items c.base.inside.marks.items c.args.number
    c.self.invariant.1 c.base.invariant.1 (omega arith) (omega arith) clear also
    ∙ ap (λ (memory : Memory). bytes_eq (bytes_at memory at page_size) (bytes_at (memory_of_bytes c.base.inside.order c.base.inside.bytes.items) at page_size)) c.self.view_is
    ∙ ap (λ (memory : Memory). bytes_eq (bytes_at c.args.self.now at page_size) (bytes_at memory at page_size)) c.base.view_is
