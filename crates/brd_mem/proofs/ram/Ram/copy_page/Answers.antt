use Rattle.std.proofs.Common.{◌≡◌, ℕ, ◌*◌, true, false, get_or, length, take, drop, ap, ◌∙◌, sym, arith}
use Rattle.std.proofs.lemmas.List.{get_or_read}
use Rattle.brd_mem.specs.Memory.{Memory, size_of, with_bytes}
use Rattle.brd_mem.specs.Pages.{page_size}
use Rattle.brd_mem.proofs.MarkLemmas.{clear-alike}
use Rattle.brd_mem.proofs.PageLemmas.{page-same}
use Rattle.brd_mem.proofs.ram.Ram.copy_page.Goals as goal

pub returns-else-index-2-clause-is : goal.returns-else-index-2-clause-is
returns-else-index-2-clause-is c =
    let size : length c.self.inside.bytes.items ≡ size_of c.args.self.now = ap size_of c.self.view_is in
    let other : length c.other.inside.bytes.items ≡ size_of c.args.other.now = ap size_of c.other.view_is in
    let at : ℕ = c.args.number * page_size in
    let clear : get_or c.self.inside.marks.items c.args.number true ≡ false =
    sym (get_or_read c.self.inside.marks.items c.args.number c.index.result.now (omega (arith, c.self.invariant.1.each)) c.index.ensures true)
    ∙ c.if-index.false in
    let also : get_or c.other.inside.marks.items c.args.number true ≡ false =
    sym (get_or_read c.other.inside.marks.items c.args.number c.index-else-index.result.now (omega (arith, c.other.invariant.1.each))
    c.index-else-index.ensures true)
    ∙ c.if-index-2.false in
    let alike : take page_size (drop at c.self.inside.bytes.items) ≡ take page_size (drop at c.other.inside.bytes.items) =
    clear-alike c.self.inside.bytes.items c.other.inside.bytes.items c.self.inside.marks.items c.other.inside.marks.items c.args.number
    c.self.invariant.1 c.other.invariant.1 (omega arith) (omega arith) clear also in
    let here : take page_size (drop at c.args.self.now.bytes) ≡ take page_size (drop at c.args.other.now.bytes) =
    ap (λ (memory : Memory). take page_size (drop at memory.bytes)) (sym c.self.view_is)
    ∙ alike
    ∙ ap (λ (memory : Memory). take page_size (drop at memory.bytes)) c.other.view_is in
    sym (page-same c.args.self.now.order at page_size c.args.self.now.bytes c.requires.within)
    ∙ ap (λ page. with_bytes c.args.self.now at page) here
