use Rattle.std.proofs.Common.{◌≡◌, length, subst, sym, ◌∙◌, ap, arith}
use Rattle.brd_mem.specs.Memory.{size_of}
use Rattle.brd_mem.specs.Pages.{with_pages, LieWithin}
use Rattle.brd_mem.proofs.PageLemmas.{below-within, all-put}
use Rattle.brd_mem.proofs.ram.Ram.pages_after.Goals as goal

pub returns-clause-within : goal.returns-clause-within
returns-clause-within c =
    let size : length c.self.inside.bytes.items ≡ size_of c.args.self.now = ap size_of c.self.view_is in
    subst (LieWithin (size_of c.args.base.now)) (sym c.loop-number.invariant)
    (below-within c.loop-number.number c.args.base.now c.args.self.now (size_of c.args.base.now)
    (omega (arith, c.requires.sizes, c.loop-number.auto.number-end, c.len-number-end.ensures, size)))

pub returns-clause-back : goal.returns-clause-back
returns-clause-back c =
    let size : length c.self.inside.bytes.items ≡ size_of c.args.self.now = ap size_of c.self.view_is in
    ap (with_pages c.args.base.now) c.loop-number.invariant
    ∙ all-put c.loop-number.number c.args.base.now c.args.self.now c.requires.sizes c.requires.orders
    (omega (arith, size, c.loop-number.auto.number-end, c.loop-number-test.false, c.self.invariant.0.whole, c.len-number-end.ensures))
