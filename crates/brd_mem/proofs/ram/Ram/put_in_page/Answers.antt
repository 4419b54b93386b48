use Rattle.std.proofs.Common.{◌≡◌, ◌+◌, ◌-◌, ◌≤◌, length, ap, ◌∙◌, sym, arith, rules}
use Rattle.brd_mem.specs.Memory.{size_of}
use Rattle.brd_mem.proofs.MarkLemmas.{part-replaced, put-kept}
use Rattle.brd_mem.proofs.ram.Ram.put_in_page.Goals as goal

pub invariant_of-self : goal.invariant_of-self
invariant_of-self c =
    let size : length c.self.inside.bytes.items ≡ size_of c.args.self.now = ap size_of c.self.view_is in
    let fits : c.args.at + length c.args.bytes.now ≤ length c.self.inside.bytes.items = omega arith in
    let count : c.args.at + length c.args.bytes.now - c.args.at ≡ length c.args.bytes.now = omega arith in
    let was : c.deref_mut.result.now ≡ c.self.inside.bytes.items = c.deref_mut.ensures.value in
    put-kept c.self.inside.bytes.items _ c.self.inside.marks.items _ c.args.at c.args.bytes.now c.self.invariant fits c.requires.some
    c.requires.in_page
    (part-replaced c.self.inside.bytes.items _ _ c.args.bytes.now c.args.at _ _ was c.copy_from_slice.ensures.after count fits
    (sym (ap length was) ∙ c.deref_mut.ensures.len))
    (search rules)
