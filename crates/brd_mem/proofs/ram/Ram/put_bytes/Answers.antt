use Rattle.std.proofs.Common.{◌≡◌, ℕ, ◌+◌, ◌-◌, ◌*◌, ◌/◌, ◌≤◌, Bool, true, List, replicate, length, take, drop, length-drop, ap, ◌∙◌, sym, refl, arith}
use Rattle.std.proofs.lemmas.List.{length-take-le, length-replicate}
use Rattle.brd_mem.specs.Memory.{size_of}
use Rattle.brd_mem.specs.Pages.{page_size}
use Rattle.brd_mem.proofs.MarkLemmas.{part-replaced, run-kept}
use Rattle.brd_mem.proofs.ram.Ram.put_bytes.Goals as goal

pub invariant_of-self : goal.invariant_of-self
invariant_of-self c =
    let bytes : List ℕ = c.self.inside.bytes.items in
    let marks : List Bool = c.self.inside.marks.items in
    let first : ℕ = c.args.at / page_size in
    let count : ℕ = c.div_ceil-end.result - first in
    let size : length bytes ≡ size_of c.args.self.now = ap size_of c.self.view_is in
    let fits : c.args.at + length c.args.bytes.now ≤ length bytes = omega arith in
    let wide : c.args.at + length c.args.bytes.now - c.args.at ≡ length c.args.bytes.now = omega arith in
    let was : c.deref_mut.result.now ≡ bytes = c.deref_mut.ensures.value in
    let had : c.deref_mut-2.result.now ≡ marks = c.deref_mut-2.ensures.value in
    let long : length c.deref_mut-2.result.now ≡ length marks = ap length had in
    let within : first + count ≤ length marks = omega (arith, c.div_ceil-end.ensures, c.self.invariant.1.each) in
    let last : c.args.at + length c.args.bytes.now ≤ (first + count) * page_size = omega (arith, c.div_ceil-end.ensures) in
    let room : length (take count (drop first c.deref_mut-2.result.now)) ≡ count =
    length-take-le count (drop first c.deref_mut-2.result.now) (omega (arith, length-drop first c.deref_mut-2.result.now)) in
    let filled : c.fill.new.self ≡ replicate count true = c.fill.ensures.after (λ y is. is) ∙ ap (λ n. replicate n true) room in
    let all : length (replicate count true) ≡ count = length-replicate count true in
    run-kept bytes _ marks _ c.args.at c.args.bytes.now first count c.self.invariant fits refl within last
    (part-replaced bytes _ _ c.args.bytes.now c.args.at _ _ was c.copy_from_slice.ensures.after wide fits (sym (ap length was) ∙ c.deref_mut.ensures.len))
    (part-replaced marks _ _ (replicate count true) first _ _ had filled (sym all) (omega arith) (sym long ∙ c.deref_mut-2.ensures.len))
