-- The word 0 is a NOP, whatever the byte order is.
use Rattle.std.proofs.Common.{◌≡◌, ℕ, Some, refl, sym, ap, subst}
use Rattle.brd_isa.specs.declared.instruction.{Insn.Insn, ShiftOp.ShiftOp}
use Rattle.brd_isa.specs.Decoding.{decoded}
use Rattle.brd_word.specs.declared.order.Order.{Order}
use Rattle.brd_mem.specs.Access.{read_raw}
use Rattle.brd_entries.specs.Means.{IsNop, OnlyGoesOn}

zero-goes-on : OnlyGoesOn (Insn.Shift ShiftOp.Sll 0 0 0)
zero-goes-on = record { on = λ s. refl; slot = refl }

zero-decoded : decoded 0 ≡ Some (Insn.Shift ShiftOp.Sll 0 0 0)
unfolding decoded
zero-decoded = refl

pub zero-is-nop : IsNop (decoded 0)
zero-is-nop = (Insn.Shift ShiftOp.Sll 0 0 0, zero-decoded, zero-goes-on)

pub zero-read : (order : Order) (raw : ℕ) → raw ≡ 0 → read_raw order raw ≡ 0
zero-read Order.Big raw zero = ap (read_raw Order.Big) zero
zero-read Order.Little raw zero = ap (read_raw Order.Little) zero

pub zero-reads_nop : (order : Order) → IsNop (decoded (read_raw order 0))
zero-reads_nop order = subst (λ word. IsNop (decoded word)) (sym (zero-read order 0 refl)) zero-is-nop
