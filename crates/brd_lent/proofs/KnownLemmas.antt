-- The word 0 is a NOP.
use Rattle.std.proofs.Common.{◌≡◌, ◌<◌, All, Some, refl, sym, subst, replicate, get_or}
use Rattle.std.proofs.lemmas.List.{get_or-replicate}
use Rattle.brd_isa.specs.declared.instruction.{Insn.Insn, ShiftOp.ShiftOp}
use Rattle.brd_isa.specs.Decoding.{decoded}
use Rattle.brd_entries.specs.Means.{IsNop, OnlyGoesOn}
use Rattle.brd_entries.specs.declared.entry.CodeEntry.{CodeEntry}
use Rattle.brd_lent.specs.Known.{IsRight}

zero-goes-on : OnlyGoesOn (Insn.Shift ShiftOp.Sll 0 0 0)
zero-goes-on = record { on = λ s. refl; slot = refl }

zero-decoded : decoded 0 ≡ Some (Insn.Shift ShiftOp.Sll 0 0 0)
unfolding decoded
zero-decoded = refl

pub zero-is-nop : IsNop (decoded 0)
zero-is-nop = (Insn.Shift ShiftOp.Sll 0 0 0, zero-decoded, zero-goes-on)

pub nops-right : All IsRight (replicate 512 (record { word = 0; entry = CodeEntry.Nop }))
nops-right = λ i d below.
    subst IsRight (sym (get_or-replicate 512 i (record { word = 0; entry = CodeEntry.Nop }) d below)) ∣ zero-is-nop ∣₁
