-- What an entry does is a lent step.
use Rattle.std.proofs.Common.{◌≡◌, ℕ, Bool, true, false, ◌&&◌, if◌then◌else◌, not, Option, None, Some, refl, sym, ap, ◌∙◌, subst}
use Rattle.std.specs.Prelude.{◌==◌, nat_lt, bit_and, bit_or, bit_xor}
use Rattle.std.proofs.Math.Logic.{∥∥₁_elim}
use Rattle.std.proofs.Props.{props}
use Rattle.brd_isa.specs.declared.instruction.{Insn.Insn, ShiftOp.ShiftOp, ShiftVariableOp.ShiftVariableOp, RegisterOp.RegisterOp, ProductOp.ProductOp}
use Rattle.brd_isa.specs.declared.instruction.{AccumulateOp.AccumulateOp, CountOp.CountOp, MoveFromOp.MoveFromOp, MoveToOp.MoveToOp, ImmediateOp.ImmediateOp}
use Rattle.brd_isa.specs.Decoding.{decoded}
use Rattle.brd_exec.specs.State.{State, read, advanced, with_register}
use Rattle.brd_exec.specs.Values.{sum_of, one_if, is_below}
use Rattle.brd_exec.specs.Action.{local_context, local_meaning}
use Rattle.brd_exec.specs.Step.{has_slot}
use Rattle.brd_exec.specs.Lent.{lent_insn, lent_word, DoesLent}
use Rattle.brd_entries.specs.declared.entry.CodeEntry.{CodeEntry}
use Rattle.brd_entries.specs.Means.{Means}
use Rattle.brd_lent.specs.Plans.{planned, Acts}

-- a plan for what a word is decoded to
abbrev pub Stands : Option State → Option Insn → State → Type 0
Stands None found s = Unit {0}
Stands (Some after) found s = lent_insn s found ≡ Some after

straight-on : (slot branch : Bool) (o : Option State) → branch ≡ false → ◌≡◌ {A = Option State} (if slot && branch then None else o) o
straight-on slot true o is = absurd (cc)
straight-on true false o is = refl
straight-on false false o is = refl

lent-local : (insn : Insn) (s after : State) (found : Option Insn) → found ≡ Some insn → local_meaning insn s ≡ Some after → has_slot insn ≡ false →
    lent_insn s found ≡ Some after
lent-local insn s after found is means straight =
    ap (lent_insn s) is ∙ straight-on s.slot (has_slot insn) (local_meaning insn s) straight ∙ means

stands : (entry : CodeEntry) (found : Option Insn) (s : State) → Means entry found → Stands (planned entry s) found s
stands CodeEntry.Slow found s is = tt
stands CodeEntry.Nop found s is = lent-local is.0 s (advanced s) found is.1 (ap local_context (is.2.on s)) is.2.slot
stands (CodeEntry.Sll rd rt sa) found s is =
    lent-local (Insn.Shift ShiftOp.Sll rd rt sa) s _ found is refl refl
stands (CodeEntry.Srl rd rt sa) found s is =
    lent-local (Insn.Shift ShiftOp.Srl rd rt sa) s _ found is refl refl
stands (CodeEntry.Sra rd rt sa) found s is =
    lent-local (Insn.Shift ShiftOp.Sra rd rt sa) s _ found is refl refl
stands (CodeEntry.Sllv rd rt rs) found s is =
    lent-local (Insn.ShiftVariable ShiftVariableOp.Sllv rd rt rs) s _ found is refl refl
stands (CodeEntry.Srlv rd rt rs) found s is =
    lent-local (Insn.ShiftVariable ShiftVariableOp.Srlv rd rt rs) s _ found is refl refl
stands (CodeEntry.Srav rd rt rs) found s is =
    lent-local (Insn.ShiftVariable ShiftVariableOp.Srav rd rt rs) s _ found is refl refl
stands (CodeEntry.Movz rd rs rt) found s is =
    lent-local (Insn.ThreeRegisters RegisterOp.Movz rd rs rt) s _ found is refl refl
stands (CodeEntry.Movn rd rs rt) found s is =
    lent-local (Insn.ThreeRegisters RegisterOp.Movn rd rs rt) s _ found is refl refl
stands (CodeEntry.Add rd rs rt) found s is = tt
stands (CodeEntry.Addu rd rs rt) found s is =
    lent-local (Insn.ThreeRegisters RegisterOp.Addu rd rs rt) s _ found is refl refl
stands (CodeEntry.Sub rd rs rt) found s is = tt
stands (CodeEntry.Subu rd rs rt) found s is =
    lent-local (Insn.ThreeRegisters RegisterOp.Subu rd rs rt) s _ found is refl refl
stands (CodeEntry.And rd rs rt) found s is =
    lent-local (Insn.ThreeRegisters RegisterOp.And rd rs rt) s _ found is refl refl
stands (CodeEntry.Or rd rs rt) found s is =
    lent-local (Insn.ThreeRegisters RegisterOp.Or rd rs rt) s _ found is refl refl
stands (CodeEntry.Xor rd rs rt) found s is =
    lent-local (Insn.ThreeRegisters RegisterOp.Xor rd rs rt) s _ found is refl refl
stands (CodeEntry.Nor rd rs rt) found s is =
    lent-local (Insn.ThreeRegisters RegisterOp.Nor rd rs rt) s _ found is refl refl
stands (CodeEntry.Slt rd rs rt) found s is =
    lent-local (Insn.ThreeRegisters RegisterOp.Slt rd rs rt) s _ found is refl refl
stands (CodeEntry.Sltu rd rs rt) found s is =
    lent-local (Insn.ThreeRegisters RegisterOp.Sltu rd rs rt) s _ found is refl refl
stands (CodeEntry.Mul rd rs rt) found s is =
    lent-local (Insn.Multiply rd rs rt) s _ found is refl refl
stands (CodeEntry.Addi rt rs immediate) found s is = tt
stands (CodeEntry.Addiu rt rs immediate) found s is =
    lent-local (Insn.WithImmediate ImmediateOp.Addiu rt rs is.0) s _ found is.1 (ap (λ x. Some (with_register s rt (sum_of (read s rs) x))) (sym is.2)) refl
stands (CodeEntry.Slti rt rs immediate) found s is =
    lent-local (Insn.WithImmediate ImmediateOp.Slti rt rs is.0) s _ found is.1 (ap (λ x. Some (with_register s rt (one_if (is_below (read s rs) x)))) (sym is.2)) refl
stands (CodeEntry.Sltiu rt rs immediate) found s is =
    lent-local (Insn.WithImmediate ImmediateOp.Sltiu rt rs is.0) s _ found is.1 (ap (λ x. Some (with_register s rt (one_if (nat_lt (read s rs) x)))) (sym is.2)) refl
stands (CodeEntry.Andi rt rs immediate) found s is =
    lent-local (Insn.WithImmediate ImmediateOp.Andi rt rs immediate) s _ found is refl refl
stands (CodeEntry.Ori rt rs immediate) found s is =
    lent-local (Insn.WithImmediate ImmediateOp.Ori rt rs immediate) s _ found is refl refl
stands (CodeEntry.Xori rt rs immediate) found s is =
    lent-local (Insn.WithImmediate ImmediateOp.Xori rt rs immediate) s _ found is refl refl
stands (CodeEntry.Lui rt word) found s is =
    lent-local (Insn.LoadUpper rt is.0) s _ found is.1 (ap (λ x. Some (with_register s rt (x))) (sym is.2)) refl
stands (CodeEntry.Mfhi rd) found s is =
    lent-local (Insn.MoveFrom MoveFromOp.Mfhi rd) s _ found is refl refl
stands (CodeEntry.Mflo rd) found s is =
    lent-local (Insn.MoveFrom MoveFromOp.Mflo rd) s _ found is refl refl
stands (CodeEntry.Mthi rs) found s is =
    lent-local (Insn.MoveTo MoveToOp.Mthi rs) s _ found is refl refl
stands (CodeEntry.Mtlo rs) found s is =
    lent-local (Insn.MoveTo MoveToOp.Mtlo rs) s _ found is refl refl
stands (CodeEntry.Mult rs rt) found s is =
    lent-local (Insn.Product ProductOp.Mult rs rt) s _ found is refl refl
stands (CodeEntry.Multu rs rt) found s is =
    lent-local (Insn.Product ProductOp.Multu rs rt) s _ found is refl refl
stands (CodeEntry.Div rs rt) found s is =
    lent-local (Insn.Product ProductOp.Div rs rt) s _ found is refl refl
stands (CodeEntry.Divu rs rt) found s is =
    lent-local (Insn.Product ProductOp.Divu rs rt) s _ found is refl refl
stands (CodeEntry.Madd rs rt) found s is =
    lent-local (Insn.Accumulate AccumulateOp.Madd rs rt) s _ found is refl refl
stands (CodeEntry.Maddu rs rt) found s is =
    lent-local (Insn.Accumulate AccumulateOp.Maddu rs rt) s _ found is refl refl
stands (CodeEntry.Msub rs rt) found s is =
    lent-local (Insn.Accumulate AccumulateOp.Msub rs rt) s _ found is refl refl
stands (CodeEntry.Msubu rs rt) found s is =
    lent-local (Insn.Accumulate AccumulateOp.Msubu rs rt) s _ found is refl refl
stands (CodeEntry.Clz rd rs) found s is =
    lent-local (Insn.Count CountOp.Clz rd rs) s _ found is refl refl
stands (CodeEntry.Clo rd rs) found s is =
    lent-local (Insn.Count CountOp.Clo rd rs) s _ found is refl refl
stands (CodeEntry.Lb rt base offset) found s is = tt
stands (CodeEntry.Lh rt base offset) found s is = tt
stands (CodeEntry.Lwl rt base offset) found s is = tt
stands (CodeEntry.Lw rt base offset) found s is = tt
stands (CodeEntry.Lbu rt base offset) found s is = tt
stands (CodeEntry.Lhu rt base offset) found s is = tt
stands (CodeEntry.Lwr rt base offset) found s is = tt
stands (CodeEntry.Sb rt base offset) found s is = tt
stands (CodeEntry.Sh rt base offset) found s is = tt
stands (CodeEntry.Swl rt base offset) found s is = tt
stands (CodeEntry.Sw rt base offset) found s is = tt
stands (CodeEntry.Swr rt base offset) found s is = tt
stands (CodeEntry.J index) found s is = tt
stands (CodeEntry.Jal index) found s is = tt
stands (CodeEntry.Jr rs) found s is = tt
stands (CodeEntry.Jalr rd rs) found s is = tt
stands (CodeEntry.Beq rs rt reach) found s is = tt
stands (CodeEntry.Bne rs rt reach) found s is = tt
stands (CodeEntry.Beql rs rt reach) found s is = tt
stands (CodeEntry.Bnel rs rt reach) found s is = tt
stands (CodeEntry.Blez rs reach) found s is = tt
stands (CodeEntry.Bgtz rs reach) found s is = tt
stands (CodeEntry.Blezl rs reach) found s is = tt
stands (CodeEntry.Bgtzl rs reach) found s is = tt
stands (CodeEntry.Bltz rs reach) found s is = tt
stands (CodeEntry.Bgez rs reach) found s is = tt
stands (CodeEntry.Bltzl rs reach) found s is = tt
stands (CodeEntry.Bgezl rs reach) found s is = tt
stands (CodeEntry.Bltzal rs reach) found s is = tt
stands (CodeEntry.Bgezal rs reach) found s is = tt
stands (CodeEntry.Bltzall rs reach) found s is = tt
stands (CodeEntry.Bgezall rs reach) found s is = tt

planned-led : (plan : Option State) (s : State) (word : ℕ) (new : State) → Stands plan (decoded word) s → Acts plan s true new →
    DoesLent (lent_word s (Some word)) s true new
planned-led None s word new for does = absurd (cc)
planned-led (Some after) s word new for does =
    subst (λ o. DoesLent o s true new) (sym for) does

led-prop : (o : Option State) (s : State) (result : Bool) (new : State) → IsProp (DoesLent o s result new)
led-prop None s result new = hlevel props
led-prop (Some after) s result new = hlevel props

-- who does the entry of a word does a lent step
pub entry-led : (entry : CodeEntry) (s : State) (word : ℕ) (new : State) → ∥ Means entry (decoded word) ∥₁ → Acts (planned entry s) s true new →
    DoesLent (lent_word s (Some word)) s true new
entry-led entry s word new means does =
    ∥∥₁_elim means (led-prop _ _ _ _) (λ meant. planned-led (planned entry s) s word new (stands entry (decoded word) s meant) does)

pub stayed : (plan : Option State) (s new : State) → Acts plan s false new → new ≡ s
stayed None s new does = does.1
stayed (Some after) s new does = absurd (cc)
