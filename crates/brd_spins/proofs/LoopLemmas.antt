-- A processor that doesn't spin.
use Rattle.std.proofs.Common.{◌≡◌, ◌⊎◌, inl, inr, ℕ, zero, suc, ◌+◌, ◌<◌, List, [], ◌∷◌, length, sym, subst, ◌∙◌, arith}
use Rattle.std.specs.Prelude.{◌≢◌, Some, None}
use Rattle.std.proofs.lemmas.Bool.{cases_lt}
use Rattle.brd_exec.specs.State.{State}
use Rattle.brd_board.specs.declared.event.Event.TheVariants.{Step}
use Rattle.brd_board.specs.Board.{BoardState, happens, registers_of}
use Rattle.brd_spins.specs.declared.spin.SpinKind.TheVariants.{Loop, Lock}
use Rattle.brd_spins.specs.declared.turn.Turn.TheVariants.{Reads, Asks, Other}
use Rattle.brd_spins.specs.Spins.{alone, turn_of, AreOther, AreTurns, SpinsNot}

some-none : (state : State) → Some state ≡ None → ⊥
some-none state is = cc

reads-asks : (lock : ℕ) → Reads ≡ Asks lock → ⊥
reads-asks lock is = cc

other-reads : Other ≡ Reads → ⊥
other-reads is = cc

other-asks : (lock : ℕ) → Other ≡ Asks lock → ⊥
other-asks lock is = cc

-- each of the instructions of a loop stores nothing, and has registers before it
pub turns-at : (states : List State) (b : BoardState) (cpu n : ℕ) → AreTurns b cpu states → n < length states →
    turn_of (alone b cpu n) cpu ≡ Reads
turns-at [] b cpu n turns less = absurd (omega (arith, less))
turns-at (s ∷ states) b cpu zero turns less = turns.1
turns-at (s ∷ states) b cpu (suc n) turns less = turns-at states (happens b (Step cpu)).board cpu n turns.2 (omega (arith, less))

registers-at : (states : List State) (b : BoardState) (cpu n : ℕ) → AreTurns b cpu states → n < length states →
    registers_of (alone b cpu n) cpu ≡ None → ⊥
registers-at [] b cpu n turns less none = absurd (omega (arith, less))
registers-at (s ∷ states) b cpu zero turns less none = some-none s (sym turns.0 ∙ none)
registers-at (s ∷ states) b cpu (suc n) turns less none = registers-at states (happens b (Step cpu)).board cpu n turns.2 (omega (arith, less)) none

-- before any step there are no registers to come back to
pub other-first : (b : BoardState) (cpu : ℕ) → AreOther b cpu 1
other-first b cpu count some below = absurd (omega (arith, some, below))

pub other-more : (b : BoardState) (cpu n : ℕ) → AreOther b cpu n → registers_of (alone b cpu n) cpu ≢ registers_of b cpu → AreOther b cpu (n + 1)
other-more b cpu n before now count some below again = elim (cases_lt count n) [
  | inl less ↦ before count some less again
  | inr not ↦
      let same : count ≡ n = omega (arith, not, below) in
      now (subst (λ (k : ℕ). registers_of (alone b cpu k) cpu ≡ registers_of b cpu) same again)
]

-- a processor that goes on alone stops executing such instructions after so many
abbrev pub Halts : BoardState → ℕ → ℕ → Type 0
Halts b cpu n = (registers_of (alone b cpu n) cpu ≡ None) ⊎ (turn_of (alone b cpu n) cpu ≢ Reads)

pub halted : (b : BoardState) (cpu n : ℕ) → turn_of b cpu ≡ Reads → AreOther b cpu (n + 1) → Halts b cpu n → SpinsNot b cpu
halted b cpu n reads other halts (Loop count) states is = elim (cases_lt (length states) (n + 1)) [
  | inl below ↦ other (length states) is.1.some below is.1.again
  | inr above ↦
      let less : n < length states = omega (arith, above) in elim halts [
        | inl none ↦ registers-at states b cpu n is.1.turns less none
        | inr not ↦ not (turns-at states b cpu n is.1.turns less)
      ]
]
halted b cpu n reads other halts (Lock lock) states is = reads-asks lock (sym reads ∙ is.asks)

-- it has gone on for longer than any loop
pub too-long : (b : BoardState) (cpu n : ℕ) → turn_of b cpu ≡ Reads → 256 < n → AreOther b cpu n → SpinsNot b cpu
too-long b cpu n reads long other (Loop count) states is = other (length states) is.1.some (omega (arith, is.1.few, long)) is.1.again
too-long b cpu n reads long other (Lock lock) states is = reads-asks lock (sym reads ∙ is.asks)

-- it executes nothing
pub has-none : (b : BoardState) (cpu : ℕ) → registers_of b cpu ≡ None → SpinsNot b cpu
has-none b cpu none (Loop count) states is = registers-at states b cpu 0 is.1.turns is.1.some none
has-none b cpu none (Lock lock) states is = some-none is.state (sym is.registers ∙ none)

-- it does something else
pub does-other : (b : BoardState) (cpu : ℕ) → turn_of b cpu ≡ Other → SpinsNot b cpu
does-other b cpu other (Loop count) states is = other-reads (sym other ∙ turns-at states b cpu 0 is.1.turns is.1.some)
does-other b cpu other (Lock lock) states is = other-asks lock (sym other ∙ is.asks)
