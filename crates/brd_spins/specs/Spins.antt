-- A processor that spins: left alone, it does the same few instructions for ever, and they change nothing; or its task
-- or handler asks again and again for a spin lock that is held.
use Rattle.std.specs.Prelude.{◌≡◌, ◌≢◌, ◌≤◌, ◌<◌, ◌+◌, ℕ, Bool, true, false, if◌then◌else◌}
use Rattle.std.specs.Prelude.{List, [], ◌∷◌, length, replicate, slice_index, slice_get, Contains}
use Rattle.std.specs.Prelude.{Option, None, Some}
use Rattle.brd_exec.specs.State.{State}
use Rattle.brd_exec.specs.Storing.{is_store}
use Rattle.brd_board.specs.declared.event.Event.TheVariants.{Step}
use Rattle.brd_board.specs.Board.{BoardState, happens, after, registers_of, standing_of}
use Rattle.brd_happening.specs.declared.call.{Answer.Answer, CallMade.CallMade}
use Rattle.brd_happening.specs.declared.call.Answer.TheVariants.{Again}
use Rattle.brd_happening.specs.declared.happening.{What.What}
use Rattle.brd_happening.specs.declared.happening.What.TheVariants as what
use Rattle.brd_happening.specs.Happening.{happening_of}
use Rattle.brd_spins.specs.declared.turn.Turn.{Turn}
use Rattle.brd_spins.specs.declared.turn.Turn.TheVariants.{Reads, Asks, Other}
use Rattle.brd_spins.specs.declared.spin.SpinKind.{SpinKind}
use Rattle.brd_spins.specs.declared.spin.SpinKind.TheVariants.{Loop, Lock}
use Rattle.brd_spins.specs.declared.spin.Turning.{Turning}

abbrev pub turn_called : CallMade → Answer → Turn
turn_called made Again = Asks (slice_index made.asked.arguments 0)
turn_called made _ = Other

-- what a processor does in a step in which this happens
abbrev pub turn_by : What → Turn
turn_by (what.Instruction it) = if is_store it.insn then Other else Reads
turn_by (what.Call made) = turn_called made made.answer
turn_by _ = Other

-- what a processor does in its next step
abbrev pub turn_of : BoardState → ℕ → Turn
turn_of b cpu = turn_by (happening_of b (Step cpu)).what

-- the board after so many steps of a processor, with nothing between them
abbrev pub alone : BoardState → ℕ → ℕ → BoardState
alone b cpu count = after b (replicate count (Step cpu))

-- Left alone, a processor executes as many instructions as there are registers, each of which stores nothing, with
-- these registers before them.
abbrev pub AreTurns : BoardState → ℕ → List State → Type 0
AreTurns b cpu [] = Unit {0}
AreTurns b cpu (state ∷ states) =
    (registers_of b cpu ≡ Some state) × (turn_of b cpu ≡ Reads) × AreTurns (happens b (Step cpu)).board cpu states

-- after none of these numbers of steps, from 1 on, does a processor have the registers again that it has now
abbrev pub AreOther : BoardState → ℕ → ℕ → Type 0
AreOther b cpu end =
    (count : ℕ) → 1 ≤ count → count < end → registers_of (alone b cpu count) cpu ≢ registers_of b cpu

-- A processor executes instructions that store nothing, with these registers before them; and after them, and not
-- before, it has the registers again that it has now.
pub record IsLoop (b : BoardState) (cpu : ℕ) (states : List State) : Type 0 where
  pub some : 1 ≤ length states
  pub few : length states ≤ 256
  pub turns : AreTurns b cpu states
  pub again : registers_of (alone b cpu (length states)) cpu ≡ registers_of b cpu
  pub least : AreOther b cpu (length states)

-- A processor's task or handler is to make this call again, with these registers: it asks for a spin lock that is held.
pub record IsAsking (b : BoardState) (cpu lock : ℕ) (states : List State) : Type 0 where
  pub state : State
  pub only : states ≡ state ∷ []
  pub registers : registers_of b cpu ≡ Some state
  pub asks : turn_of b cpu ≡ Asks lock

-- what a processor does that spins, with its registers before each of the instructions
abbrev pub IsSpinning : BoardState → ℕ → SpinKind → List State → Type 0
IsSpinning b cpu (Loop count) states = (count ≡ length states) × IsLoop b cpu states
IsSpinning b cpu (Lock lock) states = IsAsking b cpu lock states

-- whatever a processor does, it doesn't spin
abbrev pub SpinsNot : BoardState → ℕ → Type 0
SpinsNot b cpu = (kind : SpinKind) (states : List State) → IsSpinning b cpu kind states → ⊥

-- what a processor does that spins, or that it doesn't
abbrev pub IsTurning : BoardState → ℕ → List State → Option SpinKind → Type 0
IsTurning b cpu states None = SpinsNot b cpu
IsTurning b cpu states (Some kind) = IsSpinning b cpu kind states

-- of each processor, by its number less 1, and who executes there
abbrev pub AreTurnings : BoardState → List Turning → Type 0
AreTurnings b turnings =
    (place : ℕ) (turning : Turning) → slice_get turnings place ≡ Some turning
    → IsTurning b (place + 1) turning.states turning.what × (turning.who ≡ standing_of b (place + 1))

-- the least address at which a processor goes on with some of these registers
pub record IsLeastPlace (states : List State) (place : ℕ) : Type 0 where
  pub state : State
  pub some : Contains states state
  pub here : state.pc ≡ place
  pub least : (other : State) → Contains states other → place ≤ other.pc

-- a processor has gone on alone, with these registers before each instruction
pub record HasGone (b : BoardState) (cpu : ℕ) (states : List State) (board : BoardState) : Type 0 where
  pub turns : AreTurns b cpu states
  pub there : board ≡ alone b cpu (length states)

abbrev pub reads : Turn → Bool
reads Reads = true
reads _ = false
