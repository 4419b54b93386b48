-- Which point an event comes to: what who executes in it does with $sp, register 29, and what it stores.
use Rattle.std.specs.Prelude.{◌++◌, ◌+◌, ◌==◌, ◌||◌, ℕ, Bool, true, false, if◌then◌else◌, List, [], ◌∷◌, Option, None}
use Rattle.std.specs.Prelude.{Some}
use Rattle.std.specs.List.{cons_option}
use Rattle.brd_isa.specs.declared.instruction.Insn.{Insn}
use Rattle.brd_isa.specs.declared.shape.MemoryAccess.{MemoryAccess}
use Rattle.brd_isa.specs.Shapes.{shape_of}
use Rattle.brd_exec.specs.State.{read}
use Rattle.brd_kernel.specs.declared.processor.Standing.{Standing}
use Rattle.brd_board.specs.declared.event.Event.{Event}
use Rattle.brd_board.specs.Board.{BoardState, happens}
use Rattle.brd_happening.specs.declared.before.Before.{Before}
use Rattle.brd_happening.specs.declared.found.Found.{Found}
use Rattle.brd_happening.specs.declared.instruction.{Access.Access, Instruction.Instruction, Written.Written}
use Rattle.brd_happening.specs.declared.happening.{What.What, Happening.Happening}
use Rattle.brd_happening.specs.declared.happening.What.TheVariants as what
use Rattle.brd_happening.specs.Before.{before_of}
use Rattle.brd_happening.specs.Happening.{happening_from}
use Rattle.brd_happening.specs.Instruction.{has_stored}
use Rattle.brd_stacks.specs.declared.stack.{Point.Point, Store.Store}

-- a task's strand is its ID, a handler's 256 and its line
abbrev pub strand_of : Standing → Option ℕ
strand_of (Standing.Task id) = Some id
strand_of (Standing.Handler line) = Some (256 + line)
strand_of Standing.Idle = None
strand_of Standing.Stopped = None

-- $sp stays, and nothing is stored
abbrev pub rests : ℕ → ℕ → Found → Point
rests position strand found = record {
  strand = strand;
  event = position;
  place = found.context.pc;
  before = read found.context 29;
  after = read found.context 29;
  kept = true;
  store = None;
}

abbrev pub after_by : ℕ → Option Written → ℕ
after_by before None = before
after_by before (Some written) = if written.register == 29 then written.word.new else before

-- an instruction computes a register from $sp
abbrev pub is_from_itself : Insn → Bool
is_from_itself (Insn.WithImmediate op rt rs immediate) = rs == 29
is_from_itself (Insn.ThreeRegisters op rd rs rt) = (rs == 29) || (rt == 29)
is_from_itself _ = false

-- an instruction names an address by $sp
abbrev pub is_based : Option MemoryAccess → Bool
is_based None = false
is_based (Some access) = access.base == 29

abbrev pub is_by_pointer : Insn → Bool
is_by_pointer insn = is_based (shape_of insn).access

abbrev pub store_by : Insn → Option Access → Option Store
store_by insn None = None
store_by insn (Some access) =
    if has_stored access.kind then Some (record { address = access.address; by_pointer = is_by_pointer insn }) else None

-- an instruction was done
abbrev pub moves : ℕ → ℕ → Found → Instruction → Point
moves position strand found it =
    let before = read found.context 29 in
    let after = after_by before it.register in
    record {
      strand = strand;
      event = position;
      place = found.context.pc;
      before = before;
      after = after;
      kept = (after == before) || is_from_itself it.insn;
      store = store_by it.insn it.access;
    }

-- of who executes: a service call and an exception leave $sp
abbrev pub point_by : ℕ → ℕ → Found → What → Option Point
point_by position strand found (what.Instruction instruction) = Some (moves position strand found instruction)
point_by position strand found (what.Call made) = Some (rests position strand found)
point_by position strand found (what.Exception exception) = Some (rests position strand found)
point_by position strand found _ = None

abbrev pub point_at : ℕ → Found → Option ℕ → What → Option Point
point_at position found None it = None
point_at position found (Some strand) it = point_by position strand found it

abbrev pub point_if : ℕ → Option Found → What → Option Point
point_if position None it = None
point_if position (Some found) it = point_at position found (strand_of found.who) it

-- by what was read before the event, and what happened in it
abbrev pub point_of : ℕ → Before → Happening → Option Point
point_of position before told = point_if position before.found told.what

-- by the board before an event
abbrev pub points_in : ℕ → BoardState → Event → List Point
points_in position b event =
    let before = before_of b event in
    let after = happens b event in
    cons_option (point_of position before (happening_from before after.report after.board)) []

-- of a list of events, from a board at a position on
abbrev pub points_from : ℕ → BoardState → List Event → List Point
points_from position b [] = []
points_from position b (event ∷ events) =
    points_in position b event ++ points_from (position + 1) (happens b event).board events
