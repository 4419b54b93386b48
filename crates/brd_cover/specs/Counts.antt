-- How often instructions were executed.
use Rattle.std.specs.Prelude.{◌≡◌, ℕ, ◌+◌, ◌-◌, ◌/◌, ◌%◌, ◌^◌, ◌<◌, Bool, ◌&&◌, ◌==◌, nat_le, nat_lt, if◌then◌else◌}
use Rattle.std.specs.Prelude.{false, List, Option, Some, None, is_some, slice_index_or}
use Rattle.brd_board.specs.declared.event.Event.{Event}
use Rattle.brd_board.specs.declared.event.Report.{Report}
use Rattle.brd_board.specs.declared.event.Report.TheVariants.{Ran, Called, Faulted}
use Rattle.brd_board.specs.Board.{BoardState, happens}
use Rattle.brd_happening.specs.declared.found.Found.{Found}
use Rattle.brd_happening.specs.Before.{before_of}
use Rattle.brd_cover.specs.declared.counts.Count.{Count}

-- a word of RAM begins at an address
abbrev pub is_word : ℕ → Bool
is_word address = nat_le 2147483648 address && (nat_lt address 2164260864 && (address % 4 == 0))

-- which word of RAM that is
abbrev pub place_of : ℕ → Option ℕ
place_of address = if is_word address then Some ((address - 2147483648) / 4) else None

-- what was counted of a place
abbrev pub never : Count
never = record { executed = 0; taken = 0 }

abbrev pub at_place : List Count → ℕ → Count
at_place counts place = slice_index_or counts place never

-- what was counted of an address
abbrev pub count_by : List Count → Option ℕ → Count
count_by counts None = never
count_by counts (Some place) = at_place counts place

abbrev pub count_in : List Count → ℕ → Count
count_in counts address = count_by counts (place_of address)

abbrev pub executed_in : List Count → ℕ → ℕ
executed_in counts address = (count_in counts address).executed

-- how often an instruction that is executed at a place is that of another
abbrev pub hit : Option ℕ → ℕ → ℕ
hit None other = 0
hit (Some place) other = if place == other then 1 else 0

-- The instruction of a place, if there is one, is counted: once more there, and not elsewhere. (A count of 2^64 - 1
-- stays.)
abbrev pub CountsAt : List Count → List Count → Option ℕ → Type 0
CountsAt old new place = (other : ℕ) → (at_place old other).executed + 1 < 2 ^ 64
    → (at_place new other).executed ≡ (at_place old other).executed + hit place other

-- the address of the instruction that a step was at which reports this
abbrev pub executed_by : Report → Option ℕ
executed_by (Ran address) = Some address
executed_by (Called address) = Some address
executed_by (Faulted address) = Some address
executed_by _ = None

abbrev pub place_by : Option ℕ → Option ℕ
place_by None = None
place_by (Some address) = place_of address

-- A step executes an instruction if it found a word of RAM at its address. (Where there is none, the fetch raises an
-- exception.)
abbrev pub was_fetched : Option Found → Bool
was_fetched None = false
was_fetched (Some found) = is_some found.word

abbrev pub if_fetched : Option Found → ℕ → Option ℕ
if_fetched found address = if was_fetched found then Some address else None

abbrev pub executed_at : Option Found → Option ℕ → Option ℕ
executed_at found None = None
executed_at found (Some address) = if_fetched found address

-- the place of the instruction that an event executes
abbrev pub place_in : BoardState → Event → Option ℕ
place_in b event = place_by (executed_at (before_of b event).found (executed_by (happens b event).report))
