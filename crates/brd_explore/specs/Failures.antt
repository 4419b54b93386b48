-- What of a board is a failure, by now or at the end of a schedule.
use Rattle.std.specs.Prelude.{ℕ, zero, suc, ◌+◌, ◌%◌, ◌^◌, nat_lt, nat_le, ◌==◌, Bool, true, false, not, ◌&&◌, ◌||◌}
use Rattle.std.specs.Prelude.{List, []}
use Rattle.std.specs.Prelude.{◌∷◌, if◌then◌else◌, bytes_eq, Option, Some, None, is_some}
use Rattle.std.specs.List.{list_any, starts_with}
use Rattle.std.specs.Option.{option_or}
use Rattle.brd_word.specs.declared.order.Order.{Order}
use Rattle.brd_word.specs.Words.{word_of_bytes}
use Rattle.brd_mem.specs.Memory.{byte_at}
use Rattle.brd_exec.specs.State.{State}
use Rattle.brd_tasks.specs.declared.task.TaskView.{TaskView}
use Rattle.brd_kernel.specs.Kernel.{timer_due}
use Rattle.brd_board.specs.declared.event.Event.{Event}
use Rattle.brd_board.specs.declared.event.Event.TheVariants.{Step}
use Rattle.brd_board.specs.Board.{BoardState, after, fault_of, registers_of, task_of}
use Rattle.brd_explore.specs.Schedules.{does}
use Rattle.brd_explore.specs.declared.bounds.Bounds.{Bounds}
use Rattle.brd_explore.specs.declared.condition.Term.{Term}
use Rattle.brd_explore.specs.declared.condition.Term.TheVariants as term
use Rattle.brd_explore.specs.declared.condition.Comparison.{Comparison}
use Rattle.brd_explore.specs.declared.condition.Comparison.TheVariants.{Less, AtMost, More, AtLeast, Same, Other}
use Rattle.brd_explore.specs.declared.condition.Condition.{Condition}
use Rattle.brd_explore.specs.declared.wanted.Ending.{Ending}
use Rattle.brd_explore.specs.declared.wanted.Failure.{Failure}
use Rattle.brd_explore.specs.declared.wanted.Failure.TheVariants as failure
use Rattle.brd_explore.specs.declared.wanted.Wanted.{Wanted}

-- some number below this one has a property
unfoldable pub some_below : ℕ → (ℕ → Bool) → Bool
some_below zero has = false
some_below (suc n) has = some_below n has || has n

-- an exception was kept of some processor: it has ended a task, or stopped the processor
abbrev pub has_fault : BoardState → Bool
has_fault b = some_below 9 (λ cpu. is_some (fault_of b cpu))

-- no step of a processor does anything: nobody executes anywhere, and no interrupt is accepted, or the board is off
abbrev pub nobody_goes : BoardState → Bool
nobody_goes b = not (some_below 9 (λ cpu. does b (Step cpu)))

abbrev pub waits : Option TaskView → Bool
waits None = false
waits (Some task) = is_some task.waiting

abbrev pub has_due : Option TaskView → Bool
has_due None = false
has_due (Some task) = is_some task.due

-- a time handler is due at a tick
abbrev pub is_due : BoardState → ℕ → Bool
is_due b place = is_some (timer_due b.kernel place)

-- some wait ends by a tick, or some time handler is due at one
abbrev pub some_are_due : BoardState → Bool
some_are_due b = some_below 256 (λ id. has_due (task_of b id)) || some_below 128 (is_due b)

-- A deadlock: the board is on, a task waits, no wait ends by a tick, no time handler is due at one, and nobody goes.
-- (An interrupt line that is raised from outside could still end it.)
abbrev pub is_stuck : BoardState → Bool
is_stuck b = not b.kernel.off && some_below 256 (λ id. waits (task_of b id)) && not (some_are_due b) && nobody_goes b

-- the word at an address, where RAM has its four bytes
abbrev pub word_in : Order → Option ℕ → Option ℕ → Option ℕ → Option ℕ → Option ℕ
word_in order (Some a) (Some b) (Some c) (Some d) = Some (word_of_bytes order (a ∷ b ∷ c ∷ d ∷ []))
word_in order None second third fourth = None
word_in order (Some a) None third fourth = None
word_in order (Some a) (Some b) None fourth = None
word_in order (Some a) (Some b) (Some c) None = None

unfoldable pub word_of : BoardState → ℕ → Option ℕ
word_of b address =
    word_in b.memory.order (byte_at b.memory address) (byte_at b.memory ((address + 1) % 2 ^ 32))
    (byte_at b.memory ((address + 2) % 2 ^ 32))
    (byte_at b.memory ((address + 3) % 2 ^ 32))

abbrev pub is_value : ℕ → Option ℕ → Bool
is_value value None = false
is_value value (Some word) = word == value

abbrev pub is_between : ℕ → ℕ → Option ℕ → Bool
is_between least most None = false
is_between least most (Some word) = nat_le least word && nat_le word most

-- words have these values, each in its place
abbrev pub are_values : BoardState → List ℕ → List ℕ → Bool
are_values b [] [] = true
are_values b [] (value ∷ values) = false
are_values b (address ∷ words) [] = false
are_values b (address ∷ words) (value ∷ values) = is_value value (word_of b address) && are_values b words values

-- a board is such an end: it has this console, and words have these values
abbrev pub is_ending : BoardState → List ℕ → Ending → Bool
is_ending b words ending = bytes_eq b.kernel.console ending.console && are_values b words ending.values

-- what a term is worth: a number, or the word at an address, where RAM has it
abbrev pub worth : BoardState → Term → Option ℕ
worth b (term.Number number) = Some number
worth b (term.Word address) = word_of b address

-- the sum of two numbers, where both are there
abbrev pub plus : Option ℕ → Option ℕ → Option ℕ
plus None other = None
plus (Some one) None = None
plus (Some one) (Some other) = Some (one + other)

-- the sum of terms, where all of their words are there
abbrev pub sum_of : BoardState → List Term → Option ℕ
sum_of b [] = Some 0
sum_of b (one ∷ others) = plus (worth b one) (sum_of b others)

-- how two numbers compare
abbrev pub compares : Comparison → ℕ → ℕ → Bool
compares Less left right = nat_lt left right
compares AtMost left right = nat_le left right
compares More left right = nat_lt right left
compares AtLeast left right = nat_le right left
compares Same left right = left == right
compares Other left right = not (left == right)

-- two sums compare so, or one of them isn't there
abbrev pub is_so : Comparison → Option ℕ → Option ℕ → Bool
is_so order None right = true
is_so order (Some left) None = true
is_so order (Some left) (Some right) = compares order left right

-- A condition holds on a board: its sums, of natural numbers, compare as it says; or one of its words isn't there.
unfoldable pub holds : BoardState → Condition → Bool
holds b condition = is_so condition.order (sum_of b condition.left) (sum_of b condition.right)

-- the instruction at an address is the next one in a context
abbrev pub is_at : ℕ → Option State → Bool
is_at address None = false
is_at address (Some context) = context.pc == address

-- a text begins with another one, or is it
abbrev pub begins_with : List ℕ → List ℕ → Bool
begins_with text front = starts_with ◌==◌ text front

-- A board shows a failure, at whatever point of a schedule.
unfoldable pub fails_by_now : BoardState → Failure → Bool
fails_by_now b failure.Exception = has_fault b
fails_by_now b failure.Deadlock = is_stuck b
fails_by_now b (failure.Console text) = not (begins_with text b.kernel.console)
fails_by_now b (failure.Word address value) = false
fails_by_now b (failure.Outside address least most) = not (is_between least most (word_of b address))
fails_by_now b (failure.Holds condition) = holds b condition
fails_by_now b failure.On = false
fails_by_now b failure.Ended = false
fails_by_now b (failure.Unlisted words finals) = false
fails_by_now b (failure.At address) = some_below 9 (λ cpu. is_at address (registers_of b cpu))

-- A board shows a failure where it is the last one: the console lacks something, a word has another value, the board is
-- on, there is to be no end, or the board is none of the ends that there may be.
unfoldable pub fails_at_last : BoardState → Failure → Bool
fails_at_last b failure.Exception = false
fails_at_last b failure.Deadlock = false
fails_at_last b (failure.Console text) = not (begins_with b.kernel.console text)
fails_at_last b (failure.Word address value) = not (is_value value (word_of b address))
fails_at_last b (failure.Outside address least most) = false
fails_at_last b (failure.Holds condition) = false
fails_at_last b failure.On = not b.kernel.off
fails_at_last b failure.Ended = true
fails_at_last b (failure.Unlisted words finals) = not (list_any (is_ending b words) finals)
fails_at_last b (failure.At address) = false

-- A board shows one of the failures.
unfoldable pub fails_now : Wanted → BoardState → Bool
fails_now wanted b = list_any (fails_by_now b) wanted.failures

-- Some failure of last boards is one that a board shows.
abbrev pub lacks : Wanted → BoardState → Bool
lacks wanted b = list_any (fails_at_last b) wanted.failures

-- A board is at rest: it is off, or nobody goes, no wait ends by a tick, and no time handler is due at one.
unfoldable pub is_at_rest : BoardState → Bool
is_at_rest b = b.kernel.off || (nobody_goes b && not (some_are_due b))

-- A schedule comes to an end where the board is off, or is at rest and no raise is owed any more, whatever is left of
-- the bounds. (A program that is right only after its interrupt isn't told wrong before it.)
unfoldable pub is_end : BoardState → Bounds → Bool
is_end b left = b.kernel.off || (left.owed == 0 && is_at_rest b)

-- It is cut short where it has come to no end, and no event is left, or nobody goes, and no tick is left for a wait
-- that would end by one, or for a time handler.
unfoldable pub is_cut : BoardState → Bounds → Bool
is_cut b left = not (is_end b left) && (left.events == 0 || (left.ticks == 0 && nobody_goes b && some_are_due b))

-- The fair end: a number of rounds of the same events. (Whoever asks for it makes a round in which every processor has
-- its turn, and time passes.)
abbrev pub rounds : ℕ → List Event → BoardState → BoardState
rounds zero round b = b
rounds (suc n) round b = after (rounds n round b) round

unfoldable pub ended : Wanted → BoardState → BoardState
ended wanted b = rounds wanted.rounds wanted.round b

-- Where a board goes on to the fair end, the board there shows a failure, or one of a last board.
unfoldable pub fails_fairly : Wanted → BoardState → Bool
fails_fairly wanted b = fails_now wanted (ended wanted b) || lacks wanted (ended wanted b)

-- A schedule that is cut short goes on to a fair end, if there is one, and no raise is owed.
unfoldable pub goes_fairly : Wanted → BoardState → Bounds → Bool
goes_fairly wanted b left = nat_lt 0 wanted.rounds && left.owed == 0 && is_cut b left

-- A schedule fails where it has led to a board, with so much left of the bounds: the board shows a failure; or this is
-- an end, and the board shows one of a last board; or it goes on to a fair end, which fails.
unfoldable pub fails_at : Wanted → BoardState → Bounds → Bool
fails_at wanted b left =
    fails_now wanted b || (is_end b left && lacks wanted b) || (goes_fairly wanted b left && fails_fairly wanted b)

-- the first of some failures of which this is so
abbrev pub first_so : (Failure → Bool) → List Failure → Option Failure
first_so is [] = None
first_so is (one ∷ others) = if is one then Some one else first_so is others

-- the board by which the end of a list is judged: its last one, if that is at rest, else the one after the fair end
unfoldable pub last_of : Wanted → BoardState → BoardState
last_of wanted b = if is_at_rest b then b else ended wanted b

-- Which failure a list's last board shows: the first of those that it shows; if it shows none, the first that the board
-- shows by which the end is judged, and if that shows none, the first that this one shows as a last board.
unfoldable pub shown_failure : Wanted → BoardState → Option Failure
shown_failure wanted b =
    option_or (first_so (fails_by_now b) wanted.failures)
    (option_or (first_so (fails_by_now (last_of wanted b)) wanted.failures)
    (first_so (fails_at_last (last_of wanted b)) wanted.failures))
