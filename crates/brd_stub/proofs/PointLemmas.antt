-- One more byte of a point, one more processor, one more task.
use Rattle.std.proofs.Common.{◌≡◌, ℕ, suc, ◌+◌, ◌-◌, ◌%◌, ◌^◌, ◌<◌, List, sym, ap, ◌∙◌, arith}
use Rattle.std.specs.Prelude.{Bool, true, false, ◌||◌, if◌then◌else◌, is_some, Option, Some}
use Rattle.brd_mem.specs.Memory.{Memory, byte_at}
use Rattle.brd_kernel.specs.declared.processor.Standing.{Standing}
use Rattle.brd_tasks.specs.declared.task.TaskView.{TaskView}
use Rattle.brd_board.specs.Board.{BoardState, standing_of, task_of}
use Rattle.brd_debug.specs.declared.stops.Stops.{Stops}
use Rattle.brd_debug.specs.Debugger.{DebuggerState}
use Rattle.brd_debug.specs.Marks.{most_addresses, marked_within}
use Rattle.brd_stub.specs.Points.{add_bytes}
use Rattle.brd_stub.specs.Threads.{is_handling, handling_from, first_task_from}
use Rattle.brd_stub.specs.Reasons.{differ, is_other}

one-less : (n i : ℕ) → i < n → n - i ≡ suc (n - suc i)
one-less n i lt = omega (arith, lt)

next : (i : ℕ) → suc i ≡ i + 1
next i = omega arith

-- the bytes from one on are this one, and those from the next one on
pub add-on : (marks : List ℕ) (address i n : ℕ) → i < n →
    add_bytes marks address i (n - i)
    ≡ add_bytes (marked_within most_addresses marks ((address + i) % 2 ^ 32)) address (i + 1) (n - (i + 1))
add-on marks address i n lt =
    ap (add_bytes marks address i) (one-less n i lt)
    ∙ ap (λ (j : ℕ). add_bytes (marked_within most_addresses marks ((address + i) % 2 ^ 32)) address j (n - j)) (next i)

-- where this one doesn't differ, those from the next one on decide
pub differ-on : (old new : Memory) (address i n : ℕ) (test : Bool) (a b : Option ℕ) → i < n →
    a ≡ byte_at old ((address + i) % 2 ^ 32) → b ≡ byte_at new ((address + i) % 2 ^ 32) → test ≡ is_other a b →
    test ≡ false → differ old new address (i + 1) (n - (i + 1)) ≡ differ old new address i (n - i)
differ-on old new address i n test a b lt first second is same =
    sym (ap (differ old new address i) (one-less n i lt)
    ∙ ap (λ (t : Bool). t || differ old new address (suc i) (n - suc i))
    (sym (ap (λ (x : Option ℕ). is_other x (byte_at new ((address + i) % 2 ^ 32))) first)
    ∙ sym (ap (is_other a) second) ∙ sym is ∙ same)
    ∙ ap (λ (j : ℕ). differ old new address j (n - j)) (next i))

-- A debugger of which nothing but one set of addresses has changed, and one more of that set.
pub same-marks : (put : Stops → List ℕ → Stops) (get : Stops → List ℕ) →
    ((s : Stops) (a b : List ℕ) → put (put s a) b ≡ put s b) → ((s : Stops) (a : List ℕ) → get (put s a) ≡ a) →
    (first d next : DebuggerState) (marks : List ℕ) → d ≡ record first { stops = put first.stops (get d.stops) } →
    next ≡ record d { stops = put d.stops marks } → next ≡ record first { stops = put first.stops (get next.stops) }
same-marks put get again back first d next marks same is =
    is
    ∙ ap (λ (x : DebuggerState). record x { stops = put x.stops marks }) same
    ∙ ap (λ (s : Stops). record first { stops = s }) (again first.stops (get d.stops) marks)
    ∙ ap (λ (m : List ℕ). record first { stops = put first.stops m })
    (sym (ap (λ (x : DebuggerState). get x.stops) is ∙ back d.stops marks))

pub next-bytes : (get : Stops → List ℕ) (d next : DebuggerState) (first : List ℕ) (address i n : ℕ) → i < n →
    get next.stops ≡ marked_within most_addresses (get d.stops) ((address + i) % 2 ^ 32) →
    add_bytes (get d.stops) address i (n - i) ≡ add_bytes first address 0 n →
    add_bytes (get next.stops) address (i + 1) (n - (i + 1)) ≡ add_bytes first address 0 n
next-bytes get d next first address i n lt is so_far =
    ap (λ (m : List ℕ). add_bytes m address (i + 1) (n - (i + 1))) is
    ∙ sym (add-on (get d.stops) address i n lt) ∙ so_far

-- a processor runs the handler that is looked for, or those from the next one on decide

abbrev handled-or : BoardState → ℕ → ℕ → Bool → Option ℕ
handled-or b line cpu test = if test then Some cpu else handling_from b line (9 - suc cpu) (cpu + 1)

tested : (b : BoardState) (line cpu : ℕ) (found : Option Standing) (test : Bool) → found ≡ standing_of b cpu →
    test ≡ is_handling line found → test ≡ is_handling line (standing_of b cpu)
tested b line cpu found test is tests = tests ∙ ap (is_handling line) is

from-here : (b : BoardState) (line cpu : ℕ) (test : Bool) → cpu < 9 → test ≡ is_handling line (standing_of b cpu) →
    handled-or b line cpu test ≡ handling_from b line (9 - cpu) cpu
from-here b line cpu test lt tests =
    ap (handled-or b line cpu) tests ∙ sym (ap (λ (n : ℕ). handling_from b line n cpu) (one-less 9 cpu lt))

pub handled-here : (b : BoardState) (line cpu : ℕ) (found : Option Standing) (test : Bool) (whole : Option ℕ) →
    cpu < 9 → found ≡ standing_of b cpu → test ≡ is_handling line found → test ≡ true →
    handling_from b line (9 - cpu) cpu ≡ whole → Some cpu ≡ whole
handled-here b line cpu found test whole lt is tests so decides =
    sym (ap (handled-or b line cpu) so) ∙ from-here b line cpu test lt (tested b line cpu found test is tests) ∙ decides

pub handled-on : (b : BoardState) (line cpu : ℕ) (found : Option Standing) (test : Bool) (whole : Option ℕ) →
    cpu < 9 → found ≡ standing_of b cpu → test ≡ is_handling line found → test ≡ false →
    handling_from b line (9 - cpu) cpu ≡ whole → handling_from b line (9 - (cpu + 1)) (cpu + 1) ≡ whole
handled-on b line cpu found test whole lt is tests so decides =
    ap (λ (j : ℕ). handling_from b line (9 - j) (cpu + 1)) (sym (next cpu))
    ∙ sym (ap (handled-or b line cpu) so)
    ∙ from-here b line cpu test lt (tested b line cpu found test is tests)
    ∙ decides

-- there is a task of an ID, or those from the next one on decide

abbrev task-or : BoardState → ℕ → Bool → Option ℕ
task-or b id test = if test then Some id else first_task_from b (256 - suc id) (id + 1)

task-from : (b : BoardState) (id : ℕ) (found : Option TaskView) (test : Bool) → id < 256 → found ≡ task_of b id →
    test ≡ is_some found → task-or b id test ≡ first_task_from b (256 - id) id
task-from b id found test lt is tests =
    ap (task-or b id) (tests ∙ ap (λ (t : Option TaskView). is_some t) is)
    ∙ sym (ap (λ (n : ℕ). first_task_from b n id) (one-less 256 id lt))

pub task-here : (b : BoardState) (id : ℕ) (found : Option TaskView) (test : Bool) (whole : Option ℕ) → id < 256 →
    found ≡ task_of b id → test ≡ is_some found → test ≡ true → first_task_from b (256 - id) id ≡ whole →
    Some id ≡ whole
task-here b id found test whole lt is tests so decides =
    sym (ap (task-or b id) so) ∙ task-from b id found test lt is tests ∙ decides

pub task-on : (b : BoardState) (id : ℕ) (found : Option TaskView) (test : Bool) (whole : Option ℕ) → id < 256 →
    found ≡ task_of b id → test ≡ is_some found → test ≡ false → first_task_from b (256 - id) id ≡ whole →
    first_task_from b (256 - (id + 1)) (id + 1) ≡ whole
task-on b id found test whole lt is tests so decides =
    ap (λ (j : ℕ). first_task_from b (256 - j) (id + 1)) (sym (next id))
    ∙ sym (ap (task-or b id) so) ∙ task-from b id found test lt is tests ∙ decides
