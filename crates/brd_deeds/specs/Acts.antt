-- What orders tasks and handlers, row by row of the table of docs/RACES.md: what is released into, and who acquires
-- from it. A strand is who acts: a task, which keeps its strand wherever it runs and however often it starts, or the
-- handler of an interrupt line. Which call does which of these, `Calls.antt` says.
use Rattle.std.specs.Prelude.{◌+◌, ◌*◌, ◌/◌, ◌%◌, ◌^◌, ◌==◌, ℕ, zero, suc, Bool, true, false}
use Rattle.std.specs.Prelude.{if◌then◌else◌, [], ◌∷◌, bit_and, Option, None, Some}
use Rattle.brd_tasks.specs.declared.task.TaskView.{TaskView}
use Rattle.brd_board.specs.Board.{BoardState, task_of}
use Rattle.brd_order.specs.declared.deed.Touch.{Touch}
use Rattle.brd_deeds.specs.declared.thing.{ThingKind.ThingKind, Thing.Thing}
use Rattle.brd_deeds.specs.declared.thing.ThingKind.TheVariants as thing
use Rattle.brd_deeds.specs.declared.past.{Stamp.Stamp}
use Rattle.brd_deeds.specs.declared.log.{Doer.Doer, Log.Log}
use Rattle.brd_deeds.specs.Things.{whole, part_of}
use Rattle.brd_deeds.specs.Touches.{synchronizing}
use Rattle.brd_deeds.specs.Past.{hold_in, with_hold, touches, acquires, releases, hears, heeds, notes}

-- who executes releases into a thing, and acquires from it

abbrev pub releases_into : Doer → ThingKind → ℕ → Log → Log
releases_into doer kind id = notes doer.stamp (releases doer.strand (whole kind id) ∷ [])

abbrev pub acquires_from : Doer → ThingKind → ℕ → Log → Log
acquires_from doer kind id = notes doer.stamp (acquires doer.strand (whole kind id) ∷ [])

-- A semaphore.

-- sig_sem, isig_sem
abbrev pub gives_unit : Doer → ℕ → Log → Log
gives_unit doer id = releases_into doer thing.Semaphore id

-- who gets a unit, at once or when its wait ends
abbrev pub gets_unit : Doer → ℕ → Log → Log
gets_unit doer id = acquires_from doer thing.Semaphore id

-- A mutex. What the end of a task gives back releases nothing.

-- unl_mtx
abbrev pub gives_mutex_back : Doer → ℕ → Log → Log
gives_mutex_back doer id = releases_into doer thing.Mutex id

-- who takes it, at once or when its wait ends
abbrev pub takes_mutex : Doer → ℕ → Log → Log
takes_mutex doer id = acquires_from doer thing.Mutex id

-- A block of a memory pool, by its address.

abbrev pub block_of : ℕ → ℕ → Thing
block_of pool address = part_of thing.Block address (pool % 65536)

-- rel_mpf
abbrev pub gives_block_back : Doer → ℕ → ℕ → Log → Log
gives_block_back doer pool address = notes doer.stamp (releases doer.strand (block_of pool address) ∷ [])

-- who gets it, at once or when its wait ends; its address is the call's second result
abbrev pub gets_block : Doer → ℕ → ℕ → Log → Log
gets_block doer pool address = notes doer.stamp (acquires doer.strand (block_of pool address) ∷ [])

-- A message of a mailbox, by its address.

abbrev pub message_in : ℕ → ℕ → Thing
message_in mailbox address = part_of thing.Message address (mailbox % 65536)

-- snd_mbx, isnd_mbx
abbrev pub sends_message : Doer → ℕ → ℕ → Log → Log
sends_message doer mailbox address = notes doer.stamp (releases doer.strand (message_in mailbox address) ∷ [])

-- who receives it, at once or when its wait ends; its address is the call's second result
abbrev pub receives_message : Doer → ℕ → ℕ → Log → Log
receives_message doer mailbox address = notes doer.stamp (acquires doer.strand (message_in mailbox address) ∷ [])

-- A bit of an event flag.

abbrev pub has_bit : ℕ → ℕ → Bool
has_bit pattern bit = pattern / 2 ^ bit % 2 == 1

-- set_flg, iset_flg that sets it

abbrev pub sets_bit : Doer → ℕ → ℕ → ℕ → Log → Log
sets_bit doer id bits bit log =
    if has_bit bits bit then notes doer.stamp (releases doer.strand (part_of thing.FlagBit id bit) ∷ []) log else log

-- the bits below a number, from 0 on
unfoldable pub sets_below : Doer → ℕ → ℕ → ℕ → Log → Log
sets_below doer id bits zero log = log
sets_below doer id bits (suc n) log = sets_bit doer id bits n (sets_below doer id bits n log)

abbrev pub sets_bits : Doer → ℕ → ℕ → Log → Log
sets_bits doer id bits = sets_below doer id bits 32

-- who waited for it, and had it set, at once or when the wait ends; the pattern is the call's second result

abbrev pub gets_bit : Doer → ℕ → ℕ → ℕ → Log → Log
gets_bit doer id bits bit log =
    if has_bit bits bit then notes doer.stamp (acquires doer.strand (part_of thing.FlagBit id bit) ∷ []) log else log

unfoldable pub gets_below : Doer → ℕ → ℕ → ℕ → Log → Log
gets_below doer id bits zero log = log
gets_below doer id bits (suc n) log = gets_bit doer id bits n (gets_below doer id bits n log)

abbrev pub gets_bits : Doer → ℕ → ℕ → ℕ → Log → Log
gets_bits doer id waited pattern = gets_below doer id (bit_and waited pattern) 32

-- The datum in a place of a data queue.

-- who sends it, at once or when its wait ends
abbrev pub sends_datum : Doer → ℕ → ℕ → Log → Log
sends_datum doer id place = notes doer.stamp (releases doer.strand (part_of thing.Datum id place) ∷ [])

-- who gets it
abbrev pub gets_datum : Doer → ℕ → ℕ → Log → Log
gets_datum doer id place = notes doer.stamp (acquires doer.strand (part_of thing.Datum id place) ∷ [])

-- The room in a place of a data queue.

-- who gets the datum
abbrev pub leaves_room : Doer → ℕ → ℕ → Log → Log
leaves_room doer id place = notes doer.stamp (releases doer.strand (part_of thing.Room id place) ∷ [])

-- who sends the next datum into it
abbrev pub takes_room : Doer → ℕ → ℕ → Log → Log
takes_room doer id place = notes doer.stamp (acquires doer.strand (part_of thing.Room id place) ∷ [])

-- A rendezvous over a data queue of capacity 0.

-- both, the sender and the receiver, whoever came first: each when it makes its call
abbrev pub comes_to_meet : Doer → Log → Log
comes_to_meet doer = releases_into doer thing.Meeting doer.strand

-- both: who comes second, and the one that waited
abbrev pub meets_other : ℕ → Doer → Log → Log
meets_other second doer =
    notes doer.stamp
    (acquires second (whole thing.Meeting doer.strand) ∷ acquires doer.strand (whole thing.Meeting second) ∷ [])

-- A spin lock.

-- unl_spn, iunl_spn
abbrev pub frees_spin_lock : Doer → ℕ → Log → Log
frees_spin_lock doer id = releases_into doer thing.SpinLock id

-- loc_spn, try_spn, iloc_spn, itry_spn that take it
abbrev pub takes_spin_lock : Doer → ℕ → Log → Log
takes_spin_lock doer id = acquires_from doer thing.SpinLock id

-- A processor's CPU lock.

abbrev pub releases_cpu : Doer → Log → Log
releases_cpu doer = releases_into doer thing.Processor doer.cpu

abbrev pub acquires_cpu : Doer → Log → Log
acquires_cpu doer = acquires_from doer thing.Processor doer.cpu

-- from then on its processor is CPU-locked, or not

abbrev pub with_lock : Bool → Doer → Log → Log
with_lock locked doer log = with_hold doer.cpu (record (hold_in log.past doer.cpu) { locked = locked }) log

-- unl_cpu, iunl_cpu there if it was locked
abbrev pub unlocks_cpu : Doer → Log → Log
unlocks_cpu doer log =
    with_lock false doer (if (hold_in log.past doer.cpu).locked then releases_cpu doer log else log)

-- loc_cpu, iloc_cpu
abbrev pub locks_cpu : Doer → Log → Log
locks_cpu doer log = with_lock true doer (acquires_cpu doer log)

-- unl_spn, iunl_spn: it was locked
abbrev pub gives_spin_lock_back : Doer → ℕ → Log → Log
gives_spin_lock_back doer id log = with_lock false doer (releases_cpu doer (frees_spin_lock doer id log))

-- a spin lock that is taken
abbrev pub locks_by_spin_lock : Doer → ℕ → Log → Log
locks_by_spin_lock doer id log = with_lock true doer (acquires_cpu doer (takes_spin_lock doer id log))

-- ret_int there, whether it was locked or not; nothing is released into a spin lock that the handler holds
abbrev pub ends_handler : Doer → Log → Log
ends_handler doer log = with_lock false doer (releases_cpu doer log)

-- a handler that begins there: `acquires_cpu`

-- A processor's dispatching.

abbrev pub with_dispatching : Bool → Doer → Log → Log
with_dispatching disabled doer log = with_hold doer.cpu (record (hold_in log.past doer.cpu) { disabled = disabled }) log

abbrev pub releases_dispatching : Doer → Log → Log
releases_dispatching doer = releases_into doer thing.Dispatching doer.cpu

-- ena_dsp there if it was disabled
abbrev pub enables_dispatching : Doer → Log → Log
enables_dispatching doer log =
    with_dispatching false doer (if (hold_in log.past doer.cpu).disabled then releases_dispatching doer log else log)

-- dis_dsp there
abbrev pub disables_dispatching : Doer → Log → Log
disables_dispatching doer log =
    with_dispatching true doer (acquires_from doer thing.Dispatching doer.cpu log)

-- A task's starts.

-- A start that was asked for and isn't queued has taken place.

abbrev pub is_unqueued : Option TaskView → Bool
is_unqueued None = false
is_unqueued (Some view) = view.activations == 0

abbrev pub has_started : BoardState → ℕ → Bool
has_started after task = is_unqueued (task_of after task)

-- the task, when it starts
abbrev pub starts : Stamp → ℕ → Log → Log
starts stamp task = notes stamp (acquires task (whole thing.Start task) ∷ [])

-- act_tsk, mact_tsk, iact_tsk, imact_tsk; where the start isn't queued the task begins
abbrev pub asks_to_start : Doer → ℕ → BoardState → Log → Log
asks_to_start doer task after log =
    let asked = releases_into doer thing.Start task log in
    if has_started after task then starts doer.stamp task asked else asked

-- can_act of it that takes some back
abbrev pub takes_starts_back : Doer → ℕ → Log → Log
takes_starts_back doer task = acquires_from doer thing.Start task

-- A time handler's starts, by its strand.

-- 256 and its line (IDs are 64 at most)

abbrev pub cyclic_strand : ℕ → ℕ
cyclic_strand id = 286 + 2 * (id % 65536)

abbrev pub alarm_strand : ℕ → ℕ
alarm_strand id = 287 + 2 * (id % 65536)

-- sta_cyc; sta_alm, ista_alm

abbrev pub starts_cyclic : Doer → ℕ → Log → Log
starts_cyclic doer id = releases_into doer thing.Handler (cyclic_strand id)

abbrev pub starts_alarm : Doer → ℕ → Log → Log
starts_alarm doer id = releases_into doer thing.Handler (alarm_strand id)

-- the handler, when it begins; of a line up to 31, into which nothing is released, too
abbrev pub begins_started : Doer → Log → Log
begins_started doer = acquires_from doer thing.Handler doer.strand

-- A task's wake-ups.

-- wup_tsk, iwup_tsk
abbrev pub wakes_up : Doer → ℕ → Log → Log
wakes_up doer task = releases_into doer thing.WakeUp task

-- its slp_tsk, tslp_tsk, answered with E_OK; can_wup of it that takes some back
abbrev pub takes_wake_up : Doer → ℕ → Log → Log
takes_wake_up doer task = acquires_from doer thing.WakeUp task

-- A task's waits and suspensions.

-- rel_wai, irel_wai
abbrev pub lets_go_on : Doer → ℕ → Log → Log
lets_go_on doer task = releases_into doer thing.Going task

-- the task, when it goes on
abbrev pub goes_on : Stamp → ℕ → Log → Log
goes_on stamp task = notes stamp (acquires task (whole thing.Going task) ∷ [])

-- rsm_tsk, after which it goes on
abbrev pub resumes : Doer → ℕ → Log → Log
resumes doer task log = goes_on doer.stamp task (lets_go_on doer task log)

-- A task's end and suspension.

-- the task; ter_tsk, sus_tsk of it
abbrev pub halts : Doer → ℕ → Log → Log
halts doer task =
    notes doer.stamp (releases task (whole thing.Halt task) ∷ acquires doer.strand (whole thing.Halt task) ∷ [])

-- A word.

-- an SC that stores into it, a releasing store into it
abbrev pub stores_releasing : Doer → Touch → Log → Log
stores_releasing doer touch =
    notes doer.stamp
    (touches doer.strand (synchronizing touch) ∷ releases doer.strand (whole thing.Word touch.word) ∷ [])

-- LL of it
abbrev pub loads_linked : Doer → Touch → Log → Log
loads_linked doer touch =
    notes doer.stamp
    (acquires doer.strand (whole thing.Word touch.word) ∷ touches doer.strand (synchronizing touch) ∷ [])

-- An acquiring load of it: what was released when it loaded is acquired with the SYNC, when it is known that it is one.

abbrev pub begins_to_load : Doer → Touch → Log → Log
begins_to_load doer touch = notes doer.stamp (hears doer.strand (whole thing.Word touch.word) ∷ [])

abbrev pub loads_acquiring : Doer → Touch → Stamp → Log → Log
loads_acquiring doer touch loaded log =
    notes loaded (touches doer.strand (synchronizing touch) ∷ []) (notes doer.stamp (heeds doer.strand ∷ []) log)
