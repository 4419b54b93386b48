-- Which call does what of the table of `Acts.antt`, in its order. A call that isn't in it is named too, and orders
-- nothing; and one that is refused, or ends in time, neither releases nor acquires.
use Rattle.std.specs.Prelude.{◌==◌, ◌%◌, ◌&&◌, nat_lt, ℕ, Bool, if◌then◌else◌, Option, None, Some}
use Rattle.std.specs.Option.{option_map}
use Rattle.brd_kernel.specs.declared.call.Call.{Call}
use Rattle.brd_kernel.specs.declared.call.Call.TheVariants as call
use Rattle.brd_sysgate.specs.Gate.{asked}
use Rattle.brd_board.specs.Board.{BoardState}
use Rattle.brd_happening.specs.declared.release.{AskedCall.AskedCall, Release.Release}
use Rattle.brd_happening.specs.declared.call.{Answer.Answer, CallMade.CallMade}
use Rattle.brd_happening.specs.declared.call.Answer.TheVariants.{Given, Waits, Again, Never}
use Rattle.brd_deeds.specs.declared.past.Stamp.{Stamp}
use Rattle.brd_deeds.specs.declared.log.{Doer.Doer, Log.Log}
use Rattle.brd_deeds.specs.Past.{free, with_hold}
use Rattle.brd_deeds.specs.Trails.{settled}
use Rattle.brd_deeds.specs.Places.{sends, forces, receives, begins_to_wait, sends_at_last, receives_at_last}
use Rattle.brd_deeds.specs.Acts.{gives_unit, gets_unit, sets_bits, gets_bits, locks_by_spin_lock, gives_spin_lock_back}
use Rattle.brd_deeds.specs.Acts.{takes_mutex, gives_mutex_back, gets_block, gives_block_back}
use Rattle.brd_deeds.specs.Acts.{sends_message, receives_message}
use Rattle.brd_deeds.specs.Acts.{locks_cpu, unlocks_cpu, ends_handler, disables_dispatching, enables_dispatching}
use Rattle.brd_deeds.specs.Acts.{asks_to_start, starts, takes_starts_back, wakes_up, takes_wake_up, lets_go_on, goes_on}
use Rattle.brd_deeds.specs.Acts.{resumes, halts, starts_cyclic, starts_alarm}

-- the task that a call names: 0 is the caller
abbrev pub named : Doer → ℕ → ℕ
named doer id = if id == 0 then doer.strand else id % 65536

-- What a task has loaded before it is suspended or ended is settled. If a start is queued of a task that ter_tsk ends,
-- it starts again at once.

abbrev pub suspends : Doer → ℕ → Log → Log
suspends doer task log = halts doer task (settled task log)

abbrev pub terminates : Doer → ℕ → Log → Log
terminates doer task log = starts doer.stamp task (suspends doer task log)

-- A call was done at once: it was answered with E_OK and this second result.
abbrev pub acts_done : Doer → Call → ℕ → BoardState → Log → Log
acts_done doer (call.SigSem id) second after log = gives_unit doer id log
acts_done doer (call.TwaiSem id timeout) second after log = gets_unit doer id log
acts_done doer (call.TlocMtx id timeout) second after log = takes_mutex doer id log
acts_done doer (call.UnlMtx id) second after log = gives_mutex_back doer id log
acts_done doer (call.TgetMpf id timeout) second after log = gets_block doer id second log
acts_done doer (call.RelMpf id block) second after log = gives_block_back doer id block log
acts_done doer (call.SndMbx id message priority) second after log = sends_message doer id message log
acts_done doer (call.TrcvMbx id timeout) second after log = receives_message doer id second log
acts_done doer (call.SetFlg id bits) second after log = sets_bits doer id bits log
acts_done doer (call.TwaiFlg id bits mode timeout) second after log = gets_bits doer id bits second log
acts_done doer (call.TsndDtq id datum timeout) second after log = sends doer id log
acts_done doer (call.FsndDtq id datum) second after log = forces doer id log
acts_done doer (call.TrcvDtq id timeout) second after log = receives doer id log
acts_done doer (call.LocSpn id) second after log = locks_by_spin_lock doer id log
acts_done doer (call.TrySpn id) second after log = locks_by_spin_lock doer id log
acts_done doer (call.UnlSpn id) second after log = gives_spin_lock_back doer id log
acts_done doer call.LocCpu second after log = locks_cpu doer log
acts_done doer call.UnlCpu second after log = unlocks_cpu doer log
acts_done doer call.DisDsp second after log = disables_dispatching doer log
acts_done doer call.EnaDsp second after log = enables_dispatching doer log
acts_done doer (call.ActTsk id) second after log = asks_to_start doer (named doer id) after log
acts_done doer (call.MactTsk id cpu) second after log = asks_to_start doer (named doer id) after log
acts_done doer (call.IactTsk id) second after log = asks_to_start doer (named doer id) after log
acts_done doer (call.ImactTsk id cpu) second after log = asks_to_start doer (named doer id) after log
acts_done doer (call.WupTsk id) second after log = wakes_up doer (named doer id) log
acts_done doer (call.IwupTsk id) second after log = wakes_up doer (named doer id) log
acts_done doer (call.TslpTsk timeout) second after log = takes_wake_up doer doer.strand log
acts_done doer (call.RelWai id) second after log = lets_go_on doer (named doer id) log
acts_done doer (call.RsmTsk id) second after log = resumes doer (named doer id) log
acts_done doer (call.TerTsk id) second after log = terminates doer (named doer id) log
acts_done doer (call.SusTsk id) second after log = suspends doer (named doer id) log
acts_done doer (call.StaCyc id) second after log = starts_cyclic doer id log
acts_done doer (call.StaAlm id time) second after log = starts_alarm doer id log
acts_done doer (call.StpCyc id) second after log = log
acts_done doer (call.StpAlm id) second after log = log
acts_done doer (call.CanAct id) second after log = log
acts_done doer call.ExtTsk second after log = log
acts_done doer (call.ChgPri id priority) second after log = log
acts_done doer (call.GetPri id) second after log = log
acts_done doer (call.MigTsk id cpu) second after log = log
acts_done doer call.GetPid second after log = log
acts_done doer (call.RotRdq priority) second after log = log
acts_done doer (call.IrotRdq priority) second after log = log
acts_done doer call.GetTid second after log = log
acts_done doer (call.CanWup id) second after log = log
acts_done doer (call.DlyTsk time) second after log = log
acts_done doer (call.ClrFlg id bits) second after log = log
acts_done doer (call.PutChr byte) second after log = log
acts_done doer call.ExtKer second after log = log
acts_done doer call.RetInt second after log = log
acts_done doer call.GetTim second after log = log
acts_done doer (call.SetTim time) second after log = log
acts_done doer (call.Sns what) second after log = log
acts_done doer (call.MgetTid cpu) second after log = log
acts_done doer (call.MrotRdq priority cpu) second after log = log
acts_done doer (call.RefTsk id word) second after log = log
acts_done doer (call.RefSem id word) second after log = log
acts_done doer (call.RefFlg id word) second after log = log
acts_done doer (call.RefDtq id word) second after log = log
acts_done doer (call.RefMtx id word) second after log = log
acts_done doer (call.RefMpf id word) second after log = log
acts_done doer (call.RefMbx id word) second after log = log
acts_done doer (call.RefCyc id word) second after log = log
acts_done doer (call.RefAlm id word) second after log = log

-- The wait of a task ended with what it waited for: it was answered with E_OK and this second result, by a call of
-- `caller`.
abbrev pub acts_taken : Option ℕ → Doer → Call → ℕ → Log → Log
acts_taken caller doer (call.TwaiSem id timeout) second log = gets_unit doer id log
acts_taken caller doer (call.TlocMtx id timeout) second log = takes_mutex doer id log
acts_taken caller doer (call.TgetMpf id timeout) second log = gets_block doer id second log
acts_taken caller doer (call.TrcvMbx id timeout) second log = receives_message doer id second log
acts_taken caller doer (call.TwaiFlg id bits mode timeout) second log = gets_bits doer id bits second log
acts_taken caller doer (call.TsndDtq id datum timeout) second log = sends_at_last caller doer id log
acts_taken caller doer (call.TrcvDtq id timeout) second log = receives_at_last caller doer id log
acts_taken caller doer (call.TslpTsk timeout) second log = takes_wake_up doer doer.strand log
acts_taken caller doer (call.ActTsk id) second log = log
acts_taken caller doer (call.IactTsk id) second log = log
acts_taken caller doer (call.CanAct id) second log = log
acts_taken caller doer call.ExtTsk second log = log
acts_taken caller doer (call.TerTsk id) second log = log
acts_taken caller doer (call.ChgPri id priority) second log = log
acts_taken caller doer (call.GetPri id) second log = log
acts_taken caller doer (call.MactTsk id cpu) second log = log
acts_taken caller doer (call.ImactTsk id cpu) second log = log
acts_taken caller doer (call.MigTsk id cpu) second log = log
acts_taken caller doer call.GetPid second log = log
acts_taken caller doer (call.RotRdq priority) second log = log
acts_taken caller doer (call.IrotRdq priority) second log = log
acts_taken caller doer call.GetTid second log = log
acts_taken caller doer call.DisDsp second log = log
acts_taken caller doer call.EnaDsp second log = log
acts_taken caller doer call.LocCpu second log = log
acts_taken caller doer call.UnlCpu second log = log
acts_taken caller doer (call.WupTsk id) second log = log
acts_taken caller doer (call.IwupTsk id) second log = log
acts_taken caller doer (call.CanWup id) second log = log
acts_taken caller doer (call.RelWai id) second log = log
acts_taken caller doer (call.SusTsk id) second log = log
acts_taken caller doer (call.RsmTsk id) second log = log
acts_taken caller doer (call.DlyTsk time) second log = log
acts_taken caller doer (call.SigSem id) second log = log
acts_taken caller doer (call.SetFlg id bits) second log = log
acts_taken caller doer (call.ClrFlg id bits) second log = log
acts_taken caller doer (call.FsndDtq id datum) second log = log
acts_taken caller doer (call.LocSpn id) second log = log
acts_taken caller doer (call.TrySpn id) second log = log
acts_taken caller doer (call.UnlSpn id) second log = log
acts_taken caller doer (call.PutChr byte) second log = log
acts_taken caller doer call.ExtKer second log = log
acts_taken caller doer call.RetInt second log = log
acts_taken caller doer call.GetTim second log = log
acts_taken caller doer (call.SetTim time) second log = log
acts_taken caller doer (call.Sns what) second log = log
acts_taken caller doer (call.MgetTid cpu) second log = log
acts_taken caller doer (call.MrotRdq priority cpu) second log = log
acts_taken caller doer (call.RefTsk id word) second log = log
acts_taken caller doer (call.RefSem id word) second log = log
acts_taken caller doer (call.RefFlg id word) second log = log
acts_taken caller doer (call.RefDtq id word) second log = log
acts_taken caller doer (call.UnlMtx id) second log = log
acts_taken caller doer (call.RefMtx id word) second log = log
acts_taken caller doer (call.RelMpf id block) second log = log
acts_taken caller doer (call.SndMbx id message priority) second log = log
acts_taken caller doer (call.RefMpf id word) second log = log
acts_taken caller doer (call.RefMbx id word) second log = log
acts_taken caller doer (call.StaCyc id) second log = log
acts_taken caller doer (call.StpCyc id) second log = log
acts_taken caller doer (call.StaAlm id time) second log = log
acts_taken caller doer (call.StpAlm id) second log = log
acts_taken caller doer (call.RefCyc id word) second log = log
acts_taken caller doer (call.RefAlm id word) second log = log

-- a call's caller waits
abbrev pub acts_waiting : Doer → Call → Log → Log
acts_waiting doer (call.TsndDtq id datum timeout) log = begins_to_wait doer id log
acts_waiting doer (call.TrcvDtq id timeout) log = begins_to_wait doer id log
acts_waiting doer _ log = log

-- a call took some back, and was answered with how many
abbrev pub acts_taken_back : Doer → Call → Log → Log
acts_taken_back doer (call.CanAct id) log = takes_starts_back doer (named doer id) log
acts_taken_back doer (call.CanWup id) log = takes_wake_up doer (named doer id) log
acts_taken_back doer _ log = log

-- A task ends: its processor is neither CPU-locked nor has dispatching disabled, but nothing is released by that, nor
-- into a spin lock that it holds, nor into the mutexes that it gives back. If a start of it is queued, it starts again.
abbrev pub ends : Doer → Log → Log
ends doer log = starts doer.stamp doer.strand (with_hold doer.cpu free log)

-- a call doesn't return to who makes it
abbrev pub acts_left : Doer → Call → Log → Log
acts_left doer call.ExtTsk log = ends doer log
acts_left doer call.RetInt log = ends_handler doer log
acts_left doer _ log = log

-- an answer of a count: neither E_OK nor a refusal, which is a negative number
abbrev pub is_count : ℕ → Bool
is_count code = nat_lt 0 code && nat_lt code 2147483648

abbrev pub acts_given : Doer → Call → ℕ → ℕ → BoardState → Log → Log
acts_given doer call code second after log =
    if code == 0 then acts_done doer call second after log
    else (if is_count code then acts_taken_back doer call log else log)

abbrev pub acts_answered : Doer → Call → Answer → BoardState → Log → Log
acts_answered doer call (Given code second) after log = acts_given doer call code second after log
acts_answered doer call (Waits reason due) after log = acts_waiting doer call log
acts_answered doer call Again after log = log
acts_answered doer call Never after log = acts_left doer call log

abbrev pub call_in : AskedCall → Option Call
call_in it = option_map (λ a. a.call) (asked it.number it.arguments)

abbrev pub acts_asked : Doer → Option Call → Answer → BoardState → Log → Log
acts_asked doer None answer after log = log
acts_asked doer (Some call) answer after log = acts_answered doer call answer after log

-- a call stands in the way of a load and a SYNC, as an access does
abbrev pub calls : Doer → CallMade → BoardState → Log → Log
calls doer made after log = acts_asked doer (call_in made.asked) made.answer after (settled doer.strand log)

-- The wait of a task ended: with what it waited for (E_OK), by rel_wai (E_RLWAI), or in time.

abbrev pub acts_waited : Option ℕ → Doer → ℕ → ℕ → Option Call → Log → Log
acts_waited caller doer code second None log = log
acts_waited caller doer code second (Some call) log =
    if code == 0 then acts_taken caller doer call second log else log

abbrev pub released : Stamp → Option ℕ → Release → Log → Log
released stamp caller it log =
    if it.code == 4294967247 then goes_on stamp it.task log
    else
    acts_waited caller (record { strand = it.task; cpu = 0; stamp = stamp }) it.code it.second (call_in it.asked)
    log
