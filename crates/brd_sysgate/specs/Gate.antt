-- The gate of service calls: the call that a context asks for, by its number in $v0 and its arguments in $a0 to $a3.
use Rattle.std.specs.Prelude.{ℕ, ◌==◌, nat_lt, Bool, true, false, not, ◌&&◌, ◌||◌}
use Rattle.std.specs.Prelude.{if◌then◌else◌, List, [], ◌∷◌, ◌++◌, find, codes}
use Rattle.std.specs.Prelude.{slice_index, is_some, Option, None, Some, Result, Ok, Err}
use Rattle.std.specs.Option.{option_map}
use Rattle.brd_exec.specs.State.{State, read, advanced}
use Rattle.brd_tasks.specs.Tasks.{answered}
use Rattle.brd_kernel.specs.declared.call.Call.{Call}
use Rattle.brd_kernel.specs.declared.call.Call.TheVariants as call
use Rattle.brd_kernel.specs.declared.call.Sensed.TheVariants as sense
use Rattle.brd_kernel.specs.declared.call.Ercd.{Ercd}
use Rattle.brd_kernel.specs.declared.call.Ercd.TheVariants.{Rsfn, Ctx}
use Rattle.brd_kernel.specs.declared.call.Reply.{Reply}
use Rattle.brd_kernel.specs.declared.call.Reply.TheVariants.{Answer, Silent, Again}
use Rattle.brd_kernel.specs.declared.processor.Processor.{Processor}
use Rattle.brd_kernel.specs.declared.processor.Executor.{Executor}
use Rattle.brd_kernel.specs.Answer.{code_of}
use Rattle.brd_kernel.specs.Waits.{forever}
use Rattle.brd_kernel.specs.Row.{Served}
use Rattle.brd_kernel.specs.Services.{caller_on, serve_of, comes_again}
use Rattle.brd_kernel.specs.Kernel.{KernelState, processor_at, executor_on, context_of, with_context_of, context_on}
use Rattle.brd_sysgate.specs.declared.gate.Agent.{Agent}
use Rattle.brd_sysgate.specs.declared.gate.Agent.TheVariants.{Task, Handler}
use Rattle.brd_sysgate.specs.declared.gate.Caller.{Caller}
use Rattle.brd_sysgate.specs.declared.place.Place.{Place}
use Rattle.brd_sysgate.specs.declared.place.Place.TheVariants as place
use Rattle.brd_sysgate.specs.declared.place.Asked.{Asked}

-- a row of the table: a call's number, its name, how many arguments it takes, from where it may come, and what it is by
-- its arguments
pub record Service : Type 0 where
  pub number : ℕ
  pub name : List ℕ
  pub takes : ℕ
  pub place : Place
  pub call : List ℕ → Call

abbrev pub service : ℕ → List ℕ → ℕ → Place → (List ℕ → Call) → Service
service number name takes place call =
    record { number = number; name = name; takes = takes; place = place; call = call }

-- the arguments: $a0, $a1, $a2, $a3

abbrev pub a0 : List ℕ → ℕ
a0 a = slice_index a 0

abbrev pub a1 : List ℕ → ℕ
a1 a = slice_index a 1

abbrev pub a2 : List ℕ → ℕ
a2 a = slice_index a 2

abbrev pub a3 : List ℕ → ℕ
a3 a = slice_index a 3

-- the timeout of a call that only polls (TMO_POL); -1 (TMO_FEVR), which waits without an end, is `forever`
abbrev pub poll : ℕ
poll = 0

-- the calls of every board in the order of their numbers
abbrev pub plain_table : List Service
plain_table =
    service 1 (codes "act_tsk") 1 place.Task (λ a. call.ActTsk (a0 a))
    ∷ service 2 (codes "can_act") 1 place.Task (λ a. call.CanAct (a0 a))
    ∷ service 3 (codes "ext_tsk") 0 place.LockedTask (λ a. call.ExtTsk)
    ∷ service 4 (codes "ter_tsk") 1 place.Task (λ a. call.TerTsk (a0 a))
    ∷ service 5 (codes "chg_pri") 2 place.Task (λ a. call.ChgPri (a0 a) (a1 a))
    ∷ service 6 (codes "get_pri") 1 place.Task (λ a. call.GetPri (a0 a))
    ∷ service 7 (codes "mact_tsk") 2 place.Task (λ a. call.MactTsk (a0 a) (a1 a))
    ∷ service 8 (codes "mig_tsk") 2 place.OnTask (λ a. call.MigTsk (a0 a) (a1 a))
    ∷ service 9 (codes "get_pid") 0 place.Task (λ a. call.GetPid)
    ∷ service 10 (codes "rot_rdq") 1 place.Task (λ a. call.RotRdq (a0 a))
    ∷ service 11 (codes "get_tid") 0 place.Task (λ a. call.GetTid)
    ∷ service 12 (codes "dis_dsp") 0 place.Task (λ a. call.DisDsp)
    ∷ service 13 (codes "ena_dsp") 0 place.Task (λ a. call.EnaDsp)
    ∷ service 14 (codes "loc_cpu") 0 place.LockedTask (λ a. call.LocCpu)
    ∷ service 15 (codes "unl_cpu") 0 place.NotHolding (λ a. call.UnlCpu)
    ∷ service 16 (codes "slp_tsk") 0 place.Waiting (λ a. call.TslpTsk forever)
    ∷ service 17 (codes "tslp_tsk") 1 place.Waiting (λ a. call.TslpTsk (a0 a))
    ∷ service 18 (codes "wup_tsk") 1 place.Task (λ a. call.WupTsk (a0 a))
    ∷ service 19 (codes "can_wup") 1 place.Task (λ a. call.CanWup (a0 a))
    ∷ service 20 (codes "rel_wai") 1 place.Task (λ a. call.RelWai (a0 a))
    ∷ service 21 (codes "sus_tsk") 1 place.OnTask (λ a. call.SusTsk (a0 a))
    ∷ service 22 (codes "rsm_tsk") 1 place.Task (λ a. call.RsmTsk (a0 a))
    ∷ service 23 (codes "dly_tsk") 1 place.Waiting (λ a. call.DlyTsk (a0 a))
    ∷ service 24 (codes "sig_sem") 1 place.Task (λ a. call.SigSem (a0 a))
    ∷ service 25 (codes "wai_sem") 1 place.Waiting (λ a. call.TwaiSem (a0 a) forever)
    ∷ service 26 (codes "pol_sem") 1 place.Task (λ a. call.TwaiSem (a0 a) poll)
    ∷ service 27 (codes "twai_sem") 2 place.Waiting (λ a. call.TwaiSem (a0 a) (a1 a))
    ∷ service 28 (codes "set_flg") 2 place.Task (λ a. call.SetFlg (a0 a) (a1 a))
    ∷ service 29 (codes "clr_flg") 2 place.Task (λ a. call.ClrFlg (a0 a) (a1 a))
    ∷ service 30 (codes "wai_flg") 3 place.Waiting (λ a. call.TwaiFlg (a0 a) (a1 a) (a2 a) forever)
    ∷ service 31 (codes "pol_flg") 3 place.Task (λ a. call.TwaiFlg (a0 a) (a1 a) (a2 a) poll)
    ∷ service 32 (codes "twai_flg") 4 place.Waiting (λ a. call.TwaiFlg (a0 a) (a1 a) (a2 a) (a3 a))
    ∷ service 33 (codes "snd_dtq") 2 place.Waiting (λ a. call.TsndDtq (a0 a) (a1 a) forever)
    ∷ service 34 (codes "psnd_dtq") 2 place.Task (λ a. call.TsndDtq (a0 a) (a1 a) poll)
    ∷ service 35 (codes "tsnd_dtq") 3 place.Waiting (λ a. call.TsndDtq (a0 a) (a1 a) (a2 a))
    ∷ service 36 (codes "fsnd_dtq") 2 place.Task (λ a. call.FsndDtq (a0 a) (a1 a))
    ∷ service 37 (codes "rcv_dtq") 1 place.Waiting (λ a. call.TrcvDtq (a0 a) forever)
    ∷ service 38 (codes "prcv_dtq") 1 place.Task (λ a. call.TrcvDtq (a0 a) poll)
    ∷ service 39 (codes "trcv_dtq") 2 place.Waiting (λ a. call.TrcvDtq (a0 a) (a1 a))
    ∷ service 40 (codes "put_chr") 1 place.Task (λ a. call.PutChr (a0 a))
    ∷ service 41 (codes "ext_ker") 0 place.LockedTask (λ a. call.ExtKer)
    ∷ service 48 (codes "iact_tsk") 1 place.Handler (λ a. call.IactTsk (a0 a))
    ∷ service 49 (codes "iwup_tsk") 1 place.Handler (λ a. call.IwupTsk (a0 a))
    ∷ service 50 (codes "irel_wai") 1 place.Handler (λ a. call.RelWai (a0 a))
    ∷ service 51 (codes "isig_sem") 1 place.Handler (λ a. call.SigSem (a0 a))
    ∷ service 52 (codes "iset_flg") 2 place.Handler (λ a. call.SetFlg (a0 a) (a1 a))
    ∷ service 53 (codes "ipsnd_dtq") 2 place.Handler (λ a. call.TsndDtq (a0 a) (a1 a) poll)
    ∷ service 54 (codes "ifsnd_dtq") 2 place.Handler (λ a. call.FsndDtq (a0 a) (a1 a))
    ∷ service 55 (codes "irot_rdq") 1 place.Handler (λ a. call.IrotRdq (a0 a))
    ∷ service 56 (codes "iget_tid") 0 place.Handler (λ a. call.GetTid)
    ∷ service 57 (codes "imact_tsk") 2 place.Handler (λ a. call.ImactTsk (a0 a) (a1 a))
    ∷ service 58 (codes "ret_int") 0 place.LockedHandler (λ a. call.RetInt)
    ∷ service 60 (codes "loc_spn") 1 place.Task (λ a. call.LocSpn (a0 a))
    ∷ service 61 (codes "try_spn") 1 place.Task (λ a. call.TrySpn (a0 a))
    ∷ service 62 (codes "unl_spn") 1 place.LockedTask (λ a. call.UnlSpn (a0 a))
    ∷ []

-- those of the profile PROFILE(STANDARD), with numbers from 64 on
abbrev pub profile_table : List Service
profile_table =
    service 64 (codes "get_tim") 0 place.Task (λ a. call.GetTim)
    ∷ service 65 (codes "set_tim") 1 place.Task (λ a. call.SetTim (a0 a))
    ∷ service 66 (codes "sns_ctx") 0 place.Anywhere (λ a. call.Sns sense.Context)
    ∷ service 67 (codes "sns_loc") 0 place.Anywhere (λ a. call.Sns sense.Locked)
    ∷ service 68 (codes "sns_dsp") 0 place.Anywhere (λ a. call.Sns sense.Disabled)
    ∷ service 69 (codes "sns_dpn") 0 place.Anywhere (λ a. call.Sns sense.Pending)
    ∷ service 70 (codes "frsm_tsk") 1 place.Task (λ a. call.RsmTsk (a0 a))
    ∷ service 71 (codes "mget_tid") 1 place.Task (λ a. call.MgetTid (a0 a))
    ∷ service 72 (codes "mrot_rdq") 2 place.Task (λ a. call.MrotRdq (a0 a) (a1 a))
    ∷ service 73 (codes "ref_tsk") 2 place.Task (λ a. call.RefTsk (a0 a) (a1 a))
    ∷ service 74 (codes "ref_sem") 2 place.Task (λ a. call.RefSem (a0 a) (a1 a))
    ∷ service 75 (codes "ref_flg") 2 place.Task (λ a. call.RefFlg (a0 a) (a1 a))
    ∷ service 76 (codes "ref_dtq") 2 place.Task (λ a. call.RefDtq (a0 a) (a1 a))
    ∷ service 77 (codes "loc_mtx") 1 place.Waiting (λ a. call.TlocMtx (a0 a) forever)
    ∷ service 78 (codes "ploc_mtx") 1 place.Task (λ a. call.TlocMtx (a0 a) poll)
    ∷ service 79 (codes "tloc_mtx") 2 place.Waiting (λ a. call.TlocMtx (a0 a) (a1 a))
    ∷ service 80 (codes "unl_mtx") 1 place.Task (λ a. call.UnlMtx (a0 a))
    ∷ service 81 (codes "ref_mtx") 2 place.Task (λ a. call.RefMtx (a0 a) (a1 a))
    ∷ service 82 (codes "get_mpf") 1 place.Waiting (λ a. call.TgetMpf (a0 a) forever)
    ∷ service 83 (codes "pget_mpf") 1 place.Task (λ a. call.TgetMpf (a0 a) poll)
    ∷ service 84 (codes "tget_mpf") 2 place.Waiting (λ a. call.TgetMpf (a0 a) (a1 a))
    ∷ service 85 (codes "rel_mpf") 2 place.Task (λ a. call.RelMpf (a0 a) (a1 a))
    ∷ service 86 (codes "snd_mbx") 3 place.Task (λ a. call.SndMbx (a0 a) (a1 a) (a2 a))
    ∷ service 87 (codes "isnd_mbx") 3 place.Handler (λ a. call.SndMbx (a0 a) (a1 a) (a2 a))
    ∷ service 88 (codes "rcv_mbx") 1 place.Waiting (λ a. call.TrcvMbx (a0 a) forever)
    ∷ service 89 (codes "prcv_mbx") 1 place.Task (λ a. call.TrcvMbx (a0 a) poll)
    ∷ service 90 (codes "trcv_mbx") 2 place.Waiting (λ a. call.TrcvMbx (a0 a) (a1 a))
    ∷ service 91 (codes "ref_mpf") 2 place.Task (λ a. call.RefMpf (a0 a) (a1 a))
    ∷ service 92 (codes "ref_mbx") 2 place.Task (λ a. call.RefMbx (a0 a) (a1 a))
    ∷ service 93 (codes "sta_cyc") 1 place.Task (λ a. call.StaCyc (a0 a))
    ∷ service 94 (codes "stp_cyc") 1 place.Task (λ a. call.StpCyc (a0 a))
    ∷ service 95 (codes "sta_alm") 2 place.Task (λ a. call.StaAlm (a0 a) (a1 a))
    ∷ service 96 (codes "ista_alm") 2 place.Handler (λ a. call.StaAlm (a0 a) (a1 a))
    ∷ service 97 (codes "stp_alm") 1 place.Task (λ a. call.StpAlm (a0 a))
    ∷ service 98 (codes "istp_alm") 1 place.Handler (λ a. call.StpAlm (a0 a))
    ∷ service 99 (codes "ref_cyc") 2 place.Task (λ a. call.RefCyc (a0 a) (a1 a))
    ∷ service 100 (codes "ref_alm") 2 place.Task (λ a. call.RefAlm (a0 a) (a1 a))
    ∷ service 101 (codes "iloc_cpu") 0 place.LockedHandler (λ a. call.LocCpu)
    ∷ service 102 (codes "iunl_cpu") 0 place.NotHoldingHandler (λ a. call.UnlCpu)
    ∷ service 103 (codes "iloc_spn") 1 place.Handler (λ a. call.LocSpn (a0 a))
    ∷ service 104 (codes "itry_spn") 1 place.Handler (λ a. call.TrySpn (a0 a))
    ∷ service 105 (codes "iunl_spn") 1 place.LockedHandler (λ a. call.UnlSpn (a0 a))
    ∷ service 112 (codes "iget_pid") 0 place.Handler (λ a. call.GetPid)
    ∷ []

-- all calls
abbrev pub table : List Service
table = plain_table ++ profile_table

-- the calls of a board with the profile, or without; every other number is E_RSFN
abbrev pub table_of : Bool → List Service
table_of false = plain_table
table_of true = table

-- the number 0 or one's own
unfoldable pub is_oneself : ℕ → ℕ → Bool
is_oneself id named = named == 0 || named == id

-- whether a call of that place may come from an agent; `named` is its first argument
abbrev pub may_call : Agent → Place → ℕ → Bool
may_call (Task id locked disabled holding) place.Task named = not locked
may_call (Task id locked disabled holding) place.LockedTask named = true
may_call (Task id locked disabled holding) place.NotHolding named = not holding
may_call (Task id locked disabled holding) place.Waiting named = not locked && not disabled
may_call (Task id locked disabled holding) place.OnTask named = not locked && not (disabled && is_oneself id named)
may_call (Task id locked disabled holding) place.Handler named = false
may_call (Task id locked disabled holding) place.LockedHandler named = false
may_call (Task id locked disabled holding) place.NotHoldingHandler named = false
may_call (Task id locked disabled holding) place.Anywhere named = true
may_call (Handler locked holding) place.Task named = false
may_call (Handler locked holding) place.LockedTask named = false
may_call (Handler locked holding) place.NotHolding named = false
may_call (Handler locked holding) place.Waiting named = false
may_call (Handler locked holding) place.OnTask named = false
may_call (Handler locked holding) place.Handler named = not locked
may_call (Handler locked holding) place.LockedHandler named = true
may_call (Handler locked holding) place.NotHoldingHandler named = not holding
may_call (Handler locked holding) place.Anywhere named = true

-- the row of a number in a table
abbrev pub row_in : List Service → ℕ → Option Service
row_in services number = find (λ s. s.number == number) services

-- the name of a call there, and how many arguments it takes
abbrev pub name_in : List Service → ℕ → Option (List ℕ × ℕ)
name_in services number = option_map (λ s. (s.name, s.takes)) (row_in services number)

-- from where it may come, and what it is
abbrev pub asked_in : List Service → ℕ → List ℕ → Option Asked
asked_in services number a = option_map (λ s. record { place = s.place; call = s.call a }) (row_in services number)

-- The same of all calls.

abbrev pub row_of : ℕ → Option Service
row_of number = row_in table number

abbrev pub name_of : ℕ → Option (List ℕ × ℕ)
name_of number = name_in table number

abbrev pub asked : ℕ → List ℕ → Option Asked
asked number a = asked_in table number a

-- $a0 to $a3
abbrev pub arguments_of : State → List ℕ
arguments_of s = read s 4 ∷ read s 5 ∷ read s 6 ∷ read s 7 ∷ []

abbrev pub allowed : Agent → ℕ → Option Asked → Result Call Ercd
allowed agent named None = Err Rsfn
allowed agent named (Some it) = if may_call agent it.place named then Ok it.call else Err Ctx

-- E_RSFN before E_CTX, both before what the kernel tests
abbrev pub read_of : State → Caller → Result Call Ercd
read_of s caller =
    allowed caller.agent (read s 4) (asked_in (table_of caller.standard) (read s 2) (arguments_of s))

-- what a reply writes
abbrev pub written : State → Reply → State
written s (Answer code second) = answered s code second
written s Silent = s
written s Again = s

-- The numbers rise, so no two calls have one.

abbrev pub is_above : ℕ → List Service → Bool
is_above number [] = true
is_above number (s ∷ services) = nat_lt number s.number && is_above s.number services

-- all numbers are below this one

abbrev pub are_below : ℕ → List Service → Bool
are_below number [] = true
are_below number (s ∷ services) = nat_lt s.number number && are_below number services

-- The whole of a service call.

abbrev pub agent_by : ℕ → Processor → Option ℕ → Agent
agent_by id p None = Task id p.locked p.disabled (is_some p.spin)
agent_by id p (Some line) = Handler p.locked (is_some p.spin)

-- who makes a call from a processor (where the board has none of that number no call comes, and any agent will do)
abbrev pub agent_in : ℕ → Option Processor → Agent
agent_in id None = Handler false false
agent_in id (Some p) = agent_by id p p.handling

abbrev pub caller_of : KernelState → ℕ → Caller
caller_of k cpu = record { agent = agent_in (caller_on k cpu) (processor_at k cpu); standard = k.standard }

abbrev pub served_call : KernelState → ℕ → Result Call Ercd → Served
served_call k cpu (Ok call) = serve_of k cpu call
served_call k cpu (Err code) = record { kernel = k; reply = Answer (code_of code) None }

abbrev pub changed_in : (State → State) → KernelState → ℕ → Option Executor → KernelState
changed_in change k cpu None = k
changed_in change k cpu (Some who) = with_context_of k cpu who (change (context_of k cpu who))

-- the context in which a processor executes is changed, if it executes
abbrev pub with_changed_context : (State → State) → KernelState → ℕ → KernelState
with_changed_context change k cpu = changed_in change k cpu (executor_on k cpu)

-- the reply is written to the context in which the processor executes after the call
abbrev pub replied : ℕ → Served → KernelState
replied cpu done = with_changed_context (λ s. written s done.reply) done.kernel cpu

-- a call that is let through and is to be made again
abbrev pub is_again : KernelState → Result Call Ercd → Bool
is_again k (Ok call) = comes_again k call
is_again k (Err code) = false

-- what a call does: where it is to be made again nothing; else the context goes on, and then the call is served
abbrev pub called_for : KernelState → ℕ → Result Call Ercd → KernelState
called_for k cpu call =
    if is_again k call then k else replied cpu (served_call (with_changed_context advanced k cpu) cpu call)

abbrev pub called_in : KernelState → ℕ → Caller → Option State → KernelState
called_in k cpu caller None = k
called_in k cpu caller (Some s) = called_for k cpu (read_of s caller)

-- A SYSCALL: the call is read from the registers. Where it is to be made again, context and kernel stay as they are, so
-- that it is the caller's next instruction once more. Else the context goes on as after an ordinary instruction, the
-- call is served, and its reply is written.
unfoldable pub called : KernelState → ℕ → KernelState
called k cpu = called_in k cpu (caller_of k cpu) (context_on k cpu)
