-- Each event leaves each spin lock free or with exactly one holder, and takes it from nobody but the processor that
-- makes a step.
use Rattle.std.proofs.Common.{◌≡◌, ℕ, List, [], ◌∷◌, refl, sym, ap, subst, ◌∙◌}
use Rattle.std.proofs.lemmas.Bool.{false≢true}
use Rattle.std.specs.Prelude.{Bool, true, false, ◌==◌, nat_lt, if◌then◌else◌, slice_index_or, Option, None, Some, is_some, unwrap_or, Ok}
use Rattle.brd_exec.specs.declared.outcome.Outcome.{Outcome}
use Rattle.brd_exec.specs.declared.outcome.Outcome.TheVariants.{Done, Syscall, Exception}
use Rattle.brd_link.specs.LinkSet.{LinkSet}
use Rattle.brd_mem.specs.Memory.{Memory}
use Rattle.brd_mem.specs.declared.image.Image.{Image}
use Rattle.brd_config.specs.Configuration.{Configuration}
use Rattle.brd_tasks.specs.declared.task.TaskSetup.{TaskSetup}
use Rattle.brd_objects.specs.declared.block.PoolSetup.{PoolSetup}
use Rattle.brd_tasks.specs.declared.task.Request.TheVariants.{Assigned}
use Rattle.brd_tasks.specs.Tasks.{activated}
use Rattle.brd_time.specs.Time.{last_count, advanced}
use Rattle.brd_kernel.specs.declared.processor.LineSetup.{LineSetup}
use Rattle.brd_kernel.specs.declared.processor.Processor.{Processor}
use Rattle.brd_kernel.specs.declared.processor.Spin.TheVariants as spin
use Rattle.brd_kernel.specs.declared.processor.Executor.{Executor}
use Rattle.brd_kernel.specs.Kernel.{KernelState, with_tasks, processor_at, running_in, running_on, executor_in, executor_on, with_context_of, holds, spin_of, accepted_line, deliverable, can_be_raised, with_pending}
use Rattle.brd_board.specs.Executing.{Executed, executed_in, executed}
use Rattle.brd_kernel.specs.Dispatch.{dispatched}
use Rattle.brd_kernel.specs.Holding.{AreLocks}
use Rattle.brd_kernel.specs.Making.{made_kernel}
use Rattle.brd_kernel.specs.Waits.{ticked_on, ended_by_fault}
use Rattle.brd_kernel.specs.Services.{serve_of}
use Rattle.brd_kernel.proofs.who_waits.ListLemmas.{same-number}
use Rattle.brd_kernel.proofs.SameLemmas.{Same, same-context}
use Rattle.brd_kernel.proofs.SpinLemmas.{IsLocking, locks-locking, locking-locks, held-holds, holds-held, free-unheld, Wrote, serve-wrote, fault-wrote, accept-wrote, same-ticked, same-pending, locking-same, wrote-locking, wrote-runs, wrote-executes, dispatch-holds, holder-stays, dispatch-locking, made-locking}
use Rattle.brd_sysgate.specs.Gate.{called}
use Rattle.brd_board.specs.declared.event.Event.{Event}
use Rattle.brd_board.specs.declared.event.Event.TheVariants.{Step, Tick, Raise}
use Rattle.brd_board.specs.Setup.{all_started}
use Rattle.brd_board.specs.Boot.{booted_kernel, boot}
use Rattle.brd_board.specs.Board.{BoardState, Happened, with_executed, happens, happens_on, after, stepped_in, accepts_or_executes, executes_in, instruction_done}
use Rattle.brd_board.specs.SpinLocks.{LocksGoOn}
use Rattle.brd_board.proofs.EventLemmas.{all-started-kept, boot-begins}
use Rattle.brd_board.proofs.CallingLemmas.{Calls, called-leaves}

-- the processor that makes a step in an event
abbrev mover : Event → ℕ → Bool
mover (Step cpu) at = cpu == at
mover Tick at = false
mover (Raise line) at = false

-- What an event, or a part of one, makes of who holds locks: nobody but its mover takes or frees one, and who holds one
-- after it runs what it ran, and executes what it executed.
record Passes (moves : ℕ → Bool) (k new : KernelState) : Type 0 where
  locking : IsLocking new
  others : (at id : ℕ) → moves at ≡ false → holds id (processor_at new at) ≡ holds id (processor_at k at)
  runs : (at id : ℕ) → holds id (processor_at new at) ≡ true → running_on new at ≡ running_on k at
  executes : (at id : ℕ) → holds id (processor_at new at) ≡ true → executor_on new at ≡ executor_on k at

same-passes : (moves : ℕ → Bool) (k new : KernelState) → IsLocking k → Same new k → Passes moves k new
same-passes moves k new was same = record {
  locking = locking-same k new same was;
  others = λ at id other. ap (λ ps. holds id (slice_index_or ps at None)) same.processors;
  runs = λ at id held. ap (λ ps. running_in (slice_index_or ps at None)) same.processors;
  executes = λ at id held. ap (λ ps. executor_in (slice_index_or ps at None)) same.processors;
}

-- then a dispatch
dispatched-passes : (moves : ℕ → Bool) (k mid : KernelState) → Passes moves k mid → Passes moves k (dispatched mid)
dispatched-passes moves k mid was = record {
  locking = dispatch-locking mid was.locking;
  others = λ at id other. dispatch-holds mid at id ∙ was.others at id other;
  runs = λ at id held.
      let holding : holds id (processor_at mid at) ≡ true = sym (dispatch-holds mid at id) ∙ held in
      ap running_in (holder-stays mid at id was.locking holding) ∙ was.runs at id holding;
  executes = λ at id held.
      let holding : holds id (processor_at mid at) ≡ true = sym (dispatch-holds mid at id) ∙ held in
      ap executor_in (holder-stays mid at id was.locking holding) ∙ was.executes at id holding;
}

wrote-passes : (k new : KernelState) (cpu : ℕ) → IsLocking k → Wrote k cpu new → Passes (λ at. cpu == at) k new
wrote-passes k new cpu was wrote = record {
  locking = wrote-locking k new cpu wrote was;
  others = λ at id other. ap (holds id) (wrote.others at other);
  runs = λ at id held. wrote-runs k new cpu at wrote;
  executes = λ at id held. wrote-executes k new cpu at id wrote held;
}

-- Service calls.

-- a part of an event after or before what changes no processor
passes-same : (moves : ℕ → Bool) (k mid new : KernelState) → Passes moves k mid → Same new mid → Passes moves k new
passes-same moves k mid new was same = record {
  locking = locking-same mid new same was.locking;
  others = λ at id other. ap (λ ps. holds id (slice_index_or ps at None)) same.processors ∙ was.others at id other;
  runs = λ at id held. ap (λ ps. running_in (slice_index_or ps at None)) same.processors
      ∙ was.runs at id (sym (ap (λ ps. holds id (slice_index_or ps at None)) same.processors) ∙ held);
  executes = λ at id held. ap (λ ps. executor_in (slice_index_or ps at None)) same.processors
      ∙ was.executes at id (sym (ap (λ ps. holds id (slice_index_or ps at None)) same.processors) ∙ held);
}

passes-from : (moves : ℕ → Bool) (k mid new : KernelState) → Same mid k → Passes moves mid new → Passes moves k new
passes-from moves k mid new same is = record {
  locking = is.locking;
  others = λ at id other. is.others at id other ∙ ap (λ ps. holds id (slice_index_or ps at None)) same.processors;
  runs = λ at id held. is.runs at id held ∙ ap (λ ps. running_in (slice_index_or ps at None)) same.processors;
  executes = λ at id held. is.executes at id held ∙ ap (λ ps. executor_in (slice_index_or ps at None)) same.processors;
}

calls-pass : (k : KernelState) (cpu : ℕ) → IsLocking k →
    Calls (λ now. Same now k) (λ new. Passes (λ at. cpu == at) k new) k cpu
calls-pass k cpu was = record {
  quiet = λ now same. same-passes (λ at. cpu == at) k now was same;
  goes_on = λ now who s same.
      let on : Same (with_context_of now cpu who s) now = same-context now cpu who s in
      record {
        processors = on.processors ∙ same.processors;
        spin_locks = on.spin_locks ∙ same.spin_locks;
        standard = on.standard ∙ same.standard;
      };
  replies = λ now who s left. passes-same (λ at. cpu == at) k now (with_context_of now cpu who s) left
      (same-context now cpu who s);
  serves = λ now p c same there may is.
      passes-from (λ at. cpu == at) k now (serve_of now cpu c).kernel is
      (wrote-passes now (serve_of now cpu c).kernel cpu (locking-same k now is was)
      (serve-wrote now cpu p c there may (locking-same k now is was)));
}

called-passes : (k : KernelState) (cpu : ℕ) → IsLocking k → Passes (λ at. cpu == at) k (called k cpu)
called-passes k cpu was = called-leaves k cpu (calls-pass k cpu was) (record { processors = refl; spin_locks = refl; standard = refl })

-- An instruction.

executed-same : (k : KernelState) (cpu : ℕ) (memory : Memory) (links : LinkSet) (who : Option Executor) (e : Executed) →
    executed_in k cpu memory links who ≡ Some e → Same e.kernel k
executed-same k cpu memory links None e is = absurd (false≢true (ap is_some is))
executed-same k cpu memory links (Some who) e is =
    subst (λ (x : KernelState). Same x k) (ap (λ (o : Option Executed). (unwrap_or o e).kernel) is)
    (same-context k cpu who _)

done-passes : (b c : BoardState) (cpu address : ℕ) (outcome : Outcome) → IsLocking b.kernel → Same c.kernel b.kernel →
    Passes (λ at. cpu == at) b.kernel (instruction_done c cpu address outcome).board.kernel
done-passes b c cpu address Done was same = same-passes (λ at. cpu == at) b.kernel c.kernel was same
done-passes b c cpu address Syscall was same =
    let on : IsLocking c.kernel = locking-same b.kernel c.kernel same was in
    dispatched-passes (λ at. cpu == at) b.kernel (called c.kernel cpu)
    (passes-from (λ at. cpu == at) b.kernel c.kernel (called c.kernel cpu) same (called-passes c.kernel cpu on))
done-passes b c cpu address (Exception code epc bd) was same =
    let on : IsLocking c.kernel = locking-same b.kernel c.kernel same was in
    dispatched-passes (λ at. cpu == at) b.kernel (ended_by_fault c.kernel cpu)
    (passes-from (λ at. cpu == at) b.kernel c.kernel (ended_by_fault c.kernel cpu) same
    (wrote-passes c.kernel (ended_by_fault c.kernel cpu) cpu on (fault-wrote c.kernel cpu on)))

quiet : (moves : ℕ → Bool) (k : KernelState) → IsLocking k → Passes moves k k
quiet moves k was = same-passes moves k k was (record { processors = refl; spin_locks = refl; standard = refl })

executes-passes : (b : BoardState) (cpu : ℕ) (done : Option Executed) → executed b.kernel cpu b.memory b.links ≡ done →
    IsLocking b.kernel →
    Passes (λ at. cpu == at) b.kernel (executes_in b cpu done).board.kernel
executes-passes b cpu None is was = quiet (λ at. cpu == at) b.kernel was
executes-passes b cpu (Some e) is was =
    done-passes b (with_executed b e) cpu e.ended.address e.ended.outcome was
    (executed-same b.kernel cpu b.memory b.links (executor_on b.kernel cpu) e is)

-- Steps and other events.

accepts-passes : (b : BoardState) (cpu : ℕ) (line : Option ℕ) → deliverable b.kernel cpu ≡ line → IsLocking b.kernel →
    Passes (λ at. cpu == at) b.kernel (accepts_or_executes b cpu line).board.kernel
accepts-passes b cpu None is was = executes-passes b cpu (executed b.kernel cpu b.memory b.links) refl was
accepts-passes b cpu (Some line) is was =
    dispatched-passes (λ at. cpu == at) b.kernel (accepted_line b.kernel cpu line)
    (wrote-passes b.kernel (accepted_line b.kernel cpu line) cpu was (accept-wrote b.kernel cpu line is was))

either : (P : KernelState → Type 0) (test : Bool) (one other : Happened) → P one.board.kernel → P other.board.kernel →
    P (if test then one else other).board.kernel
either P true one other first second = first
either P false one other first second = second

stepped-passes : (b : BoardState) (cpu : ℕ) (found : Option Processor) → IsLocking b.kernel →
    Passes (λ at. cpu == at) b.kernel (stepped_in b cpu found).board.kernel
stepped-passes b cpu None was = quiet (λ at. cpu == at) b.kernel was
stepped-passes b cpu (Some p) was =
    either (Passes (λ at. cpu == at) b.kernel) p.stopped _ _ (quiet (λ at. cpu == at) b.kernel was)
    (accepts-passes b cpu (deliverable b.kernel cpu) refl was)

on-passes : (b : BoardState) (event : Event) → IsLocking b.kernel →
    Passes (mover event) b.kernel (happens_on b event).board.kernel
on-passes b (Step cpu) was = stepped-passes b cpu (processor_at b.kernel cpu) was
on-passes b Tick was =
    either (Passes (mover Tick) b.kernel) (nat_lt b.kernel.time.count last_count) _ _
    (dispatched-passes (mover Tick) b.kernel (ticked_on b.kernel (advanced b.kernel.time))
    (same-passes (mover Tick) b.kernel (ticked_on b.kernel (advanced b.kernel.time)) was (same-ticked b.kernel)))
    (quiet (mover Tick) b.kernel was)
on-passes b (Raise line) was =
    either (Passes (mover (Raise line)) b.kernel) (can_be_raised b.kernel line) _ _
    (same-passes (mover (Raise line)) b.kernel (with_pending b.kernel line) was (same-pending b.kernel line))
    (quiet (mover (Raise line)) b.kernel was)

happens-passes : (b : BoardState) (event : Event) → IsLocking b.kernel →
    Passes (mover event) b.kernel (happens b event).board.kernel
unfolding happens
happens-passes b event was =
    either (Passes (mover event) b.kernel) b.kernel.off _ _ (quiet (mover event) b.kernel was) (on-passes b event was)

pub happens-locks : (b : BoardState) (event : Event) → AreLocks b.kernel → AreLocks (happens b event).board.kernel
happens-locks b event was =
    locking-locks (happens b event).board.kernel (happens-passes b event (locks-locking b.kernel was)).locking

after-locking : (b : BoardState) (events : List Event) → IsLocking b.kernel → IsLocking (after b events).kernel
after-locking b [] was = was
after-locking b (event ∷ events) was = after-locking (happens b event).board events (happens-passes b event was).locking

-- Boot.

booted-locking : (config : Configuration) (s : List TaskSetup) (l : List LineSetup) (p : List PoolSetup) →
    IsLocking (booted_kernel s l p config)
booted-locking config s l p =
    let first : KernelState =
    made_kernel config.standard config.processors s l config.semaphores config.flags config.queues config.spin_locks config.mutexes p config.mailboxes in
    dispatch-locking (with_tasks first (all_started first.tasks config.tasks))
    (all-started-kept {P = IsLocking}
    (λ k id was. locking-same k (with_tasks k (activated k.tasks id Assigned))
    (record { processors = refl; spin_locks = refl; standard = refl }) was) first config.tasks
    (made-locking first config.processors refl))

boot-locking : (image : Image) (config : Configuration) (b : BoardState) (events : List Event) →
    boot image config ≡ Ok b →
    IsLocking (after b events).kernel
boot-locking image config b events is =
    after-locking b events
    (boot-begins (λ x. IsLocking x.kernel) image config b (λ s l p m good. booted-locking config s l p) is)

pub boot-locks : (image : Image) (config : Configuration) (b : BoardState) (events : List Event) →
    boot image config ≡ Ok b →
    AreLocks (after b events).kernel
boot-locks image config b events is = locking-locks (after b events).kernel (boot-locking image config b events is)

-- Who goes on holding.

not-step : (here : Bool) (cpu at : ℕ) → (cpu == at) ≡ here → (Step cpu ≡ Step at → ⊥) → here ≡ false
not-step true cpu at test other = absurd (other (ap Step (same-number cpu at test)))
not-step false cpu at test other = refl

other-moves : (event : Event) (cpu : ℕ) → (event ≡ Step cpu → ⊥) → mover event cpu ≡ false
other-moves (Step at) cpu other = not-step (at == cpu) at cpu refl other
other-moves Tick cpu other = refl
other-moves (Raise line) cpu other = refl

-- the mover is the processor that steps
moves-step : (event : Event) (cpu : ℕ) → mover event cpu ≡ true → event ≡ Step cpu
moves-step (Step at) cpu is = ap Step (same-number at cpu is)
moves-step Tick cpu is = absurd (false≢true is)
moves-step (Raise line) cpu is = absurd (false≢true is)

-- who holds a lock after an event held it before, or moved
taken-by : (moves : Bool) (event : Event) (b : BoardState) (new : KernelState) (id cpu : ℕ) → mover event cpu ≡ moves →
    Passes (mover event) b.kernel new →
    spin_of b.kernel id ≡ Some spin.Free → IsLocking b.kernel → holds id (processor_at new cpu) ≡ true →
    event ≡ Step cpu
taken-by true event b new id cpu test passes free was held = moves-step event cpu test
taken-by false event b new id cpu test passes free was held =
    absurd (false≢true (sym (free-unheld b.kernel id cpu was free) ∙ sym (passes.others cpu id test) ∙ held))

-- two that move are one
one-moves : (event : Event) (cpu other : ℕ) → mover event cpu ≡ true → mover event other ≡ true → other ≡ cpu
one-moves (Step at) cpu other is also = sym (same-number at other also) ∙ same-number at cpu is
one-moves Tick cpu other is also = absurd (false≢true is)
one-moves (Raise line) cpu other is also = absurd (false≢true is)

stays-by : (one two : Bool) (event : Event) (k new : KernelState) (id cpu other : ℕ) → mover event cpu ≡ one →
    mover event other ≡ two →
    Passes (mover event) k new → IsLocking k → holds id (processor_at k cpu) ≡ true → holds id
    (processor_at new other) ≡ true → other ≡ cpu
stays-by true true event k new id cpu other test also passes was held now = one-moves event cpu other test also
stays-by one false event k new id cpu other test also passes was held now =
    was.one cpu other id held (sym (passes.others other id also) ∙ now)
stays-by false two event k new id cpu other test also passes was held now =
    passes.locking.one cpu other id (passes.others cpu id test ∙ held) now

goes-on : (b : BoardState) (event : Event) → IsLocking b.kernel → LocksGoOn b event (happens b event).board
goes-on b event was =
    let new : KernelState = (happens b event).board.kernel in
    let passes : Passes (mover event) b.kernel new = happens-passes b event was in
    record {
      kept = λ id cpu is other.
          holds-held new id cpu passes.locking
          (passes.others cpu id (other-moves event cpu other) ∙ held-holds b.kernel id cpu was is);
      stays = λ id cpu other is now. stays-by (mover event cpu)
          (mover event other) event b.kernel new id cpu other refl refl passes was
          (held-holds b.kernel id cpu was is) (held-holds new id other passes.locking now);
      taken = λ id cpu is now. taken-by (mover event cpu) event b new id cpu refl passes is was
          (held-holds new id cpu passes.locking now);
      runs = λ id cpu now. passes.runs cpu id (held-holds new id cpu passes.locking now);
      executes = λ id cpu now. passes.executes cpu id (held-holds new id cpu passes.locking now);
    }

pub boot-goes-on : (image : Image) (config : Configuration) (b : BoardState) (events : List Event) (event : Event) →
    boot image config ≡ Ok b →
    LocksGoOn (after b events) event (happens (after b events) event).board
boot-goes-on image config b events event is = goes-on (after b events) event (boot-locking image config b events is)
