-- One induction for every law of what holds of the kernel after every list of events from a boot.
use Rattle.std.proofs.Common.{◌≡◌, ℕ, List, [], ◌∷◌, ◌++◌, refl, ap, subst, ◌∙◌}
use Rattle.std.proofs.lemmas.Bool.{false≢true}
use Rattle.std.specs.Prelude.{Bool, true, false, Option, None, Some, Result, Ok, Err, unwrap_or, is_some, nat_lt, if◌then◌else◌, slice_index_or}
use Rattle.brd_text.specs.Faults.{◌>>=◌}
use Rattle.brd_exec.specs.State.{State}
use Rattle.brd_exec.specs.declared.outcome.Outcome.{Outcome}
use Rattle.brd_exec.specs.declared.outcome.Outcome.TheVariants.{Done, Syscall, Exception}
use Rattle.brd_link.specs.LinkSet.{LinkSet}
use Rattle.brd_mem.specs.Memory.{Memory}
use Rattle.brd_mem.specs.declared.image.Image.{Image}
use Rattle.brd_config.specs.declared.objects.TaskConfig.{TaskConfig}
use Rattle.brd_config.specs.Configuration.{Configuration}
use Rattle.brd_tasks.specs.declared.task.TaskSetup.{TaskSetup}
use Rattle.brd_objects.specs.declared.block.PoolSetup.{PoolSetup}
use Rattle.brd_tasks.specs.declared.task.Request.TheVariants.{Assigned}
use Rattle.brd_tasks.specs.Tasks.{activated}
use Rattle.brd_time.specs.Time.{last_count, advanced}
use Rattle.brd_kernel.specs.declared.processor.LineSetup.{LineSetup}
use Rattle.brd_kernel.specs.declared.processor.Processor.{Processor}
use Rattle.brd_kernel.specs.declared.processor.Executor.{Executor}
use Rattle.brd_kernel.specs.declared.processor.Executor.TheVariants as executor
use Rattle.brd_kernel.specs.Kernel.{KernelState, with_tasks, processor_at, executor_on, with_context_of, accepted_line, with_pending, deliverable, can_be_raised}
use Rattle.brd_board.specs.Executing.{Executed, executed_in, executed}
use Rattle.brd_kernel.specs.Waits.{ticked_on, ended_by_fault}
use Rattle.brd_kernel.specs.Dispatch.{dispatched}
use Rattle.brd_sysgate.specs.Gate.{called}
use Rattle.brd_board.specs.declared.event.Event.{Event}
use Rattle.brd_board.specs.declared.event.Event.TheVariants.{Step, Tick, Raise}
use Rattle.brd_board.specs.declared.boot.BootFault.{BootFault}
use Rattle.brd_board.specs.Setup.{setups_of, handlers_of, pools_of, cyclics_of, alarms_of, has_ta_act, started_at_boot, all_started}
use Rattle.brd_board.specs.Boot.{booted_kernel, booted_board, boot}
use Rattle.brd_board.specs.Board.{BoardState, Happened, with_executed, happens, happens_on, after, stepped_in, accepts_or_executes, executes_in, instruction_done}

-- What has to be shown of a property `P` that holds between two events. `Q` is what holds of it after an event's
-- effects, before the dispatch that ends the event.
pub record Kept (P Q : KernelState → Type 0) : Type 0 where
  -- an instruction writes a context
  pub context : (k : KernelState) (cpu : ℕ) (who : Executor) (s : State) → P k → P (with_context_of k cpu who s)
  -- a service call; an exception, on a processor that isn't stopped; an accepted interrupt; a tick
  pub call : (k : KernelState) (cpu : ℕ) → P k → Q (called k cpu)
  pub fault : (k : KernelState) (cpu : ℕ) (p : Processor) → processor_at k cpu ≡ Some p → p.stopped ≡ false → P k → Q (ended_by_fault k cpu)
  pub accept : (k : KernelState) (cpu line : ℕ) → P k → Q (accepted_line k cpu line)
  pub tick : (k : KernelState) → P k → Q (ticked_on k (advanced k.time))
  -- an interrupt that is raised, which is followed by no dispatch
  pub raise : (k : KernelState) (line : ℕ) → P k → P (with_pending k line)
  pub dispatch : (k : KernelState) → Q k → P (dispatched k)

-- An instruction.

pub context-processors : (k : KernelState) (cpu : ℕ) (who : Executor) (s : State) → (with_context_of k cpu who s).processors ≡ k.processors
context-processors k cpu executor.Handler s = refl
context-processors k cpu (executor.Task id) s = refl

record IsKept (P : KernelState → Type 0) (k : KernelState) (e : Executed) : Type 0 where
  processors : e.kernel.processors ≡ k.processors
  is : P e.kernel

executed-kept : {P Q : KernelState → Type 0} (kept : Kept P Q) (k : KernelState) (cpu : ℕ) (memory : Memory) (links : LinkSet) (who : Option Executor)
    (e : Executed) → executed_in k cpu memory links who ≡ Some e → P k → IsKept P k e
executed-kept kept k cpu memory links None e is was = absurd (false≢true (ap is_some is))
executed-kept {P = P} kept k cpu memory links (Some who) e is was =
    subst (IsKept P k) (ap (λ (o : Option Executed). unwrap_or o e) is)
    (record { processors = context-processors k cpu who _; is = kept.context k cpu who _ was })

done-kept : {P Q : KernelState → Type 0} (kept : Kept P Q) (b : BoardState) (cpu address : ℕ) (outcome : Outcome) (p : Processor) →
    processor_at b.kernel cpu ≡ Some p → p.stopped ≡ false → P b.kernel → P (instruction_done b cpu address outcome).board.kernel
done-kept kept b cpu address Done p there on was = was
done-kept kept b cpu address Syscall p there on was = kept.dispatch (called b.kernel cpu) (kept.call b.kernel cpu was)
done-kept kept b cpu address (Exception code epc bd) p there on was =
    kept.dispatch (ended_by_fault b.kernel cpu) (kept.fault b.kernel cpu p there on was)

executes-kept : {P Q : KernelState → Type 0} (kept : Kept P Q) (b : BoardState) (cpu : ℕ) (done : Option Executed) (p : Processor) →
    executed b.kernel cpu b.memory b.links ≡ done → processor_at b.kernel cpu ≡ Some p → p.stopped ≡ false → P b.kernel →
    P (executes_in b cpu done).board.kernel
executes-kept kept b cpu None p is there on was = was
executes-kept {P = P} kept b cpu (Some e) p is there on was =
    let left : IsKept P b.kernel e = executed-kept kept b.kernel cpu b.memory b.links (executor_on b.kernel cpu) e is was in
    done-kept kept (with_executed b e) cpu e.ended.address e.ended.outcome p (ap (λ ps. slice_index_or ps cpu None) left.processors ∙ there) on
    left.is

-- A step.

accepts-kept : {P Q : KernelState → Type 0} (kept : Kept P Q) (b : BoardState) (cpu : ℕ) (line : Option ℕ) (p : Processor) →
    processor_at b.kernel cpu ≡ Some p → p.stopped ≡ false → P b.kernel → P (accepts_or_executes b cpu line).board.kernel
accepts-kept kept b cpu None p there on was = executes-kept kept b cpu (executed b.kernel cpu b.memory b.links) p refl there on was
accepts-kept kept b cpu (Some line) p there on was = kept.dispatch (accepted_line b.kernel cpu line) (kept.accept b.kernel cpu line was)

-- where a test decides what happens
either : (P : KernelState → Type 0) (test : Bool) (one other : Happened) → (test ≡ true → P one.board.kernel) → (test ≡ false → P other.board.kernel) →
    P (if test then one else other).board.kernel
either P true one other first second = first refl
either P false one other first second = second refl

step-kept : {P Q : KernelState → Type 0} (kept : Kept P Q) (b : BoardState) (cpu : ℕ) (found : Option Processor) → processor_at b.kernel cpu ≡ found →
    P b.kernel → P (stepped_in b cpu found).board.kernel
step-kept kept b cpu None there was = was
step-kept {P = P} kept b cpu (Some p) there was =
    either P p.stopped _ _ (λ stopped. was) (λ on. accepts-kept kept b cpu (deliverable b.kernel cpu) p there on was)

-- Events.

on-kept : {P Q : KernelState → Type 0} (kept : Kept P Q) (b : BoardState) (event : Event) → P b.kernel → P (happens_on b event).board.kernel
on-kept kept b (Step cpu) was = step-kept kept b cpu (processor_at b.kernel cpu) refl was
on-kept {P = P} kept b Tick was =
    either P (nat_lt b.kernel.time.count last_count) _ _
    (λ counted. kept.dispatch (ticked_on b.kernel (advanced b.kernel.time)) (kept.tick b.kernel was)) (λ over. was)
on-kept {P = P} kept b (Raise line) was =
    either P (can_be_raised b.kernel line) _ _ (λ handled. kept.raise b.kernel line was) (λ none. was)

pub happens-kept : {P Q : KernelState → Type 0} (kept : Kept P Q) (b : BoardState) (event : Event) → P b.kernel → P (happens b event).board.kernel
unfolding happens
happens-kept {P = P} kept b event was = either P b.kernel.off _ _ (λ off. was) (λ on. on-kept kept b event was)

pub after-kept : {P Q : KernelState → Type 0} (kept : Kept P Q) (b : BoardState) (events : List Event) → P b.kernel → P (after b events).kernel
after-kept kept b [] was = was
after-kept kept b (event ∷ events) was = after-kept kept (happens b event).board events (happens-kept kept b event was)

-- Boot.

started-if : {P : KernelState → Type 0} → ((k : KernelState) (id : ℕ) → P k → P (with_tasks k (activated k.tasks id Assigned))) → (test : Bool) (k : KernelState)
    (id : ℕ) → P k → P (with_tasks k (if test then activated k.tasks id Assigned else k.tasks))
started-if start true k id was = start k id was
started-if start false k id was = was

-- tasks are started one after the other
pub all-started-kept : {P : KernelState → Type 0} → ((k : KernelState) (id : ℕ) → P k → P (with_tasks k (activated k.tasks id Assigned))) →
    (k : KernelState) (tasks : List TaskConfig) → P k → P (with_tasks k (all_started k.tasks tasks))
all-started-kept start k [] was = was
all-started-kept start k (task ∷ tasks) was =
    all-started-kept start (with_tasks k (started_at_boot k.tasks task)) tasks (started-if start (has_ta_act task) k task.id was)

-- what holds of a board that was booted
abbrev IsBooted : (BoardState → Type 0) → Result BoardState BootFault → Type 0
IsBooted P (Ok b) = P b
IsBooted P (Err fault) = Unit {0}

abbrev pub Begins : (BoardState → Type 0) → Configuration → Result (List TaskSetup) BootFault → Type 0
Begins P config setups =
    (s : List TaskSetup) (l : List LineSetup) (p : List PoolSetup) (m : Memory) → setups ≡ Ok s → P (booted_board (booted_kernel s l p config) m)

booted-by : (P : BoardState → Type 0) (config : Configuration) (memory : Result Memory BootFault) (setups : Result (List TaskSetup) BootFault)
    (lines : Result (List LineSetup) BootFault) (pools : Result (List PoolSetup) BootFault) (cyclics alarms : Result (List LineSetup) BootFault) → Begins P config setups →
    IsBooted P (memory >>= (λ m. setups >>= (λ s. lines >>= (λ l. pools >>= (λ p. cyclics >>= (λ c. alarms >>= (λ a. Ok (booted_board (booted_kernel s ((l ++ c) ++ a) p config) m))))))))
booted-by P config (Err fault) setups lines pools cyclics alarms begins = tt
booted-by P config (Ok m) (Err fault) lines pools cyclics alarms begins = tt
booted-by P config (Ok m) (Ok s) (Err fault) pools cyclics alarms begins = tt
booted-by P config (Ok m) (Ok s) (Ok l) (Err fault) cyclics alarms begins = tt
booted-by P config (Ok m) (Ok s) (Ok l) (Ok p) (Err fault) alarms begins = tt
booted-by P config (Ok m) (Ok s) (Ok l) (Ok p) (Ok c) (Err fault) begins = tt
booted-by P config (Ok m) (Ok s) (Ok l) (Ok p) (Ok c) (Ok a) begins = begins s ((l ++ c) ++ a) p m refl

booted : (P : BoardState → Type 0) (image : Image) (config : Configuration) → Begins P config (setups_of config.ram image.symbols config.tasks) →
    IsBooted P (boot image config)
unfolding boot
booted P image config begins =
    booted-by P config _ (setups_of config.ram image.symbols config.tasks) (handlers_of config.ram image.symbols config.handlers)
    (pools_of config.ram image.symbols config.tasks config.pools) (cyclics_of config.ram image.symbols config.cyclics)
    (alarms_of config.ram image.symbols config.alarms) begins

-- what holds of each board that boot may make, holds of the one that it makes
pub boot-begins : (P : BoardState → Type 0) (image : Image) (config : Configuration) (b : BoardState) →
    Begins P config (setups_of config.ram image.symbols config.tasks) → boot image config ≡ Ok b →
    P b
boot-begins P image config b begins is = subst (IsBooted P) is (booted P image config begins)
