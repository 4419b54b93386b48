-- Each processor runs the first of its ready tasks: every event either dispatches, or changes neither who runs nor who
-- is ready.
use Rattle.std.proofs.Common.{◌≡◌, ℕ, List, refl, sym, ap, ◌∙◌}
use Rattle.std.specs.Prelude.{Option, None, Ok, slice_index_or}
use Rattle.brd_exec.specs.State.{State}
use Rattle.brd_tasks.specs.Tasks.{top_of}
use Rattle.brd_kernel.specs.declared.processor.Processor.{Processor}
use Rattle.brd_kernel.specs.declared.processor.Executor.{Executor}
use Rattle.brd_kernel.specs.declared.processor.Executor.TheVariants as executor
use Rattle.brd_kernel.specs.Kernel.{KernelState, with_context_of}
use Rattle.brd_kernel.specs.Dispatch.{IsSettled}
use Rattle.brd_kernel.proofs.DispatchLemmas.{dispatch-settles}
use Rattle.brd_board.proofs.EventLemmas.{Kept, happens-kept, after-kept, boot-begins}
use Rattle.brd_board.specs.declared.event.Event.{Event}
use Rattle.brd_mem.specs.declared.image.Image.{Image}
use Rattle.brd_config.specs.Configuration.{Configuration}
use Rattle.brd_board.specs.Boot.{boot}
use Rattle.brd_tasks.specs.Tasks.{made}
use Rattle.brd_kernel.specs.Kernel.{with_tasks}
use Rattle.brd_kernel.specs.Making.{made_kernel}
use Rattle.brd_board.specs.Setup.{all_started}
use Rattle.brd_board.specs.Board.{BoardState, happens, after}

-- who runs and who is ready are the same
record IsSame (new old : KernelState) : Type 0 where
  processors : new.processors ≡ old.processors
  first : (cpu : ℕ) → top_of new.tasks cpu ≡ top_of old.tasks cpu

same-settled : (new old : KernelState) → IsSame new old → IsSettled old → IsSettled new
same-settled new old same settled cpu p is free =
    settled cpu p (ap (λ (ps : List (Option Processor)). slice_index_or ps cpu None) (sym same.processors) ∙ is) free
    ∙ sym (same.first cpu)

-- an instruction writes one context anew
context-same : (k : KernelState) (cpu : ℕ) (who : Executor) (s : State) → IsSame (with_context_of k cpu who s) k
context-same k cpu executor.Handler s = record { processors = refl; first = λ at. refl }
context-same k cpu (executor.Task id) s = record { processors = refl; first = λ at. refl }

settled-kept : Kept IsSettled (λ k. Unit {0})
settled-kept = record {
  context = λ k cpu who s settled. same-settled (with_context_of k cpu who s) k (context-same k cpu who s) settled;
  call = λ k cpu settled. tt;
  fault = λ k cpu p there on settled. tt;
  accept = λ k cpu line settled. tt;
  tick = λ k settled. tt;
  raise = λ k line settled. settled;
  dispatch = λ k any. dispatch-settles k;
}

pub happens-settled : (b : BoardState) (event : Event) → IsSettled b.kernel → IsSettled (happens b event).board.kernel
happens-settled b event settled = happens-kept settled-kept b event settled

pub boot-settled : (image : Image) (config : Configuration) (b : BoardState) (events : List Event) → boot image config ≡ Ok b → IsSettled (after b events).kernel
boot-settled image config b events is =
    after-kept settled-kept b events
    (boot-begins (λ x. IsSettled x.kernel) image config b
    (λ s l p m good. dispatch-settles (with_tasks (made_kernel config.standard config.processors s l config.semaphores config.flags config.queues config.spin_locks config.mutexes p config.mailboxes) (all_started (made s) config.tasks)))
    is)
