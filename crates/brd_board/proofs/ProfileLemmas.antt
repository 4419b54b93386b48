-- After every list of events from a boot the kernel has the profile just where its configuration asks for it.
use Rattle.std.proofs.Common.{◌≡◌, ◌<◌, ℕ, Bool, false, List, refl, ◌∙◌}
use Rattle.std.specs.Prelude.{Ok, Err}
use Rattle.brd_mem.specs.declared.image.Image.{Image}
use Rattle.brd_config.specs.Configuration.{Configuration}
use Rattle.brd_exec.specs.State.{State, read}
use Rattle.brd_kernel.specs.declared.processor.Executor.{Executor}
use Rattle.brd_kernel.specs.declared.processor.Executor.TheVariants as executor
use Rattle.brd_kernel.specs.declared.call.Ercd.TheVariants.{Rsfn}
use Rattle.brd_kernel.specs.Kernel.{KernelState, with_context_of}
use Rattle.brd_kernel.proofs.ProfileLemmas.{AlikeTo, serve-alike, ticked-on-alike, fault-alike, accepted-alike}
use Rattle.brd_sysgate.specs.Gate.{caller_of, read_of}
use Rattle.brd_sysgate.proofs.TableLemmas.{profile-refused}
use Rattle.brd_board.specs.declared.event.Event.{Event}
use Rattle.brd_board.specs.Boot.{boot}
use Rattle.brd_board.specs.Board.{BoardState, after}
use Rattle.brd_board.proofs.EventLemmas.{Kept, after-kept, boot-begins}
use Rattle.brd_board.proofs.CallingLemmas.{Calls, called-leaves}

-- a kernel that has the profile, or not
abbrev Has : Bool → KernelState → Type 0
Has standard k = k.standard ≡ standard

context-alike : (k : KernelState) (cpu : ℕ) (who : Executor) (s : State) → AlikeTo k (with_context_of k cpu who s)
context-alike k cpu executor.Handler s = refl
context-alike k cpu (executor.Task id) s = refl

calls-alike : (standard : Bool) (k : KernelState) (cpu : ℕ) → Calls (Has standard) (Has standard) k cpu
calls-alike standard k cpu = record {
  quiet = λ now was. was;
  goes_on = λ now who s was. context-alike now cpu who s ∙ was;
  replies = λ now who s was. context-alike now cpu who s ∙ was;
  serves = λ now p c same there may was. serve-alike now cpu c ∙ was;
}

has-kept : (standard : Bool) → Kept (Has standard) (Has standard)
has-kept standard = record {
  context = λ k cpu who s was. context-alike k cpu who s ∙ was;
  call = λ k cpu was. called-leaves k cpu (calls-alike standard k cpu) was;
  fault = λ k cpu p there on was. fault-alike k cpu ∙ was;
  accept = λ k cpu line was. accepted-alike k cpu line ∙ was;
  tick = λ k was. ticked-on-alike k ∙ was;
  raise = λ k line was. was;
  dispatch = λ k was. was;
}

pub profile-stays : (image : Image) (config : Configuration) (b : BoardState) (events : List Event) → boot image config ≡ Ok b →
    (after b events).kernel.standard ≡ config.standard
profile-stays image config b events is =
    after-kept (has-kept config.standard) b events
    (boot-begins (λ x. x.kernel.standard ≡ config.standard) image config b (λ s l p m good. refl) is)

pub more-refused : (image : Image) (config : Configuration) (b : BoardState) (events : List Event) (s : State) (cpu : ℕ) →
    boot image config ≡ Ok b → config.standard ≡ false → 62 < read s 2 → read_of s (caller_of (after b events).kernel cpu) ≡ Err Rsfn
more-refused image config b events s cpu is none more =
    profile-refused s (caller_of (after b events).kernel cpu) (profile-stays image config b events is ∙ none) more
