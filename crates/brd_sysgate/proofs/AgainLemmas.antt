-- A SYSCALL of which it is told that it comes again does, and no other.
use Rattle.std.proofs.Common.{◌≡◌, ℕ, refl, ◌∙◌}
use Rattle.std.specs.Prelude.{Option, None, Some, Result, Ok, Err}
use Rattle.brd_exec.specs.State.{advanced}
use Rattle.brd_kernel.specs.declared.processor.Executor.{Executor}
use Rattle.brd_kernel.specs.declared.call.Call.{Call}
use Rattle.brd_kernel.specs.declared.call.Ercd.{Ercd}
use Rattle.brd_kernel.specs.Kernel.{KernelState, executor_on, context_of}
use Rattle.brd_kernel.specs.Row.{asks_again}
use Rattle.brd_kernel.proofs.SameLemmas.{Same, same-context}
use Rattle.brd_kernel.proofs.AgainLemmas.{serve-again, same-again}
use Rattle.brd_sysgate.specs.Gate.{served_call, changed_in, with_changed_context, is_again}

-- a context goes on, and processors and spin locks stay
same-advanced : (k : KernelState) (cpu : ℕ) (who : Option Executor) → Same (changed_in advanced k cpu who) k
same-advanced k cpu None = record { processors = refl; spin_locks = refl; standard = refl }
same-advanced k cpu (Some who) = same-context k cpu who (advanced (context_of k cpu who))

pub told-again : (k : KernelState) (cpu : ℕ) (asked : Result Call Ercd) →
    asks_again (served_call (with_changed_context advanced k cpu) cpu asked).reply ≡ is_again k asked
told-again k cpu (Err code) = refl
told-again k cpu (Ok c) =
    let on : KernelState = with_changed_context advanced k cpu in
    serve-again on cpu c ∙ same-again k on (same-advanced k cpu (executor_on k cpu)) c
