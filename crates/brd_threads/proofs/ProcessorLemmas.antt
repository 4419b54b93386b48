-- The processors of a board that was booted.
use Rattle.std.proofs.Common.{◌≡◌, ◌&&◌, ℕ, ◌+◌, ◌≤◌, zero, suc, List, [], ◌∷◌, refl, ap, ◌∙◌, arith, slice_index_or}
use Rattle.std.specs.Prelude.{Bool, true, false, nat_le, cond, if◌then◌else◌, is_some, Option, None, Some, option_map, Ok}
use Rattle.std.specs.List.{prefix_len}
use Rattle.std.proofs.lemmas.Bool.Decides.{nat_tests}
use Rattle.brd_mem.specs.declared.image.Image.{Image}
use Rattle.brd_config.specs.Configuration.{Configuration, IsConfiguration}
use Rattle.brd_queue.specs.Queue.{Plain}
use Rattle.brd_tasks.specs.Tasks.{TaskTable, ready_on}
use Rattle.brd_kernel.specs.declared.processor.Processor.{Processor}
use Rattle.brd_kernel.specs.declared.processor.LineSetup.{LineSetup}
use Rattle.brd_tasks.specs.declared.task.TaskSetup.{TaskSetup}
use Rattle.brd_kernel.specs.Kernel.{KernelState, idle, standing_in}
use Rattle.brd_kernel.specs.Dispatch.{dispatched_from, dispatched_one}
use Rattle.brd_kernel.specs.Making.{idle_ones, made_kernel}
use Rattle.brd_board.specs.Board.{BoardState}
use Rattle.brd_board.specs.Boot.{boot}
use Rattle.brd_board.specs.Setup.{all_started}
use Rattle.brd_board.proofs.EventLemmas.{boot-begins}
use Rattle.brd_threads.specs.Processors.{has_processor, processors_of}

-- where a processor is dispatched, it is there if it was
one_stays : (p : Option Processor) (ready : List Plain) → is_some (option_map standing_in (dispatched_one p ready)) ≡ is_some p
one_stays None ready = refl
one_stays (Some p) ready = refl

all_stay : (t : TaskTable) (from : ℕ) (ps : List (Option Processor)) (cpu : ℕ) → is_some (option_map standing_in (slice_index_or (dispatched_from t from ps) cpu None)) ≡ is_some (slice_index_or ps cpu None)
all_stay t from [] cpu = refl
all_stay t from (p ∷ ps) zero = one_stays p (ready_on t from)
all_stay t from (p ∷ ps) (suc cpu) = all_stay t (from + 1) ps cpu

some_where : (b : Bool) → is_some (if b then Some idle else None) ≡ b
some_where true = refl
some_where false = refl

-- those that are made are numbered from 1 on
made_are : (n cpu : ℕ) → n ≤ 8 → is_some (slice_index_or (idle_ones n 9) cpu None) ≡ (nat_le 1 cpu && nat_le cpu n)
unfolding idle_ones
made_are n zero few = some_where (nat_le 1 0 && nat_le 0 n)
made_are n (suc zero) few = some_where (nat_le 1 1 && nat_le 1 n)
made_are n (suc (suc zero)) few = some_where (nat_le 1 2 && nat_le 2 n)
made_are n (suc (suc (suc zero))) few = some_where (nat_le 1 3 && nat_le 3 n)
made_are n (suc (suc (suc (suc zero)))) few = some_where (nat_le 1 4 && nat_le 4 n)
made_are n (suc (suc (suc (suc (suc zero))))) few = some_where (nat_le 1 5 && nat_le 5 n)
made_are n (suc (suc (suc (suc (suc (suc zero)))))) few = some_where (nat_le 1 6 && nat_le 6 n)
made_are n (suc (suc (suc (suc (suc (suc (suc zero))))))) few = some_where (nat_le 1 7 && nat_le 7 n)
made_are n (suc (suc (suc (suc (suc (suc (suc (suc zero)))))))) few = some_where (nat_le 1 8 && nat_le 8 n)
made_are n (suc (suc (suc (suc (suc (suc (suc (suc (suc cpu))))))))) few = grind (arith, nat_tests, few)

-- the tasks that a boot has started
abbrev booted_kernel_tasks : List TaskSetup → List LineSetup → Configuration → TaskTable
booted_kernel_tasks s l config =
    let first : KernelState = made_kernel config.standard config.processors s l config.semaphores config.flags config.queues config.spin_locks config.mutexes [] [] in
    all_started first.tasks config.tasks

pub booted_are : (image : Image) (config : Configuration) (board : BoardState) (cpu : ℕ) → IsConfiguration config → boot image config ≡ Ok board
    → has_processor board cpu ≡ (nat_le 1 cpu && nat_le cpu config.processors)
unfolding has_processor
booted_are image config board cpu valid is =
    boot-begins (λ b. has_processor b cpu ≡ (nat_le 1 cpu && nat_le cpu config.processors)) image config board
    (λ s l p m are. all_stay (booted_kernel_tasks s l config) 0 (idle_ones config.processors 9) cpu ∙ made_are config.processors cpu valid.processors.most) is

-- how many pass a test that says the same
same_prefix : (f g : ℕ → Bool) (xs : List ℕ) → ((x : ℕ) → f x ≡ g x) → prefix_len f xs ≡ prefix_len g xs
same_prefix f g [] same = refl
same_prefix f g (x ∷ xs) same = ap (λ b. cond b (1 + prefix_len f xs) 0) (same x) ∙ ap (λ n. cond (g x) (1 + n) 0) (same_prefix f g xs same)

first_ones : (n : ℕ) → n ≤ 8 → prefix_len (λ cpu. nat_le 1 cpu && nat_le cpu n) (1 ∷ 2 ∷ 3 ∷ 4 ∷ 5 ∷ 6 ∷ 7 ∷ 8 ∷ []) ≡ n
first_ones zero few = refl
first_ones (suc zero) few = refl
first_ones (suc (suc zero)) few = refl
first_ones (suc (suc (suc zero))) few = refl
first_ones (suc (suc (suc (suc zero)))) few = refl
first_ones (suc (suc (suc (suc (suc zero))))) few = refl
first_ones (suc (suc (suc (suc (suc (suc zero)))))) few = refl
first_ones (suc (suc (suc (suc (suc (suc (suc zero))))))) few = refl
first_ones (suc (suc (suc (suc (suc (suc (suc (suc zero)))))))) few = refl
first_ones (suc (suc (suc (suc (suc (suc (suc (suc (suc n))))))))) few = absurd (omega (arith, few))

pub booted_many : (image : Image) (config : Configuration) (board : BoardState) → IsConfiguration config → boot image config ≡ Ok board
    → processors_of board ≡ config.processors
booted_many image config board valid is =
    same_prefix (has_processor board) (λ cpu. nat_le 1 cpu && nat_le cpu config.processors) (1 ∷ 2 ∷ 3 ∷ 4 ∷ 5 ∷ 6 ∷ 7 ∷ 8 ∷ []) (λ cpu. booted_are image config board cpu valid is)
    ∙ first_ones config.processors valid.processors.most
