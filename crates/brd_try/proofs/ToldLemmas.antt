-- One register more, and one line more.
use Rattle.std.proofs.Common.{◌≡◌, ◌∙◌, ℕ, suc, ◌+◌, List, [], ◌++◌, refl, ap, subst, sym, arith, append_assoc, codes}
use Rattle.std.specs.Prelude.{Option, slice_index_or}
use Rattle.brd_board.specs.Board.{BoardState, task_of}
use Rattle.brd_exec.specs.State.{State, read}
use Rattle.brd_isa.specs.Registers.{register_names}
use Rattle.brd_tasks.specs.declared.task.TaskView.{TaskView}
use Rattle.brd_try.specs.Told.{lines_to, registers_to, task_text, with_word}
use Rattle.std.proofs.Common.{ap₂, true}
use Rattle.std.specs.Prelude.{◌-◌, nat_lt, length, take, if◌then◌else◌}
use Rattle.brd_try.specs.Told.{console_text, more_text, whole_text}

first_registers : (s : State) → [] ≡ registers_to s 0
unfolding registers_to
first_registers s = refl

pub no_registers : (s : State) (line : List ℕ) → line ≡ [] → line ≡ registers_to s 0
no_registers s line is = is ∙ first_registers s

more_registers : (s : State) (n : ℕ)
    → with_word (registers_to s n) (codes "$") (slice_index_or register_names n []) (read s n) ≡ registers_to s (suc n)
unfolding registers_to
more_registers s n = refl

pub next_register : (s : State) (n low word : ℕ) (line next name : List ℕ) → line ≡ registers_to s n
    → next ≡ with_word line (codes "$") name word → name ≡ slice_index_or register_names low [] → low ≡ n
    → word ≡ read s n → next ≡ registers_to s (n + 1)
next_register s n low word line next name so_far is named same has =
    let one : suc n ≡ n + 1 = omega arith in
    let here : name ≡ slice_index_or register_names n [] =
    named ∙ ap (λ (k : ℕ). slice_index_or register_names k []) same in
    is ∙ (λ i. with_word (so_far i) (codes "$") (here i) (has i)) ∙ more_registers s n
    ∙ ap (λ (k : ℕ). registers_to s k) one

pub next_line : (tasks : ℕ) (b : BoardState) (n : ℕ) (out so_far next : List ℕ) (task : Option TaskView)
    → so_far ≡ out ++ lines_to tasks b n → next ≡ so_far ++ task_text tasks (n + 1) task → task ≡ task_of b (n + 1)
    → next ≡ out ++ lines_to tasks b (n + 1)
next_line tasks b n out so_far next task known is same =
    let one : suc n ≡ n + 1 = omega arith in
    let more : lines_to tasks b n ++ task_text tasks (n + 1) (task_of b (n + 1)) ≡ lines_to tasks b (n + 1) =
    subst (λ (k : ℕ). lines_to tasks b n ++ task_text tasks k (task_of b k) ≡ lines_to tasks b k) one refl in
    is ∙ (λ i. known i ++ task_text tasks (n + 1) (same i))
    ∙ append_assoc out (lines_to tasks b n) (task_text tasks (n + 1) (task_of b (n + 1)))
    ∙ ap (λ (rest : List ℕ). out ++ rest) more

-- a console of which only the front is printed
pub console-long : (out bytes front : List ℕ) (count : ℕ) → nat_lt 1600 (length bytes) ≡ true → front ≡ take 1600 bytes →
    count ≡ length bytes - 1600 → (out ++ whole_text front) ++ more_text count ≡ out ++ console_text bytes
unfolding console_text
console-long out bytes front count long is more =
    append_assoc out (whole_text front) (more_text count)
    ∙ ap (λ xs. out ++ xs) (ap₂ (λ (ys : List ℕ) (n : ℕ). whole_text ys ++ more_text n) is more
    ∙ ap (λ test. if test then whole_text (take 1600 bytes) ++ more_text (length bytes - 1600) else whole_text bytes) (sym long))
