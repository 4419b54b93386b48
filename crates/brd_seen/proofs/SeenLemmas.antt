-- What is seen of a board's tasks.
use Rattle.std.proofs.Common.{◌≡◌, ℕ, ◌<◌, List, [], ◌∷◌, length, map, refl, sym, ap, subst, ◌∙◌}
use Rattle.std.specs.Prelude.{Bool, true, false, if◌then◌else◌, slice_index_or, filter, Option, None, Some, is_some}
use Rattle.std.specs.Prelude.{All}
use Rattle.std.specs.Option.{option_map}
use Rattle.std.specs.List.{filter_map, cons_option, range_with_len}
use Rattle.std.proofs.lemmas.List.Elements.{All-cons, All-nil, filter_passes}
use Rattle.std.proofs.Math.ListN.{get_or-map}
use Rattle.std.proofs.lemmas.List.{length-map}
use Rattle.brd_tasks.specs.declared.task.TaskView.{TaskView}
use Rattle.brd_board.specs.Board.{BoardState, task_of}
use Rattle.brd_board.specs.Runs.{without_context}
use Rattle.brd_seen.specs.declared.tasks.TaskSeen.{TaskSeen}
use Rattle.brd_seen.specs.Seen.{seen_of, IsSeen, seen_in, all_seen}
use Rattle.brd_names.specs.Standings.{tasks_of}

-- ---- what is seen of a board

one-id : (x : ℕ) (found : Option TaskView) (more : List TaskSeen) (others : List ℕ) → map (λ (it : TaskSeen). it.id) more ≡ others →
    map (λ (it : TaskSeen). it.id) (cons_option (option_map (seen_of x) found) more) ≡ (if is_some found then x ∷ others else others)
one-id x None more others same = same
one-id x (Some view) more others same = ap (λ xs. x ∷ xs) same

ids-of : (board : BoardState) (xs : List ℕ) →
    map (λ (it : TaskSeen). it.id) (filter_map (seen_in board) xs) ≡ filter (λ id. is_some (task_of board id)) xs
ids-of board [] = refl
ids-of board (x ∷ xs) = one-id x (task_of board x) (filter_map (seen_in board) xs) _ (ids-of board xs)

pub all-seen-is : (board : BoardState) → filter_map (seen_in board) (range_with_len 1 255) ≡ all_seen board
unfolding all_seen
all-seen-is board = refl

pub all-those : (board : BoardState) → map (λ (it : TaskSeen). it.id) (all_seen board) ≡ tasks_of board
unfolding tasks_of all_seen
all-those board = ids-of board (range_with_len 1 255)

one-seen : (board : BoardState) (x : ℕ) (found : Option TaskView) (more : List TaskSeen) → task_of board x ≡ found →
    All (IsSeen board) more → All (IsSeen board) (cons_option (option_map (seen_of x) found) more)
one-seen board x None more is all = all
one-seen board x (Some view) more is all =
    All-cons (IsSeen board) (seen_of x view) more (ap (option_map without_context) is) all

seen-of : (board : BoardState) (xs : List ℕ) → All (IsSeen board) (filter_map (seen_in board) xs)
seen-of board [] = All-nil (IsSeen board)
seen-of board (x ∷ xs) = one-seen board x (task_of board x) (filter_map (seen_in board) xs) refl (seen-of board xs)

pub all-seen : (board : BoardState) → All (IsSeen board) (all_seen board)
unfolding all_seen
all-seen board = seen-of board (range_with_len 1 255)

-- what is seen of a task that is there
pub seen-some : (board : BoardState) (id : ℕ) (found : Option TaskView) (now : TaskSeen) → task_of board id ≡ found →
    option_map (seen_of id) found ≡ Some now → (now.id ≡ id) × IsSeen board now
seen-some board id None now is seen = let no : ⊥ = cc in absurd no
seen-some board id (Some view) now is seen =
    let same : seen_of id view ≡ now = cc in (
      ap (λ (it : TaskSeen). it.id) (sym same),
      subst (IsSeen board) same (ap (option_map without_context) is),
    )

pub seen-none : (id : ℕ) (found : Option TaskView) → option_map (seen_of id) found ≡ None → is_some found ≡ false
seen-none id None seen = refl
seen-none id (Some view) seen = let no : ⊥ = cc in absurd no

-- a task whose number is that of one that is there
pub there-at : (board : BoardState) (tasks : List TaskSeen) (i : ℕ) (d : TaskSeen) →
    map (λ (it : TaskSeen). it.id) tasks ≡ tasks_of board → i < length tasks →
    is_some (task_of board (slice_index_or tasks i d).id) ≡ true
unfolding tasks_of
there-at board tasks i d those less =
    let p : ℕ → Bool = λ id. is_some (task_of board id) in
    let all : All (λ id. is_some (task_of board id) ≡ true) (map (λ (it : TaskSeen). it.id) tasks) =
    subst (All (λ id. is_some (task_of board id) ≡ true)) (sym those) (filter_passes p (range_with_len 1 255)) in
    ap p (sym (get_or-map (λ (it : TaskSeen). it.id) tasks i d)) ∙ all i d.id (subst (λ n. i < n) (sym (length-map tasks (λ (it : TaskSeen). it.id))) less)

-- ---- one event, with those after it that do nothing

-- tasks of the same numbers are as many
pub same-length : (old new : List TaskSeen) → map (λ (it : TaskSeen). it.id) new ≡ map (λ (it : TaskSeen). it.id) old → length new ≡ length old
same-length old new same =
    sym (length-map new (λ (it : TaskSeen). it.id)) ∙ ap length same ∙ length-map old (λ (it : TaskSeen). it.id)
