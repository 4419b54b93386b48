-- What is known of a board, in the lines of a summary.
use Rattle.std.proofs.Common.{◌≡◌, ℕ, zero, suc, ◌+◌, ◌-◌, ◌<◌, ◌≤◌, List, [], ◌∷◌, ◌++◌, length, take, map, refl}
use Rattle.std.proofs.Common.{sym, ap, subst, ◌∙◌, append_assoc, arith}
use Rattle.std.proofs.lemmas.List.{append-nil}
use Rattle.std.proofs.Math.Seq.{take-suc}
use Rattle.brd_listing.specs.Listing.{IsBehind}
use Rattle.std.proofs.lemmas.List.Elements.{All-head, All-tail}
use Rattle.std.specs.Prelude.{slice_index_or, Option, None, All}
use Rattle.std.specs.List.{AllByRecursion, flat_map, range_with_len}
use Rattle.brd_kernel.specs.declared.processor.Standing.{Standing}
use Rattle.brd_board.specs.declared.event.Event.{Event}
use Rattle.brd_board.specs.Board.{BoardState, standing_of}
use Rattle.brd_journal.specs.Playing.{board_at}
use Rattle.brd_seen.specs.declared.tasks.TaskSeen.{TaskSeen}
use Rattle.brd_trace.specs.declared.notes.Notes.{Notes}
use Rattle.brd_names.specs.declared.names.Names.{Names}
use Rattle.brd_seen.specs.Seen.{view_of, IsSeen}
use Rattle.brd_names.specs.Standings.{tasks_of}
use Rattle.brd_trace.specs.Noted.{Knows}
use Rattle.brd_trace.specs.Dated.{IsSince, IsDated}
use Rattle.brd_summary.specs.Summary.{standing_lines, IsKnownProcessor, IsProcessor, IsTaskLine, IsTask}
use Rattle.brd_summary.specs.Texts.{AreTexts}
use Rattle.brd_verdicts.specs.Steps.{AreLastSteps}

pub texts-snoc : {X : Type 0} (IsOf : X → List ℕ → Type 0) (xs : List X) (x : X) (t u : List ℕ) → AreTexts IsOf xs t →
    IsOf x u →
    AreTexts IsOf (xs ++ x ∷ []) (t ++ u)
texts-snoc IsOf [] x t u are is = (u, [], is, refl, ap (λ (s : List ℕ). s ++ u) are ∙ sym (append-nil u))
texts-snoc IsOf (y ∷ ys) x t u are is = (
  are.0,
  are.1 ++ u,
  are.2,
  texts-snoc IsOf ys x are.1 u are.3 is,
  ap (λ (s : List ℕ). s ++ u) are.4 ∙ append_assoc are.0 are.1 u,
)

-- each of the texts is one of another kind too
texts-as : {X : Type 0} (IsOf IsToo : X → List ℕ → Type 0) (xs : List X) (text : List ℕ) → AllByRecursion
    (λ x. (t : List ℕ) → IsOf x t → IsToo x t) xs
    → AreTexts IsOf xs text → AreTexts IsToo xs text
texts-as IsOf IsToo [] text all are = are
texts-as IsOf IsToo (x ∷ xs) text all are =
    (are.0, are.1, all.0 are.0 are.2, texts-as IsOf IsToo xs are.1 all.1 are.3, are.4)

-- one more number
range-more : (a n : ℕ) → range_with_len a (suc n) ≡ range_with_len a n ++ (a + n) ∷ []
range-more a zero = let same : a ≡ a + zero = omega arith in ap (λ (k : ℕ). k ∷ []) same
range-more a (suc n) =
    let same : (a + 1) + n ≡ a + suc n = omega arith in
    ap (λ (ks : List ℕ). a ∷ ks) (range-more (a + 1) n ∙ ap (λ (k : ℕ). range_with_len (a + 1) n ++ k ∷ []) same)

-- the texts of the numbers before one, and its own behind them
pub numbers-on : (IsOf : ℕ → List ℕ → Type 0) (k : ℕ) (a b c : List ℕ) → 1 ≤ k → IsBehind
    (AreTexts IsOf (range_with_len 1 (k - 1))) a b →
    IsBehind (IsOf k) b c → IsBehind (AreTexts IsOf (range_with_len 1 (k + 1 - 1))) a c
numbers-on IsOf k a b c least are one =
    let more : suc (k - 1) ≡ k + 1 - 1 = omega (arith, least) in
    let last : 1 + (k - 1) ≡ k = omega (arith, least) in
    let those : range_with_len 1 (k + 1 - 1) ≡ range_with_len 1 (k - 1) ++ k ∷ [] =
    ap (range_with_len 1) (sym more) ∙ range-more 1 (k - 1) ∙ ap (λ (n : ℕ). range_with_len 1 (k - 1) ++ n ∷ []) last in
    record {
      text = are.text ++ one.text;
      is_it = subst (λ (ks : List ℕ). AreTexts IsOf ks (are.text ++ one.text)) (sym those)
          (texts-snoc IsOf (range_with_len 1 (k - 1)) k are.text one.text are.is_it one.is_it);
      behind = one.behind ∙ ap (λ (t : List ℕ). t ++ one.text) are.behind ∙ append_assoc a are.text one.text;
    }

pub two-behind : (a b c one two : List ℕ) → b ≡ a ++ one → c ≡ b ++ two → c ≡ a ++ (one ++ two)
two-behind a b c one two first second = second ∙ ap (λ (s : List ℕ). s ++ two) first ∙ append_assoc a one two

-- with the text of the next number behind that of those before it, the numbers that are left are one fewer
pub next-text : (h : ℕ → List ℕ) (so_far more whole : List ℕ) (i end : ℕ) → i < end → more ≡ so_far ++ h i →
    so_far ++ flat_map h (range_with_len i (end - i)) ≡ whole →
    more ++ flat_map h (range_with_len (i + 1) (end - (i + 1))) ≡ whole
next-text h so_far more whole i end below is known =
    let rest = flat_map h (range_with_len (i + 1) (end - (i + 1))) in
    let left : end - i ≡ suc (end - (i + 1)) = omega arith in
    ap (λ front. front ++ rest) is ∙ append_assoc so_far (h i) rest
    ∙ sym (ap (λ n. so_far ++ flat_map h (range_with_len i n)) left) ∙ known

-- behind the last number nothing is left
pub none-left : (h : ℕ → List ℕ) (found whole : List ℕ) (i end : ℕ) → end ≤ i →
    found ++ flat_map h (range_with_len i (end - i)) ≡ whole → found ≡ whole
none-left h found whole i end past known =
    let none : end - i ≡ 0 = omega arith in
    sym (ap (λ n. found ++ flat_map h (range_with_len i n)) none ∙ append-nil found) ∙ known

pub tasks-on : (names : Names) (tasks slice : List TaskSeen) (i : ℕ) (a b c : List ℕ) (d : TaskSeen) → slice ≡ tasks →
    i < length slice → IsBehind (AreTexts (IsTaskLine names) (take i tasks)) a b →
    IsBehind (IsTaskLine names (slice_index_or slice i d)) b c →
    IsBehind (AreTexts (IsTaskLine names) (take (i + 1) tasks)) a c
tasks-on names tasks slice i a b c d same less are line =
    let next : suc i ≡ i + 1 = omega arith in
    let inside : i < length tasks = subst (λ (xs : List TaskSeen). i < length xs) same less in
    let more : take (i + 1) tasks ≡ take i tasks ++ slice_index_or slice i d ∷ [] =
    ap (λ (n : ℕ). take n tasks) (sym next) ∙ take-suc tasks i d inside
    ∙ ap (λ (xs : List TaskSeen). take i tasks ++ slice_index_or xs i d ∷ []) (sym same) in
    record {
      text = are.text ++ line.text;
      is_it = subst (λ (xs : List TaskSeen). AreTexts (IsTaskLine names) xs (are.text ++ line.text)) (sym more)
          (texts-snoc (IsTaskLine names) (take i tasks)
          (slice_index_or slice i d) are.text line.text are.is_it line.is_it);
      behind = line.behind ∙ ap (λ (t : List ℕ). t ++ line.text) are.behind ∙ append_assoc a are.text line.text;
    }

module _ (names : Names) (boot : BoardState) (events : List Event) (n : ℕ) (notes : Notes) (steps : List (Option ℕ))
    (noted : Knows (board_at boot events n) notes) (dated : IsDated boot events n notes)
    (stepped : AreLastSteps boot events n steps) where
  one-processor : (cpu : ℕ) → 1 ≤ cpu → cpu ≤ 8 →
      slice_index_or notes.standings.of cpu None ≡ standing_of (board_at boot events n) cpu →
      (text : List ℕ) → IsKnownProcessor names steps notes cpu text → IsProcessor names boot events n cpu text
  one-processor cpu least most is text known = record {
    step = slice_index_or steps cpu None;
    last = slice_index_or notes.faults.items cpu None;
    is_step = stepped cpu least most;
    is_last = dated.faults cpu least most;
    is = known
        ∙ ap (λ (s : Option Standing). standing_lines names cpu s (slice_index_or steps cpu None)
        (slice_index_or notes.faults.items cpu None)) is;
  }

  pub processors-are : (text : List ℕ) → AreTexts (IsKnownProcessor names steps notes) (range_with_len 1 8) text →
      AreTexts (IsProcessor names boot events n) (range_with_len 1 8) text
  processors-are text are =
      texts-as (IsKnownProcessor names steps notes) (IsProcessor names boot events n) (range_with_len 1 8) text (
        one-processor 1 (omega arith) (omega arith)
            (ap (λ (of : List (Option Standing)). slice_index_or of 1 None) noted.standings),
        (
          one-processor 2 (omega arith) (omega arith)
              (ap (λ (of : List (Option Standing)). slice_index_or of 2 None) noted.standings),
          (
            one-processor 3 (omega arith) (omega arith)
                (ap (λ (of : List (Option Standing)). slice_index_or of 3 None) noted.standings),
            (
              one-processor 4 (omega arith) (omega arith)
                  (ap (λ (of : List (Option Standing)). slice_index_or of 4 None) noted.standings),
              (
                one-processor 5 (omega arith) (omega arith)
                    (ap (λ (of : List (Option Standing)). slice_index_or of 5 None) noted.standings),
                (
                  one-processor 6 (omega arith) (omega arith)
                      (ap (λ (of : List (Option Standing)). slice_index_or of 6 None) noted.standings),
                  (
                    one-processor 7 (omega arith) (omega arith)
                        (ap (λ (of : List (Option Standing)). slice_index_or of 7 None) noted.standings),
                    (
                      one-processor 8 (omega arith) (omega arith)
                          (ap (λ (of : List (Option Standing)). slice_index_or of 8 None) noted.standings),
                      tt,
                    ),
                  ),
                ),
              ),
            ),
          ),
        ),
      ) are

  one-task : (it : TaskSeen) (text : List ℕ) → IsTaskLine names it text → IsSeen (board_at boot events n) it →
      IsSince boot events n it.id it.since → IsTask names boot events n it.id text
  one-task it text line seen since = record {
    view = view_of it;
    since = it.since;
    place = line.place;
    wait = line.wait;
    is_view = seen;
    is_since = since;
    is_wait = line.is_wait;
    line = line.line;
  }

  task-texts : (tasks : List TaskSeen) (text : List ℕ) → AreTexts (IsTaskLine names) tasks text →
      All (IsSeen (board_at boot events n)) tasks → All
      (λ (it : TaskSeen). IsSince boot events n it.id it.since) tasks →
      AreTexts (IsTask names boot events n) (map (λ (it : TaskSeen). it.id) tasks) text
  task-texts [] text are seen since = are
  task-texts (it ∷ tasks) text are seen since = (
    are.0,
    are.1,
    one-task it are.0 are.2 (All-head (IsSeen (board_at boot events n)) it tasks seen)
        (All-head (λ (it : TaskSeen). IsSince boot events n it.id it.since) it tasks since),
    task-texts tasks are.1 are.3 (All-tail (IsSeen (board_at boot events n)) it tasks seen)
        (All-tail (λ (it : TaskSeen). IsSince boot events n it.id it.since) it tasks since),
    are.4,
  )

  pub tasks-are : (text : List ℕ) → AreTexts (IsTaskLine names) notes.tasks.items text →
      AreTexts (IsTask names boot events n) (tasks_of (board_at boot events n)) text
  tasks-are text are =
      subst (λ (ids : List ℕ). AreTexts (IsTask names boot events n) ids text) noted.those
      (task-texts notes.tasks.items text are noted.tasks dated.since)

pub texts-on : {X : Type 0} (IsOf : X → List ℕ → Type 0) (xs : List X) (i : ℕ) (a b c : List ℕ) (d : X) →
    i < length xs → IsBehind (AreTexts IsOf (take i xs)) a b → IsBehind (IsOf (slice_index_or xs i d)) b c →
    IsBehind (AreTexts IsOf (take (i + 1) xs)) a c
texts-on IsOf xs i a b c d less are one =
    let next : suc i ≡ i + 1 = omega arith in
    let more : take (i + 1) xs ≡ take i xs ++ slice_index_or xs i d ∷ [] =
    ap (λ (n : ℕ). take n xs) (sym next) ∙ take-suc xs i d less in
    record {
      text = are.text ++ one.text;
      is_it = subst (λ ys. AreTexts IsOf ys (are.text ++ one.text)) (sym more)
          (texts-snoc IsOf (take i xs) (slice_index_or xs i d) are.text one.text are.is_it one.is_it);
      behind = one.behind ∙ ap (λ (t : List ℕ). t ++ one.text) are.behind ∙ append_assoc a are.text one.text;
    }
