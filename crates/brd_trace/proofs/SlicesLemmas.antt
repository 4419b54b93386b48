-- The lanes of a timeline, from one position to a later one.
use Rattle.std.proofs.Common.{◌≡◌, ◌≢◌, ⊎_elim, ℕ, zero, suc, ◌+◌, ◌<◌, ◌≤◌, List, [], ◌∷◌, ◌++◌, length, map, refl}
use Rattle.std.proofs.Common.{sym, ap, subst, ◌∙◌, le_refl, arith}
use Rattle.std.proofs.lemmas.Bool.{cases_lt}
use Rattle.std.proofs.lemmas.List.Elements.{All-push, All-head, All-tail}
use Rattle.std.specs.Prelude.{Bool, true, false, slice_get, slice_index_or, Option, None, Some, is_some, All}
use Rattle.std.specs.Option.{option_map}
use Rattle.brd_kernel.specs.declared.processor.Standing.{Standing}
use Rattle.brd_board.specs.declared.event.Event.{Event}
use Rattle.brd_board.specs.declared.event.Report.{Report}
use Rattle.brd_board.specs.Board.{BoardState, happens}
use Rattle.brd_journal.specs.declared.run.Run.{Run}
use Rattle.brd_journal.specs.Playing.{board_at, AllGoOn}
use Rattle.brd_journal.specs.Runs.{ComesBehind}
use Rattle.brd_journal.specs.Still.{does_no_more}
use Rattle.brd_timeline.specs.declared.timeline.Slice.{Slice}
use Rattle.brd_seen.specs.declared.tasks.TaskSeen.{TaskSeen}
use Rattle.brd_recording.specs.declared.recording.Doing.{Doing}
use Rattle.brd_recording.specs.declared.recording.Open.{Open}
use Rattle.brd_trace.specs.declared.notes.Notes.{Notes}
use Rattle.brd_trace.specs.Noted.{Knows, KeepsKnown}
use Rattle.brd_seen.specs.Seen.{IsSeen}
use Rattle.brd_names.specs.Standings.{may_change, tasks_of, standings_of}
use Rattle.brd_seen.specs.Conditions.{condition_of}
use Rattle.brd_printer.specs.Telling.{is_ran}
use Rattle.brd_recording.specs.Lanes.{Lanes, lanes_of}
use Rattle.brd_recording.specs.Slices.{Subject, Cpu, OfTask, off_doing, cpu_doing, task_doing, doing_of, cpus_in}
use Rattle.brd_names.specs.Standings.{runs_in}
use Rattle.brd_recording.specs.Slices.{subjects_by, subjects_of, slices_in, IsSlice, Follow, AreOf}
use Rattle.brd_recording.specs.Recording.{seen_doing, doings_in, open_at, IsOpen, IsLane, AreLanes, IsRecorded}
use Rattle.brd_recording.specs.Recording.{BecomesSlice, AddsSlice, Closes, GoesOn, Turns, FollowsLane}
use Rattle.brd_trace.specs.Recorded.{SeesNotes, Records}
use Rattle.brd_names.proofs.ThereLemmas.{still-there, same-tasks}
use Rattle.brd_names.proofs.AlikeLemmas.{Alike, alike-tasks, alike-standings}
use Rattle.brd_trace.proofs.NotedLemmas.{changes-none}
use Rattle.brd_trace.proofs.DatedLemmas.{AllQuiet, alike-to, alike-condition, seen-condition, board-next, quiet-one}
use Rattle.brd_trace.proofs.DatedLemmas.{quiet-rest, quiet-batch, at-first, event-first}

-- ---- lists

pub got-less : {X : Type 0} (xs : List X) (i : ℕ) (x : X) → slice_get xs i ≡ Some x → i < length xs
got-less [] i x is = absurd (cc)
got-less (y ∷ xs) zero x is = omega arith
got-less (y ∷ xs) (suc i) x is = let less = got-less xs i x is in omega (arith, less)

pub got-mapped : {X Y : Type 0} (f : X → Y) (xs : List X) (i : ℕ) (x : X) (d : Y) → slice_get xs i ≡ Some x → slice_index_or (map f xs) i d ≡ f x
got-mapped f [] i x d is = absurd (cc)
got-mapped f (y ∷ xs) zero x d is = let same : y ≡ x = cc in ap f same
got-mapped f (y ∷ xs) (suc i) x d is = got-mapped f xs i x d is

pub map-both : {X Y : Type 0} (f : X → Y) (xs ys : List X) → map f (xs ++ ys) ≡ map f xs ++ map f ys
map-both f [] ys = refl
map-both f (x ∷ xs) ys = ap (λ zs. f x ∷ zs) (map-both f xs ys)

pub map-twice : {X Y Z : Type 0} (f : Y → Z) (g : X → Y) (xs : List X) → map f (map g xs) ≡ map (λ x. f (g x)) xs
map-twice f g [] = refl
map-twice f g (x ∷ xs) = ap (λ zs. f (g x) ∷ zs) (map-twice f g xs)

follow-push : (from mid : ℕ) (slices : List Slice) (it : Slice) → Follow from slices mid → it.from ≡ mid → Follow from (slices ++ it ∷ []) it.to
follow-push from mid [] it follow is = (is ∙ sym follow, refl)
follow-push from mid (first ∷ more) it follow is = (follow.0, follow-push first.to mid more it follow.1 is)

-- ---- what goes on

-- where nothing changes, the same goes on
pub alike-doing : (b new : BoardState) (subject : Subject) → Alike b new → doing_of new subject ≡ doing_of b subject
alike-doing b new (Cpu cpu) alike =
    ap (λ (off : Bool). cpu_doing off (standings_of new) cpu) alike.off
    ∙ ap (λ (standings : List (Option Standing)). cpu_doing b.kernel.off standings cpu) (alike-standings b new alike)
alike-doing b new (OfTask id) alike =
    ap (λ (off : Bool). task_doing off (runs_in (standings_of new) id) (condition_of new id)) alike.off
    ∙ ap (λ (standings : List (Option Standing)). task_doing b.kernel.off (runs_in standings id) (condition_of new id)) (alike-standings b new alike)
    ∙ ap (task_doing b.kernel.off (runs_in (standings_of b) id)) (alike-condition b new id alike)

-- what goes on with tasks that are known
seen-as : (b : BoardState) (it : TaskSeen) → IsSeen b it → seen_doing b.kernel.off (standings_of b) it ≡ doing_of b (OfTask it.id)
seen-as b it seen = sym (ap (task_doing b.kernel.off (runs_in (standings_of b) it.id)) (seen-condition b it seen))

all-seen-as : (b : BoardState) (tasks : List TaskSeen) → All (IsSeen b) tasks →
    map (seen_doing b.kernel.off (standings_of b)) tasks ≡ map (λ (it : TaskSeen). doing_of b (OfTask it.id)) tasks
all-seen-as b [] all = refl
all-seen-as b (it ∷ more) all =
    ap (λ (doing : Doing). doing ∷ map (seen_doing b.kernel.off (standings_of b)) more) (seen-as b it (All-head (IsSeen b) it more all))
    ∙ ap (λ (doings : List Doing). doing_of b (OfTask it.id) ∷ doings) (all-seen-as b more (All-tail (IsSeen b) it more all))

-- what is known says what goes on in all lanes
pub doings-are : (b : BoardState) (notes : Notes) (cpus : List ℕ) → Knows b notes →
    doings_in (is_some notes.off) notes.standings.of notes.tasks.items cpus ≡ map (doing_of b) (subjects_by cpus (tasks_of b))
doings-are b notes cpus knows =
    let ids : List ℕ = map (λ (it : TaskSeen). it.id) notes.tasks.items in
    ap (λ (off : Bool). doings_in off notes.standings.of notes.tasks.items cpus) knows.off
    ∙ ap (λ (standings : List (Option Standing)). doings_in b.kernel.off standings notes.tasks.items cpus) knows.standings
    ∙ ap (λ (doings : List Doing). doings ++ map (seen_doing b.kernel.off (standings_of b)) notes.tasks.items)
    (sym (map-twice (doing_of b) Cpu cpus))
    ∙ ap (λ (doings : List Doing). map (doing_of b) (map Cpu cpus) ++ doings)
    (all-seen-as b notes.tasks.items knows.tasks
    ∙ sym (map-twice (λ (id : ℕ). doing_of b (OfTask id)) (λ (it : TaskSeen). it.id) notes.tasks.items)
    ∙ sym (map-twice (doing_of b) OfTask ids))
    ∙ sym (map-both (doing_of b) (map Cpu cpus) (map OfTask ids))
    ∙ ap (λ (tasks : List ℕ). map (doing_of b) (subjects_by cpus tasks)) knows.those

-- ---- one lane

module _ (boot : BoardState) (events : List Event) (start : ℕ) (subject : Subject) where
  -- the same goes on where nothing changes
  lane-quiet : (n to : ℕ) (current : Open) (slices : List Slice) → n ≤ to → AllQuiet boot events n to →
      IsLane boot events start n subject current slices → IsLane boot events start to subject current slices
  lane-quiet n to current slices on quiet lane = record {
    is_open = record {
      least = lane.is_open.least;
      most = omega (arith, on, lane.is_open.most);
      stays = λ p above below.
          ⊎_elim (λ (less : p < n). lane.is_open.stays p above (omega (arith, less)))
          (λ (past : n ≤ p).
          alike-doing (board_at boot events n) (board_at boot events p) subject
          (alike-to boot events n p past (λ q up down. quiet q up (omega (arith, down, below))))
          ∙ lane.is_open.stays n lane.is_open.most (le_refl n))
          (cases_lt p n);
      begins = lane.is_open.begins;
    };
    before = lane.before;
  }

  becomes : (n to : ℕ) (current : Open) (slice : Slice) → to ≤ suc n → current.from < to → IsOpen boot events start n subject current →
      BecomesSlice current to slice → IsSlice boot events start subject slice
  becomes n to current slice near some is_open is = record {
    doing = current.doing;
    some = omega (arith, some, is.from, is.to_is);
    stays = λ p above below. is_open.stays p (omega (arith, above, is.from)) (omega (arith, below, is.to_is, near));
    begins = λ p above next. is_open.begins p above (next ∙ is.from);
    kind = is.kind;
    label = is.label;
  }

  -- what went on is a slice, up to the next position at most
  pub closes-are : (n to : ℕ) (current : Open) (before after : List Slice) → current.from ≤ to → to ≤ suc n → IsOpen boot events start n subject current →
      AreOf boot events start current.from subject before → Closes current to before after → AreOf boot events start to subject after
  closes-are n to current before after least near is_open are closes =
      ⊎_elim
      (λ (less : current.from < to).
      let adds : AddsSlice current to before after = closes.some less in
      let more : AreOf boot events start adds.slice.to subject (before ++ adds.slice ∷ []) = record {
        each = All-push (IsSlice boot events start subject) before adds.slice are.each
            (becomes n to current adds.slice near less is_open adds.becomes);
        follow = follow-push start current.from before adds.slice are.follow adds.becomes.from;
      } in
      subst (λ (k : ℕ). AreOf boot events start k subject after) adds.becomes.to_is
      (subst (AreOf boot events start adds.slice.to subject) (sym adds.new_is) more))
      (λ (past : to ≤ current.from).
      let same : current.from ≡ to = omega (arith, past, least) in
      subst (λ (k : ℕ). AreOf boot events start k subject after) same
      (subst (AreOf boot events start current.from subject) (sym (closes.none past)) are))
      (cases_lt current.from to)

  -- what goes on after one more event
  lane-goes : (n : ℕ) (doing : Doing) (old new : Open) (before after : List Slice) → doing_of (board_at boot events (suc n)) subject ≡ doing →
      GoesOn doing old new before after → IsLane boot events start n subject old before → IsLane boot events start (suc n) subject new after
  lane-goes n doing old new before after is goes lane =
      let stays : (p : ℕ) → old.from ≤ p → p ≤ suc n → doing_of (board_at boot events p) subject ≡ old.doing =
      λ p above below.
      ⊎_elim (λ (less : p < suc n). lane.is_open.stays p above (omega (arith, less)))
      (λ (past : suc n ≤ p).
      let same : suc n ≡ p = omega (arith, past, below) in
      subst (λ (k : ℕ). doing_of (board_at boot events k) subject ≡ old.doing) same (is ∙ sym goes.doing_is))
      (cases_lt p (suc n)) in
      let current : IsOpen boot events start (suc n) subject old = record {
        least = lane.is_open.least;
        most = omega (arith, lane.is_open.most);
        stays = stays;
        begins = lane.is_open.begins;
      } in
      let was : IsLane boot events start (suc n) subject old before = record { is_open = current; before = lane.before } in
      subst (λ (it : Open). IsLane boot events start (suc n) subject it after) (sym goes.open_is)
      (subst (IsLane boot events start (suc n) subject old) (sym goes.slices) was)

  lane-turns : (n : ℕ) (doing : Doing) (old new : Open) (before after : List Slice) → doing_of (board_at boot events (suc n)) subject ≡ doing →
      Turns (suc n) doing old new before after → IsLane boot events start n subject old before → IsLane boot events start (suc n) subject new after
  lane-turns n doing old new before after is turns lane =
      let was : doing_of (board_at boot events n) subject ≡ old.doing = lane.is_open.stays n lane.is_open.most (le_refl n) in
      let current : IsOpen boot events start (suc n) subject (open_at (suc n) doing) = record {
        least = omega (arith, lane.is_open.least, lane.is_open.most);
        most = le_refl (suc n);
        stays = λ p above below.
            let same : suc n ≡ p = omega (arith, above, below) in
            subst (λ (k : ℕ). doing_of (board_at boot events k) subject ≡ doing) same is;
        begins = λ p above next.
            let same : n ≡ p = omega (arith, next) in
            subst (λ (k : ℕ). doing_of (board_at boot events k) subject ≢ doing) same (λ equal. turns.apart (sym was ∙ equal));
      } in
      let turned : IsLane boot events start (suc n) subject (open_at (suc n) doing) after = record {
        is_open = current;
        before = closes-are n (suc n) old before after (omega (arith, lane.is_open.most)) (le_refl (suc n)) lane.is_open lane.before turns.slices;
      } in
      subst (λ (it : Open). IsLane boot events start (suc n) subject it after) (sym turns.open_is) turned

  lane-on : (n : ℕ) (doing : Doing) (old new : Open) (before after : List Slice) → doing_of (board_at boot events (suc n)) subject ≡ doing →
      FollowsLane (suc n) doing old new before after → IsLane boot events start n subject old before →
      IsLane boot events start (suc n) subject new after
  lane-on n doing old new before after is follows lane =
      ⊎_elim (λ goes. lane-goes n doing old new before after is goes lane) (λ turns. lane-turns n doing old new before after is turns lane) follows

-- ---- all lanes

lanes-quiet : (boot : BoardState) (events : List Event) (n to : ℕ) (it : Lanes) → n ≤ to → AllQuiet boot events n to →
    AreLanes boot events n it → AreLanes boot events to it
lanes-quiet boot events n to it on quiet are = record {
  cpus = are.cpus;
  tasks = alike-tasks (board_at boot events n) (board_at boot events to) (alike-to boot events n to on quiet) ∙ are.tasks;
  titles = are.titles;
  as_many = are.as_many;
  lanes = λ lane subject d got.
      lane-quiet boot events it.from subject n to (slice_index_or it.current lane d) (slices_in lane it.slices) on quiet (are.lanes lane subject d got);
}

pub recorded-quiet : (boot : BoardState) (events : List Event) (n to : ℕ) (it : Option Lanes) → n ≤ to → AllQuiet boot events n to →
    IsRecorded boot events n it → IsRecorded boot events to it
recorded-quiet boot events n to None on quiet are = are
recorded-quiet boot events n to (Some it) on quiet are = lanes-quiet boot events n to it on quiet are

-- the lanes of boards that have the same start
lanes-on : (boot : BoardState) (events : List Event) (n : ℕ) (notes : Notes) (old new : Lanes) → Knows (board_at boot events (suc n)) notes →
    tasks_of (board_at boot events (suc n)) ≡ tasks_of (board_at boot events n) → SeesNotes (suc n) notes old new →
    AreLanes boot events n old → AreLanes boot events (suc n) new
lanes-on boot events n notes old new knows tasks sees are =
    let next : BoardState = board_at boot events (suc n) in
    let subjects : List Subject = subjects_of (board_at boot events old.from) in
    let those : subjects_by old.cpus (tasks_of next) ≡ subjects =
    ap (λ (cpus : List ℕ). subjects_by cpus (tasks_of next)) are.cpus
    ∙ ap (subjects_by (cpus_in (standings_of (board_at boot events old.from)))) (tasks ∙ are.tasks) in
    let doings : doings_in (is_some notes.off) notes.standings.of notes.tasks.items old.cpus ≡ map (doing_of next) subjects =
    doings-are next notes old.cpus knows ∙ ap (map (doing_of next)) those in
    let at_old : AreLanes boot events (suc n) (record new { from = old.from }) = record {
      cpus = sees.same.cpus ∙ are.cpus;
      tasks = tasks ∙ are.tasks;
      titles = sees.same.titles ∙ are.titles;
      as_many = sees.same.as_many ∙ are.as_many;
      lanes = λ lane subject d got.
          let less : lane < length old.current = omega (arith, got-less subjects lane subject got, are.as_many) in
          lane-on boot events old.from subject n _ (slice_index_or old.current lane d) (slice_index_or new.current lane d) (slices_in lane old.slices)
          (slices_in lane new.slices)
          (sym (got-mapped (doing_of next) subjects lane subject off_doing got)
          ∙ ap (λ (them : List Doing). slice_index_or them lane off_doing) (sym doings))
          (sees.each lane d less) (are.lanes lane subject d got);
    } in
    subst (λ (from : ℕ). AreLanes boot events (suc n) (record new { from = from })) (sym sees.same.from) at_old

pub recorded-next : (boot : BoardState) (events : List Event) (n : ℕ) (notes : Notes) (old new : Option Lanes) →
    Knows (board_at boot events (suc n)) notes → tasks_of (board_at boot events (suc n)) ≡ tasks_of (board_at boot events n) →
    Records (suc n) notes old new → IsRecorded boot events n old → IsRecorded boot events (suc n) new
recorded-next boot events n notes None new knows tasks records are = subst (IsRecorded boot events (suc n)) (sym records) tt
recorded-next boot events n notes (Some old) None knows tasks records are = absurd records
recorded-next boot events n notes (Some old) (Some new) knows tasks records are = lanes-on boot events n notes old new knows tasks records are

-- ---- an event, with those after it that do nothing

module _ (boot : BoardState) (events : List Event) (at count : ℕ) (rest : Run) (b next : BoardState) (mid new : Notes) (told : Report)
    (is : b ≡ board_at boot events at) (leaves : next ≡ (happens b rest.event).board)
    (comes : ComesBehind events at rest) (some : 1 ≤ count) (few : count ≤ rest.count)
    (over : 1 < count → does_no_more rest.event (happens b rest.event).report ≡ true)
    (reports : told ≡ (happens b rest.event).report)
    (recorded : IsRecorded boot events at (option_map lanes_of mid.recording)) where
  first : slice_get events at ≡ Some rest.event
  first = event-first events at count rest comes some few

  others : AllQuiet boot events (at + 1) (at + count)
  others = quiet-rest boot b events at count rest is comes over few

  next-is : next ≡ board_at boot events (suc at)
  next-is =
      leaves ∙ ap (λ (x : BoardState). (happens x rest.event).board) is ∙ sym (board-next boot events at rest.event first)

  same-there : tasks_of (board_at boot events (suc at)) ≡ tasks_of (board_at boot events at)
  same-there =
      ap tasks_of (sym next-is) ∙ ap tasks_of leaves
      ∙ same-tasks b (happens b rest.event).board (still-there b rest.event) ∙ ap tasks_of is

  recorded-changed : Knows next new → Records (at + 1) new (option_map lanes_of mid.recording) (option_map lanes_of new.recording) →
      IsRecorded boot events (at + count) (option_map lanes_of new.recording)
  recorded-changed knows records =
      let one : at + 1 ≡ suc at = omega arith in
      let after_one : IsRecorded boot events (suc at) (option_map lanes_of new.recording) =
      recorded-next boot events at new (option_map lanes_of mid.recording) (option_map lanes_of new.recording)
      (subst (λ x. Knows x new) next-is knows) same-there
      (subst (λ (k : ℕ). Records k new (option_map lanes_of mid.recording) (option_map lanes_of new.recording)) one records) recorded in
      recorded-quiet boot events (at + 1) (at + count) (option_map lanes_of new.recording) (omega (arith, some)) others
      (subst (λ (k : ℕ). IsRecorded boot events k (option_map lanes_of new.recording)) (sym one) after_one)

  all-quiet : may_change told ≡ false → AllQuiet boot events at (at + count)
  all-quiet changes =
      at-first boot events at (at + count)
      (quiet-one boot events at rest.event first
      (ap (λ (x : BoardState). may_change (happens x rest.event).report) (sym is) ∙ ap may_change (sym reports) ∙ changes)) others

  recorded-unchanged : may_change told ≡ false → KeepsKnown mid new → IsRecorded boot events (at + count) (option_map lanes_of new.recording)
  recorded-unchanged changes kept =
      recorded-quiet boot events at (at + count) (option_map lanes_of new.recording) (omega arith) (all-quiet changes)
      (subst (IsRecorded boot events at) (sym kept.recorded) recorded)

  recorded-by : (changed : Bool) → may_change told ≡ changed → (may_change told ≡ false → KeepsKnown mid new) →
      (may_change told ≡ true → Knows next new) →
      (may_change told ≡ true → Records (at + 1) new (option_map lanes_of mid.recording) (option_map lanes_of new.recording)) →
      IsRecorded boot events (at + count) (option_map lanes_of new.recording)
  recorded-by true changes kept known records = recorded-changed (known changes) (records changes)
  recorded-by false changes kept known records = recorded-unchanged changes (kept changes)

  pub recorded-on : Knows (board_at boot events at) mid → (may_change told ≡ false → KeepsKnown mid new) →
      (may_change told ≡ true → map (λ (it : TaskSeen). it.id) mid.tasks.items ≡ tasks_of next → Knows next new) →
      (may_change told ≡ true → Records (at + 1) new (option_map lanes_of mid.recording) (option_map lanes_of new.recording)) →
      IsRecorded boot events (at + count) (option_map lanes_of new.recording)
  recorded-on knows kept known records =
      recorded-by (may_change told) refl kept
      (λ changes. known changes (knows.those ∙ sym same-there ∙ ap tasks_of (sym next-is))) records

  -- an ordinary instruction
  pub recorded-ran : is_ran told ≡ true → KeepsKnown mid new → IsRecorded boot events (at + count) (option_map lanes_of new.recording)
  recorded-ran ran kept = recorded-unchanged (changes-none told ran) kept

-- many of them
pub recorded-far : (boot b : BoardState) (events : List Event) (at count : ℕ) (rest : Run) (it : Option Lanes) → b ≡ board_at boot events at →
    ComesBehind events at rest → AllGoOn b rest.event count → count ≤ rest.count → IsRecorded boot events at it →
    IsRecorded boot events (at + count) it
recorded-far boot b events at count rest it is comes ran few recorded =
    recorded-quiet boot events at (at + count) it (omega arith) (quiet-batch boot b events at count rest is comes ran few) recorded
