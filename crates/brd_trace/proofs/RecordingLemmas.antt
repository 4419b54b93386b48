-- A timeline that is made: where it begins and where it ends, its slices, and one lane after the other.
use Rattle.std.proofs.Common.{◌≡◌, ℕ, zero, suc, ◌+◌, ◌-◌, ◌<◌, List, [], ◌∷◌, ◌++◌, length, map, refl, sym, ap, subst}
use Rattle.std.proofs.Common.{◌∙◌, le_refl, arith}
use Rattle.std.proofs.lemmas.List.{length-map}
use Rattle.std.proofs.lemmas.List.Elements.{All-nil}
use Rattle.std.specs.Prelude.{Bool, slice_get, slice_index_or, Option, None, Some, is_some, All}
use Rattle.std.specs.Option.{option_map}
use Rattle.brd_kernel.specs.declared.processor.Standing.{Standing}
use Rattle.brd_board.specs.declared.event.Event.{Event}
use Rattle.brd_board.specs.Board.{BoardState}
use Rattle.brd_journal.specs.Playing.{board_at}
use Rattle.brd_timeline.specs.declared.timeline.Timeline.{Timeline}
use Rattle.brd_seen.specs.declared.tasks.TaskSeen.{TaskSeen}
use Rattle.brd_recording.specs.declared.recording.Doing.{Doing}
use Rattle.brd_recording.specs.declared.recording.Open.{Open}
use Rattle.brd_recording.specs.declared.recording.Recording.{Recording}
use Rattle.brd_trace.specs.declared.notes.Notes.{Notes}
use Rattle.brd_trace.specs.Noted.{Knows, KeepsKnown}
use Rattle.brd_seen.specs.Seen.{IsSeen}
use Rattle.brd_names.specs.Standings.{tasks_of, standings_of}
use Rattle.brd_recording.specs.Lanes.{Title, Lanes, lanes_of}
use Rattle.brd_recording.specs.Slices.{Subject, Cpu, OfTask, off_doing, cpu_doing, doing_of, cpu_title, title_of}
use Rattle.brd_recording.specs.Slices.{cpus_in, subjects_by, subjects_of, slices_in, IsSlice, AreOf, AreSlices}
use Rattle.brd_recording.specs.Recording.{seen_doing, doings_in, open_at, cpu_open, task_open, seen_title, IsOpen}
use Rattle.brd_recording.specs.Recording.{IsLane, AreLanes, IsRecorded, IsTimeline, Begins, Sees, Ends, EndsIn}
use Rattle.brd_trace.specs.Recorded.{begun_of, BeginsIn, SeesNotes, Records}
use Rattle.brd_trace.proofs.SlicesLemmas.{got-less, got-mapped, map-both, map-twice, doings-are, closes-are}

-- ---- where one begins

opened : (from : ℕ) (doings : List Doing) (lane : ℕ) (doing : Doing) (d : Open) → slice_get doings lane ≡ Some doing →
    slice_index_or (map (open_at from) doings) lane d ≡ open_at from doing
opened from doings lane doing d is = got-mapped (open_at from) doings lane doing d is

get-mapped : {X Y : Type 0} (f : X → Y) (xs : List X) (i : ℕ) (x : X) → slice_get xs i ≡ Some x → slice_get (map f xs) i ≡ Some (f x)
get-mapped f [] i x is = absurd (cc)
get-mapped f (y ∷ xs) zero x is = let same : y ≡ x = cc in ap (λ z. Some (f z)) same
get-mapped f (y ∷ xs) (suc i) x is = get-mapped f xs i x is

no-slices : (lane : ℕ) → slices_in lane [] ≡ []
unfolding slices_in
no-slices lane = refl

-- titles, and what goes on, in the order of the lanes
begin-titles : (cpus : List ℕ) (tasks : List TaskSeen) →
    map cpu_title cpus ++ map seen_title tasks ≡ map title_of (subjects_by cpus (map (λ (it : TaskSeen). it.id) tasks))
begin-titles cpus tasks =
    let ids : List ℕ = map (λ (it : TaskSeen). it.id) tasks in
    ap (λ (them : List Title). them ++ map seen_title tasks) (sym (map-twice title_of Cpu cpus))
    ∙ ap (λ (them : List Title). map title_of (map Cpu cpus) ++ them)
    (sym (map-twice (λ (id : ℕ). title_of (OfTask id)) (λ (it : TaskSeen). it.id) tasks) ∙ sym (map-twice title_of OfTask ids))
    ∙ sym (map-both title_of (map Cpu cpus) (map OfTask ids))

begin-current : (off : Bool) (standings : List (Option Standing)) (tasks : List TaskSeen) (from : ℕ) (cpus : List ℕ) →
    map (cpu_open off standings from) cpus ++ map (task_open off standings from) tasks ≡ map (open_at from) (doings_in off standings tasks cpus)
begin-current off standings tasks from cpus =
    ap (λ (them : List Open). them ++ map (task_open off standings from) tasks) (sym (map-twice (open_at from) (cpu_doing off standings) cpus))
    ∙ ap (λ (them : List Open). map (open_at from) (map (cpu_doing off standings) cpus) ++ them)
    (sym (map-twice (open_at from) (seen_doing off standings) tasks))
    ∙ sym (map-both (open_at from) (map (cpu_doing off standings) cpus) (map (seen_doing off standings) tasks))

lanes-begin : (boot : BoardState) (events : List Event) (from : ℕ) (notes : Notes) (it : Lanes) → Knows (board_at boot events from) notes →
    Begins (is_some notes.off) notes.standings.of notes.tasks.items from it → AreLanes boot events from it
lanes-begin boot events from notes it knows begins =
    let b : BoardState = board_at boot events from in
    let subjects : List Subject = subjects_of b in
    let cpus : it.cpus ≡ cpus_in (standings_of b) = begins.cpus ∙ ap cpus_in knows.standings in
    let those : subjects_by it.cpus (tasks_of b) ≡ subjects = ap (λ (them : List ℕ). subjects_by them (tasks_of b)) cpus in
    let current : it.current ≡ map (open_at from) (map (doing_of b) subjects) =
    begins.current ∙ begin-current (is_some notes.off) notes.standings.of notes.tasks.items from it.cpus
    ∙ ap (map (open_at from)) (doings-are b notes it.cpus knows ∙ ap (map (doing_of b)) those) in
    let here : AreLanes boot events from (record it { from = from }) = record {
      cpus = cpus;
      tasks = refl;
      titles = begins.titles ∙ begin-titles it.cpus notes.tasks.items ∙ ap (λ (ids : List ℕ). map title_of (subjects_by it.cpus ids)) knows.those ∙ ap (map title_of) those;
      as_many = ap length current ∙ length-map (map (doing_of b) subjects) (open_at from) ∙ length-map subjects (doing_of b);
      lanes = λ lane subject d got.
          let is : slice_index_or it.current lane d ≡ open_at from (doing_of b subject) =
          ap (λ (them : List Open). slice_index_or them lane d) current
          ∙ opened from (map (doing_of b) subjects) lane (doing_of b subject) d (get-mapped (doing_of b) subjects lane subject got) in
          let begun : IsOpen boot events from from subject (open_at from (doing_of b subject)) = record {
            least = le_refl from;
            most = le_refl from;
            stays = λ p above below.
                let same : from ≡ p = omega (arith, above, below) in
                subst (λ (k : ℕ). doing_of (board_at boot events k) subject ≡ doing_of b subject) same refl;
            begins = λ p above next. absurd (omega (arith, above, next));
          } in
          let empty : AreOf boot events from from subject (slices_in lane it.slices) =
          subst (AreOf boot events from from subject) (sym (ap (slices_in lane) begins.none ∙ no-slices lane))
          (record { each = All-nil (IsSlice boot events from subject); follow = refl }) in
          let made : IsLane boot events from from subject (open_at from (doing_of b subject)) (slices_in lane it.slices) =
          record { is_open = begun; before = empty } in
          subst (λ (o : Open). IsLane boot events from from subject o (slices_in lane it.slices)) (sym is) made;
    } in
    subst (λ (k : ℕ). AreLanes boot events from (record it { from = k })) (sym begins.from_is) here

pub recorded-begins : (boot : BoardState) (events : List Event) (from : ℕ) (notes : Notes) (it : Option Lanes) →
    Knows (board_at boot events from) notes → BeginsIn from notes it → IsRecorded boot events from it
recorded-begins boot events from notes None knows begins = absurd begins
recorded-begins boot events from notes (Some it) knows begins = lanes-begin boot events from notes it knows begins

-- ---- where it ends

lanes-end : (boot : BoardState) (events : List Event) (from to : ℕ) (old : Lanes) (it : Timeline) (d : Open) → old.from ≡ from →
    Ends to old it → AreLanes boot events to old → AreSlices boot events from to it
lanes-end boot events from to old it d is ends are =
    let made : AreSlices boot events old.from to it = record {
      from_is = ends.from_is;
      to_is = ends.to_is;
      titles = ends.titles ∙ are.titles;
      slices = λ lane subject got.
          let subjects : List Subject = subjects_of (board_at boot events old.from) in
          let less : lane < length old.current = omega (arith, got-less subjects lane subject got, are.as_many) in
          let lane_is : IsLane boot events old.from to subject (slice_index_or old.current lane d) (slices_in lane old.slices) =
          are.lanes lane subject d got in
          closes-are boot events old.from subject to to (slice_index_or old.current lane d) (slices_in lane old.slices) (slices_in lane it.slices.items)
          lane_is.is_open.most (omega arith) lane_is.is_open lane_is.before (ends.each lane d less);
    } in
    subst (λ (k : ℕ). AreSlices boot events k to it) is made

some-is : (one other : ℕ) → Some one ≡ Some other → one ≡ other
some-is one other is = cc

pub timeline-is : (boot : BoardState) (events : List Event) (from to : ℕ) (old : Option Lanes) (made : Option Timeline) →
    option_map (λ (lanes : Lanes). lanes.from) old ≡ Some from → EndsIn to old made → IsRecorded boot events to old →
    IsTimeline boot events from to made
timeline-is boot events from to None made begun ends recorded = let no : ⊥ = cc in absurd no
timeline-is boot events from to (Some old) None begun ends recorded = absurd ends
timeline-is boot events from to (Some old) (Some it) begun ends recorded =
    lanes-end boot events from to old it (open_at 0 off_doing) (some-is old.from from begun) ends recorded

-- ---- what is known of a board beside a timeline

pub same-knows : (b : BoardState) (old new : Notes) → new.tasks ≡ old.tasks → new.standings ≡ old.standings → new.off ≡ old.off →
    Knows b old → Knows b new
same-knows b old new tasks standings off knows = record {
  those = ap (λ them. map (λ (it : TaskSeen). it.id) them.items) tasks ∙ knows.those;
  tasks = subst (λ them. All (IsSeen b) them.items) (sym tasks) knows.tasks;
  standings = ap (λ them. them.of) standings ∙ knows.standings;
  off = ap is_some off ∙ knows.off;
}

-- where it begins
begun-of : (made : Option Recording) → option_map (λ (it : Recording). it.timeline.from) made ≡ option_map (λ (lanes : Lanes). lanes.from) (option_map lanes_of made)
begun-of None = refl
begun-of (Some it) = refl

pub keeps-begun : (old new : Notes) → KeepsKnown old new → begun_of new ≡ begun_of old
keeps-begun old new keeps =
    begun-of new.recording ∙ ap (option_map (λ (lanes : Lanes). lanes.from)) keeps.recorded ∙ sym (begun-of old.recording)

pub begun-from : (notes : Notes) (from : ℕ) → begun_of notes ≡ Some from →
    option_map (λ (lanes : Lanes). lanes.from) (option_map lanes_of notes.recording) ≡ Some from
begun-from notes from begun = sym (begun-of notes.recording) ∙ begun

begun-some : (from : ℕ) (notes : Notes) (it : Option Lanes) → BeginsIn from notes it → option_map (λ (lanes : Lanes). lanes.from) it ≡ Some from
begun-some from notes None begins = absurd begins
begun-some from notes (Some it) begins = ap Some begins.from_is

pub begins-begun : (from : ℕ) (notes : Notes) → BeginsIn from notes (option_map lanes_of notes.recording) → begun_of notes ≡ Some from
begins-begun from notes begins = begun-of notes.recording ∙ begun-some from notes (option_map lanes_of notes.recording) begins

-- what it has seen depends on how tasks and processors stand, and whether the board is off
sees-same : (at : ℕ) (one other : Notes) (old new : Lanes) → other.tasks ≡ one.tasks → other.standings ≡ one.standings → other.off ≡ one.off →
    SeesNotes at one old new → SeesNotes at other old new
sees-same at one other old new tasks standings off sees =
    subst (λ (doings : List Doing). Sees at doings old new)
    (sym (ap (λ them. doings_in (is_some other.off) other.standings.of them.items old.cpus) tasks
    ∙ ap (λ them. doings_in (is_some other.off) them.of one.tasks.items old.cpus) standings
    ∙ ap (λ (them : Option ℕ). doings_in (is_some them) one.standings.of one.tasks.items old.cpus) off)) sees

pub records-same : (at : ℕ) (one other : Notes) (old new : Option Lanes) → other.tasks ≡ one.tasks → other.standings ≡ one.standings →
    other.off ≡ one.off → Records at one old new → Records at other old new
records-same at one other None new tasks standings off records = records
records-same at one other (Some old) None tasks standings off records = absurd records
records-same at one other (Some old) (Some new) tasks standings off records = sees-same at one other old new tasks standings off records
