-- The schedules of a shard, and the shards together.
use Rattle.std.proofs.Common.{◌≡◌, ℕ, ◌+◌, ◌%◌, ◌<◌, ◌≤◌, List, [], ◌∷◌, ◌++◌, length, Vec, Global, refl, sym, ap, subst, ◌∙◌, arith, inl, inr}
use Rattle.std.specs.Prelude.{Bool, true, false, not, ◌==◌, ◌&&◌, ◌||◌, All, Option, Some, None, option_map, if◌then◌else◌, Result, Ok, Err, IfOk}
use Rattle.std.proofs.lemmas.Bool.{cases_lt, cases_Bool, and_parts, false≢true}
use Rattle.std.proofs.lemmas.Bool.Decides.{nat_tests}
use Rattle.std.proofs.lemmas.List.Elements.{All-nil, All-push, All-pop}
use Rattle.std.proofs.Math.Nat.{mod-lt}
use Rattle.brd_board.specs.declared.event.Event.{Event}
use Rattle.brd_board.specs.declared.event.Report.{Report}
use Rattle.brd_board.specs.Board.{BoardState, Happened, happens}
use Rattle.brd_journal.specs.Still.{did_nothing}
use Rattle.brd_explore.specs.declared.shard.Deal.{Deal}
use Rattle.brd_explore.specs.declared.shard.Shard.{Shard}
use Rattle.brd_explore.specs.declared.search.Found.{Found}
use Rattle.brd_explore.specs.declared.search.Search.{Search}
use Rattle.brd_explore.specs.declared.search.Saved.{Saved}
use Rattle.brd_explore.specs.declared.search.Turn.{Turn}
use Rattle.brd_explore.specs.declared.search.Turn.TheVariants as turn
use Rattle.brd_explore.specs.declared.wanted.Wanted.{Wanted}
use Rattle.brd_explore.specs.Schedules.{Place, does, is_left, next}
use Rattle.brd_explore.specs.Ordering.{event_tried}
use Rattle.brd_explore.specs.Failures.{fails_at}
use Rattle.brd_explore.specs.Searching.{Answers, Begins, FailsAt, IsFound, NoneFails, NoneGoes, Leads, AreOnPath, IsOnPath, IsSame, IsSized, AreAlike, KeepsOr, HasGoneOr, HasStayed, HasPassed, HasGoneBack, LeavesOut, LeadsOn, Finds, HasLess, most_saved, most_turns, turns_left, ended_by, place_of, spot_of, spot_of_saved}
use Rattle.brd_explore.specs.Knowing.{Leaves}
use Rattle.brd_explore.specs.Shards.{is_dealt, undealt, IsInShard, NoneFailsInShard, AnswersInShard}
use Rattle.brd_explore.specs.Sharing.{AreOthers, BeginsHere, LeavesOutIn, NoneDealt, NoneDealtBy, NoneDealtFrom, NoneLeftIn, PathFails, SearchesAll, SearchesFrom, goes_in, is_choice, may_come}
use Rattle.brd_explore.specs.Sleeping.{Spot, awake, is_left_out, next_spot}
use Rattle.brd_explore.proofs.AwakeLemmas.{none-awake}
use Rattle.brd_explore.proofs.EnoughLemmas.{all-lead}
use Rattle.brd_explore.proofs.FindLemmas.{begins-on}
use Rattle.brd_explore.proofs.KnownLemmas.{leaves-same, leads-left, less-left, less-both}
use Rattle.brd_explore.proofs.OrderLemmas.{among-tried}
use Rattle.brd_explore.proofs.PathLemmas.{leads-after, leads-within}
use Rattle.brd_explore.proofs.SearchLemmas.{none-from}
use Rattle.brd_explore.proofs.SizeLemmas.{alike-back, pushed, sized-moved}

-- What isn't looked at.

-- an event that deals a schedule to another shard leads to none of this one
other-none : (of number events : ℕ) (may dealt : Bool) → may ≡ true → may && (not dealt || events % of == number) ≡ false →
    (dealt ≡ true → events % of ≡ number) → ⊥
other-none of number events true true is none ours = grind (arith, nat_tests, none, ours refl)
other-none of number events true false is none ours = false≢true (sym none)
other-none of number events false dealt is none ours = false≢true is

none-other : (wanted : Wanted) (deal : Deal) (among : List Event) (spot : Spot) (event : Event) → is_choice deal spot.place event ≡ false →
    NoneDealtBy wanted deal among spot event
none-other wanted deal among spot event none did left tried es to leads ours fails =
    other-none deal.shard.of deal.shard.number (next spot.place event).left.events (is_left spot.place event)
    (is_dealt deal.least (next spot.place event).left) left none ours.0

none-others : (wanted : Wanted) (deal : Deal) (among : List Event) (spot : Spot) (from : ℕ) → AreOthers deal among spot.place from (length among) →
    NoneDealtFrom wanted deal among spot from
none-others wanted deal among spot from others k above below = none-other wanted deal among spot (event_tried among spot.place.last k) (others k above below)

-- some are others', one fails not, and then those behind it
none-more : (wanted : Wanted) (deal : Deal) (among : List Event) (spot : Spot) (from at : ℕ) → from ≤ at → AreOthers deal among spot.place from at →
    NoneDealtBy wanted deal among spot (event_tried among spot.place.last at) → NoneDealtFrom wanted deal among spot (at + 1) → NoneDealtFrom wanted deal among spot from
none-more wanted deal among spot from at on others here rest k above below = elim (cases_lt k at) [
  | inl lt ↦ none-other wanted deal among spot (event_tried among spot.place.last k) (others k above lt)
  | inr ge ↦ elim (cases_lt at k) [
    | inl more ↦ rest k (omega (arith, more)) below
    | inr less ↦ let same : at ≡ k = omega (arith, ge, less) in subst (λ n. NoneDealtBy wanted deal among spot (event_tried among spot.place.last n)) same here
  ]
]

-- Where the place doesn't fail, and no schedule that begins with one of the events fails, none does.
none-dealt : (wanted : Wanted) (deal : Deal) (among : List Event) (spot : Spot) → NoneDealtFrom wanted deal among spot 0 → (FailsAt wanted spot.place → ⊥) →
    NoneDealt wanted deal among spot
none-dealt wanted deal among spot begins here [] to leads ours fails = here (subst (FailsAt wanted) (sym leads) fails)
none-dealt wanted deal among spot begins here (e ∷ es) to leads ours fails =
    let one = among-tried among spot.place.last e leads.0 in
    let none : NoneDealtBy wanted deal among spot e = subst (NoneDealtBy wanted deal among spot) one.is (begins one.at (omega arith) one.below) in
    none leads.2 leads.1 leads.3 es to leads.4 ours fails

-- no schedule of the shard fails from a place that a search has just come to, and from where it has nothing left
none-here : (wanted : Wanted) (deal : Deal) (among : List Event) (t : Search) → NoneDealtFrom wanted deal among (spot_of t) t.at → t.at ≡ 0 →
    fails_at wanted t.board t.left ≡ false → NoneDealt wanted deal among (spot_of t)
none-here wanted deal among t none at fine =
    none-dealt wanted deal among (spot_of t) (subst (NoneDealtFrom wanted deal among (spot_of t)) at none) (λ fails. false≢true (sym fine ∙ fails))

-- What a turn leaves.

-- a saved place from which nothing fails
abbrev IsFine : Wanted → Deal → List Event → Saved → Type 0
IsFine wanted deal among f = NoneDealtFrom wanted deal among (spot_of_saved f) f.at

abbrev Others : Deal → List Event → Search → ℕ → Type 0
Others deal among s at = AreOthers deal among (place_of s) (at + 1) (length among)

kept-rest : (wanted : Wanted) (deal : Deal) (among : List Event) (s t : Search) (at : ℕ) → KeepsOr (Others deal among s at) s at t →
    All (IsFine wanted deal among) t.saved.items →
    NoneDealtFrom wanted deal among (spot_of s) (at + 1) × All (IsFine wanted deal among) s.saved.items
kept-rest wanted deal among s t at (inl same) all =
    (none-others wanted deal among (spot_of s) (at + 1) same.1, subst (All (IsFine wanted deal among)) same.0 all)
kept-rest wanted deal among s t at (inr more) all =
    let parts = All-pop (IsFine wanted deal among) t.saved.items s.saved.items (Some more.0) more.1 all in
    let same : spot_of_saved more.0 ≡ spot_of s = λ i. record { place = more.2 i; asleep = more.5 i } in
    (subst (λ spot. NoneDealtFrom wanted deal among spot (at + 1)) same (subst (NoneDealtFrom wanted deal among (spot_of_saved more.0)) more.3 parts.1), parts.0)

-- it has gone on to a place from where none of the schedules fails that begin with the event
leaves-by : (wanted : Wanted) (deal : Deal) (among : List Event) (s t : Search) (at : ℕ) → s.at ≤ at → AreOthers deal among (place_of s) s.at at →
    HasGoneOr (Others deal among s at) among s at t → NoneDealtBy wanted deal among (spot_of s) (event_tried among s.last at) →
    All (IsFine wanted deal among) t.saved.items → NoneLeftIn wanted deal among s
leaves-by wanted deal among s t at on others gone by all =
    let kept = kept-rest wanted deal among s t at gone.saved all in
    record {
      here = none-more wanted deal among (spot_of s) s.at at on others by kept.0;
      saved = kept.1;
    }

gone-spot : (among : List Event) (s t : Search) (at : ℕ) {Else : Type 0} → HasGoneOr Else among s at t → spot_of t ≡ next_spot (spot_of s) (event_tried among s.last at)
gone-spot among s t at gone = λ i. record { place = gone.place i; asleep = gone.asleep i }

dealt-next : (deal : Deal) (among : List Event) (s t : Search) (at : ℕ) (dealt : Bool) {Else : Type 0} → HasGoneOr Else among s at t →
    dealt ≡ is_dealt deal.least t.left → is_dealt deal.least (next (place_of s) (event_tried among s.last at)).left ≡ dealt
dealt-next deal among s t at dealt gone is = ap (λ (p : Place). is_dealt deal.least p.left) (sym gone.place) ∙ sym is

-- nothing is dealt out there yet
pub leaves-gone : (wanted : Wanted) (deal : Deal) (among : List Event) (s t : Search) (at : ℕ) → s.at ≤ at → AreOthers deal among (place_of s) s.at at →
    HasGoneOr (Others deal among s at) among s at t → false ≡ is_dealt deal.least t.left → fails_at wanted t.board t.left ≡ false →
    NoneLeftIn wanted deal among t → NoneLeftIn wanted deal among s
leaves-gone wanted deal among s t at on others gone dealt fine none =
    let there : NoneDealt wanted deal among (next_spot (spot_of s) (event_tried among s.last at)) =
    subst (NoneDealt wanted deal among) (gone-spot among s t at gone) (none-here wanted deal among t none.here gone.at fine) in
    leaves-by wanted deal among s t at on others gone
    (λ did left tried es to leads ours. there es to leads (ours.1 (dealt-next deal among s t at false gone dealt))) none.saved

-- all schedules were searched from there
leaves-all : (wanted : Wanted) (deal : Deal) (among : List Event) (s t : Search) (at : ℕ) → s.at ≤ at → AreOthers deal among (place_of s) s.at at →
    HasGoneOr (Others deal among s at) among s at t → NoneGoes wanted among (spot_of t) →
    All (IsFine wanted deal among) t.saved.items → NoneLeftIn wanted deal among s
leaves-all wanted deal among s t at on others gone none all =
    let there = subst (NoneGoes wanted among) (gone-spot among s t at gone) none in
    leaves-by wanted deal among s t at on others gone (λ did left tried es to leads ours. there es to leads) all

-- what is left to be tried where it has stayed
from-stayed : (wanted : Wanted) (deal : Deal) (among : List Event) (s t : Search) (at : ℕ) → place_of t ≡ place_of s → t.asleep ≡ s.asleep → t.at ≡ at + 1 →
    NoneDealtFrom wanted deal among (spot_of t) t.at → NoneDealtFrom wanted deal among (spot_of s) (at + 1)
from-stayed wanted deal among s t at place asleep is none =
    let same : spot_of t ≡ spot_of s = λ i. record { place = place i; asleep = asleep i } in
    subst (λ spot. NoneDealtFrom wanted deal among spot (at + 1)) same (subst (NoneDealtFrom wanted deal among (spot_of t)) is none)

pub leaves-stayed : (wanted : Wanted) (deal : Deal) (among : List Event) (s t : Search) (at : ℕ) → s.at ≤ at → AreOthers deal among (place_of s) s.at at →
    HasStayed among s at t → NoneLeftIn wanted deal among t → NoneLeftIn wanted deal among s
leaves-stayed wanted deal among s t at on others stayed none = record {
  here = none-more wanted deal among (spot_of s) s.at at on others (λ did left tried es to leads ours fails. false≢true (sym stayed.did ∙ did))
      (from-stayed wanted deal among s t at stayed.place stayed.asleep stayed.at none.here);
  saved = subst (All (IsFine wanted deal among)) stayed.saved none.saved;
}

pub leaves-passed : (wanted : Wanted) (deal : Deal) (among : List Event) (s t : Search) (at : ℕ) → s.at ≤ at → AreOthers deal among (place_of s) s.at at →
    is_left_out wanted (spot_of s) (event_tried among s.last at) ≡ true → HasPassed s at t → NoneLeftIn wanted deal among t → NoneLeftIn wanted deal among s
leaves-passed wanted deal among s t at on others out passed none = record {
  here = none-more wanted deal among (spot_of s) s.at at on others (λ did left tried es to leads ours fails. false≢true (sym tried ∙ out))
      (from-stayed wanted deal among s t at passed.place passed.asleep passed.at none.here);
  saved = subst (All (IsFine wanted deal among)) passed.saved none.saved;
}

-- it has gone back, to where nothing fails
back-fine : (wanted : Wanted) (deal : Deal) (among : List Event) (s t : Search) → HasGoneBack s t → NoneLeftIn wanted deal among t →
    All (IsFine wanted deal among) s.saved.items
back-fine wanted deal among s t back none =
    let same : spot_of t ≡ spot_of_saved back.f = λ i. record { place = back.place i; asleep = back.asleep i } in
    subst (All (IsFine wanted deal among)) (sym back.saved)
    (All-push (IsFine wanted deal among) t.saved.items back.f none.saved
    (subst (NoneDealtFrom wanted deal among (spot_of_saved back.f)) back.at (subst (λ spot. NoneDealtFrom wanted deal among spot t.at) same none.here)))

over-fine : (wanted : Wanted) (deal : Deal) (among : List Event) (s : Search) → s.saved.items ≡ [] → All (IsFine wanted deal among) s.saved.items
over-fine wanted deal among s nothing = subst (All (IsFine wanted deal among)) (sym nothing) (All-nil (IsFine wanted deal among))

-- nothing is to be chosen where it was
pub leaves-here : (wanted : Wanted) (deal : Deal) (among : List Event) (s t : Search) (end : Turn) → AreOthers deal among (place_of s) s.at (length among) →
    Leaves s t end → LeavesOutIn wanted deal among s t end
leaves-here wanted deal among s t turn.On others leaves = λ none. record {
  here = none-others wanted deal among (spot_of s) s.at others;
  saved = back-fine wanted deal among s t leaves none;
}
leaves-here wanted deal among s t turn.Found others leaves = tt
leaves-here wanted deal among s t turn.Over others leaves = record {
  here = none-others wanted deal among (spot_of s) s.at others;
  saved = over-fine wanted deal among s leaves;
}

-- nor does a schedule fail from there
pub leaves-searched : (wanted : Wanted) (deal : Deal) (among : List Event) (s t u v : Search) (at : ℕ) (end : Turn) → s.at ≤ at →
    AreOthers deal among (place_of s) s.at at → HasGoneOr (Others deal among s at) among s at t → NoneGoes wanted among (spot_of t) →
    u.saved.items ≡ t.saved.items → u.path.items ≡ t.path.items → Leaves u v end → LeavesOutIn wanted deal among s v end
leaves-searched wanted deal among s t u v at turn.On on others gone none saved path leaves = λ left.
    leaves-all wanted deal among s t at on others gone none (back-fine wanted deal among t v (leaves-same t u v turn.On saved path leaves) left)
leaves-searched wanted deal among s t u v at turn.Found on others gone none saved path leaves = tt
leaves-searched wanted deal among s t u v at turn.Over on others gone none saved path leaves =
    leaves-all wanted deal among s t at on others gone none (over-fine wanted deal among t (leaves-same t u v turn.Over saved path leaves))

-- what a search of a shard answers

pub finds-in-shard : (wanted : Wanted) (deal : Deal) (among : List Event) (from : Place) (s t : Search) (found : Bool) (schedule : Option (List Event)) →
    Begins from s → fails_at wanted from.board from.left ≡ false → deal.least ≡ undealt from.left → LeavesOutIn wanted deal among s t (ended_by found) →
    ((f : Place) → IsOnPath among f s → LeadsOn wanted among f t (ended_by found)) → Finds t found schedule →
    AnswersInShard wanted deal.shard among from schedule
finds-in-shard wanted deal among from s t true schedule begins fine least out on is =
    subst (AnswersInShard wanted deal.shard among from) (sym is) (on from (begins-on among from s begins))
finds-in-shard wanted deal among from s t false schedule begins fine least out on is =
    let fine' : fails_at wanted s.board s.left ≡ false = ap (λ (p : Place). fails_at wanted p.board p.left) begins.place ∙ fine in
    let same : spot_of s ≡ awake from = λ i. record { place = begins.place i; asleep = begins.awake i } in
    let none : NoneDealt wanted deal among (awake from) = subst (NoneDealt wanted deal among) same (none-here wanted deal among s out.here begins.at fine') in
    subst (AnswersInShard wanted deal.shard among from) (sym is)
    (λ es to leads ours. none es to leads (subst (λ least. IsInShard deal.shard least from es) (sym least) ours))

-- The shards together.

pub record IsInSome (of least : ℕ) (p : Place) (events : List Event) : Type 0 where
  pub shard : Shard
  pub is : shard.of ≡ of
  pub below : shard.number < of
  pub has : IsInShard shard least p events

in-some : (of least : ℕ) → 0 < of → (p : Place) (events : List Event) → IsInSome of least p events
in-some of least some p [] = record { shard = record { number = 0; of = of }; is = refl; below = some; has = tt }
in-some of least some p (e ∷ es) = elim (cases_Bool (is_dealt least (next p e).left)) [
  | inl dealt ↦ record {
    shard = record { number = (next p e).left.events % of; of = of };
    is = refl;
    below = mod-lt ((next p e).left.events) some;
    has = (λ _. refl, λ not. absurd (false≢true (sym not ∙ dealt)));
  }
  | inr not ↦
      let rest = in-some of least some (next p e) es in
      record {
        shard = rest.shard;
        is = rest.is;
        below = rest.below;
        has = (λ dealt. absurd (false≢true (sym not ∙ dealt)), λ _. rest.has);
      }
]

pub none-in-all : (of : ℕ) → 0 < of → (wanted : Wanted) (among : List Event) (p : Place) →
    ((shard : Shard) → shard.of ≡ of → shard.number < of → NoneFailsInShard wanted shard among p) → NoneFails wanted among p
none-in-all of some wanted among p none = none-awake wanted among p (λ events to leads fails.
    let one = in-some of (undealt p.left) some p events in
    none one.shard one.is one.below events to leads one.has fails)

-- where no schedule fails, none of a shard does
pub none-in-one : (wanted : Wanted) (shard : Shard) (among : List Event) (p : Place) → NoneFails wanted among p → NoneFailsInShard wanted shard among p
none-in-one wanted shard among p none events to leads ours fails =
    let on : Leads among p events to = all-lead wanted among (awake p) events to leads in
    none events (leads-within among p events to on) (subst (FailsAt wanted) (sym (leads-after among p events to on)) fails)

answers-in-one : (wanted : Wanted) (shard : Shard) (among : List Event) (p : Place) (schedule : Option (List Event)) → Answers wanted among p schedule →
    AnswersInShard wanted shard among p schedule
answers-in-one wanted shard among p (Some events) is = is
answers-in-one wanted shard among p None is = none-in-one wanted shard among p is

pub in-one : {E : Type 0} (wanted : Wanted) (shard : Shard) (among : List Event) (p : Place) (result : Result Found E) →
    IfOk result (λ found. Answers wanted among p (option_map (λ (v : Vec Event Global). v.items) found.schedule)) →
    IfOk result (λ found. AnswersInShard wanted shard among p (option_map (λ (v : Vec Event Global). v.items) found.schedule))
in-one wanted shard among p (Err error) is = tt
in-one wanted shard among p (Ok found) is = answers-in-one wanted shard among p (option_map (λ (v : Vec Event Global). v.items) found.schedule) is

-- what the code asks, and does

pub comes-tried : (p : Place) (e : Event) (now : BoardState) (told : Report) (afforded none : Bool) →
    afforded ≡ is_left p e → afforded ≡ true → record { board = now; report = told } ≡ happens p.board e → none ≡ did_nothing told →
    not none ≡ may_come p e
unfolding does
comes-tried p e now told afforded none left is happened nothing =
    let left' : is_left p e ≡ true = sym left ∙ is in
    let did : not none ≡ does p.board e = ap not (nothing ∙ ap (λ (h : Happened). did_nothing h.report) happened) in
    did ∙ sym (ap (λ x. x && does p.board e) left')

-- the first part of what an event to choose is
pub choice-left : (deal : Deal) (p : Place) (event : Event) → is_choice deal p event ≡ true → is_left p event ≡ true
choice-left deal p event is = (and_parts (is_left p event) (goes_in deal (next p event).left) is).0

-- a search that begins here, and has nothing left
pub searched-from : (wanted : Wanted) (among : List Event) (s t : Search) (found : Bool) → BeginsHere s → fails_at wanted s.board s.left ≡ false →
    LeavesOut wanted among s t (ended_by found) → ((f : Place) → IsOnPath among f s → LeadsOn wanted among f t (ended_by found)) →
    SearchesFrom wanted among s t found
searched-from wanted among s t true begins fine out on = λ from is. on from is
searched-from wanted among s t false begins fine out on = none-from wanted among s out.here begins.at fine

pub searched-run : {E : Type 0} (wanted : Wanted) (among : List Event) (s t : Search) (r : Result Bool E) → BeginsHere s → fails_at wanted s.board s.left ≡ false →
    IfOk r (λ found. LeavesOut wanted among s t (ended_by found)) →
    ((f : Place) → IsOnPath among f s → IfOk r (λ found. LeadsOn wanted among f t (ended_by found))) → IfOk r (SearchesFrom wanted among s t)
searched-run wanted among s t (Ok found) begins fine out on = searched-from wanted among s t found begins fine out on
searched-run wanted among s t (Err error) begins fine out on = tt

-- a search of its own, from where another one is

branch-on : (among : List Event) (from : Place) (s b : Search) → spot_of b ≡ spot_of s → b.path.items ≡ s.path.items → BeginsHere b →
    IsOnPath among from s → IsOnPath among from b
branch-on among from s b spot path begins on = record {
  here = subst (Leads among from b.path.items) (ap (λ (x : Spot). x.place) (sym spot)) (subst (λ es. Leads among from es (place_of s)) (sym path) on.here);
  saved = subst (AreOnPath among from b.path.items 0) (sym begins.saved) (omega arith);
}

pub all-found : (wanted : Wanted) (among : List Event) (s b t u : Search) (found : Bool) → found ≡ true → spot_of b ≡ spot_of s →
    b.path.items ≡ s.path.items → BeginsHere b → SearchesFrom wanted among b t found → u.path.items ≡ t.path.items →
    SearchesAll wanted among s u found
all-found wanted among s b t u true is spot path begins searched same = λ from on.
    subst (IsFound wanted among from) (sym same) (searched from (branch-on among from s b spot path begins on))
all-found wanted among s b t u false is spot path begins searched same = absurd (false≢true is)

pub all-none : (wanted : Wanted) (among : List Event) (s b t u : Search) (found : Bool) → found ≡ false → spot_of b ≡ spot_of s →
    SearchesFrom wanted among b t found → IsSame s u → SearchesAll wanted among s u found
all-none wanted among s b t u true is spot searched same = absurd (false≢true (sym is))
all-none wanted among s b t u false is spot searched same = (same, subst (NoneGoes wanted among) spot searched)

-- a board that is kept for another place
pub sized-kept : (s t : Search) (b : BoardState) (done : Bool) → IsSized s → AreAlike s.board b → t.board ≡ s.board →
    t.saved.items ≡ s.saved.items → t.spare.items ≡ (if done then s.spare.items ++ b ∷ [] else s.spare.items) → IsSized t
sized-kept s t b done sized alike same saved spare =
    let moved : IsSized (record t { spare = s.spare }) = sized-moved s (record t { spare = s.spare }) sized
    (subst (AreAlike s.board) (sym same) (record { size = refl; order = refl })) saved refl in
    record {
      saved = moved.saved;
      spare = pushed (λ x. AreAlike x t.board) s.spare.items t.spare.items b done spare moved.spare
          (subst (AreAlike b) (sym same) (alike-back s.board b alike));
    }

-- what it came to

pub all-fails : (wanted : Wanted) (among : List Event) (s t : Search) (found : Bool) → found ≡ true → SearchesAll wanted among s t found → PathFails wanted among s t
all-fails wanted among s t true is searched = searched
all-fails wanted among s t false is searched = absurd (false≢true is)

pub all-none-of : (wanted : Wanted) (among : List Event) (s t : Search) (found : Bool) → found ≡ false → SearchesAll wanted among s t found →
    IsSame s t × NoneGoes wanted among (spot_of s)
all-none-of wanted among s t true is searched = absurd (false≢true (sym is))
all-none-of wanted among s t false is searched = searched

same-on : (among : List Event) (from : Place) (s t : Search) → IsSame s t → IsOnPath among from s → IsOnPath among from t
same-on among from s t same on = record {
  here = subst (Leads among from t.path.items) (sym same.place) (subst (λ es. Leads among from es (place_of s)) (sym same.path) on.here);
  saved = subst (λ es. AreOnPath among from es 0 t.saved.items) (sym same.path) (subst (AreOnPath among from s.path.items 0) (sym same.saved) on.saved);
}

pub leads-same : (wanted : Wanted) (among : List Event) (from : Place) (s t u : Search) (end : Turn) → IsSame s t → Leaves t u end → IsOnPath among from s →
    LeadsOn wanted among from u end
leads-same wanted among from s t u end same leaves on = leads-left wanted among from t u end leaves (same-on among from s t same on)

same-turns : (among : List Event) (s t : Search) → IsSame s t → turns_left among s ≡ turns_left among t
same-turns among s t same =
    let here : most_turns (length among) s.left.events s.at ≡ most_turns (length among) t.left.events t.at =
    ap (λ (p : Place). most_turns (length among) p.left.events s.at) (sym same.place) ∙ ap (most_turns (length among) t.left.events) (sym same.at) in
    omega (arith, here, ap (most_saved (length among)) same.saved)

pub less-searched : (among : List Event) (s t u v : Search) (end : Turn) → turns_left among t < turns_left among s → IsSame t u → Leaves u v end →
    HasLess among s v end
less-searched among s t u v end less same leaves =
    less-both among s u v end (omega (arith, less, same-turns among t u same)) (less-left among u v end leaves)
