-- A board that plays on with a run of a list of events.
use Rattle.std.proofs.Common.{◌≡◌, ℕ, zero, suc, ◌+◌, ◌-◌, ◌<◌, ◌≤◌, List, [], ◌∷◌, ◌++◌, length, take, drop, refl, sym, ap, subst, ◌∙◌, arith}
use Rattle.std.specs.Prelude.{Bool, true, false, Some, slice_get}
use Rattle.std.proofs.Math.Seq.{take-add}
use Rattle.brd_board.specs.declared.event.Event.{Event}
use Rattle.brd_board.specs.declared.event.Report.{Report}
use Rattle.brd_board.specs.Board.{BoardState, Happened, happens, after}
use Rattle.brd_journal.specs.declared.playback.Playback.{Playback}
use Rattle.brd_journal.specs.declared.run.Run.{Run}
use Rattle.brd_journal.specs.Playing.{board_at, IsPlayed, AreStill}
use Rattle.brd_journal.specs.Runs.{copies, ComesBehind}
use Rattle.brd_journal.specs.Still.{does_no_more, Rests}
use Rattle.brd_journal.proofs.AfterLemmas.{after-append}
use Rattle.brd_journal.proofs.EventLemmas.{copies-suc, copies-one}
use Rattle.brd_journal.proofs.StillLemmas.{rests, after-still}

-- the first events of a stretch of equal ones, and each of them

take-copies : (e : Event) (n count : ℕ) (more : List Event) → n ≤ count → take n (copies e count ++ more) ≡ copies e n
unfolding copies
take-copies e zero count more few = refl
take-copies e (suc n) zero more few = absurd (omega (arith, few))
take-copies e (suc n) (suc count) more few = ap (λ es. e ∷ es) (take-copies e n count more (omega (arith, few)))

get-copies : (e : Event) (n count : ℕ) (more : List Event) → n < count → slice_get (copies e count ++ more) n ≡ Some e
unfolding copies
get-copies e n zero more few = absurd (omega (arith, few))
get-copies e zero (suc count) more few = refl
get-copies e (suc n) (suc count) more few = get-copies e n count more (omega (arith, few))

get-drop : (events : List Event) (at n : ℕ) → slice_get (drop at events) n ≡ slice_get events (at + n)
get-drop [] zero n = refl
get-drop [] (suc at) n = refl
get-drop (e ∷ events) zero n = let same : n ≡ zero + n = omega arith in ap (slice_get (e ∷ events)) same
get-drop (e ∷ events) (suc at) n = let next : suc (at + n) ≡ suc at + n = omega arith in get-drop events at n ∙ ap (slice_get (e ∷ events)) next

-- the events of a run that comes
pub run-at : (events : List Event) (at n : ℕ) (rest : Run) → ComesBehind events at rest → n < rest.count → slice_get events (at + n) ≡ Some rest.event
run-at events at n rest comes few =
    sym (get-drop events at n) ∙ ap (λ es. slice_get es n) comes.1 ∙ get-copies rest.event n rest.count (drop (at + rest.count) events) few

-- the board after some of them
pub run-board : (boot b : BoardState) (events : List Event) (at n : ℕ) (rest : Run) → b ≡ board_at boot events at → ComesBehind events at rest →
    n ≤ rest.count → after b (copies rest.event n) ≡ board_at boot events (at + n)
run-board boot b events at n rest is comes few =
    ap (λ x. after x (copies rest.event n)) is ∙ sym (after-append boot (take at events) (copies rest.event n))
    ∙ ap (λ es. after boot (take at events ++ es)) (sym (ap (take n) comes.1 ∙ take-copies rest.event n rest.count (drop (at + rest.count) events) few))
    ∙ ap (after boot) (sym (take-add at n events))

pub run-played : (boot : BoardState) (events : List Event) (p next : Playback) (n : ℕ) (rest : Run) → IsPlayed boot events p → ComesBehind events p.at rest →
    n ≤ rest.count → next.board ≡ after p.board (copies rest.event n) → next.at ≡ p.at + n → next.at ≤ length events → IsPlayed boot events next
run-played boot events p next n rest is comes few gives on within = record {
  board = gives ∙ run-board boot p.board events p.at n rest is.board comes few ∙ ap (board_at boot events) (sym on);
  within = within;
}

-- Where the event does nothing when it comes again, the board stays as the first one has left it.

pub rest-after : (b : BoardState) (e : Event) (n : ℕ) → does_no_more e (happens b e).report ≡ true → 1 ≤ n → after b (copies e n) ≡ (happens b e).board
rest-after b e zero over some = absurd (omega (arith, some))
rest-after b e (suc n) over some = ap (after b) (copies-suc e n) ∙ after-still (happens b e).board e n (rests b e over)

pub rest-board : (boot b : BoardState) (events : List Event) (at n : ℕ) (rest : Run) → b ≡ board_at boot events at → ComesBehind events at rest →
    does_no_more rest.event (happens b rest.event).report ≡ true → 1 ≤ n → n ≤ rest.count → board_at boot events (at + n) ≡ (happens b rest.event).board
rest-board boot b events at n rest is comes over some few =
    sym (run-board boot b events at n rest is comes few) ∙ rest-after b rest.event n over some

pub rest-still : (boot b : BoardState) (events : List Event) (at n : ℕ) (rest : Run) → b ≡ board_at boot events at → ComesBehind events at rest →
    does_no_more rest.event (happens b rest.event).report ≡ true → n ≤ rest.count → AreStill boot events (at + 1) (at + n)
rest-still boot b events at n rest is comes over few p above below =
    let here : at + (p - at) ≡ p = omega (arith, above) in
    let next : at + (suc p - at) ≡ suc p = omega (arith, above) in
    sym (ap (board_at boot events) next)
    ∙ rest-board boot b events at (suc p - at) rest is comes over (omega (arith, above)) (omega (arith, above, below, few))
    ∙ sym (rest-board boot b events at (p - at) rest is comes over (omega (arith, above)) (omega (arith, above, below, few)))
    ∙ ap (board_at boot events) here

-- what is done with a run: the first event, and more of them, or all that do nothing
pub more-board : (b first next : BoardState) (e : Event) (told : Report) (n : ℕ) → record { board = first; report = told } ≡ happens b e → 1 ≤ n →
    ((does_no_more e told ≡ true → Rests first e) → next ≡ after first (copies e (n - 1))) → next ≡ after b (copies e n)
more-board b first next e told zero is some more = absurd (omega (arith, some))
more-board b first next e told (suc n) is some more =
    let one : first ≡ (happens b e).board = ap (λ (done : Happened). done.board) is in
    let less : suc n - 1 ≡ n = omega arith in
    more (λ over. subst (λ x. Rests x e) (sym one) (rests b e (sym (ap (λ (done : Happened). does_no_more e done.report) is) ∙ over)))
    ∙ ap (λ k. after first (copies e k)) less ∙ ap (λ x. after x (copies e n)) one ∙ ap (after b) (sym (copies-suc e n))

-- as it also is after one event
pub first-board : (b next : BoardState) (e : Event) (n : ℕ) → 1 ≤ n → (1 < n → does_no_more e (happens b e).report ≡ true) →
    next ≡ after b (copies e n) → next ≡ (happens b e).board
first-board b next e zero some over gives = absurd (omega (arith, some))
first-board b next e (suc zero) some over gives = gives ∙ ap (after b) (copies-one e)
first-board b next e (suc (suc n)) some over gives = gives ∙ rest-after b e (suc (suc n)) (over (omega arith)) some

pub true-by : (test : Bool) → (test ≡ false → ⊥) → test ≡ true
true-by true other = refl
true-by false other = absurd (other refl)
