-- What a journal keeps, and what appending to it comes to.
use Rattle.std.proofs.Common.{◌≡◌, ℕ, ◌+◌, ◌*◌, ◌≤◌, ◌<◌, ◌^◌, leb, List, [], ◌∷◌, length, sym, ap, ◌∙◌, inl, inr, arith}
use Rattle.std.specs.Prelude.{Ok, Err}
use Rattle.std.proofs.lemmas.Bool.{cases_Bool, leb-true}
use Rattle.std.proofs.lemmas.List.{length-append}
use Rattle.brd_word.specs.declared.order.Order.{Order}
use Rattle.brd_board.specs.declared.event.Event.{Event}
use Rattle.brd_text.specs.Faults.{Fails}
use Rattle.brd_text.proofs.FaultLemmas.{passed_on}
use Rattle.brd_journal.specs.declared.fault.JournalFault.{JournalFault}
use Rattle.brd_journal.specs.declared.fault.JournalFault.TheVariants.{Full}
use Rattle.brd_journal.specs.declared.run.Run.{Run}
use Rattle.brd_journal.specs.Faults.{is_no_memory}
use Rattle.brd_journal.specs.Runs.{most_count, copies, events_of, AreCut}
use Rattle.brd_journal.specs.Adding.{added, added_within}
use Rattle.brd_journal.specs.Journal.{JournalState, appended, IsKept}
use Rattle.brd_journal.proofs.EventLemmas.{length-copies}
use Rattle.brd_journal.proofs.AddLemmas.{added_runs, events_added, cut_added}

-- runs don't stand for more events than this
events_few : (rs : List Run) → AreCut rs → length (events_of rs) ≤ length rs * most_count
events_few [] cut = omega arith
events_few (r ∷ rs) cut = omega (arith, events_few rs cut.3, cut.1, length-append (copies r.event r.count) (events_of rs), length-copies r.event r.count)

pub kept_few : (limit : ℕ) (rs : List Run) (len : ℕ) → IsKept limit rs len → len < 2 ^ 54
kept_few limit rs len kept = omega (arith, events_few rs kept.cut, kept.counted, kept.within, kept.most)

-- the journal of runs
abbrev pub journal_with : ℕ → Order → List Run → JournalState
journal_with limit order rs = record { limit = limit; order = order; events = events_of rs }

pub within_gives : (limit : ℕ) (rs ys : List Run) (e : Event) (n : ℕ) → added_within limit rs e n ≡ Ok ys → (ys ≡ added rs e n) × (length ys ≤ limit)
within_gives limit rs ys e n h =
    elim (cases_Bool (leb (length (added rs e n)) limit)) [
      | inl fits ↦ let q : Ok (added rs e n) ≡ Ok ys = rw fits at h in let same : added rs e n ≡ ys = cc in (sym same, let le : length (added rs e n) ≤ limit = leb-true _ _ fits in rw same at le)
      | inr full ↦ let q : Err Full ≡ Ok ys = rw full at h in absurd (cc)
    ]

pub appended_ok : (limit : ℕ) (order : Order) (rs ys : List Run) (e : Event) (n : ℕ) → AreCut rs → n ≤ most_count → added_within limit rs e n ≡ Ok ys → appended (journal_with limit order rs) (copies e n) ≡ Ok (journal_with limit order ys)
appended_ok limit order rs ys e n cut small h =
    elim (cases_Bool (leb (length (added rs e n)) limit)) [
      | inl fits ↦
          let same = (within_gives limit rs ys e n h).0 in
          rw (added_runs rs e n cut small, fits) (ap (λ (es : List Event). Ok (record { limit = limit; order = order; events = es })) (sym (events_added rs e n) ∙ ap events_of (sym same)))
      | inr full ↦ let q : Err Full ≡ Ok ys = rw full at h in absurd (cc)
    ]

pub appended_err : (limit : ℕ) (order : Order) (rs : List Run) (e : Event) (n : ℕ) (f : JournalFault) → AreCut rs → n ≤ most_count → added_within limit rs e n ≡ Err f → appended (journal_with limit order rs) (copies e n) ≡ Err f
appended_err limit order rs e n f cut small h =
    elim (cases_Bool (leb (length (added rs e n)) limit)) [
      | inl fits ↦ let q : Ok (added rs e n) ≡ Err f = rw fits at h in absurd (cc)
      | inr full ↦ let q : Err Full ≡ Err f = rw full at h in rw (added_runs rs e n cut small, full) (ap Err (let same : Full ≡ f = cc in same))
    ]

pub appended_fails : (limit : ℕ) (order : Order) (rs : List Run) (e : Event) (n : ℕ) (f : JournalFault) → AreCut rs → n ≤ most_count → Fails is_no_memory f (added_within limit rs e n) → Fails is_no_memory f (appended (journal_with limit order rs) (copies e n))
appended_fails limit order rs e n f cut small h = passed_on is_no_memory f (added_within limit rs e n) (appended (journal_with limit order rs) (copies e n)) h (appended_err limit order rs e n f cut small)

pub kept_more : (limit : ℕ) (rs ys : List Run) (len : ℕ) (e : Event) (n : ℕ) → IsKept limit rs len → n ≤ most_count → added_within limit rs e n ≡ Ok ys → IsKept limit ys (len + n)
kept_more limit rs ys len e n kept small h =
    let gives = within_gives limit rs ys e n h in
    record {
      most = kept.most;
      within = gives.1;
      cut = rw gives.0 (cut_added rs e n kept.cut small);
      counted = rw (gives.0, events_added rs e n) (omega (arith, kept.counted, length-append (events_of rs) (copies e n), length-copies e n));
    }
