-- A run that is played for a page: what is known of it, and its data, from one event to the next.
use Rattle.std.proofs.Common.{◌≡◌, ℕ, suc, ◌+◌, ◌-◌, ◌≤◌, Bool, List, [], ◌++◌, refl, sym, ap, ◌∙◌, subst, arith}
use Rattle.std.proofs.lemmas.List.{append-nil, append_assoc}
use Rattle.std.specs.Prelude.{◌==◌, slice_get, Option, Some}
use Rattle.brd_board.specs.declared.event.Event.{Event}
use Rattle.brd_board.specs.Board.{BoardState}
use Rattle.brd_happening.specs.declared.happening.Happening.{Happening}
use Rattle.brd_happening.specs.Happening.{happening_of}
use Rattle.brd_journal.specs.Playing.{board_at}
use Rattle.brd_listing.specs.Listing.{IsBehind}
use Rattle.brd_recording.specs.Recording.{IsRecorded}
use Rattle.brd_trace.specs.declared.notes.Notes.{Notes}
use Rattle.brd_trace.specs.Noted.{KeepsKnown}
use Rattle.brd_trace.specs.Recorded.{IsNoted}
use Rattle.brd_trace.proofs.KnownLemmas.{kept-known}
use Rattle.brd_page.specs.Data.{IsAny, IsRow}
use Rattle.brd_page.specs.Events.{IsEvent, AreEvents, IsData, IsDataUpTo}

pub kept-noted : (boot : BoardState) (events : List Event) (n : ℕ) (old new : Notes) → KeepsKnown old new →
    IsNoted boot events n old → IsNoted boot events n new
kept-noted boot events n old new keeps noted = record {
  known = kept-known (board_at boot events n) old new keeps noted.known;
  recorded = subst (IsRecorded boot events n) (sym keeps.recorded) noted.recorded;
}

-- before the first event
pub data-first : (boot : BoardState) (events : List Event) (from : ℕ) (text : List ℕ) → IsDataUpTo boot events from from text
data-first boot events from text =
    let none : 0 ≡ from - from = omega arith in
    record {
      front = text;
      middle = [];
      are_events = subst (λ (n : ℕ). AreEvents boot events from n []) none refl;
      is_text = sym (append-nil text);
    }

-- one more event
pub event-put : (boot : BoardState) (events : List Event) (from at : ℕ) (event : Event) (it : Happening) (old new : List ℕ) →
    slice_get events at ≡ Some event → it ≡ happening_of (board_at boot events at) event →
    IsBehind (IsRow (at == from) it.cpu it.place) old new → IsBehind (IsEvent boot events from at) old new
event-put boot events from at event it old new is told put = record {
  text = put.text;
  is_it = record { event = event; is = is; row = subst (λ (h : Happening). IsRow (at == from) h.cpu h.place put.text) told put.is_it };
  behind = put.behind;
}

pub data-more : (boot : BoardState) (events : List Event) (from at : ℕ) (old new : List ℕ) → from ≤ at →
    IsDataUpTo boot events from at old → IsBehind (IsEvent boot events from at) old new → IsDataUpTo boot events from (at + 1) new
data-more boot events from at old new least told put =
    let many : suc (at - from) ≡ at + 1 - from = omega (arith, least) in
    let here : at ≡ from + (at - from) = omega (arith, least) in
    let more : AreEvents boot events from (suc (at - from)) (told.middle ++ put.text) = record {
      front = told.middle;
      last = put.text;
      others = told.are_events;
      this = subst (λ (p : ℕ). IsEvent boot events from p put.text) here put.is_it;
      is_text = refl;
    } in
    record {
      front = told.front;
      middle = told.middle ++ put.text;
      are_events = subst (λ (n : ℕ). AreEvents boot events from n (told.middle ++ put.text)) many more;
      is_text = put.behind ∙ ap (λ (them : List ℕ). them ++ put.text) told.is_text ∙ append_assoc told.front told.middle put.text;
    }

-- and what comes behind them
pub data-ends : (boot : BoardState) (events : List Event) (from to : ℕ) (old new : List ℕ) → IsDataUpTo boot events from to old →
    IsBehind IsAny old new → IsData boot events from to new
data-ends boot events from to old new told put = record {
  front = told.front;
  middle = told.middle;
  rest = put.text;
  are_events = told.are_events;
  is_text = put.behind ∙ ap (λ (them : List ℕ). them ++ put.text) told.is_text;
}
