-- The events that lead to a place.
use Rattle.std.proofs.Common.{◌≡◌, ℕ, ◌<◌, ◌≤◌, List, [], ◌∷◌, ◌++◌, length, refl, sym, ap, ◌∙◌, arith}
use Rattle.std.proofs.lemmas.List.{append-nil, append_assoc}
use Rattle.std.specs.Prelude.{slice_get, Some, None, replicate}
use Rattle.brd_board.specs.declared.event.Event.{Event}
use Rattle.brd_board.specs.Board.{BoardState, happens, after}
use Rattle.brd_places.specs.declared.entry.Entry.{Entry}
use Rattle.brd_places.specs.Places.{board_at, places_of, events_back}
use Rattle.brd_places.proofs.StepLemmas.{none_board, came_earlier, came_other}

pub after-append : (b : BoardState) (front behind : List Event) → after b (front ++ behind) ≡ after (after b front) behind
after-append b [] behind = refl
after-append b (event ∷ front) behind = after-append (happens b event).board front behind

-- one entry more, which is the first of all
pub back-more : (back : List Entry) (entry : Entry) →
    events_back (back ++ entry ∷ []) ≡ replicate entry.count entry.event ++ events_back back
back-more [] entry = sym (append-nil (replicate entry.count entry.event))
back-more (first ∷ back) entry =
    ap (λ (es : List Event). es ++ replicate first.count first.event) (back-more back entry)
    ∙ append_assoc (replicate entry.count entry.event) (events_back back) (replicate first.count first.event)

-- An entry's events are put at the end of what there is, before those of the entries that are left.

pub path_goes_on : (events new whole : List Event) (back rest : List Entry) (entry : Entry) →
    events ++ events_back back ≡ whole → back ≡ rest ++ entry ∷ [] → new ≡ events ++ replicate entry.count entry.event →
    new ++ events_back rest ≡ whole
path_goes_on events new whole back rest entry so_far popped put =
    ap (λ (es : List Event). es ++ events_back rest) put
    ∙ append_assoc events (replicate entry.count entry.event) (events_back rest)
    ∙ ap (λ (es : List Event). events ++ es) (sym (ap events_back popped ∙ back-more rest entry))
    ∙ so_far

nothing : (back : List Entry) → length back ≡ 0 → back ≡ []
nothing [] none = refl
nothing (entry ∷ back) none = absurd (omega (arith, none))

pub path_ends : (start there : BoardState) (events whole : List Event) (back : List Entry) → events ++ events_back back ≡ whole →
    length back ≡ 0 → after start whole ≡ there → after start events ≡ there
path_ends start there events whole back so_far none leads =
    ap (after start) (sym (append-nil events) ∙ ap (λ (es : List Entry). events ++ events_back es) (sym (nothing back none)) ∙ so_far)
    ∙ leads

-- One entry more on the way back: `from` is where it comes from, and `here` where it leads.
pub back-goes-on : (from here there : BoardState) (back new : List Entry) (entry : Entry) →
    after here (events_back back) ≡ there → new ≡ back ++ entry ∷ [] → here ≡ after from (replicate entry.count entry.event) →
    after from (events_back new) ≡ there
back-goes-on from here there back new entry so_far pushed came =
    ap (λ (es : List Entry). after from (events_back es)) pushed
    ∙ ap (after from) (back-more back entry)
    ∙ after-append from (replicate entry.count entry.event) (events_back back)
    ∙ ap (λ (b : BoardState). after b (events_back back)) (sym came)
    ∙ so_far

pub goes_back : (start there : BoardState) (entries : List Entry) (at : ℕ) (entry : Entry) (back new : List Entry) →
    after (board_at start (places_of start entries) at) (events_back back) ≡ there → new ≡ back ++ entry ∷ [] →
    Some entry ≡ slice_get entries at → entry.parent < at →
    after (board_at start (places_of start entries) entry.parent) (events_back new) ≡ there
goes_back start there entries at entry back new so_far pushed has less =
    let from : BoardState = board_at start (places_of start entries) entry.parent in
    back-goes-on from (board_at start (places_of start entries) at) there back new entry so_far pushed
    (sym (came_earlier start from (after from (replicate entry.count entry.event)) entries at entry has less refl refl))

pub begins_back : (start there : BoardState) (entries : List Entry) (at : ℕ) (entry : Entry) (back new : List Entry) →
    after (board_at start (places_of start entries) at) (events_back back) ≡ there → new ≡ back ++ entry ∷ [] →
    Some entry ≡ slice_get entries at → at ≤ entry.parent → after start (events_back new) ≡ there
begins_back start there entries at entry back new so_far pushed has more =
    back-goes-on start (board_at start (places_of start entries) at) there back new entry so_far pushed
    (sym (came_other start start (after start (replicate entry.count entry.event)) entries at entry has more refl refl))

pub came_back : (start there : BoardState) (entries : List Entry) (at : ℕ) (back : List Entry) →
    after (board_at start (places_of start entries) at) (events_back back) ≡ there → None ≡ slice_get entries at →
    after start (events_back back) ≡ there
came_back start there entries at back so_far none =
    ap (λ (b : BoardState). after b (events_back back)) (none_board start start entries at none refl) ∙ so_far
