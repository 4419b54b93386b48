-- A search that goes on has fewer turns left.
use Rattle.std.proofs.Common.{◌≡◌, ℕ, zero, suc, ◌+◌, ◌-◌, ◌*◌, ◌<◌, ◌≤◌, List, [], ◌∷◌, ◌++◌, length, refl, sym, ap, subst, ◌∙◌, arith, inl, inr}
use Rattle.std.specs.Prelude.{true, nat_lt, Option}
use Rattle.std.proofs.lemmas.Bool.{ltb-true, and_parts}
use Rattle.std.proofs.Math.Nat.{suc-mul, mul-le-mul_right}
use Rattle.brd_board.specs.declared.event.Event.{Event}
use Rattle.brd_board.specs.declared.event.Event.TheVariants.{Step, Tick, Raise}
use Rattle.brd_explore.specs.declared.bounds.Bounds.{Bounds}
use Rattle.brd_explore.specs.declared.search.Search.{Search}
use Rattle.brd_explore.specs.declared.search.Saved.{Saved}
use Rattle.brd_explore.specs.Schedules.{Place, affords, affords_one, spent, is_left}
use Rattle.brd_explore.specs.Ordering.{event_tried}
use Rattle.brd_explore.specs.Searching.{place_of, most_turns, most_saved, turns_left, KeepsOr, HasGoneOr, HasStayed, HasPassed, HasGoneBack}

-- something is left for an event, so one event fewer is left after it

some-left : (left : Bounds) (last : Option ℕ) (event : Event) → affords left last event ≡ true → 0 < left.events
unfolding affords
some-left left last event is = ltb-true 0 left.events (and_parts (nat_lt 0 left.events) (affords_one left last event) is).0

one-fewer : (left : Bounds) (last : Option ℕ) (event : Event) → (spent left last event).events ≡ left.events - 1
unfolding spent
one-fewer left last (Step cpu) = refl
one-fewer left last Tick = refl
one-fewer left last (Raise line) = refl

pub left-after : (p : Place) (event : Event) → is_left p event ≡ true → p.left.events ≡ suc (spent p.left p.last event).events
left-after p event is = omega (arith, some-left p.left p.last event is, one-fewer p.left p.last event)

-- turns that are left at a place

one-turn : (n left tried : ℕ) → 1 ≤ most_turns n left tried
one-turn n zero tried = omega arith
one-turn n (suc left) tried = omega arith

trying : (n s at k : ℕ) → s ≤ at → at < n → (n - (at + 1)) * k + k ≤ (n - s) * k
trying n s at k on below =
    let one : suc (n - (at + 1)) ≤ n - s = omega (arith, on, below) in
    subst (λ z. z ≤ (n - s) * k) (suc-mul (n - (at + 1)) k) (mul-le-mul_right k one)

-- to try an event takes one of them, and those from the place after it
tried-one : (n left s at : ℕ) → s ≤ at → at < n → most_turns n left 0 + most_turns n (suc left) (at + 1) < most_turns n (suc left) s
tried-one n left s at on below = omega (arith, trying n s at (1 + most_turns n left 0) on below)

tried-last : (n left s at : ℕ) → s ≤ at → at < n → most_turns n left 0 < most_turns n (suc left) s
tried-last n left s at on below = omega (arith, tried-one n left s at on below)

tried-nothing : (n left s at : ℕ) → s ≤ at → at < n → most_turns n (suc left) (at + 1) < most_turns n (suc left) s
tried-nothing n left s at on below = omega (arith, tried-one n left s at on below, one-turn n left 0)

saved-more : (n : ℕ) (fs : List Saved) (f : Saved) → most_saved n (fs ++ f ∷ []) ≡ most_saved n fs + most_turns n f.left.events f.at
saved-more n [] f = omega arith
saved-more n (g ∷ fs) f = omega (arith, saved-more n fs f)

-- what a turn leaves

abbrev Events : Place → ℕ
Events p = p.left.events

gone-place : {Else : Type 0} (among : List Event) (s t : Search) (at left : ℕ) → s.left.events ≡ suc left → HasGoneOr Else among s at t → t.left.events ≡ left
gone-place among s t at left is gone =
    let here : t.left.events ≡ s.left.events - 1 = ap Events gone.place ∙ one-fewer s.left s.last (event_tried among s.last at) in
    omega (arith, here, is)

kept-less : {Else : Type 0} (among : List Event) (s t : Search) (at left : ℕ) → s.at ≤ at → at < length among → s.left.events ≡ suc left → KeepsOr Else s at t →
    most_turns (length among) left 0 + most_saved (length among) t.saved.items
    < most_turns (length among) (suc left) s.at + most_saved (length among) s.saved.items
kept-less among s t at left on below is (inl same) =
    subst (λ fs. most_turns (length among) left 0 + most_saved (length among) fs
    < most_turns (length among) (suc left) s.at + most_saved (length among) s.saved.items) (sym same.0)
    (omega (arith, tried-last (length among) left s.at at on below))
kept-less among s t at left on below is (inr more) =
    let f = more.0 in
    let here : most_turns (length among) f.left.events f.at ≡ most_turns (length among) (suc left) (at + 1) =
    ap (λ k. most_turns (length among) k f.at) (ap Events more.2 ∙ is) ∙ ap (most_turns (length among) (suc left)) more.3 in
    subst (λ fs. most_turns (length among) left 0 + most_saved (length among) fs
    < most_turns (length among) (suc left) s.at + most_saved (length among) s.saved.items) (sym more.1)
    (omega (arith, tried-one (length among) left s.at at on below, saved-more (length among) s.saved.items f, here))

pub less-gone : {Else : Type 0} (among : List Event) (s t : Search) (at : ℕ) → s.at ≤ at → at < length among → is_left (place_of s) (event_tried among s.last at) ≡ true →
    HasGoneOr Else among s at t → turns_left among t < turns_left among s
less-gone among s t at on below left gone =
    let after = (spent s.left s.last (event_tried among s.last at)).events in
    let is : s.left.events ≡ suc after = left-after (place_of s) (event_tried among s.last at) left in
    let less = kept-less among s t at after on below is gone.saved in
    let here : most_turns (length among) t.left.events t.at ≡ most_turns (length among) after 0 =
    ap (λ k. most_turns (length among) k t.at) (gone-place among s t at after is gone) ∙ ap (most_turns (length among) after) gone.at in
    let before : most_turns (length among) s.left.events s.at ≡ most_turns (length among) (suc after) s.at = ap (λ k. most_turns (length among) k s.at) is in
    omega (arith, less, here, before)

less-later : (among : List Event) (s t : Search) (at : ℕ) → s.at ≤ at → at < length among → is_left (place_of s) (event_tried among s.last at) ≡ true →
    place_of t ≡ place_of s → t.at ≡ at + 1 → t.saved.items ≡ s.saved.items → turns_left among t < turns_left among s
less-later among s t at on below left place later kept =
    let after = (spent s.left s.last (event_tried among s.last at)).events in
    let is : s.left.events ≡ suc after = left-after (place_of s) (event_tried among s.last at) left in
    let here : most_turns (length among) t.left.events t.at ≡ most_turns (length among) (suc after) (at + 1) =
    ap (λ k. most_turns (length among) k t.at) (ap Events place ∙ is) ∙ ap (most_turns (length among) (suc after)) later in
    let before : most_turns (length among) s.left.events s.at ≡ most_turns (length among) (suc after) s.at = ap (λ k. most_turns (length among) k s.at) is in
    let saved : most_saved (length among) t.saved.items ≡ most_saved (length among) s.saved.items = ap (most_saved (length among)) kept in
    omega (arith, tried-nothing (length among) after s.at at on below, here, before, saved)

pub less-stayed : (among : List Event) (s t : Search) (at : ℕ) → s.at ≤ at → at < length among → is_left (place_of s) (event_tried among s.last at) ≡ true →
    HasStayed among s at t → turns_left among t < turns_left among s
less-stayed among s t at on below left stayed = less-later among s t at on below left stayed.place stayed.at stayed.saved

pub less-passed : (among : List Event) (s t : Search) (at : ℕ) → s.at ≤ at → at < length among → is_left (place_of s) (event_tried among s.last at) ≡ true →
    HasPassed s at t → turns_left among t < turns_left among s
less-passed among s t at on below left passed = less-later among s t at on below left passed.place passed.at passed.saved

pub less-back : (among : List Event) (s t : Search) → HasGoneBack s t → turns_left among t < turns_left among s
less-back among s t back =
    let saved : most_saved (length among) s.saved.items ≡ most_saved (length among) (t.saved.items ++ back.f ∷ []) = ap (most_saved (length among)) back.saved in
    let here : most_turns (length among) t.left.events t.at ≡ most_turns (length among) back.f.left.events back.f.at =
    ap (λ k. most_turns (length among) k t.at) (ap Events back.place) ∙ ap (most_turns (length among) back.f.left.events) back.at in
    omega (arith, saved, saved-more (length among) t.saved.items back.f, here, one-turn (length among) s.left.events s.at)
