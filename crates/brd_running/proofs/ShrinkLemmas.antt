-- A journal that was read is made shorter.
use Rattle.std.proofs.Common.{◌≡◌, ℕ, zero, suc, ◌+◌, List, [], ◌∷◌, ◌++◌, length, take, refl, sym, ap, ◌∙◌, inr, subst}
use Rattle.std.specs.Prelude.{◌≤◌, true, Option, Some, None, IfSome, is_some, slice_get, Result, Ok, Err, MatchResult}
use Rattle.std.proofs.lemmas.Bool.{true≢false}
use Rattle.std.proofs.lemmas.List.{length-append, take_more}
use Rattle.std.proofs.lemmas.Option.{slice_get_within, get_or_from_slice_get}
use Rattle.brd_board.specs.declared.event.Event.{Event}
use Rattle.brd_inputs.specs.Start.{AreWithin, IsStart}
use Rattle.brd_inputs.specs.declared.fault.CommandFault.{CommandFault}
use Rattle.brd_inputs.specs.declared.start.Start.{Start}
use Rattle.brd_running.specs.ShrinkCommand.{IsShrunk, IsShrunkOf, KeepsFromShrinking, RefusesShrinking}
use Rattle.brd_running.specs.declared.shrink_command.ShrinkOptions.{ShrinkOptions}
use Rattle.brd_running.specs.declared.shrink_command.Told.{Told}
use Rattle.brd_running.specs.ShrinkCommand.{IsLookedFor}
use Rattle.brd_running.specs.Saving.{IsOfJournal}
use Rattle.brd_running.proofs.SavingLemmas.{of_shrinking}
use Rattle.brd_explore.specs.Shrinking.{is_failing, IsLeast}
use Rattle.brd_explore.specs.declared.wanted.Wanted.{Wanted}
use Rattle.brd_journal.specs.Text.{text_of}
use Rattle.brd_search.specs.Shown.{shown}
use Rattle.brd_shrink.specs.Settled.{AreSome, IsSettled}
use Rattle.brd_shrink.specs.Turns.{switches}
use Rattle.brd_threads.specs.Processors.{processors_of}

-- ---- events taken one by one

one_taken : (xs : List Event) (n : ℕ) (event : Event) → slice_get xs n ≡ Some event → take (n + 1) xs ≡ take n xs ++ event ∷ []
one_taken xs n event is =
    take_more xs n event (slice_get_within xs n event is)
    ∙ ap (λ (e : Event). take n xs ++ e ∷ []) (get_or_from_slice_get xs n event event is)

pub stays_taken : (xs items new : List Event) (n : ℕ) (event : Event) → items ≡ take (length items) xs → n ≡ length items
    → Some event ≡ slice_get xs n → new ≡ items ++ event ∷ [] → new ≡ take (length new) xs
stays_taken xs items new n event taken len is more =
    let at : slice_get xs (length items) ≡ Some event = subst (λ k. slice_get xs k ≡ Some event) len (sym is) in
    let longer : length items + 1 ≡ length new = sym (ap length more ∙ length-append items (event ∷ [])) in
    more ∙ ap (λ l. l ++ event ∷ []) taken ∙ sym (one_taken xs (length items) event at) ∙ ap (λ k. take k xs) longer

whole : (xs : List Event) (n : ℕ) → slice_get xs n ≡ None → take n xs ≡ xs
whole [] zero none = refl
whole [] (suc n) none = refl
whole (x ∷ xs) zero none = absurd (true≢false (ap is_some none))
whole (x ∷ xs) (suc n) none = ap (λ l. x ∷ l) (whole xs n none)

pub all_taken : (xs items : List Event) (n : ℕ) → items ≡ take (length items) xs → n ≡ length items → None ≡ slice_get xs n → items ≡ xs
all_taken xs items n taken len none =
    taken ∙ whole xs (length items) (subst (λ k. slice_get xs k ≡ None) len (sym none))

-- ---- what is told

-- all three were read, and make this
abbrev pub Starts : Start → Option (List ℕ) → Option (List ℕ) → Option (List ℕ) → Type 0
Starts start image config events =
    IfSome image (λ i. IfSome config (λ c. IfSome events (λ e. AreWithin i c e × IsStart i c e start)))

pub ended : (options : ShrinkOptions) (start : Start) (image config events : Option (List ℕ)) (result : Result Told CommandFault)
    → Starts start image config events
    → MatchResult result (λ told. IsShrunk options start told.journal.items) (KeepsFromShrinking options start)
    → IfSome image (λ i. IfSome config (λ c. IfSome events (λ e. MatchResult result
    (λ told. IsShrunkOf options i c e told.journal.items) (RefusesShrinking options i c e))))
ended options start None config events result starts told = tt
ended options start (Some i) None events result starts told = tt
ended options start (Some i) (Some c) None result starts told = tt
ended options start (Some i) (Some c) (Some e) (Ok it) starts told = record { start = start; starts = starts.1; shrunk = told }
ended options start (Some i) (Some c) (Some e) (Err fault) starts keeps =
    inr (record { start = start; starts = starts.1; keeps = keeps })

-- what is told of the events that are left, or why it isn't
pub told_shrunk : (options : ShrinkOptions) (start : Start) (wanted : Wanted) (all left : List Event)
    (result : Result Told CommandFault) → IsLookedFor options start wanted → processors_of start.board ≤ 8
    → all ≡ start.journal.events → length all ≤ 1000000 → is_failing wanted start.board left ≡ true
    → AreSome left all → length left ≤ length all → IsLeast wanted start.board left → switches left ≤ switches all
    → IsSettled wanted start.board left
    → MatchResult result (λ told. told.journal.items ≡ text_of start.board.memory.order (shown wanted start.board left))
    (IsOfJournal (shown wanted start.board left))
    → MatchResult result (λ told. IsShrunk options start told.journal.items) (KeepsFromShrinking options start)
told_shrunk options start wanted all left (Ok told) looks few same most fails some shorter least fewer settled is = record {
  wanted = wanted;
  looks = looks;
  left = left;
  fails = fails;
  some = subst (AreSome left) same some;
  least = least;
  fewer = subst (λ (es : List Event). switches left ≤ switches es) same fewer;
  settled = settled;
  is_text = is;
}
told_shrunk options start wanted all left (Err fault) looks few same most fails some shorter least fewer settled keeps =
    of_shrinking options start wanted all left fault looks few shorter most keeps
