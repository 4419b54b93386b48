-- A station stays a replay of its journal.
use Rattle.std.proofs.Common.{◌≡◌, ℕ, ◌+◌, ◌<◌, ◌≤◌, List, [], ◌∷◌, ◌++◌, length, take, replicate, refl, sym, ap, subst, ◌∙◌, arith}
use Rattle.std.specs.Prelude.{Bool, Decides, Some, slice_get, slice_index_or, slice_set}
use Rattle.std.proofs.lemmas.Bool.Decides.{nat_tests}
use Rattle.std.proofs.lemmas.Grind.{get_or-set_at}
use Rattle.std.proofs.lemmas.List.{append-nil, get_or-set_other, take_more}
use Rattle.std.proofs.lemmas.Option.{get_or_from_slice_get, slice_get_within}
use Rattle.brd_board.specs.declared.event.Event.{Event}
use Rattle.brd_board.specs.declared.event.Event.TheVariants.{Step}
use Rattle.brd_board.specs.Board.{BoardState, happens, after}
use Rattle.brd_journal.specs.Journal.{JournalState}
use Rattle.brd_journal.proofs.AfterLemmas.{after-append}
use Rattle.brd_ledgers.specs.Shares.{IsOwn}
use Rattle.brd_threads.specs.declared.outer.Outer.{Outer}
use Rattle.brd_threads.specs.Outers.{event_of, outers, steps}
use Rattle.brd_threads.specs.Station.{IsReplay, with_more}
use Rattle.brd_threads.proofs.StepLemmas.{steps-append, outers-append, outers-steps, steps-own, steps-other, outers-entry, steps-entry}

-- the books, with n more steps of a processor
books_kept : (books : List ℕ) (events : List Event) (cpu n : ℕ) → cpu < length books → ((k : ℕ) → slice_index_or books k 0 ≡ steps k events)
    → (k : ℕ) → slice_index_or (slice_set books cpu (slice_index_or books cpu 0 + n)) k 0 ≡ steps k (events ++ replicate n (Step cpu))
books_kept books events cpu n within counted k =
    grind (arith, nat_tests, steps-append k events (replicate n (Step cpu)), steps-own cpu n, steps-other cpu k n, counted k, counted cpu, get_or-set_at {X = ℕ}, get_or-set_other {A = ℕ})

-- a processor does n steps
pub run_kept : {boot board next : BoardState} {journal : JournalState} {script : List Outer} {taken : ℕ} {books : List ℕ} (cpu n : ℕ)
    → cpu < length books → IsReplay boot board journal script taken books → next ≡ after board (replicate n (Step cpu))
    → IsReplay boot next (with_more journal (replicate n (Step cpu))) script taken (slice_set books cpu (slice_index_or books cpu 0 + n))
run_kept {boot = boot} {journal = journal} {books = books} cpu n within was is = record {
  replay = is ∙ ap (λ b. after b (replicate n (Step cpu))) was.replay ∙ sym (after-append boot journal.events (replicate n (Step cpu)));
  order = was.order;
  within = was.within;
  script_taken = rw (outers-append journal.events (replicate n (Step cpu)), outers-steps cpu n, append-nil (outers journal.events)) was.script_taken;
  counted = books_kept books journal.events cpu n within was.counted;
}

-- the script's next entry happens
pub entry_kept : {boot board next : BoardState} {journal : JournalState} {script : List Outer} {taken : ℕ} {books : List ℕ} (entry : Outer)
    → slice_get script taken ≡ Some entry → IsReplay boot board journal script taken books → next ≡ (happens board (event_of entry)).board
    → IsReplay boot next (with_more journal (event_of entry ∷ [])) script (taken + 1) books
entry_kept {boot = boot} {journal = journal} {script = script} {taken = taken} entry there was is =
    let within : taken < length script = slice_get_within script taken entry there in
    record {
      replay = is ∙ ap (λ b. (happens b (event_of entry)).board) was.replay ∙ sym (after-append boot journal.events (event_of entry ∷ []));
      order = was.order;
      within = omega (arith, within);
      script_taken =
          outers-append journal.events (event_of entry ∷ []) ∙ rw (outers-entry entry, was.script_taken) refl
          ∙ sym (take_more script taken entry within ∙ ap (λ x. take taken script ++ x ∷ []) (get_or_from_slice_get script taken entry entry there));
      counted = λ k. was.counted k ∙ grind (arith, steps-append k journal.events (event_of entry ∷ []), steps-entry k entry);
    }

-- the books tell whose steps the journal has
pub own_steps : (books : List ℕ) (events : List Event) (processors : ℕ) (answer : Bool) → ((cpu : ℕ) → slice_index_or books cpu 0 ≡ steps cpu events)
    → Decides answer ((cpu : ℕ) → IsOwn processors books cpu) → Decides answer ((cpu : ℕ) → 0 < steps cpu events → (0 < cpu) × (cpu ≤ processors))
own_steps books events processors answer counted decides = (
  λ yes cpu some. decides.0 yes cpu (subst (λ n. 0 < n) (sym (counted cpu)) some),
  λ own. decides.1 (λ cpu some. own cpu (subst (λ n. 0 < n) (counted cpu) some)),
)
