-- Steps and what comes from outside among events.
use Rattle.std.proofs.Common.{◌≡◌, ℕ, zero, suc, ◌+◌, ◌≤◌, cond, eqb, true, false, List, [], ◌∷◌, ◌++◌, length, replicate, refl, ◌∙◌, arith}
use Rattle.std.proofs.lemmas.List.Sums.{sum_by-append, sum_by-cons, count_by-le-length}
use Rattle.std.proofs.lemmas.List.Elements.{filter_map-append}
use Rattle.std.proofs.lemmas.Bool.Decides.{nat_tests}
use Rattle.brd_board.specs.declared.event.Event.{Event}
use Rattle.brd_board.specs.declared.event.Event.TheVariants.{Step}
use Rattle.brd_threads.specs.declared.outer.Outer.{Outer}
use Rattle.brd_threads.specs.declared.outer.Outer.TheVariants as outer
use Rattle.brd_threads.specs.Outers.{event_of, outer_of, outers, is_step_of, steps}

pub steps-append : (cpu : ℕ) (front more : List Event) → steps cpu (front ++ more) ≡ steps cpu front + steps cpu more
steps-append cpu front more = sum_by-append _ front more

pub outers-append : (front more : List Event) → outers (front ++ more) ≡ outers front ++ outers more
outers-append front more = filter_map-append outer_of front more

pub steps_few : (cpu : ℕ) (events : List Event) → steps cpu events ≤ length events
steps_few cpu events = count_by-le-length (is_step_of cpu) events

-- a processor's steps, n times

pub outers-steps : (cpu n : ℕ) → outers (replicate n (Step cpu)) ≡ []
outers-steps cpu zero = refl
outers-steps cpu (suc n) = outers-steps cpu n

more-steps : (cpu other n : ℕ) → steps other (replicate (suc n) (Step cpu)) ≡ cond (eqb cpu other) 1 0 + steps other (replicate n (Step cpu))
more-steps cpu other n = sum_by-cons (λ event. cond (is_step_of other event) 1 0) (Step cpu) (replicate n (Step cpu))

pub steps-own : (cpu n : ℕ) → steps cpu (replicate n (Step cpu)) ≡ n
steps-own cpu zero = refl
steps-own cpu (suc n) =
    let own : eqb cpu cpu ≡ true = grind (arith, nat_tests) in
    more-steps cpu cpu n ∙ rw (own, steps-own cpu n) (omega arith)

pub steps-other : (cpu other n : ℕ) → (other ≡ cpu → ⊥) → steps other (replicate n (Step cpu)) ≡ 0
steps-other cpu other zero apart = refl
steps-other cpu other (suc n) apart =
    let no : eqb cpu other ≡ false = grind (arith, nat_tests) in
    more-steps cpu other n ∙ rw (no, steps-other cpu other n apart) refl

-- an entry of a script

pub outers-entry : (entry : Outer) → outers (event_of entry ∷ []) ≡ entry ∷ []
outers-entry outer.Tick = refl
outers-entry (outer.Raise line) = refl

pub steps-entry : (cpu : ℕ) (entry : Outer) → steps cpu (event_of entry ∷ []) ≡ 0
steps-entry cpu outer.Tick = refl
steps-entry cpu (outer.Raise line) = refl
