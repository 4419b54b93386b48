-- What is known of the processors that spin.
use Rattle.std.proofs.Common.{◌≡◌, inl, inr, ℕ, ◌+◌, ◌-◌, ◌<◌, ◌≤◌, List, [], ◌∷◌, ◌++◌, length, sym, ap, subst, ◌∙◌}
use Rattle.std.proofs.Common.{arith}
use Rattle.std.specs.Prelude.{◌^◌, Option, Some, None, Result, Ok, Err, IfOk, slice_get, slice_index_or}
use Rattle.std.proofs.lemmas.Bool.{cases_lt}
use Rattle.brd_exec.specs.State.{State}
use Rattle.brd_base.specs.declared.no_memory.NoMemory.{NoMemory}
use Rattle.brd_board.specs.declared.event.Event.{Event}
use Rattle.brd_kernel.specs.declared.processor.Standing.{Standing}
use Rattle.brd_board.specs.Board.{BoardState, registers_of, standing_of}
use Rattle.brd_journal.specs.Playing.{board_at}
use Rattle.brd_spins.specs.declared.spin.{Spin.Spin, Turning.Turning, SpinKind.SpinKind}
use Rattle.brd_spins.specs.declared.spin.SpinKind.TheVariants.{Loop, Lock}
use Rattle.brd_spins.specs.declared.watching.Watching.{Watching}
use Rattle.brd_spins.specs.Spins.{AreTurnings, AreTurns, IsSpinning, IsTurning, SpinsNot}
use Rattle.brd_spins.specs.Since.{since_by, AreAscending, AreFound, AreListed, AreSpins, AreWatched, HasSpin}
use Rattle.brd_spins.specs.Since.{IsInside, IsLeft, IsListed, IsSince, IsSpin}
use Rattle.brd_spins.specs.Since.{IsThereAt}
use Rattle.std.proofs.lemmas.List.Elements.{Contains-get_or}
use Rattle.brd_spins.proofs.StateLemmas.{at-place, get-before, get-last, get-within}
use Rattle.brd_spins.proofs.WatchLemmas.{since-is}

some-state : (b : BoardState) (cpu : ℕ) (kind : SpinKind) (states : List State) → IsSpinning b cpu kind states →
    1 ≤ length states
some-state b cpu (Loop count) states is = is.1.some
some-state b cpu (Lock lock) states is = omega (arith, ap length is.only)

inside-first : (state : State) (states : List State) (r : Option State) → r ≡ Some state → IsInside (state ∷ states) r
inside-first state states r is = subst (IsInside (state ∷ states)) (sym is)
    (Contains-get_or (state ∷ states) 0 state (omega arith))

-- its registers are those before one of its instructions
inside-loop : (b : BoardState) (cpu : ℕ) (states : List State) → 1 ≤ length states → AreTurns b cpu states →
    IsInside states (registers_of b cpu)
inside-loop b cpu [] some are = absurd (omega (arith, some))
inside-loop b cpu (state ∷ states) some are = inside-first state states (registers_of b cpu) are.0

is-inside : (b : BoardState) (cpu : ℕ) (kind : SpinKind) (states : List State) → IsSpinning b cpu kind states →
    IsInside states (registers_of b cpu)
is-inside b cpu (Loop count) states is = inside-loop b cpu states is.1.some is.1.turns
is-inside b cpu (Lock lock) states is =
    subst (λ (them : List State). IsInside them (registers_of b cpu)) (sym is.only)
    (inside-first is.state [] (registers_of b cpu) is.registers)

-- what is known of a processor that spins
pub spins-by : (boot : BoardState) (events : List Event) (to : ℕ) (turnings : List Turning) (watching : Watching)
    (spin : Spin) →
    AreTurnings (board_at boot events to) turnings → AreWatched boot events turnings watching →
    watching.playback.at ≡ to → to < 2 ^ 64 →
    length turnings ≡ 8 → IsListed turnings watching.lefts spin → IsSpin boot events to spin
spins-by boot events to turnings watching spin are watched at few many listed =
    let none : listed.turning.what ≡ None → ⊥ = λ e. some-none spin.what (sym listed.what ∙ e) in
    let kind : IsTurning (board_at boot events to) spin.cpu listed.turning.states (Some spin.what) =
    subst (λ (n : ℕ). IsTurning (board_at boot events to) n listed.turning.states (Some spin.what)) (sym listed.cpu)
    (subst (λ (what : Option SpinKind). IsTurning (board_at boot events to)
    (listed.place + 1) listed.turning.states what) listed.what
    (are listed.place listed.turning listed.found).0) in
    let states = listed.turning.states in
    let who : listed.turning.who ≡ standing_of (board_at boot events to) spin.cpu =
    (are listed.place listed.turning listed.found).1 ∙ ap (standing_of (board_at boot events to)) (sym listed.cpu) in
    let there : IsThereAt boot events spin.cpu listed.turning.who states to = record {
      stands = sym who;
      inside = is-inside (board_at boot events to) spin.cpu spin.what states kind;
    } in
    let left : IsLeft boot events spin.cpu listed.turning.who states to
    (slice_index_or watching.lefts listed.place None) =
    subst (λ (n : ℕ). IsLeft boot events n listed.turning.who states to
    (slice_index_or watching.lefts listed.place None)) (sym listed.cpu)
    (subst (λ (n : ℕ). IsLeft boot events (listed.place + 1) listed.turning.who states n
    (slice_index_or watching.lefts listed.place None)) at
    (watched.lefts listed.place listed.turning listed.found none)) in
    let since : IsSince boot events spin.cpu (standing_of (board_at boot events to) spin.cpu) states to spin.since =
    subst (λ (n : ℕ). IsSince boot events spin.cpu (standing_of (board_at boot events to) spin.cpu) states to n)
    (sym listed.since)
    (subst (λ (s : Option Standing). IsSince boot events spin.cpu s states to
    (since_by (slice_index_or watching.lefts listed.place None))) who
    (since-is boot events spin.cpu listed.turning to
    (slice_index_or watching.lefts listed.place None) few left there)) in
    let within : listed.place < length turnings = get-within turnings listed.turning listed.place listed.found in
    record {
      states = listed.turning.states;
      spins = kind;
      place = listed.least (some-state (board_at boot events to) spin.cpu spin.what listed.turning.states kind);
      since = since;
      cpu = (omega (arith, listed.cpu), omega (arith, listed.cpu, within, many));
    }
  where
    some-none : (what : SpinKind) → Some what ≡ None → ⊥
    some-none what e = cc

-- Processors that are found.

pub found-none : (turnings : List Turning) (spins : List Spin) → AreFound turnings 0 spins
found-none turnings spins place turning below = absurd (omega (arith, below))

same-turning : (a b : Turning) → Some a ≡ Some b → a ≡ b
same-turning a b is = cc

-- one that isn't known to spin
pub found-past : (turnings : List Turning) (spins : List Spin) (i : ℕ) (it : Turning) → AreFound turnings i spins →
    slice_get turnings i ≡ Some it → it.what ≡ None → AreFound turnings (i + 1) spins
found-past turnings spins i it are here none place turning below found some = elim (cases_lt place i) [
  | inl less ↦ are place turning less found some
  | inr not ↦
      let at : place ≡ i = omega (arith, not, below) in
      let same : turning ≡ it = same-turning turning it (sym found ∙ ap (slice_get turnings) at ∙ here) in
      absurd (some (ap (λ (t : Turning). t.what) same ∙ none))
]

-- one that is put at the end
pub found-more : (turnings : List Turning) (spins : List Spin) (i : ℕ) (spin : Spin) → AreFound turnings i spins →
    spin.cpu ≡ i + 1 →
    AreFound turnings (i + 1) (spins ++ spin ∷ [])
found-more turnings spins i spin are cpu place turning below found some = elim (cases_lt place i) [
  | inl less ↦
      let it = are place turning less found some in
      record { at = it.at; spin = it.spin; found = get-before spins spin it.spin it.at it.found; of_it = it.of_it }
  | inr not ↦
      let at : place ≡ i = omega (arith, not, below) in
      record {
        at = length spins;
        spin = spin;
        found = get-last spins spin;
        of_it = cpu ∙ ap (λ (n : ℕ). n + 1)
            (sym at);
      }
]

-- each processor that spins is found
all-found : (b : BoardState) (turnings : List Turning) (spins : List Spin) → AreTurnings b turnings →
    length turnings ≡ 8 →
    AreFound turnings (length turnings) spins → (cpu : ℕ) (kind : SpinKind) (states : List State) → 1 ≤ cpu → cpu ≤ 8 →
    IsSpinning b cpu kind states → HasSpin spins cpu
all-found b turnings spins are many found cpu kind states some most is =
    let place : ℕ = cpu - 1 in
    let next : place + 1 ≡ cpu = omega (arith, some) in
    let within : place < length turnings = omega (arith, some, most, many) in
    at-place turnings place within (λ turning here.
    let spins_there : IsSpinning b (place + 1) kind states = subst (λ (n : ℕ). IsSpinning b n kind states)
    (sym next) is in
    subst (λ (n : ℕ). HasSpin spins n) next (found place turning within here (λ none.
    no-turning b (place + 1) turning.states turning.what (are place turning here).0 none kind states spins_there)))
  where
    no-turning : (b : BoardState) (cpu : ℕ) (own : List State) (what : Option SpinKind) → IsTurning b cpu own what →
        what ≡ None →
        SpinsNot b cpu
    no-turning b cpu own None is none = is
    no-turning b cpu own (Some kind) is none = cc

-- all that were listed
pub spins-ok : (boot : BoardState) (events : List Event) (to : ℕ) (turnings : List Turning) (watching : Watching)
    (listed : Result (List Spin) NoMemory) →
    AreTurnings (board_at boot events to) turnings → AreWatched boot events turnings watching →
    watching.playback.at ≡ to → to < 2 ^ 64 →
    length turnings ≡ 8 → IfOk listed (λ spins. AreListed turnings watching.lefts spins) → IfOk listed
    (λ spins. AreFound turnings (length turnings) spins) →
    IfOk listed (λ spins. AreAscending spins) → IfOk listed (λ spins. AreSpins boot events to spins)
spins-ok boot events to turnings watching (Ok spins) are watched at few many each found ascending = record {
  each = λ k spin here. spins-by boot events to turnings watching spin are watched at few many (each k spin here);
  all = all-found (board_at boot events to) turnings spins are many found;
  ascending = ascending;
}
spins-ok boot events to turnings watching (Err e) are watched at few many each found ascending = tt

-- none spins
pub no-spins : (boot : BoardState) (events : List Event) (to : ℕ) (turnings : List Turning) → AreTurnings
    (board_at boot events to) turnings →
    length turnings ≡ 8 → AreFound turnings (length turnings) [] → AreSpins boot events to []
no-spins boot events to turnings are many found = record {
  each = λ k spin here. cc;
  all = all-found (board_at boot events to) turnings [] are many found;
  ascending = λ i j one other less here there. cc;
}
