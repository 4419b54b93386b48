-- A loop that takes a step after the other, against `repeated`.
use Rattle.std.proofs.Common.{◌≡◌, ℕ, zero, suc, ◌<◌, ◌≤◌, Bool, true, false, Result, Ok, Err, sym, ap, subst, ◌∙◌, arith}
use Rattle.brd_text.proofs.FaultLemmas.{bind_ok, ok_is, passed_on}
use Rattle.brd_text.specs.Faults.{◌>>=◌, Fails}
use Rattle.brd_text.specs.Turns.{Flow, followed, repeated, flow_of}
use Rattle.brd_text.specs.Turns.Flow.{More, Done}

-- What is still to be done from s, with at most m turns left, comes to total.
pub record Goes {F S R : Type 0} (spent : F) (step : S → Result (Flow S R) F) (m : ℕ) (s : S) (total : Result R F) : Type 0 where
  pub turns : ℕ
  pub enough : m < turns
  pub same : repeated spent step turns s ≡ total

pub goes_from : {F S R : Type 0} (spent : F) (step : S → Result (Flow S R) F) (m : ℕ) (s : S) (total : Result R F) → repeated spent step (suc m) s ≡ total → Goes spent step m s total
goes_from spent step m s total e = record { turns = suc m; enough = omega arith; same = e }

-- the first turn of some that are enough
first_turn : {F S R : Type 0} (spent : F) (step : S → Result (Flow S R) F) (m n : ℕ) (s : S) (total : Result R F) → m < n → repeated spent step n s ≡ total
    → (k : ℕ) × (m ≤ k) × ((step s >>= followed (repeated spent step k)) ≡ total)
unfolding repeated
first_turn spent step m zero s total lt e = absurd (omega arith)
first_turn spent step m (suc n) s total lt e = (n, omega arith, e)

pub goes_more : {F S R : Type 0} (spent : F) (step : S → Result (Flow S R) F) (m k : ℕ) (s t : S) (total : Result R F) → Goes spent step m s total → step s ≡ Ok (More t) → k < m → Goes spent step k t total
goes_more spent step m k s t total g h lt =
    let f = first_turn spent step m g.turns s total g.enough g.same in
    record { turns = f.0; enough = omega (arith, f.1); same = ap (λ r. r >>= followed (repeated spent step f.0)) (sym h) ∙ f.2 }

pub goes_done : {F S R : Type 0} (spent : F) (step : S → Result (Flow S R) F) (m : ℕ) (s : S) (r : R) (total : Result R F) → Goes spent step m s total → step s ≡ Ok (Done r) → total ≡ Ok r
goes_done spent step m s r total g h =
    let f = first_turn spent step m g.turns s total g.enough g.same in
    sym f.2 ∙ ap (λ x. x >>= followed (repeated spent step f.0)) h

pub goes_wrong : {F S R : Type 0} (spent : F) (step : S → Result (Flow S R) F) (m : ℕ) (s : S) (e : F) (total : Result R F) → Goes spent step m s total → step s ≡ Err e → total ≡ Err e
goes_wrong spent step m s e total g h =
    let f = first_turn spent step m g.turns s total g.enough g.same in
    sym f.2 ∙ ap (λ x. x >>= followed (repeated spent step f.0)) h

-- where a step fails, so does the whole
pub goes_fails : {F S R : Type 0} (is_memory : F → Bool) (spent : F) (step : S → Result (Flow S R) F) (m : ℕ) (s : S) (e : F) (total : Result R F) → Goes spent step m s total → Fails is_memory e (step s) → Fails is_memory e total
goes_fails is_memory spent step m s e total g h = passed_on is_memory e (step s) total h (goes_wrong spent step m s e total g)

-- ---- a loop whose turn says by a bool whether another one follows

pub flow_more : {F S R : Type 0} (spent : F) (step : S → Result (Flow S R) F) (m k : ℕ) (s t : S) (r : R) (more : Bool) (total : Result R F) → Goes spent step m s total → step s ≡ Ok (flow_of more t r) → more ≡ true → k < m → Goes spent step k t total
flow_more spent step m k s t r true total g h e lt = goes_more spent step m k s t total g h lt
flow_more spent step m k s t r false total g h e lt = absurd (cc)

pub flow_done : {F S R : Type 0} (spent : F) (step : S → Result (Flow S R) F) (m : ℕ) (s t : S) (r : R) (more : Bool) (total : Result R F) → Goes spent step m s total → step s ≡ Ok (flow_of more t r) → more ≡ false → total ≡ Ok r
flow_done spent step m s t r true total g h e = absurd (cc)
flow_done spent step m s t r false total g h e = goes_done spent step m s r total g h

-- ---- what a whole run keeps

keeps_by : {F S R : Type 0} (spent : F) (step : S → Result (Flow S R) F) (P : S → Type 0) (Q : R → Type 0)
    → ((s t : S) → step s ≡ Ok (More t) → P s → P t) → ((s : S) (r : R) → step s ≡ Ok (Done r) → P s → Q r)
    → (n : ℕ) (s : S) (r : R) (flow : Flow S R) → P s → step s ≡ Ok flow → followed (repeated spent step n) flow ≡ Ok r
    → ((t : S) → P t → repeated spent step n t ≡ Ok r → Q r) → Q r
keeps_by spent step P Q more done n s r (More t) p h e again = again t (more s t h p) e
keeps_by spent step P Q more done n s r (Done x) p h e again = subst Q (ok_is x r e) (done s x h p)

-- What holds of the first state, and is kept by a turn, holds of the last: so q holds of the result.
pub keeps : {F S R : Type 0} (spent : F) (step : S → Result (Flow S R) F) (P : S → Type 0) (Q : R → Type 0)
    → ((s t : S) → step s ≡ Ok (More t) → P s → P t) → ((s : S) (r : R) → step s ≡ Ok (Done r) → P s → Q r)
    → (n : ℕ) (s : S) (r : R) → P s → repeated spent step n s ≡ Ok r → Q r
unfolding repeated
keeps spent step P Q more done zero s r p e = absurd (cc)
keeps spent step P Q more done (suc n) s r p e =
    let b = bind_ok (step s) (followed (repeated spent step n)) r e in
    keeps_by spent step P Q more done n s r b.0 p b.1 b.2 (λ t q h. keeps spent step P Q more done n t r q h)

-- ---- more turns than are needed

more_by : {F S R : Type 0} (spent : F) (step : S → Result (Flow S R) F) (n m : ℕ) (flow : Flow S R) (r : R) → ((t : S) → repeated spent step n t ≡ Ok r → repeated spent step m t ≡ Ok r) → followed (repeated spent step n) flow ≡ Ok r → followed (repeated spent step m) flow ≡ Ok r
more_by spent step n m (More t) r again e = again t e
more_by spent step n m (Done x) r again e = e

pub more_turns : {F S R : Type 0} (spent : F) (step : S → Result (Flow S R) F) (n m : ℕ) (s : S) (r : R) → n ≤ m → repeated spent step n s ≡ Ok r → repeated spent step m s ≡ Ok r
unfolding repeated
more_turns spent step zero m s r le e = absurd (cc)
more_turns spent step (suc n) zero s r le e = absurd (omega arith)
more_turns spent step (suc n) (suc m) s r le e =
    let b = bind_ok (step s) (followed (repeated spent step n)) r e in
    ap (λ x. x >>= followed (repeated spent step m)) b.1 ∙ more_by spent step n m b.0 r (λ t h. more_turns spent step n m t r (omega arith) h) b.2
