-- Events, and copies of one.
use Rattle.std.proofs.Common.{◌≡◌, ℕ, suc, ◌+◌, eqb, true, List, [], ◌∷◌, ◌++◌, length, refl, sym, ap, arith, add-one}
use Rattle.std.proofs.lemmas.Bool.{eqb-true}
use Rattle.std.proofs.lemmas.List.{replicate-append-replicate, append_assoc, length-replicate}
use Rattle.brd_board.specs.declared.event.Event.{Event}
use Rattle.brd_board.specs.declared.event.Event.TheVariants.{Step, Tick, Raise}
use Rattle.brd_journal.specs.declared.run.Run.{Run}
use Rattle.brd_journal.specs.Runs.{copies, events_of, same_event}

-- a run of an event and a count
abbrev pub run_of : Event → ℕ → Run
run_of event count = record { event = event; count = count }

pub same_is : (a b : Event) → same_event a b ≡ true → a ≡ b
same_is (Step a) (Step b) h = ap Step (eqb-true a b h)
same_is (Step a) Tick h = cc
same_is (Step a) (Raise b) h = cc
same_is Tick (Step b) h = cc
same_is Tick Tick h = refl
same_is Tick (Raise b) h = cc
same_is (Raise a) (Step b) h = cc
same_is (Raise a) Tick h = cc
same_is (Raise a) (Raise b) h = ap Raise (eqb-true a b h)

eqb-self : (n : ℕ) → eqb n n ≡ true
eqb-self n = grind (arith, Rattle.std.proofs.lemmas.Bool.Decides.nat_tests)

pub same-self : (a : Event) → same_event a a ≡ true
same-self (Step a) = eqb-self a
same-self Tick = refl
same-self (Raise a) = eqb-self a

pub copies-add : (e : Event) (m n : ℕ) → copies e (m + n) ≡ copies e m ++ copies e n
unfolding copies
copies-add e m n = sym (replicate-append-replicate m n e)

pub copies-suc : (e : Event) (n : ℕ) → copies e (suc n) ≡ e ∷ copies e n
unfolding copies
copies-suc e n = refl

pub copies-zero : (e : Event) → copies e 0 ≡ []
unfolding copies
copies-zero e = refl

pub copies-one : (e : Event) → copies e 1 ≡ e ∷ []
unfolding copies
copies-one e = refl

pub length-copies : (e : Event) (n : ℕ) → length (copies e n) ≡ n
unfolding copies
length-copies e n = length-replicate n e

pub copies-next : (e : Event) (n : ℕ) → copies e (n + 1) ≡ e ∷ copies e n
copies-next e n = rw add-one (copies-suc e n)

pub events-append : (rs ss : List Run) → events_of (rs ++ ss) ≡ events_of rs ++ events_of ss
events-append [] ss = refl
events-append (r ∷ rs) ss = rw (events-append rs ss, append_assoc) refl
