-- What a schedule takes, and what it leaves, are what was left where it began.
use Rattle.std.proofs.Common.{◌≡◌, ℕ, ◌+◌, List, [], ◌∷◌, inl, inr, sym, subst, arith}
use Rattle.std.specs.Prelude.{true, if◌then◌else◌}
use Rattle.std.proofs.lemmas.Bool.{cases_Bool, ltb-true}
use Rattle.brd_board.specs.declared.event.Event.{Event}
use Rattle.brd_board.specs.declared.event.Event.TheVariants.{Step, Tick, Raise}
use Rattle.brd_explore.specs.declared.bounds.Bounds.{Bounds}
use Rattle.brd_explore.specs.Schedules.{Place, does, spent, is_left, next, place_after, IsWithin}
use Rattle.brd_lazy.specs.Charges.{Charge, charged, charge, IsNoMore}
use Rattle.brd_lazy.specs.Trees.{IsAhead}
use Rattle.brd_lazy.proofs.RoomLemmas.{some-events, one-left, step-affords}

-- what was taken, and what is left, are together what there was
pub record IsSum (taken : Charge) (rest all : Bounds) : Type 0 where
  pub events : taken.events + rest.events ≡ all.events
  pub preemptions : taken.preemptions + rest.preemptions ≡ all.preemptions
  pub ticks : taken.ticks + rest.ticks ≡ all.ticks
  pub raises : taken.raises + rest.raises ≡ all.raises

sum-more : (p : Place) (event : Event) (taken : Charge) (rest : Bounds) → is_left p event ≡ true → IsSum taken rest (next p event).left →
    IsSum (charged taken p.last event) rest p.left
unfolding spent
sum-more p (Step cpu) taken rest left sum = record {
  events = omega (arith, sum.events, some-events p (Step cpu) left);
  preemptions = omega (arith, sum.preemptions, step-affords p cpu left);
  ticks = sum.ticks;
  raises = sum.raises;
}
sum-more p Tick taken rest left sum = record {
  events = omega (arith, sum.events, some-events p Tick left);
  preemptions = sum.preemptions;
  ticks = omega (arith, sum.ticks, ltb-true 0 p.left.ticks (one-left p Tick left));
  raises = sum.raises;
}
sum-more p (Raise line) taken rest left sum = record {
  events = omega (arith, sum.events, some-events p (Raise line) left);
  preemptions = sum.preemptions;
  ticks = sum.ticks;
  raises = omega (arith, sum.raises, ltb-true 0 p.left.raises (one-left p (Raise line) left));
}

pub sums : (among : List Event) (p : Place) (es : List Event) → IsWithin among p es → IsSum (charge p es) (place_after p es).left p.left
sums among p [] within = record {
  events = omega arith;
  preemptions = omega arith;
  ticks = omega arith;
  raises = omega arith;
}
sums among p (e ∷ es) within = elim (cases_Bool (does p.board e)) [
  | inl did ↦
      subst (λ test. IsSum (if test then charged (charge (next p e) es) p.last e else charge p es)
      (if test then place_after (next p e) es else place_after p es).left p.left) (sym did)
      (sum-more p e (charge (next p e) es) (place_after (next p e) es).left (within.0 did).1
      (sums among (next p e) es (within.0 did).2))
  | inr none ↦
      subst (λ test. IsSum (if test then charged (charge (next p e) es) p.last e else charge p es)
      (if test then place_after (next p e) es else place_after p es).left p.left) (sym none)
      (sums among p es (within.1 none))
]

-- where more is left less was taken
pub no-more : (one other : Charge) (q to : Place) (all : Bounds) (more : ℕ) → IsSum one q.left all → IsSum other to.left all →
    IsAhead q to more → IsNoMore one other
no-more one other q to all more first second ahead = record {
  events = omega (arith, first.events, second.events, ahead.events);
  preemptions = omega (arith, first.preemptions, second.preemptions, ahead.preemptions);
  ticks = omega (arith, first.ticks, second.ticks, ahead.ticks);
  raises = omega (arith, first.raises, second.raises, ahead.raises);
}
