-- The rule leaves nothing open.
use Rattle.std.proofs.Common.{◌≡◌, ◌≤◌, ℕ, List, refl, arith}
use Rattle.std.specs.Prelude.{Option, None, Some}
use Rattle.brd_mutexes.specs.Lifting.{priority_at, holder_of, Leads, IsOf, AreFounded, AreHigh, AreLifted}
use Rattle.brd_mutexes.specs.Lifting.Leads.{itself, onward}

-- a task that leads to another one has no higher priority of its own
pub below : (own lifted : List ℕ) (holders : List (Option ℕ)) (from to : ℕ) → AreLifted own holders lifted → Leads holders from to →
    priority_at lifted to ≤ priority_at own from
below own lifted holders from _ are itself = are.founded.none_lower from
below own lifted holders from _ are (onward mid to leads waits) =
    omega (arith, below own lifted holders from mid are leads, are.high mid to waits)

pub once : (own one other : List ℕ) (holders : List (Option ℕ)) → AreLifted own holders one → AreLifted own holders other → (id : ℕ) →
    priority_at one id ≡ priority_at other id
once own one other holders first second id =
    let of_one = first.founded.founded id in
    let of_other = second.founded.founded id in
    omega (
      arith,
      of_one.same,
      of_other.same,
      below own other holders of_one.from id second of_one.leads,
      below own one holders of_other.from id first of_other.leads,
    )
