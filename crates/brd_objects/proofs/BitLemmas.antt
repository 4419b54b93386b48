-- That nobody waits for no bits, of what functions have made of a waiting list, and of whom they have found in it.
use Rattle.std.proofs.Common.{◌≡◌, ◌≢◌, ℕ, List, sym, subst, ◌∙◌}
use Rattle.std.specs.Prelude.{Bool, remove, find, Option, Some, IfSome}
use Rattle.brd_queue.specs.declared.entry.QueueEntry.{QueueEntry}
use Rattle.brd_queue.specs.declared.entry.QueueOrder.{QueueOrder}
use Rattle.brd_queue.specs.Queue.{without, entered, renumbered}
use Rattle.brd_queue.proofs.WantedLemmas.{want-without, want-entered, want-found, want-remove, want-renumbered}
use Rattle.brd_objects.specs.declared.want.Want.{Want}
use Rattle.brd_objects.specs.Waiters.{WantBits}

abbrev pub HasBits : Want → Type 0
HasBits want = want.bits ≢ 0

pub bits-without-as : (id : ℕ) (xs new : List (QueueEntry Want)) → WantBits xs → new ≡ without id xs → WantBits new
bits-without-as id xs new bits is = subst WantBits (sym is) (want-without HasBits id xs bits)

pub bits-entered-as : (order : QueueOrder) (e : QueueEntry Want) (xs new : List (QueueEntry Want)) → e.wanted.bits ≢ 0 → WantBits xs → new ≡ entered order e xs → WantBits new
bits-entered-as order e xs new own bits is = subst WantBits (sym is) (want-entered HasBits order e xs own bits)

pub bits-renumbered-as : (id p : ℕ) (xs new : List (QueueEntry Want)) → WantBits xs → new ≡ renumbered id p xs → WantBits new
bits-renumbered-as id p xs new bits is = subst WantBits (sym is) (want-renumbered HasBits id p xs bits)

pub bits-remove-as : (i : ℕ) (xs new : List (QueueEntry Want)) → WantBits xs → new ≡ remove xs i → WantBits new
bits-remove-as i xs new bits is = subst WantBits (sym is) (want-remove HasBits i xs bits)

pub bits-found-as : (test : QueueEntry Want → Bool) (xs : List (QueueEntry Want)) (found : Option (QueueEntry Want)) (e : QueueEntry Want) → WantBits xs →
    found ≡ find test xs → found ≡ Some e → e.wanted.bits ≢ 0
bits-found-as test xs found e bits is some =
    subst (λ (f : Option (QueueEntry Want)). IfSome f (λ x. x.wanted.bits ≢ 0)) (sym is ∙ some) (want-found HasBits test xs bits)
