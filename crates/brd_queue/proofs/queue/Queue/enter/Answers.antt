use Rattle.std.proofs.Common.{◌≡◌, ◌<◌, length, arith, subst, sym, ◌∙◌, ap, insert}
use Rattle.std.specs.Prelude.{false}
use Rattle.brd_queue.specs.Queue.{has, entered, AreApart}
use Rattle.brd_queue.proofs.QueueLemmas.{room_for, apart-entered}
use Rattle.brd_queue.proofs.queue.Queue.enter.Goals as goal

pub insert_within-requires-clause-room : goal.insert_within-requires-clause-room
insert_within-requires-clause-room g c =
    let new : has c.args.entry.id c.self.inside.entries.items ≡ false = subst (λ xs. has c.args.entry.id xs ≡ false) (sym c.self.view_is) c.requires.new in
    let room : length c.self.inside.entries.items < 256 = room_for c.args.entry c.self.inside.entries.items c.requires.small new c.self.invariant.0 in
    omega (arith, room, c.self.invariant.1)

pub invariant_of-self : goal.invariant_of-self
invariant_of-self g c =
    let new : has c.args.entry.id c.self.inside.entries.items ≡ false = subst (λ xs. has c.args.entry.id xs ≡ false) (sym c.self.view_is) c.requires.new in
    let placed = ap (λ xs. insert xs c.place_for-at.result c.args.entry) (sym c.as_slice.ensures.value) ∙ c.place_for-at.ensures.is in (
      subst AreApart (sym (c.insert_within.ensures.is ∙ placed))
          (subst (λ xs. AreApart (entered c.args.order c.args.entry xs)) (sym c.as_slice.ensures.value) (apart-entered c.args.order c.args.entry c.self.inside.entries.items c.requires.small new c.self.invariant.0)),
      omega (arith, c.insert_within.ensures.kept, c.self.invariant.1),
    )

pub returns-clause-few : goal.returns-clause-few
returns-clause-few g c = room_for c.args.entry c.args.self.now c.requires.small c.requires.new (subst AreApart c.self.view_is c.self.invariant.0)
