use Rattle.std.proofs.Common.{List, [], ◌∷◌, refl, subst, arith}
use Rattle.brd_places.specs.Places.{Place}
use Rattle.brd_blocks.specs.Owning.{sharing_of}
use Rattle.brd_reach.specs.Rounds.{IsMore, RoundSo, sharing_for}
use Rattle.brd_reach.proofs.RoundLemmas.{get-more}
use Rattle.brd_reach.proofs.AnswerLemmas.{all-stay, guards-so, holds-so, fails-so}
use Rattle.brd_reach.proofs.searching.reach.Goals as goal

pub returns-in-Holds : goal.returns-in-Holds
returns-in-Holds c =
    holds-so (sharing_for c.loop.sharing c.args.wanted.now) c.args.among.now c.args.wanted.now c.visit_all.new.places c.args.left c.args.start.now
    (omega (arith, c.if-wanted-ne0.false)) (guards-so c.loop.sharing c.args.wanted.now c.loop.invariant)
    (subst (λ (xs : List Place). IsMore xs c.visit_all.new.places) c.in_ok-places.ensures c.visit_all.ensures.more)
    (subst (RoundSo (sharing_for c.loop.sharing c.args.wanted.now) c.args.among.now c.args.wanted.now c.visit_all.new.places) c.in-Holds.is c.in_ok-visit_all.ensures.so)

pub returns-in-Fails : goal.returns-in-Fails
returns-in-Fails c =
    let found = subst (RoundSo (sharing_for c.loop.sharing c.args.wanted.now) c.args.among.now c.args.wanted.now c.visit_all.new.places) c.in-Fails.is
    c.in_ok-visit_all.ensures.so in
    let first : Place = record { left = c.args.left; board = c.args.start.now } in
    let begins = get-more (first ∷ []) c.visit_all.new.places 0 first
    (subst (λ (xs : List Place). IsMore xs c.visit_all.new.places) c.in_ok-places.ensures c.visit_all.ensures.more) refl in
    fails-so c.args.wanted.now found.0 _ (omega (arith, c.if-wanted-ne0.false)) found.2
    (c.in_ok-path-in-Fails.ensures first found.0 begins found.1)

pub loop-preserved : goal.loop-preserved
loop-preserved c =
    all-stay (sharing_of c.loop.sharing) (sharing_of c.learn.new.sharing) c.args.wanted.now.failures c.learn.ensures c.loop.invariant
