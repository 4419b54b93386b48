use Rattle.std.proofs.Common.{◌++◌, [], sym, subst}
use Rattle.std.specs.Prelude.{Option}
use Rattle.std.specs.List.{cons_option}
use Rattle.std.proofs.lemmas.List.{append-nil}
use Rattle.brd_stacks.specs.declared.stack.Point.{Point}
use Rattle.brd_stacks.specs.Depths.{AreFollowed, IsSoonest}
use Rattle.brd_stacks.proofs.following.follow_if.Goals as goal

pub returns-in-Some-clause-followed : goal.returns-in-Some-clause-followed
returns-in-Some-clause-followed c = λ stacks points followed.
    subst (λ (o : Option Point). AreFollowed stacks (points ++ cons_option o []) c.follow.new.tracks.items) (sym c.in-Some.is)
    (c.follow.ensures.followed stacks points followed)

pub returns-in-Some-clause-soonest : goal.returns-in-Some-clause-soonest
returns-in-Some-clause-soonest c = λ stacks points followed calm soonest.
    subst (λ (o : Option Point). IsSoonest stacks (points ++ cons_option o [])) (sym c.in-Some.is)
    (c.follow.ensures.soonest stacks points followed calm)

pub returns-in-None-clause-followed : goal.returns-in-None-clause-followed
returns-in-None-clause-followed c = λ stacks points followed.
    subst (λ (o : Option Point). AreFollowed stacks (points ++ cons_option o []) c.args.tracks.now.items) (sym c.in-None.is)
    (subst (λ ps. AreFollowed stacks ps c.args.tracks.now.items) (sym (append-nil points)) followed)

pub returns-in-None-clause-soonest : goal.returns-in-None-clause-soonest
returns-in-None-clause-soonest c = λ stacks points followed calm soonest.
    subst (λ (o : Option Point). IsSoonest stacks (points ++ cons_option o [])) (sym c.in-None.is)
    (subst (IsSoonest stacks) (sym (append-nil points)) soonest)
