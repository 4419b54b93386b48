use Rattle.std.proofs.Common.{◌≡◌, List, length, subst, ◌∙◌, arith}
use Rattle.std.specs.List.{filter}
use Rattle.brd_verdicts.specs.declared.circle.Wait.{Wait}
use Rattle.brd_verdicts.specs.Circle.{is_held}
use Rattle.brd_verdicts.proofs.CircleLemmas.{all-circular, left-circular, left-fewer}
use Rattle.brd_verdicts.proofs.circle.circular.Goals as goal

pub returns-then-len : goal.returns-then-len
returns-then-len c =
    let units = c.args.units.now in
    let left = c.loop-left.left in
    let held = c.in_ok-held.held in
    let is : held ≡ filter (is_held units left) left =
    subst (λ (ws : List Wait). held ≡ filter (is_held units ws) ws) c.as_slice.ensures c.in_ok-held.ensures in
    c.loop-left.invariant.whole held
    (all-circular units left held is (omega (arith, c.if-len.true, c.len.ensures, c.len-in-loop-left.ensures)))

pub loop-left-smaller : goal.loop-left-smaller
loop-left-smaller c =
    let units = c.args.units.now in
    let left = c.loop-left.left in
    let held = c.in_ok-held.held in
    let is : held ≡ filter (is_held units left) left =
    subst (λ (ws : List Wait). held ≡ filter (is_held units ws) ws) c.as_slice.ensures c.in_ok-held.ensures in
    left-fewer units left held is
    (λ same. omega (arith, same, c.if-len.false, c.len.ensures, c.len-in-loop-left.ensures))

pub loop-left-preserved : goal.loop-left-preserved
loop-left-preserved c =
    let units = c.args.units.now in
    let left = c.loop-left.left in
    let held = c.in_ok-held.held in
    let is : held ≡ filter (is_held units left) left =
    subst (λ (ws : List Wait). held ≡ filter (is_held units ws) ws) c.as_slice.ensures c.in_ok-held.ensures in
    record { whole = λ found are. c.loop-left.invariant.whole found (left-circular units left held found is are) }
