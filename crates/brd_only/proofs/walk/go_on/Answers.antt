use Rattle.std.proofs.Common.{refl, sym, ap, subst, ◌∙◌, ◌≡◌, arith}
use Rattle.std.specs.Prelude.{not}
use Rattle.brd_board.specs.Board.{Happened}
use Rattle.brd_spots.specs.Spots.{spot_of}
use Rattle.brd_spots.proofs.PlayLemmas.{done-nothing}
use Rattle.brd_only.specs.Finding.{HasWalked}
use Rattle.brd_only.proofs.WalkLemmas.{over-held, walked-more, walked-none}
use Rattle.brd_only.proofs.walk.go_on.Goals as goal

pub loop-count-init : goal.loop-count-init
loop-count-init c =
    walked-none c.args.among.now c.args.regions.now c.args.wanted.now (spot_of c.args.board.now c.args.margin) c.args.event

pub loop-count-preserved : goal.loop-count-preserved
loop-count-preserved c =
    walked-more c.args.among.now c.args.regions.now c.args.wanted.now (spot_of c.args.board.now c.args.margin)
    (spot_of c.loop-count.board c.loop-count.here) c.args.event c.loop-count.count c.event_apart.new.self c.spent-left.result c.stepper.result
    c.loop-count.invariant (omega (arith, c.loop-count-test.true)) (sym c.in_ok-fails_at.ensures ∙ c.if-branch.false)
    (c.stops.ensures c.if-stops.false) (ap (λ (done : Happened). done.board) c.event_apart.ensures) c.spent-left.ensures c.stepper.ensures

pub returns-then-did_nothing : goal.returns-then-did_nothing
returns-then-did_nothing c = λ spots.
    c.loop-count.invariant.held spots
    (over-held c.args.among.now c.args.regions.now c.args.wanted.now spots (spot_of c.loop-count.board c.loop-count.here) c.args.event
    (sym c.in_ok-fails_at.ensures ∙ c.if-branch.false) (c.stops.ensures c.if-stops.false)
    (done-nothing c.loop-count.board c.loop-count.board c.args.event (record { board = c.event_apart.new.self; report = c.event_apart.result })
    c.did_nothing.result c.event_apart.ensures refl c.did_nothing.ensures ∙ ap not c.if-did_nothing.true))

pub returns : goal.returns
returns c =
    let all : c.loop-count.count ≡ 10000 = omega (arith, c.loop-count-test.false, c.loop-count.invariant.few) in
    subst (HasWalked c.args.among.now c.args.regions.now c.args.wanted.now (spot_of c.args.board.now c.args.margin) c.args.event
    (spot_of c.loop-count.board c.loop-count.here)) all c.loop-count.invariant
