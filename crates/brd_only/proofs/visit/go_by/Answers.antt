use Rattle.std.proofs.Common.{refl, sym, ap, subst, ◌∙◌}
use Rattle.std.specs.Prelude.{not}
use Rattle.std.proofs.lemmas.Bool.{false≢true}
use Rattle.brd_board.specs.Board.{Happened}
use Rattle.brd_spots.specs.declared.spots.Margin.{Margin}
use Rattle.brd_spots.specs.Spots.{spot_of}
use Rattle.brd_spots.proofs.KnownLemmas.{at-within}
use Rattle.brd_spots.proofs.PlayLemmas.{done-nothing}
use Rattle.brd_only.specs.Finding.{WalkedSo}
use Rattle.brd_only.proofs.WalkLemmas.{over-next, walked-held, walked-leads}
use Rattle.brd_only.proofs.visit.go_by.Goals as goal

pub note-requires : goal.note-requires
note-requires c = at-within c.args.spots.now c.args.at (spot_of c.args.board.now c.args.margin) c.requires

pub returns-then-did_nothing-clause-held : goal.returns-then-did_nothing-clause-held
returns-then-did_nothing-clause-held c = λ did.
    absurd (false≢true (sym (done-nothing c.args.board.now c.args.board.now c.args.event
    (record { board = c.event_apart.new.self; report = c.event_apart.result }) c.did_nothing.result c.event_apart.ensures refl
    c.did_nothing.ensures ∙ ap not c.if-did_nothing.true) ∙ did))

pub returns-in-None-clause-held : goal.returns-in-None-clause-held
returns-in-None-clause-held c = λ did.
    over-next c.args.among.now c.args.regions.now c.args.wanted.now (spot_of c.args.board.now c.args.margin) c.args.event
    c.event_apart.new.self (record { left = c.spent.result; last = c.stepper.result })
    (ap (λ (done : Happened). done.board) c.event_apart.ensures) c.spent.ensures c.stepper.ensures
    (subst (WalkedSo c.args.among.now c.args.regions.now c.args.wanted.now
    (spot_of c.event_apart.new.self (record { left = c.spent.result; last = c.stepper.result })) c.args.event c.go_on.new.board) c.in-None.is
    c.in_ok-go_on.ensures)
    c.args.spots.now

pub returns-in-Some-clause-held : goal.returns-in-Some-clause-held
returns-in-Some-clause-held c = λ did.
    let p = spot_of c.args.board.now c.args.margin in
    let rest : Margin = record { left = c.spent.result; last = c.stepper.result } in
    let first = ap (λ (done : Happened). done.board) c.event_apart.ensures in
    let walked = subst (WalkedSo c.args.among.now c.args.regions.now c.args.wanted.now (spot_of c.event_apart.new.self rest) c.args.event
    c.go_on.new.board) c.in-Some.is c.in_ok-go_on.ensures in
    walked-held c.args.among.now c.args.regions.now c.args.wanted.now c.note.new.self p c.args.event c.event_apart.new.self c.go_on.new.board rest
    c.in-Some.walk.margin c.in-Some.walk.count c.note.result first c.spent.ensures c.stepper.ensures walked
    (c.note.ensures.known p c.requires
    (walked-leads c.args.among.now c.args.regions.now c.args.wanted.now c.args.board.now c.event_apart.new.self c.go_on.new.board c.args.event rest
    c.in-Some.walk.margin c.in-Some.walk.count first walked))
