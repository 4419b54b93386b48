use Rattle.std.proofs.Common.{sym, ◌∙◌, Vec, Global}
use Rattle.std.specs.Prelude.{option_map}
use Rattle.brd_board.specs.declared.event.Event.{Event}
use Rattle.brd_explore.specs.Schedules.{start}
use Rattle.brd_explore.proofs.FindLemmas.{finds}
use Rattle.brd_explore.proofs.KnownLemmas.{pending-none}
use Rattle.brd_explore.proofs.search.find.Goals as goal

pub run-requires-clause-known : goal.run-requires-clause-known
run-requires-clause-known g c = record {
  done = c.new-known.ensures.done c.args.wanted.now c.args.among.now;
  pending = pending-none c.args.wanted.now c.args.among.now c.in_ok-search.search c.new-known.result c.new-known.ensures.pending;
}

pub returns-clause-is : goal.returns-clause-is
returns-clause-is g c =
    finds c.args.wanted.now c.args.among.now (start c.args.board.now c.args.bounds) c.in_ok-search.search c.run.new.self c.in_ok-found.found
    (option_map (λ (v : Vec Event Global). v.items) c.into_found.result.schedule)
    c.in_ok-search.ensures.begins (sym c.in_ok-fails_at.ensures ∙ c.if-branch.false) c.in_ok-found.ensures.out c.in_ok-found.ensures.on c.into_found.ensures
