use Rattle.std.proofs.Common.{sym, ◌∙◌}
use Rattle.brd_explore.proofs.PathLemmas.{found-now}
use Rattle.brd_explore.proofs.KnownLemmas.{done-same, knows-more, pending-none}
use Rattle.brd_explore.proofs.ShardLemmas.{searched-run}
use Rattle.brd_explore.proofs.search.Search.fails.Goals as goal

pub returns-then-branch-clause-is : goal.returns-then-branch-clause-is
returns-then-branch-clause-is g c = λ from on. found-now c.args.wanted.now c.args.among.now from c.args.self.now on (sym c.in_ok-fails_at.ensures ∙ c.if-branch.true)

pub returns-then-knows-clause-is : goal.returns-then-knows-clause-is
returns-then-knows-clause-is g c = c.knows.ensures.is c.args.wanted.now c.args.among.now (λ more. sym c.may_have_more.ensures ∙ more)
    (done-same c.args.wanted.now c.args.among.now c.args.known.now c.begin.new.self c.begin.ensures.done c.requires.known) c.if-knows.true

pub run-requires-clause-known : goal.run-requires-clause-known
run-requires-clause-known g c =
    knows-more c.args.wanted.now c.args.among.now c.args.self.now c.begin.new.self c.knows.new.self c.requires.begins.at
    (sym c.in_ok-fails_at.ensures ∙ c.if-branch.false) (c.knows.ensures.done c.args.wanted.now c.args.among.now) c.knows.ensures.pending
    (record {
      done = done-same c.args.wanted.now c.args.among.now c.args.known.now c.begin.new.self c.begin.ensures.done c.requires.known;
      pending = pending-none c.args.wanted.now c.args.among.now c.args.self.now c.begin.new.self c.begin.ensures.pending;
    })

pub returns-clause-is : goal.returns-clause-is
returns-clause-is g c = searched-run c.args.wanted.now c.args.among.now c.args.self.now c.run.new.self c.run.result c.requires.begins
    (sym c.in_ok-fails_at.ensures ∙ c.if-branch.false) c.run.ensures.out c.run.ensures.on
