use Rattle.std.proofs.Common.{sym, ◌∙◌, arith}
use Rattle.brd_explore.proofs.SearchLemmas.{leaves-gone, leaves-passed, none-known}
use Rattle.brd_explore.proofs.PathLemmas.{on-gone, on-passed, found-now}
use Rattle.brd_explore.proofs.LessLemmas.{less-gone, less-stayed, less-passed}
use Rattle.brd_explore.proofs.FindLemmas.{gone-of, stayed-of}
use Rattle.brd_explore.proofs.KnownLemmas.{knows-gone, knows-stayed, knows-passed, knows-left, knows-more, over-from, leaves-out, leaves-out-gone, leads-left, less-left, less-both}
use Rattle.brd_explore.proofs.search.Search.go_on.Goals as goal

pub returns-then-is_left_out-clause-out : goal.returns-then-is_left_out-clause-out
returns-then-is_left_out-clause-out c = leaves-passed c.args.wanted.now c.args.among.now 0 c.args.self.now c.pass.new.self c.args.at c.requires.within.0 c.requires.within.1 c.requires.left
    c.requires.before (sym c.is_left_out.ensures ∙ c.if-is_left_out.true) c.pass.ensures.passed

pub returns-then-is_left_out-clause-on : goal.returns-then-is_left_out-clause-on
returns-then-is_left_out-clause-on c = λ from on. on-passed c.args.among.now from c.args.self.now c.pass.new.self c.args.at on c.pass.ensures.passed

pub returns-then-is_left_out-clause-known : goal.returns-then-is_left_out-clause-known
returns-then-is_left_out-clause-known c = knows-passed c.args.wanted.now c.args.among.now c.args.self.now c.pass.new.self c.args.known.now c.args.at c.requires.within.0 c.requires.within.1 c.requires.left
    c.requires.before (sym c.is_left_out.ensures ∙ c.if-is_left_out.true) c.pass.ensures.passed c.requires.known

pub returns-then-is_left_out-clause-falls : goal.returns-then-is_left_out-clause-falls
returns-then-is_left_out-clause-falls c = less-passed c.args.among.now c.args.self.now c.pass.new.self c.args.at c.requires.within.0 c.requires.within.1 c.requires.left c.pass.ensures.passed

pub returns-then-not-branch-clause-known : goal.returns-then-not-branch-clause-known
returns-then-not-branch-clause-known c = knows-stayed c.args.wanted.now c.args.among.now c.args.self.now c.try_event.new.self c.args.known.now c.args.at c.requires.within.0 c.requires.before
    (stayed-of _ c.args.among.now c.args.self.now c.try_event.new.self c.args.at c.in_ok-try_event.field-0 c.if-not-branch.true c.in_ok-try_event.ensures.is)
    c.requires.known

pub returns-then-not-branch-clause-falls : goal.returns-then-not-branch-clause-falls
returns-then-not-branch-clause-falls c = less-stayed c.args.among.now c.args.self.now c.try_event.new.self c.args.at c.requires.within.0 c.requires.within.1 c.requires.left
    (stayed-of _ c.args.among.now c.args.self.now c.try_event.new.self c.args.at c.in_ok-try_event.field-0 c.if-not-branch.true c.in_ok-try_event.ensures.is)

pub returns-then-branch-clause-on : goal.returns-then-branch-clause-on
returns-then-branch-clause-on c = λ from on.
    found-now c.args.wanted.now c.args.among.now from c.try_event.new.self
    (on-gone c.args.among.now from c.args.self.now c.try_event.new.self c.args.at c.requires.within.1 c.requires.left on
    (gone-of c.args.among.now c.args.self.now c.try_event.new.self c.args.at c.in_ok-try_event.field-0 c.if-not-branch.false c.in_ok-try_event.ensures.is))
    (sym c.in_ok-fails_at.ensures ∙ c.if-branch.true)

pub returns-then-knows-clause-out : goal.returns-then-knows-clause-out
returns-then-knows-clause-out c =
    leaves-out-gone c.args.wanted.now c.args.among.now c.args.self.now c.try_event.new.self c.leave.new.self c.args.at c.leave.result c.requires.within.0 c.requires.within.1 c.requires.left c.requires.before
    (gone-of c.args.among.now c.args.self.now c.try_event.new.self c.args.at c.in_ok-try_event.field-0 c.if-not-branch.false c.in_ok-try_event.ensures.is)
    (sym c.in_ok-fails_at.ensures ∙ c.if-branch.false)
    (leaves-out c.args.wanted.now c.args.among.now c.try_event.new.self c.leave.new.self c.leave.result (none-known c.args.wanted.now c.args.among.now c.try_event.new.self (c.knows.ensures.is c.args.wanted.now c.args.among.now (λ more. sym c.may_have_more.ensures ∙ more) c.requires.known.done c.if-knows.true)) c.leave.ensures.is)

pub returns-then-knows-clause-on : goal.returns-then-knows-clause-on
returns-then-knows-clause-on c = λ from on.
    leads-left c.args.wanted.now c.args.among.now from c.try_event.new.self c.leave.new.self c.leave.result c.leave.ensures.is
    (on-gone c.args.among.now from c.args.self.now c.try_event.new.self c.args.at c.requires.within.1 c.requires.left on
    (gone-of c.args.among.now c.args.self.now c.try_event.new.self c.args.at c.in_ok-try_event.field-0 c.if-not-branch.false c.in_ok-try_event.ensures.is))

pub returns-then-knows-clause-known : goal.returns-then-knows-clause-known
returns-then-knows-clause-known c =
    let gone = gone-of c.args.among.now c.args.self.now c.try_event.new.self c.args.at c.in_ok-try_event.field-0 c.if-not-branch.false c.in_ok-try_event.ensures.is in
    let fine = sym c.in_ok-fails_at.ensures ∙ c.if-branch.false in
    let knows = knows-more c.args.wanted.now c.args.among.now c.try_event.new.self c.args.known.now c.knows.new.self gone.at fine (c.knows.ensures.done c.args.wanted.now c.args.among.now)
    c.knows.ensures.pending
    (knows-gone c.args.wanted.now c.args.among.now c.args.self.now c.try_event.new.self c.args.known.now c.args.at c.requires.within.0 c.requires.within.1 c.requires.left c.requires.before gone fine
    c.requires.known) in
    let here = none-known c.args.wanted.now c.args.among.now c.try_event.new.self (c.knows.ensures.is c.args.wanted.now c.args.among.now (λ more. sym c.may_have_more.ensures ∙ more) c.requires.known.done c.if-knows.true) in
    knows-left c.args.wanted.now c.args.among.now c.try_event.new.self c.leave.new.self c.leave.new.known c.leave.result here c.leave.ensures.is
    (c.leave.ensures.done c.args.wanted.now c.args.among.now knows.done (over-from c.args.wanted.now c.args.among.now c.try_event.new.self c.knows.new.self here knows.pending))
    (c.leave.ensures.pending c.args.wanted.now c.args.among.now c.try_event.new.self knows.pending)

pub returns-then-knows-clause-falls : goal.returns-then-knows-clause-falls
returns-then-knows-clause-falls c = less-both c.args.among.now c.args.self.now c.try_event.new.self c.leave.new.self c.leave.result
    (less-gone c.args.among.now c.args.self.now c.try_event.new.self c.args.at c.requires.within.0 c.requires.within.1 c.requires.left
    (gone-of c.args.among.now c.args.self.now c.try_event.new.self c.args.at c.in_ok-try_event.field-0 c.if-not-branch.false c.in_ok-try_event.ensures.is))
    (less-left c.args.among.now c.try_event.new.self c.leave.new.self c.leave.result c.leave.ensures.is)

pub returns-clause-out : goal.returns-clause-out
returns-clause-out c =
    leaves-gone c.args.wanted.now c.args.among.now 0 c.args.self.now c.try_event.new.self c.args.at (omega arith) c.requires.within.0 c.requires.within.1 c.requires.left c.requires.before
    (gone-of c.args.among.now c.args.self.now c.try_event.new.self c.args.at c.in_ok-try_event.field-0 c.if-not-branch.false c.in_ok-try_event.ensures.is)
    (sym c.in_ok-fails_at.ensures ∙ c.if-branch.false)

pub returns-clause-on : goal.returns-clause-on
returns-clause-on c = λ from on.
    on-gone c.args.among.now from c.args.self.now c.try_event.new.self c.args.at c.requires.within.1 c.requires.left on
    (gone-of c.args.among.now c.args.self.now c.try_event.new.self c.args.at c.in_ok-try_event.field-0 c.if-not-branch.false c.in_ok-try_event.ensures.is)

pub returns-clause-known : goal.returns-clause-known
returns-clause-known c =
    let gone = gone-of c.args.among.now c.args.self.now c.try_event.new.self c.args.at c.in_ok-try_event.field-0 c.if-not-branch.false c.in_ok-try_event.ensures.is in
    let fine = sym c.in_ok-fails_at.ensures ∙ c.if-branch.false in
    let knows = knows-more c.args.wanted.now c.args.among.now c.try_event.new.self c.args.known.now c.knows.new.self gone.at fine (c.knows.ensures.done c.args.wanted.now c.args.among.now)
    c.knows.ensures.pending
    (knows-gone c.args.wanted.now c.args.among.now c.args.self.now c.try_event.new.self c.args.known.now c.args.at c.requires.within.0 c.requires.within.1 c.requires.left c.requires.before gone fine
    c.requires.known) in
    knows

pub returns-clause-falls : goal.returns-clause-falls
returns-clause-falls c = less-gone c.args.among.now c.args.self.now c.try_event.new.self c.args.at c.requires.within.0 c.requires.within.1 c.requires.left
    (gone-of c.args.among.now c.args.self.now c.try_event.new.self c.args.at c.in_ok-try_event.field-0 c.if-not-branch.false c.in_ok-try_event.ensures.is)
