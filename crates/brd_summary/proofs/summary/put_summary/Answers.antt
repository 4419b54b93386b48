use Rattle.std.proofs.Common.{◌≡◌, ◌++◌, List, ℕ, refl, ap, ◌∙◌, subst, take}
use Rattle.brd_board.specs.Board.{BoardState}
use Rattle.brd_verdicts.specs.declared.accounts.Accounts.{Accounts}
use Rattle.brd_verdicts.specs.Accounts.{accounts_of_run}
use Rattle.brd_summary.specs.Findings.{AreFindings}
use Rattle.brd_summary.specs.Summary.{IsDeadlock, owners_text}
use Rattle.brd_summary.proofs.SummaryLemmas.{processors-are, tasks-are, two-behind}
use Rattle.brd_summary.proofs.summary.put_summary.Goals as goal

pub returns : goal.returns
returns c = λ boot events is noted dated stepped counted.
    let names = c.args.names in
    let notes = c.args.tracer.now.notes in
    let n = c.args.tracer.now.playback.at in
    let steps = c.args.found.now.steps in
    let processors = c.in_ok-put_processors.ensures in
    let tasks = c.in_ok-put_tasks.ensures in
    let deadlock = c.in_ok-put_deadlock.ensures in
    let findings = c.in_ok-put_findings.ensures in
    let a = c.args.out.now.items in
    let b = c.put_processors.new.out.items in
    let with_tasks = c.put_tasks.new.out.items in
    let owners = owners_text c.args.tracer.now.playback.board in
    let with_owners = c.put_owners.new.out.items in
    let d = c.put_deadlock.new.out.items in
    let e = c.put_findings.new.out.items in
    record {
      text = processors.text ++ tasks.text ++ owners ++ deadlock.text ++ findings.text;
      is_it = record {
        processors = processors.text;
        tasks = tasks.text;
        deadlock = deadlock.text;
        findings = findings.text;
        are_processors = processors-are names boot events n notes steps noted.known dated stepped processors.text
            processors.is_it;
        are_tasks = tasks-are names boot events n notes steps noted.known dated stepped tasks.text tasks.is_it;
        is_deadlock = subst (λ (b : BoardState). IsDeadlock b deadlock.text) is.board deadlock.is_it;
        are_findings = subst (λ (b : BoardState).
            AreFindings names (accounts_of_run boot (take n events)) b findings.text) is.board
            (subst (λ (accounts : Accounts). AreFindings names accounts c.args.tracer.now.playback.board findings.text)
            counted findings.is_it);
        is = ap (λ (b : BoardState). processors.text ++ tasks.text ++ owners_text b ++ deadlock.text ++ findings.text)
            is.board;
      };
      behind =
          two-behind a d e (processors.text ++ tasks.text ++ owners ++ deadlock.text) findings.text
          (two-behind a with_owners d (processors.text ++ tasks.text ++ owners) deadlock.text
          (two-behind a with_tasks with_owners (processors.text ++ tasks.text) owners
          (two-behind a b with_tasks processors.text tasks.text processors.behind tasks.behind)
          c.in_ok-put_owners.ensures) deadlock.behind)
          findings.behind;
    }
