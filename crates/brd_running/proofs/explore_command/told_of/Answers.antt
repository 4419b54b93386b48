use Rattle.std.proofs.Common.{rules, ℕ, ◌≤◌, arith, subst, sym}
use Rattle.std.specs.Prelude.{None}
use Rattle.brd_running.proofs.ExploreLemmas.{out-of-time, told_found}
use Rattle.brd_running.specs.ExploreCommand.{KeepsFromSearching}
use Rattle.brd_running.proofs.explore_command.told_of.Goals as goal

pub returns-in-Some : goal.returns-in-Some
returns-in-Some g c =
    told_found c.args.options c.args.loaded.now c.in-Ok.plan c.in-Ok-searched_by.searched.bounds c.in-Some.events.items
    c.told_found.result (λ some. absurd (omega (arith, some, c.if-plan-gt0.false))) (search rules)
    (subst (λ (n : ℕ). n ≤ 8) c.processors-cpus.ensures.is c.processors-cpus.ensures.few)
    (rw c.in-Some.is at c.in-Ok-searched_by.ensures.is) (rw c.in-Some.is at c.in-Ok-searched_by.ensures.fewest)
    (rw c.in-Some.is at c.in-Ok-searched_by.ensures.short) (rw (c.deref.ensures.value, c.in-Some.events-is) at c.told_found.ensures)

pub returns : goal.returns
returns g c = record {
  plan = c.in-Ok.plan;
  planned = search rules;
  within = λ none. record {
    bounds = c.in-Ok-searched_by.searched.bounds;
    schedule = None;
    answers = search rules;
    fewest = search rules;
    short = search rules;
    tells = c.in_ok-told_none-in-None.ensures c.args.loaded.now.board;
  };
  all = λ some. absurd (omega (arith, some, c.if-plan-gt0.false));
}

pub returns-in-Err-searched_by : goal.returns-in-Err-searched_by
returns-in-Err-searched_by g c =
    subst (KeepsFromSearching c.args.options c.args.loaded.now) (sym c.no_answer_of.ensures)
    (out-of-time c.args.options c.args.loaded.now c.in-Ok.plan c.in-Err-searched_by.why (search rules) (search rules))
