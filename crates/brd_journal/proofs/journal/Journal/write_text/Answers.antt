use Rattle.std.proofs.Common.{◌≡◌, ℕ, ◌≤◌, length, ap, ◌∙◌, subst}
use Rattle.std.specs.Prelude.{Result, Ok, Err, IfOk}
use Rattle.std.proofs.lemmas.Result.{IfOk-weaker}
use Rattle.brd_journal.specs.Runs.{runs_of}
use Rattle.brd_journal.specs.Journal.{JournalState}
use Rattle.brd_journal.specs.Text.{text_of_runs, text_of, AreNumbered}
use Rattle.brd_journal.specs.Reading.{journal_of}
use Rattle.brd_journal.proofs.Cutting.{runs_are}
use Rattle.brd_journal.proofs.GrammarLemmas.{written_again}
use Rattle.brd_journal.proofs.journal.Journal.write_text.Goals as goal
use Rattle.brd_journal.proofs.journal.Journal.write_text.Goals.{After-written}

-- the runs that are written are those of the journal's events
same_runs : (c : After-written) → c.as_slice.result.now ≡ runs_of c.args.self.now.events
same_runs c = c.as_slice.ensures ∙ runs_are c.self.inside.runs c.self.invariant.cut ∙ ap (λ (j : JournalState). runs_of j.events) c.self.view_is

-- and so is their byte order
same_order : (c : After-written) → c.self.inside.order ≡ c.args.self.now.order
same_order c = ap (λ (j : JournalState). j.order) c.self.view_is

same_text : (c : After-written) → text_of_runs c.self.inside.order c.as_slice.result.now ≡ text_of c.args.self.now.order c.args.self.now.events
same_text c = ap (λ order. text_of_runs order c.as_slice.result.now) (same_order c) ∙ ap (text_of_runs c.args.self.now.order) (same_runs c)

pub returns-clause-is : goal.returns-clause-is
returns-clause-is c =
    IfOk-weaker c.written.result (λ text. text.items ≡ text_of_runs c.self.inside.order c.as_slice.result.now) (λ text. text.items ≡ text_of c.args.self.now.order c.args.self.now.events)
    (λ text is. is ∙ same_text c) c.written.ensures.is

both : {T E : Type 0} (r : Result T E) (P Q R : T → Type 0) → IfOk r P → IfOk r Q → ((x : T) → P x → Q x → R x) → IfOk r R
both (Ok x) P Q R p q f = f x p q
both (Err e) P Q R p q f = tt

pub returns-clause-again : goal.returns-clause-again
returns-clause-again c =
    both c.written.result (λ text. text.items ≡ text_of_runs c.self.inside.order c.as_slice.result.now) (λ _. AreNumbered c.as_slice.result.now)
    (λ text. (limit : ℕ) → length (runs_of c.args.self.now.events) ≤ limit → journal_of limit text.items ≡ Ok (record { limit = limit; order = c.args.self.now.order; events = c.args.self.now.events }))
    c.written.ensures.is c.written.ensures.numbered
    (λ text is numbered limit le.
    ap (journal_of limit) (is ∙ same_text c)
    ∙ written_again limit c.args.self.now.order c.args.self.now.events (subst AreNumbered (same_runs c) numbered) le)
