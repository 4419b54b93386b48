use Rattle.std.proofs.Common.{◌≡◌, ◌≤◌, ◌-◌, ◌∙◌, ℕ, inl, inr, ap, subst, arith}
use Rattle.std.specs.Prelude.{◌⊎◌}
use Rattle.brd_board.specs.Board.{BoardState}
use Rattle.brd_journal.specs.declared.playback.Playback.{Playback}
use Rattle.brd_page.specs.Page.{IsRunPage, always_shown}
use Rattle.brd_command.specs.TraceCommand.{IsKnown}
use Rattle.brd_command.proofs.TraceLemmas.{known}
use Rattle.brd_command.proofs.trace_command.Traced.page_of_last.Goals as goal

shown-enough : (first from to most : ℕ) → always_shown ≤ most → (first ≡ from) ⊎ (most ≤ to - first)
    → (first ≡ from) ⊎ (always_shown ≤ to - first)
shown-enough first from to most least (inl same) = inl same
shown-enough first from to most least (inr many) = inr (omega (arith, least, many))

-- The page is that of the events from where the tracer has skipped to.
pub returns-in-Ok : goal.returns-in-Ok
returns-in-Ok g c =
    let boot = c.args.boot.now in
    let events = c.args.self.now.journal.now.events in
    let from = c.args.self.now.part.from in
    let to = c.args.self.now.part.to in
    let tracer = c.in_ok-tracer.tracer in
    let made = c.in_ok-tracer.ensures in
    let same = ap (λ (p : Playback). p.board) made.start ∙ c.in_ok-board.ensures in
    let begun = subst (λ (b : BoardState). IsKnown b events tracer) same
    (known c.in_ok-board.board events tracer made.start (made.noted events)) in
    let skipped : IsKnown boot events c.skip.new.tracer = c.in_ok-skip.ensures.knows boot begun in
    record {
      first = c.first_of_last-first.result;
      least = c.first_of_last-first.ensures.least;
      enough = shown-enough c.first_of_last-first.result from to c.args.most c.requires.least c.first_of_last-first.ensures.enough;
      is_page = subst (λ (n : ℕ). IsRunPage boot events n to c.in-Ok.page.items) c.in_ok-skip.ensures.at
          (c.in-Ok.ensures.page boot skipped.played skipped.noted);
    }
