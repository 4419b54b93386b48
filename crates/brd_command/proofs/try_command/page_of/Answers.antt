use Rattle.std.proofs.Common.{ℕ, subst}
use Rattle.brd_page.specs.Page.{IsLastPage}
use Rattle.brd_command.proofs.try_command.page_of.Goals as goal

-- The page is that of all events, or of the last ones, on the board of the start.
pub returns : goal.returns
returns c =
    let start = c.in-Ok.start in
    record {
      start = start;
      is_start = c.in-Ok.ensures;
      is_page = subst (λ (n : ℕ). IsLastPage start.board start.journal.events 0 n c.in_ok-page.page.items) c.len.ensures.len
          c.in_ok-page.ensures;
    }
