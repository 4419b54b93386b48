use Rattle.brd_page.specs.Data.{end_text}
use Rattle.brd_page.proofs.run_page.put_rest.Goals as goal

pub returns : goal.returns
returns c = record { text = end_text c.put_names.new.json; is_it = tt; behind = c.in_ok-end_with.ensures }
