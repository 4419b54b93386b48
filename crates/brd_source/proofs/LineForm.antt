-- Lines and their form.
use Rattle.std.proofs.Common.{◌≡◌, ℕ, List, Some, ap, ◌∙◌}
use Rattle.brd_source.specs.Grammar.{LineIs}
use Rattle.brd_source.specs.Lines.{line_from, line_of}
use Rattle.brd_source.specs.Statement.{Line}
use Rattle.brd_source.specs.Tokens.{SourceToken, tokens_of}
use Rattle.brd_source.proofs.AreRead.{line_read}
use Rattle.brd_source.proofs.HaveForm.{line_is}

pub said_line : (bytes : List ℕ) (line : Line) → line_of bytes ≡ Some line → LineIs (tokens_of bytes) line
unfolding line_of
said_line bytes line h = line_is (tokens_of bytes) line h

pub read_line : (bytes : List ℕ) (tokens : List SourceToken) (line : Line) → tokens_of bytes ≡ tokens → LineIs tokens line → line_of bytes ≡ Some line
unfolding line_of
read_line bytes tokens line e is = ap line_from e ∙ line_read tokens line is
