use Rattle.brd_source.proofs.LineForm.{said_line, read_line}
use Rattle.brd_source.proofs.Spelled.{spelled}
use Rattle.brd_source.proofs.SpelledBack.{spelled_back}
use Rattle.brd_source.specs.Tokens.{tokens_of}
use Rattle.std.proofs.Common.{refl}
use Rattle.brd_source.proofs.laws.lines_follow_the_grammar.Goals as goal

pub returns : goal.returns
returns c = record {
  exact = λ bytes line. (said_line bytes line, read_line bytes (tokens_of bytes) line refl);
  spelled = λ bytes line. (
    (λ read. (tokens_of bytes, spelled_back bytes, said_line bytes line read)),
    (λ form. read_line bytes form.0 line (spelled bytes form.0 form.1) form.2),
  );
}
