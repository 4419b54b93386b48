-- What was found is what the word is decoded to, and that is the table's.
use Rattle.std.proofs.Common.{◌≡◌}
use Rattle.brd_isa.specs.Decoding.{decoded}
use Rattle.brd_isa.proofs.TableTheorem.{follows_the_table}
use Rattle.brd_isa.proofs.decoder.decode.Goals as goal

pub returns-clause-exactly : goal.returns-clause-exactly
unfolding decoded
returns-clause-exactly c =
    let found : c.by_opcode.result ≡ decoded c.args.word = c.by_opcode.ensures in
    rw found (follows_the_table c.args.word)
