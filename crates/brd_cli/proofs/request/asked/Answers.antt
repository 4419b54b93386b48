use Rattle.std.proofs.Common.{List, Err, Ok, Result, map}
use Rattle.std.specs.Result.{IsErrAnd}
use Rattle.clap.specs.Words.{Text}
use Rattle.brd_cli.specs.End.{IsWantOfMemory}
use Rattle.brd_cli.specs.Requests.{IsAnswer}
use Rattle.brd_cli.specs.declared.end.EarlyEnd.{EarlyEnd}
use Rattle.brd_cli.specs.declared.end.EarlyEnd.TheVariants.{Data, Fault, Input, Usage}
use Rattle.brd_cli.specs.declared.request.Line.{Line}
use Rattle.brd_cli.proofs.request.asked.Goals as goal

out_of_memory : (words : List Text) (result : Result Line EarlyEnd) → IsErrAnd result IsWantOfMemory → IsAnswer words result
out_of_memory words (Ok it) is = absurd is
out_of_memory words (Err (Fault fault)) is = cc
out_of_memory words (Err (Data fault)) is = cc
out_of_memory words (Err (Input fault)) is = cc
out_of_memory words (Err (Usage error)) is = cc

pub returns-in_err-board : goal.returns-in_err-board
returns-in_err-board g c = out_of_memory (map g.S.AsStr.text c.args.words.now) c.from_residual.result c.from_residual.ensures.1
