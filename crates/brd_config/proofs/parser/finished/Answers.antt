use Rattle.std.proofs.Common.{length}
use Rattle.brd_text.proofs.TurnLemmas.{flow_more, flow_done, goes_fails}
use Rattle.brd_config.specs.declared.fault.ConfigFault.TheVariants.{NoMemory}
use Rattle.brd_config.specs.Faults.{is_no_memory}
use Rattle.brd_config.specs.Meaning.{statement_step, statements_from}
use Rattle.brd_config.specs.View.{drafted, state_of}
use Rattle.brd_config.proofs.parser.finished.Goals as goal

pub statements-preserved : goal.statements-preserved
statements-preserved c = flow_more NoMemory statement_step (length c.statements.tokens.tokens) (length c.read_statement.new.tokens.tokens) (state_of c.statements.draft, c.statements.tokens) (state_of c.read_statement.new.draft, c.read_statement.new.tokens) (drafted c.read_statement.new.draft) c.in-Ok.more (statements_from (state_of c.args.draft, c.args.tokens.now)) c.statements.invariant c.in-Ok.ensures.read c.if-more.true (c.in-Ok.ensures.shorter c.if-more.true)

pub returns-in-Ok : goal.returns-in-Ok
returns-in-Ok c = flow_done NoMemory statement_step (length c.statements.tokens.tokens) (state_of c.statements.draft, c.statements.tokens) (state_of c.read_statement.new.draft, c.read_statement.new.tokens) (drafted c.read_statement.new.draft) c.in-Ok.more (statements_from (state_of c.args.draft, c.args.tokens.now)) c.statements.invariant c.in-Ok.ensures.read c.if-more.false

pub returns-in-Err : goal.returns-in-Err
returns-in-Err c = goes_fails is_no_memory NoMemory statement_step (length c.statements.tokens.tokens) (state_of c.statements.draft, c.statements.tokens) c.in-Err.fault (statements_from (state_of c.args.draft, c.args.tokens.now)) c.statements.invariant c.in-Err.ensures.read
