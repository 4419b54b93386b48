-- What clauses see of the values of the code.
use Rattle.std.specs.Prelude.{map, option_map}
use Rattle.brd_source.specs.declared.statement.Expression as expressions
use Rattle.brd_source.specs.declared.statement.Immediate as immediates
use Rattle.brd_source.specs.declared.statement.Immediate.TheVariants as immediate
use Rattle.brd_source.specs.declared.statement.SourceOperand as one_operand
use Rattle.brd_source.specs.declared.statement.SourceOperand.TheVariants as operand
use Rattle.brd_source.specs.declared.statement.Instruction as instructions
use Rattle.brd_source.specs.declared.statement.Statement as statements
use Rattle.brd_source.specs.declared.statement.Statement.TheVariants as statement
use Rattle.brd_source.specs.declared.statement.Line as lines
use Rattle.brd_source.specs.Statement.{Expression, Immediate, SourceOperand, Operands, Instruction, Statement, Line}
use Rattle.brd_source.specs.Statement.Immediate.{Whole, High, Low}
use Rattle.brd_source.specs.Statement.SourceOperand.{Absent, Register, Value, Address}
use Rattle.brd_source.specs.Statement.Statement.{Nothing, WithoutEffect, ByteOrder, Instruct, Org, Align, Space, Data}
use Rattle.brd_source.specs.Statement.Statement.{Text, Equal}

abbrev pub expression_value : expressions.Expression → Expression
expression_value e = record { name = option_map (λ n. n.now) e.name; number = e.number }

abbrev pub immediate_value : immediates.Immediate → Immediate
immediate_value (immediate.Whole e) = Whole (expression_value e)
immediate_value (immediate.High e) = High (expression_value e)
immediate_value (immediate.Low e) = Low (expression_value e)

abbrev pub operand_value : one_operand.SourceOperand → SourceOperand
operand_value operand.Absent = Absent
operand_value (operand.Register r) = Register r
operand_value (operand.Value i) = Value (immediate_value i)
operand_value (operand.Address i r) = Address (immediate_value i) r

abbrev pub operands_value : one_operand.SourceOperand × one_operand.SourceOperand × one_operand.SourceOperand → Operands
operands_value os = (operand_value os.0, operand_value os.1, operand_value os.2)

abbrev pub instruction_value : instructions.Instruction → Instruction
instruction_value i = record { mnemonic = i.mnemonic; operands = operands_value i.operands }

abbrev pub statement_value : statements.Statement → Statement
statement_value statement.Nothing = Nothing
statement_value statement.WithoutEffect = WithoutEffect
statement_value (statement.ByteOrder order) = ByteOrder order
statement_value (statement.Instruction i) = Instruct (instruction_value i)
statement_value (statement.Org place) = Org (expression_value place)
statement_value (statement.Align n) = Align (expression_value n)
statement_value (statement.Space n) = Space (expression_value n)
statement_value (statement.Data width values) = Data width (map expression_value values)
statement_value (statement.Text bytes) = Text bytes
statement_value (statement.Equal name value) = Equal name.now (expression_value value)

abbrev pub line_value : lines.Line → Line
line_value l = record { labels = map (λ name. name.now) l.labels; statement = statement_value l.statement }
