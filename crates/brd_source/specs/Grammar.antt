-- The grammar of lines: which tokens, of those that bytes spell (Spelling), say what. What a single token stands for (a
-- register, a number, a string) is shared with the reading: Registers, brd_text's Numbers, Texts; so are the tables of
-- names (Operations) and of the operands that each operation takes (Forms). What is read as a line is just what has
-- this form.
use Rattle.std.specs.Prelude.{◌≡◌, ℕ, ℤ, pos, true, List, [], ◌∷◌, ◌++◌, Some, None, codes}
use lib.IntN.{neg_ℤ}
use Rattle.brd_isa.specs.declared.mnemonic.Mnemonic as mnemonics
use Rattle.brd_isa.specs.Names.{lowered}
use Rattle.brd_text.specs.Bytes.{is_name}
use Rattle.brd_text.specs.Numbers.{number_of}
use Rattle.brd_word.specs.declared.order.Order.{Order}
use Rattle.brd_source.specs.declared.statement.Width.{Width}
use Rattle.brd_source.specs.declared.operations.Shorthand as shorthands
use Rattle.brd_source.specs.declared.operations.Directive.TheVariants as directive
use Rattle.brd_source.specs.declared.operations.Operation.{Operation}
use Rattle.brd_source.specs.declared.operations.Operation.TheVariants.{Mnemonic, Shorthand, Directive}
use Rattle.brd_source.specs.Forms.{form_of, short_form_of, taken, instruction, stands_for}
use Rattle.brd_source.specs.Registers.{register_of}
use Rattle.brd_source.specs.Statement.{Expression, Immediate, SourceOperand, Operands, Statement, Line, zero_expression}
use Rattle.brd_source.specs.Statement.Immediate.{Whole, High, Low}
use Rattle.brd_source.specs.Statement.SourceOperand.{Absent, Register, Value, Address}
use Rattle.brd_source.specs.Statement.Statement.{Nothing, WithoutEffect, ByteOrder, Instruct, Org, Align, Space, Data}
use Rattle.brd_source.specs.Statement.Statement.{Text, Equal}
use Rattle.brd_source.specs.Texts.{text_of}
use Rattle.brd_source.specs.Tokens.{SourceToken, closing_byte, colon_byte, comma_byte, minus_byte, opening_byte}
use Rattle.brd_source.specs.Tokens.{plus_byte}
use Rattle.brd_source.specs.Tokens.SourceToken.{Run, Percent, Quoted, Mark}
use Rattle.brd_source.specs.Operations.{operation_named, order_named}

-- the marks , : + - ( )
abbrev pub comma : SourceToken
comma = Mark comma_byte

abbrev pub colon : SourceToken
colon = Mark colon_byte

abbrev pub plus : SourceToken
plus = Mark plus_byte

abbrev pub minus : SourceToken
minus = Mark minus_byte

abbrev pub opened : SourceToken
opened = Mark opening_byte

abbrev pub closed : SourceToken
closed = Mark closing_byte

-- ---- operands

-- decimal digits, or 0x and hexadecimal digits, below 2 to the 32nd; a - may stand before them
pub data NumberIs : List SourceToken → ℤ → Type 0 where
  unsigned : (run : List ℕ) (n : ℕ) → number_of run ≡ Some n → NumberIs (Run run ∷ []) (pos n)
  negative : (run : List ℕ) (n : ℕ) → number_of run ≡ Some n → NumberIs (minus ∷ Run run ∷ []) (neg_ℤ (pos n))

-- a number, a name, a name + a number, a name - a number
pub data ExpressionIs : List SourceToken → Expression → Type 0 where
  number : (tokens : List SourceToken) (v : ℤ) → NumberIs tokens v
      → ExpressionIs tokens (record { name = None; number = v })
  name : (run : List ℕ) → is_name run ≡ true → ExpressionIs (Run run ∷ []) (record { name = Some run; number = pos 0 })
  sum : (run : List ℕ) (tokens : List SourceToken) (v : ℤ) → is_name run ≡ true → NumberIs tokens v
      → ExpressionIs (Run run ∷ plus ∷ tokens) (record { name = Some run; number = v })
  difference : (run : List ℕ) (tokens : List SourceToken) (v : ℤ) → is_name run ≡ true → NumberIs tokens v
      → ExpressionIs (Run run ∷ minus ∷ tokens) (record { name = Some run; number = neg_ℤ v })

-- an expression, %hi(expression), %lo(expression); hi and lo in lower case
pub data ImmediateIs : List SourceToken → Immediate → Type 0 where
  whole : (tokens : List SourceToken) (e : Expression) → ExpressionIs tokens e → ImmediateIs tokens (Whole e)
  high : (tokens : List SourceToken) (e : Expression) → ExpressionIs tokens e
      → ImmediateIs (Percent (codes "hi") ∷ opened ∷ (tokens ++ closed ∷ [])) (High e)
  low : (tokens : List SourceToken) (e : Expression) → ExpressionIs tokens e
      → ImmediateIs (Percent (codes "lo") ∷ opened ∷ (tokens ++ closed ∷ [])) (Low e)

-- a register; an immediate; offset(register), or (register) for the offset 0
pub data OperandIs : List SourceToken → SourceOperand → Type 0 where
  register : (run : List ℕ) (r : ℕ) → register_of run ≡ Some r → OperandIs (Run run ∷ []) (Register r)
  value : (tokens : List SourceToken) (i : Immediate) → ImmediateIs tokens i → OperandIs tokens (Value i)
  offset : (tokens : List SourceToken) (i : Immediate) (run : List ℕ) (r : ℕ) → ImmediateIs tokens i
      → register_of run ≡ Some r
      → OperandIs (tokens ++ opened ∷ Run run ∷ closed ∷ []) (Address i r)
  no_offset : (run : List ℕ) (r : ℕ) → register_of run ≡ Some r
      → OperandIs (opened ∷ Run run ∷ closed ∷ []) (Address (Whole zero_expression) r)

-- up to three operands with commas between them
pub data OperandsAre : List SourceToken → Operands → Type 0 where
  none : OperandsAre [] (Absent, Absent, Absent)
  one : (xs : List SourceToken) (a : SourceOperand) → OperandIs xs a → OperandsAre xs (a, Absent, Absent)
  two : (xs ys : List SourceToken) (a b : SourceOperand) → OperandIs xs a → OperandIs ys b
      → OperandsAre (xs ++ comma ∷ ys) (a, b, Absent)
  three : (xs ys zs : List SourceToken) (a b c : SourceOperand) → OperandIs xs a → OperandIs ys b → OperandIs zs c
      → OperandsAre (xs ++ comma ∷ (ys ++ comma ∷ zs)) (a, b, c)

-- ---- statements

-- values with commas between them, one at least
pub data ValuesAre : List SourceToken → List Expression → Type 0 where
  one : (tokens : List SourceToken) (e : Expression) → ExpressionIs tokens e → ValuesAre tokens (e ∷ [])
  many : (tokens others : List SourceToken) (e : Expression) (es : List Expression) → ExpressionIs tokens e
      → ValuesAre others es
      → ValuesAre (tokens ++ comma ∷ others) (e ∷ es)

-- the tokens after .set, in lower case only; they have no effect
pub data IsSetting : List ℕ → Type 0 where
  noreorder : IsSetting (codes "noreorder")
  noat : IsSetting (codes "noat")
  nomacro : IsSetting (codes "nomacro")

-- What stands after an operation, and the statement that it says: operands of the operation's form, or those of a
-- directive. .globl and .set have no effect.
pub data Says : Operation → List SourceToken → Statement → Type 0 where
  instructs : (m : mnemonics.Mnemonic) (tokens : List SourceToken) (written operands : Operands)
      → OperandsAre tokens written
      → taken (form_of m) written ≡ Some operands → Says (Mnemonic m) tokens (Instruct (instruction m operands))
  shortens : (s : shorthands.Shorthand) (tokens : List SourceToken) (written operands : Operands)
      → OperandsAre tokens written
      → taken (short_form_of s) written ≡ Some operands → Says (Shorthand s) tokens (Instruct (stands_for s operands))
  org : (tokens : List SourceToken) (e : Expression) → ExpressionIs tokens e
      → Says (Directive directive.Org) tokens (Org e)
  align : (tokens : List SourceToken) (e : Expression) → ExpressionIs tokens e
      → Says (Directive directive.Align) tokens (Align e)
  space : (tokens : List SourceToken) (e : Expression) → ExpressionIs tokens e
      → Says (Directive directive.Space) tokens (Space e)
  values : (w : Width) (tokens : List SourceToken) (es : List Expression) → ValuesAre tokens es
      → Says (Directive (directive.Values w)) tokens (Data w es)
  ascii : (text bytes : List ℕ) → text_of text ≡ Some bytes
      → Says (Directive directive.Ascii) (Quoted text ∷ []) (Text bytes)
  asciiz : (text bytes : List ℕ) → text_of text ≡ Some bytes
      → Says (Directive directive.Asciiz) (Quoted text ∷ []) (Text (bytes ++ 0 ∷ []))
  equ : (name : List ℕ) (tokens : List SourceToken) (e : Expression) → is_name name ≡ true → ExpressionIs tokens e
      → Says (Directive directive.Equ) (Run name ∷ comma ∷ tokens) (Equal name e)
  globl : (name : List ℕ) → is_name name ≡ true → Says (Directive directive.Globl) (Run name ∷ []) WithoutEffect
  set : (setting : List ℕ) → IsSetting setting → Says (Directive directive.Set) (Run setting ∷ []) WithoutEffect
  byteorder : (name : List ℕ) (order : Order) → order_named name ≡ Some order
      → Says (Directive directive.ByteOrder) (Run name ∷ []) (ByteOrder order)

-- a mnemonic, a shorthand or a directive, in whatever case, and what stands after it; or nothing
pub data StatementIs : List SourceToken → Statement → Type 0 where
  left_out : StatementIs [] Nothing
  begins : (run : List ℕ) (operation : Operation) (tokens : List SourceToken) (s : Statement)
      → operation_named (lowered run) ≡ Some operation → Says operation tokens s
      → StatementIs (Run run ∷ tokens) s

-- any number of labels, each with a colon, and then a statement
pub data LineIs : List SourceToken → Line → Type 0 where
  statement : (tokens : List SourceToken) (s : Statement) → StatementIs tokens s
      → LineIs tokens (record { labels = []; statement = s })
  label : (run : List ℕ) (tokens : List SourceToken) (labels : List (List ℕ)) (s : Statement) → is_name run ≡ true
      → LineIs tokens (record { labels = labels; statement = s })
      → LineIs (Run run ∷ colon ∷ tokens) (record { labels = run ∷ labels; statement = s })
