-- Numbers, marks, attributes and operands at the front of a text. Syntax has the line of the token that does not fit.
use Rattle.std.specs.Prelude.{ℕ, Bool, true, false, List, [], ◌∷◌, length, take, drop, ◌==◌, if◌then◌else◌, ◌||◌}
use Rattle.std.specs.Prelude.{Option, Some, None, is_some, option_map, Result, Ok, Err, suc, codes}
use Rattle.std.specs.Str.{bytes_eq}
use Rattle.std.specs.Int.RustNames.{bit_or}
use Rattle.brd_text.specs.Bytes.{is_name}
use Rattle.brd_text.specs.Tokens.{Token, Text, first, others}
use Rattle.brd_text.specs.Tokens.Token.{Run, Mark, Unclosed, End}
use Rattle.brd_text.specs.Numbers.{number_of, decimal_of, most_word}
use Rattle.brd_text.specs.Faults.{◌>>=◌, or_fault}
use Rattle.brd_text.specs.Turns.{Flow, flow_of, repeated}
use Rattle.brd_config.specs.declared.fault.ConfigFault.{ConfigFault}
use Rattle.brd_config.specs.declared.fault.ConfigFault.TheVariants.{NoMemory, Syntax}
use Rattle.brd_config.specs.declared.statement.AttributeNames.{AttributeNames}
use Rattle.brd_config.specs.declared.statement.AttributeNames.TheVariants as named
use Rattle.brd_config.specs.declared.objects.Operand.{Operand}
use Rattle.brd_config.specs.declared.objects.Operand.TheVariants.{Number, Name}
use Rattle.brd_config.specs.declared.objects.Stack.{Stack}
use Rattle.brd_config.specs.declared.objects.Stack.TheVariants.{Automatic, At}

-- ---- what a run stands for

-- what a table of names has for a name
abbrev pub named_in : {A : Type 0} → List (List ℕ × A) → List ℕ → Option A
named_in [] name = None
named_in (row ∷ rows) name = if bytes_eq name row.0 then Some row.1 else named_in rows name

-- the attribute names of the uITRON 4.0 specification, each with its bits
abbrev pub attribute_names : List (List ℕ × ℕ)
attribute_names =
    (codes "TA_NULL", 0) ∷
    (codes "TA_HLNG", 0) ∷
    (codes "TA_ASM", 1) ∷
    (codes "TA_ACT", 2) ∷
    (codes "TA_TFIFO", 0) ∷
    (codes "TA_TPRI", 1) ∷
    (codes "TA_WSGL", 0) ∷
    (codes "TA_WMUL", 2) ∷
    (codes "TA_CLR", 4) ∷ []

unfoldable pub attribute_named : List ℕ → Option ℕ
attribute_named run = named_in attribute_names run

-- a name or a number
abbrev pub named_or_number : Option ℕ → List ℕ → Option ℕ
named_or_number (Some bits) run = Some bits
named_or_number None run = number_of run

-- the attribute names that a mailbox has, each with its bits
abbrev pub mailbox_attribute_names : List (List ℕ × ℕ)
mailbox_attribute_names =
    (codes "TA_NULL", 0) ∷
    (codes "TA_TFIFO", 0) ∷
    (codes "TA_TPRI", 1) ∷
    (codes "TA_MFIFO", 0) ∷
    (codes "TA_MPRI", 2) ∷ []

unfoldable pub mailbox_attribute_named : List ℕ → Option ℕ
mailbox_attribute_named run = named_in mailbox_attribute_names run

-- the attribute names that a cyclic handler has, each with its bits
abbrev pub cyclic_attribute_names : List (List ℕ × ℕ)
cyclic_attribute_names =
    (codes "TA_NULL", 0) ∷
    (codes "TA_HLNG", 0) ∷
    (codes "TA_ASM", 1) ∷
    (codes "TA_STA", 2) ∷
    (codes "TA_PHS", 4) ∷ []

unfoldable pub cyclic_attribute_named : List ℕ → Option ℕ
cyclic_attribute_named run = named_in cyclic_attribute_names run

-- what a name stands for, among these
abbrev pub named_among : AttributeNames → List ℕ → Option ℕ
named_among named.Common run = attribute_named run
named_among named.Mailbox run = mailbox_attribute_named run
named_among named.Cyclic run = cyclic_attribute_named run

unfoldable pub attribute_of : AttributeNames → List ℕ → Option ℕ
attribute_of names run = named_or_number (named_among names run) run

-- the attributes of mutexes, of which each has one
abbrev pub protocol_names : List (List ℕ × ℕ)
protocol_names =
    (codes "TA_NULL", 0) ∷
    (codes "TA_TFIFO", 0) ∷
    (codes "TA_TPRI", 1) ∷
    (codes "TA_INHERIT", 2) ∷
    (codes "TA_CEILING", 3) ∷ []

unfoldable pub protocol_named : List ℕ → Option ℕ
protocol_named run = named_in protocol_names run

unfoldable pub protocol_of : List ℕ → Option ℕ
protocol_of run = named_or_number (protocol_named run) run

-- TCL_ and a decimal number
unfoldable pub class_of : List ℕ → Option ℕ
class_of run = if bytes_eq (take 4 run) (codes "TCL_") then decimal_of (drop 4 run) most_word else None

unfoldable pub is_null : List ℕ → Bool
is_null run = bytes_eq run (codes "NULL")

abbrev pub number_or_name : Option ℕ → List ℕ → Option Operand
number_or_name (Some n) run = Some (Number n)
number_or_name None run = if is_name run then Some (Name run) else None

unfoldable pub operand_of : List ℕ → Option Operand
operand_of run = number_or_name (number_of run) run

-- ---- tokens at the front

-- the bytes of a token that has to be a run
abbrev pub run_of : Token → ℕ → Result (List ℕ) ConfigFault
run_of (Run run) line = Ok run
run_of (Mark b) line = Err (Syntax line)
run_of Unclosed line = Err (Syntax line)
run_of End line = Err (Syntax line)

unfoldable pub number_at : Text → Result (ℕ × Text) ConfigFault
number_at t = do
  run ← run_of (first t).token (first t).line
  n ← or_fault (Syntax (first t).line) (number_of run)
  Ok (n, others t)

abbrev pub expect_mark : ℕ → Token → ℕ → Text → Result Text ConfigFault
expect_mark mark (Run run) line rest = Err (Syntax line)
expect_mark mark (Mark b) line rest = if b == mark then Ok rest else Err (Syntax line)
expect_mark mark Unclosed line rest = Err (Syntax line)
expect_mark mark End line rest = Err (Syntax line)

-- this mark, and the text after it
unfoldable pub mark_at : ℕ → Text → Result Text ConfigFault
mark_at mark t = expect_mark mark (first t).token (first t).line (others t)

unfoldable pub attribute_at : AttributeNames → Text → Result (ℕ × Text) ConfigFault
attribute_at names t = do
  run ← run_of (first t).token (first t).line
  bits ← or_fault (Syntax (first t).line) (attribute_of names run)
  Ok (bits, others t)

abbrev pub expect_joint : ℕ → Token → ℕ → Text → Result (Bool × Text) ConfigFault
expect_joint end (Run run) line rest = Err (Syntax line)
expect_joint end (Mark b) line rest =
    if b == 124 then Ok (true, rest) else (if b == end then Ok (false, rest) else Err (Syntax line))
expect_joint end Unclosed line rest = Err (Syntax line)
expect_joint end End line rest = Err (Syntax line)

-- a bar, after which another attribute stands, or the mark that ends attributes
unfoldable pub joint_at : ℕ → Text → Result (Bool × Text) ConfigFault
joint_at end t = expect_joint end (first t).token (first t).line (others t)

-- one more attribute, its bits joined to those before it
unfoldable pub attribute_step : AttributeNames → ℕ → ℕ × Text → Result (Flow (ℕ × Text) (ℕ × Text)) ConfigFault
attribute_step names end s = do
  a ← attribute_at names s.1
  joint ← joint_at end a.1
  Ok (flow_of joint.0 (bit_or s.0 a.0, joint.1) (bit_or s.0 a.0, joint.1))

-- attributes up to the mark that ends them
unfoldable pub attributes_at : AttributeNames → ℕ → Text → Result (ℕ × Text) ConfigFault
attributes_at names end t = repeated NoMemory (attribute_step names end) (suc (length t.tokens)) (0, t)

unfoldable pub operand_at : Text → Result (Operand × Text) ConfigFault
operand_at t = do
  run ← run_of (first t).token (first t).line
  operand ← or_fault (Syntax (first t).line) (operand_of run)
  Ok (operand, others t)

-- NULL, a number or a name
unfoldable pub stack_of : List ℕ → Option Stack
stack_of run = if is_null run then Some Automatic else option_map (λ o. At o) (operand_of run)

unfoldable pub stack_at : Text → Result (Stack × Text) ConfigFault
stack_at t = do
  run ← run_of (first t).token (first t).line
  stack ← or_fault (Syntax (first t).line) (stack_of run)
  Ok (stack, others t)

-- NULL or a number, which has no effect
unfoldable pub is_area : List ℕ → Bool
is_area run = is_null run || is_some (number_of run)

unfoldable pub area_at : Text → Result Text ConfigFault
area_at t = do
  run ← run_of (first t).token (first t).line
  if is_area run then Ok (others t) else Err (Syntax (first t).line)

-- NULL alone
unfoldable pub null_at : Text → Result Text ConfigFault
null_at t = do
  run ← run_of (first t).token (first t).line
  if is_null run then Ok (others t) else Err (Syntax (first t).line)

-- TCL_ and a decimal number
unfoldable pub class_number_at : Text → Result (ℕ × Text) ConfigFault
class_number_at t = do
  run ← run_of (first t).token (first t).line
  n ← or_fault (Syntax (first t).line) (class_of run)
  Ok (n, others t)

-- the attribute of a mutex, as a name or a number
unfoldable pub protocol_at : Text → Result (ℕ × Text) ConfigFault
protocol_at t = do
  run ← run_of (first t).token (first t).line
  n ← or_fault (Syntax (first t).line) (protocol_of run)
  Ok (n, others t)

-- ---- the parts that statements share

-- a number and the comma after it
unfoldable pub listed_number_at : Text → Result (ℕ × Text) ConfigFault
listed_number_at t = do
  n ← number_at t
  listed ← mark_at 44 n.1
  Ok (n.0, listed)

-- an operand and the comma after it
unfoldable pub listed_operand_at : Text → Result (Operand × Text) ConfigFault
listed_operand_at t = do
  operand ← operand_at t
  listed ← mark_at 44 operand.1
  Ok (operand.0, listed)

-- `( id , { attributes`, of these names, and the mark that ends them, a comma, or the brace where nothing follows: the
-- ID and the attributes
unfoldable pub head_at : AttributeNames → ℕ → Text → Result (ℕ × ℕ × Text) ConfigFault
head_at names end t = do
  opened ← mark_at 40 t
  id ← listed_number_at opened
  inner ← mark_at 123 id.1
  attributes ← attributes_at names end inner
  Ok (id.0, attributes.0, attributes.1)

-- `} ) ;`
unfoldable pub tail_at : Text → Result Text ConfigFault
tail_at t = do
  listed ← mark_at 125 t
  closed ← mark_at 41 listed
  mark_at 59 closed
