-- What tokens say as statements.
use Rattle.std.specs.Prelude.{ℕ, Bool, List, [], ◌∷◌, ◌++◌, ◌==◌, ◌&&◌, ◌||◌, if◌then◌else◌, Option, Some, None}
use Rattle.std.specs.Prelude.{option_map, codes}
use Rattle.std.specs.Str.{bytes_eq}
use Rattle.brd_isa.specs.Names.{lowered}
use Rattle.brd_text.specs.Bytes.{is_name}
use Rattle.brd_source.specs.declared.forms.Kind.{Kind}
use Rattle.brd_source.specs.declared.operations.Directive.{Directive}
use Rattle.brd_source.specs.declared.operations.Directive.TheVariants as directives
use Rattle.brd_source.specs.declared.operations.Operation.{Operation}
use Rattle.brd_source.specs.declared.operations.Operation.TheVariants as operation
use Rattle.brd_source.specs.Faults.{◌>>=◌}
use Rattle.brd_source.specs.Forms.{form_of, short_form_of, taken, instruction, stands_for}
use Rattle.brd_source.specs.Reading.{expression_from, operands_from, parts, values_of}
use Rattle.brd_source.specs.Statement.{Operands, Instruction, Statement}
use Rattle.brd_source.specs.Statement.Statement.{Nothing, WithoutEffect, ByteOrder, Instruct, Org, Align, Space, Data}
use Rattle.brd_source.specs.Statement.Statement.{Text, Equal}
use Rattle.brd_source.specs.Texts.{text_of}
use Rattle.brd_source.specs.Tokens.{SourceToken, comma_byte}
use Rattle.brd_source.specs.Tokens.SourceToken.{Run, Quoted, Mark}
use Rattle.brd_source.specs.Operations.{operation_named, order_named}

-- ---- directives

-- a string
unfoldable pub text_from : List SourceToken → Option (List ℕ)
text_from (Quoted text ∷ []) = text_of text
text_from _ = None

-- name , value
unfoldable pub equal_from : List SourceToken → Option Statement
equal_from (Run name ∷ Mark b ∷ tokens) =
    if is_name name && b == comma_byte then option_map (λ e. Equal name e) (expression_from tokens) else None
equal_from _ = None

-- a name, without effect
unfoldable pub global_from : List SourceToken → Option Statement
global_from (Run name ∷ []) = if is_name name then Some WithoutEffect else None
global_from _ = None

abbrev pub is_setting : List ℕ → Bool
is_setting run = bytes_eq run (codes "noreorder") || bytes_eq run (codes "noat") || bytes_eq run (codes "nomacro")

-- noreorder, noat or nomacro, without effect
unfoldable pub setting_from : List SourceToken → Option Statement
setting_from (Run run ∷ []) = if is_setting run then Some WithoutEffect else None
setting_from _ = None

-- a byte order
unfoldable pub order_from : List SourceToken → Option Statement
order_from (Run name ∷ []) = option_map (λ order. ByteOrder order) (order_named name)
order_from _ = None

-- what stands after a directive
abbrev pub directive_from : Directive → List SourceToken → Option Statement
directive_from directives.Org tokens = option_map (λ e. Org e) (expression_from tokens)
directive_from directives.Align tokens = option_map (λ e. Align e) (expression_from tokens)
directive_from directives.Space tokens = option_map (λ e. Space e) (expression_from tokens)
directive_from (directives.Values width) tokens = option_map (λ es. Data width es) (values_of (parts tokens))
directive_from directives.Ascii tokens = option_map (λ text. Text text) (text_from tokens)
directive_from directives.Asciiz tokens = option_map (λ text. Text (text ++ 0 ∷ [])) (text_from tokens)
directive_from directives.Equ tokens = equal_from tokens
directive_from directives.Globl tokens = global_from tokens
directive_from directives.Set tokens = setting_from tokens
directive_from directives.ByteOrder tokens = order_from tokens

-- ---- statements

-- operands of this form, none left out
abbrev pub of_form : Kind × Kind × Kind → List SourceToken → Option Operands
of_form form tokens = operands_from tokens >>= taken form

-- an instruction that is made of operands of this form
unfoldable pub instruction_from : Kind × Kind × Kind → (Operands → Instruction) → List SourceToken → Option Statement
instruction_from form made tokens = of_form form tokens >>= λ operands. Some (Instruct (made operands))

-- what stands after an operation
abbrev pub said_from : Operation → List SourceToken → Option Statement
said_from (operation.Mnemonic m) tokens = instruction_from (form_of m) (instruction m) tokens
said_from (operation.Shorthand s) tokens = instruction_from (short_form_of s) (stands_for s) tokens
said_from (operation.Directive d) tokens = directive_from d tokens

-- an operation and what stands after it, or nothing
unfoldable pub statement_from : List SourceToken → Option Statement
statement_from [] = Some Nothing
statement_from (Run run ∷ tokens) = operation_named (lowered run) >>= λ operation. said_from operation tokens
statement_from _ = None
