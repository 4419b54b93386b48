-- Where the statements of a source stand, and what its names are. Faults in the order in which they count on a line.
use Rattle.std.specs.Prelude.{ℕ, ◌+◌, ◌-◌, ◌*◌, ◌%◌, ◌^◌, ℤ, pos, negsuc, Bool, not, ◌&&◌, ◌||◌, ◌==◌, nat_lt, nat_le}
use Rattle.std.specs.Prelude.{if◌then◌else◌, List, [], ◌∷◌, ◌++◌, length, Option, None, Some, is_some, Result, Ok, Err}
use Rattle.std.specs.List.{list_any}
use Rattle.brd_text.specs.Faults.{◌>>=◌, or_fault}
use Rattle.brd_base.specs.Space.{base, top}
use Rattle.brd_word.specs.declared.order.Order.{Order}
use Rattle.brd_word.specs.declared.order.Order.TheVariants.{Big}
use Rattle.brd_source.specs.declared.statement.Width.{Width}
use Rattle.brd_source.specs.declared.statement.Width.TheVariants.{Byte, Half, Word}
use Rattle.brd_source.specs.Statement.{Expression, Instruction, Statement, Line}
use Rattle.brd_source.specs.Statement.Statement.{Nothing, WithoutEffect, ByteOrder, Instruct, Org, Align, Space, Data}
use Rattle.brd_source.specs.Statement.Statement.{Text, Equal}
use Rattle.brd_source.specs.Lines.{line_of}
use Rattle.brd_asm.specs.declared.fault.AsmFault.{AsmFault}
use Rattle.brd_asm.specs.declared.fault.AsmFault.TheVariants as fault
use Rattle.brd_asm.specs.Values.{Name, named, value_of, known, within, up_to}

-- what fills addresses: an instruction, values of one width, bytes, a number of zeros
pub data Content : Type 0 where
  Code : Instruction → Content
  Values : Width → List Expression → Content
  Bytes : List ℕ → Content
  Zeros : ℕ → Content

pub record Piece : Type 0 where
  pub place : ℕ
  pub line : ℕ
  pub content : Content

-- the byte order if it is settled, the place of what comes next, the names so far, and what was placed so far
pub record Layout : Type 0 where
  pub order : Option Order
  pub place : ℕ
  pub names : List Name
  pub pieces : List Piece

abbrev pub bytes_in : Width → ℕ
bytes_in Byte = 1
bytes_in Half = 2
bytes_in Word = 4

abbrev pub size_of : Content → ℕ
size_of (Code instruction) = 4
size_of (Values width values) = bytes_in width * length values
size_of (Bytes bytes) = length bytes
size_of (Zeros n) = n

-- a multiple of this is where it has to stand
abbrev pub alignment_of : Content → ℕ
alignment_of (Code instruction) = 4
alignment_of (Values width values) = bytes_in width
alignment_of (Bytes bytes) = 1
alignment_of (Zeros n) = 1

-- what a statement does, apart from its labels: it moves the place, gives a name its value, fills addresses, or does
-- nothing
pub data Effect : Type 0 where
  Stays : Effect
  Moves : ℕ → Effect
  Equates : List ℕ → ℤ → Effect
  Fills : Content → Effect

-- zeros up to the next multiple of n
abbrev pub gap : ℕ → ℕ → ℕ
gap place n = (n - place % n) % n

-- The names are those of earlier lines.
unfoldable pub effect_of : ℕ → ℕ → List Name → Statement → Result Effect AsmFault
effect_of line place names Nothing = Ok Stays
effect_of line place names WithoutEffect = Ok Stays
effect_of line place names (ByteOrder order) = Ok Stays
effect_of line place names (Instruct instruction) = Ok (Fills (Code instruction))
effect_of line place names (Org e) = do
  v ← known line (value_of names e)
  n ← up_to line 4294967295 v
  Ok (Moves n)
effect_of line place names (Align e) = do
  v ← known line (value_of names e)
  n ← up_to line 12 v
  Ok (Fills (Zeros (gap place (2 ^ n))))
effect_of line place names (Space e) = do
  v ← known line (value_of names e)
  n ← up_to line 16777216 v
  Ok (Fills (Zeros n))
effect_of line place names (Data width values) = Ok (Fills (Values width values))
effect_of line place names (Text bytes) = Ok (Fills (Bytes bytes))
effect_of line place names (Equal name e) = do
  v ← known line (value_of names e)
  x ← within line (negsuc 2147483647) (pos 4294967295) v
  Ok (Equates name x)

-- the byte order of a source in which it was settled so, or not at all
abbrev pub order_by : Option Order → Order
order_by None = Big
order_by (Some order) = order

-- The first line that says anything settles the byte order: it is the one that this line's .byteorder names, and else
-- big-endian. Anywhere else, also after a label, .byteorder has none of the language's forms.
abbrev pub settled_by : ℕ → Bool → Option Order → Statement → Result (Option Order) AsmFault
settled_by line is_labelled order Nothing = Ok (if is_labelled then Some (order_by order) else order)
settled_by line is_labelled order (ByteOrder named) =
    if is_labelled || is_some order then Err (fault.Syntax line) else Ok (Some named)
settled_by line is_labelled order WithoutEffect = Ok (Some (order_by order))
settled_by line is_labelled order (Instruct instruction) = Ok (Some (order_by order))
settled_by line is_labelled order (Org e) = Ok (Some (order_by order))
settled_by line is_labelled order (Align e) = Ok (Some (order_by order))
settled_by line is_labelled order (Space e) = Ok (Some (order_by order))
settled_by line is_labelled order (Data width values) = Ok (Some (order_by order))
settled_by line is_labelled order (Text bytes) = Ok (Some (order_by order))
settled_by line is_labelled order (Equal name e) = Ok (Some (order_by order))

unfoldable pub settled : ℕ → Line → Option Order → Result (Option Order) AsmFault
settled line said order = settled_by line (not (length said.labels == 0)) order said.statement

-- the name that a statement gives a value to
abbrev pub own_name : Statement → Option (List ℕ)
own_name Nothing = None
own_name WithoutEffect = None
own_name (ByteOrder order) = None
own_name (Instruct instruction) = None
own_name (Org e) = None
own_name (Align e) = None
own_name (Space e) = None
own_name (Data width values) = None
own_name (Text bytes) = None
own_name (Equal name e) = Some name

abbrev pub is_defined : List Name → List ℕ → Bool
is_defined names name = is_some (named names name)

-- one more name, which may not be defined yet
unfoldable pub define : ℕ → ℤ → List ℕ → List Name → Result (List Name) AsmFault
define line value name names =
    if is_defined names name then Err (fault.Twice line) else Ok (names ++ record { name = name; value = value } ∷ [])

-- labels stand for the place
abbrev pub labelled : ℕ → ℕ → List (List ℕ) → List Name → Result (List Name) AsmFault
labelled line place [] names = Ok names
labelled line place (label ∷ labels) names = define line (pos place) label names >>= labelled line place labels

-- the name that a statement gives a value to may not be defined yet
unfoldable pub check_is_new : ℕ → Option (List ℕ) → List Name → Result (Unit {0}) AsmFault
check_is_new line None names = Ok tt
check_is_new line (Some name) names = if is_defined names name then Err (fault.Twice line) else Ok tt

-- all of these addresses are from 0x80000000 to 0x80FFFFFF
abbrev pub are_in_ram : ℕ → ℕ → Bool
are_in_ram place size = nat_le base place && nat_le (place + size) top

-- some of the addresses from low up to, not including, high are filled
abbrev pub overlaps : List Piece → ℕ → ℕ → Bool
overlaps pieces low high = list_any (λ p. nat_lt p.place high && nat_lt low (p.place + size_of p.content)) pieces

-- The content stands at the place, and the place moves after it. Where it has no bytes, it stands nowhere.
unfoldable pub filled : ℕ → Content → Layout → Result Layout AsmFault
filled line content s =
    if size_of content == 0 then Ok s
    else (if not (are_in_ram s.place (size_of content)) then Err (fault.Range line)
    else (if not (s.place % alignment_of content == 0) then Err (fault.Misaligned line)
    else (if overlaps s.pieces s.place (s.place + size_of content) then Err (fault.Overlap line)
    else Ok (record {
      order = s.order;
      place = s.place + size_of content;
      names = s.names;
      pieces = s.pieces ++ record { place = s.place; line = line; content = content } ∷ [];
    }))))

abbrev pub happened : ℕ → Effect → Layout → Result Layout AsmFault
happened line Stays s = Ok s
happened line (Moves place) s = Ok (record { order = s.order; place = place; names = s.names; pieces = s.pieces })
happened line (Equates name value) s = do
  names ← define line value name s.names
  Ok (record { order = s.order; place = s.place; names = names; pieces = s.pieces })
happened line (Fills content) s = filled line content s

-- what a line says, and Syntax where it has none of the language's forms
abbrev pub read : ℕ → Option Line → Result Line AsmFault
read line said = or_fault (fault.Syntax line) said

-- a line's faults in this order: Syntax, Twice, UnknownName, Range, Misaligned, Overlap
unfoldable pub placed : ℕ → List ℕ → Layout → Result Layout AsmFault
placed line bytes s = do
  l ← read line (line_of bytes)
  order ← settled line l s.order
  names ← labelled line s.place l.labels s.names
  is_new ← check_is_new line (own_name l.statement) names
  effect ← effect_of line s.place s.names l.statement
  happened line effect (record { order = order; place = s.place; names = names; pieces = s.pieces })

-- one line after the other, from this number on
abbrev pub all_placed : ℕ → List (List ℕ) → Layout → Result Layout AsmFault
all_placed line [] s = Ok s
all_placed line (bytes ∷ lines) s = placed line bytes s >>= all_placed (line + 1) lines

-- nothing is placed yet, and what comes first stands at 0x80000000
abbrev pub nothing : Layout
nothing = record { order = None; place = base; names = []; pieces = [] }
