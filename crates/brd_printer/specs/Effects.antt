-- What is told of an instruction that was done: the instruction as it was found, what it wrote, what of memory it
-- loaded or stored, and where it led.
use Rattle.std.specs.Prelude.{◌≡◌, ℕ, ◌+◌, ◌-◌, ◌*◌, ◌/◌, ◌%◌, ◌==◌, Bool, true, false, ◌&&◌, if◌then◌else◌, List, []}
use Rattle.std.specs.Prelude.{◌++◌, take, drop, codes, Option, Some, None}
use Rattle.brd_word.specs.declared.order.Order.{Order}
use Rattle.brd_text.specs.Hex.{hex_of}
use Rattle.brd_isa.specs.declared.instruction.Insn.{Insn}
use Rattle.brd_isa.specs.declared.shape.{AccessSize.AccessSize, Flow.Flow}
use Rattle.brd_isa.specs.Shapes.{shape_of}
use Rattle.brd_mem.specs.declared.image.{Symbol.Symbol}
use Rattle.brd_listing.specs.Places.{place_text}
use Rattle.brd_listing.specs.Listing.{register_text, IsListed}
use Rattle.brd_happening.specs.declared.instruction.{Change.Change, Written.Written, Access.Access, Jump.Jump}
use Rattle.brd_happening.specs.declared.instruction.{AccessKind.AccessKind, Instruction.Instruction}
use Rattle.brd_happening.specs.declared.instruction.AccessKind.TheVariants.{Loads, Stores, StoresIfLinked}
use Rattle.brd_happening.specs.Instruction.{has_stored}
use Rattle.brd_printer.specs.declared.effect.{Form.Form, Part.Part}
use Rattle.brd_printer.specs.declared.effect.Part.TheVariants.{Byte, Halfword, Word}
use Rattle.brd_names.specs.declared.names.Names.{Names}
use Rattle.brd_names.specs.Addresses.{datum_text, source_text}

-- ---- what was written

-- a word that is another one than before, after its name
abbrev pub change_text : List ℕ → Change → List ℕ
change_text name it = if it.old == it.new then [] else codes "; " ++ name ++ codes " = " ++ hex_of it.new

abbrev pub register_written : Option Written → List ℕ
register_written None = []
register_written (Some it) = change_text (register_text it.register) it.word

abbrev pub word_written : List ℕ → Option Change → List ℕ
word_written name None = []
word_written name (Some it) = change_text name it

-- ---- memory

-- What is shown of memory beside a load or a store: of LB and LBU the byte, of LH and LHU the halfword, of all others
-- the aligned word.
abbrev pub loaded_part : AccessSize → Part
loaded_part AccessSize.Byte = Byte
loaded_part AccessSize.Halfword = Halfword
loaded_part AccessSize.Word = Word
loaded_part AccessSize.LeftPart = Word
loaded_part AccessSize.RightPart = Word

abbrev pub part_by : AccessKind → AccessSize → Part
part_by Loads size = loaded_part size
part_by Stores size = Word
part_by (StoresIfLinked stored) size = Word

abbrev pub part_of : Option Access → Part
part_of None = Word
part_of (Some access) = part_by access.kind access.size

-- where a part begins that an address lies in
abbrev pub start_of : Part → ℕ → ℕ
start_of Byte address = address
start_of Halfword address = address - address % 2
start_of Word address = address - address % 4

-- the first digit of a part among those of the aligned word, whose most significant byte lies at the lowest address, or
-- at the highest
abbrev pub first_digit : Order → Part → ℕ → ℕ
first_digit Order.Big Byte address = 2 * (address % 4)
first_digit Order.Big Halfword address = 4 * (address % 4 / 2)
first_digit Order.Big Word address = 0
first_digit Order.Little Byte address = 2 * (3 - address % 4)
first_digit Order.Little Halfword address = 4 * (1 - address % 4 / 2)
first_digit Order.Little Word address = 0

abbrev pub digits_of : Part → ℕ
digits_of Byte = 2
digits_of Halfword = 4
digits_of Word = 8

-- the digits of the part in which an address lies, of the aligned word around it
abbrev pub part_digits : Order → Part → ℕ → ℕ → List ℕ
part_digits order part address word = take (digits_of part) (drop (first_digit order part address) (hex_of word))

abbrev pub cell_text : Names → Order → Part → ℕ → Option Change → List ℕ
cell_text names order part address None = []
cell_text names order part address (Some word) =
    codes "; " ++ datum_text names.symbols.now names.segments.now (start_of part address)
    ++ codes ": " ++ part_digits order part address word.new

-- whether an SC has stored
abbrev pub outcome_text : AccessKind → List ℕ
outcome_text (StoresIfLinked stored) = if stored then codes "; stored" else codes "; not stored"
outcome_text _ = []

-- what a store has written over
abbrev pub old_text : Order → Part → ℕ → Option Change → List ℕ
old_text order part address None = []
old_text order part address (Some word) = codes ", was " ++ part_digits order part address word.old

abbrev pub access_text : Form → Part → Option Access → List ℕ
access_text form part None = []
access_text form part (Some it) =
    cell_text form.names form.order part it.address it.word
    ++ (if form.old && has_stored it.kind then old_text form.order part it.address it.word else [])
    ++ outcome_text it.kind

-- ---- where it leads

-- an instruction that jumps or doesn't
abbrev pub is_branching : Flow → Bool
is_branching Flow.Branch = true
is_branching Flow.BranchAndLink = true
is_branching _ = false

abbrev pub is_branch : Insn → Bool
is_branch insn = is_branching (shape_of insn).flow

abbrev pub jump_start : Bool → List ℕ
jump_start branches = if branches then codes "; taken, to " else codes "; to "

abbrev pub jump_text : List Symbol → Bool → Option Jump → List ℕ
jump_text symbols branches None = []
jump_text symbols branches (Some it) =
    if it.taken then jump_start branches ++ place_text symbols it.target else codes "; not taken"

abbrev pub slot_text : Bool → List ℕ
slot_text in_slot = if in_slot then codes "; in the delay slot" else []

-- ---- all of it

abbrev pub effect_text : Form → Instruction → List ℕ
effect_text form it =
    register_written it.register ++ word_written (codes "hi") it.hi ++ word_written (codes "lo") it.lo
    ++ access_text form (part_of it.access) it.access
    ++ jump_text form.names.symbols.now (is_branch it.insn) it.jump ++ slot_text it.in_slot

-- A text is what is told of an instruction at an address: the instruction, what it did, a text of the links that it
-- ended, and the line of its source.
pub record IsToldOf (form : Form) (address : ℕ) (it : Instruction) (ended text : List ℕ) : Type 0 where
  pub insn : List ℕ
  pub listed : IsListed it.insn address insn
  pub is : text ≡ insn ++ effect_text form it ++ ended ++ source_text (codes "; ") form.names address
