-- What the image of a source has for each of its lines.
use Rattle.std.specs.Prelude.{◌≡◌, ℕ, ◌+◌, ◌<◌, List, ◌∷◌, ◌++◌, length, slice_get, Some, Ok}
use Rattle.std.specs.List.{AllByRecursion}
use Rattle.brd_text.specs.Lines.{lines_of}
use Rattle.brd_isa.specs.declared.instruction.Insn.{Insn}
use Rattle.brd_mem.specs.Image.{byte_in, symbol_value}
use Rattle.brd_mem.specs.declared.image.Image.{Image}
use Rattle.brd_mem.specs.declared.image.Segment.{Segment}
use Rattle.brd_source.specs.Statement.{Instruction, Line}
use Rattle.brd_word.specs.declared.order.Order.{Order}
use Rattle.brd_word.specs.declared.order.Order.TheVariants.{Big}
use Rattle.brd_source.specs.Statement.Statement.{ByteOrder, Instruct}
use Rattle.brd_source.specs.Lines.{line_of}
use Rattle.brd_asm.specs.Layout.{Layout, all_placed, nothing}
use Rattle.brd_asm.specs.Meaning.{instruction_of}
use Rattle.brd_asm.specs.Meaning.Meaning.{Means}
use Rattle.brd_asm.specs.Image.{Program, program_of, HasBytes}

-- A line of a text: its number, its address, and what it says. The address is the location counter before the line, so
-- before an `.org` or `.align` on it takes effect.
pub record IsLine (text : List ℕ) (number address : ℕ) (said : Line) : Type 0 where
  pub before : List (List ℕ)
  pub bytes : List ℕ
  pub behind : List (List ℕ)
  pub lines : lines_of text ≡ before ++ bytes ∷ behind
  pub number_is : number ≡ 1 + length before
  pub so_far : Layout
  pub placed : all_placed 1 before nothing ≡ Ok so_far
  pub address_is : address ≡ so_far.place
  pub says : line_of bytes ≡ Some said

-- every line has an address, and is read
abbrev pub HasLines : List ℕ → Type 0
HasLines text =
    (before : List (List ℕ)) (bytes : List ℕ) (behind : List (List ℕ)) → lines_of text ≡ before ++ bytes ∷ behind
    → (address : ℕ) × (said : Line) × IsLine text (1 + length before) address said × (line_of bytes ≡ Some said)

-- every label's value is the address of its line
abbrev pub HasLabels : List ℕ → Image → Type 0
HasLabels text image =
    (number address : ℕ) (said : Line) → IsLine text number address said
    → AllByRecursion (λ label. symbol_value image.symbols label ≡ Some address) said.labels

-- these bytes lie in segments, the first of them at this address
abbrev pub Lies : List Segment → ℕ → List ℕ → Type 0
Lies segments address bytes = (i : ℕ) → i < length bytes → byte_in segments (address + i) ≡ slice_get bytes i

-- At the address of each line with an instruction lie the bytes, in the image's order, of a word that stands for that
-- instruction, its operands computed with the values of all the source's names.
abbrev pub HasInstructions : List ℕ → Image → Type 0
HasInstructions text image =
    (program : Program) (number address : ℕ) (said : Line) (instruction : Instruction) → program_of text ≡ Ok program
    → IsLine text number address said → said.statement ≡ Instruct instruction
    → (insn : Insn) × (instruction_of number address program.names instruction ≡ Ok insn) × (bytes : List ℕ)
    × HasBytes image.order (Means insn) bytes × Lies image.segments address bytes

-- a line that names no byte order
abbrev pub NamesNoOrder : List ℕ → Type 0
NamesNoOrder bytes = (said : Line) (order : Order) → line_of bytes ≡ Some said → said.statement ≡ ByteOrder order → ⊥

-- A line with .byteorder names the image's byte order. Where there is none, the image is big-endian.
pub record HasOrder (text : List ℕ) (image : Image) : Type 0 where
  pub named : (number address : ℕ) (said : Line) (order : Order) → IsLine text number address said
      → said.statement ≡ ByteOrder order → image.order ≡ order
  pub unnamed : AllByRecursion (λ bytes. NamesNoOrder bytes) (lines_of text) → image.order ≡ Big
