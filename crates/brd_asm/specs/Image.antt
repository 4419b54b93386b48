-- The image of a source.
use Rattle.std.specs.Prelude.{◌≡◌, ℕ, ◌+◌, ◌^◌, ◌<◌, ◌≤◌, ℤ, List, [], ◌∷◌, length, map, Option, None, Some, Result, Ok}
use Rattle.std.specs.Prelude.{codes}
use Rattle.brd_text.specs.Faults.{◌>>=◌}
use Rattle.brd_text.specs.Lines.{lines_of}
use Rattle.brd_word.specs.Words.{bytes_of_word}
use Rattle.brd_word.specs.declared.order.Order.{Order}
use Rattle.brd_base.specs.Space.{base}
use Rattle.brd_mem.specs.Image.{byte_in}
use Rattle.brd_mem.specs.declared.image.Image.{Image}
use Rattle.brd_mem.specs.declared.image.Segment.{Segment}
use Rattle.brd_mem.specs.declared.image.Symbol.{Symbol}
use Rattle.brd_isa.specs.Table.{StandsFor, IgnoresSa}
use Rattle.brd_isa.specs.Decoding.{sa_of}
use Rattle.brd_asm.specs.declared.fault.AsmFault.{AsmFault}
use Rattle.brd_asm.specs.Values.{Name, named, modulo}
use Rattle.brd_asm.specs.Layout.{all_placed, nothing, order_by}
use Rattle.brd_asm.specs.Meaning.{Meaning, Placed, meanings}
use Rattle.brd_asm.specs.Meaning.Meaning.{Means, Is}

-- the byte order of a source, its names, and what stands where
pub record Program : Type 0 where
  pub order : Order
  pub names : List Name
  pub contents : List Placed

-- A text's program, or its first fault: those of the places of all lines come before those of the meaning of any.
unfoldable pub program_of : List ℕ → Result Program AsmFault
program_of text = do
  s ← all_placed 1 (lines_of text) nothing
  contents ← meanings (order_by s.order) s.names s.pieces
  Ok (record { order = order_by s.order; names = s.names; contents = contents })

-- An instruction is spelled by the bytes, in the source's order, of a word that stands for it, with 0 in a field that
-- it ignores.
abbrev pub HasBytes : Order → Meaning → List ℕ → Type 0
HasBytes order (Means insn) bytes =
    (word : ℕ) × StandsFor word insn × (IgnoresSa insn → sa_of word ≡ 0) × (bytes ≡ bytes_of_word order word)
HasBytes order (Is numbers) bytes = bytes ≡ numbers

-- the bytes of each content, at its place
abbrev pub AreSpelled : Order → List Placed → List Segment → Type 0
AreSpelled order [] [] = Unit {0}
AreSpelled order [] (s ∷ ss) = ⊥
AreSpelled order (p ∷ ps) [] = ⊥
AreSpelled order (p ∷ ps) (s ∷ ss) = (s.address ≡ p.place) × HasBytes order p.meaning s.bytes × AreSpelled order ps ss

-- From an address on, stretches that have bytes ascend, with a gap between one and the next.
abbrev pub AreSeparate : ℕ → List Segment → Type 0
AreSeparate low [] = Unit {0}
AreSeparate low (s ∷ ss) = (low ≤ s.address) × (0 < length s.bytes) × AreSeparate (s.address + length s.bytes + 1) ss

-- The longest stretches of consecutive addresses that have a byte in memory, ascending. A memory has one such list
-- (`laws::a_memory_has_one_list_of_stretches`).
pub record AreStretches (memory : ℕ → Option ℕ) (stretches : List Segment) : Type 0 where
  pub separate : AreSeparate 0 stretches
  pub same : (a : ℕ) → byte_in stretches a ≡ memory a

abbrev pub symbol_of : Name → Symbol
symbol_of n = record { name = n.name; value = modulo n.value (2 ^ 32) }

-- the value of _start, or the first address of RAM
abbrev pub entry_by : Option ℤ → ℕ
entry_by None = base
entry_by (Some v) = modulo v (2 ^ 32)

-- The image of a program: its byte order, its contents spelled at their places and joined to the longest stretches, its
-- names in order of definition, its entry. A program has one image (`laws::a_program_has_one_image`).
pub record IsImage (program : Program) (image : Image) : Type 0 where
  pub order : image.order ≡ program.order
  pub entry : image.entry ≡ entry_by (named program.names (codes "_start"))
  pub symbols : image.symbols ≡ map symbol_of program.names
  pub spelled : List Segment
  pub are_spelled : AreSpelled program.order program.contents spelled
  pub segments : AreStretches (byte_in spelled) image.segments
