-- The bytes of a source's contents, one after the other, and how they come to lie in stretches.
-- Only private functions' contracts name this; what a source means doesn't.
use Rattle.std.specs.Prelude.{◌≡◌, ℕ, ◌+◌, ◌==◌, if◌then◌else◌, List, [], ◌∷◌, ◌++◌, length, Result, Ok}
use Rattle.brd_text.specs.Faults.{◌>>=◌}
use Rattle.brd_asm.specs.declared.fault.AsmFault.{AsmFault}
use Rattle.brd_word.specs.declared.order.Order.{Order}
use Rattle.brd_mem.specs.declared.image.Segment.{Segment}
use Rattle.brd_asm.specs.Meaning.{Meaning, Placed}
use Rattle.brd_asm.specs.Image.{HasBytes, AreSpelled}

-- the bytes that spell a meaning stand after these
abbrev pub Adds : Order → Meaning → List ℕ → List ℕ → Type 0
Adds order meaning before after = (bytes : List ℕ) × HasBytes order meaning bytes × (after ≡ before ++ bytes)

-- bytes, if there are some, after these
abbrev pub behind : List ℕ → Result (List ℕ) AsmFault → Result (List ℕ) AsmFault
behind before bytes = bytes >>= λ more. Ok (before ++ more)

abbrev pub all_bytes : List Segment → List ℕ
all_bytes [] = []
all_bytes (s ∷ ss) = s.bytes ++ all_bytes ss

-- the output is the bytes of all contents, one after the other
pub record IsOutput (order : Order) (contents : List Placed) (output : List ℕ) : Type 0 where
  pub spelled : List Segment
  pub are_spelled : AreSpelled order contents spelled
  pub output_is : output ≡ all_bytes spelled

-- a last stretch with some bytes
abbrev pub last_stretch : ℕ → List ℕ → List Segment
last_stretch address [] = []
last_stretch address (b ∷ bs) = record { address = address; bytes = b ∷ bs } ∷ []

-- bytes at an address after stretches: they join the last one that ends there
abbrev pub joined : List Segment → ℕ → List ℕ → List Segment
joined [] address bytes = record { address = address; bytes = bytes } ∷ []
joined (s ∷ []) address bytes =
    if s.address + length s.bytes == address then record { address = s.address; bytes = s.bytes ++ bytes } ∷ []
    else s ∷ record { address = address; bytes = bytes } ∷ []
joined (s ∷ t ∷ ss) address bytes = s ∷ joined (t ∷ ss) address bytes
