-- What is said of an address: its nearest symbol, its line of source, what is loaded there.
use Rattle.std.specs.Prelude.{◌≡◌, ◌≤◌, ℕ, ◌+◌, ◌-◌, ◌%◌, ◌==◌, Bool, false, nat_le, nat_lt, ◌&&◌, max, if◌then◌else◌}
use Rattle.std.specs.Prelude.{List, [], ◌∷◌, ◌++◌, length, codes, Option, Some, None}
use Rattle.std.specs.List.{list_any}
use Rattle.std.specs.Fmt.{decimal}
use Rattle.std.specs.Option.{option_and_then}
use Rattle.brd_text.specs.Hex.{hex_of}
use Rattle.brd_mem.specs.declared.image.{Symbol.Symbol, Segment.Segment}
use Rattle.brd_lines.specs.Lines.{PlaceOf, name_of, place_at}
use Rattle.brd_listing.specs.Places.{nearest_of, place_text}
use Rattle.brd_names.specs.declared.names.Names.{Names}

-- ---- addresses

-- an address lies in a segment
abbrev pub is_in : ℕ → Segment → Bool
is_in address segment = nat_le segment.address address && nat_lt (address - segment.address) (length segment.bytes)

abbrev pub is_loaded : List Segment → ℕ → Bool
is_loaded segments address = list_any (is_in address) segments

abbrev pub in_brackets : Option Symbol → ℕ → List ℕ
in_brackets None address = []
in_brackets (Some symbol) address = codes " (" ++ hex_of address ++ codes ")"

-- an address by the nearest symbol and as digits
abbrev pub both_text : List Symbol → ℕ → List ℕ
both_text symbols address = place_text symbols address ++ in_brackets (nearest_of symbols address) address

-- the address of a datum: where the image loads something there, by the nearest symbol too
abbrev pub datum_text : List Symbol → List Segment → ℕ → List ℕ
datum_text symbols segments address =
    if is_loaded segments address then both_text symbols address else hex_of address

-- ---- source

-- the line of the code at an address, where it is known
abbrev pub source_at : Names → ℕ → Option PlaceOf
source_at names address = option_and_then (λ lines. place_at lines.now address) names.lines

-- the name of the file and the line, after these bytes
abbrev pub source_by : List ℕ → Option PlaceOf → List ℕ
source_by before None = []
source_by before (Some it) = before ++ name_of it.file ++ 58 ∷ decimal it.line

abbrev pub source_text : List ℕ → Names → ℕ → List ℕ
source_text before names address = source_by before (source_at names address)

-- ---- code

-- the address after what a segment loads, where it loads something, and nothing above an address; else 0
abbrev pub end_below : ℕ → Segment → ℕ
end_below address segment =
    if nat_lt 0 (length segment.bytes) && nat_le (segment.address + length segment.bytes) address
    then segment.address + length segment.bytes
    else 0

-- the greatest of these
abbrev pub last_end : ℕ → List Segment → ℕ
last_end address [] = 0
last_end address (segment ∷ segments) = max (end_below address segment) (last_end address segments)

-- nothing is loaded from an address on up to another one
abbrev pub LoadsNone : List Segment → ℕ → ℕ → Type 0
LoadsNone segments from to = (p : ℕ) → from ≤ p → p ≤ to → is_loaded segments p ≡ false

-- the last word that what is loaded below an address has a byte of
abbrev pub loaded_text : List Symbol → ℕ → List ℕ
loaded_text symbols end =
    if end == 0 then []
    else codes ", past what is loaded, which ends with " ++ place_text symbols (end - 1 - (end - 1) % 4)

-- where nothing is loaded at an address, but something below it
abbrev pub past_text : Names → ℕ → List ℕ
past_text names address =
    if is_loaded names.segments.now address then []
    else loaded_text names.symbols.now (last_end address names.segments.now)

-- the address of code by the nearest symbol and as digits, with its line, and whether it is past what is loaded
abbrev pub code_brackets : Option Symbol → ℕ → List ℕ → List ℕ
code_brackets None address more = more
code_brackets (Some symbol) address more = codes " (" ++ hex_of address ++ more ++ codes ")"

abbrev pub code_more : Names → ℕ → List ℕ
code_more names address = source_text (codes ", ") names address ++ past_text names address

abbrev pub code_text : Names → ℕ → List ℕ
code_text names address =
    place_text names.symbols.now address
    ++ code_brackets (nearest_of names.symbols.now address) address (code_more names address)
