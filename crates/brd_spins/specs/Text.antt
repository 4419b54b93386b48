-- Processors that spin in words, a line for each.
use Rattle.std.specs.Prelude.{ℕ, ◌==◌, Bool, true, if◌then◌else◌, List, [], ◌++◌, codes, Option, None, Some}
use Rattle.std.specs.List.{flat_map}
use Rattle.std.specs.Fmt.{decimal}
use Rattle.brd_mem.specs.declared.image.Symbol.{Symbol}
use Rattle.brd_text.specs.Hex.{hex_of}
use Rattle.brd_listing.specs.Places as places
use Rattle.brd_listing.specs.Places.{nearest_of}
use Rattle.brd_spins.specs.declared.spin.{Spin.Spin, SpinKind.SpinKind}
use Rattle.brd_spins.specs.declared.spin.SpinKind.TheVariants.{Loop, Lock}

abbrev pub in_brackets : Option Symbol → ℕ → List ℕ
in_brackets None address = []
in_brackets (Some symbol) address = codes " (" ++ hex_of address ++ codes ")"

-- an address by the nearest symbol and as digits
abbrev pub place_text : List Symbol → ℕ → List ℕ
place_text symbols address = places.place_text symbols address ++ in_brackets (nearest_of symbols address) address

abbrev pub since_text : ℕ → List ℕ
since_text since = if since == 0 then codes "the start" else codes "event " ++ decimal since

abbrev pub what_text : SpinKind → List ℕ
what_text (Loop count) = decimal count ++ codes " instructions that change nothing"
what_text (Lock lock) = codes "asks for lock " ++ decimal lock

abbrev pub begins_text : Spin → List ℕ
begins_text spin = codes "cpu " ++ decimal spin.cpu ++ codes " spins since " ++ since_text spin.since

abbrev pub does_text : List Symbol → Spin → List ℕ
does_text symbols spin = codes " at " ++ place_text symbols spin.place ++ codes ": " ++ what_text spin.what

abbrev pub spin_text : List Symbol → Spin → List ℕ
spin_text symbols spin = begins_text spin ++ does_text symbols spin ++ codes "\n"

-- whether a processor is the one that is asked for, where one is
abbrev pub is_asked : Option ℕ → ℕ → Bool
is_asked None cpu = true
is_asked (Some asked) cpu = asked == cpu

abbrev pub told_text : List Symbol → Option ℕ → Spin → List ℕ
told_text symbols asked spin = if is_asked asked spin.cpu then spin_text symbols spin else []

-- the lines of the processor that is asked for, or of all
abbrev pub spins_text : List Symbol → Option ℕ → List Spin → List ℕ
spins_text symbols asked spins = flat_map (told_text symbols asked) spins
