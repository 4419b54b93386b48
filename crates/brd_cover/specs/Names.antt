-- How names stand in the texts of lcov and Callgrind, which lines and commas part.
use Rattle.std.specs.Prelude.{ℕ, ◌==◌, nat_le, if◌then◌else◌, List, [], ◌∷◌, codes}
use Rattle.brd_listing.specs.Names.{shown_byte}

-- a byte of the name of a function: as in any text, and a comma, which ends a part of a line, as \x2c
abbrev pub name_byte : ℕ → List ℕ
name_byte b = if b == 44 then codes "\\x2c" else shown_byte b

-- a byte of the path of a file, by which tools open the file: what is no ASCII stays
abbrev pub path_byte : ℕ → List ℕ
path_byte b = if nat_le 128 b then b ∷ [] else shown_byte b
