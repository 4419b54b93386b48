-- What a fault shows of a text: its front, in printable ASCII, so on one line.
use Rattle.std.specs.Prelude.{ℕ, ◌≤◌, ◌==◌, nat_le, ◌&&◌, if◌then◌else◌, List, map, take}
use Rattle.std.specs.List.{AllByRecursion}
use Rattle.brd_text.specs.Lines.{line_at}

-- a printable ASCII character as itself, a tab as a space, any other byte as a question mark
abbrev pub shown_byte : ℕ → ℕ
shown_byte b = if nat_le 32 b && nat_le b 126 then b else (if b == 9 then 32 else 63)

-- the front of a text, of no more bytes than this
abbrev pub front_shown : ℕ → List ℕ → List ℕ
front_shown most text = map shown_byte (take most text)

-- the front of the line of that number (own choice: 60 bytes)
abbrev pub line_excerpt : List ℕ → ℕ → List ℕ
line_excerpt text number = front_shown 60 (line_at text number)

-- the front of a file's name (own choice: 255 bytes)
abbrev pub name_excerpt : List ℕ → List ℕ
name_excerpt name = front_shown 255 name

-- characters that stay on their line
abbrev pub ArePrintable : List ℕ → Type 0
ArePrintable bytes = AllByRecursion (λ b. (32 ≤ b) × (b ≤ 126)) bytes
