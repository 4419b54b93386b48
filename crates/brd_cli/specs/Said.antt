-- What is shown of a command line that is wrong: printable ASCII, on lines.
use Rattle.std.specs.Prelude.{ℕ, ◌≡◌, ◌⊎◌, ◌≤◌, ◌==◌, nat_le, ◌&&◌, ◌||◌, if◌then◌else◌, List}
use Rattle.std.specs.List.{AllByRecursion}

-- a newline and a printable ASCII character as themselves, a tab as a space, any other byte as a question mark
abbrev pub shown_byte : ℕ → ℕ
shown_byte b = if b == 10 || (nat_le 32 b && nat_le b 126) then b else (if b == 9 then 32 else 63)

-- newlines, and characters that stay on their line
abbrev pub ArePrintableLines : List ℕ → Type 0
ArePrintableLines bytes = AllByRecursion (λ b. (b ≡ 10) ⊎ ((32 ≤ b) × (b ≤ 126))) bytes
