-- Strings: the bytes between two quotes to the bytes that they stand for.
use Rattle.std.specs.Prelude.{ℕ, Bool, true, false, not, ◌&&◌, ◌==◌, nat_lt, if◌then◌else◌, List, [], ◌∷◌, ◌++◌, Option}
use Rattle.std.specs.Prelude.{Some, None}
use Rattle.brd_source.specs.Faults.{◌>>=◌}
use Rattle.brd_source.specs.Tokens.{escapes}

-- after a backslash: n a newline, t a tab, 0 the byte 0, and \ and " themselves
unfoldable pub escape_of : ℕ → Option ℕ
escape_of b =
    if b == 110 then Some 10
    else (if b == 116 then Some 9
    else (if b == 48 then Some 0
    else (if b == 92 then Some 92
    else (if b == 34 then Some 34
    else None))))

-- elsewhere: any byte of ASCII but a newline stands for itself
unfoldable pub plain_of : ℕ → Option ℕ
plain_of b = if nat_lt b 128 && not (b == 10) then Some b else None

abbrev pub byte_for : Bool → ℕ → Option ℕ
byte_for escaped b = if escaped then escape_of b else plain_of b

-- the bytes of a string, after those of its beginning
abbrev pub text_behind : List ℕ → Bool → List ℕ → Option (List ℕ)
text_behind text escaped [] = if escaped then None else Some text
text_behind text escaped (b ∷ bs) =
    if escapes escaped b then text_behind text true bs
    else (byte_for escaped b >>= λ byte. text_behind (text ++ byte ∷ []) false bs)

unfoldable pub text_of : List ℕ → Option (List ℕ)
text_of bytes = text_behind [] false bytes
