-- What parts of the code find at the front of bytes or tokens.
-- Only private functions' contracts name this; what a line says doesn't.
use Rattle.std.specs.Prelude.{ℕ, Bool, true, not, ◌&&◌, if◌then◌else◌, List, [], ◌∷◌, Option, Some, None}
use Rattle.brd_text.specs.Bytes.{is_space}
use Rattle.brd_source.specs.Lines.{is_label}
use Rattle.brd_source.specs.Reading.{parts}
use Rattle.brd_source.specs.Tokens.{SourceToken, opens_comment, tokens_in}
use Rattle.brd_source.specs.Tokens.Place.{Between}
use Rattle.brd_source.specs.Tokens.SourceToken.{Run, Mark}

-- nothing, or a byte that is no blank and begins no comment
abbrev pub begins_token : List ℕ → Bool
begins_token [] = true
begins_token (b ∷ bs) = not (is_space b) && not (opens_comment b bs)

-- a token and those of what is after it; none where there is nothing
abbrev pub fronted : Option (SourceToken × List ℕ) → List SourceToken
fronted None = []
fronted (Some front) = front.0 ∷ tokens_in Between front.1

-- the parts after a comma; none where no comma stands
abbrev pub parts_behind : Option (List SourceToken) → List (List SourceToken)
parts_behind None = []
parts_behind (Some tokens) = parts tokens

-- the label at the front
abbrev pub label_of : List SourceToken → Option (List ℕ)
label_of (Run run ∷ Mark b ∷ tokens) = if is_label run b then Some run else None
label_of _ = None

-- labels, and the tokens after them
abbrev pub Labelled : Type 0
Labelled = List (List ℕ) × List SourceToken
