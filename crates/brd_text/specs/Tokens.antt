-- The tokens of a text with the lines on which they begin. Blanks, newlines, comments from // to the end of the
-- line, and comments from /* to */ stand between tokens. Lines are counted from 1 by newlines, those in comments too.
use Rattle.std.specs.Prelude.{ℕ, Bool, ◌&&◌, ◌||◌, ◌==◌, if◌then◌else◌, List, [], ◌∷◌, drop, take_while, Option, Some}
use Rattle.std.specs.Prelude.{None}
use Rattle.brd_text.specs.Bytes.{is_run_byte, is_blank, begins_with}
use Rattle.brd_text.specs.Lines.{line_after}
use Rattle.brd_text.specs.declared.token.Token as code
use Rattle.brd_text.specs.declared.token.Token.TheVariants as code_of

-- A run is a longest stretch of letters, digits, `_`, `.` and `$`; a mark is any other byte that stands for itself.
-- Unclosed stands where a text ends in a comment of the second form, End where a text has no more tokens.
pub data Token : Type 0 where
  Run : List ℕ → Token
  Mark : ℕ → Token
  Unclosed : Token
  End : Token

pub record Placed : Type 0 where
  pub token : Token
  pub line : ℕ

-- the tokens, and the line on which the text ends
pub record Text : Type 0 where
  pub tokens : List Placed
  pub end : ℕ

-- Where in a text a byte stands: between tokens; after a byte of a run; in a comment to the end of the line; at the
-- star of an opening /*; in a comment to */; at the slash of that */.
pub data Place : Type 0 where
  Between : Place
  InRun : Place
  InLine : Place
  Opened : Place
  InBlock : Place
  Closing : Place

-- whether a comment begins at b, before bs
abbrev pub opens_comment : ℕ → List ℕ → Bool
opens_comment b bs = (b == 47) && (begins_with 47 bs || begins_with 42 bs)

abbrev pub mark_at : ℕ → List ℕ → Option Token
mark_at b bs = if is_blank b || opens_comment b bs then None else Some (Mark b)

-- the token that begins with b, before bs, at this place
abbrev pub token_at : Place → ℕ → List ℕ → Option Token
token_at Between b bs = if is_run_byte b then Some (Run (take_while is_run_byte (b ∷ bs))) else mark_at b bs
token_at InRun b bs = if is_run_byte b then None else mark_at b bs
token_at InLine b bs = None
token_at Opened b bs = None
token_at InBlock b bs = None
token_at Closing b bs = None

abbrev pub place_outside : ℕ → List ℕ → Place
place_outside b bs =
    if is_run_byte b then InRun
    else (if b == 47 then (if begins_with 47 bs then InLine else (if begins_with 42 bs then Opened else Between))
    else Between)

-- the place of the byte after b, before bs
abbrev pub place_after : Place → ℕ → List ℕ → Place
place_after Between b bs = place_outside b bs
place_after InRun b bs = place_outside b bs
place_after InLine b bs = if b == 10 then Between else InLine
place_after Opened b bs = InBlock
place_after InBlock b bs = if (b == 42) && begins_with 47 bs then Closing else InBlock
place_after Closing b bs = Between

abbrev pub with_token : Option Token → ℕ → Text → Text
with_token None line t = t
with_token (Some token) line t = record { tokens = record { token = token; line = line } ∷ t.tokens; end = t.end }

-- a text that ends at this place
abbrev pub at_end : Place → ℕ → Text
at_end Between line = record { tokens = []; end = line }
at_end InRun line = record { tokens = []; end = line }
at_end InLine line = record { tokens = []; end = line }
at_end Opened line = record { tokens = record { token = Unclosed; line = line } ∷ []; end = line }
at_end InBlock line = record { tokens = record { token = Unclosed; line = line } ∷ []; end = line }
at_end Closing line = record { tokens = record { token = Unclosed; line = line } ∷ []; end = line }

abbrev pub tokens_in : Place → ℕ → List ℕ → Text
tokens_in place line [] = at_end place line
tokens_in place line (b ∷ bs) =
    with_token (token_at place b bs) line (tokens_in (place_after place b bs) (line_after line b) bs)

abbrev pub tokens_of : List ℕ → Text
tokens_of bytes = tokens_in Between 1 bytes

abbrev pub first_of : List Placed → ℕ → Placed
first_of [] end = record { token = End; line = end }
first_of (p ∷ ps) end = p

-- the first token, End on the line of the end where there is none
abbrev pub first : Text → Placed
first t = first_of t.tokens t.end

-- the tokens after the first
abbrev pub others : Text → Text
others t = record { tokens = drop 1 t.tokens; end = t.end }

-- a token of the code, without the place of its bytes
abbrev pub seen : code.Token → Token
seen (code_of.Run r) = Run r.now
seen (code_of.Mark b) = Mark b
seen code_of.Unclosed = Unclosed
seen code_of.End = End
