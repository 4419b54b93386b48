-- The tokens of a line. Spaces, tabs and carriage returns may stand between tokens; # and // begin a comment, which
-- goes to the end of the line.
use Rattle.std.specs.Prelude.{ℕ, suc, Bool, false, not, ◌&&◌, ◌||◌, ◌==◌, if◌then◌else◌, List, [], ◌∷◌, take}
use Rattle.std.specs.Prelude.{take_while, Option, Some, None, option_map}
use Rattle.brd_text.specs.Bytes.{is_run_byte, is_space, begins_with}
use Rattle.brd_source.specs.declared.token.SourceToken as code
use Rattle.brd_source.specs.declared.token.SourceToken.TheVariants as code_of

-- A run is a longest stretch of letters, digits, `_`, `.` and `$`; Percent is % and the run directly after it, of
-- which the bytes are given, none where no run is there; Quoted has the bytes between two quotes as they are written. A
-- mark is any other byte that is no blank. Wrong stands where a string has no end.
pub data SourceToken : Type 0 where
  Run : List ℕ → SourceToken
  Percent : List ℕ → SourceToken
  Quoted : List ℕ → SourceToken
  Mark : ℕ → SourceToken
  Wrong : SourceToken

-- the bytes of the marks that a statement may have: , : + - ( )
abbrev pub comma_byte : ℕ
comma_byte = 44

abbrev pub colon_byte : ℕ
colon_byte = 58

abbrev pub plus_byte : ℕ
plus_byte = 43

abbrev pub minus_byte : ℕ
minus_byte = 45

abbrev pub opening_byte : ℕ
opening_byte = 40

abbrev pub closing_byte : ℕ
closing_byte = 41

-- Where in a line a byte stands: between tokens; after a byte of a run; in a string; after a backslash in a string;
-- in a comment.
pub data Place : Type 0 where
  Between : Place
  InRun : Place
  InString : Place
  Escaped : Place
  InComment : Place

-- whether a comment begins at b, before bs
abbrev pub opens_comment : ℕ → List ℕ → Bool
opens_comment b bs = (b == 35) || ((b == 47) && begins_with 47 bs)

-- whether a byte ends a string, and whether it is a backslash before another byte of it; the byte after a backslash is
-- neither
abbrev pub ends_string : Bool → ℕ → Bool
ends_string escaped b = not escaped && (b == 34)

abbrev pub escapes : Bool → ℕ → Bool
escapes escaped b = not escaped && (b == 92)

-- how many bytes stand before the quote that ends a string
abbrev pub string_len : Bool → List ℕ → Option ℕ
string_len escaped [] = None
string_len escaped (b ∷ bs) =
    if ends_string escaped b then Some 0 else option_map (λ n. suc n) (string_len (escapes escaped b) bs)

abbrev pub quoted : Option ℕ → List ℕ → SourceToken
quoted (Some n) bs = Quoted (take n bs)
quoted None bs = Wrong

-- the token that begins with b, which is no byte of a run, before bs
abbrev pub sign_at : ℕ → List ℕ → Option SourceToken
sign_at b bs =
    if is_space b || opens_comment b bs then None
    else (if b == 37 then Some (Percent (take_while is_run_byte bs))
    else (if b == 34 then Some (quoted (string_len false bs) bs)
    else Some (Mark b)))

-- the token that begins with b, before bs, at this place
abbrev pub token_at : Place → ℕ → List ℕ → Option SourceToken
token_at Between b bs = if is_run_byte b then Some (Run (take_while is_run_byte (b ∷ bs))) else sign_at b bs
token_at InRun b bs = if is_run_byte b then None else sign_at b bs
token_at InString b bs = None
token_at Escaped b bs = None
token_at InComment b bs = None

abbrev pub place_outside : ℕ → List ℕ → Place
place_outside b bs =
    if is_run_byte b || (b == 37) then InRun
    else (if opens_comment b bs then InComment
    else (if b == 34 then InString else Between))

-- the place of the byte after b, before bs
abbrev pub place_after : Place → ℕ → List ℕ → Place
place_after Between b bs = place_outside b bs
place_after InRun b bs = place_outside b bs
place_after InString b bs = if b == 34 then Between else (if b == 92 then Escaped else InString)
place_after Escaped b bs = InString
place_after InComment b bs = InComment

abbrev pub with_token : Option SourceToken → List SourceToken → List SourceToken
with_token None tokens = tokens
with_token (Some token) tokens = token ∷ tokens

abbrev pub tokens_in : Place → List ℕ → List SourceToken
tokens_in place [] = []
tokens_in place (b ∷ bs) = with_token (token_at place b bs) (tokens_in (place_after place b bs) bs)

abbrev pub tokens_of : List ℕ → List SourceToken
tokens_of bytes = tokens_in Between bytes

-- a token of the code, without the place of its bytes
abbrev pub seen : code.SourceToken → SourceToken
seen (code_of.Run run) = Run run.now
seen (code_of.Percent run) = Percent run.now
seen (code_of.Quoted text) = Quoted text.now
seen (code_of.Mark b) = Mark b
seen code_of.Wrong = Wrong
