-- What a whole line says: any number of names with a colon, and at most one statement after them. Grammar says the
-- same as relations; that just what has its form is read is proved as `lines_follow_the_grammar`.
use Rattle.std.specs.Prelude.{ℕ, Bool, if◌then◌else◌, ◌==◌, ◌&&◌, List, [], ◌∷◌, Option, option_map}
use Rattle.brd_text.specs.Bytes.{is_name}
use Rattle.brd_source.specs.Statement.{Statement, Line}
use Rattle.brd_source.specs.Statements.{statement_from}
use Rattle.brd_source.specs.Tokens.{SourceToken, colon_byte, tokens_of}
use Rattle.brd_source.specs.Tokens.SourceToken.{Run, Mark}

-- whether a run and a mark are a label
abbrev pub is_label : List ℕ → ℕ → Bool
is_label run mark = mark == colon_byte && is_name run

-- the labels at the front, and the tokens after them
abbrev pub labels_of : List SourceToken → List (List ℕ)
labels_of (Run run ∷ Mark b ∷ tokens) = if is_label run b then run ∷ labels_of tokens else []
labels_of _ = []

abbrev pub behind_labels : List SourceToken → List SourceToken
behind_labels (Run run ∷ Mark b ∷ tokens) = if is_label run b then behind_labels tokens else Run run ∷ Mark b ∷ tokens
behind_labels tokens = tokens

abbrev pub with_labels : List (List ℕ) → Statement → Line
with_labels labels statement = record { labels = labels; statement = statement }

abbrev pub line_from : List SourceToken → Option Line
line_from tokens = option_map (with_labels (labels_of tokens)) (statement_from (behind_labels tokens))

-- what a line says
unfoldable pub line_of : List ℕ → Option Line
line_of bytes = line_from (tokens_of bytes)
