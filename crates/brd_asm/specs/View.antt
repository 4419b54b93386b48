-- What clauses see of the values of the code.
use Rattle.std.specs.Prelude.{ℤ, map}
use Rattle.brd_source.specs.View as source
use Rattle.brd_asm.specs.declared.key.NameKey.{NameKey}
use Rattle.brd_asm.specs.declared.piece.Content as contents
use Rattle.brd_asm.specs.declared.piece.Content.TheVariants as content_of
use Rattle.brd_asm.specs.declared.piece.Piece as pieces
use Rattle.brd_asm.specs.declared.effect.Effect as effects
use Rattle.brd_asm.specs.declared.effect.Effect.TheVariants as effect_of
use Rattle.brd_asm.specs.Values.{Name}
use Rattle.brd_asm.specs.Layout.{Content, Piece, Effect}
use Rattle.brd_asm.specs.Layout.Content.{Code, Values, Bytes, Zeros}
use Rattle.brd_asm.specs.Layout.Effect.{Stays, Moves, Equates, Fills}

abbrev pub name : NameKey × ℤ → Name
name entry = record { name = entry.0.name.now; value = entry.1 }

abbrev pub content : contents.Content → Content
content (content_of.Code instruction) = Code (source.instruction_value instruction)
content (content_of.Values width values) = Values width (map source.expression_value values)
content (content_of.Bytes bytes) = Bytes bytes
content (content_of.Zeros n) = Zeros n

abbrev pub piece : pieces.Piece → Piece
piece p = record { place = p.place; line = p.line; content = content p.content }

abbrev pub effect : effects.Effect → Effect
effect effect_of.Stays = Stays
effect (effect_of.Moves place) = Moves place
effect (effect_of.Equates name value) = Equates name.now value
effect (effect_of.Fills c) = Fills (content c)
