use Rattle.std.proofs.Common.{ap, sym, ◌∙◌, Option, Bor, List, ℕ, []}
use Rattle.std.specs.Prelude.{option_map}
use Rattle.brd_text.specs.Pieces.{pieces_behind, pieces_of}
use Rattle.brd_command.proofs.JournalLemmas.{nothing_read, raised_again, raised_on, read_on, whole_text}
use Rattle.brd_command.proofs.journal_options.raises_in.Goals as goal

pub pieces-init : goal.pieces-init
pieces-init c = rw c.new-raises.ensures.items (nothing_read c.args.text.now)

pub returns-then-is_raised : goal.returns-then-is_raised
returns-then-is_raised c =
    let rest = pieces_behind (option_map (λ it. it.now) c.piece.result.1) in
    let read = read_on c.args.text.now c.pieces.raises.items (pieces_of c.pieces.rest.now) c.piece.result.0.now rest c.pieces.invariant c.piece.ensures.pieces in
    raised_again c.args.text.now c.piece.result.0.now c.pieces.raises.items rest c.in-Some.raise read (sym c.in-Some.ensures)
    (rw (← c.as_slice.ensures.value) (sym c.is_raised.ensures ∙ c.if-is_raised.true))

pub returns-in_default-after : goal.returns-in_default-after
returns-in_default-after c =
    whole_text c.args.text.now c.push.new.self.items
    (raised_on c.args.text.now (pieces_of c.pieces.rest.now) c.piece.result.0.now (pieces_behind (option_map (λ it. it.now) c.piece.result.1)) []
    c.pieces.raises.items c.in-Some.raise c.push.new.self.items c.pieces.invariant c.piece.ensures.pieces (sym c.in-Some.ensures)
    (rw (← c.as_slice.ensures.value) (sym c.is_raised.ensures ∙ c.if-is_raised.false)) c.in-Ok.ensures.items
    (ap (λ (o : Option (Bor (List ℕ))). pieces_behind (option_map (λ it. it.now) o)) c.in_default-after.is))

pub pieces-preserved : goal.pieces-preserved
pieces-preserved c =
    raised_on c.args.text.now (pieces_of c.pieces.rest.now) c.piece.result.0.now (pieces_behind (option_map (λ it. it.now) c.piece.result.1))
    (pieces_of c.in-Some-after.left.now) c.pieces.raises.items c.in-Some.raise c.push.new.self.items c.pieces.invariant c.piece.ensures.pieces
    (sym c.in-Some.ensures) (rw (← c.as_slice.ensures.value) (sym c.is_raised.ensures ∙ c.if-is_raised.false)) c.in-Ok.ensures.items
    (ap (λ (o : Option (Bor (List ℕ))). pieces_behind (option_map (λ it. it.now) o)) c.in-Some-after.is)
