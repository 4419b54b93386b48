use Rattle.std.proofs.Common.{◌≡◌, ap, sym, ◌∙◌, arith, Option, Bor, List, ℕ}
use Rattle.std.specs.Prelude.{option_map}
use Rattle.brd_text.specs.Pieces.{pieces_behind}
use Rattle.brd_command.proofs.JournalLemmas.{all_zero, not_used_up, some_of_bytes, weighed, weighed_more}
use Rattle.brd_command.proofs.journal_options.weights_in.Goals.{then-is_some-via-then-is_some, then-is_some-via-else-is_some+then-are_zero}
use Rattle.brd_command.proofs.journal_options.weights_in.Goals as goal

pub loop-place-preserved : goal.loop-place-preserved
loop-place-preserved c =
    let pieces = ap (λ (o : Option (Bor (List ℕ))). pieces_behind (option_map (λ it. it.now) o)) c.in-Some.is ∙ c.piece.ensures.pieces in
    weighed_more c.args.text.now c.piece.result.0.now c.loop-place.weights c.loop-place.place c.in-Some-plain_decimal.weight
    (pieces_behind (option_map (λ it. it.now) c.loop-place.rest)) (pieces_behind (option_map (λ it. it.now) c.piece.result.1))
    (omega arith) c.loop-place.invariant pieces (sym c.in-Some-plain_decimal.ensures.value)

pub returns-then-is_some : goal.returns-then-is_some
returns-then-is_some c =
    let e : c.loop-place.place ≡ c.args.cpus = omega arith in
    let some = some_of_bytes c.loop-place.rest ∙ sym c.is_some.ensures in
    elim c.then-is_some.branch [
      | then-is_some-via-then-is_some w ↦
          not_used_up c.args.cpus c.loop-place.place c.args.text.now c.loop-place.weights (option_map (λ it. it.now) c.loop-place.rest)
          c.loop-place.invariant e (some ∙ w.if-is_some.true)
      | then-is_some-via-else-is_some+then-are_zero w ↦
          all_zero c.args.cpus c.loop-place.place c.args.text.now c.loop-place.weights (option_map (λ it. it.now) c.loop-place.rest)
          c.loop-place.invariant e (some ∙ w.if-is_some.false) (rw (← w.as_slice.ensures) (sym w.are_zero.ensures ∙ w.if-are_zero.true))
    ]

pub returns : goal.returns
returns c =
    let e : c.loop-place.place ≡ c.args.cpus = omega arith in
    weighed c.args.cpus c.loop-place.place c.args.text.now c.loop-place.weights (option_map (λ it. it.now) c.loop-place.rest)
    c.loop-place.invariant e (some_of_bytes c.loop-place.rest ∙ sym c.is_some.ensures ∙ c.if-is_some.false)
    (rw (← c.as_slice.ensures) (sym c.are_zero.ensures ∙ c.if-are_zero.false))
