use Rattle.std.proofs.Common.{◌≡◌, ◌==◌, ℕ, Bor, List, [], ap, arith, length, map, refl, true}
use Rattle.std.proofs.lemmas.Bool.Decides.{nat_tests}
use Rattle.std.proofs.lemmas.List.{nil_from_length}
use Rattle.brd_data.specs.Performing.EndsWithData.{laid, not_laid, without}
use Rattle.brd_data.proofs.performing.perform_with_data.Goals as goal

nothing : (texts : List (Bor (List ℕ))) → (length texts == 0) ≡ true → map (λ text. text.now) texts ≡ []
nothing texts none =
    let zero : length texts ≡ 0 = grind (arith, nat_tests, none) in
    ap (map (λ (text : Bor (List ℕ)). text.now)) (nil_from_length texts zero)

pub returns-then-is_empty : goal.returns-then-is_empty
returns-then-is_empty g c =
    without c.perform.result (nothing c.args.texts.now (rw c.is_empty.ensures at c.if-is_empty.true)) c.perform.ensures c.of_command.ensures

pub returns-in-Ok : goal.returns-in-Ok
returns-in-Ok g c = laid c.perform-in-Ok.result c.in-Ok.ensures c.perform-in-Ok.ensures c.of_command-in-Ok.ensures

pub returns-in-Err : goal.returns-in-Err
returns-in-Err g c = not_laid refl refl refl
