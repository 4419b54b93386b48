use Rattle.std.proofs.Common.{◌≡◌, codes, refl, true, [], ◌∷◌}
use Rattle.clap.proofs.OnLiterals.{clap_on_literals}
use Rattle.clap.specs.Words.{Text}
use Rattle.brd_cli.specs.Laws.{AskFor, is_plain}
use Rattle.brd_cli.proofs.LawLemmas.{no_hyphens, no_long, no_short}
use Rattle.brd_cli.proofs.laws.files_are_read_in_order.Goals as goal

asm : (program source out : Text) → is_plain source ≡ true → is_plain out ≡ true
    → AskFor (program ∷ codes "asm" ∷ source ∷ out ∷ []) (codes "asm", source ∷ out ∷ [])
unfolding clap_on_literals
asm program source out s o =
    rw (no_hyphens source s, no_long source s, no_short source s, no_hyphens out o, no_long out o, no_short out o) (refl, λ request is. is)

run : (program image config journal : Text) → is_plain image ≡ true → is_plain config ≡ true → is_plain journal ≡ true
    → AskFor (program ∷ codes "run" ∷ image ∷ config ∷ journal ∷ []) (codes "run", image ∷ config ∷ journal ∷ [])
unfolding clap_on_literals
run program image config journal i c j =
    rw (no_hyphens image i, no_long image i, no_short image i, no_hyphens config c, no_long config c, no_short config c, no_hyphens journal j, no_long journal j, no_short journal j)
    (refl, λ request is. is)

debug : (program image config journal : Text) → is_plain image ≡ true → is_plain config ≡ true → is_plain journal ≡ true
    → AskFor (program ∷ codes "debug" ∷ image ∷ config ∷ journal ∷ []) (codes "debug", image ∷ config ∷ journal ∷ [])
unfolding clap_on_literals
debug program image config journal i c j =
    rw (no_hyphens image i, no_long image i, no_short image i, no_hyphens config c, no_long config c, no_short config c, no_hyphens journal j, no_long journal j, no_short journal j)
    (refl, λ request is. is)

pub returns-clause-asm : goal.returns-clause-asm
returns-clause-asm c = asm

pub returns-clause-run : goal.returns-clause-run
returns-clause-run c = run

pub returns-clause-debug : goal.returns-clause-debug
returns-clause-debug c = debug
