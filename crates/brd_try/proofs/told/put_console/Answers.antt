use Rattle.std.proofs.Common.{◌++◌, ◌∙◌, ap, List, ℕ, length, arith}
use Rattle.std.proofs.lemmas.Bool.Decides.{nat_tests}
use Rattle.brd_try.specs.Told.{more_text}
use Rattle.brd_try.proofs.ToldLemmas.{console-long}
use Rattle.brd_try.proofs.told.put_console.Goals as goal

pub returns-then-bytes-gt-MOST_OF_CONSOLE : goal.returns-then-bytes-gt-MOST_OF_CONSOLE
returns-then-bytes-gt-MOST_OF_CONSOLE c =
    c.in_ok-put_more.ensures ∙ ap (λ (xs : List ℕ). xs ++ more_text (length c.split_at.result.1.now)) c.in_ok-put_whole.ensures
    ∙ console-long c.args.out.now.items c.args.bytes.now _ (length c.split_at.result.1.now) (grind (arith, nat_tests, c.if-bytes-gt-MOST_OF_CONSOLE.true)) c.split_at.ensures.front
    (omega (arith, c.split_at.ensures.back_len))
