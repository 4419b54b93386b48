use Rattle.std.proofs.Common.{List, ℕ, Bor, ap}
use Rattle.std.specs.Prelude.{option_map}
use Rattle.brd_gdb.proofs.PartLemmas.{not_two}
use Rattle.brd_gdb.proofs.parts.two.Goals as goal

pub returns-in_default-more : goal.returns-in_default-more
returns-in_default-more c =
    not_two c.args.mark c.args.text.now c.part.result.0.now c.in-Some.behind.now c.part-2.result.0.now c.in_default-more.field-0.now
    _ _ c.part.ensures.parts (ap (option_map (λ (it : Bor (List ℕ)). it.now)) c.in-Some.is)
    c.part-2.ensures.parts (ap (option_map (λ (it : Bor (List ℕ)). it.now)) c.in_default-more.is)
