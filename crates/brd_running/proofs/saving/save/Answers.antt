use Rattle.std.proofs.Common.{ℕ, List, Bor, ap}
use Rattle.std.specs.Prelude.{Option, option_map}
use Rattle.brd_running.specs.Saving.Saves.{not_created, ended}
use Rattle.brd_running.proofs.RaceLemmas.{whole}
use Rattle.brd_running.proofs.saving.save.Goals as goal

pub returns-in-Err : goal.returns-in-Err
returns-in-Err g c =
    not_created (ap (λ (out : Option (Bor (List ℕ))). option_map (λ name. name.now) out) c.in-Some.is) c.in-Err.ensures c.of_open.ensures

pub returns-in-Ok-keep : goal.returns-in-Ok-keep
returns-in-Ok-keep g c =
    ended (ap (λ (out : Option (Bor (List ℕ))). option_map (λ name. name.now) out) c.in-Some.is) c.in-Ok.ensures c.in-Ok-keep.ensures
    c.in-Ok-tell.ensures

pub returns-in-Err-keep : goal.returns-in-Err-keep
returns-in-Err-keep g c =
    ended (ap (λ (out : Option (Bor (List ℕ))). option_map (λ name. name.now) out) c.in-Some.is) c.in-Ok.ensures c.in-Err-keep.ensures
    (whole _ _ c.args.journal.now c.in-Ok-tell.ensures)

pub returns-in-Err-tell : goal.returns-in-Err-tell
returns-in-Err-tell g c =
    ended (ap (λ (out : Option (Bor (List ℕ))). option_map (λ name. name.now) out) c.in-Some.is) c.in-Ok.ensures c.close.ensures
    c.in-Err-tell.ensures
