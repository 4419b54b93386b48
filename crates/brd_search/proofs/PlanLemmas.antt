-- Texts that are read piece by piece, and rounds that are added one by one.
use Rattle.std.proofs.Common.{◌≡◌, ℕ, ◌+◌, ◌<◌, List, [], ◌++◌, refl, sym, ◌∙◌, arith, add-one, append_assoc}
use Rattle.std.specs.Prelude.{Result, Ok, Err, Some}
use Rattle.brd_board.specs.declared.event.Event.{Event}
use Rattle.brd_explore.specs.declared.shard.Shard.{Shard}
use Rattle.brd_search.specs.Plans.{times}

-- what is given behind elements that are there
abbrev pub behind : {Y F : Type 0} → List Y → Result (List Y) F → Result (List Y) F
behind done (Ok ys) = Ok (done ++ ys)
behind done (Err fault) = Err fault

pub times_none : (events : List Event) → times 0 events ≡ []
unfolding times
times_none events = refl

pub times_more : (n : ℕ) (events : List Event) → times (n + 1) events ≡ times n events ++ events
unfolding times
times_more n events = rw add-one refl

-- one round more
pub round_more : (old items new piece round : List Event) (n : ℕ) → items ≡ old ++ times n round → new ≡ items ++ piece → piece ≡ round
    → new ≡ old ++ times (n + 1) round
round_more old items new piece round n so_far more is =
    let t : times (n + 1) round ≡ times n round ++ round = times_more n round in
    let e : (old ++ times n round) ++ round ≡ old ++ (times n round ++ round) = append_assoc old (times n round) round in
    cc

-- one shard of one is the same as any
pub one_shard : (whole shard : Shard) → ◌≡◌ (Some (record { number = 0; of = 1 })) (Some whole) → shard.of ≡ 1 → shard.number < 1 →
    whole ≡ shard
one_shard whole shard is of below =
    let same : ◌≡◌ {A = Shard} (record { number = 0; of = 1 }) whole = cc in
    let number : 0 ≡ shard.number = omega (arith, below) in
    sym same ∙ (λ i. record { number = number i; of = sym of i })
