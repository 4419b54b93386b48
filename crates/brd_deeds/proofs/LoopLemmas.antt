-- What loops come to, one more.
use Rattle.std.proofs.Common.{◌≡◌, ℕ, suc, ◌+◌, refl, ap, ◌∙◌, arith}
use Rattle.brd_deeds.specs.declared.log.{Doer.Doer, Log.Log}
use Rattle.brd_deeds.specs.Acts.{sets_bit, sets_below, gets_bit, gets_below}
use Rattle.brd_deeds.specs.Trails.{settled, settles_below}

-- bits that are set

pub sets-none : (doer : Doer) (id bits : ℕ) (log : Log) → log ≡ sets_below doer id bits 0 log
unfolding sets_below
sets-none doer id bits log = refl

sets-one : (doer : Doer) (id bits n : ℕ) (log : Log) → sets_bit doer id bits n (sets_below doer id bits n log) ≡ sets_below doer id bits (suc n) log
unfolding sets_below
sets-one doer id bits n log = refl

pub sets-next : (doer : Doer) (id bits n : ℕ) (start old new : Log) → old ≡ sets_below doer id bits n start → new ≡ sets_bit doer id bits n old →
    new ≡ sets_below doer id bits (n + 1) start
sets-next doer id bits n start old new so one =
    let next : suc n ≡ n + 1 = omega arith in
    one ∙ ap (λ (log : Log). sets_bit doer id bits n log) so ∙ sets-one doer id bits n start ∙ ap (λ k. sets_below doer id bits k start) next

-- bits that were waited for

pub gets-none : (doer : Doer) (id bits : ℕ) (log : Log) → log ≡ gets_below doer id bits 0 log
unfolding gets_below
gets-none doer id bits log = refl

gets-one : (doer : Doer) (id bits n : ℕ) (log : Log) → gets_bit doer id bits n (gets_below doer id bits n log) ≡ gets_below doer id bits (suc n) log
unfolding gets_below
gets-one doer id bits n log = refl

pub gets-next : (doer : Doer) (id bits n : ℕ) (start old new : Log) → old ≡ gets_below doer id bits n start → new ≡ gets_bit doer id bits n old →
    new ≡ gets_below doer id bits (n + 1) start
gets-next doer id bits n start old new so one =
    let next : suc n ≡ n + 1 = omega arith in
    one ∙ ap (λ (log : Log). gets_bit doer id bits n log) so ∙ gets-one doer id bits n start ∙ ap (λ k. gets_below doer id bits k start) next

-- strands at the end of the run

pub settles-none : (log : Log) → log ≡ settles_below 0 log
unfolding settles_below
settles-none log = refl

pub settles-one : (n : ℕ) (log : Log) → settled n (settles_below n log) ≡ settles_below (suc n) log
unfolding settles_below
settles-one n log = refl

pub settles-next : (n : ℕ) (start old new : Log) → old ≡ settles_below n start → new ≡ settled n old → new ≡ settles_below (n + 1) start
settles-next n start old new so one =
    let next : suc n ≡ n + 1 = omega arith in
    one ∙ ap (λ (log : Log). settled n log) so ∙ settles-one n start ∙ ap (λ k. settles_below k start) next
