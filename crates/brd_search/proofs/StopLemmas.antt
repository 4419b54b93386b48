-- Why a search has come to no answer.
use Rattle.std.proofs.Common.{◌≡◌, ℕ, ◌+◌, ◌<◌, false, sym, subst, ◌⊎◌, inl, inr, arith, Vec, Global}
use Rattle.std.proofs.lemmas.Bool.{false≢true}
use Rattle.std.specs.Prelude.{is_some, option_map, Option, Some, None}
use Rattle.brd_board.specs.declared.event.Event.{Event}
use Rattle.brd_board.specs.Board.{BoardState}
use Rattle.brd_search.specs.Searches.{AnswersWithin, NoneBelow, NoneWithin}
use Rattle.brd_search.specs.declared.plan.Plan.{Plan}

less-or-same : (n m : ℕ) → n < m + 1 → (n < m) ⊎ (n ≡ m)
less-or-same n m less = grind (arith, less)

pub below-none : (plan : Plan) (b : BoardState) → NoneBelow plan b 0
below-none plan b = λ fewer less. absurd (omega (arith, less))

-- none fails with fewer preemptions, and none with as many
pub below-next : (plan : Plan) (b : BoardState) (preemptions : ℕ) (schedule : Option (Vec Event Global)) → NoneBelow plan b preemptions →
    is_some schedule ≡ false →
    AnswersWithin plan b (record plan.bounds { preemptions = preemptions }) (option_map (λ (v : Vec Event Global). v.items) schedule) → NoneBelow plan b (preemptions + 1)
below-next plan b preemptions None below is none = λ fewer less.
    elim (less-or-same fewer preemptions less) [
      | inl before ↦ below fewer before
      | inr same ↦ subst (λ n. NoneWithin plan b (record plan.bounds { preemptions = n })) (sym same) none
    ]
below-next plan b preemptions (Some events) below is none = absurd (false≢true (sym is))
