-- Books of which only the first processors have counted anything.
use Rattle.std.proofs.Common.{ℕ, ◌+◌, ◌<◌, eqb, List, ◌∷◌, length, zero, suc, subst, inl, inr, arith}
use Rattle.std.proofs.lemmas.Bool.{cases_Bool, eqb-true}
use Rattle.std.proofs.lemmas.Bool.Decides.{nat_tests}
use Rattle.std.proofs.lemmas.List.{get_or_past}
use Rattle.brd_ledgers.specs.Shares.{IsOwn}

pub first_own : (processors : ℕ) (books : List ℕ) (cpu : ℕ) → cpu < 1 → IsOwn processors (0 ∷ books) cpu
first_own processors books zero first some = absurd (omega (arith, some))
first_own processors books (suc cpu) first some = absurd (omega (arith, first))

pub next_own : (processors : ℕ) (books : List ℕ) (next : ℕ) → ((cpu : ℕ) → cpu < next → IsOwn processors books cpu) → IsOwn processors books next
    → (cpu : ℕ) → cpu < next + 1 → IsOwn processors books cpu
next_own processors books next before here cpu within =
    elim (cases_Bool (eqb next cpu)) [
      | inl same ↦ subst (IsOwn processors books) (eqb-true next cpu same) here
      | inr other ↦ before cpu (grind (arith, nat_tests, other, within))
    ]

pub all_own : (processors : ℕ) (books : List ℕ) → ((cpu : ℕ) → cpu < length books → IsOwn processors books cpu) → (cpu : ℕ) → IsOwn processors books cpu
all_own processors books before cpu some = before cpu (grind (arith, nat_tests, get_or_past books cpu 0, some)) some
