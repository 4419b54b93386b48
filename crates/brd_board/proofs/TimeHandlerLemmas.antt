-- What is placed of each of these, one after the other.
use Rattle.std.proofs.Common.{◌≡◌, ℕ, ◌+◌, ◌<◌, ◌≤◌, List, [], ◌∷◌, ◌++◌, length, drop, get_or, sym, ap, ◌∙◌}
use Rattle.std.specs.Prelude.{Result, Ok, Err}
use Rattle.std.proofs.lemmas.List.{drop_all, append-nil}
use Rattle.brd_text.specs.Faults.{◌>>=◌}
use Rattle.brd_board.specs.declared.boot.BootFault.{BootFault}
use Rattle.brd_board.specs.Setup.{each_placed}
use Rattle.brd_board.proofs.SetupLemmas.{next, behind, behind-more}

-- one, and what is placed after it
with_later : {X Y : Type 0} → (X → Result Y BootFault) → List X → Y → Result (List Y) BootFault
with_later placed others one = each_placed placed others >>= (λ more. Ok (one ∷ more))

first-placed : {X Y : Type 0} (placed : X → Result Y BootFault) (x : X) (others : List X) (one : Result Y BootFault) → placed x ≡ one →
    each_placed placed (x ∷ others) ≡ (one >>= with_later placed others)
unfolding each_placed with_later
first-placed placed x others one is = ap (λ p. p >>= with_later placed others) is

next-placed : {X Y : Type 0} (placed : X → Result Y BootFault) (xs : List X) (i : ℕ) (x : X) (one : Result Y BootFault) → i < length xs → x ≡ get_or xs i x →
    placed x ≡ one → each_placed placed (drop i xs) ≡ (one >>= with_later placed (drop (i + 1) xs))
next-placed placed xs i x one below is places = ap (each_placed placed) (next xs i x below is) ∙ first-placed placed x (drop (i + 1) xs) one places

pub placed-stop : {X Y : Type 0} (placed : X → Result Y BootFault) (xs : List X) (i : ℕ) (x : X) (fault : BootFault) → i < length xs → x ≡ get_or xs i x →
    placed x ≡ Err fault → each_placed placed (drop i xs) ≡ Err fault
placed-stop placed xs i x fault below is places = next-placed placed xs i x (Err fault) below is places

pub placed-on : {X Y : Type 0} (placed : X → Result Y BootFault) (xs : List X) (i : ℕ) (x : X) (one : Y) (ones : List Y) → i < length xs → x ≡ get_or xs i x →
    placed x ≡ Ok one → behind (ones ++ one ∷ []) (each_placed placed (drop (i + 1) xs)) ≡ behind ones (each_placed placed (drop i xs))
unfolding with_later
placed-on placed xs i x one ones below is places =
    behind-more ones one (each_placed placed (drop (i + 1) xs)) ∙ ap (behind ones) (sym (next-placed placed xs i x (Ok one) below is places))

pub placed-end : {X Y : Type 0} (placed : X → Result Y BootFault) (xs : List X) (i : ℕ) (ones : List Y) → length xs ≤ i →
    behind ones (each_placed placed (drop i xs)) ≡ Ok ones
unfolding each_placed
placed-end placed xs i ones past = ap (λ rest. behind ones (each_placed placed rest)) (drop_all i xs past) ∙ ap Ok (append-nil ones)
