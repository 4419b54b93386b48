-- What a processor's share is: whose it is, and what it has counted.
use Rattle.std.specs.Prelude.{◌≡◌, ℕ, ◌+◌, ◌<◌, ◌≤◌, List, length, slice_index_or}
use Rattle.brd_ledgers.specs.declared.share.ShareToken.{ShareToken}
use Rattle.brd_ledgers.specs.declared.share.ShareToken.TheVariants.{First, Second, Third, Fourth, Fifth, Sixth, Seventh}
use Rattle.brd_ledgers.specs.declared.share.ShareToken.TheVariants.{Eighth}

pub record Counted : Type 0 where
  pub cpu : ℕ
  pub count : ℕ

abbrev pub cpu_of : {K : Type 0} → ShareToken K → ℕ
cpu_of (First count) = 1
cpu_of (Second count) = 2
cpu_of (Third count) = 3
cpu_of (Fourth count) = 4
cpu_of (Fifth count) = 5
cpu_of (Sixth count) = 6
cpu_of (Seventh count) = 7
cpu_of (Eighth count) = 8

abbrev pub count_of : {K : Type 0} → ShareToken K → ℕ
count_of (First count) = count
count_of (Second count) = count
count_of (Third count) = count
count_of (Fourth count) = count
count_of (Fifth count) = count
count_of (Sixth count) = count
count_of (Seventh count) = count
count_of (Eighth count) = count

-- the shares of processors from the first on, in their order, which have counted nothing
abbrev pub AreNew : List Counted → Type 0
AreNew shares =
    (i : ℕ) (default : Counted) → i < length shares
    → ((slice_index_or shares i default).cpu ≡ i + 1) × ((slice_index_or shares i default).count ≡ 0)

-- what books count for this number is for a processor from 1 to `processors`
abbrev pub IsOwn : ℕ → List ℕ → ℕ → Type 0
IsOwn processors books cpu = 0 < slice_index_or books cpu 0 → (0 < cpu) × (cpu ≤ processors)
