-- The blanks of a station's ledgers.
use Rattle.std.specs.Prelude.{◌≡◌, ℕ, ◌==◌, if◌then◌else◌}
use Rattle.brd_ledgers.specs.declared.blanks.Blanks.{Blanks}

-- each makes a ledger of one part
pub record AreWhole (blanks : Blanks) : Type 0 where
  pub first : blanks.first.parts ≡ 1
  pub second : blanks.second.parts ≡ 1
  pub third : blanks.third.parts ≡ 1
  pub fourth : blanks.fourth.parts ≡ 1
  pub fifth : blanks.fifth.parts ≡ 1
  pub sixth : blanks.sixth.parts ≡ 1
  pub seventh : blanks.seventh.parts ≡ 1
  pub eighth : blanks.eighth.parts ≡ 1

-- each makes the ledger of this name, by processor
pub record AreOf (names : ℕ → ℕ) (blanks : Blanks) : Type 0 where
  pub whole : AreWhole blanks
  pub first : blanks.first.name ≡ names 1
  pub second : blanks.second.name ≡ names 2
  pub third : blanks.third.name ≡ names 3
  pub fourth : blanks.fourth.name ≡ names 4
  pub fifth : blanks.fifth.name ≡ names 5
  pub sixth : blanks.sixth.name ≡ names 6
  pub seventh : blanks.seventh.name ≡ names 7
  pub eighth : blanks.eighth.name ≡ names 8

-- the names of the ledgers that blanks make, by processor
abbrev pub names_of : Blanks → ℕ → ℕ
names_of blanks cpu =
    if cpu == 1 then blanks.first.name
    else (if cpu == 2 then blanks.second.name
    else (if cpu == 3 then blanks.third.name
    else (if cpu == 4 then blanks.fourth.name
    else (if cpu == 5 then blanks.fifth.name
    else (if cpu == 6 then blanks.sixth.name
    else (if cpu == 7 then blanks.seventh.name
    else blanks.eighth.name))))))
