-- The addresses that a program can fill, and the sizes that RAM can have.
use Rattle.std.specs.Prelude.{◌≡◌, ℕ, ◌+◌, ◌%◌, ◌^◌, ◌≤◌}

-- the address of RAM's first byte (own choice: kseg0, where MIPS firmware without a TLB runs)
abbrev pub base : ℕ
base = 0x80000000

-- the address after the last byte that a RAM can have
abbrev pub top : ℕ
top = base + 2 ^ 24

-- 64 KiB to 16 MiB, in steps of 64 KiB (own choice)
pub record IsRamSize (size : ℕ) : Type 0 where
  pub least : 2 ^ 16 ≤ size
  pub most : size ≤ 2 ^ 24
  pub whole : size % 2 ^ 16 ≡ 0
