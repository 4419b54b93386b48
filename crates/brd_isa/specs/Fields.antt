-- How the fields of an instruction lie in its word: the formats of the CPU instructions (MD00086, the encoding at the
-- head of each entry). A field is stated by its place: `word / 2 ^ 21 % 2 ^ 5` are the five bits 25..21.
use Rattle.std.specs.Prelude.{◌≡◌, ℕ, ◌/◌, ◌%◌, ◌^◌}

-- the R-type format: opcode 31..26, rs 25..21, rt 20..16, rd 15..11, sa 10..6, function 5..0
pub record RType (word opcode rs rt rd sa funct : ℕ) : Type 0 where
  pub opcode_is : word / 2 ^ 26 ≡ opcode
  pub rs_is : word / 2 ^ 21 % 2 ^ 5 ≡ rs
  pub rt_is : word / 2 ^ 16 % 2 ^ 5 ≡ rt
  pub rd_is : word / 2 ^ 11 % 2 ^ 5 ≡ rd
  pub sa_is : word / 2 ^ 6 % 2 ^ 5 ≡ sa
  pub funct_is : word % 2 ^ 6 ≡ funct

-- the same, whatever sa is
pub record AnySaType (word opcode rs rt rd funct : ℕ) : Type 0 where
  pub opcode_is : word / 2 ^ 26 ≡ opcode
  pub rs_is : word / 2 ^ 21 % 2 ^ 5 ≡ rs
  pub rt_is : word / 2 ^ 16 % 2 ^ 5 ≡ rt
  pub rd_is : word / 2 ^ 11 % 2 ^ 5 ≡ rd
  pub funct_is : word % 2 ^ 6 ≡ funct

-- the I-type format: opcode 31..26, rs 25..21, rt 20..16, immediate or offset 15..0
pub record IType (word opcode rs rt low : ℕ) : Type 0 where
  pub opcode_is : word / 2 ^ 26 ≡ opcode
  pub rs_is : word / 2 ^ 21 % 2 ^ 5 ≡ rs
  pub rt_is : word / 2 ^ 16 % 2 ^ 5 ≡ rt
  pub low_is : word % 2 ^ 16 ≡ low

-- the J-type format: opcode 31..26, index 25..0
pub record JType (word opcode index : ℕ) : Type 0 where
  pub opcode_is : word / 2 ^ 26 ≡ opcode
  pub index_is : word % 2 ^ 26 ≡ index

-- opcode 31..26, code 25..6, function 5..0
pub record LongCodeType (word opcode code funct : ℕ) : Type 0 where
  pub opcode_is : word / 2 ^ 26 ≡ opcode
  pub code_is : word / 2 ^ 6 % 2 ^ 20 ≡ code
  pub funct_is : word % 2 ^ 6 ≡ funct

-- opcode 31..26, rs 25..21, rt 20..16, code 15..6, function 5..0
pub record ShortCodeType (word opcode rs rt code funct : ℕ) : Type 0 where
  pub opcode_is : word / 2 ^ 26 ≡ opcode
  pub rs_is : word / 2 ^ 21 % 2 ^ 5 ≡ rs
  pub rt_is : word / 2 ^ 16 % 2 ^ 5 ≡ rt
  pub code_is : word / 2 ^ 6 % 2 ^ 10 ≡ code
  pub funct_is : word % 2 ^ 6 ≡ funct
