-- Only private contracts name this: the place of a line, where it stands when its words and steps are counted.
use Rattle.std.specs.Prelude.{◌≡◌, ℕ, ◌+◌, ◌-◌, ◌^◌, ◌<◌, ◌≤◌, nat_lt, nat_le, Bool, true, false, if◌then◌else◌}
use Rattle.brd_fast.specs.declared.line.Next.{Next}
use Rattle.brd_fast.specs.Place.{Place, address_of_word}

-- at a word, outside of delay slots
abbrev pub straight : ℕ → ℕ → ℕ → Bool → Bool → Place
straight at left words on room = record {
  pc = address_of_word at;
  npc = address_of_word (at + 1);
  slot = false;
  left = left;
  words = words;
  on = on;
  room = room;
}

-- at a word in a delay slot, after which a target comes
abbrev pub slotted : ℕ → ℕ → ℕ → ℕ → Bool → Bool → Place
slotted at target left words on room = record {
  pc = address_of_word at;
  npc = address_of_word target;
  slot = true;
  left = left;
  words = words;
  on = on;
  room = room;
}

-- A line of a delay slot that has come to its end is at its target.
abbrev pub placed : ℕ → ℕ → ℕ → ℕ → Next → ℕ → Place
placed at end stop words Next.Following target = straight at (stop - at) words (nat_lt at end) (nat_le (at + 2) end)
placed at end stop words Next.Slot target =
    slotted at target (stop - target + 1) words (nat_lt at end) (nat_le (at + 2) end)
placed at end stop words Next.Target target =
    if nat_lt at end then slotted at target (stop - target + 1) words true (nat_le (at + 2) end)
    else straight target (stop - target) words false false

abbrev pub Comes : ℕ → ℕ → ℕ → ℕ → Next → ℕ → Type 0
Comes at end stop words Next.Following target = (end ≤ stop) × (stop + 1 ≤ at + 2 ^ 32)
Comes at end stop words Next.Slot target =
    (at ≡ end) × (at < words) × (target ≤ stop) × (stop + 2 ≤ target + 2 ^ 32)
Comes at end stop words Next.Target target =
    (end ≤ at + 1) × (target ≤ stop) × (stop + 2 ≤ target + 2 ^ 32)

-- The line lies in the words, of which RAM has at most 2 ^ 22, and no more steps are left than a u32 counts.
pub record IsLine (at end stop words : ℕ) (next : Next) (target : ℕ) : Type 0 where
  pub before : at ≤ end
  pub inside : end ≤ words
  pub few : words ≤ 2 ^ 22
  pub near : target ≤ words
  pub comes : Comes at end stop words next target
