-- The test of RAM's size.
use Rattle.std.proofs.Common.{◌≡◌, ℕ, ◌%◌, ◌^◌, Bool, true, false, ◌↔◌, refl, sym, inl, inr}
use Rattle.std.specs.Prelude.{IsTrue, ◌&&◌, nat_le, nat_eq}
use Rattle.std.proofs.lemmas.Bool.{cases_Bool, and_parts, eqb-true, eq-eqb, le-leb, leb-true, true≢false}
use Rattle.brd_base.specs.Space.{IsRamSize}
use Rattle.brd_config.specs.Meaning.{is_ram_size}

pub has_ram_size : (ram : ℕ) → is_ram_size ram ≡ true → IsRamSize ram
unfolding is_ram_size
has_ram_size ram passed =
    let all = and_parts (nat_le (2 ^ 16) ram && nat_le ram (2 ^ 24)) (nat_eq (ram % 2 ^ 16) 0) passed in
    let ends = and_parts (nat_le (2 ^ 16) ram) (nat_le ram (2 ^ 24)) all.0 in
    record { least = leb-true _ _ ends.0; most = leb-true _ _ ends.1; whole = eqb-true _ _ all.1 }

pub ram_again : (ram : ℕ) → IsRamSize ram → is_ram_size ram ≡ true
unfolding is_ram_size
ram_again ram is = rw (le-leb (2 ^ 16) ram is.least, le-leb ram (2 ^ 24) is.most, eq-eqb _ _ is.whole) refl

pub same_test : (test : Bool) (ram : ℕ) → IsTrue test ↔ IsRamSize ram → is_ram_size ram ≡ test
same_test true ram is = ram_again ram (is.0 refl)
same_test false ram is =
    elim (cases_Bool (is_ram_size ram)) [
      | inl passed ↦ absurd (true≢false (sym (is.1 (has_ram_size ram passed))))
      | inr not ↦ not
    ]
