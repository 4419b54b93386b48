-- A word that is given another owner.
use Rattle.std.proofs.Common.{◌≡◌, ℕ, ◌-◌, ◌/◌, ◌<◌, ◌≤◌, Bool, true, false, List, length, inl, inr, refl, sym, ap, subst, ◌∙◌}
use Rattle.std.specs.Prelude.{◌==◌, slice_index_or, slice_set}
use Rattle.std.proofs.lemmas.Bool.{false≢true, eqb-true, eq-eqb, cases_lt}
use Rattle.std.proofs.lemmas.List.{get_or-set_other, get_or-set_same, get_or_past}
use Rattle.brd_base.specs.Space.{base}
use Rattle.brd_blocks.specs.declared.owner.Owner.{Owner}
use Rattle.brd_blocks.specs.declared.owner.Owner.TheVariants as owner
use Rattle.brd_blocks.specs.Owning.{is_shared, owner_at, WordsStayShared}
use Rattle.brd_blocks.proofs.OwnLemmas.{inside, outside}

at-set : (owners : List Owner) (place at : ℕ) (to : Owner) (same : Bool) → (at == place) ≡ same →
    is_shared (slice_index_or owners place owner.Shared) ≡ false → is_shared (slice_index_or owners at owner.Shared) ≡ true →
    is_shared (slice_index_or (slice_set owners place to) at owner.Shared) ≡ true
at-set owners place at to true is private shared =
    absurd (false≢true
    (sym private ∙ subst (λ n. is_shared (slice_index_or owners n owner.Shared) ≡ true) (eqb-true at place is) shared))
at-set owners place at to false is private shared =
    ap is_shared (get_or-set_other owners place at to owner.Shared (λ e. false≢true (sym is ∙ eq-eqb at place e))) ∙ shared

-- what was shared stays so where a word is given that wasn't
pub given-stay : (owners : List Owner) (place : ℕ) (to : Owner) → is_shared (slice_index_or owners place owner.Shared) ≡ false →
    WordsStayShared owners (slice_set owners place to)
given-stay owners place to private address shared =
    elim (cases_lt address base) [
      | inl below ↦ ap is_shared (outside (slice_set owners place to) address below)
      | inr above ↦
          ap is_shared (inside (slice_set owners place to) address above)
          ∙ at-set owners place ((address - base) / 4) to (((address - base) / 4) == place) refl private
          (ap is_shared (sym (inside owners address above)) ∙ shared)
    ]

-- and the word is the new owner's
pub given-there : (owners : List Owner) (address : ℕ) (to : Owner) → base ≤ address → (address - base) / 4 < length owners →
    owner_at (slice_set owners ((address - base) / 4) to) address ≡ to
given-there owners address to above within =
    inside (slice_set owners ((address - base) / 4) to) address above
    ∙ get_or-set_same owners ((address - base) / 4) to owner.Shared within

pub shared-outside : (owners : List Owner) (address : ℕ) → address < base → is_shared (owner_at owners address) ≡ true
shared-outside owners address below = ap is_shared (outside owners address below)

pub shared-past : (owners : List Owner) (address : ℕ) → base ≤ address → length owners ≤ (address - base) / 4 →
    is_shared (owner_at owners address) ≡ true
shared-past owners address above past =
    ap is_shared (inside owners address above ∙ get_or_past owners ((address - base) / 4) owner.Shared past)
