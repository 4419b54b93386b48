-- Tasks that others may terminate from now on.
use Rattle.std.proofs.Common.{◌≡◌, ℕ, ◌≤◌, Bool, true, false, List, length, length-set, inl, inr, refl, sym, subst, ◌∙◌}
use Rattle.std.specs.Prelude.{◌==◌, slice_set}
use Rattle.std.proofs.lemmas.Bool.{false≢true, eqb-true, eq-eqb, cases_lt}
use Rattle.std.proofs.lemmas.List.{get_or-set_other, get_or-set_same, get_or_past}
use Rattle.brd_frames.specs.Agents as agents
use Rattle.brd_frames.specs.Agents.{Agent}
use Rattle.brd_blocks.specs.Owning.{is_mortal, is_mortal_agent, TasksStayMortal}

pub mortal-past : (mortals : List Bool) (id : ℕ) → length mortals ≤ id → is_mortal mortals id ≡ true
mortal-past mortals id past = get_or_past mortals id true past

pub exposed-there : (mortals : List Bool) (id : ℕ) → is_mortal (slice_set mortals id true) id ≡ true
exposed-there mortals id =
    elim (cases_lt id (length mortals)) [
      | inl below ↦ get_or-set_same mortals id true true below
      | inr past ↦ mortal-past (slice_set mortals id true) id (subst (λ n. n ≤ id) (sym (length-set mortals id true)) past)
    ]

stays-at : (mortals : List Bool) (at id : ℕ) (same : Bool) → (id == at) ≡ same → is_mortal mortals id ≡ true →
    is_mortal (slice_set mortals at true) id ≡ true
stays-at mortals at id true is mortal =
    subst (λ n. is_mortal (slice_set mortals at true) n ≡ true) (sym (eqb-true id at is)) (exposed-there mortals at)
stays-at mortals at id false is mortal =
    get_or-set_other mortals at id true true (λ e. false≢true (sym is ∙ eq-eqb id at e)) ∙ mortal

pub exposed-stay : (mortals : List Bool) (at : ℕ) → TasksStayMortal mortals (slice_set mortals at true)
exposed-stay mortals at id mortal = stays-at mortals at id (id == at) refl mortal

pub agents-stay : (old new : List Bool) → TasksStayMortal old new → (who : Agent) → is_mortal_agent old who ≡ true →
    is_mortal_agent new who ≡ true
agents-stay old new stay (agents.Task id) mortal = stay id mortal
agents-stay old new stay (agents.Handler cpu) mortal = mortal
