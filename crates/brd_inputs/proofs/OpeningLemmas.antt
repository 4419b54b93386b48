-- A pair of files that was opened, or wasn't, before a last file.
use Rattle.std.proofs.Common.{◌≡◌, ℕ, List, subst, sym}
use Rattle.std.specs.Prelude.{Result, Ok, Err}
use Rattle.std.specs.declared.io.Error.{Error}
use Rattle.brd_inputs.specs.Opening.{OpensInputs, OpensPair}
use Rattle.brd_inputs.specs.Opening.OpensInputs.{no_image as no_first, no_config as no_second}
use Rattle.brd_inputs.specs.Opening.OpensPair.{no_image, no_config, both}
use Rattle.brd_inputs.specs.declared.fault.CommandFault.{CommandFault}
use Rattle.brd_inputs.specs.declared.inputs.Pair.{Pair}

module _ {F R : Type 0} (opened : F → List ℕ → Result R Error → F → Type 0) (old : F) (image config : List ℕ) where
  pub not_opened : (last : List ℕ) (fault : CommandFault) (new : F) → OpensPair opened old image config (Err fault) new
      → OpensInputs opened old image config last (Err fault) new
  not_opened last fault new (no_image of_image is) = no_first of_image is
  not_opened last fault new (no_config of_image of_config is) = no_second of_image of_config is
  not_opened last fault new (both of_image of_config is) = absurd (cc)

  -- the files between the two, and what was opened
  pub was_opened : (pair : Pair R) (new : F) → OpensPair opened old image config (Ok pair) new
      → (between : F) × opened old image (Ok pair.image) between × opened between config (Ok pair.config) new
  was_opened pair new (no_image of_image is) = absurd is
  was_opened pair new (no_config of_image of_config is) = absurd is
  was_opened pair new (both {between = between} {pair = other} of_image of_config is) =
      let e : other ≡ pair = cc in (
        between,
        subst (λ (it : Pair R). opened old image (Ok it.image) between) e of_image,
        subst (λ (it : Pair R). opened between config (Ok it.config) new) e of_config,
      )
