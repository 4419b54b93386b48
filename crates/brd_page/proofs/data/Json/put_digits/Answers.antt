use Rattle.std.proofs.Common.{◌≡◌, ◌++◌, ℕ, List, ap, ◌∙◌, subst}
use Rattle.std.specs.Prelude.{OnOk}
use Rattle.std.specs.List.{flat_map}
use Rattle.brd_page.specs.Data.{data_byte}
use Rattle.brd_page.proofs.DigitLemmas.{digits-themselves}
use Rattle.brd_page.proofs.data.Json.put_digits.Goals as goal

-- A digit stands for itself.
pub returns : goal.returns
returns c =
    subst (λ (them : List ℕ). OnOk c.put_bytes.result (c.put_bytes.new.self ≡ c.args.self.now ++ them))
    (ap (flat_map data_byte) (c.as_bytes.ensures.value ∙ c.format.ensures.text) ∙ digits-themselves c.args.number c.ranges.number.fits)
    c.put_bytes.ensures
