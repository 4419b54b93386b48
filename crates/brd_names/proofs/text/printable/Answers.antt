use Rattle.std.proofs.Common.{List, ℕ, ◌++◌, ◌∙◌, ap, subst, sym}
use Rattle.brd_listing.specs.Names.{IsPrintable, shown_name}
use Rattle.brd_listing.proofs.NameLemmas.{name}
use Rattle.brd_names.proofs.text.printable.Goals as goal

pub returns-clause-printable : goal.returns-clause-printable
returns-clause-printable c =
    let is = c.in_ok-write_name.ensures
    ∙ ap (λ (them : List ℕ). them ++ shown_name c.args.words.now) c.new-shown.ensures.items in
    subst IsPrintable (sym is) (name c.args.words.now)
