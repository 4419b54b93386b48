use Rattle.std.proofs.Common.{◌∙◌, ◌≡◌, ◌+◌, ◌-◌, sym, ap, arith}
use Rattle.std.specs.Prelude.{nat_le}
use Rattle.std.specs.List.{prefix_len}
use Rattle.brd_listing.specs.Places.{of_ram}
use Rattle.brd_listing.proofs.AscendingLemmas.{none_found, one_found}
use Rattle.brd_listing.proofs.places.last_below.Goals as goal

pub returns-then-count-eq0 : goal.returns-then-count-eq0
returns-then-count-eq0 c =
    none_found c.args.address c.args.ascending.now c.requires (sym c.count_up_to-count.ensures.is ∙ c.if-count-eq0.true)

pub returns : goal.returns
returns c =
    let count = c.count_up_to-count.result in
    let last : prefix_len (λ s. nat_le s.now.value c.args.address) c.args.ascending.now ≡ count - 1 + 1 =
    sym c.count_up_to-count.ensures.is ∙ omega (arith, c.if-count-eq0.false) in
    c.of_ram.ensures ∙ ap (λ s. of_ram s.now) c.index-ascending-count.is
    ∙ one_found c.args.address c.args.ascending.now (count - 1) c.index-ascending-count.result c.requires last
