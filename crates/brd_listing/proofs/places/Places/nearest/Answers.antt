use Rattle.std.proofs.Common.{◌∙◌, List, Bor, ap, map}
use Rattle.std.specs.Prelude.{None}
use Rattle.std.specs.List.{fold}
use Rattle.brd_mem.specs.declared.image.Symbol.{Symbol}
use Rattle.brd_listing.specs.Places.{nearer, nearest_of}
use Rattle.brd_listing.proofs.AscendingLemmas.{rises_behind, nearest_by}
use Rattle.brd_listing.proofs.places.Places.nearest.Goals as goal

pub last_below-requires : goal.last_below-requires
last_below-requires c =
    rw c.as_slice.ensures.value (rises_behind c.self.inside.ascending.items c.self.invariant.rises)

pub returns : goal.returns
returns c =
    c.last_below.ensures ∙ (ap (λ (ss : List (Bor Symbol)). fold (nearer c.args.address) None (map (λ s. s.now) ss)) c.as_slice.ensures.value
    ∙ (nearest_by c.args.address c.self.inside.symbols.now _ c.if-address-ge-TOP.false c.self.invariant
    ∙ ap (λ (ss : List Symbol). nearest_of ss c.args.address) c.self.view_is))
