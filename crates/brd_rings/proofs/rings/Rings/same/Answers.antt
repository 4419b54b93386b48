use Rattle.std.proofs.Common.{◌≡◌, sym, subst, ap, ◌∙◌}
use Rattle.std.specs.Prelude.{true}
use Rattle.brd_rings.specs.Layout.{rings_of}
use Rattle.brd_rings.proofs.RingLemmas.{Holds, heads-agree, links-agree, seen-same}
use Rattle.brd_rings.proofs.rings.Rings.same.Goals as goal

pub returns-then-same_slices : goal.returns-then-same_slices
returns-then-same_slices c =
    let one : Holds c.self.inside.heads.items c.self.inside.links.items c.args.self.now = record { linked = c.self.invariant; is = c.self.view_is } in
    let other : Holds c.other.inside.heads.items c.other.inside.links.items c.args.other.now = record { linked = c.other.invariant; is = c.other.view_is } in (
      λ passes. seen-same c.self.inside.heads.items c.other.inside.heads.items c.self.inside.links.items c.other.inside.links.items c.args.self.now c.args.other.now one other
          (sym c.as_slice.ensures.value ∙ c.same_slices.ensures.0 c.if-same_slices.true ∙ c.as_slice-2.ensures.value)
          (sym c.as_slice-then-same_slices.ensures.value ∙ c.same_slices-then-same_slices.ensures.0 passes ∙ c.as_slice-then-same_slices-2.ensures.value),
      λ same. c.same_slices-then-same_slices.ensures.1
          (c.as_slice-then-same_slices.ensures.value
          ∙ links-agree c.self.inside.heads.items c.other.inside.heads.items c.self.inside.links.items c.other.inside.links.items c.args.other.now (subst (Holds c.self.inside.heads.items c.self.inside.links.items) same one) other
          ∙ sym c.as_slice-then-same_slices-2.ensures.value),
    )

pub returns-else-same_slices : goal.returns-else-same_slices
returns-else-same_slices c =
    let one : Holds c.self.inside.heads.items c.self.inside.links.items c.args.self.now = record { linked = c.self.invariant; is = c.self.view_is } in
    let other : Holds c.other.inside.heads.items c.other.inside.links.items c.args.other.now = record { linked = c.other.invariant; is = c.other.view_is } in (
      λ passes. let wrong : ⊥ = cc in absurd wrong,
      λ same. c.same_slices.ensures.1
          (c.as_slice.ensures.value
          ∙ heads-agree c.self.inside.heads.items c.other.inside.heads.items c.self.inside.links.items c.other.inside.links.items c.args.other.now (subst (Holds c.self.inside.heads.items c.self.inside.links.items) same one) other
          ∙ sym c.as_slice-2.ensures.value),
    )
