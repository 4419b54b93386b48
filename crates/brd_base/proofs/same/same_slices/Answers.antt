use Rattle.std.proofs.Common.{◌≡◌, refl, sym, ap, subst, ◌∙◌, ◌+◌, ◌<◌, ◌++◌, ◌∷◌, [], length, take, arith}
use Rattle.std.proofs.Math.Seq.{take-length}
use Rattle.std.proofs.lemmas.List.{take_more}
use Rattle.brd_base.proofs.same.same_slices.Goals as goal

pub loop-i-init : goal.loop-i-init
loop-i-init g c = (c.if-a-b.false, refl)

pub loop-i-preserved : goal.loop-i-preserved
loop-i-preserved g c =
    let (long, front) = c.loop-i.invariant in
    let equal = sym c.index-a-i.is ∙ c.same.ensures.0 c.if-not-same.false ∙ c.index-b-i.is in (
      long,
      take_more c.args.a.now c.loop-i.i c.index-a-i.result c.loop-i-test.true
          ∙ (λ i. front i ++ equal i ∷ [])
          ∙ sym (take_more c.args.b.now c.loop-i.i c.index-b-i.result (subst (λ n. c.loop-i.i < n) long c.loop-i-test.true)),
    )

pub returns : goal.returns
returns g c =
    let (long, front) = c.loop-i.invariant in
    let end : c.loop-i.i ≡ length c.args.a.now = omega (arith, c.loop-i.auto.i-end, c.loop-i-test.false) in (
      (λ _. sym (take-length c.args.a.now) ∙ ap (λ n. take n c.args.a.now) (sym end) ∙ front
          ∙ ap (λ n. take n c.args.b.now) (end ∙ long) ∙ take-length c.args.b.now),
      λ _. refl,
    )
