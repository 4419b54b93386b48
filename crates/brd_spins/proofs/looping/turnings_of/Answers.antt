use Rattle.std.proofs.Common.{◌≡◌, ℕ, ◌+◌, List, [], ◌∷◌, ◌++◌, length, length-append, inl, inr, sym, ap, subst, ◌∙◌}
use Rattle.std.proofs.Common.{arith}
use Rattle.brd_board.specs.Board.{BoardState, standing_of}
use Rattle.brd_spins.specs.declared.spin.Turning.{Turning}
use Rattle.brd_spins.specs.Spins.{AreTurnings, IsTurning}
use Rattle.brd_spins.proofs.StateLemmas.{get-push}
use Rattle.brd_spins.proofs.looping.turnings_of.Goals as goal

no-turnings : (b : BoardState) → AreTurnings b []
no-turnings b place turning found = cc

more-turnings : (b : BoardState) (turnings : List Turning) (it : Turning) (n : ℕ) → length turnings ≡ n →
    AreTurnings b turnings →
    IsTurning b (n + 1) it.states it.what × (it.who ≡ standing_of b (n + 1)) → AreTurnings b (turnings ++ it ∷ [])
more-turnings b turnings it n many are is place turning found = elim (get-push turnings it turning place found) [
  | inl before ↦ are place turning before
  | inr last ↦ subst (λ (t : Turning). IsTurning b (place + 1) t.states t.what × (t.who ≡ standing_of b (place + 1)))
      last.1
      (subst (λ k. IsTurning b (k + 1) it.states it.what × (it.who ≡ standing_of b (k + 1))) (sym many ∙ sym last.0) is)
]

pub loop-i-preserved : goal.loop-i-preserved
loop-i-preserved c = record {
  many = omega (
    arith,
    c.loop-i.invariant.many,
    ap length c.in_ok-push.ensures.items,
    length-append
        c.loop-i.turnings.items (c.in_ok-turning.turning ∷ []),
  );
  are = subst (λ (them : List Turning). AreTurnings c.args.board.now them) (sym c.in_ok-push.ensures.items)
      (more-turnings c.args.board.now c.loop-i.turnings.items c.in_ok-turning.turning c.loop-i.i
      c.loop-i.invariant.many c.loop-i.invariant.are
      (c.in_ok-turning.ensures.is, c.in_ok-turning.ensures.who));
}
