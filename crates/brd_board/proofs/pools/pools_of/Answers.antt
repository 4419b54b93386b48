use Rattle.std.proofs.Common.{sym, ap, ◌∙◌}
use Rattle.std.proofs.lemmas.Result.{err_from_is_err_and}
use Rattle.brd_board.proofs.SetupLemmas.{behind, fails}
use Rattle.brd_board.proofs.PoolLemmas.{pools-stop, pools-on, pools-end}
use Rattle.brd_board.proofs.pools.pools_of.Goals as goal

pub returns-in_err-placed : goal.returns-in_err-placed
returns-in_err-placed c =
    let p = err_from_is_err_and c.from_residual.result c.from_residual.ensures.1 in
    rw (p.1, p.2)
    (fails c.in_err-placed.field-0.0 _
    (sym c.loop-pool.invariant
    ∙ ap (behind c.loop-pool.setups) (pools-stop _ _ _ _ _ c.pool-item.result _ c.loop-pool-test.true c.pool-item.is (sym c.placed_pool.ensures ∙ c.in_err-placed.was))))

pub loop-pool-preserved : goal.loop-pool-preserved
loop-pool-preserved c =
    rw c.in_ok-push.ensures.ok
    (pools-on _ _ _ _ _ c.pool-item.result c.in_ok-placed.placed _ c.loop-pool-test.true c.pool-item.is (sym c.placed_pool.ensures ∙ c.in_ok-placed.was))
    ∙ c.loop-pool.invariant

pub returns : goal.returns
returns c = sym c.loop-pool.invariant ∙ pools-end _ _ _ _ _ _ c.loop-pool-test.false
