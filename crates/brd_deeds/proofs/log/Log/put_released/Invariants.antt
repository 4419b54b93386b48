use Rattle.std.proofs.Common.{◌≡◌, drop}
use Rattle.brd_deeds.specs.Deeds.{all_released}
use Rattle.brd_deeds.proofs.log.Log.put_released.Given as goal

abbrev pub invariant-loop-release : goal.invariant-loop-release
invariant-loop-release l =
    all_released l.fn.stamp l.fn.caller (drop l.release-index l.releases) l.self
    ≡ all_released l.fn.stamp l.fn.caller l.releases l.fn.self
