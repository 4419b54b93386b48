-- The segments that are left end, from the last end so far, where all of them do.
use Rattle.std.proofs.Common.{◌≡◌, ◌≤◌, ◌<◌, ◌^◌, drop}
use Rattle.brd_base.specs.Space.{base}
use Rattle.brd_try.specs.Config.{end_from}
use Rattle.brd_try.proofs.config.end_of.Given as goal

abbrev pub invariant-loop-segment : goal.invariant-loop-segment
invariant-loop-segment l = record {
  rest : end_from l.most (drop l.segment-index l.segments) ≡ end_from base l.segments;
  least : base ≤ l.most;
  most : l.most < 2 ^ 65;
}
