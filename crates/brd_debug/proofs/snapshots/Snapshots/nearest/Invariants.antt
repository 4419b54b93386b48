-- What was found is one of them, not after the position, and the last of those that were looked at.
use Rattle.std.proofs.Common.{◌≡◌, ◌≤◌, ◌<◌, ℕ}
use Rattle.std.specs.Prelude.{Contains, IfSome, IfNone, slice_index_or}
use Rattle.brd_debug.specs.declared.snapshots.Kept.{Kept}
use Rattle.brd_debug.proofs.snapshots.Snapshots.nearest.Given as goal

abbrev pub invariant-loop-kept : goal.invariant-loop-kept
invariant-loop-kept l = record {
  found : IfSome l.found (λ kept. Contains l.self.kept kept.now × (kept.now.at ≤ l.at) × (kept.now.at ≡ l.last));
  before : (k : ℕ) (d : Kept) → k < l.kept-index → (slice_index_or l.self.kept k d).at ≤ l.at → (slice_index_or l.self.kept k d).at ≤ l.last;
  none : IfNone l.found ((l.last ≡ 0) × ((k : ℕ) (d : Kept) → k < l.kept-index → l.at < (slice_index_or l.self.kept k d).at));
}
