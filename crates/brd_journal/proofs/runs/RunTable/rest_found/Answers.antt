use Rattle.std.proofs.Common.{◌≡◌, ℕ, ◌-◌, ◌≤◌, ◌<◌, leb, List, length, get_or, take, ap, subst, ◌∙◌, rules, arith}
use Rattle.std.specs.Prelude.{true, false}
use Rattle.std.specs.List.Sorted.{IsPartitionPoint}
use Rattle.std.proofs.lemmas.Bool.{leb-true, leb-false}
use Rattle.std.proofs.lemmas.List.Sorted.{IsPartitionPoint-from_clause, IsPartitionedBy-leb}
use Rattle.brd_journal.specs.Runs.{events_of, starts_of}
use Rattle.brd_journal.proofs.StartLemmas.{length-starts, start_at, starts_rise}
use Rattle.brd_journal.proofs.RestLemmas.{none_begun, found_by, all_ended}
use Rattle.brd_journal.proofs.runs.RunTable.rest_found.Goals as goal
use Rattle.brd_journal.proofs.runs.RunTable.rest_found.Goals.{After-partition_point-begun}

starts_are : (c : After-partition_point-begun) → c.as_slice.result.now ≡ starts_of c.args.self.now
starts_are c = c.as_slice.ensures.value ∙ c.self.invariant ∙ ap starts_of c.self.view_is

-- the runs that have begun are just those before the point
point : (c : After-partition_point-begun) → IsPartitionPoint (λ start. leb start c.args.others ≡ true) (λ start. leb start c.args.others ≡ false) (starts_of c.args.self.now) c.partition_point-begun.result
point c =
    let P : List ℕ → Type 0 = λ starts. IsPartitionPoint (λ start. leb start c.args.others ≡ true) (λ start. leb start c.args.others ≡ false) starts c.partition_point-begun.result in
    let parted = IsPartitionedBy-leb (λ (start : ℕ). start) c.as_slice.result.now c.args.others (rw (starts_are c) (starts_rise 0 c.args.self.now)) in
    subst P (starts_are c) (IsPartitionPoint-from_clause (λ (start : ℕ). leb start c.args.others) _ _ c.partition_point-begun.ensures.partitioned parted (λ a r q k. search rules))

later : (c : After-partition_point-begun) (k d : ℕ) → c.partition_point-begun.result ≤ k → k < length (starts_of c.args.self.now) → c.args.others < get_or (starts_of c.args.self.now) k d
later c k d le lt = leb-false _ _ ((point c).1 k d le lt)

-- the last run that has begun
within : (c : After-partition_point-begun) → 0 < c.partition_point-begun.result → c.partition_point-begun.result - 1 < length c.args.self.now
within c some = omega (arith, c.partition_point-begun.ensures.bound, ap length (starts_are c), length-starts 0 c.args.self.now, some)

begun : (c : After-partition_point-begun) → 0 < c.partition_point-begun.result → length (events_of (take (c.partition_point-begun.result - 1) c.args.self.now)) ≤ c.args.others
begun c some =
    let first : c.partition_point-begun.result - 1 < c.partition_point-begun.result = omega (arith, some) in
    omega (arith, leb-true _ _ ((point c).0 (c.partition_point-begun.result - 1) 0 (omega arith) first), start_at 0 c.args.self.now (c.partition_point-begun.result - 1) 0 (within c some))

pub returns-then-begun-eq0 : goal.returns-then-begun-eq0
returns-then-begun-eq0 c = none_begun c.args.self.now c.args.others (λ k d low lt. later (goal.at.returns-then-begun-eq0 c).After-partition_point-begun k d (omega arith) lt)

pub returns : goal.returns
returns c =
    let d = (goal.at.returns c).After-partition_point-begun in
    found_by c.args.self.now c.args.others c.rest_in.result c.rest_in.ensures.rest
    (λ none. all_ended c.args.self.now c.args.others (c.partition_point-begun.result - 1)
    (c.rest_in.ensures.ended none (within d (omega arith)) (begun d (omega arith))) (λ k n le lt. later d k n (omega (arith, le)) lt))
