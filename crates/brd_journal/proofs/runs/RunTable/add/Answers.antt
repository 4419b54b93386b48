use Rattle.std.proofs.Common.{◌≡◌, ℕ, ◌+◌, ◌-◌, ◌≤◌, ◌<◌, suc, List, [], ◌∷◌, ◌++◌, length, set, ap, ◌∙◌, refl, arith}
use Rattle.std.specs.Prelude.{min, Ok}
use Rattle.brd_journal.specs.declared.run.Run.{Run}
use Rattle.brd_journal.specs.declared.runs.RunTable.TheInside.{Inside}
use Rattle.brd_journal.specs.Runs.{events_of, run_of_count, starts_from, starts_of}
use Rattle.brd_journal.specs.Adding.{room_in, added_within}
use Rattle.brd_journal.proofs.EventLemmas.{run_of}
use Rattle.brd_journal.proofs.AddLemmas.{added_full, added_apart, added_joined, grown_fits, room_some}
use Rattle.brd_journal.proofs.StartLemmas.{Extended, extended_some, extended_none, starts-added}
use Rattle.brd_journal.proofs.runs.RunTable.add.Goals as goal
use Rattle.brd_journal.proofs.runs.RunTable.add.Goals.{After-min-joined, After-index_mut, then-rest-gt0+else-end-limit+in_ok-put_run, else-rest-gt0}

-- how many the last run takes
joined_is : (c : After-min-joined) → c.min-joined.result ≡ min (room_in c.args.self.now c.args.event) c.args.count
joined_is c = rw (c.min-joined.ensures, c.room_for.ensures, c.deref.ensures.value, c.self.view_is) refl

-- where some are joined, the last run is the one before the end
last_at : (c : After-index_mut) → suc (c.len-end.result - 1) ≡ length c.args.self.now
last_at c =
    let is : c.min-joined.result ≡ min (room_in c.args.self.now c.args.event) c.args.count = rw (c.min-joined.ensures, c.room_for.ensures, c.deref.ensures.value, c.self.view_is) refl in
    let some : 0 < room_in c.args.self.now c.args.event = omega arith in
    let one : 1 ≤ length c.args.self.now = room_some c.args.self.now c.args.event some in
    omega (arith, ap length c.self.view_is)

-- the table before the last run of the old is grown
extended : (c : After-index_mut) → Extended c.args.limit c.args.self.now c.args.event (c.args.others + c.min-joined.result) (c.args.count - c.min-joined.result) c.if-rest-gt0.self-inside.runs.items c.if-rest-gt0.self-inside.starts.items
extended c =
    let starts_are : c.self.inside.starts.items ≡ starts_of c.args.self.now = c.self.invariant ∙ ap starts_of c.self.view_is in
    elim c.if-rest-gt0.branch [
      | then-rest-gt0+else-end-limit+in_ok-put_run w ↦ extended_some c.args.limit c.args.self.now c.if-rest-gt0.self-inside.runs.items c.args.event (c.args.others + c.min-joined.result) (c.args.count - c.min-joined.result)
          c.self.inside.starts.items c.if-rest-gt0.self-inside.starts.items w.if-rest-gt0.true (omega (arith, ap length c.self.view_is))
          (ap (λ (inside : Inside). inside.runs.items) w.self-inside-is ∙ w.in_ok-put_run.ensures.runs ∙ ap (λ (rs : List Run). rs ++ run_of c.args.event (c.args.count - c.min-joined.result) ∷ []) c.self.view_is)
          starts_are
          (ap (λ (inside : Inside). inside.starts.items) w.self-inside-is ∙ w.in_ok-put_run.ensures.starts)
      | else-rest-gt0 w ↦ extended_none c.args.limit c.args.self.now c.if-rest-gt0.self-inside.runs.items c.args.event (c.args.others + c.min-joined.result) (c.args.count - c.min-joined.result)
          c.if-rest-gt0.self-inside.starts.items w.if-rest-gt0.false c.requires.within
          (ap (λ (inside : Inside). inside.runs.items) w.self-inside-is ∙ c.self.view_is)
          (ap (λ (inside : Inside). inside.starts.items) w.self-inside-is ∙ starts_are)
    ]

-- the runs with the last one grown
made : (c : After-index_mut) → added_within c.args.limit c.args.self.now c.args.event c.args.count
    ≡ Ok (set c.if-rest-gt0.self-inside.runs.items (c.len-end.result - 1) (run_of c.index_mut.result.now.event (c.index_mut.result.now.count + c.min-joined.result)))
made c =
    let is : c.min-joined.result ≡ min (room_in c.args.self.now c.args.event) c.args.count = rw (c.min-joined.ensures, c.room_for.ensures, c.deref.ensures.value, c.self.view_is) refl in
    added_joined c.args.limit c.args.self.now c.if-rest-gt0.self-inside.runs.items c.args.event c.args.count c.min-joined.result (c.len-end.result - 1) c.index_mut.result.now
    is (extended c).pushed (last_at c) c.index_mut.ensures.value

pub returns-then-end-limit-clause-added : goal.returns-then-end-limit-clause-added
returns-then-end-limit-clause-added c =
    added_full c.args.limit c.args.self.now c.args.event c.args.count c.min-joined.result (joined_is (goal.at.returns-then-end-limit-clause-added c).After-min-joined) c.if-rest-gt0.true
    (omega (arith, ap length c.self.view_is))

pub overflow_add-index_mut : goal.overflow_add-index_mut
overflow_add-index_mut c =
    let d = (goal.at.overflow_add-index_mut c).After-index_mut in
    let value = rw (extended d).pushed.is at c.index_mut.ensures.value in
    let fits = grown_fits c.args.self.now _ c.args.event c.args.count (c.len-end.result - 1) c.index_mut.result.now c.requires.cut (last_at d) value in
    omega (arith, fits, joined_is (goal.at.overflow_add-index_mut c).After-min-joined)

pub invariant_of-self-then-joined-gt0 : goal.invariant_of-self-then-joined-gt0
invariant_of-self-then-joined-gt0 c =
    let d = (goal.at.invariant_of-self-then-joined-gt0 c).After-index_mut in
    let start : c.args.others + c.min-joined.result ≡ length (events_of c.args.self.now) + c.min-joined.result = omega (arith, c.requires.behind) in
    starts-added c.args.limit c.args.self.now _ c.args.event c.args.count c.min-joined.result c.if-rest-gt0.self-inside.starts.items
    (joined_is (goal.at.invariant_of-self-then-joined-gt0 c).After-min-joined) (made d)
    ((extended d).begun ∙ ap (λ (m : ℕ). starts_of c.args.self.now ++ starts_from m (run_of_count c.args.event (c.args.count - c.min-joined.result))) start)

pub invariant_of-self-else-joined-gt0 : goal.invariant_of-self-else-joined-gt0
invariant_of-self-else-joined-gt0 c =
    let starts_are : c.self.inside.starts.items ≡ starts_of c.args.self.now = c.self.invariant ∙ ap starts_of c.self.view_is in
    let held : Extended c.args.limit c.args.self.now c.args.event (c.args.others + c.min-joined.result) (c.args.count - c.min-joined.result) c.if-rest-gt0.self-inside.runs.items c.if-rest-gt0.self-inside.starts.items =
    elim c.if-rest-gt0.branch [
      | then-rest-gt0+else-end-limit+in_ok-put_run w ↦ extended_some c.args.limit c.args.self.now c.if-rest-gt0.self-inside.runs.items c.args.event (c.args.others + c.min-joined.result) (c.args.count - c.min-joined.result)
          c.self.inside.starts.items c.if-rest-gt0.self-inside.starts.items w.if-rest-gt0.true (omega (arith, ap length c.self.view_is))
          (ap (λ (inside : Inside). inside.runs.items) w.self-inside-is ∙ w.in_ok-put_run.ensures.runs ∙ ap (λ (rs : List Run). rs ++ run_of c.args.event (c.args.count - c.min-joined.result) ∷ []) c.self.view_is)
          starts_are
          (ap (λ (inside : Inside). inside.starts.items) w.self-inside-is ∙ w.in_ok-put_run.ensures.starts)
      | else-rest-gt0 w ↦ extended_none c.args.limit c.args.self.now c.if-rest-gt0.self-inside.runs.items c.args.event (c.args.others + c.min-joined.result) (c.args.count - c.min-joined.result)
          c.if-rest-gt0.self-inside.starts.items w.if-rest-gt0.false c.requires.within
          (ap (λ (inside : Inside). inside.runs.items) w.self-inside-is ∙ c.self.view_is)
          (ap (λ (inside : Inside). inside.starts.items) w.self-inside-is ∙ starts_are)
    ] in
    let is = joined_is (goal.at.invariant_of-self-else-joined-gt0 c).After-min-joined in
    let start : c.args.others + c.min-joined.result ≡ length (events_of c.args.self.now) + c.min-joined.result = omega (arith, c.requires.behind) in
    starts-added c.args.limit c.args.self.now c.if-rest-gt0.self-inside.runs.items c.args.event c.args.count c.min-joined.result c.if-rest-gt0.self-inside.starts.items is
    (added_apart c.args.limit c.args.self.now c.if-rest-gt0.self-inside.runs.items c.args.event c.args.count c.min-joined.result is (omega arith) held.pushed)
    (held.begun ∙ ap (λ (m : ℕ). starts_of c.args.self.now ++ starts_from m (run_of_count c.args.event (c.args.count - c.min-joined.result))) start)

pub returns-then-joined-gt0-clause-added : goal.returns-then-joined-gt0-clause-added
returns-then-joined-gt0-clause-added c = made (goal.at.returns-then-joined-gt0-clause-added c).After-index_mut

pub returns-else-joined-gt0-clause-added : goal.returns-else-joined-gt0-clause-added
returns-else-joined-gt0-clause-added c =
    let starts_are : c.self.inside.starts.items ≡ starts_of c.args.self.now = c.self.invariant ∙ ap starts_of c.self.view_is in
    let held : Extended c.args.limit c.args.self.now c.args.event (c.args.others + c.min-joined.result) (c.args.count - c.min-joined.result) c.if-rest-gt0.self-inside.runs.items c.if-rest-gt0.self-inside.starts.items =
    elim c.if-rest-gt0.branch [
      | then-rest-gt0+else-end-limit+in_ok-put_run w ↦ extended_some c.args.limit c.args.self.now c.if-rest-gt0.self-inside.runs.items c.args.event (c.args.others + c.min-joined.result) (c.args.count - c.min-joined.result)
          c.self.inside.starts.items c.if-rest-gt0.self-inside.starts.items w.if-rest-gt0.true (omega (arith, ap length c.self.view_is))
          (ap (λ (inside : Inside). inside.runs.items) w.self-inside-is ∙ w.in_ok-put_run.ensures.runs ∙ ap (λ (rs : List Run). rs ++ run_of c.args.event (c.args.count - c.min-joined.result) ∷ []) c.self.view_is)
          starts_are
          (ap (λ (inside : Inside). inside.starts.items) w.self-inside-is ∙ w.in_ok-put_run.ensures.starts)
      | else-rest-gt0 w ↦ extended_none c.args.limit c.args.self.now c.if-rest-gt0.self-inside.runs.items c.args.event (c.args.others + c.min-joined.result) (c.args.count - c.min-joined.result)
          c.if-rest-gt0.self-inside.starts.items w.if-rest-gt0.false c.requires.within
          (ap (λ (inside : Inside). inside.runs.items) w.self-inside-is ∙ c.self.view_is)
          (ap (λ (inside : Inside). inside.starts.items) w.self-inside-is ∙ starts_are)
    ] in
    added_apart c.args.limit c.args.self.now c.if-rest-gt0.self-inside.runs.items c.args.event c.args.count c.min-joined.result
    (joined_is (goal.at.returns-else-joined-gt0-clause-added c).After-min-joined) (omega arith) held.pushed
