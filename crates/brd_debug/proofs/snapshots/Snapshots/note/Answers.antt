use Rattle.std.proofs.Common.{◌≡◌, ◌≤◌, ◌<◌, ◌*◌, ◌%◌, List, length, subst, sym, ap, ◌∙◌, arith}
use Rattle.std.specs.Prelude.{◌==◌, map}
use Rattle.std.proofs.lemmas.List.Elements.{All-push, All-filter}
use Rattle.brd_debug.specs.declared.snapshots.Kept.{Kept}
use Rattle.brd_debug.specs.Kept.{IsKept, AreKept, SnapshotsState, plan_of, last_of, noted}
use Rattle.brd_debug.proofs.KeptLemmas.{least-multiple, length-thinned, thinned-plan}
use Rattle.brd_debug.proofs.snapshots.Snapshots.note.Goals as goal

pub invariant_of-self-else-len-lt-MOST_KEPT : goal.invariant_of-self-else-len-lt-MOST_KEPT
invariant_of-self-else-len-lt-MOST_KEPT c =
    let multiple : c.args.playback.now.at % c.self.inside.interval ≡ 0 = omega (arith, c.if-playback-self-ne0.false) in
    let some : 0 < c.args.playback.now.at = omega (arith, c.if-playback-last.false) in
    let most : c.self.inside.interval ≤ c.args.playback.now.at = least-multiple c.self.inside.interval c.args.playback.now.at multiple some in
    let fewer : length c.thin.new.kept.items ≤ length c.self.inside.kept.items =
    subst (λ (kept : List Kept). length kept ≤ length c.self.inside.kept.items) (sym c.thin.ensures)
    (length-thinned (λ k. k.at % (c.self.inside.interval * 2) == 0) c.self.inside.kept.items) in
    (omega (arith, c.self.invariant.0), omega (arith, most, c.requires.few), omega (arith, fewer, c.self.invariant.2))

pub returns-in_ok-push-clause-kept : goal.returns-in_ok-push-clause-kept
returns-in_ok-push-clause-kept c = λ events is are.
    subst (AreKept c.args.boot.now events) (sym c.in_ok-push.ensures.items)
    (All-push (IsKept c.args.boot.now events) c.self.inside.kept.items (record { at = c.args.playback.now.at; snapshot = c.in_ok-snapshot.snapshot })
    (subst (AreKept c.args.boot.now events) (sym (ap (λ (s : SnapshotsState). s.kept) c.self.view_is)) are)
    (record { fits = c.in_ok-snapshot.ensures.fits; board = c.in_ok-snapshot.ensures.back ∙ is.board; within = is.within }))

pub returns-else-len-lt-MOST_KEPT-clause-kept : goal.returns-else-len-lt-MOST_KEPT-clause-kept
returns-else-len-lt-MOST_KEPT-clause-kept c = λ events is are.
    subst (AreKept c.args.boot.now events) (sym c.thin.ensures)
    (All-filter (λ k. k.at % (c.self.inside.interval * 2) == 0) (IsKept c.args.boot.now events) c.self.inside.kept.items
    (subst (AreKept c.args.boot.now events) (sym (ap (λ (s : SnapshotsState). s.kept) c.self.view_is)) are))

pub returns-in_err-push-clause-kept : goal.returns-in_err-push-clause-kept
returns-in_err-push-clause-kept c = λ events is are.
    subst (AreKept c.args.boot.now events) (sym c.in_err-push.ensures.items)
    (subst (AreKept c.args.boot.now events) (sym (ap (λ (s : SnapshotsState). s.kept) c.self.view_is)) are)

pub returns-else-len-lt-MOST_KEPT-clause-noted : goal.returns-else-len-lt-MOST_KEPT-clause-noted
returns-else-len-lt-MOST_KEPT-clause-noted c =
    let s : SnapshotsState = record { interval = c.self.inside.interval; kept = c.self.inside.kept.items } in
    let last : c.last.result ≡ last_of (map (λ k. k.at) s.kept) =
    c.last.ensures ∙ ap (λ (kept : List Kept). last_of (map (λ k. k.at) kept)) c.deref.ensures.value in
    let behind : last_of (map (λ k. k.at) s.kept) < c.args.playback.now.at = omega (arith, last, c.if-playback-last.false) in
    let multiple : c.args.playback.now.at % c.self.inside.interval ≡ 0 = omega (arith, c.if-playback-self-ne0.false) in
    let full : 1024 ≤ length s.kept = omega (arith, c.len.ensures, c.if-len-lt-MOST_KEPT.false) in
    subst (λ (old : SnapshotsState). plan_of (record { interval = c.self.inside.interval * 2; kept = c.thin.new.kept.items })
    ≡ noted (plan_of old) c.args.playback.now.at) c.self.view_is
    (thinned-plan s c.thin.new.kept.items c.args.playback.now.at behind multiple full c.thin.ensures)
