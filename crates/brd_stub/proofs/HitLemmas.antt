-- Where the stops of points are.
use Rattle.std.proofs.Common.{◌≡◌, ◌⊎◌, ℕ, zero, suc, ◌<◌, List, [], ◌∷◌, length, refl, sym, subst, ◌∙◌}
use Rattle.std.proofs.Common.{arith, inl, inr}
use Rattle.std.specs.Prelude.{Bool, true, false, ◌==◌, Contains, slice_index_or}
use Rattle.std.specs.List.{Any}
use Rattle.std.proofs.lemmas.Bool.{false≢true, and_parts, and_from, eqb-true, eq-eqb, or_cases, or_left, or_right}
use Rattle.brd_board.specs.declared.event.Event.{Event}
use Rattle.brd_board.specs.declared.event.Report.{Report}
use Rattle.brd_board.specs.declared.event.Report.TheVariants as report
use Rattle.brd_board.specs.Board.{BoardState, happens}
use Rattle.brd_journal.specs.Playing.{board_at}
use Rattle.brd_debug.specs.Marks.{is_marked}
use Rattle.brd_debug.specs.Touching.{touches}
use Rattle.brd_debug.specs.Stops.{IsBreak, is_by, is_done, IsTold, Differs, IsStop}
use Rattle.brd_gdb.specs.declared.request.PointKind.{PointKind}
use Rattle.brd_stub.specs.declared.points.Point.{Point}
use Rattle.brd_stub.specs.declared.stepping.Stepped.{Stepped}
use Rattle.brd_stub.specs.Points.{is_kind, is_break, AreSet, breaks_of, watches_of, stops_for}
use Rattle.brd_stub.specs.Hits.{IsAt, IsByteOf, HitsAs, EndsAs, IsPlace}
use Rattle.brd_stub.proofs.MarkedLemmas.{has_byte, found-byte, byte-there, some-hit, some-at, breaks_at}
use Rattle.brd_stub.proofs.MarkedLemmas.{loaded-break, kind-same, watches_at, loaded-watch}
use Rattle.brd_stub.proofs.HeldLemmas.{touched, touches-read, touches-access}

-- what is marked is what the marks contain

marked : (marks : List ℕ) (a k : ℕ) → k < length marks → slice_index_or marks k a ≡ a → is_marked marks a ≡ true
marked [] a k within is = absurd (omega (arith, within))
marked (mark ∷ marks) a zero within is = or_left (mark == a) (is_marked marks a) (eq-eqb mark a is)
marked (mark ∷ marks) a (suc k) within is =
    or_right (mark == a) (is_marked marks a) (marked marks a k (omega (arith, within)) is)

contained : (marks : List ℕ) (a : ℕ) → is_marked marks a ≡ true → Contains marks a
contained [] a is = absurd (false≢true is)
contained (mark ∷ marks) a is = elim (or_cases (mark == a) (is_marked marks a) is) [
  | inl same ↦ (zero, omega arith, eqb-true mark a same)
  | inr more ↦ let rest = contained marks a more in (suc rest.0, omega (arith, rest.1), rest.2)
]

-- a break

break-as : (kind : PointKind) (p : Point) (b : BoardState) (event : Event) (told : Report) (after : BoardState) →
    is_break kind ≡ true → IsAt told p.address → HitsAs kind p b event told after
break-as PointKind.SoftwareBreak p b event told after is at = at
break-as PointKind.HardwareBreak p b event told after is at = at
break-as PointKind.WriteWatch p b event told after is at = absurd (false≢true is)
break-as PointKind.ReadWatch p b event told after is at = absurd (false≢true is)
break-as PointKind.AccessWatch p b event told after is at = absurd (false≢true is)

break-hit : (points : List Point) (b : BoardState) (event : Event) (told : Report) (after : BoardState) (a : ℕ) →
    AreSet points → ((x : ℕ) → a ≡ x → IsAt told x) → Contains (breaks_of [] points) a →
    Any (λ p. HitsAs p.kind p b event told after) points
break-hit points b event told after a set at has =
    some-hit (breaks_at a) (λ (p : Point). HitsAs p.kind p b event told after)
    (λ p is.
    let both = and_parts (is_break p.kind) (p.address == a) is in
    break-as p.kind p b event told after both.0 (at p.address (sym (eqb-true p.address a both.1))))
    points (sym (loaded-break points a set) ∙ marked (breaks_of [] points) a has.0 has.1 has.2)

break-told : (points : List Point) (b : BoardState) (event : Event) (told : Report) (after : BoardState) →
    AreSet points → IsBreak (breaks_of [] points) told → Any (λ p. HitsAs p.kind p b event told after) points
break-told points b event (report.Ran a) after set has =
    break-hit points b event (report.Ran a) after a set (λ x same. same) has
break-told points b event (report.Called a) after set has =
    break-hit points b event (report.Called a) after a set (λ x same. same) has
break-told points b event (report.Faulted a) after set has =
    break-hit points b event (report.Faulted a) after a set (λ x same. same) has
break-told points b event other after set has = absurd has

hit-break : (points : List Point) (p : Point) (k a : ℕ) → AreSet points → k < length points →
    slice_index_or points k p ≡ p → is_break p.kind ≡ true → p.address ≡ a → Contains (breaks_of [] points) a
hit-break points p k a set within is breaks same =
    contained (breaks_of [] points) a (loaded-break points a set
    ∙ some-at (breaks_at a) points k p within is
    (and_from (is_break p.kind) (p.address == a) breaks (eq-eqb p.address a same)))

told-break : (points : List Point) (p : Point) (k : ℕ) (told : Report) → AreSet points → k < length points →
    slice_index_or points k p ≡ p → is_break p.kind ≡ true → IsAt told p.address → IsBreak (breaks_of [] points) told
told-break points p k (report.Ran a) set within is breaks at = hit-break points p k a set within is breaks (sym at)
told-break points p k (report.Called a) set within is breaks at = hit-break points p k a set within is breaks (sym at)
told-break points p k (report.Faulted a) set within is breaks at = hit-break points p k a set within is breaks (sym at)
told-break points p k other set within is breaks at = absurd at

-- a watch

byte-of : (p : Point) (a : ℕ) → has_byte p.address 0 p.length a ≡ true → IsByteOf p a
byte-of p a has =
    let found = found-byte p.address 0 p.length a has in
    (found.0, omega (arith, found.1), found.2)

byte-in : (p : Point) (a : ℕ) → IsByteOf p a → has_byte p.address 0 p.length a ≡ true
byte-in p a is = byte-there p.address 0 p.length a is.0 (omega arith) (omega (arith, is.1)) is.2

-- some watch of a kind has a byte that is marked
watch-hit : (kind : PointKind) (points : List Point) (H : Point → Type 0) (a : ℕ) → is_break kind ≡ false →
    AreSet points → ((p : Point) → p.kind ≡ kind → IsByteOf p a → H p) →
    is_marked (watches_of kind [] points) a ≡ true →
    Any H points
watch-hit kind points H a watch set leads is =
    some-hit (watches_at kind a) H
    (λ p passes.
    let both = and_parts (is_kind p.kind kind) (has_byte p.address 0 p.length a) passes in
    leads p (kind-same p.kind kind both.0) (byte-of p a both.1))
    points (sym (loaded-watch kind points a watch set) ∙ is)

is-itself : (kind : PointKind) → is_kind kind kind ≡ true
is-itself PointKind.SoftwareBreak = refl
is-itself PointKind.HardwareBreak = refl
is-itself PointKind.WriteWatch = refl
is-itself PointKind.ReadWatch = refl
is-itself PointKind.AccessWatch = refl

-- a byte of a watch of a kind is marked
hit-watch : (kind : PointKind) (points : List Point) (p : Point) (k a : ℕ) → is_break kind ≡ false → AreSet points →
    k < length points → slice_index_or points k p ≡ p → p.kind ≡ kind → IsByteOf p a →
    is_marked (watches_of kind [] points) a ≡ true
hit-watch kind points p k a watch set within is same byte =
    loaded-watch kind points a watch set
    ∙ some-at (watches_at kind a) points k p within is
    (and_from (is_kind p.kind kind) (has_byte p.address 0 p.length a)
    (subst (λ (it : PointKind). is_kind p.kind it ≡ true) same (is-itself p.kind)) (byte-in p a byte))

-- of a point of a kind

as-kind : (p : Point) (kind : PointKind) (b : BoardState) (event : Event) (told : Report) (after : BoardState) →
    p.kind ≡ kind → HitsAs kind p b event told after → HitsAs p.kind p b event told after
as-kind p kind b event told after same hits =
    subst (λ (it : PointKind). HitsAs it p b event told after) (sym same) hits

changed-hit : (points : List Point) (b : BoardState) (event : Event) (told : Report) (after : BoardState) →
    AreSet points → Differs (watches_of PointKind.WriteWatch [] points) b.memory after.memory →
    Any (λ p. HitsAs p.kind p b event told after) points
changed-hit points b event told after set differs =
    watch-hit PointKind.WriteWatch points (λ (p : Point). HitsAs p.kind p b event told after) differs.0 refl set
    (λ p same byte. as-kind p PointKind.WriteWatch b event told after same (differs.0, byte, differs.2))
    (let has = differs.1 in marked (watches_of PointKind.WriteWatch [] points) differs.0 has.0 has.1 has.2)

done : (test : Bool) (told : Report) → is_done test told ≡ true → (is_done true told ≡ true) × (test ≡ true)
done test (report.Ran a) is = (refl, is)
done test other is = absurd (false≢true is)

done-by : (test : Bool) (told : Report) → is_done true told ≡ true → test ≡ true → is_done test told ≡ true
done-by test (report.Ran a) is so = so
done-by test other is so = absurd (false≢true is)

touched-hit : (points : List Point) (b : BoardState) (event : Event) (told : Report) (after : BoardState) →
    AreSet points → is_done true told ≡ true →
    touches (watches_of PointKind.ReadWatch [] points) (watches_of PointKind.AccessWatch [] points) b event ≡ true →
    Any (λ p. HitsAs p.kind p b event told after) points
touched-hit points b event told after set is_done touches_some =
    elim (touched (watches_of PointKind.ReadWatch [] points) (watches_of PointKind.AccessWatch [] points) b event
    touches_some) [
      | inl it ↦
          watch-hit PointKind.ReadWatch points (λ (p : Point). HitsAs p.kind p b event told after) it.0 refl set
          (λ p same byte. as-kind p PointKind.ReadWatch b event told after same (is_done, (it.0, byte, it.1))) it.2
      | inr it ↦
          watch-hit PointKind.AccessWatch points (λ (p : Point). HitsAs p.kind p b event told after) it.0 refl set
          (λ p same byte. as-kind p PointKind.AccessWatch b event told after same (is_done, (it.0, byte, it.1))) it.2
    ]

-- An event that comes to a board meets the stops of points just if it ends a move.

abbrev Met : List Point → Stepped → BoardState → Event → Report → BoardState → Type 0
Met points it b event told after =
    IsTold (stops_for points it) event told (is_by it.stepper b event) after
    ⊎ (Differs (watches_of PointKind.WriteWatch [] points) b.memory after.memory
    ⊎ (is_done (touches (watches_of PointKind.ReadWatch [] points) (watches_of PointKind.AccessWatch [] points) b event)
    told ≡ true))

ends : (points : List Point) (it : Stepped) (b : BoardState) (event : Event) (told : Report) (after : BoardState) →
    AreSet points → Met points it b event told after → EndsAs points it b event told after
ends points it b event told after set (inl (inl breaks)) = inl (break-told points b event told after set breaks)
ends points it b event told after set (inl (inr (inl steps))) = inr (inl steps)
ends points it b event told after set (inl (inr (inr faults))) = inr (inr faults)
ends points it b event told after set (inr (inl differs)) = inl (changed-hit points b event told after set differs)
ends points it b event told after set (inr (inr is)) =
    let both = done _ told is in
    inl (touched-hit points b event told after set both.0 both.1)

meets-as : (kind : PointKind) (points : List Point) (it : Stepped) (b : BoardState) (event : Event) (told : Report)
    (after : BoardState) (p : Point) (k : ℕ) → AreSet points → k < length points → slice_index_or points k p ≡ p →
    p.kind ≡ kind → HitsAs kind p b event told after → Met points it b event told after
meets-as PointKind.SoftwareBreak points it b event told after p k set within is same hits =
    inl (inl (told-break points p k told set within is
    (subst (λ (x : PointKind). is_break x ≡ true) (sym same) refl) hits))
meets-as PointKind.HardwareBreak points it b event told after p k set within is same hits =
    inl (inl (told-break points p k told set within is
    (subst (λ (x : PointKind). is_break x ≡ true) (sym same) refl) hits))
meets-as PointKind.WriteWatch points it b event told after p k set within is same hits =
    inr (inl (
      hits.0,
      contained (watches_of PointKind.WriteWatch [] points) hits.0
          (hit-watch PointKind.WriteWatch points p k hits.0 refl set within is same hits.1),
      hits.2,
    ))
meets-as PointKind.ReadWatch points it b event told after p k set within is same hits =
    let byte = hits.1 in
    inr (inr (done-by _ told hits.0 (touches-read (watches_of PointKind.ReadWatch [] points)
    (watches_of PointKind.AccessWatch [] points) b event byte.0 byte.2
    (hit-watch PointKind.ReadWatch points p k byte.0 refl set within is same byte.1))))
meets-as PointKind.AccessWatch points it b event told after p k set within is same hits =
    let byte = hits.1 in
    inr (inr (done-by _ told hits.0 (touches-access (watches_of PointKind.ReadWatch [] points)
    (watches_of PointKind.AccessWatch [] points) b event byte.0 byte.2
    (hit-watch PointKind.AccessWatch points p k byte.0 refl set within is same byte.1))))

meets : (points : List Point) (it : Stepped) (b : BoardState) (event : Event) (told : Report) (after : BoardState) →
    AreSet points → EndsAs points it b event told after → Met points it b event told after
meets points it b event told after set (inl hit) =
    meets-as hit.1.kind points it b event told after hit.1 hit.0 set hit.2 hit.3 refl hit.4
meets points it b event told after set (inr (inl steps)) = inl (inr (inl steps))
meets points it b event told after set (inr (inr faults)) = inl (inr (inr faults))

pub place-of : (points : List Point) (it : Stepped) (boot : BoardState) (events : List Event) (position : ℕ) →
    AreSet points → IsStop (stops_for points it) boot events position → IsPlace points it boot events position
place-of points it boot events position set is = record {
  event = is.event;
  there = is.there;
  concerned = is.stops_there.0;
  ends = ends points it (board_at boot events position) is.event
      (happens (board_at boot events position) is.event).report
      (happens (board_at boot events position) is.event).board set is.stops_there.1;
}

pub stop-at : (points : List Point) (it : Stepped) (boot : BoardState) (events : List Event) (position : ℕ) →
    AreSet points → IsPlace points it boot events position → IsStop (stops_for points it) boot events position
stop-at points it boot events position set is = record {
  event = is.event;
  there = is.there;
  stops_there = (
    is.concerned,
    meets points it (board_at boot events position) is.event
        (happens (board_at boot events position) is.event).report
        (happens (board_at boot events position) is.event).board set is.ends,
  );
}
