-- What a debugger's sets of addresses have once points are loaded.
use Rattle.std.proofs.Common.{◌≡◌, ℕ, zero, suc, ◌+◌, ◌%◌, ◌^◌, ◌<◌, ◌≤◌, List, [], ◌∷◌, ◌++◌, length, refl}
use Rattle.std.proofs.Common.{sym, ap, subst, ◌∙◌, arith, inl, inr, length-append}
use Rattle.std.specs.Prelude.{Bool, true, false, ◌&&◌, ◌||◌, ◌==◌, if◌then◌else◌, nat_le}
use Rattle.std.specs.List.{Any}
use Rattle.std.specs.Prelude.{slice_index_or}
use Rattle.std.proofs.lemmas.Bool.{cases_eq, false≢true, lt-leb, ne_eqb, eq-eqb, eqb-true, or_cases}
use Rattle.std.proofs.lemmas.Bool.{cases_lt, or_left, or_right}
use Rattle.brd_debug.specs.Marks.{most_addresses, is_marked, marked_within}
use Rattle.brd_gdb.specs.declared.request.PointKind.{PointKind}
use Rattle.brd_stub.specs.declared.points.Point.{Point}
use Rattle.brd_stub.specs.Points.{is_kind, is_break, places, weight, taken, AreSet, add_break, breaks_of, add_bytes}
use Rattle.brd_stub.specs.Points.{watches_of}

or-false : (r : Bool) → (r || false) ≡ r
or-false true = refl
or-false false = refl

or-again : (r s t : Bool) → ((r || s) || t) ≡ (r || (s || t))
or-again true s t = refl
or-again false s t = refl

or-known : (r s : Bool) → r ≡ true → r ≡ (r || s)
or-known true s is = refl
or-known false s is = absurd (false≢true is)

or-none : (r s : Bool) → s ≡ false → r ≡ (r || s)
or-none true s none = refl
or-none false s none = sym none

-- one more address

marked-push : (marks : List ℕ) (x a : ℕ) → is_marked (marks ++ x ∷ []) a ≡ (is_marked marks a || (x == a))
marked-push [] x a = or-false (x == a)
marked-push (mark ∷ marks) x a =
    ap (λ (r : Bool). (mark == a) || r) (marked-push marks x a)
    ∙ sym (or-again (mark == a) (is_marked marks a) (x == a))

within-is : (marked full : Bool) (marks : List ℕ) (x a : ℕ) → full ≡ false →
    (marked ≡ true → x ≡ a → is_marked marks a ≡ true) →
    is_marked (if marked || full then marks else marks ++ x ∷ []) a ≡ (is_marked marks a || (x == a))
within-is true full marks x a none same = elim (cases_eq x a) [
  | inl is ↦ or-known (is_marked marks a) (x == a) (same refl is)
  | inr other ↦ or-none (is_marked marks a) (x == a) (ne_eqb x a other)
]
within-is false full marks x a none same =
    subst (λ (f : Bool). is_marked (if f then marks else marks ++ x ∷ []) a ≡ (is_marked marks a || (x == a)))
    (sym none) (marked-push marks x a)

marked-within : (marks : List ℕ) (x a : ℕ) → length marks < 512 →
    is_marked (marked_within most_addresses marks x) a ≡ (is_marked marks a || (x == a))
marked-within marks x a few =
    within-is (is_marked marks x) (nat_le most_addresses (length marks)) marks x a (lt-leb 512 (length marks) few)
    (λ is same. subst (λ (y : ℕ). is_marked marks y ≡ true) same is)

size-if : (test : Bool) (marks : List ℕ) (x : ℕ) →
    length (if test then marks else marks ++ x ∷ []) ≤ suc (length marks)
size-if true marks x = omega arith
size-if false marks x = omega (arith, length-append marks (x ∷ []))

within-size : (marks : List ℕ) (x : ℕ) → length (marked_within most_addresses marks x) ≤ suc (length marks)
within-size marks x = size-if (is_marked marks x || nat_le most_addresses (length marks)) marks x

-- the bytes of a point

abbrev pub has_byte : ℕ → ℕ → ℕ → ℕ → Bool
has_byte address from zero a = false
has_byte address from (suc n) a = ((address + from) % 2 ^ 32) == a || has_byte address (suc from) n a

pub found-byte : (address from n a : ℕ) → has_byte address from n a ≡ true →
    (i : ℕ) × (i < from + n) × (a ≡ (address + i) % 2 ^ 32)
found-byte address from zero a is = absurd (false≢true is)
found-byte address from (suc n) a is =
    elim (or_cases (((address + from) % 2 ^ 32) == a) (has_byte address (suc from) n a) is) [
      | inl here ↦ (from, omega arith, sym (eqb-true ((address + from) % 2 ^ 32) a here))
      | inr more ↦ let rest = found-byte address (suc from) n a more in (rest.0, omega (arith, rest.1), rest.2)
    ]

pub byte-there : (address from n a i : ℕ) → from ≤ i → i < from + n → a ≡ (address + i) % 2 ^ 32 →
    has_byte address from n a ≡ true
byte-there address from zero a i low high is = absurd (omega (arith, low, high))
byte-there address from (suc n) a i low high is = elim (cases_lt from i) [
  | inl less ↦ or_right (((address + from) % 2 ^ 32) == a) (has_byte address (suc from) n a)
      (byte-there address (suc from) n a i (omega (arith, less)) (omega (arith, high)) is)
  | inr not_less ↦
      let same : from ≡ i = omega (arith, low, not_less) in
      or_left (((address + from) % 2 ^ 32) == a) (has_byte address (suc from) n a)
      (eq-eqb ((address + from) % 2 ^ 32) a (ap (λ (j : ℕ). (address + j) % 2 ^ 32) same ∙ sym is))
]

bytes-size : (marks : List ℕ) (address from n : ℕ) → length (add_bytes marks address from n) ≤ length marks + n
bytes-size marks address from zero = omega arith
bytes-size marks address from (suc n) =
    let next = marked_within most_addresses marks ((address + from) % 2 ^ 32) in
    omega (arith, bytes-size next address (suc from) n, within-size marks ((address + from) % 2 ^ 32))

bytes-marked : (marks : List ℕ) (address from n a : ℕ) → length marks + n ≤ 512 →
    is_marked (add_bytes marks address from n) a ≡ (is_marked marks a || has_byte address from n a)
bytes-marked marks address from zero a few = sym (or-false (is_marked marks a))
bytes-marked marks address from (suc n) a few =
    let next = marked_within most_addresses marks ((address + from) % 2 ^ 32) in
    bytes-marked next address (suc from) n a (omega (arith, few, within-size marks ((address + from) % 2 ^ 32)))
    ∙ ap (λ (r : Bool). r || has_byte address (suc from) n a)
    (marked-within marks ((address + from) % 2 ^ 32) a (omega (arith, few)))
    ∙ or-again (is_marked marks a) (((address + from) % 2 ^ 32) == a) (has_byte address (suc from) n a)

-- some point passes a test

abbrev pub some : (Point → Bool) → List Point → Bool
some test [] = false
some test (p ∷ points) = test p || some test points

pub some-hit : (test : Point → Bool) (H : Point → Type 0) → ((p : Point) → test p ≡ true → H p) →
    (points : List Point) → some test points ≡ true → Any H points
some-hit test H leads [] is = absurd (false≢true is)
some-hit test H leads (p ∷ points) is = elim (or_cases (test p) (some test points) is) [
  | inl here ↦ (zero, p, omega arith, refl, leads p here)
  | inr more ↦
      let rest = some-hit test H leads points more in
      (suc rest.0, rest.1, omega (arith, rest.2), rest.3, rest.4)
]

pub some-at : (test : Point → Bool) (points : List Point) (k : ℕ) (p : Point) → k < length points →
    slice_index_or points k p ≡ p → test p ≡ true → some test points ≡ true
some-at test [] k p within is passes = absurd (omega (arith, within))
some-at test (q ∷ points) zero p within is passes =
    or_left (test q) (some test points) (subst (λ (x : Point). test x ≡ true) (sym is) passes)
some-at test (q ∷ points) (suc k) p within is passes =
    or_right (test q) (some test points) (some-at test points k p (omega (arith, within)) is passes)

-- breaks

abbrev pub breaks_at : ℕ → Point → Bool
breaks_at a p = is_break p.kind && p.address == a

add-break-marked : (test : Bool) (marks : List ℕ) (x a : ℕ) → (test ≡ true → length marks < 512) →
    is_marked (if test then marked_within most_addresses marks x else marks) a
    ≡ (is_marked marks a || (test && x == a))
add-break-marked true marks x a few = marked-within marks x a (few refl)
add-break-marked false marks x a few = sym (or-false (is_marked marks a))

-- the places that a point takes among the breaks of both kinds

abbrev both_taken : PointKind → ℕ → ℕ → ℕ → ℕ
both_taken kind length m n =
    (if is_kind kind PointKind.SoftwareBreak then (if is_break kind then 1 else length) + m else m)
    + (if is_kind kind PointKind.HardwareBreak then (if is_break kind then 1 else length) + n else n)

break-room : (kind : PointKind) (marks : List ℕ) (bytes m n : ℕ) →
    length marks + both_taken kind bytes m n ≤ 512 → is_break kind ≡ true → length marks < 512
break-room PointKind.SoftwareBreak marks bytes m n few is = omega (arith, few)
break-room PointKind.HardwareBreak marks bytes m n few is = omega (arith, few)
break-room PointKind.WriteWatch marks bytes m n few is = absurd (false≢true is)
break-room PointKind.ReadWatch marks bytes m n few is = absurd (false≢true is)
break-room PointKind.AccessWatch marks bytes m n few is = absurd (false≢true is)

break-left : (kind : PointKind) (marks : List ℕ) (x bytes m n : ℕ) →
    length marks + both_taken kind bytes m n ≤ 512 →
    length (if is_break kind then marked_within most_addresses marks x else marks) + (m + n) ≤ 512
break-left PointKind.SoftwareBreak marks x bytes m n few = omega (arith, few, within-size marks x)
break-left PointKind.HardwareBreak marks x bytes m n few = omega (arith, few, within-size marks x)
break-left PointKind.WriteWatch marks x bytes m n few = omega (arith, few)
break-left PointKind.ReadWatch marks x bytes m n few = omega (arith, few)
break-left PointKind.AccessWatch marks x bytes m n few = omega (arith, few)

breaks-marked : (marks : List ℕ) (points : List Point) (a : ℕ) →
    length marks + (taken PointKind.SoftwareBreak points + taken PointKind.HardwareBreak points) ≤ 512 →
    is_marked (breaks_of marks points) a ≡ (is_marked marks a || some (breaks_at a) points)
breaks-marked marks [] a few = sym (or-false (is_marked marks a))
breaks-marked marks (p ∷ points) a few =
    let m = taken PointKind.SoftwareBreak points in
    let n = taken PointKind.HardwareBreak points in
    breaks-marked (add_break marks p) points a (break-left p.kind marks p.address p.length m n few)
    ∙ ap (λ (r : Bool). r || some (breaks_at a) points)
    (add-break-marked (is_break p.kind) marks p.address a (break-room p.kind marks p.length m n few))
    ∙ or-again (is_marked marks a) (breaks_at a p) (some (breaks_at a) points)

pub loaded-break : (points : List Point) (a : ℕ) → AreSet points →
    is_marked (breaks_of [] points) a ≡ some (breaks_at a) points
loaded-break points a set =
    let software : taken PointKind.SoftwareBreak points ≤ 64 = set.few PointKind.SoftwareBreak in
    let hardware : taken PointKind.HardwareBreak points ≤ 64 = set.few PointKind.HardwareBreak in
    breaks-marked [] points a (omega (arith, software, hardware))

-- watches

pub kind-same : (a b : PointKind) → is_kind a b ≡ true → a ≡ b
kind-same PointKind.SoftwareBreak PointKind.SoftwareBreak is = refl
kind-same PointKind.HardwareBreak PointKind.HardwareBreak is = refl
kind-same PointKind.WriteWatch PointKind.WriteWatch is = refl
kind-same PointKind.ReadWatch PointKind.ReadWatch is = refl
kind-same PointKind.AccessWatch PointKind.AccessWatch is = refl
kind-same a b is = absurd (false≢true is)

abbrev pub watches_at : PointKind → ℕ → Point → Bool
watches_at kind a p = is_kind p.kind kind && has_byte p.address 0 p.length a

add-watch-marked : (test : Bool) (marks : List ℕ) (p : Point) (a : ℕ) →
    (test ≡ true → length marks + p.length ≤ 512) →
    is_marked (if test then add_bytes marks p.address 0 p.length else marks) a
    ≡ (is_marked marks a || (test && has_byte p.address 0 p.length a))
add-watch-marked true marks p a few = bytes-marked marks p.address 0 p.length a (few refl)
add-watch-marked false marks p a few = sym (or-false (is_marked marks a))

room : (test : Bool) (marks : List ℕ) (n weighs : ℕ) (p : Point) → (test ≡ true → weighs ≡ p.length) →
    length marks + (if test then weighs + n else n) ≤ 512 → test ≡ true → length marks + p.length ≤ 512
room true marks n weighs p byte few is = omega (arith, few, byte refl)
room false marks n weighs p byte few is = absurd (false≢true is)

room-left : (test : Bool) (marks : List ℕ) (n weighs : ℕ) (p : Point) → (test ≡ true → weighs ≡ p.length) →
    length marks + (if test then weighs + n else n) ≤ 512 →
    length (if test then add_bytes marks p.address 0 p.length else marks) + n ≤ 512
room-left true marks n weighs p byte few = omega (arith, few, byte refl, bytes-size marks p.address 0 p.length)
room-left false marks n weighs p byte few = few

-- a watch takes a place for each of its bytes
bytewise : (kind : PointKind) (p : Point) → is_break kind ≡ false → is_kind p.kind kind ≡ true → weight p ≡ p.length
bytewise kind p watch is =
    ap (λ (t : Bool). if t then 1 else p.length)
    (subst (λ (k : PointKind). is_break k ≡ false) (sym (kind-same p.kind kind is)) watch)

watches-marked : (kind : PointKind) (marks : List ℕ) (points : List Point) (a : ℕ) → is_break kind ≡ false →
    length marks + taken kind points ≤ 512 →
    is_marked (watches_of kind marks points) a ≡ (is_marked marks a || some (watches_at kind a) points)
watches-marked kind marks [] a watch few = sym (or-false (is_marked marks a))
watches-marked kind marks (p ∷ points) a watch few =
    let test = is_kind p.kind kind in
    watches-marked kind (if test then add_bytes marks p.address 0 p.length else marks) points a watch
    (room-left test marks (taken kind points) (weight p) p (bytewise kind p watch) few)
    ∙ ap (λ (r : Bool). r || some (watches_at kind a) points)
    (add-watch-marked test marks p a (room test marks (taken kind points) (weight p) p (bytewise kind p watch) few))
    ∙ or-again (is_marked marks a) (watches_at kind a p) (some (watches_at kind a) points)

pub loaded-watch : (kind : PointKind) (points : List Point) (a : ℕ) → is_break kind ≡ false → AreSet points →
    is_marked (watches_of kind [] points) a ≡ some (watches_at kind a) points
loaded-watch kind points a watch set =
    let roomy : places kind ≡ 512 = ap (λ (t : Bool). if t then 64 else 512) watch in
    watches-marked kind [] points a watch (omega (arith, set.few kind, roomy))
