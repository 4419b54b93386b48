-- Points that are set one after the other.
use Rattle.std.proofs.Common.{◌≡◌, ℕ, ◌+◌, ◌≤◌, List, [], ◌∷◌, ◌++◌, refl, sym, subst}
use Rattle.std.proofs.Common.{arith}
use Rattle.std.specs.Prelude.{Bool, true, false, not, ◌&&◌, ◌||◌, nat_le, if◌then◌else◌, filter}
use Rattle.std.proofs.lemmas.Bool.{false≢true, and_parts, leb-true}
use Rattle.std.proofs.lemmas.List.Elements.{All-nil, All-push, All-filter}
use Rattle.brd_gdb.specs.declared.request.PointKind.{PointKind}
use Rattle.brd_stub.specs.declared.points.Point.{Point}
use Rattle.brd_stub.specs.Points.{is_kind, is_point, is_set, places, weight, taken, fits, may_set, AreSet, with_point}
use Rattle.brd_stub.specs.Points.{without_point}
use Rattle.brd_stub.proofs.MarkedLemmas.{kind-same}

-- how many places are taken with one more

abbrev weight_if : Bool → ℕ → ℕ
weight_if test weighs = if test then weighs else 0

taken-step : (test : Bool) (m n w x : ℕ) → m ≡ n + x → (if test then w + m else m) ≡ (if test then w + n else n) + x
taken-step true m n w x is = omega (arith, is)
taken-step false m n w x is = is

taken-last : (test : Bool) (w : ℕ) → (if test then w + 0 else 0) ≡ 0 + weight_if test w
taken-last true w = omega arith
taken-last false w = refl

taken-push : (kind : PointKind) (points : List Point) (p : Point) →
    taken kind (points ++ p ∷ []) ≡ taken kind points + weight_if (is_kind p.kind kind) (weight p)
taken-push kind [] p = taken-last (is_kind p.kind kind) (weight p)
taken-push kind (q ∷ points) p =
    taken-step (is_kind q.kind kind) (taken kind (points ++ p ∷ [])) (taken kind points) (weight q)
    (weight_if (is_kind p.kind kind) (weight p)) (taken-push kind points p)

few-more : (test : Bool) (n w most : ℕ) → n ≤ most → (test ≡ true → n + w ≤ most) → n + weight_if test w ≤ most
few-more true n w most few fewer = fewer refl
few-more false n w most few fewer = omega (arith, few)

-- and with some fewer

taken-kept : (test kept : Bool) (m n w : ℕ) → m ≤ n →
    (if kept then (if test then w + m else m) else m) ≤ (if test then w + n else n)
taken-kept true true m n w le = omega (arith, le)
taken-kept true false m n w le = omega (arith, le)
taken-kept false true m n w le = omega (arith, le)
taken-kept false false m n w le = omega (arith, le)

taken-either : (kind : PointKind) (kept : Bool) (q : Point) (points : List Point) →
    taken kind (if kept then q ∷ points else points)
    ≡ (if kept then (if is_kind q.kind kind then weight q + taken kind points else taken kind points)
    else taken kind points)
taken-either kind true q points = refl
taken-either kind false q points = refl

taken-filter : (kind : PointKind) (test : Point → Bool) (points : List Point) →
    taken kind (filter test points) ≤ taken kind points
taken-filter kind test [] = omega arith
taken-filter kind test (q ∷ points) =
    subst (λ (m : ℕ). m ≤ taken kind (q ∷ points)) (sym (taken-either kind (test q) q (filter test points)))
    (taken-kept (is_kind q.kind kind) (test q) (taken kind (filter test points)) (taken kind points) (weight q)
    (taken-filter kind test points))

-- points with one more, where there is room, and with some fewer

pub push-set : (points : List Point) (p : Point) → AreSet points → fits p ≡ true →
    taken p.kind points + weight p ≤ places p.kind → AreSet (points ++ p ∷ [])
push-set points p set fit room = record {
  fit = All-push (λ (q : Point). fits q ≡ true) points p set.fit fit;
  few = λ kind. subst (λ (n : ℕ). n ≤ places kind) (sym (taken-push kind points p))
      (few-more (is_kind p.kind kind) (taken kind points) (weight p) (places kind) (set.few kind)
      (λ is. subst (λ (k : PointKind). taken k points + weight p ≤ places k) (kind-same p.kind kind is) room));
}

pub filter-set : (test : Point → Bool) (points : List Point) → AreSet points → AreSet (filter test points)
filter-set test points set = record {
  fit = All-filter test (λ (q : Point). fits q ≡ true) points set.fit;
  few = λ kind. omega (arith, taken-filter kind test points, set.few kind);
}

pub none-set : AreSet []
none-set = record { fit = All-nil (λ (p : Point). fits p ≡ true); few = λ kind. omega arith }

-- by `Z` and by `z`

with-if : (may is : Bool) (points : List Point) (p : Point) → AreSet points →
    (may ≡ true → is ≡ false → AreSet (points ++ p ∷ [])) →
    AreSet (if may && not is then points ++ p ∷ [] else points)
with-if true true points p set more = set
with-if true false points p set more = more refl refl
with-if false is points p set more = set

roomy : (set few : Bool) → (set || few) ≡ true → set ≡ false → few ≡ true
roomy true few is none = absurd (false≢true (sym none))
roomy false few is none = is

pub with-set : (points : List Point) (p : Point) → AreSet points → AreSet (with_point points p)
with-set points p set =
    with-if (may_set points p) (is_set points p) points p set
    (λ may none.
    let room = nat_le (taken p.kind points + weight p) (places p.kind) in
    let both = and_parts (fits p) (is_set points p || room) may in
    push-set points p set both.0
    (leb-true (taken p.kind points + weight p) (places p.kind) (roomy (is_set points p) room both.1 none)))

pub without-set : (points : List Point) (p : Point) → AreSet points → AreSet (without_point points p)
without-set points p set = filter-set (λ q. not (is_point q p)) points set
