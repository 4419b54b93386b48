-- What visits have found, added to the places.
use Rattle.std.proofs.Common.{◌≡◌, ℕ, zero, suc, ◌+◌, ◌<◌, ◌≤◌, ◌⊎◌, inl, inr, true, false, List, [], ◌∷◌, ◌++◌, length, refl, sym, ap, subst, ◌∙◌, arith, length-append}
use Rattle.std.specs.Prelude.{replicate, slice_get, Option, Some, None, Bool, Result, Ok, Err, IfOk}
use Rattle.std.proofs.lemmas.List.{append_assoc, append-nil}
use Rattle.std.proofs.lemmas.List.Elements.{All-head, All-tail, All-append}
use Rattle.std.specs.List.{All}
use Rattle.std.proofs.Common.{Vec, Global}
use Rattle.brd_base.specs.declared.no_memory.NoMemory.{NoMemory}
use Rattle.brd_board.specs.declared.event.Event.{Event}
use Rattle.brd_board.specs.declared.event.Event.TheVariants.{Step, Tick, Raise}
use Rattle.brd_board.specs.Board.{BoardState, after}
use Rattle.brd_explore.specs.declared.wanted.Wanted.{Wanted}
use Rattle.brd_explore.specs.Schedules.{Place, IsRicher, next, place_after, event_at}
use Rattle.brd_explore.specs.Failures.{fails_at}
use Rattle.brd_frames.specs.Lagging.{Sharing}
use Rattle.brd_spots.specs.Spots.{spot_of, IsIn, IsKnown, IsMore}
use Rattle.brd_spots.proofs.KnownLemmas.{known-last, known-more, less-or-same, rich-same, rich-then, same-some}
use Rattle.brd_spots.proofs.KnownLemmas.{spot-more, there-is}
use Rattle.brd_lazy.specs.declared.finds.Find.{Find}
use Rattle.brd_lazy.specs.declared.twins.Twin.{Twin}
use Rattle.brd_lazy.specs.declared.part.Part.{Part}
use Rattle.brd_lazy.specs.declared.visit.Tried.{Tried}
use Rattle.brd_lazy.specs.declared.visit.Tried.TheVariants as tried
use Rattle.brd_lazy.specs.declared.round.Round.{Round}
use Rattle.brd_lazy.specs.declared.round.Round.TheVariants as round
use Rattle.brd_lazy.specs.Finding.{AreDone, HasGone, HasTried, HasTriedAll, IsDone, VisitedSo}
use Rattle.brd_lazy.specs.Finds.{AreGone, AreSettled, Covers, GoneSo, IsTwin, LeadAlike, PartSo, found_from, found_of, led_to, with_finds}
use Rattle.brd_lazy.proofs.FindLemmas.{done-more}

-- One find more.

pub found-more : (spots : List Place) (finds : List Find) (find : Find) →
    found_of spots (finds ++ find ∷ []) ≡ found_of spots finds ++ found_from find (slice_get spots find.from)
found-more spots [] find = append-nil (found_from find (slice_get spots find.from))
found-more spots (first ∷ finds) find =
    ap (λ them. found_from first (slice_get spots first.from) ++ them) (found-more spots finds find)
    ∙ sym (append_assoc (found_from first (slice_get spots first.from)) (found_of spots finds) (found_from find (slice_get spots find.from)))

with-more : (spots : List Place) (old new : List Find) (find : Find) → new ≡ old ++ find ∷ [] →
    with_finds spots new ≡ with_finds spots old ++ found_from find (slice_get spots find.from)
with-more spots old new find is =
    ap (with_finds spots) is
    ∙ ap (λ them. spots ++ them) (found-more spots old find)
    ∙ sym (append_assoc spots (found_of spots old) (found_from find (slice_get spots find.from)))

pub found-is-more : (spots : List Place) (old new : List Find) (find : Find) → new ≡ old ++ find ∷ [] →
    IsMore (with_finds spots old) (with_finds spots new)
found-is-more spots old new find is = (found_from find (slice_get spots find.from), with-more spots old new find is)

pub found-is-known : (spots : List Place) (old new : List Find) (find : Find) (b : BoardState) (p : Place) → new ≡ old ++ find ∷ [] →
    slice_get spots find.from ≡ Some p → b ≡ after p.board (replicate find.count find.event) →
    IsKnown (with_finds spots new) (spot_of b find.margin)
found-is-known spots old new find b p is there leads =
    subst (λ c. IsKnown (with_finds spots new) (spot_of c find.margin)) (sym leads)
    (known-last (with_finds spots old) (with_finds spots new) (led_to find p)
    (with-more spots old new find is ∙ ap (λ it. with_finds spots old ++ found_from find it) there))

-- what is known among the places is known with finds
pub known-with : (spots : List Place) (finds : List Find) (p : Place) → IsKnown spots p → IsKnown (with_finds spots finds) p
known-with spots finds p it = known-more spots (with_finds spots finds) p (found_of spots finds, refl) it

-- What a visit came to.

pub visited : {E : Type 0} (by : Sharing) (among : List Event) (wanted : Wanted) (seen : List Place) (p : Place) (result : Result Tried E) →
    fails_at wanted p.board p.left ≡ false → IfOk result (HasTriedAll by among seen p) → IfOk result (VisitedSo by among wanted seen p)
visited by among wanted seen p (Ok tried.Done) holds it = record { holds = holds; tried = it }
visited by among wanted seen p (Ok tried.Fails) holds it = tt
visited by among wanted seen p (Ok (tried.Strays cpu count)) holds it = tt
visited by among wanted seen p (Ok (tried.Unknown why)) holds it = tt
visited by among wanted seen p (Err fault) holds it = tt

-- What is known of places is known of others, if they are.

abbrev pub All-known : List Place → List Place → Type 0
All-known seen spots = (q : Place) → IsIn seen q → IsKnown spots q

known-through : (seen spots : List Place) (p : Place) → All-known seen spots → IsKnown seen p → IsKnown spots p
known-through seen spots p all it =
    let other = all it.place it.there in
    record { place = other.place; there = other.there; richer = rich-then other.place it.place p other.richer it.richer }

gone-through : (by : Sharing) (seen spots : List Place) (p : Place) (cpu : ℕ) → All-known seen spots → HasGone by seen p cpu → HasGone by spots p cpu
gone-through by seen spots p cpu all (inl idle) = inl idle
gone-through by seen spots p cpu all (inr (inl alone)) =
    inr (inl (alone.0, λ did. known-through seen spots (next p (Step cpu)) all (alone.1 did)))
gone-through by seen spots p cpu all (inr (inr (inl block))) =
    inr (inr (inl (block.0, block.1, known-through seen spots (place_after p (replicate (suc block.0) (Step cpu))) all block.2)))
gone-through by seen spots p cpu all (inr (inr (inr cut))) = inr (inr (inr cut))

tried-through : (by : Sharing) (seen spots : List Place) (p : Place) (event : Event) → All-known seen spots → HasTried by seen p event →
    HasTried by spots p event
tried-through by seen spots p (Step cpu) all it = (it.0, it.1, it.2, gone-through by seen spots p cpu all it.3)
tried-through by seen spots p Tick all it = λ did. known-through seen spots (next p Tick) all (it did)
tried-through by seen spots p (Raise line) all it = λ did. known-through seen spots (next p (Raise line)) all (it did)

done-through : (by : Sharing) (among : List Event) (wanted : Wanted) (seen spots : List Place) (p : Place) → All-known seen spots →
    IsDone by among wanted seen p → IsDone by among wanted spots p
done-through by among wanted seen spots p all it = record {
  holds = it.holds;
  tried = λ set k less left. tried-through by seen spots p (event_at among k) all (it.tried set k less left);
}

-- Finds that were settled.

in-either : (xs ys : List Place) (at : ℕ) (q : Place) → slice_get (xs ++ ys) at ≡ Some q → IsIn xs q ⊎ IsIn ys q
in-either [] ys at q is = inr (at, is)
in-either (x ∷ xs) ys zero q is = inl (zero, is)
in-either (x ∷ xs) ys (suc at) q is = elim (in-either xs ys at q is) [
  | inl it ↦ inl (suc it.0, it.1)
  | inr it ↦ inr it
]

from-known : (find : Find) (here : Option Place) (spots : List Place) (q : Place) → ((p : Place) → here ≡ Some p → IsKnown spots (led_to find p)) →
    IsIn (found_from find here) q → IsKnown spots q
from-known find None spots q known (at, is) = let wrong : ⊥ = cc in absurd wrong
from-known find (Some p) spots q known (zero, is) =
    let same : led_to find p ≡ q = cc in subst (IsKnown spots) same (known p refl)
from-known find (Some p) spots q known (suc at, is) = let wrong : ⊥ = cc in absurd wrong

found-known : (early : List Place) (finds : List Find) (spots : List Place) → AreSettled early finds (length finds) spots →
    All-known (found_of early finds) spots
found-known early [] spots settled q (at, is) = let wrong : ⊥ = cc in absurd wrong
found-known early (first ∷ finds) spots settled q (at, is) =
    elim (in-either (found_from first (slice_get early first.from)) (found_of early finds) at q is) [
      | inl it ↦ from-known first (slice_get early first.from) spots q (λ p there. settled 0 (omega arith) first p refl there) it
      | inr it ↦
          found-known early finds spots (λ k less find p is there. settled (suc k) (omega (arith, less)) find p is there) q it
    ]

in-known : (spots : List Place) (q : Place) → IsIn spots q → IsKnown spots q
in-known spots q it = record { place = q; there = it; richer = rich-same q }

all-known : (early : List Place) (finds : List Find) (spots : List Place) → IsMore early spots →
    AreSettled early finds (length finds) spots → All-known (with_finds early finds) spots
all-known early finds spots more settled q (at, is) = elim (in-either early (found_of early finds) at q is) [
  | inl it ↦ in-known spots q (it.0, spot-more early spots it.0 q more it.1)
  | inr it ↦ found-known early finds spots settled q it
]

pub settled-more : (early : List Place) (finds : List Find) (upto : ℕ) (old new : List Place) → IsMore old new →
    AreSettled early finds upto old → AreSettled early finds upto new
settled-more early finds upto old new more settled k less find p is there =
    known-more old new (led_to find p) more (settled k less find p is there)

same-find : (a b : Find) → Some a ≡ Some b → a ≡ b
same-find a b is = cc

pub settled-next : (early : List Place) (finds : List Find) (at : ℕ) (find : Find) (old new : List Place) → IsMore early old →
    IsMore old new → slice_get finds at ≡ Some find → AreSettled early finds at old →
    ((p : Place) → slice_get old find.from ≡ Some p → IsKnown new (led_to find p)) → AreSettled early finds (at + 1) new
settled-next early finds at find old new begun more here settled known k less other p is there =
    elim (less-or-same k at less) [
      | inl below ↦ settled-more early finds at old new more settled k below other p is there
      | inr same ↦
          let it : find ≡ other = same-find find other (sym here ∙ ap (slice_get finds) (sym same) ∙ is) in
          subst (λ f. IsKnown new (led_to f p)) it
          (known p (spot-more early old find.from p begun (subst (λ (f : Find). slice_get early f.from ≡ Some p) (sym it) there)))
    ]

-- Places that were gone through, with finds that are settled.
pub gone-settled : (by : Sharing) (among : List Event) (wanted : Wanted) (early : List Place) (finds : List Find) (spots : List Place)
    (from upto : ℕ) (came : Round) → IsMore early spots → AreSettled early finds (length finds) spots →
    GoneSo by among wanted early (with_finds early finds) from upto came → GoneSo by among wanted early spots from upto came
gone-settled by among wanted early finds spots from upto round.Holds more settled gone = λ at low less p is.
    done-through by among wanted (with_finds early finds) spots p (all-known early finds spots more settled) (gone at low less p is)
gone-settled by among wanted early finds spots from upto (round.Fails at) more settled gone = tt
gone-settled by among wanted early finds spots from upto (round.Strays at cpu count) more settled gone = tt
gone-settled by among wanted early finds spots from upto (round.Unknown why) more settled gone = tt

-- More places that were gone through.

pub gone-none : (by : Sharing) (among : List Event) (wanted : Wanted) (spots seen : List Place) (from : ℕ) →
    AreGone by among wanted spots seen from from
gone-none by among wanted spots seen from at low less p is = absurd (omega (arith, low, less))

pub gone-more : (by : Sharing) (among : List Event) (wanted : Wanted) (spots old new : List Place) (from upto : ℕ) → IsMore old new →
    AreGone by among wanted spots old from upto → AreGone by among wanted spots new from upto
gone-more by among wanted spots old new from upto more gone at low less p is =
    done-more by among wanted old new p more (gone at low less p is)

pub gone-next : (by : Sharing) (among : List Event) (wanted : Wanted) (spots old new : List Place) (from upto : ℕ) → IsMore old new →
    AreGone by among wanted spots old from upto → ((p : Place) → slice_get spots upto ≡ Some p → IsDone by among wanted new p) →
    AreGone by among wanted spots new from (upto + 1)
gone-next by among wanted spots old new from upto more gone here at low less p is =
    elim (less-or-same at upto less) [
      | inl below ↦ done-more by among wanted old new p more (gone at low below p is)
      | inr same ↦ here p (subst (λ k. slice_get spots k ≡ Some p) same is)
    ]

less-or-more : (n m : ℕ) → (n < m) ⊎ (m ≤ n)
less-or-more n m = grind arith

pub gone-both : (by : Sharing) (among : List Event) (wanted : Wanted) (spots old new : List Place) (from middle upto : ℕ) → IsMore old new →
    AreGone by among wanted spots old from middle → AreGone by among wanted spots new middle upto → AreGone by among wanted spots new from upto
gone-both by among wanted spots old new from middle upto more gone other at low less p is =
    elim (less-or-more at middle) [
      | inl below ↦ done-more by among wanted old new p more (gone at low below p is)
      | inr above ↦ other at above less p is
    ]

-- The first places have been gone through, and more of those that were there by then.
pub done-far : (by : Sharing) (among : List Event) (wanted : Wanted) (old new : List Place) (at upto : ℕ) → IsMore old new →
    upto ≤ length old → AreDone by among wanted old at → AreGone by among wanted old new at upto → AreDone by among wanted new upto
done-far by among wanted old new at upto more within done gone k less p is =
    let found = there-is old k (omega (arith, less, within)) in
    let same : found.0 ≡ p = same-some found.0 p (sym (spot-more old new k found.0 more found.1) ∙ is) in
    subst (IsDone by among wanted new) same
    (elim (less-or-more k at) [
      | inl below ↦ done-more by among wanted old new found.0 more (done k below found.0 found.1)
      | inr above ↦ gone k above less found.0 found.1
    ])

-- Finds that earlier ones cover.

pub settled-twin : (early : List Place) (finds : List Find) (at : ℕ) (spots : List Place) (twin : Twin) → twin.at ≡ at →
    IsTwin early finds twin → AreSettled early finds at spots → AreSettled early finds (at + 1) spots
settled-twin early finds at spots twin here it settled k less find p is there =
    elim (less-or-same k at less) [
      | inl below ↦ settled k below find p is there
      | inr same ↦
          let covers = it.there.2 find (ap (slice_get finds) (here ∙ sym same) ∙ is) p there in
          let known = settled twin.by (omega (arith, it.earlier, here)) it.there.0 covers.0 it.there.1 covers.1 in
          record { place = known.place; there = known.there; richer = rich-then known.place (led_to it.there.0 covers.0) (led_to find p) known.richer covers.2 }
    ]

pub alike-so : (spots : List Place) (one other : Find) (b c : BoardState) → one.from < length spots →
    ((q : Place) → slice_get spots one.from ≡ Some q → b ≡ after q.board (replicate one.count one.event)) →
    ((p : Place) → slice_get spots other.from ≡ Some p → c ≡ after p.board (replicate other.count other.event)) → b ≡ c →
    LeadAlike spots one other
alike-so spots one other b c within first second same p there =
    let found = there-is spots one.from within in
    (found.0, found.1, sym (first found.0 found.1) ∙ same ∙ second p there)

pub covers-so : {E : Type 0} (spots : List Place) (one other : Find) (result : Result Bool E) →
    IfOk result (λ alike. alike ≡ true → LeadAlike spots one other) →
    ((b : BoardState) → IsRicher (spot_of b one.margin) (spot_of b other.margin)) →
    IfOk result (λ covers. covers ≡ true → Covers spots one other)
covers-so spots one other (Err fault) alike richer = tt
covers-so spots one other (Ok is) alike richer = λ yes p there.
    let found = alike yes p there in (
      found.0,
      found.1,
      subst (λ b. IsRicher (led_to one found.0) (spot_of b other.margin)) found.2 (richer (led_to one found.0).board),
    )

-- A part behind another one.

found-both : (spots : List Place) (xs ys : List Find) → found_of spots (xs ++ ys) ≡ found_of spots xs ++ found_of spots ys
found-both spots [] ys = refl
found-both spots (x ∷ xs) ys =
    ap (λ them. found_from x (slice_get spots x.from) ++ them) (found-both spots xs ys)
    ∙ sym (append_assoc (found_from x (slice_get spots x.from)) (found_of spots xs) (found_of spots ys))

with-both : (spots : List Place) (xs ys : List Find) → with_finds spots (xs ++ ys) ≡ with_finds spots xs ++ found_of spots ys
with-both spots xs ys = ap (λ them. spots ++ them) (found-both spots xs ys) ∙ sym (append_assoc spots (found_of spots xs) (found_of spots ys))

in-first : (xs ys : List Place) (q : Place) → IsIn xs q → IsIn (xs ++ ys) q
in-first xs ys q it = (it.0, spot-more xs (xs ++ ys) it.0 q (ys, refl) it.1)

in-second : (xs ys : List Place) (q : Place) → IsIn ys q → IsIn (xs ++ ys) q
in-second [] ys q it = it
in-second (x ∷ xs) ys q it = let rest = in-second xs ys q it in (suc rest.0, rest.1)

second-known : (spots : List Place) (xs ys : List Find) → All-known (with_finds spots ys) (with_finds spots (xs ++ ys))
second-known spots xs ys q (at, is) = elim (in-either spots (found_of spots ys) at q is) [
  | inl it ↦ in-known (with_finds spots (xs ++ ys)) q (in-first spots (found_of spots (xs ++ ys)) q it)
  | inr it ↦
      in-known (with_finds spots (xs ++ ys)) q
      (subst (λ zs. IsIn zs q) (sym (with-both spots xs ys)) (in-second (with_finds spots xs) (found_of spots ys) q it))
]

gone-second : (by : Sharing) (among : List Event) (wanted : Wanted) (spots : List Place) (xs ys : List Find) (from upto : ℕ) (came : Round) →
    GoneSo by among wanted spots (with_finds spots ys) from upto came →
    GoneSo by among wanted spots (with_finds spots (xs ++ ys)) from upto came
gone-second by among wanted spots xs ys from upto round.Holds gone = λ at low less p is.
    done-through by among wanted (with_finds spots ys) (with_finds spots (xs ++ ys)) p (second-known spots xs ys) (gone at low less p is)
gone-second by among wanted spots xs ys from upto (round.Fails at) gone = tt
gone-second by among wanted spots xs ys from upto (round.Strays at cpu count) gone = tt
gone-second by among wanted spots xs ys from upto (round.Unknown why) gone = tt

gone-joined : (by : Sharing) (among : List Event) (wanted : Wanted) (spots seen : List Place) (from middle upto : ℕ) (came : Round) →
    AreGone by among wanted spots seen from middle → GoneSo by among wanted spots seen middle upto came →
    GoneSo by among wanted spots seen from upto came
gone-joined by among wanted spots seen from middle upto round.Holds one other =
    gone-both by among wanted spots seen seen from middle upto ([], sym (append-nil seen)) one other
gone-joined by among wanted spots seen from middle upto (round.Fails at) one other = tt
gone-joined by among wanted spots seen from middle upto (round.Strays at cpu count) one other = tt
gone-joined by among wanted spots seen from middle upto (round.Unknown why) one other = tt

holds-gone : (by : Sharing) (among : List Event) (wanted : Wanted) (spots seen : List Place) (from upto : ℕ) (came : Round) →
    came ≡ round.Holds → GoneSo by among wanted spots seen from upto came → AreGone by among wanted spots seen from upto
holds-gone by among wanted spots seen from upto came holds gone =
    subst (GoneSo by among wanted spots seen from upto) holds gone

pub part-follows : (by : Sharing) (among : List Event) (wanted : Wanted) (spots : List Place) (xs ys both : List Find)
    (from middle also upto : ℕ) (came more : Round) → came ≡ round.Holds → also ≡ middle → both ≡ xs ++ ys →
    GoneSo by among wanted spots (with_finds spots xs) from middle came → GoneSo by among wanted spots (with_finds spots ys) also upto more →
    GoneSo by among wanted spots (with_finds spots both) from upto more
part-follows by among wanted spots xs ys both from middle also upto came more holds same is one other =
    subst (λ zs. GoneSo by among wanted spots (with_finds spots zs) from upto more) (sym is)
    (gone-joined by among wanted spots (with_finds spots (xs ++ ys)) from middle upto more
    (gone-more by among wanted spots (with_finds spots xs) (with_finds spots (xs ++ ys)) from middle (found_of spots ys, with-both spots xs ys)
    (holds-gone by among wanted spots (with_finds spots xs) from middle came holds one))
    (gone-second by among wanted spots xs ys middle upto more
    (subst (λ n. GoneSo by among wanted spots (with_finds spots ys) n upto more) same other)))

-- Parts and rows one after the other.

abbrev IsPart : Sharing → List Event → Wanted → List Place → Result Part NoMemory → Type 0
IsPart by among wanted spots part = IfOk part (PartSo by among wanted spots)

pub part-next : (by : Sharing) (among : List Event) (wanted : Wanted) (spots : List Place) (items rest : List (Result Part NoMemory))
    (found : Result Part NoMemory) (part one new : Part) → items ≡ found ∷ rest → found ≡ Ok part →
    All (IsPart by among wanted spots) items → PartSo by among wanted spots one →
    (PartSo by among wanted spots one → PartSo by among wanted spots part → PartSo by among wanted spots new) →
    All (IsPart by among wanted spots) rest × PartSo by among wanted spots new
part-next by among wanted spots items rest found part one new is ok each so more =
    let whole = subst (All (IsPart by among wanted spots)) is each in
    let here = subst (IsPart by among wanted spots) ok (All-head (IsPart by among wanted spots) found rest whole) in (
      All-tail (IsPart by among wanted spots) found rest whole,
      more so here,
    )

abbrev IsRow : List Place → List Find → Result (Vec Twin Global) NoMemory → Type 0
IsRow spots finds row = IfOk row (λ (twins : Vec Twin Global). All (IsTwin spots finds) twins.items)

pub row-next : (spots : List Place) (finds : List Find) (items rest : List (Result (Vec Twin Global) NoMemory))
    (found : Result (Vec Twin Global) NoMemory) (row : Vec Twin Global) (twins new : List Twin) → items ≡ found ∷ rest → found ≡ Ok row →
    new ≡ twins ++ row.items → All (IsRow spots finds) items → All (IsTwin spots finds) twins →
    All (IsRow spots finds) rest × All (IsTwin spots finds) new
row-next spots finds items rest found row twins new is ok more each so =
    let whole = subst (All (IsRow spots finds)) is each in
    let here = subst (IsRow spots finds) ok (All-head (IsRow spots finds) found rest whole) in (
      All-tail (IsRow spots finds) found rest whole,
      subst (All (IsTwin spots finds)) (sym more) (All-append (IsTwin spots finds) twins row.items so here),
    )

-- There are no fewer than there were.
pub more-long : (old new : List Place) → IsMore old new → length old ≤ length new
more-long old new more = omega (arith, ap (λ (xs : List Place). length xs) more.1, length-append old more.0)
