-- What was tried at places, and that all places of a round make a closed tree.
use Rattle.std.proofs.Common.{◌≡◌, ℕ, zero, suc, Bool, true, false, List, [], ◌∷◌, ◌++◌, length, refl, sym, ap, subst, ◌∙◌, ◌⊎◌, inl, inr, arith}
use Rattle.std.proofs.lemmas.List.{append_assoc, append-nil}
use Rattle.std.proofs.lemmas.Option.{slice_get_within}
use Rattle.std.proofs.lemmas.Bool.{false≢true}
use Rattle.brd_base.specs.declared.no_memory.NoMemory.{NoMemory}
use Rattle.std.proofs.lemmas.List.{get_or_default}
use Rattle.std.specs.Prelude.{get_or, Result, Ok, Err, IfOk, OnOk, OnErr, ◌+◌, ◌-◌, ◌<◌, ◌≤◌, nat_lt, if◌then◌else◌, slice_get, None, Some}
use Rattle.brd_link.specs.LinkSet.{IsLinkSet}
use Rattle.brd_kernel.specs.declared.processor.Executor.TheVariants as executor
use Rattle.brd_board.specs.declared.event.Event.{Event}
use Rattle.brd_board.specs.declared.event.Event.TheVariants.{Step, Tick, Raise}
use Rattle.brd_board.specs.Board.{BoardState, happens}
use Rattle.brd_explore.specs.declared.wanted.Wanted.{Wanted}
use Rattle.brd_explore.specs.Schedules.{IsAmong, event_at}
use Rattle.brd_frames.specs.Lagging.{Sharing}
use Rattle.brd_frames.specs.Reducing.{IsQuiet}
use Rattle.brd_frames.proofs.ReduceLemmas.{like-path}
use Rattle.brd_blocks.specs.Stepping.{LinkSetLaw}
use Rattle.brd_places.specs.Places.{Place}
use Rattle.brd_places.specs.declared.left.Left.{Left}
use Rattle.brd_reach.specs.declared.visit.Tried.{Tried}
use Rattle.brd_reach.specs.declared.visit.Tried.TheVariants as tried
use Rattle.brd_reach.specs.Reaching.{Guards, IsClosed, pays}
use Rattle.brd_reach.specs.Rounds.{AreDone, Blocks, HasStepped, HasTried, HaveTried, IsAt, IsDone, IsMore, IsPaid, IsPlace, LeadsTo, TriedSo}

-- More places.

pub more-same : (places : List Place) → IsMore places places
more-same places = ([], sym (append-nil places))

pub more-then : (a b c : List Place) → IsMore a b → IsMore b c → IsMore a c
more-then a b c one two =
    (one.0 ++ two.0, two.1 ∙ ap (λ xs. xs ++ two.0) one.1 ∙ append_assoc a one.0 two.0)

pub more-by : (a b : List Place) (place : Place) → b ≡ a ++ place ∷ [] → IsMore a b
more-by a b place is = (place ∷ [], is)

get-append : (xs ys : List Place) (at : ℕ) (place : Place) → slice_get xs at ≡ Some place → slice_get (xs ++ ys) at ≡ Some place
get-append [] ys at place is = let wrong : ⊥ = cc in absurd wrong
get-append (x ∷ xs) ys zero place is = is
get-append (x ∷ xs) ys (suc at) place is = get-append xs ys at place is

pub get-more : (old new : List Place) (at : ℕ) (place : Place) → IsMore old new → slice_get old at ≡ Some place → slice_get new at ≡ Some place
get-more old new at place more is = ap (λ xs. slice_get xs at) more.1 ∙ get-append old more.0 at place is

get-last : (xs : List Place) (place : Place) → slice_get (xs ++ place ∷ []) (length xs) ≡ Some place
get-last [] place = refl
get-last (x ∷ xs) place = get-last xs place

pub place-more : (old new : List Place) (left : Left) (b : BoardState) → IsMore old new → IsPlace old left b → IsPlace new left b
place-more old new left b more it = (it.0, get-more old new it.0 (record { left = left; board = b }) more it.1)

pub place-last : (old new : List Place) (left : Left) (b : BoardState) → new ≡ old ++ record { left = left; board = b } ∷ [] → IsPlace new left b
place-last old new left b is =
    (length old, ap (λ xs. slice_get xs (length old)) is ∙ get-last old (record { left = left; board = b }))

-- What was tried stays so.

blocks-more : (by : Sharing) (b : BoardState) (cpu : ℕ) (Ends Others : BoardState → Type 0) → ((new : BoardState) → Ends new → Others new) →
    Blocks by b cpu Ends → Blocks by b cpu Others
blocks-more by b cpu Ends Others so it = λ middle who count next path.
    let found = it middle who count next path in
    elim found.1 [
      | inl seen ↦ (found.0, inl seen)
      | inr ends ↦ (found.0, inr (so (happens middle (Step cpu)).board ends.0, ends.1))
    ]

stepped-more : (by : Sharing) (old new : List Place) (left : Left) (b : BoardState) (cpu : ℕ) → IsMore old new →
    HasStepped by old left b cpu → HasStepped by new left b cpu
stepped-more by old new left b cpu more it = record {
  well = it.well;
  quiet = λ quiet. place-more old new left (happens b (Step cpu)).board more (it.quiet quiet);
  blocks = blocks-more by b cpu (IsPlace old left) (IsPlace new left) (λ x. place-more old new left x more) it.blocks;
}

pub tried-more : (by : Sharing) (among : List Event) (old new : List Place) (left : Left) (b : BoardState) (event : Event) → IsMore old new →
    HasTried by among old left b event → HasTried by among new left b event
tried-more by among old new left b (Step cpu) more it = (it.0, it.1, stepped-more by old new left b cpu more it.2)
tried-more by among old new left b Tick more it = λ rest pay. place-more old new rest (happens b Tick).board more (it rest pay)
tried-more by among old new left b (Raise line) more it =
    λ rest pay. place-more old new rest (happens b (Raise line)).board more (it rest pay)

pub done-more : (by : Sharing) (among : List Event) (wanted : Wanted) (old new : List Place) (left : Left) (b : BoardState) → IsMore old new →
    IsDone by among wanted old left b → IsDone by among wanted new left b
done-more by among wanted old new left b more it = record {
  holds = it.holds;
  tried = λ set k less. tried-more by among old new left b (event_at among k) more (it.tried set k less);
}

-- One place more.

pub there-is : (xs : List Place) (i : ℕ) → i < length xs → (place : Place) × (slice_get xs i ≡ Some place)
there-is [] i less = absurd (omega (arith, less))
there-is (x ∷ xs) zero less = (x, refl)
there-is (x ∷ xs) (suc i) less = there-is xs i (omega (arith, less))

same-some : (p q : Place) → Some p ≡ Some q → p ≡ q
same-some p q is = cc

less-or-same : (n m : ℕ) → n < m + 1 → (n < m) ⊎ (n ≡ m)
less-or-same n m less = grind (arith, less)

pub done-next : (by : Sharing) (among : List Event) (wanted : Wanted) (old new : List Place) (at : ℕ) (place : Place) →
    AreDone by among wanted old at → IsMore old new → slice_get old at ≡ Some place → IsDone by among wanted new place.left place.board →
    AreDone by among wanted new (at + 1)
done-next by among wanted old new at place done more here it k less p is =
    elim (less-or-same k at less) [
      | inl below ↦
          let found = there-is old k (omega (arith, below, slice_get_within old at place here)) in
          subst (λ (q : Place). IsDone by among wanted new q.left q.board)
          (same-some found.0 p (sym (get-more old new k found.0 more found.1) ∙ is))
          (done-more by among wanted old new found.0.left found.0.board more (done k below found.0 found.1))
      | inr same ↦
          subst (λ (q : Place). IsDone by among wanted new q.left q.board)
          (same-some place p (sym (get-more old new at place more here) ∙ subst (λ n. slice_get new n ≡ Some p) same is)) it
    ]

-- What was added.

pub added-more : (old new : List Place) (place : Place) (result : Result Unit NoMemory) → OnOk result (new ≡ old ++ place ∷ []) →
    OnErr result (new ≡ old) → IsMore old new
added-more old new place (Ok done) is same = more-by old new place is
added-more old new place (Err fault) is same = subst (IsMore old) (sym same) (more-same old)

pub added-there : (old new : List Place) (left : Left) (b there : BoardState) (result : Result Unit NoMemory) →
    OnOk result (new ≡ old ++ record { left = left; board = there } ∷ []) → b ≡ there → OnOk result (IsPlace new left b)
added-there old new left b there (Ok done) is same =
    subst (IsPlace new left) (sym same) (place-last old new left there is)
added-there old new left b there (Err fault) is same = tt

pub same-left : (one two : Left) → Some one ≡ Some two → one ≡ two
same-left one two is = cc

-- One event.

pub leads-tried : (by : Sharing) (among : List Event) (places : List Place) (left : Left) (b : BoardState) (cpu : ℕ) (last : BoardState) → 1 ≤ cpu →
    cpu ≤ 8 → LeadsTo by b cpu last → IsPlace places left last → HasTried by among places left b (Step cpu)
leads-tried by among places left b cpu last some few it there = (
  some,
  few,
  record {
    well = it.well;
    quiet = λ quiet. subst (IsPlace places left) (sym (it.quiet quiet)) there;
    blocks = blocks-more by b cpu (λ new. new ≡ last) (IsPlace places left)
        (λ new is. subst (IsPlace places left) (sym is) there) it.blocks;
  },
)

paid-if : (test : Bool) (one rest : Left) → test ≡ true → rest ≡ one → (if test then Some one else None) ≡ Some rest
paid-if true one rest is same = ap Some (sym same)
paid-if false one rest is same = absurd (false≢true is)

less-true : (n m : ℕ) → n < m → nat_lt n m ≡ true
less-true n m less = grind arith

paid-tried : (by : Sharing) (among : List Event) (places : List Place) (left : Left) (b : BoardState) (event : Event) →
    ((cpu : ℕ) → event ≡ Step cpu → ⊥) → IsPaid places left b event tried.Done → HasTried by among places left b event
paid-tried by among places left b (Step cpu) never it = absurd (never cpu refl)
paid-tried by among places left b Tick never it = λ rest pay.
    it rest (paid-if (nat_lt 0 left.ticks) (record left { ticks = left.ticks - 1 }) rest (less-true 0 left.ticks pay.1) pay.2)
paid-tried by among places left b (Raise line) never it = λ rest pay.
    it rest (paid-if (nat_lt 0 left.raises) (record left { raises = left.raises - 1; owed = left.owed - 1 }) rest
    (less-true 0 left.raises pay.1) pay.2)

pub paid-so : (by : Sharing) (among : List Event) (places : List Place) (left : Left) (b : BoardState) (event : Event) (it : Tried) →
    ((cpu : ℕ) → event ≡ Step cpu → ⊥) → IsPaid places left b event it → TriedSo by among places left b event it
paid-so by among places left b event tried.Done never so = λ set. paid-tried by among places left b event never so
paid-so by among places left b event tried.Fails never so = so
paid-so by among places left b event (tried.Strays cpu count) never so = tt
paid-so by among places left b event (tried.Unknown why) never so = tt

pub paid-result : (by : Sharing) (among : List Event) (places : List Place) (left : Left) (b : BoardState) (event : Event)
    (result : Result Tried NoMemory) → ((cpu : ℕ) → event ≡ Step cpu → ⊥) → IfOk result (IsPaid places left b event) →
    IfOk result (TriedSo by among places left b event)
paid-result by among places left b event (Ok it) never so = paid-so by among places left b event it never so
paid-result by among places left b event (Err fault) never so = tt

pub tick-step : (event : Event) → event ≡ Tick → (cpu : ℕ) → event ≡ Step cpu → ⊥
tick-step event tick cpu step = let wrong : Tick ≡ Step cpu = sym tick ∙ step in cc

pub raise-step : (event : Event) (line : ℕ) → event ≡ Raise line → (cpu : ℕ) → event ≡ Step cpu → ⊥
raise-step event line raise cpu step = let wrong : Raise line ≡ Step cpu = sym raise ∙ step in cc

-- A visit.

pub at-same : (places : List Place) (at : ℕ) (place : Place) (left : Left) (b : BoardState) → slice_get places at ≡ Some place → left ≡ place.left →
    b ≡ place.board → IsAt places at left b
at-same places at place left b is lefts boards =
    is ∙ sym (ap (λ l. Some (record { left = l; board = b })) lefts ∙ ap (λ x. Some (record { left = place.left; board = x })) boards)

pub tried-next : (by : Sharing) (among : List Event) (old new : List Place) (place : Place) (left : Left) (b : BoardState) (i : ℕ) (event : Event) →
    IsMore old new → left ≡ place.left → b ≡ place.board →
    (IsLinkSet place.board.links → HaveTried by among old place.left place.board i) →
    (IsLinkSet b.links → HasTried by among new left b event) → event ≡ get_or among i event → i < length among →
    IsLinkSet place.board.links → HaveTried by among new place.left place.board (i + 1)
tried-next by among old new place left b i event more lefts boards before here is within set k less =
    elim (less-or-same k i less) [
      | inl below ↦ tried-more by among old new place.left place.board (event_at among k) more (before set k below)
      | inr same ↦
          subst (λ n. HasTried by among new place.left place.board (event_at among n)) (sym same)
          (subst (HasTried by among new place.left place.board) (is ∙ get_or_default among i event Tick within)
          (subst (λ l. HasTried by among new l place.board event) lefts
          (subst (λ (x : BoardState). HasTried by among new left x event) boards (here (subst (λ (x : BoardState). IsLinkSet x.links) (sym boards) set)))))
    ]

-- A closed tree.

-- a place whose links are a set
abbrev pub IsGoodPlace : List Place → Left → BoardState → Type 0
IsGoodPlace places left b = IsPlace places left b × IsLinkSet b.links

at-place : (by : Sharing) (among : List Event) (wanted : Wanted) (places : List Place) (left : Left) (b : BoardState) →
    AreDone by among wanted places (length places) → IsPlace places left b → IsDone by among wanted places left b
at-place by among wanted places left b done it =
    done it.0 (slice_get_within places it.0 (record { left = left; board = b }) it.1) (record { left = left; board = b }) it.1

tried-at : (by : Sharing) (among : List Event) (wanted : Wanted) (places : List Place) (left : Left) (b : BoardState) (event : Event) →
    AreDone by among wanted places (length places) → IsGoodPlace places left b → IsAmong among event → HasTried by among places left b event
tried-at by among wanted places left b event done it is =
    subst (HasTried by among places left b) is.is ((at-place by among wanted places left b done it.0).tried it.1 is.at is.within)

step-same : (one two : ℕ) → Step one ≡ Step two → one ≡ two
step-same one two is = cc

of-step : (cpu : ℕ) → 1 ≤ cpu → cpu ≤ 8 → (other : ℕ) → Step cpu ≡ Step other → (1 ≤ other) × (other ≤ 8)
of-step cpu some few other is = subst (λ n. (1 ≤ n) × (n ≤ 8)) (step-same cpu other is) (some, few)

quiet-place : (law : LinkSetLaw) (by : Sharing) (among : List Event) (wanted : Wanted) (places : List Place) (left rest : Left) (b : BoardState)
    (event : Event) → AreDone by among wanted places (length places) → IsGoodPlace places left b → pays among left event rest → IsQuiet b event →
    IsGoodPlace places rest (happens b event).board
quiet-place law by among wanted places left rest b (Step cpu) done it pay quiet =
    let did = tried-at by among wanted places left b (Step cpu) done it pay.1 in (
      subst (λ l. IsPlace places l (happens b (Step cpu)).board) (sym pay.0) (did.2.quiet quiet),
      law b (Step cpu) (of-step cpu did.0 did.1) it.1,
    )
quiet-place law by among wanted places left rest b Tick done it pay quiet =
    (tried-at by among wanted places left b Tick done it pay.0 rest pay, law b Tick (λ cpu is. absurd (tick-step Tick refl cpu is)) it.1)
quiet-place law by among wanted places left rest b (Raise line) done it pay quiet = (
  tried-at by among wanted places left b (Raise line) done it pay.0 rest pay,
  law b (Raise line) (λ cpu is. absurd (raise-step (Raise line) line refl cpu is)) it.1,
)

block-place : (law : LinkSetLaw) (by : Sharing) (among : List Event) (wanted : Wanted) (places : List Place) (left : Left) (b : BoardState)
    (cpu : ℕ) → AreDone by among wanted places (length places) → IsGoodPlace places left b → pays among left (Step cpu) left →
    Blocks by b cpu (IsGoodPlace places left)
block-place law by among wanted places left b cpu done it pay middle who count next path =
    let did = tried-at by among wanted places left b (Step cpu) done it pay.1 in
    let found = did.2.blocks middle who count next path in
    elim found.1 [
      | inl seen ↦ (found.0, inl seen)
      | inr ends ↦ (
        found.0,
        inr (
          (
            ends.0,
            law middle (Step cpu) (of-step cpu did.0 did.1) (subst IsLinkSet (sym (like-path by b middle who count path).links) it.1),
          ),
          ends.1,
        ),
      )
    ]

pub closed : (law : LinkSetLaw) (by : Sharing) (among : List Event) (wanted : Wanted) (places : List Place) → Guards by wanted →
    AreDone by among wanted places (length places) → IsClosed by among wanted (IsGoodPlace places)
closed law by among wanted places guards done = record {
  tree = record {
    steps = λ left rest cpu pay. pay.0;
    contexts = λ left b cpu who it pay on. ((tried-at by among wanted places left b (Step cpu) done it pay.1).2.well who on).place;
    steady = λ left b cpu who it pay on. ((tried-at by among wanted places left b (Step cpu) done it pay.1).2.well who on).steady;
    live = λ left b cpu id it pay on.
        ((tried-at by among wanted places left b (Step cpu) done it pay.1).2.well (executor.Task id) on).live id refl;
    quiet = λ left rest b event it pay quiet. quiet-place law by among wanted places left rest b event done it pay quiet;
    blocks = λ left b middle cpu who count it pay next path. block-place law by among wanted places left b cpu done it pay middle who count next path;
  };
  guards = guards;
  holds = λ left b it. (at-place by among wanted places left b done it.0).holds;
}
