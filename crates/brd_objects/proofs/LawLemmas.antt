-- Who is released by a pattern, and what data queues keep.
use Rattle.std.proofs.Common.{◌≡◌, ◌≢◌, ◌<◌, ℕ, List, [], ◌∷◌, ◌++◌, map, refl, sym, ap, subst, ◌∙◌, arith}
use Rattle.std.specs.Prelude.{Bool, true, false, not, if◌then◌else◌, filter, Option, None, Some, nat_lt, length}
use Rattle.std.specs.Option.{option_map}
use Rattle.std.proofs.lemmas.Bool.{cond_both}
use Rattle.std.proofs.lemmas.Bool.Decides.{nat_tests}
use Rattle.brd_queue.specs.declared.entry.QueueEntry.{QueueEntry}
use Rattle.brd_queue.specs.Queue.{Plain}
use Rattle.brd_objects.specs.declared.want.Mode.{Mode}
use Rattle.brd_objects.specs.declared.want.Mode.TheVariants as modes
use Rattle.brd_objects.specs.declared.want.Want.{Want}
use Rattle.brd_objects.specs.declared.flag.Flag.{Flag}
use Rattle.brd_objects.specs.declared.sent.Received.{Received}
use Rattle.brd_objects.specs.declared.sent.Sent.TheVariants.{Handed, Stored, Full}
use Rattle.brd_objects.specs.Waiters.{has_bits, satisfies, first_satisfied, without_satisfied, WantBits}
use Rattle.brd_objects.specs.Flags.{released_of, kept_of, pattern_after, all_released, with_all_released, released_to, next_released, with_next_released}
use Rattle.brd_objects.specs.DataQueues.{DataQueueState, sent_to, sent, outcome_to, outcome, received_by, received, receipt_by, receipt, contents}

-- Without TA_CLR.

released-by : (holds : Bool) (e : QueueEntry Want) (ids : List ℕ) (es : List (QueueEntry Want)) → ids ≡ map (λ x. x.id) es → (if holds then e.id ∷ ids else ids) ≡ map (λ x. x.id) (if holds then e ∷ es else es)
released-by true e ids es others = ap (λ l. e.id ∷ l) others
released-by false e ids es others = others

pub released-all : (p : ℕ) (ws : List (QueueEntry Want)) → released_of false p ws ≡ map (λ e. e.id) (filter (λ e. satisfies p e.wanted) ws)
released-all p [] = refl
released-all p (w ∷ ws) = released-by (satisfies p w.wanted) w (released_of false p ws) (filter (λ e. satisfies p e.wanted) ws) (released-all p ws)

kept-by : (holds : Bool) (e : QueueEntry Want) (kept es : List (QueueEntry Want)) → kept ≡ es → (if holds then kept else e ∷ kept) ≡ (if not holds then e ∷ es else es)
kept-by true e kept es others = others
kept-by false e kept es others = ap (λ l. e ∷ l) others

pub kept-all : (p : ℕ) (ws : List (QueueEntry Want)) → kept_of false p ws ≡ filter (λ e. not (satisfies p e.wanted)) ws
kept-all p [] = refl
kept-all p (w ∷ ws) = kept-by (satisfies p w.wanted) w (kept_of false p ws) (filter (λ e. not (satisfies p e.wanted)) ws) (kept-all p ws)

pub pattern-stays : (p : ℕ) (ws : List (QueueEntry Want)) → pattern_after false p ws ≡ p
pattern-stays p [] = refl
pattern-stays p (w ∷ ws) = pattern-stays p ws

-- With TA_CLR.

-- what is true of a waiting list of which one waiter is released
record IsOne (p : ℕ) (ws : List (QueueEntry Want)) (e : QueueEntry Want) : Type 0 where
  released : released_of true p ws ≡ e.id ∷ []
  kept : kept_of true p ws ≡ without_satisfied p ws
  pattern : pattern_after true p ws ≡ 0

one-by : (holds : Bool) (p : ℕ) (w : QueueEntry Want) (ws : List (QueueEntry Want)) (e : QueueEntry Want) → satisfies p w.wanted ≡ holds → (if holds then Some w else first_satisfied p ws) ≡ Some e →
    (first_satisfied p ws ≡ Some e → IsOne p ws e) → IsOne p (w ∷ ws) e
one-by true p w ws e test is others =
    let same : w ≡ e = cc in
    record {
      released = ap (λ t. if t then w.id ∷ [] else released_of true p ws) test ∙ ap (λ x. x.id ∷ []) same;
      kept = ap (λ t. if t then ws else w ∷ kept_of true p ws) test ∙ sym (ap (λ t. if t then ws else w ∷ without_satisfied p ws) test);
      pattern = ap (λ t. if t then 0 else pattern_after true p ws) test;
    }
one-by false p w ws e test is others =
    let rest : IsOne p ws e = others is in
    record {
      released = ap (λ t. if t then w.id ∷ [] else released_of true p ws) test ∙ rest.released;
      kept = ap (λ t. if t then ws else w ∷ kept_of true p ws) test ∙ ap (λ l. w ∷ l) rest.kept ∙ sym (ap (λ t. if t then ws else w ∷ without_satisfied p ws) test);
      pattern = ap (λ t. if t then 0 else pattern_after true p ws) test ∙ rest.pattern;
    }

one-all : (p : ℕ) (ws : List (QueueEntry Want)) (e : QueueEntry Want) → first_satisfied p ws ≡ Some e → IsOne p ws e
one-all p [] e is = let wrong : ⊥ = cc in absurd wrong
one-all p (w ∷ ws) e is = one-by (satisfies p w.wanted) p w ws e refl is (one-all p ws e)

pub one-released : (p : ℕ) (ws : List (QueueEntry Want)) (e : QueueEntry Want) → first_satisfied p ws ≡ Some e →
    (released_of true p ws ≡ e.id ∷ []) × (kept_of true p ws ≡ without_satisfied p ws) × (pattern_after true p ws ≡ 0)
one-released p ws e is = let one : IsOne p ws e = one-all p ws e is in (one.released, one.kept, one.pattern)

-- Nobody.

record IsNone (clears : Bool) (p : ℕ) (ws : List (QueueEntry Want)) : Type 0 where
  released : released_of clears p ws ≡ []
  kept : kept_of clears p ws ≡ ws
  pattern : pattern_after clears p ws ≡ p

past : (clears : Bool) (p : ℕ) (w : QueueEntry Want) (ws : List (QueueEntry Want)) → satisfies p w.wanted ≡ false → IsNone clears p ws → IsNone clears p (w ∷ ws)
past true p w ws test rest = record {
  released = ap (λ t. if t then w.id ∷ [] else released_of true p ws) test ∙ rest.released;
  kept = ap (λ t. if t then ws else w ∷ kept_of true p ws) test ∙ ap (λ l. w ∷ l) rest.kept;
  pattern = ap (λ t. if t then 0 else pattern_after true p ws) test ∙ rest.pattern;
}
past false p w ws test rest = record {
  released = ap (λ t. if t then w.id ∷ released_of false p ws else released_of false p ws) test ∙ rest.released;
  kept = ap (λ t. if t then kept_of false p ws else w ∷ kept_of false p ws) test ∙ ap (λ l. w ∷ l) rest.kept;
  pattern = rest.pattern;
}

none-by : (holds : Bool) (clears : Bool) (p : ℕ) (w : QueueEntry Want) (ws : List (QueueEntry Want)) → satisfies p w.wanted ≡ holds → (if holds then Some w else first_satisfied p ws) ≡ None →
    (first_satisfied p ws ≡ None → IsNone clears p ws) → IsNone clears p (w ∷ ws)
none-by true clears p w ws test is others = let wrong : ⊥ = cc in absurd wrong
none-by false clears p w ws test is others = past clears p w ws test (others is)

none-all : (clears : Bool) (p : ℕ) (ws : List (QueueEntry Want)) → first_satisfied p ws ≡ None → IsNone clears p ws
none-all clears p [] is = record { released = refl; kept = refl; pattern = refl }
none-all clears p (w ∷ ws) is = none-by (satisfies p w.wanted) clears p w ws refl is (none-all clears p ws)

pub none-released : (clears : Bool) (p : ℕ) (ws : List (QueueEntry Want)) → first_satisfied p ws ≡ None →
    (released_of clears p ws ≡ []) × (kept_of clears p ws ≡ ws) × (pattern_after clears p ws ≡ p)
none-released clears p ws is = let none : IsNone clears p ws = none-all clears p ws is in (none.released, none.kept, none.pattern)

-- One after the other.

none-has : (mode : Mode) (bits : ℕ) → bits ≢ 0 → has_bits mode 0 bits ≡ false
none-has modes.All bits some = grind (arith, nat_tests, some)
none-has modes.Any bits some = refl

-- a pattern of no bits satisfies nobody who wants some
pub unsatisfied : (want : Want) → want.bits ≢ 0 → satisfies 0 want ≡ false
unfolding satisfies
unsatisfied want some = none-has want.mode want.bits some

nobody-at-all : (ws : List (QueueEntry Want)) → WantBits ws → first_satisfied 0 ws ≡ None
nobody-at-all [] bits = refl
nobody-at-all (w ∷ ws) bits = ap (λ t. if t then Some w else first_satisfied 0 ws) (unsatisfied w.wanted bits.0) ∙ nobody-at-all ws bits.1

bits-left : (p : ℕ) (ws : List (QueueEntry Want)) → WantBits ws → WantBits (without_satisfied p ws)
bits-left p [] bits = tt
bits-left p (w ∷ ws) bits = cond_both (satisfies p w.wanted) _ _ WantBits (λ is. bits.1) (λ not. (bits.0, bits-left p ws bits.1))

record IsNext (p : ℕ) (ws : List (QueueEntry Want)) (e : QueueEntry Want) : Type 0 where
  released : released_of false p ws ≡ e.id ∷ released_of false p (without_satisfied p ws)
  kept : kept_of false p ws ≡ kept_of false p (without_satisfied p ws)

next-by : (holds : Bool) (p : ℕ) (w : QueueEntry Want) (ws : List (QueueEntry Want)) (e : QueueEntry Want) → satisfies p w.wanted ≡ holds → (if holds then Some w else first_satisfied p ws) ≡ Some e →
    (first_satisfied p ws ≡ Some e → IsNext p ws e) → IsNext p (w ∷ ws) e
next-by true p w ws e test is others =
    let same : w ≡ e = cc in
    let rest : without_satisfied p (w ∷ ws) ≡ ws = ap (λ t. if t then ws else w ∷ without_satisfied p ws) test in
    record {
      released = ap (λ t. if t then w.id ∷ released_of false p ws else released_of false p ws) test ∙ ap (λ x. x.id ∷ released_of false p ws) same
          ∙ ap (λ l. e.id ∷ released_of false p l) (sym rest);
      kept = ap (λ t. if t then kept_of false p ws else w ∷ kept_of false p ws) test ∙ ap (kept_of false p) (sym rest);
    }
next-by false p w ws e test is others =
    let rest : without_satisfied p (w ∷ ws) ≡ w ∷ without_satisfied p ws = ap (λ t. if t then ws else w ∷ without_satisfied p ws) test in
    let next : IsNext p ws e = others is in
    record {
      released = ap (λ t. if t then w.id ∷ released_of false p ws else released_of false p ws) test ∙ next.released
          ∙ sym (ap (λ l. e.id ∷ released_of false p l) rest
          ∙ ap (λ t. e.id ∷ (if t then w.id ∷ released_of false p (without_satisfied p ws) else released_of false p (without_satisfied p ws))) test);
      kept = ap (λ t. if t then kept_of false p ws else w ∷ kept_of false p ws) test ∙ ap (λ l. w ∷ l) next.kept
          ∙ sym (ap (kept_of false p) rest ∙ ap (λ t. if t then kept_of false p (without_satisfied p ws) else w ∷ kept_of false p (without_satisfied p ws)) test);
    }

next-all : (p : ℕ) (ws : List (QueueEntry Want)) (e : QueueEntry Want) → first_satisfied p ws ≡ Some e → IsNext p ws e
next-all p [] e is = let wrong : ⊥ = cc in absurd wrong
next-all p (w ∷ ws) e is = next-by (satisfies p w.wanted) p w ws e refl is (next-all p ws e)

abbrev Turns : Flag → ℕ → ℕ → Flag → Type 0
Turns f id pattern next = (pattern ≡ f.pattern) × (all_released f ≡ id ∷ all_released next) × (with_all_released f ≡ with_all_released next)

-- the parts of a flag
abbrev flag-is : Flag → ℕ → List (QueueEntry Want) → Flag
flag-is f pattern waiters = record f { pattern = pattern; waiters = waiters }

turn-by : (clears : Bool) (f : Flag) (e : QueueEntry Want) → f.clears ≡ clears → WantBits f.waiters → first_satisfied f.pattern f.waiters ≡ Some e → Turns f e.id f.pattern (released_to f (Some e))
turn-by true f e mode bits is =
    let one : IsOne f.pattern f.waiters e = one-all f.pattern f.waiters e is in
    let left : List (QueueEntry Want) = without_satisfied f.pattern f.waiters in
    let none : IsNone true 0 left = none-all true 0 left (nobody-at-all left (bits-left f.pattern f.waiters bits)) in
    let now : (if f.clears then 0 else f.pattern) ≡ 0 = ap (λ c. if c then 0 else f.pattern) mode in (
      refl,
      ap (λ c. released_of c f.pattern f.waiters) mode ∙ one.released
          ∙ ap (λ l. e.id ∷ l) (sym (ap (λ c. released_of c (if f.clears then 0 else f.pattern) left) mode ∙ ap (λ p. released_of true p left) now ∙ none.released)),
      ap (λ p. flag-is f p (kept_of f.clears f.pattern f.waiters))
          (ap (λ c. pattern_after c f.pattern f.waiters) mode ∙ one.pattern
          ∙ sym (ap (λ c. pattern_after c (if f.clears then 0 else f.pattern) left) mode ∙ ap (λ p. pattern_after true p left) now ∙ none.pattern))
          ∙ ap (flag-is f (pattern_after f.clears (if f.clears then 0 else f.pattern) left))
          (ap (λ c. kept_of c f.pattern f.waiters) mode ∙ one.kept
          ∙ sym (ap (λ c. kept_of c (if f.clears then 0 else f.pattern) left) mode ∙ ap (λ p. kept_of true p left) now ∙ none.kept)),
    )
turn-by false f e mode bits is =
    let next : IsNext f.pattern f.waiters e = next-all f.pattern f.waiters e is in
    let left : List (QueueEntry Want) = without_satisfied f.pattern f.waiters in
    let now : (if f.clears then 0 else f.pattern) ≡ f.pattern = ap (λ c. if c then 0 else f.pattern) mode in (
      refl,
      ap (λ c. released_of c f.pattern f.waiters) mode ∙ next.released
          ∙ ap (λ l. e.id ∷ l) (sym (ap (λ c. released_of c (if f.clears then 0 else f.pattern) left) mode ∙ ap (λ p. released_of false p left) now)),
      ap (λ p. flag-is f p (kept_of f.clears f.pattern f.waiters))
          (ap (λ c. pattern_after c f.pattern f.waiters) mode ∙ pattern-stays f.pattern f.waiters
          ∙ sym (ap (λ c. pattern_after c (if f.clears then 0 else f.pattern) left) mode ∙ ap (λ p. pattern_after false p left) now ∙ pattern-stays f.pattern left))
          ∙ ap (flag-is f (pattern_after f.clears (if f.clears then 0 else f.pattern) left))
          (ap (λ c. kept_of c f.pattern f.waiters) mode ∙ next.kept
          ∙ sym (ap (λ c. kept_of c (if f.clears then 0 else f.pattern) left) mode ∙ ap (λ p. kept_of false p left) now)),
    )

turn-of : (f : Flag) (found : Option (QueueEntry Want)) (id pattern : ℕ) → WantBits f.waiters → first_satisfied f.pattern f.waiters ≡ found →
    option_map {U = ℕ × ℕ} (λ e. (e.id, f.pattern)) found ≡ Some (id, pattern) → Turns f id pattern (released_to f found)
turn-of f None id pattern bits is next = let wrong : ⊥ = cc in absurd wrong
turn-of f (Some e) id pattern bits is next =
    let pair : ◌≡◌ {A = ℕ × ℕ} (e.id, f.pattern) (id, pattern) = cc in
    subst (λ q. Turns f q.0 q.1 (released_to f (Some e))) pair (turn-by f.clears f e refl bits is)

pub turn : (f : Flag) (id pattern : ℕ) → WantBits f.waiters → next_released f ≡ Some (id, pattern) → Turns f id pattern (with_next_released f)
turn f id pattern bits next = turn-of f (first_satisfied f.pattern f.waiters) id pattern bits refl next

ended-of : (f : Flag) (found : Option (QueueEntry Want)) → first_satisfied f.pattern f.waiters ≡ found → option_map {U = ℕ × ℕ} (λ e. (e.id, f.pattern)) found ≡ None →
    (all_released f ≡ []) × (with_all_released f ≡ f)
ended-of f (Some e) is next = let wrong : ⊥ = cc in absurd wrong
ended-of f None is next =
    let none : IsNone f.clears f.pattern f.waiters = none-all f.clears f.pattern f.waiters is in
    (none.released, ap (λ p. flag-is f p (kept_of f.clears f.pattern f.waiters)) none.pattern ∙ ap (flag-is f f.pattern) none.kept)

pub ended : (f : Flag) → next_released f ≡ None → (all_released f ≡ []) × (with_all_released f ≡ f)
ended f next = ended-of f (first_satisfied f.pattern f.waiters) refl next

-- Who is released later has the same pattern: under TA_CLR nobody is.

second-by : {A : Type 0} → (clears : Bool) (f : Flag) (g : List ℕ → ℕ → A) → ((p q : ℕ) → g [] p ≡ g [] q) → f.clears ≡ clears → WantBits f.waiters →
    g (released_of f.clears (if f.clears then 0 else f.pattern) (without_satisfied f.pattern f.waiters)) (if f.clears then 0 else f.pattern)
    ≡ g (released_of f.clears (if f.clears then 0 else f.pattern) (without_satisfied f.pattern f.waiters)) f.pattern
second-by true f g same mode bits =
    let left : List (QueueEntry Want) = without_satisfied f.pattern f.waiters in
    let none : IsNone true 0 left = none-all true 0 left (nobody-at-all left (bits-left f.pattern f.waiters bits)) in
    let now : (if f.clears then 0 else f.pattern) ≡ 0 = ap (λ c. if c then 0 else f.pattern) mode in
    let nobody : released_of f.clears (if f.clears then 0 else f.pattern) left ≡ [] =
    ap (λ c. released_of c (if f.clears then 0 else f.pattern) left) mode ∙ ap (λ p. released_of true p left) now ∙ none.released in
    ap (λ l. g l (if f.clears then 0 else f.pattern)) nobody ∙ same (if f.clears then 0 else f.pattern) f.pattern ∙ sym (ap (λ l. g l f.pattern) nobody)
second-by false f g same mode bits =
    ap (g (released_of f.clears (if f.clears then 0 else f.pattern) (without_satisfied f.pattern f.waiters))) (ap (λ c. if c then 0 else f.pattern) mode)

second-of : {A : Type 0} → (f : Flag) (found : Option (QueueEntry Want)) (id pattern : ℕ) (g : List ℕ → ℕ → A) → ((p q : ℕ) → g [] p ≡ g [] q) → WantBits f.waiters →
    option_map {U = ℕ × ℕ} (λ e. (e.id, f.pattern)) found ≡ Some (id, pattern) → g (all_released (released_to f found)) (released_to f found).pattern ≡ g (all_released (released_to f found)) f.pattern
second-of f None id pattern g same bits next = let wrong : ⊥ = cc in absurd wrong
second-of f (Some e) id pattern g same bits next = second-by f.clears f g same refl bits

pub second : {A : Type 0} → (f : Flag) (id pattern : ℕ) (g : List ℕ → ℕ → A) → ((p q : ℕ) → g [] p ≡ g [] q) → WantBits f.waiters → next_released f ≡ Some (id, pattern) →
    g (all_released (with_next_released f)) (with_next_released f).pattern ≡ g (all_released (with_next_released f)) f.pattern
second f id pattern g same bits next = second-of f (first_satisfied f.pattern f.waiters) id pattern g same bits next

-- who is released no longer waits

shorter-by : (holds : Bool) (w : QueueEntry Want) (ws rest : List (QueueEntry Want)) → (holds ≡ false → length rest < length ws) → length (if holds then ws else w ∷ rest) < length (w ∷ ws)
shorter-by true w ws rest less = omega arith
shorter-by false w ws rest less = omega (arith, less refl)

found-in : (holds : Bool) (w : QueueEntry Want) (rest : Option (QueueEntry Want)) (e : QueueEntry Want) → holds ≡ false → (if holds then Some w else rest) ≡ Some e → rest ≡ Some e
found-in true w rest e test is = let wrong : ⊥ = cc in absurd wrong
found-in false w rest e test is = is

shorter-all : (p : ℕ) (ws : List (QueueEntry Want)) (e : QueueEntry Want) → first_satisfied p ws ≡ Some e → length (without_satisfied p ws) < length ws
shorter-all p [] e is = let wrong : ⊥ = cc in absurd wrong
shorter-all p (w ∷ ws) e is =
    shorter-by (satisfies p w.wanted) w ws (without_satisfied p ws) (λ test. shorter-all p ws e (found-in (satisfies p w.wanted) w (first_satisfied p ws) e test is))

shorter-of : (f : Flag) (found : Option (QueueEntry Want)) (id pattern : ℕ) → first_satisfied f.pattern f.waiters ≡ found → option_map {U = ℕ × ℕ} (λ e. (e.id, f.pattern)) found ≡ Some (id, pattern) →
    length (released_to f found).waiters < length f.waiters
shorter-of f None id pattern is next = let wrong : ⊥ = cc in absurd wrong
shorter-of f (Some e) id pattern is next = shorter-all f.pattern f.waiters e is

pub shorter : (f : Flag) (id pattern : ℕ) → next_released f ≡ Some (id, pattern) → length (with_next_released f).waiters < length f.waiters
shorter f id pattern next = shorter-of f (first_satisfied f.pattern f.waiters) id pattern refl next

-- Data queues.

abbrev all-of : List ℕ → List (QueueEntry ℕ) → List ℕ
all-of stored senders = stored ++ map (λ e. e.wanted) senders

moved-up : (newer : List ℕ) (first : QueueEntry ℕ) (others : List (QueueEntry ℕ)) → all-of newer (first ∷ others) ≡ all-of (newer ++ first.wanted ∷ []) others
moved-up [] first others = refl
moved-up (n ∷ newer) first others = ap (λ l. n ∷ l) (moved-up newer first others)

received-of : (q : DataQueueState) (stored : List ℕ) (senders : List (QueueEntry ℕ)) (r : Received) → q.stored ≡ stored → q.senders ≡ senders → receipt_by stored senders ≡ Some r →
    all-of stored senders ≡ r.datum ∷ contents (received_by q stored senders)
received-of q [] [] r data_is senders_are is = let wrong : ⊥ = cc in absurd wrong
received-of q [] (first ∷ others) r data_is senders_are is =
    let one : record { datum = first.wanted; sender = Some first.id } ≡ r = cc in
    ap (λ x. x.datum ∷ map (λ e. e.wanted) others) one ∙ ap (λ s. r.datum ∷ all-of s others) (sym data_is)
received-of q (oldest ∷ newer) [] r data_is senders_are is =
    let one : record { datum = oldest; sender = None } ≡ r = cc in
    ap (λ x. x.datum ∷ all-of newer []) one ∙ ap (λ s. r.datum ∷ all-of newer s) (sym senders_are)
received-of q (oldest ∷ newer) (first ∷ others) r data_is senders_are is =
    let one : record { datum = oldest; sender = Some first.id } ≡ r = cc in
    ap (λ l. oldest ∷ l) (moved-up newer first others) ∙ ap (λ x. x.datum ∷ all-of (newer ++ first.wanted ∷ []) others) one

pub received-first : (q : DataQueueState) (r : Received) → receipt q ≡ Some r → contents q ≡ r.datum ∷ contents (received q)
received-first q r is = received-of q q.stored q.senders r refl refl is

empty-of : (q : DataQueueState) (stored : List ℕ) (senders : List (QueueEntry ℕ)) → receipt_by stored senders ≡ None → (all-of stored senders ≡ []) × (received_by q stored senders ≡ q)
empty-of q [] [] is = (refl, refl)
empty-of q [] (first ∷ others) is = let wrong : ⊥ = cc in absurd wrong
empty-of q (oldest ∷ newer) [] is = let wrong : ⊥ = cc in absurd wrong
empty-of q (oldest ∷ newer) (first ∷ others) is = let wrong : ⊥ = cc in absurd wrong

pub empty : (q : DataQueueState) → receipt q ≡ None → (contents q ≡ []) × (received q ≡ q)
empty q is = empty-of q q.stored q.senders is

-- what a datum that was sent has become
abbrev sent-by : (q : DataQueueState) (room : Bool) (datum : ℕ) → DataQueueState
sent-by q room datum = if room then record q { stored = q.stored ++ datum ∷ [] } else q

behind : (stored : List ℕ) (datum : ℕ) (others : List ℕ) → (stored ++ datum ∷ []) ++ others ≡ stored ++ datum ∷ others
behind [] datum others = refl
behind (s ∷ stored) datum others = ap (λ l. s ∷ l) (behind stored datum others)

stored-by : (q : DataQueueState) (room : Bool) (datum : ℕ) → (if room then Stored else Full) ≡ Stored → contents (sent-by q room datum) ≡ q.stored ++ datum ∷ map (λ e. e.wanted) q.senders
stored-by q true datum is = behind q.stored datum (map (λ e. e.wanted) q.senders)
stored-by q false datum is = let wrong : ⊥ = cc in absurd wrong

stored-of : (q : DataQueueState) (receivers : List Plain) (datum : ℕ) → outcome_to q receivers ≡ Stored → contents (sent_to datum q receivers) ≡ q.stored ++ datum ∷ map (λ e. e.wanted) q.senders
stored-of q [] datum is = stored-by q (nat_lt (length q.stored) q.capacity) datum is
stored-of q (first ∷ others) datum is = let wrong : ⊥ = cc in absurd wrong

pub stored : (q : DataQueueState) (datum : ℕ) → outcome q ≡ Stored → contents (sent datum q) ≡ q.stored ++ datum ∷ map (λ e. e.wanted) q.senders
stored q datum is = stored-of q q.receivers datum is

handed-by : (q : DataQueueState) (room : Bool) (datum id : ℕ) → (if room then Stored else Full) ≡ Handed id → contents (sent-by q room datum) ≡ contents q
handed-by q true datum id is = let wrong : ⊥ = cc in absurd wrong
handed-by q false datum id is = refl

handed-of : (q : DataQueueState) (receivers : List Plain) (datum id : ℕ) → outcome_to q receivers ≡ Handed id → contents (sent_to datum q receivers) ≡ contents q
handed-of q [] datum id is = handed-by q (nat_lt (length q.stored) q.capacity) datum id is
handed-of q (first ∷ others) datum id is = refl

pub handed : (q : DataQueueState) (datum id : ℕ) → outcome q ≡ Handed id → contents (sent datum q) ≡ contents q
handed q datum id is = handed-of q q.receivers datum id is

full-by : (q : DataQueueState) (room : Bool) (datum : ℕ) → (if room then Stored else Full) ≡ Full → sent-by q room datum ≡ q
full-by q true datum is = let wrong : ⊥ = cc in absurd wrong
full-by q false datum is = refl

full-of : (q : DataQueueState) (receivers : List Plain) (datum : ℕ) → outcome_to q receivers ≡ Full → sent_to datum q receivers ≡ q
full-of q [] datum is = full-by q (nat_lt (length q.stored) q.capacity) datum is
full-of q (first ∷ others) datum is = let wrong : ⊥ = cc in absurd wrong

pub full : (q : DataQueueState) (datum : ℕ) → outcome q ≡ Full → sent datum q ≡ q
full q datum is = full-of q q.receivers datum is
