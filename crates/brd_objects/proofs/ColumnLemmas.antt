-- What waiters want, in columns: when one comes or leaves, and the first whose wait a pattern satisfies.
use Rattle.std.proofs.Common.{◌≡◌, ◌<◌, ℕ, zero, suc, List, [], ◌∷◌, length, map, get_or, refl, sym, ap, subst, ◌∙◌, arith}
use Rattle.std.specs.Prelude.{Bool, true, false, ◌==◌, if◌then◌else◌, insert, remove, slice_get, find, None, Some}
use Rattle.std.proofs.lemmas.List.{length-map, get_or-map}
use Rattle.brd_lanes.specs.Scan.{IsLeastAt, NoneBetween, is_satisfied, is_satisfied_at}
use Rattle.brd_queue.specs.declared.entry.QueueEntry.{QueueEntry}
use Rattle.brd_queue.specs.Queue.{with_priority, renumbered}
use Rattle.brd_objects.specs.declared.want.Mode.{Mode}
use Rattle.brd_objects.specs.declared.want.Mode.TheVariants as modes
use Rattle.brd_objects.specs.declared.want.Want.{Want}
use Rattle.brd_objects.specs.Waiters.{satisfies, first_satisfied, without_satisfied}
use Rattle.brd_objects.specs.Columns.{mode_word, bits_of, modes_of, AreColumns}

map-insert : {A B : Type 0} → (f : A → B) (i : ℕ) (xs : List A) (x : A) → map f (insert xs i x) ≡ insert (map f xs) i (f x)
map-insert f zero xs x = refl
map-insert f (suc i) [] x = refl
map-insert f (suc i) (y ∷ ys) x = ap (λ l. f y ∷ l) (map-insert f i ys x)

map-remove : {A B : Type 0} → (f : A → B) (i : ℕ) (xs : List A) → map f (remove xs i) ≡ remove (map f xs) i
map-remove f zero [] = refl
map-remove f (suc i) [] = refl
map-remove f zero (y ∷ ys) = refl
map-remove f (suc i) (y ∷ ys) = ap (λ l. f y ∷ l) (map-remove f i ys)

pub columns-entered : (xs new : List (QueueEntry Want)) (ps ms patterns modes : List ℕ) (at : ℕ) (e : QueueEntry Want) (word : ℕ) → AreColumns xs ps ms → new ≡ insert xs at e →
    patterns ≡ insert ps at e.wanted.bits → word ≡ mode_word e.wanted.mode → modes ≡ insert ms at word → AreColumns new patterns modes
columns-entered xs new ps ms patterns modes at e word are new_is bits_are word_is modes_are = record {
  bits_are = bits_are ∙ ap (λ l. insert l at e.wanted.bits) are.bits_are ∙ sym (map-insert (λ x. x.wanted.bits) at xs e) ∙ ap bits_of (sym new_is);
  modes_are = modes_are ∙ ap (λ l. insert l at word) are.modes_are ∙ ap (λ w. insert (modes_of xs) at w) word_is ∙ sym (map-insert (λ x. mode_word x.wanted.mode) at xs e) ∙ ap modes_of (sym new_is);
}

pub columns-left : (xs new : List (QueueEntry Want)) (ps ms patterns modes : List ℕ) (at : ℕ) → AreColumns xs ps ms → new ≡ remove xs at →
    patterns ≡ remove ps at → modes ≡ remove ms at → AreColumns new patterns modes
columns-left xs new ps ms patterns modes at are new_is bits_are modes_are = record {
  bits_are = bits_are ∙ ap (λ l. remove l at) are.bits_are ∙ sym (map-remove (λ x. x.wanted.bits) at xs) ∙ ap bits_of (sym new_is);
  modes_are = modes_are ∙ ap (λ l. remove l at) are.modes_are ∙ sym (map-remove (λ x. mode_word x.wanted.mode) at xs) ∙ ap modes_of (sym new_is);
}

pub columns-same : (xs new : List (QueueEntry Want)) (ps ms : List ℕ) → AreColumns xs ps ms → new ≡ xs → AreColumns new ps ms
columns-same xs new ps ms are same = subst (λ l. AreColumns l ps ms) (sym same) are

-- the first that a pattern satisfies

satisfied-by : (pattern : ℕ) (mode : Mode) (bits : ℕ) → satisfies pattern (record { bits = bits; mode = mode }) ≡ is_satisfied pattern (mode_word mode) bits
unfolding satisfies is_satisfied
satisfied-by pattern modes.All bits = refl
satisfied-by pattern modes.Any bits = refl

satisfied-at : (pattern : ℕ) (xs : List (QueueEntry Want)) (ps ms : List ℕ) (i : ℕ) (d : QueueEntry Want) → AreColumns xs ps ms → i < length xs →
    is_satisfied_at ps ms pattern i ≡ satisfies pattern (get_or xs i d).wanted
satisfied-at pattern xs ps ms i d are within =
    ap (λ l. is_satisfied pattern (get_or ms i 0) (get_or l i 0)) are.bits_are
    ∙ ap (λ l. is_satisfied pattern (get_or l i 0) (get_or (bits_of xs) i 0)) are.modes_are
    ∙ ap (λ w. is_satisfied pattern w (get_or (bits_of xs) i 0)) (get_or-map (λ e. mode_word e.wanted.mode) xs i d 0 within)
    ∙ ap (λ b. is_satisfied pattern (mode_word (get_or xs i d).wanted.mode) b) (get_or-map (λ e. e.wanted.bits) xs i d 0 within)
    ∙ sym (satisfied-by pattern (get_or xs i d).wanted.mode (get_or xs i d).wanted.bits)

none-found : {A : Type 0} → (test : A → Bool) (xs : List A) (d : A) → ((k : ℕ) → k < length xs → test (get_or xs k d) ≡ false) → find test xs ≡ None
none-found test [] d none = refl
none-found test (x ∷ xs) d none =
    ap (λ t. if t then Some x else find test xs) (none 0 (omega arith)) ∙ none-found test xs d (λ k within. none (suc k) (omega (arith, within)))

some-found : {A : Type 0} → (test : A → Bool) (xs : List A) (d : A) (i : ℕ) → i < length xs → test (get_or xs i d) ≡ true → ((k : ℕ) → k < i → test (get_or xs k d) ≡ false) →
    find test xs ≡ Some (get_or xs i d)
some-found test [] d i within holds none = let wrong : ⊥ = omega (arith, within) in absurd wrong
some-found test (x ∷ xs) d zero within holds none = ap (λ t. if t then Some x else find test xs) holds
some-found test (x ∷ xs) d (suc i) within holds none =
    ap (λ t. if t then Some x else find test xs) (none 0 (omega arith)) ∙ some-found test xs d i (omega (arith, within)) holds (λ k below. none (suc k) (omega (arith, below)))

nobody-leaves-by : (holds : Bool) (pattern : ℕ) (x : QueueEntry Want) (xs : List (QueueEntry Want)) → (if holds then Some x else first_satisfied pattern xs) ≡ None →
    (first_satisfied pattern xs ≡ None → without_satisfied pattern xs ≡ xs) → (if holds then xs else x ∷ without_satisfied pattern xs) ≡ x ∷ xs
nobody-leaves-by true pattern x xs none rest = let wrong : ⊥ = cc in absurd wrong
nobody-leaves-by false pattern x xs none rest = ap (λ l. x ∷ l) (rest none)

nobody-leaves : (pattern : ℕ) (xs : List (QueueEntry Want)) → first_satisfied pattern xs ≡ None → without_satisfied pattern xs ≡ xs
nobody-leaves pattern [] none = refl
nobody-leaves pattern (x ∷ xs) none = nobody-leaves-by (satisfies pattern x.wanted) pattern x xs none (nobody-leaves pattern xs)

leaves-at : (pattern : ℕ) (xs : List (QueueEntry Want)) (d : QueueEntry Want) (i : ℕ) → i < length xs → satisfies pattern (get_or xs i d).wanted ≡ true →
    ((k : ℕ) → k < i → satisfies pattern (get_or xs k d).wanted ≡ false) → without_satisfied pattern xs ≡ remove xs i
leaves-at pattern [] d i within holds none = let wrong : ⊥ = omega (arith, within) in absurd wrong
leaves-at pattern (x ∷ xs) d zero within holds none = ap (λ t. if t then xs else x ∷ without_satisfied pattern xs) holds
leaves-at pattern (x ∷ xs) d (suc i) within holds none =
    ap (λ t. if t then xs else x ∷ without_satisfied pattern xs) (none 0 (omega arith))
    ∙ ap (λ l. x ∷ l) (leaves-at pattern xs d i (omega (arith, within)) holds (λ k below. none (suc k) (omega (arith, below))))

-- What the scan of the columns finds, as functions have seen them.

columns-seen : (inside old : List (QueueEntry Want)) (bs ms seen_bs seen_ms : List ℕ) → AreColumns inside bs ms → inside ≡ old → seen_bs ≡ bs → seen_ms ≡ ms → AreColumns old seen_bs seen_ms
columns-seen inside old bs ms seen_bs seen_ms are same bits_seen modes_seen = record {
  bits_are = bits_seen ∙ are.bits_are ∙ ap bits_of same;
  modes_are = modes_seen ∙ are.modes_are ∙ ap modes_of same;
}

at-itself : {A : Type 0} → (xs : List A) (i : ℕ) (x : A) → slice_get xs i ≡ Some x → get_or xs i x ≡ x
at-itself [] i x there = refl
at-itself (y ∷ ys) zero x there = let one : y ≡ x = cc in one
at-itself (y ∷ ys) (suc i) x there = at-itself ys i x there

-- the waiter at the place that the scan answered is the first that the pattern satisfies
pub record IsFirstSatisfied (pattern : ℕ) (old new : List (QueueEntry Want)) (e : QueueEntry Want) : Type 0 where
  pub leaves : new ≡ without_satisfied pattern old
  pub first : Some e ≡ first_satisfied pattern old

pub taken-as : (pattern : ℕ) (inside old new : List (QueueEntry Want)) (bs ms seen_bs seen_ms : List ℕ) (i : ℕ) (e : QueueEntry Want) → AreColumns inside bs ms → inside ≡ old →
    seen_bs ≡ bs → seen_ms ≡ ms → IsLeastAt (is_satisfied_at seen_bs seen_ms pattern) 0 (length seen_bs) i → new ≡ remove old i → slice_get old i ≡ Some e →
    IsFirstSatisfied pattern old new e
taken-as pattern inside old new bs ms seen_bs seen_ms i e are same bits_seen modes_seen least is there =
    let seen : AreColumns old seen_bs seen_ms = columns-seen inside old bs ms seen_bs seen_ms are same bits_seen modes_seen in
    let long : length seen_bs ≡ length old = ap length seen.bits_are ∙ length-map old (λ e. e.wanted.bits) in
    let within : i < length old = omega (arith, long, least.within) in
    let holds : satisfies pattern (get_or old i e).wanted ≡ true = sym (satisfied-at pattern old seen_bs seen_ms i e seen within) ∙ least.holds in
    let none = λ (k : ℕ) (below : k < i). sym (satisfied-at pattern old seen_bs seen_ms k e seen (omega (arith, within, below))) ∙ least.none_before k (omega arith) below in
    record {
      leaves = is ∙ sym (leaves-at pattern old e i within holds none);
      first = ap Some (sym (at-itself old i e there)) ∙ sym (some-found (λ x. satisfies pattern x.wanted) old e i within holds none);
    }

-- where it answered none, the pattern satisfies nobody
pub record IsNobodySatisfied (pattern : ℕ) (old : List (QueueEntry Want)) : Type 0 where
  pub stays : old ≡ without_satisfied pattern old
  pub nobody : None ≡ first_satisfied pattern old

some-entry : QueueEntry Want
some-entry = record { id = 0; priority = 0; wanted = record { bits = 0; mode = modes.All } }

pub nobody-as : (pattern : ℕ) (inside old : List (QueueEntry Want)) (bs ms seen_bs seen_ms : List ℕ) → AreColumns inside bs ms → inside ≡ old → seen_bs ≡ bs → seen_ms ≡ ms →
    NoneBetween (is_satisfied_at seen_bs seen_ms pattern) 0 (length seen_bs) → IsNobodySatisfied pattern old
nobody-as pattern inside old bs ms seen_bs seen_ms are same bits_seen modes_seen none =
    let seen : AreColumns old seen_bs seen_ms = columns-seen inside old bs ms seen_bs seen_ms are same bits_seen modes_seen in
    let long : length seen_bs ≡ length old = ap length seen.bits_are ∙ length-map old (λ e. e.wanted.bits) in
    let nobody : first_satisfied pattern old ≡ None =
    none-found (λ e. satisfies pattern e.wanted) old some-entry
    (λ k within. sym (satisfied-at pattern old seen_bs seen_ms k some-entry seen within) ∙ none k (omega arith) (omega (arith, long, within))) in
    record { stays = sym (nobody-leaves pattern old nobody); nobody = sym nobody }

-- another priority changes nothing of what they want

bits-by : (same : Bool) (p : ℕ) (x : QueueEntry Want) (xs ys : List (QueueEntry Want)) → bits_of xs ≡ bits_of ys → bits_of (if same then with_priority p x ∷ xs else x ∷ xs) ≡ bits_of (x ∷ ys)
bits-by true p x xs ys others = ap (λ l. x.wanted.bits ∷ l) others
bits-by false p x xs ys others = ap (λ l. x.wanted.bits ∷ l) others

modes-by : (same : Bool) (p : ℕ) (x : QueueEntry Want) (xs ys : List (QueueEntry Want)) → modes_of xs ≡ modes_of ys → modes_of (if same then with_priority p x ∷ xs else x ∷ xs) ≡ modes_of (x ∷ ys)
modes-by true p x xs ys others = ap (λ l. mode_word x.wanted.mode ∷ l) others
modes-by false p x xs ys others = ap (λ l. mode_word x.wanted.mode ∷ l) others

bits-kept : (id p : ℕ) (xs : List (QueueEntry Want)) → bits_of (renumbered id p xs) ≡ bits_of xs
bits-kept id p [] = refl
bits-kept id p (x ∷ xs) = bits-by (x.id == id) p x (renumbered id p xs) xs (bits-kept id p xs)

modes-kept : (id p : ℕ) (xs : List (QueueEntry Want)) → modes_of (renumbered id p xs) ≡ modes_of xs
modes-kept id p [] = refl
modes-kept id p (x ∷ xs) = modes-by (x.id == id) p x (renumbered id p xs) xs (modes-kept id p xs)

pub columns-renumbered : (id p : ℕ) (xs new : List (QueueEntry Want)) (bs ms : List ℕ) → AreColumns xs bs ms → new ≡ renumbered id p xs → AreColumns new bs ms
columns-renumbered id p xs new bs ms are is = record {
  bits_are = are.bits_are ∙ sym (bits-kept id p xs) ∙ ap bits_of (sym is);
  modes_are = are.modes_are ∙ sym (modes-kept id p xs) ∙ ap modes_of (sym is);
}
