-- Events behind one another, in pieces.
use Rattle.std.proofs.Common.{◌≡◌, ◌<◌, ◌≤◌, ◌^◌, ◌%◌, ◌+◌, ℕ, arith, length, List, [], ◌∷◌, ◌++◌, Option, Some, Result, Ok, Err, refl, sym, ap, ◌∙◌, append_assoc, append-nil}
use Rattle.std.specs.Prelude.{Bool, false, ◌==◌, if◌then◌else◌, OnOk, codes}
use Rattle.std.specs.List.{flat_map}
use Rattle.std.specs.Fmt.{decimal}
use Rattle.std.proofs.lemmas.Grind.{flat_map-append}
use Rattle.std.proofs.lemmas.Fmt.{decimal_by_steps}
use Rattle.std.proofs.lemmas.Bool.Decides.{nat_tests}
use Rattle.brd_timeline.specs.Escapes.{json_byte, json_string}
use Rattle.brd_timeline.specs.declared.timeline.Lane.{Lane}
use Rattle.brd_timeline.specs.declared.trace_events.Track.{Track}
use Rattle.brd_timeline.specs.declared.timeline.Timeline.{Timeline}
use Rattle.brd_timeline.specs.Ends.{EndsWith}
use Rattle.brd_timeline.specs.Events as events
use Rattle.brd_timeline.specs.Events.{TraceEvent, behind, joined, event_text}

-- a step that may fail
pub on_ok : {T E : Type 0} {P Q : Type 0} → (r : Result T E) → (P → Q) → OnOk r P → OnOk r Q
on_ok (Ok v) f h = f h
on_ok (Err e) f h = h

-- an event behind others, put up to its name, and from it on
pub last : (old mid new comma front name end : List ℕ) → mid ≡ (old ++ comma) ++ front → new ≡ (mid ++ name) ++ end
    → new ≡ old ++ ((comma ++ ((front ++ name) ++ end)) ++ [])
last old mid new comma front name end a b =
    b ∙ (ap (λ (them : List ℕ). (them ++ name) ++ end) a ∙ simp (append_assoc, append-nil))

pub behind-append : (xs ys : List TraceEvent) → behind (xs ++ ys) ≡ behind xs ++ behind ys
behind-append xs ys = flat_map-append (λ (event : TraceEvent). codes ",\n" ++ event_text event) xs ys

-- one more of those whose events are put
pub more : {X : Type 0} (f : X → List TraceEvent) (old new : List ℕ) (x : X) (xs : List X) → new ≡ old ++ behind (f x)
    → new ++ behind (flat_map f xs) ≡ old ++ behind (flat_map f (x ∷ xs))
more f old new x xs e =
    ap (λ (them : List ℕ). them ++ behind (flat_map f xs)) e
    ∙ (append_assoc old (behind (f x)) (behind (flat_map f xs))
    ∙ ap (λ (them : List ℕ). old ++ them) (sym (behind-append (f x) (flat_map f xs))))

-- an event of a stretch, and one of a point, in two steps: up to the name, and from it on
pub completes : {T E : Type 0} (r : Result T E) (old mid new : List ℕ) (track given : Track) (from to : ℕ) (category kind name label : List ℕ)
    → track ≡ given → category ≡ kind → name ≡ label
    → mid ≡ old ++ codes ",\n" ++ events.complete_text track from to category → OnOk r (new ≡ mid ++ json_string name ++ codes "}")
    → OnOk r (new ≡ old ++ behind (events.Complete given from to kind label ∷ []))
completes r old mid new track given from to category kind name label tracks kinds labels front =
    on_ok r (λ behind_it. last old mid new (codes ",\n") (events.complete_text given from to kind) (json_string label) (codes "}")
    (front ∙ (ap (λ (t : Track). old ++ codes ",\n" ++ events.complete_text t from to category) tracks
    ∙ ap (λ (k : List ℕ). old ++ codes ",\n" ++ events.complete_text given from to k) kinds))
    (behind_it ∙ ap (λ (n : List ℕ). mid ++ json_string n ++ codes "}") labels))

pub instants : {T E : Type 0} (r : Result T E) (old mid new : List ℕ) (track given : Track) (at : ℕ) (category kind name label : List ℕ)
    → track ≡ given → category ≡ kind → name ≡ label
    → mid ≡ old ++ codes ",\n" ++ events.instant_text track at category → OnOk r (new ≡ mid ++ json_string name ++ codes "}")
    → OnOk r (new ≡ old ++ behind (events.Instant given at kind label ∷ []))
instants r old mid new track given at category kind name label tracks kinds labels front =
    on_ok r (λ behind_it. last old mid new (codes ",\n") (events.instant_text given at kind) (json_string label) (codes "}")
    (front ∙ (ap (λ (t : Track). old ++ codes ",\n" ++ events.instant_text t at category) tracks
    ∙ ap (λ (k : List ℕ). old ++ codes ",\n" ++ events.instant_text given at k) kinds))
    (behind_it ∙ ap (λ (n : List ℕ). mid ++ json_string n ++ codes "}") labels))

-- an event of a lane that there is
pub in_its_lane : {T E : Type 0} (r : Result T E) (old new : List ℕ) (event : Lane → TraceEvent) (found : Option Lane) (lane : Lane)
    → found ≡ Some lane → OnOk r (new ≡ old ++ behind (event lane ∷ [])) → OnOk r (new ≡ old ++ behind (events.in_lane event found))
in_its_lane r old new event found lane is =
    on_ok r (λ it. it ∙ ap (λ (o : Option Lane). old ++ behind (events.in_lane event o)) (sym is))

-- an event in four steps
pub four : {T E : Type 0} (r : Result T E) (old h1 h2 h3 new comma front a b end : List ℕ)
    → h1 ≡ (old ++ comma) ++ front → h2 ≡ h1 ++ a → h3 ≡ h2 ++ b → OnOk r (new ≡ h3 ++ end)
    → OnOk r (new ≡ old ++ ((comma ++ (((front ++ a) ++ b) ++ end)) ++ []))
four r old h1 h2 h3 new comma front a b end e1 e2 e3 =
    on_ok r (λ e4. e4 ∙ (ap (λ (them : List ℕ). them ++ end) (e3 ∙ (ap (λ (them : List ℕ). them ++ b) (e2 ∙ ap (λ (them : List ℕ). them ++ a) e1)))
    ∙ simp (append_assoc, append-nil)))

-- a text in five steps
pub five : {T E : Type 0} (r : Result T E) (old h1 h2 h3 h4 new a b d e end : List ℕ)
    → h1 ≡ old ++ a → h2 ≡ h1 ++ b → h3 ≡ h2 ++ d → h4 ≡ h3 ++ e → OnOk r (new ≡ h4 ++ end)
    → OnOk r (new ≡ old ++ ((((a ++ b) ++ d) ++ e) ++ end))
five r old h1 h2 h3 h4 new a b d e end e1 e2 e3 e4 =
    on_ok r (λ e5. e5 ∙ (ap (λ (them : List ℕ). them ++ end)
    (e4 ∙ ap (λ (them : List ℕ). them ++ e) (e3 ∙ (ap (λ (them : List ℕ). them ++ d) (e2 ∙ ap (λ (them : List ℕ). them ++ b) e1))))
    ∙ simp append_assoc))

-- ---- the digits of a number stand for themselves in a string

itself : (d : ℕ) → 48 ≤ d → d ≤ 57 → json_byte d ≡ d ∷ []
itself d low high = grind (arith, nat_tests)

one_plain : (n : ℕ) → n < 10 → flat_map json_byte ((48 + n) ∷ []) ≡ (48 + n) ∷ []
one_plain n small = ap (λ (them : List ℕ). them ++ []) (itself (48 + n) (omega arith) (omega arith))

more_plain : (n : ℕ) (ds : List ℕ) → 10 ≤ n → flat_map json_byte ds ≡ ds
    → flat_map json_byte (ds ++ ((48 + n % 10) ∷ [])) ≡ ds ++ ((48 + n % 10) ∷ [])
more_plain n ds many before =
    let small : n % 10 < 10 = omega arith in
    flat_map-append json_byte ds ((48 + n % 10) ∷ [])
    ∙ (ap (λ (them : List ℕ). them ++ flat_map json_byte ((48 + n % 10) ∷ [])) before
    ∙ ap (λ (them : List ℕ). ds ++ them) (one_plain (n % 10) small))

plain : (n : ℕ) → n < 2 ^ 64 → flat_map json_byte (decimal n) ≡ decimal n
plain = decimal_by_steps (λ n ds. flat_map json_byte ds ≡ ds) one_plain more_plain

pub numbered_string : (name : List ℕ) (n : ℕ) → n < 2 ^ 64
    → json_string (name ++ decimal n) ≡ 34 ∷ ((flat_map json_byte name ++ decimal n) ++ 34 ∷ [])
numbered_string name n fits =
    ap (λ (them : List ℕ). 34 ∷ (them ++ 34 ∷ [])) (flat_map-append json_byte name (decimal n)
    ∙ ap (λ (them : List ℕ). flat_map json_byte name ++ them) (plain n fits))

-- such a string and the end of its object, in four steps
pub numbered_end : {T E : Type 0} (r : Result T E) (old h1 h2 h3 new name : List ℕ) (n : ℕ) → n < 2 ^ 64
    → h1 ≡ old ++ codes "\"" → h2 ≡ h1 ++ flat_map json_byte name → h3 ≡ h2 ++ decimal n → OnOk r (new ≡ h3 ++ codes "\"}")
    → OnOk r (new ≡ (old ++ json_string (name ++ decimal n)) ++ codes "}")
numbered_end r old h1 h2 h3 new name n fits e1 e2 e3 =
    on_ok r (λ e4. e4 ∙ (ap (λ (them : List ℕ). them ++ codes "\"}")
    (e3 ∙ ap (λ (them : List ℕ). them ++ decimal n) (e2 ∙ ap (λ (them : List ℕ). them ++ flat_map json_byte name) e1))
    ∙ (grouped old (codes "\"") (flat_map json_byte name) (decimal n) (codes "\"") (codes "}")
    ∙ ap (λ (them : List ℕ). (old ++ them) ++ codes "}") (sym (numbered_string name n fits)))))
  where
    grouped : (a b d e f g : List ℕ) → (((a ++ b) ++ d) ++ e) ++ (f ++ g) ≡ (a ++ (b ++ ((d ++ e) ++ f))) ++ g
    grouped a b d e f g = simp append_assoc

-- a thread's name, whose object ends in two steps
pub thread_named : {T E : Type 0} (r : Result T E) (old h1 h2 h3 new : List ℕ) (track given : Track) (name label : List ℕ)
    → track ≡ given → name ≡ label
    → h1 ≡ (old ++ codes ",\n") ++ events.head_text (codes "M") track → h2 ≡ h1 ++ codes ",\"name\":\"thread_name\",\"args\":{\"name\":"
    → h3 ≡ (h2 ++ json_string name) ++ codes "}" → OnOk r (new ≡ h3 ++ codes "}")
    → OnOk r (new ≡ old ++ behind (events.ThreadName given label ∷ []))
thread_named r old h1 h2 h3 new track given name label tracks labels e1 e2 e3 e4 =
    four r old h1 h2 (h2 ++ json_string label) new (codes ",\n") (events.head_text (codes "M") given)
    (codes ",\"name\":\"thread_name\",\"args\":{\"name\":") (json_string label) (codes "}}")
    (e1 ∙ ap (λ (t : Track). (old ++ codes ",\n") ++ events.head_text (codes "M") t) tracks) e2 refl
    (on_ok r (λ e. e ∙ (ap (λ (them : List ℕ). them ++ codes "}")
    (e3 ∙ ap (λ (n : List ℕ). (h2 ++ json_string n) ++ codes "}") labels)
    ∙ append_assoc (h2 ++ json_string label) (codes "}") (codes "}"))) e4)

-- ---- events in several steps

pub ends : {T E : Type 0} (r : Result T E) (old new last : List ℕ) → OnOk r (new ≡ old ++ last) → OnOk r (EndsWith last new)
ends r old new last = on_ok r (λ e. (old, sym e))

pub three_steps : {T E : Type 0} (r : Result T E) (old h1 h2 new a b d text : List ℕ)
    → h1 ≡ old ++ a → h2 ≡ h1 ++ b → OnOk r (new ≡ h2 ++ d) → (a ++ b) ++ d ≡ text → OnOk r (new ≡ old ++ text)
three_steps r old h1 h2 new a b d text e1 e2 e3 is =
    on_ok r (λ e. e ∙ (ap (λ (them : List ℕ). them ++ d) (e2 ∙ ap (λ (them : List ℕ). them ++ b) e1)
    ∙ (regrouped old a b d ∙ ap (λ (them : List ℕ). old ++ them) is))) e3
  where
    regrouped : (o a b d : List ℕ) → ((o ++ a) ++ b) ++ d ≡ o ++ ((a ++ b) ++ d)
    regrouped o a b d = simp append_assoc

pub four_steps : {T E : Type 0} (r : Result T E) (old h1 h2 h3 new a b d e text : List ℕ)
    → h1 ≡ old ++ a → h2 ≡ h1 ++ b → h3 ≡ h2 ++ d → OnOk r (new ≡ h3 ++ e) → ((a ++ b) ++ d) ++ e ≡ text → OnOk r (new ≡ old ++ text)
four_steps r old h1 h2 h3 new a b d e text e1 e2 e3 e4 is =
    three_steps r old h1 h2 new a b (d ++ e) text e1 e2
    (on_ok r (λ them. them ∙ (ap (λ (front : List ℕ). front ++ e) e3 ∙ append_assoc h2 d e)) e4) (sym (append_assoc (a ++ b) d e) ∙ is)

pub behind-three : (xs ys zs : List TraceEvent) → (behind xs ++ behind ys) ++ behind zs ≡ behind ((xs ++ ys) ++ zs)
behind-three xs ys zs =
    sym (behind-append (xs ++ ys) zs ∙ ap (λ (them : List ℕ). them ++ behind zs) (behind-append xs ys))

pub behind-four : (xs ys zs ws : List TraceEvent) → ((behind xs ++ behind ys) ++ behind zs) ++ behind ws ≡ behind (((xs ++ ys) ++ zs) ++ ws)
behind-four xs ys zs ws =
    ap (λ (them : List ℕ). them ++ behind ws) (behind-three xs ys zs) ∙ sym (behind-append ((xs ++ ys) ++ zs) ws)

pub joined-three : (x : TraceEvent) (xs ys zs : List TraceEvent)
    → ((event_text x ++ behind xs) ++ behind ys) ++ behind zs ≡ joined (x ∷ ((xs ++ ys) ++ zs))
joined-three x xs ys zs =
    regrouped (event_text x) (behind xs) (behind ys) (behind zs) ∙ ap (λ (them : List ℕ). event_text x ++ them) (behind-three xs ys zs)
  where
    regrouped : (o a b d : List ℕ) → ((o ++ a) ++ b) ++ d ≡ o ++ ((a ++ b) ++ d)
    regrouped o a b d = simp append_assoc

pub locks_there : (t : Timeline) → (length t.locks.items == 0) ≡ false
    → ((behind (events.ProcessName events.locks (codes "spin locks") ∷ []) ++ behind (events.locks_of t)) ++ behind (events.holds_of t))
    ++ behind (events.spins_of t) ≡ behind (events.lock_events t)
locks_there t some =
    behind-four (events.ProcessName events.locks (codes "spin locks") ∷ []) (events.locks_of t) (events.holds_of t) (events.spins_of t)
    ∙ ap (λ (none : Bool). behind (if none then []
    else events.ProcessName events.locks (codes "spin locks") ∷ events.locks_of t ++ events.holds_of t ++ events.spins_of t)) (sym some)

pub mutexes_there : (t : Timeline) → (length t.mutexes.items == 0) ≡ false
    → (behind (events.ProcessName events.mutexes (codes "mutexes") ∷ []) ++ behind (events.mutexes_of t)) ++ behind (events.owned_of t)
    ≡ behind (events.mutex_events t)
mutexes_there t some =
    behind-three (events.ProcessName events.mutexes (codes "mutexes") ∷ []) (events.mutexes_of t) (events.owned_of t)
    ∙ ap (λ (none : Bool). behind (if none then []
    else events.ProcessName events.mutexes (codes "mutexes") ∷ events.mutexes_of t ++ events.owned_of t)) (sym some)

pub turns_there : (t : Timeline) → (length t.turns.items == 0) ≡ false
    → (behind (events.ProcessName events.turns (codes "turns") ∷ [])
    ++ behind (events.ThreadName (events.only_track events.turns) (codes "turn") ∷ [])) ++ behind (events.turns_of t)
    ≡ behind (events.turn_events t)
turns_there t some =
    behind-three (events.ProcessName events.turns (codes "turns") ∷ [])
    (events.ThreadName (events.only_track events.turns) (codes "turn") ∷ []) (events.turns_of t)
    ∙ ap (λ (none : Bool). behind (if none then []
    else events.ProcessName events.turns (codes "turns") ∷ events.ThreadName (events.only_track events.turns) (codes "turn")
    ∷ events.turns_of t)) (sym some)

-- some more events
pub grown : (old before after head : List ℕ) (x : TraceEvent) (xs ys : List TraceEvent)
    → before ≡ old ++ (head ++ joined (x ∷ xs)) → after ≡ before ++ behind ys → after ≡ old ++ (head ++ joined (x ∷ (xs ++ ys)))
grown old before after head x xs ys e1 e2 =
    e2 ∙ (ap (λ (them : List ℕ). them ++ behind ys) e1
    ∙ (regrouped old head (event_text x) (behind xs) (behind ys)
    ∙ ap (λ (them : List ℕ). old ++ (head ++ (event_text x ++ them))) (sym (behind-append xs ys))))
  where
    regrouped : (o h a b d : List ℕ) → (o ++ (h ++ (a ++ b))) ++ d ≡ o ++ (h ++ (a ++ (b ++ d)))
    regrouped o h a b d = simp append_assoc
