-- Just the packets of the grammar are read as requests.
use Rattle.std.proofs.Common.{◌≡◌, ◌≢◌, ℕ, zero, suc, ◌+◌, ◌*◌, ◌<◌, ◌≤◌, ◌==◌, Bool, true, false, List, [], ◌∷◌, ◌++◌, length, take, drop, refl, sym, ap, ap₂, subst, ◌∙◌, inl, inr, arith, eqb, Option, Some, None}
use Rattle.std.specs.Prelude.{◌⊎◌, if◌then◌else◌, codes, option_map, option_and_then}
use Rattle.std.specs.List.{join_with_byte, onto_first, slice_split}
use Rattle.std.specs.Str.{bytes_eq}
use Rattle.std.proofs.lemmas.Bool.{cases_Bool, eq-eqb, eqb-false, eqb-true, ne_eqb}
use Rattle.std.proofs.lemmas.List.{take-append-drop}
use Rattle.std.proofs.lemmas.List.Splits.{join_with_byte-slice_split, slice_split-cons_no, slice_split-cons_yes}
use Rattle.std.proofs.lemmas.Option.{none-some}
use Rattle.std.proofs.lemmas.Slice.Eq.{bytes_eq-Decides}
use Rattle.brd_text.specs.Numbers.{at_most, digit_of, hex_digit_value, most_word, value_behind, value_of}
use Rattle.brd_text.proofs.Numerals.{value_behind-none}
use Rattle.brd_gdb.specs.Grammar.{AllLack, HasActions, HasCommand, HasFront, HasNumber, HasPair, HasThread, IsNumber, Lacks, Makes, Names, digit_of_kind}
use Rattle.brd_gdb.specs.Hexes.{pair_by, pair_of, unhexed}
use Rattle.brd_gdb.specs.Parts.{two_of}
use Rattle.brd_gdb.specs.Reading.{if_begins, if_is, kind_of, monitor_of, monitor_packet_of, move_in, moving_of, or_else, order_of, pair_in, point_packet_of, point_parts_of, question_of, reading_of, request_of, request_or, thread_numbered, thread_of, thread_packet_of, whatever_of, writing_of}
use Rattle.brd_gdb.specs.declared.request.ThreadId.{ThreadId}
use Rattle.brd_gdb.specs.declared.request.ThreadId.TheVariants.{All, Any, One}
use Rattle.brd_gdb.specs.declared.request.Move.{Move}
use Rattle.brd_gdb.specs.declared.request.Move.TheVariants as move
use Rattle.brd_gdb.specs.declared.request.PointKind.{PointKind}
use Rattle.brd_gdb.specs.declared.request.PointKind.TheVariants.{SoftwareBreak, HardwareBreak, WriteWatch, ReadWatch, AccessWatch}
use Rattle.brd_gdb.specs.declared.request.Monitor.{Monitor}
use Rattle.brd_gdb.specs.declared.request.Request.{Request}
use Rattle.brd_gdb.specs.declared.request.Request.TheVariants as request

-- ---- marks

split_at : (mark : ℕ) (one two : List ℕ) → Lacks mark one → slice_split (λ b. eqb b mark) (one ++ mark ∷ two) ≡ one ∷ slice_split (λ b. eqb b mark) two
split_at mark [] two lacks = slice_split-cons_yes (λ b. eqb b mark) mark two (eq-eqb mark mark refl)
split_at mark (b ∷ bs) two lacks =
    slice_split-cons_no (λ b. eqb b mark) b (bs ++ mark ∷ two) lacks.0 ∙ ap (onto_first b) (split_at mark bs two lacks.1)

split_none : (mark : ℕ) (text : List ℕ) → Lacks mark text → slice_split (λ b. eqb b mark) text ≡ text ∷ []
split_none mark [] lacks = refl
split_none mark (b ∷ bs) lacks =
    slice_split-cons_no (λ b. eqb b mark) b bs lacks.0 ∙ ap (onto_first b) (split_none mark bs lacks.1)

split_joined : (mark : ℕ) (first : List ℕ) (others : List (List ℕ)) → AllLack mark (first ∷ others)
    → slice_split (λ b. eqb b mark) (join_with_byte mark (first ∷ others)) ≡ first ∷ others
split_joined mark first [] lacks = split_none mark first lacks.0
split_joined mark first (second ∷ others) lacks =
    split_at mark first (join_with_byte mark (second ∷ others)) lacks.0
    ∙ ap (λ (parts : List (List ℕ)). first ∷ parts) (split_joined mark second others lacks.1)

-- the parts have no mark
onto_lacks : (mark b : ℕ) (parts : List (List ℕ)) → eqb b mark ≡ false → AllLack mark parts → AllLack mark (onto_first b parts)
onto_lacks mark b [] other lacks = ((other, tt), tt)
onto_lacks mark b (part ∷ parts) other lacks = ((other, lacks.0), lacks.1)

parts_lack : (mark : ℕ) (text : List ℕ) → AllLack mark (slice_split (λ b. eqb b mark) text)
parts_lack mark [] = (tt, tt)
parts_lack mark (b ∷ bs) =
    let P : List (List ℕ) → Type 0 = λ parts. AllLack mark parts in
    elim (cases_Bool (eqb b mark)) [
      | inl here ↦ subst P (sym (slice_split-cons_yes (λ b. eqb b mark) b bs here)) (tt, parts_lack mark bs)
      | inr other ↦ subst P (sym (slice_split-cons_no (λ b. eqb b mark) b bs other)) (onto_lacks mark b _ other (parts_lack mark bs))
    ]

-- there is a first part
some_part : (mark : ℕ) (text : List ℕ) → (first : List ℕ) × (others : List (List ℕ)) × (slice_split (λ b. eqb b mark) text ≡ first ∷ others)
some_part mark [] = ([], [], refl)
some_part mark (b ∷ bs) =
    let more = some_part mark bs in
    elim (cases_Bool (eqb b mark)) [
      | inl here ↦ ([], slice_split (λ b. eqb b mark) bs, slice_split-cons_yes (λ b. eqb b mark) b bs here)
      | inr other ↦ (b ∷ more.0, more.1, slice_split-cons_no (λ b. eqb b mark) b bs other ∙ ap (onto_first b) more.2)
    ]

-- ---- numbers

-- digits are no marks
digits_lack : (mark : ℕ) → digit_of 16 mark ≡ None → (digits : List ℕ) (value : Option ℕ) (n : ℕ) → value_behind 16 value digits ≡ Some n → Lacks mark digits
digits_lack mark none [] value n read = tt
digits_lack mark none (b ∷ bs) None n read = absurd (none-some n read)
digits_lack mark none (b ∷ bs) (Some v) n read =
    elim (cases_Bool (eqb b mark)) [
      | inl here ↦
          let no_digit : digit_of 16 b ≡ None = ap (digit_of 16) (eqb-true b mark here) ∙ none in
          let q : value_behind 16 None bs ≡ Some n = rw no_digit at read in
          absurd (none-some n (sym (value_behind-none 16 bs) ∙ q))
      | inr other ↦ (other, digits_lack mark none bs _ n read)
    ]

within : (most : ℕ) (value : Option ℕ) (n : ℕ) → at_most most value ≡ Some n → (m : ℕ) × (value ≡ Some m)
within most None n read = absurd (none-some n read)
within most (Some m) n read = (m, refl)

number_lacks : (mark : ℕ) → digit_of 16 mark ≡ None → (digits : List ℕ) (n : ℕ) → IsNumber digits n → Lacks mark digits
number_lacks mark none [] n is = tt
number_lacks mark none (b ∷ bs) n is =
    let value = within most_word (value_behind 16 (Some 0) (b ∷ bs)) n is in
    digits_lack mark none (b ∷ bs) (Some 0) value.0 value.1

comma : digit_of 16 44 ≡ None
unfolding digit_of hex_digit_value
comma = refl

-- ---- two numbers

pair_again : (one two : List ℕ) (a b : ℕ) → IsNumber one a → IsNumber two b → pair_in (one ++ 44 ∷ two) ≡ Some (a, b)
pair_again one two a b first second =
    let parts : slice_split (λ b. eqb b 44) (one ++ 44 ∷ two) ≡ one ∷ two ∷ [] =
    split_at 44 one two (number_lacks 44 comma one a first)
    ∙ ap (λ (parts : List (List ℕ)). one ∷ parts) (split_none 44 two (number_lacks 44 comma two b second)) in
    rw (parts, first, second) refl

-- the parts of what there is
some_parts : {A B : Type 0} (p q : A × B) → Some p ≡ Some q → (p.0 ≡ q.0) × (p.1 ≡ q.1)
some_parts {A} {B} p q read = let e : p ≡ q = cc in (ap (λ (x : A × B). x.0) e, ap (λ (x : A × B). x.1) e)

two_is : (parts : List (List ℕ)) (x y : List ℕ) → two_of parts ≡ Some (x, y) → parts ≡ x ∷ y ∷ []
two_is [] x y read = absurd (none-some (x, y) read)
two_is (a ∷ []) x y read = absurd (none-some (x, y) read)
two_is (a ∷ b ∷ []) x y read =
    let are = some_parts {A = List ℕ} {B = List ℕ} (a, b) (x, y) read in ap₂ (λ (m n : List ℕ). m ∷ n ∷ []) are.0 are.1
two_is (a ∷ b ∷ c ∷ parts) x y read = absurd (none-some (x, y) read)

numbers_are : (one two : Option ℕ) (a b : ℕ)
    → option_and_then {U = ℕ × ℕ} (λ (first : ℕ). option_and_then {U = ℕ × ℕ} (λ (second : ℕ). Some (first, second)) two) one ≡ Some (a, b) → (one ≡ Some a) × (two ≡ Some b)
numbers_are None two a b read = absurd (none-some (a, b) read)
numbers_are (Some m) None a b read = absurd (none-some (a, b) read)
numbers_are (Some m) (Some n) a b read =
    let are = some_parts {A = ℕ} {B = ℕ} (m, n) (a, b) read in (ap Some are.0, ap Some are.1)

pair_by_is : (parts : Option (List ℕ × List ℕ)) (a b : ℕ) → pair_by parts ≡ Some (a, b)
    → (one : List ℕ) × (two : List ℕ) × (parts ≡ Some (one, two)) × IsNumber one a × IsNumber two b
pair_by_is None a b read = absurd (none-some (a, b) read)
pair_by_is (Some (one, two)) a b read =
    let are = numbers_are (value_of 16 most_word one) (value_of 16 most_word two) a b read in
    (one, two, refl, are.0, are.1)

pair_is : (front text : List ℕ) (a b : ℕ) → text ≡ front ++ drop (length front) text → pair_in (drop (length front) text) ≡ Some (a, b)
    → HasPair front text a b
pair_is front text a b begins read =
    let numbers = pair_by_is (two_of (slice_split (λ b. eqb b 44) (drop (length front) text))) a b read in
    let parts = two_is (slice_split (λ b. eqb b 44) (drop (length front) text)) numbers.0 numbers.1 numbers.2 in
    record {
      one = numbers.0;
      two = numbers.1;
      is = begins ∙ ap (λ (xs : List ℕ). front ++ xs) (sym (join_with_byte-slice_split 44 (drop (length front) text)) ∙ ap (join_with_byte 44) parts);
      first_is = numbers.3;
      second_is = numbers.4;
    }

-- ---- threads

-- -1 is no number
minus : value_of 16 most_word (codes "-1") ≡ None
unfolding digit_of hex_digit_value
minus = refl

no_number : (text : List ℕ) → text ≡ codes "-1" → (n : ℕ) → ¬ IsNumber text n
no_number text is n number = none-some n (sym minus ∙ ap (value_of 16 most_word) (sym is) ∙ number)

numbered_again : (n : ℕ) → 0 < n → thread_numbered n ≡ One n
numbered_again n some = let other : eqb n 0 ≡ false = ne_eqb n 0 (λ e. absurd (omega (arith, e, some))) in rw other refl

thread_again : (text : List ℕ) (thread : ThreadId) → Names text thread → thread_of text ≡ Some thread
thread_again text All names = rw names refl
thread_again text Any names = elim (cases_Bool (bytes_eq text (codes "-1"))) [
  | inl same ↦ absurd (no_number text ((bytes_eq-Decides text (codes "-1")).0 same) 0 names)
  | inr other ↦ rw (other, names) refl
]
thread_again text (One n) names = elim (cases_Bool (bytes_eq text (codes "-1"))) [
  | inl same ↦ absurd (no_number text ((bytes_eq-Decides text (codes "-1")).0 same) n names.0)
  | inr other ↦ rw (other, names.0) (ap Some (numbered_again n names.1))
]

numbered_is : (n : ℕ) (thread : ThreadId) → thread_numbered n ≡ thread → (text : List ℕ) → IsNumber text n → Names text thread
numbered_is n thread read text is =
    let P : ThreadId → Type 0 = λ t. Names text t in
    elim (cases_Bool (eqb n 0)) [
      | inl none ↦ let q : Any ≡ thread = rw none at read in subst P q (is ∙ ap Some (eqb-true n 0 none))
      | inr some ↦
          let q : One n ≡ thread = rw some at read in
          let more : 0 < n = omega (arith, eqb-false n 0 some) in
          subst P q (is, more)
    ]

by_number : (value : Option ℕ) (thread : ThreadId) → option_map thread_numbered value ≡ Some thread → (n : ℕ) × (value ≡ Some n) × (thread_numbered n ≡ thread)
by_number None thread read = absurd (none-some thread read)
by_number (Some n) thread read = (n, refl, cc)

thread_is : (text : List ℕ) (thread : ThreadId) → thread_of text ≡ Some thread → Names text thread
thread_is text thread read =
    let P : ThreadId → Type 0 = λ t. Names text t in
    elim (cases_Bool (bytes_eq text (codes "-1"))) [
      | inl same ↦
          let q : Some All ≡ Some thread = rw same at read in
          let is : All ≡ thread = cc in
          subst P is ((bytes_eq-Decides text (codes "-1")).0 same)
      | inr other ↦
          let q : option_map thread_numbered (value_of 16 most_word text) ≡ Some thread = rw other at read in
          let number = by_number (value_of 16 most_word text) thread q in
          numbered_is number.0 thread number.2 text number.1
    ]

-- ---- points

kind_again : (kind : PointKind) → kind_of (digit_of_kind kind) ≡ Some kind
kind_again SoftwareBreak = refl
kind_again HardwareBreak = refl
kind_again WriteWatch = refl
kind_again ReadWatch = refl
kind_again AccessWatch = refl

kind_is : (byte : ℕ) (kind : PointKind) → kind_of byte ≡ Some kind → byte ≡ digit_of_kind kind
kind_is byte kind read =
    let P : PointKind → Type 0 = λ k. byte ≡ digit_of_kind k in
    elim (cases_Bool (eqb byte 48)) [
      | inl is ↦ let q : Some SoftwareBreak ≡ Some kind = rw is at read in let e : SoftwareBreak ≡ kind = cc in subst P e (eqb-true byte 48 is)
      | inr no_48 ↦ elim (cases_Bool (eqb byte 49)) [
        | inl is ↦ let q : Some HardwareBreak ≡ Some kind = rw (no_48, is) at read in let e : HardwareBreak ≡ kind = cc in subst P e (eqb-true byte 49 is)
        | inr no_49 ↦ elim (cases_Bool (eqb byte 50)) [
          | inl is ↦ let q : Some WriteWatch ≡ Some kind = rw (no_48, no_49, is) at read in let e : WriteWatch ≡ kind = cc in subst P e (eqb-true byte 50 is)
          | inr no_50 ↦ elim (cases_Bool (eqb byte 51)) [
            | inl is ↦ let q : Some ReadWatch ≡ Some kind = rw (no_48, no_49, no_50, is) at read in let e : ReadWatch ≡ kind = cc in subst P e (eqb-true byte 51 is)
            | inr no_51 ↦ elim (cases_Bool (eqb byte 52)) [
              | inl is ↦ let q : Some AccessWatch ≡ Some kind = rw (no_48, no_49, no_50, no_51, is) at read in let e : AccessWatch ≡ kind = cc in subst P e (eqb-true byte 52 is)
              | inr no_52 ↦ let q : None ≡ Some kind = rw (no_48, no_49, no_50, no_51, no_52) at read in absurd (none-some kind q)
            ]
          ]
        ]
      ]
    ]

point_again : (kind : PointKind) (rest : List ℕ) (a b : ℕ) → pair_in rest ≡ Some (a, b)
    → point_parts_of (digit_of_kind kind ∷ 44 ∷ rest) ≡ Some (kind, a, b)
point_again kind rest a b read = rw (kind_again kind, read) refl

-- the parts of a point
abbrev point_of_parts : Option PointKind → Option (ℕ × ℕ) → Option (PointKind × ℕ × ℕ)
point_of_parts kind pair =
    option_and_then {U = PointKind × ℕ × ℕ} (λ (kind : PointKind). option_map {U = PointKind × ℕ × ℕ} (λ (pair : ℕ × ℕ). (kind, pair.0, pair.1)) pair) kind

three_parts : (p q : PointKind × ℕ × ℕ) → Some p ≡ Some q → (p.0 ≡ q.0) × (p.1 ≡ q.1) × (p.2 ≡ q.2)
three_parts p q read =
    let e : p ≡ q = cc in
    (ap (λ (x : PointKind × ℕ × ℕ). x.0) e, ap (λ (x : PointKind × ℕ × ℕ). x.1) e, ap (λ (x : PointKind × ℕ × ℕ). x.2) e)

point_by : (kind : Option PointKind) (pair : Option (ℕ × ℕ)) (k : PointKind) (a b : ℕ)
    → point_of_parts kind pair ≡ Some (k, a, b)
    → (kind ≡ Some k) × (pair ≡ Some (a, b))
point_by None pair k a b read = absurd (none-some (k, a, b) read)
point_by (Some kind) None k a b read = absurd (none-some (k, a, b) read)
point_by (Some kind) (Some (m, n)) k a b read =
    let are = three_parts (kind, m, n) (k, a, b) read in
    let pair : (ℕ × ℕ) → Option (ℕ × ℕ) = Some in
    (ap Some are.0, ap₂ (λ (x y : ℕ). pair (x, y)) are.1 are.2)

pub record IsPoint (text : List ℕ) (kind : PointKind) (a b : ℕ) : Type 0 where
  pub rest : List ℕ
  pub is : text ≡ digit_of_kind kind ∷ 44 ∷ rest
  pub numbers : pair_in rest ≡ Some (a, b)

point_is : (text : List ℕ) (kind : PointKind) (a b : ℕ) → point_parts_of text ≡ Some (kind, a, b) → IsPoint text kind a b
point_is [] kind a b read = absurd (none-some (kind, a, b) read)
point_is (x ∷ []) kind a b read = absurd (none-some (kind, a, b) read)
point_is (x ∷ y ∷ rest) kind a b read =
    elim (cases_Bool (eqb y 44)) [
      | inl comma ↦
          let q : point_of_parts (kind_of x) (pair_in rest) ≡ Some (kind, a, b) = rw comma at read in
          let parts = point_by (kind_of x) (pair_in rest) kind a b q in
          record {
            rest = rest;
            is = ap₂ (λ (m n : ℕ). m ∷ n ∷ rest) (kind_is x kind parts.0) (eqb-true y 44 comma);
            numbers = parts.1;
          }
      | inr other ↦ let q : None ≡ Some (kind, a, b) = rw other at read in absurd (none-some (kind, a, b) q)
    ]

point_pair : (mark : ℕ) (text : List ℕ) (kind : PointKind) (a b : ℕ) → text ≡ (mark ∷ []) ++ drop 1 text → IsPoint (drop 1 text) kind a b
    → HasPair (mark ∷ digit_of_kind kind ∷ 44 ∷ []) text a b
point_pair mark text kind a b begins point =
    let numbers = pair_by_is (two_of (slice_split (λ b. eqb b 44) point.rest)) a b point.numbers in
    let parts = two_is (slice_split (λ b. eqb b 44) point.rest) numbers.0 numbers.1 numbers.2 in
    record {
      one = numbers.0;
      two = numbers.1;
      is = begins ∙ ap (λ (xs : List ℕ). mark ∷ xs) (point.is ∙ ap (λ (xs : List ℕ). digit_of_kind kind ∷ 44 ∷ xs)
          (sym (join_with_byte-slice_split 44 point.rest) ∙ ap (join_with_byte 44) parts));
      first_is = numbers.3;
      second_is = numbers.4;
    }

-- ---- what is made is read

point_read : (set : Bool) (kind : PointKind) (rest : List ℕ) (a b : ℕ) → pair_in rest ≡ Some (a, b)
    → request_of ((if set then 90 else 122) ∷ digit_of_kind kind ∷ 44 ∷ rest) ≡ (if set then request.SetPoint kind a b else request.ClearPoint kind a b)
point_read true SoftwareBreak rest a b read = rw read refl
point_read true HardwareBreak rest a b read = rw read refl
point_read true WriteWatch rest a b read = rw read refl
point_read true ReadWatch rest a b read = rw read refl
point_read true AccessWatch rest a b read = rw read refl
point_read false SoftwareBreak rest a b read = rw read refl
point_read false HardwareBreak rest a b read = rw read refl
point_read false WriteWatch rest a b read = rw read refl
point_read false ReadWatch rest a b read = rw read refl
point_read false AccessWatch rest a b read = rw read refl

forward_read : (text : List ℕ) (how : Move) → HasActions text how → request_of text ≡ request.Forward how
forward_read text how actions =
    let split = split_joined 59 actions.first actions.others actions.apart in
    let moves : move_in (slice_split (λ b. eqb b 59) (join_with_byte 59 (actions.first ∷ actions.others))) ≡ Some how = rw split actions.moves in
    rw (actions.is, moves) refl

pub again : (text : List ℕ) (r : Request) → Makes text r → request_of text ≡ r
again text request.Supported (rest, is) = rw is refl
again text request.StartNoAckMode is = rw is refl
again text request.StopReason is = rw is refl
again text request.ReadRegisters is = rw is refl
again text (request.ReadRegister number) makes = rw (makes.is, makes.number_is) refl
again text (request.ReadMemory a b) makes = let pair = pair_again makes.one makes.two a b makes.first_is makes.second_is in rw (makes.is, pair) refl
again text request.Write (inl (rest, is)) = rw is refl
again text request.Write (inr (inl (rest, is))) = rw is refl
again text request.Write (inr (inr (inl (rest, is)))) = rw is refl
again text request.Write (inr (inr (inr (rest, is)))) = rw is refl
again text (request.SetThread true thread) makes = let names = thread_again makes.name thread makes.names in rw (makes.is, names) refl
again text (request.SetThread false thread) makes = let names = thread_again makes.name thread makes.names in rw (makes.is, names) refl
again text (request.IsAlive thread) makes = let names = thread_again makes.name thread makes.names in rw (makes.is, names) refl
again text request.CurrentThread is = rw is refl
again text request.FirstThreads is = rw is refl
again text request.OtherThreads is = rw is refl
again text (request.ThreadInfo thread) makes = let names = thread_again makes.name thread makes.names in rw (makes.is, names) refl
again text (request.ReadFeatures a b) makes = let pair = pair_again makes.one makes.two a b makes.first_is makes.second_is in rw (makes.is, pair) refl
again text (request.ReadThreads a b) makes = let pair = pair_again makes.one makes.two a b makes.first_is makes.second_is in rw (makes.is, pair) refl
again text (request.Monitor command) makes = rw (makes.is, makes.spells) (ap request.Monitor (sym makes.command_is))
again text request.MoveKinds is = rw is refl
again text (request.Forward how) (inl (is, e)) = rw (is, e) refl
again text (request.Forward how) (inr (inl (is, e))) = rw (is, e) refl
again text (request.Forward how) (inr (inr actions)) = forward_read text how actions
again text request.BackwardContinue is = rw is refl
again text request.BackwardStep is = rw is refl
again text (request.SetPoint kind a b) makes =
    let pair = pair_again makes.one makes.two a b makes.first_is makes.second_is in
    ap request_of makes.is ∙ point_read true kind (makes.one ++ 44 ∷ makes.two) a b pair
again text (request.ClearPoint kind a b) makes =
    let pair = pair_again makes.one makes.two a b makes.first_is makes.second_is in
    ap request_of makes.is ∙ point_read false kind (makes.one ++ 44 ∷ makes.two) a b pair
again text request.Detach is = rw is refl
again text request.Kill is = rw is refl
again text request.KillProcess (rest, is) = rw is refl
again text request.IsAttached (rest, is) = rw is refl
again text request.Unknown makes = absurd makes

-- ---- what is read is made

at : (text : List ℕ) (r : Request) (other : Request) → other ≡ r → Makes text other → Makes text r
at text r other same makes = let P : Request → Type 0 = λ x. Makes text x in subst P same makes

front_is : (front text : List ℕ) → bytes_eq (take (length front) text) front ≡ true → text ≡ front ++ drop (length front) text
front_is front text begins =
    let same : take (length front) text ≡ front = (bytes_eq-Decides (take (length front) text) front).0 begins in
    sym (take-append-drop (length front) text) ∙ ap (λ (xs : List ℕ). xs ++ drop (length front) text) same

begins_or : (front text : List ℕ) (say : List ℕ → Option Request) (other : Option Request) (r : Request)
    → if_begins front say text other ≡ Some r → ((text ≡ front ++ drop (length front) text) × (say (drop (length front) text) ≡ Some r)) ⊎ (other ≡ Some r)
begins_or front text say other r read =
    elim (cases_Bool (bytes_eq (take (length front) text) front)) [
      | inl found ↦ let q : say (drop (length front) text) ≡ Some r = rw found at read in inl (front_is front text found, q)
      | inr different ↦ let q : other ≡ Some r = rw different at read in inr q
    ]

is_or : (word text : List ℕ) (meant : Request) (other : Option Request) (r : Request)
    → if_is word meant text other ≡ Some r → ((text ≡ word) × (meant ≡ r)) ⊎ (other ≡ Some r)
is_or word text meant other r read =
    elim (cases_Bool (bytes_eq text word)) [
      | inl same ↦ let q : Some meant ≡ Some r = rw same at read in inl ((bytes_eq-Decides text word).0 same, cc)
      | inr different ↦ let q : other ≡ Some r = rw different at read in inr q
    ]

or_is : (one other : Option Request) (r : Request) → or_else one other ≡ Some r → (one ≡ Some r) ⊎ (other ≡ Some r)
or_is None other r read = inr read
or_is (Some one) other r read = inl read

map_is : {A : Type 0} (make : A → Request) (found : Option A) (r : Request) → option_map make found ≡ Some r → (a : A) × (found ≡ Some a) × (make a ≡ r)
map_is make None r read = absurd (none-some r read)
map_is make (Some a) r read = let q : make a ≡ r = cc in (a, refl, q)

is_then : (word text : List ℕ) (meant : Request) (other : Option Request) (r : Request) → (text ≡ word → Makes text meant)
    → (other ≡ Some r → Makes text r) → if_is word meant text other ≡ Some r → Makes text r
is_then word text meant other r here there read =
    elim (is_or word text meant other r read) [ inl same ↦ at text r meant same.1 (here same.0) | inr more ↦ there more ]

begins_then : (front text : List ℕ) (say : List ℕ → Option Request) (other : Option Request) (r : Request)
    → (text ≡ front ++ drop (length front) text → say (drop (length front) text) ≡ Some r → Makes text r)
    → (other ≡ Some r → Makes text r) → if_begins front say text other ≡ Some r → Makes text r
begins_then front text say other r here there read =
    elim (begins_or front text say other r read) [ inl same ↦ here same.0 same.1 | inr more ↦ there more ]

or_then : (text : List ℕ) (one other : Option Request) (r : Request) → (one ≡ Some r → Makes text r) → (other ≡ Some r → Makes text r)
    → or_else one other ≡ Some r → Makes text r
or_then text one other r here there read =
    elim (or_is one other r read) [ inl first ↦ here first | inr more ↦ there more ]

-- no more kinds of packets
none_left : (text : List ℕ) (r : Request) → None ≡ Some r → Makes text r
none_left text r read = absurd (none-some r read)

the_same : (meant r : Request) → Some meant ≡ Some r → meant ≡ r
the_same meant r read = cc

question_is : (text : List ℕ) (r : Request) → question_of text ≡ Some r → Makes text r
question_is text r =
    is_then (codes "?") text request.StopReason _ r (λ is. is)
    (is_then (codes "g") text request.ReadRegisters _ r (λ is. is)
    (is_then (codes "qC") text request.CurrentThread _ r (λ is. is)
    (is_then (codes "qfThreadInfo") text request.FirstThreads _ r (λ is. is)
    (is_then (codes "qsThreadInfo") text request.OtherThreads _ r (λ is. is)
    (is_then (codes "vCont?") text request.MoveKinds _ r (λ is. is)
    (none_left text r))))))

order_is : (text : List ℕ) (r : Request) → order_of text ≡ Some r → Makes text r
order_is text r =
    is_then (codes "c") text (request.Forward move.Continue) _ r (λ is. inl (is, refl))
    (is_then (codes "s") text (request.Forward (move.Step Any)) _ r (λ is. inr (inl (is, refl)))
    (is_then (codes "bc") text request.BackwardContinue _ r (λ is. is)
    (is_then (codes "bs") text request.BackwardStep _ r (λ is. is)
    (is_then (codes "D") text request.Detach _ r (λ is. is)
    (is_then (codes "k") text request.Kill _ r (λ is. is)
    (is_then (codes "QStartNoAckMode") text request.StartNoAckMode _ r (λ is. is)
    (none_left text r)))))))

whatever_is : (text : List ℕ) (r : Request) → whatever_of text ≡ Some r → Makes text r
whatever_is text r =
    begins_then (codes "qSupported") text (λ rest. Some request.Supported) _ r
    (λ is read. at text r request.Supported (the_same request.Supported r read) (drop 10 text, is))
    (begins_then (codes "qAttached") text (λ rest. Some request.IsAttached) _ r
    (λ is read. at text r request.IsAttached (the_same request.IsAttached r read) (drop 9 text, is))
    (begins_then (codes "vKill;") text (λ rest. Some request.KillProcess) _ r
    (λ is read. at text r request.KillProcess (the_same request.KillProcess r read) (drop 6 text, is))
    (none_left text r)))

writing_is : (text : List ℕ) (r : Request) → writing_of text ≡ Some r → Makes text r
writing_is text r =
    begins_then (codes "M") text (λ rest. Some request.Write) _ r
    (λ is read. at text r request.Write (the_same request.Write r read) (inl (drop 1 text, is)))
    (begins_then (codes "G") text (λ rest. Some request.Write) _ r
    (λ is read. at text r request.Write (the_same request.Write r read) (inr (inl (drop 1 text, is))))
    (begins_then (codes "P") text (λ rest. Some request.Write) _ r
    (λ is read. at text r request.Write (the_same request.Write r read) (inr (inr (inl (drop 1 text, is)))))
    (begins_then (codes "X") text (λ rest. Some request.Write) _ r
    (λ is read. at text r request.Write (the_same request.Write r read) (inr (inr (inr (drop 1 text, is)))))
    (none_left text r))))

has_thread : (front text : List ℕ) (thread : ThreadId) → text ≡ front ++ drop (length front) text
    → thread_of (drop (length front) text) ≡ Some thread → HasThread front text thread
has_thread front text thread begins read =
    record { name = drop (length front) text; is = begins; names = thread_is (drop (length front) text) thread read }

thread_packet_is : (text : List ℕ) (r : Request) → thread_packet_of text ≡ Some r → Makes text r
thread_packet_is text r =
    begins_then (codes "p") text (λ rest. option_map request.ReadRegister (value_of 16 most_word rest)) _ r
    (λ is read. let found = map_is request.ReadRegister (value_of 16 most_word (drop 1 text)) r read in
    at text r (request.ReadRegister found.0) found.2 (record { digits = drop 1 text; is = is; number_is = found.1 }))
    (begins_then (codes "Hc") text (λ rest. option_map (request.SetThread true) (thread_of rest)) _ r
    (λ is read. let found = map_is (request.SetThread true) (thread_of (drop 2 text)) r read in
    at text r (request.SetThread true found.0) found.2 (has_thread (codes "Hc") text found.0 is found.1))
    (begins_then (codes "Hg") text (λ rest. option_map (request.SetThread false) (thread_of rest)) _ r
    (λ is read. let found = map_is (request.SetThread false) (thread_of (drop 2 text)) r read in
    at text r (request.SetThread false found.0) found.2 (has_thread (codes "Hg") text found.0 is found.1))
    (begins_then (codes "T") text (λ rest. option_map request.IsAlive (thread_of rest)) _ r
    (λ is read. let found = map_is request.IsAlive (thread_of (drop 1 text)) r read in
    at text r (request.IsAlive found.0) found.2 (has_thread (codes "T") text found.0 is found.1))
    (begins_then (codes "qThreadExtraInfo,") text (λ rest. option_map request.ThreadInfo (thread_of rest)) _ r
    (λ is read. let found = map_is request.ThreadInfo (thread_of (drop 17 text)) r read in
    at text r (request.ThreadInfo found.0) found.2 (has_thread (codes "qThreadExtraInfo,") text found.0 is found.1))
    (none_left text r)))))

reading_is : (text : List ℕ) (r : Request) → reading_of text ≡ Some r → Makes text r
reading_is text r =
    begins_then (codes "m") text (λ rest. option_map (λ pair. request.ReadMemory pair.0 pair.1) (pair_in rest)) _ r
    (λ is read. let found = map_is (λ (pair : ℕ × ℕ). request.ReadMemory pair.0 pair.1) (pair_in (drop 1 text)) r read in
    at text r (request.ReadMemory found.0.0 found.0.1) found.2 (pair_is (codes "m") text found.0.0 found.0.1 is found.1))
    (begins_then (codes "qXfer:features:read:target.xml:") text (λ rest. option_map (λ pair. request.ReadFeatures pair.0 pair.1) (pair_in rest)) _ r
    (λ is read. let found = map_is (λ (pair : ℕ × ℕ). request.ReadFeatures pair.0 pair.1) (pair_in (drop 31 text)) r read in
    at text r (request.ReadFeatures found.0.0 found.0.1) found.2 (pair_is (codes "qXfer:features:read:target.xml:") text found.0.0 found.0.1 is found.1))
    (begins_then (codes "qXfer:threads:read::") text (λ rest. option_map (λ pair. request.ReadThreads pair.0 pair.1) (pair_in rest)) _ r
    (λ is read. let found = map_is (λ (pair : ℕ × ℕ). request.ReadThreads pair.0 pair.1) (pair_in (drop 20 text)) r read in
    at text r (request.ReadThreads found.0.0 found.0.1) found.2 (pair_is (codes "qXfer:threads:read::") text found.0.0 found.0.1 is found.1))
    (none_left text r)))

point_packet_is : (text : List ℕ) (r : Request) → point_packet_of text ≡ Some r → Makes text r
point_packet_is text r =
    begins_then (codes "Z") text (λ rest. option_map (λ p. request.SetPoint p.0 p.1 p.2) (point_parts_of rest)) _ r
    (λ is read. let found = map_is (λ (p : PointKind × ℕ × ℕ). request.SetPoint p.0 p.1 p.2) (point_parts_of (drop 1 text)) r read in
    let p = found.0 in
    at text r (request.SetPoint p.0 p.1 p.2) found.2 (point_pair 90 text p.0 p.1 p.2 is (point_is (drop 1 text) p.0 p.1 p.2 found.1)))
    (begins_then (codes "z") text (λ rest. option_map (λ p. request.ClearPoint p.0 p.1 p.2) (point_parts_of rest)) _ r
    (λ is read. let found = map_is (λ (p : PointKind × ℕ × ℕ). request.ClearPoint p.0 p.1 p.2) (point_parts_of (drop 1 text)) r read in
    let p = found.0 in
    at text r (request.ClearPoint p.0 p.1 p.2) found.2 (point_pair 122 text p.0 p.1 p.2 is (point_is (drop 1 text) p.0 p.1 p.2 found.1)))
    (none_left text r))

actions_are : (text : List ℕ) (how : Move) → text ≡ codes "vCont;" ++ drop 6 text
    → move_in (slice_split (λ b. eqb b 59) (drop 6 text)) ≡ Some how → HasActions text how
actions_are text how begins read =
    let parts = some_part 59 (drop 6 text) in
    let P : List (List ℕ) → Type 0 = λ all. AllLack 59 all in
    record {
      first = parts.0;
      others = parts.1;
      is = begins ∙ ap (λ (xs : List ℕ). codes "vCont;" ++ xs) (sym (join_with_byte-slice_split 59 (drop 6 text)) ∙ ap (join_with_byte 59) parts.2);
      apart = subst P parts.2 (parts_lack 59 (drop 6 text));
      moves = ap move_in (sym parts.2) ∙ read;
    }

moving_is : (text : List ℕ) (r : Request) → moving_of text ≡ Some r → Makes text r
moving_is text r =
    begins_then (codes "vCont;") text (λ rest. option_map request.Forward (move_in (slice_split (λ byte. eqb byte 59) rest))) None r
    (λ is read. let found = map_is request.Forward (move_in (slice_split (λ b. eqb b 59) (drop 6 text))) r read in
    at text r (request.Forward found.0) found.2 (inr (inr (actions_are text found.0 is found.1))))
    (none_left text r)

monitor_is : (text : List ℕ) (r : Request) → monitor_packet_of text ≡ Some r → Makes text r
monitor_is text r =
    begins_then (codes "qRcmd,") text (λ digits. option_map (λ bytes. request.Monitor (monitor_of bytes)) (unhexed digits)) None r
    (λ is read. let found = map_is (λ (bytes : List ℕ). request.Monitor (monitor_of bytes)) (unhexed (drop 6 text)) r read in
    at text r (request.Monitor (monitor_of found.0)) found.2
    (record { digits = drop 6 text; bytes = found.0; is = is; spells = found.1; command_is = refl }))
    (none_left text r)

packet_is : (text : List ℕ) (r : Request)
    → or_else (question_of text) (or_else (order_of text) (or_else (whatever_of text)
    (or_else (writing_of text) (or_else (thread_packet_of text) (or_else (reading_of text)
    (or_else (point_packet_of text) (or_else (moving_of text) (monitor_packet_of text)))))))) ≡ Some r → Makes text r
packet_is text r =
    or_then text (question_of text) _ r (question_is text r)
    (or_then text (order_of text) _ r (order_is text r)
    (or_then text (whatever_of text) _ r (whatever_is text r)
    (or_then text (writing_of text) _ r (writing_is text r)
    (or_then text (thread_packet_of text) _ r (thread_packet_is text r)
    (or_then text (reading_of text) _ r (reading_is text r)
    (or_then text (point_packet_of text) _ r (point_packet_is text r)
    (or_then text (moving_of text) _ r (moving_is text r) (monitor_is text r))))))))

some_of : (found : Option Request) (r : Request) → request_or found ≡ r → r ≢ request.Unknown → found ≡ Some r
some_of None r read known = absurd (known (sym read))
some_of (Some one) r read known = ap Some read

pub makes : (text : List ℕ) (r : Request) → r ≢ request.Unknown → request_of text ≡ r → Makes text r
makes text r known read = packet_is text r (some_of _ r read known)

-- ---- the unknown

known_of : (r : Request) → (r ≡ request.Unknown) ⊎ (r ≢ request.Unknown)
known_of request.Unknown = inl refl
known_of other = inr (λ e. absurd cc)

none_unknown : (text : List ℕ) (r : Request) → Makes text r → r ≢ request.Unknown
none_unknown text r made is = let P : Request → Type 0 = λ x. Makes text x in subst P is made

pub unknown_makes : (text : List ℕ) → request_of text ≡ request.Unknown → (r : Request) → ¬ Makes text r
unknown_makes text read r made = none_unknown text r made (sym (again text r made) ∙ read)

pub makes_unknown : (text : List ℕ) → ((r : Request) → ¬ Makes text r) → request_of text ≡ request.Unknown
makes_unknown text none =
    elim (known_of (request_of text)) [
      | inl is ↦ is
      | inr known ↦ absurd (none (request_of text) (makes text (request_of text) known refl))
    ]
