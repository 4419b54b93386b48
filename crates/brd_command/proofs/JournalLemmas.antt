-- What the texts of `--raise` and `--weights` say, read piece by piece.
use Rattle.std.proofs.Common.{◌≡◌, ℕ, zero, suc, ◌+◌, ◌-◌, ◌<◌, Bool, true, false, ◌&&◌, ◌||◌, List, [], ◌∷◌, ◌++◌, length, map, set, replicate, refl, sym, ap, ◌∙◌, inl, inr, arith, eqb, subst, Bor}
use Rattle.std.specs.Prelude.{nat_lt, Option, None, Some, option_map, option_and_then, is_some, nat_eq}
use Rattle.std.specs.List.{list_all, list_any, IsDistinct, AllByRecursion}
use Rattle.std.proofs.lemmas.Bool.{cases_Bool}
use Rattle.std.proofs.lemmas.List.{append_assoc, append-nil, length-append, length-replicate, replicate_more}
use Rattle.std.proofs.lemmas.List.Splits.{length-slice_split}
use Rattle.brd_schedule.specs.declared.plan.Raise.{Raise}
use Rattle.brd_schedule.specs.declared.plan.Rule.{Rule}
use Rattle.brd_schedule.specs.declared.plan.Rule.TheVariants.{Drawn, InTurns, Lowered}
use Rattle.brd_command.specs.declared.journal_options.JournalOptions.{JournalOptions}
use Rattle.brd_word.specs.declared.order.Order.{Order}
use Rattle.brd_board.specs.declared.event.Event.{Event}
use Rattle.brd_journal.specs.Text.{text_of}
use Rattle.brd_schedule.specs.Schedule.{IsMade, made as events_made}
use Rattle.brd_schedule.specs.declared.plan.Plan.{Plan}
use Rattle.brd_command.specs.JournalCommand.{AreOfOneWay, IsRule, MakesJournal, raises_text, weights_text}
use Rattle.brd_text.specs.Pieces.{is_comma, pieces_of, pieces_behind}
use Rattle.brd_command.specs.JournalTexts.{all_of, raise_of, weight_of, AreRaisesOf, SaysRaises, SaysWeights, eight}

-- ---- what is said of each piece

abbrev pub behind_these : {Y : Type 0} → List Y → Option (List Y) → Option (List Y)
behind_these said rest = option_map (λ ys. said ++ ys) rest

behind_one_more : {Y : Type 0} (said : List Y) (y : Y) (rest : Option (List Y))
    → behind_these said (option_map (λ ys. y ∷ ys) rest) ≡ behind_these (said ++ y ∷ []) rest
behind_one_more said y None = refl
behind_one_more said y (Some ys) = ap Some (sym (append_assoc said (y ∷ []) ys))

pub all_of_nothing : {X Y : Type 0} (f : X → Option Y) (xs : List X) → all_of f xs ≡ behind_these [] (all_of f xs)
all_of_nothing f xs = elim (all_of f xs) as (λ o. o ≡ behind_these [] o) [ None ↦ refl | Some ys ↦ refl ]

-- a piece says something
pub one_more : {X Y : Type 0} (f : X → Option Y) (x : X) (xs : List X) (said : List Y) (y : Y) (all : Option (List Y))
    → all ≡ behind_these said (all_of f (x ∷ xs)) → f x ≡ Some y → all ≡ behind_these (said ++ y ∷ []) (all_of f xs)
one_more f x xs said y all h is =
    h ∙ ap (λ (o : Option _). behind_these said (option_and_then (λ y. option_map (λ ys. y ∷ ys) (all_of f xs)) o)) is
    ∙ behind_one_more said y (all_of f xs)

-- a piece says nothing
pub none_more : {X Y : Type 0} (f : X → Option Y) (x : X) (xs : List X) (said : List Y) (all : Option (List Y))
    → all ≡ behind_these said (all_of f (x ∷ xs)) → f x ≡ None → all ≡ None
none_more f x xs said all h is =
    h ∙ ap (λ (o : Option _). behind_these said (option_and_then (λ y. option_map (λ ys. y ∷ ys) (all_of f xs)) o)) is

-- no piece is left
pub all_said : {Y : Type 0} (said : List Y) (all : Option (List Y)) → all ≡ behind_these said (Some []) → all ≡ Some said
all_said said all h = h ∙ ap Some (append-nil said)

-- a text has a piece
some_piece : (text : List ℕ) → 0 < length (pieces_of text)
some_piece text = omega (arith, length-slice_split is_comma text)

-- ---- raises

abbrev pub numbers_of : List Raise → List ℕ
numbers_of raises = map (λ raise. raise.at) raises

pub some_of_bytes : (text : Option (Bor (List ℕ))) → is_some (option_map (λ it. it.now) text) ≡ is_some text
some_of_bytes None = refl
some_of_bytes (Some text) = refl

-- what of the text was read says these raises
pub record HasRead (text : List ℕ) (raises : List Raise) (rest : List (List ℕ)) : Type 0 where
  pub said : all_of raise_of (pieces_of text) ≡ behind_these raises (all_of raise_of rest)
  pub apart : IsDistinct nat_eq (numbers_of raises)

apart_from_last : (n at : ℕ) (raises : List Raise) (raise : Raise) → raise.at ≡ at → nat_eq n at ≡ false
    → AllByRecursion (λ m. nat_eq n m ≡ false) (numbers_of raises)
    → AllByRecursion (λ m. nat_eq n m ≡ false) (numbers_of (raises ++ raise ∷ []))
apart_from_last n at [] raise e other all = (rw e other, tt)
apart_from_last n at (r ∷ rs) raise e other all = (all.0, apart_from_last n at rs raise e other all.1)

pub stays_apart : (raises : List Raise) (raise : Raise) → list_any (λ r. eqb r.at raise.at) raises ≡ false
    → IsDistinct nat_eq (numbers_of raises) → IsDistinct nat_eq (numbers_of (raises ++ raise ∷ []))
unfolding IsDistinct
stays_apart [] raise none apart = (tt, tt)
stays_apart (r ∷ rs) raise none apart =
    elim (cases_Bool (eqb r.at raise.at)) [
      | inl same ↦ let q : true ≡ false = rw same at none in absurd (cc)
      | inr other ↦
          let rest : list_any (λ r. eqb r.at raise.at) rs ≡ false = rw other at none in
          (apart_from_last r.at raise.at rs raise refl other apart.0, stays_apart rs raise rest apart.1)
    ]

at_last : (n : ℕ) (raises more : List Raise) (raise : Raise) → AllByRecursion (λ m. nat_eq n m ≡ false) (numbers_of (raises ++ raise ∷ more))
    → nat_eq n raise.at ≡ false
at_last n [] more raise all = all.0
at_last n (r ∷ rs) more raise all = at_last n rs more raise all.1

pub named_twice : (raises more : List Raise) (raise : Raise) → list_any (λ r. eqb r.at raise.at) raises ≡ true
    → IsDistinct nat_eq (numbers_of (raises ++ raise ∷ more)) → ⊥
unfolding IsDistinct
named_twice [] more raise some apart = let q : false ≡ true = some in cc
named_twice (r ∷ rs) more raise some apart =
    elim (cases_Bool (eqb r.at raise.at)) [
      | inl same ↦ let other = at_last r.at rs more raise apart.0 in cc
      | inr other ↦
          let rest : list_any (λ r. eqb r.at raise.at) rs ≡ true = rw other at some in
          named_twice rs more raise rest apart.1
    ]

-- a piece that says no raise
pub no_raises : (text piece : List ℕ) (raises : List Raise) (rest : List (List ℕ)) → HasRead text raises (piece ∷ rest) → raise_of piece ≡ None
    → (others : List Raise) → AreRaisesOf text others → ⊥
no_raises text piece raises rest read none others are =
    let nothing = none_more raise_of piece rest raises _ read.said none in
    let some = are.each in cc

twice_in_all : (raises : List Raise) (raise : Raise) (o : Option (List Raise)) (others : List Raise)
    → list_any (λ r. eqb r.at raise.at) raises ≡ true → behind_these (raises ++ raise ∷ []) o ≡ Some others
    → IsDistinct nat_eq (numbers_of others) → ⊥
twice_in_all raises raise None others again h apart = cc
twice_in_all raises raise (Some ys) others again h apart =
    let e : raises ++ raise ∷ ys ≡ others = let q : (raises ++ raise ∷ []) ++ ys ≡ others = cc in sym (append_assoc raises (raise ∷ []) ys) ∙ q in
    let P : List Raise → Type 0 = λ rs. IsDistinct nat_eq (numbers_of rs) in
    named_twice raises ys raise again (subst P (sym e) apart)

-- a piece that says a raise of an event that has one
pub read_on : (text : List ℕ) (raises : List Raise) (all : List (List ℕ)) (piece : List ℕ) (rest : List (List ℕ)) → HasRead text raises all
    → all ≡ piece ∷ rest → HasRead text raises (piece ∷ rest)
read_on text raises all piece rest read e = let P : List (List ℕ) → Type 0 = λ pieces. HasRead text raises pieces in subst P e read

pub raised_again : (text piece : List ℕ) (raises : List Raise) (rest : List (List ℕ)) (raise : Raise) → HasRead text raises (piece ∷ rest)
    → raise_of piece ≡ Some raise → list_any (λ r. eqb r.at raise.at) raises ≡ true → (others : List Raise) → AreRaisesOf text others → ⊥
raised_again text piece raises rest raise read is again others are =
    let more = one_more raise_of piece rest raises raise _ read.said is in
    twice_in_all raises raise (all_of raise_of rest) others again (sym more ∙ are.each) are.apart

-- a piece that says a raise of an event that has none yet
pub raised_once : (text piece : List ℕ) (raises : List Raise) (rest : List (List ℕ)) (raise : Raise) → HasRead text raises (piece ∷ rest)
    → raise_of piece ≡ Some raise → list_any (λ r. eqb r.at raise.at) raises ≡ false → HasRead text (raises ++ raise ∷ []) rest
raised_once text piece raises rest raise read is once = record {
  said = one_more raise_of piece rest raises raise _ read.said is;
  apart = stays_apart raises raise once read.apart;
}

pub raised_on : (text : List ℕ) (all : List (List ℕ)) (piece : List ℕ) (rest left : List (List ℕ)) (raises : List Raise) (raise : Raise)
    (items : List Raise) → HasRead text raises all → all ≡ piece ∷ rest → raise_of piece ≡ Some raise
    → list_any (λ r. eqb r.at raise.at) raises ≡ false → items ≡ raises ++ raise ∷ [] → rest ≡ left → HasRead text items left
raised_on text all piece rest left raises raise items read e is once more same =
    let now : HasRead text (raises ++ raise ∷ []) rest = raised_once text piece raises rest raise (read_on text raises all piece rest read e) is once in
    let P : List (List ℕ) → Type 0 = λ pieces. HasRead text items pieces in
    let Q : List Raise → Type 0 = λ them. HasRead text them rest in
    subst P same (subst Q (sym more) now)

pub whole_text : (text : List ℕ) (raises : List Raise) → HasRead text raises [] → AreRaisesOf text raises
whole_text text raises read = record { each = all_said raises _ read.said; apart = read.apart }

pub nothing_read : (text : List ℕ) → HasRead text [] (pieces_of text)
unfolding IsDistinct
nothing_read text = record { said = all_of_nothing raise_of (pieces_of text); apart = tt }

-- ---- weights

-- these weights were read, as many as there are, and stand at the front of eight
pub record HasWeighed (text : List ℕ) (place : ℕ) (weights : List ℕ) (rest : List (List ℕ)) : Type 0 where
  pub given : List ℕ
  pub count : length given ≡ place
  pub front : weights ≡ eight place given
  pub said : all_of weight_of (pieces_of text) ≡ behind_these given (all_of weight_of rest)

set_behind : (given : List ℕ) (y : ℕ) (ys : List ℕ) (w : ℕ) → set (given ++ y ∷ ys) (length given) w ≡ given ++ w ∷ ys
set_behind [] y ys w = refl
set_behind (g ∷ gs) y ys w = ap (λ (xs : List ℕ). g ∷ xs) (set_behind gs y ys w)

zeros_less : (place : ℕ) → place < 8 → replicate {A = ℕ} (8 - place) 0 ≡ 0 ∷ replicate {A = ℕ} (8 - (place + 1)) 0
zeros_less place h = let e : 8 - place ≡ suc (8 - (place + 1)) = omega arith in rw e refl

pub set_next : (given : List ℕ) (place w : ℕ) → place < 8 → length given ≡ place
    → set (eight place given) place w ≡ eight (place + 1) (given ++ w ∷ [])
set_next given place w h count =
    rw (zeros_less place h, ← count, set_behind given 0 (replicate (8 - (length given + 1)) 0) w, append_assoc) refl

weighed_next : (text piece weights : List ℕ) (place w : ℕ) (rest : List (List ℕ)) → place < 8 → HasWeighed text place weights (piece ∷ rest)
    → weight_of piece ≡ Some w → HasWeighed text (place + 1) (set weights place w) rest
weighed_next text piece weights place w rest h read is = record {
  given = read.given ++ w ∷ [];
  count = omega (arith, length-append read.given (w ∷ []), read.count);
  front = ap (λ (xs : List ℕ). set xs place w) read.front ∙ set_next read.given place w h read.count;
  said = one_more weight_of piece rest read.given w _ read.said is;
}

pub weighed_more : (text piece weights : List ℕ) (place w : ℕ) (all rest : List (List ℕ)) → place < 8 → HasWeighed text place weights all
    → all ≡ piece ∷ rest → weight_of piece ≡ Some w → HasWeighed text (place + 1) (set weights place w) rest
weighed_more text piece weights place w all rest h read e is =
    let P : List (List ℕ) → Type 0 = λ pieces. HasWeighed text place weights pieces in
    weighed_next text piece weights place w rest h (subst P e read) is

pub no_weight : (cpus : ℕ) (text piece weights : List ℕ) (place : ℕ) (rest : List (List ℕ)) → HasWeighed text place weights (piece ∷ rest)
    → weight_of piece ≡ None → (others : List ℕ) → SaysWeights cpus (Some text) others → ⊥
no_weight cpus text piece weights place rest read none others says =
    let nothing = none_more weight_of piece rest read.given _ read.said none in
    let some = says.1.each in cc

-- the text has fewer pieces than there are processors
pub too_few : (cpus : ℕ) (text weights : List ℕ) (place : ℕ) → HasWeighed text place weights [] → place < cpus
    → (others : List ℕ) → SaysWeights cpus (Some text) others → ⊥
too_few cpus text weights place read less others says =
    let all = all_said read.given _ read.said in
    let each = says.1.each in
    let e : read.given ≡ says.0 = cc in
    omega (arith, ap length e, read.count, says.1.one_each)

more_in_all : (given : List ℕ) (o : Option (List ℕ)) (w : Option ℕ) (others : List ℕ)
    → behind_these given (option_and_then (λ y. option_map (λ ys. y ∷ ys) o) w) ≡ Some others → length given < length others
more_in_all given o None others h = absurd (cc)
more_in_all given None (Some w) others h = absurd (cc)
more_in_all given (Some ys) (Some w) others h =
    let e : given ++ w ∷ ys ≡ others = cc in
    omega (arith, ap length e, length-append given (w ∷ ys))

-- the text has more pieces than there are processors
pub too_many : (cpus : ℕ) (text piece weights : List ℕ) (rest : List (List ℕ)) → HasWeighed text cpus weights (piece ∷ rest)
    → (others : List ℕ) → SaysWeights cpus (Some text) others → ⊥
too_many cpus text piece weights rest read others says =
    let more = more_in_all read.given (all_of weight_of rest) (weight_of piece) says.0 (sym read.said ∙ says.1.each) in
    omega (arith, read.count, says.1.one_each)

more_pieces : (cpus : ℕ) (text weights : List ℕ) (all : List (List ℕ)) → 0 < length all → HasWeighed text cpus weights all
    → (others : List ℕ) → SaysWeights cpus (Some text) others → ⊥
more_pieces cpus text weights [] some read others says = absurd (omega arith)
more_pieces cpus text weights (piece ∷ rest) some read others says = too_many cpus text piece weights rest read others says

pub not_used_up : (cpus place : ℕ) (text weights : List ℕ) (rest : Option (List ℕ)) → HasWeighed text place weights (pieces_behind rest)
    → place ≡ cpus → is_some rest ≡ true → (others : List ℕ) → SaysWeights cpus (Some text) others → ⊥
not_used_up cpus place text weights None read e some others says = let q : false ≡ true = some in cc
not_used_up cpus place text weights (Some more) read e some others says =
    let P : ℕ → Type 0 = λ n. HasWeighed text n weights (pieces_of more) in
    more_pieces cpus text weights (pieces_of more) (some_piece more) (subst P e read) others says

used_up : (cpus place : ℕ) (text weights : List ℕ) (rest : Option (List ℕ)) → HasWeighed text place weights (pieces_behind rest)
    → place ≡ cpus → is_some rest ≡ false → HasWeighed text cpus weights []
used_up cpus place text weights (Some more) read e none = let q : true ≡ false = none in absurd (cc)
used_up cpus place text weights None read e none = let P : ℕ → Type 0 = λ n. HasWeighed text n weights [] in subst P e read

zeros_behind : (given : List ℕ) (n : ℕ) → list_all (λ weight. eqb weight 0) (given ++ replicate n 0) ≡ list_all (λ weight. eqb weight 0) given
zeros_behind [] zero = refl
zeros_behind [] (suc n) = zeros_behind [] n
zeros_behind (g ∷ gs) n = ap (λ (b : Bool). eqb g 0 && b) (zeros_behind gs n)

-- all weights are 0
pub all_zero : (cpus place : ℕ) (text weights : List ℕ) (rest : Option (List ℕ)) → HasWeighed text place weights (pieces_behind rest)
    → place ≡ cpus → is_some rest ≡ false → list_all (λ weight. eqb weight 0) weights ≡ true
    → (others : List ℕ) → SaysWeights cpus (Some text) others → ⊥
all_zero cpus place text weights rest left e none zeros others says =
    let read : HasWeighed text cpus weights [] = used_up cpus place text weights rest left e none in
    let all = all_said read.given _ read.said in
    let each = says.1.each in
    let ours : read.given ≡ says.0 = cc in
    let same = zeros_behind read.given (8 - cpus) in
    let q = read.front in
    let some = says.1.some in
    let t : list_all (λ weight. eqb weight 0) read.given ≡ true = sym same ∙ (rw (← q) zeros) in
    let u : list_all (λ weight. eqb weight 0) read.given ≡ false = rw ours some in
    cc

pub weighed : (cpus place : ℕ) (text weights : List ℕ) (rest : Option (List ℕ)) → HasWeighed text place weights (pieces_behind rest)
    → place ≡ cpus → is_some rest ≡ false → list_all (λ weight. eqb weight 0) weights ≡ false → SaysWeights cpus (Some text) weights
weighed cpus place text weights rest left e none some =
    let read : HasWeighed text cpus weights [] = used_up cpus place text weights rest left e none in
    let same = zeros_behind read.given (8 - cpus) in
    let q = read.front in (
      read.given,
      record { each = all_said read.given _ read.said; one_each = read.count; some = sym same ∙ (rw (← q) some) },
      read.front,
    )

pub nothing_weighed : (text : List ℕ) → HasWeighed text 0 (replicate 8 0) (pieces_of text)
nothing_weighed text = record { given = []; count = refl; front = refl; said = all_of_nothing weight_of (pieces_of text) }

pub one_alike : (place : ℕ) → place < 8 → set (eight place (replicate place 1)) place 1 ≡ eight (place + 1) (replicate (place + 1) 1)
one_alike place h = set_next (replicate place 1) place 1 h (length-replicate place 1) ∙ rw (replicate_more {X = ℕ} place 1) refl

-- ---- options that go together

none_of_three : (a b c : Bool) → ((a || b) || c) ≡ false → b ≡ false
none_of_three true b c h = absurd (cc)
none_of_three false true c h = absurd (cc)
none_of_three false false c h = refl

not_both : (turn draws changes : Bool) → (turn || (draws && changes)) ≡ false → changes ≡ true → draws ≡ false
not_both true draws changes h e = absurd (cc)
not_both false false changes h e = refl
not_both false true changes h e = absurd (cc)

second_false : (a b : Bool) → (a || b) ≡ false → b ≡ false
second_false true b h = absurd (cc)
second_false false b h = h

where_none : (cpus : ℕ) (text : Option (Bor (List ℕ))) → is_some text ≡ false
    → (weights : List ℕ) × SaysWeights cpus (option_map (λ it. it.now) text) weights
where_none cpus None none = (eight cpus (replicate cpus 1), refl)
where_none cpus (Some text) none = absurd (cc)

-- Where options say by a rule who steps, `--weights` says weights, or isn't given.
pub weights_said : (cpus : ℕ) (options : JournalOptions) (rule : Rule) → AreOfOneWay options → IsRule cpus options rule
    → (weights : List ℕ) × SaysWeights cpus (weights_text options) weights
weights_said cpus options (InTurns each) way is =
    let seed : is_some options.seed ≡ false = rw is.0 refl in
    let none : ((is_some options.switch || is_some options.weights) || is_some options.changes) ≡ false = rw seed at way.seed in
    where_none cpus options.weights (none_of_three (is_some options.switch) (is_some options.weights) (is_some options.changes) none)
weights_said cpus options (Drawn seed switch weights) way is = (weights, is.3)
weights_said cpus options (Lowered seed changes) way is =
    let some : is_some options.seed ≡ true = rw is.0 refl in
    let none : (is_some options.turn || ((is_some options.switch || is_some options.weights) && is_some options.changes)) ≡ false = rw some at way.together in
    let draws = not_both (is_some options.turn) (is_some options.switch || is_some options.weights) (is_some options.changes) none (rw is.1 refl) in
    where_none cpus options.weights (second_false (is_some options.switch) (is_some options.weights) draws)

pub journal_made : (cpus events : ℕ) (options : JournalOptions) (plan : Plan) (made : List Event) (order : Order) (bytes : List ℕ)
    → plan.cpus ≡ cpus → plan.events ≡ events → plan.tick_every ≡ options.tick_every → (nat_lt 0 cpus && nat_lt cpus 9) ≡ true
    → options.order ≡ Some order → SaysRaises (raises_text options) plan.raises.now → AreOfOneWay options → IsRule plan.cpus options plan.rule
    → IsMade plan made → made ≡ events_made plan plan.events → bytes ≡ text_of order made → MakesJournal cpus events options bytes
journal_made cpus events options plan made order bytes count len ticks processors is_order raises way is_rule is_made exact shown =
    let P : ℕ → Type 0 = λ n. IsRule n options plan.rule in
    let rule : IsRule cpus options plan.rule = subst P count is_rule in
    let said = weights_said cpus options plan.rule way rule in
    record {
      allowed = record {
        processors = processors;
        one_way = way;
        raises = plan.raises.now;
        says_raises = raises;
        weights = said.0;
        says_weights = said.1;
      };
      plan = plan;
      made = made;
      of_processors = count;
      of_events = len;
      of_ticks = ticks;
      of_raises = raises;
      of_rule = rule;
      is_made = is_made;
      exact = exact;
      order = order;
      of_order = is_order;
      shown = shown;
    }
