-- Which search options ask for, and what may be wrong with them.
use Rattle.std.specs.Prelude.{◌≡◌, ℕ, zero, suc, ◌-◌, ◌<◌, ◌≤◌, nat_lt, ◌==◌, Bool, true, false, not}
use Rattle.std.specs.Prelude.{◌&&◌, ◌||◌, if◌then◌else◌, List, [], ◌∷◌, ◌++◌, length, Option, None, Some, is_some}
use Rattle.std.specs.Prelude.{option_and_then, option_map, Result, Ok, Err, take, drop}
use Rattle.std.specs.Borrow.{Bor}
use Rattle.std.specs.List.{list_any, position_or_len, before_first, after_first, slice_split}
use Rattle.brd_text.specs.Bytes.{is_digit}
use Rattle.brd_text.specs.Faults.{◌>>=◌, or_fault}
use Rattle.brd_text.specs.Numbers.{number_of, plain_decimal_of}
use Rattle.brd_text.specs.Pieces.{pieces_of}
use Rattle.brd_mem.specs.Image.{symbol_value}
use Rattle.brd_mem.specs.declared.image.Symbol.{Symbol}
use Rattle.brd_board.specs.declared.event.Event.{Event}
use Rattle.brd_board.specs.declared.event.Event.TheVariants.{Step, Tick, Raise}
use Rattle.brd_board.specs.Board.{BoardState}
use Rattle.brd_board.specs.Words.{word_at}
use Rattle.brd_explore.specs.Schedules.{does}
use Rattle.brd_explore.specs.declared.bounds.Bounds.{Bounds}
use Rattle.brd_explore.specs.declared.shard.Shard as part
use Rattle.brd_explore.specs.declared.condition.Comparison.{Comparison}
use Rattle.brd_explore.specs.declared.condition.Comparison.TheVariants.{Less, AtMost, More, AtLeast, Same, Other}
use Rattle.brd_explore.specs.declared.condition.Condition.{Condition}
use Rattle.brd_explore.specs.declared.condition.Term.{Term}
use Rattle.brd_explore.specs.declared.condition.Term.TheVariants as term
use Rattle.brd_explore.specs.declared.wanted.Failure.{Failure}
use Rattle.brd_explore.specs.declared.wanted.Failure.TheVariants as failure
use Rattle.brd_explore.specs.declared.wanted.Wanted.{Wanted}
use Rattle.brd_search.specs.Escapes.{bytes_of}
use Rattle.brd_search.specs.declared.fault.SearchFault.{SearchFault}
use Rattle.brd_search.specs.declared.fault.SearchFault.TheVariants.{NoMemory, Events, Fair, Remember, Lines, NoLines}
use Rattle.brd_search.specs.declared.fault.SearchFault.TheVariants.{Twice, NoHandler, Ends, Places, Lazy, Reach}
use Rattle.brd_search.specs.declared.fault.SearchFault.TheVariants.{Never, Time, Word, NoSymbol, Console, Shard, Threads}
use Rattle.brd_search.specs.declared.fault.SearchFault.TheVariants.{Raises as BadRaises}
use Rattle.brd_search.specs.declared.fault.SearchFault.TheVariants.{NoFinals, Values, ValuesTwice, NoWord}
use Rattle.brd_search.specs.declared.fault.SearchFault.TheVariants.{Only, RaisesAt, NoRaises, OnlyAlone}
use Rattle.brd_search.specs.declared.fault.RegionFault.{RegionFault}
use Rattle.brd_search.specs.declared.fault.RegionFault.TheVariants as region_fault
use Rattle.brd_only.specs.declared.region.Region.{Region}
use Rattle.brd_only.specs.declared.region.Regions.{Regions}
use Rattle.brd_search.specs.declared.raises.Raises.{Raises}
use Rattle.brd_search.specs.declared.options.Looks.{Looks}
use Rattle.brd_search.specs.declared.options.SearchOptions.{SearchOptions}
use Rattle.brd_search.specs.declared.plan.Plan.{Plan}

-- the text of an option, where it is given
abbrev pub text_of : Option (Bor (List ℕ)) → Option (List ℕ)
text_of text = option_map (λ it. it.now) text

-- what f gives of each element, or its first fault
abbrev pub each_of : {X Y F : Type 0} → (X → Result Y F) → List X → Result (List Y) F
each_of f [] = Ok []
each_of f (x ∷ xs) = f x >>= (λ y. each_of f xs >>= (λ ys. Ok (y ∷ ys)))

-- what stands before the first such byte of a text, and what is behind it, where the text has one
unfoldable pub parts_of : ℕ → List ℕ → Option (List ℕ × List ℕ)
parts_of mark text =
    if nat_lt (position_or_len (λ b. b == mark) text) (length text)
    then Some (before_first (λ b. b == mark) text, after_first (λ b. b == mark) text)
    else None

-- ---- the events

-- a step of each of the first n processors, which are counted from 1
abbrev pub steps_of : ℕ → List Event
steps_of zero = []
steps_of (suc n) = steps_of n ++ Step (suc n) ∷ []

-- a tick, where any are allowed
abbrev pub ticks_of : ℕ → List Event
ticks_of most = if most == 0 then [] else Tick ∷ []

-- a raise of this line, where there is one
abbrev pub raise_at : Option ℕ → Result Event SearchFault
raise_at None = Err Lines
raise_at (Some line) = Ok (Raise line)

-- the raise of the interrupt line that a piece names, a plain decimal up to 31
unfoldable pub raise_of : List ℕ → Result Event SearchFault
raise_of piece = raise_at (plain_decimal_of piece 31)

-- the raises of the lines of `--lines`, each a piece of its text
abbrev pub raises_in : Option (List ℕ) → Result (List Event) SearchFault
raises_in None = Err NoLines
raises_in (Some text) = each_of raise_of (pieces_of text)

-- no line is named where no raise is allowed
abbrev pub no_raises : Option (List ℕ) → Result (List Event) SearchFault
no_raises None = Ok []
no_raises (Some text) = Err NoLines

-- a raise of each line that `--lines` names, where raises are allowed
abbrev pub raises_of : ℕ → Option (List ℕ) → Result (List Event) SearchFault
raises_of most lines = if most == 0 then no_raises lines else raises_in lines

-- the number behind the second point of F..R
abbrev pub behind_point : List ℕ → Option ℕ
behind_point [] = None
behind_point (b ∷ bs) = if b == 46 then plain_decimal_of bs 4294967295 else None

-- R: as many before rest is an end as at most
abbrev pub raises_each : Option ℕ → Option Raises
raises_each None = None
raises_each (Some most) = Some (record { most = most; owed = most })

-- F..R, where F is at most R
abbrev pub raises_at : Option ℕ → Option ℕ → Option Raises
raises_at None most = None
raises_at (Some owed) None = None
raises_at (Some owed) (Some most) = if nat_lt most owed then None else Some (record { most = most; owed = owed })

abbrev pub raises_by : List ℕ → Option (List ℕ × List ℕ) → Option Raises
raises_by text None = raises_each (plain_decimal_of text 4294967295)
raises_by text (Some parts) = raises_at (plain_decimal_of parts.0 4294967295) (behind_point parts.1)

-- the raises that `--raises` says by R or F..R, plain decimals up to 4,294,967,295; none where it isn't given
abbrev pub raises_said : Option (List ℕ) → Option Raises
raises_said None = Some (record { most = 0; owed = 0 })
raises_said (Some text) = raises_by text (parts_of 46 text)

-- the events that may come: a step of each processor, a tick and raises where they are allowed
pub record MayCome (options : SearchOptions) (most cpus : ℕ) (among : List Event) : Type 0 where
  pub raises : List Event
  pub are_raises : raises_of most (text_of options.lines) ≡ Ok raises
  pub all : among ≡ steps_of cpus ++ ticks_of options.sizes.ticks ++ raises

-- the events that the options of raises allow, beside steps and ticks
pub record HasLines (options : SearchOptions) (cpus : ℕ) (said : Raises) (among : List Event) : Type 0 where
  pub raises : raises_said (text_of options.raises) ≡ Some said
  pub all : MayCome options said.most cpus among

-- an event raises a line
abbrev pub raises_line : ℕ → Event → Bool
raises_line line (Step cpu) = false
raises_line line Tick = false
raises_line line (Raise other) = other == line

-- an event raises a line that one of some others raises, too
abbrev pub is_again : Event → List Event → Bool
is_again (Step cpu) events = false
is_again Tick events = false
is_again (Raise line) events = list_any (raises_line line) events

-- two of the events raise the same line
abbrev pub is_twice : List Event → Bool
is_twice [] = false
is_twice (event ∷ events) = is_again event events || is_twice events

-- an event raises a line that has no handler on a board: it does nothing there
abbrev pub is_idle : BoardState → Event → Bool
is_idle b (Step cpu) = false
is_idle b Tick = false
is_idle b (Raise line) = not (does b (Raise line))

-- n times the same events
unfoldable pub times : ℕ → List Event → List Event
times zero events = []
times (suc n) events = times n events ++ events

-- a round of the fair end (own choice): 16 times a step of each processor in turn, and then a tick
abbrev pub round_of : ℕ → List Event
round_of cpus = times 16 (steps_of cpus) ++ Tick ∷ []

-- ---- the shard

-- shard K of M; K is counted from 1, the shard's number from 0
abbrev pub shard_at : Option ℕ → Option ℕ → Option part.Shard
shard_at None count = None
shard_at (Some number) None = None
shard_at (Some number) (Some count) =
    if number == 0 || nat_lt count number then None else Some (record { number = number - 1; of = count })

-- the two parts of K/M, plain decimals up to 1,000,000
abbrev pub shard_in : Option (List ℕ × List ℕ) → Option part.Shard
shard_in None = None
shard_in (Some parts) = shard_at (plain_decimal_of parts.0 1000000) (plain_decimal_of parts.1 1000000)

-- the shard that `--shard` says by K/M; the whole where it isn't given
abbrev pub shard_of : Option (List ℕ) → Option part.Shard
shard_of None = Some (record { number = 0; of = 1 })
shard_of (Some text) = shard_in (parts_of 47 text)

-- ---- what is looked for

-- a text begins with a digit
abbrev pub begins_with_digit : List ℕ → Bool
begins_with_digit [] = false
begins_with_digit (b ∷ bs) = is_digit b

-- the address of a place: a number where it begins with a digit, else the value of the symbol of that name
abbrev pub address_of : List Symbol → List ℕ → Result ℕ SearchFault
address_of symbols place =
    if begins_with_digit place then or_fault Word (number_of place) else or_fault NoSymbol (symbol_value symbols place)

-- the number behind the second point of LEAST..MOST
abbrev pub most_of : List ℕ → Option ℕ
most_of [] = None
most_of (b ∷ bs) = if b == 46 then number_of bs else None

-- the failure of a word that is to lie in a range, where both of its ends are there
abbrev pub outside : ℕ → Option ℕ → Option ℕ → Result Failure SearchFault
outside address None most = Err Word
outside address (Some least) None = Err Word
outside address (Some least) (Some most) = Ok (failure.Outside address least most)

-- the failure of a word that is to have a value, where there is one
abbrev pub value_at : ℕ → Option ℕ → Result Failure SearchFault
value_at address None = Err Word
value_at address (Some value) = Ok (failure.Word address value)

-- the failure of a word that is to be VALUE, or LEAST..MOST where the text has a point
abbrev pub value_by : ℕ → List ℕ → Option (List ℕ × List ℕ) → Result Failure SearchFault
value_by address value None = value_at address (number_of value)
value_by address value (Some parts) = outside address (number_of parts.0) (most_of parts.1)

-- the failure that the two parts of a word look for, a place and what it should be
abbrev pub goal_by : List Symbol → Option (List ℕ × List ℕ) → Result Failure SearchFault
goal_by symbols None = Err Word
goal_by symbols (Some parts) =
    address_of symbols parts.0 >>= (λ address. value_by address parts.1 (parts_of 46 parts.1))

-- the failure that PLACE=VALUE or PLACE=LEAST..MOST looks for
unfoldable pub goal_of : List Symbol → List ℕ → Result Failure SearchFault
goal_of symbols word = goal_by symbols (parts_of 61 word)

-- the failures that `--word` looks for, each by a piece of its text
abbrev pub goals_of : List Symbol → Option (List ℕ) → Result (List Failure) SearchFault
goals_of symbols None = Ok []
goals_of symbols (Some text) = each_of (goal_of symbols) (pieces_of text)

-- the failure that `--console` looks for, of the bytes for which its text stands
abbrev pub consoles_of : Option (List ℕ) → Option (List Failure)
consoles_of None = Some []
consoles_of (Some text) = option_map (λ bytes. failure.Console bytes ∷ []) (bytes_of text)

-- the address of a place of an instruction
abbrev pub place_of : List Symbol → List ℕ → Option ℕ
place_of symbols place = if begins_with_digit place then number_of place else symbol_value symbols place

-- the failure that a place of `--reach` looks for
abbrev pub reach_of : List Symbol → List ℕ → Result Failure SearchFault
reach_of symbols place = or_fault Reach (option_map (λ address. failure.At address) (place_of symbols place))

-- the failures that `--reach` looks for, each by a piece of its text
abbrev pub reaches_of : List Symbol → Option (List ℕ) → Result (List Failure) SearchFault
reaches_of symbols None = Ok []
reaches_of symbols (Some text) = each_of (reach_of symbols) (pieces_of text)

-- ---- the regions to which schedules keep

-- the address of a place of a region: a number where it begins with a digit, else the value of the symbol of that name
abbrev pub label_at : List Symbol → List ℕ → Result ℕ RegionFault
label_at symbols place =
    if begins_with_digit place then or_fault region_fault.Form (number_of place)
    else or_fault region_fault.NoSymbol (symbol_value symbols place)

-- the region from one address up to a higher one
abbrev pub between : ℕ → ℕ → Result Region RegionFault
between from upto = if nat_lt from upto then Ok (record { from = from; upto = upto }) else Err region_fault.Empty

-- the region from a place up to the one that stands behind the second point of FROM..UPTO
abbrev pub region_from : List Symbol → List ℕ → List ℕ → Result Region RegionFault
region_from symbols from [] = Err region_fault.Form
region_from symbols from (b ∷ bs) =
    if b == 46 then label_at symbols from >>= (λ first. label_at symbols bs >>= (λ second. between first second))
    else Err region_fault.Form

abbrev pub region_by : List Symbol → Option (List ℕ × List ℕ) → Result Region RegionFault
region_by symbols None = Err region_fault.Form
region_by symbols (Some parts) = region_from symbols parts.0 parts.1

-- the region that FROM..UPTO says
unfoldable pub region_of : List Symbol → List ℕ → Result Region RegionFault
region_of symbols text = region_by symbols (parts_of 46 text)

-- the regions of a text, each by a piece of it
abbrev pub regions_in : List Symbol → List ℕ → Result (List Region) RegionFault
regions_in symbols text = each_of (region_of symbols) (pieces_of text)

-- a region is the same as another one
abbrev pub is_same : Region → Region → Bool
is_same one other = other.from == one.from && other.upto == one.upto

-- a region is there twice
abbrev pub are_double : List Region → Bool
are_double [] = false
are_double (region ∷ regions) = list_any (λ other. is_same region other) regions || are_double regions

-- regions, unless one is there twice
abbrev pub each_once : List Region → Result (List Region) RegionFault
each_once regions = if are_double regions then Err region_fault.Twice else Ok regions

-- the regions that `--only` or `--raises-at` says, each once; none where it isn't given
abbrev pub regions_of : List Symbol → Option (List ℕ) → Result (List Region) RegionFault
regions_of symbols None = Ok []
regions_of symbols (Some text) = regions_in symbols text >>= each_once

-- ---- conditions that are never to hold

-- a text without the blanks before it
abbrev pub behind_blanks : List ℕ → List ℕ
behind_blanks [] = []
behind_blanks (b ∷ bs) = if b == 32 then behind_blanks bs else b ∷ bs

-- there is nothing but blanks in a text
abbrev pub is_blank : List ℕ → Bool
is_blank text = length (behind_blanks text) == 0

-- what stands before the first blank of a text that begins with none, if nothing but blanks is behind it
abbrev pub word_by : List ℕ → Option (List ℕ × List ℕ) → Option (List ℕ)
word_by text None = Some text
word_by text (Some parts) = if is_blank parts.1 then Some parts.0 else None

-- the word in a text, unless there are more; blanks stand between words
abbrev pub word_in : List ℕ → Option (List ℕ)
word_in text = word_by (behind_blanks text) (parts_of 32 (behind_blanks text))

-- the term that a word stands for: a number where it begins with a digit, else what is at the symbol of that name
abbrev pub term_by : List Symbol → List ℕ → Option Term
term_by symbols word =
    if length word == 0 then None
    else (if begins_with_digit word then option_map (λ number. term.Number number) (number_of word)
    else option_map (λ address. term.Word address) (symbol_value symbols word))

-- the term that the word in a text stands for
abbrev pub term_of : List Symbol → List ℕ → Result Term SearchFault
term_of symbols text = or_fault Never (option_and_then (term_by symbols) (word_in text))

-- what stands between the plus signs of a text
abbrev pub summands_of : List ℕ → List (List ℕ)
summands_of text = slice_split (λ b. b == 43) text

-- the terms of a sum
abbrev pub sum_of : List Symbol → List ℕ → Result (List Term) SearchFault
sum_of symbols text = each_of (term_of symbols) (summands_of text)

-- a byte may begin a comparison: <, >, = or !
abbrev pub is_mark : ℕ → Bool
is_mark b = (b == 60) || (b == 62) || (b == 61) || (b == 33)

-- a comparison that has an equals sign here, and what is behind it
abbrev pub with_equals : Comparison → List ℕ → Option (Comparison × List ℕ)
with_equals one [] = None
with_equals one (b ∷ bs) = if b == 61 then Some (one, bs) else None

-- a comparison, or the other one where an equals sign follows; and what is behind it
abbrev pub either_by : Comparison → List ℕ → Option (Comparison × List ℕ) → Comparison × List ℕ
either_by one text None = (one, text)
either_by one text (Some compared) = compared

abbrev pub either : Comparison → Comparison → List ℕ → Comparison × List ℕ
either one other text = either_by one text (with_equals other text)

-- the comparison that a byte begins, and what is behind it
abbrev pub compared_by : ℕ → List ℕ → Option (Comparison × List ℕ)
compared_by b bs =
    if b == 60 then Some (either Less AtMost bs)
    else (if b == 62 then Some (either More AtLeast bs)
    else (if b == 61 then with_equals Same bs
    else (if b == 33 then with_equals Other bs
    else None)))

-- the comparison with which a text begins, and what is behind it: <, <=, >, >=, == or !=
abbrev pub comparison_at : List ℕ → Option (Comparison × List ℕ)
comparison_at [] = None
comparison_at (b ∷ bs) = compared_by b bs

-- the condition of a first sum, and of a comparison with what is behind it, a second sum
abbrev pub condition_by : List Symbol → List ℕ → Option (Comparison × List ℕ) → Result Condition SearchFault
condition_by symbols text None = Err Never
condition_by symbols text (Some compared) =
    sum_of symbols text >>= (λ left. sum_of symbols compared.1 >>= (λ right.
    Ok (record { left = left; order = compared.0; right = right })))

-- the condition that a text says, which is cut before the first byte that may begin a comparison
unfoldable pub condition_of : List Symbol → List ℕ → Result Condition SearchFault
condition_of symbols text =
    condition_by symbols (take (position_or_len is_mark text) text)
    (comparison_at (drop (position_or_len is_mark text) text))

-- the failure that a condition of `--never` looks for
abbrev pub never_of : List Symbol → List ℕ → Result Failure SearchFault
never_of symbols text = condition_of symbols text >>= (λ condition. Ok (failure.Holds condition))

-- the failures that `--never` looks for, each by a piece of its text
abbrev pub nevers_of : List Symbol → Option (List ℕ) → Result (List Failure) SearchFault
nevers_of symbols None = Ok []
nevers_of symbols (Some text) = each_of (never_of symbols) (pieces_of text)

-- ---- words whose values are listed

-- the address of a place of `--values`
abbrev pub listed_at : List Symbol → List ℕ → Result ℕ SearchFault
listed_at symbols place = or_fault Values (place_of symbols place)

-- the addresses of `--values`, each by a piece of its text
abbrev pub values_in : List Symbol → Option (List ℕ) → Result (List ℕ) SearchFault
values_in symbols None = Ok []
values_in symbols (Some text) = each_of (listed_at symbols) (pieces_of text)

-- another address is this one
abbrev pub is_other : ℕ → ℕ → Bool
is_other address other = other == address

-- two of some addresses are the same
abbrev pub is_doubled : List ℕ → Bool
is_doubled [] = false
is_doubled (address ∷ others) = list_any (is_other address) others || is_doubled others

-- RAM has no aligned word at an address
abbrev pub is_astray : BoardState → ℕ → Bool
is_astray b address = not (is_some (word_at b.memory address))

-- values aren't asked for, or all ends are
abbrev pub values_fit : SearchOptions → Bool
values_fit options = options.finals || not (is_some (text_of options.values))

-- The addresses of the words whose values are asked for: each comes once, and RAM has an aligned word there.
pub record AreValues (options : SearchOptions) (b : BoardState) (symbols : List Symbol) (words : List ℕ) : Type 0 where
  pub fit : values_fit options ≡ true
  pub are : values_in symbols (text_of options.values) ≡ Ok words
  pub once : is_doubled words ≡ false
  pub there : list_any (is_astray b) words ≡ false

-- Of the addresses of the words whose values are asked for this is so.
pub record AreBadValues (options : SearchOptions) (symbols : List Symbol) (is : List ℕ → Bool) : Type 0 where
  pub words : List ℕ
  pub are : values_in symbols (text_of options.values) ≡ Ok words
  pub so : is words ≡ true

-- what is wrong with the words whose values are asked for, or that memory ran out
abbrev pub KeepsFromValues : SearchOptions → BoardState → List Symbol → SearchFault → Type 0
KeepsFromValues options b symbols NoMemory = Unit {0}
KeepsFromValues options b symbols NoFinals = values_fit options ≡ false
KeepsFromValues options b symbols Values = values_in symbols (text_of options.values) ≡ Err Values
KeepsFromValues options b symbols ValuesTwice = AreBadValues options symbols is_doubled
KeepsFromValues options b symbols NoWord = AreBadValues options symbols (list_any (is_astray b))
KeepsFromValues options b symbols _ = ⊥

-- ---- all that is looked for

-- the options don't say what is looked for
abbrev pub says_nothing : Looks → Bool
says_nothing looks =
    not (looks.exception || looks.deadlock || looks.on || is_some looks.words || is_some looks.console
    || is_some looks.reach || is_some looks.never)

-- a failure, where it is looked for
abbrev pub where_so : Bool → Failure → List Failure
where_so true it = it ∷ []
where_so false it = []

-- the failures without a value that are looked for; exceptions and deadlocks where the options say nothing
abbrev pub kinds_of : Looks → List Failure
kinds_of looks =
    where_so (looks.exception || says_nothing looks) failure.Exception
    ++ where_so (looks.deadlock || says_nothing looks) failure.Deadlock
    ++ where_so looks.on failure.On

-- all that is looked for
pub record AreLooked (looks : Looks) (symbols : List Symbol) (failures : List Failure) : Type 0 where
  pub words : List Failure
  pub are_words : goals_of symbols (text_of looks.words) ≡ Ok words
  pub console : List Failure
  pub is_console : consoles_of (text_of looks.console) ≡ Some console
  pub reaches : List Failure
  pub are_reaches : reaches_of symbols (text_of looks.reach) ≡ Ok reaches
  pub nevers : List Failure
  pub are_nevers : nevers_of symbols (text_of looks.never) ≡ Ok nevers
  pub all : failures ≡ kinds_of looks ++ words ++ console ++ reaches ++ nevers

-- what is looked for, and the fair end: so many rounds, and at most 20,000
pub record IsWanted (looks : Looks) (fair cpus : ℕ) (symbols : List Symbol) (wanted : Wanted) : Type 0 where
  pub most : fair ≤ 20000
  pub failures : AreLooked looks symbols wanted.failures
  pub round : wanted.round ≡ round_of cpus
  pub rounds : wanted.rounds ≡ fair

-- what is wrong with the options of what is looked for, or that memory ran out
abbrev pub KeepsFromWanting : Looks → ℕ → List Symbol → SearchFault → Type 0
KeepsFromWanting looks fair symbols NoMemory = Unit {0}
KeepsFromWanting looks fair symbols Fair = 20000 < fair
KeepsFromWanting looks fair symbols Word = goals_of symbols (text_of looks.words) ≡ Err Word
KeepsFromWanting looks fair symbols NoSymbol = goals_of symbols (text_of looks.words) ≡ Err NoSymbol
KeepsFromWanting looks fair symbols Console = consoles_of (text_of looks.console) ≡ None
KeepsFromWanting looks fair symbols Reach = reaches_of symbols (text_of looks.reach) ≡ Err Reach
KeepsFromWanting looks fair symbols Never = nevers_of symbols (text_of looks.never) ≡ Err Never
KeepsFromWanting looks fair symbols _ = ⊥

-- ---- the plan

-- the bounds that options ask for, which say these raises
abbrev pub bounds_of : SearchOptions → Raises → Bounds
bounds_of options said = record {
  events = options.sizes.events;
  preemptions = options.sizes.preemptions;
  ticks = options.sizes.ticks;
  raises = said.most;
  owed = said.owed;
}

-- options ask for nothing that a search doesn't know for which events and preemptions have no bound
abbrev pub is_plain : SearchOptions → Bool
is_plain options =
    options.sizes.fair == 0 && options.remember == 0 && options.time == 0 && options.threads == 0
    && not options.shortest && not (is_some (text_of options.shard))

-- They don't ask for such a search, nor for boards from which no schedule comes to an end, or they ask for nothing
-- else.
abbrev pub places_fit : SearchOptions → Bool
places_fit options = if options.places == 0 then not (options.livelock || options.finals) else is_plain options

-- a search that may take so many seconds isn't to find the shortest schedule
abbrev pub time_fits : SearchOptions → Bool
time_fits options = not (options.shortest && not (options.time == 0))

-- options ask for nothing that a search by the lazy schedules alone doesn't know
abbrev pub is_simple : SearchOptions → Bool
is_simple options =
    not (is_some (text_of options.shard)) && options.sizes.fair == 0 && options.remember == 0 && options.places == 0

-- they don't ask for such a search, or for nothing else
abbrev pub lazy_fits : SearchOptions → Bool
lazy_fits options = options.lazy == 0 || is_simple options

-- how many MiB of places are remembered by a search that may go by the lazy schedules, and then by all
abbrev pub memory_of : SearchOptions → ℕ
memory_of options = if options.lazy == 0 && is_simple options then options.memory else 0

-- options say regions to which schedules keep
abbrev pub has_regions : SearchOptions → Bool
has_regions options = is_some (text_of options.only) || is_some (text_of options.raises_at)

-- options ask for nothing that a search doesn't know that keeps to regions
abbrev pub is_bare : SearchOptions → Bool
is_bare options =
    not (is_some (text_of options.shard)) && options.sizes.fair == 0 && options.remember == 0 && options.threads == 0
    && options.places == 0 && options.lazy == 0

-- they don't ask for such a search, or for nothing else
abbrev pub only_fits : SearchOptions → Bool
only_fits options = not (has_regions options) || is_bare options

-- it isn't said where lines may be raised, or some may be
abbrev pub raises_fit : SearchOptions → ℕ → Bool
raises_fit options most = not (is_some (text_of options.raises_at)) || not (most == 0)

-- A plan is what options ask for, on a board of so many processors whose image has these symbols. Each line that may be
-- raised has a handler there, and is named once.
pub record IsPlan (options : SearchOptions) (b : BoardState) (cpus : ℕ) (symbols : List Symbol) (plan : Plan) : Type 0
  where
    pub most_events : options.sizes.events ≤ 1000000
    pub most_remembered : options.remember ≤ 4096
    pub most_threads : options.threads ≤ 64
    pub said : Raises
    pub bounds : plan.bounds ≡ bounds_of options said
    pub among : HasLines options cpus said plan.among
    pub once : is_twice plan.among ≡ false
    pub handled : list_any (is_idle b) plan.among ≡ false
    pub wanted : IsWanted options.looks options.sizes.fair cpus symbols plan.wanted
    pub shard : shard_of (text_of options.shard) ≡ Some plan.shard
    pub is_one : plan.shard.number < plan.shard.of
    pub shortest : plan.shortest ≡ options.shortest
    pub remember : plan.remember ≡ options.remember
    pub time : plan.time ≡ options.time
    pub threads : plan.threads ≡ options.threads
    pub places : plan.places ≡ options.places
    pub livelock : plan.livelock ≡ options.livelock
    pub finals : plan.finals ≡ options.finals
    pub lazy : plan.lazy ≡ options.lazy
    pub memory : plan.memory ≡ memory_of options
    pub values : AreValues options b symbols plan.values
    pub plain : places_fit options ≡ true
    pub timely : time_fits options ≡ true
    pub simple : lazy_fits options ≡ true
    pub switches : regions_of symbols (text_of options.only) ≡ Ok plan.regions.switches
    pub raises_at : regions_of symbols (text_of options.raises_at) ≡ Ok plan.regions.raises
    pub raised : raises_fit options said.most ≡ true
    pub bare : only_fits options ≡ true

-- The lines of `--lines` aren't those of the raises, for this reason.
pub record HaveNoLines (options : SearchOptions) (fault : SearchFault) : Type 0 where
  pub said : Raises
  pub raises : raises_said (text_of options.raises) ≡ Some said
  pub fails : raises_of said.most (text_of options.lines) ≡ Err fault

-- Two of the events that the options allow raise the same line, or one of them a line without a handler.
pub record IsUnfit (options : SearchOptions) (cpus : ℕ) (is : List Event → Bool) : Type 0 where
  pub said : Raises
  pub among : List Event
  pub lines : HasLines options cpus said among
  pub so : is among ≡ true

-- No line may be raised, and it is said where lines may be.
pub record RaisesNone (options : SearchOptions) : Type 0 where
  pub said : Raises
  pub raises : raises_said (text_of options.raises) ≡ Some said
  pub so : raises_fit options said.most ≡ false

-- what is wrong with options, or that memory ran out
abbrev pub KeepsFromPlanning : SearchOptions → BoardState → ℕ → List Symbol → SearchFault → Type 0
KeepsFromPlanning options b cpus symbols Events = 1000000 < options.sizes.events
KeepsFromPlanning options b cpus symbols Remember = 4096 < options.remember
KeepsFromPlanning options b cpus symbols Threads = 64 < options.threads
KeepsFromPlanning options b cpus symbols BadRaises = raises_said (text_of options.raises) ≡ None
KeepsFromPlanning options b cpus symbols Lines = HaveNoLines options Lines
KeepsFromPlanning options b cpus symbols NoLines = HaveNoLines options NoLines
KeepsFromPlanning options b cpus symbols Twice = IsUnfit options cpus is_twice
KeepsFromPlanning options b cpus symbols NoHandler = IsUnfit options cpus (list_any (is_idle b))
KeepsFromPlanning options b cpus symbols Shard = shard_of (text_of options.shard) ≡ None
KeepsFromPlanning options b cpus symbols Places = (0 < options.places) × (is_plain options ≡ false)
KeepsFromPlanning options b cpus symbols Ends = (options.places ≡ 0) × ((options.livelock || options.finals) ≡ true)
KeepsFromPlanning options b cpus symbols Time = time_fits options ≡ false
KeepsFromPlanning options b cpus symbols Lazy = lazy_fits options ≡ false
KeepsFromPlanning options b cpus symbols NoFinals = KeepsFromValues options b symbols NoFinals
KeepsFromPlanning options b cpus symbols Values = KeepsFromValues options b symbols Values
KeepsFromPlanning options b cpus symbols ValuesTwice = KeepsFromValues options b symbols ValuesTwice
KeepsFromPlanning options b cpus symbols NoWord = KeepsFromValues options b symbols NoWord
KeepsFromPlanning options b cpus symbols (Only why) = regions_of symbols (text_of options.only) ≡ Err why
KeepsFromPlanning options b cpus symbols (RaisesAt why) = regions_of symbols (text_of options.raises_at) ≡ Err why
KeepsFromPlanning options b cpus symbols NoRaises = RaisesNone options
KeepsFromPlanning options b cpus symbols OnlyAlone = only_fits options ≡ false
KeepsFromPlanning options b cpus symbols fault = KeepsFromWanting options.looks options.sizes.fair symbols fault

-- Only private contracts name the next ones.

-- options ask for a search without bounds, and for more; or for what such a search alone knows, without one
abbrev pub DontFit : SearchOptions → SearchFault → Type 0
DontFit options Places = (0 < options.places) × (is_plain options ≡ false)
DontFit options Ends = (options.places ≡ 0) × ((options.livelock || options.finals) ≡ true)
DontFit options _ = ⊥

-- what such a search alone knows is asked for
abbrev pub IsOfEnds : Bool → SearchFault → Type 0
IsOfEnds asked Ends = asked ≡ true
IsOfEnds asked _ = ⊥

-- the time doesn't fit
abbrev pub IsOfTime : Bool → SearchFault → Type 0
IsOfTime fits Time = fits ≡ false
IsOfTime fits _ = ⊥

-- lazy schedules don't fit
abbrev pub IsOfLazy : Bool → SearchFault → Type 0
IsOfLazy fits Lazy = fits ≡ false
IsOfLazy fits _ = ⊥

-- regions don't fit
abbrev pub IsOfOnly : Bool → SearchFault → Type 0
IsOfOnly fits OnlyAlone = fits ≡ false
IsOfOnly fits _ = ⊥

-- no raise is allowed, though it is said where lines may be raised
abbrev pub IsOfNoRaises : Bool → SearchFault → Type 0
IsOfNoRaises fits NoRaises = fits ≡ false
IsOfNoRaises fits _ = ⊥

-- the regions that both options say
pub record AreSaid (options : SearchOptions) (symbols : List Symbol) (regions : Regions) : Type 0 where
  pub switches : regions_of symbols (text_of options.only) ≡ Ok regions.switches
  pub raises : regions_of symbols (text_of options.raises_at) ≡ Ok regions.raises

-- the fault of what they say
abbrev pub AreNotSaid : SearchOptions → List Symbol → SearchFault → Type 0
AreNotSaid options symbols NoMemory = Unit {0}
AreNotSaid options symbols (Only why) = regions_of symbols (text_of options.only) ≡ Err why
AreNotSaid options symbols (RaisesAt why) = regions_of symbols (text_of options.raises_at) ≡ Err why
AreNotSaid options symbols _ = ⊥

-- the bounds that options give, whose numbers are within limits
pub record IsSized (options : SearchOptions) (said : Raises) (bounds : Bounds) : Type 0 where
  pub most_events : options.sizes.events ≤ 1000000
  pub most_remembered : options.remember ≤ 4096
  pub most_threads : options.threads ≤ 64
  pub is : bounds ≡ bounds_of options said

-- the raises that a text says
abbrev pub AreRaises : Option (List ℕ) → Raises → Type 0
AreRaises text said = raises_said text ≡ Some said

-- Events raise each line once, and each has a handler.
pub record AreFit (b : BoardState) (among : List Event) : Type 0 where
  pub once : is_twice among ≡ false
  pub handled : list_any (is_idle b) among ≡ false

-- they don't
abbrev pub AreUnfit : BoardState → List Event → SearchFault → Type 0
AreUnfit b among NoMemory = Unit {0}
AreUnfit b among Twice = is_twice among ≡ true
AreUnfit b among NoHandler = list_any (is_idle b) among ≡ true
AreUnfit b among _ = ⊥

-- a text says no raises
abbrev pub AreNoRaises : Option (List ℕ) → SearchFault → Type 0
AreNoRaises text BadRaises = raises_said text ≡ None
AreNoRaises text _ = ⊥

-- a number is above its limit
abbrev pub IsOfSizes : SearchOptions → SearchFault → Type 0
IsOfSizes options Events = 1000000 < options.sizes.events
IsOfSizes options Remember = 4096 < options.remember
IsOfSizes options Threads = 64 < options.threads
IsOfSizes options _ = ⊥

-- the shard that a text says
pub record IsShard (text : Option (List ℕ)) (shard : part.Shard) : Type 0 where
  pub is : shard_of text ≡ Some shard
  pub is_one : shard.number < shard.of

-- a text says no shard
abbrev pub IsNoShard : Option (List ℕ) → SearchFault → Type 0
IsNoShard text Shard = shard_of text ≡ None
IsNoShard text _ = ⊥

-- the fault of a text of `--console`
abbrev pub IsOfConsole : List ℕ → SearchFault → Type 0
IsOfConsole text NoMemory = Unit {0}
IsOfConsole text Console = bytes_of text ≡ None
IsOfConsole text _ = ⊥

-- a fault that a word of `--word` may have
abbrev pub IsOfGoal : SearchFault → Type 0
IsOfGoal Word = Unit {0}
IsOfGoal NoSymbol = Unit {0}
IsOfGoal _ = ⊥

-- the fault of `--word`
abbrev pub IsOfGoals : List Symbol → Option (List ℕ) → SearchFault → Type 0
IsOfGoals symbols words NoMemory = Unit {0}
IsOfGoals symbols words Word = goals_of symbols words ≡ Err Word
IsOfGoals symbols words NoSymbol = goals_of symbols words ≡ Err NoSymbol
IsOfGoals symbols words _ = ⊥

-- the fault of `--values`
abbrev pub IsOfValues : List Symbol → Option (List ℕ) → SearchFault → Type 0
IsOfValues symbols places NoMemory = Unit {0}
IsOfValues symbols places Values = values_in symbols places ≡ Err Values
IsOfValues symbols places _ = ⊥

-- each address comes once, and RAM has an aligned word there
pub record AreApart (b : BoardState) (words : List ℕ) : Type 0 where
  pub once : is_doubled words ≡ false
  pub there : list_any (is_astray b) words ≡ false

-- an address comes twice, or RAM has no aligned word there
abbrev pub AreNotApart : BoardState → List ℕ → SearchFault → Type 0
AreNotApart b words ValuesTwice = is_doubled words ≡ true
AreNotApart b words NoWord = list_any (is_astray b) words ≡ true
AreNotApart b words _ = ⊥

-- the fault of a place of `--reach`
abbrev pub IsOfReach : SearchFault → Type 0
IsOfReach Reach = Unit {0}
IsOfReach _ = ⊥

-- the fault of `--reach`
abbrev pub IsOfReaches : List Symbol → Option (List ℕ) → SearchFault → Type 0
IsOfReaches symbols places NoMemory = Unit {0}
IsOfReaches symbols places Reach = reaches_of symbols places ≡ Err Reach
IsOfReaches symbols places _ = ⊥

-- the fault of a term of `--never`
abbrev pub IsOfTerm : SearchFault → Type 0
IsOfTerm Never = Unit {0}
IsOfTerm _ = ⊥

-- the fault of a sum
abbrev pub IsOfSum : List Symbol → List ℕ → SearchFault → Type 0
IsOfSum symbols text NoMemory = Unit {0}
IsOfSum symbols text Never = sum_of symbols text ≡ Err Never
IsOfSum symbols text _ = ⊥

-- the fault of a condition
abbrev pub IsOfCondition : List Symbol → List ℕ → SearchFault → Type 0
IsOfCondition symbols text NoMemory = Unit {0}
IsOfCondition symbols text Never = condition_of symbols text ≡ Err Never
IsOfCondition symbols text _ = ⊥

-- the fault of `--never`
abbrev pub IsOfConditions : List Symbol → Option (List ℕ) → SearchFault → Type 0
IsOfConditions symbols conditions NoMemory = Unit {0}
IsOfConditions symbols conditions Never = nevers_of symbols conditions ≡ Err Never
IsOfConditions symbols conditions _ = ⊥

-- the summands behind a summand: those of the text behind its plus sign, and none where none ends it
abbrev pub summands_behind : Option (List ℕ) → List (List ℕ)
summands_behind None = []
summands_behind (Some text) = summands_of text

-- the fault of `--lines`
abbrev pub IsOfRaises : ℕ → Option (List ℕ) → SearchFault → Type 0
IsOfRaises most lines NoMemory = Unit {0}
IsOfRaises most lines Lines = raises_of most lines ≡ Err Lines
IsOfRaises most lines NoLines = raises_of most lines ≡ Err NoLines
IsOfRaises most lines _ = ⊥

-- the fault of the lines of a text
abbrev pub IsOfLine : Result (List Event) SearchFault → SearchFault → Type 0
IsOfLine raises NoMemory = Unit {0}
IsOfLine raises Lines = raises ≡ Err Lines
IsOfLine raises _ = ⊥

-- the fault of `--console`
abbrev pub IsOfConsoles : Option (List ℕ) → SearchFault → Type 0
IsOfConsoles text NoMemory = Unit {0}
IsOfConsoles text Console = consoles_of text ≡ None
IsOfConsoles text _ = ⊥

-- the fault of all that is looked for
abbrev pub IsOfLooks : Looks → List Symbol → SearchFault → Type 0
IsOfLooks looks symbols NoMemory = Unit {0}
IsOfLooks looks symbols Word = goals_of symbols (text_of looks.words) ≡ Err Word
IsOfLooks looks symbols NoSymbol = goals_of symbols (text_of looks.words) ≡ Err NoSymbol
IsOfLooks looks symbols Console = consoles_of (text_of looks.console) ≡ None
IsOfLooks looks symbols Reach = reaches_of symbols (text_of looks.reach) ≡ Err Reach
IsOfLooks looks symbols Never = nevers_of symbols (text_of looks.never) ≡ Err Never
IsOfLooks looks symbols _ = ⊥

-- the wanted console stands behind what was there before
pub record AddsConsole (text : Option (List ℕ)) (old new : List Failure) : Type 0 where
  pub more : List Failure
  pub is : consoles_of text ≡ Some more
  pub all : new ≡ old ++ more

-- what was read stands behind what was there before
pub record Adds {X F : Type 0} (given : Result (List X) F) (old new : List X) : Type 0 where
  pub more : List X
  pub is : given ≡ Ok more
  pub all : new ≡ old ++ more

-- so it does, or nothing can be read, for a reason
abbrev pub AddsOr : {X F : Type 0} → Result (List X) F → List X → List X → Result Unit F → Type 0
AddsOr given old new (Ok done) = Adds given old new
AddsOr given old new (Err why) = given ≡ Err why
