-- Three inputs that were read whole.
use Rattle.std.proofs.Common.{◌≡◌, ◌≤◌, ◌<◌, ◌∙◌, ℕ, List, length, subst, refl, ap, inl, inr}
use Rattle.std.proofs.lemmas.Bool.{false≢true}
use Rattle.std.specs.Prelude.{Option, Some, None, IfSome, Result, Ok, Err, MatchResult}
use Rattle.brd_text.specs.Faults.{Fails}
use Rattle.brd_board.specs.Board.{BoardState}
use Rattle.brd_image.specs.Building.{loaded}
use Rattle.brd_image.specs.declared.building.Loaded.{Loaded}
use Rattle.brd_journal.specs.Faults.{is_no_memory}
use Rattle.brd_journal.specs.Journal.{most_runs}
use Rattle.brd_journal.specs.Reading.{journal_of}
use Rattle.brd_journal.specs.declared.fault.JournalFault.{JournalFault}
use Rattle.brd_journal.specs.declared.fault.JournalFault.TheVariants as journal_fault
use Rattle.brd_threads.specs.Faults as threads
use Rattle.brd_threads.specs.Script.{script_of}
use Rattle.brd_threads.specs.declared.fault.ScriptFault.{ScriptFault}
use Rattle.brd_threads.specs.declared.fault.ScriptFault.TheVariants as script_fault
use Rattle.brd_inputs.specs.Faults.{of_journal, of_script}
use Rattle.brd_inputs.specs.Input.{IsWhole, KeepsFromReading, most_bytes}
use Rattle.brd_inputs.specs.Start.{AreBothRead, AreBothWithin, AreRead, AreWithin, IsLast, IsLoaded, IsMade, IsReached, IsReachedOfBoth, IsTooLong}
use Rattle.brd_inputs.specs.Start.{IsTooLongOfBoth, KeepsFromBuilding, KeepsFromLoading, KeepsFromMaking, KeepsFromReadingBoth, KeepsFromStarting}
use Rattle.brd_inputs.specs.Start.{length_of}
use Rattle.brd_inputs.specs.declared.fault.CommandFault.{CommandFault}
use Rattle.brd_inputs.specs.declared.fault.CommandFault.TheVariants.{NoMemory, Read, TooLong, TooManyReads, Build, Journal, OtherOrder, Script}
use Rattle.brd_inputs.specs.declared.input_name.InputName.{InputName}
use Rattle.brd_inputs.specs.declared.input_name.InputName.TheVariants as input_name
use Rattle.brd_inputs.specs.declared.inputs.PairTexts.{PairTexts}
use Rattle.brd_inputs.specs.declared.inputs.Texts.{Texts}

module _ {S : Type 0} (Is : List ℕ → List ℕ → List ℕ → S → Type 0) (last : InputName) where
  module _ (i c j : List ℕ) (within : AreWithin i c j) where
    keeps_from : (fault : CommandFault) → KeepsFromMaking last i c j fault → KeepsFromStarting last i c j fault
    keeps_from NoMemory keeps = tt
    keeps_from (Build fault kind) keeps = (within, keeps)
    keeps_from (Journal fault kind) keeps = (within, keeps)
    keeps_from (OtherOrder order) keeps = (within, keeps)
    keeps_from (Script fault kind) keeps = (within, keeps)
    keeps_from fault keeps = absurd keeps

    made_within : (result : Result S CommandFault) → MatchResult result (Is i c j) (KeepsFromMaking last i c j)
        → MatchResult result (λ start. AreWithin i c j × Is i c j start) (KeepsFromStarting last i c j)
    made_within (Ok start) made = (within, made)
    made_within (Err fault) made = keeps_from fault made

  -- what the three make that were read
  pub made : (image config text : Option (List ℕ)) (texts : Texts) (result : Result S CommandFault)
      → IfSome image (λ i. IfSome config (λ c. IfSome text (λ j. AreRead i c j texts)))
      → MatchResult result (Is texts.image.items texts.config.items texts.last.items) (KeepsFromMaking last texts.image.items texts.config.items texts.last.items)
      → IfSome image (λ i. IfSome config (λ c. IfSome text (λ j.
      MatchResult result (λ start. AreWithin i c j × Is i c j start) (KeepsFromStarting last i c j))))
  made None config text texts result are_read is_made = tt
  made (Some i) None text texts result are_read is_made = tt
  made (Some i) (Some c) None texts result are_read is_made = tt
  made (Some i) (Some c) (Some j) texts result are_read is_made =
      let Made : List ℕ → List ℕ → List ℕ → Type 0 = λ x y z. MatchResult result (Is x y z) (KeepsFromMaking last x y z) in
      let with-image : Made i texts.config.items texts.last.items = subst (λ x. Made x texts.config.items texts.last.items) are_read.is_image is_made in
      let with-config : Made i c texts.last.items = subst (λ y. Made i y texts.last.items) are_read.is_config with-image in
      made_within i c j are_read.within result (subst (λ z. Made i c z) are_read.is_last with-config)

-- ---- the first two of them

pub not_read : (i c : List ℕ) (fault : CommandFault) → KeepsFromReadingBoth i c fault → KeepsFromLoading i c fault
not_read i c (Build fault kind) keeps = absurd keeps
not_read i c fault keeps = keeps

within_both : (i c : List ℕ) → AreBothWithin i c → (fault : CommandFault) → KeepsFromBuilding i c fault → KeepsFromLoading i c fault
within_both i c within NoMemory keeps = tt
within_both i c within (Build fault kind) keeps = (within, keeps)
within_both i c within fault keeps = absurd keeps

loaded_both : (i c : List ℕ) → AreBothWithin i c → (result : Result Loaded CommandFault) → MatchResult result (IsMade i c) (KeepsFromBuilding i c)
    → MatchResult result (IsLoaded i c) (KeepsFromLoading i c)
loaded_both i c within (Ok it) made =
    record { within = within; loads = made.loads; is_image = made.is_image; is_configuration = made.is_configuration }
loaded_both i c within (Err fault) made = within_both i c within fault made

-- what two make that were read
pub made_of_both : (image config : Option (List ℕ)) (texts : PairTexts) (result : Result Loaded CommandFault) (i-read c-read : List ℕ)
    → IfSome image (λ i. IfSome config (λ c. AreBothRead i c texts)) → i-read ≡ texts.image.items → c-read ≡ texts.config.items
    → MatchResult result (IsMade i-read c-read) (KeepsFromBuilding i-read c-read)
    → IfSome image (λ i. IfSome config (λ c. MatchResult result (IsLoaded i c) (KeepsFromLoading i c)))
made_of_both None config texts result i-read c-read are_read i-is c-is made = tt
made_of_both (Some i) None texts result i-read c-read are_read i-is c-is made = tt
made_of_both (Some i) (Some c) texts result i-read c-read are_read i-is c-is made =
    let Made : List ℕ → List ℕ → Type 0 = λ x y. MatchResult result (IsMade x y) (KeepsFromBuilding x y) in
    let with-image : Made i c-read = subst (λ x. Made x c-read) (i-is ∙ are_read.is_image) made in
    loaded_both i c are_read.within result (subst (λ y. Made i y) (c-is ∙ are_read.is_config) with-image)

pub not_read_of : (image config : Option (List ℕ)) (fault : CommandFault) → IfSome image (λ i. IfSome config (λ c. KeepsFromReadingBoth i c fault))
    → IfSome image (λ i. IfSome config (λ c. KeepsFromLoading i c fault))
not_read_of None config fault keeps = tt
not_read_of (Some i) None fault keeps = tt
not_read_of (Some i) (Some c) fault keeps = not_read i c fault keeps

-- two inputs that were read whole
pub both_read : (image config : Option (List ℕ)) (texts : PairTexts) → IsWhole image texts.image.items → IsWhole config texts.config.items
    → IfSome image (λ i. IfSome config (λ c. AreBothRead i c texts))
both_read None config texts of-image of-config = tt
both_read (Some i) None texts of-image of-config = tt
both_read (Some i) (Some c) texts of-image of-config =
    let Short : List ℕ → Type 0 = λ bytes. length bytes ≤ most_bytes in
    record {
      within = (subst Short of-image.all of-image.most, subst Short of-config.all of-config.most);
      is_image = of-image.all;
      is_config = of-config.all;
    }

-- ---- and the last one

reached : (last : InputName) (i c : List ℕ) (input : InputName) → IsReachedOfBoth i input → IsReached last i c input
reached last i c input_name.Image is = tt
reached last i c input_name.Configuration is = is
reached last i c input is = absurd is

too_long : (last : InputName) (i c t : List ℕ) (input : InputName) → IsTooLongOfBoth i c input → IsTooLong last i c t input
too_long last i c t input_name.Image is = (tt, is)
too_long last i c t input_name.Configuration is = is
too_long last i c t input is = absurd is

both_not_read : (last : InputName) (i c t : List ℕ) (fault : CommandFault) → KeepsFromReadingBoth i c fault → KeepsFromStarting last i c t fault
both_not_read last i c t NoMemory keeps = tt
both_not_read last i c t (Read input error) keeps = (reached last i c input keeps.0, keeps.1)
both_not_read last i c t (TooLong input) keeps = too_long last i c t input keeps
both_not_read last i c t (TooManyReads input) keeps = reached last i c input keeps
both_not_read last i c t fault keeps = absurd keeps

-- the first two weren't read
pub none_read : (last : InputName) (image config text : Option (List ℕ)) (fault : CommandFault)
    → IfSome image (λ i. IfSome config (λ c. KeepsFromReadingBoth i c fault))
    → IfSome image (λ i. IfSome config (λ c. IfSome text (λ t. KeepsFromStarting last i c t fault)))
none_read last None config text fault keeps = tt
none_read last (Some i) None text fault keeps = tt
none_read last (Some i) (Some c) None fault keeps = tt
none_read last (Some i) (Some c) (Some t) fault keeps = both_not_read last i c t fault keeps

is_last_reached : (last input : InputName) (i c : List ℕ) → IsLast last → input ≡ last → AreBothWithin i c → IsReached last i c input
is_last_reached last input_name.Image i c is same within = tt
is_last_reached last input_name.Configuration i c is same within = within.0
is_last_reached last input_name.StandardInput i c is same within = (same, within.0, within.1)
is_last_reached last input_name.Source i c is same within = (same, within.0, within.1)
is_last_reached last input_name.Journal i c is same within = (same, within.0, within.1)
is_last_reached last input_name.Script i c is same within = (same, within.0, within.1)

last_long : (last input : InputName) (i c t : List ℕ) → IsLast last → input ≡ last → most_bytes < length t → most_bytes < length_of i c t input
last_long last input_name.Image i c t (inl e) same long = absurd (cc)
last_long last input_name.Image i c t (inr e) same long = absurd (cc)
last_long last input_name.Configuration i c t (inl e) same long = absurd (cc)
last_long last input_name.Configuration i c t (inr e) same long = absurd (cc)
last_long last input_name.StandardInput i c t is same long = long
last_long last input_name.Source i c t is same long = long
last_long last input_name.Journal i c t is same long = long
last_long last input_name.Script i c t is same long = long

last_keeps : (last : InputName) (i c t : List ℕ) → IsLast last → AreBothWithin i c → (fault : CommandFault) → KeepsFromReading last (Some t) fault
    → KeepsFromStarting last i c t fault
last_keeps last i c t is within NoMemory keeps = tt
last_keeps last i c t is within (Read input error) keeps = (is_last_reached last input i c is keeps.0 within, keeps.1)
last_keeps last i c t is within (TooLong input) keeps =
    (is_last_reached last input i c is keeps.0 within, last_long last input i c t is keeps.0 keeps.1)
last_keeps last i c t is within (TooManyReads input) keeps = is_last_reached last input i c is keeps within
last_keeps last i c t is within fault keeps = absurd keeps

-- the last one wasn't read
pub last_not_read : (last : InputName) (image config text : Option (List ℕ)) (texts : PairTexts) (fault : CommandFault) → IsLast last
    → IfSome image (λ i. IfSome config (λ c. AreBothRead i c texts)) → KeepsFromReading last text fault
    → IfSome image (λ i. IfSome config (λ c. IfSome text (λ t. KeepsFromStarting last i c t fault)))
last_not_read last None config text texts fault is both keeps = tt
last_not_read last (Some i) None text texts fault is both keeps = tt
last_not_read last (Some i) (Some c) None texts fault is both keeps = tt
last_not_read last (Some i) (Some c) (Some t) texts fault is both keeps = last_keeps last i c t is both.within fault keeps

-- three inputs that were read whole
pub read : (image config text : Option (List ℕ)) (two : PairTexts) (texts : Texts) → texts.image.items ≡ two.image.items → texts.config.items ≡ two.config.items
    → IfSome image (λ i. IfSome config (λ c. AreBothRead i c two)) → IsWhole text texts.last.items
    → IfSome image (λ i. IfSome config (λ c. IfSome text (λ j. AreRead i c j texts)))
read None config text two texts is-image is-config both of-text = tt
read (Some i) None text two texts is-image is-config both of-text = tt
read (Some i) (Some c) None two texts is-image is-config both of-text = tt
read (Some i) (Some c) (Some j) two texts is-image is-config both of-text =
    let Short : List ℕ → Type 0 = λ bytes. length bytes ≤ most_bytes in
    record {
      within = (both.within.0, both.within.1, subst Short of-text.all of-text.most);
      is_image = is-image ∙ both.is_image;
      is_config = is-config ∙ both.is_config;
      is_last = of-text.all;
    }

-- no board

no_board : (last : InputName) (i c t : List ℕ) (fault : CommandFault) → KeepsFromBuilding i c fault → KeepsFromMaking last i c t fault
no_board last i c t NoMemory keeps = tt
no_board last i c t (Build fault kind) keeps = keeps
no_board last i c t fault keeps = absurd keeps

pub no_board_of : (last : InputName) (i c t i-read c-read : List ℕ) (fault : CommandFault) → i-read ≡ i → c-read ≡ c
    → KeepsFromBuilding i-read c-read fault → KeepsFromMaking last i c t fault
no_board_of last i c t i-read c-read fault i-is c-is keeps =
    let with-image : KeepsFromBuilding i c-read fault = subst (λ x. KeepsFromBuilding x c-read fault) i-is keeps in
    no_board last i c t fault (subst (λ y. KeepsFromBuilding i y fault) c-is with-image)

-- a text that is no journal, beside a board

journal_keeps : (i c t : List ℕ) (board : BoardState) (fault : JournalFault) → loaded i c ≡ Ok board → Fails is_no_memory fault (journal_of most_runs t)
    → KeepsFromMaking input_name.Journal i c t (of_journal t fault)
journal_keeps i c t board journal_fault.NoMemory loads fails = tt
journal_keeps i c t board journal_fault.Full loads fails = (refl, board, loads, fails, (λ e. false≢true (ap is_no_memory e)), refl)
journal_keeps i c t board (journal_fault.Syntax line) loads fails = (refl, board, loads, fails, (λ e. false≢true (ap is_no_memory e)), refl)

pub no_journal : (i c t i-read c-read t-read t-told : List ℕ) (board : BoardState) (fault : JournalFault) (told : CommandFault)
    → i-read ≡ i → c-read ≡ c → t-read ≡ t → t-told ≡ t → loaded i-read c-read ≡ Ok board → Fails is_no_memory fault (journal_of most_runs t-read)
    → told ≡ of_journal t-told fault → KeepsFromMaking input_name.Journal i c t told
no_journal i c t i-read c-read t-read t-told board fault told i-is c-is read-is told-is loads fails is =
    let here : loaded i c ≡ Ok board = subst (λ x. loaded x c ≡ Ok board) i-is (subst (λ y. loaded i-read y ≡ Ok board) c-is loads) in
    let failing : Fails is_no_memory fault (journal_of most_runs t) = subst (λ x. Fails is_no_memory fault (journal_of most_runs x)) read-is fails in
    rw (is, told-is) (journal_keeps i c t board fault here failing)

-- a text that is no script, beside a board

script_keeps : (i c t : List ℕ) (board : BoardState) (fault : ScriptFault) → loaded i c ≡ Ok board → Fails threads.is_no_memory fault (script_of t)
    → KeepsFromMaking input_name.Script i c t (of_script t fault)
script_keeps i c t board script_fault.NoMemory loads fails = tt
script_keeps i c t board (script_fault.Syntax line) loads fails = (refl, board, loads, fails, (λ e. false≢true (ap threads.is_no_memory e)), refl)

pub no_script : (i c t i-read c-read t-read t-told : List ℕ) (board : BoardState) (fault : ScriptFault) (told : CommandFault)
    → i-read ≡ i → c-read ≡ c → t-read ≡ t → t-told ≡ t → loaded i-read c-read ≡ Ok board → Fails threads.is_no_memory fault (script_of t-read)
    → told ≡ of_script t-told fault → KeepsFromMaking input_name.Script i c t told
no_script i c t i-read c-read t-read t-told board fault told i-is c-is read-is told-is loads fails is =
    let here : loaded i c ≡ Ok board = subst (λ x. loaded x c ≡ Ok board) i-is (subst (λ y. loaded i-read y ≡ Ok board) c-is loads) in
    let failing : Fails threads.is_no_memory fault (script_of t) = subst (λ x. Fails threads.is_no_memory fault (script_of x)) read-is fails in
    rw (is, told-is) (script_keeps i c t board fault here failing)
