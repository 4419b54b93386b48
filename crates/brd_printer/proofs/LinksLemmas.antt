-- What is said of the links of processors, one after the other.
use Rattle.std.proofs.Common.{◌≡◌, ℕ, suc, ◌+◌, ◌-◌, ◌<◌, Bool, List, ◌++◌, ap, ◌∙◌, append_assoc, arith}
use Rattle.std.specs.Prelude.{Option}
use Rattle.std.specs.List.{range_with_len}
use Rattle.brd_board.specs.declared.event.Event.{Event}
use Rattle.brd_board.specs.Board.{BoardState, happens}
use Rattle.brd_happening.specs.Happening.{processor_of}
use Rattle.brd_kernel.specs.declared.processor.Standing.{Standing}
use Rattle.brd_printer.specs.Concerns.{chosen_standing, concerns, does_other}
use Rattle.brd_printer.specs.Links.{ended_by, ended_text, ended_text_of, ended_texts, linked_on}

pub ended-on : (own : Option ℕ) (before after : List Bool) (cpu : ℕ) (a b all : List ℕ) → cpu < 9
    → b ≡ a ++ ended_text_of own before after cpu
    → a ++ ended_texts own before after (range_with_len cpu (9 - cpu)) ≡ all
    → b ++ ended_texts own before after (range_with_len (cpu + 1) (9 - (cpu + 1))) ≡ all
ended-on own before after cpu a b all few put is =
    let rest = ended_texts own before after (range_with_len (cpu + 1) (9 - (cpu + 1))) in
    let count : suc (9 - (cpu + 1)) ≡ 9 - cpu = omega (arith, few) in
    ap (λ (them : List ℕ). them ++ rest) put ∙ append_assoc a (ended_text_of own before after cpu) rest
    ∙ ap (λ (n : ℕ). a ++ ended_texts own before after (range_with_len cpu n)) count ∙ is

-- what is said of them, by what was read of the boards before the event and after it
pub ends_by : (b boot after_it : BoardState) (event : Event) (own : Option ℕ) (before after : List Bool) → b ≡ boot
    → after_it ≡ (happens b event).board → own ≡ processor_of event → before ≡ linked_on b → after ≡ linked_on after_it
    → ended_text own before after ≡ ended_by boot event
ends_by b boot after_it event own before after same leaves steps had has =
    ap (λ (o : Option ℕ). ended_text o before after) steps
    ∙ ap (λ (l : List Bool). ended_text (processor_of event) l after) had
    ∙ ap (λ (l : List Bool). ended_text (processor_of event) (linked_on b) l) (has ∙ ap linked_on leaves)
    ∙ ap (λ (x : BoardState). ended_by x event) same

-- whether an event concerns the chosen processor, by what was read of it before the event, and the board after it
pub concerns_by : (cpu : Option ℕ) (b boot after_it : BoardState) (event : Event) (stood : Option Standing) → b ≡ boot
    → after_it ≡ (happens b event).board → stood ≡ chosen_standing cpu b
    → does_other cpu stood after_it ≡ concerns cpu boot event
concerns_by cpu b boot after_it event stood same leaves had =
    ap (λ (s : Option Standing). does_other cpu s after_it) had
    ∙ ap (λ (x : BoardState). does_other cpu (chosen_standing cpu b) x) leaves
    ∙ ap (λ (x : BoardState). concerns cpu x event) same
