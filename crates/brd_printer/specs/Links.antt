-- The links that an event ends. A link is that of an LL to the word that it loaded.
use Rattle.std.specs.Prelude.{ℕ, ◌==◌, Bool, false, not, ◌&&◌, if◌then◌else◌, List, [], ◌∷◌, ◌++◌, map, codes}
use Rattle.std.specs.Prelude.{Option, Some, None, is_some, unwrap_or, slice_get}
use Rattle.std.specs.List.{range_with_len}
use Rattle.brd_board.specs.declared.event.Event.{Event}
use Rattle.brd_board.specs.Board.{BoardState, happens, linked_word_of}
use Rattle.brd_happening.specs.Happening.{processor_of}
use Rattle.brd_printer.specs.declared.links.Links.{Links}
use Rattle.brd_names.specs.Lines.{named_text}

-- whether the processors from 0 to 8 have a link (there is no processor 0, so it has none)
abbrev pub linked_on : BoardState → List Bool
linked_on board = map (λ cpu. is_some (linked_word_of board cpu)) (range_with_len 0 9)

abbrev pub is_linked : List Bool → ℕ → Bool
is_linked linked cpu = unwrap_or (slice_get linked cpu) false

abbrev pub is_number : Option ℕ → ℕ → Bool
is_number None cpu = false
is_number (Some number) cpu = number == cpu

-- The link of a processor is ended by another: it has one before, and none after, and the step is not its own.
abbrev pub ends : Option ℕ → List Bool → List Bool → ℕ → Bool
ends own before after cpu = not (is_number own cpu) && is_linked before cpu && not (is_linked after cpu)

abbrev pub ended_text_of : Option ℕ → List Bool → List Bool → ℕ → List ℕ
ended_text_of own before after cpu =
    if ends own before after cpu then named_text (codes "; ends the link of cpu") cpu else []

-- one piece for each of these processors whose link is ended
abbrev pub ended_texts : Option ℕ → List Bool → List Bool → List ℕ → List ℕ
ended_texts own before after [] = []
ended_texts own before after (cpu ∷ cpus) = ended_text_of own before after cpu ++ ended_texts own before after cpus

abbrev pub ended_text : Option ℕ → List Bool → List Bool → List ℕ
ended_text own before after = ended_texts own before after (range_with_len 1 8)

abbrev pub text_of : Links → List ℕ
text_of it = ended_text it.cpu it.before.now it.after.now

-- what is said of the links that an event ends
abbrev pub ended_by : BoardState → Event → List ℕ
ended_by board event = ended_text (processor_of event) (linked_on board) (linked_on (happens board event).board)
