-- How the program ends on the words of its command line, of which the first is its name: on files, standard input and
-- standard output, each before and after the program. `opened` to `written` are as in brd_data/specs/Performing.antt.
use Rattle.std.specs.Prelude.{◌≡◌, ℕ, List, map, Option, None, Some, Result, Ok, Err}
use Rattle.std.specs.Borrow.{Bor}
use Rattle.std.specs.declared.io.Error.{Error}
use Rattle.clap.specs.Words.{Text}
use Rattle.brd_command.specs.declared.request.Request.{Request}
use Rattle.brd_command.specs.declared.request.Request.TheVariants.{Try}
use Rattle.brd_data.specs.Performing.{EndsWithData}
use Rattle.brd_data.specs.declared.fault.DataFault.{DataFault}
use Rattle.brd_data.specs.declared.fault.DataFault.TheVariants as laying
use Rattle.brd_data.specs.declared.laid.Laid.{Laid}
use Rattle.brd_cli.specs.Requests.{IsAnswer}
use Rattle.brd_cli.specs.declared.end.EarlyEnd.{EarlyEnd}
use Rattle.brd_cli.specs.declared.end.EarlyEnd.TheVariants.{Data, Fault, Input}
use Rattle.brd_cli.specs.declared.request.Line.{Line}
use Rattle.brd_cli.specs.declared.standard_input.InputFault.{InputFault}
use Rattle.brd_cli.specs.StandardInput.{input_fault}

-- the fault of a command, or of its data
abbrev pub of_fault : DataFault → EarlyEnd
of_fault (laying.Command fault) = Fault fault
of_fault fault = Data fault

-- the name of the page for a browser that a request asks for
abbrev pub page_of : Request → Option (Bor (List ℕ))
page_of (Try source options keep page) = page
page_of _ = None

-- the program's end, from its command's: with the name of the page, where all went well
abbrev pub stop_of : Request → Result Unit DataFault → Result (Option (Bor (List ℕ))) EarlyEnd
stop_of request (Ok done) = Ok (page_of request)
stop_of request (Err fault) = Err (of_fault fault)

-- The words were refused or ask for help, memory ran out before they were read, or they ask for more of standard input
-- than can be had, and then nothing is touched; or what they ask for is done, and how that ends is the program's end.
pub data ProgramEnds {F I O R W : Type 0}
    (opened : F → List ℕ → Result I Error → F → Type 0) (created : F → List ℕ → Result O Error → F → Type 0)
    (closed : F → O → F → Type 0) (remaining : I → Option (List ℕ)) (contents : O → Option (List ℕ))
    (unread : R → Option (List ℕ)) (written : W → Option (List ℕ))
    (words : List Text) (files_old files : Laid F) (input_old input : R) (output_old output : W)
    (result : Result (Option (Bor (List ℕ))) EarlyEnd) : Type 0 where
  not_asked : {stop : EarlyEnd} → IsAnswer words (Err stop) → result ≡ Err stop →
      files ≡ files_old → input ≡ input_old → output ≡ output_old →
      ProgramEnds opened created closed remaining contents unread written
      words files_old files input_old input output_old output result
  no_input : (it : Line) {fault : InputFault} → IsAnswer words (Ok it) →
      input_fault it.request (map (λ text. text.now) it.texts.items) ≡ Some fault → result ≡ Err (Input fault) →
      files ≡ files_old → input ≡ input_old → output ≡ output_old →
      ProgramEnds opened created closed remaining contents unread written
      words files_old files input_old input output_old output result
  asked : (it : Line) (end : Result Unit DataFault) → IsAnswer words (Ok it) →
      input_fault it.request (map (λ text. text.now) it.texts.items) ≡ None →
      EndsWithData opened created closed remaining contents unread written
      it.request (map (λ text. text.now) it.texts.items) files_old files input_old input output_old output end →
      result ≡ stop_of it.request end →
      ProgramEnds opened created closed remaining contents unread written
      words files_old files input_old input output_old output result
