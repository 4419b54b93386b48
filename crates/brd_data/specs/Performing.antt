-- How a request with data ends. `opened` to `written` are as in brd_command/specs/Request.antt, and of the files
-- themselves.
use Rattle.std.specs.Prelude.{◌≡◌, ℕ, List, [], Option, Some, Result, Ok, Err}
use Rattle.std.specs.declared.io.Error.{Error}
use Rattle.brd_elf.specs.Meaning.{meaning}
use Rattle.brd_mem.specs.declared.image.Image.{Image}
use Rattle.brd_mem.specs.declared.image.Segment.{Segment}
use Rattle.brd_inputs.specs.declared.fault.CommandFault.{CommandFault}
use Rattle.brd_command.specs.Request.{RequestEnds}
use Rattle.brd_command.specs.declared.request.Request.{Request}
use Rattle.brd_patch.specs.Data.{HasData}
use Rattle.brd_data.specs.Data.{AreRead}
use Rattle.brd_data.specs.Laid.{IsClosed, IsCreated, IsOpened, left_of}
use Rattle.brd_data.specs.Object.{IsNamed, IsObjectRead}
use Rattle.brd_data.specs.declared.fault.DataFault.{DataFault}
use Rattle.brd_data.specs.declared.fault.DataFault.TheVariants.{Command}
use Rattle.brd_data.specs.declared.laid.Laid.{Laid}
use Rattle.brd_data.specs.declared.laid.Text.{Text}
use Rattle.brd_data.specs.declared.object.Named.{Named}

-- The object file of a request was read first, then the files of its data; and over that object file lies now the one
-- that has the data: whose board starts with memory as the first names, and then as the data does
-- (`brd_patch::laws::memory_starts_with_data`).
pub record IsLaid {F R : Type 0} (opened : F → List ℕ → Result R Error → F → Type 0)
    (remaining : R → Option (List ℕ)) (request : Request) (texts : List (List ℕ)) (old new : Laid F) : Type 0 where
  pub named : Named
  pub is_named : IsNamed request (Some named)
  pub object : List ℕ
  pub between : F
  pub is_object : IsObjectRead opened remaining old.files named.name.now named.is_tried object between
  pub image : Image
  pub means : meaning object ≡ Ok image
  pub pieces : List Segment
  pub are_read : AreRead opened remaining image.symbols between texts pieces new.files
  pub text : Text
  pub laid : new.laid ≡ Some text
  pub is_name : text.name.items ≡ named.name.now
  pub has_data : HasData object pieces text.bytes.items

-- the end of a request, from its command's
abbrev pub of_command : Result Unit CommandFault → Result Unit DataFault
of_command (Ok done) = Ok done
of_command (Err fault) = Err (Command fault)

-- Without data the request ends as it does. With data it ends so once the object file with the data is laid over its
-- own; where that can't be, standard input isn't read, and nothing is written on standard output.
pub data EndsWithData {F I O R W : Type 0}
    (opened : F → List ℕ → Result I Error → F → Type 0) (created : F → List ℕ → Result O Error → F → Type 0)
    (closed : F → O → F → Type 0) (remaining : I → Option (List ℕ)) (contents : O → Option (List ℕ))
    (unread : R → Option (List ℕ)) (written : W → Option (List ℕ))
    (request : Request) (texts : List (List ℕ)) (files_old files : Laid F) (input_old input : R)
    (output_old output : W) (result : Result Unit DataFault) : Type 0 where
  without : (end : Result Unit CommandFault) → texts ≡ [] →
      RequestEnds (IsOpened opened) (IsCreated created) (IsClosed closed) (left_of remaining) contents unread written
      request files_old files input_old input output_old output end →
      result ≡ of_command end →
      EndsWithData opened created closed remaining contents unread written
      request texts files_old files input_old input output_old output result
  not_laid : {fault : DataFault} → result ≡ Err fault → input ≡ input_old → output ≡ output_old →
      EndsWithData opened created closed remaining contents unread written
      request texts files_old files input_old input output_old output result
  laid : {between : Laid F} (end : Result Unit CommandFault) →
      IsLaid opened remaining request texts files_old between →
      RequestEnds (IsOpened opened) (IsCreated created) (IsClosed closed) (left_of remaining) contents unread written
      request between files input_old input output_old output end →
      result ≡ of_command end →
      EndsWithData opened created closed remaining contents unread written
      request texts files_old files input_old input output_old output result
