-- The object file into which the data of a request goes.
use Rattle.std.specs.Prelude.{◌≡◌, ℕ, Bool, true, false, List, Option, None, Some, IfSome, Result, Ok}
use Rattle.std.specs.Bool.{MatchBool}
use Rattle.std.specs.declared.io.Error.{Error}
use Rattle.brd_command.specs.TryCommand as trying
use Rattle.brd_command.specs.declared.request.Request.{Request}
use Rattle.brd_command.specs.declared.request.Request.TheVariants.{Words, Asm, Run, Race, Debug, Trace, Journal}
use Rattle.brd_command.specs.declared.request.Request.TheVariants.{Explore, Gdb, Shrink, Try}
use Rattle.brd_data.specs.declared.object.Named.{Named}

-- it has this name, and may be a source or not
abbrev pub Is : List ℕ → Bool → Option Named → Type 0
Is name tried None = ⊥
Is name tried (Some named) = (named.name.now ≡ name) × (named.is_tried ≡ tried)

-- IMAGE, or SOURCE of `try`
abbrev pub IsNamed : Request → Option Named → Type 0
IsNamed (Run image config journal) named = Is image.now false named
IsNamed (Race image config script quota out) named = Is image.now false named
IsNamed (Debug image config journal) named = Is image.now false named
IsNamed (Gdb image config journal) named = Is image.now false named
IsNamed (Trace image config journal options) named = Is image.now false named
IsNamed (Explore image config options out) named = Is image.now false named
IsNamed (Shrink image config journal options out) named = Is image.now false named
IsNamed (Try source options keep page) named = Is source.now true named
IsNamed (Words steps) named = named ≡ None
IsNamed (Asm source out) named = named ≡ None
IsNamed (Journal cpus events options) named = named ≡ None

-- what was read, or where that is a source to be tried, its object file
abbrev pub IsObjectOf : Bool → List ℕ → List ℕ → Type 0
IsObjectOf false text object = object ≡ text
IsObjectOf true text object = trying.IsObjectOf text object

-- the file of this name was opened and read to its end, and this is the object file
pub record IsObjectRead {F R : Type 0} (opened : F → List ℕ → Result R Error → F → Type 0)
    (remaining : R → Option (List ℕ)) (old : F) (name : List ℕ) (tried : Bool) (object : List ℕ) (new : F) : Type 0
  where
    pub reader : R
    pub opens : opened old name (Ok reader) new
    pub has : IfSome (remaining reader) (λ text. IsObjectOf tried text object)
