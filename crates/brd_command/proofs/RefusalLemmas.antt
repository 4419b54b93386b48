-- What the ends of commands tell of building a board.
use Rattle.std.proofs.Common.{◌≡◌, ℕ, List, refl, sym, ap, subst, ◌∙◌, inl, inr}
use Rattle.std.specs.Prelude.{Option, Some, IfSome, Result, Ok, Err}
use Rattle.brd_text.specs.Faults.{◌>>=◌}
use Rattle.brd_mem.specs.declared.image.Image.{Image}
use Rattle.brd_asm.specs.declared.fault.AsmFault.{AsmFault}
use Rattle.brd_asm.specs.Image.{Program, program_of, IsImage}
use Rattle.brd_elf.specs.declared.fault.ElfFault.{ElfFault}
use Rattle.brd_elf.specs.File.{file}
use Rattle.brd_elf.specs.Meaning.{meaning}
use Rattle.brd_config.specs.declared.fault.ConfigFault.{ConfigFault}
use Rattle.brd_config.specs.Configuration.{Configuration}
use Rattle.brd_config.specs.Meaning.{config_of}
use Rattle.brd_board.specs.declared.boot.BootFault.{BootFault}
use Rattle.brd_board.specs.Board.{BoardState}
use Rattle.brd_board.specs.Boot.{boot}
use Rattle.brd_image.specs.Building.{Assembles, IsBuilt, IsImageOf, booted, built, loaded, step}
use Rattle.brd_image.specs.declared.fault.BuildFault.{BuildFault}
use Rattle.brd_image.specs.declared.fault.BuildFault.TheVariants as build_fault
use Rattle.brd_image.proofs.FittingLemmas.{OneImage}
use Rattle.brd_running.specs.AsmCommand.{AsmEnds, IsObjectFile}
use Rattle.brd_running.specs.Debugging.{DebugEnds, EndsAnswering, debugger_of}
use Rattle.brd_command.specs.Laws.{IsAssembled, MakesBoard, TellsOfBuilding, TellsOfSource}
use Rattle.brd_running.specs.RaceCommand.{RaceEnds, ShowsRace, WritesRaceFront}
use Rattle.brd_running.specs.RaceCommand.WritesRaceFront.{in_journal, in_report}
use Rattle.brd_running.specs.RunCommand.{RunEnds}
use Rattle.brd_inputs.specs.Start.{KeepsFromStarting}
use Rattle.brd_inputs.specs.declared.fault.CommandFault.{CommandFault}
use Rattle.brd_inputs.specs.declared.fault.CommandFault.TheVariants.{NoMemory, Source, ImageTooLarge}
use Rattle.brd_inputs.specs.declared.fault.CommandFault.TheVariants.{Read, TooLong, TooManyReads, Build, Journal}
use Rattle.brd_inputs.specs.declared.fault.CommandFault.TheVariants.{OtherOrder, Script, Race, Write}
use Rattle.brd_inputs.specs.declared.input_name.InputName.{InputName}
use Rattle.brd_inputs.specs.declared.input_name.InputName.TheVariants as input_name
use Rattle.brd_inputs.specs.declared.start.Start.{Start}
use Rattle.brd_command.proofs.HeadlineLemmas.{written_file}

-- ---- a source and a configuration come to one answer

same_ok : {A F : Type 0} (r : Result A F) (x y : A) → r ≡ Ok x → r ≡ Ok y → x ≡ y
same_ok r x y e f = cc

one_image_of : OneImage → (source : List ℕ) (a b : Image) → IsImageOf source a → IsImageOf source b → a ≡ b
one_image_of unique source a b is other =
    let program : is.program ≡ other.program =
    same_ok (program_of source) is.program other.program is.is_program other.is_program in
    unique other.program a b (subst (λ (p : Program). IsImage p a) program is.is_image) other.is_image

same_err : {A F : Type 0} (r : Result A F) (x y : F) → r ≡ Err x → r ≡ Err y → x ≡ y
same_err r x y e f = cc

not_both : {A F : Type 0} (r : Result A F) (x : A) (fault : F) → r ≡ Ok x → r ≡ Err fault → ⊥
not_both r x fault e f = cc

one_assembled : OneImage → (source : List ℕ) (a b : Result Image AsmFault) → Assembles source a → Assembles source b
    → a ≡ b
one_assembled unique source (Ok a) (Ok b) is other = ap (λ (i : Image). Ok i) (one_image_of unique source a b is other)
one_assembled unique source (Ok a) (Err fault) is other =
    absurd (not_both (program_of source) is.program fault is.is_program other)
one_assembled unique source (Err fault) (Ok b) is other =
    absurd (not_both (program_of source) other.program fault other.is_program is)
one_assembled unique source (Err fault) (Err f) is other =
    ap (λ (e : AsmFault). Err e) (same_err (program_of source) fault f is other)

pub one : OneImage → (source config : List ℕ) (a b : Result BoardState BuildFault) → IsBuilt source config a
    → IsBuilt source config b → a ≡ b
one unique source config a b is other =
    sym is.is_built ∙ ap (λ (assembled : Result Image AsmFault). built assembled config)
    (one_assembled unique source is.assembled other.assembled is.is_assembled other.is_assembled)
    ∙ other.is_built

-- ---- a fault of the source

not_boot : (r : Result BoardState BootFault) (fault : AsmFault)
    → step build_fault.Boot r ≡ Err (build_fault.Asm fault) → ⊥
not_boot (Ok board) fault h = cc
not_boot (Err e) fault h = cc

not_config : (r : Result Configuration ConfigFault) (image : Image) (fault : AsmFault)
    → (step build_fault.Config r >>= λ configuration. step build_fault.Boot (boot image configuration))
    ≡ Err (build_fault.Asm fault) → ⊥
not_config (Ok configuration) image fault h = not_boot (boot image configuration) fault h
not_config (Err e) image fault h = cc

not_loaded : (r : Result Image ElfFault) (config : List ℕ) (fault : AsmFault)
    → (step build_fault.Elf r >>= λ image. booted image config) ≡ Err (build_fault.Asm fault) → ⊥
not_loaded (Ok image) config fault h = not_config (config_of config) image fault h
not_loaded (Err e) config fault h = cc

-- where there is an image of the source, a fault is none of the source
none_assembled : (source config : List ℕ) (assembled : Result Image AsmFault) (image : Image) (fault : AsmFault)
    → IsImageOf source image → Assembles source assembled → built assembled config ≡ Err (build_fault.Asm fault) → ⊥
none_assembled source config (Ok other) image fault is assembles h = not_loaded (meaning (file other)) config fault h
none_assembled source config (Err other) image fault is assembles h =
    not_both (program_of source) is.program other is.is_program assembles

not_of_source : (source config : List ℕ) (image : Image) → IsImageOf source image → (fault : AsmFault)
    → IsBuilt source config (Err (build_fault.Asm fault)) → ⊥
not_of_source source config image is fault refused =
    none_assembled source config refused.assembled image fault is refused.is_assembled refused.is_built

pub of_asm : (source config : List ℕ) (result : Result Unit CommandFault) (old new : Option (List ℕ))
    → AsmEnds result source old new
    → TellsOfSource result source config
of_asm source config (Ok ended) old new ends =
    not_of_source source config ends.1.are_meant.image ends.1.are_meant.is_image
of_asm source config (Err NoMemory) old new ends = tt
of_asm source config (Err (Source fault excerpt kind)) old new ends =
    record { assembled = Err fault; is_assembled = ends.1.0; is_built = refl }
of_asm source config (Err ImageTooLarge) old new ends = not_of_source source config ends.1.image ends.1.is_image
of_asm source config (Err (Read input error)) old new ends = tt
of_asm source config (Err (TooLong input)) old new ends = tt
of_asm source config (Err (TooManyReads input)) old new ends = tt
of_asm source config (Err (Write error)) old new ends =
    not_of_source source config ends.1.are_meant.image ends.1.are_meant.is_image
of_asm source config (Err fault) old new ends = absurd ends

-- ---- a fault of building over the source's object file

module _ (source elf config : List ℕ) (object : IsObjectFile source elf) where
  is_built : (answer : Result BoardState BuildFault) → loaded elf config ≡ answer → IsBuilt source config answer
  is_built answer h = record {
    assembled = Ok object.image;
    is_assembled = object.is_image;
    is_built = ap (λ (bytes : List ℕ). loaded bytes config) (sym object.is_file) ∙ h;
  }

  makes : (board : BoardState) → loaded elf config ≡ Ok board → MakesBoard source config
  makes board h = (board, is_built (Ok board) h)

  module _ (last : InputName) (text : List ℕ) where
    keeps : (fault : CommandFault) → KeepsFromStarting last elf config text fault
        → TellsOfBuilding (Err fault) source config
    keeps NoMemory why = tt
    keeps (Read input error) why = tt
    keeps (TooLong input) why = tt
    keeps (TooManyReads input) why = tt
    keeps (Build fault kind) why = is_built (Err fault) why.1.0
    keeps (Journal fault kind) why = makes why.1.1 why.1.2
    keeps (OtherOrder order) why = makes why.1.1.board why.1.1.loads
    keeps (Script fault kind) why = makes why.1.1 why.1.2
    keeps fault why = absurd why

  module _ (journal : List ℕ) where
    of_run : (result : Result Unit CommandFault) (old new : Option (List ℕ)) → RunEnds result elf config journal old new
        → TellsOfBuilding result source config
    of_run (Ok ended) old new ends = makes ends.are_meant.start.board ends.are_meant.is_start.loads
    of_run (Err NoMemory) old new ends = tt
    of_run (Err (Write error)) old new ends = makes ends.are_meant.start.board ends.are_meant.is_start.loads
    of_run (Err fault) old new ends = keeps input_name.Journal journal fault ends.0

    of_answers : (start : Start) (text : List ℕ) (result : Result Unit CommandFault) (unread old new : Option (List ℕ))
        → loaded elf config ≡ Ok start.board → EndsAnswering result (debugger_of start) text unread old new
        → TellsOfBuilding result source config
    of_answers start text (Ok ended) unread old new h ends = makes start.board h
    of_answers start text (Err NoMemory) unread old new h ends = tt
    of_answers start text (Err (Read from error)) unread old new h ends = tt
    of_answers start text (Err (TooLong from)) unread old new h ends = tt
    of_answers start text (Err (TooManyReads from)) unread old new h ends = tt
    of_answers start text (Err (Write error)) unread old new h ends = makes start.board h
    of_answers start text (Err fault) unread old new h ends = absurd ends

    of_debug : {C : Type 0} (remaining : C → Option (List ℕ)) (text : List ℕ) (input_first input : C)
        (result : Result Unit CommandFault) (old new : Option (List ℕ)) → remaining input_first ≡ Some text
        → DebugEnds remaining elf config journal input_first input result old new → TellsOfBuilding result source config
    of_debug remaining text input_first input result old new is (inl debugs) =
        of_answers debugs.start text result (remaining input) old new debugs.is_start.loads
        (subst (λ (known : Option (List ℕ)). IfSome known
        (λ (t : List ℕ). EndsAnswering result (debugger_of debugs.start) t (remaining input) old new)) is debugs.ends)
    of_debug remaining text input_first input result old new is (inr none) =
        subst (λ (r : Result Unit CommandFault). TellsOfBuilding r source config) (sym none.is_fault)
        (keeps input_name.Journal journal none.fault none.keeps_from)

  module _ (quota : ℕ) (script : List ℕ) (out_old out old new : Option (List ℕ)) where
    shows_board : (journal report : List ℕ) → ShowsRace quota elf config script journal report
        → MakesBoard source config
    shows_board journal report shows = makes shows.start.board shows.is_start.loads

    front_board : WritesRaceFront quota elf config script out_old out old new → MakesBoard source config
    front_board (in_journal journal report shows front same) = shows_board journal report shows
    front_board (in_report journal report shows written front) = shows_board journal report shows

    of_race : (result : Result Unit CommandFault) → RaceEnds result quota elf config script out_old out old new
        → TellsOfBuilding result source config
    of_race (Ok ended) ends = shows_board ends.journal ends.report ends.shows
    of_race (Err NoMemory) ends = tt
    of_race (Err (Race fault)) ends = makes ends.0.start.board ends.0.is_start.loads
    of_race (Err (Write error)) ends = front_board ends
    of_race (Err fault) ends = keeps input_name.Script script fault ends.0

-- ---- where `asm` wrote the file

pub run : (source elf config journal : List ℕ) (result : Result Unit CommandFault) (old new : Option (List ℕ))
    → IsAssembled source elf
    → RunEnds result elf config journal old new → TellsOfBuilding result source config
run source elf config journal result old new assembled ends =
    of_run source elf config (written_file source elf assembled) journal result old new ends

pub debug : {C : Type 0} (remaining : C → Option (List ℕ)) (source elf config journal text : List ℕ)
    (input_first input : C)
    (result : Result Unit CommandFault) (old new : Option (List ℕ)) → IsAssembled source elf
    → remaining input_first ≡ Some text
    → DebugEnds remaining elf config journal input_first input result old new → TellsOfBuilding result source config
debug remaining source elf config journal text input_first input result old new assembled is ends =
    of_debug source elf config (written_file source elf assembled) journal remaining text input_first input result old
    new is ends

pub race : (quota : ℕ) (source elf config script : List ℕ) (result : Result Unit CommandFault)
    (out_old out old new : Option (List ℕ))
    → IsAssembled source elf → RaceEnds result quota elf config script out_old out old new
    → TellsOfBuilding result source config
race quota source elf config script result out_old out old new assembled ends =
    of_race source elf config (written_file source elf assembled) quota script out_old out old new result ends
