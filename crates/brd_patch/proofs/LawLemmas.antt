-- How a board starts whose image has pieces in their places.
use Rattle.std.proofs.Common.{◌≡◌, ℕ, List, [], ◌∷◌, Result, Ok, Err, refl, ap, sym, ◌∙◌, ◌++◌}
use Rattle.std.specs.Prelude.{Bool, true, false, if◌then◌else◌}
use Rattle.brd_text.specs.Faults.{◌>>=◌}
use Rattle.brd_mem.specs.Memory.{Memory, copied}
use Rattle.brd_mem.specs.declared.image.Image.{Image}
use Rattle.brd_mem.specs.declared.image.Segment.{Segment}
use Rattle.brd_config.specs.Configuration.{Configuration}
use Rattle.brd_config.specs.Meaning.{config_of}
use Rattle.brd_config.specs.declared.fault.ConfigFault.{ConfigFault}
use Rattle.brd_elf.specs.Meaning.{meaning}
use Rattle.brd_elf.specs.declared.fault.ElfFault.{ElfFault}
use Rattle.brd_tasks.specs.declared.task.TaskSetup.{TaskSetup}
use Rattle.brd_objects.specs.declared.block.PoolSetup.{PoolSetup}
use Rattle.brd_kernel.specs.declared.processor.LineSetup.{LineSetup}
use Rattle.brd_board.specs.Board.{BoardState}
use Rattle.brd_board.specs.Boot.{are_inside, boot, booted_board, booted_kernel, loaded, memory_of}
use Rattle.brd_board.specs.Setup.{setups_of, handlers_of, pools_of, cyclics_of, alarms_of}
use Rattle.brd_board.specs.declared.boot.BootFault.{BootFault}
use Rattle.brd_board.specs.declared.boot.BootFault.TheVariants.{Outside}
use Rattle.brd_image.specs.Building.{booted, step}
use Rattle.brd_image.specs.Building as building
use Rattle.brd_image.specs.declared.fault.BuildFault.TheVariants.{Elf, Config, Boot}
use Rattle.brd_patch.specs.Data.{HasData, image_with, with_data, with_piece}
use Rattle.brd_patch.specs.Laws.{StartsWithData}
use Rattle.brd_patch.proofs.MemoryLemmas.{inside_with, memory_with}

-- a board, but for its memory
abbrev with_memory : BoardState → Memory → BoardState
with_memory board memory = record board { memory = memory }

abbrev done : BoardState → Result BoardState BootFault
done board = Ok board

-- the memory, where all segments lie inside
abbrev loaded_if : Bool → Memory → Result Memory BootFault
loaded_if inside memory = if inside then Ok memory else Err Outside

-- what follows the loading of memory
abbrev from : Configuration → Result (List TaskSetup) BootFault → Result (List LineSetup) BootFault → Result (List PoolSetup) BootFault →
    Result (List LineSetup) BootFault → Result (List LineSetup) BootFault → Memory → Result BoardState BootFault
from config setups lines pools cyclics alarms memory =
    setups >>= λ tasks. lines >>= λ handlers. pools >>= λ blocks. cyclics >>= λ cycles. alarms >>= λ times.
    Ok (booted_board (booted_kernel tasks ((handlers ++ cycles) ++ times) blocks config) memory)

from_with : (config : Configuration) (setups : Result (List TaskSetup) BootFault) (lines : Result (List LineSetup) BootFault)
    (pools : Result (List PoolSetup) BootFault) (cyclics alarms : Result (List LineSetup) BootFault) (one other : Memory) (start : BoardState) →
    from config setups lines pools cyclics alarms one ≡ Ok start →
    (start.memory ≡ one) × (from config setups lines pools cyclics alarms other ≡ Ok (with_memory start other))
from_with config (Ok tasks) (Ok handlers) (Ok blocks) (Ok cycles) (Ok times) one other start gives =
    let same : start ≡ booted_board (booted_kernel tasks ((handlers ++ cycles) ++ times) blocks config) one = cc in
    (ap (λ (it : BoardState). it.memory) same, ap (λ (it : BoardState). done (with_memory it other)) (sym same))
from_with config (Ok tasks) (Ok handlers) (Ok blocks) (Ok cycles) (Err fault) one other start gives = let wrong : ⊥ = cc in absurd wrong
from_with config (Ok tasks) (Ok handlers) (Ok blocks) (Err fault) alarms one other start gives = let wrong : ⊥ = cc in absurd wrong
from_with config (Ok tasks) (Ok handlers) (Err fault) cyclics alarms one other start gives = let wrong : ⊥ = cc in absurd wrong
from_with config (Ok tasks) (Err fault) pools cyclics alarms one other start gives = let wrong : ⊥ = cc in absurd wrong
from_with config (Err fault) lines pools cyclics alarms one other start gives = let wrong : ⊥ = cc in absurd wrong

-- one piece

abbrev one_more : Image → Segment → Image
one_more image piece = record image { segments = with_piece image.segments piece }

-- a board without a piece, of which this is the board with it
abbrev IsWithOne : Image → Configuration → Segment → BoardState → Type 0
IsWithOne image config piece start = (first : BoardState) × (boot image config ≡ Ok first)
    × (start ≡ with_memory first (copied first.memory piece.address piece.bytes))

boot_one : (image : Image) (config : Configuration) (piece : Segment) (start : BoardState) → boot (one_more image piece) config ≡ Ok start →
    IsWithOne image config piece start
unfolding boot loaded
boot_one image config piece start gives = go (are_inside config.ram (with_piece image.segments piece)) refl gives
  where
    go : (inside : Bool) → are_inside config.ram (with_piece image.segments piece) ≡ inside →
        (loaded_if inside (memory_of image.order config.ram (with_piece image.segments piece)) >>= λ memory.
        from config (setups_of config.ram image.symbols config.tasks) (handlers_of config.ram image.symbols config.handlers)
        (pools_of config.ram image.symbols config.tasks config.pools) (cyclics_of config.ram image.symbols config.cyclics)
        (alarms_of config.ram image.symbols config.alarms) memory) ≡ Ok start →
        IsWithOne image config piece start
    go true inside booted_so =
        let both = inside_with config.ram image.segments piece inside in
        let without : Memory = memory_of image.order config.ram image.segments in
        let is_with = memory_with image.order config.ram image.segments piece both.1 in
        let parts = from_with config (setups_of config.ram image.symbols config.tasks) (handlers_of config.ram image.symbols config.handlers)
        (pools_of config.ram image.symbols config.tasks config.pools) (cyclics_of config.ram image.symbols config.cyclics)
        (alarms_of config.ram image.symbols config.alarms) (memory_of image.order config.ram (with_piece image.segments piece)) without start booted_so in
        (with_memory start without, rw both.0 parts.1, ap (with_memory start) (parts.0 ∙ is_with))
    go false inside booted_so = let wrong : ⊥ = cc in absurd wrong

-- all of them

abbrev IsWith : Image → Configuration → List Segment → BoardState → Type 0
IsWith image config pieces start = (first : BoardState) × (boot image config ≡ Ok first)
    × (start ≡ with_memory first (with_data first.memory pieces))

boot_all : (image : Image) (config : Configuration) (pieces : List Segment) (start : BoardState) → boot (image_with image pieces) config ≡ Ok start →
    IsWith image config pieces start
boot_all image config [] start gives = (start, gives, refl)
boot_all image config (piece ∷ pieces) start gives =
    let rest = boot_all (one_more image piece) config pieces start gives in
    let one = boot_one image config piece rest.0 rest.1 in
    (one.0, one.1, rest.2 ∙ ap (λ (it : BoardState). with_memory it (with_data it.memory pieces)) one.2)

-- ---- object files

boot_ok : (r : Result BoardState BootFault) (board : BoardState) → step Boot r ≡ Ok board → r ≡ Ok board
boot_ok (Ok b) board h = cc
boot_ok (Err e) board h = cc

booted_ok : (r : Result Configuration ConfigFault) (image : Image) (board : BoardState)
    → (step Config r >>= λ configuration. step Boot (boot image configuration)) ≡ Ok board
    → (configuration : Configuration) × (r ≡ Ok configuration) × (boot image configuration ≡ Ok board)
booted_ok (Ok configuration) image board h = (configuration, refl, boot_ok (boot image configuration) board h)
booted_ok (Err e) image board h = let wrong : ⊥ = cc in absurd wrong

booted_with : (config : List ℕ) (image : Image) (configuration : Configuration) (board : BoardState) → config_of config ≡ Ok configuration
    → boot image configuration ≡ Ok board → booted image config ≡ Ok board
booted_with config image configuration board reads boots =
    ap (λ (r : Result Configuration ConfigFault). step Config r >>= λ it. step Boot (boot image it)) reads ∙ ap (step Boot) boots

-- the board of a file that means this image
of_image : (file config : List ℕ) (image : Image) → meaning file ≡ Ok image → building.loaded file config ≡ booted image config
of_image file config image means = ap (λ (r : Result Image ElfFault). step Elf r >>= λ i. booted i config) means

pub starts_with_data : (file patched config : List ℕ) (pieces : List Segment) (start : BoardState) → HasData file pieces patched →
    building.loaded patched config ≡ Ok start → StartsWithData file config pieces start
starts_with_data file patched config pieces start data_of gives =
    let image : Image = data_of.image in
    let found = booted_ok (config_of config) (image_with image pieces) start (sym (of_image patched config (image_with image pieces) data_of.has) ∙ gives) in
    let all = boot_all image found.0 pieces start found.2 in
    record {
      without = all.0;
      loads = of_image file config image data_of.means ∙ booted_with config image found.0 all.0 found.1 all.1;
      has = all.2;
    }
