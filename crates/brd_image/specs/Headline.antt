-- The headline: for every source and configuration that make a board and every list of events, the object file is that
-- of the source's image, and its words decode to the source's instructions (`WordsDecode`), memory starts as that file
-- names (`MemoryStarts`), and registers, memory, links, kernel and console are those of the definitions after these
-- events.
use Rattle.std.specs.Prelude.{◌≡◌, ℕ, List, Ok}
use Rattle.brd_mem.specs.declared.image.Image.{Image}
use Rattle.brd_asm.specs.Laws.{HasInstructions}
use Rattle.brd_elf.specs.File.{file}
use Rattle.brd_elf.specs.Meaning.{meaning}
use Rattle.brd_config.specs.Configuration.{Configuration}
use Rattle.brd_config.specs.Meaning.{config_of}
use Rattle.brd_board.specs.declared.event.Event.{Event}
use Rattle.brd_board.specs.Board.{BoardState, after}
use Rattle.brd_board.specs.Boot.{boot}
use Rattle.brd_image.specs.Building.{IsImageOf}

-- The object file is that of the source's image, which it means again. In this image, at the address of each line of
-- the source with an instruction, lie the bytes, in the image's byte order, of a word that the instruction table
-- relates to that instruction, its operands computed with the values of all the source's names.
pub record WordsDecode (source elf : List ℕ) : Type 0 where
  pub image : Image
  pub is_image : IsImageOf source image
  pub is_file : elf ≡ file image
  pub is_read : meaning elf ≡ Ok image
  pub instructions : HasInstructions source image

-- The board at the start is the one that `boot` makes of the image that an object file means, and of what the
-- configuration says: its memory has the image's bytes at their addresses, and 0 elsewhere, and the image's byte order.
pub record MemoryStarts (elf config : List ℕ) (start : BoardState) : Type 0 where
  pub image : Image
  pub is_read : meaning elf ≡ Ok image
  pub configuration : Configuration
  pub is_configuration : config_of config ≡ Ok configuration
  pub boots : boot image configuration ≡ Ok start

-- how a board starts: of which words, and with which memory
pub record Starts (source elf config : List ℕ) (start : BoardState) : Type 0 where
  pub words : WordsDecode source elf
  pub memory : MemoryStarts elf config start

-- The headline: how a board starts, and that it is the definition's after these events.
pub record Headline (source elf config : List ℕ) (events : List Event) (board : BoardState) : Type 0 where
  pub start : BoardState
  pub starts : Starts source elf config start
  pub is_after : board ≡ after start events
