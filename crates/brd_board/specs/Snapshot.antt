-- A snapshot: what is kept of a board so that it can be had again from the boot.
use Rattle.std.specs.Prelude.{List, Option}
use Rattle.brd_link.specs.LinkSet.{LinkSet}
use Rattle.brd_mem.specs.Memory.{size_of}
use Rattle.brd_mem.specs.Pages.{differing, with_pages, LieWithin}
use Rattle.brd_mem.specs.declared.pages.Page.{Page}
use Rattle.brd_kernel.specs.Kernel.{KernelState}
use Rattle.brd_board.specs.declared.view.Fault.{Fault}
use Rattle.brd_board.specs.Board.{BoardState}

pub record SnapshotState : Type 0 where
  pub kernel : KernelState
  pub pages : List Page
  pub links : LinkSet
  pub faults : List (Option Fault)

-- of RAM it has the pages that differ from the boot's, and the rest whole
abbrev pub snapshot_of : BoardState → BoardState → SnapshotState
snapshot_of boot board = record {
  kernel = board.kernel;
  pages = differing boot.memory board.memory;
  links = board.links;
  faults = board.faults;
}

-- the board that a snapshot and the boot make
abbrev pub restored : BoardState → SnapshotState → BoardState
restored boot snapshot = record {
  kernel = snapshot.kernel;
  memory = with_pages boot.memory snapshot.pages;
  links = snapshot.links;
  faults = snapshot.faults;
}

-- a snapshot's pages lie inside the boot's RAM
abbrev pub Fits : BoardState → SnapshotState → Type 0
Fits boot snapshot = LieWithin (size_of boot.memory) snapshot.pages
