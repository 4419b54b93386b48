use Rattle.std.proofs.Common.{◌≡◌, map, take}
use Rattle.brd_patch.specs.Data.{AreWithin}
use Rattle.brd_data.specs.Data.{AreRead}
use Rattle.brd_data.proofs.pieces.read_pieces.Given as goal

abbrev pub invariant-loop-text : goal.invariant-loop-text
invariant-loop-text g l = record {
  read : AreRead g.F.Files.opened g.F.Input.Read.remaining l.fn.object.image.now.symbols l.fn.files (map (λ text. text.now) (take l.text-index l.texts)) l.pieces l.files;
  within : AreWithin l.pieces;
}
