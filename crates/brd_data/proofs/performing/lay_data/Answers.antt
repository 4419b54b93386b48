use Rattle.std.proofs.Common.{refl}
use Rattle.brd_data.proofs.performing.lay_data.Goals as goal

pub returns-in-Ok-patched : goal.returns-in-Ok-patched
returns-in-Ok-patched g c = record {
  named = c.in-Some.named;
  is_named = c.in-Some.ensures;
  object = c.in-Ok.file.items;
  between = c.read_object.new.files;
  is_object = c.in-Ok.ensures;
  image = c.in-Ok-image_of.image;
  means = rw c.deref.ensures.value at c.in-Ok-image_of.ensures;
  pieces = c.in-Ok-read_pieces.pieces;
  are_read = c.in-Ok-read_pieces.ensures.read;
  text = _;
  laid = refl;
  is_name = c.in_ok-name.ensures;
  has_data = rw (c.deref-3.ensures.value, c.as_slice.ensures) at c.in-Ok-patched.ensures;
}
