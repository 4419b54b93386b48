-- The image of a layout and its output.
use Rattle.std.proofs.Common.{◌≡◌, ℕ, List, length, Result, Ok, refl, subst, sym, ap, ◌∙◌, Vec, Global}
use Rattle.std.specs.Prelude.{map, codes}
use Rattle.brd_word.specs.declared.order.Order.{Order}
use Rattle.brd_mem.specs.declared.image.Image.{Image}
use Rattle.brd_asm.specs.declared.fault.AsmFault.{AsmFault}
use Rattle.brd_asm.specs.Faults.{Meets}
use Rattle.brd_asm.specs.Values.{Name, named}
use Rattle.brd_text.specs.Lines.{lines_of}
use Rattle.brd_asm.specs.Layout.{Piece, Layout, all_placed, nothing, order_by}
use Rattle.brd_asm.specs.Meaning.{Placed, meanings}
use Rattle.brd_asm.specs.Image.{Program, program_of, IsImage, AreStretches, symbol_of, entry_by}
use Rattle.brd_asm.specs.Output.{IsOutput}
use Rattle.brd_asm.specs.Index.{total_size, byte_at}
use Rattle.brd_asm.proofs.OutputLemmas.{meets_ok}
use Rattle.brd_asm.proofs.SpelledLemmas.{agree_all}

abbrev pub Outputs : Order → Vec ℕ Global → List Placed → Type 0
Outputs order output contents = IsOutput order contents output.items

pub output_length : (order : Order) (names : List Name) (pieces : List Piece) (output : Vec ℕ Global) (bytes : List ℕ) → bytes ≡ output.items → Meets (Outputs order) (Ok output) (meanings order names pieces) → length bytes ≡ total_size pieces
output_length order names pieces output bytes bytes_are meets =
    let m = meets_ok (Outputs order) output (meanings order names pieces) meets in
    let agree = agree_all order names pieces m.0 m.2.spelled m.1 m.2.are_spelled in
    ap (λ (xs : List ℕ). length xs) (bytes_are ∙ m.2.output_is) ∙ agree.sizes

program_is : (text : List ℕ) (s : Layout) (contents : List Placed) → all_placed 1 (lines_of text) nothing ≡ Ok s → meanings (order_by s.order) s.names s.pieces ≡ Ok contents → program_of text ≡ Ok (record { order = order_by s.order; names = s.names; contents = contents })
unfolding program_of
program_is text s contents placed means = rw (placed, means) refl

pub image_is : (text : List ℕ) (s : Layout) (output : Vec ℕ Global) (bytes : List ℕ) (image : Image) → all_placed 1 (lines_of text) nothing ≡ Ok s → bytes ≡ output.items → Meets (Outputs (order_by s.order)) (Ok output) (meanings (order_by s.order) s.names s.pieces)
    → AreStretches (byte_at bytes s.pieces) image.segments → image.symbols ≡ map symbol_of s.names → image.order ≡ order_by s.order → image.entry ≡ entry_by (named s.names (codes "_start"))
    → Meets (λ (image : Image) (program : Program). IsImage program image) (Ok image) (program_of text)
image_is text s output bytes image placed bytes_are meets stretches symbols order entry =
    let m = meets_ok (Outputs (order_by s.order)) output (meanings (order_by s.order) s.names s.pieces) meets in
    let agree = agree_all (order_by s.order) s.names s.pieces m.0 m.2.spelled m.1 m.2.are_spelled in
    let program : Program = record { order = order_by s.order; names = s.names; contents = m.0 } in
    let is : IsImage program image = record {
      order = order;
      entry = entry;
      symbols = symbols;
      spelled = m.2.spelled;
      are_spelled = m.2.are_spelled;
      segments = record {
        separate = stretches.separate;
        same = λ a. stretches.same a ∙ ap (λ (xs : List ℕ). byte_at xs s.pieces a) (bytes_are ∙ m.2.output_is) ∙ sym (agree.bytes a);
      };
    } in
    let known = program_is text s m.0 placed m.1 in
    subst (λ (r : Result Program AsmFault). Meets (λ (image : Image) (program : Program). IsImage program image) (Ok image) r) (sym known) is
