use Rattle.brd_mem.specs.declared.image.Image.{Image}
use Rattle.brd_asm.specs.Image.{Program, program_of, IsImage}
use Rattle.brd_asm.proofs.OutputLemmas.{meets_ok}
use Rattle.brd_asm.proofs.LawLemmas.{plain, lines, labels, instructions}
use Rattle.brd_asm.proofs.OrderLemmas.{orders}
use Rattle.brd_asm.specs.LayoutView.{layout}
use Rattle.brd_asm.proofs.AssembleLemmas.{output_length, image_is}
use Rattle.brd_asm.proofs.assembler.assemble.Goals as goal

pub segments_of-requires : goal.segments_of-requires
segments_of-requires c =
    output_length c.order_by-order.result c.in_ok-order.field-0.names c.in_ok-order.field-0.pieces c.in_ok-output.output c.as_slice-2.result.now c.as_slice-2.ensures.value (rw (← c.as_slice.ensures) c.in_ok-output.ensures)

pub returns : goal.returns
returns c =
    let image : Image = record { order = c.order_by-order.result; entry = c.entry_of.result; segments = c.in_ok-segments.segments; symbols = c.in_ok-symbols.symbols } in
    let meaning = image_is c.args.text.now (layout c.in_ok-order.field-0) c.in_ok-output.output c.as_slice-2.result.now image c.in_ok-order.ensures c.as_slice-2.ensures.value (rw (← c.order_by-order.ensures, ← c.as_slice.ensures) c.in_ok-output.ensures)
    c.in_ok-segments.ensures c.in_ok-symbols.ensures c.order_by-order.ensures c.entry_of.ensures in
    let known = meets_ok (λ (image : Image) (program : Program). IsImage program image) image (program_of c.args.text.now) meaning in
    record {
      meaning = meaning;
      plain = plain c.args.text.now known.0 image known.1 known.2;
      lines = lines c.args.text.now known.0 known.1;
      labels = labels c.args.text.now known.0 image known.1 known.2;
      order = orders c.args.text.now known.0 image known.1 known.2;
      instructions = instructions c.args.text.now known.0 image known.1 known.2;
    }
