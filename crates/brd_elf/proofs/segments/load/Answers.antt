use Rattle.std.proofs.Common.{sym}
use Rattle.brd_elf.proofs.HeaderFaults.{without_fault}
use Rattle.brd_elf.proofs.segments.load.Goals as goal

pub load_segment-requires : goal.load_segment-requires
load_segment-requires c =
    let e = without_fault c.args.file.now c.args.at c.program_header_at-header.result c.args.segments.now (sym c.in-None.ensures) in
    record { skipped = sym c.if-is_skipped.ensures; sizes = e.sizes; whole = e.whole; inside = e.inside; apart = e.apart }
