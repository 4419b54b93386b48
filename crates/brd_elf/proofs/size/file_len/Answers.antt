use Rattle.std.proofs.Common.{◌^◌}
use Rattle.brd_elf.proofs.SizeLemmas.{file_is}
use Rattle.brd_elf.proofs.size.file_len.Goals as goal

pub returns : goal.returns
returns c =
    let bytes = rw c.as_slice-segments.ensures at c.data_len.ensures in
    let texts = rw c.as_slice-symbols.ensures at c.strings_len.ensures in
    rw (c.min.ensures, c.as_slice-segments.ensures, c.as_slice-symbols.ensures, c.padding-gap.ensures.is)
    (file_is c.args.image.now (2 ^ 32) c.data_len.result c.strings_len.result bytes texts)
