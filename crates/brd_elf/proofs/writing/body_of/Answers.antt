use Rattle.std.proofs.Common.{◌≡◌, ℕ, ◌+◌, List, ◌++◌, length, replicate, refl, ap, ◌∙◌, arith}
use Rattle.brd_base.specs.Space.{base}
use Rattle.brd_elf.specs.File.{padding, section_names, program_headers_from, data_of, data_at}
use Rattle.brd_elf.proofs.BodyLemmas.{laid_out, are_few}
use Rattle.brd_elf.proofs.writing.body_of.Goals as goal

pub with_data-requires : goal.with_data-requires
with_data-requires c =
    let few = are_few base c.args.image.now.segments c.requires.segments (omega arith) in
    rw c.as_slice.ensures (omega (arith, few))

pub returns : goal.returns
returns c =
    let names : c.put_section_names.new.out.items ≡ c.extend_from_slice-2.new.self.items ++ section_names ++ replicate (padding (length c.in_ok-table.strings.items + length section_names)) 0 =
    rw c.deref-3.ensures.value at c.in_ok-put_section_names.ensures in
    let laid = laid_out c.args.image.now (program_headers_from c.args.image.now.order (data_at c.args.image.now) c.args.image.now.segments) (data_of c.args.image.now.segments) c.in_ok-table.table.items c.in_ok-table.strings.items
    c.in_ok-bytes.bytes.items c.extend_from_slice.new.self.items c.extend_from_slice-2.new.self.items c.put_section_names.new.out.items
    refl refl
    (rw c.as_slice-2.ensures at c.in_ok-table.ensures.table) (rw c.as_slice-2.ensures at c.in_ok-table.ensures.strings)
    (rw c.as_slice.ensures at c.in_ok-bytes.ensures) (rw c.deref.ensures.value at c.in_ok-extend_from_slice.ensures.items) (rw c.deref-2.ensures.value at c.in_ok-extend_from_slice-2.ensures.items)
    names in
    let bytes_len : c.len-symbols_at.result ≡ length c.in_ok-bytes.bytes.items = omega (arith, c.len-symbols_at.ensures, c.in_ok-bytes.bytes.ok.0) in
    let table_len : c.len-strings_at.result ≡ length c.extend_from_slice.new.self.items = omega (arith, c.len-strings_at.ensures, c.extend_from_slice.new.self.ok.0) in
    let strings_len : c.len-names_at.result ≡ length c.extend_from_slice-2.new.self.items = omega (arith, c.len-names_at.ensures, c.extend_from_slice-2.new.self.ok.0) in
    let symbols_size : c.len.result ≡ length c.in_ok-table.table.items = omega (arith, c.len.ensures, c.in_ok-table.table.ok.0) in
    let strings_size : c.len-2.result ≡ length c.in_ok-table.strings.items = omega (arith, c.len-2.ensures, c.in_ok-table.strings.ok.0) in
    record {
      bytes = laid.bytes;
      symbols_at = ap (λ (n : ℕ). 52 + n) bytes_len ∙ laid.symbols;
      symbols_size = symbols_size ∙ ap (λ (list : List ℕ). length list) (rw c.as_slice-2.ensures at c.in_ok-table.ensures.table);
      strings_at = ap (λ (n : ℕ). 52 + n) table_len ∙ laid.strings;
      strings_size = strings_size ∙ ap (λ (list : List ℕ). length list) (rw c.as_slice-2.ensures at c.in_ok-table.ensures.strings);
      names_at = ap (λ (n : ℕ). 52 + n) strings_len ∙ laid.names;
      sections_at = laid.sections;
      words = rw c.as_slice-2.ensures at c.in_ok-table.ensures.words;
    }
