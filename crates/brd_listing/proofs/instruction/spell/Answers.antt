use Rattle.std.proofs.Common.{◌≡◌, ◌++◌, refl, ap, ◌∙◌, append_assoc}
use Rattle.std.specs.Prelude.{Some}
use Rattle.brd_isa.specs.Names.{mnemonic_named}
use Rattle.brd_listing.specs.Listing.{mnemonic_of, operands_text, operands_of}
use Rattle.brd_listing.proofs.instruction.spell.Goals as goal

pub returns : goal.returns
returns c =
    let name = c.mnemonic_name.result.now in
    let operands = operands_text (operands_of c.args.insn.now c.args.address) in
    let named : mnemonic_named name ≡ Some (mnemonic_of c.args.insn.now) =
    (c.mnemonic_name.ensures name).1 refl ∙ ap Some c.mnemonic_of.ensures in
    record {
      text = name ++ operands;
      is_it = record { name = name; named = named; is = refl };
      behind = (c.in_ok-put_operands.ensures ∙ ap (λ them. c.extend_from_slice.new.self.items ++ operands_text them) c.operands_of.ensures)
          ∙ (ap (λ them. them ++ operands) c.in_ok-extend_from_slice.ensures.items ∙ append_assoc c.args.to.now.items name operands);
    }
