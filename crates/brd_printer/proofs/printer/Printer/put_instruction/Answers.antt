use Rattle.std.proofs.Common.{◌≡◌, List, ℕ, ◌++◌, true, false, sym, ap, ◌∙◌, subst, arith}
use Rattle.std.specs.Prelude.{unwrap_or}
use Rattle.std.proofs.lemmas.Grind.{common_steps}
use Rattle.brd_printer.specs.Effects.{IsToldOf}
use Rattle.brd_printer.specs.Links.{text_of}
use Rattle.brd_printer.specs.Telling.{form_of, shows_instruction}
use Rattle.brd_printer.proofs.PutLemmas.{instruction_hidden, instruction_line}
use Rattle.brd_printer.proofs.printer.Printer.put_instruction.Goals as goal

pub returns-then-not-shows_instruction : goal.returns-then-not-shows_instruction
returns-then-not-shows_instruction c =
    let off : shows_instruction c.args.self.now.options c.args.manner.words.now c.args.told.now.cpu c.args.instruction.now ≡ false = grind (arith, common_steps) in
    instruction_hidden c.args.manner c.args.position c.args.told.now c.args.instruction.now (text_of c.args.links) c.args.self.now c.args.out.now.items off

pub returns : goal.returns
returns c =
    let on : shows_instruction c.args.self.now.options c.args.manner.words.now c.args.told.now.cpu c.args.instruction.now ≡ true = grind (arith, common_steps) in
    let t = c.in_ok-put_done.ensures in
    let e : c.as_slice.result.now ≡ t.text = c.as_slice.ensures.value ∙ t.behind ∙ ap (λ (them : List ℕ). them ++ t.text) c.new-what.ensures.items in
    let here : IsToldOf (form_of c.args.manner c.args.self.now.options) (unwrap_or c.args.told.now.place 0) c.args.instruction.now (text_of c.args.links) t.text =
    subst (λ (n : ℕ). IsToldOf (form_of c.args.manner c.args.self.now.options) n c.args.instruction.now (text_of c.args.links) t.text) c.unwrap_or.ensures t.is_it in
    let is : IsToldOf (form_of c.args.manner c.args.self.now.options) (unwrap_or c.args.told.now.place 0) c.args.instruction.now (text_of c.args.links) c.as_slice.result.now =
    subst (λ (them : List ℕ). IsToldOf (form_of c.args.manner c.args.self.now.options) (unwrap_or c.args.told.now.place 0) c.args.instruction.now (text_of c.args.links) them)
    (sym e) here in
    instruction_line c.args.manner c.args.position c.args.told.now c.args.instruction.now (text_of c.args.links) c.args.self.now c.put_line.new.self
    c.as_slice.result.now c.args.out.now.items c.put_line.new.out.items on is c.in_ok-put_line.ensures.printer
    (c.in_ok-put_line.ensures.line)
