use Rattle.std.proofs.Common.{◌∙◌, sym, to_z, of_z, w64}
use Rattle.std.proofs.lemmas.Int.{to_z-of_z}
use Rattle.std.specs.Prelude.{bytes_eq}
use Rattle.indexmap.proofs.CallerLemmas.{insert_entry-new}
use Rattle.brd_asm.proofs.NamesLemmas.{is_named, absent, with_new}
use Rattle.brd_asm.proofs.names.Names.put.Goals as goal

pub returns-clause-had : goal.returns-clause-had
returns-clause-had c =
    c.is_some.ensures ∙ is_named c.args.name.now c.args.self.now c.self.inside.values.entries c.in_ok-old.old c.self.view_is c.in_ok-old.ensures.old

pub returns-clause-put : goal.returns-clause-put
returns-clause-put c had =
    let free = sym (is_named c.args.name.now c.args.self.now c.self.inside.values.entries c.in_ok-old.old c.self.view_is c.in_ok-old.ensures.old) ∙ sym c.is_some.ensures ∙ had in
    let none = absent c.args.name.now c.args.self.now c.self.inside.values.entries c.self.view_is free in
    with_new c.args.value (record { name = c.args.name }) c.args.self.now c.self.inside.values.entries c.insert.new.self.entries c.self.view_is
    (to_z w64 (of_z w64 c.args.value)) (to_z-of_z w64 c.args.value c.ranges.value) (c.in_ok-old.ensures.entries ∙ insert_entry-new (λ x y. bytes_eq x.name.now y.name.now) c.self.inside.values (record { name = c.args.name }) (to_z w64 (of_z w64 c.args.value)) none)
