use Rattle.std.proofs.Common.{◌≡◌, List, ℕ, ◌<◌, ◌++◌, length, ap, ◌∙◌}
use Rattle.brd_elf.specs.Trie.{path_of}
use Rattle.brd_elf.specs.Named.{Known}
use Rattle.brd_elf.proofs.NamedLemmas.{with_symbol_more}
use Rattle.brd_elf.proofs.named.Named.add.Goals as goal

pub invariant_of-self-in_default : goal.invariant_of-self-in_default
invariant_of-self-in_default c =
    let copied : c.append.new.self ≡ c.args.name.now = c.in_ok-append.ensures.ok ∙ ap (λ (bytes : List ℕ). bytes ++ c.args.name.now) c.new-copy.ensures in
    let paths : c.self.inside.places.paths ≡ c.args.self.now.paths = ap (λ (known : Known). known.paths) c.self.view_is in
    let there : c.args.number < length c.self.inside.places.paths = rw paths c.requires.there in
    let path : path_of c.self.inside.places.paths c.args.number ≡ c.args.name.now = rw paths c.requires.path in
    rw (c.in_ok-push.ensures.items, copied) (with_symbol_more c.self.inside.marks.items c.mark.new.marks.items c.self.inside.places.strings c.self.inside.symbols.items c.self.inside.places.paths (record { name = c.args.name.now; value = c.args.value }) c.args.number
    c.self.invariant there path c.in_default.ensures.here c.in_default.ensures.others c.in_default.ensures.size)
