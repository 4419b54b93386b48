use Rattle.std.proofs.Common.{◌≡◌, ◌<◌, ◌+◌, suc, drop, length, None, Some, sym, ap, ◌∙◌, arith}
use Rattle.std.specs.Prelude.{slice_index_or}
use Rattle.brd_elf.specs.Symbols.{string_of}
use Rattle.brd_elf.specs.Trie.{path_of}
use Rattle.brd_elf.specs.Places.{Numbered}
use Rattle.brd_elf.proofs.PlaceLemmas.{letter_before, room_for_one, with_place}
use Rattle.brd_elf.proofs.places.Places.number_before.Goals as goal

pub with_byte-requires-clause-room : goal.with_byte-requires-clause-room
with_byte-requires-clause-room c =
    let strings : c.self.inside.strings.now ≡ c.args.self.now.strings = ap (λ (numbered : Numbered). numbered.strings) c.self.view_is in
    let numbers : c.self.inside.numbers.items ≡ c.args.self.now.numbers = ap (λ (numbered : Numbered). numbered.numbers) c.self.view_is in
    let before : Numbered = record { strings = c.self.inside.strings.now; numbers = c.self.inside.numbers.items; paths = c.self.inside.trie } in
    room_for_one before c.args.at c.self.invariant (rw strings c.requires.within) (rw numbers c.requires.new)

pub invariant_of-self : goal.invariant_of-self
invariant_of-self c = rw c.in_err-number.ensures.err c.self.invariant

pub invariant_of-self-2 : goal.invariant_of-self-2
invariant_of-self-2 c =
    let strings : c.self.inside.strings.now ≡ c.args.self.now.strings = ap (λ (numbered : Numbered). numbered.strings) c.self.view_is in
    let numbers : c.self.inside.numbers.items ≡ c.args.self.now.numbers = ap (λ (numbered : Numbered). numbered.numbers) c.self.view_is in
    let paths : c.self.inside.trie ≡ c.args.self.now.paths = ap (λ (numbered : Numbered). numbered.paths) c.self.view_is in
    let within : c.args.at < length c.self.inside.strings.now = rw strings c.requires.within in
    let new : slice_index_or c.self.inside.numbers.items c.args.at None ≡ None = rw numbers c.requires.new in
    let next : c.args.at + 1 ≡ suc c.args.at = omega arith in
    let rest : string_of (drop (suc c.args.at) c.self.inside.strings.now) ≡ Some (path_of c.self.inside.trie c.args.rest) = rw (strings, paths, ← next) c.requires.string in
    let string : string_of (drop c.args.at c.self.inside.strings.now) ≡ Some (path_of c.with_byte.new.self c.in_ok-number.number) =
    letter_before c.self.inside.strings.now c.args.at (path_of c.self.inside.trie c.args.rest) within (rw strings c.requires.letter) rest
    ∙ ap Some (sym c.in_ok-number.ensures.path) in
    with_place c.self.inside.numbers.items c.self.inside.strings.now c.self.inside.trie c.with_byte.new.self c.args.at c.in_ok-number.number c.self.invariant
    c.with_byte.ensures.kept c.with_byte.ensures.distinct c.with_byte.ensures.few within new c.in_ok-number.ensures.there string
