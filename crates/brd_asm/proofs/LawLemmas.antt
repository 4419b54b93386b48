-- The laws of images, from their definition.
use Rattle.std.proofs.Common.{◌≡◌, ℕ, ◌+◌, ◌-◌, ◌^◌, ◌<◌, ◌≤◌, true, false, ltb, leb, List, [], ◌∷◌, ◌++◌, length, Option, None, Some, Result, Ok, refl, sym, ap, ◌∙◌, subst, inl, inr, arith, append_assoc}
use Rattle.std.specs.Prelude.{ℤ, pos, map, slice_get, bytes_eq, option_map, option_and_then, IsSome, ◌&&◌}
use Rattle.std.specs.List.{AllByRecursion, list_all}
use Rattle.std.proofs.lemmas.Bool.{cases_Bool, leb-true, ltb-true, lt-ltb, le-leb, and_parts, and_from, true≢false}
use Rattle.std.proofs.Math.Nat.{mod-eq_of_lt}
use Rattle.brd_text.specs.Bytes.{is_name, is_run_byte, begins_name, is_letter, is_digit}
use Rattle.brd_text.specs.Faults.{◌>>=◌}
use Rattle.brd_text.proofs.FaultLemmas.{bind_ok}
use Rattle.brd_base.specs.Space.{base, top}
use Rattle.brd_mem.specs.Image.{AreNamed, IsPlain, byte_in, symbol_value}
use Rattle.brd_mem.specs.Image as images
use Rattle.brd_word.specs.declared.order.Order.{Order}
use Rattle.brd_mem.specs.declared.image.Image.{Image}
use Rattle.brd_mem.specs.declared.image.Segment.{Segment}
use Rattle.brd_mem.specs.declared.image.Symbol.{Symbol}
use Rattle.brd_isa.specs.declared.instruction.Insn.{Insn}
use Rattle.brd_source.specs.Statement.{Instruction, Line}
use Rattle.brd_source.specs.Statement.Statement.{Instruct}
use Rattle.brd_source.specs.Lines.{line_of}
use Rattle.brd_source.proofs.OptionLemmas.{some_is}
use Rattle.brd_asm.specs.declared.fault.AsmFault.{AsmFault}
use Rattle.brd_asm.specs.Values.{Name, named, modulo}
use Rattle.brd_text.specs.Lines.{lines_of}
use Rattle.brd_asm.specs.Layout.{Piece, Layout, size_of, effect_of, placed, all_placed, nothing, order_by}
use Rattle.brd_asm.specs.Layout.Content.{Code}
use Rattle.brd_asm.specs.Layout.Effect.{Fills}
use Rattle.brd_asm.specs.Meaning.{Meaning, Placed, instruction_of, content_meaning, meanings}
use Rattle.brd_asm.specs.Meaning.Meaning.{Means}
use Rattle.brd_asm.specs.Image.{Program, program_of, IsImage, HasBytes, AreSpelled, symbol_of}
use Rattle.brd_asm.specs.Output.{all_bytes}
use Rattle.brd_asm.specs.Index.{covers, offset_at}
use Rattle.brd_asm.specs.Laws.{HasLines, HasLabels, Lies, HasInstructions}
use Rattle.brd_asm.proofs.AscendingLemmas.{ascending}
use Rattle.brd_asm.proofs.AscendingLemmas as memory
use Rattle.brd_asm.proofs.LayoutLemmas.{Differ, Apart, InRam, GoesOn, OneLine, still, fills, one_line, statement_goes_on, lines_go_on, lines_behind, all_sound}
use Rattle.brd_asm.proofs.PairLemmas.{Pairwise}
use Rattle.brd_asm.proofs.SpelledLemmas.{inside, size_is, one_piece, agree_all}
use Rattle.brd_asm.proofs.StretchLemmas.{skipped}

-- ---- the layout of a source

pub record IsLaidOut (text : List ℕ) (program : Program) (s : Layout) : Type 0 where
  pub placed : all_placed 1 (lines_of text) nothing ≡ Ok s
  pub order : program.order ≡ order_by s.order
  pub names : program.names ≡ s.names
  pub means : meanings (order_by s.order) s.names s.pieces ≡ Ok program.contents

pub laid_out : (text : List ℕ) (program : Program) → program_of text ≡ Ok program → (s : Layout) × IsLaidOut text program s
unfolding program_of
laid_out text program e =
    let s = bind_ok (all_placed 1 (lines_of text) nothing) (λ s. meanings (order_by s.order) s.names s.pieces >>= λ contents. Ok (record { order = order_by s.order; names = s.names; contents = contents })) program e in
    let c = bind_ok (meanings (order_by s.0.order) s.0.names s.0.pieces) (λ contents. Ok (record { order = order_by s.0.order; names = s.0.names; contents = contents })) program s.2 in
    (s.0, subst (λ (p : Program). IsLaidOut text p s.0) (inside (record { order = order_by s.0.order; names = s.0.names; contents = c.0 }) program c.2) (record { placed = s.1; order = refl; names = refl; means = c.1 }))

-- ---- plain images

-- no byte of a run is 0
some_bytes : (name : List ℕ) → list_all is_run_byte name ≡ true → AllByRecursion (λ b. b ≡ 0 → ⊥) name
unfolding is_run_byte is_letter is_digit
some_bytes [] e = tt
some_bytes (b ∷ name) e =
    let parts = and_parts (is_run_byte b) (list_all is_run_byte name) e in
    (λ zero. true≢false (sym parts.0 ∙ ap is_run_byte zero), some_bytes name parts.1)

-- nor of a name
name_bytes : (name : List ℕ) → is_name name ≡ true → AllByRecursion (λ b. b ≡ 0 → ⊥) name
unfolding begins_name is_letter
name_bytes [] e = tt
name_bytes (b ∷ name) e =
    let parts = and_parts (begins_name b) (list_all is_run_byte name) e in
    (λ zero. true≢false (sym parts.0 ∙ ap begins_name zero), some_bytes name parts.1)

is_some_name : (name : List ℕ) → is_name name ≡ true → images.IsName name
is_some_name name is = (λ none. true≢false (sym is ∙ ap (λ (n : List ℕ). is_name n) none), name_bytes name is)

differ_from : (n : Name) (ns : List Name) → AllByRecursion (λ m. Differ n m) ns → AllByRecursion (λ other. other.name ≡ n.name → ⊥) (map symbol_of ns)
differ_from n [] differ = tt
differ_from n (m ∷ ns) differ = (differ.0, differ_from n ns differ.1)

are_named : (ns : List Name) → AllByRecursion (λ n. is_name n.name ≡ true) ns → Pairwise Differ ns → AreNamed (map symbol_of ns)
are_named [] are differ = tt
are_named (n ∷ ns) are differ = (is_some_name n.name are.0, differ_from n ns differ.0, are_named ns are.1 differ.1)

none_there : (size : ℕ) (o : Option ℕ) → IsSome (option_map (λ k. size + k) o) → IsSome o
none_there size (Some k) there = refl
none_there size None there = absurd (cc)

filled_in_ram : (pieces : List Piece) (a : ℕ) → AllByRecursion InRam pieces → IsSome (offset_at pieces a) → (base ≤ a) × (a < top)
filled_in_ram [] a ram there = absurd (cc)
filled_in_ram (p ∷ pieces) a ram there =
    elim (cases_Bool (covers p a)) [
      | inl here ↦
          let at = and_parts (leb p.place a) (ltb a (p.place + size_of p.content)) here in
          let limits = and_parts (leb base p.place) (leb (p.place + size_of p.content) top) ram.0 in
          (omega (arith, leb-true base p.place limits.0, leb-true p.place a at.0), omega (arith, ltb-true a (p.place + size_of p.content) at.1, leb-true (p.place + size_of p.content) top limits.1))
      | inr not_here ↦ filled_in_ram pieces a ram.1 (none_there (size_of p.content) (offset_at pieces a) (rw not_here at there))
    ]

has_offset : (output : List ℕ) (o : Option ℕ) → IsSome (option_and_then (slice_get output) o) → IsSome o
has_offset output (Some k) there = refl
has_offset output None there = absurd (cc)

spelled_in_ram : (order : Order) (names : List Name) (pieces : List Piece) (contents : List Placed) (spelled : List Segment) → meanings order names pieces ≡ Ok contents → AreSpelled order contents spelled → AllByRecursion InRam pieces → memory.InRam (byte_in spelled)
spelled_in_ram order names pieces contents spelled means are ram = λ a there.
    let agree = agree_all order names pieces contents spelled means are in
    filled_in_ram pieces a ram (has_offset (all_bytes spelled) (offset_at pieces a) (subst IsSome (agree.bytes a) there))

pub plain : (text : List ℕ) (program : Program) (image : Image) → program_of text ≡ Ok program → IsImage program image → IsPlain image
plain text program image e is =
    let s = laid_out text program e in
    let sound = all_sound (lines_of text) s.0 s.1.placed in
    record {
      segments = ascending (byte_in is.spelled) image.segments is.segments (spelled_in_ram (order_by s.0.order) s.0.names s.0.pieces program.contents is.spelled s.1.means (rw s.1.order at is.are_spelled) sound.in_ram);
      symbols = subst AreNamed (sym (is.symbols ∙ ap (λ (ns : List Name). map symbol_of ns) s.1.names)) (are_named s.0.names sound.names.are sound.names.differ);
    }

-- ---- lines

-- what a line of a text says, and what the lines before it place
front : (line : ℕ) (before : List (List ℕ)) (bytes : List ℕ) (behind : List (List ℕ)) (s u : Layout) → all_placed line (before ++ bytes ∷ behind) s ≡ Ok u → (t : Layout) × (said : Line) × (all_placed line before s ≡ Ok t) × (line_of bytes ≡ Some said)
front line [] bytes behind s u e =
    let b = bind_ok (placed line bytes s) (all_placed (line + 1) behind) u e in
    let one = one_line line bytes s b.0 b.1 in
    (s, one.said, refl, one.says)
front line (first ∷ before) bytes behind s u e =
    let b = bind_ok (placed line first s) (all_placed (line + 1) (before ++ bytes ∷ behind)) u e in
    let f = front (line + 1) before bytes behind b.0 u b.2 in
    let more : all_placed line (first ∷ before) s ≡ Ok f.0 = ap (λ (r : Result Layout AsmFault). r >>= all_placed (line + 1) before) b.1 ∙ f.2 in
    (f.0, f.1, more, f.3)

pub lines : (text : List ℕ) (program : Program) → program_of text ≡ Ok program → HasLines text
lines text program e = λ before bytes behind split.
    let s = laid_out text program e in
    let f = front 1 before bytes behind nothing s.0 (rw split at s.1.placed) in
    (f.0.place, f.1, record { before = before; bytes = bytes; behind = behind; lines = split; number_is = refl; so_far = f.0; placed = f.2; address_is = refl; says = f.3 }, f.3)

-- ---- labels

symbols_have : (ns : List Name) (name : List ℕ) (value : ℤ) → named ns name ≡ Some value → symbol_value (map symbol_of ns) name ≡ Some (modulo value (2 ^ 32))
symbols_have [] name value e = absurd (cc)
symbols_have (n ∷ ns) name value e =
    elim (cases_Bool (bytes_eq name n.name)) [
      | inl same ↦ rw same (ap (λ (o : Option ℤ). option_map (λ v. modulo v (2 ^ 32)) o) (rw same at e))
      | inr other ↦ rw other (symbols_have ns name value (rw other at e))
    ]

labels_have : (place : ℕ) (names after : List Name) (symbols : List Symbol) (labels : List (List ℕ)) → place < 2 ^ 32 → symbols ≡ map symbol_of after → ((name : List ℕ) (value : ℤ) → named names name ≡ Some value → named after name ≡ Some value)
    → AllByRecursion (λ label. named names label ≡ Some (pos place)) labels → AllByRecursion (λ label. symbol_value symbols label ≡ Some place) labels
labels_have place names after symbols [] small are stay have = tt
labels_have place names after symbols (label ∷ labels) small are stay have =
    (ap (λ (ss : List Symbol). symbol_value ss label) are ∙ symbols_have after label (pos place) (stay label (pos place) have.0) ∙ ap (λ (n : ℕ). Some n) (mod-eq_of_lt small), labels_have place names after symbols labels small are stay have.1)

-- the layout after a line, and how it goes on to the end
pub record Goes (text : List ℕ) (number : ℕ) (bytes : List ℕ) (so_far s : Layout) : Type 0 where
  pub next : Layout
  pub one : OneLine number bytes so_far next
  pub on : GoesOn next s

goes : (text : List ℕ) (number : ℕ) (before behind : List (List ℕ)) (bytes : List ℕ) (so_far s : Layout) → lines_of text ≡ before ++ bytes ∷ behind → number ≡ 1 + length before → all_placed 1 before nothing ≡ Ok so_far → all_placed 1 (lines_of text) nothing ≡ Ok s → Goes text number bytes so_far s
goes text number before behind bytes so_far s lines number_is front whole =
    let rest : all_placed number (bytes ∷ behind) so_far ≡ Ok s = rw number_is (lines_behind 1 before (bytes ∷ behind) nothing so_far s (rw lines at whole) front) in
    let b = bind_ok (placed number bytes so_far) (all_placed (number + 1) behind) s rest in
    record { next = b.0; one = one_line number bytes so_far b.0 b.1; on = lines_go_on (number + 1) behind b.0 s b.2 }

pub said_is : (bytes : List ℕ) (said other : Line) → line_of bytes ≡ Some said → line_of bytes ≡ Some other → other ≡ said
said_is bytes said other e f = some_is other said (sym f ∙ e)

pub labels : (text : List ℕ) (program : Program) (image : Image) → program_of text ≡ Ok program → IsImage program image → HasLabels text image
labels text program image e is = λ number place said line.
    let s = laid_out text program e in
    let g = goes text number line.before line.behind line.bytes line.so_far s.0 line.lines line.number_is line.placed s.1.placed in
    let small = (all_sound line.before line.so_far line.placed).place in
    let same = said_is line.bytes said g.one.said line.says g.one.says in
    let have = labels_have line.so_far.place g.one.names s.0.names image.symbols g.one.said.labels small (is.symbols ∙ ap (λ (ns : List Name). map symbol_of ns) s.1.names)
    (λ name value h. still g.next.names s.0.names name value g.on.names (still g.one.names g.next.names name value (statement_goes_on number line.bytes line.so_far g.next g.one).names h)) g.one.labels.have in
    rw line.address_is (subst (λ (l : Line). AllByRecursion (λ label. symbol_value image.symbols label ≡ Some line.so_far.place) l.labels) same have)

-- ---- instructions

-- what lies in one stretch lies in it and others
in_first : (s : Segment) (ss : List Segment) (address : ℕ) → s.address ≡ address → Lies (s ∷ ss) address s.bytes
in_first s ss address at = λ i lt.
    let from : s.address ≤ address + i = omega (arith, at) in
    let to : address + i < s.address + length s.bytes = omega (arith, at, lt) in
    let here = and_from (leb s.address (address + i)) (ltb (address + i) (s.address + length s.bytes)) (le-leb s.address (address + i) from) (lt-ltb (address + i) (s.address + length s.bytes) to) in
    let index : address + i - s.address ≡ i = omega (arith, at) in
    rw (here, index) refl

-- a stretch that is apart from bytes is passed over
in_others : (s : Segment) (ss : List Segment) (address : ℕ) (bytes : List ℕ) → (ltb s.address (address + length bytes) && ltb address (s.address + length s.bytes)) ≡ false → Lies ss address bytes → Lies (s ∷ ss) address bytes
in_others s ss address bytes apart lies = λ i lt.
    skipped (leb s.address (address + i) && ltb (address + i) (s.address + length s.bytes)) (slice_get s.bytes (address + i - s.address)) (byte_in ss (address + i)) (out i lt) ∙ lies i lt
  where
    out : (i : ℕ) → i < length bytes → (leb s.address (address + i) && ltb (address + i) (s.address + length s.bytes)) ≡ false
    out i lt =
        elim (cases_Bool (leb s.address (address + i) && ltb (address + i) (s.address + length s.bytes))) [
          | inl there ↦
              let parts = and_parts (leb s.address (address + i)) (ltb (address + i) (s.address + length s.bytes)) there in
              let low : s.address < address + length bytes = omega (arith, lt, leb-true s.address (address + i) parts.0) in
              let high : address < s.address + length s.bytes = omega (arith, ltb-true (address + i) (s.address + length s.bytes) parts.1) in
              absurd (true≢false (sym (and_from (ltb s.address (address + length bytes)) (ltb address (s.address + length s.bytes)) (lt-ltb s.address (address + length bytes) low) (lt-ltb address (s.address + length s.bytes) high)) ∙ apart))
          | inr away ↦ away
        ]

-- what a piece means lies at its place
record LiesAt (order : Order) (names : List Name) (p : Piece) (spelled : List Segment) : Type 0 where
  meaning : Meaning
  means : content_meaning order p.line p.place names p.content ≡ Ok meaning
  bytes : List ℕ
  spells : HasBytes order meaning bytes
  lies : Lies spelled p.place bytes

first_lies : (order : Order) (names : List Name) (p : Piece) (one : Meaning) (others : List Placed) (spelled : List Segment) → content_meaning order p.line p.place names p.content ≡ Ok one → AreSpelled order (record { place = p.place; meaning = one } ∷ others) spelled → LiesAt order names p spelled
first_lies order names p one others [] means are = absurd are
first_lies order names p one others (s ∷ ss) means are = record { meaning = one; means = means; bytes = s.bytes; spells = are.1; lies = in_first s ss p.place are.0 }

other_lies : (order : Order) (names : List Name) (p q : Piece) (one : Meaning) (others : List Placed) (spelled : List Segment) → content_meaning order q.line q.place names q.content ≡ Ok one → Apart q p → ((ss : List Segment) → AreSpelled order others ss → LiesAt order names p ss)
    → AreSpelled order (record { place = q.place; meaning = one } ∷ others) spelled → LiesAt order names p spelled
other_lies order names p q one others [] means apart lie are = absurd are
other_lies order names p q one others (s ∷ ss) means apart lie are =
    let l = lie ss are.2 in
    let size = size_is order q.line q.place names q.content one s.bytes means are.1 in
    let long = size_is order p.line p.place names p.content l.meaning l.bytes l.means l.spells in
    let away : (ltb s.address (p.place + length l.bytes) && ltb p.place (s.address + length s.bytes)) ≡ false = rw (are.0, size, long) apart in
    record { meaning = l.meaning; means = l.means; bytes = l.bytes; spells = l.spells; lies = in_others s ss p.place l.bytes away l.lies }

piece_lies : (order : Order) (names : List Name) (before : List Piece) (p : Piece) (behind : List Piece) (contents : List Placed) (spelled : List Segment) → meanings order names (before ++ p ∷ behind) ≡ Ok contents → AreSpelled order contents spelled → Pairwise Apart (before ++ p ∷ behind) → LiesAt order names p spelled
piece_lies order names [] p behind contents spelled means are apart =
    let one = one_piece order names p behind contents means in
    first_lies order names p one.meaning one.others spelled one.means (subst (λ (cs : List Placed). AreSpelled order cs spelled) one.contents_are are)
piece_lies order names (q ∷ before) p behind contents spelled means are apart =
    let one = one_piece order names q (before ++ p ∷ behind) contents means in
    other_lies order names p q one.meaning one.others spelled one.means (from_all before p behind apart.0) (λ ss h. piece_lies order names before p behind one.others ss one.mean h apart.1) (subst (λ (cs : List Placed). AreSpelled order cs spelled) one.contents_are are)
  where
    from_all : (before : List Piece) (p : Piece) (behind : List Piece) → AllByRecursion (λ p. Apart q p) (before ++ p ∷ behind) → Apart q p
    from_all [] p behind all = all.0
    from_all (r ∷ before) p behind all = from_all before p behind all.1

-- the piece of a line that says an instruction
code_filled : (line : ℕ) (instruction : Instruction) (bytes : List ℕ) (s t : Layout) (one : OneLine line bytes s t) → one.said.statement ≡ Instruct instruction → t.pieces ≡ s.pieces ++ record { place = s.place; line = line; content = Code instruction } ∷ []
unfolding effect_of
code_filled line instruction bytes s t one says =
    let effect : Fills (Code instruction) ≡ one.effect = inside (Fills (Code instruction)) one.effect (rw says at one.effect_is) in
    elim (fills line (Code instruction) (record { order = one.order; place = s.place; names = one.names; pieces = s.pieces }) t (rw (← effect) at one.happens)) [
      | inl none ↦ absurd (true≢false (sym none.0))
      | inr fill ↦ fill.pieces_are
    ]

word_lies : (order : Order) (line place : ℕ) (names : List Name) (instruction : Instruction) (spelled segments : List Segment) → LiesAt order names (record { place = place; line = line; content = Code instruction }) spelled → ((a : ℕ) → byte_in segments a ≡ byte_in spelled a)
    → (insn : Insn) × (instruction_of line place names instruction ≡ Ok insn) × (bytes : List ℕ) × HasBytes order (Means insn) bytes × Lies segments place bytes
unfolding content_meaning
word_lies order line place names instruction spelled segments l same =
    let i = bind_ok (instruction_of line place names instruction) (λ i. Ok (Means i)) l.meaning l.means in
    (i.0, i.1, l.bytes, subst (λ (m : Meaning). HasBytes order m l.bytes) (sym (inside (Means i.0) l.meaning i.2)) l.spells, λ n lt. same (place + n) ∙ l.lies n lt)

pub instructions : (text : List ℕ) (program : Program) (image : Image) → program_of text ≡ Ok program → IsImage program image → HasInstructions text image
instructions text program image e is = λ other number place said instruction other_is line says.
    let s = laid_out text program e in
    let g = goes text number line.before line.behind line.bytes line.so_far s.0 line.lines line.number_is line.placed s.1.placed in
    let same = said_is line.bytes said g.one.said line.says g.one.says in
    let filled = code_filled number instruction line.bytes line.so_far g.next g.one (ap (λ (l : Line). l.statement) same ∙ says) in
    let piece : Piece = record { place = line.so_far.place; line = number; content = Code instruction } in
    let pieces : s.0.pieces ≡ line.so_far.pieces ++ piece ∷ g.on.more =
    g.on.pieces ∙ ap (λ (ps : List Piece). ps ++ g.on.more) filled ∙ append_assoc line.so_far.pieces (piece ∷ []) g.on.more in
    let sound = all_sound (lines_of text) s.0 s.1.placed in
    let lies = piece_lies (order_by s.0.order) s.0.names line.so_far.pieces piece g.on.more program.contents is.spelled (rw pieces at s.1.means) (rw s.1.order at is.are_spelled) (rw pieces at sound.apart) in
    let order : image.order ≡ order_by s.0.order = is.order ∙ s.1.order in
    let found = word_lies image.order number line.so_far.place s.0.names instruction is.spelled image.segments (rw order lies) is.segments.same in
    let names : s.0.names ≡ other.names = sym s.1.names ∙ ap (λ (p : Program). p.names) (inside program other (sym e ∙ other_is)) in
    (found.0, rw (line.address_is, ← names) found.1, found.2, found.3, rw line.address_is found.4)
