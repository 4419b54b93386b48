-- What an instruction does, told without the memory that it leaves: which bytes it puts where. It depends on the bytes
-- alone that the instruction touches.
use Rattle.std.proofs.Common.{◌≡◌, ℕ, ◌+◌, ◌-◌, ◌%◌, ◌^◌, ◌<◌, ◌≤◌, Bool, true, false, List, [], ◌∷◌, length, drop, get_or, refl, sym, ap, subst, ◌∙◌, arith, length-drop}
use Rattle.std.specs.Prelude.{◌==◌, nat_le, nat_lt, ◌||◌, if◌then◌else◌, slice_index, Result, Ok, Err}
use Rattle.std.proofs.lemmas.Bool.{false≢true, and_from, le-leb, lt-ltb}
use Rattle.std.proofs.lemmas.Bool.Decides.{nat_tests}
use Rattle.std.proofs.lemmas.List.{get_or-take, get_or-drop, ext_get_or, length-take-le}
use Rattle.brd_base.specs.Space.{base}
use Rattle.brd_word.specs.declared.order.Order.{Order}
use Rattle.brd_word.specs.Words.{bytes_of_half, half_of_bytes, bytes_of_word, word_of_bytes, sign_extended8, sign_extended16}
use Rattle.brd_word.proofs.BytesLemmas.{four_of-word, two_of-half}
use Rattle.brd_isa.specs.declared.instruction.{Insn.Insn, LoadOp.LoadOp, StoreOp.StoreOp}
use Rattle.brd_mem.specs.declared.fault.Exc.{Exc}
use Rattle.brd_mem.specs.Memory.{Memory, size_of, contains, bytes_at, with_bytes, word_at}
use Rattle.brd_mem.specs.Access.{place_of, at_place, fetched, loaded8, loaded16, loaded32}
use Rattle.brd_link.specs.LinkSet.{LinkSet, is_linked, without, with_link, after_store}
use Rattle.brd_exec.specs.declared.outcome.{ExceptionCode.ExceptionCode, Stop.Stop}
use Rattle.brd_exec.specs.State.{State, read, advanced, with_register}
use Rattle.brd_exec.specs.Exception.{code_of}
use Rattle.brd_exec.specs.Unaligned.{aligned, aligned_place, bytes_above, left_loaded, right_loaded, left_stored, right_stored, if_inside}
use Rattle.brd_exec.specs.Action.{Action, with_word, action}
use Rattle.brd_exec.specs.Step.{Effect, unless_stopped, with_code, extended, load_gives, store_gives, stores, loads_linked, stores_if_linked, done, of_fetch, next_instruction, of_next}
use Rattle.brd_frames.specs.Touching.{is_among, loads_at, stores_at, accesses, accesses_next, touches, Agree}

pub agree-less : (more less : ℕ → Bool) (one two : Memory) → ((address : ℕ) → less address ≡ true → more address ≡ true) →
    Agree more one two → Agree less one two
agree-less more less one two within agree = record {
  order = agree.order;
  size = agree.size;
  bytes = λ address from is. agree.bytes address from (within address is);
}

pub among : (first count address : ℕ) → first ≤ address → address < first + count → is_among first count address ≡ true
among first count address from below =
    and_from (nat_le first address) (nat_lt address (first + count)) (le-leb first address from) (lt-ltb address (first + count) below)

-- Bytes that lie one after the other.

pub get-bytes : (memory : Memory) (at count i : ℕ) → i < count → get_or (bytes_at memory at count) i 0 ≡ slice_index memory.bytes (at + i)
get-bytes memory at count i below = get_or-take count (drop at memory.bytes) i 0 below ∙ get_or-drop at memory.bytes i 0

length-bytes : (memory : Memory) (at count : ℕ) → at + count ≤ size_of memory → length (bytes_at memory at count) ≡ count
length-bytes memory at count fits =
    let rest : length (drop at memory.bytes) ≡ size_of memory - at = length-drop at memory.bytes in
    length-take-le count (drop at memory.bytes) (omega (arith, rest, fits))

pub same-bytes : (one two : Memory) (first count : ℕ) → Agree (is_among first count) one two → base ≤ first →
    first + count ≤ base + size_of one → bytes_at two (first - base) count ≡ bytes_at one (first - base) count
same-bytes one two first count agree from to =
    let fits : first - base + count ≤ size_of one = omega (arith, from, to) in
    let other : first - base + count ≤ size_of two = omega (arith, fits, agree.size) in
    let long : length (bytes_at two (first - base) count) ≡ count = length-bytes two (first - base) count other in
    ext_get_or 0 (bytes_at two (first - base) count) (bytes_at one (first - base) count)
    (long ∙ sym (length-bytes one (first - base) count fits))
    (λ i below.
    let less : i < count = omega (arith, below, long) in
    let place : first + i - base ≡ first - base + i = omega (arith, from) in
    get-bytes two (first - base) count i less
    ∙ ap (slice_index two.bytes) (sym place)
    ∙ agree.bytes (first + i) (omega (arith, from)) (among first count (first + i) (omega arith) (omega (arith, less)))
    ∙ ap (slice_index one.bytes) place
    ∙ sym (get-bytes one (first - base) count i less))

-- What is found at a place.

at-same : {A : Type 0} (whole inside : Bool) (one two : ℕ → A) (at : ℕ) (outside unaligned : Exc) →
    (inside ≡ true → two at ≡ one at) →
    at_place two (if whole then (if inside then Ok at else Err outside) else Err unaligned)
    ≡ at_place one (if whole then (if inside then Ok at else Err outside) else Err unaligned)
at-same true true one two at outside unaligned same = ap Ok (same refl)
at-same true false one two at outside unaligned same = refl
at-same false inside one two at outside unaligned same = refl

record LiesIn (size first count : ℕ) : Type 0 where
  from : base ≤ first
  to : first + count ≤ base + size

lies-in : (size first count : ℕ) → contains size first count ≡ true → LiesIn size first count
lies-in size first count is = record { from = grind (arith, nat_tests, is); to = grind (arith, nat_tests, is) }

found-same : {A : Type 0} (one two : Memory) (address count : ℕ) (unaligned outside : Exc) (read : Order → List ℕ → A) →
    Agree (is_among address count) one two →
    at_place (λ at. read two.order (bytes_at two at count)) (place_of two address count unaligned outside)
    ≡ at_place (λ at. read one.order (bytes_at one at count)) (place_of one address count unaligned outside)
found-same one two address count unaligned outside read agree =
    ap (λ size. at_place (λ at. read two.order (bytes_at two at count))
    (if address % count == 0 then (if contains size address count then Ok (address - base) else Err outside) else Err unaligned)) agree.size
    ∙ at-same (address % count == 0) (contains (size_of one) address count) _ _ (address - base) outside unaligned
    (λ is.
    let lies = lies-in (size_of one) address count is in
    ap (λ order. read order (bytes_at two (address - base) count)) agree.order
    ∙ ap (read one.order) (same-bytes one two address count agree lies.from lies.to))

pub fetched-same : (one two : Memory) (address : ℕ) → Agree (is_among address 4) one two → fetched two address ≡ fetched one address
fetched-same one two address agree = found-same one two address 4 Exc.AdEL Exc.IBE word_of_bytes agree

loaded8-same : (one two : Memory) (address : ℕ) → Agree (is_among address 1) one two → loaded8 two address ≡ loaded8 one address
loaded8-same one two address agree = found-same one two address 1 Exc.AdEL Exc.DBE (λ order bytes. slice_index bytes 0) agree

loaded16-same : (one two : Memory) (address : ℕ) → Agree (is_among address 2) one two → loaded16 two address ≡ loaded16 one address
loaded16-same one two address agree = found-same one two address 2 Exc.AdEL Exc.DBE half_of_bytes agree

loaded32-same : (one two : Memory) (address : ℕ) → Agree (is_among address 4) one two → loaded32 two address ≡ loaded32 one address
loaded32-same one two address agree = found-same one two address 4 Exc.AdEL Exc.DBE word_of_bytes agree

-- of the aligned word that holds an address
inside-same : {A : Type 0} (inside : Bool) (one two : A) → (inside ≡ true → two ≡ one) →
    (if inside then Ok two else Err Exc.DBE) ≡ (if inside then Ok one else Err Exc.DBE)
inside-same true one two same = ap Ok (same refl)
inside-same false one two same = refl

part-same : {A : Type 0} (one two : Memory) (address : ℕ) (of_word : Order → ℕ → A) → Agree (is_among (aligned address) 4) one two →
    if_inside two address (of_word two.order (word_at two (aligned_place address)))
    ≡ if_inside one address (of_word one.order (word_at one (aligned_place address)))
part-same one two address of_word agree =
    ap (λ size. if contains size (aligned address) 4 then Ok (of_word two.order (word_at two (aligned_place address))) else Err Exc.DBE) agree.size
    ∙ inside-same (contains (size_of one) (aligned address) 4) _ _
    (λ is.
    let lies = lies-in (size_of one) (aligned address) 4 is in
    ap (λ order. of_word order (word_of_bytes order (bytes_at two (aligned_place address) 4))) agree.order
    ∙ ap (λ bytes. of_word one.order (word_of_bytes one.order bytes)) (same-bytes one two (aligned address) 4 agree lies.from lies.to))

pub load-same : (op : LoadOp) (one two : Memory) (address old : ℕ) → Agree (loads_at op address) one two →
    load_gives op two address old ≡ load_gives op one address old
load-same LoadOp.Lb one two address old agree = ap (extended sign_extended8) (loaded8-same one two address agree)
load-same LoadOp.Lh one two address old agree = ap (extended sign_extended16) (loaded16-same one two address agree)
load-same LoadOp.Lwl one two address old agree =
    part-same one two address (λ order word. left_loaded (bytes_above order address) word old) agree
load-same LoadOp.Lw one two address old agree = loaded32-same one two address agree
load-same LoadOp.Lbu one two address old agree = loaded8-same one two address agree
load-same LoadOp.Lhu one two address old agree = loaded16-same one two address agree
load-same LoadOp.Lwr one two address old agree =
    part-same one two address (λ order word. right_loaded (bytes_above order address) word old) agree

-- The bytes that a store puts, and where.

abbrev puts_part : (ℕ → ℕ → ℕ → ℕ) → Memory → ℕ → ℕ → Result (List ℕ) Exc
puts_part of_words memory address word =
    if_inside memory address
    (bytes_of_word memory.order (of_words (bytes_above memory.order address) (word_at memory (aligned_place address)) word))

abbrev pub puts : StoreOp → Memory → ℕ → ℕ → Result (List ℕ) Exc
puts StoreOp.Sb memory address word = at_place (λ at. (word % 2 ^ 8) ∷ []) (place_of memory address 1 Exc.AdES Exc.DBE)
puts StoreOp.Sh memory address word =
    at_place (λ at. bytes_of_half memory.order (word % 2 ^ 16)) (place_of memory address 2 Exc.AdES Exc.DBE)
puts StoreOp.Swl memory address word = puts_part left_stored memory address word
puts StoreOp.Sw memory address word = at_place (λ at. bytes_of_word memory.order word) (place_of memory address 4 Exc.AdES Exc.DBE)
puts StoreOp.Swr memory address word = puts_part right_stored memory address word

-- the first address to which a store stores
abbrev pub first_stored : StoreOp → ℕ → ℕ
first_stored StoreOp.Sb address = address
first_stored StoreOp.Sh address = address
first_stored StoreOp.Swl address = aligned address
first_stored StoreOp.Sw address = address
first_stored StoreOp.Swr address = aligned address

abbrev pub put_in : Memory → ℕ → Result (List ℕ) Exc → Result Memory Exc
put_in memory at (Ok bytes) = Ok (with_bytes memory at bytes)
put_in memory at (Err exc) = Err exc

put-place : (memory : Memory) (bytes : List ℕ) (whole inside : Bool) (at : ℕ) (outside unaligned : Exc) →
    at_place (λ place. with_bytes memory place bytes) (if whole then (if inside then Ok at else Err outside) else Err unaligned)
    ≡ put_in memory at (at_place (λ place. bytes) (if whole then (if inside then Ok at else Err outside) else Err unaligned))
put-place memory bytes true true at outside unaligned = refl
put-place memory bytes true false at outside unaligned = refl
put-place memory bytes false inside at outside unaligned = refl

put-inside : (memory : Memory) (bytes : List ℕ) (at : ℕ) (inside : Bool) →
    (if inside then Ok (with_bytes memory at bytes) else Err Exc.DBE) ≡ put_in memory at (if inside then Ok bytes else Err Exc.DBE)
put-inside memory bytes at true = refl
put-inside memory bytes at false = refl

pub store-puts : (op : StoreOp) (memory : Memory) (address word : ℕ) →
    store_gives op memory address word ≡ put_in memory (first_stored op address - base) (puts op memory address word)
store-puts StoreOp.Sb memory address word =
    put-place memory ((word % 2 ^ 8) ∷ []) (address % 1 == 0) (contains (size_of memory) address 1) (address - base) Exc.DBE Exc.AdES
store-puts StoreOp.Sh memory address word =
    put-place memory (bytes_of_half memory.order (word % 2 ^ 16)) (address % 2 == 0) (contains (size_of memory) address 2) (address - base) Exc.DBE Exc.AdES
store-puts StoreOp.Swl memory address word =
    put-inside memory _ (aligned_place address) (contains (size_of memory) (aligned address) 4)
store-puts StoreOp.Sw memory address word =
    put-place memory (bytes_of_word memory.order word) (address % 4 == 0) (contains (size_of memory) address 4) (address - base) Exc.DBE Exc.AdES
store-puts StoreOp.Swr memory address word =
    put-inside memory _ (aligned_place address) (contains (size_of memory) (aligned address) 4)

pub puts-same : (op : StoreOp) (one two : Memory) (address word : ℕ) → Agree (stores_at op address) one two →
    puts op two address word ≡ puts op one address word
puts-same StoreOp.Sb one two address word agree =
    found-same one two address 1 Exc.AdES Exc.DBE (λ order bytes. (word % 2 ^ 8) ∷ []) agree
puts-same StoreOp.Sh one two address word agree =
    found-same one two address 2 Exc.AdES Exc.DBE (λ order bytes. bytes_of_half order (word % 2 ^ 16)) agree
puts-same StoreOp.Swl one two address word agree =
    part-same one two address (λ order old. bytes_of_word order (left_stored (bytes_above order address) old word)) agree
puts-same StoreOp.Sw one two address word agree =
    found-same one two address 4 Exc.AdES Exc.DBE (λ order bytes. bytes_of_word order word) agree
puts-same StoreOp.Swr one two address word agree =
    part-same one two address (λ order old. bytes_of_word order (right_stored (bytes_above order address) old word)) agree

-- Where the bytes lie that a store puts: in RAM, at addresses to which it stores.
pub record Lies (memory : Memory) (first : ℕ) (bytes : List ℕ) (stored : ℕ → Bool) : Type 0 where
  pub from : base ≤ first
  pub to : first + length bytes ≤ base + size_of memory
  pub at : (address : ℕ) → first ≤ address → address < first + length bytes → stored address ≡ true
  pub only : (address : ℕ) → stored address ≡ true → (first ≤ address) × (address < first + length bytes)

put-lies : (memory : Memory) (first count : ℕ) (bytes : List ℕ) → length bytes ≡ count → contains (size_of memory) first count ≡ true →
    Lies memory first bytes (is_among first count)
put-lies memory first count bytes long is =
    let lies = lies-in (size_of memory) first count is in
    record {
      from = lies.from;
      to = omega (arith, long, lies.to);
      at = λ address from below. among first count address from (omega (arith, long, below));
      only = λ address is. (grind (arith, nat_tests, is), grind (arith, nat_tests, is, long));
    }

placed-lies : (memory : Memory) (first count : ℕ) (bytes new : List ℕ) (whole inside : Bool) (outside unaligned : Exc) → length bytes ≡ count →
    contains (size_of memory) first count ≡ inside →
    at_place (λ place. bytes) (if whole then (if inside then Ok (first - base) else Err outside) else Err unaligned) ≡ Ok new →
    Lies memory first new (is_among first count)
placed-lies memory first count bytes new true true outside unaligned long is gives =
    let same : bytes ≡ new = cc in
    subst (λ it. Lies memory first it (is_among first count)) same (put-lies memory first count bytes long is)
placed-lies memory first count bytes new true false outside unaligned long is gives = let wrong : ⊥ = cc in absurd wrong
placed-lies memory first count bytes new false inside outside unaligned long is gives = let wrong : ⊥ = cc in absurd wrong

inside-lies : (memory : Memory) (first : ℕ) (bytes new : List ℕ) (inside : Bool) → length bytes ≡ 4 →
    contains (size_of memory) first 4 ≡ inside → (if inside then Ok bytes else Err Exc.DBE) ≡ Ok new →
    Lies memory first new (is_among first 4)
inside-lies memory first bytes new true long is gives =
    let same : bytes ≡ new = cc in
    subst (λ it. Lies memory first it (is_among first 4)) same (put-lies memory first 4 bytes long is)
inside-lies memory first bytes new false long is gives = let wrong : ⊥ = cc in absurd wrong

pub puts-lie : (op : StoreOp) (memory : Memory) (address word : ℕ) (bytes : List ℕ) → puts op memory address word ≡ Ok bytes →
    Lies memory (first_stored op address) bytes (stores_at op address)
puts-lie StoreOp.Sb memory address word bytes gives =
    placed-lies memory address 1 ((word % 2 ^ 8) ∷ []) bytes (address % 1 == 0) (contains (size_of memory) address 1) Exc.DBE Exc.AdES refl refl gives
puts-lie StoreOp.Sh memory address word bytes gives =
    placed-lies memory address 2 (bytes_of_half memory.order (word % 2 ^ 16)) bytes (address % 2 == 0) (contains (size_of memory) address 2)
    Exc.DBE Exc.AdES (two_of-half memory.order (word % 2 ^ 16)) refl gives
puts-lie StoreOp.Swl memory address word bytes gives =
    inside-lies memory (aligned address) _ bytes (contains (size_of memory) (aligned address) 4) (four_of-word memory.order _) refl gives
puts-lie StoreOp.Sw memory address word bytes gives =
    placed-lies memory address 4 (bytes_of_word memory.order word) bytes (address % 4 == 0) (contains (size_of memory) address 4)
    Exc.DBE Exc.AdES (four_of-word memory.order word) refl gives
puts-lie StoreOp.Swr memory address word bytes gives =
    inside-lies memory (aligned address) _ bytes (contains (size_of memory) (aligned address) 4) (four_of-word memory.order _) refl gives

-- What an instruction does.

pub data Deed : Type 0 where
  Goes : State → ℕ → List ℕ → LinkSet → Deed  -- to this context and these links, with these bytes put from an address on
  Stops : Stop → LinkSet → Deed

-- over a memory
abbrev pub applied : Memory → Deed → Effect
applied memory (Goes after first bytes links) = Effect.Goes after (with_bytes memory (first - base) bytes) links
applied memory (Stops stop links) = Effect.Stops stop links

-- to a context, with no bytes put
abbrev pub quiet : LinkSet → Result State Stop → Deed
quiet links (Ok after) = Goes after base [] links
quiet links (Err stop) = Stops stop links

abbrev pub storing : ℕ → State → LinkSet → ℕ → ℕ → Result (List ℕ) Exc → Deed
storing cpu s links first address (Ok bytes) = Goes (advanced s) first bytes (after_store links cpu address)
storing cpu s links first address (Err exc) = Stops (Stop.Raise (code_of exc)) links

abbrev pub linking : ℕ → State → LinkSet → ℕ → ℕ → Result ℕ Exc → Deed
linking cpu s links rt address (Ok word) = Goes (with_register s rt word) base [] (with_link links cpu address)
linking cpu s links rt address (Err exc) = Stops (Stop.Raise (code_of exc)) links

abbrev pub storing_if : ℕ → State → LinkSet → ℕ → ℕ → Bool → Result (List ℕ) Exc → Deed
storing_if cpu s links rt address linked (Ok bytes) =
    if linked then Goes (with_register s rt 1) address bytes (after_store (without links cpu) cpu address)
    else Goes (with_register s rt 0) base [] (without links cpu)
storing_if cpu s links rt address linked (Err exc) = Stops (Stop.Raise (code_of exc)) (without links cpu)

abbrev pub deed : ℕ → State → Memory → LinkSet → Action → Deed
deed cpu s memory links (Action.Local after) = Goes after base [] links
deed cpu s memory links (Action.MayStop outcome) = quiet links outcome
deed cpu s memory links (Action.Loads op rt address) = quiet links (with_word s rt (with_code (load_gives op memory address (read s rt))))
deed cpu s memory links (Action.Stores op rt address) =
    storing cpu s links (first_stored op address) address (puts op memory address (read s rt))
deed cpu s memory links (Action.LoadsLinked rt address) = linking cpu s links rt address (loaded32 memory address)
deed cpu s memory links (Action.StoresIfLinked rt address) =
    storing_if cpu s links rt address (is_linked links cpu address) (puts StoreOp.Sw memory address (read s rt))

abbrev pub deed_next : ℕ → State → Memory → LinkSet → Result Insn ExceptionCode → Deed
deed_next cpu s memory links (Ok insn) = deed cpu s memory links (action insn s)
deed_next cpu s memory links (Err code) = Stops (Stop.Raise code) links

-- no bytes put leave a memory as it is
put-none : (memory : Memory) → with_bytes memory (base - base) [] ≡ memory
put-none memory = refl

quiet-is : (memory : Memory) (links : LinkSet) (outcome : Result State Stop) →
    unless_stopped memory links outcome ≡ applied memory (quiet links outcome)
quiet-is memory links (Ok after) = ap (λ it. Effect.Goes after it links) (sym (put-none memory))
quiet-is memory links (Err stop) = refl

storing-is : (cpu : ℕ) (s : State) (memory : Memory) (links : LinkSet) (first address : ℕ) (bytes : Result (List ℕ) Exc) →
    stores cpu s links address (put_in memory (first - base) bytes) ≡ applied memory (storing cpu s links first address bytes)
storing-is cpu s memory links first address (Ok bytes) = refl
storing-is cpu s memory links first address (Err exc) = refl

linking-is : (cpu : ℕ) (s : State) (memory : Memory) (links : LinkSet) (rt address : ℕ) (word : Result ℕ Exc) →
    loads_linked cpu s memory links rt address word ≡ applied memory (linking cpu s links rt address word)
linking-is cpu s memory links rt address (Ok word) =
    ap (λ it. Effect.Goes (with_register s rt word) it (with_link links cpu address)) (sym (put-none memory))
linking-is cpu s memory links rt address (Err exc) = refl

storing-if-is : (cpu : ℕ) (s : State) (memory : Memory) (links : LinkSet) (rt address : ℕ) (linked : Bool) (bytes : Result (List ℕ) Exc) →
    stores_if_linked cpu s memory links rt address linked (put_in memory (address - base) bytes)
    ≡ applied memory (storing_if cpu s links rt address linked bytes)
storing-if-is cpu s memory links rt address true (Ok bytes) = refl
storing-if-is cpu s memory links rt address false (Ok bytes) =
    ap (λ it. Effect.Goes (with_register s rt 0) it (without links cpu)) (sym (put-none memory))
storing-if-is cpu s memory links rt address linked (Err exc) = refl

deed-is : (cpu : ℕ) (s : State) (memory : Memory) (links : LinkSet) (act : Action) →
    done cpu s memory links act ≡ applied memory (deed cpu s memory links act)
deed-is cpu s memory links (Action.Local after) = ap (λ it. Effect.Goes after it links) (sym (put-none memory))
deed-is cpu s memory links (Action.MayStop outcome) = quiet-is memory links outcome
deed-is cpu s memory links (Action.Loads op rt address) =
    quiet-is memory links (with_word s rt (with_code (load_gives op memory address (read s rt))))
deed-is cpu s memory links (Action.Stores op rt address) =
    ap (stores cpu s links address) (store-puts op memory address (read s rt))
    ∙ storing-is cpu s memory links (first_stored op address) address (puts op memory address (read s rt))
deed-is cpu s memory links (Action.LoadsLinked rt address) = linking-is cpu s memory links rt address (loaded32 memory address)
deed-is cpu s memory links (Action.StoresIfLinked rt address) =
    ap (stores_if_linked cpu s memory links rt address (is_linked links cpu address)) (store-puts StoreOp.Sw memory address (read s rt))
    ∙ storing-if-is cpu s memory links rt address (is_linked links cpu address) (puts StoreOp.Sw memory address (read s rt))

pub deed-next-is : (cpu : ℕ) (s : State) (memory : Memory) (links : LinkSet) (next : Result Insn ExceptionCode) →
    of_next cpu s memory links next ≡ applied memory (deed_next cpu s memory links next)
deed-next-is cpu s memory links (Ok insn) = deed-is cpu s memory links (action insn s)
deed-next-is cpu s memory links (Err code) = refl

-- It depends on the bytes that are touched.

deed-same : (cpu : ℕ) (s : State) (one two : Memory) (links : LinkSet) (act : Action) → Agree (accesses act) one two →
    deed cpu s two links act ≡ deed cpu s one links act
deed-same cpu s one two links (Action.Local after) agree = refl
deed-same cpu s one two links (Action.MayStop outcome) agree = refl
deed-same cpu s one two links (Action.Loads op rt address) agree =
    ap (λ given. quiet links (with_word s rt (with_code given))) (load-same op one two address (read s rt) agree)
deed-same cpu s one two links (Action.Stores op rt address) agree =
    ap (storing cpu s links (first_stored op address) address) (puts-same op one two address (read s rt) agree)
deed-same cpu s one two links (Action.LoadsLinked rt address) agree =
    ap (linking cpu s links rt address) (loaded32-same one two address agree)
deed-same cpu s one two links (Action.StoresIfLinked rt address) agree =
    ap (storing_if cpu s links rt address (is_linked links cpu address)) (puts-same StoreOp.Sw one two address (read s rt) agree)

pub deed-next-same : (cpu : ℕ) (s : State) (one two : Memory) (links : LinkSet) (next : Result Insn ExceptionCode) →
    Agree (λ address. accesses_next s address next) one two →
    deed_next cpu s two links next ≡ deed_next cpu s one links next
deed-next-same cpu s one two links (Ok insn) agree = deed-same cpu s one two links (action insn s) agree
deed-next-same cpu s one two links (Err code) agree = refl

pub or-left : (x y : Bool) → x ≡ true → (x || y) ≡ true
or-left true y is = refl
or-left false y is = absurd (false≢true is)

pub or-right : (x y : Bool) → y ≡ true → (x || y) ≡ true
or-right true y is = refl
or-right false y is = is

pub next-same : (s : State) (one two : Memory) → Agree (touches s one) one two → next_instruction s two ≡ next_instruction s one
unfolding next_instruction touches
next-same s one two agree =
    ap (of_fetch s) (fetched-same one two s.pc (agree-less _ (is_among s.pc 4) one two (λ address is. or-left _ _ is) agree))

pub accesses-same : (s : State) (one two : Memory) → Agree (touches s one) one two →
    Agree (λ address. accesses_next s address (next_instruction s one)) one two
unfolding touches
accesses-same s one two agree = agree-less _ _ one two (λ address is. or-right (is_among s.pc 4 address) _ is) agree
