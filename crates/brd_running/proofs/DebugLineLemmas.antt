-- Just the lines of the grammar are read as commands.
use Rattle.std.proofs.Common.{◌≡◌, ◌≢◌, ℕ, ◌+◌, ◌-◌, ◌<◌, ◌^◌, true, List, ◌++◌, length, take, drop, refl, sym, ap, subst, ◌∙◌, inl, inr, arith}
use Rattle.std.specs.Prelude.{◌⊎◌, codes, Option, Some, None, option_map}
use Rattle.std.specs.Str.{bytes_eq}
use Rattle.std.proofs.lemmas.Bool.{cases_Bool}
use Rattle.std.proofs.lemmas.List.{take-append-drop}
use Rattle.std.proofs.lemmas.Option.{none-some}
use Rattle.std.proofs.lemmas.Slice.Eq.{bytes_eq-Decides}
use Rattle.brd_text.specs.Hex.{hex_word_of}
use Rattle.brd_text.specs.Numbers.{plain_decimal_of}
use Rattle.brd_running.specs.DebugGrammar.{Says, HasNumber, HasAddress}
use Rattle.brd_running.specs.DebugLine.{command_of, with_argument, or_unknown, if_begins}
use Rattle.brd_running.specs.declared.debug_line.DebugCommand.{DebugCommand}
use Rattle.brd_running.specs.declared.debug_line.DebugCommand.TheVariants.{Goto, Next, Back, Break, Watch, Registers, Memory, Quit, Unknown}
use Rattle.brd_journal.proofs.NumberLemmas.{plain_again, plain_is}

-- ---- what is said is read

pub again : (line : List ℕ) (command : DebugCommand) → Says line command → command_of line ≡ command
again line (Goto n) says = let read = plain_again n (2 ^ 64 - 1) (omega (arith, says.below)) says.below in rw (says.text, read) refl
again line Next says = rw says refl
again line Back says = rw says refl
again line (Break a) says = rw (says.text, says.are_of) refl
again line (Watch a) says = rw (says.text, says.are_of) refl
again line (Registers cpu) says = let read = plain_again cpu 255 (omega (arith, says.below)) (omega (arith, says.below)) in rw (says.text, read) refl
again line (Memory a) says = rw (says.text, says.are_of) refl
again line Quit says = rw says refl
again line Unknown says = absurd says

-- ---- what is read is said

-- a line that begins so is this front and its rest
front_is : (front line : List ℕ) → bytes_eq (take (length front) line) front ≡ true → line ≡ front ++ drop (length front) line
front_is front line begins =
    let same : take (length front) line ≡ front = (bytes_eq-Decides (take (length front) line) front).0 begins in
    sym (take-append-drop (length front) line) ∙ ap (λ (xs : List ℕ). xs ++ drop (length front) line) same

-- where a line begins so, what is said of its rest; else the other
begins_or : (front line : List ℕ) (say : List ℕ → Option DebugCommand) (other : Option DebugCommand) (command : DebugCommand)
    → if_begins front say line other ≡ Some command → ((line ≡ front ++ drop (length front) line) × (say (drop (length front) line) ≡ Some command)) ⊎ (other ≡ Some command)
begins_or front line say other command read =
    elim (cases_Bool (bytes_eq (take (length front) line) front)) [
      | inl found ↦ let q : say (drop (length front) line) ≡ Some command = rw found at read in inl (front_is front line found, q)
      | inr different ↦ let q : other ≡ Some command = rw different at read in inr q
    ]

-- a command of what was read
map_is : (make : ℕ → DebugCommand) (found : Option ℕ) (command : DebugCommand) → option_map make found ≡ Some command → (n : ℕ) × (found ≡ Some n) × (command ≡ make n)
map_is make None command read = absurd (none-some command read)
map_is make (Some n) command read = let q : make n ≡ command = cc in (n, refl, sym q)

number_is : (front line : List ℕ) (make : ℕ → DebugCommand) (most : ℕ) (command : DebugCommand) → most < 2 ^ 64 → line ≡ front ++ drop (length front) line
    → option_map make (plain_decimal_of (drop (length front) line) most) ≡ Some command → (n : ℕ) × (command ≡ make n) × HasNumber front line n (most + 1)
number_is front line make most command small text read =
    let found = map_is make (plain_decimal_of (drop (length front) line) most) command read in
    let plain = plain_is (drop (length front) line) most found.0 small found.1 in
    (found.0, found.2, record { text = text ∙ ap (λ (xs : List ℕ). front ++ xs) plain.0; below = omega (arith, plain.1) })

address_is : (front line : List ℕ) (make : ℕ → DebugCommand) (command : DebugCommand) → line ≡ front ++ drop (length front) line
    → option_map make (hex_word_of (drop (length front) line)) ≡ Some command → (n : ℕ) × (command ≡ make n) × HasAddress front line n
address_is front line make command text read =
    let found = map_is make (hex_word_of (drop (length front) line)) command read in
    (found.0, found.2, record { digits = drop (length front) line; text = text; are_of = found.1 })

says_at : (line : List ℕ) (command other : DebugCommand) → command ≡ other → Says line other → Says line command
says_at line command other same says = let P : DebugCommand → Type 0 = λ c. Says line c in subst P (sym same) says

argument_is : (line : List ℕ) (command : DebugCommand) → with_argument line ≡ Some command → Says line command
argument_is line command read =
    elim (begins_or (codes "goto ") line (λ digits. option_map Goto (plain_decimal_of digits (2 ^ 64 - 1))) _ command read) [
      | inl goto ↦ let is = number_is (codes "goto ") line Goto (2 ^ 64 - 1) command (omega arith) goto.0 goto.1 in says_at line command (Goto is.0) is.1 is.2
      | inr other ↦ elim (begins_or (codes "break ") line (λ digits. option_map Break (hex_word_of digits)) _ command other) [
        | inl is_break ↦ let is = address_is (codes "break ") line Break command is_break.0 is_break.1 in says_at line command (Break is.0) is.1 is.2
        | inr other ↦ elim (begins_or (codes "watch ") line (λ digits. option_map Watch (hex_word_of digits)) _ command other) [
          | inl watch ↦ let is = address_is (codes "watch ") line Watch command watch.0 watch.1 in says_at line command (Watch is.0) is.1 is.2
          | inr other ↦ elim (begins_or (codes "regs ") line (λ digits. option_map Registers (plain_decimal_of digits 255)) _ command other) [
            | inl regs ↦ let is = number_is (codes "regs ") line Registers 255 command (omega arith) regs.0 regs.1 in says_at line command (Registers is.0) is.1 is.2
            | inr other ↦ elim (begins_or (codes "mem ") line (λ digits. option_map Memory (hex_word_of digits)) _ command other) [
              | inl mem ↦ let is = address_is (codes "mem ") line Memory command mem.0 mem.1 in says_at line command (Memory is.0) is.1 is.2
              | inr none ↦ absurd (none-some command none)
            ]
          ]
        ]
      ]
    ]

unknown_or : (found : Option DebugCommand) (command : DebugCommand) → or_unknown found ≡ command → command ≢ Unknown → found ≡ Some command
unknown_or None command read known = absurd (known (sym read))
unknown_or (Some c) command read known = ap Some read

word_is : (line word : List ℕ) → bytes_eq line word ≡ true → line ≡ word
word_is line word same = (bytes_eq-Decides line word).0 same

pub says : (line : List ℕ) (command : DebugCommand) → command ≢ Unknown → command_of line ≡ command → Says line command
says line command known read =
    elim (cases_Bool (bytes_eq line (codes "next"))) [
      | inl next ↦ let q : Next ≡ command = rw next at read in says_at line command Next (sym q) (word_is line (codes "next") next)
      | inr no_next ↦ elim (cases_Bool (bytes_eq line (codes "back"))) [
        | inl back ↦ let q : Back ≡ command = rw (no_next, back) at read in says_at line command Back (sym q) (word_is line (codes "back") back)
        | inr no_back ↦ elim (cases_Bool (bytes_eq line (codes "quit"))) [
          | inl quit ↦ let q : Quit ≡ command = rw (no_next, no_back, quit) at read in says_at line command Quit (sym q) (word_is line (codes "quit") quit)
          | inr no_quit ↦
              let q : or_unknown (with_argument line) ≡ command = rw (no_next, no_back, no_quit) at read in
              argument_is line command (unknown_or (with_argument line) command q known)
        ]
      ]
    ]

-- ---- the unknown

known_of : (command : DebugCommand) → (command ≡ Unknown) ⊎ (command ≢ Unknown)
known_of (Goto n) = inr (λ e. absurd cc)
known_of Next = inr (λ e. absurd cc)
known_of Back = inr (λ e. absurd cc)
known_of (Break a) = inr (λ e. absurd cc)
known_of (Watch a) = inr (λ e. absurd cc)
known_of (Registers n) = inr (λ e. absurd cc)
known_of (Memory a) = inr (λ e. absurd cc)
known_of Quit = inr (λ e. absurd cc)
known_of Unknown = inl refl

-- no line says the unknown
none_unknown : (line : List ℕ) (command : DebugCommand) → Says line command → command ≢ Unknown
none_unknown line command said is = let P : DebugCommand → Type 0 = λ c. Says line c in subst P is said

pub unknown_says : (line : List ℕ) → command_of line ≡ Unknown → (command : DebugCommand) → ¬ Says line command
unknown_says line read command said = none_unknown line command said (sym (again line command said) ∙ read)

pub says_unknown : (line : List ℕ) → ((command : DebugCommand) → ¬ Says line command) → command_of line ≡ Unknown
says_unknown line none =
    elim (known_of (command_of line)) [
      | inl is ↦ is
      | inr known ↦ absurd (none (command_of line) (says line (command_of line) known refl))
    ]
