-- The words that an option names, of which a trace shows loads and stores.
use Rattle.std.specs.Prelude.{◌≡◌, ℕ, ◌%◌, ◌==◌, Bool, false, not, ◌||◌, if◌then◌else◌, List, [], ◌∷◌, ◌++◌}
use Rattle.std.specs.Prelude.{is_some, Result, Ok, Err}
use Rattle.brd_text.specs.Bytes.{is_digit}
use Rattle.brd_text.specs.Faults.{◌>>=◌, or_fault}
use Rattle.brd_text.specs.Numbers.{number_of}
use Rattle.brd_text.specs.Pieces.{pieces_of}
use Rattle.brd_mem.specs.Image.{symbol_value}
use Rattle.brd_mem.specs.Memory.{byte_at}
use Rattle.brd_mem.specs.declared.image.Symbol.{Symbol}
use Rattle.brd_board.specs.Board.{BoardState}
use Rattle.brd_printer.specs.declared.words.WordsFault.{WordsFault}
use Rattle.brd_printer.specs.declared.words.WordsFault.TheVariants.{NoMemory, NoSymbol, NoWord}

-- a text begins with a digit
abbrev pub begins_with_digit : List ℕ → Bool
begins_with_digit [] = false
begins_with_digit (byte ∷ bytes) = is_digit byte

-- the address of a place: a number where it begins with a digit, else the value of the symbol of that name
abbrev pub address_of : List Symbol → List ℕ → Result ℕ WordsFault
address_of symbols place =
    if begins_with_digit place then or_fault NoWord (number_of place)
    else or_fault NoSymbol (symbol_value symbols place)

-- an aligned word of RAM lies at an address, or that is a fault
abbrev pub word_at : BoardState → ℕ → Result ℕ WordsFault
word_at board address =
    if not (address % 4 == 0) || not (is_some (byte_at board.memory address)) then Err NoWord else Ok address

-- the address of the word at a place
abbrev pub word_of : List Symbol → BoardState → List ℕ → Result ℕ WordsFault
word_of symbols board place = address_of symbols place >>= word_at board

-- the words at places, or the first fault
abbrev pub all_words : List Symbol → BoardState → List (List ℕ) → Result (List ℕ) WordsFault
all_words symbols board [] = Ok []
all_words symbols board (place ∷ places) =
    word_of symbols board place >>= (λ word. all_words symbols board places >>= (λ words. Ok (word ∷ words)))

-- the words at the places of a text, which has commas between them
abbrev pub words_of : List Symbol → BoardState → List ℕ → Result (List ℕ) WordsFault
words_of symbols board text = all_words symbols board (pieces_of text)

-- words behind those that are there
pub record Adds (words : Result (List ℕ) WordsFault) (old new : List ℕ) : Type 0 where
  pub more : List ℕ
  pub is : words ≡ Ok more
  pub all : new ≡ old ++ more

-- what may be wrong with a place
abbrev pub IsOfWord : WordsFault → Type 0
IsOfWord NoMemory = ⊥
IsOfWord fault = Unit {0}

-- The fault is the text's, but for lack of memory.
abbrev pub IsOfWords : List Symbol → BoardState → List ℕ → WordsFault → Type 0
IsOfWords symbols board text NoMemory = Unit {0}
IsOfWords symbols board text fault = words_of symbols board text ≡ Err fault
