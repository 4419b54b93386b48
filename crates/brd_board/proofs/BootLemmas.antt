-- The board of a list of words is the one that their image makes.
use Rattle.std.proofs.Common.{◌≡◌, ℕ, ◌+◌, ◌-◌, ◌*◌, List, [], ◌∷◌, ◌++◌, length, refl, sym, ap, ◌∙◌, arith, length-append}
use Rattle.std.proofs.lemmas.Bool.Decides.{nat_tests}
use Rattle.std.specs.Prelude.{Bool, true, ◌&&◌, nat_le, flat_map, replicate, false, unwrap_or, Result, Ok, Err, if◌then◌else◌}
use Rattle.std.proofs.lemmas.List.{drop-replicate, length-replicate}
use Rattle.brd_word.specs.declared.order.Order.{Order}
use Rattle.brd_word.specs.Words.{bytes_of_word}
use Rattle.brd_base.specs.Space.{base}
use Rattle.brd_mem.specs.Memory.{Memory, memory_of_bytes, zeros, contains, copied}
use Rattle.brd_mem.specs.Image.{byte_in, segments_of_words, image_of_words}
use Rattle.brd_mem.specs.declared.image.Segment.{Segment}
use Rattle.brd_text.specs.Faults.{◌>>=◌}
use Rattle.brd_board.specs.Board.{BoardState}
use Rattle.brd_board.specs.Setup.{setups_from, placed_task, region_of, handlers_of, pools_from, each_placed}
use Rattle.brd_board.specs.Boot.{boot, boot_words, words_ram, loaded, booted_board, booted_kernel, words_setup, words_config, memory_of, memory_of_words}
use Rattle.brd_board.proofs.LoadLemmas.{turn, all_loaded, zero_bytes, copied-size}
use Rattle.brd_board.specs.declared.boot.BootFault.{BootFault}
use Rattle.brd_board.specs.declared.boot.BootFault.TheVariants.{Outside}

-- each word takes four bytes
pub length-bytes : (words : List ℕ) → length (flat_map (bytes_of_word Order.Big) words) ≡ 4 * length words
length-bytes [] = refl
length-bytes (word ∷ words) = omega (arith, length-append (bytes_of_word Order.Big word) (flat_map (bytes_of_word Order.Big) words), length-bytes words)

-- bytes at the start of an empty memory
copied-zero : (size : ℕ) (bytes : List ℕ) → copied (zeros Order.Big size) base bytes ≡ memory_of_bytes Order.Big (bytes ++ replicate (size - length bytes) 0)
copied-zero size bytes =
    let front : base - base + length bytes ≡ length bytes = omega arith in
    let zero : ℕ = 0 in
    rw front (rw (drop-replicate {X = ℕ} (length bytes) size zero) refl)

-- they fit exactly where there are at most 16,384
fits : (n : ℕ) → contains words_ram base (4 * n) && true ≡ nat_le n 16384
fits n = grind (arith, nat_tests)

chosen : (a b : Bool) (x y : Memory) → a ≡ b → (a ≡ true → x ≡ y) →
    (if a then Ok x else Err Outside) ≡ (if b then Ok y else Err Outside)
chosen true b x y e f = rw (← e, f refl) refl
chosen false b x y e f = rw (← e) refl

one_inside : (inside : Bool) → inside && true ≡ true → inside ≡ true
one_inside true e = refl
one_inside false e = e

-- without a segment there are zeros alone
none_loaded : (size : ℕ) → zeros Order.Big size ≡ memory_of Order.Big size []
none_loaded size = all_loaded Order.Big size [] (zeros Order.Big size) refl (length-replicate size 0) (λ at. zero_bytes size at)

-- with one segment, its bytes are in their place
one_loaded : (size : ℕ) (segment : Segment) → contains size segment.address (length segment.bytes) ≡ true →
    copied (zeros Order.Big size) segment.address segment.bytes ≡ memory_of Order.Big size (segment ∷ [])
one_loaded size segment inside =
    let long : length (replicate size 0) ≡ size = length-replicate size 0 in
    all_loaded Order.Big size (segment ∷ []) (copied (zeros Order.Big size) segment.address segment.bytes) refl (copied-size size segment (zeros Order.Big size) long inside ∙ long)
    (λ at. turn size segment [] (zeros Order.Big size) at long inside tt ∙ ap (λ byte. unwrap_or (byte_in (segment ∷ []) (base + at)) byte) (zero_bytes size at))

-- the memory of words
loaded_words : List ℕ → Result Memory BootFault
loaded_words words = if nat_le (length words) 16384 then Ok (memory_of_words words) else Err Outside

loaded-words : (words : List ℕ) → loaded Order.Big words_ram (segments_of_words words) ≡ loaded_words words
unfolding loaded loaded_words
loaded-words [] = ap Ok (sym (none_loaded words_ram))
loaded-words (word ∷ words) =
    let bytes : List ℕ = flat_map (bytes_of_word Order.Big) (word ∷ words) in
    let long : length bytes ≡ 4 * length (word ∷ words) = length-bytes (word ∷ words) in
    chosen (contains words_ram base (length bytes) && true) (nat_le (length (word ∷ words)) 16384)
    (memory_of Order.Big words_ram (segments_of_words (word ∷ words))) (memory_of_words (word ∷ words))
    (rw long (fits (length (word ∷ words))))
    (λ inside. sym (one_loaded words_ram (record { address = base; bytes = bytes }) (one_inside _ inside)) ∙ rw (← long) (copied-zero words_ram bytes))

-- the board over a memory
over : Result Memory BootFault → Result BoardState BootFault
over memory = memory >>= (λ m. Ok (booted_board (booted_kernel (words_setup ∷ []) [] [] words_config) m))

boot-over : (words : List ℕ) → boot (image_of_words words) words_config ≡ over (loaded Order.Big words_ram (segments_of_words words))
unfolding boot over setups_from placed_task region_of handlers_of pools_from each_placed
boot-over words = refl

over-words : (fit : Bool) (memory : Memory) → over (if fit then Ok memory else Err Outside) ≡ (if fit then Ok (booted_board (booted_kernel (words_setup ∷ []) [] [] words_config) memory) else Err Outside)
unfolding over
over-words true memory = refl
over-words false memory = refl

pub boot-image_of_words : (words : List ℕ) → boot (image_of_words words) words_config ≡ boot_words words
unfolding loaded_words
boot-image_of_words words =
    boot-over words ∙ ap over (loaded-words words) ∙ over-words (nat_le (length words) 16384) (memory_of_words words)
