-- Bytes that are read one by one from a text with escapes.
use Rattle.std.proofs.Common.{◌≡◌, ℕ, List, [], ◌∷◌, ◌++◌, refl, sym, ap, ◌∙◌, subst, append_assoc}
use Rattle.std.specs.Prelude.{Option, None, Some, option_map}
use Rattle.brd_search.specs.Escapes.{Gives, before, bytes_of, bytes_within}
use Rattle.brd_search.specs.Escapes.Within.{no_escape}

-- bytes behind those that are there
abbrev pub behind : List ℕ → Option (List ℕ) → Option (List ℕ)
behind done bytes = option_map (λ more. done ++ more) bytes

one_behind : (done : List ℕ) (b : ℕ) (given : Option (List ℕ)) → behind done (before (Some b) given) ≡ behind (done ++ b ∷ []) given
one_behind done b None = refl
one_behind done b (Some bs) = ap (λ (them : List ℕ). Some them) (sym (append_assoc done (b ∷ []) bs))

-- one byte more was read
pub read_on : (start : Option (List ℕ)) (done items all text left : List ℕ) (byte : ℕ) → start ≡ behind done (bytes_within no_escape all) → all ≡ text
    → Gives no_escape text byte left → items ≡ done ++ byte ∷ [] → start ≡ behind items (bytes_within no_escape left)
read_on start done items all text left byte so_far same gives more =
    let here : start ≡ behind done (before (Some byte) (bytes_within no_escape left)) =
    so_far ∙ ap (λ (them : List ℕ). behind done (bytes_within no_escape them)) same ∙ ap (behind done) gives in
    let next : start ≡ behind (done ++ byte ∷ []) (bytes_within no_escape left) = here ∙ one_behind done byte (bytes_within no_escape left) in
    subst (λ (them : List ℕ). start ≡ behind them (bytes_within no_escape left)) (sym more) next

nothing_behind : (bytes : Option (List ℕ)) → bytes ≡ behind [] bytes
nothing_behind None = refl
nothing_behind (Some bs) = refl

pub read_nothing : (text : List ℕ) → bytes_of text ≡ behind [] (bytes_within no_escape text)
unfolding bytes_of
read_nothing text = nothing_behind (bytes_within no_escape text)
