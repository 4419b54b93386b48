-- One of two things, from whether each of them is so.
use Rattle.std.proofs.Common.{◌≡◌, ◌⊎◌, refl, sym, ◌∙◌, inl, inr}
use Rattle.std.specs.Prelude.{Bool, true, false, ◌||◌, Decides}
use Rattle.std.proofs.lemmas.Bool.{false≢true}

neither : {A B : Type 0} → (A → false ≡ true) → (B → false ≡ true) → A ⊎ B → ⊥
neither first second (inl a) = false≢true (first a)
neither first second (inr b) = false≢true (second b)

pub decides-or : {A B : Type 0} (one other whole : Bool) → Decides one A → Decides other B → whole ≡ (one || other) → Decides whole (A ⊎ B)
decides-or true other whole first second is = (λ yes. inl (first.0 refl), λ some. is)
decides-or false true whole first second is = (λ yes. inr (second.0 refl), λ some. is)
decides-or false false whole first second is = (λ yes. absurd (false≢true (sym is ∙ yes)), λ some. absurd (neither first.1 second.1 some))

-- a stop of one kind or another, of those that count

known-met : {T D : Type 0} (concerned changed touched : Bool) → (changed ≡ true → D) →
    (concerned ≡ true) × (T ⊎ ((changed ≡ true) ⊎ (touched ≡ true))) → (concerned ≡ true) × (T ⊎ (D ⊎ (touched ≡ true)))
known-met concerned changed touched so (c, inl t) = (c, inl t)
known-met concerned changed touched so (c, inr (inl is)) = (c, inr (inl (so is)))
known-met concerned changed touched so (c, inr (inr is)) = (c, inr (inr is))

seen-met : {T D : Type 0} (concerned changed touched : Bool) → (D → changed ≡ true) →
    (concerned ≡ true) × (T ⊎ (D ⊎ (touched ≡ true))) → (concerned ≡ true) × (T ⊎ ((changed ≡ true) ⊎ (touched ≡ true)))
seen-met concerned changed touched some (c, inl t) = (c, inl t)
seen-met concerned changed touched some (c, inr (inl d)) = (c, inr (inl (some d)))
seen-met concerned changed touched some (c, inr (inr is)) = (c, inr (inr is))

pub decides-met : {T D : Type 0} (concerned changed touched whole : Bool) → Decides changed D →
    Decides whole ((concerned ≡ true) × (T ⊎ ((changed ≡ true) ⊎ (touched ≡ true)))) →
    Decides whole ((concerned ≡ true) × (T ⊎ (D ⊎ (touched ≡ true))))
decides-met concerned changed touched whole first is =
    (λ yes. known-met concerned changed touched first.0 (is.0 yes), λ met. is.1 (seen-met concerned changed touched first.1 met))

pub none-met : {X : Type 0} (concerned : Bool) → concerned ≡ false → Decides false ((concerned ≡ true) × X)
none-met concerned none = (λ yes. absurd (false≢true yes), λ met. absurd (false≢true (sym none ∙ met.0)))

pub both-met : {X : Type 0} (concerned whole : Bool) → concerned ≡ true → Decides whole X → Decides whole ((concerned ≡ true) × X)
both-met concerned whole is seen = (λ yes. (is, seen.0 yes), λ met. seen.1 met.1)

-- a test that is a fact
pub decides-same : (test is : Bool) → test ≡ is → Decides test (is ≡ true)
decides-same test is same = (λ yes. sym same ∙ yes, λ yes. same ∙ yes)
