-- Both halves of what is said of an answer.
use Rattle.std.specs.Prelude.{◌≡◌, Option, Some, None, IfNone, Result, Ok, Err, IfOk}

pub if-both : {A E : Type 0} (P Q : A → Type 0) (R : A → Type 0) → ((a : A) → P a → Q a → R a) → (r : Result A E) →
    IfOk r P → IfOk r Q → IfOk r R
if-both P Q R both (Ok a) first second = both a first second
if-both P Q R both (Err e) first second = first

-- what follows from what is said of an answer
pub if-then : {A E : Type 0} (P Q : A → Type 0) → ((a : A) → P a → Q a) → (r : Result A E) → IfOk r P → IfOk r Q
if-then P Q leads (Ok a) is = leads a is
if-then P Q leads (Err e) is = is

-- what is so where there is nothing
pub if-none : {A : Type 0} (P : Type 0) (found : Option A) → found ≡ None → IfNone found P → P
if-none P None is then = then
if-none P (Some a) is then = absurd (let wrong : Some a ≡ None = is in cc)

-- what is so whatever is answered
pub if-all : {A E : Type 0} (P : Type 0) → P → (r : Result A E) → IfOk r (λ a. P)
if-all P is (Ok a) = is
if-all P is (Err e) = tt

-- four things that are said of an answer
pub if-four : {A E : Type 0} (P Q S T R : A → Type 0) → ((a : A) → P a → Q a → S a → T a → R a) → (r : Result A E) →
    IfOk r P → IfOk r Q →
    IfOk r S → IfOk r T → IfOk r R
if-four P Q S T R all (Ok a) first second third fourth = all a first second third fourth
if-four P Q S T R all (Err e) first second third fourth = first
