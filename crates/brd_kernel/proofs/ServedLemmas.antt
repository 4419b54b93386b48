-- What a row of the service table does leaves a property of kernels, and so does the row.
use Rattle.std.proofs.Common.{◌≡◌, refl}
use Rattle.std.proofs.lemmas.Bool.{false≢true}
use Rattle.std.specs.Prelude.{Bool, true, false, if◌then◌else◌, Option, None, Some, Result, Ok, Err}
use Rattle.brd_kernel.specs.declared.call.Ercd.{Ercd}
use Rattle.brd_kernel.specs.declared.call.Ercd.TheVariants.{Id, Par, Iluse, Obj, Qovr}
use Rattle.brd_kernel.specs.declared.call.Reply.{Reply}
use Rattle.brd_kernel.specs.declared.call.Reply.TheVariants.{Answer, Silent, Again}
use Rattle.brd_kernel.specs.Kernel.{KernelState}
use Rattle.brd_kernel.specs.Row.{Row, Served, refused, served_object, served, or_refused, asks_again}

-- what a call is to leave: a kernel that has a property, and something besides where the call is to be made again
pub record Wanted : Type 1 where
  pub kernel : KernelState → Type 0
  pub again : Type 0

abbrev pub LeavesBy : Wanted → KernelState → Reply → Type 0
LeavesBy P k (Answer code second) = P.kernel k
LeavesBy P k Silent = P.kernel k
LeavesBy P k Again = P.again × P.kernel k

-- a call leaves that, if it isn't refused
abbrev pub Leaves : Wanted → Result Served Ercd → Type 0
Leaves P (Ok done) = LeavesBy P done.kernel done.reply
Leaves P (Err code) = Unit {0}

-- what is known where a row does what it does
pub record Passes {X : Type 0} (row : Row X) (x : X) : Type 0 where
  pub id : row.bad_id ≡ false
  pub there : row.object ≡ Some x
  pub par : row.bad_par ≡ false
  pub iluse : row.iluse x ≡ false
  pub obj : row.obj x ≡ false

leaves-refused : (P : Wanted) (test : Bool) (code : Ercd) (otherwise : Result Served Ercd) → (test ≡ false → Leaves P otherwise) →
    Leaves P (refused test code otherwise)
leaves-refused P true code otherwise leaves = tt
leaves-refused P false code otherwise leaves = leaves refl

leaves-object : {X : Type 0} (P : Wanted) (row : Row X) (found : Option X) → row.object ≡ found → row.bad_id ≡ false → row.bad_par ≡ false →
    ((x : X) → Passes row x → Leaves P (row.does x)) →
    Leaves P (served_object row found)
leaves-object P row None is id par does = tt
leaves-object P row (Some x) is id par does =
    leaves-refused P (row.iluse x) Iluse _
    (λ iluse. leaves-refused P (row.obj x) Obj _
    (λ obj. leaves-refused P (row.qovr x) Qovr _ (λ qovr. does x (record { id = id; there = is; par = par; iluse = iluse; obj = obj }))))

pub leaves-row : {X : Type 0} (P : Wanted) (row : Row X) → ((x : X) → Passes row x → Leaves P (row.does x)) → Leaves P (served row)
leaves-row P row does =
    leaves-refused P row.bad_id Id _
    (λ id. leaves-refused P row.bad_par Par _ (λ par. leaves-object P row row.object refl id par does))

pub leaves-if : (P : Wanted) (test : Bool) (one other : Result Served Ercd) → (test ≡ true → Leaves P one) →
    (test ≡ false → Leaves P other) →
    Leaves P (if test then one else other)
leaves-if P true one other first second = first refl
leaves-if P false one other first second = second refl

left-by : (P : Wanted) (k : KernelState) (reply : Reply) → LeavesBy P k reply → P.kernel k
left-by P k (Answer code second) leaves = leaves
left-by P k Silent leaves = leaves
left-by P k Again leaves = leaves.1

pub leaves-or_refused : (P : Wanted) (k : KernelState) (says : Result Served Ercd) → P.kernel k → Leaves P says → P.kernel (or_refused k says).kernel
leaves-or_refused P k (Ok done) was leaves = left-by P done.kernel done.reply leaves
leaves-or_refused P k (Err code) was leaves = was

again-by : (P : Wanted) (k : KernelState) (reply : Reply) → LeavesBy P k reply → asks_again reply ≡ true → P.again
again-by P k (Answer code second) leaves is = absurd (false≢true is)
again-by P k Silent leaves is = absurd (false≢true is)
again-by P k Again leaves is = leaves.0

pub again-or_refused : (P : Wanted) (k : KernelState) (says : Result Served Ercd) → Leaves P says → asks_again (or_refused k says).reply ≡ true →
    P.again
again-or_refused P k (Ok done) leaves is = again-by P done.kernel done.reply leaves is
again-or_refused P k (Err code) leaves is = absurd (false≢true is)
