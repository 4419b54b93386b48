-- What a row of the service table says, and the order in which a call's reasons to be refused count.
use Rattle.std.specs.Prelude.{◌≡◌, ℕ, Bool, true, false, if◌then◌else◌, List, [], ◌∷◌, find, Option, None, Some, Result}
use Rattle.std.specs.Prelude.{Ok, Err}
use Rattle.brd_kernel.specs.declared.call.Ercd.{Ercd}
use Rattle.brd_kernel.specs.declared.call.Ercd.TheVariants.{Rsfn, Ctx, Id, Par, Noexs, Iluse, Obj, Qovr, Rlwai, Tmout}
use Rattle.brd_kernel.specs.declared.call.Reply.{Reply}
use Rattle.brd_kernel.specs.declared.call.Reply.TheVariants.{Answer, Silent, Again}
use Rattle.brd_kernel.specs.Answer.{e_ok, code_of}
use Rattle.brd_kernel.specs.Kernel.{KernelState}

-- the kernel after a call, and its reply
pub record Served : Type 0 where
  pub kernel : KernelState
  pub reply : Reply

-- the object that a call names, the tests of its refusals, and what it does where none of them holds
pub record Row (X : Type 0) : Type 0 where
  pub bad_id : Bool
  pub bad_par : Bool
  pub object : Option X
  pub iluse : X → Bool
  pub obj : X → Bool
  pub qovr : X → Bool
  pub does : X → Result Served Ercd  -- an Err is E_TMOUT, of a poll: it comes after all others

-- a refusal where the test holds
abbrev pub refused : Bool → Ercd → Result Served Ercd → Result Served Ercd
refused test code otherwise = if test then Err code else otherwise

-- what is there, or the reason to refuse
abbrev pub or_fault : {X : Type 0} → Ercd → Option X → Result X Ercd
or_fault code None = Err code
or_fault code (Some x) = Ok x

-- the tests that need the object, and what the call does
abbrev pub served_object : {X : Type 0} → Row X → Option X → Result Served Ercd
served_object row None = Err Noexs
served_object row (Some x) =
    refused (row.iluse x) Iluse (refused (row.obj x) Obj (refused (row.qovr x) Qovr (row.does x)))

-- the order: E_ID, E_PAR, E_NOEXS, E_ILUSE, E_OBJ, E_QOVR (before them, in the gate, E_RSFN and E_CTX)
abbrev pub served : {X : Type 0} → Row X → Result Served Ercd
served row = refused row.bad_id Id (refused row.bad_par Par (served_object row row.object))

-- a test that refuses nothing
abbrev pub never : {X : Type 0} → X → Bool
never x = false

-- The ends of a call that is done.

-- E_OK
abbrev pub ok : KernelState → Result Served Ercd
ok k = Ok (record { kernel = k; reply = Answer e_ok None })

-- E_OK and a second result
abbrev pub ok_with : KernelState → ℕ → Result Served Ercd
ok_with k second = Ok (record { kernel = k; reply = Answer e_ok (Some second) })

-- a count in the place of E_OK
abbrev pub ok_count : KernelState → ℕ → Result Served Ercd
ok_count k count = Ok (record { kernel = k; reply = Answer count None })

-- the call doesn't return, or not yet
abbrev pub silent : KernelState → Result Served Ercd
silent k = Ok (record { kernel = k; reply = Silent })

-- the call is to be made again, and has changed nothing
abbrev pub again : KernelState → Result Served Ercd
again k = Ok (record { kernel = k; reply = Again })

-- the reply to a call that is to be made again
abbrev pub asks_again : Reply → Bool
asks_again (Answer code second) = false
asks_again Silent = false
asks_again Again = true

-- a refused call changes nothing
abbrev pub or_refused : KernelState → Result Served Ercd → Served
or_refused k (Ok outcome) = outcome
or_refused k (Err code) = record { kernel = k; reply = Answer (code_of code) None }

-- what a function left and returned is what the table says
abbrev pub Serves : KernelState → KernelState → Result Reply Ercd → Result Served Ercd → Type 0
Serves old new (Ok reply) says = says ≡ Ok (record { kernel = new; reply = reply })
Serves old new (Err code) says = (says ≡ Err code) × (new ≡ old)

-- The order once more, as a list.

abbrev pub order : List Ercd
order = Id ∷ Par ∷ Noexs ∷ Iluse ∷ Obj ∷ Qovr ∷ []

abbrev pub is_absent : {X : Type 0} → Option X → Bool
is_absent None = true
is_absent (Some x) = false

abbrev pub of_object : {X : Type 0} → (X → Bool) → Option X → Bool
of_object test None = false
of_object test (Some x) = test x

-- whether a row has that reason to refuse
abbrev pub refuses : {X : Type 0} → Row X → Ercd → Bool
refuses row Rsfn = false
refuses row Par = row.bad_par
refuses row Id = row.bad_id
refuses row Ctx = false
refuses row Iluse = of_object row.iluse row.object
refuses row Obj = of_object row.obj row.object
refuses row Noexs = is_absent row.object
refuses row Qovr = of_object row.qovr row.object
refuses row Rlwai = false
refuses row Tmout = false

-- a call that has reasons to be refused answers the first in the order, and one that has none does what its row says
pub record AnswersFirst {X : Type 0} (row : Row X) : Type 0 where
  pub first : (code : Ercd) → find (refuses row) order ≡ Some code → served row ≡ Err code
  pub does : (x : X) → row.object ≡ Some x → find (refuses row) order ≡ None → served row ≡ row.does x
