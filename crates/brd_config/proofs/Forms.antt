-- What is spelled in a statement's form is read as this statement.
use Rattle.std.proofs.Common.{◌≡◌, ℕ, zero, suc, ◌≤◌, Bool, true, false, List, [], ◌∷◌, ◌++◌, length, map, drop, Some, Result, Ok, refl, sym, ap, subst, ◌∙◌, arith}
use Rattle.std.proofs.lemmas.Bool.{eq-eqb}
use Rattle.std.proofs.lemmas.List.{length-append, length-map}
use Rattle.std.specs.Prelude.{codes, nat_eq}
use Rattle.std.specs.Int.RustNames.{bit_or}
use Rattle.brd_text.specs.Tokens.{Token, Placed, Text, first, others}
use Rattle.brd_text.specs.Tokens.Token.{Run, Mark}
use Rattle.brd_text.specs.Turns.{repeated, flow_of}
use Rattle.brd_text.specs.Spelling.{bare_tokens}
use Rattle.brd_config.specs.declared.fault.ConfigFault.{ConfigFault}
use Rattle.brd_config.specs.declared.fault.ConfigFault.TheVariants.{NoMemory}
use Rattle.brd_config.specs.declared.objects.Operand.{Operand}
use Rattle.brd_config.specs.declared.objects.Stack.{Stack}
use Rattle.brd_config.specs.declared.statement.AttributeNames.{AttributeNames}
use Rattle.brd_config.specs.declared.statement.AttributeNames.TheVariants as named
use Rattle.brd_config.specs.declared.statement.Statement.{Statement}
use Rattle.brd_config.specs.declared.statement.Statement.TheVariants.{Board, Class, ClassEnd, Task, Semaphore, Flag, Queue, SpinLock, Mutex, Pool, Mailbox, Cyclic, Alarm, Handler}
use Rattle.brd_config.specs.declared.statement.TaskStatement.{TaskStatement}
use Rattle.brd_config.specs.declared.statement.SemaphoreStatement.{SemaphoreStatement}
use Rattle.brd_config.specs.declared.statement.FlagStatement.{FlagStatement}
use Rattle.brd_config.specs.declared.statement.QueueStatement.{QueueStatement}
use Rattle.brd_config.specs.declared.statement.SpinLockStatement.{SpinLockStatement}
use Rattle.brd_config.specs.declared.statement.MutexStatement.{MutexStatement}
use Rattle.brd_config.specs.declared.statement.PoolStatement.{PoolStatement}
use Rattle.brd_config.specs.declared.statement.MailboxStatement.{MailboxStatement}
use Rattle.brd_config.specs.declared.statement.CyclicStatement.{CyclicStatement}
use Rattle.brd_config.specs.declared.statement.AlarmStatement.{AlarmStatement}
use Rattle.brd_config.specs.declared.statement.HandlerStatement.{HandlerStatement}
use Rattle.brd_config.specs.Statements.{keyword_of, board_at, class_at, task_tail_at, task_at, semaphore_at, flag_at, queue_at, spin_lock_at, mutex_at, pool_at, mailbox_at, cyclic_at, alarm_at, handler_at, behind_keyword, statement_at}
use Rattle.brd_config.specs.Reading.{attribute_of, is_null, number_at, mark_at, attribute_at, joint_at, attribute_step, attributes_at, operand_at, stack_at, area_at, null_at, class_number_at, protocol_at, listed_number_at, listed_operand_at, head_at, tail_at}
use Rattle.brd_config.specs.Grammar.{Piece, Joined, AreSpelled, form}
use Rattle.brd_config.specs.Grammar.Piece.{Exactly, Sign, Numeral, Attributes, Value, StackValue, Area, ClassName, Protocol}
use Rattle.brd_config.specs.Grammar.Joined.{last, bar}

-- the first token of a text, and the rest
pub first_bare : (t : Text) (w : Token) (ws : List Token) → bare_tokens t ≡ w ∷ ws → ((first t).token ≡ w) × (bare_tokens (others t) ≡ ws)
first_bare t w ws e = by_tokens t.tokens e
  where
    by_tokens : (ps : List Placed) → map (λ p. p.token) ps ≡ w ∷ ws → ((first (record { tokens = ps; end = t.end })).token ≡ w) × (map (λ p. p.token) (drop 1 ps) ≡ ws)
    by_tokens [] e = absurd (cc)
    by_tokens (p ∷ ps) e = (cc, cc)

-- The pieces are spelled at the front of the text.
abbrev pub Ahead : List Piece → Text → Type 0
Ahead ps t = AreSpelled ps (bare_tokens t)

-- a piece of one token
one_piece : (w : Token) (ps : List Piece) (t : Text) (front rest : List Token) → front ≡ w ∷ [] → AreSpelled ps rest → bare_tokens t ≡ front ++ rest → ((first t).token ≡ w) × Ahead ps (others t)
one_piece w ps t front rest one later e =
    let f = first_bare t w rest (e ∙ ap (λ (ws : List Token). ws ++ rest) one) in
    (f.0, subst (AreSpelled ps) (sym f.1) later)

pub sign_step : (b : ℕ) (ps : List Piece) (t : Text) → Ahead (Sign b ∷ ps) t → (mark_at b t ≡ Ok (others t)) × Ahead ps (others t)
unfolding mark_at
sign_step b ps t s =
    let one = one_piece (Mark b) ps t s.0 s.1 s.2 s.3 s.4 in
    (rw (one.0, eq-eqb b b refl) refl, one.1)

pub numeral_step : (n : ℕ) (ps : List Piece) (t : Text) → Ahead (Numeral n ∷ ps) t → (number_at t ≡ Ok (n, others t)) × Ahead ps (others t)
unfolding number_at
numeral_step n ps t s =
    let one = one_piece (Run s.2.0) ps t s.0 s.1 s.2.1 s.3 s.4 in
    (rw (one.0, s.2.2) refl, one.1)

pub value_step : (v : Operand) (ps : List Piece) (t : Text) → Ahead (Value v ∷ ps) t → (operand_at t ≡ Ok (v, others t)) × Ahead ps (others t)
unfolding operand_at
value_step v ps t s =
    let one = one_piece (Run s.2.0) ps t s.0 s.1 s.2.1 s.3 s.4 in
    (rw (one.0, s.2.2) refl, one.1)

pub stack_step : (v : Stack) (ps : List Piece) (t : Text) → Ahead (StackValue v ∷ ps) t → (stack_at t ≡ Ok (v, others t)) × Ahead ps (others t)
unfolding stack_at
stack_step v ps t s =
    let one = one_piece (Run s.2.0) ps t s.0 s.1 s.2.1 s.3 s.4 in
    (rw (one.0, s.2.2) refl, one.1)

pub area_step : (ps : List Piece) (t : Text) → Ahead (Area ∷ ps) t → (area_at t ≡ Ok (others t)) × Ahead ps (others t)
unfolding area_at
area_step ps t s =
    let one = one_piece (Run s.2.0) ps t s.0 s.1 s.2.1 s.3 s.4 in
    (rw (one.0, s.2.2) refl, one.1)

pub class_name_step : (n : ℕ) (ps : List Piece) (t : Text) → Ahead (ClassName n ∷ ps) t → (class_number_at t ≡ Ok (n, others t)) × Ahead ps (others t)
unfolding class_number_at
class_name_step n ps t s =
    let one = one_piece (Run s.2.0) ps t s.0 s.1 s.2.1 s.3 s.4 in
    (rw (one.0, s.2.2) refl, one.1)

pub protocol_step : (n : ℕ) (ps : List Piece) (t : Text) → Ahead (Protocol n ∷ ps) t → (protocol_at t ≡ Ok (n, others t)) × Ahead ps (others t)
unfolding protocol_at
protocol_step n ps t s =
    let one = one_piece (Run s.2.0) ps t s.0 s.1 s.2.1 s.3 s.4 in
    (rw (one.0, s.2.2) refl, one.1)

pub null_step : (ps : List Piece) (t : Text) → Ahead (Exactly (codes "NULL") ∷ ps) t → (null_at t ≡ Ok (others t)) × Ahead ps (others t)
unfolding null_at is_null
null_step ps t s =
    let one = one_piece (Run (codes "NULL")) ps t s.0 s.1 s.2 s.3 s.4 in
    (rw one.0 refl, one.1)

pub exactly_step : (run : List ℕ) (ps : List Piece) (t : Text) → Ahead (Exactly run ∷ ps) t → ((first t).token ≡ Run run) × Ahead ps (others t)
exactly_step run ps t s = one_piece (Run run) ps t s.0 s.1 s.2 s.3 s.4

pub first_sign : (b : ℕ) (ps : List Piece) (t : Text) → Ahead (Sign b ∷ ps) t → ((first t).token ≡ Mark b) × Ahead ps (others t)
first_sign b ps t s = one_piece (Mark b) ps t s.0 s.1 s.2 s.3 s.4

-- ---- attributes

-- a run, a mark and what follows
one_attribute : (names : AttributeNames) (end before bits b : ℕ) (run : List ℕ) (t : Text) (more : Bool) (rest : List Token) → attribute_of names run ≡ Some bits → bare_tokens t ≡ Run run ∷ Mark b ∷ rest
    → joint_at end (others t) ≡ Ok (more, others (others t)) → attribute_step names end (before, t) ≡ Ok (flow_of more (bit_or before bits, others (others t)) (bit_or before bits, others (others t)))
unfolding attribute_step attribute_at
one_attribute names end before bits b run t more rest h e joint =
    let f = first_bare t (Run run) (Mark b ∷ rest) e in
    rw (f.0, h, joint) refl

-- The mark that ends attributes is no bar.
joint_ends : (end : ℕ) (t : Text) → nat_eq end 124 ≡ false → (first t).token ≡ Mark end → joint_at end t ≡ Ok (false, others t)
unfolding joint_at
joint_ends end t other e = rw (e, other, eq-eqb end end refl) refl

joint_goes_on : (end : ℕ) (t : Text) → (first t).token ≡ Mark 124 → joint_at end t ≡ Ok (true, others t)
unfolding joint_at
joint_goes_on end t e = rw e refl

-- with as many turns as there are tokens
joined : (names : AttributeNames) (end before bits : ℕ) (tokens : List Token) → nat_eq end 124 ≡ false → Joined names before bits tokens → (n : ℕ) (ps : List Piece) (t : Text) (rest : List Token) → length tokens ≤ n → AreSpelled ps rest → bare_tokens t ≡ tokens ++ Mark end ∷ rest
    → (u : Text) × (repeated NoMemory (attribute_step names end) n (before, t) ≡ Ok (bits, u)) × Ahead ps u
unfolding repeated
joined names end before _ _ other (last _ _ run bits h) zero ps t rest le later e = absurd (omega arith)
joined names end before _ _ other (last _ _ run bits h) (suc n) ps t rest le later e =
    let f = first_bare t (Run run) (Mark end ∷ rest) e in
    let g = first_bare (others t) (Mark end) rest f.1 in
    let step = one_attribute names end before bits end run t false rest h e (joint_ends end (others t) other g.0) in
    (others (others t), rw step refl, subst (AreSpelled ps) (sym g.1) later)
joined names end before _ _ other (bar _ _ run bits all tokens h j) zero ps t rest le later e = absurd (omega arith)
joined names end before _ _ other (bar _ _ run bits all tokens h j) (suc n) ps t rest le later e =
    let f = first_bare t (Run run) (Mark 124 ∷ (tokens ++ Mark end ∷ rest)) e in
    let g = first_bare (others t) (Mark 124) (tokens ++ Mark end ∷ rest) f.1 in
    let step = one_attribute names end before bits 124 run t true (tokens ++ Mark end ∷ rest) h e (joint_goes_on end (others t) g.0) in
    let again = joined names end (bit_or before bits) all tokens other j n ps (others (others t)) rest (omega arith) later g.1 in
    (again.0, rw step again.1, again.2)

attributes_step : (names : AttributeNames) (end bits : ℕ) (ps : List Piece) (t : Text) → nat_eq end 124 ≡ false → Ahead (Attributes names bits ∷ Sign end ∷ ps) t → (u : Text) × (attributes_at names end t ≡ Ok (bits, u)) × Ahead ps u
unfolding attributes_at
attributes_step names end bits ps t other s =
    let e : bare_tokens t ≡ s.0 ++ Mark end ∷ s.3.1 = s.4 ∙ ap (λ (ws : List Token). s.0 ++ ws) (s.3.4 ∙ ap (λ (ws : List Token). ws ++ s.3.1) s.3.2) in
    let long : length s.0 ≤ suc (length t.tokens) = omega (arith, ap length e, length-append s.0 (Mark end ∷ s.3.1), length-map t.tokens (λ p. p.token)) in
    joined names end 0 bits s.0 other s.2 (suc (length t.tokens)) ps t s.3.1 long s.3.3 e

-- ---- statements

-- the text after what a reader takes
abbrev pub Reads : {X : Type 0} → Result (X × Text) ConfigFault → X → List Piece → Type 0
Reads read x ps = (u : Text) × (read ≡ Ok (x, u)) × Ahead ps u

listed_number_step : (n : ℕ) (ps : List Piece) (t : Text) → Ahead (Numeral n ∷ Sign 44 ∷ ps) t → (listed_number_at t ≡ Ok (n, others (others t))) × Ahead ps (others (others t))
unfolding listed_number_at
listed_number_step n ps t s =
    let a = numeral_step n (Sign 44 ∷ ps) t s in
    let b = sign_step 44 ps (others t) a.1 in
    (rw (a.0, b.0) refl, b.1)

listed_operand_step : (o : Operand) (ps : List Piece) (t : Text) → Ahead (Value o ∷ Sign 44 ∷ ps) t → (listed_operand_at t ≡ Ok (o, others (others t))) × Ahead ps (others (others t))
unfolding listed_operand_at
listed_operand_step o ps t s =
    let a = value_step o (Sign 44 ∷ ps) t s in
    let b = sign_step 44 ps (others t) a.1 in
    (rw (a.0, b.0) refl, b.1)

head_step : (names : AttributeNames) (end id attributes : ℕ) (ps : List Piece) (t : Text) → nat_eq end 124 ≡ false → Ahead (Sign 40 ∷ Numeral id ∷ Sign 44 ∷ Sign 123 ∷ Attributes names attributes ∷ Sign end ∷ ps) t → (u : Text) × (head_at names end t ≡ Ok (id, attributes, u)) × Ahead ps u
unfolding head_at
head_step names end id attributes ps t other s =
    let a = sign_step 40 (Numeral id ∷ Sign 44 ∷ Sign 123 ∷ Attributes names attributes ∷ Sign end ∷ ps) t s in
    let b = listed_number_step id (Sign 123 ∷ Attributes names attributes ∷ Sign end ∷ ps) (others t) a.1 in
    let c = sign_step 123 (Attributes names attributes ∷ Sign end ∷ ps) (others (others (others t))) b.1 in
    let d = attributes_step names end attributes ps (others (others (others (others t)))) other c.1 in
    (d.0, rw (a.0, b.0, c.0, d.1) refl, d.2)

tail_step : (ps : List Piece) (t : Text) → Ahead (Sign 125 ∷ Sign 41 ∷ Sign 59 ∷ ps) t → (tail_at t ≡ Ok (others (others (others t)))) × Ahead ps (others (others (others t)))
unfolding tail_at
tail_step ps t s =
    let a = sign_step 125 (Sign 41 ∷ Sign 59 ∷ ps) t s in
    let b = sign_step 41 (Sign 59 ∷ ps) (others t) a.1 in
    let c = sign_step 59 ps (others (others t)) b.1 in
    (rw (a.0, b.0, c.0) refl, c.1)

pub board_again : (processors ram : ℕ) (ps : List Piece) (t : Text) → Ahead (Sign 40 ∷ Numeral processors ∷ Sign 44 ∷ Numeral ram ∷ Sign 41 ∷ Sign 59 ∷ ps) t → (u : Text) × (board_at t ≡ Ok (processors, ram, u)) × Ahead ps u
unfolding board_at
board_again processors ram ps t s =
    let a = sign_step 40 (Numeral processors ∷ Sign 44 ∷ Numeral ram ∷ Sign 41 ∷ Sign 59 ∷ ps) t s in
    let t1 = others t in
    let b = listed_number_step processors (Numeral ram ∷ Sign 41 ∷ Sign 59 ∷ ps) t1 a.1 in
    let t2 = others (others t1) in
    let c = numeral_step ram (Sign 41 ∷ Sign 59 ∷ ps) t2 b.1 in
    let t3 = others t2 in
    let d = sign_step 41 (Sign 59 ∷ ps) t3 c.1 in
    let t4 = others t3 in
    let f = sign_step 59 ps t4 d.1 in
    (others t4, rw (a.0, b.0, c.0, d.0, f.0) refl, f.1)

class_again : (n : ℕ) (ps : List Piece) (t : Text) → Ahead (Sign 40 ∷ ClassName n ∷ Sign 41 ∷ Sign 123 ∷ ps) t → Reads (class_at t) (Class n) ps
unfolding class_at
class_again n ps t s =
    let a = sign_step 40 (ClassName n ∷ Sign 41 ∷ Sign 123 ∷ ps) t s in
    let t1 = others t in
    let b = class_name_step n (Sign 41 ∷ Sign 123 ∷ ps) t1 a.1 in
    let t2 = others t1 in
    let c = sign_step 41 (Sign 123 ∷ ps) t2 b.1 in
    let t3 = others t2 in
    let d = sign_step 123 ps t3 c.1 in
    (others t3, rw (a.0, b.0, c.0, d.0) refl, d.1)

-- ( id , { attributes , fields } ) ; and what follows
abbrev pub object_pieces : ℕ → ℕ → List Piece → List Piece → List Piece
object_pieces id attributes fields ps = Sign 40 ∷ Numeral id ∷ Sign 44 ∷ Sign 123 ∷ Attributes named.Common attributes ∷ Sign 44 ∷ (fields ++ Sign 125 ∷ Sign 41 ∷ Sign 59 ∷ ps)

task_tail_step : (priority size : ℕ) (stack : Stack) (ps : List Piece) (t : Text)
    → Ahead (Numeral priority ∷ Sign 44 ∷ Numeral size ∷ Sign 44 ∷ StackValue stack ∷ Sign 125 ∷ Sign 41 ∷ Sign 59 ∷ ps) t → (u : Text) × (task_tail_at t ≡ Ok (priority, size, stack, u)) × Ahead ps u
unfolding task_tail_at
task_tail_step priority size stack ps t s =
    let end = Sign 125 ∷ Sign 41 ∷ Sign 59 ∷ ps in
    let a = listed_number_step priority (Numeral size ∷ Sign 44 ∷ StackValue stack ∷ end) t s in
    let t1 = others (others t) in
    let b = listed_number_step size (StackValue stack ∷ end) t1 a.1 in
    let t2 = others (others t1) in
    let c = stack_step stack end t2 b.1 in
    let t3 = others t2 in
    let d = tail_step ps t3 c.1 in
    (others (others (others t3)), rw (a.0, b.0, c.0, d.0) refl, d.1)

task_again : (x : TaskStatement) (ps : List Piece) (t : Text)
    → Ahead (object_pieces x.id x.attributes (Value x.exinf ∷ Sign 44 ∷ Value x.address ∷ Sign 44 ∷ Numeral x.priority ∷ Sign 44 ∷ Numeral x.stack_size ∷ Sign 44 ∷ StackValue x.stack ∷ []) ps) t → Reads (task_at t) (Task x) ps
unfolding task_at
task_again x ps t s =
    let rest = Numeral x.priority ∷ Sign 44 ∷ Numeral x.stack_size ∷ Sign 44 ∷ StackValue x.stack ∷ Sign 125 ∷ Sign 41 ∷ Sign 59 ∷ ps in
    let h = head_step named.Common 44 x.id x.attributes (Value x.exinf ∷ Sign 44 ∷ Value x.address ∷ Sign 44 ∷ rest) t refl s in
    let t0 = h.0 in
    let a = listed_operand_step x.exinf (Value x.address ∷ Sign 44 ∷ rest) t0 h.2 in
    let t1 = others (others t0) in
    let b = listed_operand_step x.address rest t1 a.1 in
    let t2 = others (others t1) in
    let c = task_tail_step x.priority x.stack_size x.stack ps t2 b.1 in
    (c.0, rw (h.1, a.0, b.0, c.1) refl, c.2)

semaphore_again : (x : SemaphoreStatement) (ps : List Piece) (t : Text) → Ahead (object_pieces x.id x.attributes (Numeral x.initial ∷ Sign 44 ∷ Numeral x.maximum ∷ []) ps) t → Reads (semaphore_at t) (Semaphore x) ps
unfolding semaphore_at
semaphore_again x ps t s =
    let end = Sign 125 ∷ Sign 41 ∷ Sign 59 ∷ ps in
    let h = head_step named.Common 44 x.id x.attributes (Numeral x.initial ∷ Sign 44 ∷ Numeral x.maximum ∷ end) t refl s in
    let t0 = h.0 in
    let a = listed_number_step x.initial (Numeral x.maximum ∷ end) t0 h.2 in
    let t1 = others (others t0) in
    let b = numeral_step x.maximum end t1 a.1 in
    let t2 = others t1 in
    let l = tail_step ps t2 b.1 in
    (others (others (others t2)), rw (h.1, a.0, b.0, l.0) refl, l.1)

flag_again : (x : FlagStatement) (ps : List Piece) (t : Text) → Ahead (object_pieces x.id x.attributes (Numeral x.pattern ∷ []) ps) t → Reads (flag_at t) (Flag x) ps
unfolding flag_at
flag_again x ps t s =
    let end = Sign 125 ∷ Sign 41 ∷ Sign 59 ∷ ps in
    let h = head_step named.Common 44 x.id x.attributes (Numeral x.pattern ∷ end) t refl s in
    let t0 = h.0 in
    let a = numeral_step x.pattern end t0 h.2 in
    let t1 = others t0 in
    let l = tail_step ps t1 a.1 in
    (others (others (others t1)), rw (h.1, a.0, l.0) refl, l.1)

queue_again : (x : QueueStatement) (ps : List Piece) (t : Text) → Ahead (object_pieces x.id x.attributes (Numeral x.capacity ∷ Sign 44 ∷ Area ∷ []) ps) t → Reads (queue_at t) (Queue x) ps
unfolding queue_at
queue_again x ps t s =
    let end = Sign 125 ∷ Sign 41 ∷ Sign 59 ∷ ps in
    let h = head_step named.Common 44 x.id x.attributes (Numeral x.capacity ∷ Sign 44 ∷ Area ∷ end) t refl s in
    let t0 = h.0 in
    let a = listed_number_step x.capacity (Area ∷ end) t0 h.2 in
    let t1 = others (others t0) in
    let b = area_step end t1 a.1 in
    let t2 = others t1 in
    let l = tail_step ps t2 b.1 in
    (others (others (others t2)), rw (h.1, a.0, b.0, l.0) refl, l.1)

-- ( id , { attributes } ) ; and what follows
abbrev pub bare_object_pieces : ℕ → ℕ → List Piece → List Piece
bare_object_pieces id attributes ps = Sign 40 ∷ Numeral id ∷ Sign 44 ∷ Sign 123 ∷ Attributes named.Common attributes ∷ Sign 125 ∷ Sign 41 ∷ Sign 59 ∷ ps

spin_lock_again : (x : SpinLockStatement) (ps : List Piece) (t : Text) → Ahead (bare_object_pieces x.id x.attributes ps) t → Reads (spin_lock_at t) (SpinLock x) ps
unfolding spin_lock_at
spin_lock_again x ps t s =
    let h = head_step named.Common 125 x.id x.attributes (Sign 41 ∷ Sign 59 ∷ ps) t refl s in
    let t0 = h.0 in
    let a = sign_step 41 (Sign 59 ∷ ps) t0 h.2 in
    let b = sign_step 59 ps (others t0) a.1 in
    (others (others t0), rw (h.1, a.0, b.0) refl, b.1)

-- ( id , { attribute , ceiling } ) ; and what follows
abbrev pub mutex_pieces : ℕ → ℕ → ℕ → List Piece → List Piece
mutex_pieces id protocol ceiling ps = Sign 40 ∷ Numeral id ∷ Sign 44 ∷ Sign 123 ∷ Protocol protocol ∷ Sign 44 ∷ Numeral ceiling ∷ Sign 125 ∷ Sign 41 ∷ Sign 59 ∷ ps

mutex_again : (x : MutexStatement) (ps : List Piece) (t : Text) → Ahead (mutex_pieces x.id x.protocol x.ceiling ps) t → Reads (mutex_at t) (Mutex x) ps
unfolding mutex_at
mutex_again x ps t s =
    let end = Sign 125 ∷ Sign 41 ∷ Sign 59 ∷ ps in
    let a = sign_step 40 (Numeral x.id ∷ Sign 44 ∷ Sign 123 ∷ Protocol x.protocol ∷ Sign 44 ∷ Numeral x.ceiling ∷ end) t s in
    let t1 = others t in
    let b = listed_number_step x.id (Sign 123 ∷ Protocol x.protocol ∷ Sign 44 ∷ Numeral x.ceiling ∷ end) t1 a.1 in
    let t2 = others (others t1) in
    let c = sign_step 123 (Protocol x.protocol ∷ Sign 44 ∷ Numeral x.ceiling ∷ end) t2 b.1 in
    let t3 = others t2 in
    let d = protocol_step x.protocol (Sign 44 ∷ Numeral x.ceiling ∷ end) t3 c.1 in
    let t4 = others t3 in
    let f = sign_step 44 (Numeral x.ceiling ∷ end) t4 d.1 in
    let t5 = others t4 in
    let g = numeral_step x.ceiling end t5 f.1 in
    let t6 = others t5 in
    let l = tail_step ps t6 g.1 in
    (others (others (others t6)), rw (a.0, b.0, c.0, d.0, f.0, g.0, l.0) refl, l.1)

pool_again : (x : PoolStatement) (ps : List Piece) (t : Text)
    → Ahead (object_pieces x.id x.attributes (Numeral x.count ∷ Sign 44 ∷ Numeral x.size ∷ Sign 44 ∷ StackValue x.area ∷ []) ps) t → Reads (pool_at t) (Pool x) ps
unfolding pool_at
pool_again x ps t s =
    let end = Sign 125 ∷ Sign 41 ∷ Sign 59 ∷ ps in
    let h = head_step named.Common 44 x.id x.attributes (Numeral x.count ∷ Sign 44 ∷ Numeral x.size ∷ Sign 44 ∷ StackValue x.area ∷ end) t refl s in
    let t0 = h.0 in
    let a = listed_number_step x.count (Numeral x.size ∷ Sign 44 ∷ StackValue x.area ∷ end) t0 h.2 in
    let t1 = others (others t0) in
    let b = listed_number_step x.size (StackValue x.area ∷ end) t1 a.1 in
    let t2 = others (others t1) in
    let c = stack_step x.area end t2 b.1 in
    let t3 = others t2 in
    let l = tail_step ps t3 c.1 in
    (others (others (others t3)), rw (h.1, a.0, b.0, c.0, l.0) refl, l.1)

-- ( id , { attributes , priorities , NULL } ) ; and what follows
abbrev pub mailbox_pieces : ℕ → ℕ → ℕ → List Piece → List Piece
mailbox_pieces id attributes priorities ps = Sign 40 ∷ Numeral id ∷ Sign 44 ∷ Sign 123 ∷ Attributes named.Mailbox attributes ∷ Sign 44 ∷ Numeral priorities ∷ Sign 44 ∷ Exactly (codes "NULL") ∷ Sign 125 ∷ Sign 41 ∷ Sign 59 ∷ ps

mailbox_again : (x : MailboxStatement) (ps : List Piece) (t : Text) → Ahead (mailbox_pieces x.id x.attributes x.priorities ps) t → Reads (mailbox_at t) (Mailbox x) ps
unfolding mailbox_at
mailbox_again x ps t s =
    let end = Sign 125 ∷ Sign 41 ∷ Sign 59 ∷ ps in
    let h = head_step named.Mailbox 44 x.id x.attributes (Numeral x.priorities ∷ Sign 44 ∷ Exactly (codes "NULL") ∷ end) t refl s in
    let t0 = h.0 in
    let a = listed_number_step x.priorities (Exactly (codes "NULL") ∷ end) t0 h.2 in
    let t1 = others (others t0) in
    let b = null_step end t1 a.1 in
    let t2 = others t1 in
    let l = tail_step ps t2 b.1 in
    (others (others (others t2)), rw (h.1, a.0, b.0, l.0) refl, l.1)

-- ( id , { attributes , exinf , address , period , phase } ) ; and what follows
abbrev pub cyclic_pieces : ℕ → ℕ → Operand → Operand → ℕ → ℕ → List Piece → List Piece
cyclic_pieces id attributes exinf address period phase ps =
    Sign 40 ∷ Numeral id ∷ Sign 44 ∷ Sign 123 ∷ Attributes named.Cyclic attributes ∷ Sign 44 ∷ Value exinf ∷ Sign 44 ∷ Value address ∷ Sign 44 ∷ Numeral period
    ∷ Sign 44 ∷ Numeral phase ∷ Sign 125 ∷ Sign 41 ∷ Sign 59 ∷ ps

cyclic_again : (x : CyclicStatement) (ps : List Piece) (t : Text) → Ahead (cyclic_pieces x.id x.attributes x.exinf x.address x.period x.phase ps) t → Reads (cyclic_at t) (Cyclic x) ps
unfolding cyclic_at
cyclic_again x ps t s =
    let end = Sign 125 ∷ Sign 41 ∷ Sign 59 ∷ ps in
    let rest = Numeral x.period ∷ Sign 44 ∷ Numeral x.phase ∷ end in
    let h = head_step named.Cyclic 44 x.id x.attributes (Value x.exinf ∷ Sign 44 ∷ Value x.address ∷ Sign 44 ∷ rest) t refl s in
    let t0 = h.0 in
    let a = listed_operand_step x.exinf (Value x.address ∷ Sign 44 ∷ rest) t0 h.2 in
    let t1 = others (others t0) in
    let b = listed_operand_step x.address rest t1 a.1 in
    let t2 = others (others t1) in
    let c = listed_number_step x.period (Numeral x.phase ∷ end) t2 b.1 in
    let t3 = others (others t2) in
    let d = numeral_step x.phase end t3 c.1 in
    let t4 = others t3 in
    let l = tail_step ps t4 d.1 in
    (others (others (others t4)), rw (h.1, a.0, b.0, c.0, d.0, l.0) refl, l.1)

alarm_again : (x : AlarmStatement) (ps : List Piece) (t : Text) → Ahead (object_pieces x.id x.attributes (Value x.exinf ∷ Sign 44 ∷ Value x.address ∷ []) ps) t → Reads (alarm_at t) (Alarm x) ps
unfolding alarm_at
alarm_again x ps t s =
    let end = Sign 125 ∷ Sign 41 ∷ Sign 59 ∷ ps in
    let h = head_step named.Common 44 x.id x.attributes (Value x.exinf ∷ Sign 44 ∷ Value x.address ∷ end) t refl s in
    let t0 = h.0 in
    let a = listed_operand_step x.exinf (Value x.address ∷ end) t0 h.2 in
    let t1 = others (others t0) in
    let b = value_step x.address end t1 a.1 in
    let t2 = others t1 in
    let l = tail_step ps t2 b.1 in
    (others (others (others t2)), rw (h.1, a.0, b.0, l.0) refl, l.1)

handler_again : (x : HandlerStatement) (ps : List Piece) (t : Text) → Ahead (object_pieces x.line x.attributes (Value x.address ∷ []) ps) t → Reads (handler_at t) (Handler x) ps
unfolding handler_at
handler_again x ps t s =
    let end = Sign 125 ∷ Sign 41 ∷ Sign 59 ∷ ps in
    let h = head_step named.Common 44 x.line x.attributes (Value x.address ∷ end) t refl s in
    let t0 = h.0 in
    let a = value_step x.address end t0 h.2 in
    let t1 = others t0 in
    let l = tail_step ps t1 a.1 in
    (others (others (others t1)), rw (h.1, a.0, l.0) refl, l.1)

-- Where a statement may stand: classes outside of classes, their ends inside; mutexes, memory pools, mailboxes, cyclic
-- handlers and alarm handlers in the profile.
abbrev pub MayStand : Bool → Bool → Statement → Type 0
MayStand standard in_class (Board processors ram) = Unit {0}
MayStand standard in_class (Class n) = in_class ≡ false
MayStand standard in_class ClassEnd = in_class ≡ true
MayStand standard in_class (Task x) = Unit {0}
MayStand standard in_class (Semaphore x) = Unit {0}
MayStand standard in_class (Flag x) = Unit {0}
MayStand standard in_class (Queue x) = Unit {0}
MayStand standard in_class (SpinLock x) = Unit {0}
MayStand standard in_class (Mutex x) = standard ≡ true
MayStand standard in_class (Pool x) = standard ≡ true
MayStand standard in_class (Mailbox x) = standard ≡ true
MayStand standard in_class (Cyclic x) = standard ≡ true
MayStand standard in_class (Alarm x) = standard ≡ true
MayStand standard in_class (Handler x) = Unit {0}

pub statement_again : (standard in_class : Bool) (x : Statement) (ps : List Piece) (t : Text) → MayStand standard in_class x → Ahead (form x ++ ps) t → Reads (statement_at standard in_class t) x ps
unfolding statement_at behind_keyword keyword_of
statement_again standard in_class (Board processors ram) ps t may s =
    let f = exactly_step (codes "BOARD") (Sign 40 ∷ Numeral processors ∷ Sign 44 ∷ Numeral ram ∷ Sign 41 ∷ Sign 59 ∷ ps) t s in
    let r = board_again processors ram ps (others t) f.1 in
    (r.0, rw (f.0, r.1) refl, r.2)
statement_again standard in_class (Class n) ps t may s =
    let f = exactly_step (codes "CLASS") (Sign 40 ∷ ClassName n ∷ Sign 41 ∷ Sign 123 ∷ ps) t s in
    let r = class_again n ps (others t) f.1 in
    (r.0, rw (f.0, may) r.1, r.2)
statement_again standard in_class ClassEnd ps t may s =
    let f = first_sign 125 ps t s in
    (others t, rw (f.0, may) refl, f.1)
statement_again standard in_class (Task x) ps t may s =
    let f = exactly_step (codes "CRE_TSK") (object_pieces x.id x.attributes (Value x.exinf ∷ Sign 44 ∷ Value x.address ∷ Sign 44 ∷ Numeral x.priority ∷ Sign 44 ∷ Numeral x.stack_size ∷ Sign 44 ∷ StackValue x.stack ∷ []) ps) t s in
    let r = task_again x ps (others t) f.1 in
    (r.0, rw f.0 r.1, r.2)
statement_again standard in_class (Semaphore x) ps t may s =
    let f = exactly_step (codes "CRE_SEM") (object_pieces x.id x.attributes (Numeral x.initial ∷ Sign 44 ∷ Numeral x.maximum ∷ []) ps) t s in
    let r = semaphore_again x ps (others t) f.1 in
    (r.0, rw f.0 r.1, r.2)
statement_again standard in_class (Flag x) ps t may s =
    let f = exactly_step (codes "CRE_FLG") (object_pieces x.id x.attributes (Numeral x.pattern ∷ []) ps) t s in
    let r = flag_again x ps (others t) f.1 in
    (r.0, rw f.0 r.1, r.2)
statement_again standard in_class (Queue x) ps t may s =
    let f = exactly_step (codes "CRE_DTQ") (object_pieces x.id x.attributes (Numeral x.capacity ∷ Sign 44 ∷ Area ∷ []) ps) t s in
    let r = queue_again x ps (others t) f.1 in
    (r.0, rw f.0 r.1, r.2)
statement_again standard in_class (SpinLock x) ps t may s =
    let f = exactly_step (codes "CRE_SPN") (bare_object_pieces x.id x.attributes ps) t s in
    let r = spin_lock_again x ps (others t) f.1 in
    (r.0, rw f.0 r.1, r.2)
statement_again standard in_class (Mutex x) ps t may s =
    let f = exactly_step (codes "CRE_MTX") (mutex_pieces x.id x.protocol x.ceiling ps) t s in
    let r = mutex_again x ps (others t) f.1 in
    (r.0, rw (f.0, may) r.1, r.2)
statement_again standard in_class (Pool x) ps t may s =
    let f = exactly_step (codes "CRE_MPF") (object_pieces x.id x.attributes (Numeral x.count ∷ Sign 44 ∷ Numeral x.size ∷ Sign 44 ∷ StackValue x.area ∷ []) ps) t s in
    let r = pool_again x ps (others t) f.1 in
    (r.0, rw (f.0, may) r.1, r.2)
statement_again standard in_class (Mailbox x) ps t may s =
    let f = exactly_step (codes "CRE_MBX") (mailbox_pieces x.id x.attributes x.priorities ps) t s in
    let r = mailbox_again x ps (others t) f.1 in
    (r.0, rw (f.0, may) r.1, r.2)
statement_again standard in_class (Cyclic x) ps t may s =
    let f = exactly_step (codes "CRE_CYC") (cyclic_pieces x.id x.attributes x.exinf x.address x.period x.phase ps) t s in
    let r = cyclic_again x ps (others t) f.1 in
    (r.0, rw (f.0, may) r.1, r.2)
statement_again standard in_class (Alarm x) ps t may s =
    let f = exactly_step (codes "CRE_ALM") (object_pieces x.id x.attributes (Value x.exinf ∷ Sign 44 ∷ Value x.address ∷ []) ps) t s in
    let r = alarm_again x ps (others t) f.1 in
    (r.0, rw (f.0, may) r.1, r.2)
statement_again standard in_class (Handler x) ps t may s =
    let f = exactly_step (codes "DEF_INH") (object_pieces x.line x.attributes (Value x.address ∷ []) ps) t s in
    let r = handler_again x ps (others t) f.1 in
    (r.0, rw f.0 r.1, r.2)
