-- What is read as a statement is spelled in its form.
use Rattle.std.proofs.Common.{◌≡◌, ℕ, zero, suc, Bool, true, false, cond, List, [], ◌∷◌, ◌++◌, length, map, drop, Option, Some, None, Result, Ok, Err, refl, sym, ap, subst, ◌∙◌, inl, inr, append_assoc}
use Rattle.std.specs.Prelude.{◌&&◌, nat_eq, codes}
use Rattle.std.specs.Str.{bytes_eq}
use Rattle.std.specs.Int.RustNames.{bit_or}
use Rattle.std.specs.List.{AllByRecursion}
use Rattle.std.proofs.lemmas.Bool.{cases_Bool, and_parts, eqb-true}
use Rattle.std.proofs.lemmas.Slice.Eq.{bytes_eq-Decides}
use Rattle.brd_text.specs.Tokens.{Token, Placed, Text, first, others}
use Rattle.brd_text.specs.Tokens.Token.{Run, Mark, Unclosed, End}
use Rattle.brd_text.specs.Numbers.{number_of}
use Rattle.brd_text.specs.Faults.{◌>>=◌, or_fault}
use Rattle.brd_text.specs.Turns.{Flow, followed, repeated, flow_of}
use Rattle.brd_text.specs.Spelling.{bare_tokens}
use Rattle.brd_text.proofs.FaultLemmas.{bind_ok, ok_is, passed}
use Rattle.brd_config.specs.declared.fault.ConfigFault.{ConfigFault}
use Rattle.brd_config.specs.declared.fault.ConfigFault.TheVariants.{NoMemory, Syntax}
use Rattle.brd_config.specs.declared.objects.Operand.{Operand}
use Rattle.brd_config.specs.declared.objects.Stack.{Stack}
use Rattle.brd_config.specs.declared.statement.AttributeNames.{AttributeNames}
use Rattle.brd_config.specs.declared.statement.AttributeNames.TheVariants as named
use Rattle.brd_config.specs.declared.statement.Keyword.{Keyword}
use Rattle.brd_config.specs.declared.statement.Keyword.TheVariants as keywords
use Rattle.brd_config.specs.declared.statement.Statement.{Statement}
use Rattle.brd_config.specs.declared.statement.Statement.TheVariants.{Board, Class, ClassEnd, Task, Semaphore, Flag, Queue, SpinLock, Mutex, Pool, Mailbox, Cyclic, Alarm, Handler}
use Rattle.brd_config.specs.Statements.{keyword_names, keyword_of, board_at, class_at, task_tail_at, task_at, semaphore_at, flag_at, queue_at, spin_lock_at, mutex_at, pool_at, mailbox_at, cyclic_at, alarm_at, handler_at, behind_keyword, statement_by, statement_at}
use Rattle.brd_config.specs.Reading.{named_in, attribute_of, class_of, protocol_of, operand_of, stack_of, is_null, is_area, run_of, number_at, expect_mark, mark_at, attribute_at, expect_joint, joint_at, attribute_step, attributes_at, operand_at, stack_at, area_at, null_at, class_number_at, protocol_at, listed_number_at, listed_operand_at, head_at, tail_at}
use Rattle.brd_config.specs.Grammar.{Piece, Joined, IsSpelled, AreSpelled, form}
use Rattle.brd_config.specs.Grammar.Piece.{Exactly, Sign, Numeral, Attributes, Value, StackValue, Area, ClassName, Protocol}
use Rattle.brd_config.specs.Grammar.Joined.{last, bar}
use Rattle.brd_config.proofs.Forms.{MayStand}

-- ---- pieces at the front of a text

-- The tokens of a text up to another spell these pieces.
pub record Front (ps : List Piece) (t u : Text) : Type 0 where
  pub front : List Token
  pub spelled : AreSpelled ps front
  pub tokens : bare_tokens t ≡ front ++ bare_tokens u

pub both_spelled : (ps qs : List Piece) (front rest : List Token) → AreSpelled ps front → AreSpelled qs rest → AreSpelled (ps ++ qs) (front ++ rest)
both_spelled [] qs front rest s r = subst (λ (ws : List Token). AreSpelled qs (ws ++ rest)) (sym s) r
both_spelled (p ∷ ps) qs front rest s r = (s.0, s.1 ++ rest, s.2, both_spelled ps qs s.1 rest s.3 r, ap (λ (ws : List Token). ws ++ rest) s.4 ∙ append_assoc s.0 s.1 rest)

infixr 10 ◌then◌
pub ◌then◌ : {ps qs : List Piece} {t u v : Text} → Front ps t u → Front qs u v → Front (ps ++ qs) t v
◌then◌ {ps = ps} {qs = qs} {v = v} a b = record {
  front = a.front ++ b.front;
  spelled = both_spelled ps qs a.front b.front a.spelled b.spelled;
  tokens = a.tokens ∙ ap (λ (ws : List Token). a.front ++ ws) b.tokens ∙ sym (append_assoc a.front b.front (bare_tokens v));
}

-- ---- one token

first_token : (t : Text) (w : Token) → (w ≡ End → ⊥) → (first t).token ≡ w → bare_tokens t ≡ w ∷ bare_tokens (others t)
first_token t w some e = by_tokens t.tokens e
  where
    by_tokens : (ps : List Placed) → (first (record { tokens = ps; end = t.end })).token ≡ w → map (λ p. p.token) ps ≡ w ∷ map (λ p. p.token) (drop 1 ps)
    by_tokens [] e = absurd (some (sym e))
    by_tokens (p ∷ ps) e = ap (λ (v : Token). v ∷ map (λ p. p.token) ps) e

pub one_front : (p : Piece) (w : Token) (t u : Text) → (w ≡ End → ⊥) → IsSpelled p (w ∷ []) → (first t).token ≡ w → others t ≡ u → Front (p ∷ []) t u
one_front p w t u some is e behind = record {
  front = w ∷ [];
  spelled = (w ∷ [], [], is, refl, refl);
  tokens = first_token t w some e ∙ ap (λ (v : Text). w ∷ bare_tokens v) behind;
}

run_is : (w : Token) (line : ℕ) (run : List ℕ) → run_of w line ≡ Ok run → w ≡ Run run
run_is (Run r) line run e = ap (λ (x : List ℕ). Run x) (ok_is r run e)
run_is (Mark b) line run e = absurd (cc)
run_is Unclosed line run e = absurd (cc)
run_is End line run e = absurd (cc)

some_is : {A : Type 0} (o : Option A) (d : ConfigFault) (x : A) → or_fault d o ≡ Ok x → o ≡ Some x
some_is None d x e = absurd (cc)
some_is (Some y) d x e = ap (λ z. Some z) (ok_is y x e)

-- what reads a run that stands for a value
abbrev pub read_by : {A : Type 0} → (List ℕ → Option A) → Text → Result (A × Text) ConfigFault
read_by stands_for t = run_of (first t).token (first t).line >>= λ run. or_fault (Syntax (first t).line) (stands_for run) >>= λ x. Ok (x, others t)

record IsRead {A : Type 0} (stands_for : List ℕ → Option A) (t u : Text) (x : A) : Type 0 where
  run : List ℕ
  value : stands_for run ≡ Some x
  token : (first t).token ≡ Run run
  behind : others t ≡ u

run_back : {A : Type 0} (stands_for : List ℕ → Option A) (t : Text) (r : A × Text) → read_by stands_for t ≡ Ok r → IsRead stands_for t r.1 r.0
run_back {A = A} stands_for t r e =
    let a = bind_ok (run_of (first t).token (first t).line) (λ run. or_fault (Syntax (first t).line) (stands_for run) >>= λ x. Ok (x, others t)) r e in
    let b = bind_ok (or_fault (Syntax (first t).line) (stands_for a.0)) (λ x. Ok (x, others t)) r a.2 in
    let made : A × Text = (b.0, others t) in
    let same : made ≡ r = ok_is made r b.2 in
    record {
      run = a.0;
      value = some_is (stands_for a.0) (Syntax (first t).line) b.0 b.1 ∙ ap (λ (q : A × Text). Some q.0) same;
      token = run_is (first t).token (first t).line a.0 a.1;
      behind = ap (λ (q : A × Text). q.1) same;
    }

value_front : {A : Type 0} (stands_for : List ℕ → Option A) (piece : A → Piece) → ((x : A) (run : List ℕ) → stands_for run ≡ Some x → IsSpelled (piece x) (Run run ∷ [])) → (t : Text) (r : A × Text) → read_by stands_for t ≡ Ok r → Front (piece r.0 ∷ []) t r.1
value_front stands_for piece spells t r e =
    let a = run_back stands_for t r e in
    one_front (piece r.0) (Run a.run) t r.1 (λ e. cc) (spells r.0 a.run a.value) a.token a.behind

numeral_back : (t : Text) (r : ℕ × Text) → number_at t ≡ Ok r → Front (Numeral r.0 ∷ []) t r.1
unfolding number_at
numeral_back t r e = value_front number_of Numeral (λ n run h. (run, refl, h)) t r e

value_back : (t : Text) (r : Operand × Text) → operand_at t ≡ Ok r → Front (Value r.0 ∷ []) t r.1
unfolding operand_at
value_back t r e = value_front operand_of Value (λ v run h. (run, refl, h)) t r e

stack_back : (t : Text) (r : Stack × Text) → stack_at t ≡ Ok r → Front (StackValue r.0 ∷ []) t r.1
unfolding stack_at
stack_back t r e = value_front stack_of StackValue (λ v run h. (run, refl, h)) t r e

protocol_back : (t : Text) (r : ℕ × Text) → protocol_at t ≡ Ok r → Front (Protocol r.0 ∷ []) t r.1
unfolding protocol_at
protocol_back t r e = value_front protocol_of Protocol (λ n run h. (run, refl, h)) t r e

class_name_back : (t : Text) (r : ℕ × Text) → class_number_at t ≡ Ok r → Front (ClassName r.0 ∷ []) t r.1
unfolding class_number_at
class_name_back t r e = value_front class_of ClassName (λ n run h. (run, refl, h)) t r e

area_back : (t u : Text) → area_at t ≡ Ok u → Front (Area ∷ []) t u
unfolding area_at
area_back t u e =
    let a = bind_ok (run_of (first t).token (first t).line) (λ run. cond (is_area run) (Ok (others t)) (Err (Syntax (first t).line))) u e in
    let p = passed (is_area a.0) (Syntax (first t).line) (others t) u a.2 in
    one_front Area (Run a.0) t u (λ e. cc) (a.0, refl, p.0) (run_is (first t).token (first t).line a.0 a.1) p.1

null_back : (t u : Text) → null_at t ≡ Ok u → Front (Exactly (codes "NULL") ∷ []) t u
unfolding null_at is_null
null_back t u e =
    let a = bind_ok (run_of (first t).token (first t).line) (λ run. cond (is_null run) (Ok (others t)) (Err (Syntax (first t).line))) u e in
    let p = passed (is_null a.0) (Syntax (first t).line) (others t) u a.2 in
    let same : a.0 ≡ codes "NULL" = (bytes_eq-Decides a.0 (codes "NULL")).0 p.0 in
    one_front (Exactly (codes "NULL")) (Run a.0) t u (λ e. cc) (ap (λ (run : List ℕ). Run run ∷ []) same) (run_is (first t).token (first t).line a.0 a.1) p.1

mark_is : (mark : ℕ) (w : Token) (line : ℕ) (rest u : Text) → expect_mark mark w line rest ≡ Ok u → (w ≡ Mark mark) × (rest ≡ u)
mark_is mark (Run run) line rest u e = absurd (cc)
mark_is mark (Mark b) line rest u e =
    let p = passed (nat_eq b mark) (Syntax line) rest u e in
    (ap (λ (n : ℕ). Mark n) (eqb-true b mark p.0), p.1)
mark_is mark Unclosed line rest u e = absurd (cc)
mark_is mark End line rest u e = absurd (cc)

sign_back : (b : ℕ) (t u : Text) → mark_at b t ≡ Ok u → Front (Sign b ∷ []) t u
unfolding mark_at
sign_back b t u e =
    let p = mark_is b (first t).token (first t).line (others t) u e in
    one_front (Sign b) (Mark b) t u (λ e. cc) refl p.0 p.1

-- ---- attributes

-- the mark after an attribute
abbrev pub joint : ℕ → Bool → ℕ
joint end more = cond more 124 end

joint_by : (end b line : ℕ) (rest : Text) (j : Bool × Text) (is_bar is_end : Bool) → is_bar ≡ nat_eq b 124 → is_end ≡ nat_eq b end → cond is_bar (Ok (true, rest)) (cond is_end (Ok (false, rest)) (Err (Syntax line))) ≡ Ok j → (b ≡ joint end j.0) × (rest ≡ j.1)
joint_by end b line rest j true is_end bar_is end_is e =
    let found : Bool × Text = (true, rest) in
    let same : found ≡ j = ok_is found j e in
    (eqb-true b 124 (sym bar_is) ∙ ap (λ (q : Bool × Text). joint end q.0) same, ap (λ (q : Bool × Text). q.1) same)
joint_by end b line rest j false true bar_is end_is e =
    let found : Bool × Text = (false, rest) in
    let same : found ≡ j = ok_is found j e in
    (eqb-true b end (sym end_is) ∙ ap (λ (q : Bool × Text). joint end q.0) same, ap (λ (q : Bool × Text). q.1) same)
joint_by end b line rest j false false bar_is end_is e = absurd (cc)

joint_is : (end : ℕ) (w : Token) (line : ℕ) (rest : Text) (j : Bool × Text) → expect_joint end w line rest ≡ Ok j → (w ≡ Mark (joint end j.0)) × (rest ≡ j.1)
joint_is end (Run run) line rest j e = absurd (cc)
joint_is end (Mark b) line rest j e =
    let p = joint_by end b line rest j (nat_eq b 124) (nat_eq b end) refl refl e in
    (ap (λ (n : ℕ). Mark n) p.0, p.1)
joint_is end Unclosed line rest j e = absurd (cc)
joint_is end End line rest j e = absurd (cc)

-- a turn over one attribute
pub record OneAttribute (names : AttributeNames) (end before : ℕ) (t : Text) (flow : Flow (ℕ × Text) (ℕ × Text)) : Type 0 where
  pub run : List ℕ
  pub bits : ℕ
  pub more : Bool
  pub rest : Text
  pub is_named : attribute_of names run ≡ Some bits
  pub tokens : bare_tokens t ≡ Run run ∷ Mark (joint end more) ∷ bare_tokens rest
  pub goes : flow_of more (bit_or before bits, rest) (bit_or before bits, rest) ≡ flow

pub attribute_back : (names : AttributeNames) (end before : ℕ) (t : Text) (flow : Flow (ℕ × Text) (ℕ × Text)) → attribute_step names end (before, t) ≡ Ok flow → OneAttribute names end before t flow
unfolding attribute_step attribute_at joint_at
attribute_back names end before t flow e =
    let a = bind_ok (read_by (attribute_of names) t) (λ a. joint_at end a.1 >>= λ joint. Ok (flow_of joint.0 (bit_or before a.0, joint.1) (bit_or before a.0, joint.1))) flow e in
    let j = bind_ok (joint_at end a.0.1) (λ joint. Ok (flow_of joint.0 (bit_or before a.0.0, joint.1) (bit_or before a.0.0, joint.1))) flow a.2 in
    let r = run_back (attribute_of names) t a.0 a.1 in
    let m = joint_is end (first a.0.1).token (first a.0.1).line (others a.0.1) j.0 j.1 in
    let behind : bare_tokens a.0.1 ≡ Mark (joint end j.0.0) ∷ bare_tokens j.0.1 = first_token a.0.1 (Mark (joint end j.0.0)) (λ e. cc) m.0 ∙ ap (λ (v : Text). Mark (joint end j.0.0) ∷ bare_tokens v) m.1 in
    record {
      run = r.run;
      bits = a.0.0;
      more = j.0.0;
      rest = j.0.1;
      is_named = r.value;
      tokens = first_token t (Run r.run) (λ e. cc) r.token ∙ ap (λ (v : Text). Run r.run ∷ bare_tokens v) r.behind ∙ ap (λ (ws : List Token). Run r.run ∷ ws) behind;
      goes = ok_is (flow_of j.0.0 (bit_or before a.0.0, j.0.1) (bit_or before a.0.0, j.0.1)) flow j.2;
    }

-- attributes, and the mark after them
record AreJoined (names : AttributeNames) (end before bits : ℕ) (t u : Text) : Type 0 where
  front : List Token
  joined : Joined names before bits front
  tokens : bare_tokens t ≡ front ++ Mark end ∷ bare_tokens u

joined_by : (names : AttributeNames) (end n before : ℕ) (t rest : Text) (run : List ℕ) (bits : ℕ) (more : Bool) (r : ℕ × Text) → attribute_of names run ≡ Some bits → bare_tokens t ≡ Run run ∷ Mark (joint end more) ∷ bare_tokens rest
    → ((b : ℕ) (t : Text) → repeated NoMemory (attribute_step names end) n (b, t) ≡ Ok r → AreJoined names end b r.0 t r.1)
    → followed (repeated NoMemory (attribute_step names end) n) (flow_of more (bit_or before bits, rest) (bit_or before bits, rest)) ≡ Ok r → AreJoined names end before r.0 t r.1
joined_by names end n before t rest run bits true r is tokens again e =
    let j = again (bit_or before bits) rest e in
    record { front = Run run ∷ Mark 124 ∷ j.front; joined = bar names before run bits r.0 j.front is j.joined; tokens = tokens ∙ ap (λ (ws : List Token). Run run ∷ Mark 124 ∷ ws) j.tokens }
joined_by names end n before t rest run bits false r is tokens again e =
    let made : ℕ × Text = (bit_or before bits, rest) in
    let same : made ≡ r = ok_is made r e in
    subst (λ (q : ℕ × Text). AreJoined names end before q.0 t q.1) same (record { front = Run run ∷ []; joined = last names before run bits is; tokens = tokens })

joined_back : (names : AttributeNames) (end n before : ℕ) (t : Text) (r : ℕ × Text) → repeated NoMemory (attribute_step names end) n (before, t) ≡ Ok r → AreJoined names end before r.0 t r.1
unfolding repeated
joined_back names end zero before t r e = absurd (cc)
joined_back names end (suc n) before t r e =
    let s = bind_ok (attribute_step names end (before, t)) (followed (repeated NoMemory (attribute_step names end) n)) r e in
    let a = attribute_back names end before t s.0 s.1 in
    joined_by names end n before t a.rest a.run a.bits a.more r a.is_named a.tokens (λ b w x. joined_back names end n b w r x) (ap (followed (repeated NoMemory (attribute_step names end) n)) a.goes ∙ s.2)

attributes_back : (names : AttributeNames) (end : ℕ) (t : Text) (r : ℕ × Text) → attributes_at names end t ≡ Ok r → Front (Attributes names r.0 ∷ Sign end ∷ []) t r.1
unfolding attributes_at
attributes_back names end t r e =
    let j = joined_back names end (suc (length t.tokens)) 0 t r e in
    record {
      front = j.front ++ Mark end ∷ [];
      spelled = (j.front, Mark end ∷ [], j.joined, (Mark end ∷ [], [], refl, refl, refl), refl);
      tokens = j.tokens ∙ sym (append_assoc j.front (Mark end ∷ []) (bare_tokens r.1));
    }

-- ---- statements

-- ( id , { attributes and the mark that ends them
abbrev head_pieces : AttributeNames → ℕ → ℕ → ℕ → List Piece
head_pieces names end id attributes = Sign 40 ∷ Numeral id ∷ Sign 44 ∷ Sign 123 ∷ Attributes names attributes ∷ Sign end ∷ []

-- a step that did not fail, and what follows from its value
step_of : {A B Goal : Type 0} (r : Result A ConfigFault) (f : A → Result B ConfigFault) (y : B) → (r >>= f) ≡ Ok y → ((x : A) → r ≡ Ok x → f x ≡ Ok y → Goal) → Goal
step_of (Ok x) f y e goal = goal x refl e
step_of (Err w) f y e goal = absurd (cc)

infixr 5 ◌gives◌
◌gives◌ : {A B Goal : Type 0} {r : Result A ConfigFault} {f : A → Result B ConfigFault} {y : B} → (r >>= f) ≡ Ok y → ((x : A) → r ≡ Ok x → f x ≡ Ok y → Goal) → Goal
◌gives◌ {r = r} {f = f} {y = y} e goal = step_of r f y e goal

-- n ,
listed_number_back : (t : Text) (r : ℕ × Text) → listed_number_at t ≡ Ok r → Front (Numeral r.0 ∷ Sign 44 ∷ []) t r.1
unfolding listed_number_at
listed_number_back t r e =
    e gives λ n a e. e gives λ listed b e.
    subst (λ (q : ℕ × Text). Front (Numeral q.0 ∷ Sign 44 ∷ []) t q.1) (ok_is (n.0, listed) r e)
    (numeral_back t n a then sign_back 44 n.1 listed b)

-- value ,
listed_operand_back : (t : Text) (r : Operand × Text) → listed_operand_at t ≡ Ok r → Front (Value r.0 ∷ Sign 44 ∷ []) t r.1
unfolding listed_operand_at
listed_operand_back t r e =
    e gives λ operand a e. e gives λ listed b e.
    subst (λ (q : Operand × Text). Front (Value q.0 ∷ Sign 44 ∷ []) t q.1) (ok_is (operand.0, listed) r e)
    (value_back t operand a then sign_back 44 operand.1 listed b)

head_back : (names : AttributeNames) (end : ℕ) (t : Text) (r : ℕ × ℕ × Text) → head_at names end t ≡ Ok r → Front (head_pieces names end r.0 r.1) t r.2
unfolding head_at
head_back names end t r e =
    e gives λ opened a e. e gives λ id b e. e gives λ inner c e. e gives λ attributes d e.
    subst (λ (q : ℕ × ℕ × Text). Front (head_pieces names end q.0 q.1) t q.2) (ok_is (id.0, attributes.0, attributes.1) r e)
    (sign_back 40 t opened a then listed_number_back opened id b then sign_back 123 id.1 inner c then attributes_back names end inner attributes d)

tail_back : (t u : Text) → tail_at t ≡ Ok u → Front (Sign 125 ∷ Sign 41 ∷ Sign 59 ∷ []) t u
unfolding tail_at
tail_back t u e =
    e gives λ listed a e. e gives λ closed b e.
    sign_back 125 t listed a then sign_back 41 listed closed b then sign_back 59 closed u e

pub board_back : (t : Text) (r : ℕ × ℕ × Text) → board_at t ≡ Ok r → Front (Sign 40 ∷ Numeral r.0 ∷ Sign 44 ∷ Numeral r.1 ∷ Sign 41 ∷ Sign 59 ∷ []) t r.2
unfolding board_at
board_back t r e =
    e gives λ opened a e. e gives λ processors b e. e gives λ ram c e. e gives λ closed d e. e gives λ ended f e.
    subst (λ (q : ℕ × ℕ × Text). Front (Sign 40 ∷ Numeral q.0 ∷ Sign 44 ∷ Numeral q.1 ∷ Sign 41 ∷ Sign 59 ∷ []) t q.2) (ok_is (processors.0, ram.0, ended) r e)
    (sign_back 40 t opened a then listed_number_back opened processors b then numeral_back processors.1 ram c then sign_back 41 ram.1 closed d then sign_back 59 closed ended f)

keyword_name : Keyword → List ℕ
keyword_name keywords.Board = codes "BOARD"
keyword_name keywords.Class = codes "CLASS"
keyword_name keywords.Task = codes "CRE_TSK"
keyword_name keywords.Semaphore = codes "CRE_SEM"
keyword_name keywords.Flag = codes "CRE_FLG"
keyword_name keywords.Queue = codes "CRE_DTQ"
keyword_name keywords.SpinLock = codes "CRE_SPN"
keyword_name keywords.Mutex = codes "CRE_MTX"
keyword_name keywords.Pool = codes "CRE_MPF"
keyword_name keywords.Mailbox = codes "CRE_MBX"
keyword_name keywords.Cyclic = codes "CRE_CYC"
keyword_name keywords.Alarm = codes "CRE_ALM"
keyword_name keywords.Handler = codes "DEF_INH"

-- after its first token a statement has the rest of its form, and it may stand here
record Behind (name : List ℕ) (standard in_class : Bool) (t : Text) (r : Statement × Text) : Type 0 where
  whole : (s : Text) → Front (Exactly name ∷ []) s t → Front (form r.0) s r.1
  may : MayStand standard in_class r.0

class_back : (standard : Bool) (t : Text) (r : Statement × Text) → class_at t ≡ Ok r → Behind (codes "CLASS") standard false t r
unfolding class_at
class_back standard t r e =
    e gives λ opened a e. e gives λ n b e. e gives λ closed c e. e gives λ inner d e.
    subst (Behind (codes "CLASS") standard false t) (ok_is (Class n.0, inner) r e)
    (record { whole = λ s x. x then sign_back 40 t opened a then class_name_back opened n b then sign_back 41 n.1 closed c then sign_back 123 closed inner d; may = refl })

-- priority , size , stack } ) ;
task_tail_back : (t : Text) (r : ℕ × ℕ × Stack × Text) → task_tail_at t ≡ Ok r → Front (Numeral r.0 ∷ Sign 44 ∷ Numeral r.1 ∷ Sign 44 ∷ StackValue r.2 ∷ Sign 125 ∷ Sign 41 ∷ Sign 59 ∷ []) t r.3
unfolding task_tail_at
task_tail_back t r e =
    e gives λ priority a e. e gives λ size b e. e gives λ stack c e. e gives λ ended d e.
    subst (λ (q : ℕ × ℕ × Stack × Text). Front (Numeral q.0 ∷ Sign 44 ∷ Numeral q.1 ∷ Sign 44 ∷ StackValue q.2 ∷ Sign 125 ∷ Sign 41 ∷ Sign 59 ∷ []) t q.3) (ok_is (priority.0, size.0, stack.0, ended) r e)
    (listed_number_back t priority a then listed_number_back priority.1 size b then stack_back size.1 stack c then tail_back stack.1 ended d)

task_back : (standard in_class : Bool) (t : Text) (r : Statement × Text) → task_at t ≡ Ok r → Behind (codes "CRE_TSK") standard in_class t r
unfolding task_at
task_back standard in_class t r e =
    e gives λ head h e. e gives λ exinf a e. e gives λ address b e. e gives λ rest c e.
    subst (Behind (codes "CRE_TSK") standard in_class t) (ok_is (Task (record { id = head.0; attributes = head.1; exinf = exinf.0; address = address.0; priority = rest.0; stack_size = rest.1; stack = rest.2 }), rest.3) r e)
    (record {
      whole = λ s x. x then head_back named.Common 44 t head h then listed_operand_back head.2 exinf a then listed_operand_back exinf.1 address b then task_tail_back address.1 rest c;
      may = tt;
    })

semaphore_back : (standard in_class : Bool) (t : Text) (r : Statement × Text) → semaphore_at t ≡ Ok r → Behind (codes "CRE_SEM") standard in_class t r
unfolding semaphore_at
semaphore_back standard in_class t r e =
    e gives λ head h e. e gives λ initial a e. e gives λ maximum b e. e gives λ ended l e.
    subst (Behind (codes "CRE_SEM") standard in_class t) (ok_is (Semaphore (record { id = head.0; attributes = head.1; initial = initial.0; maximum = maximum.0 }), ended) r e)
    (record { whole = λ s x. x then head_back named.Common 44 t head h then listed_number_back head.2 initial a then numeral_back initial.1 maximum b then tail_back maximum.1 ended l; may = tt })

flag_back : (standard in_class : Bool) (t : Text) (r : Statement × Text) → flag_at t ≡ Ok r → Behind (codes "CRE_FLG") standard in_class t r
unfolding flag_at
flag_back standard in_class t r e =
    e gives λ head h e. e gives λ pattern a e. e gives λ ended l e.
    subst (Behind (codes "CRE_FLG") standard in_class t) (ok_is (Flag (record { id = head.0; attributes = head.1; pattern = pattern.0 }), ended) r e)
    (record { whole = λ s x. x then head_back named.Common 44 t head h then numeral_back head.2 pattern a then tail_back pattern.1 ended l; may = tt })

queue_back : (standard in_class : Bool) (t : Text) (r : Statement × Text) → queue_at t ≡ Ok r → Behind (codes "CRE_DTQ") standard in_class t r
unfolding queue_at
queue_back standard in_class t r e =
    e gives λ head h e. e gives λ capacity a e. e gives λ area b e. e gives λ ended l e.
    subst (Behind (codes "CRE_DTQ") standard in_class t) (ok_is (Queue (record { id = head.0; attributes = head.1; capacity = capacity.0 }), ended) r e)
    (record { whole = λ s x. x then head_back named.Common 44 t head h then listed_number_back head.2 capacity a then area_back capacity.1 area b then tail_back area ended l; may = tt })

spin_lock_back : (standard in_class : Bool) (t : Text) (r : Statement × Text) → spin_lock_at t ≡ Ok r → Behind (codes "CRE_SPN") standard in_class t r
unfolding spin_lock_at
spin_lock_back standard in_class t r e =
    e gives λ head h e. e gives λ closed a e. e gives λ ended b e.
    subst (Behind (codes "CRE_SPN") standard in_class t) (ok_is (SpinLock (record { id = head.0; attributes = head.1 }), ended) r e)
    (record { whole = λ s x. x then head_back named.Common 125 t head h then sign_back 41 head.2 closed a then sign_back 59 closed ended b; may = tt })

mutex_back : (in_class : Bool) (t : Text) (r : Statement × Text) → mutex_at t ≡ Ok r → Behind (codes "CRE_MTX") true in_class t r
unfolding mutex_at
mutex_back in_class t r e =
    e gives λ opened a e. e gives λ id b e. e gives λ inner c e. e gives λ protocol d e. e gives λ listed f e. e gives λ ceiling g e. e gives λ ended l e.
    subst (Behind (codes "CRE_MTX") true in_class t) (ok_is (Mutex (record { id = id.0; protocol = protocol.0; ceiling = ceiling.0 }), ended) r e)
    (record {
      whole = λ s x. x then sign_back 40 t opened a then listed_number_back opened id b then sign_back 123 id.1 inner c then protocol_back inner protocol d then sign_back 44 protocol.1 listed f then numeral_back listed ceiling g then tail_back ceiling.1 ended l;
      may = refl;
    })

pool_back : (in_class : Bool) (t : Text) (r : Statement × Text) → pool_at t ≡ Ok r → Behind (codes "CRE_MPF") true in_class t r
unfolding pool_at
pool_back in_class t r e =
    e gives λ head h e. e gives λ count a e. e gives λ size b e. e gives λ area c e. e gives λ ended l e.
    subst (Behind (codes "CRE_MPF") true in_class t) (ok_is (Pool (record { id = head.0; attributes = head.1; count = count.0; size = size.0; area = area.0 }), ended) r e)
    (record { whole = λ s x. x then head_back named.Common 44 t head h then listed_number_back head.2 count a then listed_number_back count.1 size b then stack_back size.1 area c then tail_back area.1 ended l; may = refl })

mailbox_back : (in_class : Bool) (t : Text) (r : Statement × Text) → mailbox_at t ≡ Ok r → Behind (codes "CRE_MBX") true in_class t r
unfolding mailbox_at
mailbox_back in_class t r e =
    e gives λ head h e. e gives λ priorities a e. e gives λ null b e. e gives λ ended l e.
    subst (Behind (codes "CRE_MBX") true in_class t) (ok_is (Mailbox (record { id = head.0; attributes = head.1; priorities = priorities.0 }), ended) r e)
    (record { whole = λ s x. x then head_back named.Mailbox 44 t head h then listed_number_back head.2 priorities a then null_back priorities.1 null b then tail_back null ended l; may = refl })

cyclic_back : (in_class : Bool) (t : Text) (r : Statement × Text) → cyclic_at t ≡ Ok r → Behind (codes "CRE_CYC") true in_class t r
unfolding cyclic_at
cyclic_back in_class t r e =
    e gives λ head h e. e gives λ exinf a e. e gives λ address b e. e gives λ period c e. e gives λ phase d e. e gives λ ended l e.
    subst (Behind (codes "CRE_CYC") true in_class t)
    (ok_is (Cyclic (record { id = head.0; attributes = head.1; exinf = exinf.0; address = address.0; period = period.0; phase = phase.0 }), ended) r e)
    (record {
      whole = λ s x. x then head_back named.Cyclic 44 t head h then listed_operand_back head.2 exinf a then listed_operand_back exinf.1 address b
          then listed_number_back address.1 period c then numeral_back period.1 phase d then tail_back phase.1 ended l;
      may = refl;
    })

alarm_back : (in_class : Bool) (t : Text) (r : Statement × Text) → alarm_at t ≡ Ok r → Behind (codes "CRE_ALM") true in_class t r
unfolding alarm_at
alarm_back in_class t r e =
    e gives λ head h e. e gives λ exinf a e. e gives λ address b e. e gives λ ended l e.
    subst (Behind (codes "CRE_ALM") true in_class t) (ok_is (Alarm (record { id = head.0; attributes = head.1; exinf = exinf.0; address = address.0 }), ended) r e)
    (record { whole = λ s x. x then head_back named.Common 44 t head h then listed_operand_back head.2 exinf a then value_back exinf.1 address b then tail_back address.1 ended l; may = refl })

handler_back : (standard in_class : Bool) (t : Text) (r : Statement × Text) → handler_at t ≡ Ok r → Behind (codes "DEF_INH") standard in_class t r
unfolding handler_at
handler_back standard in_class t r e =
    e gives λ head h e. e gives λ address a e. e gives λ ended l e.
    subst (Behind (codes "DEF_INH") standard in_class t) (ok_is (Handler (record { line = head.0; attributes = head.1; address = address.0 }), ended) r e)
    (record { whole = λ s x. x then head_back named.Common 44 t head h then value_back head.2 address a then tail_back address.1 ended l; may = tt })

behind_back : (standard in_class : Bool) (line : ℕ) (k : Keyword) (t : Text) (r : Statement × Text) → behind_keyword standard in_class line k t ≡ Ok r → Behind (keyword_name k) standard in_class t r
unfolding behind_keyword keyword_name
behind_back standard in_class line keywords.Board t r e =
    e gives λ board b e.
    subst (Behind (codes "BOARD") standard in_class t) (ok_is (Board board.0 board.1, board.2) r e) (record { whole = λ s x. x then board_back t board b; may = tt })
behind_back standard true line keywords.Class t r e = absurd (cc)
behind_back standard false line keywords.Class t r e = class_back standard t r e
behind_back standard in_class line keywords.Task t r e = task_back standard in_class t r e
behind_back standard in_class line keywords.Semaphore t r e = semaphore_back standard in_class t r e
behind_back standard in_class line keywords.Flag t r e = flag_back standard in_class t r e
behind_back standard in_class line keywords.Queue t r e = queue_back standard in_class t r e
behind_back standard in_class line keywords.SpinLock t r e = spin_lock_back standard in_class t r e
behind_back true in_class line keywords.Mutex t r e = mutex_back in_class t r e
behind_back false in_class line keywords.Mutex t r e = absurd (cc)
behind_back true in_class line keywords.Pool t r e = pool_back in_class t r e
behind_back false in_class line keywords.Pool t r e = absurd (cc)
behind_back true in_class line keywords.Mailbox t r e = mailbox_back in_class t r e
behind_back false in_class line keywords.Mailbox t r e = absurd (cc)
behind_back true in_class line keywords.Cyclic t r e = cyclic_back in_class t r e
behind_back false in_class line keywords.Cyclic t r e = absurd (cc)
behind_back true in_class line keywords.Alarm t r e = alarm_back in_class t r e
behind_back false in_class line keywords.Alarm t r e = absurd (cc)
behind_back standard in_class line keywords.Handler t r e = handler_back standard in_class t r e

-- what a table has for a name stands beside this name
named_back : {A : Type 0} (rows : List (List ℕ × A)) (name : List ℕ) (x : A) (name_of : A → List ℕ) → AllByRecursion (λ row. row.0 ≡ name_of row.1) rows → named_in rows name ≡ Some x → name ≡ name_of x
named_back [] name x name_of are e = absurd (cc)
named_back (row ∷ rows) name x name_of are e =
    elim (cases_Bool (bytes_eq name row.0)) [
      | inl same ↦ (bytes_eq-Decides name row.0).0 same ∙ are.0 ∙ ap name_of (inside row.1 x (rw same at e))
      | inr other ↦ named_back rows name x name_of are.1 (rw other at e)
    ]
  where
    inside : {A : Type 0} (y x : A) → Some y ≡ Some x → y ≡ x
    inside y x e = cc

keyword_is : (run : List ℕ) (k : Keyword) → keyword_of run ≡ Some k → run ≡ keyword_name k
unfolding keyword_of keyword_name
keyword_is run k e = named_back keyword_names run k keyword_name (refl, (refl, (refl, (refl, (refl, (refl, (refl, (refl, (refl, (refl, (refl, (refl, (refl, tt))))))))))))) e

-- a statement at the front of a text, where it may stand
pub record IsStatement (standard in_class : Bool) (t : Text) (r : Statement × Text) : Type 0 where
  pub front : Front (form r.0) t r.1
  pub may : MayStand standard in_class r.0

pub exactly : (run : List ℕ) (t : Text) → (first t).token ≡ Run run → Front (Exactly run ∷ []) t (others t)
exactly run t e = one_front (Exactly run) (Run run) t (others t) (λ e. cc) refl e refl

by_token : (standard in_class : Bool) (w : Token) (t : Text) (r : Statement × Text) → (first t).token ≡ w → statement_by standard in_class w (first t).line (others t) ≡ Ok r → IsStatement standard in_class t r
by_token standard in_class (Run run) t r is e =
    let k = bind_ok (or_fault (Syntax (first t).line) (keyword_of run)) (λ keyword. behind_keyword standard in_class (first t).line keyword (others t)) r e in
    let same : run ≡ keyword_name k.0 = keyword_is run k.0 (some_is (keyword_of run) (Syntax (first t).line) k.0 k.1) in
    let b = behind_back standard in_class (first t).line k.0 (others t) r k.2 in
    record { front = b.whole t (exactly (keyword_name k.0) t (is ∙ ap (λ (x : List ℕ). Run x) same)); may = b.may }
by_token standard in_class (Mark b) t r is e =
    let made : Statement × Text = (ClassEnd, others t) in
    let p = passed (in_class && nat_eq b 125) (Syntax (first t).line) made r e in
    let parts = and_parts in_class (nat_eq b 125) p.0 in
    subst (IsStatement standard in_class t) p.1 (record { front = one_front (Sign 125) (Mark b) t (others t) (λ e. cc) (ap (λ (n : ℕ). Mark n ∷ []) (eqb-true b 125 parts.1)) is refl; may = parts.0 })
by_token standard in_class Unclosed t r is e = absurd (cc)
by_token standard in_class End t r is e = absurd (cc)

pub statement_back : (standard in_class : Bool) (t : Text) (r : Statement × Text) → statement_at standard in_class t ≡ Ok r → IsStatement standard in_class t r
unfolding statement_at
statement_back standard in_class t r e = by_token standard in_class (first t).token t r refl e
