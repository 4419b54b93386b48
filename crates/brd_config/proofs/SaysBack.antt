-- A text that is read spells valid statements, and these say what was read.
use Rattle.std.proofs.Common.{◌≡◌, ℕ, zero, suc, Bool, true, false, cond, not, ◌&&◌, List, [], ◌∷◌, ◌++◌, length, map, Option, Some, None, Ok, Err, refl, sym, ap, subst, ◌∙◌, append_assoc, append-nil, arith}
use Rattle.std.specs.Prelude.{is_some, is_none, codes}
use Rattle.std.specs.List.{flat_map}
use Rattle.std.proofs.lemmas.Bool.{and_parts, eqb-true}
use Rattle.std.proofs.lemmas.Slice.Eq.{bytes_eq-Decides}
use Rattle.brd_text.specs.Tokens.{Token, Placed, Text, first, others, tokens_of}
use Rattle.brd_text.specs.Tokens.Token.{Run, Mark, Unclosed, End}
use Rattle.brd_text.specs.Tokens.Place.{Between}
use Rattle.brd_text.specs.Faults.{◌>>=◌}
use Rattle.brd_text.specs.Turns.{Flow, followed, repeated}
use Rattle.brd_text.specs.Turns.Flow.{More, Done}
use Rattle.brd_text.specs.Spelling.{bare_tokens}
use Rattle.brd_text.proofs.FaultLemmas.{bind_ok, ok_is}
use Rattle.brd_config.specs.declared.fault.ConfigFault.TheVariants.{NoMemory, Syntax, Duplicate, BadProcessor, BadCount}
use Rattle.brd_config.specs.declared.objects.TaskConfig.{TaskConfig}
use Rattle.brd_config.specs.declared.objects.SemaphoreConfig.{SemaphoreConfig}
use Rattle.brd_config.specs.declared.objects.FlagConfig.{FlagConfig}
use Rattle.brd_config.specs.declared.objects.QueueConfig.{QueueConfig}
use Rattle.brd_config.specs.declared.objects.SpinLockConfig.{SpinLockConfig}
use Rattle.brd_config.specs.declared.objects.MutexConfig.{MutexConfig}
use Rattle.brd_config.specs.declared.objects.PoolConfig.{PoolConfig}
use Rattle.brd_config.specs.declared.objects.MailboxConfig.{MailboxConfig}
use Rattle.brd_config.specs.declared.objects.CyclicConfig.{CyclicConfig}
use Rattle.brd_config.specs.declared.objects.AlarmConfig.{AlarmConfig}
use Rattle.brd_config.specs.declared.objects.HandlerConfig.{HandlerConfig}
use Rattle.brd_config.specs.declared.statement.AttributeNames.{AttributeNames}
use Rattle.brd_config.specs.declared.statement.Statement.{Statement}
use Rattle.brd_config.specs.declared.statement.Statement.TheVariants.{Board, Class, ClassEnd, Task, Semaphore, Flag, Queue, SpinLock, Mutex, Pool, Mailbox, Cyclic, Alarm, Handler}
use Rattle.brd_config.specs.Statements.{statement_at, board_at}
use Rattle.brd_config.specs.Configuration.{Configuration, IsWithin, IsConfiguration}
use Rattle.brd_config.specs.Meaning.{State, within, refused, is_ram_size, task_of, semaphore_of, flag_of, queue_of, spin_lock_of, mutex_of, pool_of, mailbox_of, cyclic_of, alarm_of, handler_of, added, processor_of, is_end, is_word, is_mark, is_board, one_more, statement_step, statements_from, board_of, first_board, first_statement, behind_profile, has_profile, opened, config_from, plain_config_of, config_of}
use Rattle.brd_config.specs.Grammar.{Piece, Joined, IsSpelled, AreSpelled, OneRun, form, profile_form, IsOutside, IsInside, tasks_of, semaphores_of, flags_of, queues_of, spin_locks_of, mutexes_of, pools_of, mailboxes_of, cyclics_of, alarms_of, handlers_of, task_said, semaphore_said, flag_said, queue_said, spin_lock_said, mutex_said, pool_said, mailbox_said, cyclic_said, alarm_said, handler_said, said, AreNested, Says}
use Rattle.brd_config.specs.Grammar.Piece.{Exactly, Sign, Numeral, Attributes, Value, StackValue, Area, ClassName, Protocol}
use Rattle.brd_config.specs.Grammar.Joined.{last, bar}
use Rattle.brd_config.proofs.Forms.{MayStand}
use Rattle.brd_config.proofs.FormsBack.{Front, ◌then◌, both_spelled, one_front, exactly, board_back, statement_back}
use Rattle.brd_config.proofs.SpelledBack.{AreClosed, AreTokens, spelled_back, are_tokens}
use Rattle.brd_config.proofs.Validity.{IsState, one_ok, two_ok, within_ok, task_ok, semaphore_ok, flag_ok, queue_ok, spin_lock_ok, mutex_ok, pool_ok, mailbox_ok, cyclic_ok, alarm_ok, handler_ok, added_ok, first_ok, config_is_valid}
use Rattle.brd_config.proofs.Accepted.{Leads, started, all_said}

-- ---- tokens of pieces

both_closed : (front rest : List Token) → AreClosed front → AreClosed rest → AreClosed (front ++ rest)
both_closed [] rest f r = r
both_closed (w ∷ front) rest f r = (f.0, both_closed front rest f.1 r)

run_closed : (P : List ℕ → Type 0) (tokens : List Token) → OneRun P tokens → AreClosed tokens
run_closed P tokens s = subst AreClosed (sym s.1) ((λ e. cc), tt)

joined_closed : (names : AttributeNames) (before bits : ℕ) (tokens : List Token) → Joined names before bits tokens → AreClosed tokens
joined_closed names before _ _ (last _ _ run bits h) = ((λ e. cc), tt)
joined_closed names before _ _ (bar _ _ run bits all tokens h j) = ((λ e. cc), ((λ e. cc), joined_closed names _ _ tokens j))

piece_closed : (p : Piece) (tokens : List Token) → IsSpelled p tokens → AreClosed tokens
piece_closed (Exactly run) tokens s = subst AreClosed (sym s) ((λ e. cc), tt)
piece_closed (Sign b) tokens s = subst AreClosed (sym s) ((λ e. cc), tt)
piece_closed (Numeral n) tokens s = run_closed _ tokens s
piece_closed (Attributes names bits) tokens s = joined_closed names 0 bits tokens s
piece_closed (Value v) tokens s = run_closed _ tokens s
piece_closed (StackValue v) tokens s = run_closed _ tokens s
piece_closed Area tokens s = run_closed _ tokens s
piece_closed (ClassName n) tokens s = run_closed _ tokens s
piece_closed (Protocol n) tokens s = run_closed _ tokens s

closed : (ps : List Piece) (tokens : List Token) → AreSpelled ps tokens → AreClosed tokens
closed [] tokens s = subst AreClosed (sym s) tt
closed (p ∷ ps) tokens s = subst AreClosed (sym s.4) (both_closed s.0 s.1 (piece_closed p s.0 s.2) (closed ps s.1 s.3))

behind_front : (front rest : List Token) → AreTokens (front ++ rest) → AreTokens rest
behind_front [] rest are = are
behind_front (w ∷ front) rest are = behind_front front rest are.1

end_is : (w : Token) → is_end w ≡ true → w ≡ End
end_is (Run run) h = absurd (cc)
end_is (Mark b) h = absurd (cc)
end_is Unclosed h = absurd (cc)
end_is End h = refl

no_tokens : (t : Text) → AreTokens (bare_tokens t) → is_end (first t).token ≡ true → bare_tokens t ≡ []
no_tokens t are h = by_tokens t.tokens are h
  where
    by_tokens : (ps : List Placed) → AreTokens (map (λ p. p.token) ps) → is_end (first (record { tokens = ps; end = t.end })).token ≡ true → map (λ p. p.token) ps ≡ []
    by_tokens [] are h = refl
    by_tokens (p ∷ ps) are h = absurd (are.0 (end_is p.token h))

-- ---- what a statement adds is what it says

outside : (class : Option ℕ) → is_some class ≡ false → IsOutside class
outside None h = tt
outside (Some n) h = absurd (cc)

inside : (class : Option ℕ) → is_some class ≡ true → IsInside class
inside None h = absurd (cc)
inside (Some n) h = tt

-- What holds of the statements after a statement holds with it in front.
abbrev GoesBack : Configuration → State → Statement → List Statement → State → Type 0
GoesBack whole s x ss next = Leads whole next.config next.class ss → AreNested next.config.standard next.config.processors next.class ss → Leads whole s.config s.class (x ∷ ss) × AreNested s.config.standard s.config.processors s.class (x ∷ ss)

goes_back : (line : ℕ) (whole : Configuration) (s next : State) (x : Statement) (ss : List Statement) → IsState s → MayStand s.config.standard (is_some s.class) x → added line s x ≡ Ok next → GoesBack whole s x ss next
unfolding added
goes_back line whole s next (Board processors ram) ss is may e = absurd (let p = bind_ok (within 1 8 (BadProcessor line) processors) (λ count. Err (Duplicate line)) next e in never p.2)
  where
    never : Err (Duplicate line) ≡ Ok next → ⊥
    never e = cc
goes_back line whole s next (Class n) ss is may e =
    let p = one_ok (within 1 s.config.processors (BadProcessor line) n) (λ processor. record s { class = Some processor }) next e in
    let w = within_ok 1 s.config.processors (BadProcessor line) n p.0 p.1 in
    let same : record s { class = Some n } ≡ next = ap (λ (k : ℕ). record s { class = Some k }) (sym w.0) ∙ p.2 in
    subst (GoesBack whole s (Class n) ss) same
    (λ l nested. (record { standard = l.standard; processors = l.processors; ram = l.ram; tasks = l.tasks; semaphores = l.semaphores; flags = l.flags; queues = l.queues; spin_locks = l.spin_locks; mutexes = l.mutexes; pools = l.pools; mailboxes = l.mailboxes; cyclics = l.cyclics; alarms = l.alarms; handlers = l.handlers }, (outside s.class may, subst (IsWithin 1 s.config.processors) w.0 w.1, nested)))
goes_back line whole s next ClassEnd ss is may e =
    subst (GoesBack whole s ClassEnd ss) (ok_is (record s { class = None }) next e)
    (λ l nested. (record { standard = l.standard; processors = l.processors; ram = l.ram; tasks = l.tasks; semaphores = l.semaphores; flags = l.flags; queues = l.queues; spin_locks = l.spin_locks; mutexes = l.mutexes; pools = l.pools; mailboxes = l.mailboxes; cyclics = l.cyclics; alarms = l.alarms; handlers = l.handlers }, (inside s.class may, nested)))
goes_back line whole s next (Task x) ss is may e =
    let add : TaskConfig → State = λ made. record s { config = record s.config { tasks = s.config.tasks ++ made ∷ [] } } in
    let p = one_ok (task_of line s.config.tasks (processor_of s.class) x) add next e in
    let ok = task_ok line s.config.tasks s.config.processors (processor_of s.class) x p.0 is.class p.1 in
    subst (GoesBack whole s (Task x) ss) (ap add (sym ok.2) ∙ p.2)
    (λ l nested. (record { standard = l.standard; processors = l.processors; ram = l.ram; tasks = l.tasks ∙ append_assoc s.config.tasks (task_said (processor_of s.class) x ∷ []) (tasks_of s.class ss); semaphores = l.semaphores; flags = l.flags; queues = l.queues; spin_locks = l.spin_locks; mutexes = l.mutexes; pools = l.pools; mailboxes = l.mailboxes; cyclics = l.cyclics; alarms = l.alarms; handlers = l.handlers }, nested))
goes_back line whole s next (Semaphore x) ss is may e =
    let add : SemaphoreConfig → State = λ made. record s { config = record s.config { semaphores = s.config.semaphores ++ made ∷ [] } } in
    let p = one_ok (semaphore_of line s.config.semaphores x) add next e in
    let ok = semaphore_ok line s.config.semaphores x p.0 p.1 in
    subst (GoesBack whole s (Semaphore x) ss) (ap add (sym ok.2) ∙ p.2)
    (λ l nested. (record { standard = l.standard; processors = l.processors; ram = l.ram; tasks = l.tasks; semaphores = l.semaphores ∙ append_assoc s.config.semaphores (semaphore_said x ∷ []) (semaphores_of ss); flags = l.flags; queues = l.queues; spin_locks = l.spin_locks; mutexes = l.mutexes; pools = l.pools; mailboxes = l.mailboxes; cyclics = l.cyclics; alarms = l.alarms; handlers = l.handlers }, nested))
goes_back line whole s next (Flag x) ss is may e =
    let add : FlagConfig → State = λ made. record s { config = record s.config { flags = s.config.flags ++ made ∷ [] } } in
    let p = one_ok (flag_of line s.config.flags x) add next e in
    let ok = flag_ok line s.config.flags x p.0 p.1 in
    subst (GoesBack whole s (Flag x) ss) (ap add (sym ok.2) ∙ p.2)
    (λ l nested. (record { standard = l.standard; processors = l.processors; ram = l.ram; tasks = l.tasks; semaphores = l.semaphores; flags = l.flags ∙ append_assoc s.config.flags (flag_said x ∷ []) (flags_of ss); queues = l.queues; spin_locks = l.spin_locks; mutexes = l.mutexes; pools = l.pools; mailboxes = l.mailboxes; cyclics = l.cyclics; alarms = l.alarms; handlers = l.handlers }, nested))
goes_back line whole s next (Queue x) ss is may e =
    let add : QueueConfig → State = λ made. record s { config = record s.config { queues = s.config.queues ++ made ∷ [] } } in
    let p = one_ok (queue_of line s.config.queues x) add next e in
    let ok = queue_ok line s.config.queues x p.0 p.1 in
    subst (GoesBack whole s (Queue x) ss) (ap add (sym ok.2) ∙ p.2)
    (λ l nested. (record { standard = l.standard; processors = l.processors; ram = l.ram; tasks = l.tasks; semaphores = l.semaphores; flags = l.flags; queues = l.queues ∙ append_assoc s.config.queues (queue_said x ∷ []) (queues_of ss); spin_locks = l.spin_locks; mutexes = l.mutexes; pools = l.pools; mailboxes = l.mailboxes; cyclics = l.cyclics; alarms = l.alarms; handlers = l.handlers }, nested))
goes_back line whole s next (SpinLock x) ss is may e =
    let add : SpinLockConfig → State = λ made. record s { config = record s.config { spin_locks = s.config.spin_locks ++ made ∷ [] } } in
    let p = one_ok (spin_lock_of line s.config.spin_locks x) add next e in
    let ok = spin_lock_ok line s.config.spin_locks x p.0 p.1 in
    subst (GoesBack whole s (SpinLock x) ss) (ap add (sym ok.2) ∙ p.2)
    (λ l nested. (record { standard = l.standard; processors = l.processors; ram = l.ram; tasks = l.tasks; semaphores = l.semaphores; flags = l.flags; queues = l.queues; spin_locks = l.spin_locks ∙ append_assoc s.config.spin_locks (spin_lock_said x ∷ []) (spin_locks_of ss); mutexes = l.mutexes; pools = l.pools; mailboxes = l.mailboxes; cyclics = l.cyclics; alarms = l.alarms; handlers = l.handlers }, (ok.3, nested)))
goes_back line whole s next (Mutex x) ss is may e =
    let add : MutexConfig → State = λ made. record s { config = record s.config { mutexes = s.config.mutexes ++ made ∷ [] } } in
    let p = one_ok (mutex_of line s.config.mutexes x) add next e in
    let ok = mutex_ok line s.config.mutexes x p.0 p.1 in
    subst (GoesBack whole s (Mutex x) ss) (ap add (sym ok.2) ∙ p.2)
    (λ l nested. (record { standard = l.standard; processors = l.processors; ram = l.ram; tasks = l.tasks; semaphores = l.semaphores; flags = l.flags; queues = l.queues; spin_locks = l.spin_locks; mutexes = l.mutexes ∙ append_assoc s.config.mutexes (mutex_said x ∷ []) (mutexes_of ss); pools = l.pools; mailboxes = l.mailboxes; cyclics = l.cyclics; alarms = l.alarms; handlers = l.handlers }, (may, ok.3, nested)))
goes_back line whole s next (Pool x) ss is may e =
    let add : PoolConfig → State = λ made. record s { config = record s.config { pools = s.config.pools ++ made ∷ [] } } in
    let p = one_ok (pool_of line s.config.ram s.config.pools x) add next e in
    let ok = pool_ok line s.config.ram s.config.pools x p.0 p.1 in
    subst (GoesBack whole s (Pool x) ss) (ap add (sym ok.2) ∙ p.2)
    (λ l nested. (record { standard = l.standard; processors = l.processors; ram = l.ram; tasks = l.tasks; semaphores = l.semaphores; flags = l.flags; queues = l.queues; spin_locks = l.spin_locks; mutexes = l.mutexes; pools = l.pools ∙ append_assoc s.config.pools (pool_said x ∷ []) (pools_of ss); mailboxes = l.mailboxes; cyclics = l.cyclics; alarms = l.alarms; handlers = l.handlers }, (may, nested)))
goes_back line whole s next (Mailbox x) ss is may e =
    let add : MailboxConfig → State = λ made. record s { config = record s.config { mailboxes = s.config.mailboxes ++ made ∷ [] } } in
    let p = one_ok (mailbox_of line s.config.mailboxes x) add next e in
    let ok = mailbox_ok line s.config.mailboxes x p.0 p.1 in
    subst (GoesBack whole s (Mailbox x) ss) (ap add (sym ok.2) ∙ p.2)
    (λ l nested. (record { standard = l.standard; processors = l.processors; ram = l.ram; tasks = l.tasks; semaphores = l.semaphores; flags = l.flags; queues = l.queues; spin_locks = l.spin_locks; mutexes = l.mutexes; pools = l.pools; mailboxes = l.mailboxes ∙ append_assoc s.config.mailboxes (mailbox_said x ∷ []) (mailboxes_of ss); cyclics = l.cyclics; alarms = l.alarms; handlers = l.handlers }, (may, nested)))
goes_back line whole s next (Cyclic x) ss is may e =
    let add : CyclicConfig → State = λ made. record s { config = record s.config { cyclics = s.config.cyclics ++ made ∷ [] } } in
    let p = one_ok (cyclic_of line s.config.cyclics (processor_of s.class) x) add next e in
    let ok = cyclic_ok line s.config.cyclics s.config.processors (processor_of s.class) x p.0 is.class p.1 in
    subst (GoesBack whole s (Cyclic x) ss) (ap add (sym ok.2) ∙ p.2)
    (λ l nested. (record { standard = l.standard; processors = l.processors; ram = l.ram; tasks = l.tasks; semaphores = l.semaphores; flags = l.flags; queues = l.queues; spin_locks = l.spin_locks; mutexes = l.mutexes; pools = l.pools; mailboxes = l.mailboxes; cyclics = l.cyclics ∙ append_assoc s.config.cyclics (cyclic_said (processor_of s.class) x ∷ []) (cyclics_of s.class ss); alarms = l.alarms; handlers = l.handlers }, (may, nested)))
goes_back line whole s next (Alarm x) ss is may e =
    let add : AlarmConfig → State = λ made. record s { config = record s.config { alarms = s.config.alarms ++ made ∷ [] } } in
    let p = one_ok (alarm_of line s.config.alarms (processor_of s.class) x) add next e in
    let ok = alarm_ok line s.config.alarms s.config.processors (processor_of s.class) x p.0 is.class p.1 in
    subst (GoesBack whole s (Alarm x) ss) (ap add (sym ok.2) ∙ p.2)
    (λ l nested. (record { standard = l.standard; processors = l.processors; ram = l.ram; tasks = l.tasks; semaphores = l.semaphores; flags = l.flags; queues = l.queues; spin_locks = l.spin_locks; mutexes = l.mutexes; pools = l.pools; mailboxes = l.mailboxes; cyclics = l.cyclics; alarms = l.alarms ∙ append_assoc s.config.alarms (alarm_said (processor_of s.class) x ∷ []) (alarms_of s.class ss); handlers = l.handlers }, (may, ok.3, nested)))
goes_back line whole s next (Handler x) ss is may e =
    let add : HandlerConfig → State = λ made. record s { config = record s.config { handlers = s.config.handlers ++ made ∷ [] } } in
    let p = one_ok (handler_of line s.config.handlers (processor_of s.class) x) add next e in
    let ok = handler_ok line s.config.handlers s.config.processors (processor_of s.class) x p.0 is.class p.1 in
    subst (GoesBack whole s (Handler x) ss) (ap add (sym ok.2) ∙ p.2)
    (λ l nested. (record { standard = l.standard; processors = l.processors; ram = l.ram; tasks = l.tasks; semaphores = l.semaphores; flags = l.flags; queues = l.queues; spin_locks = l.spin_locks; mutexes = l.mutexes; pools = l.pools; mailboxes = l.mailboxes; cyclics = l.cyclics; alarms = l.alarms; handlers = l.handlers ∙ append_assoc s.config.handlers (handler_said (processor_of s.class) x ∷ []) (handlers_of s.class ss) }, (ok.3, nested)))

-- ---- the statements up to the end

-- Statements that a text spells, which lead from what is said so far to the whole.
record Told (whole : Configuration) (s : State) (t : Text) : Type 0 where
  statements : List Statement
  spelled : AreSpelled (flat_map form statements) (bare_tokens t)
  leads : Leads whole s.config s.class statements
  nested : AreNested s.config.standard s.config.processors s.class statements

-- nothing follows
nothing_told : (whole : Configuration) (s : State × Text) → AreTokens (bare_tokens s.1) → (is_none s.0.class && is_end (first s.1).token) ≡ true → s.0.config ≡ whole → Told whole s.0 s.1
nothing_told whole s are ends e =
    let parts = and_parts (is_none s.0.class) (is_end (first s.1).token) ends in
    subst (λ (c : Configuration). Told c s.0 s.1) e
    (record {
      statements = [];
      spelled = no_tokens s.1 are parts.1;
      leads = record { standard = refl; processors = refl; ram = refl; tasks = sym (append-nil s.0.config.tasks); semaphores = sym (append-nil s.0.config.semaphores); flags = sym (append-nil s.0.config.flags); queues = sym (append-nil s.0.config.queues); spin_locks = sym (append-nil s.0.config.spin_locks); mutexes = sym (append-nil s.0.config.mutexes); pools = sym (append-nil s.0.config.pools); mailboxes = sym (append-nil s.0.config.mailboxes); cyclics = sym (append-nil s.0.config.cyclics); alarms = sym (append-nil s.0.config.alarms); handlers = sym (append-nil s.0.config.handlers) };
      nested = unnested s.0.class parts.0;
    })
  where
    unnested : (class : Option ℕ) → is_none class ≡ true → IsOutside class
    unnested None h = tt
    unnested (Some n) h = absurd (cc)

-- the turns that are left come to the whole
abbrev Comes : ℕ → Configuration → State × Text → Type 0
Comes n whole s = repeated NoMemory statement_step n s ≡ Ok whole

more_told : (n : ℕ) (whole : Configuration) (s : State × Text) (flow : Flow (State × Text) Configuration) → IsState s.0 → AreTokens (bare_tokens s.1) → ((t : State × Text) → IsState t.0 → AreTokens (bare_tokens t.1) → Comes n whole t → Told whole t.0 t.1)
    → one_more s ≡ Ok flow → followed (repeated NoMemory statement_step n) flow ≡ Ok whole → Told whole s.0 s.1
unfolding one_more
more_told n whole s flow is are again e h =
    let a = bind_ok (statement_at s.0.config.standard (is_some s.0.class) s.1) (λ read. added (first s.1).line s.0 read.0 >>= λ next. Ok (More (next, read.1))) flow e in
    let b = bind_ok (added (first s.1).line s.0 a.0.0) (λ next. Ok (More (next, a.0.1))) flow a.2 in
    let x = statement_back s.0.config.standard (is_some s.0.class) s.1 a.0 a.1 in
    let rest = behind_front x.front.front (bare_tokens a.0.1) (subst AreTokens x.front.tokens are) in
    let comes : Comes n whole (b.0, a.0.1) = ap (followed (repeated NoMemory statement_step n)) (ok_is (More (b.0, a.0.1)) flow b.2) ∙ h in
    let told = again (b.0, a.0.1) (added_ok (first s.1).line s.0 b.0 a.0.0 b.1 is) rest comes in
    let back = goes_back (first s.1).line whole s.0 b.0 a.0.0 told.statements is x.may b.1 told.leads told.nested in
    record {
      statements = a.0.0 ∷ told.statements;
      spelled = subst (AreSpelled (form a.0.0 ++ flat_map form told.statements)) (sym x.front.tokens) (both_spelled (form a.0.0) (flat_map form told.statements) x.front.front (bare_tokens a.0.1) x.front.spelled told.spelled);
      leads = back.0;
      nested = back.1;
    }

told_by : (n : ℕ) (whole : Configuration) (s : State × Text) (flow : Flow (State × Text) Configuration) (ends : Bool) → IsState s.0 → AreTokens (bare_tokens s.1) → ((t : State × Text) → IsState t.0 → AreTokens (bare_tokens t.1) → Comes n whole t → Told whole t.0 t.1)
    → (is_none s.0.class && is_end (first s.1).token) ≡ ends → cond ends (Ok (Done s.0.config)) (one_more s) ≡ Ok flow → followed (repeated NoMemory statement_step n) flow ≡ Ok whole → Told whole s.0 s.1
told_by n whole s flow true is are again ends e h =
    nothing_told whole s are ends (ok_is s.0.config whole (ap (followed (repeated NoMemory statement_step n)) (ok_is (Done s.0.config) flow e) ∙ h))
told_by n whole s flow false is are again ends e h = more_told n whole s flow is are again e h

told_back : (n : ℕ) (whole : Configuration) (s : State × Text) → IsState s.0 → AreTokens (bare_tokens s.1) → Comes n whole s → Told whole s.0 s.1
unfolding repeated statement_step
told_back zero whole s is are e = absurd (cc)
told_back (suc n) whole s is are e =
    let b = bind_ok (statement_step s) (followed (repeated NoMemory statement_step n)) whole e in
    told_by n whole s b.0 (is_none s.0.class && is_end (first s.1).token) is are (λ t ok ts h. told_back n whole t ok ts h) refl b.1 b.2

-- ---- the first statement

-- BOARD at the front, and what it says
record IsBegun (standard : Bool) (t : Text) (s : State × Text) : Type 0 where
  processors : ℕ
  ram : ℕ
  front : Front (form (Board processors ram)) t s.1
  state : s.0 ≡ record { config = started standard processors ram; class = None }

word_token : (word : List ℕ) (w : Token) → is_word word w ≡ true → w ≡ Run word
word_token word (Run run) h = ap (λ (x : List ℕ). Run x) ((bytes_eq-Decides run word).0 h)
word_token word (Mark b) h = absurd (cc)
word_token word Unclosed h = absurd (cc)
word_token word End h = absurd (cc)

mark_token : (mark : ℕ) (w : Token) → is_mark mark w ≡ true → w ≡ Mark mark
mark_token mark (Run run) h = absurd (cc)
mark_token mark (Mark b) h = ap (λ (x : ℕ). Mark x) (eqb-true b mark h)
mark_token mark Unclosed h = absurd (cc)
mark_token mark End h = absurd (cc)

board_said : (standard : Bool) (line processors ram : ℕ) (c : Configuration) → board_of standard line processors ram ≡ Ok c → c ≡ started standard processors ram
unfolding board_of
board_said standard line processors ram c e =
    let p = two_ok (within 1 8 (BadProcessor line) processors) (refused (not (is_ram_size ram)) (BadCount line))
    (λ count sized. record { standard = standard; processors = count; ram = ram; tasks = []; semaphores = []; flags = []; queues = []; spin_locks = []; mutexes = []; pools = []; mailboxes = []; cyclics = []; alarms = []; handlers = [] }) c e in
    sym p.4 ∙ ap (λ (count : ℕ). started standard count ram) (within_ok 1 8 (BadProcessor line) processors p.0 p.2).0

begun_back : (standard : Bool) (line : ℕ) (t : Text) (s : State × Text) → (first t).token ≡ Run (codes "BOARD") → first_board standard line (others t) ≡ Ok s → IsBegun standard t s
unfolding first_board
begun_back standard line t s is e =
    let a = bind_ok (board_at (others t)) (λ board. board_of standard line board.0 board.1 >>= λ config. Ok (record { config = config; class = None }, board.2)) s e in
    let b = bind_ok (board_of standard line a.0.0 a.0.1) (λ config. Ok (record { config = config; class = None }, a.0.2)) s a.2 in
    let made : State × Text = (record { config = b.0; class = None }, a.0.2) in
    subst (IsBegun standard t) (ok_is made s b.2) (record {
      processors = a.0.0;
      ram = a.0.1;
      front = exactly (codes "BOARD") t is then board_back (others t) a.0 a.1;
      state = ap (λ (c : Configuration). record { config = c; class = None }) (board_said standard line a.0.0 a.0.1 b.0 b.1);
    })

first_back : (standard : Bool) (t : Text) (s : State × Text) → first_statement standard t ≡ Ok s → IsBegun standard t s
unfolding first_statement
first_back standard t s e = by_token (is_board (first t).token) refl e
  where
    by_token : (b : Bool) → is_board (first t).token ≡ b → cond b (first_board standard (first t).line (others t)) (Err (Syntax (first t).line)) ≡ Ok s → IsBegun standard t s
    by_token true is e = begun_back standard (first t).line t s (word_token (codes "BOARD") (first t).token is) e
    by_token false is e = absurd (cc)

-- ---- the profile

five : (a b c d e : Bool) → (a && b && c && d && e) ≡ true → (a ≡ true) × (b ≡ true) × (c ≡ true) × (d ≡ true) × (e ≡ true)
five a b c d e is = (grind (arith, is), grind (arith, is), grind (arith, is), grind (arith, is), grind (arith, is))

sign : (b : ℕ) (t : Text) → is_mark b (first t).token ≡ true → Front (Sign b ∷ []) t (others t)
sign b t is = one_front (Sign b) (Mark b) t (others t) (λ e. cc) refl (mark_token b (first t).token is) refl

word : (run : List ℕ) (t : Text) → is_word run (first t).token ≡ true → Front (Exactly run ∷ []) t (others t)
word run t is = exactly run t (word_token run (first t).token is)

profile_front : (t : Text) → has_profile t ≡ true → Front (profile_form true) t (behind_profile t)
unfolding has_profile
profile_front t is =
    let t1 = others t in
    let t2 = others t1 in
    let t3 = others t2 in
    let t4 = others t3 in
    let all = five (is_word (codes "PROFILE") (first t).token) (is_mark 40 (first t1).token) (is_word (codes "STANDARD") (first t2).token) (is_mark 41 (first t3).token) (is_mark 59 (first t4).token) is in
    word (codes "PROFILE") t all.0 then sign 40 t1 all.1 then word (codes "STANDARD") t2 all.2 then sign 41 t3 all.3 then sign 59 t4 all.4

abbrev opened_by : Bool → Text → Bool × Text
opened_by one t = cond one (true, behind_profile t) (false, t)

-- what stands before the text from BOARD on
opened_back : (t : Text) → Front (profile_form (opened t).0) t (opened t).1
unfolding opened
opened_back t = by_test (has_profile t) refl
  where
    by_test : (b : Bool) → has_profile t ≡ b → Front (profile_form (opened_by b t).0) t (opened_by b t).1
    by_test true is = profile_front t is
    by_test false is = record { front = []; spelled = refl; tokens = refl }

-- ---- the text

-- all that there is, where nothing was said before
whole_said : (whole : Configuration) (standard : Bool) (processors ram : ℕ) (ss : List Statement) → Leads whole (started standard processors ram) None ss → whole ≡ said standard processors ram ss
whole_said whole standard processors ram ss l = sym (all_said whole (said standard processors ram ss) None (record {
  standard = l.standard;
  processors = l.processors;
  ram = l.ram;
  tasks = l.tasks ∙ sym (append-nil (tasks_of None ss));
  semaphores = l.semaphores ∙ sym (append-nil (semaphores_of ss));
  flags = l.flags ∙ sym (append-nil (flags_of ss));
  queues = l.queues ∙ sym (append-nil (queues_of ss));
  spin_locks = l.spin_locks ∙ sym (append-nil (spin_locks_of ss));
  mutexes = l.mutexes ∙ sym (append-nil (mutexes_of ss));
  pools = l.pools ∙ sym (append-nil (pools_of ss));
  mailboxes = l.mailboxes ∙ sym (append-nil (mailboxes_of ss));
  cyclics = l.cyclics ∙ sym (append-nil (cyclics_of None ss));
  alarms = l.alarms ∙ sym (append-nil (alarms_of None ss));
  handlers = l.handlers ∙ sym (append-nil (handlers_of None ss));
}))

says : (bytes : List ℕ) (c : Configuration) (x : Bool × Text) (s : State × Text) → IsConfiguration c → Front (profile_form x.0) (tokens_of bytes) x.1 → IsBegun x.0 x.1 s → Told c s.0 s.1 → Says bytes c
says bytes c x s valid opening begun told =
    let ss = told.statements in
    let all = Board begun.processors begun.ram ∷ ss in
    let front = begun.front in
    let leads : Leads c (started x.0 begun.processors begun.ram) None ss = subst (λ (q : State). Leads c q.config q.class ss) begun.state told.leads in
    let nested : AreNested x.0 begun.processors None ss = subst (λ (q : State). AreNested q.config.standard q.config.processors q.class ss) begun.state told.nested in
    let same : c ≡ said x.0 begun.processors begun.ram ss = whole_said c x.0 begun.processors begun.ram ss leads in
    let from_board : AreSpelled (flat_map form all) (bare_tokens x.1) =
    subst (AreSpelled (form (Board begun.processors begun.ram) ++ flat_map form ss)) (sym front.tokens) (both_spelled (form (Board begun.processors begun.ram)) (flat_map form ss) front.front (bare_tokens s.1) front.spelled told.spelled) in
    let spelled : AreSpelled (profile_form x.0 ++ flat_map form all) (bare_tokens (tokens_of bytes)) =
    subst (AreSpelled (profile_form x.0 ++ flat_map form all)) (sym opening.tokens) (both_spelled (profile_form x.0) (flat_map form all) opening.front (bare_tokens x.1) opening.spelled from_board) in
    let bytes_spell = spelled_back 1 bytes (closed (profile_form x.0 ++ flat_map form all) (bare_tokens (tokens_of bytes)) spelled) in
    (x.0, begun.processors, begun.ram, ss, (bare_tokens (tokens_of bytes), bytes_spell, spelled), record { nested = nested; values = subst IsConfiguration same valid }, same)

-- what the statements from BOARD on come to
record IsRead (c : Configuration) (x : Bool × Text) : Type 0 where
  state : State × Text
  begun : IsBegun x.0 x.1 state
  told : Told c state.0 state.1

from_back : (x : Bool × Text) (c : Configuration) → AreTokens (bare_tokens x.1) → config_from x ≡ Ok c → IsRead c x
unfolding config_from statements_from
from_back x c are e =
    let a = bind_ok (first_statement x.0 x.1) statements_from c e in
    let begun = first_back x.0 x.1 a.0 a.1 in
    let rest = behind_front begun.front.front (bare_tokens a.0.1) (subst AreTokens begun.front.tokens are) in
    record { state = a.0; begun = begun; told = told_back (suc (length a.0.1.tokens)) c a.0 (first_ok x.0 x.1 a.0 a.1) rest a.2 }

text_back : (bytes : List ℕ) (c : Configuration) → config_of bytes ≡ Ok c → IsRead c (opened (tokens_of bytes))
unfolding config_of
text_back bytes c e =
    let t = tokens_of bytes in
    let opening = opened_back t in
    from_back (opened t) c (behind_front opening.front (bare_tokens (opened t).1) (subst AreTokens opening.tokens (are_tokens Between 1 bytes))) e

pub says_back : (bytes : List ℕ) (c : Configuration) → config_of bytes ≡ Ok c → Says bytes c
says_back bytes c e =
    let read = text_back bytes c e in
    says bytes c (opened (tokens_of bytes)) read.state (config_is_valid bytes c e) (opened_back (tokens_of bytes)) read.begun read.told

-- ---- what the profile is new for

opened_mark : (t : Text) → (opened t).0 ≡ has_profile t
unfolding opened
opened_mark t = by_test (has_profile t)
  where
    by_test : (b : Bool) → (opened_by b t).0 ≡ b
    by_test true = refl
    by_test false = refl

pub marked_back : (bytes : List ℕ) (c : Configuration) → config_of bytes ≡ Ok c → c.standard ≡ has_profile (tokens_of bytes)
marked_back bytes c e =
    let read = text_back bytes c e in
    read.told.leads.standard ∙ ap (λ (s : State). s.config.standard) read.begun.state ∙ opened_mark (tokens_of bytes)

pub plain_text : (bytes : List ℕ) → has_profile (tokens_of bytes) ≡ false → config_of bytes ≡ plain_config_of bytes
unfolding config_of opened
plain_text bytes none = rw none refl

-- what a configuration has in the profile alone
abbrev HasNone : Configuration → Type 0
HasNone c = (c.mutexes ≡ []) × (c.pools ≡ []) × (c.mailboxes ≡ []) × (c.cyclics ≡ []) × (c.alarms ≡ [])

none_said : (processors : ℕ) (class : Option ℕ) (ss : List Statement) → AreNested false processors class ss →
    (mutexes_of ss ≡ []) × (pools_of ss ≡ []) × (mailboxes_of ss ≡ []) × (cyclics_of class ss ≡ []) × (alarms_of class ss ≡ [])
none_said processors class [] nested = (refl, refl, refl, refl, refl)
none_said processors class (Board p ram ∷ ss) nested = absurd nested
none_said processors class (Class n ∷ ss) nested = none_said processors (Some n) ss nested.2
none_said processors class (ClassEnd ∷ ss) nested = none_said processors None ss nested.1
none_said processors class (Task x ∷ ss) nested = none_said processors class ss nested
none_said processors class (Semaphore x ∷ ss) nested = none_said processors class ss nested
none_said processors class (Flag x ∷ ss) nested = none_said processors class ss nested
none_said processors class (Queue x ∷ ss) nested = none_said processors class ss nested
none_said processors class (SpinLock x ∷ ss) nested = none_said processors class ss nested.1
none_said processors class (Mutex x ∷ ss) nested = let wrong : ⊥ = cc in absurd wrong
none_said processors class (Pool x ∷ ss) nested = let wrong : ⊥ = cc in absurd wrong
none_said processors class (Mailbox x ∷ ss) nested = let wrong : ⊥ = cc in absurd wrong
none_said processors class (Cyclic x ∷ ss) nested = let wrong : ⊥ = cc in absurd wrong
none_said processors class (Alarm x ∷ ss) nested = let wrong : ⊥ = cc in absurd wrong
none_said processors class (Handler x ∷ ss) nested = none_said processors class ss nested.1

none_of : (standard : Bool) (processors ram : ℕ) (ss : List Statement) → AreNested standard processors None ss → standard ≡ false → HasNone (said standard processors ram ss)
none_of true processors ram ss nested is = let wrong : ⊥ = cc in absurd wrong
none_of false processors ram ss nested is = none_said processors None ss nested

pub none_without : (bytes : List ℕ) (c : Configuration) → config_of bytes ≡ Ok c → c.standard ≡ false →
    (c.mutexes ≡ []) × (c.pools ≡ []) × (c.mailboxes ≡ []) × (c.cyclics ≡ []) × (c.alarms ≡ [])
none_without bytes c e is =
    let s = says_back bytes c e in
    let same : c ≡ said s.0 s.1 s.2 s.3 = s.6 in
    subst HasNone (sym same) (none_of s.0 s.1 s.2 s.3 s.5.nested (sym (ap (λ (q : Configuration). q.standard) same) ∙ is))
