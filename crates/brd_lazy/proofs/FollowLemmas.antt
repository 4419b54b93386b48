-- Behind each place to which a schedule leads there is a place of the tree.
use Rattle.std.proofs.Common.{◌≡◌, ℕ, zero, suc, ◌+◌, ◌<◌, inl, inr, true, false, List, [], ◌∷◌, length, refl, sym, ap, subst, ◌∙◌, arith}
use Rattle.std.specs.Prelude.{not, if◌then◌else◌, Some, None}
use Rattle.std.specs.Option.{option_map}
use Rattle.std.proofs.lemmas.Bool.{cases_Bool, false≢true}
use Rattle.brd_kernel.specs.declared.processor.Executor.{Executor}
use Rattle.brd_kernel.specs.Kernel.{executor_on, deliverable}
use Rattle.brd_board.specs.declared.event.Event.{Event}
use Rattle.brd_board.specs.declared.event.Event.TheVariants.{Step, Tick, Raise}
use Rattle.brd_board.specs.declared.event.Report.TheVariants as report
use Rattle.brd_board.specs.Board.{BoardState, reported, happens_on, happens}
use Rattle.brd_journal.specs.Still.{did_nothing}
use Rattle.brd_explore.specs.Schedules.{Place, does, is_left, next, place_after, IsWithin}
use Rattle.brd_explore.specs.Searching.{FailsAt}
use Rattle.brd_explore.specs.declared.wanted.Wanted.{Wanted}
use Rattle.brd_frames.specs.Agents.{Agent, agent_by}
use Rattle.brd_frames.specs.Apart.{is_steady, Executes}
use Rattle.brd_frames.specs.Going.{IsNext}
use Rattle.brd_frames.specs.Lagging.{Sharing, Keeps, IsInvisible, Lags, Path, without}
use Rattle.brd_frames.specs.Reducing.{IsQuiet, EndsMortals}
use Rattle.brd_frames.proofs.LagLemmas.{Pulled, pull}
use Rattle.brd_frames.proofs.ReduceLemmas.{Like, like-invisible, like-lags, like-path, Others, without-others, one-agent, acts-by, quiet-ends, Lives, AllLive, all-like, live-without, executor-lives, Over, over-others, tick-step, raise-step}
use Rattle.brd_blocks.specs.Stepping.{StandsWell, IsHidden, IsVisible}
use Rattle.brd_reach.specs.Reaching.{Guards}
use Rattle.brd_reach.proofs.StepLemmas.{hidden-lasts}
use Rattle.brd_reach.proofs.WalkLemmas.{next-one, after-more}
use Rattle.brd_reach.proofs.AlikeLemmas.{alike-lags, fails-behind}
use Rattle.brd_lazy.specs.Blocks.{after_steps, end_of, MayCome}
use Rattle.brd_lazy.specs.Trees.{IsCovered, IsLazyTree, IsAhead, LagsBehind, LazyLaw, NoneLaw}
use Rattle.brd_lazy.proofs.StepLemmas.{stepper-like, stepper-on, last-one, ends-at, Walked, walk}
use Rattle.brd_lazy.proofs.RoomLemmas.{some-events, ahead-left, ahead-richer, richer-ahead, ahead-tick, ahead-raise, ahead-steps, ahead-waits}

-- a place of the tree that lags behind a place, the agents that lag being live there
pub record Follows (by : Sharing) (In : Place → Type 0) (p : Place) : Type 0 where
  pub at : Place
  pub there : In at
  pub lagging : List Agent
  pub lags : Lags by at.board lagging p.board
  pub live : AllLive at.board lagging
  pub ahead : IsAhead at p (length lagging)

-- one that covers a place does what that place does
settles : (by : Sharing) (In : Place → Type 0) (z p : Place) (lagging : List Agent) → IsCovered In z → Lags by z.board lagging p.board →
    AllLive z.board lagging → IsAhead z p (length lagging) → Follows by In p
settles by In z p lagging covered lags live ahead = record {
  at = covered.place;
  there = covered.there;
  lagging = lagging;
  lags = subst (λ b. Lags by b lagging p.board) (sym covered.richer.board) lags;
  live = subst (λ b. AllLive b lagging) (sym covered.richer.board) live;
  ahead = ahead-richer covered.place z p (length lagging) covered.richer ahead;
}

does-same : (b c : BoardState) (event : Event) → (happens c event).report ≡ (happens b event).report → does c event ≡ does b event
unfolding does
does-same b c event same = ap (λ r. not (did_nothing r)) same

-- Events in which no agent executes an instruction.

quiet-over : (by : Sharing) (In : Place → Type 0) (p : Place) (event : Event) (it : Follows by In p) → IsQuiet it.at.board event →
    Over by it.at.board p.board event it.lagging
quiet-over by In p event it quiet =
    over-others by p.board it.at.board event it.lagging it.lags it.live (λ x acts. absurd (quiet x acts))
    (λ id ends. absurd (quiet-ends it.at.board event id quiet ends))

quiet-ahead : (by : Sharing) (q p : Place) (event : Event) (lagging : List Agent) → Over by q.board p.board event lagging →
    IsAhead q p (length lagging) → is_left p event ≡ true → IsAhead (next q event) (next p event) (length lagging)
quiet-ahead by q p (Step cpu) lagging over ahead is =
    let one : BoardState = (happens q.board (Step cpu)).board in
    let other : BoardState = (happens p.board (Step cpu)).board in
    ahead-steps q (next q (Step cpu)) p cpu 0 (length lagging) (length lagging) (omega arith) ahead is (ap (λ (z : Place). z.left) (last-one q cpu))
    (sym (stepper-like one other q.last p.last cpu (like-lags by one other lagging over.lags)))
quiet-ahead by q p Tick lagging over ahead is = ahead-tick q p (length lagging) ahead is
quiet-ahead by q p (Raise line) lagging over ahead is = ahead-raise q p line (length lagging) ahead is

by-quiet : (by : Sharing) (among : List Event) (In : Place → Type 0) (p : Place) (event : Event) (it : Follows by In p) →
    IsLazyTree by among In → MayCome among p event → does p.board event ≡ true → IsQuiet it.at.board event → Follows by In (next p event)
by-quiet by among In p event it tree may does-it quiet =
    let over : Over by it.at.board p.board event it.lagging = quiet-over by In p event it quiet in
    let here : MayCome among it.at event =
    record { listed = may.listed; left = ahead-left it.at p (length it.lagging) event it.ahead may.left } in
    settles by In (next it.at event) (next p event) it.lagging
    (tree.quiet it.at event it.there here (sym (does-same it.at.board p.board event over.report) ∙ does-it) quiet)
    over.lags over.live (quiet-ahead by it.at p event it.lagging over it.ahead may.left)

-- Instructions.

-- an agent executes on a processor of a place of the tree, and its instructions that lag come first there
record Acts (by : Sharing) (among : List Event) (In : Place → Type 0) (p : Place) (cpu : ℕ) (it : Follows by In p) : Type 0 where
  who : Executor
  executes : executor_on it.at.board.kernel cpu ≡ Some who
  free : deliverable it.at.board.kernel cpu ≡ None
  here : MayCome among it.at (Step cpu)
  stands : StandsWell it.at.board cpu who
  next : IsNext it.at.board cpu (agent_by cpu who)
  pulled : Pulled by it.at.board (agent_by cpu who) it.lagging p.board
  room : pulled.count < it.at.left.events
  walked : Walked by it.at.board cpu (agent_by cpu who) pulled.count pulled.middle

acts-so : (by : Sharing) (among : List Event) (In : Place → Type 0) (p : Place) (cpu : ℕ) (it : Follows by In p) (x : Executor) →
    IsLazyTree by among In → MayCome among p (Step cpu) → it.at.board.kernel.off ≡ false →
    executor_on it.at.board.kernel cpu ≡ Some x → deliverable it.at.board.kernel cpu ≡ None → Acts by among In p cpu it
acts-so by among In p cpu it x tree may off on none =
    let q : Place = it.at in
    let y : Agent = agent_by cpu x in
    let kept = tree.kept q it.there in
    let here : MayCome among q (Step cpu) =
    record { listed = may.listed; left = ahead-left q p (length it.lagging) (Step cpu) it.ahead may.left } in
    let stands : StandsWell q.board cpu x = kept.stands cpu here x on in
    let next : IsNext q.board cpu y = record {
      executor = x;
      is = refl;
      goes_on = record { on = off; executes = on; uninterrupted = none; place = stands.place };
    } in
    let pulled : Pulled by q.board y it.lagging p.board = pull by q.board p.board y it.lagging it.lags in
    let room : pulled.count < q.left.events = omega (arith, it.ahead.events, some-events p (Step cpu) may.left, pulled.few) in
    record {
      who = x;
      executes = on;
      free = none;
      here = here;
      stands = stands;
      next = next;
      pulled = pulled;
      room = room;
      walked = walk by among q cpu y pulled.count pulled.middle kept here next (omega (arith, room)) pulled.path;
    }

-- What the instruction does to the other agents that lag is the same, whether others may see it or not.
others-over : (by : Sharing) (among : List Event) (In : Place → Type 0) (p : Place) (cpu : ℕ) (it : Follows by In p) (a : Acts by among In p cpu it) →
    Keeps by a.pulled.middle (agent_by cpu a.who) → EndsMortals by a.pulled.middle (Step cpu) →
    Over by a.pulled.middle p.board (Step cpu) (without (agent_by cpu a.who) it.lagging)
others-over by among In p cpu it a keeps mortals =
    let q : Place = it.at in
    let y : Agent = agent_by cpu a.who in
    let middle : BoardState = a.pulled.middle in
    let others : List Agent = without y it.lagging in
    let like : Like q.board middle = like-path by q.board middle y a.pulled.count a.pulled.path in
    let acts : Executes middle (Step cpu) y = record {
      cpu = cpu;
      steps = refl;
      executes = ap (option_map (agent_by cpu)) (like.executors cpu ∙ a.executes);
      uninterrupted = like.deliverables cpu ∙ a.free;
    } in
    over-others by p.board middle (Step cpu) others a.pulled.lags (all-like q.board middle others like (live-without q.board y it.lagging it.live))
    (λ z other. subst (λ w. Others w others × Keeps by middle w) (one-agent middle (Step cpu) y z acts other) (without-others y it.lagging, keeps))
    mortals

-- an agent, so many times, and others after it
abbrev many : ℕ → Agent → List Agent → List Agent
many zero who others = others
many (suc n) who others = who ∷ many n who others

many-length : (n : ℕ) (who : Agent) (others : List Agent) → length (many n who others) ≡ n + length others
many-length zero who others = omega arith
many-length (suc n) who others = omega (arith, many-length n who others)

many-live : (b : BoardState) (n : ℕ) (who : Agent) (others : List Agent) → Lives b who → AllLive b others → AllLive b (many n who others)
many-live b zero who others live rest = rest
many-live b (suc n) who others live rest = (live, many-live b n who others live rest)

many-lags : (by : Sharing) (b middle new last : BoardState) (n : ℕ) (who : Agent) (others : List Agent) → Path by b who n middle →
    is_steady b.kernel who ≡ true → IsInvisible by middle who new → Lags by new others last → Lags by b (many (suc n) who others) last
many-lags by b middle new last zero who others path steady it lags =
    subst (λ z. Lags by z (many 1 who others) last) path
    (new, it, subst (λ (z : BoardState). is_steady z.kernel who ≡ true) (sym path) steady, lags)
many-lags by b middle new last (suc n) who others path steady it lags = (
  path.0,
  path.1,
  steady,
  many-lags by path.0 middle new last n who others path.2 ((like-invisible by b who path.0 path.1).steady who ∙ steady) it lags,
)

-- the instruction is one that nobody else can see: the tree waits
waits : (by : Sharing) (among : List Event) (In : Place → Type 0) (p : Place) (cpu : ℕ) (it : Follows by In p) (a : Acts by among In p cpu it) →
    is_left p (Step cpu) ≡ true → IsHidden by a.pulled.middle cpu → Follows by In (next p (Step cpu))
waits by among In p cpu it a left hidden =
    let q : Place = it.at in
    let y : Agent = agent_by cpu a.who in
    let middle : BoardState = a.pulled.middle in
    let others : List Agent = without y it.lagging in
    let lagging : List Agent = many (suc a.pulled.count) y others in
    let there : IsNext middle cpu y = subst (λ z. IsNext z cpu y) (sym a.walked.is) a.walked.next in
    let inv : IsInvisible by middle y (happens middle (Step cpu)).board =
    subst (λ w. IsInvisible by middle w (happens middle (Step cpu)).board) (next-one middle cpu hidden.who y hidden.next there) hidden.invisible in
    let over : Over by middle p.board (Step cpu) others =
    others-over by among In p cpu it a inv.keeps (λ id ends. absurd (hidden-lasts by middle cpu hidden id ends)) in
    let lags : Lags by q.board lagging (happens p.board (Step cpu)).board =
    many-lags by q.board middle (happens middle (Step cpu)).board (happens p.board (Step cpu)).board a.pulled.count y others a.pulled.path
    a.stands.steady inv over.lags in
    let like : Like q.board (happens p.board (Step cpu)).board = like-lags by q.board (happens p.board (Step cpu)).board lagging lags in
    let last : (next p (Step cpu)).last ≡ Some cpu =
    stepper-on (happens p.board (Step cpu)).board p.last cpu a.who (like.executors cpu ∙ a.executes) in
    let more : length it.lagging + 1 ≡ length lagging = omega (arith, many-length (suc a.pulled.count) y others, a.pulled.few) in
    record {
      at = q;
      there = it.there;
      lagging = lagging;
      lags = lags;
      live = many-live q.board (suc a.pulled.count) y others (executor-lives q.board cpu a.who a.stands.live)
          (live-without q.board y it.lagging it.live);
      ahead = subst (IsAhead q (next p (Step cpu))) more (ahead-waits q p cpu (length it.lagging) it.ahead left last);
    }

-- others may see it: the tree does the whole block
goes : (by : Sharing) (among : List Event) (In : Place → Type 0) (p : Place) (cpu : ℕ) (it : Follows by In p) (a : Acts by among In p cpu it) →
    IsLazyTree by among In → is_left p (Step cpu) ≡ true → does p.board (Step cpu) ≡ true →
    IsVisible by (after_steps it.at.board cpu a.pulled.count) cpu → Follows by In (next p (Step cpu))
goes by among In p cpu it a tree left did visible =
    let q : Place = it.at in
    let y : Agent = agent_by cpu a.who in
    let middle : BoardState = a.pulled.middle in
    let count : ℕ = a.pulled.count in
    let others : List Agent = without y it.lagging in
    let seen : IsVisible by middle cpu = subst (λ z. IsVisible by z cpu) (sym a.walked.is) visible in
    let here : IsNext middle cpu y = subst (λ z. IsNext z cpu y) (sym a.walked.is) a.walked.next in
    let over : Over by middle p.board (Step cpu) others =
    others-over by among In p cpu it a (subst (Keeps by middle) (next-one middle cpu seen.who y seen.next here) seen.keeps) seen.mortals in
    let done : does (after_steps q.board cpu count) (Step cpu) ≡ true =
    subst (λ z. does z (Step cpu) ≡ true) a.walked.is (sym (does-same middle p.board (Step cpu) over.report) ∙ did) in
    let there : (happens middle (Step cpu)).board ≡ after_steps q.board cpu (suc count) =
    ap (λ z. (happens z (Step cpu)).board) a.walked.is ∙ after-more cpu count q.board in
    let lags : Lags by (after_steps q.board cpu (suc count)) others (happens p.board (Step cpu)).board =
    subst (λ z. Lags by z others (happens p.board (Step cpu)).board) there over.lags in
    let last : (next p (Step cpu)).last ≡ (end_of q cpu count).last =
    stepper-like (after_steps q.board cpu (suc count)) (happens p.board (Step cpu)).board q.last p.last cpu
    (like-lags by (after_steps q.board cpu (suc count)) (happens p.board (Step cpu)).board others lags) in
    settles by In (end_of q cpu count) (next p (Step cpu)) others
    (subst (IsCovered In) (ends-at by q cpu count a.walked.hidden done)
    (tree.blocks q cpu count it.there a.here a.room (record { hidden = a.walked.hidden; visible = visible })))
    lags
    (subst (λ z. AllLive z others) there over.live)
    (ahead-steps q (end_of q cpu count) p cpu count (length others) (length it.lagging) a.pulled.few it.ahead left refl (sym last))

by-acts : (by : Sharing) (among : List Event) (In : Place → Type 0) (p : Place) (cpu : ℕ) (it : Follows by In p) → Acts by among In p cpu it →
    IsLazyTree by among In → is_left p (Step cpu) ≡ true → does p.board (Step cpu) ≡ true → Follows by In (next p (Step cpu))
by-acts by among In p cpu it a tree left did =
    elim ((tree.kept it.at it.there).blocks cpu a.pulled.count (agent_by cpu a.who) a.here a.next a.room a.walked.hidden) [
      | inl hidden ↦ waits by among In p cpu it a left (subst (λ z. IsHidden by z cpu) (sym a.walked.is) hidden)
      | inr visible ↦ goes by among In p cpu it a tree left did visible
    ]

off-does : (b : BoardState) (event : Event) → b.kernel.off ≡ true → does b event ≡ false
unfolding does happens
off-does b event is = ap (λ test. not (did_nothing (if test then reported b report.Off else happens_on b event).report)) is

does-on : (b : BoardState) (event : Event) → does b event ≡ true → b.kernel.off ≡ false
does-on b event did = elim (cases_Bool b.kernel.off) [
  | inl off ↦ absurd (false≢true (sym (off-does b event off) ∙ did))
  | inr on ↦ on
]

by-event : (by : Sharing) (among : List Event) (In : Place → Type 0) (p : Place) (event : Event) → Follows by In p → IsLazyTree by among In →
    MayCome among p event → does p.board event ≡ true → Follows by In (next p event)
by-event by among In p (Step cpu) it tree may did =
    let like : Like it.at.board p.board = like-lags by it.at.board p.board it.lagging it.lags in
    let on : it.at.board.kernel.off ≡ false = sym like.off ∙ does-on p.board (Step cpu) did in
    elim (acts-by it.at.board cpu (executor_on it.at.board.kernel cpu) (deliverable it.at.board.kernel cpu) refl refl) [
      | inl acts ↦
          by-acts by among In p cpu it (acts-so by among In p cpu it acts.0 tree may on acts.1 acts.2) tree may.left did
      | inr quiet ↦ by-quiet by among In p (Step cpu) it tree may did quiet
    ]
by-event by among In p Tick it tree may did =
    by-quiet by among In p Tick it tree may did (λ who acts. tick-step acts.cpu acts.steps)
by-event by among In p (Raise line) it tree may did =
    by-quiet by among In p (Raise line) it tree may did (λ who acts. raise-step line acts.cpu acts.steps)

-- Schedules.

pub follows : (by : Sharing) (among : List Event) (In : Place → Type 0) (p : Place) (es : List Event) → Follows by In p → IsLazyTree by among In →
    IsWithin among p es → Follows by In (place_after p es)
follows by among In p [] it tree within = it
follows by among In p (e ∷ es) it tree within = elim (cases_Bool (does p.board e)) [
  | inl did ↦
      let comes = within.0 did in
      subst (λ test. Follows by In (if test then place_after (next p e) es else place_after p es)) (sym did)
      (follows by among In (next p e) es
      (by-event by among In p e it tree (record { listed = comes.0; left = comes.1 }) did) tree comes.2)
  | inr none ↦
      subst (λ test. Follows by In (if test then place_after (next p e) es else place_after p es)) (sym none)
      (follows by among In p es it tree (within.1 none))
]

pub begins : (by : Sharing) (In : Place → Type 0) (p : Place) → IsCovered In p → Follows by In p
begins by In p covered = record {
  at = covered.place;
  there = covered.there;
  lagging = [];
  lags = sym covered.richer.board;
  live = tt;
  ahead = richer-ahead covered.place p covered.richer;
}

pub lazy : LazyLaw
lazy by among In p es tree covered within =
    let it = follows by among In p es (begins by In p covered) tree within in
    record { place = it.at; there = it.there; lags = record { lagging = it.lagging; lags = it.lags; ahead = it.ahead } }

-- a place that lags behind one that fails does
pub fails-there : (by : Sharing) (wanted : Wanted) (q p : Place) → wanted.rounds ≡ 0 → Guards by wanted → LagsBehind by q p →
    FailsAt wanted p → FailsAt wanted q
fails-there by wanted q p none guards lags fails =
    fails-behind by wanted q.board p.board q.left p.left none guards (alike-lags by q.board p.board lags.lagging lags.lags)
    (sym lags.ahead.owed) fails

pub none-fails : NoneLaw
none-fails by among wanted In p none fine covered es within fails =
    let it = lazy by among In p es fine.tree covered within in
    fine.holds it.place it.there (fails-there by wanted it.place (place_after p es) none fine.guards it.lags fails)
