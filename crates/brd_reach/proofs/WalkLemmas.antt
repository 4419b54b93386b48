-- Blocks: walks of invisible instructions, and where they end.
use Rattle.std.proofs.Common.{◌≡◌, ℕ, zero, suc, true, false, refl, sym, ap, subst, ◌∙◌, ◌⊎◌, inl, inr, arith}
use Rattle.std.specs.Prelude.{◌+◌, ◌<◌, replicate, Some}
use Rattle.std.specs.Option.{option_map}
use Rattle.brd_link.specs.LinkSet.{IsLinkSet}
use Rattle.brd_board.specs.declared.event.Event.TheVariants.{Step}
use Rattle.brd_board.specs.Board.{BoardState, happens, after}
use Rattle.brd_frames.specs.Agents.{Agent, agent_by}
use Rattle.brd_frames.specs.Going.{IsNext}
use Rattle.brd_frames.specs.Commuting.{EndsNoLink}
use Rattle.brd_frames.specs.Lagging.{Sharing, Keeps, IsInvisible, Path}
use Rattle.brd_frames.specs.Reducing.{IsQuiet, EndsMortals}
use Rattle.brd_frames.proofs.ReduceLemmas.{like-invisible, like-path, like-next}
use Rattle.brd_blocks.specs.Stepping.{AllStandWell, IsHidden, IsVisible}
use Rattle.brd_reach.specs.Rounds.{LeadsTo, HasWalked}

-- Who is next.

pub next-one : (b : BoardState) (cpu : ℕ) (x y : Agent) → IsNext b cpu x → IsNext b cpu y → x ≡ y
next-one b cpu x y one two =
    let both : Some one.executor ≡ Some two.executor = sym one.goes_on.executes ∙ two.goes_on.executes in
    let same : one.executor ≡ two.executor = cc in
    sym one.is ∙ ap (agent_by cpu) same ∙ two.is

pub next-loud : (b : BoardState) (cpu : ℕ) (who : Agent) → IsNext b cpu who → IsQuiet b (Step cpu) → ⊥
next-loud b cpu who next quiet = quiet (agent_by cpu next.executor) (record {
  cpu = cpu;
  steps = refl;
  executes = ap (option_map (agent_by cpu)) next.goes_on.executes;
  uninterrupted = next.goes_on.uninterrupted;
})

-- Paths.

pub invisible-same : (by : Sharing) (b : BoardState) (who : Agent) (x y : BoardState) → IsInvisible by b who x → IsInvisible by b who y → x ≡ y
invisible-same by b who x y one two =
    let both : Some x ≡ Some y = sym one.goes ∙ two.goes in
    cc

pub path-same : (by : Sharing) (who : Agent) (n : ℕ) (b x y : BoardState) → Path by b who n x → Path by b who n y → x ≡ y
path-same by who zero b x y one two = one ∙ sym two
path-same by who (suc n) b x y one two =
    path-same by who n one.0 x y one.2
    (subst (λ z. Path by z who n y) (sym (invisible-same by b who one.0 two.0 one.1 two.1)) two.2)

path-more : (by : Sharing) (who : Agent) (n : ℕ) (b x new : BoardState) → Path by b who n x → IsInvisible by x who new → Path by b who (suc n) new
path-more by who zero b x new path it = (new, subst (λ z. IsInvisible by z who new) path it, refl)
path-more by who (suc n) b x new path it = (path.0, path.1, path-more by who n path.0 x new path.2 it)

pub plus-zero : (m : ℕ) → 0 + m ≡ m
plus-zero m = omega arith

pub plus-suc : (n m : ℕ) → suc n + m ≡ suc (n + m)
plus-suc n m = omega arith

-- a longer path goes on from where a shorter one ends, by an invisible instruction
path-on : (by : Sharing) (who : Agent) (n more : ℕ) (b x y : BoardState) → Path by b who n x → Path by b who (n + suc more) y →
    (new : BoardState) × IsInvisible by x who new
path-on by who zero more b x y one two =
    let on : Path by b who (suc more) y = subst (λ k. Path by b who k y) (plus-zero (suc more)) two in
    (on.0, subst (λ z. IsInvisible by z who on.0) (sym one) on.1)
path-on by who (suc n) more b x y one two =
    let on : Path by b who (suc (n + suc more)) y = subst (λ k. Path by b who k y) (plus-suc n (suc more)) two in
    path-on by who n more one.0 x y one.2
    (subst (λ z. Path by z who (n + suc more) y) (sym (invisible-same by b who one.0 on.0 one.1 on.1)) on.2)

-- so many steps, and one more

pub after-more : (cpu n : ℕ) (b : BoardState) →
    (happens (after b (replicate n (Step cpu))) (Step cpu)).board ≡ after b (replicate (suc n) (Step cpu))
after-more cpu zero b = refl
after-more cpu (suc n) b = after-more cpu n (happens b (Step cpu)).board

-- Walks.

pub walk-none : (by : Sharing) (b : BoardState) (cpu : ℕ) → IsLinkSet b.links → HasWalked by b cpu 0 b
walk-none by b cpu set = record {
  loud = λ quiet. refl;
  reached = λ who next. refl;
  hidden = λ m who n less next path. absurd (omega (arith, less));
  played = refl;
  set = set;
}

pub less-or-same : (n m : ℕ) → n < suc m → (n < m) ⊎ (n ≡ m)
less-or-same n m less = grind arith

-- an invisible instruction more
pub walk-more : (by : Sharing) (b : BoardState) (cpu count : ℕ) (middle : BoardState) → HasWalked by b cpu count middle →
    IsHidden by middle cpu → HasWalked by b cpu (suc count) (happens middle (Step cpu)).board
walk-more by b cpu count middle walked it =
    let here : (who : Agent) → IsNext b cpu who → it.who ≡ who =
    λ who next. next-one middle cpu it.who who it.next
    (like-next b middle cpu who (like-path by b middle who count (walked.reached who next)) next) in
    let seen : (who : Agent) → IsNext b cpu who → IsInvisible by middle who (happens middle (Step cpu)).board =
    λ who next. subst (λ w. IsInvisible by middle w (happens middle (Step cpu)).board) (here who next) it.invisible in
    record {
      loud = λ quiet. absurd
          (next-loud b cpu it.who
          (subst (λ (z : BoardState). IsNext z cpu it.who)
          (walked.played ∙ ap (λ n. after b (replicate n (Step cpu))) (walked.loud quiet)) it.next) quiet);
      reached = λ who next. path-more by who count b middle (happens middle (Step cpu)).board (walked.reached who next) (seen who next);
      hidden = λ m who n less next path.
          elim (less-or-same n count less) [
            | inl below ↦ walked.hidden m who n below next path
            | inr same ↦
                let there : middle ≡ m =
                path-same by who count b middle m (walked.reached who next) (subst (λ k. Path by b who k m) same path) in
                let inv = seen who next in
                subst (λ z. Keeps by z who × (new : BoardState) × IsInvisible by z who new × EndsNoLink z cpu who) there (
                  inv.keeps,
                  (happens middle (Step cpu)).board,
                  inv,
                  subst (EndsNoLink middle cpu) (here who next) it.apart,
                )
          ];
      played = ap (λ z. (happens z (Step cpu)).board) walked.played ∙ after-more cpu count b;
      set = subst IsLinkSet (sym (like-invisible by middle it.who (happens middle (Step cpu)).board it.invisible).links) walked.set;
    }

less-same-more : (n count : ℕ) → (n < count) ⊎ ((n ≡ count) ⊎ ((more : ℕ) × (n ≡ count + suc more)))
less-same-more zero zero = inr (inl refl)
less-same-more zero (suc count) = inl (omega arith)
less-same-more (suc n) zero = inr (inr (n, omega arith))
less-same-more (suc n) (suc count) =
    elim (less-same-more n count) [
      | inl less ↦ inl (omega (arith, less))
      | inr (inl same) ↦ inr (inl (ap suc same))
      | inr (inr more) ↦ inr (inr (more.0, omega (arith, more.1)))
    ]

-- a visible instruction ends a block
pub walk-ends : (by : Sharing) (b : BoardState) (cpu count : ℕ) (middle : BoardState) → AllStandWell b cpu →
    HasWalked by b cpu count middle → IsVisible by middle cpu → LeadsTo by b cpu (happens middle (Step cpu)).board
walk-ends by b cpu count middle well walked it =
    let here : (who : Agent) → IsNext b cpu who → it.who ≡ who =
    λ who next. next-one middle cpu it.who who it.next
    (like-next b middle cpu who (like-path by b middle who count (walked.reached who next)) next) in
    record {
      well = well;
      quiet = λ quiet. absurd
          (next-loud b cpu it.who
          (subst (λ (z : BoardState). IsNext z cpu it.who)
          (walked.played ∙ ap (λ n. after b (replicate n (Step cpu))) (walked.loud quiet)) it.next) quiet);
      blocks = λ m who n next path.
          elim (less-same-more n count) [
            | inl less ↦
                let found = walked.hidden m who n less next path in
                (found.0, inl (found.1, found.2, found.3))
            | inr (inl same) ↦
                let there : middle ≡ m =
                path-same by who count b middle m (walked.reached who next) (subst (λ k. Path by b who k m) same path) in
                subst (λ z. Keeps by z who
                × (((new : BoardState) × IsInvisible by z who new × EndsNoLink z cpu who)
                ⊎ (((happens z (Step cpu)).board ≡ (happens middle (Step cpu)).board)
                × EndsMortals by z (Step cpu)))) there
                (subst (Keeps by middle) (here who next) it.keeps, inr (refl, it.mortals))
            | inr (inr more) ↦
                let on = path-on by who count more.0 b middle m (walked.reached who next) (subst (λ k. Path by b who k m) more.1 path) in
                absurd (it.visible on.0 (subst (λ w. IsInvisible by middle w on.0) (sym (here who next)) on.1))
          ];
    }

plus-one : (n : ℕ) → suc n ≡ n + 1
plus-one n = omega arith

-- as they are asked for

pub walk-hidden : (by : Sharing) (b : BoardState) (cpu count : ℕ) (middle new : BoardState) → HasWalked by b cpu count middle →
    IsHidden by middle cpu → new ≡ (happens middle (Step cpu)).board → HasWalked by b cpu (count + 1) new
walk-hidden by b cpu count middle new walked it is =
    subst (λ n. HasWalked by b cpu n new) (plus-one count)
    (subst (HasWalked by b cpu (suc count)) (sym is) (walk-more by b cpu count middle walked it))

pub walk-visible : (by : Sharing) (b : BoardState) (cpu count : ℕ) (middle new : BoardState) → AllStandWell b cpu →
    HasWalked by b cpu count middle → IsVisible by middle cpu → new ≡ (happens middle (Step cpu)).board →
    (new ≡ after b (replicate (count + 1) (Step cpu))) × LeadsTo by b cpu new
walk-visible by b cpu count middle new well walked it is = (
  is ∙ ap (λ z. (happens z (Step cpu)).board) walked.played ∙ after-more cpu count b ∙ ap (λ n. after b (replicate n (Step cpu))) (plus-one count),
  subst (LeadsTo by b cpu) (sym is) (walk-ends by b cpu count middle well walked it),
)

-- nobody executes
pub idle-leads : (by : Sharing) (b new : BoardState) (cpu : ℕ) → AllStandWell b cpu → IsQuiet b (Step cpu) → (happens b (Step cpu)).board ≡ new →
    LeadsTo by b cpu new
idle-leads by b new cpu well quiet is = record {
  well = well;
  quiet = λ q. is;
  blocks = λ m who n next path. absurd (next-loud b cpu who next quiet);
}

-- a board that is off
pub off-leads : (by : Sharing) (b : BoardState) (cpu : ℕ) → AllStandWell b cpu → b.kernel.off ≡ true → (happens b (Step cpu)).board ≡ b →
    LeadsTo by b cpu b
off-leads by b cpu well off is = record {
  well = well;
  quiet = λ q. is;
  blocks = λ m who n next path. absurd (let wrong : true ≡ false = sym off ∙ next.goes_on.on in cc);
}
