-- The places to which lazy schedules lead are a tree.
use Rattle.std.proofs.Common.{◌≡◌, ℕ, zero, suc, ◌<◌, true, false, List, [], ◌∷◌, ◌++◌, length, refl, sym, ap, subst}
use Rattle.std.proofs.Common.{◌∙◌, arith}
use Rattle.std.specs.Prelude.{replicate}
use Rattle.std.proofs.lemmas.Bool.{false≢true}
use Rattle.std.proofs.lemmas.List.{append_assoc, append-nil}
use Rattle.brd_board.specs.declared.event.Event.{Event}
use Rattle.brd_board.specs.declared.event.Event.TheVariants.{Step}
use Rattle.brd_explore.specs.Schedules.{Place, preempts, one_if, spent, is_left, next, place_after, IsAmong, IsWithin}
use Rattle.brd_explore.specs.Searching.{FailsAt}
use Rattle.brd_frames.specs.Lagging.{Sharing}
use Rattle.brd_spots.proofs.KnownLemmas.{rich-same}
use Rattle.brd_spots.proofs.PlayLemmas.{place-then, within-then}
use Rattle.brd_lazy.specs.Blocks.{AreHidden, IsKept}
use Rattle.brd_lazy.specs.Charges.{charge}
use Rattle.brd_lazy.specs.Trees.{IsCovered, IsLazyTree}
use Rattle.brd_lazy.specs.Lazy.{Move, Alone, Block, events_of, all_events, IsMove, AreMoves, IsLazy, AreKept, ScheduleLaw}
use Rattle.brd_lazy.proofs.StepLemmas.{hidden-does, hidden-last, first-hidden, other-hidden, preempts-own, place-one}
use Rattle.brd_lazy.proofs.RoomLemmas.{from-one, or-some}
use Rattle.brd_lazy.proofs.FollowLemmas.{Follows, begins, follows, fails-there}
use Rattle.brd_lazy.proofs.ChargeLemmas.{IsSum, sums, no-more}

-- One list after the other.

events-then : (moves : List Move) (move : Move) → all_events (moves ++ move ∷ []) ≡ all_events moves ++ events_of move
events-then [] move = append-nil (events_of move)
events-then (m ∷ ms) move =
    ap (λ more. events_of m ++ more) (events-then ms move) ∙ sym (append_assoc (events_of m) (all_events ms) (events_of move))

moves-then : (by : Sharing) (p : Place) (moves : List Move) (move : Move) → AreMoves by p moves →
    IsMove by (place_after p (all_events moves)).board move → AreMoves by p (moves ++ move ∷ [])
moves-then by p [] move are is = (is, tt)
moves-then by p (m ∷ ms) move are is = (
  are.0,
  moves-then by (place_after p (events_of m)) ms move are.1
      (subst (λ (q : Place). IsMove by q.board move) (place-then p (events_of m) (all_events ms)) is),
)

-- a lazy schedule that leads to a place
record Leads (by : Sharing) (among : List Event) (p q : Place) : Type 0 where
  moves : List Move
  lazy : IsLazy by among p moves
  is : place_after p (all_events moves) ≡ q

leads-more : (by : Sharing) (among : List Event) (p q : Place) (move : Move) → Leads by among p q → IsMove by q.board move →
    IsWithin among q (events_of move) → Leads by among p (place_after q (events_of move))
leads-more by among p q move to is within =
    let there : place_after p (all_events to.moves) ≡ q = to.is in
    let events : all_events (to.moves ++ move ∷ []) ≡ all_events to.moves ++ events_of move = events-then to.moves move in
    record {
      moves = to.moves ++ move ∷ [];
      lazy = record {
        are = moves-then by p to.moves move to.lazy.are (subst (λ (z : Place). IsMove by z.board move) (sym there) is);
        within = subst (IsWithin among p) (sym events)
            (within-then among p (all_events to.moves) (events_of move) to.lazy.within
            (subst (λ z. IsWithin among z (events_of move)) (sym there) within));
      };
      is = ap (place_after p) events ∙ place-then p (all_events to.moves) (events_of move) ∙ ap (λ z. place_after z (events_of move)) there;
    }

-- A block that is afforded is within the bounds.

fewer-events : (p : Place) (cpu n : ℕ) → suc n < p.left.events → n < (next p (Step cpu)).left.events
unfolding spent
fewer-events p cpu n room = omega (arith, room)

left-own : (p : Place) (cpu : ℕ) → 0 < p.left.events → preempts p.last cpu ≡ false → is_left p (Step cpu) ≡ true
left-own p cpu some own =
    let none : one_if (preempts p.last cpu) ≡ 0 = ap one_if own in
    from-one p (Step cpu) some (or-some p.left.preemptions (preempts p.last cpu) (omega (arith, none)))

block-within : (by : Sharing) (among : List Event) (p : Place) (cpu n : ℕ) → IsAmong among (Step cpu) → is_left p (Step cpu) ≡ true →
    n < p.left.events → AreHidden by p.board cpu n → IsWithin among p (replicate (suc n) (Step cpu))
block-within by among p cpu zero one left room hidden = ((λ did. (one, left, tt)), (λ none. tt))
block-within by among p cpu (suc n) one left room hidden =
    let first = first-hidden by p.board cpu n hidden in
    let later : n < (next p (Step cpu)).left.events = fewer-events p cpu n room in
    let own : preempts (next p (Step cpu)).last cpu ≡ false =
    preempts-own (next p (Step cpu)).last cpu (hidden-last by p.board cpu p.last first) in (
      (λ did. (
        one,
        left,
        block-within by among (next p (Step cpu)) cpu n one (left-own (next p (Step cpu)) cpu (omega (arith, later)) own) later
            (other-hidden by p.board cpu n hidden),
      )),
      (λ none. absurd (false≢true (sym none ∙ hidden-does by p.board cpu first))),
    )

covered-by : (by : Sharing) (among : List Event) (p q : Place) → Leads by among p q → IsCovered (Leads by among p) q
covered-by by among p q to = record { place = q; there = to; richer = rich-same q }

lazy-tree : (by : Sharing) (among : List Event) (p : Place) → AreKept by among p → IsLazyTree by among (Leads by among p)
lazy-tree by among p kept = record {
  kept = λ q to. subst (IsKept by among) to.is (kept to.moves to.lazy);
  quiet = λ q event to may did quiet.
      covered-by by among p (next q event)
      (subst (Leads by among p) (place-one q event did)
      (leads-more by among p q (Alone event) to quiet ((λ does-it. (may.listed, may.left, tt)), (λ none. tt))));
  blocks = λ q cpu count to may room block.
      covered-by by among p (place_after q (replicate (suc count) (Step cpu)))
      (leads-more by among p q (Block cpu count) to block
      (block-within by among q cpu count may.listed may.left room block.hidden));
}

pub fails-lazily : ScheduleLaw
fails-lazily by among wanted p es none guards kept within fails =
    let root : Leads by among p p = record { moves = []; lazy = record { are = tt; within = tt }; is = refl } in
    let it : Follows by (Leads by among p) (place_after p es) =
    follows by among (Leads by among p) p es (begins by (Leads by among p) p (covered-by by among p p root)) (lazy-tree by among p kept) within in
    let to : Leads by among p it.at = it.there in
    record {
      moves = to.moves;
      lazy = to.lazy;
      fails = subst (FailsAt wanted) (sym to.is)
          (fails-there by wanted it.at (place_after p es) none guards
          (record { lagging = it.lagging; lags = it.lags; ahead = it.ahead }) fails);
      no_more = no-more (charge p (all_events to.moves)) (charge p es) it.at (place_after p es) p.left (length it.lagging)
          (subst (λ (z : Place). IsSum (charge p (all_events to.moves)) z.left p.left) to.is
          (sums among p (all_events to.moves) to.lazy.within))
          (sums among p es within) it.ahead;
    }
