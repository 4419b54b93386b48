use Rattle.std.proofs.Common.{◌≡◌, ℕ, ◌+◌, ◌<◌, List, [], ◌∷◌, ◌++◌, length, ap, sym, subst, ◌∙◌, arith}
use Rattle.std.specs.Prelude.{Bool, Result, Decides, slice_index_or}
use Rattle.std.proofs.lemmas.List.{length-append}
use Rattle.brd_ledgers.specs.Shares.{Counted}
use Rattle.brd_threads.specs.declared.fault.RaceFault.{RaceFault}
use Rattle.brd_threads.specs.Outers.{steps}
use Rattle.brd_threads.proofs.RaceLemmas.{AreMetFrom, counted_from, cpu_of_last, front_of, met_more, not_met}
use Rattle.brd_threads.proofs.ended.are_met.Goals as goal

pub loop-worked-preserved-then-is_met : goal.loop-worked-preserved-then-is_met
loop-worked-preserved-then-is_met g c =
    let quotas = c.args.quotas.now in
    let all = c.args.workers.items in
    let before = c.pop.new.self.items in
    let worked = c.in-Some.worked in
    let events = c.loop-worked.station.journal.events in
    let items : c.loop-worked.workers.items ≡ before ++ worked ∷ [] = c.in-Some.ensures.items in
    let long : length c.loop-worked.workers.items ≡ length before + 1 = omega (arith, ap (λ (xs : List (Counted × Result Bool RaceFault)). length xs) items, length-append before (worked ∷ [])) in
    let len : c.len.result ≡ length before = omega (arith, c.len.ensures) in
    let same : (i : ℕ) (default : Counted × Result Bool RaceFault) → i < length before + 1 → slice_index_or (before ++ worked ∷ []) i default ≡ slice_index_or all i default =
    λ i default within. ap (λ (xs : List (Counted × Result Bool RaceFault)). slice_index_or xs i default) (sym items) ∙ c.loop-worked.invariant.front i default (omega (arith, long, within)) in
    let within : length before < length all = omega (arith, long, c.loop-worked.invariant.few) in
    let cpu : worked.0.cpu ≡ length before + 1 = cpu_of_last quotas all before worked c.requires.each same within in
    let here : steps (length before + 1) events ≡ worked.0.count = subst (λ cpu. steps cpu events ≡ worked.0.count) cpu c.is_met.ensures.counted in
    record {
      few = omega (arith, long, c.loop-worked.invariant.few);
      front = front_of all before worked same;
      same = c.is_met.ensures.same ∙ c.loop-worked.invariant.same;
      counted = rw c.is_met.ensures.same (counted_from all before worked events worked.0.cpu same cpu c.is_met.ensures.counted
          (λ i default from to. c.loop-worked.invariant.counted i default (omega (arith, long, from)) to));
      met = rw c.is_met.ensures.same (met_more quotas events (length before) c.len.result worked.0.count c.loop-worked.met len here (sym c.if-is_met.true ∙ c.is_met.ensures.met)
          (subst (λ n. Decides c.loop-worked.met (AreMetFrom n quotas events)) long c.loop-worked.invariant.met));
    }

pub loop-worked-preserved : goal.loop-worked-preserved
loop-worked-preserved g c =
    let quotas = c.args.quotas.now in
    let all = c.args.workers.items in
    let before = c.pop.new.self.items in
    let worked = c.in-Some.worked in
    let events = c.loop-worked.station.journal.events in
    let items : c.loop-worked.workers.items ≡ before ++ worked ∷ [] = c.in-Some.ensures.items in
    let long : length c.loop-worked.workers.items ≡ length before + 1 = omega (arith, ap (λ (xs : List (Counted × Result Bool RaceFault)). length xs) items, length-append before (worked ∷ [])) in
    let len : c.len.result ≡ length before = omega (arith, c.len.ensures) in
    let same : (i : ℕ) (default : Counted × Result Bool RaceFault) → i < length before + 1 → slice_index_or (before ++ worked ∷ []) i default ≡ slice_index_or all i default =
    λ i default within. ap (λ (xs : List (Counted × Result Bool RaceFault)). slice_index_or xs i default) (sym items) ∙ c.loop-worked.invariant.front i default (omega (arith, long, within)) in
    let within : length before < length all = omega (arith, long, c.loop-worked.invariant.few) in
    let cpu : worked.0.cpu ≡ length before + 1 = cpu_of_last quotas all before worked c.requires.each same within in
    let here : steps (length before + 1) events ≡ worked.0.count = subst (λ cpu. steps cpu events ≡ worked.0.count) cpu c.is_met.ensures.counted in
    record {
      few = omega (arith, long, c.loop-worked.invariant.few);
      front = front_of all before worked same;
      same = c.is_met.ensures.same ∙ c.loop-worked.invariant.same;
      counted = rw c.is_met.ensures.same (counted_from all before worked events worked.0.cpu same cpu c.is_met.ensures.counted
          (λ i default from to. c.loop-worked.invariant.counted i default (omega (arith, long, from)) to));
      met = rw c.is_met.ensures.same (not_met quotas events (length before) c.len.result worked.0.count c.is_met.result len here c.if-is_met.false c.is_met.ensures.met (omega (arith, within, c.requires.len)));
    }
