use Rattle.std.proofs.Common.{rules}
use Rattle.std.proofs.lemmas.List.Sorted.{IsNonDecreasingBy-from_sort_by_key, answers_always}
use Rattle.brd_listing.proofs.AscendingLemmas.{sorted}
use Rattle.brd_listing.proofs.places.ascending.Goals as goal

pub returns : goal.returns
returns c =
    sorted c.args.symbols.now c.in_ok-ascending.ascending.items c.sort_by_key.new.self.items c.in_ok-ascending.ensures
    (IsNonDecreasingBy-from_sort_by_key (λ s. s.now.value) _ c.in_ok-sort_by_key.ensures.sorted (λ a r q k. search rules))
    (c.sort_by_key.ensures.stable (λ s. s.now.value) (answers_always _ _ _ (λ f a r g h. search rules)))
