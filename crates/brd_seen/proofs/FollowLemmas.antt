-- Tasks that are followed one after the other.
use Rattle.std.proofs.Common.{◌≡◌, ◌≢◌, ⊎_elim, ℕ, ◌+◌, ◌<◌, ◌≤◌, List, length, sym, subst, ◌∙◌, arith}
use Rattle.std.specs.Prelude.{slice_index_or, slice_set}
use Rattle.std.proofs.lemmas.Bool.{cases_lt}
use Rattle.std.proofs.lemmas.List.{get_or_read, get_or-set_same, get_or-set_other}
use Rattle.brd_seen.specs.declared.tasks.TaskSeen.{TaskSeen}
use Rattle.brd_seen.specs.Conditions.{FollowsTask}

module _ (position i : ℕ) (first items : List TaskSeen) (old now : TaskSeen) (inside : i < length items)
    (is : old ≡ slice_index_or items i old) (follows : FollowsTask position old now)
    (done : (n : ℕ) (d : TaskSeen) → n < i → FollowsTask position (slice_index_or first n d) (slice_index_or items n d))
    (left : (n : ℕ) (d : TaskSeen) → i ≤ n → slice_index_or items n d ≡ slice_index_or first n d) where
  apart : (n : ℕ) (d : TaskSeen) → n ≢ i → slice_index_or (slice_set items i now) n d ≡ slice_index_or items n d
  apart n d other = get_or-set_other items i n now d other

  here : (n : ℕ) (d : TaskSeen) → n ≡ i → FollowsTask position (slice_index_or first n d) (slice_index_or (slice_set items i now) n d)
  here n d same =
      subst (λ (k : ℕ). FollowsTask position (slice_index_or first k d) (slice_index_or (slice_set items i now) k d)) (sym same)
      (subst (FollowsTask position (slice_index_or first i d)) (sym (get_or-set_same items i now d inside))
      (subst (λ (was : TaskSeen). FollowsTask position was now) (get_or_read items i old inside is d ∙ left i d (omega arith)) follows))

  pub one-more : (n : ℕ) (d : TaskSeen) → n < i + 1 →
      FollowsTask position (slice_index_or first n d) (slice_index_or (slice_set items i now) n d)
  one-more n d less =
      ⊎_elim
      (λ before. subst (FollowsTask position (slice_index_or first n d)) (sym (apart n d (λ same. absurd (omega (arith, before, same)))))
      (done n d before))
      (λ past. here n d (omega (arith, past, less))) (cases_lt n i)

  pub one-less : (n : ℕ) (d : TaskSeen) → i + 1 ≤ n → slice_index_or (slice_set items i now) n d ≡ slice_index_or first n d
  one-less n d past = apart n d (λ same. absurd (omega (arith, past, same))) ∙ left n d (omega (arith, past))
