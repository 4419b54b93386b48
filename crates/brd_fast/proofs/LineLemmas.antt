-- An empty delay slot is a step to the branch's target.
use Rattle.std.proofs.Common.{◌≡◌, ℕ, ◌+◌, ◌-◌, ◌%◌, ◌^◌, ◌≤◌, Bool, false, Some, refl, sym, ap, ◌∙◌, subst, arith}
use Rattle.std.specs.Prelude.{Ok}
use Rattle.brd_mem.specs.Memory.{Memory}
use Rattle.brd_mem.specs.Access.{fetched, read_raw}
use Rattle.brd_link.specs.LinkSet.{LinkSet}
use Rattle.brd_exec.specs.State.{State}
use Rattle.brd_exec.specs.Went.{went}
use Rattle.brd_fast.specs.Place.{Place, address_of_word, state_of}
use Rattle.brd_fast.specs.Line.{straight, slotted}
use Rattle.brd_fast.specs.Steps.{GoesFrom, machine_at}
use Rattle.brd_fast.proofs.KnownLemmas.{zero-read}
use Rattle.brd_fast.proofs.StepLemmas.{zero-steps}

after-word : (target : ℕ) → target ≤ 2 ^ 22 → (address_of_word target + 4) % 2 ^ 32 ≡ address_of_word (target + 1)
after-word target few = omega (arith, few)

pub empty-slot : (cpu : ℕ) (s : State) (memory : Memory) (links : LinkSet) (old : Place) (at target left fewer words raw : ℕ) (on room other more : Bool) →
    old ≡ slotted at target left words on room → left ≡ fewer + 1 → target ≤ 2 ^ 22 →
    fetched memory (address_of_word at) ≡ Ok (read_raw memory.order raw) → raw ≡ 0 →
    GoesFrom cpu s memory links old (straight target fewer words other more)
empty-slot cpu s memory links old at target left fewer words raw on room other more is less few fetch zero =
    let one : left - fewer ≡ 1 = omega (arith, less) in
    subst (λ p. GoesFrom cpu s memory links p (straight target fewer words other more)) (sym is)
    (record {
      left = omega (arith, less);
      words = refl;
      steps = ap (λ n. went cpu n (machine_at s memory links (slotted at target left words on room))) one
          ∙ zero-steps cpu (state_of s (slotted at target left words on room)) memory links (fetch ∙ ap Ok (zero-read memory.order raw zero))
          ∙ ap (λ npc. Some (record {
            state = record s { pc = address_of_word target; npc = npc; slot = false };
            memory = memory;
            links = links;
          })) (after-word target few);
    })
