use Rattle.std.proofs.Common.{◌≡◌, ℕ, List, replicate, ap, ◌∙◌}
use Rattle.brd_config.specs.declared.objects.QueueConfig.{QueueConfig}
use Rattle.brd_deeds.specs.declared.past.{Trail.Trail, Hold.Hold, Ring.Ring, Past.Past}
use Rattle.brd_deeds.specs.declared.past.Trail.TheVariants.{Nothing}
use Rattle.brd_deeds.specs.Past.{free, ring_of, with_rings}
use Rattle.brd_deeds.proofs.past.Past.new.Goals as goal

made : (n m k : ℕ) (queues : List QueueConfig) (none : Hold) (empty : Ring) (trails : List Trail) (holds : List Hold) (old rings : List Ring) →
    trails ≡ replicate n Nothing → none ≡ free → holds ≡ replicate m none → empty ≡ ring_of 0 → old ≡ replicate k empty → rings ≡ with_rings old queues →
    ◌≡◌ {A = Past} (record { trails = trails; holds = holds; rings = rings })
    (record { trails = replicate n Nothing; holds = replicate m free; rings = with_rings (replicate k (ring_of 0)) queues })
made n m k queues none empty trails holds old rings are-trails is-none are-holds is-empty are-old are-rings =
    ap (λ (ts : List Trail). record { trails = ts; holds = holds; rings = rings }) are-trails
    ∙ ap (λ (hs : List Hold). record { trails = replicate n Nothing; holds = hs; rings = rings }) (are-holds ∙ ap (replicate m) is-none)
    ∙ ap (λ (rs : List Ring). record { trails = replicate n Nothing; holds = replicate m free; rings = rs })
    (are-rings ∙ ap (λ (rs : List Ring). with_rings rs queues) (are-old ∙ ap (replicate k) is-empty))

pub returns : goal.returns
returns c =
    made 416 9 256 c.args.queues.now c.free.result c.new.result _ _ _ _ c.in_ok-new.ensures c.free.ensures c.in_ok-new-2.ensures c.new.ensures
    c.in_ok-rings.ensures c.put_rings.ensures
