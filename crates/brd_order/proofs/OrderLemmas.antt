-- What a deed more changes of the order, and of what clocks know.
use Rattle.std.proofs.Common.{◌≡◌, ℕ, zero, suc, ◌+◌, ◌<◌, ◌≤◌, List, [], ◌∷◌, ◌++◌, length, length-append, refl, sym}
use Rattle.std.proofs.Common.{ap, subst, ◌∙◌, arith, inl, inr}
use Rattle.std.specs.Prelude.{Some, ◌⊎◌}
use Rattle.std.specs.List.{slice_get}
use Rattle.std.proofs.lemmas.Option.{slice_get_within}
use Rattle.std.proofs.lemmas.Bool.{cases_eq}
use Rattle.brd_order.specs.declared.deed.{Deed.Deed}
use Rattle.brd_order.specs.declared.deed.Act.TheVariants.{Releases}
use Rattle.brd_order.specs.Order.{LastHeard, Heard, Orders, Step, Leads}
use Rattle.brd_order.specs.Order.Leads.{here, on}
use Rattle.brd_order.specs.Clocks.{LeadsToOne, Knows, Did, Released, Joins, Puts}

pub of-some : {A : Type 0} (x y : A) → Some x ≡ Some y → x ≡ y
of-some x y e = cc

-- an element of a list with one more

pub get-more : {A : Type 0} (xs : List A) (y : A) (i : ℕ) (x : A) → slice_get xs i ≡ Some x →
    slice_get (xs ++ y ∷ []) i ≡ Some x
get-more [] y i x e = absurd (cc)
get-more (z ∷ xs) y zero x e = e
get-more (z ∷ xs) y (suc i) x e = get-more xs y i x e

pub get-back : {A : Type 0} (xs : List A) (y : A) (i : ℕ) (x : A) → i < length xs →
    slice_get (xs ++ y ∷ []) i ≡ Some x → slice_get xs i ≡ Some x
get-back [] y i x h e = absurd (omega arith)
get-back (z ∷ xs) y zero x h e = e
get-back (z ∷ xs) y (suc i) x h e = get-back xs y i x (omega arith) e

pub get-last : {A : Type 0} (xs : List A) (y : A) → slice_get (xs ++ y ∷ []) (length xs) ≡ Some y
get-last [] y = refl
get-last (z ∷ xs) y = get-last xs y

-- it is one of those before, or the last one
pub get-cases : {A : Type 0} (xs : List A) (y : A) (i : ℕ) (x : A) → slice_get (xs ++ y ∷ []) i ≡ Some x →
    ((i < length xs) × (slice_get xs i ≡ Some x)) ⊎ ((i ≡ length xs) × (x ≡ y))
get-cases [] y zero x e = inr (refl, sym (of-some y x e))
get-cases [] y (suc i) x e = absurd (cc)
get-cases (z ∷ xs) y zero x e = inl (omega arith, e)
get-cases (z ∷ xs) y (suc i) x e = elim (get-cases xs y i x e) [
  | inl before ↦ inl (omega (arith, before.0), before.1)
  | inr last ↦ inr (omega (arith, last.0), last.1)
]

-- the order

pub leads-up : (deeds : List Deed) (i k : ℕ) → Leads deeds i k → i ≤ k
leads-up deeds i k here = omega arith
leads-up deeds i k (on m n leads step) = let first : i ≤ m = leads-up deeds i m leads in let second : m < n =
    step.earlier in omega (arith, first, second)

-- what a strand heard last before a place of a list

last-more : (deeds : List Deed) (d : Deed) (strand j thing at : ℕ) → j ≤ length deeds →
    LastHeard deeds strand j thing at → LastHeard (deeds ++ d ∷ []) strand j thing at
last-more deeds d strand j thing at within heard = record {
  deed = heard.deed;
  is = get-more deeds d at heard.deed heard.is;
  own = heard.own;
  hears = heard.hears;
  earlier = heard.earlier;
  last = λ k x other is own hears before. heard.last k x other
      (get-back deeds d k other (omega (arith, before, within)) is) own hears before;
}

last-back : (deeds : List Deed) (d : Deed) (strand j thing at : ℕ) → j ≤ length deeds →
    LastHeard (deeds ++ d ∷ []) strand j thing at → LastHeard deeds strand j thing at
last-back deeds d strand j thing at within heard = record {
  deed = heard.deed;
  is = get-back deeds d at heard.deed (omega (arith, heard.earlier, within)) heard.is;
  own = heard.own;
  hears = heard.hears;
  earlier = heard.earlier;
  last = λ k x other is own hears before. heard.last k x other (get-more deeds d k other is) own hears before;
}

pub heard-more : (deeds : List Deed) (d : Deed) (strand j i : ℕ) (e : Deed) → j ≤ length deeds →
    Heard deeds strand j i e → Heard (deeds ++ d ∷ []) strand j i e
heard-more deeds d strand j i e within it = record {
  thing = it.thing;
  at = it.at;
  releases = it.releases;
  heard = last-more deeds d strand j it.thing it.at within it.heard;
  in_time = it.in_time;
}

pub heard-back : (deeds : List Deed) (d : Deed) (strand j i : ℕ) (e : Deed) → j ≤ length deeds →
    Heard (deeds ++ d ∷ []) strand j i e → Heard deeds strand j i e
heard-back deeds d strand j i e within it = record {
  thing = it.thing;
  at = it.at;
  releases = it.releases;
  heard = last-back deeds d strand j it.thing it.at within it.heard;
  in_time = it.in_time;
}

orders-more : (deeds : List Deed) (d : Deed) (i j : ℕ) (one other : Deed) → j ≤ length deeds →
    Orders deeds i j one other → Orders (deeds ++ d ∷ []) i j one other
orders-more deeds d i j one other within (inl same) = inl same
orders-more deeds d i j one other within (inr (inl hands)) = inr (inl hands)
orders-more deeds d i j one other within (inr (inr heeds)) = inr
    (inr (heeds.0, heard-more deeds d other.strand j i one within heeds.1))

pub orders-back : (deeds : List Deed) (d : Deed) (i j : ℕ) (one other : Deed) → j ≤ length deeds →
    Orders (deeds ++ d ∷ []) i j one other → Orders deeds i j one other
orders-back deeds d i j one other within (inl same) = inl same
orders-back deeds d i j one other within (inr (inl hands)) = inr (inl hands)
orders-back deeds d i j one other within (inr (inr heeds)) = inr
    (inr (heeds.0, heard-back deeds d other.strand j i one within heeds.1))

step-more : (deeds : List Deed) (d : Deed) (i k : ℕ) → Step deeds i k → Step (deeds ++ d ∷ []) i k
step-more deeds d i k step =
    let within : k < length deeds = slice_get_within deeds k step.other step.second in
    record {
      one = step.one;
      other = step.other;
      first = get-more deeds d i step.one step.first;
      second = get-more deeds d k step.other step.second;
      earlier = step.earlier;
      orders = orders-more deeds d i k step.one step.other (omega (arith, within)) step.orders;
    }

pub leads-more : (deeds : List Deed) (d : Deed) (i k : ℕ) → Leads deeds i k → Leads (deeds ++ d ∷ []) i k
leads-more deeds d i k here = here
leads-more deeds d i k (on m n leads step) = on m n (leads-more deeds d i m leads) (step-more deeds d m n step)

pub leads-back : (deeds : List Deed) (d : Deed) (i k : ℕ) → k < length deeds → Leads (deeds ++ d ∷ []) i k →
    Leads deeds i k
leads-back deeds d i k below here = here
leads-back deeds d i k below (on m n leads step) =
    let less : m < length deeds = omega (arith, step.earlier, below) in
    on m n (leads-back deeds d i m less leads) (record {
      one = step.one;
      other = step.other;
      first = get-back deeds d m step.one less step.first;
      second = get-back deeds d n step.other below step.second;
      earlier = step.earlier;
      orders = orders-back deeds d m n step.one step.other (omega (arith, below)) step.orders;
    })

-- which deeds of a list are ordered before the next one
abbrev pub Before : List Deed → Deed → ℕ → Deed → Type 0
Before deeds d k e = Orders deeds k (length deeds) e d

-- what comes before the last deed of a list comes up to one that is ordered before it
pub leads-last : (deeds : List Deed) (d : Deed) (i k : ℕ) → k ≡ length deeds → i < length deeds →
    Leads (deeds ++ d ∷ []) i k → LeadsToOne deeds (Before deeds d) i
leads-last deeds d i k last below here = absurd (omega (arith, last, below))
leads-last deeds d i k last below (on m n leads step) =
    let less : m < length deeds = omega (arith, step.earlier, last) in
    let same : step.other ≡ d = of-some step.other d (sym step.second ∙
    (ap (slice_get (deeds ++ d ∷ [])) last ∙ get-last deeds d)) in
    record {
      k = m;
      deed = step.one;
      is = get-back deeds d m step.one less step.first;
      that = orders-back deeds d m (length deeds) step.one d (omega arith)
          (subst (λ (n : ℕ). Orders (deeds ++ d ∷ []) m n step.one d) last
          (subst (λ (o : Deed). Orders (deeds ++ d ∷ []) m n step.one o) same step.orders));
      leads = leads-back deeds d i m less leads;
    }

pub leads-to-last : (deeds : List Deed) (d : Deed) (i : ℕ) → LeadsToOne deeds (Before deeds d) i →
    Leads (deeds ++ d ∷ []) i (length deeds)
leads-to-last deeds d i one = on one.k (length deeds) (leads-more deeds d i one.k one.leads) (record {
  one = one.deed;
  other = d;
  first = get-more deeds d one.k one.deed one.is;
  second = get-last deeds d;
  earlier = slice_get_within deeds one.k one.deed one.is;
  orders = orders-more deeds d one.k (length deeds) one.deed d (omega arith) one.that;
})

-- clocks

to-more : (deeds : List Deed) (d : Deed) (those : ℕ → Deed → Type 0) (i : ℕ) → LeadsToOne deeds those i →
    LeadsToOne (deeds ++ d ∷ []) those i
to-more deeds d those i one = record {
  k = one.k;
  deed = one.deed;
  is = get-more deeds d one.k one.deed one.is;
  that = one.that;
  leads = leads-more deeds d i one.k one.leads;
}

-- a deed that is none of those leaves what a clock knows of them
pub knows-bystander : (deeds : List Deed) (d : Deed) (those : ℕ → Deed → Type 0) (counts : ℕ → ℕ) →
    (those (length deeds) d → ⊥) → Knows deeds those counts → Knows (deeds ++ d ∷ []) those counts
knows-bystander deeds d those counts none knows = record {
  below = λ i e is low. elim (get-cases deeds d i e is) [
    | inl before ↦ to-more deeds d those i (knows.below i e before.1 low)
    | inr last ↦ absurd (omega (arith, last.0, low, knows.within e.strand))
  ];
  all = λ i e is one. elim (get-cases deeds d one.k one.deed one.is) [
    | inl before ↦
        let up : i ≤ one.k = leads-up (deeds ++ d ∷ []) i one.k one.leads in
        knows.all i e (get-back deeds d i e (omega (arith, up, before.0)) is)
        (record {
          k = one.k;
          deed = one.deed;
          is = before.1;
          that = one.that;
          leads = leads-back deeds d i one.k
              before.0 one.leads;
        })
    | inr last ↦ absurd (none (subst (λ (k : ℕ). those k d) last.0 (subst (those one.k) last.1 one.that)))
  ];
  within = λ t. omega (arith, knows.within t, length-append deeds (d ∷ []));
}

-- what is known of those is known of others that are the same
pub knows-same : (deeds : List Deed) (those others : ℕ → Deed → Type 0) (counts : ℕ → ℕ) →
    ((k : ℕ) (e : Deed) → slice_get deeds k ≡ Some e → those k e → others k e) →
    ((k : ℕ) (e : Deed) → slice_get deeds k ≡ Some e → others k e → those k e) → Knows deeds those counts →
    Knows deeds others counts
knows-same deeds those others counts to from knows = record {
  below = λ i e is low. let one = knows.below i e is low in record
      { k = one.k; deed = one.deed; is = one.is; that = to one.k one.deed one.is one.that; leads = one.leads };
  all = λ i e is one. knows.all i e is (record {
    k = one.k;
    deed = one.deed;
    is = one.is;
    that = from one.k one.deed
        one.is one.that;
    leads = one.leads;
  });
  within = knows.within;
}

-- of either
pub knows-both : (deeds : List Deed) (those others : ℕ → Deed → Type 0) (one other both : ℕ → ℕ) →
    Knows deeds those one → Knows deeds others other →
    Joins one other both → Knows deeds (λ k e. those k e ⊎ others k e) both
knows-both deeds those others one other both first second joins = record {
  below = λ i e is low. elim ((joins e.strand).least) [
    | inl same ↦ let t = first.below i e is (omega (arith, same, low)) in record
        { k = t.k; deed = t.deed; is = t.is; that = inl t.that; leads = t.leads }
    | inr same ↦ let t = second.below i e is (omega (arith, same, low)) in record
        { k = t.k; deed = t.deed; is = t.is; that = inr t.that; leads = t.leads }
  ];
  all = λ i e is t. elim t.that [
    | inl that ↦ let low : i < one e.strand = first.all i e is
        (record { k = t.k; deed = t.deed; is = t.is; that = that; leads = t.leads }) in omega
        (arith, low, (joins e.strand).first)
    | inr that ↦ let low : i < other e.strand = second.all i e is
        (record { k = t.k; deed = t.deed; is = t.is; that = that; leads = t.leads }) in omega
        (arith, low, (joins e.strand).second)
  ];
  within = λ t. elim ((joins t).least) [
    | inl same ↦ omega (arith, same, first.within t)
    | inr same ↦ omega (arith, same, second.within t)
  ];
}

-- an earlier deed that leads to one of the strand of the last one leads to one that is ordered before that
known-before : (deeds : List Deed) (d : Deed) (i : ℕ) → i < length deeds →
    LeadsToOne (deeds ++ d ∷ []) (Did d.strand) i → LeadsToOne deeds (Before deeds d) i
known-before deeds d i below one = elim (get-cases deeds d one.k one.deed one.is) [
  | inl old ↦ record {
    k = one.k;
    deed = one.deed;
    is = old.1;
    that = inl one.that;
    leads = leads-back deeds d i one.k
        old.0 one.leads;
  }
  | inr last ↦ leads-last deeds d i one.k last.0 below one.leads
]

-- The clock of the strand that does a deed: it knew what is ordered before the deed, and knows the deed.
pub knows-doer : (deeds : List Deed) (d : Deed) (before counts : ℕ → ℕ) → Knows deeds (Before deeds d) before →
    Puts d.strand (length deeds + 1) before counts → Knows (deeds ++ d ∷ []) (Did d.strand) counts
knows-doer deeds d before counts knows puts = record {
  below = λ i e is low. elim (get-cases deeds d i e is) [
    | inr last ↦ record { k = i; deed = e; is = is; that = ap (λ (x : Deed). x.strand) last.1; leads = here }
    | inl old ↦ elim (cases_eq e.strand d.strand) [
      | inl own ↦ record { k = i; deed = e; is = is; that = own; leads = here }
      | inr other ↦ record {
        k = length deeds;
        deed = d;
        is = get-last deeds d;
        that = refl;
        leads = leads-to-last deeds d i (knows.below i e old.1
            (subst (λ n. i < n) (puts.elsewhere e.strand other) low));
      }
    ]
  ];
  all = λ i e is one. elim (get-cases deeds d i e is) [
    | inr last ↦ let s : e.strand ≡ d.strand = ap (λ (x : Deed). x.strand) last.1 in omega
        (arith, last.0, puts.there, ap counts s)
    | inl old ↦ elim (cases_eq e.strand d.strand) [
      | inl own ↦ omega (arith, old.0, puts.there, ap counts own)
      | inr other ↦ subst (λ n. i < n) (sym (puts.elsewhere e.strand other))
          (knows.all i e old.1 (known-before deeds d i old.0 one))
    ]
  ];
  within = λ t. elim (cases_eq t d.strand) [
    | inl own ↦ omega (arith, puts.there, ap counts own, length-append deeds (d ∷ []))
    | inr other ↦ omega (arith, puts.elsewhere t other, knows.within t, length-append deeds (d ∷ []))
  ];
}

-- the clock of the strand that does a deed knows what comes before the deed
pub comes-before : (deeds : List Deed) (d : Deed) (i : ℕ) → i < length deeds →
    LeadsToOne (deeds ++ d ∷ []) (Did d.strand) i → Leads (deeds ++ d ∷ []) i (length deeds)
comes-before deeds d i below one = elim (get-cases deeds d one.k one.deed one.is) [
  | inr last ↦ subst (Leads (deeds ++ d ∷ []) i) last.0 one.leads
  | inl old ↦ on one.k (length deeds) one.leads (record {
    one = one.deed;
    other = d;
    first = one.is;
    second = get-last deeds d;
    earlier = old.0;
    orders = inl one.that;
  })
]

pub led-to-last : (deeds : List Deed) (d : Deed) (i : ℕ) (e : Deed) → slice_get (deeds ++ d ∷ []) i ≡ Some e →
    LeadsToOne (deeds ++ d ∷ []) (Did d.strand) i →
    Leads (deeds ++ d ∷ []) i (length deeds)
led-to-last deeds d i e is one = elim (get-cases deeds d i e is) [
  | inl old ↦ comes-before deeds d i old.0 one
  | inr last ↦ subst (λ k. Leads (deeds ++ d ∷ []) i k) last.0 here
]

-- what a deed releases into knows what its strand's clock does
pub knows-released : (deeds : List Deed) (d : Deed) (thing : ℕ) (given own counts : ℕ → ℕ) → d.act ≡ Releases thing →
    Knows deeds (Released thing) given →
    Knows (deeds ++ d ∷ []) (Did d.strand) own → Joins given own counts →
    Knows (deeds ++ d ∷ []) (Released thing) counts
knows-released deeds d thing given own counts releases knows mine joins = record {
  below = λ i e is low. elim ((joins e.strand).least) [
    | inl same ↦ elim (get-cases deeds d i e is) [
      | inl old ↦ to-more deeds d (Released thing) i (knows.below i e old.1 (omega (arith, same, low)))
      | inr last ↦ absurd (omega (arith, last.0, same, low, knows.within e.strand))
    ]
    | inr same ↦ record {
      k = length deeds;
      deed = d;
      is = get-last deeds d;
      that = releases;
      leads = led-to-last deeds d i e is (mine.below i e is (omega (arith, same, low)));
    }
  ];
  all = λ i e is one. elim (get-cases deeds d one.k one.deed one.is) [
    | inl old ↦
        let up : i ≤ one.k = leads-up (deeds ++ d ∷ []) i one.k one.leads in
        let low : i < given e.strand = knows.all i e (get-back deeds d i e (omega (arith, up, old.0)) is)
        (record {
          k = one.k;
          deed = one.deed;
          is = old.1;
          that = one.that;
          leads = leads-back deeds d i one.k old.0
              one.leads;
        }) in
        omega (arith, low, (joins e.strand).first)
    | inr last ↦
        let low : i < own e.strand = mine.all i e is
        (record {
          k = one.k;
          deed = one.deed;
          is = one.is;
          that = ap (λ (x : Deed). x.strand) last.1;
          leads = one.leads;
        }) in
        omega (arith, low, (joins e.strand).second)
  ];
  within = λ t. elim ((joins t).least) [
    | inl same ↦ omega (arith, same, knows.within t, length-append deeds (d ∷ []))
    | inr same ↦ omega (arith, same, mine.within t)
  ];
}
