-- What an enforcer at the root of a plan can be replaced by: one of those that are looked at for the
-- request, or nothing.
use Rattle.std.proofs.Common.{◌≡◌, ℕ, zero, suc, ◌≤◌, List, [], ◌∷◌, ◌⊎◌, Some, inl, inr, refl, subst, sym, ◌∙◌, arith}
use Rattle.query_core.specs.declared.query.Query.{Query}
use Rattle.cost_units.specs.declared.shape.CostShape.TheVariants as shapes
use Rattle.cost_units.specs.Cost.{local_cost}
use Rattle.cardinality.specs.Rows.{rows_of}
use Rattle.request_props.specs.Dists.{class_of}
use Rattle.request_props.specs.Numbered.{IsNumbered, order_of}
use Rattle.request_props.specs.Satisfied.{Meets, BeginsWith, given_order, Satisfies}
use Rattle.request_props.specs.declared.given.GivenDist.{GivenDist}
use Rattle.request_props.specs.declared.given.GivenOrder.TheVariants.{Listed}
use Rattle.request_props.specs.declared.request.Dist.{Dist}
use Rattle.request_props.specs.declared.request.Dist.TheVariants.{Spread}
use Rattle.request_props.specs.declared.request.Request.{Request}
use Rattle.request_props.proofs.Agreeing.{met_class, spread_meets}
use Rattle.plan_space.specs.Nodes.{enforcer_number}
use Rattle.plan_space.specs.declared.nodes.Enforcer.{Enforcer}
use Rattle.plan_space.specs.declared.nodes.Enforcer.TheVariants as enforcers
use Rattle.plan_space.specs.declared.nodes.Motion.{Motion}
use Rattle.plan_space.specs.declared.nodes.Motion.TheVariants as motions
use Rattle.plan_space.specs.Lines.{request}
use Rattle.plan_space.specs.declared.seen.Kid.{Kid}
use Rattle.plan_space.specs.Gives.{gives_so, enforcer_gives}
use Rattle.plan_space.specs.Valid.{IsSpread, CanSort, CanMerge, EnforcerFits}
use Rattle.plan_space.specs.Enforcers.{EnforcedBy, enforced, motion_to, moved_by, moving, enforcers_of, Among}
use Rattle.plan_space.specs.Cost.{enforcer_shape}
use Rattle.plan_space.proofs.MotionLaws.{motion_serves, enforcer_cases, motion_gives, motion_needs}
use Rattle.plan_space.proofs.MotionLaws.{motion_among, merge_among}

-- longer orders have greater numbers, and no numbered order is empty
pub record IsOrdered (q : Query) : Type 0 where
  pub by_length : (o p : ℕ) → IsNumbered q o → IsNumbered q p → BeginsWith (order_of q p) (order_of q o) → o ≤ p
  pub none_empty : (o : ℕ) → IsNumbered q (suc o) → BeginsWith [] (order_of q (suc o)) → ⊥

-- an enforcer over the same kid meets the request too, is one of those that are looked at for it, and
-- has no greater number and no greater cost
pub record Replaces (q : Query) (wanted : Request) (node : Enforcer) (kid : Kid) (e : EnforcedBy) : Type 0 where
  pub among : Among e (enforcers_of wanted)
  pub satisfies : Satisfies q kid.given e.below
  pub number : enforcer_number e.node ≤ enforcer_number node
  pub cost : local_cost (enforcer_shape q e.node (kid ∷ [])) ≤ local_cost (enforcer_shape q node (kid ∷ []))

-- the kid serves alone, or a listed enforcer replaces this one
abbrev pub CanExchange : Query → Enforcer → Kid → Request → Type 0
CanExchange q node kid wanted = Satisfies q kid.given wanted ⊎ ((e : EnforcedBy) × Replaces q wanted node kid e)

BeginsWith-trans : (xs ys zs : List ℕ) → BeginsWith xs ys → BeginsWith ys zs → BeginsWith xs zs
BeginsWith-trans xs ys [] a b = tt
BeginsWith-trans xs [] (z ∷ zs) a b = absurd b
BeginsWith-trans [] (y ∷ ys) (z ∷ zs) a b = absurd a
BeginsWith-trans (x ∷ xs) (y ∷ ys) (z ∷ zs) a b = (omega arith, BeginsWith-trans xs ys zs a.1 b.1)

pub BeginsWith-refl : (xs : List ℕ) → BeginsWith xs xs
BeginsWith-refl [] = tt
BeginsWith-refl (x ∷ xs) = (refl, BeginsWith-refl xs)

-- what is asked of a distribution fixes its class
pub same_class : (a b : GivenDist) (asked : Dist) → Meets a asked → Meets b asked → class_of a ≡ class_of b
same_class a b asked x y = met_class a asked x ∙ sym (met_class b asked y)

-- an enforcer has the same shape over kids of one group and one class
pub same_shape : (q : Query) (e : Enforcer) (a b : Kid) → a.group ≡ b.group
    → class_of a.given.dist ≡ class_of b.given.dist
    → enforcer_shape q e (a ∷ []) ≡ enforcer_shape q e (b ∷ [])
same_shape q e a b group class = cc

-- a gather costs no more than a merge of as many rows
gather_cheaper : (rows : ℕ) → local_cost (shapes.Gather rows) ≤ local_cost (shapes.GatherMerge rows)
unfolding local_cost
gather_cheaper rows = omega arith

module _ (q : Query) (ordered : IsOrdered q) (kid : Kid) where
  -- where spread rows are enough the kid serves alone, and else the motion is the one to the distribution
  exchange_motion : (motion : Motion) (dist : Dist) (o : ℕ) → IsSpread kid.given.dist → IsNumbered q o
      → Satisfies q (gives_so (moved_by motion) (Listed 0)) (request dist o)
      → CanExchange q (moving motion) kid (request dist o)
  exchange_motion motion dist zero is_spread numbered satisfies = elim (motion_serves motion dist satisfies.dist) [
    | inl same ↦ inl (record {
      dist = subst (Meets kid.given.dist) (sym same) (spread_meets kid.given.dist is_spread);
      order = tt;
    })
    | inr moves ↦ inr (
      enforced (moving motion) (request Spread 0),
      record {
        among = motion_among dist motion moves;
        satisfies = record { dist = spread_meets kid.given.dist is_spread; order = tt };
        number = omega arith;
        cost = omega arith;
      },
    )
  ]
  exchange_motion motion dist (suc o) is_spread numbered satisfies =
      absurd (ordered.none_empty o numbered satisfies.order)

  exchange_sort : (p : ℕ) (dist : Dist) (o : ℕ) → CanSort q p kid → IsNumbered q o
      → Satisfies q (enforcer_gives (enforcers.Sort p) kid.given) (request dist o)
      → CanExchange q (enforcers.Sort p) kid (request dist o)
  exchange_sort p dist zero can numbered satisfies = inl (record { dist = satisfies.dist; order = tt })
  exchange_sort p dist (suc o) can numbered satisfies =
      let shorter = ordered.by_length (suc o) p numbered can.numbered satisfies.order in
      inr (
        enforced (enforcers.Sort (suc o)) (request dist 0),
        record {
          among = inl refl;
          satisfies = record { dist = satisfies.dist; order = tt };
          number = omega arith;
          cost = omega arith;
        },
      )

  -- a merge gives what a gather does, in an order that the kid has
  merge_to : (p : ℕ) (dist : Dist) (o : ℕ) → motion_to dist ≡ Some motions.Gather → CanMerge q p kid → IsNumbered q o
      → BeginsWith (order_of q p) (order_of q o) → CanExchange q (enforcers.GatherMerge p) kid (request dist o)
  merge_to p dist zero moves can numbered begins = inr (
    enforced enforcers.Gather (request Spread 0),
    record {
      among = motion_among dist motions.Gather moves;
      satisfies = record { dist = spread_meets kid.given.dist can.is_spread; order = tt };
      number = omega arith;
      cost = gather_cheaper (rows_of q kid.group);
    },
  )
  merge_to p dist (suc o) moves can numbered begins =
      let shorter = ordered.by_length (suc o) p numbered can.can_sort.numbered begins in
      inr (
        enforced (enforcers.GatherMerge (suc o)) (request Spread (suc o)),
        record {
          among = merge_among dist o moves;
          satisfies = record {
            dist = spread_meets kid.given.dist can.is_spread;
            order = BeginsWith-trans (given_order q kid.given.order) (order_of q p) (order_of q (suc o)) can.has_order
                begins;
          };
          number = omega arith;
          cost = omega arith;
        },
      )

  exchange_merge : (p : ℕ) (wanted : Request) → CanMerge q p kid → IsNumbered q wanted.order
      → Satisfies q (enforcer_gives (enforcers.GatherMerge p) kid.given) wanted
      → CanExchange q (enforcers.GatherMerge p) kid wanted
  exchange_merge p wanted can numbered satisfies =
      elim (motion_serves motions.Gather wanted.dist satisfies.dist) [
        | inl same ↦ inl (record {
          dist = subst (Meets kid.given.dist) (sym same) (spread_meets kid.given.dist can.is_spread);
          order = BeginsWith-trans (given_order q kid.given.order) (order_of q p) (order_of q wanted.order)
              can.has_order satisfies.order;
        })
        | inr moves ↦ merge_to p wanted.dist wanted.order moves can numbered satisfies.order
      ]

  -- an enforcer at the root of a plan is not needed, or one that is looked at does as well
  pub exchange : (node : Enforcer) (wanted : Request) → EnforcerFits q node kid → IsNumbered q wanted.order
      → Satisfies q (enforcer_gives node kid.given) wanted → CanExchange q node kid wanted
  exchange node wanted =
      enforcer_cases (λ (e : Enforcer). EnforcerFits q e kid → IsNumbered q wanted.order
      → Satisfies q (enforcer_gives e kid.given) wanted → CanExchange q e kid wanted)
      (λ motion fits numbered satisfies. exchange_motion motion wanted.dist wanted.order
      (motion_needs q motion kid fits).0 numbered
      (subst (λ given. Satisfies q given wanted) (motion_gives motion kid.given) satisfies))
      (λ p fits numbered satisfies. exchange_sort p wanted.dist wanted.order fits numbered satisfies)
      (λ p fits numbered satisfies. exchange_merge p wanted fits numbered satisfies) node
