-- A choice serves the request.
use Rattle.std.proofs.Common.{◌≡◌, ℕ, ◌≤◌, List, [], ◌∷◌, inl, inr, sym, subst}
use Rattle.query_core.specs.Expressions.{expr_of, physical_children}
use Rattle.query_core.specs.declared.query.Query.{Query}
use Rattle.query_core.specs.declared.words.KeyParts.{KeyParts}
use Rattle.query_core.specs.declared.expressions.ExprParts.{ExprParts}
use Rattle.query_core.specs.declared.expressions.PhysicalExpr.{PhysicalExpr}
use Rattle.request_props.specs.Numbered.{order_of}
use Rattle.request_props.specs.Dists.{list_given}
use Rattle.request_props.specs.Satisfied.{Meets, Satisfies}
use Rattle.request_props.specs.declared.given.GivenDist.TheVariants.{One}
use Rattle.request_props.specs.declared.request.Dist.{Dist}
use Rattle.request_props.specs.declared.request.Dist.TheVariants.{Spread}
use Rattle.request_props.specs.declared.request.Request.{Request}
use Rattle.request_props.specs.Lying.{OrderLiesIn}
use Rattle.request_props.specs.Fitting.{ListFits, DistFits, Fits}
use Rattle.plan_space.specs.Nodes.{Tree, over}
use Rattle.plan_space.specs.declared.nodes.NodeKind.TheVariants as nodes
use Rattle.plan_space.specs.declared.nodes.Enforcer.TheVariants as enforcers
use Rattle.plan_space.specs.Lines.{request}
use Rattle.plan_space.specs.declared.nodes.Motion.{Motion}
use Rattle.plan_space.specs.declared.nodes.Motion.TheVariants as motions
use Rattle.plan_space.specs.Gives.{kid_of, gives, native_gives}
use Rattle.plan_space.specs.Valid.{NativeFits}
use Rattle.plan_space.specs.Alternatives.{asked_of, KidsServe}
use Rattle.plan_space.specs.Enforcers.{EnforcedBy, moved_by, moving, enforcers_by, Among, BringsTo}
use Rattle.plan_space.specs.Least.{Serves}
use Rattle.plan_space.specs.Choices.{IsNodeOver, groups_of, AreLeast, IsChoice, enforced_choice, native_choice}
use Rattle.plan_space.specs.Laws.{AreOf, SatisfactionJoins}
use Rattle.request_props.proofs.Agreeing.{met_spread}
use Rattle.plan_space.proofs.Exchange.{BeginsWith-refl}
use Rattle.plan_space.proofs.MotionLaws.{motion_brings, motion_gives, motion_fits, enforcer_for}
use Rattle.plan_space.proofs.Kids.{sights, AreValid}

module _ (Member : ExprParts → Type 0) (q : Query) (group : KeyParts) where
  module _ (kid : Tree) where
    -- a motion over spread rows serves each distribution to which it brings them
    motion_serves : (motion : Motion) (dist : Dist) → BringsTo motion dist → DistFits q group dist
        → Serves Member q group (request Spread 0) kid
        → Serves Member q group (request dist 0) (over (nodes.Enforcer (moving motion)) kid)
    motion_serves motion dist brings fits serves =
        let own = subst (ListFits q group) (sym brings.by_list) fits in
        record {
          valid = (
            serves.valid,
            motion_fits q motion (kid_of q kid) (met_spread (gives q kid).dist serves.satisfies.dist)
                (subst (λ (g : KeyParts). ListFits q g (list_given (moved_by motion))) (sym serves.of_group) own),
          );
          of_group = serves.of_group;
          satisfies = subst (λ given. Satisfies q given (request dist 0)) (sym (motion_gives motion (gives q kid)))
              (record { dist = brings.meets; order = tt });
        }

    sort_serves : (dist : Dist) (o : ℕ) → 1 ≤ o → Fits q group (request dist o)
        → Serves Member q group (request dist 0) kid
        → Serves Member q group (request dist o) (over (nodes.Enforcer (enforcers.Sort o)) kid)
    sort_serves dist o some fits serves = record {
      valid = (
        serves.valid,
        record {
          not_empty = some;
          numbered = fits.numbered;
          lies_in = subst (λ (g : KeyParts). OrderLiesIn q g (order_of q o)) (sym serves.of_group) fits.order;
        },
      );
      of_group = serves.of_group;
      satisfies = record { dist = serves.satisfies.dist; order = BeginsWith-refl (order_of q o) };
    }

    merge_serves : (dist : Dist) (o : ℕ) → 1 ≤ o → Meets One dist → Fits q group (request dist o)
        → Serves Member q group (request Spread o) kid
        → Serves Member q group (request dist o) (over (nodes.Enforcer (enforcers.GatherMerge o)) kid)
    merge_serves dist o some meets fits serves = record {
      valid = (
        serves.valid,
        record {
          can_sort = record {
            not_empty = some;
            numbered = fits.numbered;
            lies_in = subst (λ (g : KeyParts). OrderLiesIn q g (order_of q o)) (sym serves.of_group) fits.order;
          };
          is_spread = met_spread (gives q kid).dist serves.satisfies.dist;
          has_order = serves.satisfies.order;
        },
      );
      of_group = serves.of_group;
      satisfies = record { dist = meets; order = BeginsWith-refl (order_of q o) };
    }

    named_serves : (wanted : Request) (e first : EnforcedBy) → e ≡ first
        → (Serves Member q group first.below kid → Serves Member q group wanted (over (nodes.Enforcer first.node) kid))
        → Serves Member q group e.below kid → Serves Member q group wanted (over (nodes.Enforcer e.node) kid)
    named_serves wanted e first same =
        subst (λ (x : EnforcedBy). Serves Member q group x.below kid
        → Serves Member q group wanted (over (nodes.Enforcer x.node) kid)) (sym same)

    -- an enforcer for the request over a plan for what it asks
    pub enforcer_serves : (dist : Dist) (order : ℕ) (e : EnforcedBy) → Fits q group (request dist order)
        → Among e (enforcers_by dist order) → Serves Member q group e.below kid
        → Serves Member q group (request dist order) (over (nodes.Enforcer e.node) kid)
    enforcer_serves dist order e fits among = elim (enforcer_for (request dist order) e among) [
      | inl (motion, is) ↦ named_serves (request dist order) e _ is.same
          (subst (λ (o : ℕ). Serves Member q group (request Spread 0) kid
          → Serves Member q group (request dist o) (over (nodes.Enforcer (moving motion)) kid)) (sym is.no_order)
          (motion_serves motion dist (motion_brings dist motion is.moves) fits.dist))
      | inr (inl is) ↦ named_serves (request dist order) e _ is.same (sort_serves dist order is.some_order fits)
      | inr (inr is) ↦ named_serves (request dist order) e _ is.same
          (merge_serves dist order is.some_order (motion_brings dist motions.Gather is.moves).meets fits)
    ]

  valid_least : (groups : List KeyParts) (wishes : List Request) (plans : List Tree)
      → AreLeast Member q groups wishes plans → AreValid Member q plans
  valid_least [] [] [] least = tt
  valid_least [] [] (plan ∷ plans) least = absurd least
  valid_least [] (wanted ∷ wishes) plans least = absurd least
  valid_least (g ∷ groups) [] plans least = absurd least
  valid_least (g ∷ groups) (wanted ∷ wishes) [] least = absurd least
  valid_least (g ∷ groups) (wanted ∷ wishes) (plan ∷ plans) least =
      (least.0.serves.valid, valid_least groups wishes plans least.1)

  least_of : (groups : List KeyParts) (wishes : List Request) (plans : List Tree)
      → AreLeast Member q groups wishes plans → AreOf groups (sights q plans)
  least_of [] [] [] least = tt
  least_of [] [] (plan ∷ plans) least = absurd least
  least_of [] (wanted ∷ wishes) plans least = absurd least
  least_of (g ∷ groups) [] plans least = absurd least
  least_of (g ∷ groups) (wanted ∷ wishes) [] least = absurd least
  least_of (g ∷ groups) (wanted ∷ wishes) (plan ∷ plans) least =
      (least.0.serves.of_group, least_of groups wishes plans least.1)

  least_serve : (groups : List KeyParts) (wishes : List Request) (plans : List Tree)
      → AreLeast Member q groups wishes plans
      → KidsServe q (sights q plans) wishes
  least_serve [] [] [] least = tt
  least_serve [] [] (plan ∷ plans) least = absurd least
  least_serve [] (wanted ∷ wishes) plans least = absurd least
  least_serve (g ∷ groups) [] plans least = absurd least
  least_serve (g ∷ groups) (wanted ∷ wishes) [] least = absurd least
  least_serve (g ∷ groups) (wanted ∷ wishes) (plan ∷ plans) least =
      (least.0.serves.satisfies, least_serve groups wishes plans least.1)

  -- the node over these plans, where it may stand over them and meets the request
  node_serves : (e : PhysicalExpr) (mode : ℕ) (wanted : Request) (kids : List Tree) (plan : Tree) → Member (expr_of e)
      → e.group ≡ group → AreValid Member q kids
      → NativeFits q e mode (sights q kids) → Satisfies q (native_gives q e mode (sights q kids)) wanted
      → IsNodeOver (nodes.Native e mode) kids plan
      → Serves Member q group wanted plan
  node_serves e mode wanted [] plan member of_group valid fits satisfies is =
      subst (λ (t : Tree). Serves Member q group wanted t) (sym is)
      (record { valid = (member, fits); of_group = of_group; satisfies = satisfies })
  node_serves e mode wanted (kid ∷ []) plan member of_group valid fits satisfies is =
      subst (λ (t : Tree). Serves Member q group wanted t) (sym is)
      (record { valid = (valid.0, (member, fits)); of_group = of_group; satisfies = satisfies })
  node_serves e mode wanted (left ∷ right ∷ []) plan member of_group valid fits satisfies is =
      subst (λ (t : Tree). Serves Member q group wanted t) (sym is)
      (record { valid = (valid.0, valid.1.0, (member, fits)); of_group = of_group; satisfies = satisfies })
  node_serves e mode wanted (left ∷ right ∷ other ∷ others) plan member of_group valid fits satisfies is = absurd is

  pub choice_serves : SatisfactionJoins q → (wanted : Request) (plan : Tree) → Fits q group wanted
      → IsChoice Member q group wanted plan
      → Serves Member q group wanted plan
  choice_serves joins wanted plan fits (enforced_choice e kid among least is) =
      subst (λ (t : Tree). Serves Member q group wanted t) (sym is)
      (enforcer_serves kid wanted.dist wanted.order e fits among least.serves)
  choice_serves joins wanted plan fits (native_choice e mode line kids member of_group alternative least is) =
      let of_children = least_of (groups_of (physical_children e.operator)) (asked_of line wanted) kids least in
      let serve = least_serve (groups_of (physical_children e.operator)) (asked_of line wanted) kids least in
      let joined = joins e mode line (sights q kids) wanted alternative of_children serve in
      node_serves e mode wanted kids plan member of_group
      (valid_least (groups_of (physical_children e.operator)) (asked_of line wanted) kids least) joined.0 joined.1
      is
