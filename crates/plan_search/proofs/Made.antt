-- An expression in a mode over the plans that it asks for, or that there are none.
use Rattle.std.proofs.Common.{◌≡◌, ℕ, refl, subst, sym, inl, inr, arith}
use Rattle.std.specs.Prelude.{[], ◌∷◌, Option, None, Some}
use Rattle.query_core.specs.declared.words.Key.{Key}
use Rattle.query_core.specs.declared.query.Query.{Query}
use Rattle.query_core.specs.declared.words.KeyParts.{KeyParts}
use Rattle.query_core.specs.declared.expressions.PhysicalExpr.{PhysicalExpr}
use Rattle.xform_rules.specs.Closure.{IsMember}
use Rattle.cost_units.specs.Cost.{local_cost}
use Rattle.request_props.specs.declared.request.Request.{Request}
use Rattle.plan_space.specs.declared.nodes.NodeKind.TheVariants as nodes
use Rattle.plan_space.specs.Nodes.{leaf, over, two}
use Rattle.plan_space.specs.Gives.{kid_of}
use Rattle.plan_space.specs.Cost.{shape_of}
use Rattle.plan_space.specs.Alternatives.{asked_of, KidsServe}
use Rattle.plan_space.specs.Choices.{groups_of, AreLeast, LacksOne, native_choice}
use Rattle.plan_space.specs.Laws.{AreOf}
use Rattle.plan_search.specs.declared.kept_plans.KeptPlans.{KeptPlans}
use Rattle.plan_search.specs.declared.choice.KidPlans.{KidPlans}
use Rattle.plan_search.specs.declared.choice.KidPlaces.TheVariants as kids
use Rattle.plan_tree.specs.declared.alternatives.Alt.{Alt}
use Rattle.plan_tree.specs.Costs.{IsNativeCost}
use Rattle.plan_search.specs.Places.{place_asked}
use Rattle.plan_search.specs.KeptPlans.{StandsAt, kept_at, IsPlanAt, ArePlansAt, AreFound, IsOneMissing, IsMissing}
use Rattle.plan_search.specs.BestSoFar.{IsLacking, IsMade, choice_over}
use Rattle.plan_search.proofs.Answered.{none_case, some_case}
use Rattle.plan_search.proofs.Asked.{asked_zero}
use Rattle.plan_search.proofs.Kids.{IsAsked, line_is, OneKid, one_kid, TwoKids, two_kids}
use Rattle.query_core.specs.Expressions.{physical_children}

module _ (q : Query) (answers : KeptPlans) (e : PhysicalExpr) (wanted : Request) (mode : ℕ) (alt : Alt)
    (known : IsAsked q answers e wanted mode alt) where
  -- the expression over the one child's plan
  made_one : (local : ℕ) → IsNativeCost q e mode wanted local → (kid : Key × Request) (g : KeyParts)
      → OneKid q answers e wanted mode alt known kid g → (below : KidPlans)
      → IsPlanAt answers (place_asked kid) below → IsMade q answers wanted e mode (choice_over alt.node local below)
  made_one local cost kid g one below (kept, at, is) =
      let found = some_case q answers g kid.1 kept one.is_answered
      (subst (λ p. kept_at answers p ≡ Some kept) one.place at) in
      let under = found.0 in
      let holds = found.1 in
      let plan = over (nodes.Native e mode) under in
      let are_least : AreLeast (IsMember q) q (groups_of (physical_children e.operator)) (asked_of known.line wanted)
      (under ∷ []) =
      subst (λ c. AreLeast (IsMember q) q (groups_of c) (asked_of known.line wanted) (under ∷ [])) (sym one.children)
      (subst (λ a. AreLeast (IsMember q) q (g ∷ []) a (under ∷ [])) (sym one.asked) (holds.least, tt)) in
      let local_is : local ≡ local_cost (shape_of q (nodes.Native e mode) (kid_of q under ∷ [])) =
      cost known.line (kid_of q under ∷ []) known.alt_of.is_alternative
      (subst (λ c. AreOf (groups_of c) (kid_of q under ∷ [])) (sym one.children) (holds.least.serves.of_group, tt))
      (subst (λ a. KidsServe q (kid_of q under ∷ []) a) (sym one.asked) (holds.least.serves.satisfies, tt)) in
      subst (λ b. IsMade q answers wanted e mode (choice_over alt.node local b)) (sym is) (
        plan,
        record {
          is_node = known.alt_of.is_node;
          built = (under, one.before, subst (λ p. StandsAt answers p under) (sym one.place) holds.stands, refl);
          serves = known.laws.serve e.group wanted plan known.fits
              (native_choice e mode known.line (under ∷ []) known.member refl known.alt_of.is_alternative are_least
              refl);
          cost = omega (arith, local_is, holds.cost);
        },
        λ other alternative. (
          under ∷ [],
          subst (λ l.
              AreLeast (IsMember q) q (groups_of (physical_children e.operator)) (asked_of l wanted) (under ∷ []))
              (sym (line_is q answers e wanted mode alt known other alternative)) are_least,
          refl,
        ),
      )

  -- where the one child has no plan
  pub lacking_one : (kid : Key × Request) (g : KeyParts) → OneKid q answers e wanted mode alt known kid g
      → kept_at answers (place_asked kid) ≡ None → IsLacking q wanted e mode
  lacking_one kid g one none other alternative =
      let lacks : LacksOne (IsMember q) q (groups_of (physical_children e.operator)) (asked_of known.line wanted) =
      subst (λ c. LacksOne (IsMember q) q (groups_of c) (asked_of known.line wanted)) (sym one.children)
      (subst (λ a. LacksOne (IsMember q) q (g ∷ []) a) (sym one.asked)
      (inl (none_case q answers g kid.1 one.is_answered (subst (λ p. kept_at answers p ≡ None) one.place none)))) in
      subst (λ l. LacksOne (IsMember q) q (groups_of (physical_children e.operator)) (asked_of l wanted))
      (sym (line_is q answers e wanted mode alt known other alternative)) lacks

  -- the expression over the two children's plans
  pub made_two : (local : ℕ) → IsNativeCost q e mode wanted local → (first second : Key × Request) (g h : KeyParts)
      → TwoKids q answers e wanted mode alt known first second g h
      → (below : KidPlans) → ArePlansAt answers (place_asked first) (place_asked second) below
      → IsMade q answers wanted e mode (choice_over alt.node local below)
  made_two local cost first second g h both below (kept, more, at, also, is) =
      let found = some_case q answers g first.1 kept both.is_answered
      (subst (λ p. kept_at answers p ≡ Some kept) both.place at) in
      let other = some_case q answers h second.1 more both.other_answered
      (subst (λ p. kept_at answers p ≡ Some more) both.other_place also) in
      let left = found.0 in
      let right = other.0 in
      let plan = two (nodes.Native e mode) left right in
      let are_least : AreLeast (IsMember q) q (groups_of (physical_children e.operator)) (asked_of known.line wanted)
      (left ∷ right ∷ []) =
      subst (λ c. AreLeast (IsMember q) q (groups_of c) (asked_of known.line wanted) (left ∷ right ∷ []))
      (sym both.children)
      (subst (λ a. AreLeast (IsMember q) q (g ∷ h ∷ []) a (left ∷ right ∷ [])) (sym both.asked)
      (found.1.least, (other.1.least, tt))) in
      let local_is : local ≡ local_cost (shape_of q (nodes.Native e mode) (kid_of q left ∷ kid_of q right ∷ [])) =
      cost known.line (kid_of q left ∷ kid_of q right ∷ []) known.alt_of.is_alternative
      (subst (λ c. AreOf (groups_of c) (kid_of q left ∷ kid_of q right ∷ [])) (sym both.children)
      (found.1.least.serves.of_group, (other.1.least.serves.of_group, tt)))
      (subst (λ a. KidsServe q (kid_of q left ∷ kid_of q right ∷ []) a) (sym both.asked)
      (found.1.least.serves.satisfies, (other.1.least.serves.satisfies, tt))) in
      subst (λ b. IsMade q answers wanted e mode (choice_over alt.node local b)) (sym is) (
        plan,
        record {
          is_node = known.alt_of.is_node;
          built = (
            left,
            right,
            both.before,
            both.other_before,
            subst (λ p. StandsAt answers p left) (sym both.place) found.1.stands,
            subst (λ p. StandsAt answers p right) (sym both.other_place) other.1.stands,
            refl,
          );
          serves = known.laws.serve e.group wanted plan known.fits
              (native_choice e mode known.line (left ∷ right ∷ []) known.member refl known.alt_of.is_alternative
              are_least refl);
          cost = omega (arith, local_is, found.1.cost, other.1.cost);
        },
        λ l alternative. (
          left ∷ right ∷ [],
          subst
              (λ m. AreLeast (IsMember q) q (groups_of (physical_children e.operator)) (asked_of m wanted)
              (left ∷ right ∷ [])) (sym (line_is q answers e wanted mode alt known l alternative)) are_least,
          refl,
        ),
      )

  -- where one of the two children has no plan
  pub lacking_two : (first second : Key × Request) (g h : KeyParts)
      → TwoKids q answers e wanted mode alt known first second g h
      → IsOneMissing answers (place_asked first) (place_asked second) → IsLacking q wanted e mode
  lacking_two first second g h both none other alternative =
      let one : LacksOne (IsMember q) q (g ∷ h ∷ []) (first.1 ∷ second.1 ∷ []) = elim none [
        | inl empty ↦ inl (none_case q answers g first.1 both.is_answered
            (subst (λ p. kept_at answers p ≡ None) both.place empty))
        | inr empty ↦ inr (inl (none_case q answers h second.1 both.other_answered
            (subst (λ p. kept_at answers p ≡ None) both.other_place empty)))
      ] in
      let lacks : LacksOne (IsMember q) q (groups_of (physical_children e.operator)) (asked_of known.line wanted) =
      subst (λ c. LacksOne (IsMember q) q (groups_of c) (asked_of known.line wanted)) (sym both.children)
      (subst (λ a. LacksOne (IsMember q) q (g ∷ h ∷ []) a) (sym both.asked) one) in
      subst (λ l. LacksOne (IsMember q) q (groups_of (physical_children e.operator)) (asked_of l wanted))
      (sym (line_is q answers e wanted mode alt known other alternative)) lacks

  -- the expression by itself
  pub made_zero : (local : ℕ) → IsNativeCost q e mode wanted local → alt.left ≡ None → (below : KidPlans)
      → below ≡ record { kids = kids.Zero; cost = 0 }
      → IsMade q answers wanted e mode (choice_over alt.node local below)
  made_zero local cost left below is =
      let empty = asked_zero q alt (physical_children e.operator) (asked_of known.line wanted) left known.alt_of.asks in
      let none = empty.0 in
      let requests = sym empty.1 in
      let plan = leaf (nodes.Native e mode) in
      let are_least : AreLeast (IsMember q) q (groups_of (physical_children e.operator)) (asked_of known.line wanted)
      [] =
      subst (λ c. AreLeast (IsMember q) q (groups_of c) (asked_of known.line wanted) []) (sym none)
      (subst (λ a. AreLeast (IsMember q) q [] a []) requests tt) in
      let local_is : local ≡ local_cost (shape_of q (nodes.Native e mode) []) =
      cost known.line [] known.alt_of.is_alternative (subst (λ c. AreOf (groups_of c) []) (sym none) tt)
      (subst (λ a. KidsServe q [] a) requests tt) in
      subst (λ b. IsMade q answers wanted e mode (choice_over alt.node local b)) (sym is) (
        plan,
        record {
          is_node = known.alt_of.is_node;
          built = refl;
          serves = known.laws.serve e.group wanted plan known.fits
              (native_choice e mode known.line [] known.member refl known.alt_of.is_alternative are_least refl);
          cost = omega (arith, local_is);
        },
        λ l alternative. (
          [],
          subst (λ m. AreLeast (IsMember q) q (groups_of (physical_children e.operator))
              (asked_of m wanted) []) (sym (line_is q answers e wanted mode alt known l alternative)) are_least,
          refl,
        ),
      )

  missing : (left right : Option (Key × Request)) → alt.left ≡ left → alt.right ≡ right → IsMissing answers left right
      → IsLacking q wanted e mode
  missing None right is also none = absurd none
  missing (Some left) None is also none = let found = one_kid q answers e wanted mode alt known left is also in
      lacking_one left found.0 found.1 none
  missing (Some left) (Some right) is also none = let found =
      two_kids q answers e wanted mode alt known left right is also in
      lacking_two left right found.0 found.1 found.2 none

  -- where no plan stands at a request that is asked for
  pub missing_lacks : IsMissing answers alt.left alt.right → IsLacking q wanted e mode
  missing_lacks = missing alt.left alt.right refl refl

  module _ (local : ℕ) (cost : IsNativeCost q e mode wanted local) (below : KidPlans) where
    made_over : (left right : Option (Key × Request)) → alt.left ≡ left → alt.right ≡ right
        → AreFound answers left right below
        → IsMade q answers wanted e mode (choice_over alt.node local below)
    made_over None right is also found = made_zero local cost is below found
    made_over (Some left) None is also found = let kid = one_kid q answers e wanted mode alt known left is also in
        made_one local cost left kid.0 kid.1 below found
    made_over (Some left) (Some right) is also found =
        let both = two_kids q answers e wanted mode alt known left right is also in
        made_two local cost left right both.0 both.1 both.2 below found

    -- the expression over the plans that are asked for
    pub found_made : AreFound answers alt.left alt.right below
        → IsMade q answers wanted e mode (choice_over alt.node local below)
    found_made = made_over alt.left alt.right refl refl
