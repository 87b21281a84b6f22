-- Each member is asked for by the implementation of its group, which is a goal of the query.
use Rattle.std.proofs.Common.{◌≡◌, ℕ, false, refl, subst, sym, inl, inr, IsTrue, Option, None, Some}
use Rattle.std.proofs.lemmas.Bool.{cases_Bool}
use Rattle.query_core.specs.Keys.{root_of}
use Rattle.query_core.specs.Expressions.{children_of, is_logical, origin_of, IsChild}
use Rattle.query_core.specs.declared.query.Query.{Query}
use Rattle.query_core.specs.declared.words.KeyParts.{KeyParts}
use Rattle.query_core.specs.declared.expressions.ExprParts.{ExprParts}
use Rattle.xform_rules.specs.Results.{HasResult}
use Rattle.xform_rules.specs.Closure.{IsMember, root_origin, child_origin, result, bound_result}
use Rattle.xform_rules.specs.declared.rules.Rule.{Rule}
use Rattle.goal_space.specs.Goals.{IsGoal, root_goal, child_goal, root_goal_of}
use Rattle.goal_space.specs.Asked.{AsksFor}
use Rattle.goal_space.specs.declared.goals.GoalKind.TheVariants.{Imp, ImpE}

-- the implementations of the group and of those that the expression stands on are goals
record AreImplemented (q : Query) (e : ExprParts) : Type 0 where
  of_group : IsGoal q (Imp e.group)
  below : (group : KeyParts) → IsChild (children_of e.operator) group → IsGoal q (Imp group)

-- a logical member's implementation leads from its group to those that it stands on
logical_below : (q : Query) (e : ExprParts) → IsMember q e → IsTrue (is_logical e.operator) → IsGoal q (Imp e.group)
    → (group : KeyParts) → IsChild (children_of e.operator) group → IsGoal q (Imp group)
logical_below q e member logical is_goal group child =
    let of_expr = child_goal (Imp e.group) (ImpE e) is_goal
    (inr (e, record { member = member; of_group = refl; logical = logical }, refl)) in
    child_goal (ImpE e) (Imp group) of_expr (inl (group, child, refl))

-- a result that isn't logical stands on groups on which the expression stands
abbrev KeepsChildren : Type 0
KeepsChildren = (q : Query) (rule : Rule) (e : ExprParts) (bound : Option ExprParts) (n : ℕ) (x : ExprParts)
    → HasResult q rule e bound n x → is_logical x.operator ≡ false → (group : KeyParts)
    → IsChild (children_of x.operator) group → IsChild (children_of e.operator) group

module _ (keeps : KeepsChildren) where
  -- so the implementations of those groups are goals
  of_result : (q : Query) (rule : Rule) (before : ExprParts) (bound : Option ExprParts) (n : ℕ) (e : ExprParts)
      → HasResult q rule before bound n e → IsMember q e → AreImplemented q before → AreImplemented q e
  of_result q rule before bound n e has member earlier =
      let of_same : IsGoal q (Imp e.group) = subst (λ (g : KeyParts). IsGoal q (Imp g)) (sym has.group)
      earlier.of_group in
      record {
        of_group = of_same;
        below = λ (group : KeyParts) child. elim (cases_Bool (is_logical e.operator)) [
          | inl logical ↦ logical_below q e member logical of_same group child
          | inr other ↦ earlier.below group (keeps q rule before bound n e has other group child)
        ];
      }

  implemented : (q : Query) (e : ExprParts) → IsMember q e → AreImplemented q e
  implemented q e root_origin =
      let of_root = child_goal (root_goal_of q) (Imp (root_of q)) root_goal (inl refl) in
      record { of_group = of_root; below = logical_below q (origin_of q (root_of q)) root_origin refl of_root }
  implemented q e (child_origin before group member child) =
      let of_child = (implemented q before member).below group child in
      record {
        of_group = of_child;
        below = logical_below q (origin_of q group) (child_origin before group member child) refl of_child;
      }
  implemented q e (result before other rule n member has) =
      of_result q rule before None n e has (result before e rule n member has) (implemented q before member)
  implemented q e (bound_result before bound other rule n member member_bound has) =
      of_result q rule before (Some bound) n e has (bound_result before bound e rule n member member_bound has)
      (implemented q before member)

  pub member_asked : (q : Query) (e : ExprParts) → IsMember q e → IsGoal q (Imp e.group) × AsksFor q (Imp e.group) e
  member_asked q e member = ((implemented q e member).of_group, (member, refl))
