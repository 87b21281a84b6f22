-- The links of a node: least plans stand there, and the goals are the query's and have lesser ranks.
use Rattle.std.proofs.Common.{◌≡◌, ℕ, refl, sym, ap, ◌∙◌, subst, inl, inr, arith}
use Rattle.std.specs.Prelude.{List, [], ◌∷◌}
use Rattle.query_core.specs.Expressions.{expr_of, physical_children, IsCandidate}
use Rattle.query_core.specs.Keys.{IsGroup}
use Rattle.query_core.specs.declared.query.Query.{Query}
use Rattle.query_core.specs.declared.words.KeyParts.{KeyParts}
use Rattle.query_core.specs.declared.expressions.PhysicalExpr.{PhysicalExpr}
use Rattle.xform_rules.specs.Closure.{IsMember}
use Rattle.request_props.specs.declared.request.Request.{Request}
use Rattle.request_props.specs.Fitting.{Fits}
use Rattle.plan_space.specs.Nodes.{Tree, leaf, over, two}
use Rattle.plan_space.specs.declared.nodes.NodeKind.{NodeKind}
use Rattle.plan_space.specs.declared.lines.Line.{Line}
use Rattle.plan_space.specs.Alternatives.{IsAlternative, asked_of}
use Rattle.plan_space.specs.Enforcers.{EnforcedBy, enforcers_of, Among}
use Rattle.plan_space.specs.Choices.{groups_of, IsNodeOver, AreLeast}
use Rattle.plan_tree.specs.Seen.{root_node}
use Rattle.goal_space.specs.Children.{IsAsked}
use Rattle.goal_space.specs.Goals.{IsGoal, child_goal}
use Rattle.goal_space.specs.Laws.{RanksFall}
use Rattle.goal_space.specs.Ranks.{rank_of}
use Rattle.goal_space.specs.declared.goals.GoalKind.TheVariants.{Opt, OptE}
use Rattle.goal_space.proofs.Enforced.{can_enforce}
use Rattle.plan_report.specs.declared.plans_asked.PlanAsked.{PlanAsked}
use Rattle.plan_report.specs.declared.plans_asked.PlansAsked.{PlansAsked}
use Rattle.plan_report.specs.declared.plans_asked.PlansAsked.TheVariants as plans_asked
use Rattle.plan_report.specs.PlansAsked.{goal_of, groups_asked, wishes_asked, ArePlansAsked, IsOver, IsLower, AreLower}

-- ---- least plans

over_by : (q : Query) (found : PlansAsked) (node : NodeKind) (kids : List Tree) (plan : Tree)
    → AreLeast (IsMember q) q (groups_asked found) (wishes_asked found) kids
    → IsNodeOver node kids plan → root_node plan ≡ node → IsOver q found plan
over_by q plans_asked.Zero node [] plan least is root = is ∙ ap leaf (sym root)
over_by q plans_asked.Zero node (kid ∷ kids) plan least is root = absurd least
over_by q (plans_asked.One below) node [] plan least is root = absurd least
over_by q (plans_asked.One below) node (kid ∷ []) plan least is root =
    (kid, least.0, is ∙ ap (λ n. over n kid) (sym root))
over_by q (plans_asked.One below) node (kid ∷ other ∷ kids) plan least is root = absurd least.1
over_by q (plans_asked.Two first second) node [] plan least is root = absurd least
over_by q (plans_asked.Two first second) node (left ∷ []) plan least is root = absurd least.1
over_by q (plans_asked.Two first second) node (left ∷ right ∷ []) plan least is root =
    (left, right, least.0, least.1.0, is ∙ ap (λ n. two n left right) (sym root))
over_by q (plans_asked.Two first second) node (left ∷ right ∷ other ∷ kids) plan least is root = absurd least.1.1

-- the node stands over the least plans of what it is linked to
pub over_asked : (q : Query) (groups : List KeyParts) (wishes : List Request) (found : PlansAsked) (node : NodeKind)
    (kids : List Tree) (plan : Tree) → ArePlansAsked groups wishes found
    → AreLeast (IsMember q) q groups wishes kids → IsNodeOver node kids plan → root_node plan ≡ node
    → IsOver q found plan
over_asked q groups wishes found node kids plan linked least is root =
    over_by q found node kids plan (subst (λ g. AreLeast (IsMember q) q g (wishes_asked found) kids)
    (sym linked.groups_are) (subst (λ w. AreLeast (IsMember q) q groups w kids) (sym linked.wishes_are) least)) is
    root

-- ---- goals

module _ (q : Query) (falls : RanksFall q) (at : PlanAsked) (goal : IsGoal q (goal_of at)) (known : IsGroup q at.group)
  where
    -- what an enforcer for the request asks is a goal of a lesser rank
    pub enforcer_lower : (e : EnforcedBy) → Fits q at.group at.wanted → Among e (enforcers_of at.wanted)
        → IsLower q (rank_of (goal_of at)) (record { group = at.group; wanted = e.below })
    enforcer_lower e fits among =
        let can = can_enforce q at.group at.wanted e fits among in
        record {
          is_goal = child_goal (goal_of at) (Opt at.group e.below) goal (inr (inr (e, can, refl)));
          lower = falls (goal_of at) (Opt at.group e.below) known (inr (inr (e, can, refl)));
        }

    module _ (e : PhysicalExpr) (mode : ℕ) (line : Line) (member : IsMember q (expr_of e))
        (candidate : IsCandidate q (expr_of e)) (of_group : e.group ≡ at.group)
        (alternative : IsAlternative q e at.wanted mode line) where
      asked_lower : (group : KeyParts) (wanted : Request)
          → IsAsked (groups_of (physical_children e.operator)) (asked_of line at.wanted) group wanted
          → IsLower q (rank_of (goal_of at)) (record { group = group; wanted = wanted })
      asked_lower group wanted asked =
          let first = falls (goal_of at) (OptE e at.wanted) known
          (inr (inl (
            e,
            record { member = member; of_group = of_group; mode = mode; serves = (line, alternative) },
            refl,
          ))) in
          let second = falls (OptE e at.wanted) (Opt group wanted) candidate (
            group,
            wanted,
            record { mode = mode; line = line; is_alternative = alternative; is_asked = asked },
            refl,
          ) in
          record {
            is_goal = child_goal (OptE e at.wanted) (Opt group wanted)
                (child_goal (goal_of at) (OptE e at.wanted) goal
                (inr (inl (
                  e,
                  record {
                    member = member;
                    of_group = of_group;
                    mode = mode;
                    serves = (line, alternative);
                  },
                  refl,
                )))) (
                  group,
                  wanted,
                  record { mode = mode; line = line; is_alternative = alternative; is_asked = asked },
                  refl,
                );
            lower = omega (arith, first, second);
          }

      lower_by : (found : PlansAsked) → ((group : KeyParts) (wanted : Request)
          → IsAsked (groups_asked found) (wishes_asked found) group wanted
          → IsLower q (rank_of (goal_of at)) (record { group = group; wanted = wanted }))
          → AreLower q (rank_of (goal_of at)) found
      lower_by plans_asked.Zero lower = tt
      lower_by (plans_asked.One below) lower = lower below.group below.wanted (inl (refl, refl))
      lower_by (plans_asked.Two first second) lower =
          (lower first.group first.wanted (inl (refl, refl)), lower second.group second.wanted (inr (inl (refl, refl))))

      -- so is what an expression in a mode asks
      pub native_lower : (found : PlansAsked) → ArePlansAsked (groups_of (physical_children e.operator))
          (asked_of line at.wanted)
          found → AreLower q (rank_of (goal_of at)) found
      native_lower found linked = lower_by found (λ group wanted asked.
          asked_lower group wanted (subst (λ g. IsAsked g (asked_of line at.wanted) group wanted) linked.groups_are
          (subst (λ w. IsAsked (groups_asked found) w group wanted) linked.wishes_are asked)))
