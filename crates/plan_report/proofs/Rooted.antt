-- What is known of a least plan by the node at its root.
use Rattle.std.proofs.Common.{◌≡◌, ℕ, sym, ap, ◌∙◌, subst}
use Rattle.std.specs.Prelude.{List, Option, Some, ◌↔◌}
use Rattle.query_core.specs.Expressions.{expr_of, physical_children}
use Rattle.query_core.specs.declared.query.Query.{Query}
use Rattle.query_core.specs.declared.expressions.PhysicalExpr.{PhysicalExpr}
use Rattle.xform_rules.specs.Closure.{IsMember}
use Rattle.plan_space.specs.Nodes.{Tree, over}
use Rattle.plan_space.specs.declared.nodes.Enforcer.{Enforcer}
use Rattle.plan_space.specs.declared.nodes.NodeKind.{NodeKind}
use Rattle.plan_space.specs.declared.nodes.NodeKind.TheVariants as nodes
use Rattle.plan_space.specs.declared.lines.Line.{Line}
use Rattle.plan_space.specs.Alternatives.{IsAlternative, asked_of}
use Rattle.plan_space.specs.Enforcers.{EnforcedBy, enforcers_of, Among}
use Rattle.plan_space.specs.Least.{IsLeast}
use Rattle.plan_space.specs.Choices.{groups_of, IsNodeOver, AreLeast, IsChoice, enforced_choice, native_choice}
use Rattle.plan_tree.specs.declared.node.Node.{Node}
use Rattle.plan_tree.specs.Nodes.{IsNode}
use Rattle.plan_tree.specs.Seen.{root_node}
use Rattle.best_answers.proofs.Roots.{root_over}
use Rattle.plan_report.specs.declared.plans_asked.PlanAsked.{PlanAsked}
use Rattle.plan_report.specs.PlansAsked.{IsChosen, IsRooted}

-- an expression in a mode over least plans of what its line asks
pub record IsNativeRoot (q : Query) (at : PlanAsked) (e : PhysicalExpr) (mode : ℕ) (plan : Tree) : Type 0 where
  pub line : Line
  pub kids : List Tree
  pub member : IsMember q (expr_of e)
  pub of_group : e.group ≡ at.group
  pub alternative : IsAlternative q e at.wanted mode line
  pub least : AreLeast (IsMember q) q (groups_of (physical_children e.operator)) (asked_of line at.wanted) kids
  pub is : IsNodeOver (nodes.Native e mode) kids plan

-- an enforcer for the request over a least plan of what it asks
pub record IsEnforcedRoot (q : Query) (at : PlanAsked) (enforcer : Enforcer) (plan : Tree) : Type 0 where
  pub e : EnforcedBy
  pub kid : Tree
  pub among : Among e (enforcers_of at.wanted)
  pub node : e.node ≡ enforcer
  pub least : IsLeast (IsMember q) q at.group e.below kid
  pub is : plan ≡ over (nodes.Enforcer e.node) kid

module _ (q : Query) (at : PlanAsked) (plan : Tree) where
  native_by : (e : PhysicalExpr) (mode : ℕ) → IsChoice (IsMember q) q at.group at.wanted plan
      → root_node plan ≡ nodes.Native e mode → IsNativeRoot q at e mode plan
  native_by e mode (enforced_choice f kid among least is) root =
      let never : nodes.Enforcer f.node ≡ nodes.Native e mode = sym (ap root_node is) ∙ root in cc
  native_by e mode (native_choice f other line kids member of_group alternative least is) root =
      let node : nodes.Native f other ≡ nodes.Native e mode = sym (root_over (nodes.Native f other) kids plan is)
      ∙ root in
      let expr : f ≡ e = cc in
      let mode_is : other ≡ mode = cc in
      subst (λ m. IsNativeRoot q at e m plan) mode_is (subst (λ x. IsNativeRoot q at x other plan) expr (record {
        line = line;
        kids = kids;
        member = member;
        of_group = of_group;
        alternative = alternative;
        least = least;
        is = is;
      }))

  enforced_by : (enforcer : Enforcer) → IsChoice (IsMember q) q at.group at.wanted plan
      → root_node plan ≡ nodes.Enforcer enforcer → IsEnforcedRoot q at enforcer plan
  enforced_by enforcer (enforced_choice e kid among least is) root =
      let node : nodes.Enforcer e.node ≡ nodes.Enforcer enforcer = sym (ap root_node is) ∙ root in
      record { e = e; kid = kid; among = among; node = cc; least = least; is = is }
  enforced_by enforcer (native_choice f mode line kids member of_group alternative least is) root =
      let never : nodes.Native f mode ≡ nodes.Enforcer enforcer = sym (root_over (nodes.Native f mode) kids plan is)
      ∙ root in cc

  pub native_root : (e : PhysicalExpr) (mode : ℕ) → IsRooted q at (nodes.Native e mode) plan
      → IsNativeRoot q at e mode plan
  native_root e mode rooted = native_by e mode rooted.choice rooted.root

  pub enforced_root : (enforcer : Enforcer) → IsRooted q at (nodes.Enforcer enforcer) plan
      → IsEnforcedRoot q at enforcer plan
  enforced_root enforcer rooted = enforced_by enforcer rooted.choice rooted.root

  -- the node that the number is stands at the root
  pub chosen_rooted : (node : Node) (kind : NodeKind) (found : Option NodeKind)
      → ((k : NodeKind) → IsNode node k ↔ (found ≡ Some k)) → found ≡ Some kind → IsChosen q at node plan
      → IsRooted q at kind plan
  chosen_rooted node kind found exact is chosen =
      let same : Some (root_node plan) ≡ Some kind = sym ((exact (root_node plan)).0 chosen.is_node) ∙ is in
      record { least = chosen.least; choice = chosen.choice; root = cc }
