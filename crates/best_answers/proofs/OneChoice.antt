-- Two choices for one request with one number at the root are one plan.
use Rattle.std.proofs.Common.{◌≡◌, ℕ, ◌<◌, ◌≤◌, refl, ap, sym, ◌∙◌, subst, arith}
use Rattle.std.specs.Prelude.{List, [], ◌∷◌, length, Some}
use Rattle.query_core.specs.Expressions.{expr_of, physical_children, IsPacked}
use Rattle.query_core.specs.declared.query.Query.{Query}
use Rattle.query_core.specs.declared.words.KeyParts.{KeyParts}
use Rattle.query_core.specs.declared.expressions.ExprParts.{ExprParts}
use Rattle.query_core.specs.declared.expressions.PhysicalExpr.{PhysicalExpr}
use Rattle.xform_rules.specs.Closure.{IsMember}
use Rattle.request_props.specs.Numbered.{lists_of, orders_of}
use Rattle.request_props.specs.declared.request.Request.{Request}
use Rattle.request_props.specs.Fitting.{Fits}
use Rattle.plan_space.specs.Nodes.{node_number, Tree}
use Rattle.plan_space.specs.declared.nodes.NodeKind.{NodeKind}
use Rattle.plan_space.specs.declared.nodes.NodeKind.TheVariants as nodes
use Rattle.plan_space.specs.declared.lines.Line.{Line}
use Rattle.plan_space.specs.Lines.{line_of}
use Rattle.plan_space.specs.Alternatives.{IsAlternative, asked_of}
use Rattle.plan_space.specs.Enforcers.{EnforcedBy, enforced, below_of, enforcers_of, Among}
use Rattle.plan_space.specs.Least.{IsLeast}
use Rattle.plan_space.specs.Choices.{groups_of, IsNodeOver, AreLeast, IsChoice, enforced_choice, native_choice}
use Rattle.plan_space.proofs.MotionLaws.{enforcer_asks}
use Rattle.plan_tree.proofs.Kept.{enforcer_in_range}
use Rattle.plan_tree.specs.Nodes.{IsNodeInRange}
use Rattle.plan_tree.specs.Seen.{root_node}
use Rattle.best_answers.proofs.Roots.{root_over, over_one}

-- what tells plans of a query apart
pub record AreTold (q : Query) : Type 0 where
  pub few_lists : length (lists_of q) ≤ 60
  pub few_orders : length (orders_of q) ≤ 60
  pub least_one : (group : KeyParts) (wanted : Request) (plan other : Tree) → IsLeast (IsMember q) q group wanted plan
      → IsLeast (IsMember q) q group wanted other → other ≡ plan
  pub nodes_one : (a b : NodeKind) → IsNodeInRange a → IsNodeInRange b → node_number a ≡ node_number b → a ≡ b
  pub few_modes : (e : PhysicalExpr) (mode : ℕ) (line : Line) → line_of q e mode ≡ Some line → mode < 192
  pub packed : (e : ExprParts) → IsMember q e → IsPacked e

-- ---- enforcers for a request

-- the request has one enforcer with this node, since that says what it asks for
pub same_enforcer : (wanted : Request) (e f : EnforcedBy) → Among e (enforcers_of wanted)
    → Among f (enforcers_of wanted) → f.node ≡ e.node → f ≡ e
same_enforcer wanted e f x y same =
    let below : f.below ≡ e.below = enforcer_asks wanted f y ∙ ap (λ node. below_of node wanted) same
    ∙ sym (enforcer_asks wanted e x) in
    ap (λ node. enforced node f.below) same ∙ ap (λ asked. enforced e.node asked) below

module _ (q : Query) (told : AreTold q) (group : KeyParts) where
  -- a choice's root has a number of its own
  pub choice_in_range : (wanted : Request) (plan : Tree) → Fits q group wanted
      → IsChoice (IsMember q) q group wanted plan → IsNodeInRange (root_node plan)
  choice_in_range wanted plan fits (enforced_choice e kid among least is) =
      subst (λ t. IsNodeInRange (root_node t)) (sym is)
      (enforcer_in_range q told.few_lists told.few_orders group wanted e fits among)
  choice_in_range wanted plan fits (native_choice e mode line kids member of_group alternative least is) =
      subst IsNodeInRange (sym (root_over (nodes.Native e mode) kids plan is)) (record {
        packed = told.packed (expr_of e) member;
        few = omega (arith, told.few_modes e mode line alternative.is_line);
      })

-- ---- choices

-- an expression has one line in a mode
pub same_line : (q : Query) (e : PhysicalExpr) (wanted : Request) (mode : ℕ) (line other : Line)
    → IsAlternative q e wanted mode line → IsAlternative q e wanted mode other → other ≡ line
same_line q e wanted mode line other x y = let same : Some other ≡ Some line = sym y.is_line ∙ x.is_line in cc

module _ (q : Query) (told : AreTold q) where
  -- least plans of the same groups for the same requests are the same
  pub least_are_one : (groups : List KeyParts) (wishes : List Request) (kids others : List Tree)
      → AreLeast (IsMember q) q groups wishes kids
      → AreLeast (IsMember q) q groups wishes others → others ≡ kids
  least_are_one [] [] [] [] x y = refl
  least_are_one [] [] [] (other ∷ others) x y = absurd y
  least_are_one [] [] (kid ∷ kids) others x y = absurd x
  least_are_one [] (wanted ∷ wishes) kids others x y = absurd x
  least_are_one (group ∷ groups) [] kids others x y = absurd x
  least_are_one (group ∷ groups) (wanted ∷ wishes) [] others x y = absurd x
  least_are_one (group ∷ groups) (wanted ∷ wishes) (kid ∷ kids) [] x y = absurd y
  least_are_one (group ∷ groups) (wanted ∷ wishes) (kid ∷ kids) (other ∷ others) x y =
      let first = told.least_one group wanted kid other x.0 y.0 in
      let rest = least_are_one groups wishes kids others x.1 y.1 in
      cc

  -- an expression in a mode over least plans is one plan
  pub native_one : (e : PhysicalExpr) (mode : ℕ) (wanted : Request) (line other : Line) (kids others : List Tree)
      (plan another : Tree) → IsAlternative q e wanted mode line
      → IsAlternative q e wanted mode other → AreLeast (IsMember q) q (groups_of (physical_children e.operator))
      (asked_of line wanted) kids
      → AreLeast (IsMember q) q (groups_of (physical_children e.operator)) (asked_of other wanted) others
      → IsNodeOver (nodes.Native e mode) kids plan
      → IsNodeOver (nodes.Native e mode) others another → another ≡ plan
  native_one e mode wanted line other kids others plan another x y least least_too is also =
      let line_is = same_line q e wanted mode line other x y in
      let least_here = subst (λ l. AreLeast (IsMember q) q (groups_of (physical_children e.operator))
      (asked_of l wanted) others) line_is least_too in
      let kids_are = least_are_one (groups_of (physical_children e.operator)) (asked_of line wanted) kids others least
      least_here in
      over_one (nodes.Native e mode) kids plan another is
      (subst (λ k. IsNodeOver (nodes.Native e mode) k another) kids_are also)

  module _ (group : KeyParts) (wanted : Request) where
    same_root : (plan other : Tree) → IsChoice (IsMember q) q group wanted plan
        → IsChoice (IsMember q) q group wanted other → root_node other ≡ root_node plan → other ≡ plan
    same_root plan other (enforced_choice e kid among least is) (enforced_choice f kin among_too least_too also) same =
        let node : nodes.Enforcer f.node ≡ nodes.Enforcer e.node = sym (ap root_node also) ∙ same ∙ ap root_node is in
        let inner : f.node ≡ e.node = cc in
        let one = same_enforcer wanted e f among among_too inner in
        let kid_is = told.least_one group e.below kid kin least
        (subst (λ (x : EnforcedBy). IsLeast (IsMember q) q group x.below kin) one least_too) in
        cc
    same_root plan other (enforced_choice e kid among least is)
        (native_choice f mode line kids member of_group alternative least_too also) same =
        let never : nodes.Native f mode ≡ nodes.Enforcer e.node = sym (root_over (nodes.Native f mode) kids other also)
        ∙ same ∙ ap root_node is in cc
    same_root plan other (native_choice e mode line kids member of_group alternative least is)
        (enforced_choice f kin among_too least_too also) same =
        let never : nodes.Enforcer f.node ≡ nodes.Native e mode = sym (ap root_node also) ∙ same
        ∙ root_over (nodes.Native e mode) kids plan is in cc
    same_root plan other (native_choice e mode line kids member of_group alternative least is)
        (native_choice f mode_too line_too kids_too member_too of_group_too alternative_too least_too also) same =
        let node : nodes.Native f mode_too ≡ nodes.Native e mode =
        sym (root_over (nodes.Native f mode_too) kids_too other also) ∙ same
        ∙ root_over (nodes.Native e mode) kids plan is in
        let expr : f ≡ e = cc in
        let mode_is : mode_too ≡ mode = cc in
        native_one e mode wanted line line_too kids kids_too plan other alternative
        (subst (λ x. IsAlternative q x wanted mode line_too) expr
        (subst (λ m. IsAlternative q f wanted m line_too) mode_is alternative_too)) least
        (subst (λ (x : PhysicalExpr). AreLeast (IsMember q) q (groups_of (physical_children x.operator))
        (asked_of line_too wanted) kids_too) expr least_too) is
        (subst (λ n. IsNodeOver n kids_too other) node also)

    -- two choices with one number at the root are one
    pub choice_one : (plan other : Tree) → Fits q group wanted → IsChoice (IsMember q) q group wanted plan
        → IsChoice (IsMember q) q group wanted other
        → node_number (root_node other) ≡ node_number (root_node plan) → other ≡ plan
    choice_one plan other fits x y same =
        same_root plan other x y (told.nodes_one (root_node other) (root_node plan)
        (choice_in_range q told group wanted other fits y) (choice_in_range q told group wanted plan fits x) same)
