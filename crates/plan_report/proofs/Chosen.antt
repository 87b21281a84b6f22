-- The answer that is told of a goal is that of the least plan, which is a choice, and the plan that is made of it.
use Rattle.std.proofs.Common.{◌≡◌, ℕ, refl, sym, ap, ◌∙◌, subst}
use Rattle.std.specs.Option.{option_map_or}
use Rattle.std.specs.Prelude.{Option, None, Some, option_map}
use Rattle.query_core.specs.declared.query.Query.{Query}
use Rattle.xform_rules.specs.Closure.{IsMember}
use Rattle.request_props.specs.Numbered.{IsProps}
use Rattle.request_props.specs.declared.props.Props.{Props}
use Rattle.request_props.specs.Fitting.{Fits}
use Rattle.query_core.specs.declared.words.KeyParts.{KeyParts}
use Rattle.request_props.specs.declared.request.Request.{Request}
use Rattle.plan_space.specs.Nodes.{Tree, leaf, over, two}
use Rattle.plan_space.specs.declared.nodes.NodeKind.{NodeKind}
use Rattle.plan_tree.specs.declared.answers.Answered.{Answered}
use Rattle.plan_tree.specs.declared.node.Node.{Node}
use Rattle.plan_tree.specs.declared.plan.Plan.{Plan}
use Rattle.plan_tree.specs.Nodes.{IsNode}
use Rattle.plan_tree.specs.Seen.{root_node}
use Rattle.plan_tree.specs.Spells.{Spells}
use Rattle.plan_space.specs.Cost.{cost_of}
use Rattle.plan_space.specs.Least.{IsAnswer, IsLeast, HasNoPlan}
use Rattle.best_answers.specs.Nodes.{all_nodes}
use Rattle.best_answers.specs.Answers.{answer_of}
use Rattle.best_answers.specs.Best.{IsLeastIn, IsBest}
use Rattle.best_answers.specs.Laws.{BestIsLeast, RootsHaveNumbers}
use Rattle.best_answers.specs.declared.best.Best.{Best}
use Rattle.plan_report.specs.declared.plans_asked.PlanAsked.{PlanAsked}
use Rattle.plan_report.specs.declared.plans_asked.PlansAsked.TheVariants.{Zero, One, Two}
use Rattle.plan_report.specs.PlansAsked.{IsChosen, IsLeastAt, IsLeastFor, IsOver}

-- ---- what is told

-- the answer that is told with this cost
pub some_told : (answer : Option Best) (told : Answered) (cost : ℕ) → told.cost ≡ Some cost
    → told.cost ≡ option_map (λ best. best.cost) answer
    → told.node.0 ≡ option_map_or (λ best. best.node.0) answer 0
    → Some (record { cost = cost; node = told.node }) ≡ answer
some_told None told cost is costs node = let never : Some cost ≡ None = sym is ∙ costs in cc
some_told (Some best) told cost is costs node =
    let same : Some cost ≡ Some best.cost = sym is ∙ costs in
    let cost_is : cost ≡ best.cost = cc in
    ap (λ n. Some (record { cost = cost; node = record { 0 = n } })) node
    ∙ ap (λ x. Some (record { cost = x; node = best.node })) cost_is

-- the answer that is told without a cost
pub none_told : (answer : Option Best) (told : Answered) → told.cost ≡ None
    → told.cost ≡ option_map (λ best. best.cost) answer → None ≡ answer
none_told None told is costs = refl
none_told (Some best) told is costs = let never : None ≡ Some best.cost = sym is ∙ costs in cc

-- ---- the least plan

module _ (q : Query) (at : PlanAsked) (fits : Fits q at.group at.wanted) where
  chosen_of : (props : Props) → IsProps q props → RootsHaveNumbers q → (best : Best) (plan : Option Tree)
      → IsLeastIn q at.group at.wanted all_nodes plan
      → IsAnswer (IsMember q) q at.group at.wanted plan → Some best ≡ option_map (answer_of q) plan → (found : Tree)
      × IsChosen q at best.node found × (best.cost ≡ cost_of q found)
  chosen_of props is_props roots best None least answer is = cc
  chosen_of props is_props roots best (Some plan) least answer is =
      let same : best ≡ answer_of q plan = cc in (
        plan,
        record {
          least = answer;
          choice = least.choice.0;
          is_node = record {
            number = ap (λ b. b.node.0) same;
            in_range = roots props is_props at.group at.wanted plan fits least.choice.0;
          };
        },
        ap (λ b. b.cost) same,
      )

  -- what is answered is of the least plan, with its root
  pub best_chosen : (props : Props) → IsProps q props → RootsHaveNumbers q → BestIsLeast q → (best : Best)
      → IsBest q at.group at.wanted all_nodes (Some best)
      → (found : Tree) × IsChosen q at best.node found × (best.cost ≡ cost_of q found)
  best_chosen props is_props roots least best is =
      let (plan, is_least, answer, told) = least at.group at.wanted (Some best) fits is in
      chosen_of props is_props roots best plan is_least answer told

  none_of : (plan : Option Tree) → IsAnswer (IsMember q) q at.group at.wanted plan
      → None ≡ option_map (answer_of q) plan → HasNoPlan (IsMember q) q at.group at.wanted
  none_of None answer is = answer
  none_of (Some plan) answer is = cc

  -- where nothing is answered there is no plan
  pub none_chosen : BestIsLeast q → IsBest q at.group at.wanted all_nodes None
      → HasNoPlan (IsMember q) q at.group at.wanted
  none_chosen least is =
      let (plan, is_least, answer, told) = least at.group at.wanted None fits is in
      none_of plan answer told

-- ---- the plan that is made

-- the root over a plan that is spelled is the least plan
pub record IsMadeOverOne (q : Query) (at : PlanAsked) (node : Node) (plan : Plan) : Type 0 where
  pub root : NodeKind
  pub kid : Tree
  pub is_node : IsNode node root
  pub spells : Spells plan kid
  pub least : IsLeastAt q at (over root kid)

-- so is the root over two plans
pub record IsMadeOverTwo (q : Query) (at : PlanAsked) (node : Node) (first second : Plan) : Type 0 where
  pub root : NodeKind
  pub left : Tree
  pub right : Tree
  pub is_node : IsNode node root
  pub spells : Spells first left
  pub spells_too : Spells second right
  pub least : IsLeastAt q at (two root left right)

module _ (q : Query) (one : (group : KeyParts) (wanted : Request) (plan other : Tree)
    → IsLeast (IsMember q) q group wanted plan → IsLeast (IsMember q) q group wanted other → other ≡ plan)
    (at : PlanAsked) (node : Node) (plan : Tree) (chosen : IsChosen q at node plan) where
  pub made_zero : IsOver q Zero plan → IsLeastAt q at (leaf (root_node plan))
  made_zero is = subst (IsLeastAt q at) is chosen.least

  pub made_one : (below : PlanAsked) (made : Plan) → IsOver q (One below) plan → IsLeastFor q below made
      → IsMadeOverOne q at node made
  made_one below made (kid, least, is) (tree, spells, least_too) =
      let same : tree ≡ kid = one below.group below.wanted kid tree least least_too in
      record {
        root = root_node plan;
        kid = kid;
        is_node = chosen.is_node;
        spells = subst (Spells made) same spells;
        least = subst (IsLeastAt q at) is chosen.least;
      }

  pub made_two : (first second : PlanAsked) (made made_too : Plan) → IsOver q (Two first second) plan
      → IsLeastFor q first made → IsLeastFor q second made_too
      → IsMadeOverTwo q at node made made_too
  made_two first second made made_too (left, right, least, least_too, is) (tree, spells, tree_least)
      (tree_too, spells_too, tree_least_too) =
      let same : tree ≡ left = one first.group first.wanted left tree least tree_least in
      let same_too : tree_too ≡ right = one second.group second.wanted right tree_too least_too tree_least_too in
      record {
        root = root_node plan;
        left = left;
        right = right;
        is_node = chosen.is_node;
        spells = subst (Spells made) same spells;
        spells_too = subst (Spells made_too) same_too spells_too;
        least = subst (IsLeastAt q at) is chosen.least;
      }
