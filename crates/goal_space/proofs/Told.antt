-- What is told of a goal, where its answer is that of a least plan.
use Rattle.std.proofs.Common.{◌≡◌, ◌∙◌, ℕ, List, [], ◌∷◌, ap, refl, subst}
use Rattle.std.specs.Prelude.{Option, None, Some, option_map}
use Rattle.std.specs.Option.{option_map_or}
use Rattle.query_core.specs.Expressions.{expr_of}
use Rattle.query_core.specs.declared.query.Query.{Query}
use Rattle.query_core.specs.declared.expressions.PhysicalExpr.{PhysicalExpr}
use Rattle.xform_rules.specs.Closure.{IsMember}
use Rattle.request_props.specs.declared.request.Request.{Request}
use Rattle.request_props.specs.Fitting.{Fits}
use Rattle.plan_space.specs.Nodes.{Tree}
use Rattle.plan_space.specs.declared.nodes.NodeKind.TheVariants as nodes
use Rattle.plan_space.specs.Least.{Serves}
use Rattle.plan_space.specs.Choices.{IsNodeOver, IsChoice, enforced_choice, native_choice}
use Rattle.plan_space.specs.Choices.{ServesAtRoot, BestServesAtRoot, IsAnswerAtRoot}
use Rattle.plan_space.specs.Laws.{ChoicesServe, BestAtRootIsLeast}
use Rattle.plan_tree.specs.Seen.{root_node}
use Rattle.plan_tree.specs.declared.answers.Answered.{Answered}
use Rattle.best_answers.specs.Nodes.{modes_of, IsModeOf}
use Rattle.best_answers.specs.Answers.{answer_of}
use Rattle.best_answers.specs.Best.{IsBest, IsChoiceIn}
use Rattle.best_answers.specs.declared.best.Best.{Best}
use Rattle.goal_space.specs.Answers.{no_choice, TellsNoChoice, TellsPlan}

pub told_nothing : (told : Answered) (answer : Option Best) → answer ≡ no_choice
    → told.cost ≡ option_map (λ best. best.cost) answer
    → told.node.0 ≡ option_map_or (λ best. best.node.0) answer 0 → TellsNoChoice told
told_nothing told answer is cost node = record {
  cost = cost ∙ ap (option_map (λ (best : Best). best.cost)) is;
  node = node ∙ ap (λ (a : Option Best). option_map_or (λ best. best.node.0) a 0) is;
}

pub told_plan : (q : Query) (told : Answered) (answer : Option Best) (plan : Option Tree)
    → answer ≡ option_map (answer_of q) plan
    → told.cost ≡ option_map (λ best. best.cost) answer
    → told.node.0 ≡ option_map_or (λ best. best.node.0) answer 0 → TellsPlan q told plan
told_plan q told answer None is cost node = record {
  cost = cost ∙ ap (option_map (λ (best : Best). best.cost)) is;
  node = node ∙ ap (λ (a : Option Best). option_map_or (λ best. best.node.0) a 0) is;
}
told_plan q told answer (Some plan) is cost node = record {
  cost = cost ∙ ap (option_map (λ (best : Best). best.cost)) is;
  node = node ∙ ap (λ (a : Option Best). option_map_or (λ best. best.node.0) a 0) is;
}

module _ (q : Query) (e : PhysicalExpr) where
  -- the root of a node over kids is the node
  root_is : (other : PhysicalExpr) (mode : ℕ) (kids : List Tree) (plan : Tree)
      → IsNodeOver (nodes.Native other mode) kids plan → IsModeOf e (root_node plan) → other ≡ e
  root_is other mode [] plan is of_modes = subst (λ (t : Tree). IsModeOf e (root_node t)) is of_modes
  root_is other mode (kid ∷ []) plan is of_modes = subst (λ (t : Tree). IsModeOf e (root_node t)) is of_modes
  root_is other mode (left ∷ right ∷ []) plan is of_modes = subst (λ (t : Tree). IsModeOf e (root_node t)) is of_modes
  root_is other mode (left ∷ right ∷ third ∷ kids) plan is of_modes = absurd is

  -- a choice with the expression at its root has it over kids, in some mode
  chosen_at_root : (wanted : Request) (plan : Tree) → IsChoice (IsMember q) q e.group wanted plan
      → IsModeOf e (root_node plan) → Serves (IsMember q) q e.group wanted plan
      → ServesAtRoot (IsMember q) q e wanted plan
  chosen_at_root wanted plan (enforced_choice f kid among least is) of_modes serves =
      absurd (subst (λ (t : Tree). IsModeOf e (root_node t)) is of_modes)
  chosen_at_root wanted plan (native_choice other mode line kids member of_group alternative least is) of_modes serves =
      record {
        mode = mode;
        kids = kids;
        is_over = subst (λ (x : PhysicalExpr). IsNodeOver (nodes.Native x mode) kids plan)
            (root_is other mode kids plan is of_modes) is;
        serves = serves;
      }

  module _ (serve : ChoicesServe q) (is_least : BestAtRootIsLeast q) (member : IsMember q (expr_of e)) where
    best_at_root : (wanted : Request) (best : Option Tree) → Fits q e.group wanted
        → IsChoiceIn q e.group wanted (modes_of e) best → BestServesAtRoot (IsMember q) q e wanted best
    best_at_root wanted None fits chosen = tt
    best_at_root wanted (Some best) fits chosen =
        chosen_at_root wanted best chosen.0 chosen.1 (serve e.group wanted best fits chosen.0)

    -- the best of the expression's modes is the least plan with it at the root
    pub told_at_root : (wanted : Request) (answer : Option Best) → Fits q e.group wanted
        → IsBest q e.group wanted (modes_of e) answer
        → (plan : Option Tree) × IsAnswerAtRoot (IsMember q) q e wanted plan
        × (answer ≡ option_map (answer_of q) plan)
    told_at_root wanted answer fits (best, least, is) = (
      best,
      is_least e wanted best fits (best_at_root wanted best fits least.choice)
          (λ mode. least.members e mode member refl refl),
      is,
    )
