-- What one mode of an expression asks for a request, and the answer that it gives.
use Rattle.std.proofs.Common.{◌≡◌, ◌⊎◌, ℕ, Option, None, Some, List, [], ◌∷◌, refl, sym, ap, subst, ◌∙◌, inl, inr}
use Rattle.std.proofs.Common.{⊎_elim}
use Rattle.query_core.specs.Expressions.{physical_children}
use Rattle.query_core.specs.Keys.{NamesGroup}
use Rattle.query_core.specs.declared.query.Query.{Query}
use Rattle.query_core.specs.declared.words.Key.{Key}
use Rattle.query_core.specs.declared.words.KeyParts.{KeyParts}
use Rattle.query_core.specs.declared.expressions.PhysicalExpr.{PhysicalExpr}
use Rattle.request_props.specs.declared.request.Request.{Request}
use Rattle.plan_space.specs.Alternatives.{asked_of}
use Rattle.plan_space.specs.Choices.{groups_of}
use Rattle.plan_space.specs.declared.lines.Line.{Line}
use Rattle.plan_space.specs.declared.nodes.NodeKind.TheVariants as nodes
use Rattle.plan_tree.specs.Alternatives.{Asks, AreAsked, IsAltBy}
use Rattle.plan_tree.specs.declared.alternatives.Alt.{Alt}
use Rattle.best_answers.specs.Nodes.{one_node, all_nodes, IsModeOf}
use Rattle.best_answers.specs.Best.{IsBest, IsBestAsked}
use Rattle.best_answers.specs.declared.best.Best.{Best}
use Rattle.goal_space.specs.Children.{IsAsked}
use Rattle.goal_space.specs.Entries.{NamesGoal}
use Rattle.goal_space.specs.declared.goals.GoalKind.{GoalKind}
use Rattle.goal_space.specs.declared.goals.GoalKind.TheVariants.{Opt, OptE}
use Rattle.job_turns.specs.Works.{IsChildOf}
use Rattle.job_turns.specs.Choices.{IsAskedByChild, IsGoalAsked, IsGoalIn, IsBestIn}

-- what is asked is asked by a child where its goal is one
asked_child : (q : Query) (word : ℕ) (asked : Option (Key × Request)) (group : KeyParts) (below : Request)
    → Asks q asked group below → IsChildOf q word (Opt group below) → IsAskedByChild q word asked
asked_child q word None group below asks child = absurd asks
asked_child q word (Some asked) group below asks child =
    (group, asks.0, subst (λ (r : Request). IsChildOf q word (Opt group r)) (sym asks.1) child)

none_child : (q : Query) (word : ℕ) (asked : Option (Key × Request)) → asked ≡ None → IsAskedByChild q word asked
none_child q word asked none = subst (IsAskedByChild q word) (sym none) tt

module _ (q : Query) (alt : Alt) where
  -- so it is of what an alternative asks of both children
  pub asked_children : (word : ℕ) (groups : List KeyParts) (wishes : List Request) → AreAsked q alt groups wishes
      → ((group : KeyParts) (below : Request) → IsAsked groups wishes group below → IsChildOf q word (Opt group below))
      → IsAskedByChild q word alt.left × IsAskedByChild q word alt.right
  asked_children word [] [] are child = (none_child q word alt.left are.0, none_child q word alt.right are.1)
  asked_children word [] (wish ∷ wishes) are child = absurd are
  asked_children word (group ∷ []) [] are child = absurd are
  asked_children word (group ∷ []) (wish ∷ []) are child = (
    asked_child q word alt.left group wish are.0 (child group wish (inl (refl, refl))),
    none_child q word alt.right are.1,
  )
  asked_children word (group ∷ []) (wish ∷ other ∷ wishes) are child = absurd are
  asked_children word (group ∷ second ∷ []) [] are child = absurd are
  asked_children word (group ∷ second ∷ []) (wish ∷ []) are child = absurd are
  asked_children word (group ∷ second ∷ []) (wish ∷ other ∷ []) are child = (
    asked_child q word alt.left group wish are.0 (child group wish (inl (refl, refl))),
    asked_child q word alt.right second other are.1 (child second other (inr (inl (refl, refl)))),
  )
  asked_children word (group ∷ second ∷ []) (wish ∷ other ∷ third ∷ wishes) are child = absurd are
  asked_children word (group ∷ second ∷ third ∷ groups) wishes are child = absurd are

  -- what is asked of some child is asked of the left or of the right one
  pub asked_of_one : (groups : List KeyParts) (wishes : List Request) → AreAsked q alt groups wishes
      → (group : KeyParts) (below : Request) → IsAsked groups wishes group below
      → Asks q alt.left group below ⊎ Asks q alt.right group below
  asked_of_one [] wishes are group below asked = absurd asked
  asked_of_one (first ∷ []) [] are group below asked = absurd are
  asked_of_one (first ∷ []) (wish ∷ []) are group below asked =
      ⊎_elim (λ (is : (group ≡ first) × (below ≡ wish)). inl (asks_as alt.left first wish group below is.0 is.1 are.0))
      (λ (none : ⊥). absurd none) asked
    where
      asks_as : (asked : Option (Key × Request)) (first : KeyParts) (wish : Request) (group : KeyParts)
          (below : Request) → group ≡ first → below ≡ wish → Asks q asked first wish → Asks q asked group below
      asks_as asked first wish group below same also asks =
          subst (λ (g : KeyParts). Asks q asked g below) (sym same) (subst (Asks q asked first) (sym also) asks)
  asked_of_one (first ∷ []) (wish ∷ other ∷ wishes) are group below asked = absurd are
  asked_of_one (first ∷ second ∷ []) [] are group below asked = absurd are
  asked_of_one (first ∷ second ∷ []) (wish ∷ []) are group below asked = absurd are
  asked_of_one (first ∷ second ∷ []) (wish ∷ other ∷ []) are group below (inl is) =
      inl (subst (λ (g : KeyParts). Asks q alt.left g below) (sym is.0)
      (subst (Asks q alt.left first) (sym is.1) are.0))
  asked_of_one (first ∷ second ∷ []) (wish ∷ other ∷ []) are group below (inr (inl is)) =
      inr (subst (λ (g : KeyParts). Asks q alt.right g below) (sym is.0)
      (subst (Asks q alt.right second) (sym is.1) are.1))
  asked_of_one (first ∷ second ∷ []) (wish ∷ other ∷ []) are group below (inr (inr none)) = absurd none
  asked_of_one (first ∷ second ∷ []) (wish ∷ other ∷ third ∷ wishes) are group below asked = absurd are
  asked_of_one (first ∷ second ∷ third ∷ groups) wishes are group below asked = absurd are

-- the group of a key is one, so what is asked is asked of that group
module _ (q : Query) (key : Key) (wanted : Request) (group : KeyParts)
    (only : (other : KeyParts) → NamesGroup q key other
    → other ≡ group) where
  pub goal_of_key : (child : GoalKind) → IsGoalAsked q (Some (key, wanted)) child → child ≡ Opt group wanted
  goal_of_key child (other, below, asks, is) = is ∙ ap (λ (g : KeyParts). Opt g below) (only other asks.0)
      ∙ ap (λ (r : Request). Opt group r) (sym asks.1)

  pub best_of_key : (best : Option Best) → IsBest q group wanted all_nodes best
      → IsBestAsked q (Some (key, wanted)) best
  best_of_key best is_best other names = subst (λ (g : KeyParts). IsBest q g wanted all_nodes best)
      (sym (only other names)) is_best

  pub child_of_key : (word : ℕ) → IsAskedByChild q word (Some (key, wanted)) → IsChildOf q word (Opt group wanted)
  child_of_key word asked = subst (λ (g : KeyParts). IsChildOf q word (Opt g wanted)) (only asked.0 asked.1) asked.2

module _ (q : Query) (e : PhysicalExpr) (wanted : Request) (mode : ℕ) (alt : Alt) (line : Line)
    (is : IsAltBy q e wanted mode alt line) where
  -- the goal of what is asked in the mode is that of what the alternative asks
  pub goal_of_one : (child : GoalKind) → IsGoalIn q e wanted mode child → IsGoalAsked q alt.left child
      ⊎ IsGoalAsked q alt.right child
  goal_of_one child of =
      let lines : Some of.line ≡ Some line = sym of.is_alternative.is_line ∙ is.is_alternative.is_line in
      let same : of.line ≡ line = cc in
      let asked = subst (λ (l : Line). IsAsked (groups_of (physical_children e.operator)) (asked_of l wanted) of.group
      of.below) same of.is_asked in
      ⊎_elim (λ (left : Asks q alt.left of.group of.below). inl (of.group, of.below, left, of.is))
      (λ (right : Asks q alt.right of.group of.below). inr (of.group, of.below, right, of.is))
      (asked_of_one q alt (groups_of (physical_children e.operator)) (asked_of line wanted) is.asks of.group of.below
      asked)

  -- and it is a child of the goal that chooses a mode
  pub children_asked : (word : ℕ) → NamesGoal q word (OptE e wanted) → IsAskedByChild q word alt.left
      × IsAskedByChild q word alt.right
  children_asked word names = asked_children q alt word (groups_of (physical_children e.operator))
      (asked_of line wanted) is.asks
      (λ group below asked. (
        OptE e wanted,
        names,
        (
          group,
          below,
          record { mode = mode; line = line; is_alternative = is.is_alternative; is_asked = asked },
          refl,
        ),
      ))

  -- the best answer of the node is that of the mode
  pub best_in : (best : Option Best) → IsBest q e.group wanted (one_node (nodes.Native e mode)) best
      → IsBestIn q e wanted mode best
  best_in best is_best = record {
    set = one_node (nodes.Native e mode);
    within = λ node same. subst (IsModeOf e) (sym same) refl;
    has = λ other alternative. refl;
    is_best = is_best;
  }
