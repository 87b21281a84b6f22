-- The modes of an expression that were tried for a request.
use Rattle.std.proofs.Common.{◌≡◌, ◌⊎◌, ℕ, ◌+◌, ◌<◌, ◌≤◌, Option, None, sym, subst, inl, inr, ⊎_elim, arith}
use Rattle.std.proofs.lemmas.Bool.{cases_lt}
use Rattle.query_core.specs.declared.query.Query.{Query}
use Rattle.query_core.specs.declared.expressions.PhysicalExpr.{PhysicalExpr}
use Rattle.xform_rules.specs.Closure.{IsMember}
use Rattle.request_props.specs.Fitting.{Fits}
use Rattle.request_props.specs.Numbered.{IsProps}
use Rattle.request_props.specs.declared.props.Props.{Props}
use Rattle.request_props.specs.declared.request.Request.{Request}
use Rattle.plan_space.specs.Alternatives.{IsAlternative}
use Rattle.plan_space.specs.declared.lines.Line.{Line}
use Rattle.plan_space.specs.declared.nodes.NodeKind.{NodeKind}
use Rattle.plan_space.specs.declared.nodes.NodeKind.TheVariants as nodes
use Rattle.plan_tree.specs.Alternatives.{HasAlternative}
use Rattle.plan_tree.specs.ServingModes.{NoneServes}
use Rattle.best_answers.specs.Nodes.{Nodes, no_nodes, modes_of, both_of, IsIn, IsModeOf}
use Rattle.best_answers.specs.Answers.{lesser}
use Rattle.best_answers.specs.Best.{IsBest}
use Rattle.best_answers.specs.Laws.{NoneIsBest, LesserIsBest, CoveredIsBest}
use Rattle.best_answers.specs.declared.best.Best.{Best}
use Rattle.goal_space.specs.Children.{IsChildGoal}
use Rattle.goal_space.specs.Answers.{IsAnswerTo}
use Rattle.goal_space.specs.declared.goals.GoalKind.{GoalKind}
use Rattle.goal_space.specs.declared.goals.GoalKind.TheVariants.{OptE}
use Rattle.job_turns.specs.Choices.{IsGoalIn, IsBestIn}

module _ (q : Query) (e : PhysicalExpr) (wanted : Request) where
  -- the goal of what the expression asks in a mode below this one
  abbrev pub IsGoalBelow : ℕ → GoalKind → Type 0
  IsGoalBelow from child = (mode : ℕ) × (mode < from) × IsGoalIn q e wanted mode child

  -- the best answer of the expression in the modes below this one that are there for the request
  pub record IsBestBelow (from : ℕ) (best : Option Best) : Type 0 where
    pub set : Nodes
    pub within : (node : NodeKind) → IsIn set node → IsModeOf e node
    pub has : (mode : ℕ) (line : Line) → mode < from → IsAlternative q e wanted mode line
        → IsIn set (nodes.Native e mode)
    pub is_best : IsBest q e.group wanted set best

  -- no mode is below the first
  pub goal_below_none : (child : GoalKind) → IsGoalBelow 0 child → ⊥
  goal_below_none child (mode, below, of) = omega (arith, below)

  pub best_below_none : NoneIsBest q → IsBestBelow 0 None
  best_below_none none_best = record {
    set = no_nodes;
    within = λ node at. absurd at;
    has = λ mode line below alternative. absurd (omega (arith, below));
    is_best = none_best e.group wanted;
  }

  -- a mode with an alternative is one of those before, or the next one
  before_or_next : (from mode : ℕ) → NoneServes q e wanted from mode → (other : ℕ) (line : Line) → other < mode + 1
      → IsAlternative q e wanted other line → (other < from) ⊎ (other ≡ mode)
  before_or_next from mode none other line below alternative =
      ⊎_elim (λ (less : other < from). inl less)
      (λ (most : from ≤ other). ⊎_elim
      (λ (less : other < mode). absurd (none other most less (line, alternative)))
      (λ (more : mode ≤ other). inr (omega arith)) (cases_lt other mode))
      (cases_lt other from)

  module _ (from mode : ℕ) (none : NoneServes q e wanted from mode) where
    -- one mode more
    pub goal_below_more : (child : GoalKind) → IsGoalBelow (mode + 1) child → IsGoalBelow from child
        ⊎ IsGoalIn q e wanted mode child
    goal_below_more child (other, below, of) =
        ⊎_elim (λ (less : other < from). inl (other, less, of))
        (λ (same : other ≡ mode). inr (subst (λ (m : ℕ). IsGoalIn q e wanted m child) same of))
        (before_or_next from mode none other of.line below of.is_alternative)

    pub best_below_more : LesserIsBest q → (props : Props) → IsProps q props → Fits q e.group wanted
        → (first second : Option Best) → IsBestBelow from first → IsBestIn q e wanted mode second
        → IsBestBelow (mode + 1) (lesser first second)
    best_below_more lesser_best props is_props fits first second old new = record {
      set = both_of old.set new.set;
      within = λ node at. ⊎_elim (λ (before : IsIn old.set node). old.within node before)
          (λ (next : IsIn new.set node). new.within node next) at;
      has = λ other line below alternative. ⊎_elim
          (λ (less : other < from). inl (old.has other line less alternative))
          (λ (same : other ≡ mode). inr (subst (λ (m : ℕ). IsIn new.set (nodes.Native e m)) (sym same)
          (new.has line (subst (λ (m : ℕ). IsAlternative q e wanted m line) same alternative))))
          (before_or_next from mode none other line below alternative);
      is_best = lesser_best props is_props e.group wanted old.set new.set first second fits old.is_best new.is_best;
    }

  module _ (from : ℕ) (all_below : (mode : ℕ) → HasAlternative q e wanted mode → mode < from) where
    -- where all modes that may serve are below this number, the children of the goal are those of the modes so far
    pub goal_below_all : (child : GoalKind) → IsChildGoal (IsMember q) q (OptE e wanted) child → IsGoalBelow from child
    goal_below_all child (group, below, asks, is) = (
      asks.mode,
      all_below asks.mode (asks.line, asks.is_alternative),
      record {
        group = group;
        below = below;
        line = asks.line;
        is_alternative = asks.is_alternative;
        is_asked = asks.is_asked;
        is = is;
      },
    )

    -- and the answer is that of all modes
    pub best_below_all : CoveredIsBest q → (best : Option Best) → IsBestBelow from best
        → IsAnswerTo q (OptE e wanted) best
    best_below_all covered best so_far = covered e.group wanted so_far.set (modes_of e) best (record {
      within = so_far.within;
      enforcers = λ enforcer among at. absurd at;
      members = λ other mode line member of_group same alternative.
          subst (λ (x : PhysicalExpr). IsIn so_far.set (nodes.Native x mode)) (sym same)
          (let own = subst (λ (x : PhysicalExpr). IsAlternative q x wanted mode line) same alternative in
          so_far.has mode line (all_below mode (line, own)) own);
    }) so_far.is_best
