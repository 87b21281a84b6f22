-- The children of a goal, which have to be finished before it: the table, one row a kind of goal.
use Rattle.std.specs.Prelude.{ℕ, ◌≡◌, ◌⊎◌, IsTrue, List, [], ◌∷◌}
use Rattle.std.specs.List.{Contains}
use Rattle.query_core.specs.Expressions.{children_of, physical_children, expr_of, is_logical, word_of, IsCandidate}
use Rattle.query_core.specs.Expressions.{IsChild}
use Rattle.query_core.specs.declared.query.Query.{Query}
use Rattle.query_core.specs.declared.words.KeyParts.{KeyParts}
use Rattle.query_core.specs.declared.expressions.Children.{Children}
use Rattle.query_core.specs.declared.expressions.Children.TheVariants as arities
use Rattle.query_core.specs.declared.expressions.ExprParts.{ExprParts}
use Rattle.query_core.specs.declared.expressions.PhysicalExpr.{PhysicalExpr}
use Rattle.xform_rules.specs.Rules.{binds}
use Rattle.request_props.specs.declared.request.Request.{Request}
use Rattle.plan_space.specs.Choices.{groups_of}
use Rattle.plan_space.specs.Alternatives.{IsAlternative, asked_of}
use Rattle.plan_space.specs.Enforcers.{EnforcedBy, enforcers_of, Among}
use Rattle.plan_space.specs.declared.lines.Line.{Line}
use Rattle.plan_tree.specs.Alternatives.{HasAlternative}
use Rattle.plan_tree.specs.Enforcers.{LiesIn}
use Rattle.goal_space.specs.Phases.{IsRuleAt}
use Rattle.goal_space.specs.declared.goals.GoalKind.{GoalKind}
use Rattle.goal_space.specs.declared.goals.GoalKind.TheVariants.{Exp, ExpE, Xf, Imp, ImpE, Opt, OptE}
use Rattle.goal_space.specs.declared.phase.Phase.TheVariants.{Exploration, Implementation}

-- the group is the first child
abbrev pub IsLeft : Children → KeyParts → Type 0
IsLeft arities.Zero group = ⊥
IsLeft (arities.One child) group = group ≡ child
IsLeft (arities.Two left right) group = group ≡ left

-- of each group with the request at the same place, this one
abbrev pub IsAsked : List KeyParts → List Request → KeyParts → Request → Type 0
IsAsked [] wishes group wanted = ⊥
IsAsked (first ∷ groups) [] group wanted = ⊥
IsAsked (first ∷ groups) (wish ∷ wishes) group wanted = ((group ≡ first) × (wanted ≡ wish))
    ⊎ IsAsked groups wishes group wanted

-- a logical member of the group
pub record IsLogicalIn (Member : ExprParts → Type 0) (group : KeyParts) (e : ExprParts) : Type 0 where
  pub member : Member e
  pub of_group : e.group ≡ group
  pub logical : IsTrue (is_logical e.operator)

-- a physical member of the group that may serve the request
pub record CanServe (Member : ExprParts → Type 0) (q : Query) (group : KeyParts) (wanted : Request) (e : PhysicalExpr) :
    Type 0 where
  pub member : Member (expr_of e)
  pub of_group : e.group ≡ group
  pub mode : ℕ
  pub serves : HasAlternative q e wanted mode

-- an enforcer for the request that lies in the group
pub record CanEnforce (q : Query) (group : KeyParts) (wanted : Request) (e : EnforcedBy) : Type 0 where
  pub among : Among e (enforcers_of wanted)
  pub lies_in : LiesIn q group e.node

-- in some mode the expression asks this of the group, to serve the request
pub record AsksOf (q : Query) (e : PhysicalExpr) (wanted : Request) (group : KeyParts) (below : Request) : Type 0 where
  pub mode : ℕ
  pub line : Line
  pub is_alternative : IsAlternative q e wanted mode line
  pub is_asked : IsAsked (groups_of (physical_children e.operator)) (asked_of line wanted) group below

-- the second goal is a child of the first, over these members
abbrev pub IsChildGoal : (ExprParts → Type 0) → Query → GoalKind → GoalKind → Type 0
IsChildGoal Member q (Exp group) child = (e : ExprParts) × IsLogicalIn Member group e × (child ≡ ExpE e)
IsChildGoal Member q (ExpE e) child =
    ((group : KeyParts) × IsChild (children_of e.operator) group × (child ≡ Exp group))
    ⊎ IsRuleAt q Exploration e child
IsChildGoal Member q (Xf e rule) child = (group : KeyParts) × IsTrue (binds rule)
    × IsLeft (children_of e.operator) group × (child ≡ Exp group)
IsChildGoal Member q (Imp group) child =
    (child ≡ Exp group)
    ⊎ ((e : ExprParts) × IsLogicalIn Member group e × (child ≡ ImpE e))
IsChildGoal Member q (ImpE e) child =
    ((group : KeyParts) × IsChild (children_of e.operator) group × (child ≡ Imp group))
    ⊎ IsRuleAt q Implementation e child
IsChildGoal Member q (Opt group wanted) child =
    (child ≡ Imp group)
    ⊎ (((e : PhysicalExpr) × CanServe Member q group wanted e × (child ≡ OptE e wanted))
    ⊎ ((e : EnforcedBy) × CanEnforce q group wanted e × (child ≡ Opt group e.below)))
IsChildGoal Member q (OptE e wanted) child = (group : KeyParts) × (below : Request) × AsksOf q e wanted group below
    × (child ≡ Opt group below)

-- the expression is one of the candidates whose words are listed
pub record IsListedIn (q : Query) (words : List ℕ) (e : ExprParts) : Type 0 where
  pub candidate : IsCandidate q e
  pub listed : Contains words (word_of e)
