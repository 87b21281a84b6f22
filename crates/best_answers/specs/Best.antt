-- The best answer for a request: the least of what nodes make of least plans. The definition speaks of plans; the laws
-- give the recursion by pairs, a best answer from the best answers for what a node asks.
use Rattle.std.specs.Prelude.{ℕ, ◌≡◌, List, [], ◌∷◌, Option, None, Some, option_map, ⊤}
use Rattle.query_core.specs.Expressions.{expr_of}
use Rattle.query_core.specs.Keys.{NamesGroup}
use Rattle.query_core.specs.declared.query.Query.{Query}
use Rattle.query_core.specs.declared.words.Key.{Key}
use Rattle.query_core.specs.declared.words.KeyParts.{KeyParts}
use Rattle.query_core.specs.declared.expressions.PhysicalExpr.{PhysicalExpr}
use Rattle.xform_rules.specs.Closure.{IsMember}
use Rattle.request_props.specs.declared.request.Request.{Request}
use Rattle.plan_space.specs.Nodes.{Tree}
use Rattle.plan_space.specs.declared.nodes.NodeKind.TheVariants as nodes
use Rattle.plan_space.specs.Enforcers.{EnforcedBy, enforcers_of, Among}
use Rattle.plan_space.specs.Choices.{IsChoice, BeatsEnforcer, BeatsMode}
use Rattle.plan_tree.specs.Seen.{root_node}
use Rattle.plan_tree.specs.declared.alternatives.Alt.{Alt}
use Rattle.plan_tree.specs.declared.enforcers.Enforced.{Enforced}
use Rattle.plan_tree.specs.Enforcers.{IsEnforced}
use Rattle.best_answers.specs.Nodes.{Nodes, all_nodes, IsIn}
use Rattle.best_answers.specs.Answers.{answer_of}
use Rattle.best_answers.specs.declared.best.Best.{Best}

-- a node of the set over least plans, if there is one
abbrev pub IsChoiceIn : Query → KeyParts → Request → Nodes → Option Tree → Type 0
IsChoiceIn q group wanted set None = ⊤
IsChoiceIn q group wanted set (Some plan) = IsChoice (IsMember q) q group wanted plan × IsIn set (root_node plan)

-- a choice with a root in the set, at most what each node of the set makes of least plans
pub record IsLeastIn (q : Query) (group : KeyParts) (wanted : Request) (set : Nodes) (plan : Option Tree) : Type 0 where
  pub choice : IsChoiceIn q group wanted set plan
  pub enforcers : (e : EnforcedBy) → Among e (enforcers_of wanted) → IsIn set (nodes.Enforcer e.node)
      → BeatsEnforcer (IsMember q) q group e plan
  pub members : (e : PhysicalExpr) (mode : ℕ) → IsMember q (expr_of e) → e.group ≡ group
      → IsIn set (nodes.Native e mode)
      → BeatsMode (IsMember q) q wanted e mode plan

-- the answer is that of the least choice with a root in the set, or none where there is no such choice
abbrev pub IsBest : Query → KeyParts → Request → Nodes → Option Best → Type 0
IsBest q group wanted set answer =
    (plan : Option Tree) × IsLeastIn q group wanted set plan × (answer ≡ option_map (answer_of q) plan)

-- each answer is the best for its group and its request, over all nodes
abbrev pub AreBest : Query → List KeyParts → List Request → List (Option Best) → Type 0
AreBest q [] [] [] = ⊤
AreBest q [] [] (answer ∷ answers) = ⊥
AreBest q [] (wanted ∷ wishes) answers = ⊥
AreBest q (group ∷ groups) [] answers = ⊥
AreBest q (group ∷ groups) (wanted ∷ wishes) [] = ⊥
AreBest q (group ∷ groups) (wanted ∷ wishes) (answer ∷ answers) =
    IsBest q group wanted all_nodes answer × AreBest q groups wishes answers

-- the answer is the best for what is asked, if something is
abbrev pub IsBestAsked : Query → Option (Key × Request) → Option Best → Type 0
IsBestAsked q None answer = ⊤
IsBestAsked q (Some asked) answer = (group : KeyParts) → NamesGroup q asked.0 group
    → IsBest q group asked.1 all_nodes answer

-- the enforcer found is this one of those for the request
pub record IsEnforcedBy (wanted : Request) (found : Enforced) (e : EnforcedBy) : Type 0 where
  pub among : Among e (enforcers_of wanted)
  pub is : IsEnforced (Some found) (Some e)

-- the answers are the best for what the alternative asks of the children
pub record AreBestBelow (q : Query) (alt : Alt) (below : Option Best × Option Best) : Type 0 where
  pub left : IsBestAsked q alt.left below.0
  pub right : IsBestAsked q alt.right below.1
