-- The least plan: least in cost, and then in code.
use Rattle.std.specs.Prelude.{◌≡◌, ◌<◌, ◌⊎◌, Option, None, Some}
use Rattle.std.specs.Ordering.{nat_cmp}
use Rattle.std.specs.Cmp.Lexicographic.{slice_cmp}
use Rattle.std.specs.declared.cmp.Ordering.TheVariants.{Less}
use Rattle.query_core.specs.Keys.{root_of}
use Rattle.query_core.specs.declared.query.Query.{Query}
use Rattle.query_core.specs.declared.words.KeyParts.{KeyParts}
use Rattle.query_core.specs.declared.expressions.ExprParts.{ExprParts}
use Rattle.xform_rules.specs.Closure.{IsMember}
use Rattle.request_props.specs.Satisfied.{Satisfies}
use Rattle.request_props.specs.declared.request.Request.{Request}
use Rattle.request_props.specs.Numbered.{root_request}
use Rattle.plan_space.specs.Nodes.{Tree, code_of}
use Rattle.plan_space.specs.Gives.{kid_of, gives}
use Rattle.plan_space.specs.Valid.{IsValid}
use Rattle.plan_space.specs.Cost.{cost_of}

-- the one plan costs less than the other, or it costs the same and its code comes first
abbrev pub IsLess : Query → Tree → Tree → Type 0
IsLess q plan other =
    (cost_of q plan < cost_of q other)
    ⊎ ((cost_of q plan ≡ cost_of q other) × (slice_cmp nat_cmp (code_of plan) (code_of other) ≡ Less))

-- a plan of the group, over the members, that gives what is asked for
pub record Serves (Member : ExprParts → Type 0) (q : Query) (group : KeyParts) (wanted : Request) (plan : Tree) : Type 0
  where
    pub valid : IsValid Member q plan
    pub of_group : (kid_of q plan).group ≡ group
    pub satisfies : Satisfies q (gives q plan) wanted

-- of all plans that give what is asked for, redundant sorts and motions included, none is less
pub record IsLeast (Member : ExprParts → Type 0) (q : Query) (group : KeyParts) (wanted : Request) (plan : Tree) : Type
    0 where
  pub serves : Serves Member q group wanted plan
  pub none_less : (other : Tree) → Serves Member q group wanted other → IsLess q other plan → ⊥

-- no plan of the group gives what is asked for
abbrev pub HasNoPlan : (ExprParts → Type 0) → Query → KeyParts → Request → Type 0
HasNoPlan Member q group wanted = (plan : Tree) → Serves Member q group wanted plan → ⊥

-- the least plan for the request, or that there is none
abbrev pub IsAnswer : (ExprParts → Type 0) → Query → KeyParts → Request → Option Tree → Type 0
IsAnswer Member q group wanted None = HasNoPlan Member q group wanted
IsAnswer Member q group wanted (Some plan) = IsLeast Member q group wanted plan

-- the least plan of the query, over the members of its groups
abbrev pub IsLeastPlan : Query → Tree → Type 0
IsLeastPlan q plan = IsLeast (IsMember q) q (root_of q) (root_request q) plan

-- the query has no plan
abbrev pub QueryHasNoPlan : Query → Type 0
QueryHasNoPlan q = HasNoPlan (IsMember q) q (root_of q) (root_request q)
