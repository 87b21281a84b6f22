-- The groups of plans.
use Rattle.std.proofs.Common.{List, [], ◌∷◌, arith}
use Rattle.query_core.specs.Keys.{IsGroup}
use Rattle.query_core.specs.Expressions.{expr_of, IsCandidate}
use Rattle.query_core.specs.declared.query.Query.{Query}
use Rattle.query_core.specs.declared.words.KeyParts.TheVariants.{Get}
use Rattle.query_core.specs.declared.expressions.ExprParts.{ExprParts}
use Rattle.xform_rules.specs.Closure.{IsMember}
use Rattle.plan_space.specs.declared.nodes.NodeKind.{NodeKind}
use Rattle.plan_space.specs.declared.nodes.NodeKind.TheVariants as nodes
use Rattle.plan_space.specs.Nodes.{Tree, leaf, over, two}
use Rattle.plan_space.specs.declared.seen.Kid.{Kid}
use Rattle.plan_space.specs.Gives.{first_group, node_group, kid_of}
use Rattle.plan_space.specs.Valid.{NodeFits, IsValid}
use Rattle.plan_tree.specs.Seen.{HasGroup}
use Rattle.plan_lines.specs.Groups.{HasGroups}

-- ---- plans of groups that the query has

-- an enforcer stays in the group below it
group_above : (q : Query) (node : NodeKind) (kids : List Kid) → HasGroup q node → IsGroup q (first_group kids)
    → IsGroup q (node_group node kids)
group_above q (nodes.Native e mode) kids has first = has
group_above q (nodes.Enforcer e) kids has first = first

-- each query has a first table
first_table : (q : Query) → IsGroup q (Get 0)
first_table q = let some = q.tables_valid.some in omega arith

-- where the groups of the expressions are the query's, so is the plan's own
pub plan_group : (q : Query) (tree : Tree) → HasGroups q tree → IsGroup q (kid_of q tree).group
plan_group q (leaf node) has = group_above q node [] has (first_table q)
plan_group q (over node kid) has = group_above q node (kid_of q kid ∷ []) has.0 (plan_group q kid has.1)
plan_group q (two node left right) has =
    group_above q node (kid_of q left ∷ kid_of q right ∷ []) has.0 (plan_group q left has.1)

-- ---- valid plans

module _ (q : Query) (known : (e : ExprParts) → IsMember q e → IsCandidate q e) where
  -- the group of a node that fits is one of the query's
  fits_group : (node : NodeKind) (kids : List Kid) → NodeFits (IsMember q) q node kids → HasGroup q node
  fits_group (nodes.Native e mode) kids fits = (known (expr_of e) fits.0).known
  fits_group (nodes.Enforcer e) kids fits = tt

  -- so are those of a valid plan
  pub valid_groups : (tree : Tree) → IsValid (IsMember q) q tree → HasGroups q tree
  valid_groups (leaf node) valid = fits_group node [] valid
  valid_groups (over node kid) valid = (fits_group node (kid_of q kid ∷ []) valid.1, valid_groups kid valid.0)
  valid_groups (two node left right) valid = (
    fits_group node (kid_of q left ∷ kid_of q right ∷ []) valid.2,
    valid_groups left valid.0,
    valid_groups right valid.1,
  )
