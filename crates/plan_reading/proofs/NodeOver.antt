-- A node of the query is the one that its name and its kids' groups tell.
use Rattle.std.proofs.Common.{◌≡◌, ℕ, List, refl, sym, ap, ◌∙◌}
use Rattle.query_core.specs.Keys.{tables_of, top_of}
use Rattle.query_core.specs.declared.query.Query.{Query}
use Rattle.plan_space.specs.declared.nodes.NodeKind.{NodeKind}
use Rattle.plan_space.specs.declared.nodes.NodeKind.TheVariants as nodes
use Rattle.plan_space.specs.declared.seen.Kid.{Kid}
use Rattle.plan_check.specs.Kids.{HasKids}
use Rattle.plan_check.specs.Nodes.{IsKindOf}
use Rattle.plan_reading.specs.Named.{named_of}
use Rattle.plan_reading.specs.NodeOver.{node_over}
use Rattle.plan_reading.proofs.OperatorRows.{native_is}

module _ (q : Query) (tables : (set : ℕ) → tables_of (top_of q set) ≡ set) where
  -- a node of the query over its kids is the one that its name and the kids' groups tell
  pub over_one : (node : NodeKind) (kids : List Kid) → IsKindOf q node → HasKids node kids
      → node ≡ node_over (named_of node) kids
  over_one (nodes.Native e m) kids is of = native_is q tables e.group e.operator m kids is.candidate.shape of
  over_one (nodes.Enforcer e) kids is of = refl

  -- so two with one name over the same kids are one
  pub only_node : (node other : NodeKind) (kids : List Kid) → IsKindOf q node → IsKindOf q other → HasKids node kids
      → HasKids other kids → named_of node ≡ named_of other → node ≡ other
  only_node node other kids x y of_x of_y same =
      over_one node kids x of_x ∙ ap (λ n. node_over n kids) same ∙ sym (over_one other kids y of_y)
