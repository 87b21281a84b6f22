-- The nodes of a plan: its root's, and behind it those of the plans below.
use Rattle.std.proofs.Common.{[], ◌∷◌, ℕ, suc, refl}
use Rattle.query_core.specs.declared.query.Query.{Query}
use Rattle.plan_lines.proofs.Gathered.{IsPreorder}
use Rattle.planner.specs.Nodes.{node_at, nodes_from}

-- the root's node stands before those one level deeper
pub root_first : (q : Query) (depth : ℕ)
    → IsPreorder q (λ kind kids. node_at q depth kind kids ∷ []) (nodes_from q depth) (nodes_from q (suc depth))
root_first q depth = record { of_leaf = λ kind. refl; of_over = λ kind kid. refl; of_two = λ kind left right. refl }
