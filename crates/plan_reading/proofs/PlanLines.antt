-- The lines of a plan: their texts, their outline, and how many they are.
use Rattle.std.proofs.Common.{◌≡◌, ℕ, suc, List, [], ◌∷◌, ◌++◌, length, map, refl, sym, ap, ◌∙◌, arith}
use Rattle.std.proofs.lemmas.List.{length-append, map-append}
use Rattle.query_core.specs.declared.query.Query.{Query}
use Rattle.cardinality.specs.Rows.{rows_of}
use Rattle.cost_units.specs.Cost.{local_cost}
use Rattle.plan_space.specs.Cost.{shape_of}
use Rattle.plan_space.specs.Gives.{node_group, kid_of}
use Rattle.query_core.specs.Expressions.{table_in}
use Rattle.plan_space.specs.Modes.{mode_at}
use Rattle.plan_space.specs.Nodes.{Tree, leaf, over, two}
use Rattle.plan_space.specs.declared.nodes.NodeKind.{NodeKind}
use Rattle.plan_space.specs.declared.nodes.NodeKind.TheVariants as nodes
use Rattle.plan_space.specs.declared.seen.Kid.{Kid}
use Rattle.plan_check.specs.Preorder.{plans_in}
use Rattle.plan_lines.specs.Text.{indent, numbered, node_text, text_if_any, node_line, plan_lines}
use Rattle.plan_reading.specs.Lines.{line_text, sketch, line_of_node, tree_lines}
use Rattle.plan_reading.specs.Named.{named_of, named_text}
use Rattle.plan_reading.specs.Outline.{outline}
use Rattle.plan_reading.proofs.OperatorRows.{unplaced_text}

-- ---- their texts

-- a node's text is that of how its line names it
pub node_named : (q : Query) (node : NodeKind) → node_text q node ≡ named_text q (named_of node)
node_named q (nodes.Enforcer e) = refl
node_named q (nodes.Native e m) =
    ap text_if_any (sym (unplaced_text q e.operator (table_in e.group) (mode_at m)))

node_line_is : (q : Query) (d : ℕ) (node : NodeKind) (kids : List Kid) → node_line q d node kids ≡ line_text q (line_of_node q d node kids)
node_line_is q d node kids =
    ap (λ t. numbered (indent d) t (rows_of q (node_group node kids)) (local_cost (shape_of q node kids))) (node_named q node)

pub plan_lines_are : (q : Query) (d : ℕ) (t : Tree) → plan_lines q d t ≡ map (line_text q) (tree_lines q d t)
plan_lines_are q d (leaf node) = ap (λ l. l ∷ []) (node_line_is q d node [])
plan_lines_are q d (over node kid) =
    ap (λ l. l ∷ plan_lines q (suc d) kid) (node_line_is q d node (kid_of q kid ∷ []))
    ∙ ap (λ ls. line_text q (line_of_node q d node (kid_of q kid ∷ [])) ∷ ls) (plan_lines_are q (suc d) kid)
plan_lines_are q d (two node left right) =
    let kids = kid_of q left ∷ kid_of q right ∷ [] in
    let below : plan_lines q (suc d) left ++ plan_lines q (suc d) right
    ≡ map (line_text q) (tree_lines q (suc d) left ++ tree_lines q (suc d) right) =
    ap (λ ls. ls ++ plan_lines q (suc d) right) (plan_lines_are q (suc d) left)
    ∙ ap (λ ls. map (line_text q) (tree_lines q (suc d) left) ++ ls) (plan_lines_are q (suc d) right)
    ∙ sym (map-append (line_text q) (tree_lines q (suc d) left) (tree_lines q (suc d) right)) in
    ap (λ l. l ∷ (plan_lines q (suc d) left ++ plan_lines q (suc d) right)) (node_line_is q d node kids)
    ∙ ap (λ ls. line_text q (line_of_node q d node kids) ∷ ls) below

-- ---- what they name, and how many they are

pub outline_is : (q : Query) (d : ℕ) (t : Tree) → outline d t ≡ map sketch (tree_lines q d t)
outline_is q d (leaf node) = refl
outline_is q d (over node kid) = ap (λ ls. (d, named_of node) ∷ ls) (outline_is q (suc d) kid)
outline_is q d (two node left right) = ap (λ ls. (d, named_of node) ∷ ls)
    (ap (λ ls. ls ++ outline (suc d) right) (outline_is q (suc d) left)
    ∙ ap (λ ls. map sketch (tree_lines q (suc d) left) ++ ls) (outline_is q (suc d) right)
    ∙ sym (map-append sketch (tree_lines q (suc d) left) (tree_lines q (suc d) right)))

-- a plan has as many lines as nodes
pub as_many_lines : (q : Query) (d : ℕ) (t : Tree) → length (tree_lines q d t) ≡ length (plans_in t)
as_many_lines q d (leaf node) = refl
as_many_lines q d (over node kid) = ap suc (as_many_lines q (suc d) kid)
as_many_lines q d (two node left right) =
    let first = as_many_lines q (suc d) left in
    let second = as_many_lines q (suc d) right in
    let lines = length-append (tree_lines q (suc d) left) (tree_lines q (suc d) right) in
    let plans = length-append (plans_in left) (plans_in right) in
    omega (arith, first, second, lines, plans)
