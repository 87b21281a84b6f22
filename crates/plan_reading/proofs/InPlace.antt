-- The text of a plan of few enough nodes is made of the plan's own lines, each in its place.
use Rattle.std.proofs.Common.{ℕ, suc, ◌≤◌, List, [], ◌∷◌, ◌++◌, length, Option, None, Some, refl}
use Rattle.std.proofs.Common.{sym, ap, subst, arith, append_assoc}
use Rattle.std.proofs.lemmas.List.{append-nil}
use Rattle.std.specs.List.{concat}
use Rattle.query_core.specs.declared.query.Query.{Query}
use Rattle.plan_space.specs.Cost.{cost_of, shape_of}
use Rattle.plan_space.specs.Gives.{kid_of, node_group}
use Rattle.plan_space.specs.Nodes.{Tree, leaf, over, two}
use Rattle.plan_space.specs.declared.nodes.NodeKind.{NodeKind}
use Rattle.plan_space.specs.declared.seen.Kid.{Kid}
use Rattle.plan_space.proofs.Cheapest.{node_small}
use Rattle.plan_check.specs.Nodes.{IsKindOf}
use Rattle.plan_check.specs.Outcome.{most_nodes}
use Rattle.plan_check.specs.Preorder.{plans_in}
use Rattle.plan_lines.specs.Text.{cost_line, output_line, plan_section}
use Rattle.plan_reading.specs.Formed.{MayFollow, AreInPlace, lines_text, IsNodeLine, IsFormed}
use Rattle.plan_reading.specs.Lines.{line_of_node, tree_lines}
use Rattle.plan_reading.specs.Outline.{IsPlanTree}
use Rattle.plan_reading.specs.declared.line.NodeLine.{NodeLine}
use Rattle.plan_reading.proofs.Bounds.{rows_few, plan_few}
use Rattle.plan_reading.proofs.Formed.{known_form}
use Rattle.plan_reading.proofs.PlanLines.{plan_lines_are}

some_lines : (q : Query) (d : ℕ) (t : Tree) → 1 ≤ length (tree_lines q d t)
some_lines q d (leaf node) = omega arith
some_lines q d (over node kid) = omega arith
some_lines q d (two node left right) = omega arith

module _ (q : Query) where
  -- the line of a node of the query
  known_line : (d : ℕ) (node : NodeKind) (kids : List Kid) → IsKindOf q node → IsNodeLine q (line_of_node q d node kids)
  known_line d node kids is =
      let rows = rows_few q (node_group node kids) in
      let cost = node_small (shape_of q node kids) in
      record { form = known_form q node is; rows_fit = omega (arith, rows); cost_fits = omega (arith, cost) }

  -- what may stand behind a line of this level or a deeper one
  abbrev MayStandBehind : ℕ → List NodeLine → Type 0
  MayStandBehind d rest = (last : ℕ) → d ≤ last → AreInPlace q (Some last) rest

  -- the lines of a plan are in their places before such lines
  in_place : (d : ℕ) (t : Tree) (before : Option ℕ) (rest : List NodeLine) → IsPlanTree q t → MayFollow before d
      → MayStandBehind d rest → AreInPlace q before (tree_lines q d t ++ rest)
  in_place d (leaf node) before rest is follows behind =
      (record { level = follows; is_line = known_line d node [] is.0 }, behind d (omega arith))
  in_place d (over node kid) before rest is follows behind = (
    record { level = follows; is_line = known_line d node (kid_of q kid ∷ []) is.1 },
    in_place (suc d) kid (Some d) rest is.0 (omega arith, omega arith)
        (λ last deep. behind last (omega (arith, deep))),
  )
  in_place d (two node left right) before rest is follows behind =
      let kids = kid_of q left ∷ kid_of q right ∷ [] in
      let firsts = tree_lines q (suc d) left in
      let seconds = tree_lines q (suc d) right in
      let below : AreInPlace q (Some d) (firsts ++ (seconds ++ rest)) =
      in_place (suc d) left (Some d) (seconds ++ rest) is.0 (omega arith, omega arith)
      (λ last deep. in_place (suc d) right (Some last) rest is.1 (omega arith, omega (arith, deep))
      (λ last' deep'. behind last' (omega (arith, deep')))) in (
        record { level = follows; is_line = known_line d node kids is.2 },
        subst (AreInPlace q (Some d)) (sym (append_assoc firsts seconds rest)) below,
      )

  -- the text of a plan
  pub plan_formed : (t : Tree) → IsPlanTree q t → length (plans_in t) ≤ most_nodes
      → IsFormed q (concat (plan_section q t)) (cost_of q t) (tree_lines q 0 t)
  plan_formed t is few =
      let most = plan_few q t in
      let placed : AreInPlace q None (tree_lines q 0 t ++ []) = in_place 0 t None [] is refl (λ last deep. tt) in
      record {
        rest = lines_text q (tree_lines q 0 t);
        has_cost = record {
          fits = omega (arith, most, few);
          begins = ap (λ ls. cost_line (cost_of q t) ++ (output_line q ++ ls)) (ap concat (plan_lines_are q 0 t));
        };
        nodes = record {
          in_place = subst (AreInPlace q None) (append-nil (tree_lines q 0 t)) placed;
          some = some_lines q 0 t;
          whole = refl;
        };
      }
