-- The lines of a plan from the last byte on: its root's behind those of the plans below.
use Rattle.std.proofs.Common.{◌≡◌, List, [], ◌∷◌, ◌++◌, ℕ, suc, ap, ◌∙◌, refl}
use Rattle.std.specs.Prelude.{codes}
use Rattle.std.specs.List.{concat}
use Rattle.std.proofs.lemmas.List.{append-nil}
use Rattle.std.proofs.lemmas.List.Folds.{concat-append}
use Rattle.query_core.specs.declared.query.Query.{Query}
use Rattle.plan_space.specs.Gives.{kid_of}
use Rattle.plan_space.specs.Nodes.{Tree}
use Rattle.plan_space.specs.declared.seen.Kid.{Kid}
use Rattle.plan_tree.specs.declared.node.Node.{Node}
use Rattle.plan_tree.specs.declared.plan.Plan.{Plan}
use Rattle.plan_tree.specs.declared.plan.Plan.TheVariants.{Over', Two'}
use Rattle.plan_tree.specs.declared.seen.Kids.TheVariants as below
use Rattle.plan_lines.specs.Gathered.{IsKidOf}
use Rattle.plan_lines.specs.Lines.{AddsLine, AddsLines}
use Rattle.plan_lines.specs.Text.{indent, node_line, plan_lines}
use Rattle.plan_lines.proofs.Gathered.{IsPreorder, Pointer, over_plan, two_plan}

module _ (q : Query) where
  -- the bytes of the lines of a plan whose root stands at this depth
  abbrev bytes : ℕ → Tree → List ℕ
  bytes depth tree = concat (plan_lines q depth tree)

  -- the root's line stands before those one level deeper
  root_first : (depth : ℕ) → IsPreorder q (node_line q depth) (bytes depth) (bytes (suc depth))
  root_first depth = record {
    of_leaf = λ kind. append-nil (node_line q depth kind []);
    of_over = λ kind kid. refl;
    of_two = λ kind left right. ap (λ (l : List ℕ). node_line q depth kind (kid_of q left ∷ kid_of q right ∷ []) ++ l)
        (concat-append (plan_lines q (suc depth) left) (plan_lines q (suc depth) right));
  }

module _ (q : Query) (spaces deeper : List ℕ) (deepens : deeper ≡ spaces ++ codes "  ") where
  -- the spaces of the level below
  deeper_by : (depth : ℕ) → spaces ≡ indent depth → deeper ≡ indent (suc depth)
  deeper_by depth at = deepens ∙ ap (λ (s : List ℕ). s ++ codes "  ") at

  -- the lines of a plan that is a node over one plan
  pub over_follows : (plan : Plan) (node : Node) (pointer : Pointer) (only : Plan) (one : Kid)
      (before middle after : List ℕ) → plan ≡ Over' node pointer only → IsKidOf q only one
      → AddsLines q deeper only before middle → AddsLine q spaces node (below.One one) middle after
      → AddsLines q spaces plan before after
  over_follows plan node pointer only one before middle after of is first adds depth at =
      over_plan q (node_line q depth) (bytes q depth) (bytes q (suc depth)) (root_first q depth) plan node pointer only
      one before middle after of is (first (suc depth) (deeper_by depth at)) (adds depth at)

  -- the lines of a plan that is a node over two plans
  pub two_follows : (plan : Plan) (node : Node) (pointer : Pointer) (left : Plan) (pointer' : Pointer) (right : Plan)
      (first second : Kid) (before halfway middle after : List ℕ) → plan ≡ Two' node pointer left pointer' right
      → IsKidOf q left first → IsKidOf q right second → AddsLines q deeper right before halfway
      → AddsLines q deeper left halfway middle → AddsLine q spaces node (below.Two first second) middle after
      → AddsLines q spaces plan before after
  two_follows plan node pointer left pointer' right first second before halfway middle after of is is' last next adds
      depth at =
      two_plan q (node_line q depth) (bytes q depth) (bytes q (suc depth)) (root_first q depth) plan node pointer left
      pointer' right first second before halfway middle after of is is' (last (suc depth) (deeper_by depth at))
      (next (suc depth) (deeper_by depth at)) (adds depth at)
