-- Two plans with one text are one.
use Rattle.std.proofs.Common.{◌≡◌, ℕ, suc, List, [], ◌∷◌, ◌++◌, length, map, refl, sym, ap, ◌∙◌}
use Rattle.std.proofs.Common.{arith, decimal, drop}
use Rattle.std.specs.Prelude.{codes}
use Rattle.std.specs.List.{concat}
use Rattle.std.proofs.lemmas.List.{length-append, append_cancel_left}
use Rattle.query_core.specs.Keys.{tables_of, top_of}
use Rattle.query_core.specs.declared.query.Query.{Query}
use Rattle.plan_space.specs.Cost.{cost_of}
use Rattle.plan_space.specs.Nodes.{Tree, leaf, over, two}
use Rattle.plan_lines.specs.Text.{indent, plan_lines, plan_section, output_line}
use Rattle.plan_reading.specs.Named.{named_text, HasForm}
use Rattle.plan_reading.specs.Reading.{is_inner}
use Rattle.plan_reading.specs.Outline.{IsPlanTree}
use Rattle.plan_reading.specs.Lines.{line_text, sketch, tree_lines}
use Rattle.plan_reading.specs.declared.line.NodeLine.{NodeLine}
use Rattle.plan_reading.specs.declared.named.Named.{Named}
use Rattle.plan_reading.proofs.Cuts.{cut_once}
use Rattle.plan_reading.proofs.Bare.{named_bare}
use Rattle.plan_reading.proofs.Ended.{inner_line, line_and, cost_and, cost_inner}
use Rattle.plan_reading.proofs.Flush.{flush}
use Rattle.plan_reading.proofs.Formed.{known_form}
use Rattle.plan_reading.proofs.LineTexts.{unended, names_one}
use Rattle.plan_reading.proofs.OneTree.{outline_one}
use Rattle.plan_reading.proofs.PlanLines.{plan_lines_are, outline_is}

module _ (q : Query) (texts : (a b : Named) → HasForm q a → HasForm q b → named_text q a ≡ named_text q b → a ≡ b) where
  -- the nodes of some lines are those that the query can name
  abbrev pub AreFormed : List NodeLine → Type 0
  AreFormed [] = Unit {0}
  AreFormed (line ∷ lines) = HasForm q line.node × AreFormed lines

  no_line : (line : NodeLine) (rest : List ℕ) → [] ≡ line_text q line ++ rest → ⊥
  no_line line rest same =
      let u = unended (indent line.level) (named_text q line.node) line.rows line.cost in
      let whole = ap length (same ∙ line_and q line rest) in
      let parts = length-append u (10 ∷ rest) in
      omega (arith, whole, parts)

  -- lists of lines with one text are of one outline
  pub lines_one : (xs ys : List NodeLine) → AreFormed xs → AreFormed ys
      → concat (map (line_text q) xs) ≡ concat (map (line_text q) ys) → map sketch xs ≡ map sketch ys
  lines_one [] [] in_xs in_ys same = refl
  lines_one [] (y ∷ ys) in_xs in_ys same = absurd (no_line y (concat (map (line_text q) ys)) same)
  lines_one (x ∷ xs) [] in_xs in_ys same = absurd (no_line x (concat (map (line_text q) xs)) (sym same))
  lines_one (x ∷ xs) (y ∷ ys) in_xs in_ys same =
      let cut = cut_once is_inner (unended (indent x.level) (named_text q x.node) x.rows x.cost)
      (unended (indent y.level) (named_text q y.node) y.rows y.cost) (10 ∷ concat (map (line_text q) xs))
      (10 ∷ concat (map (line_text q) ys))
      (inner_line q x) (inner_line q y) refl refl
      (sym (line_and q x (concat (map (line_text q) xs))) ∙ same ∙ line_and q y (concat (map (line_text q) ys))) in
      let here = names_one x.level y.level (named_text q x.node) (named_text q y.node) x.rows y.rows x.cost y.cost
      (named_bare q x.node) (named_bare q y.node) (flush q x.node) (flush q y.node) cut.0 in
      let node = texts x.node y.node in_xs.0 in_ys.0 here.name in
      let later = lines_one xs ys in_xs.1 in_ys.1 (ap (drop 1) cut.1) in
      ap (λ (l : ℕ × Named). l ∷ map sketch xs) (ap (λ (l : ℕ). (l, x.node)) here.level ∙ ap (λ (n : Named). (y.level, n)) node)
      ∙ ap (λ (ls : List (ℕ × Named)). (y.level, y.node) ∷ ls) later

  -- ---- the lines of a plan

  formed_append : (xs ys : List NodeLine) → AreFormed xs → AreFormed ys → AreFormed (xs ++ ys)
  formed_append [] ys in_xs in_ys = in_ys
  formed_append (x ∷ xs) ys in_xs in_ys = (in_xs.0, formed_append xs ys in_xs.1 in_ys)

  formed_tree : (d : ℕ) (t : Tree) → IsPlanTree q t → AreFormed (tree_lines q d t)
  formed_tree d (leaf node) is = (known_form q node is.0, tt)
  formed_tree d (over node kid) is = (known_form q node is.1, formed_tree (suc d) kid is.0)
  formed_tree d (two node left right) is = (
    known_form q node is.2,
    formed_append (tree_lines q (suc d) left) (tree_lines q (suc d) right) (formed_tree (suc d) left is.0)
        (formed_tree (suc d) right is.1),
  )

  module _ (tables : (set : ℕ) → tables_of (top_of q set) ≡ set) where
    -- plans with one text of their nodes are one
    pub lines_plan_one : (a b : Tree) → IsPlanTree q a → IsPlanTree q b → concat (plan_lines q 0 a) ≡ concat (plan_lines q 0 b)
        → a ≡ b
    lines_plan_one a b is_a is_b same =
        let lines : concat (map (line_text q) (tree_lines q 0 a)) ≡ concat (map (line_text q) (tree_lines q 0 b)) =
        sym (ap concat (plan_lines_are q 0 a)) ∙ same ∙ ap concat (plan_lines_are q 0 b) in
        let outlines = lines_one (tree_lines q 0 a) (tree_lines q 0 b) (formed_tree 0 a is_a) (formed_tree 0 b is_b) lines in
        outline_one q tables 0 a b is_a is_b (outline_is q 0 a ∙ outlines ∙ sym (outline_is q 0 b))

    pub sections_one : (a b : Tree) → IsPlanTree q a → IsPlanTree q b → concat (plan_section q a) ≡ concat (plan_section q b) → a ≡ b
    sections_one a b is_a is_b same =
        let rest = λ (t : Tree). output_line q ++ concat (plan_lines q 0 t) in
        let cut = cut_once is_inner (codes "cost " ++ decimal (cost_of q a)) (codes "cost " ++ decimal (cost_of q b))
        (10 ∷ rest a) (10 ∷ rest b)
        (cost_inner (cost_of q a)) (cost_inner (cost_of q b))
        refl refl (sym (cost_and (cost_of q a) (rest a)) ∙ same ∙ cost_and (cost_of q b) (rest b)) in
        lines_plan_one a b is_a is_b
        (append_cancel_left (output_line q) (concat (plan_lines q 0 a)) (concat (plan_lines q 0 b)) (ap (drop 1) cut.1))
