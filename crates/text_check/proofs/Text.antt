-- A text whose lines are those of a plan, with the plan's own numbers, is the plan's.
use Rattle.std.proofs.Common.{◌≡◌, ℕ, ◌≤◌, List, [], ◌∷◌, ◌++◌, length, map, refl, sym, ap, ◌∙◌, subst, arith}
use Rattle.std.specs.List.{All, concat, zip}
use Rattle.std.proofs.lemmas.List.Elements.{All-head, All-tail}
use Rattle.query_core.specs.Keys.{root_of}
use Rattle.query_core.specs.declared.query.Query.{Query}
use Rattle.xform_rules.specs.Closure.{IsMember}
use Rattle.request_props.specs.Numbered.{root_request}
use Rattle.plan_space.specs.Cost.{cost_of}
use Rattle.plan_space.specs.Least.{Serves}
use Rattle.plan_space.specs.Nodes.{Tree}
use Rattle.plan_check.specs.Outcome.{most_nodes}
use Rattle.plan_check.specs.Preorder.{plans_in}
use Rattle.plan_lines.specs.Text.{cost_line, output_line, plan_section}
use Rattle.plan_reading.specs.Formed.{lines_text, IsFormed}
use Rattle.plan_reading.specs.Laws.{PlansAreRead, LinesAreSpelled}
use Rattle.plan_reading.specs.Lines.{sketch, tree_lines}
use Rattle.plan_reading.specs.declared.line.NodeLine.{NodeLine}
use Rattle.plan_reading.specs.declared.named.Named.{Named}
use Rattle.text_check.specs.Blocks.{AreLinesOf}
use Rattle.text_check.specs.Outcome.{HasOwnNumbers, AreOwnNumbers, HasLines, IsGoodText}
use Rattle.text_check.specs.OwnLines.{own_lines}
use Rattle.text_check.specs.declared.own.OwnLine.{OwnLine}
use Rattle.text_check.proofs.OwnNumbers.{own_numbers}
use Rattle.text_check.proofs.PlanNodes.{as_many_own, as_many_spelled}

-- a line of these parts
abbrev made : ℕ → Named → ℕ → ℕ → NodeLine
made level node rows cost = record { level = level; node = node; rows = rows; cost = cost }

-- lines are one where they stand, are named and are numbered alike
line_same : (x y : NodeLine) (o : OwnLine) → sketch x ≡ sketch y → HasOwnNumbers (x, o) → HasOwnNumbers (y, o) → x ≡ y
line_same x y o same of_x of_y =
    ap (λ (k : ℕ). made k x.node x.rows x.cost) (ap (λ (s : ℕ × Named). s.0) same)
    ∙ ap (λ (n : Named). made y.level n x.rows x.cost) (ap (λ (s : ℕ × Named). s.1) same)
    ∙ ap (λ (k : ℕ). made y.level y.node k x.cost) (of_x.rows ∙ sym of_y.rows)
    ∙ ap (λ (k : ℕ). made y.level y.node y.rows k) (of_x.cost ∙ sym of_y.cost)

lines_same : (xs ys : List NodeLine) (own : List OwnLine) → map sketch xs ≡ map sketch ys → length xs ≡ length own
    → All HasOwnNumbers (zip xs own) → All HasOwnNumbers (zip ys own) → xs ≡ ys
lines_same [] [] own same long of_xs of_ys = refl
lines_same [] (y ∷ ys) own same long of_xs of_ys = absurd cc
lines_same (x ∷ xs) [] own same long of_xs of_ys = absurd cc
lines_same (x ∷ xs) (y ∷ ys) [] same long of_xs of_ys = absurd (omega (arith, long))
lines_same (x ∷ xs) (y ∷ ys) (o ∷ own) same long of_xs of_ys =
    let first : sketch x ≡ sketch y = cc in
    let behind : map sketch xs ≡ map sketch ys = cc in
    let line = line_same x y o first (All-head HasOwnNumbers (x, o) (zip xs own) of_xs)
    (All-head HasOwnNumbers (y, o) (zip ys own) of_ys) in
    let rest = lines_same xs ys own behind (omega (arith, long)) (All-tail HasOwnNumbers (x, o) (zip xs own) of_xs)
    (All-tail HasOwnNumbers (y, o) (zip ys own) of_ys) in
    ap (λ l. l ∷ xs) line ∙ ap (λ ls. y ∷ ls) rest

-- the bytes of a text that is made of lines
formed_is : (q : Query) (text : List ℕ) (cost : ℕ) (lines : List NodeLine) → IsFormed q text cost lines
    → text ≡ cost_line cost ++ (output_line q ++ lines_text q lines)
formed_is q text cost lines is =
    is.has_cost.begins ∙ ap (λ rest. cost_line cost ++ (output_line q ++ rest)) is.nodes.whole

module _ (q : Query) (read : PlansAreRead q) (outlined : LinesAreSpelled q) (t : Tree) (lines : List NodeLine)
    (few : length (plans_in t) ≤ most_nodes) (spelled : AreLinesOf q lines t) where
  own_text : (text : List ℕ) (cost : ℕ) → HasLines q text cost lines → AreOwnNumbers cost lines (cost_of q t) (own_lines q t)
      → text ≡ concat (plan_section q t)
  own_text text cost has own =
      let long = as_many_spelled 0 lines t spelled.spelled ∙ sym (as_many_own q t) in
      let same = lines_same lines (tree_lines q 0 t) (own_lines q t) (spelled.spelled ∙ sym (outlined t)) long own.each
      (own_numbers q t).each in
      formed_is q text cost lines has.formed
      ∙ ap (λ n. cost_line n ++ (output_line q ++ lines_text q lines)) own.total_is
      ∙ ap (λ ls. cost_line (cost_of q t) ++ (output_line q ++ lines_text q ls)) same
      ∙ sym (formed_is q (concat (plan_section q t)) (cost_of q t) (tree_lines q 0 t) (read t spelled.is_tree few))

  pub good_text : (text : List ℕ) (cost total found : ℕ) → HasLines q text cost lines
      → Serves (IsMember q) q (root_of q) (root_request q) t → total ≡ cost_of q t → found ≡ total
      → AreOwnNumbers cost lines total (own_lines q t) → IsGoodText q text found
  good_text text cost total found has serves total_is found_is own = record {
    short = has.short;
    tree = t;
    few = few;
    serves = serves;
    text_is = own_text text cost has (subst (λ n. AreOwnNumbers cost lines n (own_lines q t)) total_is own);
    cost_is = found_is ∙ total_is;
  }
