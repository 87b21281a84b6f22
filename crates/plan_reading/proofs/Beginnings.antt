-- A text is read in one way.
use Rattle.std.proofs.Common.{◌≡◌, ℕ, ◌+◌, ◌⊎◌, List, [], ◌∷◌, ◌++◌, length, drop, Option, None, Some}
use Rattle.std.proofs.Common.{refl, sym, ap, ◌∙◌, subst, arith, inl, inr, append_assoc, length-append}
use Rattle.std.proofs.lemmas.Fmt.{decimal_injective}
use Rattle.std.proofs.lemmas.List.{append-nil, append_cancel_left}
use Rattle.query_core.specs.declared.query.Query.{Query}
use Rattle.plan_lines.specs.Text.{output_line}
use Rattle.plan_reading.specs.Lines.{line_text}
use Rattle.plan_reading.specs.Named.{named_text, HasForm}
use Rattle.plan_reading.specs.Formed.{IsNodeLine, AreInPlace, last_level, lines_text, AreLines, HasNoNext, LacksNode}
use Rattle.plan_reading.specs.Formed.{HasCost, IsFormed}
use Rattle.plan_reading.specs.Formed.{LacksOutput, LacksLine, HasFormFault}
use Rattle.plan_reading.specs.declared.line.NodeLine.{NodeLine}
use Rattle.plan_reading.specs.declared.named.Named.{Named}
use Rattle.plan_reading.proofs.Bare.{named_bare}
use Rattle.plan_reading.proofs.Cuts.{cut_once}
use Rattle.plan_reading.proofs.Ended.{before_end, inner_line, line_and, cut_same, cost_cut}
use Rattle.plan_reading.proofs.LineTexts.{names_one, numbers_one}
use Rattle.plan_reading.proofs.Flush.{flush}

-- a line of these parts
abbrev made : ℕ → Named → ℕ → ℕ → NodeLine
made level node rows cost = record { level = level; node = node; rows = rows; cost = cost }

-- ---- the first line

record IsOneCost (c d : ℕ) (r s : List ℕ) : Type 0 where
  cost : c ≡ d
  rest : r ≡ s

cost_one : (text : List ℕ) (c d : ℕ) (r s : List ℕ) → HasCost text c r → HasCost text d s → IsOneCost c d r s
cost_one text c d r s x y =
    let parts = cut_same text _ _ r s (cost_cut text c r x) (cost_cut text d s y) in
    record { cost = decimal_injective c d x.fits y.fits (ap (drop 5) parts.0); rest = parts.1 }

module _ (q : Query) (texts : (a b : Named) → HasForm q a → HasForm q b → named_text q a ≡ named_text q b → a ≡ b) where
  -- ---- one line

  record AreSame (x y : NodeLine) (r s : List ℕ) : Type 0 where
    line : x ≡ y
    rest : r ≡ s

  line_one : (x y : NodeLine) (r s : List ℕ) → IsNodeLine q x → IsNodeLine q y → line_text q x ++ r ≡ line_text q y ++ s
      → AreSame x y r s
  line_one x y r s is_x is_y same =
      let cut = cut_once _ (before_end q x) (before_end q y) (10 ∷ r) (10 ∷ s) (inner_line q x) (inner_line q y) refl refl
      (sym (line_and q x r) ∙ same ∙ line_and q y s) in
      let name = names_one x.level y.level (named_text q x.node) (named_text q y.node) x.rows y.rows x.cost y.cost
      (named_bare q x.node) (named_bare q y.node) (flush q x.node) (flush q y.node) cut.0 in
      let numbers = numbers_one x.level y.level (named_text q x.node) (named_text q y.node) x.rows y.rows x.cost y.cost
      (named_bare q x.node) (named_bare q y.node) (flush q x.node) (flush q y.node) cut.0
      is_x.rows_fit is_y.rows_fit is_x.cost_fits is_y.cost_fits in
      let node = texts x.node y.node is_x.form is_y.form name.name in
      record {
        line = ap (λ (l : ℕ). made l x.node x.rows x.cost) name.level
            ∙ ap (λ (n : Named). made y.level n x.rows x.cost) node
            ∙ ap (λ (k : ℕ). made y.level y.node k x.cost) numbers.0
            ∙ ap (λ (k : ℕ). made y.level y.node y.rows k) numbers.1;
        rest = ap (drop 1) cut.1;
      }

  no_line : (line : NodeLine) (rest : List ℕ) → [] ≡ line_text q line ++ rest → ⊥
  no_line line rest same =
      let whole = ap length (same ∙ line_and q line rest) in
      let parts = length-append (before_end q line) (10 ∷ rest) in
      omega (arith, whole, parts)

  -- ---- beginnings of one text

  -- the ys are the xs and more, which is what was left behind the xs
  record GoesOn (before : Option ℕ) (xs ys : List NodeLine) (r s : List ℕ) : Type 0 where
    more : List NodeLine
    lines : ys ≡ xs ++ more
    rest : r ≡ lines_text q more ++ s
    in_place : AreInPlace q (last_level before xs) more

  goes_on : (before : Option ℕ) (x y : NodeLine) (xs ys : List NodeLine) (r s : List ℕ) → x ≡ y
      → GoesOn (Some x.level) xs ys r s → GoesOn before (x ∷ xs) (y ∷ ys) r s
  goes_on before x y xs ys r s same on = record {
    more = on.more;
    lines = ap (λ (z : NodeLine). z ∷ ys) (sym same) ∙ ap (λ (zs : List NodeLine). x ∷ zs) on.lines;
    rest = on.rest;
    in_place = on.in_place;
  }

  -- of two beginnings one goes on from the other
  one_way : (before : Option ℕ) (xs ys : List NodeLine) (r s : List ℕ) → AreInPlace q before xs → AreInPlace q before ys
      → lines_text q xs ++ r ≡ lines_text q ys ++ s → GoesOn before xs ys r s ⊎ GoesOn before ys xs s r
  one_way before [] ys r s in_xs in_ys same =
      inl (record { more = ys; lines = refl; rest = same; in_place = in_ys })
  one_way before (x ∷ xs) [] r s in_xs in_ys same =
      inr (record { more = x ∷ xs; lines = refl; rest = sym same; in_place = in_xs })
  one_way before (x ∷ xs) (y ∷ ys) r s in_xs in_ys same =
      let here = line_one x y (lines_text q xs ++ r) (lines_text q ys ++ s) in_xs.0.is_line in_ys.0.is_line
      (sym (append_assoc (line_text q x) (lines_text q xs) r) ∙ same ∙ append_assoc (line_text q y) (lines_text q ys) s) in
      let behind = subst (λ (l : NodeLine). AreInPlace q (Some l.level) ys) (sym here.line) in_ys.1 in
      elim (one_way (Some x.level) xs ys r s in_xs.1 behind here.rest) [
        | inl on ↦ inl (goes_on before x y xs ys r s here.line on)
        | inr on ↦ inr (goes_on before y x ys xs s r (sym here.line)
            (subst (λ (l : NodeLine). GoesOn (Some l.level) ys xs s r) here.line on))
      ]

  -- ---- the lines of nodes

  -- behind lines after which none may follow none follows
  no_more : (xs ys : List NodeLine) (r s : List ℕ) (on : GoesOn None xs ys r s)
      → HasNoNext q (last_level None xs) r → ys ≡ xs
  no_more xs ys r s on stuck = by_more on.more on.lines on.rest on.in_place
    where
      by_more : (more : List NodeLine) → ys ≡ xs ++ more → r ≡ lines_text q more ++ s
          → AreInPlace q (last_level None xs) more → ys ≡ xs
      by_more [] lines rest in_place = lines ∙ append-nil xs
      by_more (z ∷ zs) lines rest in_place = absurd (stuck z (lines_text q zs ++ s) (record {
        follows = in_place.0;
        begins = rest ∙ append_assoc (line_text q z) (lines_text q zs) s;
      }))

  -- nothing is left behind all lines
  no_rest : (xs ys : List NodeLine) (s : List ℕ) (on : GoesOn None xs ys [] s) → ys ≡ xs
  no_rest xs ys s on = no_more xs ys [] s on (λ next rest is. no_line next rest is.begins)

  rest_same : (xs ys : List NodeLine) (r s : List ℕ) → xs ≡ ys → lines_text q xs ++ r ≡ lines_text q ys ++ s → r ≡ s
  rest_same xs ys r s lines same =
      append_cancel_left (lines_text q xs) r s
      (same ∙ ap (λ (zs : List NodeLine). lines_text q zs ++ s) (sym lines))

  lines_same : (bytes : List ℕ) (xs ys : List NodeLine) → AreLines q bytes xs → AreLines q bytes ys → xs ≡ ys
  lines_same bytes xs ys x y =
      elim (one_way None xs ys [] [] x.in_place y.in_place
      (append-nil (lines_text q xs) ∙ sym x.whole ∙ y.whole ∙ sym (append-nil (lines_text q ys)))) [
        | inl on ↦ sym (no_rest xs ys [] on)
        | inr on ↦ no_rest ys xs [] on
      ]

  lacks_same : (bytes : List ℕ) (l m : ℕ) → LacksNode q bytes l → LacksNode q bytes m → l ≡ m
  lacks_same bytes l m x y =
      let same : y.lines ≡ x.lines = elim (one_way None x.lines y.lines x.rest y.rest x.in_place y.in_place
      (sym x.begins ∙ y.begins)) [
        | inl on ↦ no_more x.lines y.lines x.rest y.rest on x.stuck
        | inr on ↦ sym (no_more y.lines x.lines y.rest x.rest on y.stuck)
      ] in
      x.count ∙ ap (λ (zs : List NodeLine). length zs + 2) (sym same) ∙ sym y.count

  -- where all are read none is lacking
  none_lacks : (bytes : List ℕ) (xs : List NodeLine) (l : ℕ) → AreLines q bytes xs → LacksNode q bytes l → ⊥
  none_lacks bytes xs l x y =
      let whole : lines_text q xs ++ [] ≡ lines_text q y.lines ++ y.rest =
      append-nil (lines_text q xs) ∙ sym x.whole ∙ y.begins in
      let same : y.lines ≡ xs = elim (one_way None xs y.lines [] y.rest x.in_place y.in_place whole) [
        | inl on ↦ no_rest xs y.lines y.rest on
        | inr on ↦ sym (no_more y.lines xs y.rest [] on y.stuck)
      ] in
      let rest : [] ≡ y.rest = rest_same xs y.lines [] y.rest (sym same) whole in
      elim y.due [
        | inl none ↦ let some = x.some in let no = ap length (sym same ∙ none) in omega (arith, some, no)
        | inr more ↦ let no = ap length rest in omega (arith, more, no)
      ]

  -- ---- whole texts

  pub formed_one : (text : List ℕ) (c d : ℕ) (xs ys : List NodeLine) → IsFormed q text c xs → IsFormed q text d ys
      → (c ≡ d) × (xs ≡ ys)
  formed_one text c d xs ys x y =
      let first = cost_one text c d (output_line q ++ x.rest) (output_line q ++ y.rest) x.has_cost y.has_cost in
      let rest = append_cancel_left (output_line q) x.rest y.rest first.rest in
      (first.cost, lines_same y.rest xs ys (subst (λ (t : List ℕ). AreLines q t xs) rest x.nodes) y.nodes)

  pub formed_no_fault : (text : List ℕ) (c : ℕ) (xs : List NodeLine) (l : ℕ) → IsFormed q text c xs
      → HasFormFault q text l → ⊥
  formed_no_fault text c xs l x (inl y) = y.1 c (output_line q ++ x.rest) x.has_cost
  formed_no_fault text c xs l x (inr (inl y)) =
      let first = cost_one text c y.1.cost (output_line q ++ x.rest) y.1.rest x.has_cost y.1.has_cost in
      y.1.stuck x.rest (sym first.rest)
  formed_no_fault text c xs l x (inr (inr y)) =
      let first = cost_one text c y.cost (output_line q ++ x.rest) (output_line q ++ y.rest) x.has_cost y.has_cost in
      let rest = append_cancel_left (output_line q) x.rest y.rest first.rest in
      none_lacks y.rest xs l (subst (λ (t : List ℕ). AreLines q t xs) rest x.nodes) y.nodes

  output_here : (text : List ℕ) (l : ℕ) → LacksOutput q text → LacksLine q text l → ⊥
  output_here text l x y =
      let first = cost_one text x.cost y.cost x.rest (output_line q ++ y.rest) x.has_cost y.has_cost in
      x.stuck y.rest first.rest

  pub fault_one : (text : List ℕ) (l m : ℕ) → HasFormFault q text l → HasFormFault q text m → l ≡ m
  fault_one text l m (inl x) (inl y) = x.0 ∙ sym y.0
  fault_one text l m (inl x) (inr (inl y)) = absurd (x.1 y.1.cost y.1.rest y.1.has_cost)
  fault_one text l m (inl x) (inr (inr y)) = absurd (x.1 y.cost (output_line q ++ y.rest) y.has_cost)
  fault_one text l m (inr (inl x)) (inl y) = absurd (y.1 x.1.cost x.1.rest x.1.has_cost)
  fault_one text l m (inr (inl x)) (inr (inl y)) = x.0 ∙ sym y.0
  fault_one text l m (inr (inl x)) (inr (inr y)) = absurd (output_here text m x.1 y)
  fault_one text l m (inr (inr x)) (inl y) = absurd (y.1 x.cost (output_line q ++ x.rest) x.has_cost)
  fault_one text l m (inr (inr x)) (inr (inl y)) = absurd (output_here text l y.1 x)
  fault_one text l m (inr (inr x)) (inr (inr y)) =
      let first = cost_one text x.cost y.cost (output_line q ++ x.rest) (output_line q ++ y.rest) x.has_cost y.has_cost in
      let rest = append_cancel_left (output_line q) x.rest y.rest first.rest in
      lacks_same y.rest l m (subst (λ (t : List ℕ). LacksNode q t l) rest x.nodes) y.nodes
