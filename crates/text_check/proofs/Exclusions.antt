-- No fault of a text comes where one behind it does, and each is told at one line.
use Rattle.std.proofs.Common.{◌≡◌, ℕ, ◌+◌, ◌≤◌, List, [], ◌∷◌, length, map, sym, ap, ◌∙◌, subst}
use Rattle.std.proofs.Common.{arith, inl, inr}
use Rattle.std.specs.List.{All, zip}
use Rattle.std.proofs.lemmas.List.{append-nil}
use Rattle.query_core.specs.Expressions.{IsCandidate}
use Rattle.query_core.specs.Keys.{root_of}
use Rattle.query_core.specs.declared.expressions.ExprParts.{ExprParts}
use Rattle.query_core.specs.declared.query.Query.{Query}
use Rattle.xform_rules.specs.Closure.{IsMember}
use Rattle.request_props.specs.Numbered.{root_request}
use Rattle.request_props.specs.Satisfied.{Satisfies}
use Rattle.plan_space.specs.Cost.{cost_of}
use Rattle.plan_space.specs.Gives.{gives}
use Rattle.plan_space.specs.Least.{Serves}
use Rattle.plan_space.specs.Nodes.{Tree}
use Rattle.plan_space.specs.Valid.{IsValid}
use Rattle.plan_check.specs.Kids.{RootFits}
use Rattle.plan_check.specs.Outcome.{most_nodes}
use Rattle.plan_check.specs.Preorder.{plans_in}
use Rattle.plan_check.proofs.FirstAndLast.{first_not_all, first_one, last_not_all, last_one}
use Rattle.plan_check.proofs.Validity.{valid_fits}
use Rattle.plan_reading.specs.Formed.{most_bytes, HasFormFault, IsFormed}
use Rattle.plan_reading.specs.Laws.{OutlinesAreOne, PlansAreRead, LinesAreSpelled}
use Rattle.plan_reading.specs.Lines.{sketch, tree_lines}
use Rattle.plan_reading.specs.Outline.{outline, IsPlanTree}
use Rattle.plan_reading.specs.declared.line.NodeLine.{NodeLine}
use Rattle.text_check.specs.Blocks.{LineFits, tails, AreLinesOf, IsMisfit}
use Rattle.text_check.specs.Outcome.{IsGoodText, HasLines, IsTreeText, IsMemberLine, HasOwnNumbers, IsFirstLineWithout}
use Rattle.text_check.specs.Outcome.{IsTooLong, IsUnformed, IsTooLarge, HasMisfit, HasOutsider, HasUnfit, IsUnsatisfied}
use Rattle.text_check.specs.Outcome.{AreOwnNumbers, IsNumberAt, HasNumberFault}
use Rattle.text_check.specs.OwnLines.{own_lines}
use Rattle.text_check.specs.declared.own.OwnLine.{OwnLine}
use Rattle.text_check.proofs.Members.{valid_candidates}
use Rattle.text_check.proofs.PlanNodes.{as_many_spelled}
use Rattle.text_check.proofs.TreeFits.{tree_fits}

-- a line that lacks a fact is at one place
first_line_one : {X : Type 0} (Fact : X → Type 0) (nodes : List X) (line other : ℕ) → IsFirstLineWithout Fact nodes line
    → IsFirstLineWithout Fact nodes other → line ≡ other
first_line_one Fact nodes line other x y =
    let place = first_one Fact nodes x.place y.place x.first y.first in
    x.line_is ∙ ap (λ p. p + 2) place ∙ sym y.line_is

number_at_one : (c : ℕ) (lines : List NodeLine) (total : ℕ) (own : List OwnLine) (line other : ℕ)
    → IsNumberAt c lines total own line → IsNumberAt c lines total own other → line ≡ other
number_at_one c lines total own line other (inl x) (inl y) = x.0 ∙ sym y.0
number_at_one c lines total own line other (inl x) (inr y) = absurd (x.1 y.0)
number_at_one c lines total own line other (inr x) (inl y) = absurd (y.1 x.0)
number_at_one c lines total own line other (inr x) (inr y) =
    first_line_one HasOwnNumbers (zip lines own) line other x.1 y.1

not_own_at : (c : ℕ) (lines : List NodeLine) (total : ℕ) (own : List OwnLine) (line : ℕ)
    → IsNumberAt c lines total own line → AreOwnNumbers c lines total own → ⊥
not_own_at c lines total own line (inl x) y = x.1 y.total_is
not_own_at c lines total own line (inr x) y =
    first_not_all HasOwnNumbers (zip lines own) x.1.place x.1.first y.each

-- what is known of all texts and plans
pub record TextLaws (q : Query) : Type 0 where
  pub formed : (text : List ℕ) (c d : ℕ) (xs ys : List NodeLine) → IsFormed q text c xs → IsFormed q text d ys
      → (c ≡ d) × (xs ≡ ys)
  pub fault : (text : List ℕ) (n m : ℕ) → HasFormFault q text n → HasFormFault q text m → n ≡ m
  pub apart : (text : List ℕ) (c : ℕ) (xs : List NodeLine) (n : ℕ) → IsFormed q text c xs → HasFormFault q text n → ⊥
  pub read : PlansAreRead q
  pub spelled : LinesAreSpelled q
  pub one : OutlinesAreOne q
  pub plan_tree : (t : Tree) → IsValid (IsMember q) q t → IsPlanTree q t
  pub known : (e : ExprParts) → IsMember q e → IsCandidate q e

module _ (q : Query) (laws : TextLaws q) (text : List ℕ) where
  -- ---- a text has one cost, one list of lines and one plan

  record AreSame (c d : ℕ) (xs ys : List NodeLine) (s t : Tree) : Type 0 where
    cost : c ≡ d
    lines : xs ≡ ys
    tree : s ≡ t

  tree_one : (xs ys : List NodeLine) (s t : Tree) → xs ≡ ys → AreLinesOf q xs s → AreLinesOf q ys t → s ≡ t
  tree_one xs ys s t lines x y =
      let all : s ∷ [] ≡ t ∷ [] = laws.one 0 (s ∷ []) (t ∷ []) (x.is_tree, tt) (y.is_tree, tt)
      (append-nil (outline 0 s) ∙ sym x.spelled ∙ ap (map sketch) lines ∙ y.spelled ∙ sym (append-nil (outline 0 t))) in
      cc

  same : (c d : ℕ) (xs ys : List NodeLine) (s t : Tree) → IsTreeText q text c xs s → IsTreeText q text d ys t
      → AreSame c d xs ys s t
  same c d xs ys s t x y =
      let parts = laws.formed text c d xs ys x.has_lines.formed y.has_lines.formed in
      record { cost = parts.0; lines = parts.1; tree = tree_one xs ys s t parts.1 x.spelled y.spelled }

  -- the lines of a good text are the plan's own
  pub good_text : {cost : ℕ} → (x : IsGoodText q text cost) → IsTreeText q text (cost_of q x.tree) (tree_lines q 0 x.tree) x.tree
  good_text x =
      let is = laws.plan_tree x.tree x.serves.valid in
      let lines = tree_lines q 0 x.tree in
      let many = as_many_spelled 0 lines x.tree (laws.spelled x.tree) in
      let few = x.few in
      record {
        has_lines = record {
          short = x.short;
          formed = subst (λ (t : List ℕ). IsFormed q t (cost_of q x.tree) lines) (sym x.text_is) (laws.read x.tree is x.few);
        };
        few = omega (arith, many, few);
        spelled = record { is_tree = is; spelled = laws.spelled x.tree; of_root = x.serves.of_group };
      }

  -- ---- no fault comes where one behind it does, or none

  pub long_not_short : IsTooLong text → length text ≤ most_bytes → ⊥
  long_not_short x y = omega (arith, x, y)

  pub unformed_not_lines : (n : ℕ) → IsUnformed q text n → {c : ℕ} {xs : List NodeLine} → HasLines q text c xs → ⊥
  unformed_not_lines n x {c} {xs} y = laws.apart text c xs n y.formed x.fault

  pub large_not_few : (n : ℕ) → IsTooLarge q text n → {c : ℕ} {xs : List NodeLine} → HasLines q text c xs
      → length xs ≤ most_nodes → ⊥
  large_not_few n x {c} {xs} y few =
      let lines = ap length (laws.formed text x.cost c x.lines xs x.has_lines.formed y.formed).1 in
      let many = x.many in
      omega (arith, lines, many, few)

  pub misfit_not_tree : (n : ℕ) → HasMisfit q text n → {c : ℕ} {xs : List NodeLine} {t : Tree} → IsTreeText q text c xs t → ⊥
  misfit_not_tree n x {c} {xs} {t} y =
      let lines = (laws.formed text x.cost c x.lines xs x.has_lines.formed y.has_lines.formed).1 in
      last_not_all (LineFits q) (tails x.lines) x.misfit.place x.misfit.last
      (subst (λ ls. All (LineFits q) (tails ls)) (sym lines) (tree_fits q xs t y.spelled))

  pub outsider_not_member : (n : ℕ) → HasOutsider q text n → {c : ℕ} {xs : List NodeLine} {t : Tree} → IsTreeText q text c xs t
      → All (IsMemberLine q) (own_lines q t) → ⊥
  outsider_not_member n x {c} {xs} {t} y members =
      let tree = (same x.cost c x.lines xs x.tree t x.is_text y).tree in
      first_not_all (IsMemberLine q) (own_lines q x.tree) x.first.place x.first.first
      (subst (λ s. All (IsMemberLine q) (own_lines q s)) (sym tree) members)

  pub unfit_not_valid : (n : ℕ) → HasUnfit q text n → {c : ℕ} {xs : List NodeLine} {t : Tree} → IsTreeText q text c xs t
      → IsValid (IsMember q) q t → ⊥
  unfit_not_valid n x {c} {xs} {t} y valid =
      let tree = (same x.cost c x.lines xs x.tree t x.is_text y).tree in
      first_not_all (RootFits q) (plans_in x.tree) x.first.place x.first.first
      (subst (λ s. All (RootFits q) (plans_in s)) (sym tree) (valid_fits q t (valid_candidates q laws.known t valid)))

  pub unmet_not_served : IsUnsatisfied q text → {c : ℕ} {xs : List NodeLine} {t : Tree} → IsTreeText q text c xs t
      → Serves (IsMember q) q (root_of q) (root_request q) t → ⊥
  unmet_not_served x {c} {xs} {t} y serves =
      let tree = (same x.cost c x.lines xs x.tree t x.is_text y).tree in
      x.unmet (subst (λ s. Satisfies q (gives q s) (root_request q)) (sym tree) serves.satisfies)

  -- the numbers of one plan and its lines are those of the other
  moved : {c d : ℕ} {xs ys : List NodeLine} {s t : Tree} (n : ℕ) → AreSame c d xs ys s t
      → IsNumberAt c xs (cost_of q s) (own_lines q s) n → IsNumberAt d ys (cost_of q t) (own_lines q t) n
  moved {c} {d} {xs} {ys} {s} {t} n is at =
      subst (λ r. IsNumberAt d ys (cost_of q r) (own_lines q r) n) is.tree
      (subst (λ ls. IsNumberAt d ls (cost_of q s) (own_lines q s) n) is.lines
      (subst (λ k. IsNumberAt k xs (cost_of q s) (own_lines q s) n) is.cost at))

  pub number_not_own : (n : ℕ) → HasNumberFault q text n → {c : ℕ} {xs : List NodeLine} {t : Tree} → IsTreeText q text c xs t
      → AreOwnNumbers c xs (cost_of q t) (own_lines q t) → ⊥
  number_not_own n x {c} {xs} {t} y own =
      not_own_at c xs (cost_of q t) (own_lines q t) n
      (moved n (same x.cost c x.lines xs x.tree t x.is_text y) x.at) own

  -- ---- a fault is told at one line

  pub unformed_one : (n m : ℕ) → IsUnformed q text n → IsUnformed q text m → n ≡ m
  unformed_one n m x y = laws.fault text n m x.fault y.fault

  pub large_one : (n m : ℕ) → IsTooLarge q text n → IsTooLarge q text m → n ≡ m
  large_one n m x y =
      x.told ∙ ap length (laws.formed text x.cost y.cost x.lines y.lines x.has_lines.formed y.has_lines.formed).1 ∙ sym y.told

  pub misfit_one : (n m : ℕ) → HasMisfit q text n → HasMisfit q text m → n ≡ m
  misfit_one n m x y =
      let lines = (laws.formed text x.cost y.cost x.lines y.lines x.has_lines.formed y.has_lines.formed).1 in
      let first = subst (λ ls. IsMisfit q ls n) lines x.misfit in
      let place = last_one (LineFits q) (tails y.lines) first.place y.misfit.place first.last y.misfit.last in
      first.line_is ∙ ap (λ p. p + 2) place ∙ sym y.misfit.line_is

  pub outsider_one : (n m : ℕ) → HasOutsider q text n → HasOutsider q text m → n ≡ m
  outsider_one n m x y =
      let tree = (same x.cost y.cost x.lines y.lines x.tree y.tree x.is_text y.is_text).tree in
      first_line_one (IsMemberLine q) (own_lines q y.tree) n m
      (subst (λ s. IsFirstLineWithout (IsMemberLine q) (own_lines q s) n) tree x.first) y.first

  pub unfit_one : (n m : ℕ) → HasUnfit q text n → HasUnfit q text m → n ≡ m
  unfit_one n m x y =
      let tree = (same x.cost y.cost x.lines y.lines x.tree y.tree x.is_text y.is_text).tree in
      first_line_one (RootFits q) (plans_in y.tree) n m
      (subst (λ s. IsFirstLineWithout (RootFits q) (plans_in s) n) tree x.first) y.first

  pub number_one : (n m : ℕ) → HasNumberFault q text n → HasNumberFault q text m → n ≡ m
  number_one n m x y =
      number_at_one y.cost y.lines (cost_of q y.tree) (own_lines q y.tree) n m
      (moved n (same x.cost y.cost x.lines y.lines x.tree y.tree x.is_text y.is_text) x.at) y.at

  pub cost_one : (c d : ℕ) → IsGoodText q text c → IsGoodText q text d → c ≡ d
  cost_one c d x y =
      x.cost_is
      ∙ (same (cost_of q x.tree) (cost_of q y.tree) (tree_lines q 0 x.tree) (tree_lines q 0 y.tree) x.tree y.tree
      (good_text x) (good_text y)).cost ∙ sym y.cost_is
