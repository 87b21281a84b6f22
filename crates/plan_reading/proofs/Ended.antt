-- Lines are ended by the first newline.
use Rattle.std.proofs.Common.{◌≡◌, ℕ, ◌<◌, ◌^◌, true, List, ◌∷◌, ◌++◌, take, drop, refl, sym, ap, ◌∙◌, append_assoc}
use Rattle.std.proofs.Common.{decimal}
use Rattle.std.specs.Prelude.{codes}
use Rattle.std.specs.List.{list_all, prefix_len}
use Rattle.std.proofs.lemmas.Bool.Decides.{nat_tests}
use Rattle.std.proofs.lemmas.List.{take-append-drop}
use Rattle.std.proofs.lemmas.List.Folds.{list_all-append}
use Rattle.std.proofs.Common.{arith}
use Rattle.plan_reading.proofs.Fronts.{front_passes, left_again}
use Rattle.query_core.specs.declared.query.Query.{Query}
use Rattle.plan_lines.specs.Text.{indent, cost_line}
use Rattle.plan_reading.specs.Named.{named_text}
use Rattle.plan_reading.specs.Lines.{line_text}
use Rattle.plan_reading.specs.Reading.{is_bare, is_inner, IsCutAt}
use Rattle.plan_reading.specs.Formed.{HasCost}
use Rattle.plan_reading.specs.declared.line.NodeLine.{NodeLine}
use Rattle.plan_reading.proofs.Bare.{named_bare}
use Rattle.plan_reading.proofs.BareWords.{IsBare, weaker, decimal_bare}
use Rattle.plan_reading.proofs.Cuts.{cut_once}
use Rattle.plan_reading.proofs.LineTexts.{unended, indent_bare}

-- ---- what has no newline

abbrev IsInner : List ℕ → Type 0
IsInner text = list_all is_inner text ≡ true

bare_inner : (b : ℕ) → is_bare b ≡ true → is_inner b ≡ true
bare_inner b h = grind (arith, nat_tests)

pub inner_append : (xs ys : List ℕ) → IsInner xs → IsInner ys → IsInner (xs ++ ys)
inner_append xs ys in_xs in_ys = rw (list_all-append is_inner xs ys, in_xs, in_ys) refl

pub inner_from : (xs : List ℕ) → IsBare xs → IsInner xs
inner_from xs bare = weaker is_bare is_inner bare_inner xs bare

inner_parts : (s n : List ℕ) (r c : ℕ) → IsBare s → IsBare n → IsInner (unended s n r c)
inner_parts s n r c s_bare n_bare =
    inner_append ((((s ++ n) ++ codes " rows=") ++ decimal r) ++ codes " cost=") (decimal c)
    (inner_append (((s ++ n) ++ codes " rows=") ++ decimal r) (codes " cost=")
    (inner_append ((s ++ n) ++ codes " rows=") (decimal r)
    (inner_append (s ++ n) (codes " rows=") (inner_append s n (inner_from s s_bare) (inner_from n n_bare)) refl)
    (inner_from (decimal r) (decimal_bare r))) refl) (inner_from (decimal c) (decimal_bare c))

-- a line without its newline
abbrev pub before_end : Query → NodeLine → List ℕ
before_end q line = unended (indent line.level) (named_text q line.node) line.rows line.cost

pub inner_line : (q : Query) (line : NodeLine) → IsInner (before_end q line)
inner_line q line =
    inner_parts (indent line.level) (named_text q line.node) line.rows line.cost (indent_bare line.level) (named_bare q line.node)

pub cost_inner : (cost : ℕ) → IsInner (codes "cost " ++ decimal cost)
cost_inner cost = inner_append (codes "cost ") (decimal cost) refl (inner_from (decimal cost) (decimal_bare cost))

-- ---- lines before others

pub line_and : (q : Query) (line : NodeLine) (rest : List ℕ) → line_text q line ++ rest ≡ before_end q line ++ (10 ∷ rest)
line_and q line rest = append_assoc (before_end q line) (codes "\n") rest

pub cost_and : (cost : ℕ) (rest : List ℕ) → cost_line cost ++ rest ≡ (codes "cost " ++ decimal cost) ++ (10 ∷ rest)
cost_and cost rest = append_assoc (codes "cost " ++ decimal cost) (codes "\n") rest

-- ---- cuts

-- a text is cut in one way
pub cut_same : (text a b r s : List ℕ) → IsCutAt text a r → IsCutAt text b s → (a ≡ b) × (r ≡ s)
cut_same text a b r s x y =
    let parts = cut_once is_inner a b (10 ∷ r) (10 ∷ s) x.inner y.inner refl refl (sym x.whole ∙ y.whole) in
    (parts.0, ap (drop 1) parts.1)

-- at the end of the longest front without a newline
pub cut_found : (text line end rest : List ℕ) (n : ℕ) → n ≡ prefix_len is_inner text → line ≡ take n text
    → end ≡ drop n text → end ≡ 10 ∷ rest → IsCutAt text line rest
cut_found text line end rest n long front back newline = record {
  inner = ap (list_all is_inner) (front ∙ ap (λ (k : ℕ). take k text) long) ∙ front_passes is_inner text;
  whole = sym (take-append-drop n text) ∙ ap (λ (t : List ℕ). t ++ drop n text) (sym front)
      ∙ ap (λ (t : List ℕ). line ++ t) (sym back ∙ newline);
}

pub cut_end : (text line end rest : List ℕ) (n : ℕ) → n ≡ prefix_len is_inner text → end ≡ drop n text
    → IsCutAt text line rest → end ≡ 10 ∷ rest
cut_end text line end rest n long back cut =
    back ∙ ap (λ (k : ℕ). drop k text) long
    ∙ ap (λ (t : List ℕ). drop (prefix_len is_inner t) t) cut.whole ∙ left_again is_inner line (10 ∷ rest) cut.inner refl

-- ---- the first line

-- the line of a cost is cut off
pub cost_cut : (text : List ℕ) (cost : ℕ) (rest : List ℕ) → HasCost text cost rest
    → IsCutAt text (codes "cost " ++ decimal cost) rest
cost_cut text cost rest is = record { inner = cost_inner cost; whole = is.begins ∙ cost_and cost rest }

-- so is its number
pub cost_digits : (text line rest digits : List ℕ) (cost : ℕ) (more : List ℕ) → IsCutAt text line rest
    → line ≡ codes "cost " ++ digits → HasCost text cost more → digits ≡ decimal cost
cost_digits text line rest digits cost more cut is has =
    ap (drop 5) (sym is ∙ (cut_same text line (codes "cost " ++ decimal cost) rest more cut (cost_cut text cost more has)).0)

pub cost_line_is : (text line rest : List ℕ) (cost : ℕ) (more : List ℕ) → IsCutAt text line rest → HasCost text cost more
    → line ≡ codes "cost " ++ decimal cost
cost_line_is text line rest cost more cut has =
    (cut_same text line (codes "cost " ++ decimal cost) rest more cut (cost_cut text cost more has)).0

pub cost_found : (text line rest digits : List ℕ) (cost : ℕ) → IsCutAt text line rest → line ≡ codes "cost " ++ digits
    → digits ≡ decimal cost → cost < 2 ^ 64 → HasCost text cost rest
cost_found text line rest digits cost cut is written fits = record {
  fits = fits;
  begins = cut.whole ∙ ap (λ (t : List ℕ). t ++ (10 ∷ rest)) (is ∙ ap (λ (t : List ℕ). codes "cost " ++ t) written)
      ∙ sym (cost_and cost rest);
}
