-- What all lists of members have in common.
use Rattle.std.proofs.Common.{◌≡◌, ℕ, zero, suc, ◌+◌, ◌<◌, inl, inr, List, [], ◌∷◌, Option, Some, None, All, map}
use Rattle.std.proofs.Common.{length, refl, sym, subst, ap, arith, eq-eqb, ne_eqb}
use Rattle.std.specs.List.Sorted.{IsStrictlyIncreasing}
use Rattle.std.proofs.lemmas.Bool.{cases_eq}
use Rattle.std.proofs.lemmas.List.Elements.{All-cons, All-head, All-tail}
use Rattle.query_core.specs.Keys.{key_number}
use Rattle.query_core.specs.Expressions.{word_of, IsPacked, IsCandidate, IsCandidateWord}
use Rattle.query_core.specs.declared.query.Query.{Query}
use Rattle.query_core.specs.declared.expressions.ExprParts.{ExprParts}
use Rattle.goal_children.proofs.OneList.{one_list}
use Rattle.job_trace.specs.Memo.{AreMembers, groups_of, memo_section}
use Rattle.job_trace.proofs.ByGroup.{key_of, AreFrom, others, lines_from, count_from, each_once, count_all}
use Rattle.job_trace.proofs.ByGroup.{all_by_group}

-- each word has its expression
there : (q : Query) (words : List ℕ) → All (IsCandidateWord q) words → (es : List ExprParts) × (map word_of es ≡ words)
    × All (IsCandidate q) es
there q [] all = ([], refl, λ k d within. absurd (omega (arith, within)))
there q (word ∷ words) all =
    let (e, candidate, number) = All-head (IsCandidateWord q) word words all in
    let (es, numbers, candidates) = there q words (All-tail (IsCandidateWord q) word words all) in
    (e ∷ es, cc, All-cons (IsCandidate q) e es candidate candidates)

-- and ascending words are those of members
pub members_there : (q : Query) (words : List ℕ) → All (IsCandidateWord q) words → IsStrictlyIncreasing words
    → (es : List ExprParts) × AreMembers q words es
members_there q words all ascending =
    let found = there q words all in
    (found.0, record { numbers = found.1; candidates = found.2; ascending = ascending })

-- where a word is that of one expression, a list of words is that of one list
pub members_one : ((e f : ExprParts) → IsPacked e → IsPacked f → word_of e ≡ word_of f → e ≡ f)
    → (es fs : List ExprParts) → All IsPacked es → All IsPacked fs
    → map word_of es ≡ map word_of fs → es ≡ fs
members_one = one_list word_of IsPacked

-- a lesser number may come first
rises_more : (first second : ℕ) (numbers : List ℕ) → first < second → IsStrictlyIncreasing (second ∷ numbers)
    → IsStrictlyIncreasing (first ∷ (second ∷ numbers))
rises_more first second numbers less rises zero within = less
rises_more first second numbers less rises (suc k) within =
    let next : suc k + 1 ≡ suc (k + 1) = omega arith in
    rw next (rises k (omega (arith, within)))

-- the keys of the groups behind members of a key rise
rises : (k : ℕ) (es : List ExprParts) → AreFrom k es → IsStrictlyIncreasing (k ∷ map key_number (others k es))
rises k [] from = λ j within. absurd (omega (arith, within))
rises k (e ∷ es) from = elim (cases_eq (key_of e) k) [
  | inl same ↦ rw (eq-eqb _ _ same) (rises k es (subst (λ x. AreFrom x es) same from.1))
  | inr other ↦ rw (ne_eqb _ _ other) (rises_more k (key_of e) _ (omega (arith, other, from.0))
      (rises (key_of e) es from.1))
]

-- so the keys of all groups rise
pub groups_rise : (es : List ExprParts) → AreFrom 0 es → IsStrictlyIncreasing (map key_number (groups_of es))
groups_rise [] from = λ j within. absurd (omega (arith, within))
groups_rise (e ∷ es) from = subst (λ gs. IsStrictlyIncreasing (map key_number gs)) (sym (each_once e.group es))
    (rises (key_of e) es from.1)

-- each member that is left has a line, and each group that begins has one
lines_left : (q : Query) (before : Option ℕ) (es : List ExprParts)
    → length (lines_from q before es) ≡ count_from before es + length es
lines_left q before [] = refl
lines_left q None (e ∷ es) = omega (arith, lines_left q (Some (key_of e)) es)
lines_left q (Some last) (e ∷ es) = elim (cases_eq (key_of e) last) [
  | inl same ↦ rw (eq-eqb _ _ same) (omega (arith, lines_left q (Some (key_of e)) es))
  | inr other ↦ rw (ne_eqb _ _ other) (omega (arith, lines_left q (Some (key_of e)) es))
]

-- so the text has a line for each
pub lines_each : (q : Query) (es : List ExprParts) → AreFrom 0 es
    → length (memo_section q es) ≡ 1 + length (groups_of es) + length es
lines_each q es from = omega (arith, ap length (all_by_group q es from), lines_left q None es, count_all es)
