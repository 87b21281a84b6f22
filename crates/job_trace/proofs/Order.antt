-- Words that ascend have keys that do not fall.
use Rattle.std.proofs.Common.{◌≡◌, ℕ, ◌<◌, ◌≤◌, inl, inr, List, get_or, length, sym, subst, ◌∙◌, ap, arith}
use Rattle.std.specs.List.Sorted.{IsNonDecreasingBy, IsStrictlyIncreasing}
use Rattle.std.proofs.lemmas.Bool.{cases_eq, cases_lt}
use Rattle.std.proofs.lemmas.List.{get_or-map, length-map}
use Rattle.std.proofs.lemmas.List.Kept.{AllPairs-from_increasing}
use Rattle.query_core.specs.Expressions.{word_of, IsPacked, HasWord, IsCandidate}
use Rattle.query_core.specs.declared.expressions.ExprParts.{ExprParts}
use Rattle.query_core.specs.declared.query.Query.{Query}
use Rattle.job_trace.specs.Memo.{AreMembers}
use Rattle.job_trace.specs.Lines.{StandByGroup}
use Rattle.goal_children.specs.GroupMembers.{AreOfWords}
use Rattle.job_trace.proofs.ByGroup.{key_of}

-- the words of groups stand in the order of their keys
abbrev pub AreOrdered : Type 0
AreOrdered = (e f : ExprParts) → IsPacked e → IsPacked f → key_of e < key_of f → word_of e < word_of f

-- so a lesser word has no greater key
key_rises : AreOrdered → (e f : ExprParts) → IsPacked e → IsPacked f → word_of e < word_of f → key_of e ≤ key_of f
key_rises ordered e f in_e in_f less = elim (cases_lt (key_of f) (key_of e)) [
  | inl greater ↦ absurd (omega (arith, less, ordered f e in_f in_e greater))
  | inr fine ↦ fine
]

-- where the parts of candidates fit, members have their words
pub have_words : (q : Query) (words : List ℕ) (es : List ExprParts) → ((e : ExprParts) → IsCandidate q e → IsPacked e)
    → AreMembers q words es → AreOfWords words es
have_words q words es packed are = record {
  numbers = are.numbers;
  packed = λ k d within. packed _ (are.candidates k d within);
}

module _ (words : List ℕ) (es : List ExprParts) (have : AreOfWords words es) where
  -- as many words as expressions
  pub as_many : length words ≡ length es
  as_many = ap length (sym have.numbers) ∙ length-map es word_of

  -- each word is that of the expression at its place
  pub word_at : (i : ℕ) (d : ExprParts) → i < length es → HasWord (get_or words i 0) (get_or es i d)
  word_at i d within = record {
    packed = have.packed i d within;
    number = sym (get_or-map word_of es i d 0 within) ∙ ap (λ ws. get_or ws i 0) have.numbers;
  }

  -- keys do not fall along ascending words
  keys_ascend : AreOrdered → IsStrictlyIncreasing words → IsNonDecreasingBy key_of es
  keys_ascend ordered ascending i j d order within = elim (cases_eq i j) [
    | inl same ↦ subst (λ k. key_of (get_or es i d) ≤ key_of (get_or es k d)) same (omega arith)
    | inr apart ↦
        let first = word_at i d (omega (arith, order, within)) in
        let second = word_at j d within in
        let less : get_or words i 0 < get_or words j 0 =
        AllPairs-from_increasing words ascending i j 0 (omega (arith, order, apart))
        (omega (arith, as_many, within)) in
        key_rises ordered (get_or es i d) (get_or es j d) first.packed second.packed
        (omega (arith, first.number, second.number, less))
  ]

-- so members of ascending words stand group by group
pub stand_by_group : (q : Query) (words : List ℕ) (es : List ExprParts)
    → ((e : ExprParts) → IsCandidate q e → IsPacked e) → AreOrdered → AreMembers q words es → StandByGroup q es
stand_by_group q words es packed ordered are = record {
  candidates = are.candidates;
  ascending = keys_ascend words es (have_words q words es packed are) ordered are.ascending;
}
