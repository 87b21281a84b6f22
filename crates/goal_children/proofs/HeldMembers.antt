-- The members of a group that are held.
use Rattle.std.proofs.Common.{◌≡◌, ℕ, ◌+◌, ◌<◌, List, [], ◌∷◌, ◌++◌, All, map, length, get_or, take, refl, sym, subst}
use Rattle.std.proofs.Common.{ap, ◌∙◌, arith}
use Rattle.std.specs.List.{Contains}
use Rattle.std.proofs.lemmas.List.{get_or-map, length-map, map-append, take_more}
use Rattle.std.proofs.lemmas.List.Elements.{All-contains, All-push}
use Rattle.query_core.specs.Expressions.{word_of, IsCandidate, IsCandidateWord, IsPacked, IsWord}
use Rattle.query_core.specs.declared.query.Query.{Query}
use Rattle.query_core.specs.declared.words.KeyParts.{KeyParts}
use Rattle.query_core.specs.declared.expressions.ExprParts.{ExprParts}
use Rattle.goal_children.specs.GroupMembers.{AreOfWords, AreOwnWords, AreExpressionsOf}
use Rattle.goal_children.proofs.First.{known_word}

-- of no words
pub no_members : AreOfWords [] []
no_members = record { numbers = refl; packed = λ k d within. absurd (omega (arith, within)) }

-- with the expression of one more word
pub one_more_member : (words : List ℕ) (i : ℕ) (es : List ExprParts) (known : ExprParts) → i < length words
    → IsPacked known → word_of known ≡ get_or words i 0
    → AreOfWords (take i words) es → AreOfWords (take (i + 1) words) (es ++ known ∷ [])
one_more_member words i es known within packed number are = record {
  numbers = map-append word_of es (known ∷ []) ∙ ap (λ ws. ws ++ word_of known ∷ []) are.numbers
      ∙ ap (λ w. take i words ++ w ∷ []) number ∙ sym (take_more words i 0 within);
  packed = All-push IsPacked es known are.packed packed;
}

-- the expressions of the group's own words are its own
pub own_members : (words : List ℕ) (group : KeyParts) (own : List ℕ) (es : List ExprParts) → AreOfWords own es
    → AreOwnWords words group own → AreExpressionsOf words group es
own_members words group own es are of_group =
    record { packed = are.packed; own = subst (AreOwnWords words group) (sym are.numbers) of_group }

module _ (q : Query) (packed : (e : ExprParts) → IsCandidate q e → IsPacked e) where
  -- words of candidates are words of expressions
  pub known_words : (words : List ℕ) → All (IsCandidateWord q) words → All IsWord words
  known_words words candidates k d within = known_word q packed (get_or words k d) (candidates k d within)

  -- where a word is that of one expression, an expression of a candidate's word is the candidate
  candidate_one : ((e f : ExprParts) → IsPacked e → IsPacked f → word_of e ≡ word_of f → e ≡ f) → (e : ExprParts)
      → IsPacked e → IsCandidateWord q (word_of e) → IsCandidate q e
  candidate_one one e fits (f, candidate, number) =
      subst (IsCandidate q) (one f e (packed f candidate) fits number) candidate

  -- so a group's expressions among words of candidates are candidates
  pub own_are_candidates : ((e f : ExprParts) → IsPacked e → IsPacked f → word_of e ≡ word_of f → e ≡ f)
      → (words : List ℕ) (group : KeyParts) (es : List ExprParts)
      → All (IsCandidateWord q) words → AreExpressionsOf words group es → All (IsCandidate q) es
  own_are_candidates one words group es candidates are k d within =
      let e = get_or es k d in
      let inside : k < length (map word_of es) = omega (arith, within, length-map es word_of) in
      let there : Contains (map word_of es) (word_of e) = (k, inside, get_or-map word_of es k d (word_of e) within) in
      candidate_one one e (are.packed k d within)
      (All-contains (IsCandidateWord q) words (word_of e) candidates (are.own.part (word_of e) there))
