-- The physical expressions of a group, as they are found among its words, one after the other.
use Rattle.std.proofs.Common.{◌≡◌, inl, inr, ℕ, ◌+◌, ◌<◌, ◌≤◌, List, [], ◌∷◌, ◌++◌, length, map, get_or, refl, ap}
use Rattle.std.proofs.Common.{subst, sym, ◌∙◌, arith}
use Rattle.std.specs.List.{All, Contains}
use Rattle.std.specs.List.Sorted.{IsStrictlyIncreasing}
use Rattle.std.proofs.lemmas.Bool.{cases_lt}
use Rattle.std.proofs.lemmas.List.{get_or_default, map-append}
use Rattle.std.proofs.lemmas.List.Elements.{All-push, Contains-append_left, Contains-push, Contains-push_cases}
use Rattle.std.proofs.lemmas.Map.Keys.{sorted_from_strictly_increasing, below_from_sorted}
use Rattle.query_core.specs.Expressions.{expr_of, word_of, IsCandidate, IsPacked, HasWord}
use Rattle.query_core.specs.declared.query.Query.{Query}
use Rattle.query_core.specs.declared.words.KeyParts.{KeyParts}
use Rattle.query_core.specs.declared.expressions.ExprParts.{ExprParts}
use Rattle.query_core.specs.declared.expressions.Operator.TheVariants as operators
use Rattle.query_core.specs.declared.expressions.Physical.{Physical}
use Rattle.query_core.specs.declared.expressions.PhysicalExpr.{PhysicalExpr}
use Rattle.query_core.proofs.Rising.{rises_push}
use Rattle.request_props.specs.Candidates.{with_word, AreCandidatesOf, IsPhysicalOf, ArePhysicalOf}
use Rattle.request_props.specs.Filling.{AddsPhysical}
use Rattle.request_props.specs.declared.tables.physical.PhysicalCandidate.{PhysicalCandidate}

-- the words of these
abbrev pub words_in : List PhysicalCandidate → List ℕ
words_in found = map (λ one. one.word) found

-- no two physical expressions are one expression
same_physical : (e other : PhysicalExpr) → expr_of e ≡ expr_of other → e ≡ other
same_physical e other same =
    let groups : e.group ≡ other.group = ap (λ (x : ExprParts). x.group) same in
    let both : operators.Physical e.operator ≡ operators.Physical other.operator =
    ap (λ (x : ExprParts). x.operator) same in
    let own : e.operator ≡ other.operator = cc in
    ap (λ (g : KeyParts). let x : PhysicalExpr = record { group = g; operator = e.operator } in x) groups
    ∙ ap (λ (o : Physical). let x : PhysicalExpr = record { group = other.group; operator = o } in x) own

module _ (q : Query) (group : KeyParts) (words : List ℕ) where
  -- the physical expressions of the words before this place, and no others
  pub record AreFoundBelow (place : ℕ) (found : List PhysicalCandidate) : Type 0 where
    pub ascending : IsStrictlyIncreasing (words_in found)
    pub sound : All (IsPhysicalOf q group) found
    pub passed : (word : ℕ) → Contains (words_in found) word → (k : ℕ) × (k < place) × (get_or words k 0 ≡ word)
    pub complete : (e : PhysicalExpr) → IsCandidate q (expr_of e) → (k : ℕ) → k < place
        → get_or words k 0 ≡ word_of (expr_of e) → Contains found (with_word e)

  pub none_found : AreFoundBelow 0 []
  none_found = record {
    ascending = λ k within. absurd (omega (arith, within));
    sound = λ k d within. absurd (omega (arith, within));
    passed = λ word (k, within, is). absurd (omega (arith, within));
    complete = λ e candidate k below. absurd (omega (arith, below));
  }

  module _ (are : AreCandidatesOf q group words) where
    -- where the words end, they are all
    pub all_physical : (place : ℕ) (found : List PhysicalCandidate) → AreFoundBelow place found → length words ≤ place
        → ArePhysicalOf q group found
    all_physical place found so_far past = record {
      ascending = so_far.ascending;
      sound = so_far.sound;
      complete = λ e candidate of_group.
          let (k, within, is) = are.complete (word_of (expr_of e)) (expr_of e, candidate, of_group, refl) in
          so_far.complete e candidate k (omega (arith, within, past))
          (get_or_default words k 0 (word_of (expr_of e)) within ∙ is);
    }

    module _ (packed : (e : ExprParts) → IsCandidate q e → IsPacked e) (one : (e other : ExprParts) → IsPacked e
        → IsPacked other → word_of e ≡ word_of other → e ≡ other)
        (place : ℕ) (within : place < length words) (found : List PhysicalCandidate)
        (so_far : AreFoundBelow place found) where
      -- the expression of the word at the place has no other
      same_here : (e : PhysicalExpr) → IsCandidate q (expr_of e) → get_or words place 0 ≡ word_of (expr_of e)
          → (x : ExprParts) → HasWord (get_or words place 0) x → expr_of e ≡ x
      same_here e candidate is x has = one (expr_of e) x (packed (expr_of e) candidate) has.packed (sym is
          ∙ sym has.number)

      -- the word here is that of no physical expression
      none_more : ((e : PhysicalExpr) → HasWord (get_or words place 0) (expr_of e) → ⊥)
          → AreFoundBelow (place + 1) found
      none_more none = record {
        ascending = so_far.ascending;
        sound = so_far.sound;
        passed = λ word there. let (k, below, is) = so_far.passed word there in (k, omega (arith, below), is);
        complete = λ e candidate k below is. elim (cases_lt k place) [
          | inl less ↦ so_far.complete e candidate k less is
          | inr more ↦
              let here : k ≡ place = omega (arith, below, more) in
              let at : get_or words place 0 ≡ word_of (expr_of e) =
              subst (λ (n : ℕ). get_or words n 0 ≡ word_of (expr_of e)) here is in
              absurd (none e (record { packed = packed (expr_of e) candidate; number = sym at }))
        ];
      }

      -- or of this one
      one_more : (new : PhysicalExpr) → HasWord (get_or words place 0) (expr_of new)
          → AreFoundBelow (place + 1) (found ++ with_word new ∷ [])
      one_more new has =
          let (e, candidate, of_group, number) = are.sound place 0 within in
          let same : e ≡ expr_of new = one e (expr_of new) (packed e candidate) has.packed (number ∙ sym has.number) in
          record {
            ascending = subst IsStrictlyIncreasing (sym
                (map-append (λ (c : PhysicalCandidate). c.word) found (with_word new ∷ [])))
                (rises_push (words_in found) (word_of (expr_of new)) so_far.ascending (λ word there.
                let (k, below, is) = so_far.passed word there in
                let less = below_from_sorted words k place 0 (sorted_from_strictly_increasing words are.ascending) below
                within in
                omega (arith, less, is, has.number)));
            sound = All-push (IsPhysicalOf q group) found (with_word new) so_far.sound
                (record {
                  candidate = subst (IsCandidate q) same candidate;
                  of_group = sym (ap (λ (x : ExprParts). x.group) same) ∙ of_group;
                  number = refl;
                });
            passed = λ word there. elim (Contains-push_cases (words_in found) (word_of (expr_of new)) word
                (subst (λ (xs : List ℕ). Contains xs word)
                (map-append (λ (c : PhysicalCandidate). c.word) found (with_word new ∷ [])) there)) [
                  | inl old ↦ let (k, below, is) = so_far.passed word old in (k, omega (arith, below), is)
                  | inr last ↦ (place, omega arith, sym has.number ∙ last)
                ];
            complete = λ x is_candidate k below is. elim (cases_lt k place) [
              | inl less ↦ Contains-append_left found (with_word new ∷ []) (with_word x)
                  (so_far.complete x is_candidate k less is)
              | inr more ↦
                  let here : k ≡ place = omega (arith, below, more) in
                  let at : get_or words place 0 ≡ word_of (expr_of x) =
                  subst (λ (n : ℕ). get_or words n 0 ≡ word_of (expr_of x)) here is in
                  let both : x ≡ new = same_physical x new (same_here x is_candidate at (expr_of new) has) in
                  subst (λ (y : PhysicalExpr). Contains (found ++ with_word new ∷ []) (with_word y)) (sym both)
                  (Contains-push found (with_word new))
            ];
          }

      -- the word here is gone over
      pub found_more : (new : List PhysicalCandidate) → AddsPhysical (get_or words place 0) found new
          → AreFoundBelow (place + 1) new
      found_more new (inl (none, same)) = subst (AreFoundBelow (place + 1)) (sym same) (none_more none)
      found_more new (inr (e, has, grown)) = subst (AreFoundBelow (place + 1)) (sym grown) (one_more e has)
