-- Laws of lists of the sets of equalities that have one of some columns.
use Rattle.std.proofs.Common.{◌≡◌, inl, inr, ℕ, ◌+◌, ◌<◌, List, [], ◌∷◌, ◌++◌, Option, None, Some, length}
use Rattle.std.proofs.Common.{length-append, get_or, arith, ap, sym, subst, ◌∙◌}
use Rattle.std.specs.Prelude.{IfSome}
use Rattle.std.proofs.lemmas.Bool.{cases_lt}
use Rattle.std.proofs.lemmas.List.{get_or_append_left}
use Rattle.std.proofs.Math.Seq.{get_or-append_seam}
use Rattle.query_core.specs.declared.query.Query.{Query}
use Rattle.query_core.specs.declared.words.KeyParts.{KeyParts}
use Rattle.request_props.specs.Ends.{AreEnds, AreEndsOf, HasColumn}
use Rattle.request_props.specs.declared.tables.ends.EqualityEnds.{EqualityEnds}

module _ (q : Query) (IsOneAt : ℕ → ℕ → Type 0) where
  -- and of one more
  pub ends_push : (list new : List EqualityEnds) (n : ℕ) (ends : EqualityEnds) → new ≡ list ++ ends ∷ []
      → AreEnds q IsOneAt n list → AreEndsOf q (IsOneAt n) ends
      → AreEnds q IsOneAt (n + 1) new
  ends_push list new n ends grown before is =
      let longer : length new ≡ length list + 1 = ap length grown ∙ length-append list (ends ∷ []) in
      record {
        count = omega (arith, longer, before.count);
        each = λ k d within. elim (cases_lt k n) [
          | inl below ↦
              let same : get_or new k d ≡ get_or list k d =
              rw grown (get_or_append_left list (ends ∷ []) d k (omega (arith, below, before.count))) in
              subst (AreEndsOf q (IsOneAt k)) (sym same) (before.each k d (omega (arith, below, before.count)))
          | inr above ↦
              let last : length list ≡ k = omega (arith, above, within, longer, before.count) in
              let at_end : get_or new (length list) d ≡ ends = rw grown (get_or-append_seam list ends [] d) in
              let own : get_or new k d ≡ ends = subst (λ (m : ℕ). get_or new m d ≡ ends) last at_end in
              subst (AreEndsOf q (IsOneAt k)) (sym own)
              (subst (λ (m : ℕ). AreEndsOf q (IsOneAt m) ends) (sym before.count ∙ last) is)
        ];
      }

  -- what stands at a place of the list is of that place
  pub ends_found : (count : ℕ) (known list : List EqualityEnds) → list ≡ known → AreEnds q IsOneAt count known
      → (place : ℕ) (found : Option EqualityEnds)
      → IfSome found (λ ends. (d : EqualityEnds) → (place < length list) × (get_or list place d ≡ ends))
      → IfSome found (AreEndsOf q (IsOneAt place))
  ends_found count known list same are place None at = tt
  ends_found count known list same are place (Some ends) at =
      let (within, is) = at ends in
      subst (AreEndsOf q (IsOneAt place)) is ((subst (AreEnds q IsOneAt count) (sym same) are).each place ends within)

-- in a list by the numbers of groups it is of the group
pub group_found : (q : Query) (GroupAt : ℕ → KeyParts) (group : KeyParts) (place : ℕ) → group ≡ GroupAt place
    → (count : ℕ) (known list : List EqualityEnds) → list ≡ known
    → AreEnds q (λ k. HasColumn q (GroupAt k)) count known → (found : Option EqualityEnds)
    → IfSome found (λ ends. (d : EqualityEnds) → (place < length list) × (get_or list place d ≡ ends))
    → IfSome found (AreEndsOf q (HasColumn q group))
group_found q GroupAt group place is count known list same are found at =
    subst (λ g. IfSome found (AreEndsOf q (HasColumn q g))) (sym is)
    (ends_found q (λ k. HasColumn q (GroupAt k)) count known list same are place found at)
