-- Joins that JoinAssociate alone leads to: beginnings that overlap grow together, so the farthest one decides.
use Rattle.std.proofs.Common.{◌≡◌, ℕ, ◌-◌, ◌≤◌, sym, subst, arith, inl, inr, ◌↔◌}
use Rattle.std.specs.Prelude.{◌≢◌}
use Rattle.std.proofs.lemmas.Bool.{cases_eq, cases_lt}
use Rattle.query_core.specs.Connected.{AreLinked}
use Rattle.query_core.specs.declared.query.Query.{Query}
use Rattle.xform_rules.specs.OneOrder.{IsCutTo, CutsDownTo, begun, less, SplitsAfter, cut, associated, IsFarthest}
use Rattle.xform_rules.proofs.Beginnings.{cut_one, begins_le, begins_then, begins_next, begins_both, splits_begins}
use Rattle.xform_rules.proofs.Beginnings.{linked_wider}

module _ (q : Query) where
  -- two overlapping runs of tables are joined together
  overlap : (a end m l : ℕ) → SplitsAfter q end a → CutsDownTo q l a → CutsDownTo q end l → CutsDownTo q m end → end ≢ m
      → l ≢ end → SplitsAfter q m l
      → SplitsAfter q m a
  overlap a end m l run first second third differs apart (cut s p cuts) =
      absurd (apart (omega (
        arith,
        begins_le q l end (begins_next q m l end cuts third differs),
        begins_le q end l second,
      )))
  overlap a end m l run first second third differs apart (associated s j p outer within linked) =
      let begins_j = (splits_begins q m j outer).0 in
      let begins_l = (splits_begins q j l within).0 in
      elim (cases_eq j end) [
        | inl same ↦
            let to_end : SplitsAfter q m end = subst (SplitsAfter q m) same outer in
            let link : AreLinked q.links (end - l) (m - end) =
            subst (λ x. AreLinked q.links (x - l) (m - x)) same linked in
            associated m end a to_end run (linked_wider q end l a (m - end) second first link)
        | inr other ↦ elim (cases_lt j end) [
          | inl shorter ↦
              overlap a end m j run (begins_then q j l a begins_l first)
              (begins_both q m j end begins_j third (omega (arith, shorter))) third differs other outer
          | inr longer ↦
              let end_in_j : CutsDownTo q j end = begins_both q m end j third begins_j longer in
              associated m j a outer (overlap a end j l run first second end_in_j (λ same. other (sym same)) apart
              within)
              (linked_wider q j l a (m - j) begins_l first linked)
        ]
      ]

  module _ (set next end a : ℕ) (cuts : IsCutTo q set next) (begins : CutsDownTo q next end) (run : SplitsAfter q end a)
      (most : (p : ℕ) → CutsDownTo q next p → SplitsAfter q p a → p ≤ end) where
    -- a join that begins inside the farthest run is reached over that run's end
    over_end : (l : ℕ) → CutsDownTo q l a → CutsDownTo q end l → l ≢ end → SplitsAfter q set l → SplitsAfter q set end
        × AreLinked q.links (end - l) (set - end)
    over_end l first second apart (cut s p own) =
        absurd (apart (omega (
          arith,
          cut_one q set l next own cuts,
          begins_le q next end begins,
          begins_le q end l second,
        )))
    over_end l first second apart (associated s m p outer within linked) =
        let own = splits_begins q set m outer in
        let begins_m : CutsDownTo q next m = begins_next q set next m cuts own.0
        (λ same. absurd (omega (arith, same, own.1))) in
        let begins_l = (splits_begins q m l within).0 in
        elim (cases_eq m end) [
          | inl same ↦ (
            subst (SplitsAfter q set) same outer,
            subst (λ x. AreLinked q.links (x - l) (set - x)) same linked,
          )
          | inr other ↦ elim (cases_lt m end) [
            | inl shorter ↦
                let m_in_end : CutsDownTo q end m = begins_both q next m end begins_m begins (omega (arith, shorter)) in
                let over = over_end m (begins_then q m l a begins_l first) m_in_end other outer in
                (over.0, linked_wider q end m l (set - end) m_in_end begins_l over.1)
            | inr longer ↦
                let end_in_m : CutsDownTo q m end = begins_both q next end m begins begins_m longer in
                let whole : SplitsAfter q m a = overlap a end m l run first second end_in_m (λ same. other (sym same))
                apart within in
                absurd (other (omega (arith, most m begins_m whole, longer)))
          ]
        ]

    -- so a join of the set after the part is reached over it
    pub over_farthest : a ≢ next → SplitsAfter q set a → SplitsAfter q set end × AreLinked q.links (end - a) (set - end)
    over_farthest differs (cut s p own) = absurd (differs (cut_one q set a next own cuts))
    over_farthest differs (associated s l p outer within linked) =
        let own = splits_begins q set l outer in
        let begins_l : CutsDownTo q next l = begins_next q set next l cuts own.0
        (λ same. absurd (omega (arith, same, own.1))) in
        let begins_a = (splits_begins q l a within).0 in
        elim (cases_eq l end) [
          | inl same ↦ (
            subst (SplitsAfter q set) same outer,
            subst (λ x. AreLinked q.links (x - a) (set - x)) same linked,
          )
          | inr other ↦
              let l_in_end : CutsDownTo q end l = begins_both q next l end begins_l begins (most l begins_l within) in
              let over = over_end l begins_a l_in_end other outer in
              (over.0, linked_wider q end l a (set - end) l_in_end begins_a over.1)
        ]

    -- where it isn't, the farthest run of what the last cut leaves is that of the set
    pub same_farthest : a ≢ next → (SplitsAfter q set end → AreLinked q.links (end - a) (set - end) → ⊥)
        → IsFarthest q set a end
    same_farthest differs never = record {
      begins = less set next end cuts begins;
      splits = run;
      most = λ p begins_p splits. elim (cases_eq p set) [
        | inl same ↦
            let over = over_farthest differs (subst (λ x. SplitsAfter q x a) same splits) in
            absurd (never over.0 over.1)
        | inr other ↦ most p (begins_next q set next p cuts begins_p other) splits
      ];
    }

  -- where the whole set is joined after the part, nothing is farther
  pub whole_farthest : (set a : ℕ) → SplitsAfter q set a → IsFarthest q set a set
  whole_farthest set a splits = record {
    begins = begun set;
    splits = splits;
    most = λ p begins_p splits_p. begins_le q set p begins_p;
  }

  -- the whole set is joined after the part exactly where nothing less is the farthest
  pub splits_farthest : (set a far : ℕ) → IsFarthest q set a far → (far ≡ set) ↔ SplitsAfter q set a
  splits_farthest set a far farthest = (
    λ same. subst (λ x. SplitsAfter q x a) same farthest.splits,
    λ splits. omega (arith, begins_le q set far farthest.begins, farthest.most set (begun set) splits),
  )
