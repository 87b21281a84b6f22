-- Laws of what a set begins with, where its tables go one after the other.
use Rattle.std.proofs.Common.{◌≡◌, ℕ, ◌-◌, ◌^◌, ◌<◌, ◌≤◌, refl, ap, sym, subst, ◌∙◌, arith, inl, inr}
use Rattle.std.specs.Prelude.{bit_or, bit_and, ◌≢◌}
use Rattle.std.proofs.lemmas.Nat.{pow_pos, or_disjoint}
use Rattle.std.proofs.lemmas.Bool.{cases_eq}
use Rattle.query_core.specs.Sets.{bit, Has}
use Rattle.query_core.specs.Connected.{AreLinked}
use Rattle.query_core.specs.declared.query.Query.{Query}
use Rattle.query_core.proofs.Bits.{bit-below, bit-none, bit-or, bit-and, bit-one_other, bit-difference, same_tables}
use Rattle.query_core.proofs.Bits.{has_below}
use Rattle.query_core.proofs.Unions.{several_more}
use Rattle.query_core.proofs.Whole.{bit_cases}
use Rattle.xform_rules.specs.OneOrder.{IsCutTo, CutsDownTo, begun, less, SplitsAfter, cut, associated}
use Rattle.xform_rules.proofs.Components.{less_of, linked_in_more}
use Rattle.xform_rules.proofs.LastCuts.{within_le}

module _ (set part : ℕ) (within : (t : ℕ) → Has part t → Has set t) where
  -- what a part leaves is the set less the part
  pub rest_number : set - part ≡ less_of set part
  rest_number =
      let inside : (t : ℕ) → bit part t ≤ bit set t = λ t. elim (bit_cases part t) [
        | inl has ↦ omega (arith, has, within t has)
        | inr none ↦ omega (arith, none)
      ] in
      let apart : bit_and part (less_of set part) ≡ 0 =
      same_tables _ 0 (λ t. omega (
        arith,
        bit-and part (less_of set part) t,
        bit-difference set part t,
        bit-none t,
        bit-below set t,
        bit-below part t,
      )) in
      let whole : bit_or part (less_of set part) ≡ set =
      same_tables _ set (λ t. omega (
        arith,
        bit-or part (less_of set part) t,
        bit-difference set part t,
        inside t,
        bit-below set t,
      )) in
      omega (arith, sym whole ∙ or_disjoint part (less_of set part) apart)

  -- it has the tables that the part leaves
  pub rest_bit : (t : ℕ) → bit (set - part) t ≡ bit set t - bit part t
  rest_bit t = ap (λ x. bit x t) rest_number ∙ bit-difference set part t

-- the set without one of its tables is a part
pub one_less : (set t : ℕ) → Has set t → (u : ℕ) → Has (set - 2 ^ t) u → Has set u
one_less set t has u in_rest =
    let power : (v : ℕ) → Has (2 ^ t) v → Has set v = λ v in_one. elim (cases_eq v t) [
      | inl same ↦ subst (Has set) (sym same) has
      | inr other ↦ absurd (omega (arith, bit-one_other t v other, in_one))
    ] in
    omega (arith, rest_bit set (2 ^ t) power u, in_rest, bit-below set u)

module _ (q : Query) where
  -- a last cut leaves a part
  pub cut_within : (set next : ℕ) → IsCutTo q set next → (t : ℕ) → Has next t → Has set t
  cut_within set next cuts t has =
      let (last, is_last, same) = cuts.last in
      one_less set last is_last.cut.0 t (subst (λ x. Has x t) same has)

  -- that is less
  pub cut_less : (set next : ℕ) → IsCutTo q set next → next < set
  cut_less set next cuts =
      let (last, is_last, same) = cuts.last in
      let power : (v : ℕ) → Has (2 ^ last) v → Has set v = λ v in_one. elim (cases_eq v last) [
        | inl equal ↦ subst (Has set) (sym equal) is_last.cut.0
        | inr other ↦ absurd (omega (arith, bit-one_other last v other, in_one))
      ] in
      omega (arith, same, within_le (2 ^ last) set power, pow_pos last)

  -- and not empty
  pub cut_some : (set next : ℕ) → set < 2 ^ 32 → IsCutTo q set next → 0 < next
  cut_some set next small cuts =
      let (last, is_last, same) = cuts.last in
      let power : (v : ℕ) → Has (2 ^ last) v → Has set v = λ v in_one. elim (cases_eq v last) [
        | inl equal ↦ subst (Has set) (sym equal) is_last.cut.0
        | inr other ↦ absurd (omega (arith, bit-one_other last v other, in_one))
      ] in
      omega (
        arith,
        same,
        within_le (2 ^ last) set power,
        several_more set last (has_below set last small is_last.cut.0) cuts.several,
      )

  -- and there is one
  pub cut_one : (set x y : ℕ) → IsCutTo q set x → IsCutTo q set y → x ≡ y
  cut_one set x y this other =
      let (s, last_s, same_x) = this.last in
      let (t, last_t, same_y) = other.last in
      let same : s ≡ t = omega (arith, last_s.greatest t last_t.cut, last_t.greatest s last_s.cut) in
      same_x ∙ ap (λ k. set - 2 ^ k) same ∙ sym same_y

  pub begins_within : (set part : ℕ) → CutsDownTo q set part → (t : ℕ) → Has part t → Has set t
  begins_within set part (begun s) t has = has
  begins_within set part (less s next p cuts rest) t has =
      cut_within set next cuts t (begins_within next part rest t has)

  pub begins_le : (set part : ℕ) → CutsDownTo q set part → part ≤ set
  begins_le set part begins = within_le part set (begins_within set part begins)

  pub begins_then : (a b c : ℕ) → CutsDownTo q a b → CutsDownTo q b c → CutsDownTo q a c
  begins_then a b c (begun s) second = second
  begins_then a b c (less s next p cuts rest) second = less a next c cuts (begins_then next b c rest second)

  -- a set that begins with less has a last cut
  pub begins_cut : (set part : ℕ) → CutsDownTo q set part → part ≢ set → (next : ℕ) × IsCutTo q set next
  begins_cut set part (begun s) other = absurd (other refl)
  begins_cut set part (less s next p cuts rest) other = (next, cuts)

  -- what isn't the whole set is a beginning of what the last cut leaves
  pub begins_next : (set next part : ℕ) → IsCutTo q set next → CutsDownTo q set part → part ≢ set
      → CutsDownTo q next part
  begins_next set next part cuts (begun s) other = absurd (other refl)
  begins_next set next part cuts (less s n p own rest) other =
      subst (λ x. CutsDownTo q x part) (cut_one set n next own cuts) rest

  -- of two beginnings the less is one of the greater
  pub begins_both : (set a b : ℕ) → CutsDownTo q set a → CutsDownTo q set b → a ≤ b → CutsDownTo q b a
  begins_both set a b first (begun s) at_most = first
  begins_both set a b first (less s next p cuts rest) at_most =
      begins_both next a b (begins_next set next a cuts first
      (λ same. absurd (omega (arith, same, at_most, begins_le next b rest, cut_less set next cuts)))) rest at_most

  -- a join's left side is a beginning, and not all
  pub splits_begins : (set part : ℕ) → SplitsAfter q set part → CutsDownTo q set part × (part < set)
  splits_begins set part (cut s p cuts) = (less set part part cuts (begun part), cut_less set part cuts)
  splits_begins set part (associated s inner p outer within linked) =
      let first = splits_begins set inner outer in
      let second = splits_begins inner part within in
      (begins_then set inner part first.0 second.0, omega (arith, first.1, second.1))

  -- both its sides have tables
  pub splits_some : (set part : ℕ) → set < 2 ^ 32 → SplitsAfter q set part → 0 < part
  splits_some set part small (cut s p cuts) = cut_some set part small cuts
  splits_some set part small (associated s inner p outer within linked) =
      splits_some inner part (omega (arith, (splits_begins set inner outer).1, small)) within

  -- what a shorter beginning leaves is linked to what a longer one's rest is
  pub linked_wider : (set long short other : ℕ) → CutsDownTo q set long → CutsDownTo q long short
      → AreLinked q.links (set - long) other
      → AreLinked q.links (set - short) other
  linked_wider set long short other outer inner linked =
      let in_set = begins_within set long outer in
      let in_long = begins_within long short inner in
      linked_in_more q.links (set - long) other (set - short) other
      (λ t has. elim (bit_cases short t) [
        | inl in_short ↦ absurd (omega (arith, rest_bit set long in_set t, has, in_long t in_short, bit-below set t))
        | inr none ↦ omega (
          arith,
          rest_bit set short (λ u in_u. in_set u (in_long u in_u)) t,
          none,
          rest_bit set long in_set t,
          has,
          bit-below set t,
        )
      ])
      (λ t has. has) linked
