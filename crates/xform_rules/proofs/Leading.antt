-- Which groups lead to others by joins that JoinAssociate alone gives.
use Rattle.std.proofs.Common.{ℕ, ◌-◌, refl, arith, ◌⊎◌, inl, inr}
use Rattle.std.specs.Prelude.{◌≢◌}
use Rattle.query_core.specs.Sets.{Has}
use Rattle.query_core.specs.declared.query.Query.{Query}
use Rattle.query_core.proofs.Bits.{bit-below}
use Rattle.xform_rules.specs.OneOrder.{IsCutTo, CutsDownTo, begun, less, SplitsAfter, cut, LeadsTo, there, by_left}
use Rattle.xform_rules.specs.OneOrder.{by_right, LeadsBeside}
use Rattle.xform_rules.proofs.Beginnings.{rest_bit, begins_within, begins_next, begins_cut, splits_begins}

module _ (q : Query) where
  -- the sides of a join are parts of its set
  side_within : (set side : ℕ) → SplitsAfter q set side → (t : ℕ) → Has side t → Has set t
  side_within set side splits = begins_within q set side (splits_begins q set side splits).0

  rest_within : (set side : ℕ) → SplitsAfter q set side → (t : ℕ) → Has (set - side) t → Has set t
  rest_within set side splits t has = omega
      (arith, rest_bit set side (side_within set side splits) t, has, bit-below set t)

  -- a group leads to groups of parts
  pub leads_within : (set part : ℕ) → LeadsTo q set part → (t : ℕ) → Has part t → Has set t
  leads_within set part (there s) t has = has
  leads_within set part (by_left s side p splits leads) t has =
      side_within set side splits t (leads_within side part leads t has)
  leads_within set part (by_right s side p splits leads) t has =
      rest_within set side splits t (leads_within (set - side) part leads t has)

  pub leads_then : (a b c : ℕ) → LeadsTo q a b → LeadsTo q b c → LeadsTo q a c
  leads_then a b c (there s) second = second
  leads_then a b c (by_left s side p splits leads) second = by_left a side c splits (leads_then side b c leads second)
  leads_then a b c (by_right s side p splits leads) second =
      by_right a side c splits (leads_then (a - side) b c leads second)

  -- a set leads to what it begins with
  pub begins_lead : (set side part : ℕ) → CutsDownTo q set side → LeadsTo q side part → LeadsTo q set part
  begins_lead set side part (begun s) leads = leads
  begins_lead set side part (less s next p cuts rest) leads =
      by_left set next part (cut set next cuts) (begins_lead next side part rest leads)

  -- a set that leads to another one has a last cut
  pub leads_cut : (set part : ℕ) → set ≢ part → LeadsTo q set part → (next : ℕ) × IsCutTo q set next
  leads_cut set part differs (there s) = absurd (differs refl)
  leads_cut set part differs (by_left s side p splits leads) =
      let own = splits_begins q set side splits in
      begins_cut q set side own.0 (λ same. absurd (omega (arith, same, own.1)))
  leads_cut set part differs (by_right s side p splits leads) =
      let own = splits_begins q set side splits in
      begins_cut q set side own.0 (λ same. absurd (omega (arith, same, own.1)))

  -- it leads on by what the last cut leaves, or by a right side
  pub leads_on : (set next part : ℕ) → IsCutTo q set next → set ≢ part → LeadsTo q set part → LeadsTo q next part
      ⊎ LeadsBeside q set next part
  leads_on set next part cuts differs (there s) = absurd (differs refl)
  leads_on set next part cuts differs (by_left s side p splits leads) =
      let own = splits_begins q set side splits in
      inl (begins_lead next side part (begins_next q set next side cuts own.0
      (λ same. absurd (omega (arith, same, own.1)))) leads)
  leads_on set next part cuts differs (by_right s side p splits leads) =
      let own = splits_begins q set side splits in
      inr (side, begins_next q set next side cuts own.0 (λ same. absurd (omega (arith, same, own.1))), splits, leads)

  pub leads_back : (set next part : ℕ) → IsCutTo q set next → LeadsTo q next part → LeadsTo q set part
  leads_back set next part cuts leads = by_left set next part (cut set next cuts) leads

  -- by a right side too
  pub beside_back : (set start part : ℕ) → LeadsBeside q set start part → LeadsTo q set part
  beside_back set start part (side, begins, splits, leads) = by_right set side part splits leads

  beside_from : (set start part side : ℕ) → CutsDownTo q start side → SplitsAfter q set side
      → LeadsTo q (set - side) part
      → (SplitsAfter q set start × LeadsTo q (set - start) part)
      ⊎ ((next : ℕ) × IsCutTo q start next × LeadsBeside q set next part)
  beside_from set start part side (begun s) splits leads = inl (splits, leads)
  beside_from set start part side (less s next p cuts rest) splits leads = inr (next, cuts, (side, rest, splits, leads))

  -- by a right side beside the start itself, or beside what its last cut leaves
  pub beside_on : (set start part : ℕ) → LeadsBeside q set start part
      → (SplitsAfter q set start × LeadsTo q (set - start) part)
      ⊎ ((next : ℕ) × IsCutTo q start next × LeadsBeside q set next part)
  beside_on set start part (side, begins, splits, leads) = beside_from set start part side begins splits leads

  pub beside_here : (set start part : ℕ) → SplitsAfter q set start → LeadsTo q (set - start) part
      → LeadsBeside q set start part
  beside_here set start part splits leads = (start, begun start, splits, leads)

  pub beside_less : (set start next part : ℕ) → IsCutTo q start next → LeadsBeside q set next part
      → LeadsBeside q set start part
  beside_less set start next part cuts (side, begins, splits, leads) =
      (side, less start next side cuts begins, splits, leads)
