-- What is reached of joins where a rule that turns joins is off: the tables of a set go one after the other, the last
-- cut first.
use Rattle.std.specs.Prelude.{ℕ, ◌≡◌, ◌-◌, ◌^◌, ◌≤◌, IsTrue}
use Rattle.query_core.specs.Sets.{is_several}
use Rattle.query_core.specs.Connected.{AreLinked}
use Rattle.query_core.specs.declared.query.Query.{Query}
use Rattle.xform_rules.specs.ExpandNAry.{IsLastCut}

-- of several tables these are left without the last cut
pub record IsCutTo (q : Query) (set rest : ℕ) : Type 0 where
  pub several : IsTrue (is_several set)
  pub last : (t : ℕ) × IsLastCut q set t × (rest ≡ set - 2 ^ t)

-- the part is left of the set where some last cuts are taken away, one after the other
pub data CutsDownTo (q : Query) : ℕ → ℕ → Type 0 where
  begun : (set : ℕ) → CutsDownTo q set set
  less : (set next part : ℕ) → IsCutTo q set next → CutsDownTo q next part → CutsDownTo q set part

-- JoinAssociate alone leads to the join of the part with the others: from the last cut, or from two joins of which the
-- one is in the other's left group
pub data SplitsAfter (q : Query) : ℕ → ℕ → Type 0 where
  cut : (set part : ℕ) → IsCutTo q set part → SplitsAfter q set part
  associated : (set inner part : ℕ) → SplitsAfter q set inner → SplitsAfter q inner part
      → AreLinked q.links (inner - part) (set - inner)
      → SplitsAfter q set part

-- by such joins alone, the group of the set leads to that of the part
pub data LeadsTo (q : Query) : ℕ → ℕ → Type 0 where
  there : (set : ℕ) → LeadsTo q set set
  by_left : (set side part : ℕ) → SplitsAfter q set side → LeadsTo q side part → LeadsTo q set part
  by_right : (set side part : ℕ) → SplitsAfter q set side → LeadsTo q (set - side) part → LeadsTo q set part

-- the same by the right side of a join whose left side a set begins with
abbrev pub LeadsBeside : Query → ℕ → ℕ → ℕ → Type 0
LeadsBeside q set start part = (side : ℕ) × CutsDownTo q start side × SplitsAfter q set side
    × LeadsTo q (set - side) part

-- of all that the set begins with, this is the most that is joined of the part and others
pub record IsFarthest (q : Query) (set part far : ℕ) : Type 0 where
  pub begins : CutsDownTo q set far
  pub splits : SplitsAfter q far part
  pub most : (p : ℕ) → CutsDownTo q set p → SplitsAfter q p part → p ≤ far
