-- The groups of a query by the numbers of their keys.
use Rattle.std.specs.Prelude.{ℕ, Bool, false, List, All, ◌≡◌, ◌<◌, ◌≤◌, ◌↔◌, length, slice_index, slice_index_or}
use Rattle.std.specs.Prelude.{IsTrue}
use Rattle.query_core.specs.Keys.{key_number, IsGroup, IsKey}
use Rattle.query_core.specs.declared.keys.TheConstants.{KEYS}
use Rattle.query_core.specs.declared.query.Query.{Query}
use Rattle.query_core.specs.declared.words.Key.{Key}
use Rattle.query_core.specs.declared.words.KeyParts.{KeyParts}
use Rattle.cardinality.specs.Rows.{rows_of}

abbrev pub key_of : ℕ → Key
key_of number = record { 0 = number }

-- of each number below the bound, whether it is that of a key of the query
abbrev pub AreKeysBelow : Query → ℕ → List Bool → Type 0
AreKeysBelow q bound keys = (number : ℕ) → number < bound → IsTrue (slice_index_or keys number false)
    ↔ IsKey q (key_of number)

-- of each number whether it is that of a key of the query
pub record AreKeys (q : Query) (keys : List Bool) : Type 0 where
  pub count : length keys ≡ KEYS
  pub each : AreKeysBelow q KEYS keys

-- the estimated rows of each group whose key has a number below the bound
abbrev pub AreRowsBelow : Query → ℕ → List ℕ → Type 0
AreRowsBelow q bound rows = (group : KeyParts) → IsGroup q group → key_number group < bound
    → slice_index rows (key_number group) ≡ rows_of q group

-- the estimated rows of each group, by the key's number; none is above 10^12
pub record AreGroupRows (q : Query) (rows : List ℕ) : Type 0 where
  pub count : length rows ≡ KEYS
  pub each : AreRowsBelow q KEYS rows
  pub few : All (λ number. number ≤ 1000000000000) rows
