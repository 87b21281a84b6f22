-- The keys of a set or a map of names, as texts.
use Rattle.std.proofs.Common.{◌≡◌, ℕ, suc, ◌+◌, ◌++◌, not, true, false, Bool, Option, Some, cond, is_some, ◌||◌, List}
use Rattle.std.proofs.Common.{[], ◌∷◌, map, length, position, String, Global, string_bytes, string_eq, refl, ap}
use Rattle.std.specs.List.{list_any, prefix_len}
use Rattle.std.specs.Map.{keys_of, lookup}
use Rattle.std.specs.Str.{bytes_eq}
use Rattle.std.proofs.lemmas.Bool.{or_parts}
use Rattle.query_core.specs.declared.catalog.ColumnInfo.{ColumnInfo}
use Rattle.catalog_json.specs.declared.column.ColumnValues.{ColumnValues}
use Rattle.indexmap.specs.IndexMap.{insert_entry}
use Rattle.catalog_json.specs.Columns.{column_of, names_of}

pub any_shown : (name : List ℕ) (keys : List (String Global))
    → list_any (λ k. bytes_eq name (string_bytes k)) keys ≡ list_any (bytes_eq name) (map string_bytes keys)
any_shown name [] = refl
any_shown name (k ∷ keys) = ap (λ b. bytes_eq name (string_bytes k) || b) (any_shown name keys)

-- ---- the names of columns

abbrev Entries : Type 0
Entries = List (String Global × ColumnValues)

abbrev names : Entries → List (List ℕ)
names es = names_of (map column_of es)

any_or : (here : Bool) (n : ColumnValues) (rest : Option ColumnValues) (later : Bool) → is_some rest ≡ later
    → is_some (cond here (Some n) rest) ≡ (here || later)
any_or true n rest later e = refl
any_or false n rest later e = e

-- a column with a new name goes last
pub goes_last : (es : Entries) (name : String Global) (values : ColumnValues)
    → list_any (bytes_eq (string_bytes name)) (names es) ≡ false
    → map column_of (insert_entry string_eq es name values) ≡ map column_of es ++ column_of (name, values) ∷ []
goes_last [] name values fresh = refl
goes_last (e ∷ es) name values fresh =
    let other = or_parts (bytes_eq (string_bytes name) (string_bytes e.0))
    (list_any (bytes_eq (string_bytes name)) (names es)) fresh in
    rw other.0 (ap (λ (cs : List ColumnInfo). column_of e ∷ cs) (goes_last es name values other.1))

-- a name has a value where it is among the names
pub name_there : (name : List ℕ) (es : Entries)
    → is_some (lookup (λ k. bytes_eq name (string_bytes k)) es) ≡ list_any (bytes_eq name) (names es)
name_there name [] = refl
name_there name (e ∷ es) = any_or (bytes_eq name (string_bytes e.0)) e.1 _ _ (name_there name es)

before_shown : (name : List ℕ) (es : Entries)
    → prefix_len (λ k. not (bytes_eq name (string_bytes k))) (keys_of es) ≡ prefix_len
    (λ text. not (bytes_eq name text)) (names es)
before_shown name [] = refl
before_shown name (e ∷ es) = ap (λ n. cond (not (bytes_eq name (string_bytes e.0))) (1 + n) 0) (before_shown name es)

key_count : (es : Entries) → length (keys_of es) ≡ length (names es)
key_count [] = refl
key_count (e ∷ es) = ap suc (key_count es)

pub position_shown : (name : List ℕ) (es : Entries)
    → position (λ k. bytes_eq name (string_bytes k)) (keys_of es) ≡ position (bytes_eq name) (names es)
position_shown name es = rw (before_shown name es, key_count es) refl
