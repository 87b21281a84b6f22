-- What the JSON reader answers, as a value of the bytes.
use Rattle.std.proofs.Common.{◌≡◌, ℕ, List, Bool, true, false, cond, Some, None, refl}
use Rattle.std.specs.Str.{IsUtf8, is_utf8}
use Rattle.std.proofs.lemmas.Str.{IsUtf8-from_is_utf8, is_utf8-from_IsUtf8}
use Rattle.serde_json.specs.Data.{Data}
use Rattle.serde_json.specs.Read.{read}
use Rattle.catalog_json.specs.Outcome.{json_of}

pub json_of_some : (bytes : List ℕ) (d : Data) → IsUtf8 bytes → read bytes ≡ Some d → json_of bytes ≡ Some d
json_of_some bytes d utf8 value = rw (is_utf8-from_IsUtf8 bytes utf8) value

pub json_of_none : (bytes : List ℕ) → (IsUtf8 bytes → read bytes ≡ None) → json_of bytes ≡ None
json_of_none bytes refused = by (is_utf8 bytes) (λ is. refused (IsUtf8-from_is_utf8 bytes is))
  where
    by : (utf8 : Bool) → (utf8 ≡ true → read bytes ≡ None) → cond utf8 (read bytes) None ≡ None
    by true refused = refused refl
    by false refused = refl
