-- An object's members beside the entries of the map that holds them.
use Rattle.std.proofs.Common.{◌≡◌, ℕ, List, [], ◌∷◌, Option, Some, option_map, String, BTreeMap, Global, Ordering, Less}
use Rattle.std.proofs.Common.{Equal, Greater, string_bytes, string_cmp, nat_cmp, is_eq, cond, false, refl, sym, ap, ◌∙◌}
use Rattle.std.proofs.lemmas.Map.Text.{btree_map_updates_text}
use Rattle.std.specs.BTreeMap.{UpdatesBy, get_by_text, is_at}
use Rattle.std.specs.Cmp.Lexicographic.{slice_cmp}
use Rattle.std.specs.Map.{lookup}
use Rattle.std.specs.Ordering.{match_ordering}
use Rattle.std.specs.Str.{bytes_eq}
use Rattle.std.proofs.lemmas.Bool.{cond-false}
use Rattle.serde_json.specs.Data.{Data}
use Rattle.serde_json.specs.Find.{get_member}
use Rattle.serde_json.specs.View.{view, members_view}
use Rattle.serde_json.specs.declared.value.Value.{Value}

found_or : (o : Ordering) (v : Value) (rest : Option Value) (d : Option Data) → option_map view rest ≡ d
    → option_map view (cond (is_eq o) (Some v) rest) ≡ match_ordering o d (Some (view v)) d
found_or Less v rest d e = e
found_or Equal v rest d e = refl
found_or Greater v rest d e = e

-- the member with a name is what the map has at it
pub member_found : (name : List ℕ) (es : List (String Global × Value))
    → option_map view (lookup (is_at (λ k. slice_cmp nat_cmp name (string_bytes k))) es) ≡ get_member name
    (members_view es)
member_found name [] = refl
member_found name (e ∷ es) = found_or (slice_cmp nat_cmp name (string_bytes e.0)) e.1 _ _ (member_found name es)

-- a member with another name stays
pub other_member : (name : List ℕ) (old new : BTreeMap (String Global) Value) (w : Option Value)
    → UpdatesBy string_cmp (λ k. slice_cmp nat_cmp name (string_bytes k)) old new w
    → (other : List ℕ) → bytes_eq name other ≡ false
    → get_member other (members_view new.entries) ≡ get_member other (members_view old.entries)
other_member name old new w updates other apart =
    sym (member_found other new.entries)
    ∙ ap (option_map view) (btree_map_updates_text name old new w updates other
    ∙ cond-false (bytes_eq name other) w (get_by_text old other) apart)
    ∙ member_found other old.entries
