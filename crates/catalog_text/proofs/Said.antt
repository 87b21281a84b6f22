-- What a version says of all parts, it says of each.
use Rattle.std.proofs.Common.{◌≡◌, Bool}
use Rattle.std.proofs.Common.{true, ◌&&◌, List, ◌∷◌, ◌++◌}
use Rattle.std.proofs.lemmas.Bool.{and_parts}
use Rattle.std.specs.List.{list_all}
use Rattle.catalog_json.specs.declared.version.CatalogVersion.{CatalogVersion}
use Rattle.catalog_json.specs.declared.version.CatalogVersion.TheVariants.{One, Two}
use Rattle.catalog_text.proofs.Among.{passes_among}

-- the first version says what is plain
abbrev pub Says : CatalogVersion → Bool → Type 0
Says One plain = plain ≡ true
Says Two plain = Unit {0}

pub says_both : (version : CatalogVersion) (a b : Bool) → Says version (a && b) → Says version a × Says version b
says_both One a b said = and_parts a b said
says_both Two a b said = (tt, tt)

-- what the first version says of all, it says of each
pub says_among : {X : Type 0} (version : CatalogVersion) (test : X → Bool) (whole before : List X) (a : X)
    (after : List X) → Says version (list_all test whole) → whole ≡ before ++ a ∷ after → Says version (test a)
says_among One test whole before a after said e = passes_among test whole before a after said e
says_among Two test whole before a after said e = tt
