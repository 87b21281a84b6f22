-- The aliases of a set's tables, put down one after the other.
use Rattle.std.proofs.Common.{◌≡◌, ℕ, ◌+◌, ◌<◌, List, [], ◌∷◌, ◌++◌, append_assoc, refl, sym, ap, ◌∙◌, codes, flat_map}
use Rattle.std.proofs.Common.{get_or, drop, length, eq-eqb, ne_eqb}
use Rattle.std.specs.List.{join_by}
use Rattle.std.proofs.lemmas.List.{drop_more}
use Rattle.query_core.specs.Sets.{bit}
use Rattle.query_core.specs.declared.table.QueryTable.{QueryTable}
use Rattle.job_trace.specs.Groups.{tables_in}

-- a separator and the first alias, and then the others, each behind a comma and a space
abbrev pub behind : List ℕ → List QueryTable → List ℕ
behind separator [] = []
behind separator (table ∷ tables) = separator ++ (table.alias ++ behind (codes ", ") tables)

-- behind other aliases, each has its comma
behind_comma : (tables : List QueryTable)
    → behind (codes ", ") tables ≡ flat_map (λ table. codes ", " ++ table.alias) tables
behind_comma [] = refl
behind_comma (table ∷ tables) = ap (λ rest. codes ", " ++ (table.alias ++ rest)) (behind_comma tables)

-- behind nothing, they are joined
pub behind_nothing : (tables : List QueryTable) → behind [] tables ≡ join_by (λ table. table.alias) (codes ", ") tables
behind_nothing [] = refl
behind_nothing (table ∷ tables) = ap (λ rest. table.alias ++ rest) (behind_comma tables)

module _ (set place : ℕ) (tables : List QueryTable) (table : QueryTable) (within : place < length tables)
    (is : table ≡ get_or tables place table) where
  -- the tables from this place on
  from_here : drop place tables ≡ table ∷ drop (place + 1) tables
  from_here = drop_more tables place table within ∙ ap (λ t. t ∷ drop (place + 1) tables) (sym is)

  -- a table of the set is put down
  pub behind_one : (text separator more : List ℕ) → bit set place ≡ 1 → more ≡ (text ++ separator) ++ table.alias
      → text ++ behind separator (tables_in set place (drop place tables))
      ≡ more ++ behind (codes ", ") (tables_in set (place + 1) (drop (place + 1) tables))
  behind_one text separator more has is_more = rw (from_here, eq-eqb (bit set place) 1 has, is_more) (simp append_assoc)

  -- another table isn't
  pub behind_other : (bit set place ≡ 1 → ⊥)
      → tables_in set place (drop place tables) ≡ tables_in set (place + 1) (drop (place + 1) tables)
  behind_other lacks = rw (from_here, ne_eqb (bit set place) 1 lacks) refl
