-- What the lines of tables give lies in their groups.
use Rattle.std.proofs.Common.{◌≡◌, ℕ, ◌*◌, ◌/◌, List, [], ◌∷◌, refl, sym, subst, IsTrue, slice_index_or}
use Rattle.std.specs.Prelude.{Option, Some, None, All, slice_get}
use Rattle.std.specs.Option.{option_map_or}
use Rattle.std.proofs.lemmas.Bool.{cond_both}
use Rattle.std.proofs.lemmas.List.Elements.{All-nil, All-cons, All-get_or, All-map, All-weaker}
use Rattle.std.proofs.lemmas.Option.{get_or_from_slice_get, slice_get_within}
use Rattle.query_core.specs.Items.{is_column_of}
use Rattle.query_core.specs.Keys.{has_item}
use Rattle.query_core.specs.declared.query.Query.{Query}
use Rattle.query_core.specs.declared.table.QueryTable.{QueryTable}
use Rattle.query_core.specs.declared.words.KeyParts.{KeyParts}
use Rattle.request_props.specs.Found.{ascending}
use Rattle.request_props.specs.declared.given.GivenDist.{GivenDist}
use Rattle.request_props.specs.declared.given.GivenDist.TheVariants as given
use Rattle.request_props.specs.declared.given.GivenOrder.{GivenOrder}
use Rattle.request_props.specs.declared.given.GivenOrder.TheVariants.{Listed, Index}
use Rattle.plan_space.specs.Gives.{gives_so}
use Rattle.plan_space.specs.Lines.{is_replicated, replica_dists, dists_of_table}
use Rattle.request_props.specs.Numbered.{dist_by, table_dist}
use Rattle.request_props.specs.Lying.{ListLiesIn, OrderLiesIn}
use Rattle.plan_space.specs.Laws.{GivenDistFits, DistLiesIn, GivenFits}
use Rattle.plan_space.proofs.Numbers.{ListingIsOne, table_list_numbered}
use Rattle.plan_space.proofs.TableColumns.{hashed_columns, index_of_columns}
use Rattle.plan_space.proofs.Fitting.{no_order_fits, dist_lies, half}

-- each distribution in which the rows of the table are read lies in the group, and so does this order
abbrev pub ReadsFit : Query → ℕ → KeyParts → GivenOrder → Type 0
ReadsFit q t group order =
    (number : ℕ) (dist : GivenDist) → slice_get (dists_of_table q t) number ≡ Some dist
    → GivenFits q group (gives_so dist order)

module _ (one : ListingIsOne) (q : Query) (t : ℕ) (group : KeyParts) (columns : (i : ℕ)
    → IsTrue (is_column_of q.items t i) → IsTrue (has_item q group i)) where
  -- the hashed list of the table, if it has one
  hashed_fits : (table : QueryTable) (hashed : Option (List ℕ)) → slice_get q.tables t ≡ Some table
      → table.hashed ≡ hashed
      → GivenDistFits q group (dist_by q hashed)
  hashed_fits table None got is = tt
  hashed_fits table (Some list) got is =
      let place = table_list_numbered one q t table list got is in
      record {
        numbered = place.0;
        lies_in =
            subst (ListLiesIn q group) (sym place.1)
            (All-weaker (λ i. IsTrue (is_column_of q.items t i)) (λ i. IsTrue (has_item q group i)) columns list
            (hashed_columns q t table list got is));
      }

  table_dist_fits : (found : Option QueryTable) → slice_get q.tables t ≡ found
      → GivenDistFits q group (dist_by q (option_map_or (λ table. table.hashed) found None))
  table_dist_fits None got = tt
  table_dist_fits (Some table) got = hashed_fits table table.hashed got refl

  -- each distribution in which the rows of the table are read lies in the group
  dists_lie : All (DistLiesIn q group) (dists_of_table q t)
  dists_lie =
      let Lies = DistLiesIn q group in
      let none = All-nil Lies in
      let lies = dist_lies q group in
      cond_both (is_replicated q t) replica_dists (table_dist q t ∷ []) (All Lies)
      (λ replicated. All-cons Lies given.Random (given.One ∷ given.Copies ∷ []) (lies given.Random tt)
      (All-cons Lies given.One (given.Copies ∷ []) (lies given.One tt)
      (All-cons Lies given.Copies [] (lies given.Copies tt) none)))
      (λ placed. All-cons Lies (table_dist q t) [] (lies (table_dist q t)
      (table_dist_fits (slice_get q.tables t) refl)) none)

  -- a list of columns as an order
  ascending_fits : (list : List ℕ) → All (λ i. IsTrue (is_column_of q.items t i)) list
      → OrderLiesIn q group (ascending list)
  ascending_fits list all =
      All-map (λ element. IsTrue (has_item q group (element / 2))) (λ column. 2 * column) list
      (All-weaker (λ i. IsTrue (is_column_of q.items t i)) (λ i. IsTrue (has_item q group (2 * i / 2)))
      (λ i column. subst (λ item. IsTrue (has_item q group item)) (half i) (columns i column)) list all)

  -- the order of an index
  index_fits : (index : ℕ) (found : Option QueryTable) → slice_get q.tables t ≡ found
      → OrderLiesIn q group (ascending (slice_index_or (option_map_or (λ x. x.indexes) found []) index []))
  index_fits index None got = ascending_fits [] (All-nil (λ i. IsTrue (is_column_of q.items t i)))
  index_fits index (Some table) got = ascending_fits (slice_index_or table.indexes index [])
      (index_of_columns q t table index got)

  read_lies : (number : ℕ) (dist : GivenDist) → slice_get (dists_of_table q t) number ≡ Some dist
      → DistLiesIn q group dist
  read_lies number dist read =
      subst (DistLiesIn q group) (get_or_from_slice_get (dists_of_table q t) number dist dist read)
      (All-get_or (DistLiesIn q group) (dists_of_table q t) number dist
      (slice_get_within (dists_of_table q t) number dist read) dists_lie)

  -- so do these with the order of an index or with none
  pub scan_fits : ReadsFit q t group (Listed 0)
  scan_fits number dist read = record { dist = read_lies number dist read; order = (no_order_fits q group).1 }

  pub index_scan_fits : (index : ℕ) → ReadsFit q t group (Index t index)
  index_scan_fits index number dist read = record {
    dist = read_lies number dist read;
    order = index_fits index (slice_get q.tables t) refl;
  }
