-- The lists and the order of GROUP BY lie in the groups over which aggregations stand, and in their own, so the lines
-- of aggregations fit.
use Rattle.std.proofs.Common.{◌≡◌, ℕ, zero, suc, ◌*◌, ◌/◌, ◌<◌, List, [], ◌∷◌, ◌++◌, length, refl, sym, subst, inl, inr}
use Rattle.std.proofs.Common.{arith, IsTrue, nat_lt, slice_index_or}
use Rattle.std.specs.Prelude.{Some, None, ◌==◌, All}
use Rattle.std.specs.List.{Contains, list_all, list_any}
use Rattle.std.proofs.lemmas.Bool.{cond_both, false≢true, and_parts, or_left, or_right, or_cases, ltb-true, eqb-true}
use Rattle.std.proofs.lemmas.Bool.{eq-eqb}
use Rattle.std.proofs.lemmas.List.Elements.{All-map, All-weaker, All-contains_itself, Contains-append_right}
use Rattle.std.proofs.lemmas.List.Sums.{AllPass-from_list_all}
use Rattle.query_core.specs.Keys.{input_of, is_grouped_by, has_item}
use Rattle.query_core.specs.declared.query.Query.{Query}
use Rattle.query_core.specs.declared.words.KeyParts.{KeyParts}
use Rattle.query_core.specs.declared.words.KeyParts.TheVariants as groups
use Rattle.query_core.specs.declared.expressions.Children.TheVariants.{One}
use Rattle.request_props.specs.Found.{ascending, joined_columns, one_each, unless_empty, wanted_order}
use Rattle.request_props.specs.Numbered.{lists_of, IsNumbered, order_of, list_of, order_number, group_order}
use Rattle.request_props.specs.Numbered.{is_grouped_list}
use Rattle.request_props.specs.declared.request.Dist.{Dist}
use Rattle.request_props.specs.Lying.{OrderLiesIn}
use Rattle.request_props.specs.Fitting.{HashFits, DistFits}
use Rattle.plan_space.specs.Alternatives.{dist_asked, DistServes}
use Rattle.plan_space.specs.Lines.{in_order, on_one, agg_line}
use Rattle.plan_space.specs.declared.lines.LeftDist.{LeftDist}
use Rattle.plan_space.specs.declared.lines.LeftDist.TheVariants as left_dists
use Rattle.plan_space.specs.declared.lines.Line.{Line}
use Rattle.plan_space.specs.declared.lines.Line.TheVariants as lines
use Rattle.plan_space.specs.declared.modes.Mode.{Mode}
use Rattle.plan_space.specs.declared.modes.Mode.TheVariants as modes
use Rattle.plan_space.proofs.Numbers.{ListingIsOne, contains_here, order_numbered}
use Rattle.plan_space.proofs.Fitting.{DistWithin, IsFitting, half, no_order_fits, dist_asked_kept}
use Rattle.plan_space.proofs.Root.{input_item}

-- ---- the columns of GROUP BY

-- the group has each column of GROUP BY
abbrev pub HasGrouped : Query → KeyParts → Type 0
HasGrouped q group = (i : ℕ) → IsTrue (is_grouped_by q i) → IsTrue (has_item q group i)

-- what is equal to one of these numbers is below this one where all of them are
found_below : (columns : List ℕ) (most i : ℕ) → IsTrue (list_all (λ number. nat_lt number most) columns)
    → IsTrue (list_any (λ column. column == i) columns)
    → i < most
found_below [] most i all any = absurd (false≢true any)
found_below (column ∷ columns) most i all any =
    let (here, later) = and_parts (nat_lt column most) (list_all (λ number. nat_lt number most) columns) all in
    elim (or_cases (column == i) (list_any (λ c. c == i) columns) any) [
      | inl same ↦ subst (λ n. n < most) (eqb-true column i same) (ltb-true column most here)
      | inr other ↦ found_below columns most i later other
    ]

-- the columns of GROUP BY are items of the group that joins all tables
pub input_has_grouped : (q : Query) → HasGrouped q (input_of q)
input_has_grouped q i grouped = input_item q i
    (found_below q.group_by (length q.items) i q.grouping_valid.columns grouped)

-- and of the group of the aggregation
agg_has_grouped : (q : Query) → HasGrouped q groups.Agg
agg_has_grouped q i grouped = or_left _ _ grouped

-- a number at some place is found
found_at : (columns : List ℕ) (k i : ℕ) → k < length columns → slice_index_or columns k i ≡ i
    → IsTrue (list_any (λ column. column == i) columns)
found_at [] k i within here = absurd (omega (arith, within))
found_at (column ∷ columns) zero i within here = or_left _ _ (eq-eqb column i here)
found_at (column ∷ columns) (suc k) i within here =
    or_right (column == i) _ (found_at columns k i (omega (arith, within)) here)

-- each of the numbers is found
all_found : (columns : List ℕ) → All (λ i. IsTrue (list_any (λ column. column == i) columns)) columns
all_found columns =
    All-weaker (Contains columns) (λ i. IsTrue (list_any (λ column. column == i) columns))
    (λ i contains. found_at columns contains.0 i contains.1 contains.2)
    columns (All-contains_itself columns)

-- ---- lists and the order of GROUP BY columns

module _ (q : Query) (group : KeyParts) (has : HasGrouped q group) where
  -- a list of GROUP BY columns fits a group that has them
  grouped_list_fits : (list : ℕ) → IsTrue (is_grouped_list q list) → HashFits q group list
  grouped_list_fits list grouped =
      let (numbered, columns) = and_parts _ _ grouped in
      record {
        numbered = ltb-true _ _ numbered;
        lies_in =
            All-weaker (λ i. IsTrue (is_grouped_by q i)) (λ i. IsTrue (has_item q group i)) has (list_of q list)
            (AllPass-from_list_all (is_grouped_by q) (list_of q list) columns);
      }

  -- so does their order
  group_columns_fit : OrderLiesIn q group (ascending q.group_by)
  group_columns_fit =
      All-map (λ element. IsTrue (has_item q group (element / 2))) (λ column. 2 * column) q.group_by
      (All-weaker (λ i. IsTrue (is_grouped_by q i)) (λ i. IsTrue (has_item q group (2 * i / 2)))
      (λ i grouped. subst (λ item. IsTrue (has_item q group item)) (half i) (has i grouped)) q.group_by
      (all_found q.group_by))

module _ (one : ListingIsOne) (q : Query) where
  -- the order of the GROUP BY columns has a number
  group_numbered : (columns : List ℕ) → q.group_by ≡ columns
      → IsNumbered q (order_number q (ascending columns))
      × (order_of q (order_number q (ascending columns)) ≡ ascending columns)
  group_numbered [] is = (omega arith, refl)
  group_numbered (first ∷ others) is =
      let order = ascending (first ∷ others) in
      let front = unless_empty (wanted_order q) ++ one_each (ascending (joined_columns q)) in
      let own : Contains (unless_empty (ascending q.group_by)) order =
      subst (λ columns. Contains (unless_empty (ascending columns)) order) (sym is) (contains_here order []) in
      order_numbered one q (2 * first) (ascending others)
      (Contains-append_right front (unless_empty (ascending q.group_by)) order own)

  -- it fits each group that has these columns
  pub group_order_fits : (group : KeyParts) → HasGrouped q group → IsNumbered q (group_order q)
      × OrderLiesIn q group (order_of q (group_order q))
  group_order_fits group has =
      let place = group_numbered q.group_by refl in
      (place.0, subst (OrderLiesIn q group) (sym place.1) (group_columns_fit q group has))

-- ---- the lines of aggregations

module _ (q : Query) (from : KeyParts) (has : HasGrouped q from) (order : ℕ)
    (order_fits : (group : KeyParts) → HasGrouped q group → IsNumbered q order × OrderLiesIn q group (order_of q order))
  where
    -- an aggregation that gives this order fits where its distribution does
    agg_fits : (dist : LeftDist) → ((wanted : Dist) → DistServes q dist wanted → DistFits q from
        (dist_asked dist wanted))
        → DistWithin q groups.Agg from dist
        → IsFitting q groups.Agg (One from) (lines.Above dist (in_order order))
    agg_fits dist asked within = record {
      asks = λ wanted fits serves.
          let own = order_fits from has in
          record { dist = asked wanted.dist serves.dist_served; numbered = own.0; order = own.1 };
      gives = record { dist_within = within; order_within = (order_fits groups.Agg (agg_has_grouped q)).1 };
    }

    -- one by the hash of a list does, where the list lies in GROUP BY
    hashed_fits : (list : ℕ) → IsFitting q groups.Agg (One from)
        (lines.Above (left_dists.Grouped list) (in_order order))
    hashed_fits list =
        agg_fits (left_dists.Grouped list) (λ wanted serves. grouped_list_fits q from has list serves.0)
        (λ grouped. grouped_list_fits q groups.Agg (agg_has_grouped q) list grouped)

    no_line : (line : Line) → None ≡ Some line → IsFitting q groups.Agg (One from) line
    no_line line never = cc

    -- so each line of an aggregation fits
    pub agg_line_fits : (mode : Mode) (line : Line) → agg_line q order mode ≡ Some line
        → IsFitting q groups.Agg (One from) line
    agg_line_fits (modes.Plain number) line =
        cond_both (number == 0) (Some (lines.Above on_one (in_order order))) None (λ found. found ≡ Some line
        → IsFitting q groups.Agg (One from) line)
        (λ first is.
        let same : lines.Above on_one (in_order order) ≡ line = cc in
        subst (IsFitting q groups.Agg (One from)) same (agg_fits on_one (λ wanted serves. tt) tt))
        (λ other. no_line line)
    agg_line_fits (modes.Copied number) line = no_line line
    agg_line_fits (modes.Hashed list) line =
        cond_both (nat_lt list (length (lists_of q)))
        (Some (lines.Above (left_dists.Grouped list) (in_order order))) None
        (λ found. found ≡ Some line → IsFitting q groups.Agg (One from) line)
        (λ numbered is.
        let same : lines.Above (left_dists.Grouped list) (in_order order) ≡ line = cc in
        subst (IsFitting q groups.Agg (One from)) same (hashed_fits list))
        (λ other. no_line line)

-- an aggregation of partial groups leaves the rows of the input where they lie
pub partial_fits : (q : Query) → IsFitting q groups.Partial (One (input_of q))
    (lines.Above left_dists.SameSpread (in_order 0))
partial_fits q = record {
  asks = λ wanted fits serves. record {
    dist = dist_asked_kept q groups.Partial (input_of q) (input_has_grouped q) wanted.dist fits.dist;
    numbered = (no_order_fits q (input_of q)).0;
    order = (no_order_fits q (input_of q)).1;
  };
  gives = record { dist_within = λ dist lies. tt; order_within = (no_order_fits q groups.Partial).1 };
}
