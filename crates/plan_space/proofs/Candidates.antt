-- The lines of a candidate ask what fits its children, and give what lies in its group.
use Rattle.std.proofs.Common.{◌≡◌, ℕ, refl, sym, subst, ◌∙◌, inl, inr, IsTrue}
use Rattle.std.specs.Prelude.{Option, None, Some, slice_get}
use Rattle.std.specs.Option.{option_map}
use Rattle.query_core.specs.Expressions.{expr_of, physical_children, IsFiltered, IsJoin, IsAggregated}
use Rattle.query_core.specs.Expressions.{table_in, IsPartial, IsCandidate}
use Rattle.query_core.specs.Items.{is_column_of}
use Rattle.query_core.specs.Keys.{has_item, input_of, top_of}
use Rattle.query_core.specs.declared.query.Query.{Query}
use Rattle.query_core.specs.declared.words.KeyParts.{KeyParts}
use Rattle.query_core.specs.declared.words.KeyParts.TheVariants as groups
use Rattle.query_core.specs.declared.expressions.Access.{Access}
use Rattle.query_core.specs.declared.expressions.Access.TheVariants as accesses
use Rattle.query_core.specs.declared.expressions.PhysicalExpr.{PhysicalExpr}
use Rattle.query_core.specs.declared.expressions.Children.{Children}
use Rattle.query_core.specs.declared.expressions.Children.TheVariants.{Zero, One, Two}
use Rattle.request_props.specs.declared.given.GivenDist.{GivenDist}
use Rattle.request_props.specs.declared.given.GivenOrder.{GivenOrder}
use Rattle.request_props.specs.declared.given.GivenOrder.TheVariants.{Listed, Index}
use Rattle.plan_space.specs.Gives.{gives_so}
use Rattle.request_props.specs.Numbered.{IsNumbered, order_of}
use Rattle.request_props.specs.Lying.{OrderLiesIn}
use Rattle.plan_space.specs.Lines.{in_order, single_line, dists_of_table, table_line, order_read, join_line}
use Rattle.plan_space.specs.Lines.{grouped_order, way_line, line_of}
use Rattle.plan_space.specs.Ways.{way_of}
use Rattle.plan_space.specs.declared.ways.Kept.TheVariants.{Rows, SpreadRows}
use Rattle.plan_space.specs.declared.ways.JoinBy.{JoinBy}
use Rattle.plan_space.specs.declared.ways.JoinBy.TheVariants as joins
use Rattle.plan_space.specs.declared.ways.GroupBy.{GroupBy}
use Rattle.plan_space.specs.declared.ways.GroupBy.TheVariants as grouping
use Rattle.plan_space.specs.declared.ways.Way.{Way}
use Rattle.plan_space.specs.declared.ways.Way.TheVariants as ways
use Rattle.plan_space.specs.declared.lines.LeftDist.TheVariants as left_dists
use Rattle.plan_space.specs.declared.lines.LeftOrder.TheVariants as left_orders
use Rattle.plan_space.specs.declared.lines.Line.{Line}
use Rattle.plan_space.specs.declared.lines.Line.TheVariants as lines
use Rattle.plan_space.specs.declared.modes.Mode.{Mode}
use Rattle.plan_space.specs.declared.modes.Mode.TheVariants as modes
use Rattle.plan_space.specs.Laws.{CrossingsFit, GivenFits}
use Rattle.plan_space.specs.Modes.{mode_at}
use Rattle.plan_space.proofs.Numbers.{ListingIsOne}
use Rattle.plan_space.proofs.Items.{JoinsGroups, sets_join}
use Rattle.plan_space.proofs.Fitting.{DistsFit, top_dists_fit, IsFitting, column_hash_fits, column_order_fits}
use Rattle.plan_space.proofs.Fitting.{no_order_fits, dist_passes, dist_asked_kept}
use Rattle.plan_space.proofs.Grouped.{HasGrouped, input_has_grouped, group_order_fits, agg_line_fits, partial_fits}
use Rattle.plan_space.proofs.Joins.{hash_line_fits, merge_line_fits, loop_line_fits}
use Rattle.plan_space.proofs.Leaves.{ReadsFit, scan_fits, index_scan_fits}
use Rattle.plan_space.proofs.FewModes.{only_found}
use Rattle.plan_space.proofs.WayShapes.{way_children, WayShape, children_same, way_shape}

-- an operator with one line has no other
only_one : (line found : Line) (mode : Mode) → single_line line mode ≡ Some found → line ≡ found
only_one line found (modes.Plain number) = only_found line found number
only_one line found (modes.Copied number) = λ never. cc
only_one line found (modes.Hashed number) = λ never. cc

module _ (one : ListingIsOne) (q : Query) where
  -- a line without children, of rows that lie so, if they do
  leaf_fits : (group : KeyParts) (order : GivenOrder) (found : Option GivenDist) (line : Line)
      → ((dist : GivenDist) → found ≡ Some dist → GivenFits q group (gives_so dist order))
      → option_map (λ dist. lines.Leaf dist order) found ≡ Some line → IsFitting q group Zero line
  leaf_fits group order None line fits is = let never : None ≡ Some line = is in cc
  leaf_fits group order (Some dist) line fits is =
      let same : lines.Leaf dist order ≡ line = cc in
      subst (IsFitting q group Zero) same (record { asks = tt; gives = fits dist refl })

  -- the lines of an operator over a table
  table_line_fits : (group own : KeyParts) (order : KeyParts → GivenOrder) (mode : Mode) (line : Line) → group ≡ own
      → table_line q group (order group) mode ≡ Some line
      → ReadsFit q (table_in own) own (order own)
      → IsFitting q group Zero line
  table_line_fits group own order (modes.Plain number) line of_table is fit =
      let fits = subst (λ g. ReadsFit q (table_in g) g (order g)) (sym of_table) fit in
      leaf_fits group (order group) (slice_get (dists_of_table q (table_in group)) number) line (fits number) is
  table_line_fits group own order (modes.Copied number) line of_table is fit = cc
  table_line_fits group own order (modes.Hashed number) line of_table is fit = cc

  -- what holds of a line over one group holds of the same line over the same group
  along : (group of child over : KeyParts) (known line : Line) → group ≡ of → child ≡ over → known ≡ line
      → IsFitting q of (One over) known
      → IsFitting q group (One child) line
  along group of child over known line of_group of_child same fits =
      subst (λ g. IsFitting q g (One child) line) (sym of_group)
      (subst (λ c. IsFitting q of (One c) line) (sym of_child) (subst (IsFitting q of (One over)) same fits))

  -- a line of an aggregation over each group that has the GROUP BY columns is one over its children
  agg_over : (group child : KeyParts) (line : Line) → IsAggregated q group child
      → ((from : KeyParts) → HasGrouped q from → IsFitting q groups.Agg (One from) line)
      → IsFitting q group (One child) line
  agg_over group child line (of_agg, over) fits = elim over [
    | inl all ↦ along group groups.Agg child (input_of q) line line of_agg all refl
        (fits (input_of q) (input_has_grouped q))
    | inr partial ↦ along group groups.Agg child groups.Partial line line of_agg partial refl
        (fits groups.Partial (λ i grouped. grouped))
  ]

  -- a filter passes on what is asked of it, and what its child gives
  filter_fits : (t : ℕ) → IsFitting q (groups.Filter t) (One (groups.Get t))
      (lines.Above left_dists.Same left_orders.Same)
  filter_fits t = record {
    asks = λ wanted fits serves. record {
      dist = dist_asked_kept q (groups.Filter t) (groups.Get t) (λ i item. item) wanted.dist fits.dist;
      numbered = fits.numbered;
      order = fits.order;
    };
    gives = record {
      dist_within = dist_passes q (groups.Filter t) (groups.Get t) (λ i item. item) (λ dist lies. lies);
      order_within = λ order lies. lies;
    };
  }

  filter_over : (group child : KeyParts) (mode : Mode) (line : Line) → IsFiltered group child
      → single_line (lines.Above left_dists.Same left_orders.Same) mode ≡ Some line → IsFitting q group (One child) line
  filter_over group child mode line (t, of_table, over) is =
      let same = only_one (lines.Above left_dists.Same left_orders.Same) line mode is in
      along group (groups.Filter t) child (groups.Get t) (lines.Above left_dists.Same left_orders.Same) line of_table
      over same (filter_fits t)

  partial_over : (group child : KeyParts) (mode : Mode) (line : Line) → IsPartial q group child
      → single_line (lines.Above left_dists.SameSpread (in_order 0)) mode ≡ Some line
      → IsFitting q group (One child) line
  partial_over group child mode line (of_partial, over) is =
      let same = only_one (lines.Above left_dists.SameSpread (in_order 0)) line mode is in
      along group groups.Partial child (input_of q) (lines.Above left_dists.SameSpread (in_order 0)) line of_partial
      over same (partial_fits q)

  -- a join's group joins its children
  join_shape : (group left right : KeyParts) → IsJoin q group left right → JoinsGroups q group left right
  join_shape group left right (set, a, b, of_set, falls, is_left, is_right) =
      subst (λ g. JoinsGroups q g left right) (sym of_set)
      (subst (λ l. JoinsGroups q (groups.Join set) l right) (sym is_left)
      (subst (JoinsGroups q (groups.Join set) (top_of q a)) (sym is_right) (sets_join q set a b falls)))

  -- and its left child's rows lie by its items
  join_lists : (group left right : KeyParts) → IsJoin q group left right → DistsFit q left
  join_lists group left right (set, a, b, of_set, falls, is_left, is_right) =
      subst (DistsFit q) (sym is_left) (top_dists_fit q a)

  -- what stands on two groups joins them
  joins_by : (group left right : KeyParts) (way : Way) → WayShape q group way → way_children way ≡ Two left right
      → IsJoin q group left right
  joins_by group left right (ways.Reads access) shape is = cc
  joins_by group left right (ways.Passes kept child) shape is = cc
  joins_by group left right (ways.Joins by first second) shape is =
      let one_left : first ≡ left = cc in
      let one_right : second ≡ right = cc in
      subst (λ l. IsJoin q group l right) one_left (subst (IsJoin q group first) one_right shape)
  joins_by group left right (ways.Groups by child) shape is = cc

  -- the hash and the order of the left one of the columns that a predicate equates across the children fit the left
  -- child
  pub crossings_fit : CrossingsFit q
  crossings_fit e left right pred a b candidate over crosses =
      let joined = join_shape e.group left right (joins_by e.group left right (way_of e.operator)
      (way_shape q e.group e.operator candidate.shape) (sym (children_same e.operator) ∙ over)) in
      let sides = joined.sides pred (a, b) crosses in
      let order = column_order_fits one q left a sides.in_left sides.left_joined in
      (column_hash_fits one q left a sides.in_left sides.left_joined, record { numbered = order.0; lies_in = order.1 })

  -- the rows of a table, read in any of the orders in which it can be, lie in its group
  read_fits : (t : ℕ) (own : KeyParts) → ((i : ℕ) → IsTrue (is_column_of q.items t i) → IsTrue (has_item q own i))
      → table_in own ≡ t → (access : Access) → ReadsFit q (table_in own) own (order_read own access)
  read_fits t own columns is accesses.Direct =
      subst (λ x. ReadsFit q x own (Listed 0)) (sym is) (scan_fits one q t own columns)
  read_fits t own columns is (accesses.Index index) =
      subst (λ x. ReadsFit q x own (Index x index)) (sym is) (index_scan_fits one q t own columns index)

  reads_fit : (group : KeyParts) (access : Access) (mode : Mode) (line : Line) → WayShape q group (ways.Reads access)
      → table_line q group (order_read group access) mode ≡ Some line → IsFitting q group Zero line
  reads_fit group access mode line (t, inl of_table) is =
      table_line_fits group (groups.Get t) (λ g. order_read g access) mode line of_table is
      (read_fits t (groups.Get t) (λ i column. column) refl access)
  reads_fit group access mode line (t, inr of_table) is =
      table_line_fits group (groups.Filter t) (λ g. order_read g access) mode line of_table is
      (read_fits t (groups.Filter t) (λ i column. column) refl access)

  join_line_fits : (by : JoinBy) (group left right : KeyParts) (mode : Mode) (line : Line) → IsJoin q group left right
      → join_line q by left right mode ≡ Some line → IsFitting q group (Two left right) line
  join_line_fits joins.Hashing group left right mode line shape is =
      hash_line_fits one q group left right (join_lists group left right shape) (join_shape group left right shape) line
      mode is
  join_line_fits joins.Merging group left right mode line shape is =
      merge_line_fits one q group left right (join_lists group left right shape) (join_shape group left right shape)
      line mode is
  join_line_fits joins.Looping group left right mode line shape is =
      loop_line_fits one q group left right (join_lists group left right shape) (join_shape group left right shape) line
      mode is

  -- the order in which rows are grouped fits each group that has the GROUP BY columns
  grouped_order_fits : (by : GroupBy) (other : KeyParts) → HasGrouped q other
      → IsNumbered q (grouped_order q by) × OrderLiesIn q other (order_of q (grouped_order q by))
  grouped_order_fits grouping.Hashing other has = no_order_fits q other
  grouped_order_fits grouping.Ordered other has = group_order_fits one q other has

  -- the lines of a way of which a group of the query can have an operator
  way_line_fits : (group : KeyParts) (way : Way) (mode : Mode) (line : Line) → WayShape q group way
      → way_line q group way mode ≡ Some line → IsFitting q group (way_children way) line
  way_line_fits group (ways.Reads access) mode line shape is = reads_fit group access mode line shape is
  way_line_fits group (ways.Passes Rows child) mode line shape is = filter_over group child mode line shape is
  way_line_fits group (ways.Passes SpreadRows child) mode line shape is = partial_over group child mode line shape is
  way_line_fits group (ways.Joins by left right) mode line shape is =
      join_line_fits by group left right mode line shape is
  way_line_fits group (ways.Groups by child) mode line shape is =
      agg_over group child line shape (λ from has.
      agg_line_fits q from has (grouped_order q by) (grouped_order_fits by) mode line is)

  -- the lines of an expression that a group of the query can hold
  pub candidate_line_fits : (e : PhysicalExpr) (mode : ℕ) (line : Line) → IsCandidate q (expr_of e)
      → line_of q e mode ≡ Some line
      → IsFitting q e.group (physical_children e.operator) line
  candidate_line_fits e mode line candidate is =
      subst (λ (c : Children). IsFitting q e.group c line) (sym (children_same e.operator))
      (way_line_fits e.group (way_of e.operator) (mode_at mode) line
      (way_shape q e.group e.operator candidate.shape) is)
