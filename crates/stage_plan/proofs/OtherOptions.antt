-- What was collected of a query doesn't depend on which rules are off in it.
use Rattle.std.proofs.Common.{◌≡◌, ◌↔◌, ℕ, List, slice_index_or}
use Rattle.query_core.specs.Results.{AreOptions}
use Rattle.query_core.specs.Keys.{IsKey, NamesGroup}
use Rattle.query_core.specs.Expressions.{FallsInto, HasLogical, HasPhysical}
use Rattle.query_core.specs.Expressions.{HasShape, IsCandidate, IsCandidateOf, IsJoin}
use Rattle.query_core.specs.Expressions.{expr_of, implements, access, HasAccess}
use Rattle.query_core.specs.declared.query.Query.{Query}
use Rattle.query_core.specs.declared.options.Options.{Options}
use Rattle.query_core.specs.declared.words.Key.{Key}
use Rattle.query_core.specs.declared.words.KeyParts.{KeyParts}
use Rattle.query_core.specs.declared.expressions.ExprParts.{ExprParts}
use Rattle.query_core.specs.declared.expressions.Logical.{Logical}
use Rattle.query_core.specs.declared.expressions.Logical.TheVariants as logical
use Rattle.query_core.specs.declared.expressions.Physical.{Physical}
use Rattle.query_core.specs.declared.expressions.Physical.TheVariants as physical
use Rattle.query_core.specs.declared.expressions.Access.{Access}
use Rattle.query_core.specs.declared.expressions.Access.TheVariants.{Direct, Index}
use Rattle.query_core.specs.declared.expressions.Operator.{Operator}
use Rattle.query_core.specs.declared.expressions.Operator.TheVariants as operators
use Rattle.request_props.specs.Groups.{AreGroupRows, AreKeys}
use Rattle.request_props.specs.Candidates.{AreCandidates, AreCandidatesOf, ArePhysical, ArePhysicalOf, IsPhysicalOf}
use Rattle.request_props.specs.Ends.{AreEnds, AreEndsBelow, BeginsIn, EndsIn, IsEqualityAt}
use Rattle.request_props.specs.Lying.{AreTablesOf}
use Rattle.request_props.specs.Numbered.{AreEqualityTables, AreGroupTables, ArePlacementTables, IsProps, IsRoot}
use Rattle.request_props.specs.declared.tables.ends.EqualityEnds.{EqualityEnds}
use Rattle.request_props.specs.declared.tables.physical.PhysicalCandidate.{PhysicalCandidate}
use Rattle.request_props.specs.declared.props.Props.{Props}
use Rattle.request_props.specs.declared.request.Request.{Request}
use Rattle.request_props.specs.declared.tables.EqualityTables.{EqualityTables}
use Rattle.request_props.specs.declared.tables.GroupTables.{GroupTables}
use Rattle.request_props.specs.declared.tables.PlacementTables.{PlacementTables}
use Rattle.stage_plan.proofs.OtherJoins.{with, join_tables_with}

-- ---- groups

names_with : (q : Query) (o : Options) (v : AreOptions o) (key : Key) (group : KeyParts) → NamesGroup q key group
    → NamesGroup (with q o v) key group
names_with q o v key group h = record { number = h.number; known = h.known }

key_with : (q : Query) (o : Options) (v : AreOptions o) (key : Key) → IsKey q key → IsKey (with q o v) key
key_with q o v key h = (h.0, names_with q o v key h.0 h.1)

keys_with : (q : Query) (o : Options) (v : AreOptions o) (keys : List _) → AreKeys q keys → AreKeys (with q o v) keys
keys_with q o v keys h = record {
  count = h.count;
  each = λ number near.
      let is = h.each number near in
      (λ t. key_with q o v _ (is.0 t), λ k. is.1 (key_with (with q o v) q.options q.options_valid _ k));
}

rows_with : (q : Query) (o : Options) (v : AreOptions o) (rows : List ℕ) → AreGroupRows q rows
    → AreGroupRows (with q o v) rows
rows_with q o v rows h = record { count = h.count; each = h.each; few = h.few }

-- ---- candidates

falls_with : (q : Query) (o : Options) (v : AreOptions o) (set a b : ℕ) → FallsInto q set a b
    → FallsInto (with q o v) set a b
falls_with q o v set a b h = record {
  whole = h.whole;
  disjoint = h.disjoint;
  left = h.left;
  right = h.right;
  some_left = h.some_left;
  some_right = h.some_right;
}

join_with : (q : Query) (o : Options) (v : AreOptions o) (group left right : KeyParts) → IsJoin q group left right
    → IsJoin (with q o v) group left right
join_with q o v group left right (set, a, b, of_set, falls, is_left, is_right) =
    (set, a, b, of_set, falls_with q o v set a b falls, is_left, is_right)

logical_with : (q : Query) (o : Options) (v : AreOptions o) (group : KeyParts) (operator : Logical)
    → HasLogical q group operator → HasLogical (with q o v) group operator
logical_with q o v group logical.Get h = h
logical_with q o v group (logical.Select child) h = h
logical_with q o v group logical.NJoin h = h
logical_with q o v group (logical.Join left right) h = join_with q o v group left right h
logical_with q o v group (logical.Agg child) h = h
logical_with q o v group (logical.Partial child) h = h

access_with : (q : Query) (o : Options) (v : AreOptions o) (group : KeyParts) (a : Access) → HasAccess q group a
    → HasAccess (with q o v) group a
access_with q o v group Direct h = h
access_with q o v group (Index index) h = h

physical_with : (q : Query) (o : Options) (v : AreOptions o) (group : KeyParts) (operator : Physical)
    → HasPhysical q group operator → HasPhysical (with q o v) group operator
physical_with q o v group operator h =
    (logical_with q o v group (implements group operator) h.0, access_with q o v group (access operator) h.1)

shape_with : (q : Query) (o : Options) (v : AreOptions o) (group : KeyParts) (operator : Operator)
    → HasShape q group operator → HasShape (with q o v) group operator
shape_with q o v group (operators.Logical operator) h = logical_with q o v group operator h
shape_with q o v group (operators.Physical operator) h = physical_with q o v group operator h

candidate_with : (q : Query) (o : Options) (v : AreOptions o) (e : ExprParts) → IsCandidate q e
    → IsCandidate (with q o v) e
candidate_with q o v e h = record { known = h.known; shape = shape_with q o v e.group e.operator h.shape }

word_with : (q : Query) (o : Options) (v : AreOptions o) (group : KeyParts) (word : ℕ) → IsCandidateOf q group word
    → IsCandidateOf (with q o v) group word
word_with q o v group word (e, candidate, of_group, number) = (e, candidate_with q o v e candidate, of_group, number)

words_with : (q : Query) (o : Options) (v : AreOptions o) (group : KeyParts) (words : List ℕ)
    → AreCandidatesOf q group words → AreCandidatesOf (with q o v) group words
words_with q o v group words h = record {
  ascending = h.ascending;
  sound = λ k d near. word_with q o v group (slice_index_or words k d) (h.sound k d near);
  complete = λ word is. h.complete word (word_with (with q o v) q.options q.options_valid group word is);
}

candidates_with : (q : Query) (o : Options) (v : AreOptions o) (lists : List (List ℕ)) → AreCandidates q lists
    → AreCandidates (with q o v) lists
candidates_with q o v lists h = record {
  count = h.count;
  each = λ group known near. words_with q o v group _ (h.each group known near);
}

one_with : (q : Query) (o : Options) (v : AreOptions o) (group : KeyParts) (found : PhysicalCandidate)
    → IsPhysicalOf q group found → IsPhysicalOf (with q o v) group found
one_with q o v group found h = record {
  candidate = candidate_with q o v (expr_of found.expr) h.candidate;
  of_group = h.of_group;
  number = h.number;
}

found_with : (q : Query) (o : Options) (v : AreOptions o) (group : KeyParts) (found : List PhysicalCandidate)
    → ArePhysicalOf q group found → ArePhysicalOf (with q o v) group found
found_with q o v group found h = record {
  ascending = h.ascending;
  sound = λ k d near. one_with q o v group (slice_index_or found k d) (h.sound k d near);
  complete = λ e is. h.complete e (candidate_with (with q o v) q.options q.options_valid (expr_of e) is);
}

physicals_with : (q : Query) (o : Options) (v : AreOptions o) (lists : List (List PhysicalCandidate))
    → ArePhysical q lists → ArePhysical (with q o v) lists
physicals_with q o v lists h = record {
  count = h.count;
  each = λ group known near. found_with q o v group _ (h.each group known near);
}

group_tables_with : (q : Query) (o : Options) (v : AreOptions o) (tables : GroupTables) → AreGroupTables q tables
    → AreGroupTables (with q o v) tables
group_tables_with q o v tables h = record {
  keys = keys_with q o v tables.keys h.keys;
  rows = rows_with q o v tables.rows h.rows;
  candidates = candidates_with q o v tables.candidates h.candidates;
  physical = physicals_with q o v tables.physical h.physical;
}

-- ---- equalities

equality_with : (q : Query) (o : Options) (v : AreOptions o) (number a b : ℕ) → IsEqualityAt q number a b
    → IsEqualityAt (with q o v) number a b
equality_with q o v number a b h = record { pred = h.pred; there = h.there; first = h.first; second = h.second }

begins_with : (q : Query) (o : Options) (v : AreOptions o) (IsOne : ℕ → Type 0) (number : ℕ) → BeginsIn q IsOne number
    → BeginsIn (with q o v) IsOne number
begins_with q o v IsOne number (a, b, is, one) = (a, b, equality_with q o v number a b is, one)

ends_with : (q : Query) (o : Options) (v : AreOptions o) (IsOne : ℕ → Type 0) (number : ℕ) → EndsIn q IsOne number
    → EndsIn (with q o v) IsOne number
ends_with q o v IsOne number (a, b, is, one) = (a, b, equality_with q o v number a b is, one)

both_with : (q : Query) (o : Options) (v : AreOptions o) (IsOne : ℕ → Type 0) (bound : ℕ) (ends : EqualityEnds)
    → AreEndsBelow q IsOne bound ends → AreEndsBelow (with q o v) IsOne bound ends
both_with q o v IsOne bound ends h = record {
  first = λ number. (
    λ inside. let is = (h.first number).0 inside in (is.0, begins_with q o v IsOne number is.1),
    λ is. (h.first number).1 (is.0, begins_with (with q o v) q.options q.options_valid IsOne number is.1),
  );
  second = λ number. (
    λ inside. let is = (h.second number).0 inside in (is.0, ends_with q o v IsOne number is.1),
    λ is. (h.second number).1 (is.0, ends_with (with q o v) q.options q.options_valid IsOne number is.1),
  );
}

sets_with : (q : Query) (o : Options) (v : AreOptions o) (IsOneAt : ℕ → ℕ → Type 0) (places : ℕ)
    (list : List EqualityEnds) → AreEnds q IsOneAt places list → AreEnds (with q o v) IsOneAt places list
sets_with q o v IsOneAt places list h = record {
  count = h.count;
  each = λ k d near. both_with q o v (IsOneAt k) _ (slice_index_or list k d) (h.each k d near);
}

equality_tables_with : (q : Query) (o : Options) (v : AreOptions o) (tables : EqualityTables)
    → AreEqualityTables q tables → AreEqualityTables (with q o v) tables
equality_tables_with q o v tables h = record {
  sides = h.sides;
  of_tables = sets_with q o v _ _ tables.of_tables h.of_tables;
  of_sets = sets_with q o v _ _ tables.of_sets h.of_sets;
  of_orders = sets_with q o v _ _ tables.of_orders h.of_orders;
  of_lists = sets_with q o v _ _ tables.of_lists h.of_lists;
}

-- ---- where rows lie

lying_with : (q : Query) (o : Options) (v : AreOptions o) (lists : List (List ℕ)) (found : List _)
    → AreTablesOf q lists found → AreTablesOf (with q o v) lists found
lying_with q o v lists found h = record { count = h.count; each = h.each }

placement_tables_with : (q : Query) (o : Options) (v : AreOptions o) (tables : PlacementTables)
    → ArePlacementTables q tables → ArePlacementTables (with q o v) tables
placement_tables_with q o v tables h = record {
  placings = h.placings;
  grouped = h.grouped;
  of_lists = lying_with q o v _ _ h.of_lists;
  of_orders = lying_with q o v _ _ h.of_orders;
  by_groups = h.by_groups;
}

-- ---- all of it

root_with : (q : Query) (o : Options) (v : AreOptions o) (request : Request) → o.root ≡ q.options.root
    → IsRoot q request → IsRoot (with q o v) request
root_with q o v request same h = record {
  dist = cc;
  order = record
      { numbered = h.order.numbered; is_order = h.order.is_order };
}

-- where the root of the plan is to be on as many segments
pub props_with : (q : Query) (o : Options) (v : AreOptions o) (props : Props) → o.root ≡ q.options.root
    → IsProps q props → IsProps (with q o v) props
props_with q o v props same h = record {
  lists = h.lists;
  few_lists = h.few_lists;
  order_lists = h.order_lists;
  few_orders = h.few_orders;
  root_request = root_with q o v props.root same h.root_request;
  groups = group_tables_with q o v props.groups.value h.groups;
  equalities = equality_tables_with q o v props.equalities.value h.equalities;
  placement = placement_tables_with q o v props.placement.value h.placement;
  joins = join_tables_with q o v _ _ h.joins;
}
