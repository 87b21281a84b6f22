-- A node of the query is one that the query can name.
use Rattle.std.proofs.Common.{◌≡◌, ℕ, ◌<◌, Bool, true, false, List, length, Option, Some, None, refl}
use Rattle.std.specs.Prelude.{◌==◌, if◌then◌else◌, nat_lt, slice_get}
use Rattle.std.specs.Option.{IsSome, option_map}
use Rattle.std.proofs.lemmas.Bool.{eqb-true, ltb-true}
use Rattle.std.proofs.lemmas.Option.{slice_get_within}
use Rattle.query_core.specs.Crossing.{crossing_of, crossing_at}
use Rattle.query_core.specs.Expressions.{table_in}
use Rattle.query_core.specs.declared.predicate.Pred.{Pred}
use Rattle.query_core.specs.declared.query.Query.{Query}
use Rattle.query_core.specs.declared.words.KeyParts.{KeyParts}
use Rattle.query_core.specs.declared.expressions.Physical.{Physical}
use Rattle.request_props.specs.Numbered.{lists_of}
use Rattle.plan_space.specs.Modes.{mode_at}
use Rattle.request_props.specs.declared.given.GivenDist.{GivenDist}
use Rattle.request_props.specs.declared.given.GivenOrder.{GivenOrder}
use Rattle.plan_space.specs.Lines.{only_line, single_line, hash_line, merge_line, loop_line, agg_line, in_order}
use Rattle.plan_space.specs.Lines.{dists_of_table, table_line, join_line, way_line, order_read, kept_line}
use Rattle.plan_space.specs.Lines.{grouped_order}
use Rattle.plan_space.specs.Ways.{way_of}
use Rattle.plan_space.specs.declared.lines.Line.TheVariants.{Above}
use Rattle.plan_space.specs.declared.lines.LeftDist.TheVariants as left_dists
use Rattle.plan_space.specs.declared.lines.Line.{Line}
use Rattle.plan_space.specs.declared.modes.Mode.{Mode}
use Rattle.plan_space.specs.declared.modes.Mode.TheVariants as modes
use Rattle.plan_space.specs.declared.ways.JoinBy.{JoinBy}
use Rattle.plan_space.specs.declared.ways.JoinBy.TheVariants as joins
use Rattle.plan_space.specs.declared.ways.Way.{Way}
use Rattle.plan_space.specs.declared.ways.Way.TheVariants.{Reads, Passes, Joins, Groups}
use Rattle.plan_space.specs.declared.nodes.NodeKind.{NodeKind}
use Rattle.plan_space.specs.declared.nodes.NodeKind.TheVariants as nodes
use Rattle.plan_check.specs.Nodes.{IsKindOf, IsNativeOf}
use Rattle.plan_reading.specs.Named.{named_of, HasForm, IsOperatorOf, HasModeForm, HasOnlyForm, HasReadForm}
use Rattle.plan_reading.specs.Named.{HasHashForm, HasMergeForm, HasLoopForm, HasJoinForm, HasAggForm}
use Rattle.plan_reading.specs.Operators.{unplaced}
use Rattle.plan_reading.proofs.OperatorRows.{unplaced_first, unplaced_mode, group_table}
use Rattle.plan_reading.proofs.SameNodes.{expr}

only_zero : (line : Line) (n : ℕ) → IsSome (only_line line n) → n ≡ 0
only_zero line n is = by_test (n == 0) refl is
  where
    by_test : (b : Bool) → (n == 0) ≡ b → IsSome (if b then Some line else None) → n ≡ 0
    by_test true e some = eqb-true n 0 e
    by_test false e some = absurd cc

some_below : (n bound : ℕ) (line : Line) (b : Bool) → nat_lt n bound ≡ b → IsSome (if b then Some line else None) → n < bound
some_below n bound line true e some = ltb-true n bound e
some_below n bound line false e some = absurd cc

module _ (q : Query) where
  crossing_below : (l r : KeyParts) (f : ℕ × ℕ → Line) (n : ℕ) → IsSome (option_map f (crossing_of q l r n))
      → n < length q.preds
  crossing_below l r f n is = by_pred (slice_get q.preds n) refl is
    where
      by_pred : (o : Option Pred) → slice_get q.preds n ≡ o → IsSome (option_map f (crossing_at q l r o)) → n < length q.preds
      by_pred None e some = absurd cc
      by_pred (Some pred) e some = slice_get_within q.preds n pred e

  only_form : (line : Line) (mode : Mode) → IsSome (single_line line mode) → HasOnlyForm mode
  only_form line (modes.Plain n) is = only_zero line n is
  only_form line (modes.Copied n) is = absurd cc
  only_form line (modes.Hashed n) is = absurd cc

  read_below : (f : GivenDist → Line) (dists : List GivenDist) (n : ℕ) → IsSome (option_map f (slice_get dists n))
      → n < length dists
  read_below f dists n is = by_dist (slice_get dists n) refl is
    where
      by_dist : (o : Option GivenDist) → slice_get dists n ≡ o → IsSome (option_map f o) → n < length dists
      by_dist None e some = absurd cc
      by_dist (Some dist) e some = slice_get_within dists n dist e

  read_form : (g : KeyParts) (order : GivenOrder) (mode : Mode) → IsSome (table_line q g order mode)
      → HasReadForm q (table_in g) mode
  read_form g order (modes.Plain n) is = read_below _ (dists_of_table q (table_in g)) n is
  read_form g order (modes.Copied n) is = absurd cc
  read_form g order (modes.Hashed n) is = absurd cc

  hash_form : (l r : KeyParts) (mode : Mode) → IsSome (hash_line q l r mode) → HasHashForm q mode
  hash_form l r (modes.Plain n) is = only_zero _ n is
  hash_form l r (modes.Copied n) is = only_zero _ n is
  hash_form l r (modes.Hashed n) is = crossing_below l r _ n is

  merge_form : (l r : KeyParts) (mode : Mode) → IsSome (merge_line q l r mode) → HasMergeForm q mode
  merge_form l r (modes.Plain n) is = crossing_below l r _ n is
  merge_form l r (modes.Copied n) is = crossing_below l r _ n is
  merge_form l r (modes.Hashed n) is = crossing_below l r _ n is

  loop_form : (mode : Mode) → IsSome (loop_line mode) → HasLoopForm mode
  loop_form (modes.Plain n) is = only_zero _ n is
  loop_form (modes.Copied n) is = only_zero _ n is
  loop_form (modes.Hashed n) is = absurd cc

  agg_form : (order : ℕ) (mode : Mode) → IsSome (agg_line q order mode) → HasAggForm q mode
  agg_form order (modes.Plain n) is = only_zero _ n is
  agg_form order (modes.Copied n) is = absurd cc
  agg_form order (modes.Hashed n) is =
      some_below n (length (lists_of q)) (Above (left_dists.Grouped n) (in_order order)) (nat_lt n (length (lists_of q))) refl is

  join_form : (by : JoinBy) (l r : KeyParts) (mode : Mode) → IsSome (join_line q by l r mode) → HasJoinForm q by mode
  join_form joins.Hashing l r mode is = hash_form l r mode is
  join_form joins.Merging l r mode is = merge_form l r mode is
  join_form joins.Looping l r mode is = loop_form mode is

  mode_form : (g : KeyParts) (way : Way) (mode : Mode) → IsSome (way_line q g way mode)
      → HasModeForm q way (table_in g) mode
  mode_form g (Reads access) mode is = read_form g (order_read g access) mode is
  mode_form g (Passes kept child) mode is = only_form (kept_line kept) mode is
  mode_form g (Joins by l r) mode is = join_form by l r mode is
  mode_form g (Groups by child) mode is = agg_form (grouped_order q by) mode is

  native_form : (g : KeyParts) (o : Physical) (m : ℕ) → IsNativeOf q (expr g o) m
      → IsOperatorOf q (unplaced o) (table_in g) (mode_at m)
  native_form g o m is = record {
    over_none = unplaced_first o;
    has_table = group_table q g o is.candidate.known is.candidate.shape;
    has_mode = unplaced_mode q o (table_in g) (mode_at m) (mode_form g (way_of o) (mode_at m) is.has_line);
  }

  pub known_form : (node : NodeKind) → IsKindOf q node → HasForm q (named_of node)
  known_form (nodes.Native e m) is = native_form e.group e.operator m is
  known_form (nodes.Enforcer e) is = is
