-- The modes of an expression go no further than 128 and the number of its predicates or of its hashed lists.
use Rattle.std.proofs.Common.{◌≡◌, ℕ, ◌+◌, ◌-◌, ◌<◌, ◌≤◌, length, refl, subst, inl, inr, arith}
use Rattle.std.specs.Prelude.{Option, Some, None, ◌==◌, nat_lt, slice_get}
use Rattle.std.specs.Option.{option_map}
use Rattle.std.proofs.lemmas.Bool.{cases_lt, cond_both, ltb-true}
use Rattle.std.proofs.lemmas.Option.{slice_get_within}
use Rattle.query_core.specs.Crossing.{crossing_at, crossing_of}
use Rattle.query_core.specs.declared.expressions.PhysicalExpr.{PhysicalExpr}
use Rattle.query_core.specs.declared.predicate.Pred.{Pred}
use Rattle.query_core.specs.declared.query.Query.{Query}
use Rattle.query_core.specs.declared.words.KeyParts.{KeyParts}
use Rattle.request_props.specs.Numbered.{lists_of}
use Rattle.plan_space.specs.Ways.{way_of}
use Rattle.plan_space.specs.Lines.{only_line, hash_colocated, merge_colocated, agg_line, grouped_order, join_line}
use Rattle.plan_space.specs.Lines.{way_line, line_of}
use Rattle.plan_space.specs.declared.ways.JoinBy.{JoinBy}
use Rattle.plan_space.specs.declared.ways.JoinBy.TheVariants as joins
use Rattle.plan_space.specs.declared.ways.Way.{Way}
use Rattle.plan_space.specs.declared.ways.Way.TheVariants as ways
use Rattle.plan_space.specs.declared.lines.Line.{Line}
use Rattle.plan_space.specs.Nodes.{node_modes}
use Rattle.plan_space.specs.Modes.{mode_at, modes_end}
use Rattle.plan_space.specs.declared.modes.Mode.{Mode}
use Rattle.plan_space.specs.declared.modes.Mode.TheVariants.{Hashed}
use Rattle.plan_space.proofs.Few.{lists_few}
use Rattle.plan_space.proofs.ModeNumbers.{hashed_at}

-- a line is there only where the number is 0
pub only_found : (line found : Line) (number : ℕ) → only_line line number ≡ Some found → line ≡ found
only_found line found number = cond_both (number == 0) (Some line) None (λ o. o ≡ Some found → line ≡ found)
    (λ first is. cc) (λ other never. cc)

module _ (q : Query) (most : ℕ) (lists_fit : length (lists_of q) ≤ most) (preds_fit : 40 ≤ most) (line : Line) where
  -- where an expression has the line in the hashed mode of this number, the number is below this
  abbrev IsFew : Option Line → ℕ → Type 0
  IsFew found number = found ≡ Some line → number < most

  no_line : (number : ℕ) → IsFew None number
  no_line number never = cc

  -- an aggregation has a mode for each list at most
  agg_few : (order number : ℕ) → IsFew (agg_line q order (Hashed number)) number
  agg_few order number =
      cond_both (nat_lt number (length (lists_of q))) _ None (λ found. IsFew found number)
      (λ numbered is. omega (arith, ltb-true number (length (lists_of q)) numbered, lists_fit))
      (λ other. no_line number)

  module _ (left right : KeyParts) where
    -- there are at most 40 predicates
    crossing_few : (number : ℕ) (pred : Option Pred) (sides : ℕ × ℕ) → slice_get q.preds number ≡ pred
        → crossing_at q left right pred ≡ Some sides → number < 40
    crossing_few number None sides got is = let never : None ≡ Some sides = is in cc
    crossing_few number (Some pred) sides got is =
        omega (arith, slice_get_within q.preds number pred got, q.preds_valid.few)

    sides_few : (line_with : (ℕ × ℕ) → Line) (number : ℕ) (sides : Option (ℕ × ℕ))
        → crossing_of q left right number ≡ sides
        → option_map line_with sides ≡ Some line → number < 40
    sides_few line_with number None is found = let never : None ≡ Some line = found in cc
    sides_few line_with number (Some sides) is found = crossing_few number (slice_get q.preds number) sides refl is

    -- the line of a crossing equality, by the number of its predicate
    crossing_line : (line_with : (ℕ × ℕ) → Line) (number : ℕ)
        → IsFew (option_map line_with (crossing_of q left right number)) number
    crossing_line line_with number is = omega
        (arith, sides_few line_with number (crossing_of q left right number) refl is, preds_fit)

  join_few : (by : JoinBy) (left right : KeyParts) (number : ℕ)
      → IsFew (join_line q by left right (Hashed number)) number
  join_few joins.Hashing left right number = crossing_line left right (hash_colocated q) number
  join_few joins.Merging left right number = crossing_line left right (merge_colocated q) number
  join_few joins.Looping left right number = no_line number

  hashed_few : (group : KeyParts) (way : Way) (number : ℕ) → IsFew (way_line q group way (Hashed number)) number
  hashed_few group (ways.Reads access) number = no_line number
  hashed_few group (ways.Passes kept child) number = no_line number
  hashed_few group (ways.Joins by left right) number = join_few by left right number
  hashed_few group (ways.Groups by child) number = agg_few (grouped_order q by) number

  -- so no mode goes further than 128 and that
  line_few : (group : KeyParts) (way : Way) (mode : ℕ) → way_line q group way (mode_at mode) ≡ Some line
      → mode < 128 + most
  line_few group way mode is = elim (cases_lt mode 128) [
    | inl near ↦ omega (arith, near)
    | inr far ↦
        let there = subst (λ (m : Mode). way_line q group way m ≡ Some line) (hashed_at mode far) is in
        omega (arith, far, hashed_few group way (mode - 128) there)
  ]

-- an expression has lines in modes below their end only, where the query has few hashed lists
pub few_modes : (q : Query) → length (lists_of q) ≤ 60 → (e : PhysicalExpr) (mode : ℕ) (line : Line)
    → line_of q e mode ≡ Some line → mode < modes_end
few_modes q few e mode line = line_few q 64 (omega (arith, few)) (omega arith) line e.group (way_of e.operator) mode

-- and a node's number can name them in each query
pub byte_modes : (q : Query) (e : PhysicalExpr) (mode : ℕ) (line : Line) → line_of q e mode ≡ Some line
    → mode < node_modes
byte_modes q e mode line =
    line_few q 128 (omega (arith, lists_few q)) (omega arith) line e.group (way_of e.operator) mode
