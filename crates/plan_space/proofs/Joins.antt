-- The lines of joins ask what fits their children, and give what lies in their group.
use Rattle.std.proofs.Common.{◌≡◌, ℕ, refl, subst}
use Rattle.std.specs.Prelude.{Option, Some, None, ◌==◌}
use Rattle.std.specs.Option.{option_map}
use Rattle.std.proofs.lemmas.Bool.{cond_both}
use Rattle.query_core.specs.Crossing.{crossing_of}
use Rattle.query_core.specs.declared.query.Query.{Query}
use Rattle.query_core.specs.declared.words.KeyParts.{KeyParts}
use Rattle.query_core.specs.declared.expressions.Children.TheVariants.{Two}
use Rattle.request_props.specs.declared.request.Request.{Request}
use Rattle.request_props.specs.declared.request.Dist.{Dist}
use Rattle.request_props.specs.declared.request.Dist.TheVariants as dists
use Rattle.request_props.specs.Fitting.{DistFits, Fits}
use Rattle.plan_space.specs.Lines.{request, in_order, on_one, on_hashed, only_line, hash_colocated, hash_line}
use Rattle.plan_space.specs.Lines.{merge_with, merge_colocated, merge_line, loop_line}
use Rattle.request_props.specs.Numbered.{column_order, column_list}
use Rattle.plan_space.specs.declared.lines.LeftDist.{LeftDist}
use Rattle.plan_space.specs.declared.lines.LeftDist.TheVariants as left_dists
use Rattle.plan_space.specs.declared.lines.LeftOrder.{LeftOrder}
use Rattle.plan_space.specs.declared.lines.LeftOrder.TheVariants as left_orders
use Rattle.plan_space.specs.declared.lines.Line.{Line}
use Rattle.plan_space.specs.declared.lines.Line.TheVariants as lines
use Rattle.plan_space.specs.declared.modes.Mode.{Mode}
use Rattle.plan_space.specs.declared.modes.Mode.TheVariants as modes
use Rattle.plan_space.proofs.Numbers.{ListingIsOne}
use Rattle.plan_space.proofs.Items.{AreSides, JoinsGroups}
use Rattle.plan_space.proofs.Fitting.{FixedDistFits, FixedOrderFits, LeftFits, DistsFit, IsFitting, column_hash_fits}
use Rattle.plan_space.proofs.Fitting.{column_order_fits, no_order_fits, in_order_fits, on_hashed_fits, plain_fits}
use Rattle.plan_space.proofs.Fitting.{items_within}

module _ (one : ListingIsOne) (q : Query) (group left right : KeyParts) (lists_fit : DistsFit q left)
    (joins : JoinsGroups q group left right) where
  -- a line beside the right child fits
  abbrev JoinFits : Line → Type 0
  JoinFits line = IsFitting q group (Two left right) line

  -- it does where what it fixes fits
  join_fits : (dist : LeftDist) (order : LeftOrder) (asked : Request) → FixedDistFits q left dist
      → FixedOrderFits q left order → Fits q right asked
      → JoinFits (lines.Beside dist order asked)
  join_fits dist order asked dist_fits order_fits right_fits =
      let left_fits : LeftFits q left dist order = record { dist_fits = dist_fits; order_fits = order_fits } in
      record { asks = (left_fits, right_fits); gives = items_within q group left joins.kept dist order left_fits }

  -- a hash join by a crossing equality, of rows hashed alike
  hash_colocated_fits : (sides : ℕ × ℕ) → AreSides q left right sides → JoinFits (hash_colocated q sides)
  hash_colocated_fits sides are =
      join_fits (on_hashed (column_list q sides.0)) (in_order 0) (request (dists.Hashed (column_list q sides.1)) 0)
      (on_hashed_fits q left (column_list q sides.0) (column_hash_fits one q left sides.0 are.in_left are.left_joined))
      (in_order_fits q left 0 (no_order_fits q left))
      (plain_fits q right (dists.Hashed (column_list q sides.1))
      (column_hash_fits one q right sides.1 are.in_right are.right_joined))

  -- a merge join by a crossing equality, from where its distributions fit
  merge_fits : (dist : LeftDist) (asked : Dist) → FixedDistFits q left dist → DistFits q right asked → (sides : ℕ × ℕ)
      → AreSides q left right sides
      → JoinFits (merge_with q dist asked sides)
  merge_fits dist asked dist_fits right_fits sides are =
      let left_order = column_order_fits one q left sides.0 are.in_left are.left_joined in
      let right_order = column_order_fits one q right sides.1 are.in_right are.right_joined in
      join_fits dist (in_order (column_order q sides.0)) (request asked (column_order q sides.1)) dist_fits
      (in_order_fits q left (column_order q sides.0) left_order)
      (record { dist = right_fits; numbered = right_order.0; order = right_order.1 })

  merge_colocated_fits : (sides : ℕ × ℕ) → AreSides q left right sides → JoinFits (merge_colocated q sides)
  merge_colocated_fits sides are =
      merge_fits (on_hashed (column_list q sides.0)) (dists.Hashed (column_list q sides.1))
      (on_hashed_fits q left (column_list q sides.0) (column_hash_fits one q left sides.0 are.in_left are.left_joined))
      (column_hash_fits one q right sides.1 are.in_right are.right_joined) sides are

  module _ (line : Line) where
    no_line : None ≡ Some line → JoinFits line
    no_line never = cc

    -- a line on one segment or over copies, in an order that fits
    plain_line : (dist : LeftDist) (order : LeftOrder) (asked : Dist) → FixedDistFits q left dist
        → FixedOrderFits q left order → DistFits q right asked
        → Some (lines.Beside dist order (request asked 0)) ≡ Some line → JoinFits line
    plain_line dist order asked dist_fits order_fits right_fits is =
        let same : lines.Beside dist order (request asked 0) ≡ line = cc in
        subst JoinFits same (join_fits dist order (request asked 0) dist_fits order_fits
        (plain_fits q right asked right_fits))

    -- the line of the sides that are found
    line_of_sides : (line_with : (ℕ × ℕ) → Line)
        → ((sides : ℕ × ℕ) → AreSides q left right sides → JoinFits (line_with sides)) → (found : Option (ℕ × ℕ))
        → ((sides : ℕ × ℕ) → found ≡ Some sides → AreSides q left right sides) → option_map line_with found ≡ Some line
        → JoinFits line
    line_of_sides line_with fits None are is = let never : None ≡ Some line = is in cc
    line_of_sides line_with fits (Some sides) are is =
        let same : line_with sides ≡ line = cc in
        subst JoinFits same (fits sides (are sides refl))

    -- the line of a crossing equality
    crossing_line : (line_with : (ℕ × ℕ) → Line)
        → ((sides : ℕ × ℕ) → AreSides q left right sides → JoinFits (line_with sides)) → (number : ℕ)
        → option_map line_with (crossing_of q left right number) ≡ Some line → JoinFits line
    crossing_line line_with fits number = line_of_sides line_with fits (crossing_of q left right number)
        (joins.sides number)

    -- a line where the number is 0
    only_fits : (own : Line) (number : ℕ) → (Some own ≡ Some line → JoinFits line) → only_line own number ≡ Some line
        → JoinFits line
    only_fits own number fits = cond_both (number == 0) (Some own) None (λ found. found ≡ Some line → JoinFits line)
        (λ first. fits) (λ other. no_line)

    pub hash_line_fits : (mode : Mode) → hash_line q left right mode ≡ Some line → JoinFits line
    hash_line_fits (modes.Plain number) = only_fits _ number
        (plain_line on_one (in_order 0) dists.One (tt, tt) (in_order_fits q left 0 (no_order_fits q left)) tt)
    hash_line_fits (modes.Copied number) =
        only_fits _ number (plain_line left_dists.SameSpread (in_order 0) dists.Copies lists_fit
        (in_order_fits q left 0 (no_order_fits q left)) tt)
    hash_line_fits (modes.Hashed number) = crossing_line (hash_colocated q) hash_colocated_fits number

    pub merge_line_fits : (mode : Mode) → merge_line q left right mode ≡ Some line → JoinFits line
    merge_line_fits (modes.Plain number) = crossing_line (merge_with q on_one dists.One)
        (merge_fits on_one dists.One (tt, tt) tt) number
    merge_line_fits (modes.Copied number) =
        crossing_line (merge_with q left_dists.SameSpread dists.Copies)
        (merge_fits left_dists.SameSpread dists.Copies lists_fit tt) number
    merge_line_fits (modes.Hashed number) = crossing_line (merge_colocated q) merge_colocated_fits number

    pub loop_line_fits : (mode : Mode) → loop_line mode ≡ Some line → JoinFits line
    loop_line_fits (modes.Plain number) = only_fits _ number (plain_line on_one left_orders.Same dists.One (tt, tt) tt tt)
    loop_line_fits (modes.Copied number) = only_fits _ number
        (plain_line left_dists.SameSpread left_orders.Same dists.Copies lists_fit tt tt)
    loop_line_fits (modes.Hashed number) = no_line
