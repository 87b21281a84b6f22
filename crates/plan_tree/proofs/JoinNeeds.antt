-- What a join needs to serve a request in a mode: that it can give the distribution, and that it can give the order.
use Rattle.std.proofs.Common.{◌↔◌, ℕ, ◌<◌}
use Rattle.std.specs.Option.{option_map}
use Rattle.query_core.specs.Crossing.{crossing_of}
use Rattle.query_core.specs.declared.expressions.Children.TheVariants.{Two}
use Rattle.query_core.specs.declared.query.Query.{Query}
use Rattle.query_core.specs.declared.words.KeyParts.{KeyParts}
use Rattle.request_props.specs.Ends.{CrossesBy}
use Rattle.request_props.specs.Fitting.{OrderFits}
use Rattle.request_props.specs.Numbered.{column_list, column_order}
use Rattle.request_props.specs.declared.request.Dist.TheVariants as dists
use Rattle.request_props.specs.declared.request.Request.{Request}
use Rattle.plan_space.specs.Alternatives.{JoinServes, LineServes, OrderServes, order_asked}
use Rattle.plan_space.specs.Lines.{in_order, join_line, on_hashed, on_one, only_line, request}
use Rattle.plan_space.specs.declared.lines.LeftDist.{LeftDist}
use Rattle.plan_space.specs.declared.lines.LeftDist.TheVariants.{SameSpread}
use Rattle.plan_space.specs.declared.lines.LeftOrder.{LeftOrder}
use Rattle.plan_space.specs.declared.lines.LeftOrder.TheVariants.{Same}
use Rattle.plan_space.specs.declared.lines.Line.{Line}
use Rattle.plan_space.specs.declared.lines.Line.TheVariants.{Beside}
use Rattle.plan_space.specs.declared.modes.Mode.{Mode}
use Rattle.plan_space.specs.declared.modes.Mode.TheVariants.{Plain, Copied, Hashed}
use Rattle.plan_space.specs.declared.ways.JoinBy.{JoinBy}
use Rattle.plan_space.specs.declared.ways.JoinBy.TheVariants as joins
use Rattle.plan_tree.specs.ServingModes.{IsPlaced, ServesBy}
use Rattle.plan_tree.proofs.FoundLines.{by_first, by_made, nothing_found}

module _ (q : Query) (left right : KeyParts) (wanted : Request) where
  abbrev Serves : Line → Type 0
  Serves line = LineServes q line (Two left right) wanted

  -- the distribution can be given
  abbrev pub Placed : LeftDist → Type 0
  Placed place = IsPlaced q left place wanted.dist

  -- the order can, and what is asked of the left child for it fits
  abbrev pub Ordered : LeftOrder → Type 0
  Ordered order = OrderServes q order wanted.order × OrderFits q left (order_asked order wanted.order)

  -- a join's line serves exactly where both can
  splits : (place : LeftDist) (order : LeftOrder) → JoinServes q left place order wanted
      ↔ (Placed place × Ordered order)
  splits place order = (
    λ serves. (
      (serves.serves.dist_served, serves.fits.dist),
      (
        serves.serves.order_served,
        record { numbered = serves.fits.numbered; lies_in = serves.fits.order },
      ),
    ),
    λ (placed, ordered). record {
      serves = record { dist_served = placed.0; order_served = ordered.0 };
      fits = record { dist = placed.1; numbered = ordered.1.numbered; order = ordered.1.lies_in };
    },
  )

  -- so does the one of a number
  first : (place : LeftDist) (order : LeftOrder) (asked : Request) (number : ℕ)
      → ServesBy q (only_line (Beside place order asked) number) (Two left right) wanted
      ↔ ((number < 1) × Placed place × Ordered order)
  first place order asked number =
      let found = by_first Serves (Beside place order asked) number in (
        λ serves.
            let (near, is) = found.0 serves in
            let (placed, ordered) = (splits place order).0 is in
            (near, placed, ordered),
        λ (near, placed, ordered). found.1 (near, (splits place order).1 (placed, ordered)),
      )

  -- and the one by the columns that a predicate equates across the groups
  crosses : (place : ℕ → LeftDist) (order : ℕ → LeftOrder) (asked : (ℕ × ℕ) → Request) (pred : ℕ)
      → ServesBy q (option_map (λ sides. Beside (place sides.0) (order sides.0) (asked sides))
      (crossing_of q left right pred)) (Two left right) wanted
      ↔ CrossesBy q left right (λ a. Placed (place a) × Ordered (order a)) pred
  crosses place order asked pred =
      let found = by_made Serves (λ (sides : ℕ × ℕ). Beside (place sides.0) (order sides.0) (asked sides))
      (crossing_of q left right pred) in (
        λ serves. let ((a, b), is, holds) = found.0 serves in (a, b, is, (splits (place a) (order a)).0 holds),
        λ (a, b, is, both). found.1 ((a, b), is, (splits (place a) (order a)).1 both),
      )

  -- what a join needs in a mode
  abbrev pub JoinNeeds : JoinBy → Mode → Type 0
  JoinNeeds joins.Hashing (Plain number) = (number < 1) × Placed on_one × Ordered (in_order 0)
  JoinNeeds joins.Hashing (Copied number) = (number < 1) × Placed SameSpread × Ordered (in_order 0)
  JoinNeeds joins.Hashing (Hashed pred) =
      CrossesBy q left right (λ a. Placed (on_hashed (column_list q a)) × Ordered (in_order 0)) pred
  JoinNeeds joins.Merging (Plain pred) =
      CrossesBy q left right (λ a. Placed on_one × Ordered (in_order (column_order q a))) pred
  JoinNeeds joins.Merging (Copied pred) =
      CrossesBy q left right (λ a. Placed SameSpread × Ordered (in_order (column_order q a))) pred
  JoinNeeds joins.Merging (Hashed pred) =
      CrossesBy q left right (λ a. Placed (on_hashed (column_list q a)) × Ordered (in_order (column_order q a))) pred
  JoinNeeds joins.Looping (Plain number) = (number < 1) × Placed on_one × Ordered Same
  JoinNeeds joins.Looping (Copied number) = (number < 1) × Placed SameSpread × Ordered Same
  JoinNeeds joins.Looping (Hashed pred) = ⊥

  pub join_needs : (by : JoinBy) (mode : Mode)
      → ServesBy q (join_line q by left right mode) (Two left right) wanted ↔ JoinNeeds by mode
  join_needs joins.Hashing (Plain number) = first on_one (in_order 0) (request dists.One 0) number
  join_needs joins.Hashing (Copied number) = first SameSpread (in_order 0) (request dists.Copies 0) number
  join_needs joins.Hashing (Hashed pred) =
      crosses (λ a. on_hashed (column_list q a)) (λ a. in_order 0)
      (λ sides. request (dists.Hashed (column_list q sides.1)) 0) pred
  join_needs joins.Merging (Plain pred) =
      crosses (λ a. on_one) (λ a. in_order (column_order q a))
      (λ sides. request dists.One (column_order q sides.1)) pred
  join_needs joins.Merging (Copied pred) =
      crosses (λ a. SameSpread) (λ a. in_order (column_order q a))
      (λ sides. request dists.Copies (column_order q sides.1)) pred
  join_needs joins.Merging (Hashed pred) =
      crosses (λ a. on_hashed (column_list q a)) (λ a. in_order (column_order q a))
      (λ sides. request (dists.Hashed (column_list q sides.1)) (column_order q sides.1)) pred
  join_needs joins.Looping (Plain number) = first on_one Same (request dists.One 0) number
  join_needs joins.Looping (Copied number) = first SameSpread Same (request dists.Copies 0) number
  join_needs joins.Looping (Hashed pred) = (λ serves. nothing_found Serves serves, λ never. absurd never)
