-- A join serves a request in some mode exactly where it can give the distribution and the order.
use Rattle.std.proofs.Common.{◌≡◌, ◌⊎◌, ℕ, ◌+◌, ◌-◌, ◌<◌, Option, None, Some, refl, ap, sym, subst, inl, inr, arith}
use Rattle.std.specs.Prelude.{slice_get}
use Rattle.std.proofs.lemmas.Option.{slice_get_within}
use Rattle.query_core.specs.Crossing.{crossing_at, crossing_of}
use Rattle.query_core.specs.declared.predicate.Pred.{Pred}
use Rattle.query_core.specs.declared.query.Query.{Query}
use Rattle.query_core.specs.declared.words.KeyParts.{KeyParts}
use Rattle.request_props.specs.declared.request.Dist.{Dist}
use Rattle.request_props.specs.declared.request.Dist.TheVariants as dists
use Rattle.request_props.specs.declared.request.Request.{Request}
use Rattle.plan_space.specs.Lines.{on_hashed, on_one}
use Rattle.plan_space.specs.Modes.{HasModeIn, mode_at}
use Rattle.plan_space.specs.declared.lines.LeftDist.TheVariants.{SameSpread}
use Rattle.plan_space.specs.declared.modes.Mode.{Mode}
use Rattle.plan_space.specs.declared.modes.Mode.TheVariants.{Plain, Copied, Hashed}
use Rattle.plan_space.specs.declared.modes.ModeSets.{ModeSets}
use Rattle.plan_space.specs.declared.ways.JoinBy.{JoinBy}
use Rattle.plan_space.specs.declared.ways.JoinBy.TheVariants as joins
use Rattle.plan_space.proofs.ModeNumbers.{copied_at, plain_at}
use Rattle.plan_tree.specs.ServingModes.{AreFittingLeft, AreJoinModes, DistSuits, IsPlaced, OrderSuits}
use Rattle.plan_tree.proofs.JoinModes.{in_none, modes_by}
use Rattle.plan_tree.proofs.JoinNeeds.{JoinNeeds}

-- a predicate that crosses has a small number
crossing_near : (q : Query) (left right : KeyParts) (pred a b : ℕ) → crossing_of q left right pred ≡ Some (a, b)
    → pred < 64
crossing_near q left right pred a b crosses =
    elim (slice_get q.preds pred) as (λ (found : Option Pred). slice_get q.preds pred ≡ found → pred < 64) [
      | None ↦ λ none. let nowhere : crossing_of q left right pred ≡ None = ap (crossing_at q left right) none in
          let wrong : ⊥ = cc in absurd wrong
      | Some found ↦ λ there. omega (arith, slice_get_within q.preds pred found there, q.preds_valid.few)
    ] refl

copied_by : (number : ℕ) → number < 64 → mode_at (64 + number) ≡ Copied number
copied_by number near =
    let same : 64 + number - 64 ≡ number = omega arith in
    subst (λ (n : ℕ). mode_at (64 + number) ≡ Copied n) same
    (copied_at (64 + number) (omega arith) (omega (arith, near)))

module _ (q : Query) (left : KeyParts) where
  -- what is given on one segment, spread or hashed is a distribution that a join can give
  one_suits : (dist : Dist) → IsPlaced q left on_one dist → DistSuits q left dist
  one_suits dists.One placed = tt
  one_suits dists.Spread placed = tt
  one_suits dists.Copies placed = absurd placed.0
  one_suits (dists.Hashed list) placed = absurd placed.0

  spread_suits : (dist : Dist) → IsPlaced q left SameSpread dist → DistSuits q left dist
  spread_suits dists.One placed = tt
  spread_suits dists.Spread placed = tt
  spread_suits dists.Copies placed = absurd placed.0
  spread_suits (dists.Hashed list) placed = placed.1

  hashed_suits : (list : ℕ) (dist : Dist) → IsPlaced q left (on_hashed list) dist → DistSuits q left dist
  hashed_suits list dists.One placed = tt
  hashed_suits list dists.Spread placed = tt
  hashed_suits list dists.Copies placed = absurd placed.0
  hashed_suits list (dists.Hashed other) placed = subst (λ (l : ℕ). DistSuits q left (dists.Hashed l)) placed.0 placed.1

  -- and each such is given on one segment or spread
  suits_placed : (dist : Dist) → DistSuits q left dist → IsPlaced q left on_one dist ⊎ IsPlaced q left SameSpread dist
  suits_placed dists.One suits = inl (tt, tt)
  suits_placed dists.Spread suits = inr (tt, tt)
  suits_placed dists.Copies suits = absurd suits
  suits_placed (dists.Hashed list) suits = inr (tt, suits)

module _ (q : Query) (left right : KeyParts) (wanted : Request) where
  -- what a join needs in a mode is that it can give both
  pub needs_suit : (by : JoinBy) (mode : Mode) → JoinNeeds q left right wanted by mode
      → DistSuits q left wanted.dist × OrderSuits q by left right wanted.order
  needs_suit joins.Hashing (Plain n) (near, placed, ordered) = (one_suits q left wanted.dist placed, ordered.0)
  needs_suit joins.Hashing (Copied n) (near, placed, ordered) = (spread_suits q left wanted.dist placed, ordered.0)
  needs_suit joins.Hashing (Hashed n) (a, b, crosses, (placed, ordered)) =
      (hashed_suits q left _ wanted.dist placed, ordered.0)
  needs_suit joins.Merging (Plain n) (a, b, crosses, (placed, ordered)) =
      (one_suits q left wanted.dist placed, (n, (a, b, crosses, ordered.0)))
  needs_suit joins.Merging (Copied n) (a, b, crosses, (placed, ordered)) =
      (spread_suits q left wanted.dist placed, (n, (a, b, crosses, ordered.0)))
  needs_suit joins.Merging (Hashed n) (a, b, crosses, (placed, ordered)) =
      (hashed_suits q left _ wanted.dist placed, (n, (a, b, crosses, ordered.0)))
  needs_suit joins.Looping (Plain n) (near, placed, ordered) = (one_suits q left wanted.dist placed, ordered.1)
  needs_suit joins.Looping (Copied n) (near, placed, ordered) = (spread_suits q left wanted.dist placed, ordered.1)
  needs_suit joins.Looping (Hashed n) never = absurd never

  module _ (known : AreFittingLeft q left right) where
    by_placed : (by : JoinBy) → IsPlaced q left on_one wanted.dist ⊎ IsPlaced q left SameSpread wanted.dist
        → OrderSuits q by left right wanted.order → (mode : ℕ) × JoinNeeds q left right wanted by (mode_at mode)
    by_placed joins.Hashing (inl placed) none = (0, (omega arith, placed, in_none q left right wanted none))
    by_placed joins.Hashing (inr placed) none = (64, (omega arith, placed, in_none q left right wanted none))
    by_placed joins.Merging (inl placed) (n, (a, b, crosses, ordered)) = (
      n,
      subst (JoinNeeds q left right wanted joins.Merging) (sym (plain_at n (crossing_near q left right n a b crosses)))
          (a, b, crosses, (placed, (ordered, (known n a b crosses).1))),
    )
    by_placed joins.Merging (inr placed) (n, (a, b, crosses, ordered)) = (
      64 + n,
      subst (JoinNeeds q left right wanted joins.Merging) (sym (copied_by n (crossing_near q left right n a b crosses)))
          (a, b, crosses, (placed, (ordered, (known n a b crosses).1))),
    )
    by_placed joins.Looping (inl placed) fits = (0, (omega arith, placed, (tt, fits)))
    by_placed joins.Looping (inr placed) fits = (64, (omega arith, placed, (tt, fits)))

    -- and where it can give both, there is a mode with all that it needs
    pub suit_needs : (by : JoinBy) → DistSuits q left wanted.dist → OrderSuits q by left right wanted.order
        → (mode : ℕ) × JoinNeeds q left right wanted by (mode_at mode)
    suit_needs by suits = by_placed by (suits_placed q left wanted.dist suits)

  -- a join that can't give the order has no modes
  pub no_modes : (by : JoinBy) (modes : ModeSets) → (OrderSuits q by left right wanted.order → ⊥)
      → ((mode : Mode) → HasModeIn modes mode → ⊥) → AreJoinModes q by left right wanted modes
  no_modes by modes never none =
      modes_by q left right wanted by modes (λ mode needs. absurd (never (needs_suit by mode needs).1))
      (λ known mode has. absurd (none mode has))
