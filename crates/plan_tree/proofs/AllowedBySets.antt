-- What the sets of a join allow is what it can give.
use Rattle.std.proofs.Common.{◌≡◌, ◌↔◌, ℕ, refl}
use Rattle.query_core.specs.declared.expressions.Physical.{Physical}
use Rattle.query_core.specs.declared.expressions.Physical.TheVariants as physical
use Rattle.query_core.specs.declared.query.Query.{Query}
use Rattle.query_core.specs.declared.words.KeyParts.{KeyParts}
use Rattle.request_props.specs.JoinSets.{Allows, AllowsDist, AreSetsFor, AreSetsOf}
use Rattle.request_props.specs.Numbered.{IsNumbered}
use Rattle.request_props.specs.declared.request.Dist.{Dist}
use Rattle.request_props.specs.declared.request.Dist.TheVariants as dists
use Rattle.request_props.specs.declared.request.Request.{Request}
use Rattle.request_props.specs.declared.tables.join_sets.JoinSets.{JoinSets}
use Rattle.plan_space.specs.Ways.{way_of}
use Rattle.plan_space.specs.declared.ways.JoinBy.{JoinBy}
use Rattle.plan_space.specs.declared.ways.JoinBy.TheVariants as joins
use Rattle.plan_space.specs.declared.ways.Way.TheVariants.{Joins}
use Rattle.plan_tree.specs.ServingModes.{DistSuits, OrderSuits}

module _ (q : Query) (wanted : Request) (numbered : IsNumbered q wanted.order) (sets : JoinSets) where
  dist_allowed : (left : KeyParts) (IsGiven : ℕ → Type 0) → AreSetsFor q left IsGiven sets → (dist : Dist)
      → AllowsDist sets.lists dist ↔ DistSuits q left dist
  dist_allowed left IsGiven are dists.One = (λ allows. tt, λ suits. tt)
  dist_allowed left IsGiven are dists.Spread = (λ allows. tt, λ suits. tt)
  dist_allowed left IsGiven are dists.Copies = (λ never. never, λ never. never)
  dist_allowed left IsGiven are (dists.Hashed list) = are.lists list

  -- the operator joins two groups, and the sets allow what is asked for exactly where it can give this
  pub record IsAllowed (operator : Physical) : Type 0 where
    pub by : JoinBy
    pub left : KeyParts
    pub right : KeyParts
    pub joins : way_of operator ≡ Joins by left right
    pub exact : Allows sets wanted ↔ (DistSuits q left wanted.dist × OrderSuits q by left right wanted.order)

  allowed_by : (by : JoinBy) (left right : KeyParts) → AreSetsFor q left (λ order. OrderSuits q by left right order) sets
      → Allows sets wanted ↔ (DistSuits q left wanted.dist × OrderSuits q by left right wanted.order)
  allowed_by by left right are =
      let dist = dist_allowed left (λ order. OrderSuits q by left right order) are wanted.dist in
      let order = are.orders wanted.order numbered in (
        λ allows. (dist.0 allows.0, order.0 allows.1),
        λ suits. (dist.1 suits.0, order.1 suits.1),
      )

  allowed_as : (operator : Physical) (by : JoinBy) (left right : KeyParts) → way_of operator ≡ Joins by left right
      → AreSetsFor q left (λ order. OrderSuits q by left right order) sets → IsAllowed operator
  allowed_as operator by left right joins are = record {
    by = by;
    left = left;
    right = right;
    joins = joins;
    exact = allowed_by by left right are;
  }

  pub join_allowed : (operator : Physical) → AreSetsOf q operator sets → IsAllowed operator
  join_allowed (physical.HashJoin left right) are =
      allowed_as (physical.HashJoin left right) joins.Hashing left right refl are
  join_allowed (physical.MergeJoin left right) are =
      allowed_as (physical.MergeJoin left right) joins.Merging left right refl are
  join_allowed (physical.LoopJoin left right) are =
      allowed_as (physical.LoopJoin left right) joins.Looping left right refl are
  join_allowed operator never = absurd never
