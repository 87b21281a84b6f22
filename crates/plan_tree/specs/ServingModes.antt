-- In which modes an expression may serve a request.
use Rattle.std.specs.Prelude.{ℕ, ◌≡◌, ◌≤◌, ◌<◌, List, [], Option, None, Some, slice_get, ⊤}
use Rattle.query_core.specs.Crossing.{crossing_of}
use Rattle.query_core.specs.Expressions.{IsCandidate, expr_of}
use Rattle.query_core.specs.declared.expressions.Children.{Children}
use Rattle.query_core.specs.declared.expressions.Children.TheVariants.{Two}
use Rattle.query_core.specs.declared.expressions.PhysicalExpr.{PhysicalExpr}
use Rattle.query_core.specs.declared.query.Query.{Query}
use Rattle.query_core.specs.declared.words.KeyParts.{KeyParts}
use Rattle.request_props.specs.Fitting.{DistFits, HashFits, OrderFits}
use Rattle.request_props.specs.JoinSets.{Merges}
use Rattle.request_props.specs.NumberSets.{NoneBetween}
use Rattle.request_props.specs.Numbered.{column_list, column_order, order_of}
use Rattle.request_props.specs.Satisfied.{BeginsWith, Meets}
use Rattle.request_props.specs.declared.given.GivenDist.{GivenDist}
use Rattle.request_props.specs.declared.request.Dist.{Dist}
use Rattle.request_props.specs.declared.request.Dist.TheVariants as dists
use Rattle.request_props.specs.declared.request.Request.{Request}
use Rattle.plan_space.specs.Alternatives.{DistServes, IsAlternative, LineServes, dist_asked}
use Rattle.plan_space.specs.Lines.{join_line}
use Rattle.plan_space.specs.Modes.{mode_at, modes_end, HasModeIn}
use Rattle.plan_space.specs.declared.modes.Mode.{Mode}
use Rattle.plan_space.specs.declared.lines.LeftDist.{LeftDist}
use Rattle.plan_space.specs.declared.lines.Line.{Line}
use Rattle.plan_space.specs.declared.modes.ModeSets.{ModeSets}
use Rattle.plan_space.specs.declared.ways.JoinBy.{JoinBy}
use Rattle.plan_space.specs.declared.ways.JoinBy.TheVariants as joins
use Rattle.plan_tree.specs.Alternatives.{HasAlternative}

-- the expression may serve the request in some mode
abbrev pub MayServe : Query → PhysicalExpr → Request → Type 0
MayServe q e wanted = (mode : ℕ) × HasAlternative q e wanted mode

-- no mode from the number on and below the other is there for the request
abbrev pub NoneServes : Query → PhysicalExpr → Request → ℕ → ℕ → Type 0
NoneServes q e wanted from below = NoneBetween (HasAlternative q e wanted) from below

-- all modes that are there for the request are among these, and of an expression that a group can hold no others
pub record AreToTry (q : Query) (e : PhysicalExpr) (wanted : Request) (modes : ModeSets) : Type 0 where
  pub all : (mode : ℕ) → HasAlternative q e wanted mode → HasModeIn modes (mode_at mode)
  pub only : IsCandidate q (expr_of e) → (mode : ℕ) → HasModeIn modes (mode_at mode) → HasAlternative q e wanted mode

-- the first mode from the number on that is there for the request, with its line; or none is
abbrev pub IsNextServing : Query → PhysicalExpr → Request → ℕ → Option (ℕ × Line) → Type 0
IsNextServing q e wanted from None = (mode : ℕ) → from ≤ mode → HasAlternative q e wanted mode → ⊥
IsNextServing q e wanted from (Some found) = (from ≤ found.0) × (found.0 < modes_end)
    × NoneServes q e wanted from found.0 × IsAlternative q e wanted found.0 found.1

-- ---- by ways of working

-- a line is found, and is there for the request over these children
abbrev pub ServesBy : Query → Option Line → Children → Request → Type 0
ServesBy q found children wanted = (line : Line) × (found ≡ Some line) × LineServes q line children wanted

-- the distribution of this place is as asked
abbrev pub MeetsAt : List GivenDist → ℕ → Dist → Type 0
MeetsAt given place dist = (found : GivenDist) × (slice_get given place ≡ Some found) × Meets found dist

-- a join that gives its left child's rows so can give the distribution, and what it asks of that child for it fits
abbrev pub IsPlaced : Query → KeyParts → LeftDist → Dist → Type 0
IsPlaced q left place dist = DistServes q place dist × DistFits q left (dist_asked place dist)

-- a join over this left child can give the distribution: no copies, and a hash only by what lies in the child
abbrev pub DistSuits : Query → KeyParts → Dist → Type 0
DistSuits q left dists.One = ⊤
DistSuits q left dists.Spread = ⊤
DistSuits q left dists.Copies = ⊥
DistSuits q left (dists.Hashed list) = HashFits q left list

-- a join can give the order: a hash join none, a merge join that of a left column, a loop join that of its left child
abbrev pub OrderSuits : Query → JoinBy → KeyParts → KeyParts → ℕ → Type 0
OrderSuits q joins.Hashing left right order = BeginsWith [] (order_of q order)
OrderSuits q joins.Merging left right order = Merges q left right order
OrderSuits q joins.Looping left right order = OrderFits q left order

-- the hash and the order of the left one of the columns that a predicate equates across the groups fit the left group
abbrev pub AreFittingLeft : Query → KeyParts → KeyParts → Type 0
AreFittingLeft q left right = (pred a b : ℕ) → crossing_of q left right pred ≡ Some (a, b)
    → HashFits q left (column_list q a) × OrderFits q left (column_order q a)

-- all modes in which a join serves the request are among these, and if its columns fit no others
pub record AreJoinModes (q : Query) (by : JoinBy) (left right : KeyParts) (wanted : Request) (modes : ModeSets) : Type 0
  where
    pub all : (mode : Mode) → ServesBy q (join_line q by left right mode) (Two left right) wanted
        → HasModeIn modes mode
    pub only : AreFittingLeft q left right → (mode : Mode) → HasModeIn modes mode
        → ServesBy q (join_line q by left right mode) (Two left right) wanted
