-- Which enforcers may meet a request, each over a plan for another request.
use Rattle.std.specs.Prelude.{ℕ, zero, suc, ◌≡◌, ◌≤◌, ◌⊎◌, Bool, true, false, List, [], ◌∷◌, Option, None, Some}
use Rattle.std.specs.Option.{option_map_or}
use Rattle.request_props.specs.Dists.{list_given, list_asked}
use Rattle.request_props.specs.Satisfied.{Meets}
use Rattle.request_props.specs.declared.given.GivenDist.{GivenDist}
use Rattle.request_props.specs.declared.given.GivenDist.TheVariants as given
use Rattle.request_props.specs.declared.request.Dist.{Dist}
use Rattle.request_props.specs.declared.request.Dist.TheVariants.{One, Spread, Copies, Hashed}
use Rattle.request_props.specs.declared.request.Request.{Request}
use Rattle.plan_space.specs.declared.nodes.Enforcer.{Enforcer}
use Rattle.plan_space.specs.declared.nodes.Enforcer.TheVariants as enforcers
use Rattle.plan_space.specs.declared.nodes.Motion.{Motion}
use Rattle.plan_space.specs.declared.nodes.Motion.TheVariants as motions
use Rattle.plan_space.specs.Lines.{request}

-- an enforcer, over a plan for this request
pub record EnforcedBy : Type 0 where
  pub node : Enforcer
  pub below : Request

abbrev pub enforced : Enforcer → Request → EnforcedBy
enforced node below = record { node = node; below = below }

-- what an enforcer for a request asks of a plan of the same group
abbrev pub below_of : Enforcer → Request → Request
below_of enforcers.Gather wanted = request Spread 0
below_of enforcers.Broadcast wanted = request Spread 0
below_of (enforcers.Sort order) wanted = request wanted.dist 0
below_of (enforcers.GatherMerge order) wanted = request Spread wanted.order
below_of (enforcers.Redistribute list) wanted = request Spread 0

-- ---- motions

-- the motion that brings rows to a distribution, if one has to
abbrev pub motion_to : Dist → Option Motion
motion_to One = Some motions.Gather
motion_to Spread = None
motion_to Copies = Some motions.Broadcast
motion_to (Hashed list) = Some (motions.Redistribute list)

-- where the rows lie that a motion brings
abbrev pub moved_by : Motion → GivenDist
moved_by motions.Gather = given.One
moved_by motions.Broadcast = given.Copies
moved_by (motions.Redistribute list) = given.Hashed list

-- the enforcer that moves rows so
abbrev pub moving : Motion → Enforcer
moving motions.Gather = enforcers.Gather
moving motions.Broadcast = enforcers.Broadcast
moving (motions.Redistribute list) = enforcers.Redistribute list

-- an order can be kept on the way
abbrev pub keeps_order : Motion → Bool
keeps_order motions.Gather = true
keeps_order motions.Broadcast = false
keeps_order (motions.Redistribute list) = false

-- it can on the way to a distribution
abbrev pub merges_to : Dist → Bool
merges_to dist = option_map_or keeps_order (motion_to dist) false

-- ---- the enforcers for a request

-- the motion, over rows that are shared out, in no order
abbrev pub motions_in : Option Motion → List EnforcedBy
motions_in None = []
motions_in (Some motion) = enforced (moving motion) (request Spread 0) ∷ []

-- the motions that bring rows to a distribution, in no order
abbrev pub motions_of : Dist → List EnforcedBy
motions_of dist = motions_in (motion_to dist)

-- the merge that keeps the order, where one can
abbrev pub mergers_if : Bool → ℕ → List EnforcedBy
mergers_if false order = []
mergers_if true order = enforced (enforcers.GatherMerge order) (request Spread order) ∷ []

-- the enforcers that keep an order while they bring rows to this distribution
abbrev pub mergers_of : Dist → ℕ → List EnforcedBy
mergers_of dist order = mergers_if (merges_to dist) order

-- the enforcers for a distribution and an order; each order may be made by sorting
abbrev pub enforcers_by : Dist → ℕ → List EnforcedBy
enforcers_by dist zero = motions_of dist
enforcers_by dist (suc o) = enforced (enforcers.Sort (suc o)) (request dist 0) ∷ mergers_of dist (suc o)

-- the enforcers for a request, ascending by number
abbrev pub enforcers_of : Request → List EnforcedBy
enforcers_of wanted = enforcers_by wanted.dist wanted.order

-- the enforcer is one of the list
abbrev pub Among : EnforcedBy → List EnforcedBy → Type 0
Among e [] = ⊥
Among e (first ∷ others) = (e ≡ first) ⊎ Among e others

-- ---- what each of them does

-- the rows that the motion brings are distributed as asked, by the list that is asked for
pub record BringsTo (motion : Motion) (dist : Dist) : Type 0 where
  pub meets : Meets (moved_by motion) dist
  pub by_list : list_given (moved_by motion) ≡ list_asked dist

-- no order is asked for, and the enforcer is the motion to the distribution
pub record IsMotionFor (wanted : Request) (e : EnforcedBy) (motion : Motion) : Type 0 where
  pub no_order : wanted.order ≡ 0
  pub moves : motion_to wanted.dist ≡ Some motion
  pub same : e ≡ enforced (moving motion) (request Spread 0)

-- the enforcer sorts what is distributed as asked
pub record IsSortFor (wanted : Request) (e : EnforcedBy) : Type 0 where
  pub some_order : 1 ≤ wanted.order
  pub same : e ≡ enforced (enforcers.Sort wanted.order) (request wanted.dist 0)

-- it merges what is in the order that is asked for, on the one segment that is
pub record IsMergeFor (wanted : Request) (e : EnforcedBy) : Type 0 where
  pub some_order : 1 ≤ wanted.order
  pub moves : motion_to wanted.dist ≡ Some motions.Gather
  pub same : e ≡ enforced (enforcers.GatherMerge wanted.order) (request Spread wanted.order)

-- it does one of these
abbrev pub IsEnforcerFor : Request → EnforcedBy → Type 0
IsEnforcerFor wanted e = ((motion : Motion) × IsMotionFor wanted e motion) ⊎ IsSortFor wanted e ⊎ IsMergeFor wanted e
