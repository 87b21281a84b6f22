-- The rank of a goal, which falls from a goal to its children: by its group, then by its kind, then by its request.
use Rattle.std.specs.Prelude.{ℕ, zero, suc, ◌+◌, ◌*◌, length}
use Rattle.query_core.specs.declared.words.KeyParts.{KeyParts}
use Rattle.query_core.specs.declared.words.KeyParts.TheVariants as groups
use Rattle.xform_rules.specs.Counts.{table_count}
use Rattle.request_props.specs.declared.request.Dist.{Dist}
use Rattle.request_props.specs.declared.request.Request.{Request}
use Rattle.plan_space.specs.Enforcers.{motions_of}
use Rattle.goal_space.specs.declared.goals.GoalKind.{GoalKind}
use Rattle.goal_space.specs.declared.goals.GoalKind.TheVariants.{Exp, ExpE, Xf, Imp, ImpE, Opt, OptE}

-- the group that a goal is about, or that of its expression
abbrev pub group_of : GoalKind → KeyParts
group_of (Exp group) = group
group_of (ExpE e) = e.group
group_of (Xf e rule) = e.group
group_of (Imp group) = group
group_of (ImpE e) = e.group
group_of (Opt group wanted) = group
group_of (OptE e wanted) = e.group

-- a group is above those that its expressions stand on
abbrev pub level_of : KeyParts → ℕ
level_of (groups.Get t) = 1
level_of (groups.Filter t) = 2
level_of (groups.Join set) = 1 + table_count set
level_of groups.Partial = 12
level_of groups.Agg = 13

-- rules come first, then exploration, implementation and the choice of plans, each of expressions before groups
abbrev pub kind_rank : GoalKind → ℕ
kind_rank (Xf e rule) = 0
kind_rank (ExpE e) = 1
kind_rank (Exp group) = 2
kind_rank (ImpE e) = 3
kind_rank (Imp group) = 4
kind_rank (OptE e wanted) = 5
kind_rank (Opt group wanted) = 6

-- rows come first that no motion has to bring where they are asked for
abbrev pub dist_rank : Dist → ℕ
dist_rank dist = length (motions_of dist)

-- rows in no order come first
abbrev pub order_rank : ℕ → ℕ
order_rank zero = 0
order_rank (suc place) = 1

-- an enforcer asks for less than it gives
abbrev pub request_rank : Request → ℕ
request_rank wanted = dist_rank wanted.dist + order_rank wanted.order

-- what is asked of a group; other goals ask for nothing, or have no enforcers
abbrev pub asked_rank : GoalKind → ℕ
asked_rank (Exp group) = 0
asked_rank (ExpE e) = 0
asked_rank (Xf e rule) = 0
asked_rank (Imp group) = 0
asked_rank (ImpE e) = 0
asked_rank (Opt group wanted) = request_rank wanted
asked_rank (OptE e wanted) = 0

-- the rank of a goal
abbrev pub rank_of : GoalKind → ℕ
rank_of goal = 100 * level_of (group_of goal) + 10 * kind_rank goal + asked_rank goal
