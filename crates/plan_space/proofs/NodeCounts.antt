-- How many nodes a least plan may have: a motion where the rows aren't spread, a sort where an order is asked for,
-- and the nodes below.
use Rattle.std.proofs.Common.{ℕ, zero, suc, ◌≤◌, ◌+◌, ◌*◌, ◌-◌, arith}
use Rattle.std.specs.Prelude.{List, [], ◌∷◌, length}
use Rattle.query_core.specs.Keys.{IsGroupInRange}
use Rattle.query_core.specs.declared.words.KeyParts.{KeyParts}
use Rattle.query_core.specs.declared.words.KeyParts.TheVariants as groups
use Rattle.request_props.specs.declared.request.Dist.{Dist}
use Rattle.request_props.specs.declared.request.Request.{Request}
use Rattle.plan_space.specs.Enforcers.{motion_to, motions_of}
use Rattle.plan_space.proofs.Enforcers.{one_motion}

abbrev pub dist_nodes : Dist → ℕ
dist_nodes dist = length (motions_of dist)

abbrev pub order_nodes : ℕ → ℕ
order_nodes zero = 0
order_nodes (suc order) = 1

-- without enforcers at the root
abbrev pub group_nodes : KeyParts → ℕ
group_nodes (groups.Get t) = 4
group_nodes (groups.Filter t) = 8
group_nodes (groups.Join set) = 1 + (16 * set - 8)
group_nodes groups.Partial = 4 + (16 * 1023 - 8)
group_nodes groups.Agg = 7 + (16 * 1023 - 8)

abbrev pub most_nodes : KeyParts → Request → ℕ
most_nodes group wanted = group_nodes group + dist_nodes wanted.dist + order_nodes wanted.order

-- together, whatever is asked of each of the groups
abbrev pub nodes_below : List KeyParts → ℕ
nodes_below [] = 0
nodes_below (group ∷ groups) = group_nodes group + 2 + nodes_below groups

order_few : (order : ℕ) → order_nodes order ≤ 1
order_few zero = omega arith
order_few (suc order) = omega arith

-- a request wants two enforcers at most
pub request_few : (group : KeyParts) (wanted : Request) → most_nodes group wanted ≤ group_nodes group + 2
request_few group wanted = omega (arith, one_motion (motion_to wanted.dist), order_few wanted.order)

-- each plan may have a node
pub some_nodes : (group : KeyParts) → 1 ≤ group_nodes group
some_nodes (groups.Get t) = omega arith
some_nodes (groups.Filter t) = omega arith
some_nodes (groups.Join set) = omega arith
some_nodes groups.Partial = omega arith
some_nodes groups.Agg = omega arith

-- no plan has more nodes than this
pub all_few : (group : KeyParts) (wanted : Request) → IsGroupInRange group → most_nodes group wanted ≤ 16384
all_few group wanted range = omega (arith, request_few group wanted, few group range)
  where
    few : (g : KeyParts) → IsGroupInRange g → group_nodes g ≤ 16368
    few (groups.Get t) range = omega arith
    few (groups.Filter t) range = omega arith
    few (groups.Join set) range = omega (arith, range)
    few groups.Partial range = omega arith
    few groups.Agg range = omega arith
