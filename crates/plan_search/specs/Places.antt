-- The order in which groups and requests are answered: each behind all that its plans may stand on.
use Rattle.std.specs.Prelude.{ℕ, ◌+◌, ◌*◌}
use Rattle.query_core.specs.Keys.{key_number}
use Rattle.query_core.specs.declared.words.Key.{Key}
use Rattle.query_core.specs.declared.words.KeyParts.{KeyParts}
use Rattle.request_props.specs.declared.request.Dist.{Dist}
use Rattle.request_props.specs.declared.request.Dist.TheVariants.{One, Spread, Copies, Hashed}
use Rattle.request_props.specs.declared.request.Request.{Request}

-- how many places there are for distributions
abbrev pub DISTS : ℕ
DISTS = 64

-- how many there are for the orders with each
abbrev pub ORDERS : ℕ
ORDERS = 64

-- spread rows come first, since all enforcers begin with them
abbrev pub dist_place : Dist → ℕ
dist_place Spread = 0
dist_place One = 1
dist_place Copies = 2
dist_place (Hashed list) = 3 + list

-- the place of a request among those of a group
abbrev pub request_place : Request → ℕ
request_place wanted = dist_place wanted.dist * ORDERS + wanted.order

-- the place with which those of the group with this key begin
abbrev pub first_place : ℕ → ℕ
first_place key = key * (DISTS * ORDERS)

-- the place of a request of the group with this key
abbrev pub place_at : ℕ → Request → ℕ
place_at key wanted = first_place key + request_place wanted

-- the place of a request that a node asks for
abbrev pub place_asked : Key × Request → ℕ
place_asked asked = place_at asked.0.0 asked.1

abbrev pub place_of : KeyParts → Request → ℕ
place_of group wanted = place_at (key_number group) wanted
