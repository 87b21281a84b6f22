use Rattle.std.proofs.Common.{◌+◌, ◌*◌}
use Rattle.query_core.specs.Keys.{key_number}
use Rattle.plan_search.specs.Places.{ORDERS, dist_place, first_place}
use Rattle.plan_search.specs.KeptPlans.{AreAnswered}
use Rattle.plan_search.proofs.requests.answer_dist.Given as goal

-- the requests with lesser orders are answered
abbrev pub invariant-loop-order : goal.invariant-loop-order
invariant-loop-order l = AreAnswered l.query l.answers
    (first_place (key_number l.group) + dist_place l.dist * ORDERS + l.order)
