use Rattle.std.proofs.Common.{◌+◌, ◌*◌}
use Rattle.query_core.specs.Keys.{key_number}
use Rattle.plan_search.specs.Places.{ORDERS, first_place}
use Rattle.plan_search.specs.KeptPlans.{AreAnswered}
use Rattle.plan_search.proofs.requests.answer_group.Given as goal

-- the requests for distributions with lesser places are answered
abbrev pub invariant-loop-number : goal.invariant-loop-number
invariant-loop-number l = AreAnswered l.query l.answers (first_place (key_number l.group) + l.number * ORDERS)
