use Rattle.std.proofs.Common.{◌≡◌, None, Some, sym, ◌∙◌, arith}
use Rattle.plan_search.proofs.Standing.{one_below, two_below, stands_some}
use Rattle.plan_search.proofs.plans.+plan_at.Goals as goal

-- the plan below stands before this one
pub plan_at-requires : goal.plan_at-requires
plan_at-requires t c =
    let (tree, stands) = c.requires in
    let found = one_below c.args.answers.now c.args.place c.in-Some.kept (sym c.kept.ensures ∙ c.in-Some.is)
    c.in-One.below c.in-One.is tree stands in
    (omega (arith, found.4, c.decreases), (found.1, found.5))

pub plan_at-requires-in-Two : goal.plan_at-requires-in-Two
plan_at-requires-in-Two t c =
    let (tree, stands) = c.requires in
    let found = two_below c.args.answers.now c.args.place c.in-Some.kept (sym c.kept.ensures ∙ c.in-Some.is)
    c.in-Two.first c.in-Two.second c.in-Two.is tree stands in
    (omega (arith, found.5, c.decreases), (found.1, found.7))

pub plan_at-requires-in-Two-2 : goal.plan_at-requires-in-Two-2
plan_at-requires-in-Two-2 t c =
    let (tree, stands) = c.requires in
    let found = two_below c.args.answers.now c.args.place c.in-Some.kept (sym c.kept.ensures ∙ c.in-Some.is)
    c.in-Two.first c.in-Two.second c.in-Two.is tree stands in
    (omega (arith, found.6, c.decreases), (found.2, found.8))

-- where a tree stands there is an answer
pub unreachable-requires : goal.unreachable-requires
unreachable-requires t c =
    let (tree, stands) = c.requires in
    let some = stands_some c.args.answers.now c.args.place tree stands in
    let never : None ≡ Some some.0 = sym c.in-None.is ∙ c.kept.ensures ∙ some.1 in
    cc
