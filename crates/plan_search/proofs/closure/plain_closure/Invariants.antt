use Rattle.std.proofs.Common.{◌+◌, ◌-◌, length}
use Rattle.std.specs.List.{All}
use Rattle.query_core.specs.Goals.{EXPRS}
use Rattle.query_core.specs.Keys.{root_of}
use Rattle.xform_rules.specs.Closure.{IsMemberWord}
use Rattle.plan_search.specs.Steps.{HasOrigin, AreSteps}
use Rattle.plan_search.proofs.closure.plain_closure.Given as goal

-- the words found are those of members, the root's origin among them, and the steps from those that are done, among
-- these, are found
abbrev pub invariant-loop-done : goal.invariant-loop-done
invariant-loop-done l = record {
  members : All (IsMemberWord l.query) l.found;
  root : HasOrigin l.query (root_of l.query) l.found;
  done : AreSteps l.query l.done.items l.done.items l.found;
}

-- there are no more words than words of expressions
abbrev pub decreases-loop-done : goal.decreases-loop-done
decreases-loop-done l = EXPRS + 1 - length l.found
