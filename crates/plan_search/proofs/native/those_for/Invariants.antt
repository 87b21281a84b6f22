use Rattle.std.proofs.Common.{take}
use Rattle.plan_search.specs.Natives.{AreThoseFor}
use Rattle.plan_search.proofs.native.those_for.Given as goal

-- those of the first so many
abbrev pub invariant-loop-p : goal.invariant-loop-p
invariant-loop-p l = AreThoseFor l.query l.dist (take l.p-index l.list) l.those.items
