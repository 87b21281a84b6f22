use Rattle.std.proofs.Common.{◌≡◌, ◌++◌, ◌-◌, ◌≤◌, List}
use Rattle.plan_search.specs.declared.native.NativeNode.{NativeNode}
use Rattle.plan_search.specs.Natives.{AreModesOf}
use Rattle.plan_search.proofs.native.push_modes.Given as goal

-- the lesser modes came behind the list
abbrev pub invariant-modes : goal.invariant-modes
invariant-modes l = (l.from ≤ 192) × (modes : List NativeNode) × AreModesOf l.query l.expr l.from modes
    × (l.list.items ≡ l.fn.list.items ++ modes)

-- each turn leaves fewer modes
abbrev pub decreases-modes : goal.decreases-modes
decreases-modes l = 192 - l.from
