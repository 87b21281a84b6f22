use Rattle.std.proofs.Common.{ℕ, ◌-◌, ◌^◌}
use Rattle.query_core.specs.Sets.{Has}
use Rattle.query_core.specs.Connected.{Reaches}
use Rattle.query_core.proofs.connected.reached.Given as goal

-- what is found is reached, the first table among it
abbrev pub invariant-loop-table : goal.invariant-loop-table
invariant-loop-table l = record {
  first : Has l.found l.from;
  sound : (t : ℕ) → Has l.found t → Reaches l.links l.set l.from t;
}

-- each turn adds a table
abbrev pub decreases-loop-table : goal.decreases-loop-table
decreases-loop-table l = 2 ^ 32 - l.found
