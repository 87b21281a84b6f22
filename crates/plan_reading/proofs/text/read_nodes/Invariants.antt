use Rattle.std.proofs.Common.{◌≤◌, ◌+◌, length}
use Rattle.query_core.specs.declared.query.Query.{Query}
use Rattle.plan_reading.specs.Texts.{IsNodeTexts}
use Rattle.plan_reading.proofs.Ways.{IsOnTheWay}
use Rattle.plan_reading.proofs.text.read_nodes.Given as goal

-- these lines were read, of at least a byte each, and the rest is left
abbrev pub invariant-lines : goal.invariant-lines
invariant-lines l = record {
  way : (q : Query) → IsNodeTexts q l.texts → IsOnTheWay q l.text l.nodes.items l.last l.rest;
  few : length l.nodes.items + length l.rest ≤ length l.text;
}

abbrev pub decreases-lines : goal.decreases-lines
decreases-lines l = length l.rest
