use Rattle.std.proofs.Common.{rules}
use Rattle.query_core.proofs.Bits.{has_below}
use Rattle.query_core.proofs.Reach.{reached_first, reached_next, reached_is}
use Rattle.query_core.proofs.connected.reached.Goals as goal

pub with-found-requires : goal.with-found-requires
with-found-requires c = has_below c.args.set c.args.from (search rules) c.requires

-- the search begins with the first table
pub loop-table-init : goal.loop-table-init
loop-table-init c = record {
  first = c.with-found.ensures.adds.this;
  sound = reached_first c.args.links.now c.args.set c.args.from c.with-found.result c.requires
      c.with-found.ensures.adds;
}

pub with-found-requires-in-Some : goal.with-found-requires-in-Some
with-found-requires-in-Some c = has_below c.args.set c.in-Some.table (search rules) c.in-Some.ensures.1.0

-- a table to which a link leads is reached
pub loop-table-preserved : goal.loop-table-preserved
loop-table-preserved c = record {
  first = search rules;
  sound = reached_next c.args.links.now c.args.set c.args.from c.loop-table.found c.with-found-in-Some.result
      c.in-Some.table
      c.loop-table.invariant.sound c.in-Some.ensures.1 c.with-found-in-Some.ensures.adds;
}

-- no link leads out of what is found
pub returns : goal.returns
returns c =
    reached_is c.args.links.now c.args.set c.args.from c.loop-table.found c.loop-table.invariant.first
    c.in_default.ensures c.loop-table.invariant.sound
