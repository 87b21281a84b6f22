use Rattle.query_core.proofs.GroupLemmas.{named_one, key_in_range, known_named}
use Rattle.query_core.proofs.query.Query.group.Goals as goal

-- a key of the query has the number of a group
pub unreachable-requires : goal.unreachable-requires
unreachable-requires c = key_in_range c.args.self.now c.args.key c.in-None.ensures c.requires

pub returns : goal.returns
returns c = record {
  named = known_named c.args.self.now c.args.key c.in-Some.group c.in-Some.ensures.0 c.in-Some.ensures.1 c.requires;
  only = λ g names. named_one c.args.self.now c.args.key c.in-Some.group g c.in-Some.ensures.0 c.in-Some.ensures.1
      names;
}
