use Rattle.std.proofs.Common.{rules, None}
use Rattle.search_tests.proofs.node_tests.step.Goals as goal

-- the result of a rule at a candidate is one
pub returns : goal.returns
returns c =
    c.results_are_candidates.ensures.candidates c.args.query.now c.args.rule c.args.e None 0 c.in_ok-other.other
    c.requires (search rules) c.in_ok-other.ensures

-- a candidate has a word
pub result_at-requires-clause-e : goal.result_at-requires-clause-e
result_at-requires-clause-e c = c.candidates_are_known.ensures.packed c.args.query.now c.args.e c.requires
