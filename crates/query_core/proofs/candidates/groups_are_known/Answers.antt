use Rattle.query_core.proofs.GroupLemmas.{group_in_range, top_group}
use Rattle.query_core.proofs.Whole.{input_group}
use Rattle.query_core.proofs.CandidateLemmas.{root_group}
use Rattle.query_core.proofs.ExpressionLemmas.{key_small}
use Rattle.query_core.proofs.candidates.groups_are_known.Goals as goal

pub returns : goal.returns
returns c = record {
  in_range = group_in_range;
  small = key_small;
  joined = top_group;
  input = input_group;
  root = root_group;
}
