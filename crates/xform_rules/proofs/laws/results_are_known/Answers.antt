use Rattle.xform_rules.proofs.Facts.{result_applies, result_logical, result_kind, result_binds, bound_left}
use Rattle.xform_rules.proofs.Facts.{bound_logical}
use Rattle.xform_rules.proofs.Implementing.{result_children}
use Rattle.xform_rules.proofs.Fewer.{fewer_tables}
use Rattle.xform_rules.proofs.laws.results_are_known.Goals as goal

pub returns : goal.returns
returns c = record {
  applies = result_applies;
  group = λ q rule e bound n x has. has.group;
  logical = result_logical;
  explored = result_kind;
  children = result_children;
  binds = result_binds;
  left = bound_left;
  bound = bound_logical;
  fewer = fewer_tables;
}
