-- The members that are listed of a query's groups.
use Rattle.std.specs.Prelude.{All}
use Rattle.std.specs.List.Sorted.{IsStrictlyIncreasing}
use Rattle.query_core.specs.Expressions.{IsCandidateWord}
use Rattle.request_props.specs.Numbered.{IsProps}
use Rattle.goal_children.specs.declared.memo.Memo.{Memo}

-- the props are those of the query, and the members' words are those of candidates, ascending
pub record IsListedMemo (memo : Memo) : Type 0 where
  pub collected : IsProps memo.query.now memo.props.now
  pub candidates : All (IsCandidateWord memo.query.now) memo.members.now
  pub ascending : IsStrictlyIncreasing memo.members.now
