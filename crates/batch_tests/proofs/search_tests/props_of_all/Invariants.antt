use Rattle.std.proofs.Common.{◌≡◌, ℕ}
use Rattle.std.specs.Prelude.{slice_get, vec_len, Some}
use Rattle.query_core.specs.declared.query.Query.{Query}
use Rattle.request_props.specs.Numbered.{IsProps}
use Rattle.request_props.specs.declared.props.Props.{Props}
use Rattle.batch_tests.proofs.search_tests.props_of_all.Given as goal

-- the queries so far have their props
abbrev pub invariant-loop-query : goal.invariant-loop-query
invariant-loop-query l = record {
  as_many : vec_len l.all ≡ l.query-index;
  each : (i : ℕ) (query : Query) (own : Props) → slice_get l.queries i ≡ Some query
      → slice_get l.all.items i ≡ Some own → IsProps query own;
}
