use Rattle.std.proofs.Common.{◌≡◌, ℕ, List, [], get_or, Some, None, refl, sym}
use Rattle.std.specs.Prelude.{slice_get}
use Rattle.std.proofs.Math.ListN.{get_or-eq_default}
use Rattle.query_core.specs.declared.query.Query.{Query}
use Rattle.query_core.specs.declared.table.QueryTable.{QueryTable}
use Rattle.request_props.specs.Satisfied.{index_columns}
use Rattle.query_core.proofs.Lookups.{found_at, none_at}
use Rattle.request_props.proofs.satisfaction.index_columns.Goals as goal

-- the columns are those at the index's place
columns_at : (q : Query) (t i : ℕ) (table : QueryTable) (columns : List ℕ) → slice_get q.tables t ≡ Some table
    → columns ≡ get_or table.indexes i [] → columns ≡ index_columns q t i
columns_at q t i table columns got here = rw got here

-- without the table there are none
none_without : (q : Query) (t i : ℕ) → slice_get q.tables t ≡ None → [] ≡ index_columns q t i
none_without q t i none = rw none refl

-- both are there
pub returns-in-Some-get : goal.returns-in-Some-get
returns-in-Some-get c =
    let table = c.in-Some.table.now in
    let got = found_at c.args.query.now.tables c.as_slice.result.now c.args.table table c.as_slice.ensures
    c.in-Some.ensures.lookup.3.0 c.in-Some.ensures.lookup.1 in
    let here = rw c.as_slice-in-Some.ensures at c.in-Some-get.ensures.lookup.3.1 [] in
    rw c.as_slice-in-Some-get.ensures (columns_at c.args.query.now c.args.table c.args.index table
    c.in-Some-get.columns.now got here)

-- without the index there are none
pub returns-in-None-get : goal.returns-in-None-get
returns-in-None-get c =
    let table = c.in-Some.table.now in
    let got = found_at c.args.query.now.tables c.as_slice.result.now c.args.table table c.as_slice.ensures
    c.in-Some.ensures.lookup.3.0 c.in-Some.ensures.lookup.1 in
    let past = rw c.as_slice-in-Some.ensures at c.in-None-get.ensures.lookup.3 in
    columns_at c.args.query.now c.args.table c.args.index table [] got (sym (get_or-eq_default table.indexes [] past))

pub returns-in-None : goal.returns-in-None
returns-in-None c =
    none_without c.args.query.now c.args.table c.args.index (none_at c.args.query.now.tables c.as_slice.result.now
    c.args.table c.as_slice.ensures c.in-None.ensures.lookup.3)
