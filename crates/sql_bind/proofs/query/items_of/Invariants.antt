-- the columns before the place are made
use Rattle.std.proofs.Common.{◌≡◌, ◌++◌, drop, nat_le, IsTrue}
use Rattle.sql_bind.specs.Query.{items_of}
use Rattle.std.specs.List.{list_all}
use Rattle.sql_bind.proofs.query.items_of.Given as goal

abbrev pub invariant-loop-column : goal.invariant-loop-column
invariant-loop-column l = record {
  made : l.items ++ items_of (drop l.column-index l.used) ≡ items_of l.used;
  placed : IsTrue (list_all (λ u. nat_le u.which.table 10) (drop l.column-index l.used));
}
