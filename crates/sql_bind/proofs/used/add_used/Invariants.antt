-- the wanted columns before the place are added
use Rattle.std.proofs.Common.{◌≡◌, ◌++◌, drop}
use Rattle.sql_bind.specs.Used.{used_in}
use Rattle.sql_bind.proofs.used.add_used.Given as goal

abbrev pub invariant-loop-info : goal.invariant-loop-info
invariant-loop-info l = record {
  counted : l.place ≡ l.info-index;
  added : l.used ++ used_in l.wanted.keys l.table l.info-index (drop l.info-index l.columns) ≡ l.fn.used ++ used_in
      l.wanted.keys l.table 0 l.columns;
}
