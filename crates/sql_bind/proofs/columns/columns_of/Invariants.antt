-- the references before the place are bound, and the rest come after them
use Rattle.std.proofs.Common.{◌≡◌, [], drop}
use Rattle.sql_bind.specs.Steps.{each}
use Rattle.sql_bind.specs.Columns.{column_of}
use Rattle.sql_bind.proofs.columns.columns_of.Given as goal

abbrev pub invariant-loop-reference : goal.invariant-loop-reference
invariant-loop-reference l = each (λ before reference. column_of l.sources reference) l.columns
    (drop l.reference-index l.references) ≡ each (λ before reference. column_of l.sources reference) [] l.references
