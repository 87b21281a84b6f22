use Rattle.std.proofs.Common.{◌∙◌, position, sym, ap}
use Rattle.sql_bind.specs.Columns.{is_same}
use Rattle.sql_bind.proofs.Numbering.{number_found, number_missing}
use Rattle.sql_bind.proofs.numbers.UsedColumns.number_of_column.Goals as goal

-- the column stands in the set at its number
pub returns-in-Some-clause-number : goal.returns-in-Some-clause-number
returns-in-Some-clause-number c =
    let column = c.args.column in
    rw (← c.self.view_is) (number_found column c.self.inside.columns c.in-Some.number
    (ap (position (is_same column)) (sym c.self.invariant) ∙ (sym c.get_index_of.ensures.index ∙ c.in-Some.is)))

-- it isn't there
pub returns-in-None-clause-number : goal.returns-in-None-clause-number
returns-in-None-clause-number c =
    let column = c.args.column in
    rw (← c.self.view_is) (c.len.ensures ∙ number_missing column c.self.inside.columns
    (ap (position (is_same column)) (sym c.self.invariant) ∙ (sym c.get_index_of.ensures.index ∙ c.in-None.is)))
