use Rattle.sql_reader.specs.Faults.{IsReading}
use Rattle.orca_cli.proofs.DumpRefusals.{is_dumped_of}
use Rattle.orca_cli.proofs.dumps.dumped_of.Goals as goal

-- the text is no query
pub returns-in-Err-clause-stops : goal.returns-in-Err-clause-stops
returns-in-Err-clause-stops c = rw c.deref.ensures.value at (c.in-Err.ensures.stops c.args.catalog c.args.options)

-- it is refused over the catalogue
pub returns-in-Err-query_of_select-clause-stops : goal.returns-in-Err-query_of_select-clause-stops
returns-in-Err-query_of_select-clause-stops c =
    let reading : IsReading c.args.query.items c.in-Ok.select = rw c.deref.ensures.value at c.in-Ok.ensures.reading in
    c.in-Err-query_of_select.ensures.stops c.args.query.items reading

-- or it isn't
pub returns-in-Ok-query_of_select-clause-dumped : goal.returns-in-Ok-query_of_select-clause-dumped
returns-in-Ok-query_of_select-clause-dumped c =
    let reading : IsReading c.args.query.items c.in-Ok.select = rw c.deref.ensures.value at c.in-Ok.ensures.reading in
    is_dumped_of c.args.catalog c.args.options c.args.query c.in-Ok.select _ reading
    (c.in-Ok-query_of_select.ensures.asks c.args.query.items reading)
