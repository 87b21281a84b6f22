use Rattle.orca_cli.proofs.queries.query_of_text.Goals as goal

-- the text is no query, over whichever catalogue
pub returns-in-Err-clause-stops : goal.returns-in-Err-clause-stops
returns-in-Err-clause-stops c = c.in-Err.ensures.stops c.args.catalog.now c.args.options

-- it is refused over the catalogue
pub returns-in-Ok-clause-stops : goal.returns-in-Ok-clause-stops
returns-in-Ok-clause-stops c = c.query_of_select.ensures.stops c.args.text.now c.in-Ok.ensures.reading
