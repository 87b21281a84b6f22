use Rattle.orca_cli.proofs.dumps.replayed_bytes.Goals as goal

-- the dump asks for a query
pub returns-in-Ok-clause-replayed : goal.returns-in-Ok-clause-replayed
returns-in-Ok-clause-replayed c = c.replayed_dump.ensures.replayed c.args.bytes.now c.in-Ok.ensures

-- or for none
pub returns-in-Ok-clause-stops : goal.returns-in-Ok-clause-stops
returns-in-Ok-clause-stops c = c.replayed_dump.ensures.stops c.args.bytes.now c.in-Ok.ensures
