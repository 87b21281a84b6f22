use Rattle.std.proofs.Common.{refl}
use Rattle.orca_cli.proofs.DumpRefusals.{nothing_asked}
use Rattle.orca_cli.proofs.dumps.replayed_dump.Goals as goal

-- the dump asks for a query
pub returns-in-Ok-clause-replayed : goal.returns-in-Ok-clause-replayed
returns-in-Ok-clause-replayed c = λ bytes says.
    record { dump = c.args.dump.now; says = says; chosen = refl; asks = c.in-Ok.ensures.asks.query_is }

-- or for none
pub returns-in-Err-clause-stops : goal.returns-in-Err-clause-stops
returns-in-Err-clause-stops c = λ bytes says.
    nothing_asked bytes c.args.dump.now c.in-Err.end says c.in-Err.ensures.stops
