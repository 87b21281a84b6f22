use Rattle.orca_cli.proofs.top.put.Goals as goal

-- the text of the ending was put
pub returns-in-Told : goal.returns-in-Told
returns-in-Told g c = rw c.in-Told.is c.put_ending.ensures
