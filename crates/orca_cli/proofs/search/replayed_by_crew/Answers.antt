use Rattle.orca_cli.proofs.search.replayed_by_crew.Goals as goal

-- what is chosen is what the dump says, with these workers
pub returns : goal.returns
returns g c = rw c.replay_settings-settings.ensures.settings at c.searched_by_crew.ensures
