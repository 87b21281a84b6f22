use Rattle.orca_cli.proofs.search.replayed_alone.Goals as goal

-- what is chosen is what the dump says, with these workers
pub returns : goal.returns
returns c = rw c.replay_settings-settings.ensures.settings at c.searched_alone.ensures
