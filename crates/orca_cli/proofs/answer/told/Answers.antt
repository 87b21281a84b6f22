use Rattle.orca_cli.proofs.answer.told.Goals as goal

-- the lists are those of a search that is done
pub with_first_lines-requires : goal.with_first_lines-requires
with_first_lines-requires c =
    c.search_of.ensures.search c.args.settings.capacity c.args.settings.workers c.requires.props
    (c.requires.done.lists.each c.in_ok-lists-in-Some.lists c.in_ok-lists-in-Some.ensures)
