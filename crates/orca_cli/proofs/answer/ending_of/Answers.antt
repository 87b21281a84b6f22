use Rattle.std.proofs.lemmas.Result.{IfOk-weaker}
use Rattle.orca_cli.specs.Sections.{Tells}
use Rattle.orca_cli.proofs.Searching.{full_ended}
use Rattle.orca_cli.proofs.answer.ending_of.Goals as goal

-- the query has more entries than the capacity
pub returns-in-Full : goal.returns-in-Full
returns-in-Full c = λ note noted.
    IfOk-weaker c.too_many_entries.result _ _
    (λ ending ends. full_ended (Tells c.args.generated c.args.settings c.args.asked.now.query) c.args.settings
    c.args.asked.now.query note _ ending (rw c.in-Full.is at c.requires.ends) (rw c.in-Full.is at noted) ends)
    c.too_many_entries.ensures
