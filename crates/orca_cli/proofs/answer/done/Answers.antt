use Rattle.orca_cli.specs.Sections.{Tells}
use Rattle.orca_cli.proofs.Searching.{IfOk-both, followed_searched, room_of, notes_of}
use Rattle.orca_cli.proofs.answer.done.Goals as goal

-- the query's least plan, or that it has none, and what is printed for it
pub returns : goal.returns
returns c = λ note is.
    let settings = c.args.settings in
    let query = c.args.asked.now.query in
    let searched = c.args.searched.now in
    IfOk-both _ _ _ c.told.result
    (λ made same goes. followed_searched (Tells c.args.generated settings query) settings query note
    (room_of settings query searched c.requires.done) (notes_of settings query searched c.requires.done note is)
    c.in_ok-plan.plan.status c.in_ok-plan.plan.lines.items made c.in_ok-plan.ensures same goes)
    c.told.ensures.status c.told.ensures.text
