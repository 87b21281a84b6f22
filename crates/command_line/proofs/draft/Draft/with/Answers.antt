use Rattle.std.proofs.Common.{refl}
use Rattle.command_line.proofs.Drafts.{with_name, fourth_name}
use Rattle.command_line.proofs.draft.Draft.with.Goals as goal

-- three names were read
pub returns-in_err-with-in-Name-clause-refused : goal.returns-in_err-with-in-Name-clause-refused
returns-in_err-with-in-Name-clause-refused c = λ same task before after is.
    let full = c.in_err-with-in-Name.ensures in
    rw c.in-Name.is (fourth_name task before after c.args.self is c.in-Name.name.now (full.full refl))

-- the name is behind the others
pub returns-in_ok-with-in-Name-clause-added : goal.returns-in_ok-with-in-Name-clause-added
returns-in_ok-with-in-Name-clause-added c = λ task before is.
    rw c.in-Name.is (with_name task before c.args.self is c.in-Name.name.now _ refl refl refl
    c.in_ok-with-in-Name.ensures.more)
