use Rattle.std.proofs.Common.{List, ℕ, sym, subst}
use Rattle.std.proofs.lemmas.Result.{IfOk-weaker}
use Rattle.orca_cli.specs.Sections.{GoesOn}
use Rattle.orca_cli.proofs.answer.plan_told.Goals as goal

-- no section is asked for
pub returns-then-not-asks_for_sections-clause-text : goal.returns-then-not-asks_for_sections-clause-text
returns-then-not-asks_for_sections-clause-text c =
    let settings = c.args.settings in
    let query = c.args.asked.now.query in
    let lines = c.args.plan.lines.items in
    IfOk-weaker c.of.result _ _
    (λ made ends. subst (λ (text : List ℕ). GoesOn settings query lines text) (sym ends.text)
    (c.asks_for_sections.ensures.none c.if-not-asks_for_sections.true query lines))
    c.of.ensures

-- the lists are those of a search that is done
pub with_sections-requires : goal.with_sections-requires
with_sections-requires c =
    c.search_of.ensures.search c.args.settings.capacity c.args.settings.workers c.requires.props
    (c.requires.done.lists.each c.in_ok-lists.lists c.in_ok-lists.ensures)
