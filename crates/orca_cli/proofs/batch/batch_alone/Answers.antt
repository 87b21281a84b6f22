use Rattle.std.proofs.Common.{◌≡◌, None, ap, ◌∙◌, subst}
use Rattle.orca_cli.specs.Lists.{lines_of, list_cause}
use Rattle.orca_cli.specs.Views.{lines_read}
use Rattle.orca_cli.proofs.LineEnds.{batch_of_run}
use Rattle.orca_cli.proofs.batch.batch_alone.Goals as goal

-- each line has its ending
pub returns-clause-ended : goal.returns-clause-ended
returns-clause-ended c =
    let list = c.deref.ensures.value in
    batch_of_run c.args.listed.now.catalog c.args.settings c.args.listed.now.list.items
    (lines_read c.deref-2.result.now) 1 c.in_ok-run.run' c.in_ok-batch_ending.field-0
    (ap lines_read c.deref-2.ensures.value ∙ c.in_ok-lines.ensures.lines ∙ ap lines_of list)
    (subst (λ l. list_cause c.args.settings.capacity l ≡ None) list c.in_ok-lines.ensures.usable) c.in_ok-run.ensures
    c.in_ok-batch_ending.ensures.status c.in_ok-batch_ending.ensures.text
