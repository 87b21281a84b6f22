use Rattle.std.proofs.Common.{length, refl, ap, ◌∙◌}
use Rattle.orca_cli.specs.Staged.{ran_line}
use Rattle.orca_cli.specs.Views.{bytes_of_texts}
use Rattle.orca_cli.proofs.LineEnds.{bytes_push}
use Rattle.orca_cli.proofs.StageLines.{lines_more}
use Rattle.orca_cli.proofs.stage_text.stage_lines.Goals as goal

-- the line of one stage more is behind the others
pub loop-number-preserved : goal.loop-number-preserved
loop-number-preserved c =
    lines_more c.as_slice-cost-items.result.now c.loop-number.number _ _ c.loop-number-test.true refl
    (ran_line (length c.args.ran.now)) _ _ _
    c.loop-number.invariant c.in_ok-stage_line.ensures
    (ap bytes_of_texts c.in_ok-push-2.ensures.items ∙ bytes_push c.loop-number.texts.items c.in_ok-stage_line.field-0)
