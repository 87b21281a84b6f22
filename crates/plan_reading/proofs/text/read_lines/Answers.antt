-- The texts are those of all nodes that the query can name, and the line is that of its output.
use Rattle.std.proofs.Common.{◌∙◌, sym, subst}
use Rattle.plan_reading.specs.Texts.{IsNodeTexts}
use Rattle.plan_reading.proofs.text.read_lines.Goals as goal

pub returns : goal.returns
returns c = c.read_by.ensures c.args.query.now
    (subst (IsNodeTexts c.args.query.now) (sym c.as_slice.ensures.value) c.in_ok-texts.ensures)
    (c.as_bytes.ensures.value ∙ c.in_ok-output.ensures)
