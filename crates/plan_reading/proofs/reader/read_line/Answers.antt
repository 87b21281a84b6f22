use Rattle.std.proofs.Common.{◌∙◌, ap, decimal}
use Rattle.plan_lines.specs.Text.{indent}
use Rattle.plan_reading.specs.Named.{named_text}
use Rattle.plan_reading.specs.Reading.{line_of_parts}
use Rattle.plan_reading.proofs.PartCuts.{parts_one}
use Rattle.plan_reading.proofs.LineParts.{line_parts}
use Rattle.plan_reading.proofs.reader.read_line.Goals as goal

pub returns-in_err-found : goal.returns-in_err-found
returns-in_err-found c = λ q texts. rw c.from_residual.ensures
    (λ l is. c.in_err-found.ensures (indent l.level) (named_text q l.node) (decimal l.rows) (decimal l.cost)
    (line_parts q c.args.line.now l is))

pub returns-in_err-level : goal.returns-in_err-level
returns-in_err-level c = λ q texts. rw c.from_residual-in_err-level.ensures (λ l is.
    let parts = parts_one c.args.line.now _ _ _ _ _ _ _ _ c.in_ok-found.ensures (line_parts q c.args.line.now l is) in
    c.in_err-level.ensures l.level parts.spaces)

pub returns-in_err-node : goal.returns-in_err-node
returns-in_err-node c = λ q texts. rw c.from_residual-in_err-node.ensures (λ l is.
    let parts = parts_one c.args.line.now _ _ _ _ _ _ _ _ c.in_ok-found.ensures (line_parts q c.args.line.now l is) in
    c.in_err-node.ensures q texts l.node is.form parts.name)

pub returns-in_err-rows : goal.returns-in_err-rows
returns-in_err-rows c = λ q texts. rw c.from_residual-in_err-rows.ensures (λ l is.
    let parts = parts_one c.args.line.now _ _ _ _ _ _ _ _ c.in_ok-found.ensures (line_parts q c.args.line.now l is) in
    c.in_err-rows.ensures l.rows is.rows_fit parts.rows)

pub returns-in_err-cost : goal.returns-in_err-cost
returns-in_err-cost c = λ q texts. rw c.from_residual-in_err-cost.ensures (λ l is.
    let parts = parts_one c.args.line.now _ _ _ _ _ _ _ _ c.in_ok-found.ensures (line_parts q c.args.line.now l is) in
    c.in_err-cost.ensures l.cost is.cost_fits parts.cost)

pub returns : goal.returns
returns c = λ q texts.
    let node = c.in_ok-node.ensures q texts in
    let rows = c.in_ok-rows.ensures in
    let cost = c.in_ok-cost.ensures in
    let p = c.in_ok-found.found in
    record {
      form = node.0;
      rows_fit = rows.1;
      cost_fits = cost.1;
      text = c.in_ok-found.ensures.whole
          ∙ ap (λ s. line_of_parts s p.name.now p.rows.now p.cost.now) c.in_ok-level.ensures
          ∙ ap (λ n. line_of_parts (indent c.in_ok-level.level) n p.rows.now p.cost.now) node.1
          ∙ ap (λ r. line_of_parts (indent c.in_ok-level.level) (named_text q c.in_ok-node.node) r p.cost.now) rows.0
          ∙ ap (λ k. line_of_parts (indent c.in_ok-level.level) (named_text q c.in_ok-node.node) (decimal c.in_ok-rows.rows) k)
          cost.0;
    }
