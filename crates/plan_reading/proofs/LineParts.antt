-- A line of the query has its parts.
use Rattle.std.proofs.Common.{ℕ, List, decimal}
use Rattle.query_core.specs.declared.query.Query.{Query}
use Rattle.plan_lines.specs.Text.{indent}
use Rattle.plan_reading.specs.Named.{named_text}
use Rattle.plan_reading.specs.Reading.{ArePartsOf, IsLine}
use Rattle.plan_reading.specs.declared.line.NodeLine.{NodeLine}
use Rattle.plan_reading.proofs.Bare.{named_bare}
use Rattle.plan_reading.proofs.BareWords.{decimal_digits}
use Rattle.plan_reading.proofs.Flush.{flush_text}
use Rattle.plan_reading.proofs.LineTexts.{indent_spaces}

pub line_parts : (q : Query) (bytes : List ℕ) (line : NodeLine) → IsLine q bytes line
    → ArePartsOf bytes (indent line.level) (named_text q line.node) (decimal line.rows) (decimal line.cost)
line_parts q bytes line is = record {
  spaced = indent_spaces line.level;
  flush = flush_text q line.node is.form;
  bare = named_bare q line.node;
  digits = decimal_digits line.rows;
  whole = is.text;
}
