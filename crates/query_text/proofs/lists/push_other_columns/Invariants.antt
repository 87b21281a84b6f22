use Rattle.std.proofs.Common.{take}
use Rattle.std.specs.Prelude.{string_bytes}
use Rattle.query_text.specs.Added.{AddsText}
use Rattle.query_text.specs.Lists as texts
use Rattle.query_text.proofs.lists.push_other_columns.Given as goal

-- the columns before this one were added
abbrev pub invariant-loop-column : goal.invariant-loop-column
invariant-loop-column l = AddsText (string_bytes l.fn.text)
    (texts.other_columns_text l.query (take l.column-index l.columns)) (string_bytes l.text)
