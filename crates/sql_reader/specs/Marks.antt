-- Marks, told apart.
use Rattle.std.specs.Prelude.{ℕ}
use Rattle.sql_reader.specs.declared.tokens.Mark.{Mark}
use Rattle.sql_reader.specs.declared.tokens.Mark.TheVariants as marks

-- marks numbered, so that they can be told apart
abbrev pub mark_number : Mark → ℕ
mark_number marks.Select = 0
mark_number marks.From = 1
mark_number marks.And = 2
mark_number marks.By = 3
mark_number marks.Asc = 4
mark_number marks.Desc = 5
mark_number marks.As = 6
mark_number marks.Reserved = 7
mark_number marks.Comma = 8
mark_number marks.Dot = 9
mark_number marks.Open = 10
mark_number marks.Close = 11
mark_number marks.Star = 12
mark_number marks.Equal = 13
mark_number marks.NotEqual = 14
mark_number marks.Less = 15
mark_number marks.LessEqual = 16
mark_number marks.Greater = 17
mark_number marks.GreaterEqual = 18
mark_number marks.Where = 19
mark_number marks.Group = 20
mark_number marks.Order = 21
mark_number marks.Semicolon = 22
