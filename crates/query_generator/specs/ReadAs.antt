-- What the text of a generated query is read as.
use Rattle.std.specs.Prelude.{ℕ, ◌≤◌, List}
use Rattle.sql_reader.specs.declared.syntax.Select.{Select}
use Rattle.sql_reader.specs.Faults.{IsReading}
use Rattle.query_generator.specs.declared.shape.GenShape.{GenShape}
use Rattle.query_generator.specs.Generated.{IsQueryText}

-- the text of the shape's query over 1 to 8 tables is read as this select
pub record IsReadAs (shape : GenShape) (tables : ℕ) (select : Select) : Type 0 where
  pub some_tables : 1 ≤ tables
  pub few_tables : tables ≤ 8
  pub text : List ℕ
  pub is_text : IsQueryText shape tables text
  pub reading : IsReading text select
