use Rattle.sql_reader.proofs.Spelled.{reading_is, is_reading, one_spelled}
use Rattle.sql_reader.proofs.reader.readings.Goals as goal

pub returns : goal.returns
returns c = record {
  read = λ text s. (reading_is text s, is_reading text s);
  one = one_spelled;
}
