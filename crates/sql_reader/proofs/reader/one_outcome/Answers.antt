use Rattle.sql_reader.proofs.OneOutcome.{one_reading, one_fault, no_fault}
use Rattle.sql_reader.proofs.SomeOutcome.{some_outcome}
use Rattle.sql_reader.proofs.Outcomes.{too_long_first}
use Rattle.sql_reader.proofs.reader.one_outcome.Goals as goal

pub returns : goal.returns
returns c = record {
  some = some_outcome;
  reading = one_reading;
  fault = one_fault;
  either = no_fault;
  too_long = λ text. (λ h. h.has, too_long_first text);
}
