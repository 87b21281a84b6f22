use Rattle.std.proofs.Common.{sym}
use Rattle.std.proofs.lemmas.List.Elements.{length_all_zip}
use Rattle.job_outcome.specs.Outcomes.{IsFinisher}
use Rattle.job_outcome.proofs.Finishers.{workers_below}
use Rattle.job_outcome.proofs.laws.finishers_are_known.Goals as goal

pub returns : goal.returns
returns c = record {
  each = λ cell done goals who are. sym (length_all_zip (IsFinisher cell done) goals who are);
  below = λ cell done goals who n are below. workers_below cell done n below goals who are;
}
