use Rattle.job_outcome.proofs.Counting.{fit_or_not}
use Rattle.job_outcome.proofs.laws.entries_fit_or_not.Goals as goal

pub returns : goal.returns
returns c = fit_or_not
