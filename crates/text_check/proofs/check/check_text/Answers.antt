-- An answer is given exactly where it is the text's outcome, which is one.
use Rattle.std.proofs.Common.{◌≢◌, ℕ, List, Result, Ok, Err, subst}
use Rattle.query_core.specs.declared.query.Query.{Query}
use Rattle.text_check.specs.Laws.{OutcomesAreOne}
use Rattle.text_check.specs.Outcome.{IsExactly, IsOutcome}
use Rattle.text_check.specs.declared.text_fault.TextFault.{TextFault}
use Rattle.text_check.specs.declared.text_fault.TextFault.TheVariants as faults
use Rattle.text_check.proofs.check.check_text.Goals as goal

exactly : (q : Query) → OutcomesAreOne q → (text : List ℕ) (result : Result ℕ TextFault) → IsOutcome q text result
    → (answer : Result ℕ TextFault) → answer ≢ Err faults.Memory → IsExactly result answer (IsOutcome q text answer)
exactly q one text result is answer lasts = λ has. (
  λ same. subst (λ r. IsOutcome q text r) same is,
  λ also. one text result answer has lasts is also,
)

pub returns : goal.returns
returns c =
    let q = c.args.query.now in
    let told = exactly q (c.outcomes_are_one.ensures q) c.args.text.now c.outcome.result c.outcome.ensures in
    record {
      outcome = c.outcome.ensures;
      too_long = told (Err faults.TooLong) (λ same. cc);
      form = λ line. told (Err (faults.Form line)) (λ same. cc);
      too_large = λ nodes. told (Err (faults.TooLarge nodes)) (λ same. cc);
      kids = λ line. told (Err (faults.Kids line)) (λ same. cc);
      member = λ line. told (Err (faults.Member line)) (λ same. cc);
      needs = λ line. told (Err (faults.Needs line)) (λ same. cc);
      request = told (Err faults.Request) (λ same. cc);
      number = λ line. told (Err (faults.Number line)) (λ same. cc);
      ok = λ cost. told (Ok cost) (λ same. cc);
    }
