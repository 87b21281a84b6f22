-- What holds of all texts.
use Rattle.std.specs.Prelude.{ℕ, ◌≡◌, ◌≢◌, List, Result, Err}
use Rattle.query_core.specs.declared.query.Query.{Query}
use Rattle.text_check.specs.Outcome.{IsOutcome}
use Rattle.text_check.specs.declared.text_fault.TextFault.{TextFault}
use Rattle.text_check.specs.declared.text_fault.TextFault.TheVariants.{Memory}

-- a text has one outcome but for want of memory
abbrev pub OutcomesAreOne : Query → Type 0
OutcomesAreOne q = (text : List ℕ) (a b : Result ℕ TextFault) → a ≢ Err Memory → b ≢ Err Memory → IsOutcome q text a
    → IsOutcome q text b → a ≡ b
