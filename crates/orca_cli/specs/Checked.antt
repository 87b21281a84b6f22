-- What is printed of a text that is checked as a query's plan.
use Rattle.std.specs.Prelude.{◌≡◌, ◌≢◌, ℕ, List, Option}
use Rattle.query_core.specs.declared.options.Options.{Options}
use Rattle.query_core.specs.declared.query.Query.{Query}
use Rattle.text_check.specs.Outcome.{IsGoodText, HasFault}
use Rattle.text_check.specs.declared.text_fault.TextFault.{TextFault}
use Rattle.text_check.specs.declared.text_fault.TextFault.TheVariants as faults
use Rattle.command_line.specs.Command.{PlanNames}
use Rattle.orca_cli.specs.Prepared.{AreTold, FilesAsk}
use Rattle.orca_cli.specs.Texts as texts
use Rattle.orca_cli.specs.declared.status.Status.{Status}
use Rattle.orca_cli.specs.declared.status.Status.TheVariants.{Planned, PlanRefused}

-- the status and the text of a check: the text is that of a valid plan of this cost, or it has this fault
pub data IsCheckEnd (query : Query) (plan : List ℕ) (status : Status) (text : List ℕ) : Type 0 where
  priced : status ≡ Planned → (cost : ℕ) → IsGoodText query plan cost → text ≡ texts.valid_plan cost
      → IsCheckEnd query plan status text
  faulty : status ≡ PlanRefused → (fault : TextFault) → fault ≢ faults.Memory → HasFault query plan fault
      → text ≡ texts.plan_refused (texts.plan_cause fault) → IsCheckEnd query plan status text

-- those of a text in a file, and of the query for which two others ask
pub record FilesChecked (named : PlanNames) (options : Options) (held : List ℕ → Option (List ℕ)) (status : Status)
    (text : List ℕ) : Type 0 where
  pub query : Query
  pub asks : FilesAsk named.files options held query
  pub plan : List ℕ
  pub told : AreTold (held named.plan) plan
  pub end : IsCheckEnd query plan status text
