-- What is printed of a query that is planned in stages.
use Rattle.std.specs.Prelude.{◌≡◌, ℕ, suc, List, [], ◌∷◌, ◌++◌, Option, None, Some, codes, decimal, length, map}
use Rattle.std.specs.List.{concat}
use Rattle.query_core.specs.declared.query.Query.{Query}
use Rattle.plan_lines.specs.Text.{plan_section}
use Rattle.query_stage.specs.declared.stage.Stage.{Stage}
use Rattle.stage_plan.specs.StagedRuns.{StagedAnswer, planned, unplanned, too_many, IsStaging}
use Rattle.command_line.specs.Command.{StageNames}
use Rattle.command_line.specs.HeldStages.{stage_read}
use Rattle.command_line.specs.Stages.{AnyStage}
use Rattle.command_line.specs.declared.settings.Settings.{Settings}
use Rattle.orca_cli.specs.Prepared.{FilesAsk}
use Rattle.orca_cli.specs.Texts as texts
use Rattle.orca_cli.specs.declared.status.Status.{Status}
use Rattle.orca_cli.specs.declared.status.Status.TheVariants.{Planned, NoPlan, TooManyEntries}

-- ---- lines

-- the line of a stage: its number, and what its least plan costs, or that it has none
abbrev pub stage_line : ℕ → Option ℕ → List ℕ
stage_line number None = codes "stage " ++ decimal number ++ codes " no plan\n"
stage_line number (Some cost) = codes "stage " ++ decimal number ++ codes " cost " ++ decimal cost ++ codes "\n"

-- the lines of stages from this number on
abbrev pub lines_from : ℕ → List (Option ℕ) → List ℕ
lines_from number [] = []
lines_from number (cost ∷ more) = stage_line number cost ++ lines_from (suc number) more

-- how many stages ran
abbrev pub ran_line : ℕ → List ℕ
ran_line ran = codes "stages ran=" ++ decimal ran ++ codes "\n"

-- the same, and the line of each
abbrev pub stage_lines : List (Option ℕ) → List ℕ
stage_lines costs = ran_line (length costs) ++ lines_from 0 costs

-- ---- endings

-- the status and the text tell the answer: behind the lines of the stages the plan, or that there is none; or only that
-- the query has more entries in a stage than this capacity
abbrev pub TellsAnswer : Query → ℕ → List (Option ℕ) → StagedAnswer → Status → List ℕ → Type 0
TellsAnswer query capacity costs (planned number plan) status text =
    (status ≡ Planned) × (text ≡ stage_lines costs ++ concat (plan_section query plan))
TellsAnswer query capacity costs unplanned status text = (status ≡ NoPlan) × (text ≡ stage_lines costs ++ texts.no_plan)
TellsAnswer query capacity costs (too_many number) status text =
    (status ≡ TooManyEntries) × (text ≡ texts.too_many_entries capacity)

-- the status and the text of a query that is planned in these stages
pub record IsStagedEnd (query : Query) (capacity : ℕ) (asked : List AnyStage) (status : Status) (text : List ℕ) : Type 0
  where
    pub stages : List Stage
    pub are_asked : map stage_read stages ≡ asked
    pub costs : List (Option ℕ)
    pub answer : StagedAnswer
    pub staging : IsStaging query capacity stages costs answer
    pub told : TellsAnswer query capacity costs answer status text

-- those of the query for which two files ask
pub record FilesStaged (named : StageNames) (settings : Settings) (held : List ℕ → Option (List ℕ)) (status : Status)
    (text : List ℕ) : Type 0 where
  pub query : Query
  pub asks : FilesAsk named.files settings.options held query
  pub end : IsStagedEnd query settings.capacity named.stages status text
