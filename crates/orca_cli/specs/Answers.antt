-- What the search of a query ends with, with its note, and the answer to a text over a catalogue.
use Rattle.std.specs.Prelude.{◌≡◌, ℕ, List, Option, None, Some, length}
use Rattle.std.specs.List.{concat}
use Rattle.query_core.specs.declared.catalog.Catalog.{Catalog}
use Rattle.query_core.specs.declared.query.Query.{Query}
use Rattle.job_outcome.specs.Outcomes.{HasMoreEntries, FitsIn}
use Rattle.goal_children.specs.Listed.{AreGoalsOf}
use Rattle.plan_space.specs.Nodes.{Tree}
use Rattle.plan_space.specs.Least.{IsLeastPlan, QueryHasNoPlan}
use Rattle.plan_lines.specs.Text.{plan_section}
use Rattle.command_line.specs.declared.settings.Settings.{Settings}
use Rattle.orca_cli.specs.Asked.{Asks}
use Rattle.orca_cli.specs.Prepared.{IsQueryRefused}
use Rattle.orca_cli.specs.Sections.{Tells}
use Rattle.orca_cli.specs.Texts as texts
use Rattle.orca_cli.specs.declared.status.Status.{Status}
use Rattle.orca_cli.specs.declared.status.Status.TheVariants.{Planned, NoPlan, TooManyEntries}

-- ---- notes

-- the capacity, the number of workers, and how many goals were finished, where a search has run
abbrev pub Note : Type 0
Note = Option (ℕ × ℕ × ℕ)

-- the capacity and the workers that the command chooses, and so many goals
abbrev pub noted : Settings → ℕ → Note
noted settings finished = Some (settings.capacity, settings.workers, finished)

-- the note says how many goals the query has
pub record NotesGoals (settings : Settings) (query : Query) (note : Note) : Type 0 where
  pub goals : List ℕ
  pub all_goals : AreGoalsOf query goals
  pub is : note ≡ noted settings (length goals)

-- ---- searches

-- the text is that of the query's least plan
pub record IsPlanText (query : Query) (text : List ℕ) : Type 0 where
  pub plan : Tree
  pub least : IsLeastPlan query plan
  pub lines : text ≡ concat (plan_section query plan)

-- no plan gives what the query asks for
abbrev pub IsImpossible : Query → Type 0
IsImpossible query = QueryHasNoPlan query

-- there is room for the query's members and goals together
pub record HasRoom (query : Query) (capacity : ℕ) : Type 0 where
  pub members : List ℕ
  pub goals : List ℕ
  pub fits : FitsIn query capacity members goals

-- what the search of a query ends with, and its note; Tells says which text is printed for a plan's
pub data IsSearchEnd (Tells : List ℕ → List ℕ → Type 0) (settings : Settings) (query : Query) (note : Note)
    (status : Status) (text : List ℕ) : Type 0 where
  planned : status ≡ Planned → HasRoom query settings.capacity → (plan : List ℕ) → IsPlanText query plan
      → Tells plan text → NotesGoals settings query note → IsSearchEnd Tells settings query note status text
  unplanned : status ≡ NoPlan → HasRoom query settings.capacity → IsImpossible query → Tells texts.no_plan text
      → NotesGoals settings query note → IsSearchEnd Tells settings query note status text
  too_many : status ≡ TooManyEntries → HasMoreEntries query settings.capacity
      → text ≡ texts.too_many_entries settings.capacity → (finished : ℕ) → note ≡ noted settings finished
      → IsSearchEnd Tells settings query note status text

-- ---- answers

-- the answer to a text over a catalogue: the search of the query for which it asks, or its refusal
pub data IsAnswer (catalog : Catalog) (settings : Settings) (asked : List ℕ) (note : Note) (status : Status)
    (text : List ℕ) : Type 0 where
  searched : (query : Query) → Asks catalog settings.options asked query
      → IsSearchEnd (Tells None settings query) settings query note status text
      → IsAnswer catalog settings asked note status text
  turned_down : IsQueryRefused catalog settings.options asked status text
      → IsAnswer catalog settings asked note status text
