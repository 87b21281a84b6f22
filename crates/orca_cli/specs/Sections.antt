-- The sections that may stand behind the plan.
use Rattle.std.specs.Prelude.{◌≡◌, ◌<◌, ℕ, All, Bool, true, false, List, [], ◌∷◌, ◌++◌, ◌==◌, Option, None, Some, codes}
use Rattle.std.specs.Prelude.{decimal, if◌then◌else◌, length}
use Rattle.query_core.specs.declared.query.Query.{Query}
use Rattle.xform_rules.specs.Closure.{IsClosureOf}
use Rattle.goal_children.specs.Listed.{AreGoalsOf}
use Rattle.job_trace.specs.Memo as memos
use Rattle.job_trace.specs.Trace as traces
use Rattle.job_trace.specs.Trace.{IsTraceText, IsCrewText}
use Rattle.command_line.specs.Command.{shape_word}
use Rattle.command_line.specs.declared.settings.Settings.{Settings}
use Rattle.command_line.specs.declared.command.GenInput.{GenInput}
use Rattle.orca_cli.specs.declared.sections.Section.{Section}
use Rattle.orca_cli.specs.declared.sections.Section.TheVariants as sections

-- the text is that of the memo, whose members are the closure under the rules
pub record IsMemo (query : Query) (text : List ℕ) : Type 0 where
  pub words : List ℕ
  pub closure : IsClosureOf query words
  pub is_text : memos.IsMemoText query words text

-- the text is that of the trace: all goals of the query, each with its children over the closure
pub record IsTrace (query : Query) (text : List ℕ) : Type 0 where
  pub members : List ℕ
  pub closure : IsClosureOf query members
  pub goals : List ℕ
  pub all_goals : AreGoalsOf query goals
  pub is_text : IsTraceText query members goals text

-- the text is that by worker: all goals of the query, each with the number of one of so many workers
pub record IsByWorker (query : Query) (workers : ℕ) (text : List ℕ) : Type 0 where
  pub goals : List ℕ
  pub all_goals : AreGoalsOf query goals
  pub who : List ℕ
  pub one_each : length who ≡ length goals
  pub below : All (λ worker. worker < workers) who
  pub is_text : IsCrewText query goals who text

-- the line is the first one of the memo's text
pub record StartsMemo (query : Query) (line : List ℕ) : Type 0 where
  pub words : List ℕ
  pub closure : IsClosureOf query words
  pub is_line : memos.IsMemoLine query words line

-- the line is the first one of the trace
pub record StartsTrace (query : Query) (line : List ℕ) : Type 0 where
  pub goals : List ℕ
  pub all_goals : AreGoalsOf query goals
  pub is_line : traces.IsTraceLine goals line

-- ---- the sections behind the plan

-- in the order in which they stand
abbrev pub all_sections : List Section
all_sections = sections.Memo ∷ sections.Trace ∷ sections.ByWorker ∷ []

-- the command asks for the section
abbrev pub is_asked : Settings → Section → Bool
is_asked settings sections.Memo = settings.memo
is_asked settings sections.Trace = settings.trace
is_asked settings sections.ByWorker = settings.by_worker

-- the text is the section's
abbrev pub IsSectionText : Settings → Query → Section → List ℕ → Type 0
IsSectionText settings query sections.Memo text = IsMemo query text
IsSectionText settings query sections.Trace text = IsTrace query text
IsSectionText settings query sections.ByWorker text = IsByWorker query settings.workers text

-- the section's text where it is asked for, and else nothing
abbrev pub IsWhere : Bool → Settings → Query → Section → List ℕ → Type 0
IsWhere false settings query section text = text ≡ []
IsWhere true settings query section text = IsSectionText settings query section text

-- the text goes on behind the front with the section, where it is asked for
pub record IsBehind (settings : Settings) (query : Query) (section : Section) (front text : List ℕ) : Type 0 where
  pub added : List ℕ
  pub is_added : IsWhere (is_asked settings section) settings query section added
  pub joined : text ≡ front ++ added

-- and so with one section after the other
abbrev pub AreBehind : Settings → Query → List Section → List ℕ → List ℕ → Type 0
AreBehind settings query [] front text = text ≡ front
AreBehind settings query (section ∷ more) front text = (middle : List ℕ) × IsBehind settings query section front middle
    × AreBehind settings query more middle text

-- the text goes on behind the front with all sections that are asked for
abbrev pub GoesOn : Settings → Query → List ℕ → List ℕ → Type 0
GoesOn settings query front text = AreBehind settings query all_sections front text

-- ---- first lines

-- a text up to its first line feed
abbrev pub first_line : List ℕ → List ℕ
first_line [] = []
first_line (byte ∷ more) = if byte == 10 then byte ∷ [] else byte ∷ first_line more

-- the line of a number, of how many tables, and of the word of a shape
abbrev pub gen_words : ℕ → ℕ → List ℕ → List ℕ
gen_words number tables shape = codes "gen number=" ++ decimal number ++ codes " tables=" ++ decimal tables
    ++ codes " shape=" ++ shape ++ codes "\n"

-- the line of what was generated
abbrev pub gen_line : GenInput → List ℕ
gen_line input = gen_words input.number input.tables (shape_word input.shape)

-- the text has the line of what was generated, and the first lines of the plan, of the memo and of the trace
pub record HasFirstLines (input : GenInput) (query : Query) (plan text : List ℕ) : Type 0 where
  pub memo : List ℕ
  pub is_memo : StartsMemo query memo
  pub trace : List ℕ
  pub is_trace : StartsTrace query trace
  pub lines : text ≡ gen_line input ++ first_line plan ++ memo ++ trace

-- ---- what is printed of a search

-- the text that is printed where the plan has this text: first lines where the query was generated, and else the plan
-- and the sections that are asked for
abbrev pub Tells : Option GenInput → Settings → Query → List ℕ → List ℕ → Type 0
Tells None settings query plan text = GoesOn settings query plan text
Tells (Some input) settings query plan text = HasFirstLines input query plan text
