-- The statuses: their numbers, and lists of them.
use Rattle.std.specs.Prelude.{ℕ, List, [], ◌∷◌, ◌≡◌, ◌⊎◌}
use Rattle.orca_cli.specs.declared.status.Status.{Status}
use Rattle.orca_cli.specs.declared.status.Status.TheVariants.{Planned, NoPlan, Usage, QueryRefused, CatalogRefused}
use Rattle.orca_cli.specs.declared.status.Status.TheVariants.{TooManyEntries, ReadFault}
use Rattle.orca_cli.specs.declared.status.Status.TheVariants.{WriteFault, Memory, PlanRefused}
use Rattle.orca_cli.specs.declared.status.Status.TheVariants.{DumpRefused, BatchRefused}

-- the number with which the program ends
abbrev pub status_number : Status → ℕ
status_number Planned = 0
status_number NoPlan = 1
status_number Usage = 2
status_number QueryRefused = 3
status_number CatalogRefused = 4
status_number TooManyEntries = 5
status_number ReadFault = 6
status_number WriteFault = 7
status_number Memory = 8
status_number PlanRefused = 9
status_number DumpRefused = 10
status_number BatchRefused = 11

-- the status is one of these
abbrev pub IsOneOf : List Status → Status → Type 0
IsOneOf [] status = ⊥
IsOneOf (first ∷ others) status = (status ≡ first) ⊎ IsOneOf others status

-- ---- ways in which a run ends

-- a search ends with a plan, without one, or for want of room
abbrev pub searched : List Status
searched = Planned ∷ NoPlan ∷ TooManyEntries ∷ []

-- what the files hold decides
abbrev pub by_files : List Status
by_files = Planned ∷ NoPlan ∷ QueryRefused ∷ CatalogRefused ∷ TooManyEntries ∷ []

-- the query has its answer, or memory ran out
abbrev pub concluded : List Status
concluded = Planned ∷ NoPlan ∷ Memory ∷ []

-- there was no room, or memory ran out
abbrev pub overflowed : List Status
overflowed = TooManyEntries ∷ Memory ∷ []

-- the query was refused, or memory ran out
abbrev pub turned_down : List Status
turned_down = QueryRefused ∷ Memory ∷ []

-- a dump is written, each line of a list has its status, or a text is a valid plan; or memory ran out
abbrev pub served : List Status
served = Planned ∷ Memory ∷ []

-- a dump is refused, or memory ran out
abbrev pub undumped : List Status
undumped = DumpRefused ∷ Memory ∷ []

-- the text is no valid plan, or memory ran out
abbrev pub plan_turned_down : List Status
plan_turned_down = PlanRefused ∷ Memory ∷ []

-- the list was refused, or memory ran out
abbrev pub list_refused : List Status
list_refused = BatchRefused ∷ Memory ∷ []

-- a search was made, or memory ran out
abbrev pub finished : List Status
finished = Planned ∷ NoPlan ∷ TooManyEntries ∷ Memory ∷ []
