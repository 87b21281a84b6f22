-- Lines as items of a batch.
use Rattle.std.specs.Prelude.{◌≡◌, ℕ, List, Some, slice_get}
use Rattle.query_core.specs.declared.catalog.Catalog.{Catalog}
use Rattle.command_line.specs.declared.settings.Settings.{Settings}
use Rattle.orca_cli.specs.Batches.{IsLineEnd}
use Rattle.orca_cli.specs.Views.{line_end}
use Rattle.orca_cli.specs.declared.ending.Ending.{Ending}

-- the lines of a list over a catalogue, with what is chosen for them
pub record LinesOver : Type 0 where
  pub catalog : Catalog
  pub settings : Settings
  pub lines : List (List ℕ)

-- the line at this place ends so
abbrev pub EndsItem : LinesOver → ℕ → Ending → Type 0
EndsItem over item ending = (line : List ℕ) → slice_get over.lines item ≡ Some line
    → IsLineEnd over.catalog over.settings line (line_end ending)
