-- The modes of an expression, one after the other.
use Rattle.std.specs.Prelude.{ℕ, ◌≡◌, ◌≤◌, ◌<◌, ◌↔◌, Option, None, Some}
use Rattle.query_core.specs.declared.expressions.PhysicalExpr.{PhysicalExpr}
use Rattle.query_core.specs.declared.query.Query.{Query}
use Rattle.query_core.specs.declared.words.KeyParts.{KeyParts}
use Rattle.request_props.specs.NumberSets.{NoneBetween}
use Rattle.plan_space.specs.Lines.{line_of, way_line}
use Rattle.plan_space.specs.Modes.{mode_at, modes_end, HasModeIn}
use Rattle.plan_space.specs.declared.lines.Line.{Line}
use Rattle.plan_space.specs.declared.modes.Mode.{Mode}
use Rattle.plan_space.specs.declared.modes.ModeSets.{ModeSets}
use Rattle.plan_space.specs.declared.ways.Way.{Way}

-- no mode from the number on and below the other has a line
abbrev pub AreNone : Query → PhysicalExpr → ℕ → ℕ → Type 0
AreNone q e from below = (mode : ℕ) → from ≤ mode → mode < below → line_of q e mode ≡ None

-- the first mode from the number on that has a line, with its line; or there is none
abbrev pub IsNextLine : Query → PhysicalExpr → ℕ → Option (ℕ × Line) → Type 0
IsNextLine q e from None = (mode : ℕ) → from ≤ mode → line_of q e mode ≡ None
IsNextLine q e from (Some found) = (from ≤ found.0) × (found.0 < modes_end) × AreNone q e from found.0
    × (line_of q e found.0 ≡ Some found.1)

-- a line is found
abbrev pub HasLine : Option Line → Type 0
HasLine found = (line : Line) × (found ≡ Some line)

-- each of these modes has a line
abbrev pub AreLined : Query → PhysicalExpr → ModeSets → Type 0
AreLined q e modes = (mode : ℕ) → HasModeIn modes (mode_at mode) → HasLine (line_of q e mode)

-- the first of these modes from the number on, with its line; or there is none
abbrev pub IsNextOf : Query → PhysicalExpr → ModeSets → ℕ → Option (ℕ × Line) → Type 0
IsNextOf q e modes from None = (mode : ℕ) → from ≤ mode → HasModeIn modes (mode_at mode) → ⊥
IsNextOf q e modes from (Some found) = (from ≤ found.0) × (found.0 < modes_end)
    × NoneBetween (λ mode. HasModeIn modes (mode_at mode)) from found.0
    × (line_of q e found.0 ≡ Some found.1) × HasModeIn modes (mode_at found.0)

-- these are exactly the modes in which a group's way of working has a line
abbrev pub AreModesOf : Query → KeyParts → Way → ModeSets → Type 0
AreModesOf q group way modes = (mode : Mode) → HasModeIn modes mode ↔ HasLine (way_line q group way mode)
