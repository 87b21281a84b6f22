-- What a host chooses for a query.
use Rattle.std.specs.Prelude.{◌≤◌, ◌^◌}
use Rattle.query_core.specs.Results.{AreOptions}
use Rattle.planner.specs.declared.settings.Settings.{Settings}

-- the rules that are off can be off, and there is room for 1 to 2^20 entries
pub record AreSettings (settings : Settings) : Type 0 where
  pub options : AreOptions settings.options
  pub some : 1 ≤ settings.capacity
  pub few : settings.capacity ≤ 2 ^ 20
