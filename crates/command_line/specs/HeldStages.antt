-- What clauses see of the stages that a command names.
use Rattle.std.specs.Prelude.{Option, None, Some, List, [], map, take}
use Rattle.query_stage.specs.declared.stage.Stage.{Stage}
use Rattle.command_line.specs.Stages.{AnyStage}
use Rattle.command_line.specs.declared.stages.Stages.{Stages}

-- the rules that are off in a stage, and its threshold
abbrev pub stage_read : Stage → AnyStage
stage_read stage = record { off = stage.off; threshold = stage.threshold }

-- the stages that are there
abbrev pub stages_held : Stages → List Stage
stages_held some = take some.count some.stages

-- what they are
abbrev pub stages_read : Stages → List AnyStage
stages_read some = map stage_read (stages_held some)

-- the same where there may be none
abbrev pub stages_before : Option Stages → List AnyStage
stages_before None = []
stages_before (Some before) = stages_read before
