-- What the numbers of modes mean.
use Rattle.std.specs.Prelude.{ℕ, ◌-◌, nat_lt, if◌then◌else◌}
use Rattle.plan_space.specs.declared.modes.Mode.{Mode}
use Rattle.plan_space.specs.declared.modes.Mode.TheVariants.{Plain, Copied, Hashed}
use Rattle.plan_space.specs.declared.modes.ModeSets.{ModeSets}
use Rattle.request_props.specs.NumberSets.{IsInSet}

-- the mode of a number
abbrev pub mode_at : ℕ → Mode
mode_at number =
    if nat_lt number 64 then Plain number
    else if nat_lt number 128 then Copied (number - 64)
    else Hashed (number - 128)

-- where a query has at most 60 hashed lists, no mode from this number on has a line
abbrev pub modes_end : ℕ
modes_end = 192

-- the mode is by a number of the set of its kind
abbrev pub HasModeIn : ModeSets → Mode → Type 0
HasModeIn sets (Plain number) = IsInSet sets.plain number
HasModeIn sets (Copied number) = IsInSet sets.copied number
HasModeIn sets (Hashed number) = IsInSet sets.hashed number
