-- Goals and the fields of their words.
use Rattle.std.proofs.Common.{◌≡◌, ◌+◌, ◌*◌, ◌^◌, ◌<◌, ap, sym, ◌∙◌, arith}
use Rattle.query_core.specs.declared.words.GoalParts.{GoalParts}
use Rattle.query_core.specs.declared.words.GoalParts.TheVariants as goals
use Rattle.query_core.specs.Goals.{detail_of, goal_fields, goal_number, kind_of, subject_of, FitsGoal}

-- a goal has the fields of its word
pub fields_read : (parts : GoalParts) → FitsGoal parts → goal_fields (goal_number parts) ≡ parts
fields_read (goals.Exp key) fits = grind arith
fields_read (goals.ExpE expr) fits = grind arith
fields_read (goals.Xf expr rule) fits = grind arith
fields_read (goals.Imp key) fits = grind arith
fields_read (goals.ImpE expr) fits = grind arith
fields_read (goals.Opt key request) fits = grind arith
fields_read (goals.OptE expr request) fits = grind arith

-- a number is the word of one goal at most
pub goal_one : (first second : GoalParts) → FitsGoal first → FitsGoal second → goal_number first ≡ goal_number second
    → first ≡ second
goal_one first second fits also same = sym (fields_read first fits) ∙ ap goal_fields same ∙ fields_read second also

-- kinds have numbers below 8
kind_few : (parts : GoalParts) → kind_of parts < 8
kind_few parts = grind arith

-- what a word has beside its kind has 60 bits
fields_small : (p : GoalParts) → FitsGoal p → subject_of p * 2 ^ 12 + detail_of p < 2 ^ 60
fields_small (goals.Exp key) fits = omega (arith, fits)
fields_small (goals.ExpE expr) fits = omega (arith, fits)
fields_small (goals.Xf expr rule) fits = omega (arith, fits.0, fits.2)
fields_small (goals.Imp key) fits = omega (arith, fits)
fields_small (goals.ImpE expr) fits = omega (arith, fits)
fields_small (goals.Opt key request) fits = omega (arith, fits.0, fits.1)
fields_small (goals.OptE expr request) fits = omega (arith, fits.0, fits.1)

-- so it has 64 bits in all
pub number_small : (parts : GoalParts) → FitsGoal parts → goal_number parts < 2 ^ 64
number_small parts fits = let beside = fields_small parts fits in let few = kind_few parts in omega arith

-- and a lesser kind has a lesser word
pub kinds_rise : (first second : GoalParts) → FitsGoal first → kind_of first < kind_of second
    → goal_number first < goal_number second
kinds_rise first second fits less = omega (arith, fields_small first fits, less)
