-- A function of the program does what a step on lists does.
use Rattle.std.specs.Prelude.{◌≡◌, List, Result, Ok, Err}
use Rattle.sql_reader.specs.declared.tokens.Token.{Token}
use Rattle.sql_reader.specs.declared.stops.Stop.{Stop}
use Rattle.sql_reader.specs.declared.stops.Stop.TheVariants as stops
use Rattle.sql_reader.specs.Steps.{Step, Stopped, unexpected, too_many}

-- why it stopped and the tokens left are what is answered, unless memory ran out
abbrev pub Fails : {X : Type 0} → Result X Stopped → Stop → List Token → Type 0
Fails answer stops.Unexpected rest = answer ≡ Err (unexpected rest)
Fails answer (stops.TooMany what) rest = answer ≡ Err (too_many what rest)
Fails answer stops.Memory rest = Unit {0}

-- what was returned and the tokens left are what the step answers, unless memory ran out
abbrev pub Does : {X : Type 0} → Step X → Result X Stop → List Token → Type 0
Does step (Ok x) rest = step ≡ Ok (x, rest)
Does step (Err stop) rest = Fails step stop rest
