-- the columns before the place have their numbers
use Rattle.std.proofs.Common.{◌≡◌, ◌++◌, drop}
use Rattle.sql_bind.specs.Numbers.{numbers_of}
use Rattle.sql_bind.proofs.numbers.numbers_of.Given as goal

abbrev pub invariant-loop-place : goal.invariant-loop-place
invariant-loop-place l = l.numbers ++ numbers_of l.used l.table (drop l.place-index l.places) ≡ numbers_of l.used
    l.table l.places
