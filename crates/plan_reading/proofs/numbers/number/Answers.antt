-- A number is written in ASCII, so what isn't UTF-8 writes none.
use Rattle.std.proofs.Common.{◌≡◌, sym, subst, ℕ, decimal, ◌<◌, ◌^◌}
use Rattle.std.specs.Prelude.{MatchOption}
use Rattle.std.specs.Str.{IsUtf8}
use Rattle.std.proofs.lemmas.Str.{IsUtf8-from_ascii}
use Rattle.std.proofs.lemmas.Fmt.{IsAscii-decimal}
use Rattle.plan_reading.proofs.numbers.number.Goals as goal

pub returns-in-Err : goal.returns-in-Err
returns-in-Err c = λ n small written. c.in-Err.ensures.cases.0
    (subst IsUtf8 (sym written) (IsUtf8-from_ascii (decimal n) (IsAscii-decimal n small)))

pub returns-in-Ok : goal.returns-in-Ok
returns-in-Ok c = subst (λ w. MatchOption c.plain_number.result ((n : ℕ) → n < 2 ^ 64 → w ≡ decimal n → ⊥)
    (λ n. (w ≡ decimal n) × (n < 2 ^ 64))) c.in-Ok.ensures.cases.0 c.plain_number.ensures
