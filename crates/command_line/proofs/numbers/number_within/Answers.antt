use Rattle.std.proofs.Common.{◌≡◌, None, Some, true, sym, ◌∙◌, arith}
use Rattle.std.specs.Result.{result_ok}
use Rattle.std.proofs.lemmas.Bool.{false≢true}
use Rattle.command_line.specs.Numbers.{is_plain}
use Rattle.command_line.proofs.WrittenNumbers.{none_parsed, one_parsed, other_parsed}
use Rattle.command_line.proofs.numbers.number_within.Goals as goal
use Rattle.command_line.proofs.numbers.number_within.Goals.{else-is_plain-via-then-is_plain+then-low-number+else-number-high}
use Rattle.command_line.proofs.numbers.number_within.Goals.{else-is_plain-via-then-is_plain+else-low-number}
use Rattle.command_line.proofs.numbers.number_within.Goals.{else-is_plain-via-else-is_plain}

-- nothing is parsed
pub returns-in_err-number-clause-number : goal.returns-in_err-number-clause-number
returns-in_err-number-clause-number c =
    let none : result_ok c.parse.result ≡ None = sym c.ok.ensures.value ∙ c.in_err-number.was in
    c.from_residual.ensures ∙ none_parsed c.args.low c.args.high c.args.word.now c.parse.result c.parse.ensures.value.0
    (omega arith) none

-- a number within the bounds is parsed from a plain word
pub returns-then-number-high-clause-number : goal.returns-then-number-high-clause-number
returns-then-number-high-clause-number c =
    let some : result_ok c.parse.result ≡ Some c.in_ok-number.number = sym c.ok.ensures.value ∙ c.in_ok-number.was in
    let plain : is_plain c.args.word.now ≡ true = sym c.is_plain.ensures ∙ c.if-is_plain.true in
    one_parsed c.args.low c.args.high c.args.word.now c.parse.result c.parse.ensures.value.0 (omega arith)
    c.in_ok-number.number some plain (record { from = omega arith; to = omega arith })

-- the word isn't plain, or the number lies out of the bounds
pub returns-else-is_plain-clause-number : goal.returns-else-is_plain-clause-number
returns-else-is_plain-clause-number c =
    let some : result_ok c.parse.result ≡ Some c.in_ok-number.number = sym c.ok.ensures.value ∙ c.in_ok-number.was in
    other_parsed c.args.low c.args.high c.args.word.now c.parse.result c.parse.ensures.value.0 (omega arith)
    c.in_ok-number.number some
    (λ plain within. elim c.else-is_plain.branch [
      | else-is_plain-via-then-is_plain+then-low-number+else-number-high w ↦ omega (arith, within.to)
      | else-is_plain-via-then-is_plain+else-low-number w ↦ omega (arith, within.from)
      | else-is_plain-via-else-is_plain w ↦ absurd (false≢true (sym w.if-is_plain.false ∙ c.is_plain.ensures ∙ plain))
    ])
