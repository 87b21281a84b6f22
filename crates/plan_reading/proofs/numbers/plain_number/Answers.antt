-- The number that is parsed is written so where the word is plain.
use Rattle.std.proofs.Common.{◌≡◌, ◌∙◌, sym, None, Some}
use Rattle.std.specs.Result.{result_ok}
use Rattle.plan_reading.proofs.WrittenNumbers.{none_written, other_written, plain_written}
use Rattle.plan_reading.proofs.numbers.plain_number.Goals as goal

pub returns-in_err-number : goal.returns-in_err-number
returns-in_err-number c =
    let none : result_ok c.parse.result ≡ None = sym c.ok.ensures.value ∙ c.in_err-number.was in
    rw c.from_residual.ensures (none_written c.args.word.now c.parse.result c.parse.ensures.value.0 none)

pub returns-then-is_plain : goal.returns-then-is_plain
returns-then-is_plain c =
    let some : result_ok c.parse.result ≡ Some c.in_ok-number.number = sym c.ok.ensures.value ∙ c.in_ok-number.was in
    plain_written c.args.word.now c.parse.result c.parse.ensures.value.0 c.in_ok-number.number some
    (sym c.is_plain.ensures ∙ c.if-is_plain.true)

pub returns-else-is_plain : goal.returns-else-is_plain
returns-else-is_plain c = other_written c.args.word.now c.parse.result c.parse.ensures.value.0
    (sym c.is_plain.ensures ∙ c.if-is_plain.false)
