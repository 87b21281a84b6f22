use Rattle.std.proofs.Common.{◌≡◌, ◌∙◌, ap, take, drop, List, ℕ, ◌++◌}
use Rattle.std.specs.List.{prefix_len}
use Rattle.plan_reading.specs.Reading.{is_space, is_bare}
use Rattle.plan_reading.proofs.PartCuts.{IsSplit, parts_cut, tail_cut, parts_found, tail}
use Rattle.plan_reading.proofs.reader.parts_of.Goals as goal

split_of : (line spaces rest front back : List ℕ) (a b : ℕ) → a ≡ prefix_len is_space line → spaces ≡ take a line
    → rest ≡ drop a line → b ≡ prefix_len is_bare rest → front ≡ take b rest → back ≡ drop b rest
    → IsSplit line spaces rest front back
split_of line spaces rest front back a b a_is spaces_are rest_is b_is front_is back_is = record {
  spaces_are = spaces_are ∙ ap (λ n. take n line) a_is;
  rest_is = rest_is ∙ ap (λ n. drop n line) a_is;
  front_is = front_is ∙ ap (λ n. take n rest) b_is;
  back_is = back_is ∙ ap (λ n. drop n rest) b_is;
}

pub returns-in_err-name : goal.returns-in_err-name
returns-in_err-name c =
    let split = split_of c.args.line.now c.split_at.result.0.now c.split_at.result.1.now c.split_at-2.result.0.now
    c.split_at-2.result.1.now c.spaces_len.result c.bare_len.result c.spaces_len.ensures.value c.split_at.ensures.front
    c.split_at.ensures.back c.bare_len.ensures.value c.split_at-2.ensures.front c.split_at-2.ensures.back in
    rw c.from_residual.ensures (λ s n r k parts. c.in_err-name.ensures n
    (parts_cut c.args.line.now c.split_at.result.0.now c.split_at.result.1.now c.split_at-2.result.0.now
    c.split_at-2.result.1.now s n r k split parts).front_is)

pub returns-in_err-numbers : goal.returns-in_err-numbers
returns-in_err-numbers c =
    let split = split_of c.args.line.now c.split_at.result.0.now c.split_at.result.1.now c.split_at-2.result.0.now
    c.split_at-2.result.1.now c.spaces_len.result c.bare_len.result c.spaces_len.ensures.value c.split_at.ensures.front
    c.split_at.ensures.back c.bare_len.ensures.value c.split_at-2.ensures.front c.split_at-2.ensures.back in
    rw c.from_residual-in_err-numbers.ensures (λ s n r k parts. c.in_err-numbers.ensures (r ++ tail k)
    (parts_cut c.args.line.now c.split_at.result.0.now c.split_at.result.1.now c.split_at-2.result.0.now
    c.split_at-2.result.1.now s n r k split parts).back_is)

pub returns-in_err-cost : goal.returns-in_err-cost
returns-in_err-cost c =
    let split = split_of c.args.line.now c.split_at.result.0.now c.split_at.result.1.now c.split_at-2.result.0.now
    c.split_at-2.result.1.now c.spaces_len.result c.bare_len.result c.spaces_len.ensures.value c.split_at.ensures.front
    c.split_at.ensures.back c.bare_len.ensures.value c.split_at-2.ensures.front c.split_at-2.ensures.back in
    rw c.from_residual-in_err-cost.ensures (λ s n r k parts. c.in_err-cost.ensures k
    (c.split_at-3.ensures.back ∙ ap (λ m. drop m c.in_ok-numbers.numbers.now) c.digits_len.ensures.value
    ∙ tail_cut c.in_ok-numbers.numbers.now c.split_at-2.result.1.now n r k c.split_at-2.result.0.now c.split_at.result.0.now s c.in_ok-numbers.ensures
    (parts_cut c.args.line.now c.split_at.result.0.now c.split_at.result.1.now c.split_at-2.result.0.now
    c.split_at-2.result.1.now s n r k split parts) parts.digits))

pub returns : goal.returns
returns c =
    let split = split_of c.args.line.now c.split_at.result.0.now c.split_at.result.1.now c.split_at-2.result.0.now
    c.split_at-2.result.1.now c.spaces_len.result c.bare_len.result c.spaces_len.ensures.value c.split_at.ensures.front
    c.split_at.ensures.back c.bare_len.ensures.value c.split_at-2.ensures.front c.split_at-2.ensures.back in
    parts_found c.args.line.now c.split_at.result.0.now c.split_at.result.1.now c.split_at-2.result.0.now
    c.split_at-2.result.1.now c.in_ok-name.name.now c.in_ok-numbers.numbers.now c.split_at-3.result.0.now
    c.split_at-3.result.1.now c.in_ok-cost.cost.now split c.in_ok-name.ensures c.in_ok-numbers.ensures
    (c.split_at-3.ensures.front ∙ ap (λ m. take m c.in_ok-numbers.numbers.now) c.digits_len.ensures.value)
    (c.split_at-3.ensures.back ∙ ap (λ m. drop m c.in_ok-numbers.numbers.now) c.digits_len.ensures.value)
    c.in_ok-cost.ensures
