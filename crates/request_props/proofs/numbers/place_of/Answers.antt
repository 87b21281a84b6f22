use Rattle.std.proofs.Common.{◌≡◌, [], length, bytes_eq, slice_index_or, true, sym, arith}
use Rattle.std.proofs.lemmas.Grind.{common_steps}
use Rattle.std.proofs.lemmas.List.Sums.{position_or_len_is}
use Rattle.request_props.proofs.numbers.place_of.Goals as goal

-- it is the one, and none before it is
pub returns-then-eq-clause-value : goal.returns-then-eq-clause-value
returns-then-eq-clause-value c =
    let here : bytes_eq c.args.list.now (slice_index_or c.args.lists.now c.loop-place.place []) ≡ true =
    grind (arith, common_steps) in
    sym (position_or_len_is (bytes_eq c.args.list.now) c.args.lists.now c.loop-place.place [] (omega arith)
    c.loop-place.invariant (λ within. here))

-- none is the one
pub returns-clause-value : goal.returns-clause-value
returns-clause-value c =
    let end : c.loop-place.place ≡ length c.args.lists.now = omega arith in
    sym (position_or_len_is (bytes_eq c.args.list.now) c.args.lists.now (length c.args.lists.now) [] (omega arith)
    (λ k within. c.loop-place.invariant k (omega arith)) (λ within. absurd (omega arith)))
