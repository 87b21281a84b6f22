use Rattle.std.proofs.Common.{arith}
use Rattle.request_props.proofs.Ranges.{items_few}
use Rattle.request_props.proofs.numbers.side.Goals as goal

-- a query has few items
pub overflow_mul-column : goal.overflow_mul-column
overflow_mul-column c = let few = items_few c.args.query.now in omega (arith, c.requires.item)
