use Rattle.std.proofs.Common.{◌+◌, ◌<◌, ◌^◌, arith}
use Rattle.cardinality.proofs.Buckets.{first_fit}
use Rattle.cardinality.proofs.histogram.rows_from.Goals as goal

-- the first bucket's rows and those of others are at most those of all
pub overflow_add-result : goal.overflow_add-result
overflow_add-result c =
    let small : c.rows_if.result + c.rows_above.result < 2 ^ 64 =
    first_fit _ c.args.range _ c.in-Some.first.now c.in-Some.others.now c.args.buckets.now c.rows_if.result
    c.rows_above.result c.in-Some.ensures.cases.0 c.requires c.rows_if.ensures c.rows_above.ensures in
    omega arith
