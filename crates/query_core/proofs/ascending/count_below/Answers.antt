use Rattle.std.proofs.Common.{◌≡◌, true, false, arith, rules}
use Rattle.std.specs.Prelude.{nat_lt}
use Rattle.std.specs.List.Sorted.{IsPartitionPoint}
use Rattle.std.proofs.lemmas.Bool.{ltb-true, ltb-false}
use Rattle.std.proofs.lemmas.List.Sorted.{IsPartitionPoint-from_clause, IsPartitionedBy-ltb}
use Rattle.std.proofs.lemmas.Map.Keys.{sorted_from_strictly_increasing, non_decreasing_from_sorted}
use Rattle.query_core.proofs.ascending.count_below.Goals as goal

-- the words ascend, so those below the bound come first
point : (c : goal.After-partition_point)
    → IsPartitionPoint (λ w. nat_lt w c.args.bound ≡ true) (λ w. nat_lt w c.args.bound ≡ false) c.args.words.now
    c.partition_point.result
point c =
    let words = c.args.words.now in
    let parted = IsPartitionedBy-ltb (λ w. w) words c.args.bound
    (non_decreasing_from_sorted words (sorted_from_strictly_increasing words c.requires)) in
    IsPartitionPoint-from_clause (λ w. nat_lt w c.args.bound) _ _ c.partition_point.ensures.partitioned parted
    (λ a r q k. search rules)

pub returns-clause-before : goal.returns-clause-before
returns-clause-before c k before = ltb-true _ _ ((point c).0 k 0 (omega arith) before)

pub returns-clause-after : goal.returns-clause-after
returns-clause-after c k after within = ltb-false _ _ ((point c).1 k 0 after within)
