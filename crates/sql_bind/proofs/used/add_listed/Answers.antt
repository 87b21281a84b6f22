use Rattle.std.proofs.Common.{◌+◌, ◌++◌, drop, append_assoc, arith}
use Rattle.sql_bind.specs.Used.{indexed_by, listed_from, placed_by}
use Rattle.sql_bind.proofs.Each.{next_of}
use Rattle.sql_bind.proofs.used.add_listed.Goals as goal

-- the columns in the lists of the table go last
pub loop-source-preserved : goal.loop-source-preserved
loop-source-preserved c =
    let loop = c.loop-source in
    let source = c.source-item.result in
    let placed = placed_by loop.source-index source.info.placing in
    let indexed = indexed_by loop.source-index source.info.indexes in
    let rest = listed_from (loop.source-index + 1) (drop (loop.source-index + 1) c.args.sources.now) in
    record {
      counted = omega arith;
      added = rw (
        c.in_ok-add_indexes.ensures,
        c.in_ok-add_placing.ensures,
        c.as_slice.ensures,
        c.info-in-loop-source.ensures,
        c.info.ensures,
        loop.invariant.counted,
        append_assoc loop.wanted.items placed indexed,
        append_assoc loop.wanted.items (placed ++ indexed) rest,
      ) (rw (next_of c.args.sources.now loop.source-index source c.loop-source-test.true c.source-item.is) at
          loop.invariant.added);
    }
