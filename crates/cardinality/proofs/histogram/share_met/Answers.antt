use Rattle.cardinality.proofs.Buckets.{all_fit, met_few}
use Rattle.cardinality.proofs.histogram.share_met.Goals as goal

-- all rows of the buckets fit a word
pub all_rows-all-requires : goal.all_rows-all-requires
all_rows-all-requires c = rw c.as_slice-buckets.ensures (all_fit c.args.histogram.now c.requires)

-- the rows of some are at most those of all
pub returns-clause-share : goal.returns-clause-share
returns-clause-share c = rw (c.rows_from.ensures, c.all_rows-all.ensures)
    (met_few c.args.range _ c.as_slice-buckets.result.now)
