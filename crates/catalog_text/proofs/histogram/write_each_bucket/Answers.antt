use Rattle.std.proofs.lemmas.List.Elements.{All-more}
use Rattle.catalog_text.specs.Signed.{EndFits}
use Rattle.catalog_text.specs.Text.{bucket_json}
use Rattle.catalog_text.proofs.Adding.{more_added}
use Rattle.catalog_text.proofs.histogram.write_each_bucket.Goals as goal

-- one more bucket is written
pub loop-bucket-preserved : goal.loop-bucket-preserved
loop-bucket-preserved c =
    let buckets = c.args.buckets.now in
    let loop = c.loop-bucket in
    let within = c.loop-bucket-test.true in
    record {
      added = more_added bucket_json buckets loop.bucket-index _ c.args.out.now loop.out c.write_bucket.new.out within
          loop.invariant.added c.in_ok-write_bucket.ensures.added;
      fit = All-more EndFits buckets loop.bucket-index _ within loop.invariant.fit c.in_ok-write_bucket.ensures.fits;
    }
