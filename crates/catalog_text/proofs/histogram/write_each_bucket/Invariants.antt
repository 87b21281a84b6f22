-- the buckets so far are written, and their ends fit
use Rattle.std.proofs.Common.{take}
use Rattle.std.specs.List.{All, flat_map}
use Rattle.json.specs.Tree.{json_tokens}
use Rattle.catalog_text.specs.Text.{bucket_json}
use Rattle.catalog_text.specs.AddsTokens.{AddsTokens}
use Rattle.catalog_text.specs.Signed.{EndFits}
use Rattle.catalog_text.proofs.histogram.write_each_bucket.Given as goal

abbrev pub invariant-loop-bucket : goal.invariant-loop-bucket
invariant-loop-bucket l = record {
  added : AddsTokens l.initial.out l.out (flat_map (λ b. json_tokens (bucket_json b)) (take l.bucket-index l.buckets));
  fit : All EndFits (take l.bucket-index l.buckets);
}
