use Rattle.std.proofs.Common.{rules, SFits, w64, to_z-of_z}
use Rattle.catalog_text.proofs.Adding.{both_added, last_added, token_added}
use Rattle.catalog_text.proofs.histogram.write_histogram.Goals as goal

-- the members one after another, between the braces
pub returns-clause-added : goal.returns-clause-added
returns-clause-added c =
    let fits : SFits w64 c.args.histogram.now.low = search rules in
    last_added c.end_object.result _ _ _ _ _
    (both_added _ _ _ _ _
    (both_added _ _ _ _ _
    (both_added _ _ _ _ _
    (both_added _ _ _ _ _ (token_added _ _ _ _ c.in_ok-begin_object.ensures)
    (token_added _ _ _ _ c.in_ok-key.ensures))
    (token_added _ _ _ _ (rw (to_z-of_z fits) at c.in_ok-i64.ensures)))
    (token_added _ _ _ _ c.in_ok-key-2.ensures))
    (rw c.as_slice.ensures at c.in_ok-write_buckets.ensures.added))
    (token_added c.end_object.result _ _ _ c.end_object.ensures)
