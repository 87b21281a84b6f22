use Rattle.catalog_text.proofs.Adding.{both_added, last_added, token_added}
use Rattle.catalog_text.proofs.text.end_column.Goals as goal

-- the key and the histogram, before the brace
pub returns-in_ok-write_histogram-in-Some-clause-added : goal.returns-in_ok-write_histogram-in-Some-clause-added
returns-in_ok-write_histogram-in-Some-clause-added c =
    rw (c.in-Some.is) (last_added c.end_object-in-Some.result _ _ _ _ _
    (both_added _ _ _ _ _ (token_added _ _ _ _ c.in_ok-key-in-Some.ensures)
    c.in_ok-write_histogram-in-Some.ensures.added)
    (token_added c.end_object-in-Some.result _ _ _ c.end_object-in-Some.ensures))
