use Rattle.catalog_text.proofs.Adding.{both_added, last_added, token_added}
use Rattle.catalog_text.proofs.text.write_table.Goals as goal

-- the members one after another, behind the brace that opens them
pub returns-clause-added : goal.returns-clause-added
returns-clause-added c =
    last_added c.end_table.result _ _ _ _ _
    (both_added _ _ _ _ _
    (both_added _ _ _ _ _
    (both_added _ _ _ _ _
    (both_added _ _ _ _ _
    (both_added _ _ _ _ _ (token_added _ _ _ _ c.in_ok-begin_object.ensures)
    (token_added _ _ _ _ c.in_ok-key.ensures))
    (token_added _ _ _ _ (rw c.as_str.ensures at c.in_ok-string.ensures)))
    (token_added _ _ _ _ c.in_ok-key-2.ensures))
    (token_added _ _ _ _ c.in_ok-u64.ensures))
    (token_added _ _ _ _ c.in_ok-key-3.ensures))
    (last_added c.end_table.result _ _ _ _ _ (rw c.as_slice-columns.ensures at c.in_ok-write_placing.ensures)
    (last_added c.end_table.result _ _ _ _ _ (token_added _ _ _ _ c.in_ok-key-4.ensures)
    (last_added c.end_table.result _ _ _ _ _ (rw c.as_slice-columns.ensures at c.in_ok-write_columns.ensures.added)
    (rw (c.as_slice-columns.ensures, c.as_slice.ensures) at c.end_table.ensures))))
