use Rattle.catalog_text.proofs.Adding.{both_added, last_added, token_added}
use Rattle.catalog_text.proofs.text.write_value.Goals as goal

-- the members one after another, between the braces
pub returns-clause-added : goal.returns-clause-added
returns-clause-added c =
    last_added c.end_object.result _ _ _ _ _
    (both_added _ _ _ _ _
    (both_added _ _ _ _ _
    (both_added _ _ _ _ _
    (both_added _ _ _ _ _
    (both_added _ _ _ _ _
    (both_added _ _ _ _ _ (token_added _ _ _ _ c.in_ok-begin_object.ensures)
    (token_added _ _ _ _ c.in_ok-key.ensures))
    (token_added _ _ _ _ (rw c.number_of_version.ensures at c.in_ok-u64.ensures)))
    (token_added _ _ _ _ c.in_ok-key-2.ensures))
    (token_added _ _ _ _ c.in_ok-u64-2.ensures))
    (token_added _ _ _ _ c.in_ok-key-3.ensures))
    (rw c.as_slice.ensures at c.in_ok-write_tables.ensures.added))
    (token_added c.end_object.result _ _ _ c.end_object.ensures)
