use Rattle.catalog_text.proofs.Adding.{both_added, last_added, token_added}
use Rattle.catalog_text.proofs.text.write_column.Goals as goal

-- the members one after another, behind the brace that opens them
pub returns-clause-added : goal.returns-clause-added
returns-clause-added c =
    last_added c.end_column.result _ _ _ _ _
    (both_added _ _ _ _ _
    (both_added _ _ _ _ _
    (both_added _ _ _ _ _
    (both_added _ _ _ _ _ (token_added _ _ _ _ c.in_ok-begin_object.ensures)
    (token_added _ _ _ _ c.in_ok-key.ensures))
    (token_added _ _ _ _ (rw c.as_str.ensures at c.in_ok-string.ensures)))
    (token_added _ _ _ _ c.in_ok-key-2.ensures))
    (token_added _ _ _ _ c.in_ok-u64.ensures))
    c.end_column.ensures.added
