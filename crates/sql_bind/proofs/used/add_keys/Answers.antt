use Rattle.std.proofs.Common.{false, get_or}
use Rattle.std.proofs.lemmas.List.{get_or_default}
use Rattle.sql_bind.specs.declared.sort_keys.SortKey.{SortKey}
use Rattle.sql_bind.specs.declared.sort_keys.Target.TheVariants as targets
use Rattle.sql_bind.specs.Columns.{column}
use Rattle.sql_bind.specs.Used.{in_target}
use Rattle.sql_bind.proofs.NameLemmas.{next_several}
use Rattle.sql_bind.proofs.used.add_keys.Goals as goal

-- the column of the key goes last
pub loop-key-preserved : goal.loop-key-preserved
loop-key-preserved c =
    let loop = c.loop-key in
    let keys = c.args.keys.now in
    let key : SortKey =
    get_or keys loop.key-index (record { at = 0; target = targets.Column (column 0 0); desc = false }) in
    next_several (λ k. in_target k.target) keys loop.key-index key c.loop-key-test.true
    (get_or_default keys loop.key-index _ key c.loop-key-test.true) loop.wanted.items c.add_target.new.wanted.items
    loop.invariant c.in_ok-add_target.ensures
