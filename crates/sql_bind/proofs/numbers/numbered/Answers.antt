use Rattle.std.proofs.Common.{◌≡◌, ◌∙◌, ◌++◌, ◌∷◌, [], false, refl}
use Rattle.std.specs.List.{list_any}
use Rattle.sql_bind.specs.Columns.{is_same}
use Rattle.sql_bind.proofs.NameLemmas.{is_new, next_added}
use Rattle.sql_bind.proofs.Numbering.{same_turned}
use Rattle.sql_bind.proofs.numbers.numbered.Goals as goal

-- the column at the place is new, and so it goes last
pub loop-used-preserved : goal.loop-used-preserved
loop-used-preserved c =
    let loop = c.loop-used in
    let item = c.used-item.result in
    let fresh : list_any (is_same item.which) loop.numbers.keys ≡ false =
    is_new is_same same_turned (λ u. u.which) loop.numbers.keys c.args.columns.now loop.used-index item c.requires
    loop.invariant c.loop-used-test.true c.used-item.is in
    let made : c.insert.new.self.keys ≡ loop.numbers.keys ++ item.which ∷ [] =
    rw (c.column.ensures) at c.in_ok-insert.ensures.keys ∙ rw fresh refl in
    next_added (λ u. u.which) c.args.columns.now loop.used-index item c.loop-used-test.true c.used-item.is
    loop.numbers.keys c.insert.new.self.keys loop.invariant made
