use Rattle.std.proofs.Common.{ap, sym, ◌∙◌}
use Rattle.query_core.specs.Keys.{has_item}
use Rattle.query_core.proofs.query.Query.has_item.Goals as goal

-- the key names one group
pub returns : goal.returns
returns c g names = c.group_has_item.ensures
    ∙ ap (λ p. has_item c.args.self.now p c.args.item) (sym (c.group.ensures.only g names))
