use Rattle.std.proofs.Common.{subst, sym, ap, ◌∙◌}
use Rattle.std.specs.Prelude.{OnOk}
use Rattle.query_core.specs.Keys.{root_of}
use Rattle.query_core.specs.Expressions.{origin_of}
use Rattle.xform_rules.specs.Closure.{IsMember, root_origin}
use Rattle.plan_search.specs.Steps.{GrowsTo, ContainsWordOf}
use Rattle.plan_search.proofs.closure.add_root.Goals as goal

-- the key names the root's group
pub add-requires : goal.add-requires
add-requires c =
    let q = c.args.query.now in
    let same = c.origin_of_group.ensures ∙ ap (origin_of q)
    (sym (c.group-root.ensures.only (root_of q) c.root.ensures)) in
    subst (IsMember q) (sym same) root_origin

pub returns : goal.returns
returns c =
    let q = c.args.query.now in
    let same = c.origin_of_group.ensures ∙ ap (origin_of q)
    (sym (c.group-root.ensures.only (root_of q) c.root.ensures)) in
    subst (λ e. OnOk c.add.result (GrowsTo q (λ words. ContainsWordOf words e) c.args.found.now c.add.new.found)) same
    c.add.ensures
