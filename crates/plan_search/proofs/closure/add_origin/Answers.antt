use Rattle.std.proofs.Common.{subst, sym}
use Rattle.std.specs.Prelude.{OnOk}
use Rattle.xform_rules.specs.Closure.{IsMember, child_origin}
use Rattle.plan_search.specs.Steps.{GrowsTo, ContainsWordOf}
use Rattle.plan_search.proofs.closure.add_origin.Goals as goal

-- the origin of a child's group is a member
pub add-requires : goal.add-requires
add-requires c =
    subst (IsMember c.args.query.now) (sym c.origin_of_group.ensures)
    (child_origin c.args.e c.args.child c.requires.member c.requires.child)

pub returns : goal.returns
returns c =
    subst (λ e. OnOk c.add.result (GrowsTo c.args.query.now (λ words. ContainsWordOf words e) c.args.found.now
    c.add.new.found)) c.origin_of_group.ensures
    c.add.ensures
