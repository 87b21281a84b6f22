use Rattle.std.proofs.Common.{◌≡◌, ℕ, ◌-◌, subst}
use Rattle.query_core.specs.Sets.{bit}
use Rattle.xform_rules.proofs.Sets.{without_one}
use Rattle.xform_rules.proofs.expand_n_ary.without.Goals as goal

-- the sets have the same tables
pub returns : goal.returns
returns c =
    without_one c.args.set c.args.table c.difference.result c.requires
    (subst (λ one. (t : ℕ) → bit c.difference.result t ≡ bit c.args.set t - bit one t) c.of_one.ensures
    c.difference.ensures)
