-- The enforcer that is found at a place of a list, or none.
use Rattle.std.proofs.Common.{◌≡◌, Option, None, Some, refl}
use Rattle.plan_space.specs.Enforcers.{EnforcedBy}
use Rattle.plan_tree.specs.Enforcers.{IsEnforced}
use Rattle.plan_tree.specs.declared.enforcers.Enforced.{Enforced}

-- what is found is an enforcer of the list
pub some_enforced : (found : Enforced) (there : Option EnforcedBy) → IsEnforced (Some found) there → (e : EnforcedBy)
    × (there ≡ Some e) × IsEnforced (Some found) (Some e)
some_enforced found None is = absurd is
some_enforced found (Some e) is = (e, refl, is)

-- what is not found is not in the list
pub none_enforced : (there : Option EnforcedBy) → IsEnforced None there → there ≡ None
none_enforced None is = refl
none_enforced (Some e) is = absurd is
