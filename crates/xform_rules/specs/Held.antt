-- The closure's joins over sets of tables in place of groups, and what is left of them where a rule that turns joins is
-- off.
use Rattle.std.specs.Prelude.{ℕ, ◌-◌, ◌^◌, length, bit_or, IsTrue}
use Rattle.query_core.specs.Sets.{is_several}
use Rattle.query_core.specs.Connected.{AreLinked}
use Rattle.query_core.specs.declared.query.Query.{Query}
use Rattle.xform_rules.specs.declared.rules.Rule.TheVariants as rules
use Rattle.xform_rules.specs.Rules.{IsOn}
use Rattle.xform_rules.specs.ExpandNAry.{IsLastCut}

-- the group of a set, or in a set's group the join of two sets
pub data Place : Type 0 where
  group : ℕ → Place
  sides : ℕ → ℕ → ℕ → Place

-- the set of all tables
abbrev pub all_of : Query → ℕ
all_of q = 2 ^ length q.tables - 1

-- the closure holds it: the group of all tables, the groups of the two sides of a join, and the joins that the rules
-- give
pub data IsHeld (q : Query) : Place → Type 0 where
  all : IsHeld q (group (all_of q))
  left : (set a b : ℕ) → IsHeld q (sides set a b) → IsHeld q (group a)
  right : (set a b : ℕ) → IsHeld q (sides set a b) → IsHeld q (group b)
  expanded : (set t : ℕ) → IsHeld q (group set) → IsTrue (is_several set) → IsLastCut q set t
      → IsHeld q (sides set (set - 2 ^ t) (2 ^ t))
  turned : (set a b : ℕ) → IsOn q rules.JoinCommute → IsHeld q (sides set a b) → IsHeld q (sides set b a)
  moved : (set inner a b c : ℕ) → IsOn q rules.JoinAssociate → IsHeld q (sides set inner c) → IsHeld q (sides inner a b)
      → AreLinked q.links b c
      → IsHeld q (sides set a (bit_or b c))
