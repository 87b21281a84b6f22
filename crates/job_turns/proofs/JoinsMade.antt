-- Joins of two sides, which are members where the rules are on that make them.
use Rattle.std.proofs.Common.{ℕ, Option, None, Some, refl, sym, subst, IsSome, ◌↔◌}
use Rattle.std.specs.Option.{option_map}
use Rattle.query_core.specs.Crossing.{crossing_of}
use Rattle.query_core.specs.Keys.{top_of, IsGroup}
use Rattle.query_core.specs.Expressions.{FallsInto, IsJoin}
use Rattle.query_core.specs.declared.query.Query.{Query}
use Rattle.query_core.specs.declared.words.KeyParts.{KeyParts}
use Rattle.query_core.specs.declared.words.KeyParts.TheVariants as groups
use Rattle.query_core.specs.declared.expressions.Logical.TheVariants as logical
use Rattle.query_core.specs.declared.expressions.Physical.TheVariants as physical
use Rattle.xform_rules.specs.declared.rules.Rule.TheVariants as rules
use Rattle.xform_rules.specs.Rules.{IsOn}
use Rattle.xform_rules.specs.Forms.{logical_in, physical_in}
use Rattle.xform_rules.specs.Closure.{IsMember, result}
use Rattle.xform_rules.specs.Implemented.{HasCrossing}
use Rattle.xform_rules.specs.Splits.{AreJoinRulesOn, HasJoin}
use Rattle.plan_space.specs.Lines.{merge_line}
use Rattle.plan_space.specs.declared.modes.Mode.{Mode}
use Rattle.plan_space.specs.declared.modes.Mode.TheVariants.{Plain, Copied, Hashed}

some_of_map : {A B : Type 0} (f : A → B) (found : Option A) → IsSome (option_map f found) → IsSome found
some_of_map f None never = never
some_of_map f (Some x) some = refl

-- a merge join has a mode only where some predicate equates its sides
pub merge_crosses : (q : Query) (l r : KeyParts) (mode : Mode) → IsSome (merge_line q l r mode) → HasCrossing q l r
merge_crosses q l r (Plain number) some = (number, some_of_map _ (crossing_of q l r number) some)
merge_crosses q l r (Copied number) some = (number, some_of_map _ (crossing_of q l r number) some)
merge_crosses q l r (Hashed number) some = (number, some_of_map _ (crossing_of q l r number) some)

module _ (q : Query) (splits : (set a b : ℕ) → AreJoinRulesOn q → IsGroup q (groups.Join set)
    → HasJoin q set a b ↔ FallsInto q set a b) (on : AreJoinRulesOn q) (g l r : KeyParts) (known : IsGroup q g)
    (joins : IsJoin q g l r) where
  -- the logical join of the two sides is a member
  split_member : IsMember q (logical_in g (logical.Join l r))
  split_member =
      let (set, a, b, is, falls, left, right) = joins in
      subst (λ x. IsMember q (logical_in x (logical.Join l r))) (sym is)
      (subst (λ x. IsMember q (logical_in (groups.Join set) (logical.Join x r))) (sym left)
      (subst (λ x. IsMember q (logical_in (groups.Join set) (logical.Join (top_of q a) x))) (sym right)
      ((splits set a b on (subst (IsGroup q) is known)).1 falls)))

  -- so is their merge join, where some predicate equates them
  pub merge_member : IsOn q rules.JoinToMerge → HasCrossing q l r → IsMember q (physical_in g (physical.MergeJoin l r))
  merge_member merges crosses =
      result (logical_in g (logical.Join l r)) (physical_in g (physical.MergeJoin l r)) rules.JoinToMerge 0 split_member
      (record { on = merges; group = refl; gives = (refl, refl, ((refl, refl), (l, r, refl, crosses))) })

  -- their hash join likewise
  pub hash_member : IsOn q rules.JoinToHash → HasCrossing q l r → IsMember q (physical_in g (physical.HashJoin l r))
  hash_member hashes crosses =
      result (logical_in g (logical.Join l r)) (physical_in g (physical.HashJoin l r)) rules.JoinToHash 0 split_member
      (record { on = hashes; group = refl; gives = (refl, refl, ((refl, refl), (l, r, refl, crosses))) })

  -- and their loop join
  pub loop_member : IsOn q rules.JoinToLoop → IsMember q (physical_in g (physical.LoopJoin l r))
  loop_member loops =
      result (logical_in g (logical.Join l r)) (physical_in g (physical.LoopJoin l r)) rules.JoinToLoop 0 split_member
      (record { on = loops; group = refl; gives = (refl, refl, (refl, refl)) })
