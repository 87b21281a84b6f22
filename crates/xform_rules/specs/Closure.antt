-- The members of the groups of a query, and the lists of their words.
use Rattle.std.specs.Prelude.{ℕ, List, None, Some, ◌≡◌}
use Rattle.std.specs.List.{All, Contains}
use Rattle.std.specs.List.Sorted.{IsStrictlyIncreasing}
use Rattle.query_core.specs.Keys.{root_of}
use Rattle.query_core.specs.Expressions.{word_of, children_of, origin_of, IsChild}
use Rattle.query_core.specs.declared.query.Query.{Query}
use Rattle.query_core.specs.declared.words.KeyParts.{KeyParts}
use Rattle.query_core.specs.declared.expressions.ExprParts.{ExprParts}
use Rattle.xform_rules.specs.declared.rules.Rule.{Rule}
use Rattle.xform_rules.specs.Results.{HasResult}

-- the least set that has the root's origin, the origin of each child's group of a member, and each result of a rule at
-- a member, with another member bound where the rule binds one
pub data IsMember (q : Query) : ExprParts → Type 0 where
  root_origin : IsMember q (origin_of q (root_of q))
  child_origin : (e : ExprParts) → (group : KeyParts) → IsMember q e → IsChild (children_of e.operator) group
      → IsMember q (origin_of q group)
  result : (e other : ExprParts) → (rule : Rule) → (n : ℕ) → IsMember q e → HasResult q rule e None n other
      → IsMember q other
  bound_result : (e bound other : ExprParts) → (rule : Rule) → (n : ℕ) → IsMember q e → IsMember q bound
      → HasResult q rule e (Some bound) n other
      → IsMember q other

-- ---- words

-- the word is that of a member
abbrev pub IsMemberWord : Query → ℕ → Type 0
IsMemberWord q word = (e : ExprParts) × IsMember q e × (word_of e ≡ word)

-- the word is that of a member of the group
abbrev pub IsMemberWordOf : Query → KeyParts → ℕ → Type 0
IsMemberWordOf q group word = (e : ExprParts) × IsMember q e × (e.group ≡ group) × (word_of e ≡ word)

-- the words of all members, and no others, strictly ascending
pub record IsClosureOf (q : Query) (words : List ℕ) : Type 0 where
  pub ascending : IsStrictlyIncreasing words
  pub sound : All (IsMemberWord q) words
  pub complete : (e : ExprParts) → IsMember q e → Contains words (word_of e)

-- the words of all members of the group, and no others, strictly ascending
pub record AreMembersOf (q : Query) (group : KeyParts) (words : List ℕ) : Type 0 where
  pub ascending : IsStrictlyIncreasing words
  pub sound : All (IsMemberWordOf q group) words
  pub complete : (e : ExprParts) → IsMember q e → e.group ≡ group → Contains words (word_of e)
