-- The listed members of one group, as expressions.
use Rattle.std.specs.Prelude.{ℕ, ◌≡◌, List, All, Option, None, Some, map, ⊤}
use Rattle.std.specs.List.{Contains}
use Rattle.std.specs.List.Sorted.{IsStrictlyIncreasing}
use Rattle.query_core.specs.Expressions.{word_of, IsPacked}
use Rattle.query_core.specs.declared.words.KeyParts.{KeyParts}
use Rattle.query_core.specs.declared.expressions.ExprParts.{ExprParts}
use Rattle.goal_children.specs.declared.group_members.GroupMembers.{GroupMembers}

-- the expressions are those of these words
pub record AreOfWords (words : List ℕ) (es : List ExprParts) : Type 0 where
  pub numbers : map word_of es ≡ words
  pub packed : All IsPacked es

-- of these words those are the group's own, ascending
pub record AreOwnWords (words : List ℕ) (group : KeyParts) (own : List ℕ) : Type 0 where
  pub rises : IsStrictlyIncreasing own
  pub part : (word : ℕ) → Contains own word → Contains words word
  pub only : (e : ExprParts) → IsPacked e → Contains own (word_of e) → e.group ≡ group
  pub all : (e : ExprParts) → IsPacked e → e.group ≡ group → Contains words (word_of e) → Contains own (word_of e)

-- the expressions are those of the group that are among these words, in the order of their words
pub record AreExpressionsOf (words : List ℕ) (group : KeyParts) (es : List ExprParts) : Type 0 where
  pub packed : All IsPacked es
  pub own : AreOwnWords words group (map word_of es)

-- the expressions are those of the group, if there is one
abbrev pub AreExpressionsIn : List ℕ → Option KeyParts → List ExprParts → Type 0
AreExpressionsIn words None es = ⊤
AreExpressionsIn words (Some group) es = AreExpressionsOf words group es

-- the expressions that are held are those of the group that is held
abbrev pub AreHeldFor : List ℕ → GroupMembers → Type 0
AreHeldFor words held = AreExpressionsIn words held.group held.members.items
