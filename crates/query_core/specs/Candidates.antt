-- The order of the expressions that a group can hold, which is that of their words.
use Rattle.std.specs.Prelude.{ℕ, true, ◌≡◌, ◌<◌, ◌≤◌, Option, None, Some, IsTrue}
use Rattle.query_core.specs.Expressions.{is_logical, middle_field, word_of, IsCandidate, IsCandidateOf}
use Rattle.query_core.specs.declared.query.Query.{Query}
use Rattle.query_core.specs.declared.expressions.ExprParts.{ExprParts}
use Rattle.query_core.specs.declared.words.Expr.{Expr}
use Rattle.query_core.specs.declared.words.KeyParts.{KeyParts}

-- the number is above that of the expression before, if there is one
abbrev pub IsAfter : Option Expr → ℕ → Type 0
IsAfter None word = IsTrue true
IsAfter (Some before) word = before.0 < word

-- the group can hold the word's expression, and none whose word lies between the one before and this one
pub record IsNext (q : Query) (group : KeyParts) (before : Option Expr) (word : ℕ) : Type 0 where
  pub candidate : IsCandidateOf q group word
  pub after : IsAfter before word
  pub least : (w : ℕ) → IsCandidateOf q group w → IsAfter before w → word ≤ w

-- the group can hold no expression whose word comes later
abbrev pub IsLast : Query → KeyParts → Option Expr → Type 0
IsLast q group before = (w : ℕ) → IsCandidateOf q group w → IsAfter before w → ⊥

-- in a group what tells candidates apart ascends with their words
abbrev pub MiddlesRise : Query → Type 0
MiddlesRise q = (e other : ExprParts) → IsCandidate q e → IsCandidate q other → e.group ≡ other.group
    → word_of e < word_of other
    → middle_field (word_of e) < middle_field (word_of other)

-- in a group logical candidates come before physical ones
abbrev pub LogicalComeFirst : Query → Type 0
LogicalComeFirst q = (e other : ExprParts) → IsCandidate q e → IsCandidate q other → e.group ≡ other.group
    → IsTrue (is_logical e.operator)
    → (IsTrue (is_logical other.operator) → ⊥) → word_of e < word_of other
