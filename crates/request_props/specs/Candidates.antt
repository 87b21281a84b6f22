-- The words of the expressions that the groups of a query can hold.
use Rattle.std.specs.Prelude.{ℕ, ◌≡◌, ◌<◌, List, [], Option, MatchOption, length, map, slice_index_or}
use Rattle.std.specs.List.{All, Contains}
use Rattle.std.specs.List.Sorted.{IsStrictlyIncreasing}
use Rattle.query_core.specs.Keys.{key_number, IsGroup}
use Rattle.query_core.specs.Candidates.{IsNext, IsLast}
use Rattle.query_core.specs.Expressions.{IsCandidate, IsCandidateOf, expr_of, word_of}
use Rattle.query_core.specs.declared.keys.TheConstants.{KEYS}
use Rattle.query_core.specs.declared.query.Query.{Query}
use Rattle.query_core.specs.declared.words.Expr.{Expr}
use Rattle.query_core.specs.declared.words.KeyParts.{KeyParts}
use Rattle.query_core.specs.declared.expressions.PhysicalExpr.{PhysicalExpr}
use Rattle.request_props.specs.declared.tables.physical.PhysicalCandidate.{PhysicalCandidate}

-- the words of all expressions that the group can hold, and no others, strictly ascending
pub record AreCandidatesOf (q : Query) (group : KeyParts) (words : List ℕ) : Type 0 where
  pub ascending : IsStrictlyIncreasing words
  pub sound : All (IsCandidateOf q group) words
  pub complete : (word : ℕ) → IsCandidateOf q group word → Contains words word

-- the same of each group whose key has a number below the bound
abbrev pub AreCandidatesBelow : Query → ℕ → List (List ℕ) → Type 0
AreCandidatesBelow q bound lists = (group : KeyParts) → IsGroup q group → key_number group < bound
    → AreCandidatesOf q group (slice_index_or lists (key_number group) [])

-- the same of each group, by the key's number
pub record AreCandidates (q : Query) (lists : List (List ℕ)) : Type 0 where
  pub count : length lists ≡ KEYS
  pub each : AreCandidatesBelow q KEYS lists

-- the next expression that the group can hold after the one before, or none where none is left
abbrev pub FindsNext : Query → KeyParts → Option Expr → Option Expr → Type 0
FindsNext q group before found = MatchOption found (IsLast q group before) (λ next. IsNext q group before next.0)

-- ---- physical ones

-- the physical expression with its word
abbrev pub with_word : PhysicalExpr → PhysicalCandidate
with_word e = record { word = word_of (expr_of e); expr = e }

-- the expression is one that the group can hold, and this is its word
pub record IsPhysicalOf (q : Query) (group : KeyParts) (found : PhysicalCandidate) : Type 0 where
  pub candidate : IsCandidate q (expr_of found.expr)
  pub of_group : found.expr.group ≡ group
  pub number : word_of (expr_of found.expr) ≡ found.word

-- all physical expressions that the group can hold, and no others, strictly ascending by their words
pub record ArePhysicalOf (q : Query) (group : KeyParts) (found : List PhysicalCandidate) : Type 0 where
  pub ascending : IsStrictlyIncreasing (map (λ one. one.word) found)
  pub sound : All (IsPhysicalOf q group) found
  pub complete : (e : PhysicalExpr) → IsCandidate q (expr_of e) → e.group ≡ group → Contains found (with_word e)

-- the same of each group whose key has a number below the bound
abbrev pub ArePhysicalBelow : Query → ℕ → List (List PhysicalCandidate) → Type 0
ArePhysicalBelow q bound lists = (group : KeyParts) → IsGroup q group → key_number group < bound
    → ArePhysicalOf q group (slice_index_or lists (key_number group) [])

-- the same of each group, by the key's number
pub record ArePhysical (q : Query) (lists : List (List PhysicalCandidate)) : Type 0 where
  pub count : length lists ≡ KEYS
  pub each : ArePhysicalBelow q KEYS lists
