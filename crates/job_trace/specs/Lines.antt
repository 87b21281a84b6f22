-- The lines of the memo's text as the program makes them.
use Rattle.std.specs.Prelude.{ℕ, Bool, true, not, ◌==◌, List, [], ◌∷◌, Option, None, Some, All, if◌then◌else◌}
use Rattle.std.specs.List.Sorted.{IsNonDecreasingBy}
use Rattle.query_core.specs.Keys.{key_number}
use Rattle.query_core.specs.Expressions.{IsCandidate}
use Rattle.query_core.specs.declared.query.Query.{Query}
use Rattle.query_core.specs.declared.words.KeyParts.{KeyParts}
use Rattle.query_core.specs.declared.expressions.ExprParts.{ExprParts}
use Rattle.job_trace.specs.Groups.{group_line}

-- groups of the query can hold the expressions, which stand group by group
pub record StandByGroup (q : Query) (es : List ExprParts) : Type 0 where
  pub candidates : All (IsCandidate q) es
  pub ascending : IsNonDecreasingBy (λ e. key_number e.group) es

-- a member of this key begins a group, where that before it had the other key
abbrev pub begins : Option ℕ → ℕ → Bool
begins None key = true
begins (Some last) key = not (key == last)

-- the line of a group where it begins
abbrev pub heading : Query → Option ℕ → KeyParts → List (List ℕ)
heading q before g = if begins before (key_number g) then group_line q g ∷ [] else []
