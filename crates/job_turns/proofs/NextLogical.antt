-- The next logical expression of a group: logical candidates come before physical ones.
use Rattle.std.proofs.Common.{◌≡◌, ℕ, IsTrue, Option, None, Some, refl, sym, ◌∙◌, arith}
use Rattle.query_core.specs.Candidates.{IsAfter, IsNext, IsLast, LogicalComeFirst}
use Rattle.query_core.specs.Expressions.{is_logical, word_of, IsCandidate, IsCandidateOf}
use Rattle.query_core.specs.declared.query.Query.{Query}
use Rattle.query_core.specs.declared.words.Expr.{Expr}
use Rattle.query_core.specs.declared.words.KeyParts.{KeyParts}
use Rattle.query_core.specs.declared.expressions.ExprParts.{ExprParts}
use Rattle.goal_rules.specs.Explored.{IsLogicalWord}
use Rattle.job_turns.specs.Groups.{as_expr}
use Rattle.board_moves.specs.Words.{IsAbove, IsNextOf}

after_above : (before : Option ℕ) (word : ℕ) → IsAfter (as_expr before) word → IsAbove before word
after_above None word after = tt
after_above (Some b) word after = after

above_after : (before : Option ℕ) (word : ℕ) → IsAbove before word → IsAfter (as_expr before) word
above_after None word above = refl
above_after (Some b) word above = above

module _ (q : Query) (group : KeyParts) (before : Option ℕ) where
  candidate_of : (word : ℕ) → IsLogicalWord q group word → IsCandidateOf q group word
  candidate_of word (e, logical, is) = (e, logical.candidate, logical.of_group, is)

  -- the next candidate is logical
  pub next_is : (next : Expr) → IsNext q group (as_expr before) next.0
      → ((e : ExprParts) → IsCandidate q e → word_of e ≡ next.0 → IsTrue (is_logical e.operator))
      → IsNextOf (IsLogicalWord q group) before (Some next.0)
  next_is next is logical =
      let (e, candidate, of_group, number) = is.candidate in
      record {
        has = (e, record { candidate = candidate; of_group = of_group; logical = logical e candidate number }, number);
        above = after_above before next.0 is.after;
        least = λ other held above. is.least other (candidate_of other held) (above_after before other above);
      }

  -- it is physical, and so are all after it
  pub none_after : LogicalComeFirst q → (next : Expr) → IsNext q group (as_expr before) next.0
      → ((e : ExprParts) → IsCandidate q e → word_of e ≡ next.0 → IsTrue (is_logical e.operator) → ⊥)
      → IsNextOf (IsLogicalWord q group) before None
  none_after first next is physical word (x, held, number_is) above =
      let (e, candidate, of_group, number) = is.candidate in
      let less = first x e held.candidate candidate (held.of_group ∙ sym of_group) held.logical
      (physical e candidate number) in
      let least = is.least word (candidate_of word (x, held, number_is)) (above_after before word above) in
      absurd (omega arith)

  -- none comes any more
  pub none_left : IsLast q group (as_expr before) → IsNextOf (IsLogicalWord q group) before None
  none_left last word held above = last word (candidate_of word held) (above_after before word above)
