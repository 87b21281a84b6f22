-- The exploration of a group, over the rules of a board.
use Rattle.std.proofs.Common.{◌≡◌, ◌≢◌, ℕ, refl, sym, inl, inr, ⊎_elim, arith}
use Rattle.query_core.specs.Expressions.{origin_of}
use Rattle.query_core.specs.declared.query.Query.{Query}
use Rattle.query_core.specs.declared.words.KeyParts.{KeyParts}
use Rattle.query_core.proofs.ExpressionLemmas.{word_some}
use Rattle.request_props.specs.Numbered.{IsWithinLimits}
use Rattle.goal_space.specs.Words.{goal_word}
use Rattle.goal_space.specs.Entries.{NamesGoal, IsChildWord}
use Rattle.goal_space.specs.declared.goals.GoalKind.TheVariants.{Exp}
use Rattle.goal_rules.specs.Explored.{explored, origin_word, IsLogicalWord, IsExploredWord, origin_found, asked_found}
use Rattle.goal_rules.specs.Explored.{IsExplorationOf}
use Rattle.goal_rules.specs.Meaning.{meaning_of}
use Rattle.board_moves.specs.Collects.{IsReached, from_origin, from_child, IsExploration, ExplorationAdds}
use Rattle.job_turns.specs.Laws.{ChildrenAreKnown}
use Rattle.job_turns.specs.Works.{AddsWord}

module _ (q : Query) (group : KeyParts) where
  -- what exploration finds is reached
  reached : (word : ℕ) → IsExploredWord q group word
      → IsReached (meaning_of q) (origin_word q group) (IsLogicalWord q group) explored word
  reached _ origin_found = from_origin
  reached _ (asked_found word child other found is_child is_asked held) =
      from_child word child other (reached word found) is_child is_asked held

  pub some_logical : (word : ℕ) → IsLogicalWord q group word → word ≢ 0
  some_logical word (e, logical, is) none = let some = word_some e in absurd (omega arith)

  pub exploration_of : IsExplorationOf q group
      → IsExploration (meaning_of q) (origin_word q group) (IsLogicalWord q group) explored (goal_word (Exp group))
  exploration_of is = record {
    some_word = some_logical;
    some_goal = λ word held none. absurd (omega arith);
    origin_has = is.origin_held;
    origin_asked = is.origin_asked;
    members = λ word asked. (is.asked_held word asked, reached word (is.asked_is_found word asked));
    children = is.children;
    explores = is.explores;
  }

  -- what the work of an exploration puts in the turn may put in
  pub exploration_adds : ChildrenAreKnown q → IsWithinLimits q → (word : ℕ) → NamesGoal q word (Exp group) → (other : ℕ)
      → ExplorationAdds (meaning_of q) (origin_word q group) word other → AddsWord q (Exp group) other
  exploration_adds children small word names other adds =
      ⊎_elim (λ (is : IsChildWord q word other). inl (children small (Exp group) word other names is))
      (λ (is : other ≡ origin_word q group). inr (origin_of q group, refl, sym is)) adds
