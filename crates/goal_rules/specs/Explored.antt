-- The exploration of a group, in words.
use Rattle.std.specs.Prelude.{ℕ, ◌≡◌, IsTrue}
use Rattle.query_core.specs.Expressions.{is_logical, origin_of, word_of, IsCandidate}
use Rattle.query_core.specs.Goals.{goal_number}
use Rattle.query_core.specs.declared.query.Query.{Query}
use Rattle.query_core.specs.declared.words.KeyParts.{KeyParts}
use Rattle.query_core.specs.declared.words.GoalParts.TheVariants as parts
use Rattle.query_core.specs.declared.expressions.ExprParts.{ExprParts}
use Rattle.goal_space.specs.Words.{goal_word}
use Rattle.goal_space.specs.Entries.{IsEntry, IsChildWord, IsAskedWord}
use Rattle.goal_space.specs.declared.goals.GoalKind.TheVariants.{Exp}

-- the word of the goal that explores the expression of this word
abbrev pub explored : ℕ → ℕ
explored word = goal_number (parts.ExpE (record { 0 = word }))

-- a logical expression that the group can hold
pub record IsLogicalOf (q : Query) (group : KeyParts) (e : ExprParts) : Type 0 where
  pub candidate : IsCandidate q e
  pub of_group : e.group ≡ group
  pub logical : IsTrue (is_logical e.operator)

-- the word is that of such an expression
abbrev pub IsLogicalWord : Query → KeyParts → ℕ → Type 0
IsLogicalWord q group word = (e : ExprParts) × IsLogicalOf q group e × (word_of e ≡ word)

-- the word of the group's origin
abbrev pub origin_word : Query → KeyParts → ℕ
origin_word q group = word_of (origin_of q group)

-- the origin's word, and the logical ones that a child of the exploration of one that is found asks for
pub data IsExploredWord (q : Query) (group : KeyParts) : ℕ → Type 0 where
  origin_found : IsExploredWord q group (origin_word q group)
  asked_found : (word child other : ℕ) → IsExploredWord q group word → IsChildWord q (explored word) child
      → IsAskedWord q child other → IsLogicalWord q group other
      → IsExploredWord q group other

-- the exploration of the group asks for the origin and for words that are found from it, and waits for the exploration
-- of what it asks for
pub record IsExplorationOf (q : Query) (group : KeyParts) : Type 0 where
  pub origin_held : IsLogicalWord q group (origin_word q group)
  pub origin_asked : IsAskedWord q (goal_word (Exp group)) (origin_word q group)
  pub asked_held : (word : ℕ) → IsAskedWord q (goal_word (Exp group)) word → IsLogicalWord q group word
  pub asked_is_found : (word : ℕ) → IsAskedWord q (goal_word (Exp group)) word → IsExploredWord q group word
  pub children : (child : ℕ) → IsChildWord q (goal_word (Exp group)) child → (word : ℕ)
      × IsAskedWord q (goal_word (Exp group)) word × (child ≡ explored word)
  pub explores : (word : ℕ) → IsLogicalWord q group word → IsEntry q word
      → IsChildWord q (goal_word (Exp group)) (explored word)
