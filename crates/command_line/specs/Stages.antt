-- Stages, and the words for them.
use Rattle.std.specs.Prelude.{◌≡◌, ◌⊎◌, ℕ, List, [], ◌∷◌, ◌++◌, Option, None, Some, codes, decimal, length}
use Rattle.std.specs.List.{AllZip, join_with_byte}
use Rattle.command_line.specs.Numbers.{IsWithin}
use Rattle.command_line.specs.Options.{AreRules}

-- a stage: which rules are off, and which cost is enough, where it has a threshold
pub record AnyStage : Type 0 where
  pub off : ℕ
  pub threshold : Option ℕ

-- the word is that of the rules that are off: `all` where none is, or their names
abbrev pub AreOffIn : ℕ → List ℕ → Type 0
AreOffIn off word = ((off ≡ 0) × (word ≡ codes "all")) ⊎ AreRules off (word ∷ [])

-- the word goes on behind the rules' with `@` and a threshold from 1 to 10^17, where there is one
abbrev pub HasThreshold : Option ℕ → List ℕ → List ℕ → Type 0
HasThreshold None rules word = word ≡ rules
HasThreshold (Some cost) rules word = IsWithin 1 100000000000000000 cost × (word ≡ rules ++ 64 ∷ decimal cost)

-- the word is that of the stage
pub record IsStageWord (stage : AnyStage) (word : List ℕ) : Type 0 where
  pub rules : List ℕ
  pub are_off : AreOffIn stage.off rules
  pub behind : HasThreshold stage.threshold rules word

-- the word joins those of 1 to 8 stages by `,`
pub record IsStagesWord (stages : List AnyStage) (word : List ℕ) : Type 0 where
  pub number : IsWithin 1 8 (length stages)
  pub words : List (List ℕ)
  pub each : AllZip IsStageWord stages words
  pub joined : word ≡ join_with_byte 44 words
