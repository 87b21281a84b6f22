-- Which lines belong together, and which of them fit.
use Rattle.std.specs.Prelude.{ℕ, ◌≡◌, ◌≤◌, ◌+◌, List, [], ◌∷◌, map, nat_lt, ⊤}
use Rattle.std.specs.List.{take_while}
use Rattle.query_core.specs.Keys.{root_of}
use Rattle.query_core.specs.declared.query.Query.{Query}
use Rattle.plan_space.specs.Gives.{kid_of}
use Rattle.plan_space.specs.Nodes.{Tree}
use Rattle.plan_check.specs.Places.{IsLastWithout}
use Rattle.plan_reading.specs.Lines.{sketch}
use Rattle.plan_reading.specs.Outline.{outline, IsPlanTree}
use Rattle.plan_reading.specs.declared.line.NodeLine.{NodeLine}

-- a line and the deeper ones directly behind it
abbrev pub block : NodeLine → List NodeLine → List NodeLine
block line behind = line ∷ take_while (λ (other : NodeLine). nat_lt line.level other.level) behind

-- the line, before these others, is that of the root of a plan whose lines its block has; the first line is that of a
-- plan of the query's root
pub record Fits (q : Query) (line : NodeLine) (behind : List NodeLine) : Type 0 where
  pub tree : Tree
  pub is_tree : IsPlanTree q tree
  pub spelled : map sketch (block line behind) ≡ outline line.level tree
  pub of_root : line.level ≡ 0 → (kid_of q tree).group ≡ root_of q

-- none of the lines that follow is part of the block of a line of this level
abbrev pub EndsBlock : ℕ → List NodeLine → Type 0
EndsBlock level [] = ⊤
EndsBlock level (line ∷ lines) = line.level ≤ level

-- each line with those behind it
abbrev pub tails : List NodeLine → List (NodeLine × List NodeLine)
tails [] = []
tails (line ∷ lines) = (line, lines) ∷ tails lines

-- ---- all lines

-- the lines are those of the plan, which is of the query's root
pub record AreLinesOf (q : Query) (lines : List NodeLine) (tree : Tree) : Type 0 where
  pub is_tree : IsPlanTree q tree
  pub spelled : map sketch lines ≡ outline 0 tree
  pub of_root : (kid_of q tree).group ≡ root_of q

-- a line fits over those behind it
abbrev pub LineFits : Query → NodeLine × List NodeLine → Type 0
LineFits q at = Fits q at.0 at.1

-- this is the last line that doesn't fit, where the first two are counted too
pub record IsMisfit (q : Query) (lines : List NodeLine) (line : ℕ) : Type 0 where
  pub place : ℕ
  pub line_is : line ≡ place + 2
  pub last : IsLastWithout (LineFits q) (tails lines) place
