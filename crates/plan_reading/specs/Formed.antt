-- The lines that a text has, and the first that hasn't its form.
use Rattle.std.specs.Prelude.{ℕ, ◌≡◌, ◌≢◌, ◌≤◌, ◌<◌, ◌+◌, ◌^◌, ◌⊎◌, List, [], ◌∷◌, ◌++◌, Option, None, Some, length}
use Rattle.std.specs.Prelude.{map, ⊤}
use Rattle.std.specs.Prelude.{Result, Ok, Err}
use Rattle.std.specs.List.{concat}
use Rattle.query_core.specs.declared.query.Query.{Query}
use Rattle.plan_lines.specs.Text.{cost_line, output_line}
use Rattle.plan_reading.specs.Named.{HasForm}
use Rattle.plan_reading.specs.Lines.{line_text}
use Rattle.plan_reading.specs.declared.line.NodeLine.{NodeLine}
use Rattle.plan_reading.specs.declared.text.Lines.{Lines}
use Rattle.plan_reading.specs.declared.text.LineFault.{LineFault}
use Rattle.plan_reading.specs.declared.text.LineFault.TheVariants as faults

-- so many bytes a text may have
abbrev pub most_bytes : ℕ
most_bytes = 1048576

-- ---- lines of nodes

-- the query can name the node, and the numbers fit
pub record IsNodeLine (q : Query) (line : NodeLine) : Type 0 where
  pub form : HasForm q line.node
  pub rows_fit : line.rows < 2 ^ 64
  pub cost_fits : line.cost < 2 ^ 64

-- the level may stand behind that of the line before: the first line is at level 0, and each later one is at a level
-- from 1 on, at most one deeper than the line before
abbrev pub MayFollow : Option ℕ → ℕ → Type 0
MayFollow None level = level ≡ 0
MayFollow (Some before) level = (1 ≤ level) × (level ≤ before + 1)

-- the line may stand behind a line of this level
pub record Follows (q : Query) (before : Option ℕ) (line : NodeLine) : Type 0 where
  pub level : MayFollow before line.level
  pub is_line : IsNodeLine q line

-- each of the lines may stand behind those before it
abbrev pub AreInPlace : Query → Option ℕ → List NodeLine → Type 0
AreInPlace q before [] = ⊤
AreInPlace q before (line ∷ lines) = Follows q before line × AreInPlace q (Some line.level) lines

-- the level of the last of the lines, or that of the line before them
abbrev pub last_level : Option ℕ → List NodeLine → Option ℕ
last_level before [] = before
last_level before (line ∷ lines) = last_level (Some line.level) lines

-- the bytes of lines of nodes
abbrev pub lines_text : Query → List NodeLine → List ℕ
lines_text q lines = concat (map (line_text q) lines)

-- the bytes are lines of nodes, one or more, each in its place
pub record AreLines (q : Query) (bytes : List ℕ) (lines : List NodeLine) : Type 0 where
  pub in_place : AreInPlace q None lines
  pub some : 1 ≤ length lines
  pub whole : bytes ≡ lines_text q lines

-- the bytes begin with the line, which may stand behind one of this level, and go on with more
pub record IsNext (q : Query) (before : Option ℕ) (bytes : List ℕ) (line : NodeLine) (more : List ℕ) : Type 0 where
  pub follows : Follows q before line
  pub begins : bytes ≡ line_text q line ++ more

-- they begin with no such line
abbrev pub HasNoNext : Query → Option ℕ → List ℕ → Type 0
HasNoNext q before bytes = (line : NodeLine) (more : List ℕ) → IsNext q before bytes line more → ⊥

-- behind some lines of nodes in their places one is due, and none that may follow comes next
pub record LacksNode (q : Query) (bytes : List ℕ) (line : ℕ) : Type 0 where
  pub lines : List NodeLine
  pub rest : List ℕ
  pub in_place : AreInPlace q None lines
  pub begins : bytes ≡ lines_text q lines ++ rest
  pub count : line ≡ length lines + 2
  pub due : (lines ≡ []) ⊎ (0 < length rest)
  pub stuck : HasNoNext q (last_level None lines) rest

-- ---- whole texts

-- the text begins with the line of the cost
pub record HasCost (text : List ℕ) (cost : ℕ) (rest : List ℕ) : Type 0 where
  pub fits : cost < 2 ^ 64
  pub begins : text ≡ cost_line cost ++ rest

-- the text is the line of the cost, that of the output, and these lines of nodes, each in its place
pub record IsFormed (q : Query) (text : List ℕ) (cost : ℕ) (lines : List NodeLine) : Type 0 where
  pub rest : List ℕ
  pub has_cost : HasCost text cost (output_line q ++ rest)
  pub nodes : AreLines q rest lines

-- no line of a cost comes first
abbrev pub LacksCost : List ℕ → Type 0
LacksCost text = (cost : ℕ) (rest : List ℕ) → HasCost text cost rest → ⊥

-- behind the line of the cost comes something else than that of the output
pub record LacksOutput (q : Query) (text : List ℕ) : Type 0 where
  pub cost : ℕ
  pub rest : List ℕ
  pub has_cost : HasCost text cost rest
  pub stuck : (more : List ℕ) → rest ≢ output_line q ++ more

-- behind these two a line of a node is lacking
pub record LacksLine (q : Query) (text : List ℕ) (line : ℕ) : Type 0 where
  pub cost : ℕ
  pub rest : List ℕ
  pub has_cost : HasCost text cost (output_line q ++ rest)
  pub nodes : LacksNode q rest line

-- this is the first line that is missing, isn't ended by a newline, or hasn't its form
abbrev pub HasFormFault : Query → List ℕ → ℕ → Type 0
HasFormFault q text line = ((line ≡ 0) × LacksCost text) ⊎ ((line ≡ 1) × LacksOutput q text) ⊎ LacksLine q text line

-- the fault is the text's
abbrev pub HasLineFault : Query → List ℕ → LineFault → Type 0
HasLineFault q text (faults.Form line) = HasFormFault q text line
HasLineFault q text faults.Memory = ⊤

-- the lines or the fault of the text
abbrev pub IsRead : Query → List ℕ → Result Lines LineFault → Type 0
IsRead q text (Ok lines) = IsFormed q text lines.cost lines.nodes.items
IsRead q text (Err fault) = HasLineFault q text fault

-- the fault is that of the lines of nodes
abbrev pub HasNodeFault : Query → List ℕ → LineFault → Type 0
HasNodeFault q bytes (faults.Form line) = LacksNode q bytes line
HasNodeFault q bytes faults.Memory = ⊤
