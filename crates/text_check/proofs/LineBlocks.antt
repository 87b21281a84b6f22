-- The lines below a line are those of the plans that were made of them, one after the other.
use Rattle.std.proofs.Common.{◌≡◌, ℕ, suc, ◌<◌, ◌≤◌, Bool, true, List, [], ◌∷◌, ◌++◌, map, length, refl, sym, ap}
use Rattle.std.proofs.Common.{◌∙◌, subst, arith, append_assoc, lt-ltb}
use Rattle.std.proofs.lemmas.List.{map-append}
use Rattle.std.specs.Prelude.{nat_lt}
use Rattle.std.specs.List.{list_all, take_while}
use Rattle.std.proofs.lemmas.Bool.{and_parts, and_from, le-ltb}
use Rattle.std.proofs.lemmas.List.Folds.{list_all-append}
use Rattle.std.proofs.lemmas.List.Sums.{take_while-cons}
use Rattle.query_core.specs.declared.query.Query.{Query}
use Rattle.plan_space.specs.Nodes.{Tree, leaf, over, two}
use Rattle.plan_tree.specs.Seen.{root_node}
use Rattle.plan_reading.specs.Lines.{sketch}
use Rattle.plan_reading.specs.Named.{named_of}
use Rattle.plan_reading.specs.Laws.{OutlinesAreOne}
use Rattle.plan_reading.specs.Outline.{outline, forest, ArePlanTrees}
use Rattle.plan_reading.specs.declared.line.NodeLine.{NodeLine}
use Rattle.plan_reading.specs.declared.named.Named.{Named}
use Rattle.text_check.specs.Blocks.{Fits, EndsBlock, block}
use Rattle.text_check.specs.Grown.{subtrees, StandsOver, AreGrown, IsOver, AreDeeper, EndsAt, AreOf}
use Rattle.text_check.specs.declared.kids.Grown.{Grown}
use Rattle.text_check.proofs.Trees.{outline_parts, below_are, few_below}

-- how deep a line stands, and how it names its node
abbrev Sketch : Type 0
Sketch = ℕ × Named

-- whether a line is deeper
abbrev pub deeper : ℕ → NodeLine → Bool
deeper level line = nat_lt level line.level

-- the lines are deeper
abbrev pub AreDeep : ℕ → List NodeLine → Type 0
AreDeep level lines = list_all (deeper level) lines ≡ true

-- ---- the lines of a plan

-- the lines of a plan are as deep as it at least
outline_deep : (level depth : ℕ) (t : Tree) → level < depth → list_all (λ (s : Sketch). nat_lt level s.0) (outline depth t) ≡ true
outline_deep level depth (leaf node) less = rw (lt-ltb level depth less) refl
outline_deep level depth (over node kid) less =
    rw (lt-ltb level depth less) (outline_deep level (suc depth) kid (omega (arith, less)))
outline_deep level depth (two node left right) less =
    rw (lt-ltb level depth less) (rw (
      list_all-append (λ (s : Sketch). nat_lt level s.0) (outline (suc depth) left) (outline (suc depth) right),
      outline_deep level (suc depth) left (omega (arith, less)),
      outline_deep level (suc depth) right (omega (arith, less)),
    ) refl)

deep_map : (level : ℕ) (lines : List NodeLine) → list_all (deeper level) lines
    ≡ list_all (λ (s : Sketch). nat_lt level s.0) (map sketch lines)
deep_map level [] = refl
deep_map level (line ∷ lines) = rw (deep_map level lines) refl

pub block_deep : (level depth : ℕ) (t : Tree) (lines : List NodeLine) → level < depth → map sketch lines ≡ outline depth t
    → AreDeep level lines
block_deep level depth t lines less spelled =
    deep_map level lines ∙ ap (list_all (λ (s : Sketch). nat_lt level s.0)) spelled ∙ outline_deep level depth t less

-- the first of them is at its depth
pub first_level : (depth : ℕ) (t : Tree) (lines : List NodeLine) → map sketch lines ≡ outline depth t
    → (first : NodeLine) × (others : List NodeLine) × (lines ≡ first ∷ others) × (first.level ≡ depth)
first_level depth t [] spelled = let never : [] ≡ (depth, named_of (root_node t)) ∷ forest (suc depth) (subtrees t) =
    spelled ∙ outline_parts depth t in absurd cc
first_level depth t (line ∷ lines) spelled =
    let parts : sketch line ∷ map sketch lines ≡ (depth, named_of (root_node t)) ∷ forest (suc depth) (subtrees t) =
    spelled ∙ outline_parts depth t in
    let head : sketch line ≡ (depth, named_of (root_node t)) = cc in
    (line, lines, refl, ap (λ (s : Sketch). s.0) head)

-- ---- plans of lines that are deeper

-- the lines begin at this level at most
starts : (level : ℕ) (block rest lines : List NodeLine) (first : NodeLine) (others : List NodeLine) → lines ≡ block ++ rest
    → block ≡ first ∷ others → EndsBlock level lines → first.level ≤ level
starts level block rest lines first others parts is ends =
    let all : lines ≡ first ∷ (others ++ rest) = parts ∙ ap (λ ls. ls ++ rest) is in
    subst (EndsBlock level) all ends

ends_all : (level : ℕ) (block rest lines : List NodeLine) (first : NodeLine) (others : List NodeLine) → lines ≡ block ++ rest
    → block ≡ first ∷ others → first.level ≤ level → EndsBlock level lines
ends_all level block rest lines first others parts is most =
    let all : lines ≡ first ∷ (others ++ rest) = parts ∙ ap (λ ls. ls ++ rest) is in
    subst (EndsBlock level) (sym all) most

-- the lines of these plans, one level deeper, come first
pub record IsForest (q : Query) (level : ℕ) (taken others : List Grown) (lines : List NodeLine) : Type 0 where
  pub block : List NodeLine
  pub rest : List NodeLine
  pub trees : List Tree
  pub parts : lines ≡ block ++ rest
  pub grown : AreGrown q taken trees
  pub spelled : map sketch block ≡ forest (suc level) trees
  pub deep : AreDeep level block
  pub ends : EndsBlock level rest
  pub behind : AreOf q others rest

module _ (q : Query) where
  -- what doesn't lie deeper ends the lines that do
  ends_lines : (level : ℕ) (others : List Grown) (lines : List NodeLine) → EndsAt level others → AreOf q others lines
      → EndsBlock level lines
  ends_lines level [] lines ends are = subst (EndsBlock level) (sym are) tt
  ends_lines level (g ∷ gs) lines ends (tree, block, rest, is, below) =
      let first = first_level g.level tree block is.spelled in
      let at = first.3 in
      ends_all level block rest lines first.0 first.1 is.parts first.2 (omega (arith, ends, at))

  pub forest_of : (level : ℕ) (taken others : List Grown) (lines : List NodeLine) → AreDeeper level taken
      → EndsAt level others → EndsBlock (suc level) lines → AreOf q (taken ++ others) lines
      → IsForest q level taken others lines
  forest_of level [] others lines deep ends start are = record {
    block = [];
    rest = lines;
    trees = [];
    parts = refl;
    grown = tt;
    spelled = refl;
    deep = refl;
    ends = ends_lines level others lines ends are;
    behind = are;
  }
  forest_of level (g ∷ gs) others lines deep ends start (tree, block, rest, is, below) =
      let first = first_level g.level tree block is.spelled in
      let at = first.3 in
      let most = starts (suc level) block rest lines first.0 first.1 is.parts first.2 start in
      let more = deep.0 in
      let own : g.level ≡ suc level = omega (arith, most, more, at) in
      let next = subst (λ n. EndsBlock n rest) own is.ends in
      let r = forest_of level gs others rest deep.1 ends next below in
      record {
        block = block ++ r.block;
        rest = r.rest;
        trees = tree ∷ r.trees;
        parts = is.parts ∙ ap (λ ls. block ++ ls) r.parts ∙ sym (append_assoc block r.block r.rest);
        grown = (is.is, r.grown);
        spelled = map-append sketch block r.block
            ∙ ap (λ ls. ls ++ map sketch r.block) (is.spelled ∙ ap (λ n. outline n tree) own)
            ∙ ap (λ ls. outline (suc level) tree ++ ls) r.spelled;
        deep = list_all-append (deeper level) block r.block
            ∙ and_from (list_all (deeper level) block) (list_all (deeper level) r.block)
            (block_deep level g.level tree block more is.spelled) r.deep;
        ends = r.ends;
        behind = r.behind;
      }

-- ---- the block of a line

pub taken_block : (level : ℕ) (lines rest : List NodeLine) → AreDeep level lines → EndsBlock level rest
    → take_while (deeper level) (lines ++ rest) ≡ lines
taken_block level [] [] deep ends = refl
taken_block level [] (line ∷ rest) deep ends =
    take_while-cons (deeper level) line rest ∙ rw (le-ltb level line.level ends) refl
taken_block level (line ∷ lines) rest deep ends =
    let parts = and_parts (deeper level line) (list_all (deeper level) lines) deep in
    take_while-cons (deeper level) line (lines ++ rest)
    ∙ rw (parts.0, taken_block level lines rest parts.1 ends) refl

pub grown_trees : (q : Query) (gs : List Grown) (ts : List Tree) → AreGrown q gs ts → ArePlanTrees q ts
grown_trees q [] [] are = tt
grown_trees q [] (t ∷ ts) are = absurd are
grown_trees q (g ∷ gs) [] are = absurd are
grown_trees q (g ∷ gs) (t ∷ ts) are = (are.0.is_tree, grown_trees q gs ts are.1)

pub as_many : (q : Query) (gs : List Grown) (ts : List Tree) → AreGrown q gs ts → length ts ≡ length gs
as_many q [] [] are = refl
as_many q [] (t ∷ ts) are = absurd are
as_many q (g ∷ gs) [] are = absurd are
as_many q (g ∷ gs) (t ∷ ts) are = ap suc (as_many q gs ts are.1)

-- the block of a line over these plans
block_is : (q : Query) (line : NodeLine) (taken others : List Grown) (lines : List NodeLine)
    → (f : IsForest q line.level taken others lines) → block line lines ≡ line ∷ f.block
block_is q line taken others lines f =
    ap (λ ls. line ∷ take_while (deeper line.level) ls) f.parts
    ∙ ap (λ ls. line ∷ ls) (taken_block line.level f.block f.rest f.deep f.ends)

-- a line fits where its node stands over them
pub line_fits : (q : Query) (line : NodeLine) (taken others : List Grown) (lines : List NodeLine)
    → (f : IsForest q line.level taken others lines) (t : Tree) → StandsOver q line f.trees t → Fits q line lines
line_fits q line taken others lines f t is = record {
  tree = t;
  is_tree = is.is_tree;
  spelled = ap (map sketch) (block_is q line taken others lines f)
      ∙ ap (λ ls. sketch line ∷ ls) f.spelled
      ∙ ap (λ n. (line.level, n) ∷ forest (suc line.level) f.trees) (sym is.named)
      ∙ ap (λ ts. (line.level, named_of (root_node t)) ∷ forest (suc line.level) ts) (sym is.over)
      ∙ sym (outline_parts line.level t);
  of_root = is.of_root;
}

-- and only there
pub line_stands : (q : Query) (one : OutlinesAreOne q) (line : NodeLine)
    (taken others : List Grown) (lines : List NodeLine) (f : IsForest q line.level taken others lines)
    (fits : Fits q line lines) → StandsOver q line f.trees fits.tree
line_stands q one line taken others lines f fits =
    let t = fits.tree in
    let both : sketch line ∷ map sketch f.block ≡ (line.level, named_of (root_node t)) ∷ forest (suc line.level) (subtrees t) =
    sym (ap (map sketch) (block_is q line taken others lines f)) ∙ fits.spelled ∙ outline_parts line.level t in
    let head : sketch line ≡ (line.level, named_of (root_node t)) = cc in
    let behind : map sketch f.block ≡ forest (suc line.level) (subtrees t) = cc in
    record {
      is_tree = fits.is_tree;
      over = one (suc line.level) (subtrees t) f.trees (below_are q t fits.is_tree)
          (grown_trees q taken f.trees f.grown) (sym behind ∙ f.spelled);
      named = sym (ap (λ (s : Sketch). s.1) head);
      of_root = fits.of_root;
    }

-- over three plans none fits
pub none_fits : (q : Query) (one : OutlinesAreOne q) (line : NodeLine)
    (taken others : List Grown) (lines : List NodeLine) → IsForest q line.level taken others lines → 3 ≤ length taken
    → Fits q line lines → ⊥
none_fits q one line taken others lines f many fits =
    let is = line_stands q one line taken others lines f fits in
    let few = few_below fits.tree in
    let over = ap length is.over in
    let all = as_many q taken f.trees f.grown in
    omega (arith, few, over, all, many)

-- the plan of the line comes first then
pub plan_first : (q : Query) (line : NodeLine) (taken others : List Grown) (lines : List NodeLine)
    → (f : IsForest q line.level taken others lines) (g : Grown) → IsOver q line f.trees g
    → AreOf q (g ∷ others) (line ∷ lines)
plan_first q line taken others lines f g is = (
  is.tree,
  line ∷ f.block,
  f.rest,
  record {
    parts = ap (λ ls. line ∷ ls) f.parts;
    is = is.is;
    spelled = ap (λ ls. sketch line ∷ ls) f.spelled
        ∙ ap (λ n. (line.level, n) ∷ forest (suc line.level) f.trees) (sym is.stands.named)
        ∙ ap (λ ts. (line.level, named_of (root_node is.tree)) ∷ forest (suc line.level) ts) (sym is.stands.over)
        ∙ sym (outline_parts line.level is.tree) ∙ ap (λ n. outline n is.tree) (sym is.level);
    of_root = λ zero. is.stands.of_root (sym is.level ∙ zero);
    ends = subst (λ n. EndsBlock n f.rest) (sym is.level) f.ends;
  },
  f.behind,
)
