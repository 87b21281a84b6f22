-- Each line of a plan fits.
use Rattle.std.proofs.Common.{◌≡◌, ℕ, suc, ◌≤◌, List, [], ◌∷◌, ◌++◌, map, refl, sym, ap, ◌∙◌, subst, arith}
use Rattle.std.proofs.Common.{append_assoc}
use Rattle.std.specs.List.{All, list_all}
use Rattle.std.proofs.lemmas.Bool.{and_from}
use Rattle.std.proofs.lemmas.List.{append-nil}
use Rattle.std.proofs.lemmas.List.Elements.{All-nil, All-cons}
use Rattle.std.proofs.lemmas.List.Folds.{list_all-append}
use Rattle.query_core.specs.Keys.{root_of}
use Rattle.query_core.specs.declared.query.Query.{Query}
use Rattle.plan_space.specs.Gives.{kid_of}
use Rattle.plan_space.specs.Nodes.{Tree, leaf, over, two}
use Rattle.plan_reading.specs.Lines.{sketch}
use Rattle.plan_reading.specs.Named.{named_of}
use Rattle.plan_reading.specs.Outline.{outline, IsPlanTree}
use Rattle.plan_reading.specs.declared.line.NodeLine.{NodeLine}
use Rattle.plan_reading.specs.declared.named.Named.{Named}
use Rattle.text_check.specs.Blocks.{Fits, LineFits, EndsBlock, tails, AreLinesOf}
use Rattle.text_check.proofs.LineBlocks.{AreDeep, deeper, block_deep, first_level, taken_block}

abbrev Sketch : Type 0
Sketch = ℕ × Named

-- lines of two outlines, one after the other
record InTwo (lines : List NodeLine) (front back : List Sketch) : Type 0 where
  first : List NodeLine
  second : List NodeLine
  parts : lines ≡ first ++ second
  in_front : map sketch first ≡ front
  in_back : map sketch second ≡ back

in_two : (lines : List NodeLine) (front back : List Sketch) → map sketch lines ≡ front ++ back → InTwo lines front back
in_two lines [] back is = record { first = []; second = lines; parts = refl; in_front = refl; in_back = is }
in_two [] (s ∷ front) back is = absurd cc
in_two (line ∷ lines) (s ∷ front) back is =
    let head : sketch line ≡ s = cc in
    let behind : map sketch lines ≡ front ++ back = cc in
    let rest = in_two lines front back behind in
    record {
      first = line ∷ rest.first;
      second = rest.second;
      parts = ap (λ ls. line ∷ ls) rest.parts;
      in_front = ap (λ x. x ∷ map sketch rest.first) head ∙ ap (λ xs. s ∷ xs) rest.in_front;
      in_back = rest.in_back;
    }

-- what ends a block ends a deeper one
ends_deeper : (level : ℕ) (rest : List NodeLine) → EndsBlock level rest → EndsBlock (suc level) rest
ends_deeper level [] ends = tt
ends_deeper level (line ∷ rest) ends = omega (arith, ends)

-- lines of a plan at a level end a block of that level
ends_there : (level : ℕ) (t : Tree) (lines rest : List NodeLine) → map sketch lines ≡ outline level t
    → EndsBlock level (lines ++ rest)
ends_there level t lines rest spelled =
    let first = first_level level t lines spelled in
    let at = first.3 in
    let most : first.0.level ≤ level = omega (arith, at) in
    subst (λ ls. EndsBlock level (ls ++ rest)) (sym first.2) most

-- the lines behind the first
record Behind (line : NodeLine) (lines : List NodeLine) (depth : ℕ) (t : Tree) (below : List Sketch) : Type 0 where
  level : line.level ≡ depth
  behind : map sketch lines ≡ below

behind_first : (line : NodeLine) (lines : List NodeLine) (depth : ℕ) (t : Tree) (name : Named) (below : List Sketch)
    → map sketch (line ∷ lines) ≡ (depth, name) ∷ below → Behind line lines depth t below
behind_first line lines depth t name below is =
    let head : sketch line ≡ (depth, name) = cc in
    let rest : map sketch lines ≡ below = cc in
    record { level = ap (λ (s : Sketch). s.0) head; behind = rest }

module _ (q : Query) where
  -- the root's line fits
  root_fits : (depth : ℕ) (t : Tree) (line : NodeLine) (lines rest : List NodeLine) → IsPlanTree q t
      → (depth ≡ 0 → (kid_of q t).group ≡ root_of q) → map sketch (line ∷ lines) ≡ outline depth t
      → line.level ≡ depth → AreDeep depth lines → EndsBlock depth rest → Fits q line (lines ++ rest)
  root_fits depth t line lines rest is of_root spelled level deep ends =
      let own = subst (λ d. AreDeep d lines) (sym level) deep in
      let end = subst (λ d. EndsBlock d rest) (sym level) ends in
      record {
        tree = t;
        is_tree = is;
        spelled = ap (λ ls. map sketch (line ∷ ls)) (taken_block line.level lines rest own end)
            ∙ spelled ∙ ap (λ d. outline d t) (sym level);
        of_root = λ zero. of_root (sym level ∙ zero);
      }

  -- no plan below a root stands at level 0
  below_root : (depth : ℕ) (t : Tree) → suc depth ≡ 0 → (kid_of q t).group ≡ root_of q
  below_root depth t zero = absurd (omega (arith, zero))

  -- the lines of a plan fit before lines that do
  all_fit : (depth : ℕ) (t : Tree) (lines rest : List NodeLine) → IsPlanTree q t
      → (depth ≡ 0 → (kid_of q t).group ≡ root_of q) → map sketch lines ≡ outline depth t → EndsBlock depth rest
      → All (LineFits q) (tails rest) → All (LineFits q) (tails (lines ++ rest))
  all_fit depth (leaf node) [] rest is of_root spelled ends fit = absurd cc
  all_fit depth (leaf node) (line ∷ lines) rest is of_root spelled ends fit =
      let b = behind_first line lines depth (leaf node) (named_of node) [] spelled in
      let none : lines ≡ [] = no_lines lines b.behind in
      All-cons (LineFits q) (line, lines ++ rest) (tails (lines ++ rest))
      (root_fits depth (leaf node) line lines rest is of_root spelled b.level (subst (AreDeep depth) (sym none) refl) ends)
      (subst (λ ls. All (LineFits q) (tails (ls ++ rest))) (sym none) fit)
    where
      no_lines : (lines : List NodeLine) → map sketch lines ≡ [] → lines ≡ []
      no_lines [] empty = refl
      no_lines (line ∷ lines) empty = absurd cc
  all_fit depth (over node kid) [] rest is of_root spelled ends fit = absurd cc
  all_fit depth (over node kid) (line ∷ lines) rest is of_root spelled ends fit =
      let b = behind_first line lines depth (over node kid) (named_of node) (outline (suc depth) kid) spelled in
      All-cons (LineFits q) (line, lines ++ rest) (tails (lines ++ rest))
      (root_fits depth (over node kid) line lines rest is of_root spelled b.level
      (block_deep depth (suc depth) kid lines (omega arith) b.behind) ends)
      (all_fit (suc depth) kid lines rest is.0 (below_root depth kid) b.behind (ends_deeper depth rest ends) fit)
  all_fit depth (two node left right) [] rest is of_root spelled ends fit = absurd cc
  all_fit depth (two node left right) (line ∷ lines) rest is of_root spelled ends fit =
      let b = behind_first line lines depth (two node left right) (named_of node)
      (outline (suc depth) left ++ outline (suc depth) right) spelled in
      let p = in_two lines (outline (suc depth) left) (outline (suc depth) right) b.behind in
      let deep : AreDeep depth (p.first ++ p.second) =
      list_all-append (deeper depth) p.first p.second
      ∙ and_from (list_all (deeper depth) p.first) (list_all (deeper depth) p.second)
      (block_deep depth (suc depth) left p.first (omega arith) p.in_front)
      (block_deep depth (suc depth) right p.second (omega arith) p.in_back) in
      let seconds = all_fit (suc depth) right p.second rest is.1 (below_root depth right) p.in_back
      (ends_deeper depth rest ends) fit in
      let firsts = all_fit (suc depth) left p.first (p.second ++ rest) is.0 (below_root depth left) p.in_front
      (ends_there (suc depth) right p.second rest p.in_back) seconds in
      let turned : p.first ++ (p.second ++ rest) ≡ lines ++ rest =
      sym (append_assoc p.first p.second rest) ∙ ap (λ ls. ls ++ rest) (sym p.parts) in
      All-cons (LineFits q) (line, lines ++ rest) (tails (lines ++ rest))
      (root_fits depth (two node left right) line lines rest is of_root spelled b.level
      (subst (AreDeep depth) (sym p.parts) deep) ends)
      (subst (λ ls. All (LineFits q) (tails ls)) turned firsts)

  -- so do all of a plan of the query's root
  pub tree_fits : (lines : List NodeLine) (t : Tree) → AreLinesOf q lines t → All (LineFits q) (tails lines)
  tree_fits lines t is =
      subst (λ ls. All (LineFits q) (tails ls)) (append-nil lines)
      (all_fit 0 t lines [] is.is_tree (λ zero. is.of_root) is.spelled tt (All-nil (LineFits q)))
