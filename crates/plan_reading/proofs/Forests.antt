-- The lines below a line are those of one list of plans, and what is beside them is no matter.
use Rattle.std.proofs.Common.{◌≡◌, ℕ, suc, ◌+◌, Bool, true, false, cond, List, [], ◌∷◌, ◌++◌, take, refl, sym, ap}
use Rattle.std.proofs.Common.{arith}
use Rattle.std.specs.List.{take_while, prefix_len}
use Rattle.std.specs.Prelude.{nat_lt}
use Rattle.query_core.specs.Keys.{tables_of, top_of}
use Rattle.query_core.specs.declared.query.Query.{Query}
use Rattle.plan_space.specs.Nodes.{Tree, leaf, over, two}
use Rattle.plan_reading.specs.Outline.{outline, forest, ArePlanTrees}
use Rattle.plan_reading.specs.declared.line.NodeLine.{NodeLine}
use Rattle.plan_reading.specs.declared.named.Named.{Named}
use Rattle.plan_reading.proofs.OneTree.{IsBeside, beside_outline, outlines_one}

beside_forest : (depth : ℕ) (trees : List Tree) → IsBeside depth (forest depth trees)
beside_forest depth [] = tt
beside_forest depth (tree ∷ trees) = beside_outline depth tree (forest depth trees)

some_lines : (depth : ℕ) (tree : Tree) (lines : List (ℕ × Named)) → [] ≡ outline depth tree ++ lines → ⊥
some_lines depth (leaf node) lines is = absurd cc
some_lines depth (over node kid) lines is = absurd cc
some_lines depth (two node left right) lines is = absurd cc

module _ (q : Query) (tables : (set : ℕ) → tables_of (top_of q set) ≡ set) where
  pub forests_one : (depth : ℕ) (ss ts : List Tree) → ArePlanTrees q ss → ArePlanTrees q ts → forest depth ss ≡ forest depth ts
      → ss ≡ ts
  forests_one depth [] [] in_s in_t same = refl
  forests_one depth [] (t ∷ ts) in_s in_t same = absurd (some_lines depth t (forest depth ts) same)
  forests_one depth (s ∷ ss) [] in_s in_t same = absurd (some_lines depth s (forest depth ss) (sym same))
  forests_one depth (s ∷ ss) (t ∷ ts) in_s in_t same =
      let one = outlines_one q tables depth s t (forest depth ss) (forest depth ts) in_s.0 in_t.0 (beside_forest depth ss)
      (beside_forest depth ts) same in
      let first = one.tree in
      let rest = forests_one depth ss ts in_s.1 in_t.1 one.rest in
      cc

-- ---- blocks

-- the lines begin with none that is deeper
abbrev pub EndsBlock : ℕ → List NodeLine → Type 0
EndsBlock level [] = Unit {0}
EndsBlock level (line ∷ lines) = nat_lt level line.level ≡ false

-- what is beside is no part of a block
pub block_alone : (level : ℕ) (below beside : List NodeLine) → EndsBlock level beside
    → take_while (λ (l : NodeLine). nat_lt level l.level) (below ++ beside)
    ≡ take_while (λ (l : NodeLine). nat_lt level l.level) below
block_alone level [] [] ends = refl
block_alone level [] (line ∷ beside) ends = rw ends refl
block_alone level (line ∷ below) beside ends = by_test (nat_lt level line.level) (block_alone level below beside ends)
  where
    one_more : (n : ℕ) → 1 + n ≡ suc n
    one_more n = omega arith

    by_test : (b : Bool)
        → take_while (λ (l : NodeLine). nat_lt level l.level) (below ++ beside)
        ≡ take_while (λ (l : NodeLine). nat_lt level l.level) below
        → take (cond b (1 + prefix_len (λ (l : NodeLine). nat_lt level l.level) (below ++ beside)) 0) (line ∷ (below ++ beside))
        ≡ take (cond b (1 + prefix_len (λ (l : NodeLine). nat_lt level l.level) below) 0) (line ∷ below)
    by_test true same =
        rw (
          one_more (prefix_len (λ (l : NodeLine). nat_lt level l.level) (below ++ beside)),
          one_more (prefix_len (λ (l : NodeLine). nat_lt level l.level) below),
        ) (ap (λ ls. line ∷ ls) same)
    by_test false same = refl
