-- An outline is that of one plan tree.
use Rattle.std.proofs.Common.{◌≡◌, ℕ, suc, ◌≤◌, List, [], ◌∷◌, ◌++◌, sym, ap, ◌∙◌, subst, arith, append_assoc}
use Rattle.query_core.specs.Keys.{tables_of, top_of}
use Rattle.query_core.specs.declared.query.Query.{Query}
use Rattle.plan_space.specs.Nodes.{Tree, leaf, over, two}
use Rattle.plan_space.specs.Gives.{kid_of}
use Rattle.plan_check.specs.Kids.{HasKids}
use Rattle.plan_reading.specs.Named.{named_of}
use Rattle.plan_reading.specs.Outline.{outline, IsPlanTree}
use Rattle.plan_reading.specs.declared.named.Named.{Named}
use Rattle.plan_reading.proofs.NodeOver.{only_node}

abbrev Sketch : Type 0
Sketch = ℕ × Named

-- what follows doesn't stand deeper
abbrev pub IsBeside : ℕ → List Sketch → Type 0
IsBeside depth [] = Unit {0}
IsBeside depth (line ∷ lines) = line.0 ≤ depth

beside_deeper : (depth : ℕ) (lines : List Sketch) → IsBeside depth lines → IsBeside (suc depth) lines
beside_deeper depth [] beside = tt
beside_deeper depth (line ∷ lines) beside = omega (arith, beside)

-- a plan's outline begins at its depth
pub beside_outline : (depth : ℕ) (tree : Tree) (lines : List Sketch) → IsBeside depth (outline depth tree ++ lines)
beside_outline depth (leaf node) lines = omega arith
beside_outline depth (over node kid) lines = omega arith
beside_outline depth (two node left right) lines = omega arith

not_beside : (depth : ℕ) (tree : Tree) (lines others : List Sketch) → IsBeside depth lines
    → lines ≡ outline (suc depth) tree ++ others → ⊥
not_beside depth (leaf node) lines others beside is =
    let b = subst (IsBeside depth) is beside in omega (arith, b)
not_beside depth (over node kid) lines others beside is =
    let b = subst (IsBeside depth) is beside in omega (arith, b)
not_beside depth (two node left right) lines others beside is =
    let b = subst (IsBeside depth) is beside in omega (arith, b)

named_first : (x y : Sketch) (xs ys : List Sketch) → x ∷ xs ≡ y ∷ ys → x.1 ≡ y.1
named_first x y xs ys same = let first : x ≡ y = cc in ap (λ (s : Sketch). s.1) first

module _ (q : Query) (tables : (set : ℕ) → tables_of (top_of q set) ≡ set) where
  pub record AreSame (s t : Tree) (xs ys : List Sketch) : Type 0 where
    pub tree : s ≡ t
    pub rest : xs ≡ ys

  pub outlines_one : (depth : ℕ) (s t : Tree) (xs ys : List Sketch) → IsPlanTree q s → IsPlanTree q t → IsBeside depth xs
      → IsBeside depth ys → outline depth s ++ xs ≡ outline depth t ++ ys → AreSame s t xs ys
  outlines_one depth (leaf node) (leaf other) xs ys is_s is_t x_beside y_beside same =
      let name = named_first (depth, named_of node) (depth, named_of other) _ _ same in
      let rest : xs ≡ ys = cc in
      record { tree = ap leaf (only_node q tables node other [] is_s.0 is_t.0 is_s.1 is_t.1 name); rest = rest }
  outlines_one depth (leaf node) (over other kid) xs ys is_s is_t x_beside y_beside same =
      let rest : xs ≡ outline (suc depth) kid ++ ys = cc in
      absurd (not_beside depth kid xs ys x_beside rest)
  outlines_one depth (leaf node) (two other left right) xs ys is_s is_t x_beside y_beside same =
      let rest : xs ≡ (outline (suc depth) left ++ outline (suc depth) right) ++ ys = cc in
      absurd (not_beside depth left xs (outline (suc depth) right ++ ys) x_beside
      (rest ∙ append_assoc (outline (suc depth) left) (outline (suc depth) right) ys))
  outlines_one depth (over node kid) (leaf other) xs ys is_s is_t x_beside y_beside same =
      let rest : outline (suc depth) kid ++ xs ≡ ys = cc in
      absurd (not_beside depth kid ys xs y_beside (sym rest))
  outlines_one depth (over node kid) (over other kid2) xs ys is_s is_t x_beside y_beside same =
      let name = named_first (depth, named_of node) (depth, named_of other) _ _ same in
      let rest : outline (suc depth) kid ++ xs ≡ outline (suc depth) kid2 ++ ys = cc in
      let below = outlines_one (suc depth) kid kid2 xs ys is_s.0 is_t.0 (beside_deeper depth xs x_beside)
      (beside_deeper depth ys y_beside) rest in
      let of_other = subst (λ k. HasKids other (kid_of q k ∷ [])) (sym below.tree) is_t.2 in
      let is = only_node q tables node other (kid_of q kid ∷ []) is_s.1 is_t.1 is_s.2 of_other name in
      record { tree = ap (λ n. over n kid) is ∙ ap (over other) below.tree; rest = below.rest }
  outlines_one depth (over node kid) (two other left right) xs ys is_s is_t x_beside y_beside same =
      let rest : outline (suc depth) kid ++ xs ≡ (outline (suc depth) left ++ outline (suc depth) right) ++ ys = cc in
      let below = outlines_one (suc depth) kid left xs (outline (suc depth) right ++ ys) is_s.0 is_t.0
      (beside_deeper depth xs x_beside) (beside_outline (suc depth) right ys)
      (rest ∙ append_assoc (outline (suc depth) left) (outline (suc depth) right) ys) in
      absurd (not_beside depth right xs ys x_beside below.rest)
  outlines_one depth (two node left right) (leaf other) xs ys is_s is_t x_beside y_beside same =
      let rest : (outline (suc depth) left ++ outline (suc depth) right) ++ xs ≡ ys = cc in
      absurd (not_beside depth left ys (outline (suc depth) right ++ xs) y_beside
      (sym rest ∙ append_assoc (outline (suc depth) left) (outline (suc depth) right) xs))
  outlines_one depth (two node left right) (over other kid) xs ys is_s is_t x_beside y_beside same =
      let rest : (outline (suc depth) left ++ outline (suc depth) right) ++ xs ≡ outline (suc depth) kid ++ ys = cc in
      let below = outlines_one (suc depth) left kid (outline (suc depth) right ++ xs) ys is_s.0 is_t.0
      (beside_outline (suc depth) right xs) (beside_deeper depth ys y_beside)
      (sym (append_assoc (outline (suc depth) left) (outline (suc depth) right) xs) ∙ rest) in
      absurd (not_beside depth right ys xs y_beside (sym below.rest))
  outlines_one depth (two node left right) (two other left2 right2) xs ys is_s is_t x_beside y_beside same =
      let name = named_first (depth, named_of node) (depth, named_of other) _ _ same in
      let rest : (outline (suc depth) left ++ outline (suc depth) right) ++ xs
      ≡ (outline (suc depth) left2 ++ outline (suc depth) right2) ++ ys = cc in
      let first = outlines_one (suc depth) left left2 (outline (suc depth) right ++ xs) (outline (suc depth) right2 ++ ys)
      is_s.0 is_t.0 (beside_outline (suc depth) right xs) (beside_outline (suc depth) right2 ys)
      (sym (append_assoc (outline (suc depth) left) (outline (suc depth) right) xs) ∙ rest
      ∙ append_assoc (outline (suc depth) left2) (outline (suc depth) right2) ys) in
      let second = outlines_one (suc depth) right right2 xs ys is_s.1 is_t.1 (beside_deeper depth xs x_beside)
      (beside_deeper depth ys y_beside) first.rest in
      let kids = ap (λ k. kid_of q k ∷ kid_of q right2 ∷ []) first.tree in
      let all_kids : kid_of q left ∷ kid_of q right ∷ [] ≡ kid_of q left2 ∷ kid_of q right2 ∷ [] =
      ap (λ k. kid_of q left ∷ kid_of q k ∷ []) second.tree ∙ kids in
      let of_other = subst (HasKids other) (sym all_kids) is_t.3 in
      let is = only_node q tables node other (kid_of q left ∷ kid_of q right ∷ []) is_s.2 is_t.2 is_s.3 of_other name in
      record {
        tree = ap (λ n. two n left right) is ∙ ap (λ k. two other k right) first.tree ∙ ap (two other left2) second.tree;
        rest = second.rest;
      }

  -- a plan tree is known by its outline
  pub outline_one : (depth : ℕ) (s t : Tree) → IsPlanTree q s → IsPlanTree q t → outline depth s ≡ outline depth t → s ≡ t
  outline_one depth s t is_s is_t same =
      (outlines_one depth s t [] [] is_s is_t tt tt (ap (λ lines. lines ++ []) same)).tree
