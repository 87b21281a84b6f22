-- A line more is gone through, from the last one up.
use Rattle.std.proofs.Common.{◌≡◌, ℕ, suc, ◌+◌, ◌≤◌, List, [], ◌∷◌, ◌++◌, Option, None, Some, map, length, reverse}
use Rattle.std.proofs.Common.{refl, sym}
use Rattle.std.proofs.Common.{ap, ◌∙◌, subst, arith, append_assoc, inl, inr}
use Rattle.std.specs.List.{All}
use Rattle.std.proofs.lemmas.Bool.{cases_lt}
use Rattle.std.proofs.lemmas.List.{append-nil, reverse-append}
use Rattle.std.proofs.lemmas.List.Elements.{All-cons}
use Rattle.query_core.specs.declared.query.Query.{Query}
use Rattle.plan_space.specs.Nodes.{Tree}
use Rattle.plan_tree.specs.Spells.{Spells}
use Rattle.plan_reading.specs.Formed.{AreInPlace, Follows}
use Rattle.plan_reading.specs.Laws.{OutlinesAreOne}
use Rattle.plan_reading.specs.Lines.{sketch}
use Rattle.plan_reading.specs.Named.{HasForm}
use Rattle.plan_reading.specs.Outline.{outline}
use Rattle.plan_reading.specs.declared.line.NodeLine.{NodeLine}
use Rattle.text_check.specs.Blocks.{Fits, LineFits, EndsBlock, tails, AreLinesOf, IsMisfit}
use Rattle.text_check.specs.Grown.{StandsOver, IsOver, AreDeeper, EndsAt, AreOf, IsTaken, kids_list}
use Rattle.text_check.specs.declared.kids.Grown.{Grown}
use Rattle.text_check.specs.declared.kids.TakenKids.{TakenKids}
use Rattle.text_check.proofs.LineBlocks.{IsForest, first_level, forest_of, line_fits, line_stands, none_fits}
use Rattle.text_check.proofs.LineBlocks.{plan_first}

-- ---- the lines behind a line

-- behind some lines in their places stand others in theirs
in_place_behind : (q : Query) (last : Option ℕ) (before : List NodeLine) (line : NodeLine) (done : List NodeLine)
    → AreInPlace q last (before ++ line ∷ done) → (level : Option ℕ) × Follows q level line × AreInPlace q (Some line.level) done
in_place_behind q last [] line done are = (last, are.0, are.1)
in_place_behind q last (first ∷ before) line done are = in_place_behind q (Some first.level) before line done are.1

next_start : (q : Query) (level : ℕ) (done : List NodeLine) → AreInPlace q (Some level) done → EndsBlock (suc level) done
next_start q level [] are = tt
next_start q level (line ∷ done) are = let most = are.0.level.1 in omega (arith, most)

-- the place of a line among all
tails_split : (before : List NodeLine) (line : NodeLine) (done : List NodeLine)
    → (front : List (NodeLine × List NodeLine)) × (tails (before ++ line ∷ done) ≡ front ++ (line, done) ∷ tails done)
    × (length front ≡ length before)
tails_split [] line done = ([], refl, refl)
tails_split (first ∷ before) line done =
    let rest = tails_split before line done in (
      (first, before ++ line ∷ done) ∷ rest.0,
      ap (λ ts. (first, before ++ line ∷ done) ∷ ts) rest.1,
      ap suc rest.2,
    )

-- the deeper plans come first
deepest : (level : ℕ) (gs : List Grown) → (taken : List Grown) × (others : List Grown) × (gs ≡ taken ++ others)
    × AreDeeper level taken × EndsAt level others
deepest level [] = ([], [], refl, tt, tt)
deepest level (g ∷ gs) = elim (cases_lt level g.level) [
  | inl less ↦
      let rest = deepest level gs in
      (g ∷ rest.0, rest.1, ap (λ x. g ∷ x) rest.2, (less, rest.3), rest.4)
  | inr most ↦ ([], g ∷ gs, refl, tt, most)
]

-- ---- what was made of the lines

-- the lines behind these are those of the plans, and each fits
pub record AreMade (q : Query) (lines rest : List NodeLine) (items : List Grown) : Type 0 where
  pub done : List NodeLine
  pub parts : lines ≡ rest ++ done
  pub plans : AreOf q (reverse items) done
  pub fits : All (LineFits q) (tails done)

module _ (q : Query) (one : OutlinesAreOne q) (lines : List NodeLine)
    (in_place : AreInPlace q None lines) where
  -- what stands before the line and behind it, and the plans that were made of what stands behind it
  pub record IsAt (before : List NodeLine) (line : NodeLine) (items : List Grown) : Type 0 where
    pub done : List NodeLine
    pub parts : lines ≡ before ++ line ∷ done
    pub form : HasForm q line.node
    pub start : EndsBlock (suc line.level) done
    pub plans : AreOf q (reverse items) done
    pub fits : All (LineFits q) (tails done)

  -- it is the last of those that are left
  pub at_line : (rest before : List NodeLine) (line : NodeLine) (items : List Grown) → AreMade q lines rest items
      → rest ≡ before ++ line ∷ [] → IsAt before line items
  at_line rest before line items made is =
      let done = made.done in
      let all : lines ≡ before ++ line ∷ done =
      made.parts ∙ ap (λ ls. ls ++ done) is ∙ append_assoc before (line ∷ []) done in
      let behind = in_place_behind q None before line done (subst (AreInPlace q None) all in_place) in
      record {
        done = done;
        parts = all;
        form = behind.1.is_line.form;
        start = next_start q line.level done behind.2;
        plans = made.plans;
        fits = made.fits;
      }

  module _ (before : List NodeLine) (line : NodeLine) (items : List Grown) (at : IsAt before line items) where
    -- the plans below the line
    pub forest_at : (after : List Grown) (taken : TakenKids) → IsTaken line.level (reverse items) after (Some taken)
        → IsForest q line.level (kids_list taken) after at.done
    forest_at after taken is =
        forest_of q line.level (kids_list taken) after at.done is.1 is.2 at.start
        (subst (λ x. AreOf q x at.done) is.0 at.plans)

    -- it doesn't fit, and all behind it do
    misfit_at : (told : ℕ) → (Fits q line at.done → ⊥) → told ≡ length before + 2 → IsMisfit q lines told
    misfit_at told lacks is =
        let split = tails_split before line at.done in
        record {
          place = length before;
          line_is = is;
          last = record {
            before = split.0;
            element = (line, at.done);
            behind = tails at.done;
            parts = ap tails at.parts ∙ split.1;
            count = sym split.2;
            lacks = lacks;
            others = at.fits;
          };
        }

    -- so it is where its node stands over none of them
    pub misfit_over : (after : List Grown) (taken : TakenKids) (told : ℕ)
        → (is : IsTaken line.level (reverse items) after (Some taken))
        → ((t : Tree) → StandsOver q line (forest_at after taken is).trees t → ⊥) → told ≡ length before + 2
        → IsMisfit q lines told
    misfit_over after taken told is none place =
        misfit_at told
        (λ (x : Fits q line at.done). none x.tree (line_stands q one line (kids_list taken) after at.done
        (forest_at after taken is) x)) place

    -- and where there are more than two
    pub misfit_many : (after : List Grown) (told : ℕ) → IsTaken line.level (reverse items) after None
        → told ≡ length before + 2 → IsMisfit q lines told
    misfit_many after told (a, b, c, others, parts, deep) place =
        let more = deepest line.level others in
        let all : reverse items ≡ (a ∷ b ∷ c ∷ more.0) ++ more.1 = parts ∙ ap (λ x. a ∷ b ∷ c ∷ x) more.2 in
        let f = forest_of q line.level (a ∷ b ∷ c ∷ more.0) more.1 at.done (deep.0, (deep.1.0, (deep.1.1.0, more.3)))
        more.4 at.start (subst (λ x. AreOf q x at.done) all at.plans) in
        misfit_at told (none_fits q one line (a ∷ b ∷ c ∷ more.0) more.1 at.done f (omega arith)) place

    -- or else its plan comes first
    pub made_next : (after pushed : List Grown) (taken : TakenKids) (g : Grown)
        → (is : IsTaken line.level (reverse items) (reverse after) (Some taken))
        → IsOver q line (forest_at (reverse after) taken is).trees g → pushed ≡ after ++ g ∷ []
        → AreMade q lines before pushed
    made_next after pushed taken g is over more =
        let f = forest_at (reverse after) taken is in
        let turned : reverse pushed ≡ g ∷ reverse after = ap reverse more ∙ reverse-append after (g ∷ []) in
        record {
          done = line ∷ at.done;
          parts = at.parts;
          plans = subst (λ x. AreOf q x (line ∷ at.done)) (sym turned)
              (plan_first q line (kids_list taken) (reverse after) at.done f g over);
          fits = All-cons (LineFits q) (line, at.done) (tails at.done)
              (line_fits q line (kids_list taken) (reverse after) at.done f over.tree over.stands) at.fits;
        }

  -- ---- all lines

  -- behind the first line none is at level 0
  none_first : (last : ℕ) (front : List NodeLine) (rest : List NodeLine) → AreInPlace q (Some last) (front ++ rest)
      → EndsBlock 0 rest → rest ≡ []
  none_first last [] [] are ends = refl
  none_first last [] (line ∷ rest) are ends = let some = are.0.level.0 in absurd (omega (arith, some, ends))
  none_first last (line ∷ front) rest are ends = none_first line.level front rest are.1 ends

  -- the first plan is that of all lines
  pub plan_whole : (gs : List Grown) (root : Grown) (others : List Grown) → 1 ≤ length lines → AreOf q gs lines
      → gs ≡ root ∷ others → (t : Tree) × Spells root.plan t × AreLinesOf q lines t
  plan_whole gs root others some are is = whole (subst (λ x. AreOf q x lines) is are)
    where
      whole : AreOf q (root ∷ others) lines → (t : Tree) × Spells root.plan t × AreLinesOf q lines t
      whole (tree, block, rest, of, below) =
          let first = first_level root.level tree block of.spelled in
          let all : lines ≡ first.0 ∷ (first.1 ++ rest) = of.parts ∙ ap (λ ls. ls ++ rest) first.2 in
          let placed = subst (AreInPlace q None) all in_place in
          let own = placed.0.level in
          let at = first.3 in
          let zero : root.level ≡ 0 = omega (arith, own, at) in
          let none = none_first first.0.level first.1 rest placed.1 (subst (λ n. EndsBlock n rest) zero of.ends) in
          let only : lines ≡ block = of.parts ∙ ap (λ ls. block ++ ls) none ∙ append-nil block in (
            tree,
            of.is.spells,
            record {
              is_tree = of.is.is_tree;
              spelled = ap (map sketch) only ∙ of.spelled ∙ ap (λ n. outline n tree) zero;
              of_root = of.of_root zero;
            },
          )
