-- Lines of nodes are read one after the other.
use Rattle.std.proofs.Common.{◌≡◌, ℕ, ◌+◌, ◌<◌, ◌≤◌, ◌⊎◌, true, false, List, [], ◌∷◌, ◌++◌, length, Option, None, Some}
use Rattle.std.proofs.Common.{refl, sym, ap, ◌∙◌, subst, arith, inl, inr, append_assoc}
use Rattle.std.specs.Prelude.{is_some}
use Rattle.std.proofs.lemmas.List.{append-nil}
use Rattle.query_core.specs.declared.query.Query.{Query}
use Rattle.plan_reading.specs.Lines.{line_text}
use Rattle.plan_reading.specs.Reading.{IsCutAt, IsLine, NoLine}
use Rattle.plan_reading.specs.Formed.{MayFollow, Follows, AreInPlace, last_level, lines_text, AreLines, IsNext}
use Rattle.plan_reading.specs.Formed.{HasNoNext}
use Rattle.plan_reading.specs.Formed.{LacksNode}
use Rattle.plan_reading.specs.declared.line.NodeLine.{NodeLine}
use Rattle.plan_reading.proofs.Bare.{named_bare}
use Rattle.plan_reading.proofs.Ended.{before_end, inner_line, line_and, cut_same}
use Rattle.plan_reading.proofs.LineTexts.{names_one}
use Rattle.plan_reading.proofs.Flush.{flush}

-- these lines were read, the last at this level, and the rest is still to be read
pub record IsOnTheWay (q : Query) (bytes : List ℕ) (lines : List NodeLine) (last : Option ℕ) (rest : List ℕ) : Type 0 where
  pub in_place : AreInPlace q None lines
  pub last_is : last ≡ last_level None lines
  pub begins : bytes ≡ lines_text q lines ++ rest

module _ (q : Query) where
  place_more : (before : Option ℕ) (xs : List NodeLine) (line : NodeLine) → AreInPlace q before xs
      → Follows q (last_level before xs) line → AreInPlace q before (xs ++ line ∷ [])
  place_more before [] line in_place follows = (follows, tt)
  place_more before (x ∷ xs) line in_place follows =
      (in_place.0, place_more (Some x.level) xs line in_place.1 follows)

  last_more : (before : Option ℕ) (xs : List NodeLine) (line : NodeLine)
      → last_level before (xs ++ line ∷ []) ≡ Some line.level
  last_more before [] line = refl
  last_more before (x ∷ xs) line = last_more (Some x.level) xs line

  text_more : (xs : List NodeLine) (line : NodeLine) (more : List ℕ)
      → lines_text q xs ++ (line_text q line ++ more) ≡ lines_text q (xs ++ line ∷ []) ++ more
  text_more [] line more = ap (λ (t : List ℕ). t ++ more) (sym (append-nil (line_text q line)))
  text_more (x ∷ xs) line more =
      append_assoc (line_text q x) (lines_text q xs) (line_text q line ++ more)
      ∙ ap (λ (t : List ℕ). line_text q x ++ t) (text_more xs line more)
      ∙ sym (append_assoc (line_text q x) (lines_text q (xs ++ line ∷ [])) more)

  never_none : (level : ℕ) (xs : List NodeLine) → last_level (Some level) xs ≡ None → ⊥
  never_none level [] is = absurd cc
  never_none level (x ∷ xs) is = never_none x.level xs is

  none_yet : (xs : List NodeLine) → last_level None xs ≡ None → xs ≡ []
  none_yet [] is = refl
  none_yet (x ∷ xs) is = absurd (never_none x.level xs is)

  some_there : (xs : List NodeLine) → is_some (last_level None xs) ≡ true → 1 ≤ length xs
  some_there [] is = absurd cc
  some_there (x ∷ xs) is = omega arith

  pub is_none : (last : Option ℕ) → is_some last ≡ false → last ≡ None
  is_none None some = refl
  is_none (Some level) some = absurd cc

  -- ---- the way

  pub way_goes_on : (bytes : List ℕ) (lines : List NodeLine) (last : Option ℕ) (rest : List ℕ) (line : NodeLine)
      (more : List ℕ) → IsOnTheWay q bytes lines last rest → IsNext q last rest line more
      → IsOnTheWay q bytes (lines ++ line ∷ []) (Some line.level) more
  way_goes_on bytes lines last rest line more way next = record {
    in_place = place_more None lines line way.in_place
        (subst (λ (l : Option ℕ). Follows q l line) way.last_is next.follows);
    last_is = sym (last_more None lines line);
    begins = way.begins ∙ ap (λ (t : List ℕ). lines_text q lines ++ t) next.begins ∙ text_more lines line more;
  }

  -- at its end all lines were read
  pub way_ends : (bytes : List ℕ) (lines : List NodeLine) (last : Option ℕ) (rest : List ℕ)
      → IsOnTheWay q bytes lines last rest → is_some last ≡ true → rest ≡ [] → AreLines q bytes lines
  way_ends bytes lines last rest way some none = record {
    in_place = way.in_place;
    some = some_there lines (sym (ap is_some way.last_is) ∙ some);
    whole = way.begins ∙ ap (λ (t : List ℕ). lines_text q lines ++ t) none ∙ append-nil (lines_text q lines);
  }

  -- or a line is lacking
  pub way_lacks : (bytes : List ℕ) (lines : List NodeLine) (last : Option ℕ) (rest : List ℕ) (line : ℕ)
      → IsOnTheWay q bytes lines last rest → HasNoNext q last rest → (last ≡ None) ⊎ (0 < length rest)
      → line ≡ length lines + 2 → LacksNode q bytes line
  way_lacks bytes lines last rest line way none due count = record {
    lines = lines;
    rest = rest;
    in_place = way.in_place;
    begins = way.begins;
    count = count;
    due = elim due [
      | inl first ↦ inl (none_yet lines (sym way.last_is ∙ first))
      | inr more ↦ inr more
    ];
    stuck = subst (λ (l : Option ℕ). HasNoNext q l rest) way.last_is none;
  }

  -- ---- the next line

  -- a line that may follow is cut off
  next_cut : (last : Option ℕ) (bytes : List ℕ) (line : NodeLine) (more : List ℕ) → IsNext q last bytes line more
      → IsCutAt bytes (before_end q line) more
  next_cut last bytes line more next = record {
    inner = inner_line q line;
    whole = next.begins ∙ line_and q line more;
  }

  pub no_cut : (last : Option ℕ) (bytes : List ℕ) → ((line rest : List ℕ) → IsCutAt bytes line rest → ⊥)
      → HasNoNext q last bytes
  no_cut last bytes none line more next = none (before_end q line) more (next_cut last bytes line more next)

  -- what is cut off has its form
  next_read : (last : Option ℕ) (bytes cut rest : List ℕ) (line : NodeLine) (more : List ℕ) → IsCutAt bytes cut rest
      → IsNext q last bytes line more → IsLine q cut line
  next_read last bytes cut rest line more is next = record {
    form = next.follows.is_line.form;
    rows_fit = next.follows.is_line.rows_fit;
    cost_fits = next.follows.is_line.cost_fits;
    text = (cut_same bytes cut (before_end q line) rest more is (next_cut last bytes line more next)).0;
  }

  pub no_form : (last : Option ℕ) (bytes cut rest : List ℕ) → IsCutAt bytes cut rest → NoLine q cut → HasNoNext q last bytes
  no_form last bytes cut rest is none line more next = none line (next_read last bytes cut rest line more is next)

  level_one : (bytes : List ℕ) (x y : NodeLine) → IsLine q bytes x → IsLine q bytes y → x.level ≡ y.level
  level_one bytes x y is_x is_y = (names_one x.level y.level _ _ x.rows y.rows x.cost y.cost (named_bare q x.node)
      (named_bare q y.node) (flush q x.node) (flush q y.node) (sym is_x.text ∙ is_y.text)).level

  -- at another level none may follow
  pub no_level : (last : Option ℕ) (bytes cut rest : List ℕ) (own : NodeLine) → IsCutAt bytes cut rest
      → IsLine q cut own → (MayFollow last own.level → ⊥) → HasNoNext q last bytes
  no_level last bytes cut rest own is is_own never line more next =
      never (subst (λ (level : ℕ). MayFollow last level)
      (level_one cut line own (next_read last bytes cut rest line more is next) is_own) next.follows.level)

  pub next_found : (last : Option ℕ) (bytes cut rest : List ℕ) (line : NodeLine) → IsCutAt bytes cut rest
      → IsLine q cut line → MayFollow last line.level → IsNext q last bytes line rest
  next_found last bytes cut rest line is is_line may = record {
    follows = record {
      level = may;
      is_line = record { form = is_line.form; rows_fit = is_line.rows_fit; cost_fits = is_line.cost_fits };
    };
    begins = is.whole ∙ ap (λ (t : List ℕ). t ++ (10 ∷ rest)) is_line.text ∙ sym (line_and q line rest);
  }
