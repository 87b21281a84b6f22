-- The first element that lacks a fact, where those before an index have it.
use Rattle.std.proofs.Common.{◌≡◌, ℕ, suc, ◌+◌, ◌<◌, ◌≤◌, Bool, false, IsTrue, List, ◌++◌, length, take, drop, get_or}
use Rattle.std.proofs.Common.{sym, ap, ◌∙◌, subst, arith}
use Rattle.std.specs.List.{All, zip}
use Rattle.std.proofs.Math.Seq.{drop-cons}
use Rattle.std.proofs.lemmas.Bool.{false≢true}
use Rattle.std.proofs.lemmas.List.{take-append-drop, take_all, length-take}
use Rattle.std.proofs.lemmas.List.Elements.{All-more, All-same}
use Rattle.std.proofs.lemmas.Slice.Zip.{get_or-zip, length-zip}
use Rattle.plan_check.specs.Places.{IsFirstWithout}
use Rattle.plan_reading.specs.declared.line.NodeLine.{NodeLine}
use Rattle.text_check.specs.Outcome.{HasNumbersOf, HasOwnNumbers}
use Rattle.text_check.specs.declared.own.OwnLine.{OwnLine}

module _ {X : Type 0} (Fact : X → Type 0) (xs : List X) where
  taken : (i : ℕ) → i < length xs → length (take i xs) ≡ i
  taken i within = simp length-take (omega (arith, within))

  -- the element at the index was tested, and lacks it
  pub first_at : (i place : ℕ) (d : X) (test : Bool) → i < length xs → place ≡ i → All Fact (take i xs)
      → (Fact (get_or xs i d) → IsTrue test) → test ≡ false → IsFirstWithout Fact xs place
  first_at i place d test within at have tells lacks = record {
    before = take i xs;
    element = get_or xs i d;
    behind = drop (suc i) xs;
    parts = sym (take-append-drop i xs) ∙ ap (λ zs. take i xs ++ zs) (drop-cons xs i d within);
    count = at ∙ sym (taken i within);
    lacks = λ has. false≢true (sym lacks ∙ tells has);
    others = have;
  }

  -- or all were gone through
  pub all_have : (i : ℕ) → length xs ≤ i → All Fact (take i xs) → All Fact xs
  all_have i through have = All-same Fact xs (take i xs) (sym (take_all i xs through)) have

-- ---- lines beside the plan's own

module _ (lines : List NodeLine) (own : List OwnLine) (long : length lines ≡ length own) where
  pairs_within : (i : ℕ) → i < length own → i < length (zip lines own)
  pairs_within i within = let all = length-zip lines own in omega (arith, all, long, within)

  pair_at : (i : ℕ) (d : NodeLine) (e : OwnLine) → i < length own
      → get_or (zip lines own) i (d, e) ≡ (get_or lines i d, get_or own i e)
  pair_at i d e within = get_or-zip lines own i (d, e) (omega (arith, long, within)) within

  pub pair_first : (i place : ℕ) (d : NodeLine) (e : OwnLine) (test : Bool) → i < length own → place ≡ i
      → All HasOwnNumbers (take i (zip lines own)) → (HasNumbersOf (get_or lines i d) (get_or own i e) → IsTrue test)
      → test ≡ false → IsFirstWithout HasOwnNumbers (zip lines own) place
  pair_first i place d e test within at have tells lacks =
      first_at HasOwnNumbers (zip lines own) i place (d, e) test (pairs_within i within) at have
      (λ (has : HasOwnNumbers (get_or (zip lines own) i (d, e))). tells (subst HasOwnNumbers (pair_at i d e within) has)) lacks

  pub pair_more : (i : ℕ) (d : NodeLine) (e : OwnLine) → i < length own → All HasOwnNumbers (take i (zip lines own))
      → HasNumbersOf (get_or lines i d) (get_or own i e) → All HasOwnNumbers (take (i + 1) (zip lines own))
  pair_more i d e within have has =
      All-more HasOwnNumbers (zip lines own) i (d, e) (pairs_within i within) have
      (subst HasOwnNumbers (sym (pair_at i d e within)) has)

  pub pairs_all : (i : ℕ) → length own ≤ i → All HasOwnNumbers (take i (zip lines own)) → All HasOwnNumbers (zip lines own)
  pairs_all i through have =
      let all = length-zip lines own in
      all_have HasOwnNumbers (zip lines own) i (omega (arith, all, long, through)) have
