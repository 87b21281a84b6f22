-- The first and the last place where a fact is lacking: in lists of one element and of two parts, and that each is one.
use Rattle.std.proofs.Common.{◌≡◌, ℕ, suc, ◌+◌, ◌-◌, ◌<◌, ◌↔◌, Bool, true, false, IsTrue, List, [], ◌∷◌, ◌++◌, length}
use Rattle.std.proofs.Common.{get_or, Option, None, Some, refl, sym, ap, subst, ◌∙◌, append_assoc, length-append, arith}
use Rattle.std.proofs.Common.{inl, inr}
use Rattle.std.specs.List.{All}
use Rattle.std.proofs.Math.Seq.{get_or-append_seam}
use Rattle.std.proofs.lemmas.Bool.{cases_lt}
use Rattle.std.proofs.lemmas.List.{get_or_append_left, get_or-append-add}
use Rattle.std.proofs.lemmas.List.Elements.{All-nil, All-cons, All-append}
use Rattle.plan_check.specs.Places.{IsFirstWithout, IsLastWithout}
use Rattle.plan_check.specs.Passes.{IsFirst, IsLast, own_place_of, sooner_of, later_of}

module _ {X : Type 0} (Fact : X → Type 0) where
  -- ---- one element, and two parts

  -- one element that has the fact or lacks it
  pub first_alone : (x : X) (right : Bool) → (IsTrue right ↔ Fact x) → IsFirst Fact (x ∷ []) (own_place_of right)
  first_alone x true tells = All-cons Fact x [] (tells.0 refl) (All-nil Fact)
  first_alone x false tells = record {
    before = [];
    element = x;
    behind = [];
    parts = refl;
    count = refl;
    lacks = λ has. let never : false ≡ true = tells.1 has in cc;
    others = All-nil Fact;
  }

  pub last_alone : (x : X) (right : Bool) → (IsTrue right ↔ Fact x) → IsLast Fact (x ∷ []) (own_place_of right)
  last_alone x true tells = All-cons Fact x [] (tells.0 refl) (All-nil Fact)
  last_alone x false tells = record {
    before = [];
    element = x;
    behind = [];
    parts = refl;
    count = refl;
    lacks = λ has. let never : false ≡ true = tells.1 has in cc;
    others = All-nil Fact;
  }

  -- what stands in a front part stands at the same place of all
  front_part : (xs ys before : List X) (x : X) (behind : List X) → xs ≡ before ++ x ∷ behind
      → xs ++ ys ≡ before ++ x ∷ (behind ++ ys)
  front_part xs ys before x behind parts = ap (λ zs. zs ++ ys) parts ∙ append_assoc before (x ∷ behind) ys

  -- what stands in a part behind stands behind the front part
  back_part : (xs ys before : List X) (x : X) (behind : List X) → ys ≡ before ++ x ∷ behind
      → xs ++ ys ≡ (xs ++ before) ++ x ∷ behind
  back_part xs ys before x behind parts = ap (λ zs. xs ++ zs) parts ∙ sym (append_assoc xs before (x ∷ behind))

  -- and so many places later
  back_place : (xs before : List X) (count place : ℕ) → count ≡ length xs → place ≡ length before
      → count + place ≡ length (xs ++ before)
  back_place xs before count place many at = let both = length-append xs before in omega arith

  -- the first place of all is that of the front part, or else that of the part behind
  pub first_joined : (xs ys : List X) (left : Option ℕ) (count : ℕ) (right : Option ℕ) → count ≡ length xs
      → IsFirst Fact xs left → IsFirst Fact ys right
      → IsFirst Fact (xs ++ ys) (sooner_of left count right)
  first_joined xs ys (Some place) count right many first second = record {
    before = first.before;
    element = first.element;
    behind = first.behind ++ ys;
    parts = front_part xs ys first.before first.element first.behind first.parts;
    count = first.count;
    lacks = first.lacks;
    others = first.others;
  }
  first_joined xs ys None count None many first second = All-append Fact xs ys first second
  first_joined xs ys None count (Some place) many first second = record {
    before = xs ++ second.before;
    element = second.element;
    behind = second.behind;
    parts = back_part xs ys second.before second.element second.behind second.parts;
    count = back_place xs second.before count place many second.count;
    lacks = second.lacks;
    others = All-append Fact xs second.before first second.others;
  }

  -- the last place of all is that of the part behind, or else that of the front part
  pub last_joined : (xs ys : List X) (left : Option ℕ) (count : ℕ) (right : Option ℕ) → count ≡ length xs
      → IsLast Fact xs left → IsLast Fact ys right
      → IsLast Fact (xs ++ ys) (later_of left count right)
  last_joined xs ys None count None many first second = All-append Fact xs ys first second
  last_joined xs ys (Some place) count None many first second = record {
    before = first.before;
    element = first.element;
    behind = first.behind ++ ys;
    parts = front_part xs ys first.before first.element first.behind first.parts;
    count = first.count;
    lacks = first.lacks;
    others = All-append Fact first.behind ys first.others second;
  }
  last_joined xs ys left count (Some place) many first second = record {
    before = xs ++ second.before;
    element = second.element;
    behind = second.behind;
    parts = back_part xs ys second.before second.element second.behind second.parts;
    count = back_place xs second.before count place many second.count;
    lacks = second.lacks;
    others = second.others;
  }

  -- ---- there is one

  -- the element that is told stands at the place
  stands_at : (xs before : List X) (x : X) (behind : List X) → xs ≡ before ++ x ∷ behind
      → get_or xs (length before) x ≡ x
  stands_at xs before x behind parts = ap (λ zs. get_or zs (length before) x) parts
      ∙ get_or-append_seam before x behind x

  -- where the fact holds of all, it holds of the element that is told
  has_all : (xs before : List X) (x : X) (behind : List X) → xs ≡ before ++ x ∷ behind → All Fact xs → Fact x
  has_all xs before x behind parts all =
      let long : length xs ≡ length before + length (x ∷ behind) = ap length parts
      ∙ length-append before (x ∷ behind) in
      subst Fact (stands_at xs before x behind parts) (all (length before) x (omega arith))

  -- so no place is told where it does
  pub first_not_all : (xs : List X) (place : ℕ) → IsFirstWithout Fact xs place → All Fact xs → ⊥
  first_not_all xs place first all = first.lacks (has_all xs first.before first.element first.behind first.parts all)

  pub last_not_all : (xs : List X) (place : ℕ) → IsLastWithout Fact xs place → All Fact xs → ⊥
  last_not_all xs place last all = last.lacks (has_all xs last.before last.element last.behind last.parts all)

  -- no element before the first lacks the fact
  none_before : (xs : List X) (place other : ℕ) → IsFirstWithout Fact xs place → IsFirstWithout Fact xs other
      → place < other → ⊥
  none_before xs place other first second less =
      let sooner : length first.before < length second.before = omega (arith, first.count, second.count) in
      let x = first.element in
      let there = stands_at xs first.before x first.behind first.parts in
      let front : get_or xs (length first.before) x ≡ get_or second.before (length first.before) x =
      ap (λ zs. get_or zs (length first.before) x) second.parts
      ∙ get_or_append_left second.before (second.element ∷ second.behind) x (length first.before) sooner in
      first.lacks (subst Fact (sym front ∙ there) (second.others (length first.before) x sooner))

  pub first_one : (xs : List X) (place other : ℕ) → IsFirstWithout Fact xs place → IsFirstWithout Fact xs other
      → place ≡ other
  first_one xs place other first second = elim (cases_lt place other) [
    | inl less ↦ absurd (none_before xs place other first second less)
    | inr most ↦ elim (cases_lt other place) [
      | inl less ↦ absurd (none_before xs other place second first less)
      | inr least ↦ omega arith
    ]
  ]

  -- no element behind the last lacks the fact
  none_behind : (xs : List X) (place other : ℕ) → IsLastWithout Fact xs place → IsLastWithout Fact xs other
      → other < place → ⊥
  none_behind xs place other first second less =
      let x = first.element in
      let n = length first.before - (length second.before + 1) in
      let at : length first.before ≡ length second.before + suc n = omega (arith, first.count, second.count) in
      let there = stands_at xs first.before x first.behind first.parts in
      let long : length xs ≡ length first.before + length (x ∷ first.behind) = ap length first.parts
      ∙ length-append first.before (x ∷ first.behind) in
      let also : length xs ≡ length second.before + length (second.element ∷ second.behind) =
      ap length second.parts ∙ length-append second.before (second.element ∷ second.behind) in
      let back : get_or xs (length first.before) x ≡ get_or second.behind n x =
      ap (λ zs. get_or zs (length first.before) x) second.parts
      ∙ ap (λ k. get_or (second.before ++ second.element ∷ second.behind) k x) at
      ∙ get_or-append-add second.before (second.element ∷ second.behind) (suc n) x in
      first.lacks (subst Fact (sym back ∙ there) (second.others n x (omega (arith, at, long, also))))

  pub last_one : (xs : List X) (place other : ℕ) → IsLastWithout Fact xs place → IsLastWithout Fact xs other
      → place ≡ other
  last_one xs place other first second = elim (cases_lt place other) [
    | inl less ↦ absurd (none_behind xs other place second first less)
    | inr most ↦ elim (cases_lt other place) [
      | inl less ↦ absurd (none_behind xs place other first second less)
      | inr least ↦ omega arith
    ]
  ]
