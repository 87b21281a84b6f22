-- The texts of hashed lists and of orders are those of one list.
use Rattle.std.proofs.Common.{◌≡◌, ℕ, ◌/◌, ◌%◌, ◌<◌, Bool, true, false, List, [], ◌∷◌, ◌++◌, length, refl, sym, ap}
use Rattle.std.proofs.Common.{◌∙◌, subst}
use Rattle.std.proofs.Common.{append_assoc, inl, inr, arith, Some}
use Rattle.std.specs.Prelude.{codes, slice_get, ◌==◌, if◌then◌else◌}
use Rattle.std.proofs.lemmas.Bool.{eqb-true, eqb-false}
use Rattle.orca_base.specs.Name.{continues_name}
use Rattle.query_core.specs.declared.query.Query.{Query}
use Rattle.query_core.specs.declared.table.Item.{Item}
use Rattle.query_text.specs.Columns.{item_text, column_text, sorted_text}
use Rattle.query_text.specs.Lists.{element_text, order_text, list_text}
use Rattle.plan_reading.proofs.Places.{there}
use Rattle.plan_reading.proofs.Columns.{IsFilled, columns_one, item_text_filled}
use Rattle.plan_reading.proofs.Sorted.{IsEnd, IsSorted, sorted_one, end_of_name, IsBehind, end_of_behind}
use Rattle.plan_reading.proofs.Sorted.{sorted_text_filled}
use Rattle.plan_reading.proofs.Joined.{IsShut, Each, joined_one}

-- ---- hashed lists

module _ (q : Query) where
  -- the number is a column's
  abbrev pub IsColumn : ℕ → Type 0
  IsColumn n = n < length q.items

  column_is : (n : ℕ) (item : Item) → slice_get q.items n ≡ Some item → column_text q n ≡ item_text q item
  column_is n item got = rw got refl

  column_one : (m n : ℕ) (r s : List ℕ) → IsColumn m → IsColumn n → IsBehind r → IsBehind s
      → column_text q m ++ r ≡ column_text q n ++ s → (m ≡ n) × (r ≡ s)
  column_one m n r s m_below n_below r_ends s_ends same =
      let x = there q.items m m_below in
      let y = there q.items n n_below in
      columns_one q m n x.0 y.0 r s x.1 y.1 (end_of_name r (end_of_behind r r_ends)) (end_of_name s (end_of_behind s s_ends))
      (sym (ap (λ t. t ++ r) (column_is m x.0 x.1)) ∙ same ∙ ap (λ t. t ++ s) (column_is n y.0 y.1))

  -- what is filled isn't the end
  not_shut : (t r s : List ℕ) → IsFilled t → IsShut r → r ≡ t ++ s → ⊥
  not_shut [] r s fits shut is = absurd fits
  not_shut (b ∷ t) [] s fits shut is = absurd cc
  not_shut (b ∷ t) (c ∷ r) s fits shut is =
      let first : c ≡ b = cc in
      let never : false ≡ true = subst (λ n. continues_name n ≡ true) (sym first ∙ shut) fits in
      absurd cc

  column_some : (n : ℕ) (r s : List ℕ) → IsColumn n → IsShut r → r ≡ column_text q n ++ s → ⊥
  column_some n r s below shut is =
      let x = there q.items n below in
      not_shut (column_text q n) r s (rw (column_is n x.0 x.1) (item_text_filled q n x.0 x.1)) shut is

  -- two hashed lists with one text are one
  pub list_text_one : (xs ys r s : List ℕ) → Each IsColumn xs → Each IsColumn ys → IsShut r → IsShut s
      → list_text q xs ++ r ≡ list_text q ys ++ s → (xs ≡ ys) × (r ≡ s)
  list_text_one [] [] = joined_one (column_text q) IsColumn column_one column_some [] []
  list_text_one [] (y ∷ ys) = joined_one (column_text q) IsColumn column_one column_some [] (y ∷ ys)
  list_text_one (x ∷ xs) [] = joined_one (column_text q) IsColumn column_one column_some (x ∷ xs) []
  list_text_one (x ∷ xs) (y ∷ ys) = joined_one (column_text q) IsColumn column_one column_some (x ∷ xs) (y ∷ ys)

  -- ---- orders

  -- the element's item is a column, or an aggregate with a name
  abbrev pub IsElement : ℕ → Type 0
  IsElement e = IsSorted q (e / 2)

  abbrev mark : Bool → List ℕ
  mark rises = if rises then [] else codes " DESC"

  mark_ends : (rises : Bool) (r : List ℕ) → IsBehind r → IsEnd (mark rises ++ r)
  mark_ends true r ends = end_of_behind r ends
  mark_ends false r ends = inl refl

  no_space : (r rest : List ℕ) → IsBehind r → r ≡ 32 ∷ rest → ⊥
  no_space [] rest ends is = absurd cc
  no_space (b ∷ r) rest ends is = let first : b ≡ 32 = cc in elim ends [
    | inl e ↦ omega (arith, e, first)
    | inr e ↦ omega (arith, e, first)
  ]

  mark_one : (x y : Bool) (r s : List ℕ) → IsBehind r → IsBehind s → mark x ++ r ≡ mark y ++ s → (x ≡ y) × (r ≡ s)
  mark_one true true r s r_ends s_ends same = (refl, same)
  mark_one true false r s r_ends s_ends same = absurd (no_space r (codes "DESC" ++ s) r_ends same)
  mark_one false true r s r_ends s_ends same = absurd (no_space s (codes "DESC" ++ r) s_ends (sym same))
  mark_one false false r s r_ends s_ends same = (refl, let e : r ≡ s = cc in e)

  -- an element is its item and whether it descends
  halves : (d e : ℕ) → d / 2 ≡ e / 2 → (d % 2 == 0) ≡ (e % 2 == 0) → d ≡ e
  halves d e item rises = by_bit (d % 2 == 0) refl
    where
      by_bit : (b : Bool) → (d % 2 == 0) ≡ b → d ≡ e
      by_bit true is = let x = eqb-true (d % 2) 0 is in let y = eqb-true (e % 2) 0 (sym rises ∙ is) in omega arith
      by_bit false is = let x = eqb-false (d % 2) 0 is in let y = eqb-false (e % 2) 0 (sym rises ∙ is) in omega arith

  element_one : (d e : ℕ) (r s : List ℕ) → IsElement d → IsElement e → IsBehind r → IsBehind s
      → element_text q d ++ r ≡ element_text q e ++ s → (d ≡ e) × (r ≡ s)
  element_one d e r s is_d is_e r_ends s_ends same =
      let turned : sorted_text q (d / 2) ++ (mark (d % 2 == 0) ++ r) ≡ sorted_text q (e / 2) ++ (mark (e % 2 == 0) ++ s) =
      sym (append_assoc (sorted_text q (d / 2)) (mark (d % 2 == 0)) r) ∙ same
      ∙ append_assoc (sorted_text q (e / 2)) (mark (e % 2 == 0)) s in
      let item = sorted_one q (d / 2) (e / 2) (mark (d % 2 == 0) ++ r) (mark (e % 2 == 0) ++ s) is_d is_e
      (mark_ends (d % 2 == 0) r r_ends) (mark_ends (e % 2 == 0) s s_ends) turned in
      let rest = mark_one (d % 2 == 0) (e % 2 == 0) r s r_ends s_ends item.1 in
      (halves d e item.0 rest.0, rest.1)

  element_some : (e : ℕ) (r s : List ℕ) → IsElement e → IsShut r → r ≡ element_text q e ++ s → ⊥
  element_some e r s is_e shut is =
      not_shut (sorted_text q (e / 2)) r (mark (e % 2 == 0) ++ s) (sorted_text_filled q (e / 2) is_e) shut
      (is ∙ append_assoc (sorted_text q (e / 2)) (mark (e % 2 == 0)) s)

  -- two orders with one text are one
  pub order_text_one : (xs ys r s : List ℕ) → Each IsElement xs → Each IsElement ys → IsShut r → IsShut s
      → order_text q xs ++ r ≡ order_text q ys ++ s → (xs ≡ ys) × (r ≡ s)
  order_text_one [] [] = joined_one (element_text q) IsElement element_one element_some [] []
  order_text_one [] (y ∷ ys) = joined_one (element_text q) IsElement element_one element_some [] (y ∷ ys)
  order_text_one (x ∷ xs) [] = joined_one (element_text q) IsElement element_one element_some (x ∷ xs) []
  order_text_one (x ∷ xs) (y ∷ ys) = joined_one (element_text q) IsElement element_one element_some (x ∷ xs) (y ∷ ys)
