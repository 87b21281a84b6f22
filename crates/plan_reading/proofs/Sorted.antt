-- What an order names, a column or an aggregate with a name, is cut and told apart in one way.
use Rattle.std.proofs.Common.{◌≡◌, ℕ, ◌-◌, ◌≤◌, true, zero, suc, List, [], ◌∷◌, ◌++◌, length, Option, Some, None}
use Rattle.std.proofs.Common.{◌⊎◌, refl, sym, ap, ◌∙◌, arith, inl, inr}
use Rattle.std.specs.Prelude.{slice_get}
use Rattle.std.specs.Option.{option_map_or}
use Rattle.orca_base.specs.Name.{continues_name, has_name_form}
use Rattle.query_core.specs.declared.aggregate.Agg.{Agg}
use Rattle.query_core.specs.declared.query.Query.{Query}
use Rattle.query_core.specs.declared.table.Item.{Item}
use Rattle.query_text.specs.Columns.{table_text, item_text, sorted_text, aggregate_name_at, name_text}
use Rattle.plan_reading.proofs.Fronts.{EndsFront}
use Rattle.plan_reading.proofs.Cuts.{cut_once}
use Rattle.plan_reading.proofs.Columns.{IsFilled, name_continues, name_filled, table_named, item_placed, dotted}
use Rattle.plan_reading.proofs.Columns.{columns_one, item_text_filled}
use Rattle.plan_reading.proofs.AggregateNames.{agg_named, agg_one}

-- the order names a column, or an aggregate with a name
pub data IsSorted (q : Query) (n : ℕ) : Type 0 where
  column : (item : Item) → slice_get q.items n ≡ Some item → IsSorted q n
  aggregate : (agg : Agg) (name : List ℕ) → slice_get q.items n ≡ None
      → slice_get q.aggs (n - length q.items) ≡ Some agg → agg.name ≡ Some name → IsSorted q n

none_past : {X : Type 0} (xs : List X) (n : ℕ) → slice_get xs n ≡ None → length xs ≤ n
none_past [] n none = omega arith
none_past (x ∷ xs) zero none = absurd cc
none_past (x ∷ xs) (suc n) none = let rest = none_past xs n none in omega arith

sorted_of : (q : Query) (n : ℕ) (o : Option Item) → slice_get q.items n ≡ o → sorted_text q n
    ≡ option_map_or (item_text q) o (aggregate_name_at q (n - length q.items))
sorted_of q n o is = ap (λ (x : Option Item). option_map_or (item_text q) x (aggregate_name_at q (n - length q.items))) is

aggregate_is : (q : Query) (p : ℕ) (agg : Agg) (name : List ℕ) → slice_get q.aggs p ≡ Some agg → agg.name ≡ Some name
    → aggregate_name_at q p ≡ name
aggregate_is q p agg name got is =
    ap (λ (x : Option Agg). option_map_or (λ agg. name_text agg.name) x []) got ∙ ap name_text is

named_text_is : (q : Query) (n : ℕ) (agg : Agg) (name : List ℕ) → slice_get q.items n ≡ None
    → slice_get q.aggs (n - length q.items) ≡ Some agg → agg.name ≡ Some name → sorted_text q n ≡ name
named_text_is q n agg name none got is = sorted_of q n None none ∙ aggregate_is q (n - length q.items) agg name got is

-- what goes on behind a name with no point
abbrev pub IsEnd : List ℕ → Type 0
IsEnd [] = Unit {0}
IsEnd (b ∷ rest) = (b ≡ 32) ⊎ ((b ≡ 41) ⊎ (b ≡ 44))

pub end_of_name : (r : List ℕ) → IsEnd r → EndsFront continues_name r
end_of_name [] ends = tt
end_of_name (b ∷ r) (inl e) = rw e refl
end_of_name (b ∷ r) (inr (inl e)) = rw e refl
end_of_name (b ∷ r) (inr (inr e)) = rw e refl

no_point : (r rest : List ℕ) → IsEnd r → r ≡ 46 ∷ rest → ⊥
no_point [] rest ends is = absurd cc
no_point (b ∷ r) rest ends is = let first : b ≡ 46 = cc in elim ends [
  | inl e ↦ omega (arith, e, first)
  | inr later ↦ elim later [
    | inl e ↦ omega (arith, e, first)
    | inr e ↦ omega (arith, e, first)
  ]
]

-- a column isn't an aggregate's name
column_or_name : (q : Query) (m : ℕ) (x : Item) (name r s : List ℕ) → slice_get q.items m ≡ Some x
    → has_name_form name ≡ true → IsEnd s → item_text q x ++ r ≡ name ++ s → ⊥
column_or_name q m x name r s got named s_ends same =
    let xt = item_placed q m x got in
    let turned : table_text q x.table ++ (46 ∷ (x.name ++ r)) ≡ name ++ s = sym (dotted (table_text q x.table) x.name r) ∙ same in
    let cut = cut_once continues_name (table_text q x.table) name (46 ∷ (x.name ++ r)) s
    (name_continues (table_text q x.table) (table_named q x.table xt)) (name_continues name named) refl (end_of_name s s_ends)
    turned in
    no_point s (x.name ++ r) s_ends (sym cut.1)

-- two that an order names, with equal texts, are one
pub sorted_one : (q : Query) (m n : ℕ) (r s : List ℕ) → IsSorted q m → IsSorted q n → IsEnd r → IsEnd s
    → sorted_text q m ++ r ≡ sorted_text q n ++ s → (m ≡ n) × (r ≡ s)
sorted_one q m n r s (column x x_got) (column y y_got) r_ends s_ends same =
    columns_one q m n x y r s x_got y_got (end_of_name r r_ends) (end_of_name s s_ends)
    (sym (ap (λ t. t ++ r) (sorted_of q m (Some x) x_got)) ∙ same ∙ ap (λ t. t ++ s) (sorted_of q n (Some y) y_got))
sorted_one q m n r s (column x x_got) (aggregate b name none y_got is) r_ends s_ends same =
    absurd (column_or_name q m x name r s x_got (agg_named q.aggs (n - length q.items) b name q.grouping_valid.named y_got is) s_ends
    (sym (ap (λ t. t ++ r) (sorted_of q m (Some x) x_got)) ∙ same ∙ ap (λ t. t ++ s) (named_text_is q n b name none y_got is)))
sorted_one q m n r s (aggregate a name none x_got is) (column y y_got) r_ends s_ends same =
    absurd (column_or_name q n y name s r y_got (agg_named q.aggs (m - length q.items) a name q.grouping_valid.named x_got is) r_ends
    (sym (ap (λ t. t ++ s) (sorted_of q n (Some y) y_got)) ∙ sym same ∙ ap (λ t. t ++ r) (named_text_is q m a name none x_got is)))
sorted_one q m n r s (aggregate a first m_none x_got x_is) (aggregate b second n_none y_got y_is) r_ends s_ends same =
    let cut = cut_once continues_name first second r s
    (name_continues first (agg_named q.aggs (m - length q.items) a first q.grouping_valid.named x_got x_is))
    (name_continues second (agg_named q.aggs (n - length q.items) b second q.grouping_valid.named y_got y_is))
    (end_of_name r r_ends) (end_of_name s s_ends)
    (sym (ap (λ t. t ++ r) (named_text_is q m a first m_none x_got x_is)) ∙ same
    ∙ ap (λ t. t ++ s) (named_text_is q n b second n_none y_got y_is)) in
    let m_past = none_past q.items m m_none in
    let n_past = none_past q.items n n_none in
    let place = agg_one q.aggs (m - length q.items) (n - length q.items) a b second q.grouping_valid.names_apart x_got y_got
    (x_is ∙ ap Some cut.0) y_is in
    (omega arith, cut.1)

-- what goes on behind an element
abbrev pub IsBehind : List ℕ → Type 0
IsBehind [] = Unit {0}
IsBehind (b ∷ rest) = (b ≡ 41) ⊎ (b ≡ 44)

pub end_of_behind : (r : List ℕ) → IsBehind r → IsEnd r
end_of_behind [] ends = tt
end_of_behind (b ∷ r) ends = inr ends

-- no text of such is empty
pub sorted_text_filled : (q : Query) (n : ℕ) → IsSorted q n → IsFilled (sorted_text q n)
sorted_text_filled q n (column item got) = rw (sorted_of q n (Some item) got) (item_text_filled q n item got)
sorted_text_filled q n (aggregate agg name none got is) =
    rw (named_text_is q n agg name none got is)
    (name_filled name (agg_named q.aggs (n - length q.items) agg name q.grouping_valid.named got is))
