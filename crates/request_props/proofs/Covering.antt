-- The sets of tables that have all tables of a list.
use Rattle.std.proofs.Common.{◌≡◌, ℕ, suc, ◌+◌, ◌<◌, ◌≤◌, ◌-◌, ◌/◌, ◌↔◌, Bool, true, false, List, [], ◌∷◌, ◌++◌, length}
use Rattle.std.proofs.Common.{take, drop, map, Option, Some, None, inl, inr, refl, sym, ap, ◌∙◌, subst, arith, IsTrue}
use Rattle.std.proofs.Common.{lit<}
use Rattle.std.specs.Prelude.{slice_index_or, is_some, not, MatchOption}
use Rattle.std.proofs.lemmas.Bool.{cases_eq, cases_lt}
use Rattle.std.proofs.lemmas.List.{get_or_append_left, get_or_default, get_or-map, length-map, take_rest}
use Rattle.std.proofs.Math.Seq.{get_or-append_seam}
use Rattle.std.proofs.lemmas.Nat.Bits.{bit_at_above}
use Rattle.std.proofs.lemmas.List.Elements.{All-nil, All-cons, All-head, All-tail, All-map}
use Rattle.query_core.specs.Keys.{is_column_in, has_item}
use Rattle.query_core.specs.Sets.{bit, Has, IsLeast}
use Rattle.query_core.specs.declared.query.Query.{Query}
use Rattle.query_core.specs.declared.words.KeyParts.{KeyParts}
use Rattle.query_core.specs.declared.words.KeyParts.TheVariants.{Join}
use Rattle.request_props.specs.Lying.{ListLiesIn, OrderLiesIn, items_of, HasTables, IsOver, AreTablesOf}
use Rattle.request_props.specs.Numbered.{orders_of, order_among, order_of}
use Rattle.request_props.specs.Fitting.{OrderFits}

bit_small : (set t : ℕ) → bit set t ≤ 1
unfolding bit
bit_small set t = omega arith

not_in_0 : (t : ℕ) → Has 0 t → ⊥
unfolding bit
not_in_0 t has = let none = bit_at_above 0 0 t (lit< tt) (omega arith) in absurd (omega (arith, none, has))

-- a list without items lies everywhere
over_nothing : (q : Query) → IsOver q [] (Some 0)
over_nothing q set = (
  λ lies. λ t has. absurd (not_in_0 t has),
  λ covers.
      All-nil (λ item. IsTrue (has_item q (Join set) item)),
)

-- a list lies where its first item and the others lie
over_first : (q : Query) (item : ℕ) (others : List ℕ) (rest both : Option ℕ) → IsOver q others rest
    → ((set : ℕ) → HasTables set both ↔ (IsTrue (is_column_in q.items set item) × HasTables set rest))
    → IsOver q (item ∷ others) both
over_first q item others rest both over joined set =
    let lies = λ (number : ℕ). IsTrue (has_item q (Join set) number) in (
      λ all. (joined set).1 (All-head lies item others all, (over set).0 (All-tail lies item others all)),
      λ covers. All-cons lies item others ((joined set).0 covers).0 ((over set).1 ((joined set).0 covers).1),
    )

-- the same of a list that isn't empty
pub over_front : (q : Query) (list : List ℕ) (rest both : Option ℕ) → 1 ≤ length list
    → IsOver q (take (length list - 1) (drop 1 list)) rest
    → ((set : ℕ)
    → HasTables set both ↔ (IsTrue (is_column_in q.items set (slice_index_or list 0 0)) × HasTables set rest))
    → IsOver q list both
over_front q [] rest both some over joined = absurd (omega (arith, some))
over_front q (item ∷ others) rest both some over joined =
    over_first q item others rest both (subst (λ (l : List ℕ). IsOver q l rest) (take_rest (item ∷ others) 1) over)
    joined

-- the same of a list that is empty
pub over_empty : (q : Query) (list : List ℕ) → length list < 1 → IsOver q list (Some 0)
over_empty q [] none = over_nothing q
over_empty q (item ∷ others) none = absurd (omega (arith, none))

-- the tables of one more list are found
pub over_more : (q : Query) (lists : List (List ℕ)) (found new : List (Option ℕ)) (n : ℕ) (list : List ℕ)
    (here : Option ℕ) → new ≡ found ++ here ∷ []
    → length found ≡ n → n < length lists → list ≡ slice_index_or lists n list → IsOver q list here
    → ((k : ℕ) → k < n → IsOver q (slice_index_or lists k []) (slice_index_or found k None))
    → (k : ℕ) → k < n + 1 → IsOver q (slice_index_or lists k []) (slice_index_or new k None)
over_more q lists found new n list here grown count inside is over each k within = elim (cases_lt k n) [
  | inl below ↦
      let same : slice_index_or new k None ≡ slice_index_or found k None =
      rw grown (get_or_append_left found (here ∷ []) None k (omega arith)) in
      subst (λ (t : Option ℕ). IsOver q (slice_index_or lists k []) t) (sym same) (each k below)
  | inr above ↦
      let last : n ≡ k = omega arith in
      let at_end : slice_index_or new (length found) None ≡ here = rw grown (get_or-append_seam found here [] None) in
      let same : slice_index_or new n None ≡ here = subst (λ (m : ℕ). slice_index_or new m None ≡ here) count at_end in
      let listed : list ≡ slice_index_or lists n [] = is ∙ get_or_default lists n list [] inside in
      subst (λ (m : ℕ). IsOver q (slice_index_or lists m []) (slice_index_or new m None)) last
      (subst (λ (t : Option ℕ). IsOver q (slice_index_or lists n []) t) (sym same)
      (subst (λ (l : List ℕ). IsOver q l here) listed over))
]

-- a set has all tables of another where none is left without it
pub covers_by : (tables set rest : ℕ) (least : Option ℕ) (test : Bool)
    → ((t : ℕ) → bit rest t ≡ bit tables t - bit set t)
    → MatchOption least ((t : ℕ) → Has rest t → ⊥) (IsLeast rest) → is_some least ≡ not test → IsTrue test
    ↔ HasTables set (Some tables)
covers_by tables set rest None true each none is = (
  λ yes t has. elim (cases_eq (bit set t) 1) [
    | inl here ↦ here
    | inr other ↦ let one = bit_small set t in let left = each t in absurd (none t (omega arith))
  ],
  λ covers. refl,
)
covers_by tables set rest None false each none is = cc
covers_by tables set rest (Some t) true each least is = cc
covers_by tables set rest (Some t) false each least is = (
  λ yes. cc,
  λ covers.
      let one = bit_small tables t in
      let left = each t in
      let here : bit rest t ≡ 1 = least.here in
      let there : bit set t ≡ 1 = covers t (omega arith) in
      absurd (omega arith),
)

-- the tables of the list at a place are those that were found there
pub over_at : (q : Query) (lists : List (List ℕ)) (found : List (Option ℕ)) (k set : ℕ) (tables : Option ℕ)
    → AreTablesOf q lists found → k < length found
    → tables ≡ slice_index_or found k None → ListLiesIn q (Join set) (slice_index_or lists k []) ↔ HasTables set tables
over_at q lists found k set tables are within is =
    subst (λ (t : Option ℕ). ListLiesIn q (Join set) (slice_index_or lists k []) ↔ HasTables set t) (sym is)
    (are.each k (omega (arith, are.count)) set)

-- an order lies in a group by its items
lies_by_items : (q : Query) (group : KeyParts) (order : List ℕ) → OrderLiesIn q group order
    → ListLiesIn q group (items_of order)
lies_by_items q group order lies = All-map (λ item. IsTrue (has_item q group item)) (λ element. element / 2) order lies

items_lie : (q : Query) (group : KeyParts) (order : List ℕ) → ListLiesIn q group (items_of order)
    → OrderLiesIn q group order
items_lie q group order lies k d within =
    let inside : k < length (items_of order) = rw length-map within in
    let at = get_or-map (λ (element : ℕ). element / 2) order k d 0 within in
    rw at at (lies k 0 inside)

-- an order with a number is over the tables that were found before its place
pub order_over : (q : Query) (order place set : ℕ) (tables : Option ℕ) (test : Bool) → order ≡ suc place
    → (found : List (Option ℕ))
    → AreTablesOf q (map items_of (orders_of q)) found → place < length found → tables ≡ slice_index_or found place None
    → IsTrue test ↔ HasTables set tables → IsTrue test ↔ OrderFits q (Join set) order
order_over q order place set tables test next found are within is covers =
    let orders = orders_of q in
    let many : length found ≡ length orders = rw length-map at are.count in
    let numbered : order ≤ length orders = omega (arith, many, within, next) in
    let at : slice_index_or (map items_of orders) place [] ≡ items_of (slice_index_or orders place []) =
    get_or-map items_of orders place [] [] (omega arith) in
    let ordered : order_of q order ≡ slice_index_or orders place [] = ap (order_among orders) next in
    let over = over_at q (map items_of orders) found place set tables are within is in (
      λ yes. record {
        numbered = numbered;
        lies_in = subst (λ (o : List ℕ). OrderLiesIn q (Join set) o) (sym ordered)
            (items_lie q (Join set) (slice_index_or orders place [])
            (subst (λ (l : List ℕ). ListLiesIn q (Join set) l) at (over.1 (covers.0 yes))));
      },
      λ fits.
          let lies = subst (λ (o : List ℕ). OrderLiesIn q (Join set) o) ordered fits.lies_in in
          let items = subst (λ (l : List ℕ). ListLiesIn q (Join set) l) (sym at)
          (lies_by_items q (Join set) (slice_index_or orders place []) lies) in
          covers.1 (over.0 items),
    )
