-- Laws of TRUE links, which lead from table 0 to greater and greater tables.
use Rattle.std.proofs.Common.{◌≡◌, ℕ, ◌+◌, ◌<◌, ◌≤◌, false, not, ◌&&◌, ◌==◌, List, [], ◌∷◌, ◌++◌, refl, ap, sym, subst}
use Rattle.std.proofs.Common.{◌∙◌, arith, IsTrue, ◌⊎◌, inl, inr}
use Rattle.std.specs.Prelude.{nat_le}
use Rattle.std.specs.List.{list_all}
use Rattle.std.proofs.lemmas.List.Folds.{list_any-append}
use Rattle.std.proofs.lemmas.Bool.{eq-eqb, eqb-true, ne_eqb, lt-ltb, le-leb, leb-true, cases_eq, false≢true}
use Rattle.std.proofs.lemmas.Bool.{and_parts, and_from, or_left, or_right, or_cases}
use Rattle.query_core.specs.declared.predicate.Link.{Link}
use Rattle.query_core.specs.Connected.{joins, are_joined}
use Rattle.query_core.specs.Links.{is_between, ascend_from, AreTrueLinks}

-- a link joins its own tables
pub joins_own : (link : Link) → IsTrue (joins link.a link.b link)
joins_own link = or_left _ _ (and_from _ _ (eq-eqb link.a link.a refl) (eq-eqb link.b link.b refl))

-- in both directions
pub joins_back : (link : Link) → IsTrue (joins link.b link.a link)
joins_back link = or_right _ _ (and_from _ _ (eq-eqb link.a link.a refl) (eq-eqb link.b link.b refl))

-- the tables that a link joins are its ends
pub joined_ends : (link : Link) (s t : ℕ) → IsTrue (joins s t link) → ((link.a ≡ s) × (link.b ≡ t))
    ⊎ ((link.a ≡ t) × (link.b ≡ s))
joined_ends link s t joined = elim (or_cases (link.a == s && link.b == t) (link.a == t && link.b == s) joined) [
  | inl ahead ↦ let both = and_parts _ _ ahead in inl (eqb-true link.a s both.0, eqb-true link.b t both.1)
  | inr back ↦ let both = and_parts _ _ back in inr (eqb-true link.a t both.0, eqb-true link.b s both.1)
]

-- the links of two lists join what those of one do
pub joined_append : (xs ys : List Link) (s t : ℕ) → IsTrue (are_joined (xs ++ ys) s t) → IsTrue (are_joined xs s t)
    ⊎ IsTrue (are_joined ys s t)
joined_append xs ys s t joined = or_cases (are_joined xs s t) (are_joined ys s t)
    (sym (list_any-append (joins s t) xs ys) ∙ joined)

pub joined_front : (xs ys : List Link) (s t : ℕ) → IsTrue (are_joined xs s t) → IsTrue (are_joined (xs ++ ys) s t)
joined_front xs ys s t joined = list_any-append (joins s t) xs ys ∙ or_left _ _ joined

pub joined_back : (xs ys : List Link) (s t : ℕ) → IsTrue (are_joined ys s t) → IsTrue (are_joined (xs ++ ys) s t)
joined_back xs ys s t joined = list_any-append (joins s t) xs ys ∙ or_right (are_joined xs s t) _ joined

link_one : (x y : Link) → x.a ≡ y.a → x.b ≡ y.b → x ≡ y
link_one x y same_a same_b = λ i. record { a = same_a i; b = same_b i }

-- what holds of the first of ascending TRUE links, and of those behind it
pub record Ascends (low : ℕ) (link : Link) (links : List Link) : Type 0 where
  pub from_first : link.a ≡ 0
  pub above : low ≤ link.b
  pub rest : IsTrue (ascend_from (link.b + 1) links)

ascends_by : (low : ℕ) (link : Link) (links : List Link) → IsTrue (ascend_from low (link ∷ links))
    → Ascends low link links
ascends_by low link links ascending =
    let parts = and_parts (link.a == 0 && nat_le low link.b) (ascend_from (link.b + 1) links) ascending in
    let first = and_parts (link.a == 0) (nat_le low link.b) parts.0 in
    record { from_first = eqb-true link.a 0 first.0; above = leb-true low link.b first.1; rest = parts.1 }

-- the two tables that a TRUE link joins are table 0 and one from the least on
pub true_ends : (low : ℕ) (links : List Link) (s t : ℕ) → IsTrue (ascend_from low links) → IsTrue (are_joined links s t)
    → ((s ≡ 0) × (low ≤ t)) ⊎ ((t ≡ 0) × (low ≤ s))
true_ends low [] s t ascending joined = absurd (false≢true joined)
true_ends low (link ∷ links) s t ascending joined =
    let parts = ascends_by low link links ascending in
    elim (or_cases (joins s t link) (are_joined links s t) joined) [
      | inl this ↦ elim (joined_ends link s t this) [
        | inl (same_s, same_t) ↦ inl (sym same_s ∙ parts.from_first, omega (arith, same_t, parts.above))
        | inr (same_t, same_s) ↦ inr (sym same_t ∙ parts.from_first, omega (arith, same_s, parts.above))
      ]
      | inr later ↦ elim (true_ends (link.b + 1) links s t parts.rest later) [
        | inl (none, above) ↦ inl (none, omega (arith, above, parts.above))
        | inr (none, above) ↦ inr (none, omega (arith, above, parts.above))
      ]
    ]

-- the table that a TRUE link joins with table 0 is the first link's, or a later one's and greater
this_or_later : (low : ℕ) (link : Link) (links : List Link) (t : ℕ) → 0 < low → IsTrue (ascend_from low (link ∷ links))
    → IsTrue (are_joined (link ∷ links) 0 t)
    → (link.b ≡ t) ⊎ (IsTrue (are_joined links 0 t) × (link.b < t))
this_or_later low link links t some ascending joined =
    let parts = ascends_by low link links ascending in
    elim (or_cases (joins 0 t link) (are_joined links 0 t) joined) [
      | inl this ↦ elim (joined_ends link 0 t this) [
        | inl (first, same) ↦ inl same
        | inr (same, none) ↦ absurd (omega (arith, none, some, parts.above))
      ]
      | inr later ↦ elim (true_ends (link.b + 1) links 0 t parts.rest later) [
        | inl (none, above) ↦ inr (later, omega (arith, above))
        | inr (none, above) ↦ absurd (omega (arith, above))
      ]
    ]

-- the first TRUE link joins its table with table 0
first_joined : (low : ℕ) (link : Link) (links : List Link) → IsTrue (ascend_from low (link ∷ links))
    → IsTrue (are_joined (link ∷ links) 0 link.b)
first_joined low link links ascending =
    or_left _ _ (subst (λ a. IsTrue (joins a link.b link)) (ascends_by low link links ascending).from_first
    (joins_own link))

-- the first TRUE links of two lists that join the same tables lead to one table
one_first : (low : ℕ) (x y : Link) (xs ys : List Link) → 0 < low → IsTrue (ascend_from low (x ∷ xs))
    → IsTrue (ascend_from low (y ∷ ys))
    → IsTrue (are_joined (y ∷ ys) 0 x.b) → IsTrue (are_joined (x ∷ xs) 0 y.b) → y.b ≡ x.b
one_first low x y xs ys some first second x_there y_there = elim (this_or_later low y ys x.b some second x_there) [
  | inl same ↦ same
  | inr (later, above) ↦ elim (this_or_later low x xs y.b some first y_there) [
    | inl same ↦ sym same
    | inr (again, below) ↦ absurd (omega (arith, above, below))
  ]
]

-- what joins a table behind the first link of the one list joins it behind that of the other
joined_behind : (low : ℕ) (x y : Link) (xs ys : List Link) → 0 < low → IsTrue (ascend_from low (x ∷ xs))
    → IsTrue (ascend_from low (y ∷ ys)) → y.b ≡ x.b
    → ((t : ℕ) → IsTrue (are_joined (x ∷ xs) 0 t) → IsTrue (are_joined (y ∷ ys) 0 t)) → (t : ℕ)
    → IsTrue (are_joined xs 0 t) → IsTrue (are_joined ys 0 t)
joined_behind low x y xs ys some first second same to t joined =
    elim (true_ends (x.b + 1) xs 0 t (ascends_by low x xs first).rest joined) [
      | inr (none, above) ↦ absurd (omega (arith, above))
      | inl (none, above) ↦ elim (this_or_later low y ys t some second (to t (or_right (joins 0 t x) _ joined))) [
        | inl this ↦ absurd (omega (arith, this, same, above))
        | inr (later, below) ↦ later
      ]
    ]

-- ascending TRUE links that join the same tables with table 0 are the same
ascending_one : (low : ℕ) (xs ys : List Link) → 0 < low → IsTrue (ascend_from low xs) → IsTrue (ascend_from low ys)
    → ((t : ℕ) → IsTrue (are_joined xs 0 t) → IsTrue (are_joined ys 0 t))
    → ((t : ℕ) → IsTrue (are_joined ys 0 t) → IsTrue (are_joined xs 0 t)) → ys ≡ xs
ascending_one low [] [] some first second to from = refl
ascending_one low [] (y ∷ ys) some first second to from = absurd (false≢true (from y.b (first_joined low y ys second)))
ascending_one low (x ∷ xs) [] some first second to from = absurd (false≢true (to x.b (first_joined low x xs first)))
ascending_one low (x ∷ xs) (y ∷ ys) some first second to from =
    let parts = ascends_by low x xs first in
    let others = ascends_by low y ys second in
    let same : y.b ≡ x.b = one_first low x y xs ys some first second (to x.b (first_joined low x xs first))
    (from y.b (first_joined low y ys second)) in
    let link : y ≡ x = link_one y x (others.from_first ∙ sym parts.from_first) same in
    let rest : ys ≡ xs = ascending_one (x.b + 1) xs ys (omega arith) parts.rest
    (subst (λ b. IsTrue (ascend_from (b + 1) ys)) same others.rest)
    (joined_behind low x y xs ys some first second same to)
    (joined_behind low y x ys xs some second first (sym same) from) in
    ap (λ z. z ∷ ys) link ∙ ap (λ zs. x ∷ zs) rest

-- TRUE links to the same tables are the same
pub true_links_one : (IsWanted : ℕ → Type 0) (links others : List Link) → AreTrueLinks IsWanted links
    → AreTrueLinks IsWanted others → others ≡ links
true_links_one IsWanted links others are again =
    ascending_one 1 links others (omega arith) are.ascending again.ascending
    (λ t joined. (again.tables t).1 ((are.tables t).0 joined))
    (λ t joined. (are.tables t).1 ((again.tables t).0 joined))

-- ascending TRUE links with one more behind them, to a table that is greater than theirs
ascending_more : (low t : ℕ) (links : List Link) → low ≤ t → IsTrue (ascend_from low links)
    → ((s : ℕ) → IsTrue (are_joined links 0 s) → s < t)
    → IsTrue (ascend_from low (links ++ record { a = 0; b = t } ∷ []))
ascending_more low t [] least ascending below = and_from _ _ (le-leb low t least) refl
ascending_more low t (link ∷ links) least ascending below =
    let parts = and_parts (link.a == 0 && nat_le low link.b) (ascend_from (link.b + 1) links) ascending in
    and_from _ _ parts.0 (ascending_more (link.b + 1) t links
    (omega (arith, below link.b (first_joined low link links ascending)))
    parts.1
    (λ s joined. below s (or_right (joins 0 s link) _ joined)))

-- of the tables that are wanted those below the bound
abbrev pub WantedBelow : (ℕ → Type 0) → ℕ → ℕ → Type 0
WantedBelow IsWanted bound t = (t < bound) × IsWanted t

module _ (IsWanted : ℕ → Type 0) where
  -- with a link to the table at the bound, which is wanted
  pub true_links_more : (bound : ℕ) (links : List Link) → 0 < bound → IsWanted bound
      → AreTrueLinks (WantedBelow IsWanted bound) links
      → AreTrueLinks (WantedBelow IsWanted (bound + 1)) (links ++ record { a = 0; b = bound } ∷ [])
  true_links_more bound links some wanted are =
      let last : Link = record { a = 0; b = bound } in
      record {
        ascending = ascending_more 1 bound links some are.ascending (λ s joined. ((are.tables s).0 joined).0);
        tables = λ t. (
          λ joined. elim (joined_append links (last ∷ []) 0 t joined) [
            | inl before ↦ let (below, wanted_too) = (are.tables t).0 before in (omega (arith, below), wanted_too)
            | inr this ↦ elim (this_or_later 1 last [] t (omega arith)
                (ascending_more 1 bound [] some refl (λ s never. absurd (false≢true never))) this) [
                  | inl same ↦ (omega (arith, same), subst IsWanted same wanted)
                  | inr (never, above) ↦ absurd (false≢true never)
                ]
          ],
          λ (below, wanted_too). elim (cases_eq t bound) [
            | inl same ↦ joined_back links (last ∷ []) 0 t
                (subst (λ s. IsTrue (are_joined (last ∷ []) 0 s)) (sym same) (or_left _ _ (joins_own last)))
            | inr other ↦ joined_front links (last ∷ []) 0 t
                ((are.tables t).1 (omega (arith, below, other), wanted_too))
          ],
        );
      }

  -- with none, where that table isn't
  pub true_links_same : (bound : ℕ) (links : List Link) → (IsWanted bound → ⊥)
      → AreTrueLinks (WantedBelow IsWanted bound) links → AreTrueLinks (WantedBelow IsWanted (bound + 1)) links
  true_links_same bound links unwanted are = record {
    ascending = are.ascending;
    tables = λ t. (
      λ joined. let (below, wanted) = (are.tables t).0 joined in (omega (arith, below), wanted),
      λ (below, wanted). elim (cases_eq t bound) [
        | inl same ↦ absurd (unwanted (subst IsWanted same wanted))
        | inr other ↦ (are.tables t).1 (omega (arith, below, other), wanted)
      ],
    );
  }

-- TRUE links to tables of the query are between its tables
pub true_between : (count low : ℕ) (links : List Link) → 0 < low → IsTrue (ascend_from low links)
    → ((t : ℕ) → IsTrue (are_joined links 0 t) → t < count) → IsTrue (list_all (is_between count) links)
true_between count low [] some ascending there = refl
true_between count low (link ∷ links) some ascending there =
    let parts = ascends_by low link links ascending in
    let below : link.b < count = there link.b (first_joined low link links ascending) in
    let differ : link.a == link.b ≡ false = ne_eqb link.a link.b
    (λ same. omega (arith, same, parts.from_first, parts.above, some)) in
    and_from _ _
    (and_from _ _ (and_from _ _ (lt-ltb link.a count (omega (arith, parts.from_first, below)))
    (lt-ltb link.b count below)) (ap not differ))
    (true_between count (link.b + 1) links (omega arith) parts.rest
    (λ t joined. there t (or_right (joins 0 t link) _ joined)))
