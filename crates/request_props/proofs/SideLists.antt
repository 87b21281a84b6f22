-- The sides of the joins of a set, as they are found one after the other, by the key of the left one.
use Rattle.std.proofs.Common.{◌≡◌, ℕ, ◌+◌, ◌^◌, ◌<◌, ◌≤◌, ◌⊎◌, inl, inr, List, [], ◌∷◌, ◌++◌, Some, None, map, true}
use Rattle.std.proofs.Common.{refl, ap, sym, subst, ◌∙◌, arith, max}
use Rattle.std.specs.Prelude.{◌==◌}
use Rattle.std.specs.List.{All, Contains}
use Rattle.std.specs.List.Sorted.{IsStrictlyIncreasing}
use Rattle.std.specs.Option.{option_map_or}
use Rattle.std.specs.Int.{trailing_zeros, w32}
use Rattle.std.proofs.lemmas.Bool.{cond_both, cases_lt, eqb-true}
use Rattle.std.proofs.lemmas.Nat.{or_disjoint}
use Rattle.std.proofs.lemmas.List.{map-append}
use Rattle.std.proofs.lemmas.List.Elements.{All-push, All-map, Contains-append_left, Contains-push}
use Rattle.query_core.specs.Sets.{bit}
use Rattle.query_core.specs.Keys.{key_number, IsGroupInRange, has_own, group_of_table, top_of}
use Rattle.query_core.specs.Expressions.{FallsInto}
use Rattle.query_core.specs.declared.keys.TheConstants.{FIRST_SET_KEY, ONE_TABLE_KEYS}
use Rattle.query_core.specs.declared.query.Query.{Query}
use Rattle.query_core.specs.declared.words.KeyParts.TheVariants.{Get, Filter, Join}
use Rattle.query_core.proofs.Bits.{bit-or, same_tables}
use Rattle.query_core.proofs.GroupLemmas.{exponent_lt}
use Rattle.query_core.proofs.Joins.{sides_one}
use Rattle.query_core.proofs.Rising.{rises_push}
use Rattle.request_props.specs.Joins.{HasSides, tops_of, AreSides, AreSidesAt, left_of, AreAllSides, AreSidesBelow}
use Rattle.request_props.specs.declared.tables.candidates.sides.Sides.{Sides}

-- the group of one table has a key among the first, and that of several the set's
pub top_number : (q : Query) (a : ℕ) → IsGroupInRange (Join a)
    → (key_number (top_of q a) < ONE_TABLE_KEYS) ⊎ (key_number (top_of q a) ≡ FIRST_SET_KEY + a)
top_number q a small =
    let least = trailing_zeros w32 a in
    let there : (a == 2 ^ least) ≡ true → least < 10 =
    λ same. exponent_lt least 10 (omega (arith, eqb-true a (2 ^ least) same, small)) in
    cond_both (a == 2 ^ least) (Some least) None (λ o. (key_number (option_map_or (group_of_table q) o (Join a)) < ONE_TABLE_KEYS)
    ⊎ (key_number (option_map_or (group_of_table q) o (Join a)) ≡ FIRST_SET_KEY + a))
    (λ same. inl (cond_both (has_own q least) (Filter least) (Get least) (λ g. key_number g < ONE_TABLE_KEYS)
    (λ own. omega (arith, there same)) (λ none. omega (arith, there same))))
    (λ differs. inr refl)

-- a side has tables of the set alone
left_among : (q : Query) (set a b union : ℕ) → FallsInto q set a b → ((t : ℕ) → bit union t ≡ max (bit a t) (bit set t))
    → union ≡ set
left_among q set a b union falls each = same_tables union set
    (λ t. omega (arith, each t, bit-or a b t, ap (λ x. bit x t) falls.whole))

-- a side has fewer tables than the set
left_less : (q : Query) (set a b : ℕ) → FallsInto q set a b → a < set
left_less q set a b falls = omega (arith, or_disjoint a b falls.disjoint, falls.whole, falls.some_right)

-- numbers that are all below a bound, and one of them
below_all : (xs : List ℕ) (bound x : ℕ) → All (λ n. n < bound) xs → Contains xs x → x < bound
below_all xs bound x all (k, within, is) = subst (λ n. n < bound) is (all k x within)

module _ (q : Query) (set : ℕ) where
  -- no left side has a key from the one bound on and below the other
  pub sides_further : (bound other : ℕ) (found : List Sides) → bound ≤ other
      → ((a b : ℕ) → FallsInto q set a b → key_number (top_of q a) < other → key_number (top_of q a) < bound)
      → AreSidesBelow q set bound found → AreSidesBelow q set other found
  sides_further bound other found more none so_far = record {
    ascending = so_far.ascending;
    sound = so_far.sound;
    below = λ k d within. omega (arith, so_far.below k d within, more);
    complete = λ a b falls less. so_far.complete a b falls (none a b falls less);
  }

  -- no left side has the next key
  pub no_sides_at : (bound : ℕ) (found : List Sides) → (HasSides q set bound → ⊥) → AreSidesBelow q set bound found
      → AreSidesBelow q set (bound + 1) found
  no_sides_at bound found none so_far =
      sides_further bound (bound + 1) found (omega arith)
      (λ a b falls less. elim (cases_lt (key_number (top_of q a)) bound) [
        | inl lesser ↦ lesser
        | inr more ↦
            absurd (none (a, b, falls, omega (arith, less, more)))
      ])
      so_far

  module _ (small : IsGroupInRange (Join set)) where
    -- sides with the next key come behind them
    pub sides_more : (bound : ℕ) (found : List Sides) (new : Sides) → AreSidesAt q set bound new
        → AreSidesBelow q set bound found → AreSidesBelow q set (bound + 1) (found ++ new ∷ [])
    sides_more bound found new ((x, y, other, is), at) so_far = record {
      ascending = subst IsStrictlyIncreasing (sym (map-append left_of found (new ∷ [])))
          (rises_push (map left_of found) (left_of new) so_far.ascending
          (λ w there. omega (
            arith,
            below_all (map left_of found) bound w
                (All-map (λ n. n < bound) left_of found so_far.below) there,
            at,
          )));
      sound = All-push (AreSides q set) found new so_far.sound (x, y, other, is);
      below = All-push (λ sides. left_of sides < bound + 1) found new
          (λ k d within. omega (arith, so_far.below k d within)) (omega (arith, at));
      complete = λ a b falls less. elim (cases_lt (key_number (top_of q a)) bound) [
        | inl lesser ↦ Contains-append_left found (new ∷ []) (tops_of q a b) (so_far.complete a b falls lesser)
        | inr more ↦
            let key : key_number (top_of q a) ≡ key_number (top_of q x) =
            omega (arith, less, more, at, ap left_of is) in
            let one = sides_one q set small a b x y falls other key in
            let same : new ≡ tops_of q a b = is ∙ (ap (λ z. tops_of q z y) (sym one.0)
            ∙ ap (tops_of q a) (sym one.1)) in
            subst (Contains (found ++ new ∷ [])) same (Contains-push found new)
      ];
    }

    -- behind the groups of one table come those of several
    pub no_sides_between : (found : List Sides) → AreSidesBelow q set ONE_TABLE_KEYS found → AreSidesBelow q set FIRST_SET_KEY found
    no_sides_between found so_far =
        sides_further ONE_TABLE_KEYS FIRST_SET_KEY found (omega arith)
        (λ a b falls less. elim (top_number q a (omega (arith, left_less q set a b falls, small))) [
          | inl one ↦
              one
          | inr several ↦ absurd (omega (arith, several, less))
        ])
        so_far

    -- no left side has tables that the set doesn't have
    pub no_sides_among : (tables union : ℕ) → ((t : ℕ) → bit union t ≡ max (bit tables t) (bit set t))
        → (union ≡ set → ⊥) → HasSides q set (FIRST_SET_KEY + tables) → ⊥
    no_sides_among tables union each other (a, b, falls, number) =
        elim (top_number q a (omega (arith, left_less q set a b falls, small))) [
          | inl one ↦ omega (arith, one, number)
          | inr several ↦
              let own : a ≡ tables = omega (arith, several, number) in
              other (left_among q set a b union falls (λ t. each t ∙ ap (λ x. max (bit x t) (bit set t)) (sym own)))
        ]

    -- no left side has a key from that of the whole set on
    pub all_found : (found : List Sides) → AreSidesBelow q set (FIRST_SET_KEY + set) found → AreAllSides q set found
    all_found found so_far = record {
      ascending = so_far.ascending;
      sound = so_far.sound;
      complete = λ a b falls.
          let less = left_less q set a b falls in
          so_far.complete a b falls (elim (top_number q a (omega (arith, less, small))) [
            | inl one ↦
                omega (arith, one)
            | inr several ↦ omega (arith, several, less)
          ]);
    }
