-- Laws of sets that links join.
use Rattle.std.proofs.Common.{◌≡◌, ℕ, ◌+◌, ◌-◌, ◌<◌, ◌^◌, max, min, true, None, Some, refl, ap, sym, subst, ◌∙◌, arith}
use Rattle.std.proofs.Common.{IsTrue, ◌⊎◌, inl, inr, List}
use Rattle.std.specs.Prelude.{bit_or, bit_and, bit_xor, is_none, ◌≢◌, ◌==◌, if◌then◌else◌}
use Rattle.std.specs.Int.{trailing_zeros, w32}
use Rattle.std.proofs.lemmas.Nat.{pow_pos, le_or_l}
use Rattle.std.proofs.lemmas.Bool.{cases_eq, cases_lt, eq-eqb, and_parts, false≢true}
use Rattle.query_core.specs.Sets.{bit, Has, is_several}
use Rattle.query_core.specs.Connected.{Reaches, here, along, IsConnected, AreLinked}
use Rattle.query_core.specs.Keys.{IsGroup}
use Rattle.query_core.specs.Expressions.{FallsInto}
use Rattle.query_core.specs.declared.predicate.Link.{Link}
use Rattle.query_core.specs.declared.query.Query.{Query}
use Rattle.query_core.specs.declared.words.KeyParts.TheVariants.{Join}
use Rattle.query_core.proofs.Bits.{bit-below, bit-and, bit-or, bit-none, bit-one, bit-one_other, bit-beyond}
use Rattle.query_core.proofs.Bits.{bit-difference, one-grows, same_tables, power_below, least-found}
use Rattle.query_core.proofs.Reach.{Reaches-then, Reaches-turned}
use Rattle.query_core.proofs.GroupLemmas.{group_in_range}
use Rattle.query_core.proofs.Whole.{bit_cases}

-- what is reached in a set is reached in a larger one
pub reaches_in_more : (links : List Link) (set more : ℕ) → ((t : ℕ) → Has set t → Has more t) → {s t : ℕ}
    → Reaches links set s t → Reaches links more s t
reaches_in_more links set more within (here has) = here (within _ has)
reaches_in_more links set more within (along before joined there) =
    along (reaches_in_more links set more within before) joined (within _ there)

module _ (links : List Link) (a b : ℕ) where
  in_left : (t : ℕ) → Has a t → Has (bit_or a b) t
  in_left t has = omega (arith, bit-or a b t, has, bit-below b t)

  in_right : (t : ℕ) → Has b t → Has (bit_or a b) t
  in_right t has = omega (arith, bit-or a b t, has, bit-below a t)

  in_either : (t : ℕ) → Has (bit_or a b) t → Has a t ⊎ Has b t
  in_either t has = elim (bit_cases a t) [
    | inl in_a ↦ inl in_a
    | inr not_in_a ↦ inr (omega (arith, bit-or a b t, has, not_in_a))
  ]

  -- from a table of the one connected set over the link to a table of the other
  across : IsConnected links a → IsConnected links b → AreLinked links a b → (s t : ℕ) → Has a s → Has b t
      → Reaches links (bit_or a b) s t
  across left right (y, (in_b, (x, in_a, joined))) s t has_s has_t =
      Reaches-then links (bit_or a b)
      (along (reaches_in_more links a (bit_or a b) in_left (left s x has_s in_a)) joined (in_right y in_b))
      (reaches_in_more links b (bit_or a b) in_right (right y t in_b has_t))

  -- two connected sets that a link joins are connected together
  pub union_connected : IsConnected links a → IsConnected links b → AreLinked links a b → IsConnected links (bit_or a b)
  union_connected left right linked s t has_s has_t = elim (in_either s has_s) [
    | inl s_in_a ↦ elim (in_either t has_t) [
      | inl t_in_a ↦ reaches_in_more links a (bit_or a b) in_left (left s t s_in_a t_in_a)
      | inr t_in_b ↦ across left right linked s t s_in_a t_in_b
    ]
    | inr s_in_b ↦ elim (in_either t has_t) [
      | inl t_in_a ↦ Reaches-turned links (bit_or a b) (across left right linked t s t_in_a s_in_b)
      | inr t_in_b ↦ reaches_in_more links b (bit_or a b) in_right (right s t s_in_b t_in_b)
    ]
  ]

-- a set of one table is connected
pub one_connected : (links : List Link) (k : ℕ) → IsConnected links (2 ^ k)
one_connected links k s t has_s has_t =
    let only : (u : ℕ) → Has (2 ^ k) u → u ≡ k = λ u has. elim (cases_eq u k) [
      | inl same ↦ same
      | inr other ↦ absurd (omega (arith, bit-one_other k u other, has))
    ] in
    subst (λ x. Reaches links (2 ^ k) s x) (only s has_s ∙ sym (only t has_t)) (here has_s)

-- a set that has a table isn't empty
some_table : (set t : ℕ) → Has set t → 0 < set
some_table set t has = elim (cases_eq set 0) [
  | inl none ↦ absurd (omega (arith, subst (λ x. Has x t) none has, bit-none t))
  | inr some ↦ omega (arith, some)
]

-- the bits of two sides
module _ (q : Query) (set a b : ℕ) (falls : FallsInto q set a b) where
  pub sides_whole : (t : ℕ) → max (bit a t) (bit b t) ≡ bit set t
  sides_whole t = sym (bit-or a b t) ∙ ap (λ x. bit x t) falls.whole

  pub sides_apart : (t : ℕ) → min (bit a t) (bit b t) ≡ 0
  sides_apart t = sym (bit-and a b t) ∙ (ap (λ x. bit x t) falls.disjoint ∙ bit-none t)

-- two sides may change places
pub sides_turned : (q : Query) (set a b : ℕ) → FallsInto q set a b → FallsInto q set b a
sides_turned q set a b falls = record {
  whole = same_tables (bit_or b a) set (λ t. omega (arith, bit-or b a t, sides_whole q set a b falls t));
  disjoint = same_tables (bit_and b a) 0 (λ t. omega (arith, bit-and b a t, sides_apart q set a b falls t, bit-none t));
  left = falls.right;
  right = falls.left;
  some_left = falls.some_right;
  some_right = falls.some_left;
}

-- of three sets the second may go from the first to the third, where a link joins these two
pub sides_moved : (q : Query) (set left a b c : ℕ) → FallsInto q set left c → FallsInto q left a b
    → AreLinked q.links b c
    → FallsInto q (bit_or b c) b c × FallsInto q set a (bit_or b c)
sides_moved q set left a b c outer inner linked =
    let bits : (t : ℕ) → (max (max (bit a t) (bit b t)) (bit c t) ≡ bit set t) × (min (bit a t) (bit b t) ≡ 0)
    × (min (max (bit a t) (bit b t)) (bit c t) ≡ 0) = λ t. (
      ap (λ x. max x (bit c t)) (sides_whole q left a b inner t) ∙ sides_whole q set left c outer t,
      sides_apart q left a b inner t,
      ap (λ x. min x (bit c t)) (sides_whole q left a b inner t) ∙ sides_apart q set left c outer t,
    ) in (
      record {
        whole = refl;
        disjoint = same_tables (bit_and b c) 0 (λ t.
            omega (arith, bit-and b c t, (bits t).2, bit-none t, bit-below a t, bit-below b t, bit-below c t));
        left = inner.right;
        right = outer.right;
        some_left = inner.some_right;
        some_right = outer.some_right;
      },
      record {
        whole = same_tables (bit_or a (bit_or b c)) set
            (λ t. omega (arith, bit-or a (bit_or b c) t, bit-or b c t, (bits t).0));
        disjoint = same_tables (bit_and a (bit_or b c)) 0 (λ t.
            omega (
              arith,
              bit-and a (bit_or b c) t,
              bit-or b c t,
              (bits t).1,
              (bits t).2,
              bit-none t,
              bit-below a t,
              bit-below b t,
              bit-below c t,
            ));
        left = inner.left;
        right = union_connected q.links b c inner.right outer.right linked;
        some_left = inner.some_left;
        some_right = omega (arith, le_or_l b c, inner.some_right);
      },
    )

module _ (set t : ℕ) (has : Has set t) where
  -- the set without a table that it has
  rest : ℕ
  rest = bit_xor set (bit_and set (2 ^ t))

  rest_bit : (u : ℕ) → bit rest u ≡ bit set u - bit (2 ^ t) u
  unfolding rest
  rest_bit u = bit-difference set (2 ^ t) u

  -- each table is this one or another
  one_bit : (u : ℕ) → ((u ≡ t) × (bit (2 ^ t) u ≡ 1)) ⊎ (bit (2 ^ t) u ≡ 0)
  one_bit u = elim (cases_eq u t) [
    | inl same ↦ inl (same, subst (λ x. bit (2 ^ t) x ≡ 1) (sym same) (bit-one t))
    | inr other ↦ inr (bit-one_other t u other)
  ]

  rest_whole : bit_or rest (2 ^ t) ≡ set
  rest_whole = same_tables (bit_or rest (2 ^ t)) set (λ u. elim (one_bit u) [
    | inl (same, one) ↦ omega (arith, bit-or rest (2 ^ t) u, rest_bit u, one, subst (λ x. bit set x ≡ 1) (sym same) has)
    | inr none ↦ omega (arith, bit-or rest (2 ^ t) u, rest_bit u, none)
  ])

  rest_apart : bit_and rest (2 ^ t) ≡ 0
  rest_apart = same_tables (bit_and rest (2 ^ t)) 0 (λ u.
      omega (arith, bit-and rest (2 ^ t) u, rest_bit u, bit-none u, bit-below (2 ^ t) u, bit-below set u))

  -- is less by its power of two
  rest_number : set - 2 ^ t ≡ rest
  rest_number =
      let grows : bit_or rest (2 ^ t) ≡ rest + 2 ^ t =
      one-grows rest t (omega (arith, rest_bit t, bit-one t, bit-below set t)) in
      omega (arith, grows, rest_whole)

  -- a set of several tables falls into the others and one without which they are connected
  pub cut_sides : (q : Query) → set ≢ 2 ^ t → IsConnected q.links (set - 2 ^ t) → FallsInto q set (set - 2 ^ t) (2 ^ t)
  cut_sides q several connected =
      let grows : bit_or rest (2 ^ t) ≡ rest + 2 ^ t =
      one-grows rest t (omega (arith, rest_bit t, bit-one t, bit-below set t)) in
      record {
        whole = ap (λ x. bit_or x (2 ^ t)) rest_number ∙ rest_whole;
        disjoint = ap (λ x. bit_and x (2 ^ t)) rest_number ∙ rest_apart;
        left = connected;
        right = one_connected q.links t;
        some_left = omega (arith, several, grows, rest_whole);
        some_right = pow_pos t;
      }

-- a set of several tables isn't that of one
pub several_more : (set t : ℕ) → t < 32 → IsTrue (is_several set) → set ≢ 2 ^ t
several_more set t within several same =
    let least = trailing_zeros w32 set in
    let small : set < 2 ^ 32 = subst (λ x. x < 2 ^ 32) (sym same) (power_below t 32 within) in
    let some : 0 < set = subst (λ x. 0 < x) (sym same) (pow_pos t) in
    let has : Has (2 ^ t) least = subst (λ x. Has x least) same (least-found set some small).here in
    let there : least ≡ t = elim (cases_eq least t) [
      | inl equal ↦ equal
      | inr other ↦ absurd (omega (arith, bit-one_other t least other, has))
    ] in
    let power : (set == 2 ^ least) ≡ true = eq-eqb set (2 ^ least) (same ∙ ap (λ x. 2 ^ x) (sym there)) in
    false≢true (subst (λ b. IsTrue (is_none (if b then Some least else None))) power (and_parts _ _ several).1)

-- so a join falls into its tables but one, where they are connected, and that one
pub join_cut : (q : Query) (set t : ℕ) → IsGroup q (Join set) → Has set t → IsConnected q.links (set - 2 ^ t)
    → FallsInto q set (set - 2 ^ t) (2 ^ t)
join_cut q set t known has connected =
    let small : set < 2 ^ 10 = group_in_range q (Join set) known in
    let within : t < 32 = elim (cases_lt t 10) [
      | inl less ↦ omega (arith, less)
      | inr more ↦ absurd (omega (arith, bit-beyond set 10 t small more, has))
    ] in
    cut_sides set t has q (several_more set t within known.1) connected
