-- The links of a query connect all its tables.
use Rattle.std.proofs.Common.{◌≡◌, ℕ, zero, suc, ◌+◌, ◌-◌, ◌<◌, ◌≤◌, ◌^◌, List, [], ◌∷◌, length, refl, sym, subst, ◌∙◌}
use Rattle.std.proofs.Common.{arith, IsTrue, ◌⊎◌, inl, inr}
use Rattle.std.specs.Prelude.{bit_or}
use Rattle.std.specs.Int.{trailing_zeros, w32}
use Rattle.std.proofs.Math.Nat.{pow-le-pow_right}
use Rattle.std.proofs.lemmas.Nat.{or_lt, pow_pos}
use Rattle.std.proofs.lemmas.Bool.{cases_eq, cases_lt, false≢true, or_left, or_right, or_cases}
use Rattle.query_core.specs.declared.predicate.Link.{Link}
use Rattle.query_core.specs.declared.query.Query.{Query}
use Rattle.query_core.specs.Sets.{bit, Has, Adds, IsLeast}
use Rattle.query_core.specs.Connected.{joins, are_joined, Reaches, here, along, IsConnected, IsLead, IsReached}
use Rattle.query_core.specs.Connected.{IsClosed}
use Rattle.query_core.specs.Links.{predicate_links, StartsComponent}
use Rattle.query_core.specs.Keys.{IsGroup, input_of}
use Rattle.query_core.proofs.GroupLemmas.{top_group}
use Rattle.query_core.proofs.Bits.{bit-below, bit-none, bit-or, bit-one, bit-one_other, bit-first, bit-after}
use Rattle.query_core.proofs.Bits.{bit-beyond, one-grows, power_below, least-found}
use Rattle.query_core.proofs.Reach.{Reaches-then, Reaches-turned, reached_first, reached_next, reached_is}
use Rattle.query_core.proofs.TrueLinks.{joins_own, joins_back, joined_ends}
use Rattle.query_core.proofs.Linking.{components_joined}

-- a table is in a set or not
pub bit_cases : (set t : ℕ) → Has set t ⊎ (bit set t ≡ 0)
bit_cases set t = elim (cases_eq (bit set t) 1) [
  | inl has ↦ inl has
  | inr other ↦ inr (omega (arith, other, bit-below set t))
]

module _ (set found : ℕ) where
  -- an end of a link is new, or it isn't
  new_end : (a b : ℕ) → (Has found a × Has set b × (bit found b ≡ 0)) ⊎ (Has found a → Has set b → Has found b)
  new_end a b = elim (bit_cases found b) [
    | inl has ↦ inr (λ in_found in_set. has)
    | inr none ↦ elim (bit_cases found a) [
      | inr not_found ↦ inr (λ in_found in_set. absurd (omega (arith, not_found, in_found)))
      | inl in_found ↦ elim (bit_cases set b) [
        | inr not_in_set ↦ inr (λ has in_set. absurd (omega (arith, not_in_set, in_set)))
        | inl in_set ↦ inl (in_found, in_set, none)
      ]
    ]
  ]

  -- a link leads to a new table, or none does
  pub lead_or_closed : (links : List Link) → ((t : ℕ) × (bit found t ≡ 0) × IsLead links found set t)
      ⊎ IsClosed links set found
  lead_or_closed [] = inr (λ s t has joined there. absurd (false≢true joined))
  lead_or_closed (link ∷ links) = elim (lead_or_closed links) [
    | inl (t, none, (there, (s, has, joined))) ↦ inl (t, none, (there, (s, has, or_right (joins s t link) _ joined)))
    | inr closed ↦ elim (new_end link.a link.b) [
      | inl (has, there, none) ↦ inl (link.b, none, (there, (link.a, has, or_left _ _ (joins_own link))))
      | inr ahead ↦ elim (new_end link.b link.a) [
        | inl (has, there, none) ↦ inl (link.a, none, (there, (link.b, has, or_left _ _ (joins_back link))))
        | inr back ↦ inr (λ s t has joined there. elim (or_cases (joins s t link) (are_joined links s t) joined) [
          | inr rest ↦ closed s t has rest there
          | inl this ↦ elim (joined_ends link s t this) [
            | inl (same_s, same_t) ↦ subst (Has found) same_t
                (ahead (subst (Has found) (sym same_s) has) (subst (Has set) (sym same_t) there))
            | inr (same_t, same_s) ↦ subst (Has found) same_t
                (back (subst (Has found) (sym same_s) has) (subst (Has set) (sym same_t) there))
          ]
        ])
      ]
    ]
  ]

module _ (links : List Link) (set count from : ℕ) (small : set < 2 ^ count) (has : Has set from) where
  -- what is found grows until no link leads out of it
  grown : (fuel found : ℕ) → Has found from → ((t : ℕ) → Has found t → Reaches links set from t) → found < 2 ^ count
      → 2 ^ count - found ≤ fuel
      → (m : ℕ) × (m < 2 ^ count) × IsReached links set from m
  grown zero found first sound few left = absurd (omega (arith, few, left))
  grown (suc fuel) found first sound few left = elim (lead_or_closed set found links) [
    | inr closed ↦ (found, few, reached_is links set from found first closed sound)
    | inl (t, none, lead) ↦
        let new = bit_or found (2 ^ t) in
        let adds : Adds found t new = record {
          this = omega (arith, bit-or found (2 ^ t) t, bit-one t, bit-below found t);
          others = λ u other. omega (arith, bit-or found (2 ^ t) u, bit-one_other t u other, bit-below found u);
        } in
        let more : new ≡ found + 2 ^ t = one-grows found t none in
        let there : t < count = elim (cases_lt t count) [
          | inl below ↦ below
          | inr beyond ↦ absurd (omega (arith, bit-beyond set count t small beyond, lead.0))
        ] in
        grown fuel new
        (omega (arith, bit-or found (2 ^ t) from, first, bit-below (2 ^ t) from))
        (reached_next links set from found new t sound lead adds)
        (or_lt count found (2 ^ t) few (power_below t count there))
        (omega (arith, more, left, pow_pos t))
  ]

  -- the tables that a table of the set reaches in it are a set
  pub component : (m : ℕ) × (m < 2 ^ count) × IsReached links set from m
  component =
      let adds : Adds 0 from (2 ^ from) = record {
        this = bit-one from;
        others = λ u other. bit-one_other from u other ∙ sym (bit-none u);
      } in
      let there : from < count = elim (cases_lt from count) [
        | inl below ↦ below
        | inr beyond ↦ absurd (omega (arith, bit-beyond set count from small beyond, has))
      ] in
      grown (2 ^ count) (2 ^ from) (bit-one from) (reached_first links set from (2 ^ from) has adds)
      (power_below from count there) (omega arith)

-- what links reach others reach that join at least the same tables
reaches_by : (links made : List Link) (set : ℕ)
    → ((s t : ℕ) → IsTrue (are_joined made s t) → IsTrue (are_joined links s t))
    → {s t : ℕ} → Reaches made set s t → Reaches links set s t
reaches_by links made set more (here has) = here has
reaches_by links made set more (along {s} {t} before joined there) =
    along (reaches_by links made set more before) (more s t joined) there

-- table 0 reaches each table: the least of its component over a TRUE link, and from there the others
reached_by_first : (q : Query) (bound t : ℕ) → t < bound → t < length q.tables
    → Reaches q.links (2 ^ length q.tables - 1) 0 t
reached_by_first q zero t below there = absurd (omega (arith, below))
reached_by_first q (suc bound) t below there =
    let count = length q.tables in
    let all = 2 ^ count - 1 in
    let made = predicate_links q.items q.preds in
    let joined = components_joined count made q.links q.links_valid.in_order in
    let has : Has all t = bit-first count t there in
    let start : Has all 0 = bit-first count 0 (omega (arith, there)) in
    let small : all < 2 ^ count = omega (arith, pow_pos count) in
    elim (cases_eq t 0) [
      | inl same ↦ subst (Reaches q.links all 0) (sym same) (here start)
      | inr other ↦
          let (m, m_small, reached) = component made all count t small has in
          let own : Has m t = reached.complete t (here has) in
          let within : count ≤ 32 = omega (arith, q.tables_valid.few) in
          let few : 2 ^ count ≤ 2 ^ 32 = pow-le-pow_right (omega arith) within in
          let some : 0 < m = elim (cases_eq m 0) [
            | inl none ↦ absurd (omega (arith, subst (λ x. Has x t) none own, bit-none t))
            | inr not_none ↦ omega (arith, not_none)
          ] in
          let least = trailing_zeros w32 m in
          let found : IsLeast m least = least-found m some (omega (arith, m_small, few)) in
          elim (cases_eq least t) [
            | inl same_least ↦
                let starts : StartsComponent count made t = record {
                  not_first = omega (arith, other);
                  there = there;
                  least = λ u reaches. subst (λ x. x ≤ u) same_least (found.least u (reached.complete u reaches));
                } in
                along (here start) (joined.by_true 0 t (refl, starts)) has
            | inr lesser ↦
                let below_t : least < t = omega (arith, lesser, found.least t own) in
                Reaches-then q.links all
                (reached_by_first q bound least (omega (arith, below, below_t)) (omega (arith, below_t, there)))
                (reaches_by q.links made all joined.by_predicates
                (Reaches-turned made all (reached.sound least found.here)))
          ]
    ]

-- so they all reach each other
pub whole_connected : (q : Query) → IsConnected q.links (2 ^ length q.tables - 1)
whole_connected q s t has_s has_t =
    let count = length q.tables in
    let below : (u : ℕ) → Has (2 ^ count - 1) u → u < count = λ u has. elim (cases_lt u count) [
      | inl less ↦ less
      | inr beyond ↦ absurd (omega (arith, bit-after count u beyond, has))
    ] in
    Reaches-then q.links (2 ^ count - 1)
    (Reaches-turned q.links (2 ^ count - 1) (reached_by_first q (suc s) s (omega arith) (below s has_s)))
    (reached_by_first q (suc t) t (omega arith) (below t has_t))

-- the group that joins them is one of the query's
pub input_group : (q : Query) → IsGroup q (input_of q)
input_group q =
    let some : 1 ≤ length q.tables = q.tables_valid.some in
    let two : 2 ^ 1 ≤ 2 ^ length q.tables = pow-le-pow_right (omega arith) some in
    top_group q (2 ^ length q.tables - 1) (omega (arith, two)) (omega (arith, two)) (whole_connected q)
