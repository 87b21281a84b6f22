-- A connected set of two or more tables has a table without which the others are connected, so it has a last one.
use Rattle.std.proofs.Common.{◌≡◌, ℕ, zero, suc, ◌+◌, ◌-◌, ◌<◌, ◌≤◌, ◌^◌, List, sym, subst, arith, IsTrue, ◌⊎◌, inl}
use Rattle.std.proofs.Common.{inr}
use Rattle.std.specs.Prelude.{bit_or, ◌≢◌}
use Rattle.std.specs.Int.{trailing_zeros, w32}
use Rattle.std.proofs.lemmas.Nat.{pow_pos, le_or_l}
use Rattle.std.proofs.lemmas.Bool.{cases_eq, cases_lt}
use Rattle.query_core.specs.Sets.{Has}
use Rattle.query_core.specs.Connected.{are_joined, Reaches, along, IsConnected, IsLead, IsReached}
use Rattle.query_core.specs.declared.predicate.Link.{Link}
use Rattle.query_core.specs.declared.query.Query.{Query}
use Rattle.query_core.proofs.Bits.{bit-below, bit-none, bit-or, bit-one, bit-one_other, one-grows, same_tables}
use Rattle.query_core.proofs.Bits.{least-found, has_below}
use Rattle.query_core.proofs.Reach.{Reaches-then, Reaches-turned, reached_all, connected_from, whole_from}
use Rattle.query_core.proofs.Unions.{one_connected, reaches_in_more}
use Rattle.query_core.proofs.Whole.{bit_cases, component, lead_or_closed}
use Rattle.xform_rules.specs.ExpandNAry.{IsCut, IsLastCut}

-- a set with some of another's tables is at most that
pub within_le : (a b : ℕ) → ((t : ℕ) → Has a t → Has b t) → a ≤ b
within_le a b within =
    let same : bit_or a b ≡ b = same_tables (bit_or a b) b (λ t. elim (bit_cases a t) [
      | inl has ↦ omega (arith, bit-or a b t, has, within t has)
      | inr none ↦ omega (arith, bit-or a b t, none)
    ]) in
    omega (arith, le_or_l a b, same)

-- a set that isn't empty has a table
pub some_in : (set : ℕ) → 0 < set → set < 2 ^ 32 → (t : ℕ) × Has set t
some_in set some small = (trailing_zeros w32 set, (least-found set some small).here)

-- a set is connected, or it isn't
pub connected_cases : (links : List Link) (set : ℕ) → set < 2 ^ 32 → IsConnected links set ⊎ (IsConnected links set → ⊥)
connected_cases links set small = elim (cases_eq set 0) [
  | inl none ↦ inl (λ s t has_s has_t. absurd (omega (arith, subst (λ x. Has x s) none has_s, bit-none s)))
  | inr some ↦
      let (from, has) = some_in set (omega (arith, some)) small in
      let (m, m_small, reached) = component links set 32 from small has in
      elim (cases_eq m set) [
        | inl same ↦ inl (connected_from links set from (subst (λ x. IsReached links set from x) same reached))
        | inr other ↦ inr (λ connected. other (whole_from links set from m has reached connected))
      ]
]

module _ (links : List Link) (set first : ℕ) (small : set < 2 ^ 32) (whole : IsConnected links set)
    (in_set : Has set first) where
  -- a connected part grows by a table to which a link leads
  grown_connected : (part t : ℕ) → IsConnected links part → Has part first → IsLead links part set t
      → IsConnected links (bit_or part (2 ^ t))
  grown_connected part t connected has (there, (from, in_part, joined)) x y has_x has_y =
      let new = bit_or part (2 ^ t) in
      let more : (u : ℕ) → Has part u → Has new u =
      λ u in_old. omega (arith, bit-or part (2 ^ t) u, in_old, bit-below (2 ^ t) u) in
      let way : (u : ℕ) → Has new u → Reaches links new first u = λ u in_new. elim (bit_cases part u) [
        | inl in_old ↦ reaches_in_more links part new more (connected first u has in_old)
        | inr none ↦ elim (cases_eq u t) [
          | inl same ↦
              let joined_u : IsTrue (are_joined links from u) =
              subst (λ k. IsTrue (are_joined links from k)) (sym same) joined in
              along (reaches_in_more links part new more (connected first from has in_part)) joined_u in_new
          | inr other ↦ absurd (omega (arith, bit-or part (2 ^ t) u, none, bit-one_other t u other, in_new))
        ]
      ] in
      Reaches-then links new (Reaches-turned links new (way x has_x)) (way y has_y)

  -- so it grows until one table is left out
  grown_to_cut : (fuel part : ℕ) → ((t : ℕ) → Has part t → Has set t) → IsConnected links part → Has part first
      → part ≢ set → set - part < fuel
      → (t : ℕ) × Has set t × IsConnected links (set - 2 ^ t)
  grown_to_cut zero part within connected has other left = absurd (omega (arith, left))
  grown_to_cut (suc fuel) part within connected has other left = elim (lead_or_closed set part links) [
    | inr closed ↦ absurd (other (same_tables part set (λ t. elim (bit_cases set t) [
      | inl there ↦ omega (arith, there, reached_all links set part first has closed (whole first t in_set there))
      | inr none ↦ elim (bit_cases part t) [
        | inl in_part ↦ omega (arith, within t in_part, none)
        | inr not_in_part ↦ omega (arith, not_in_part, none)
      ]
    ])))
    | inl (t, none, lead) ↦
        let new = bit_or part (2 ^ t) in
        let grows : new ≡ part + 2 ^ t = one-grows part t none in
        let inside : (u : ℕ) → Has new u → Has set u = λ u in_new. elim (bit_cases part u) [
          | inl in_old ↦ within u in_old
          | inr not_old ↦ elim (cases_eq u t) [
            | inl same ↦ subst (Has set) (sym same) lead.0
            | inr differs ↦ absurd (omega (arith, bit-or part (2 ^ t) u, not_old, bit-one_other t u differs, in_new))
          ]
        ] in
        elim (cases_eq new set) [
          | inl full ↦
              let rest : part ≡ set - 2 ^ t = omega (arith, grows, full) in
              (t, lead.0, subst (IsConnected links) rest connected)
          | inr not_full ↦
              grown_to_cut fuel new inside (grown_connected part t connected has lead)
              (omega (arith, bit-or part (2 ^ t) first, has, bit-below (2 ^ t) first))
              not_full (omega (arith, grows, left, within_le new set inside, pow_pos t))
        ]
  ]

  -- a set that isn't that of one table has a table without which it is connected
  pub some_cut : set ≢ 2 ^ first → (t : ℕ) × Has set t × IsConnected links (set - 2 ^ t)
  some_cut several =
      let within : (t : ℕ) → Has (2 ^ first) t → Has set t = λ t has. elim (cases_eq t first) [
        | inl same ↦ subst (Has set) (sym same) in_set
        | inr other ↦ absurd (omega (arith, bit-one_other first t other, has))
      ] in
      grown_to_cut (suc (set - 2 ^ first)) (2 ^ first) within (one_connected links first) (bit-one first)
      (λ same. several (sym same)) (omega arith)

module _ (q : Query) (set : ℕ) (small : set < 2 ^ 32) where
  -- a table is a cut, or it isn't
  cut_cases : (t : ℕ) → IsCut q set t ⊎ (IsCut q set t → ⊥)
  cut_cases t = elim (bit_cases set t) [
    | inr none ↦ inr (λ cut. absurd (omega (arith, none, cut.0)))
    | inl has ↦ elim (connected_cases q.links (set - 2 ^ t) (omega (arith, small))) [
      | inl connected ↦ inl (has, connected)
      | inr apart ↦ inr (λ cut. apart cut.1)
    ]
  ]

  -- where there is a cut there is a last one
  last_below : (bound : ℕ) → ((t : ℕ) → bound ≤ t → IsCut q set t → ⊥) → (t : ℕ) → IsCut q set t → (last : ℕ)
      × IsLastCut q set last
  last_below zero above t cut = absurd (above t (omega arith) cut)
  last_below (suc bound) above t cut = elim (cut_cases bound) [
    | inl found ↦ (
      bound,
      record {
        cut = found;
        greatest = λ u cut_u. elim (cases_lt bound u) [
          | inl beyond ↦ absurd (above u (omega (arith, beyond)) cut_u)
          | inr within ↦ within
        ];
      },
    )
    | inr none ↦ last_below bound (λ u at cut_u. elim (cases_eq u bound) [
      | inl same ↦ none (subst (IsCut q set) same cut_u)
      | inr other ↦ above u (omega (arith, at, other)) cut_u
    ]) t cut
  ]

  -- so a connected set of several tables has a last cut
  pub last_cut : IsConnected q.links set → (first : ℕ) → Has set first → set ≢ 2 ^ first → (t : ℕ) × IsLastCut q set t
  last_cut connected first has several =
      let (t, in_set, others) = some_cut q.links set first small connected has several in
      last_below 32 (λ u above cut_u. absurd (omega (arith, above, has_below set u small cut_u.0))) t (in_set, others)
