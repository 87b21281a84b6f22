-- Components of what a part leaves of a connected set: each may be taken away, and each is linked to the part.
use Rattle.std.proofs.Common.{◌≡◌, ℕ, ◌-◌, List, arith, IsTrue, ◌⊎◌, inl, inr}
use Rattle.std.specs.Prelude.{bit_and, bit_xor}
use Rattle.query_core.specs.Sets.{bit, Has}
use Rattle.query_core.specs.Connected.{are_joined, Reaches, here, along, IsConnected, AreLinked, IsReached}
use Rattle.query_core.specs.declared.predicate.Link.{Link}
use Rattle.query_core.proofs.Bits.{bit-below, bit-difference}
use Rattle.query_core.proofs.Reach.{reached_in, Reaches-then, Reaches-turned}
use Rattle.query_core.proofs.Unions.{reaches_in_more}
use Rattle.query_core.proofs.Whole.{bit_cases}

-- the tables of the one set that are not in the other
abbrev pub less_of : ℕ → ℕ → ℕ
less_of set part = bit_xor set (bit_and set part)

-- larger sets are linked where smaller ones are
pub linked_in_more : (links : List Link) (a b c d : ℕ) → ((t : ℕ) → Has a t → Has c t) → ((t : ℕ) → Has b t → Has d t)
    → AreLinked links a b → AreLinked links c d
linked_in_more links a b c d left right (t, (in_b, (s, in_a, joined))) = (t, (right t in_b, (s, left s in_a, joined)))

-- the part is in the set, and the component is one of what the part leaves
pub record IsCarved (links : List Link) (set part rest from found : ℕ) : Type 0 where
  pub within : (t : ℕ) → Has part t → Has set t
  pub left : (t : ℕ) → bit rest t ≡ bit set t - bit part t
  pub start : Has rest from
  pub reached : IsReached links rest from found

module _ (links : List Link) (set part rest from found : ℕ) (carved : IsCarved links set part rest from found) where
  -- a table of the component is one of the rest
  pub carved_rest : (t : ℕ) → Has found t → Has rest t
  carved_rest t has = reached_in links rest (carved.reached.sound t has)

  -- so it is in the set, and not in the part
  pub carved_set : (t : ℕ) → Has found t → Has set t
  carved_set t has = omega (arith, carved.left t, carved_rest t has, bit-below set t)

  pub carved_apart : (t : ℕ) → Has found t → bit part t ≡ 0
  carved_apart t has = omega (arith, carved.left t, carved_rest t has, bit-below set t, bit-below part t)

  -- the component has the table that it is named by
  pub carved_from : Has found from
  carved_from = carved.reached.complete from (here carved.start)

  -- a link out of the component leads to the part
  carved_closed : (s t : ℕ) → Has found s → IsTrue (are_joined links s t) → Has set t → Has found t ⊎ Has part t
  carved_closed s t has joined there = elim (bit_cases part t) [
    | inl in_part ↦ inr in_part
    | inr none ↦ inl (carved.reached.complete t
        (along (carved.reached.sound s has) joined (omega (arith, carved.left t, none, there))))
  ]

  -- the ways inside the component
  inside : {t : ℕ} → Reaches links rest from t → Reaches links found from t
  inside (here there) = here carved_from
  inside (along {s} {t} before joined there) =
      along (inside before) joined (carved.reached.complete t (along before joined there))

  -- the component is connected
  pub carved_connected : IsConnected links found
  carved_connected s t has_s has_t =
      Reaches-then links found (Reaches-turned links found (inside (carved.reached.sound s has_s)))
      (inside (carved.reached.sound t has_t))

  -- a way from the component stays in it, or the component is linked to the part
  way_out : {t : ℕ} → Reaches links set from t → Has found t ⊎ AreLinked links found part
  way_out (here there) = inl carved_from
  way_out (along {s} {t} before joined there) = elim (way_out before) [
    | inr linked ↦ inr linked
    | inl has ↦ elim (carved_closed s t has joined there) [
      | inl in_found ↦ inl in_found
      | inr in_part ↦ inr (t, (in_part, (s, has, joined)))
    ]
  ]

  module _ (connected : IsConnected links set) (first : ℕ) (in_part : Has part first) where
    -- the component is linked to the part
    pub carved_linked : AreLinked links found part
    carved_linked = elim (way_out (connected from first (carved_set from carved_from) (carved.within first in_part))) [
      | inl has ↦ absurd (omega (arith, carved_apart first has, in_part))
      | inr linked ↦ linked
    ]

    module _ (whole : IsConnected links part) where
      -- the part is among the others
      others_part : (t : ℕ) → Has part t → Has (less_of set found) t
      others_part t has = elim (bit_cases found t) [
        | inl in_found ↦ absurd (omega (arith, carved_apart t in_found, has))
        | inr none ↦ omega (arith, bit-difference set found t, carved.within t has, none)
      ]

      -- a way from the part leads into the component, or there is one around it
      around : {t : ℕ} → Reaches links set first t → Has found t ⊎ Reaches links (less_of set found) first t
      around (here there) = inr (here (others_part first in_part))
      around (along {s} {t} before joined there) = elim (bit_cases found t) [
        | inl has ↦ inl has
        | inr none ↦ elim (around before) [
          | inr way ↦ inr (along way joined (omega (arith, bit-difference set found t, there, none)))
          | inl has ↦ elim (carved_closed s t has joined there) [
            | inl in_found ↦ inl in_found
            | inr to_part ↦ inr (reaches_in_more links part (less_of set found) others_part
                (whole first t in_part to_part))
          ]
        ]
      ]

      -- the others are connected without the component
      pub others_connected : IsConnected links (less_of set found)
      others_connected s t has_s has_t =
          let way : (u : ℕ) → Has (less_of set found) u → Reaches links (less_of set found) first u = λ u has.
          elim (around (connected first u (carved.within first in_part)
          (omega (arith, bit-difference set found u, has, bit-below set u)))) [
            | inl in_found ↦ absurd (omega (arith, bit-difference set found u, has, in_found, bit-below set u))
            | inr reaches ↦ reaches
          ] in
          Reaches-then links (less_of set found) (Reaches-turned links (less_of set found) (way s has_s)) (way t has_t)
