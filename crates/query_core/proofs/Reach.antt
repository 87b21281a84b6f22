-- Laws of tables that reach each other by links.
use Rattle.std.proofs.Common.{◌≡◌, ℕ, ◌+◌, ◌<◌, ◌≤◌, Bool, true, false, ◌&&◌, ◌||◌, ◌==◌, List, [], ◌∷◌, length, take}
use Rattle.std.proofs.Common.{get_or, refl, sym, subst, inl, inr, ◌∙◌, arith, IsTrue, ◌↔◌}
use Rattle.std.proofs.lemmas.List.Folds.{list_any_more, list_any_at}
use Rattle.std.proofs.lemmas.Bool.{cases_eq}
use Rattle.std.proofs.Math.Bool.{or_comm}
use Rattle.query_core.specs.declared.predicate.Link.{Link}
use Rattle.query_core.specs.Sets.{Has, Adds}
use Rattle.query_core.specs.Connected.{joins, are_joined, Reaches, here, along, IsConnected, IsLead, AreLinked}
use Rattle.query_core.specs.Connected.{IsReached, IsClosed}
use Rattle.query_core.proofs.Bits.{bit-below, bit-none, same_tables}

module _ (links : List Link) (set : ℕ) where
  -- what is reached is in the set
  pub reached_in : {s t : ℕ} → Reaches links set s t → Has set t
  reached_in (here there) = there
  reached_in (along before joined there) = there

  -- what reaches something is in the set
  pub reaches_from : {s t : ℕ} → Reaches links set s t → Has set s
  reaches_from (here there) = there
  reaches_from (along before joined there) = reaches_from before

  -- two ways one after the other
  pub Reaches-then : {s t u : ℕ} → Reaches links set s t → Reaches links set t u → Reaches links set s u
  Reaches-then first (here there) = first
  Reaches-then first (along before joined there) = along (Reaches-then first before) joined there

  -- a set that no link leaves has all that is reached from one of its tables
  pub reached_all : (found from : ℕ) → Has found from → IsClosed links set found → {t : ℕ} → Reaches links set from t
      → Has found t
  reached_all found from first closed (here there) = first
  reached_all found from first closed (along {s} {t} before joined there) =
      closed s t (reached_all found from first closed before) joined there

-- a link joins both ways
pub joined_turned : (links : List Link) (s t : ℕ) → are_joined links s t ≡ are_joined links t s
joined_turned [] s t = refl
joined_turned (link ∷ links) s t = grind
    (arith, or_comm (link.a == s && link.b == t) (link.a == t && link.b == s), joined_turned links s t)

module _ (links : List Link) (set : ℕ) where
  -- the way back
  pub Reaches-turned : {s t : ℕ} → Reaches links set s t → Reaches links set t s
  Reaches-turned (here there) = here there
  Reaches-turned (along {s} {t} before joined there) =
      Reaches-then links set
      (along (here there) (subst (λ b. IsTrue b) (joined_turned links s t) joined) (reached_in links set before))
      (Reaches-turned before)

  -- the search begins with the first table
  pub reached_first : (from found : ℕ) → Has set from → Adds 0 from found → (t : ℕ) → Has found t
      → Reaches links set from t
  reached_first from found has adds t there =
      elim (cases_eq t from) [
        | inl same ↦ subst (λ x. Reaches links set from x) (sym same) (here has)
        | inr other ↦ absurd (omega (arith, adds.others t other, bit-none t, there))
      ]

  -- and goes on with a table to which a link leads
  pub reached_next : (from found new next : ℕ) → ((t : ℕ) → Has found t → Reaches links set from t)
      → IsLead links found set next → Adds found next new → (t : ℕ) → Has new t → Reaches links set from t
  reached_next from found new next sound (has_next, (s, has_s, joined)) adds t there =
      elim (cases_eq t next) [
        | inl same ↦ subst (λ x. Reaches links set from x) (sym same) (along (sound s has_s) joined has_next)
        | inr other ↦ sound t (omega (arith, adds.others t other, there))
      ]

  -- what is reached from a table of the set that no link leaves
  pub reached_is : (from found : ℕ) → Has found from → IsClosed links set found
      → ((t : ℕ) → Has found t → Reaches links set from t)
      → IsReached links set from found
  reached_is from found first closed sound = record {
    sound = sound;
    complete = λ t reaches. reached_all links set found from first closed reaches;
  }

  -- a set is connected where it is what one of its tables reaches
  pub connected_from : (from : ℕ) → IsReached links set from set → IsConnected links set
  connected_from from reached s t has_s has_t =
      Reaches-then links set (Reaches-turned (reached.sound s has_s)) (reached.sound t has_t)

  -- and then it is all that this table reaches
  pub whole_from : (from found : ℕ) → Has set from → IsReached links set from found → IsConnected links set
      → found ≡ set
  whole_from from found has reached connected = same_tables found set (λ t.
      grind (
        arith,
        bit-below found t,
        bit-below set t,
        λ (there : Has found t).
            reached_in links set (reached.sound t there),
        λ (there : Has set t).
            reached.complete t (connected from t has there),
      ))

-- one of two tests that are true together is true
either_true : (x y : Bool) → IsTrue (x || y) → (IsTrue x → ⊥) → (IsTrue y → ⊥) → ⊥
either_true true y given not_x not_y = not_x refl
either_true false y given not_x not_y = not_y given

-- a list of one link joins what the link joins
only_link : (x : Bool) → IsTrue (x || false) ↔ IsTrue x
only_link true = (λ given. refl, λ given. refl)
only_link false = (λ given. given, λ given. given)

-- one more link that doesn't lead from the one set to the other
pub linked_more : (links : List Link) (i : ℕ) (d : Link) (a b : ℕ) → i < length links
    → (AreLinked (take i links) a b → ⊥) → (AreLinked (get_or links i d ∷ []) a b → ⊥)
    → AreLinked (take (i + 1) links) a b → ⊥
linked_more links i d a b within before this (t, (has_t, (s, has_s, joined))) =
    either_true (are_joined (take i links) s t) (joins s t (get_or links i d))
    (subst (λ x. IsTrue x) (list_any_more (joins s t) links i d within) joined)
    (λ old. before (t, (has_t, (s, has_s, old))))
    (λ new. this (t, (has_t, (s, has_s, (only_link (joins s t (get_or links i d))).1 new))))

-- a link that leads is one of the links
pub lead_at : (links : List Link) (i : ℕ) (d : Link) (a b t : ℕ) → i < length links
    → IsLead (get_or links i d ∷ []) a b t → IsLead links a b t
lead_at links i d a b t within (has_t, (s, has_s, joined)) =
    (has_t, (s, has_s, list_any_at (joins s t) links i d within ((only_link (joins s t (get_or links i d))).0 joined)))

pub ruleset reaching = (arith, bit-below, bit-none, linked_more, lead_at)
