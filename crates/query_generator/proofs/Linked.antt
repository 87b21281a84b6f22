-- Where the predicates link each table to a lesser one, no TRUE link is wanted.
use Rattle.std.proofs.Common.{◌≡◌, ℕ, zero, suc, ◌-◌, ◌^◌, ◌<◌, ◌≤◌, ◌&&◌, Bool, true, List, [], length, nat_lt, refl}
use Rattle.std.proofs.Common.{arith, subst, sym}
use Rattle.std.specs.List.{list_all, range_with_len}
use Rattle.std.proofs.Math.Seq.{take-length, drop-length}
use Rattle.std.proofs.lemmas.Bool.{and_parts, false≢true, ltb-true}
use Rattle.std.proofs.lemmas.Nat.Bits.{bit_at_ones}
use Rattle.query_core.specs.declared.predicate.Link.{Link}
use Rattle.query_core.specs.declared.predicate.Pred.{Pred}
use Rattle.query_core.specs.declared.table.Item.{Item}
use Rattle.query_core.specs.declared.table.QueryTable.{QueryTable}
use Rattle.query_core.specs.Connected.{are_joined, Reaches, here, along}
use Rattle.query_core.specs.Sets.{bit, Has}
use Rattle.query_core.specs.Links.{AreLinks, AreTrueLinks, StartsComponent, is_between, predicate_links}
use Rattle.query_generator.proofs.Throughout.{in_range}

-- the table is joined to a lesser one
abbrev pub leads : List Link → (ℕ → ℕ) → ℕ → Bool
leads links lesser t = are_joined links t (lesser t) && nat_lt (lesser t) t

first_tables : (count t : ℕ) → t < count → Has (2 ^ count - 1) t
unfolding bit
first_tables count t below = bit_at_ones count t below

module _ (count : ℕ) (links : List Link) (lesser : ℕ → ℕ)
    (all : list_all (leads links lesser) (range_with_len 1 (count - 1)) ≡ true) where
  leads_on : (t : ℕ) → 0 < t → t < count → leads links lesser t ≡ true
  leads_on t some below = in_range (leads links lesser) 1 (count - 1) t all (omega arith) (omega arith)

  -- from table to lesser table, down to table 0
  down : (steps from t : ℕ) → t ≤ steps → t < count → Reaches links (2 ^ count - 1) from t
      → Reaches links (2 ^ count - 1) from 0
  down steps from zero few below reached = reached
  down zero from (suc t) few below reached = absurd (omega arith)
  down (suc steps) from (suc t) few below reached =
      let parts = and_parts (are_joined links (suc t) (lesser (suc t))) (nat_lt (lesser (suc t)) (suc t))
      (leads_on (suc t) (omega arith) below) in
      let less : lesser (suc t) < suc t = ltb-true (lesser (suc t)) (suc t) parts.1 in
      down steps from (lesser (suc t)) (omega (arith, less)) (omega (arith, less))
      (along reached parts.0 (first_tables count (lesser (suc t)) (omega (arith, less))))

  -- no table but table 0 is the least that it reaches
  none_starts : (t : ℕ) → StartsComponent count links t → ⊥
  none_starts t starts =
      let reached = down t t t (omega arith) starts.there (here (first_tables count t starts.there)) in
      let least : t ≤ 0 = starts.least 0 reached in
      absurd (omega (arith, least, starts.not_first))

none_wanted : (IsWanted : ℕ → Type 0) → ((t : ℕ) → IsWanted t → ⊥) → AreTrueLinks IsWanted []
none_wanted IsWanted none = record {
  ascending = refl;
  tables = λ t. (λ joined. absurd (false≢true joined), λ wanted. absurd (none t wanted));
}

pub are_links : (tables : List QueryTable) (items : List Item) (preds : List Pred) (lesser : ℕ → ℕ)
    → list_all (is_between (length tables)) (predicate_links items preds) ≡ true
    → list_all (leads (predicate_links items preds) lesser) (range_with_len 1 (length tables - 1)) ≡ true
    → AreLinks tables items preds (predicate_links items preds)
are_links tables items preds lesser between all =
    let made = predicate_links items preds in
    let IsWanted = StartsComponent (length tables) made in
    record {
      between_tables = between;
      in_order = record {
        made_first = take-length made;
        true_last = subst (AreTrueLinks IsWanted) (sym (drop-length made))
            (none_wanted IsWanted (none_starts (length tables) made lesser all));
      };
    }
