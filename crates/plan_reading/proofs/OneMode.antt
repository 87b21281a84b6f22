-- The text of how a join or an aggregation works tells its mode, and that of an order or a list its number.
use Rattle.std.proofs.Common.{◌≡◌, ℕ, ◌<◌, ◌^◌, ◌↔◌, List, ◌++◌, length, drop, get_or, refl, sym, ap, ◌∙◌, arith}
use Rattle.std.proofs.Common.{decimal}
use Rattle.std.specs.Prelude.{codes}
use Rattle.std.proofs.lemmas.Fmt.{decimal_injective}
use Rattle.std.proofs.lemmas.List.{append_cancel_right}
use Rattle.query_core.specs.declared.query.Query.{Query}
use Rattle.query_text.specs.Lists.{list_text, order_text}
use Rattle.request_props.specs.Listing.{listing_of, IsListing}
use Rattle.request_props.specs.Numbered.{IsList, list_of, order_of}
use Rattle.plan_space.specs.declared.modes.Mode.{Mode}
use Rattle.plan_space.specs.declared.modes.Mode.TheVariants as modes
use Rattle.plan_check.specs.Nodes.{IsOrder}
use Rattle.plan_reading.specs.Named.{HasOnlyForm, HasHashForm, HasMergeForm, HasLoopForm, HasAggForm}
use Rattle.plan_reading.proofs.Behind.{hash_words, merge_words, loop_words, agg_words}
use Rattle.plan_reading.proofs.Elements.{list_text_one, order_text_one}
use Rattle.plan_reading.proofs.Lists.{list_columns, list_one, order_elements, order_one}

-- numbers before a bracket
numbers_one : (m n : ℕ) → m < 2 ^ 64 → n < 2 ^ 64 → decimal m ++ codes ")" ≡ decimal n ++ codes ")" → m ≡ n
numbers_one m n m_small n_small same =
    decimal_injective m n m_small n_small (append_cancel_right (decimal m) (decimal n) (codes ")") same)

pub only_one : (m n : Mode) → HasOnlyForm m → HasOnlyForm n → m ≡ n
only_one (modes.Plain m) (modes.Plain n) in_m in_n = ap modes.Plain (in_m ∙ sym in_n)
only_one (modes.Copied m) n in_m in_n = absurd in_m
only_one (modes.Hashed m) n in_m in_n = absurd in_m
only_one (modes.Plain m) (modes.Copied n) in_m in_n = absurd in_n
only_one (modes.Plain m) (modes.Hashed n) in_m in_n = absurd in_n

pub loop_one : (m n : Mode) → HasLoopForm m → HasLoopForm n → loop_words m ++ codes ")" ≡ loop_words n ++ codes ")"
    → m ≡ n
loop_one (modes.Plain m) (modes.Plain n) in_m in_n same = ap modes.Plain (in_m ∙ sym in_n)
loop_one (modes.Copied m) (modes.Copied n) in_m in_n same = ap modes.Copied (in_m ∙ sym in_n)
loop_one (modes.Hashed m) n in_m in_n same = absurd in_m
loop_one m (modes.Hashed n) in_m in_n same = absurd in_n
loop_one m n in_m in_n same = absurd (omega (arith, ap (λ t. get_or t 0 0) same))

module _ (q : Query) where
  pred_few : (n : ℕ) → n < length q.preds → n < 2 ^ 64
  pred_few n below = let few = q.preds_valid.few in omega arith

  pub hash_one : (m n : Mode) → HasHashForm q m → HasHashForm q n → hash_words m ++ codes ")" ≡ hash_words n ++ codes ")"
      → m ≡ n
  hash_one (modes.Plain m) (modes.Plain n) in_m in_n same = ap modes.Plain (in_m ∙ sym in_n)
  hash_one (modes.Copied m) (modes.Copied n) in_m in_n same = ap modes.Copied (in_m ∙ sym in_n)
  hash_one (modes.Hashed m) (modes.Hashed n) in_m in_n same =
      ap modes.Hashed (numbers_one m n (pred_few m in_m) (pred_few n in_n) (ap (drop 11) same))
  hash_one m n in_m in_n same = absurd (omega (arith, ap (λ t. get_or t 0 0) same, ap (λ t. get_or t 2 0) same))

  pub merge_one : (m n : Mode) → HasMergeForm q m → HasMergeForm q n
      → merge_words m ++ codes ")" ≡ merge_words n ++ codes ")" → m ≡ n
  merge_one (modes.Plain m) (modes.Plain n) in_m in_n same =
      ap modes.Plain (numbers_one m n (pred_few m in_m) (pred_few n in_n) (ap (drop 5) same))
  merge_one (modes.Copied m) (modes.Copied n) in_m in_n same =
      ap modes.Copied (numbers_one m n (pred_few m in_m) (pred_few n in_n) (ap (drop 8) same))
  merge_one (modes.Hashed m) (modes.Hashed n) in_m in_n same =
      ap modes.Hashed (numbers_one m n (pred_few m in_m) (pred_few n in_n) (ap (drop 11) same))
  merge_one m n in_m in_n same = absurd (omega (arith, ap (λ t. get_or t 0 0) same, ap (λ t. get_or t 2 0) same))

module _ (q : Query) (listing : (found lists : List (List ℕ)) → IsListing found lists ↔ (lists ≡ listing_of found)) where
  pub lists_one : (h k : ℕ) → IsList q h → IsList q k → list_text q (list_of q h) ++ codes ")" ≡ list_text q (list_of q k) ++ codes ")"
      → h ≡ k
  lists_one h k h_is k_is same = list_one q listing h k h_is k_is
      (list_text_one q (list_of q h) (list_of q k) (codes ")") (codes ")") (list_columns q listing h h_is)
      (list_columns q listing k k_is) refl refl same).0

  pub orders_one : (o p : ℕ) → IsOrder q o → IsOrder q p
      → order_text q (order_of q o) ++ codes ")" ≡ order_text q (order_of q p) ++ codes ")" → o ≡ p
  orders_one o p o_is p_is same = order_one q listing o p o_is p_is
      (order_text_one q (order_of q o) (order_of q p) (codes ")") (codes ")") (order_elements q listing o o_is)
      (order_elements q listing p p_is) refl refl same).0

  pub agg_one : (m n : Mode) → HasAggForm q m → HasAggForm q n → agg_words q m ++ codes ")" ≡ agg_words q n ++ codes ")"
      → m ≡ n
  agg_one (modes.Plain m) (modes.Plain n) in_m in_n same = ap modes.Plain (in_m ∙ sym in_n)
  agg_one (modes.Hashed m) (modes.Hashed n) in_m in_n same = ap modes.Hashed (lists_one m n in_m in_n (ap (drop 7) same))
  agg_one (modes.Copied m) n in_m in_n same = absurd in_m
  agg_one m (modes.Copied n) in_m in_n same = absurd in_n
  agg_one m n in_m in_n same = absurd (omega (arith, ap (λ t. get_or t 0 0) same))
