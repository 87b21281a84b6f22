-- Whether a query has too many hashed lists or orders, and how many, is told by its parts.
use Rattle.std.proofs.Common.{◌≡◌, ◌≢◌, ◌<◌, ◌≤◌, ℕ, ◌++◌, length, filter_map, flat_map, refl, sym, ap, ◌∙◌, subst}
use Rattle.std.proofs.Common.{arith}
use Rattle.query_core.specs.declared.query.Query.{Query}
use Rattle.request_props.specs.Found.{one_each, ascending, elements_of, sides_of, unless_empty}
use Rattle.request_props.specs.Listing.{listing_of}
use Rattle.request_props.specs.Numbered.{lists_of, orders_of, IsWithinLimits, IsRefusedFor}
use Rattle.request_props.specs.declared.fault.PropsFault.{PropsFault}
use Rattle.request_props.specs.declared.fault.PropsFault.TheVariants.{TooManyLists, TooManyOrders, Memory}
use Rattle.orca_cli.proofs.OneQuery.{AreAlike}

module _ (q r : Query) (same : AreAlike q r) where
  -- queries of the same parts have the same hashed lists
  lists_again : lists_of q ≡ lists_of r
  lists_again = λ i.
      listing_of (filter_map (λ table. table.hashed) (same.tables i) ++ one_each
      (flat_map (sides_of (same.items i)) (same.preds i)) ++ unless_empty (same.group_by i))

  -- and the same orders
  orders_again : orders_of q ≡ orders_of r
  orders_again = λ i.
      listing_of (unless_empty (elements_of (same.order i)) ++ one_each
      (ascending (flat_map (sides_of (same.items i)) (same.preds i))) ++ unless_empty (ascending (same.group_by i)))

  -- so what one has too many of the other has too
  pub refused_again : (fault : PropsFault) → IsRefusedFor q fault → IsRefusedFor r fault
  refused_again (TooManyLists found) is = (is.0 ∙ ap length lists_again, is.1)
  refused_again (TooManyOrders found) is =
      (subst (λ lists. length lists ≤ 60) lists_again is.0, is.1 ∙ ap length orders_again, is.2)
  refused_again Memory is = tt

-- the count of too many isn't within the limit
over_limit : (found count : ℕ) → found ≡ count → 60 < found → count ≤ 60 → ⊥
over_limit found count same over within = omega (arith, same, over, within)

-- a query within the limits has too many of nothing
pub within_limits : (q : Query) (fault : PropsFault) → IsWithinLimits q → IsRefusedFor q fault → fault ≢ Memory → ⊥
within_limits q (TooManyLists found) within is not_memory =
    over_limit found (length (lists_of q)) is.0 is.1 within.few_lists
within_limits q (TooManyOrders found) within is not_memory =
    over_limit found (length (orders_of q)) is.1 is.2 within.few_orders
within_limits q Memory within is not_memory = not_memory refl

-- a query has one such fault: the lists are told first
pub one_limit : (q : Query) (f g : PropsFault) → IsRefusedFor q f → IsRefusedFor q g → f ≢ Memory → g ≢ Memory → f ≡ g
one_limit q (TooManyLists n) (TooManyLists m) is again first second = ap TooManyLists (is.0 ∙ sym again.0)
one_limit q (TooManyLists n) (TooManyOrders m) is again first second =
    absurd (over_limit n (length (lists_of q)) is.0 is.1 again.0)
one_limit q (TooManyLists n) Memory is again first second = absurd (second refl)
one_limit q (TooManyOrders n) (TooManyLists m) is again first second =
    absurd (over_limit m (length (lists_of q)) again.0 again.1 is.0)
one_limit q (TooManyOrders n) (TooManyOrders m) is again first second = ap TooManyOrders (is.1 ∙ sym again.1)
one_limit q (TooManyOrders n) Memory is again first second = absurd (second refl)
one_limit q Memory g is again first second = absurd (first refl)
