-- A whole query is read exactly.
use Rattle.std.proofs.Common.{◌≡◌, ℕ, ◌<◌, ◌≤◌, List, [], ◌∷◌, length, ◌⊎◌, inl, inr, refl, sym, ap, subst, arith}
use Rattle.sql_reader.specs.Marks.{mark_number}
use Rattle.sql_reader.specs.declared.tokens.Mark.{Mark}
use Rattle.sql_reader.specs.declared.tokens.Mark.TheVariants as marks
use Rattle.sql_reader.specs.declared.tokens.Token.{Token}
use Rattle.sql_reader.specs.declared.faults.Limit.{Limit}
use Rattle.sql_reader.specs.declared.faults.Limit.TheVariants as limits
use Rattle.sql_reader.specs.declared.syntax.ColRef.{ColRef}
use Rattle.sql_reader.specs.declared.syntax.SelItem.{SelItem}
use Rattle.sql_reader.specs.declared.syntax.FromItem.{FromItem}
use Rattle.sql_reader.specs.declared.syntax.SelPred.{SelPred}
use Rattle.sql_reader.specs.declared.syntax.SelKey.{SelKey}
use Rattle.sql_reader.specs.declared.syntax.Select.{Select}
use Rattle.sql_reader.specs.Grammar.{Then, Elements}
use Rattle.sql_reader.specs.Steps.{then_at}
use Rattle.sql_reader.specs.Query.{select_of, IsItem, IsTable, IsWhere, IsGroupBy, IsOrderBy, IsEnd, IsBody, IsQuery}
use Rattle.sql_reader.specs.Reading.{items_at, tables_at, where_at, group_by_at, order_by_at, end_at, body_at, query_at}
use Rattle.sql_reader.specs.Faults.{Exceeds}
use Rattle.sql_reader.proofs.Exact.{Exact, as_exact}
use Rattle.sql_reader.proofs.Branches.{after}
use Rattle.sql_reader.proofs.Sequences.{both_exact}
use Rattle.sql_reader.proofs.ListParts.{Above}
use Rattle.sql_reader.proofs.Apart.{AMark, AName, mark_token, one_mark}
use Rattle.sql_reader.proofs.Queries.{Inside, Behind, outside, items_exact, tables_exact, where_exact, group_by_exact}
use Rattle.sql_reader.proofs.Queries.{order_by_exact, end_exact}

abbrev AnyToken : Token → Type 0
AnyToken t = Unit {0}

-- ---- what is over its limit, from each clause on

abbrev OverOrder : Limit → Select → Type 0
OverOrder w s = Above limits.OrderBy 8 w s.order_by

abbrev OverGroup : Limit → Select → Type 0
OverGroup w s = Above limits.GroupBy 8 w s.group_by ⊎ OverOrder w s

abbrev OverWhere : Limit → Select → Type 0
OverWhere w s = Above limits.Predicates 40 w s.preds ⊎ OverGroup w s

abbrev OverFrom : Limit → Select → Type 0
OverFrom w s = Above limits.Tables 10 w s.from ⊎ OverWhere w s

abbrev pub OverAny : Limit → Select → Type 0
OverAny w s = Above limits.Items 60 w s.items ⊎ OverFrom w s

-- ---- the languages from each clause on, and what they keep

module _ (items : List SelItem) where
  module _ (from : List FromItem) where
    module _ (preds : List SelPred) where
      module _ (group_by : List ColRef) where
        abbrev FromOrder : List Token → Select → Type 0
        FromOrder = Then IsOrderBy (λ order_by. IsEnd (select_of items from preds group_by order_by))

        end_kept : (select : Select) (tokens : List Token) (z : Select) → IsEnd select tokens z → z ≡ select
        end_kept select [] z (inl h) = absurd h
        end_kept select (t ∷ []) z (inl h) = h.2
        end_kept select (t ∷ u ∷ tokens) z (inl h) = absurd h.2
        end_kept select [] z (inr h) = h
        end_kept select (t ∷ tokens) z (inr h) = absurd h

        order_kept : (tokens : List Token) (z : Select) → FromOrder tokens z
            → (order_by : List SelKey) × (z ≡ select_of items from preds group_by order_by)
        order_kept tokens z h = (h.value, end_kept (select_of items from preds group_by h.value) h.back z h.second)

        over_order : (w : Limit) (order_by : List SelKey) (tokens : List Token) (z : Select)
            → IsEnd (select_of items from preds group_by order_by) tokens z → Above limits.OrderBy 8 w order_by
            → OverOrder w z
        over_order w order_by tokens z k h =
            subst (λ (s : Select). OverOrder w s)
            (sym (end_kept (select_of items from preds group_by order_by) tokens z k)) h

        order_over : (w : Limit) (order_by : List SelKey) (tokens : List Token) (z : Select)
            → IsEnd (select_of items from preds group_by order_by) tokens z → OverOrder w z
            → Above limits.OrderBy 8 w order_by
        order_over w order_by tokens z k h =
            subst (λ (s : Select). OverOrder w s) (end_kept (select_of items from preds group_by order_by) tokens z k) h

        from_order_exact : Exact FromOrder (Behind 21) AnyToken (Unit {0}) OverOrder
            (then_at order_by_at (λ order_by. end_at (select_of items from preds group_by order_by)))
        unfolding Behind
        from_order_exact = as_exact
            (both_exact IsOrderBy _ _ _ _ order_by_at
            (λ order_by. IsEnd (select_of items from preds group_by order_by)) _ _ _ _
            (λ order_by. end_at (select_of items from preds group_by order_by)) OverOrder
            order_by_exact (λ order_by. end_exact (select_of items from preds group_by order_by)) (outside 22)
            over_order (λ w z h. absurd h) (λ w x tokens z k h. inl (order_over w x tokens z k h)))
            begun (λ t h. tt) (λ h. tt)
          where
            begun : (t : Token) → AMark marks.Order t ⊎ (Unit {0} × ((m : Mark) × AMark m t × (22 ≤ mark_number m)))
                → (m : Mark) × AMark m t × (21 ≤ mark_number m)
            begun t (inl h) = (marks.Order, h, omega arith)
            begun t (inr h) = (h.1.0, h.1.1, omega (arith, h.1.2))

      abbrev FromGroup : List Token → Select → Type 0
      FromGroup = Then IsGroupBy FromOrder

      group_kept : (tokens : List Token) (z : Select) → FromGroup tokens z
          → (group_by : List ColRef) × (order_by : List SelKey) × (z ≡ select_of items from preds group_by order_by)
      group_kept tokens z h = let k = order_kept h.value h.back z h.second in (h.value, k.0, k.1)

      over_group : (w : Limit) (group_by : List ColRef) (tokens : List Token) (z : Select)
          → FromOrder group_by tokens z → Above limits.GroupBy 8 w group_by → OverGroup w z
      over_group w group_by tokens z k h =
          inl (subst (λ (s : Select). Above limits.GroupBy 8 w s.group_by) (sym (order_kept group_by tokens z k).1) h)

      group_over : (w : Limit) (group_by : List ColRef) (tokens : List Token) (z : Select)
          → FromOrder group_by tokens z → OverGroup w z → Above limits.GroupBy 8 w group_by ⊎ OverOrder w z
      group_over w group_by tokens z k (inl h) =
          inl (subst (λ (s : Select). Above limits.GroupBy 8 w s.group_by) (order_kept group_by tokens z k).1 h)
      group_over w group_by tokens z k (inr h) = inr h

      from_group_exact : Exact FromGroup (Behind 20) AnyToken (Unit {0}) OverGroup
          (then_at group_by_at (λ group_by. then_at order_by_at
          (λ order_by. end_at (select_of items from preds group_by order_by))))
      unfolding Behind
      from_group_exact = as_exact
          (both_exact IsGroupBy _ _ _ _ group_by_at FromOrder _ _ _ _
          (λ group_by. then_at order_by_at (λ order_by. end_at (select_of items from preds group_by order_by)))
          OverGroup
          group_by_exact from_order_exact (outside 21) over_group (λ w z h. inr h) group_over)
          begun (λ t h. tt) (λ h. tt)
        where
          begun : (t : Token) → AMark marks.Group t ⊎ (Unit {0} × ((m : Mark) × AMark m t × (21 ≤ mark_number m)))
              → (m : Mark) × AMark m t × (20 ≤ mark_number m)
          begun t (inl h) = (marks.Group, h, omega arith)
          begun t (inr h) = (h.1.0, h.1.1, omega (arith, h.1.2))

    abbrev FromWhere : List Token → Select → Type 0
    FromWhere = Then IsWhere FromGroup

    where_kept : (tokens : List Token) (z : Select) → FromWhere tokens z
        → (preds : List SelPred) × (group_by : List ColRef) × (order_by : List SelKey)
        × (z ≡ select_of items from preds group_by order_by)
    where_kept tokens z h = let k = group_kept h.value h.back z h.second in (h.value, k.0, k.1, k.2)

    over_where : (w : Limit) (preds : List SelPred) (tokens : List Token) (z : Select) → FromGroup preds tokens z
        → Above limits.Predicates 40 w preds → OverWhere w z
    over_where w preds tokens z k h =
        inl (subst (λ (s : Select). Above limits.Predicates 40 w s.preds) (sym (group_kept preds tokens z k).2) h)

    where_over : (w : Limit) (preds : List SelPred) (tokens : List Token) (z : Select) → FromGroup preds tokens z
        → OverWhere w z → Above limits.Predicates 40 w preds ⊎ OverGroup w z
    where_over w preds tokens z k (inl h) =
        inl (subst (λ (s : Select). Above limits.Predicates 40 w s.preds) (group_kept preds tokens z k).2 h)
    where_over w preds tokens z k (inr h) = inr h

    from_where_exact : Exact FromWhere (Behind 19) AnyToken (Unit {0}) OverWhere
        (then_at where_at (λ preds. then_at group_by_at
        (λ group_by. then_at order_by_at (λ order_by. end_at (select_of items from preds group_by order_by)))))
    unfolding Behind
    from_where_exact = as_exact
        (both_exact IsWhere _ _ _ _ where_at FromGroup _ _ _ _
        (λ preds. then_at group_by_at (λ group_by. then_at order_by_at
        (λ order_by. end_at (select_of items from preds group_by order_by)))) OverWhere
        where_exact from_group_exact (outside 20) over_where (λ w z h. inr h) where_over)
        begun (λ t h. tt) (λ h. tt)
      where
        begun : (t : Token) → AMark marks.Where t ⊎ (Unit {0} × ((m : Mark) × AMark m t × (20 ≤ mark_number m)))
            → (m : Mark) × AMark m t × (19 ≤ mark_number m)
        begun t (inl h) = (marks.Where, h, omega arith)
        begun t (inr h) = (h.1.0, h.1.1, omega (arith, h.1.2))

  abbrev Tables : List Token → Select → Type 0
  Tables = Then (Elements marks.Comma IsTable) FromWhere

  tables_kept : (tokens : List Token) (z : Select) → Tables tokens z
      → (from : List FromItem) × (preds : List SelPred) × (group_by : List ColRef) × (order_by : List SelKey)
      × (z ≡ select_of items from preds group_by order_by)
  tables_kept tokens z h = let k = where_kept h.value h.back z h.second in (h.value, k.0, k.1, k.2, k.3)

  over_from : (w : Limit) (from : List FromItem) (tokens : List Token) (z : Select) → FromWhere from tokens z
      → Above limits.Tables 10 w from → OverFrom w z
  over_from w from tokens z k h =
      inl (subst (λ (s : Select). Above limits.Tables 10 w s.from) (sym (where_kept from tokens z k).3) h)

  from_over : (w : Limit) (from : List FromItem) (tokens : List Token) (z : Select) → FromWhere from tokens z
      → OverFrom w z → Above limits.Tables 10 w from ⊎ OverWhere w z
  from_over w from tokens z k (inl h) =
      inl (subst (λ (s : Select). Above limits.Tables 10 w s.from) (where_kept from tokens z k).3 h)
  from_over w from tokens z k (inr h) = inr h

  body_exact : Exact (IsBody items) (AMark marks.From) AnyToken ⊥ OverFrom (body_at items)
  unfolding body_at Inside
  body_exact = as_exact
      (after (mark_token marks.From) _ refl (λ (_ : ℕ).
      both_exact (Elements marks.Comma IsTable) _ _ _ _ tables_at FromWhere _ _ _ _
      (λ from. then_at where_at (λ preds. then_at group_by_at
      (λ group_by. then_at order_by_at (λ order_by. end_at (select_of items from preds group_by order_by)))))
      OverFrom
      tables_exact from_where_exact table_outside over_from (λ w z h. inr h) from_over))
      (λ t h. h) (λ t h. tt) (λ h. h)
    where
      table_outside : (t : Token) → AMark marks.Comma t ⊎ (AMark marks.As t ⊎ AName t) → Behind 19 t → ⊥
      table_outside t (inl h) k = outside 19 t (inr (marks.Comma, h, omega arith)) k
      table_outside t (inr (inl h)) k = outside 19 t (inr (marks.As, h, omega arith)) k
      table_outside t (inr (inr h)) k = outside 19 t (inl h) k

body_kept : (items : List SelItem) (tokens : List Token) (z : Select) → IsBody items tokens z → z.items ≡ items
body_kept items [] z h = absurd h
body_kept items (t ∷ tokens) z h = ap (λ (s : Select). s.items) (tables_kept items tokens z h.2).4

over_items : (w : Limit) (items : List SelItem) (tokens : List Token) (z : Select) → IsBody items tokens z
    → Above limits.Items 60 w items → OverAny w z
over_items w items tokens z k h =
    inl (subst (λ (xs : List SelItem). Above limits.Items 60 w xs) (sym (body_kept items tokens z k)) h)

items_over : (w : Limit) (items : List SelItem) (tokens : List Token) (z : Select) → IsBody items tokens z
    → OverAny w z → Above limits.Items 60 w items ⊎ OverFrom w z
items_over w items tokens z k (inl h) =
    inl (subst (λ (xs : List SelItem). Above limits.Items 60 w xs) (body_kept items tokens z k) h)
items_over w items tokens z k (inr h) = inr h

pub query_exact : Exact IsQuery (AMark marks.Select) AnyToken ⊥ OverAny query_at
unfolding query_at
query_exact = as_exact
    (after (mark_token marks.Select) _ refl (λ (_ : ℕ).
    both_exact (Elements marks.Comma IsItem) _ _ _ _ items_at IsBody _ _ _ _ body_at OverAny items_exact body_exact
    item_from over_items (λ w z h. inr h) items_over))
    (λ t h. h) (λ t h. tt) (λ h. h)
  where
    item_from : (t : Token) → AMark marks.Comma t ⊎ (AMark marks.As t ⊎ AMark marks.Dot t) → AMark marks.From t → ⊥
    item_from t (inl h) k = let e = one_mark marks.Comma marks.From t h k in absurd (omega (arith, e))
    item_from t (inr (inl h)) k = let e = one_mark marks.As marks.From t h k in absurd (omega (arith, e))
    item_from t (inr (inr h)) k = let e = one_mark marks.Dot marks.From t h k in absurd (omega (arith, e))

-- ---- the limits by their names

above_is : {X : Type 0} (what : Limit) (n : ℕ) (w : Limit) (xs : List X) (IsOver : Limit → Type 0)
    → (n < length xs → IsOver what) → Above what n w xs → IsOver w
above_is what n w xs IsOver h a = subst IsOver (sym a.0) (h a.1)

pub over_exceeds : (w : Limit) (s : Select) → OverAny w s → Exceeds w s
over_exceeds w s (inl h) = above_is limits.Items 60 w s.items (λ v. Exceeds v s) (λ k. k) h
over_exceeds w s (inr (inl h)) = above_is limits.Tables 10 w s.from (λ v. Exceeds v s) (λ k. k) h
over_exceeds w s (inr (inr (inl h))) = above_is limits.Predicates 40 w s.preds (λ v. Exceeds v s) (λ k. k) h
over_exceeds w s (inr (inr (inr (inl h)))) = above_is limits.GroupBy 8 w s.group_by (λ v. Exceeds v s) (λ k. k) h
over_exceeds w s (inr (inr (inr (inr h)))) = above_is limits.OrderBy 8 w s.order_by (λ v. Exceeds v s) (λ k. k) h

pub exceeds_over : (w : Limit) (s : Select) → Exceeds w s → OverAny w s
exceeds_over limits.Items s h = inl (refl, h)
exceeds_over limits.Tables s h = inr (inl (refl, h))
exceeds_over limits.Predicates s h = inr (inr (inl (refl, h)))
exceeds_over limits.GroupBy s h = inr (inr (inr (inl (refl, h))))
exceeds_over limits.OrderBy s h = inr (inr (inr (inr (refl, h))))
