-- The clauses of a query, and a whole query, are read exactly.
use Rattle.std.proofs.Common.{◌≡◌, ℕ, ◌<◌, ◌≤◌, [], ◌⊎◌, inl, inr, refl, arith}
use Rattle.sql_reader.specs.Marks.{mark_number}
use Rattle.sql_reader.specs.declared.tokens.Mark.{Mark}
use Rattle.sql_reader.specs.declared.tokens.Mark.TheVariants as marks
use Rattle.sql_reader.specs.declared.tokens.Token.{Token}
use Rattle.sql_reader.specs.declared.faults.Limit.TheVariants as limits
use Rattle.sql_reader.specs.declared.syntax.Select.{Select}
use Rattle.sql_reader.specs.Grammar.{Elements}
use Rattle.sql_reader.specs.Query.{IsColumn, IsItem, IsTable, IsPred, IsKey, IsWhere, IsGroupBy, IsOrderBy, IsEnd}
use Rattle.sql_reader.specs.Reading.{starts_name, starts_item, item_at, table_at, pred_at, column_at, key_at, items_at}
use Rattle.sql_reader.specs.Reading.{tables_at, preds_at, group_columns_at, keys_at, where_at, group_by_at, order_by_at}
use Rattle.sql_reader.specs.Reading.{end_at}
use Rattle.sql_reader.proofs.Exact.{Exact, Never, NoToken, as_exact}
use Rattle.sql_reader.proofs.Choices.{done_exact, done_within}
use Rattle.sql_reader.proofs.Branches.{after, choice}
use Rattle.sql_reader.proofs.ListParts.{Above}
use Rattle.sql_reader.proofs.ExactLists.{elements_exact}
use Rattle.sql_reader.proofs.Apart.{AMark, AName, mark_token, one_mark, name_mark}
use Rattle.sql_reader.proofs.Columns.{Begins, Directs, column_exact, item_exact, table_exact, pred_exact, key_exact}
use Rattle.sql_reader.proofs.Openings.{opens_name, opens_item, begins_column, begins_table, begins_key, begins_pred}
use Rattle.sql_reader.proofs.Openings.{begins_item}

apart : (a b : Mark) (t : Token) → AMark a t → AMark b t → (mark_number a ≡ mark_number b → ⊥) → ⊥
apart a b t h k differ = differ (one_mark a b t h k)

-- ---- the five lists

as_or_dot : (t : Token) → AMark marks.As t ⊎ AMark marks.Dot t → AMark marks.Comma t → ⊥
as_or_dot t (inl h) k = apart marks.As marks.Comma t h k (λ e. absurd (omega (arith, e)))
as_or_dot t (inr h) k = apart marks.Dot marks.Comma t h k (λ e. absurd (omega (arith, e)))

as_or_name : (t : Token) → AMark marks.As t ⊎ AName t → AMark marks.Comma t → ⊥
as_or_name t (inl h) k = apart marks.As marks.Comma t h k (λ e. absurd (omega (arith, e)))
as_or_name t (inr h) k = name_mark marks.Comma t h k

directs_or_dot : (t : Token) → Directs t ⊎ AMark marks.Dot t → AMark marks.Comma t → ⊥
directs_or_dot t (inl (inl h)) k = apart marks.Asc marks.Comma t h k (λ e. absurd (omega (arith, e)))
directs_or_dot t (inl (inr h)) k = apart marks.Desc marks.Comma t h k (λ e. absurd (omega (arith, e)))
directs_or_dot t (inr h) k = apart marks.Dot marks.Comma t h k (λ e. absurd (omega (arith, e)))

pub items_exact : Exact (Elements marks.Comma IsItem) Begins
    (λ t. AMark marks.Comma t ⊎ (AMark marks.As t ⊎ AMark marks.Dot t)) ⊥ (Above limits.Items 60) items_at
unfolding items_at
items_exact = elements_exact marks.Comma IsItem _ _ item_at starts_item limits.Items item_exact opens_item begins_item
    as_or_dot 59

pub tables_exact : Exact (Elements marks.Comma IsTable) AName
    (λ t. AMark marks.Comma t ⊎ (AMark marks.As t ⊎ AName t)) ⊥ (Above limits.Tables 10) tables_at
unfolding tables_at
tables_exact = elements_exact marks.Comma IsTable _ _ table_at starts_name limits.Tables table_exact opens_name
    begins_table as_or_name 9

preds_exact : Exact (Elements marks.And IsPred) AName (λ t. AMark marks.And t ⊎ AMark marks.Dot t) ⊥
    (Above limits.Predicates 40) preds_at
unfolding preds_at
preds_exact = elements_exact marks.And IsPred _ _ pred_at starts_name limits.Predicates pred_exact opens_name
    begins_pred
    (λ t h k. apart marks.Dot marks.And t h k (λ e. absurd (omega (arith, e)))) 39

group_columns_exact : Exact (Elements marks.Comma IsColumn) AName (λ t. AMark marks.Comma t ⊎ AMark marks.Dot t) ⊥
    (Above limits.GroupBy 8) group_columns_at
unfolding group_columns_at
group_columns_exact = elements_exact marks.Comma IsColumn _ _ column_at starts_name limits.GroupBy column_exact
    opens_name begins_column
    (λ t h k. apart marks.Dot marks.Comma t h k (λ e. absurd (omega (arith, e)))) 7

keys_exact : Exact (Elements marks.Comma IsKey) AName (λ t. AMark marks.Comma t ⊎ (Directs t ⊎ AMark marks.Dot t)) ⊥
    (Above limits.OrderBy 8) keys_at
unfolding keys_at
keys_exact = elements_exact marks.Comma IsKey _ _ key_at starts_name limits.OrderBy key_exact opens_name begins_key
    directs_or_dot 7

-- ---- the optional clauses, and what may follow them

-- a name, or a mark below the number
unfoldable pub Inside : ℕ → Token → Type 0
Inside n t = AName t ⊎ ((m : Mark) × AMark m t × (mark_number m < n))

-- a mark from the number on
unfoldable pub Behind : ℕ → Token → Type 0
Behind n t = (m : Mark) × AMark m t × (n ≤ mark_number m)

pub outside : (n : ℕ) (t : Token) → Inside n t → Behind n t → ⊥
unfolding Inside Behind
outside n t (inl h) k = name_mark k.0 t h k.1
outside n t (inr h) k = let e = one_mark h.0 k.0 t h.1 k.1 in absurd (omega (arith, e, h.2, k.2))

pub where_exact : Exact IsWhere (AMark marks.Where) (Inside 20) (Unit {0}) (Above limits.Predicates 40) where_at
unfolding where_at Inside
where_exact = as_exact
    (choice (λ (_ : ℕ). preds_exact)
    (done_within [] (Above limits.Predicates 40) (λ w h. absurd (omega (arith, h.1)))) (λ t v s k. k))
    begun inside (λ u. u)
  where
    begun : (t : Token) → AMark marks.Where t ⊎ NoToken t → AMark marks.Where t
    begun t (inl h) = h
    begun t (inr h) = absurd h

    inside : (t : Token) → (AMark marks.And t ⊎ AMark marks.Dot t) ⊎ (NoToken t ⊎ (Unit {0} × AMark marks.Where t))
        → AName t ⊎ ((m : Mark) × AMark m t × (mark_number m < 20))
    inside t (inl (inl h)) = inr (marks.And, h, omega arith)
    inside t (inl (inr h)) = inr (marks.Dot, h, omega arith)
    inside t (inr (inl h)) = absurd h
    inside t (inr (inr h)) = inr (marks.Where, h.1, omega arith)

pub group_by_exact : Exact IsGroupBy (AMark marks.Group) (Inside 21) (Unit {0}) (Above limits.GroupBy 8) group_by_at
unfolding group_by_at Inside
group_by_exact = as_exact
    (choice (λ (_ : ℕ). after (mark_token marks.By) _ refl (λ (_ : ℕ). group_columns_exact))
    (done_within [] (Above limits.GroupBy 8) (λ w h. absurd (omega (arith, h.1)))) (λ t v s k. k))
    begun inside (λ u. u)
  where
    begun : (t : Token) → AMark marks.Group t ⊎ NoToken t → AMark marks.Group t
    begun t (inl h) = h
    begun t (inr h) = absurd h

    inside : (t : Token) → (AMark marks.Comma t ⊎ AMark marks.Dot t) ⊎ (NoToken t ⊎ (Unit {0} × AMark marks.Group t))
        → AName t ⊎ ((m : Mark) × AMark m t × (mark_number m < 21))
    inside t (inl (inl h)) = inr (marks.Comma, h, omega arith)
    inside t (inl (inr h)) = inr (marks.Dot, h, omega arith)
    inside t (inr (inl h)) = absurd h
    inside t (inr (inr h)) = inr (marks.Group, h.1, omega arith)

pub order_by_exact : Exact IsOrderBy (AMark marks.Order) (Inside 22) (Unit {0}) (Above limits.OrderBy 8) order_by_at
unfolding order_by_at Inside
order_by_exact = as_exact
    (choice (λ (_ : ℕ). after (mark_token marks.By) _ refl (λ (_ : ℕ). keys_exact))
    (done_within [] (Above limits.OrderBy 8) (λ w h. absurd (omega (arith, h.1)))) (λ t v s k. k))
    begun inside (λ u. u)
  where
    begun : (t : Token) → AMark marks.Order t ⊎ NoToken t → AMark marks.Order t
    begun t (inl h) = h
    begun t (inr h) = absurd h

    inside : (t : Token) → (AMark marks.Comma t ⊎ (Directs t ⊎ AMark marks.Dot t))
        ⊎ (NoToken t ⊎ (Unit {0} × AMark marks.Order t)) → AName t ⊎ ((m : Mark) × AMark m t × (mark_number m < 22))
    inside t (inl (inl h)) = inr (marks.Comma, h, omega arith)
    inside t (inl (inr (inl (inl h)))) = inr (marks.Asc, h, omega arith)
    inside t (inl (inr (inl (inr h)))) = inr (marks.Desc, h, omega arith)
    inside t (inl (inr (inr h))) = inr (marks.Dot, h, omega arith)
    inside t (inr (inl h)) = absurd h
    inside t (inr (inr h)) = inr (marks.Order, h.1, omega arith)

pub end_exact : (select : Select)
    → Exact (IsEnd select) (Behind 22) (AMark marks.Semicolon) (Unit {0}) Never (end_at select)
unfolding end_at Behind
end_exact select = as_exact (choice (λ (_ : ℕ). done_exact select) (done_exact select) (λ t v s k. k)) begun inside
    (λ u. u)
  where
    begun : (t : Token) → AMark marks.Semicolon t ⊎ NoToken t → (m : Mark) × AMark m t × (22 ≤ mark_number m)
    begun t (inl h) = (marks.Semicolon, h, omega arith)
    begun t (inr h) = absurd h

    inside : (t : Token) → NoToken t ⊎ (NoToken t ⊎ (Unit {0} × AMark marks.Semicolon t)) → AMark marks.Semicolon t
    inside t (inl h) = absurd h
    inside t (inr (inl h)) = absurd h
    inside t (inr (inr h)) = h.1
