-- The tokens of a canonical text, by their kinds, are the whole query again, but for offsets.
use Rattle.std.proofs.Common.{◌≡◌, List, [], ◌∷◌, ◌++◌, map, Some, inl, inr, refl, sym, ap, subst, ◌∙◌, append_assoc}
use Rattle.std.proofs.lemmas.List.{append-nil}
use Rattle.sql_reader.specs.declared.tokens.Mark.{Mark}
use Rattle.sql_reader.specs.declared.tokens.Mark.TheVariants as marks
use Rattle.sql_reader.specs.declared.tokens.Kind.{Kind}
use Rattle.sql_reader.specs.declared.tokens.Kind.TheVariants as kinds
use Rattle.sql_reader.specs.declared.tokens.Token.{Token}
use Rattle.sql_reader.specs.declared.syntax.ColRef.{ColRef}
use Rattle.sql_reader.specs.declared.syntax.SelItem.{SelItem}
use Rattle.sql_reader.specs.declared.syntax.FromItem.{FromItem}
use Rattle.sql_reader.specs.declared.syntax.SelPred.{SelPred}
use Rattle.sql_reader.specs.declared.syntax.SelKey.{SelKey}
use Rattle.sql_reader.specs.declared.syntax.Select.{Select}
use Rattle.sql_reader.specs.Tokens.{place_of}
use Rattle.sql_reader.specs.Grammar.{Others, Elements}
use Rattle.sql_reader.specs.Query.{select_of, IsColumn, IsItem, IsTable, IsPred, IsKey, IsWhere, IsGroupBy, IsOrderBy}
use Rattle.sql_reader.specs.Query.{IsQuery}
use Rattle.sql_print.specs.Unplaced.{unplaced_column, unplaced_item, unplaced_table, unplaced_pred, unplaced_key}
use Rattle.sql_print.specs.Unplaced.{unplaced}
use Rattle.sql_reader.proofs.ListParts.{elements_from}
use Rattle.sql_reader.specs.Spellable.{IsSpellableItem, IsSpellableTable, IsSpellablePred, IsSpellableColumn}
use Rattle.sql_reader.specs.Spellable.{IsSpellableKey, Each, OneOrMore, IsSpellable}
use Rattle.sql_print.proofs.CanonicalKinds.{kinds_of, halves, mark_is, column_kinds, item_kinds, table_kinds}
use Rattle.sql_print.proofs.CanonicalKinds.{pred_kinds, key_kinds, others_kinds, list_kinds, clause_kinds, group_words}
use Rattle.sql_print.proofs.CanonicalKinds.{order_words, query_kinds}
use Rattle.sql_print.proofs.CanonicalItems.{column_again, item_again}
use Rattle.sql_print.proofs.CanonicalParts.{table_again, pred_again, key_again}

module _ {X : Type 0} (IsX : List Token → X → Type 0) (IsGood : X → Type 0) (un : X → X) (each : X → List Kind)
    (again : (x : X) (us : List Token) → IsGood x → kinds_of us ≡ each x → (y : X) × IsX us y × (un y ≡ un x)) where
  others_again : (mark : Mark) (xs : List X) (us : List Token) → Each IsGood xs
      → kinds_of us ≡ others_kinds mark each xs → (ys : List X) × Others mark IsX us ys × (map un ys ≡ map un xs)
  others_again mark [] [] g e = ([], tt, refl)
  others_again mark [] (u ∷ us) g e = absurd cc
  others_again mark (x ∷ xs) [] g e = absurd cc
  others_again mark (x ∷ xs) (u ∷ us) g e =
      let a : u.kind ≡ kinds.Mark mark = cc in
      let rest : kinds_of us ≡ each x ++ others_kinds mark each xs = cc in
      let h = halves us (each x) (others_kinds mark each xs) rest in
      let y = again x h.front g.0 h.front_is in
      let ys = others_again mark xs h.back g.1 h.back_is in
      (y.0 ∷ ys.0, (u.at, mark_is u mark a, h.front, h.back, h.whole, y.1, ys.1), (let p = y.2 in let q = ys.2 in cc))

  list_again : (mark : Mark) (xs : List X) (us : List Token) → OneOrMore IsGood xs
      → kinds_of us ≡ list_kinds mark each xs → (ys : List X) × Elements mark IsX us ys × (map un ys ≡ map un xs)
  list_again mark [] us g e = absurd g
  list_again mark (x ∷ xs) us g e =
      let h = halves us (each x) (others_kinds mark each xs) e in
      let y = again x h.front g.0 h.front_is in
      let ys = others_again mark xs h.back g.1 h.back_is in (
        y.0 ∷ ys.0,
        subst (λ (ts : List Token). Elements mark IsX ts (y.0 ∷ ys.0)) (sym h.whole)
            (elements_from mark IsX h.front h.back y.0 ys.0 y.1 ys.1),
        (let p = y.2 in let q = ys.2 in cc),
      )

where_again : (xs : List SelPred) (us : List Token) → Each IsSpellablePred xs
    → kinds_of us ≡ clause_kinds (kinds.Mark marks.Where ∷ []) marks.And pred_kinds xs
    → (ys : List SelPred) × IsWhere us ys × (map unplaced_pred ys ≡ map unplaced_pred xs)
where_again [] [] g e = ([], inr refl, refl)
where_again [] (u ∷ us) g e = absurd cc
where_again (x ∷ xs) [] g e = absurd cc
where_again (x ∷ xs) (u ∷ us) g e =
    let a : u.kind ≡ kinds.Mark marks.Where = cc in
    let rest : kinds_of us ≡ list_kinds marks.And pred_kinds (x ∷ xs) = cc in
    let l = list_again IsPred IsSpellablePred unplaced_pred pred_kinds (λ p ts k h. pred_again p ts h) marks.And
    (x ∷ xs) us g rest in
    (l.0, inl (u.at, mark_is u marks.Where a, l.1), l.2)

group_again : (xs : List ColRef) (us : List Token) → Each IsSpellableColumn xs
    → kinds_of us ≡ clause_kinds group_words marks.Comma column_kinds xs
    → (ys : List ColRef) × IsGroupBy us ys × (map unplaced_column ys ≡ map unplaced_column xs)
group_again [] [] g e = ([], inr refl, refl)
group_again [] (u ∷ us) g e = absurd cc
group_again (x ∷ xs) [] g e = absurd cc
group_again (x ∷ xs) (u ∷ []) g e = absurd cc
group_again (x ∷ xs) (u ∷ v ∷ us) g e =
    let a : u.kind ≡ kinds.Mark marks.Group = cc in
    let b : v.kind ≡ kinds.Mark marks.By = cc in
    let rest : kinds_of us ≡ list_kinds marks.Comma column_kinds (x ∷ xs) = cc in
    let l = list_again IsColumn IsSpellableColumn unplaced_column column_kinds (λ p ts k h. column_again p ts h)
    marks.Comma (x ∷ xs) us g rest in
    (l.0, inl (u.at, mark_is u marks.Group a, (v.at, mark_is v marks.By b, l.1)), l.2)

order_again : (xs : List SelKey) (us : List Token) → Each IsSpellableKey xs
    → kinds_of us ≡ clause_kinds order_words marks.Comma key_kinds xs
    → (ys : List SelKey) × IsOrderBy us ys × (map unplaced_key ys ≡ map unplaced_key xs)
order_again [] [] g e = ([], inr refl, refl)
order_again [] (u ∷ us) g e = absurd cc
order_again (x ∷ xs) [] g e = absurd cc
order_again (x ∷ xs) (u ∷ []) g e = absurd cc
order_again (x ∷ xs) (u ∷ v ∷ us) g e =
    let a : u.kind ≡ kinds.Mark marks.Order = cc in
    let b : v.kind ≡ kinds.Mark marks.By = cc in
    let rest : kinds_of us ≡ list_kinds marks.Comma key_kinds (x ∷ xs) = cc in
    let l = list_again IsKey IsSpellableKey unplaced_key key_kinds (λ p ts k h. key_again p ts h) marks.Comma (x ∷ xs)
    us g rest in
    (l.0, inl (u.at, mark_is u marks.Order a, (v.at, mark_is v marks.By b, l.1)), l.2)

-- one token, of this mark
abbrev Single : Mark → List Token → Type 0
Single mark us = (u : Token) × (us ≡ u ∷ []) × (place_of mark u ≡ Some u.at)

single : (mark : Mark) (us : List Token) → kinds_of us ≡ kinds.Mark mark ∷ [] → Single mark us
single mark [] e = absurd cc
single mark (u ∷ []) e = let a : u.kind ≡ kinds.Mark mark = cc in (u, refl, mark_is u mark a)
single mark (u ∷ v ∷ us) e = absurd cc

made : (u v : Token) (i f w g o : List Token) (items : List SelItem) (from : List FromItem) (preds : List SelPred)
    (group_by : List ColRef) (order_by : List SelKey)
    → place_of marks.Select u ≡ Some u.at → place_of marks.From v ≡ Some v.at → Elements marks.Comma IsItem i items
    → Elements marks.Comma IsTable f from → IsWhere w preds → IsGroupBy g group_by → IsOrderBy o order_by
    → IsQuery (u ∷ (i ++ v ∷ (f ++ (w ++ (g ++ o))))) (select_of items from preds group_by order_by)
made u v i f w g o items from preds group_by order_by s m is fs ws gs os = (
  u.at,
  s,
  record {
    front = i;
    back = v ∷ (f ++ (w ++ (g ++ o)));
    value = items;
    whole = refl;
    first = is;
    second = (
      v.at,
      m,
      record {
        front = f;
        back = w ++ (g ++ o);
        value = from;
        whole = refl;
        first = fs;
        second = record {
          front = w;
          back = g ++ o;
          value = preds;
          whole = refl;
          first = ws;
          second = record {
            front = g;
            back = o;
            value = group_by;
            whole = refl;
            first = gs;
            second = record {
              front = o;
              back = [];
              value = order_by;
              whole = sym (append-nil o);
              first = os;
              second = inr refl;
            };
          };
        };
      },
    );
  },
)

lined : (i f w b o : List Token) (y : Token) → ((((i ++ y ∷ []) ++ f) ++ w) ++ b) ++ o ≡ i ++ y ∷ (f ++ (w ++ (b ++ o)))
lined i f w b o y =
    append_assoc (((i ++ y ∷ []) ++ f) ++ w) b o ∙ append_assoc ((i ++ y ∷ []) ++ f) w (b ++ o)
    ∙ append_assoc (i ++ y ∷ []) f (w ++ (b ++ o))
    ∙ append_assoc i (y ∷ []) (f ++ (w ++ (b ++ o)))

spelled_by : (us ts : List Token) (t s : Select) → us ≡ ts → IsQuery ts t → unplaced t ≡ unplaced s
    → (t : Select) × IsQuery us t × (unplaced t ≡ unplaced s)
spelled_by us ts t s e query same = (t, subst (λ (vs : List Token). IsQuery vs t) (sym e) query, same)

-- tokens of these kinds are a query, the same but for offsets
pub query_kinds_again : (s : Select) (us : List Token) → IsSpellable s → kinds_of us ≡ query_kinds s
    → (t : Select) × IsQuery us t × (unplaced t ≡ unplaced s)
query_kinds_again s us g e =
    let o = halves us _ (clause_kinds order_words marks.Comma key_kinds s.order_by) e in
    let b = halves o.front _ (clause_kinds group_words marks.Comma column_kinds s.group_by) o.front_is in
    let w = halves b.front _ (clause_kinds (kinds.Mark marks.Where ∷ []) marks.And pred_kinds s.preds) b.front_is in
    let f = halves w.front _ (list_kinds marks.Comma table_kinds s.from) w.front_is in
    let v = halves f.front _ (kinds.Mark marks.From ∷ []) f.front_is in
    let i = halves v.front (kinds.Mark marks.Select ∷ []) (list_kinds marks.Comma item_kinds s.items) v.front_is in
    let select = single marks.Select i.front i.front_is in
    let from = single marks.From v.back v.back_is in
    let items = list_again IsItem IsSpellableItem unplaced_item item_kinds (λ x ts k h. item_again x ts k h)
    marks.Comma s.items i.back g.items i.back_is in
    let tables = list_again IsTable IsSpellableTable unplaced_table table_kinds (λ x ts k h. table_again x ts h)
    marks.Comma s.from f.back g.from f.back_is in
    let preds = where_again s.preds w.back g.preds w.back_is in
    let groups = group_again s.group_by b.back g.group_by b.back_is in
    let keys = order_again s.order_by o.back g.order_by o.back_is in
    let query = made select.0 from.0 i.back f.back w.back b.back o.back items.0 tables.0 preds.0 groups.0 keys.0
    select.2 from.2 items.1 tables.1 preds.1 groups.1 keys.1 in
    let all : List Token = select.0 ∷ (i.back ++ from.0 ∷ (f.back ++ (w.back ++ (b.back ++ o.back)))) in
    let whole : us ≡ all =
    parts us o.front b.front w.front f.front v.front i.front i.back v.back f.back w.back b.back o.back select.0
    from.0 o.whole b.whole w.whole f.whole v.whole i.whole select.1 from.1 in
    let chosen : Select = select_of items.0 tables.0 preds.0 groups.0 keys.0 in
    spelled_by us all chosen s whole query (same chosen s items.2 tables.2 preds.2 groups.2 keys.2)
  where
    parts : (us os bs ws fs vs is i v f w b o : List Token) (x y : Token) → us ≡ os ++ o → os ≡ bs ++ b → bs ≡ ws ++ w
        → ws ≡ fs ++ f → fs ≡ vs ++ v → vs ≡ is ++ i → is ≡ x ∷ [] → v ≡ y ∷ []
        → us ≡ x ∷ (i ++ y ∷ (f ++ (w ++ (b ++ o))))
    parts us os bs ws fs vs is i v f w b o x y e1 e2 e3 e4 e5 e6 e7 e8 =
        rw (e1, e2, e3, e4, e5, e6, e7, e8) (ap (λ (ts : List Token). x ∷ ts) (lined i f w b o y))

    same : (a c : Select) → map unplaced_item a.items ≡ map unplaced_item c.items
        → map unplaced_table a.from ≡ map unplaced_table c.from → map unplaced_pred a.preds ≡ map unplaced_pred c.preds
        → map unplaced_column a.group_by ≡ map unplaced_column c.group_by
        → map unplaced_key a.order_by ≡ map unplaced_key c.order_by → unplaced a ≡ unplaced c
    same a c i f p g o = cc
