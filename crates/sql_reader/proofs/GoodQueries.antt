-- What a query is made of is good where its tokens are.
use Rattle.std.proofs.Common.{◌≡◌, List, [], ◌∷◌, inl, inr, refl, sym, subst}
use Rattle.sql_reader.specs.declared.tokens.Mark.{Mark}
use Rattle.sql_reader.specs.declared.tokens.Mark.TheVariants as marks
use Rattle.sql_reader.specs.declared.tokens.Token.{Token}
use Rattle.sql_reader.specs.declared.syntax.ColRef.{ColRef}
use Rattle.sql_reader.specs.declared.syntax.SelItem.{SelItem}
use Rattle.sql_reader.specs.declared.syntax.SelPred.{SelPred}
use Rattle.sql_reader.specs.declared.syntax.SelKey.{SelKey}
use Rattle.sql_reader.specs.declared.syntax.Select.{Select}
use Rattle.sql_reader.specs.Grammar.{AtEnd, Others, Elements}
use Rattle.sql_reader.specs.Query.{select_of, IsColumn}
use Rattle.sql_reader.specs.Query.{IsItem, IsTable, IsPred, IsKey, IsWhere, IsGroupBy}
use Rattle.sql_reader.specs.Query.{IsOrderBy, IsEnd, IsBody, IsQuery}
use Rattle.sql_reader.proofs.ListParts.{parts_of}
use Rattle.sql_reader.proofs.Printable.{AreGood, good_front, good_back}
use Rattle.sql_reader.specs.Spellable.{Each, IsSpellableColumn}
use Rattle.sql_reader.specs.Spellable.{IsSpellableItem, IsSpellableKey}
use Rattle.sql_reader.specs.Spellable.{IsSpellablePred, IsSpellable, IsSpellableTable, OneOrMore}
use Rattle.sql_reader.proofs.GoodParts.{done_good, column_good, item_good, table_good, pred_good, key_good}

-- ---- lists and clauses

module _ {X : Type 0} (IsX : List Token → X → Type 0) (IsGood : X → Type 0)
    (each : (tokens : List Token) (x : X) → AreGood tokens → IsX tokens x → IsGood x) where
  others_good : (mark : Mark) (tokens : List Token) (xs : List X) → AreGood tokens → Others mark IsX tokens xs
      → Each IsGood xs
  others_good mark tokens [] g h = tt
  others_good mark [] (x ∷ xs) g h = absurd h
  others_good mark (t ∷ tokens) (x ∷ xs) g h =
      let parts = rw h.4 at g.1 in
      (each h.2 x (good_front h.2 h.3 parts) h.5, others_good mark h.3 xs (good_back h.2 h.3 parts) h.6)

  elements_good : (mark : Mark) (tokens : List Token) (xs : List X) → AreGood tokens → Elements mark IsX tokens xs
      → OneOrMore IsGood xs
  elements_good mark tokens xs g h =
      let p = parts_of mark IsX tokens xs h in
      let parts = rw p.whole at g in
      subst (OneOrMore IsGood) (sym p.are) (
        each p.front p.element (good_front p.front p.back parts) p.first,
        others_good mark p.back p.others
            (good_back p.front p.back parts) p.second,
      )

  some_all : (xs : List X) → OneOrMore IsGood xs → Each IsGood xs
  some_all [] g = absurd g
  some_all (x ∷ xs) g = g

nothing_good : {X : Type 0} (IsGood : X → Type 0) (xs : List X) (tokens : List Token) → AtEnd [] tokens xs
    → Each IsGood xs
nothing_good IsGood xs tokens d = done_good (Each IsGood) [] xs tokens d tt

where_good : (tokens : List Token) (xs : List SelPred) → AreGood tokens → IsWhere tokens xs → Each IsSpellablePred xs
where_good [] xs g (inl h) = absurd h
where_good (t ∷ tokens) xs g (inl h) =
    some_all IsPred IsSpellablePred pred_good xs
    (elements_good IsPred IsSpellablePred pred_good marks.And tokens xs g.1 h.2)
where_good tokens xs g (inr h) = nothing_good IsSpellablePred xs tokens h

group_by_good : (tokens : List Token) (xs : List ColRef) → AreGood tokens → IsGroupBy tokens xs
    → Each IsSpellableColumn xs
group_by_good [] xs g (inl h) = absurd h
group_by_good (t ∷ []) xs g (inl h) = absurd h.2
group_by_good (t ∷ u ∷ tokens) xs g (inl h) =
    some_all IsColumn IsSpellableColumn column_good xs
    (elements_good IsColumn IsSpellableColumn column_good marks.Comma tokens xs g.1.1 h.2.2)
group_by_good tokens xs g (inr h) = nothing_good IsSpellableColumn xs tokens h

order_by_good : (tokens : List Token) (xs : List SelKey) → AreGood tokens → IsOrderBy tokens xs → Each IsSpellableKey xs
order_by_good [] xs g (inl h) = absurd h
order_by_good (t ∷ []) xs g (inl h) = absurd h.2
order_by_good (t ∷ u ∷ tokens) xs g (inl h) =
    some_all IsKey IsSpellableKey key_good xs
    (elements_good IsKey IsSpellableKey key_good marks.Comma tokens xs g.1.1 h.2.2)
order_by_good tokens xs g (inr h) = nothing_good IsSpellableKey xs tokens h

end_is : (s : Select) (tokens : List Token) (z : Select) → IsEnd s tokens z → z ≡ s
end_is s [] z (inl h) = absurd h
end_is s (t ∷ tokens) z (inl h) = done_good (λ y. y ≡ s) s z tokens h.2 refl
end_is s tokens z (inr h) = done_good (λ y. y ≡ s) s z tokens h refl

body_good : (items : List SelItem) (tokens : List Token) (s : Select) → OneOrMore IsSpellableItem items
    → AreGood tokens → IsBody items tokens s → IsSpellable s
body_good items [] s i g h = absurd h
body_good items (t ∷ tokens) s i g h =
    let f = h.2 in
    let w = f.second in
    let b = w.second in
    let o = b.second in
    let from_rest = rw f.whole at g.1 in
    let where_rest = rw w.whole at (good_back f.front f.back from_rest) in
    let group_rest = rw b.whole at (good_back w.front w.back where_rest) in
    let order_rest = rw o.whole at (good_back b.front b.back group_rest) in
    let made : IsSpellable (select_of items f.value w.value b.value o.value) = record {
      items = i;
      from = elements_good IsTable IsSpellableTable table_good marks.Comma f.front f.value
          (good_front f.front f.back from_rest) f.first;
      preds = where_good w.front w.value (good_front w.front w.back where_rest) w.first;
      group_by = group_by_good b.front b.value (good_front b.front b.back group_rest) b.first;
      order_by = order_by_good o.front o.value (good_front o.front o.back order_rest) o.first;
    } in
    subst IsSpellable (sym (end_is (select_of items f.value w.value b.value o.value) o.back s o.second)) made

pub query_good : (tokens : List Token) (s : Select) → AreGood tokens → IsQuery tokens s → IsSpellable s
query_good [] s g h = absurd h
query_good (t ∷ tokens) s g h =
    let parts = rw h.2.whole at g.1 in
    body_good h.2.value h.2.back s
    (elements_good IsItem IsSpellableItem item_good marks.Comma h.2.front h.2.value
    (good_front h.2.front h.2.back parts) h.2.first) (good_back h.2.front h.2.back parts) h.2.second
