-- Tokens of the kinds of a column, a call or an element of the select list are it again, but for offsets.
use Rattle.std.proofs.Common.{◌≡◌, ℕ, List, [], ◌∷◌, ◌++◌, Option, Some, None, inl, inr, refl, sym}
use Rattle.std.proofs.Common.{ap, ◌∙◌}
use Rattle.std.proofs.lemmas.List.{append-nil}
use Rattle.sql_reader.specs.declared.tokens.Mark.TheVariants as marks
use Rattle.sql_reader.specs.declared.tokens.Function.{Function}
use Rattle.sql_reader.specs.declared.tokens.Function.TheVariants as functions
use Rattle.sql_reader.specs.declared.tokens.Kind.TheVariants as kinds
use Rattle.sql_reader.specs.declared.tokens.Token.{Token}
use Rattle.sql_reader.specs.declared.tokens.Name.{Name}
use Rattle.sql_reader.specs.declared.syntax.ColRef.{ColRef}
use Rattle.sql_reader.specs.declared.syntax.SelFunc.TheVariants as funcs
use Rattle.sql_reader.specs.declared.syntax.SelExpr.{SelExpr}
use Rattle.sql_reader.specs.declared.syntax.SelExpr.TheVariants as exprs
use Rattle.sql_reader.specs.declared.syntax.SelItem.{SelItem}
use Rattle.sql_reader.specs.Tokens.{place_of, function_in}
use Rattle.sql_reader.specs.Grammar.{AtEnd, After, Then}
use Rattle.sql_reader.specs.Query.{plain_column, column_in, count_all, aggregate, plain_item, named_item}
use Rattle.sql_reader.specs.Query.{IsColumn, IsArgument, IsExpr, IsOutput, IsItem}
use Rattle.sql_print.specs.Unplaced.{unplaced_column, unplaced_expr, unplaced_item}
use Rattle.sql_reader.specs.Spellable.{IsSpellableExpr, IsSpellableItem}
use Rattle.sql_print.proofs.CanonicalKinds.{as_kinds, column_by, column_kinds, expr_kinds, halves}
use Rattle.sql_print.proofs.CanonicalKinds.{item_kinds, kinds_of, mark_is, name_is}

column_again_by : (table : Option (List ℕ)) (name : List ℕ) (us : List Token) → kinds_of us ≡ column_by table name
    → (c : ColRef) × IsColumn us c × (unplaced_column c ≡ record { at = 0; table = table; name = name })
column_again_by None name [] e = absurd cc
column_again_by None name (u ∷ []) e = let k : u.kind ≡ kinds.Name name = cc in (
  plain_column (record { at = u.at; text = name }),
  (record { at = u.at; text = name }, name_is u name k, inr refl),
  refl,
)
column_again_by None name (u ∷ v ∷ us) e = absurd cc
column_again_by (Some table) name [] e = absurd cc
column_again_by (Some table) name (u ∷ []) e = absurd cc
column_again_by (Some table) name (u ∷ v ∷ []) e = absurd cc
column_again_by (Some table) name (u ∷ v ∷ w ∷ []) e =
    let a : u.kind ≡ kinds.Name table = cc in
    let b : v.kind ≡ kinds.Mark marks.Dot = cc in
    let c : w.kind ≡ kinds.Name name = cc in
    let first : Name = record { at = u.at; text = table } in
    let second : Name = record { at = w.at; text = name } in (
      column_in first second,
      (
        first,
        name_is u table a,
        inl
            (v.at, mark_is v marks.Dot b, (second, name_is w name c, refl)),
      ),
      refl,
    )
column_again_by (Some table) name (u ∷ v ∷ w ∷ x ∷ us) e = absurd cc

pub column_again : (c : ColRef) (us : List Token) → kinds_of us ≡ column_kinds c
    → (d : ColRef) × IsColumn us d × (unplaced_column d ≡ unplaced_column c)
column_again c us e = column_again_by c.table c.name us e

-- a column, as something else
pub as_column_again : {X : Type 0} (f : ColRef → X) (c : ColRef) (us : List Token) → kinds_of us ≡ column_kinds c
    → (d : ColRef) × Then IsColumn (λ x. AtEnd (f x)) us (f d) × (unplaced_column d ≡ unplaced_column c)
as_column_again f c us e =
    let d = column_again c us e in
    (d.0, record { front = us; back = []; value = d.0; whole = sym (append-nil us); first = d.1; second = refl }, d.2)

argument_again : (function : Function) (c : ColRef) (us : List Token) → kinds_of us ≡ column_kinds c
    → (d : ColRef) × IsArgument function us (aggregate function d) × (unplaced_column d ≡ unplaced_column c)
argument_again functions.Count c us e = let d = as_column_again (aggregate functions.Count) c us e in
    (d.0, inr d.1, d.2)
argument_again functions.Sum c us e = as_column_again (aggregate functions.Sum) c us e
argument_again functions.Min c us e = as_column_again (aggregate functions.Min) c us e
argument_again functions.Max c us e = as_column_again (aggregate functions.Max) c us e

call_again_by : (function : Function) (c : ColRef) (us : List Token)
    → kinds_of us ≡ kinds.Function function ∷ kinds.Mark marks.Open ∷ (column_kinds c ++ kinds.Mark marks.Close ∷ [])
    → (d : ColRef) × IsExpr us (aggregate function d) × (unplaced_column d ≡ unplaced_column c)
call_again_by function c [] e = absurd cc
call_again_by function c (u ∷ []) e = absurd cc
call_again_by function c (u ∷ v ∷ us) e =
    let a : u.kind ≡ kinds.Function function = cc in
    let b : v.kind ≡ kinds.Mark marks.Open = cc in
    let rest : kinds_of us ≡ column_kinds c ++ kinds.Mark marks.Close ∷ [] = cc in
    let h = halves us (column_kinds c) (kinds.Mark marks.Close ∷ []) rest in
    let d = argument_again function c h.front h.front_is in (
      d.0,
      inl (
        function,
        ap function_in a,
        (
          v.at,
          mark_is v marks.Open b,
          record {
            front = h.front;
            back = h.back;
            value = aggregate function d.0;
            whole = h.whole;
            first = d.1;
            second = closes (aggregate function d.0) h.back h.back_is;
          },
        ),
      ),
      d.2,
    )
  where
    closes : (value : SelExpr) (ws : List Token) → kinds_of ws ≡ kinds.Mark marks.Close ∷ []
        → After (place_of marks.Close) (λ _. AtEnd value) ws value
    closes value [] k = absurd cc
    closes value (w ∷ []) k = let m : w.kind ≡ kinds.Mark marks.Close = cc in (w.at, mark_is w marks.Close m, refl)
    closes value (w ∷ x ∷ ws) k = absurd cc

count_all_again : (us : List Token)
    → kinds_of us ≡ kinds.Function functions.Count ∷ kinds.Mark marks.Open ∷ kinds.Mark marks.Star ∷ kinds.Mark
    marks.Close ∷ [] → IsExpr us count_all
count_all_again [] e = absurd cc
count_all_again (u ∷ []) e = absurd cc
count_all_again (u ∷ v ∷ []) e = absurd cc
count_all_again (u ∷ v ∷ w ∷ []) e = absurd cc
count_all_again (u ∷ v ∷ w ∷ x ∷ []) e =
    let a : u.kind ≡ kinds.Function functions.Count = cc in
    let b : v.kind ≡ kinds.Mark marks.Open = cc in
    let c : w.kind ≡ kinds.Mark marks.Star = cc in
    let d : x.kind ≡ kinds.Mark marks.Close = cc in
    inl (
      functions.Count,
      ap function_in a,
      (
        v.at,
        mark_is v marks.Open b,
        record {
          front = w ∷ [];
          back = x ∷ [];
          value = count_all;
          whole = refl;
          first = inl (w.at, mark_is w marks.Star c, refl);
          second = (x.at, mark_is x marks.Close d, refl);
        },
      ),
    )
count_all_again (u ∷ v ∷ w ∷ x ∷ y ∷ us) e = absurd cc

expr_again : (x : SelExpr) (us : List Token) → IsSpellableExpr x → kinds_of us ≡ expr_kinds x
    → (y : SelExpr) × IsExpr us y × (unplaced_expr y ≡ unplaced_expr x)
expr_again (exprs.Column c) us g e = let d = as_column_again exprs.Column c us e in
    (exprs.Column d.0, inr d.1, ap exprs.Column d.2)
expr_again (exprs.Agg funcs.CountAll None) us g e = (count_all, count_all_again us e, refl)
expr_again (exprs.Agg funcs.CountAll (Some c)) us g e = absurd g
expr_again (exprs.Agg funcs.Count None) us g e = absurd g
expr_again (exprs.Agg funcs.Sum None) us g e = absurd g
expr_again (exprs.Agg funcs.Min None) us g e = absurd g
expr_again (exprs.Agg funcs.Max None) us g e = absurd g
expr_again (exprs.Agg funcs.Count (Some c)) us g e = let d = call_again_by functions.Count c us e in
    (aggregate functions.Count d.0, d.1, ap (λ (x : ColRef). exprs.Agg funcs.Count (Some x)) d.2)
expr_again (exprs.Agg funcs.Sum (Some c)) us g e = let d = call_again_by functions.Sum c us e in
    (aggregate functions.Sum d.0, d.1, ap (λ (x : ColRef). exprs.Agg funcs.Sum (Some x)) d.2)
expr_again (exprs.Agg funcs.Min (Some c)) us g e = let d = call_again_by functions.Min c us e in
    (aggregate functions.Min d.0, d.1, ap (λ (x : ColRef). exprs.Agg funcs.Min (Some x)) d.2)
expr_again (exprs.Agg funcs.Max (Some c)) us g e = let d = call_again_by functions.Max c us e in
    (aggregate functions.Max d.0, d.1, ap (λ (x : ColRef). exprs.Agg funcs.Max (Some x)) d.2)

output_again : (expr : SelExpr) (name : Option (List ℕ)) (us : List Token) → kinds_of us ≡ as_kinds name
    → (i : SelItem) × IsOutput expr us i
    × (unplaced_item i ≡ record { expr = unplaced_expr expr; name_at = 0; name = name })
output_again expr None [] e = (plain_item expr, inr refl, refl)
output_again expr None (u ∷ us) e = absurd cc
output_again expr (Some name) [] e = absurd cc
output_again expr (Some name) (u ∷ []) e = absurd cc
output_again expr (Some name) (u ∷ v ∷ []) e =
    let a : u.kind ≡ kinds.Mark marks.As = cc in
    let b : v.kind ≡ kinds.Name name = cc in
    let n : Name = record { at = v.at; text = name } in
    (named_item expr n, inl (u.at, mark_is u marks.As a, (n, name_is v name b, refl)), refl)
output_again expr (Some name) (u ∷ v ∷ w ∷ us) e = absurd cc

pub item_again : (i : SelItem) (us : List Token) → IsSpellableItem i → kinds_of us ≡ item_kinds i
    → (j : SelItem) × IsItem us j × (unplaced_item j ≡ unplaced_item i)
item_again i us g e =
    let h = halves us (expr_kinds i.expr) (as_kinds i.name) e in
    let x = expr_again i.expr h.front g.0 h.front_is in
    let o = output_again x.0 i.name h.back h.back_is in (
      o.0,
      record { front = h.front; back = h.back; value = x.0; whole = h.whole; first = x.1; second = o.1 },
      o.2
          ∙ ap (λ (y : SelExpr). record { expr = y; name_at = 0; name = i.name }) x.2,
    )
