-- Which tokens begin an element of each list.
use Rattle.std.proofs.Common.{◌≡◌, true, false, List, [], ◌∷◌, Some, None, inl, inr, refl, ap, ◌∙◌, pos}
use Rattle.std.specs.Prelude.{is_some, ◌||◌}
use Rattle.std.proofs.Math.Bool.{or-true}
use Rattle.sql_reader.specs.declared.tokens.Mark.TheVariants as marks
use Rattle.sql_reader.specs.declared.tokens.Function.{Function}
use Rattle.sql_reader.specs.declared.tokens.Function.TheVariants as functions
use Rattle.sql_reader.specs.declared.tokens.Token.{Token}
use Rattle.sql_reader.specs.declared.syntax.ColRef.{ColRef}
use Rattle.sql_reader.specs.declared.syntax.SelItem.{SelItem}
use Rattle.sql_reader.specs.declared.syntax.FromItem.{FromItem}
use Rattle.sql_reader.specs.declared.syntax.SelPred.{SelPred}
use Rattle.sql_reader.specs.declared.syntax.SelKey.{SelKey}
use Rattle.sql_reader.specs.declared.syntax.SelExpr.TheVariants as exprs
use Rattle.sql_reader.specs.declared.syntax.SelOp.TheVariants as ops
use Rattle.sql_reader.specs.declared.syntax.SelOperand.TheVariants as operands
use Rattle.sql_reader.specs.Tokens.{name_of, called_of}
use Rattle.sql_reader.specs.Grammar.{AtEnd, Then}
use Rattle.sql_reader.specs.Query.{plain_column, aggregate, plain_item, plain_table, predicate, key, IsColumn, IsCall}
use Rattle.sql_reader.specs.Query.{IsArgument, IsItem, IsTable, IsPred, IsKey}
use Rattle.sql_reader.specs.Reading.{starts_name, starts_item}
use Rattle.sql_reader.proofs.Apart.{AName, mark_token, name_token, integer_token, some_of}
use Rattle.sql_reader.proofs.Columns.{Begins}

-- ---- what begins an element

pub opens_name : (t : Token) → AName t → starts_name t ≡ true
opens_name t h = ap is_some h.1

pub opens_item : (t : Token) → Begins t → starts_item t ≡ true
opens_item t (inl h) = ap (λ o. is_some o || is_some (name_of t)) h.1
opens_item t (inr h) = ap (λ o. is_some (called_of t) || is_some o) h.1 ∙ or-true (is_some (called_of t))

pub begins_column : (t : Token) → starts_name t ≡ true → (more : List Token) × (x : ColRef) × IsColumn (t ∷ more) x
begins_column t h = let n = some_of (name_of t) h in ([], plain_column n.0, (n.0, n.1, inr refl))

pub begins_table : (t : Token) → starts_name t ≡ true → (more : List Token) × (x : FromItem) × IsTable (t ∷ more) x
begins_table t h = let n = some_of (name_of t) h in ([], plain_table n.0, (n.0, n.1, inr (inr refl)))

pub begins_key : (t : Token) → starts_name t ≡ true → (more : List Token) × (x : SelKey) × IsKey (t ∷ more) x
begins_key t h =
    let n = some_of (name_of t) h in (
      [],
      key (plain_column n.0) false,
      record {
        front = t ∷ [];
        back = [];
        value = plain_column n.0;
        whole = refl;
        first = (n.0, n.1, inr refl);
        second = inr (inr refl);
      },
    )

pub begins_pred : (t : Token) → starts_name t ≡ true → (more : List Token) × (x : SelPred) × IsPred (t ∷ more) x
begins_pred t h =
    let n = some_of (name_of t) h in (
      mark_token marks.Equal ∷ integer_token ∷ [],
      predicate (plain_column n.0) ops.Eq (operands.Int (pos 0)),
      record {
        front = t ∷ [];
        back = mark_token marks.Equal ∷ integer_token ∷ [];
        value = plain_column n.0;
        whole = refl;
        first = (n.0, n.1, inr refl);
        second = (
          ops.Eq,
          refl,
          record {
            front = integer_token ∷ [];
            back = [];
            value = operands.Int (pos 0);
            whole = refl;
            first = inl (pos 0, refl, refl);
            second = refl;
          },
        );
      },
    )

a_column : ColRef
a_column = plain_column (record { at = 0; text = [] })

argument : (function : Function) → IsArgument function (name_token ∷ []) (aggregate function a_column)
unfolding a_column
argument functions.Count = inr
    (record {
      front = name_token ∷ [];
      back = [];
      value = a_column;
      whole = refl;
      first = (record { at = 0; text = [] }, refl, inr refl);
      second = refl;
    })
argument functions.Sum = record {
  front = name_token ∷ [];
  back = [];
  value = a_column;
  whole = refl;
  first = (record { at = 0; text = [] }, refl, inr refl);
  second = refl;
}
argument functions.Min = record {
  front = name_token ∷ [];
  back = [];
  value = a_column;
  whole = refl;
  first = (record { at = 0; text = [] }, refl, inr refl);
  second = refl;
}
argument functions.Max = record {
  front = name_token ∷ [];
  back = [];
  value = a_column;
  whole = refl;
  first = (record { at = 0; text = [] }, refl, inr refl);
  second = refl;
}

call : (function : Function) → IsCall function (mark_token marks.Open ∷ name_token ∷ mark_token marks.Close ∷ [])
    (aggregate function a_column)
call function = (
  0,
  refl,
  record {
    front = name_token ∷ [];
    back = mark_token marks.Close ∷ [];
    value = aggregate function a_column;
    whole = refl;
    first = argument function;
    second = (0, refl, refl);
  },
)

pub begins_item : (t : Token) → starts_item t ≡ true → (more : List Token) × (x : SelItem) × IsItem (t ∷ more) x
begins_item t = by (called_of t) refl
  where
    by : (o : _) → called_of t ≡ o → (is_some o || is_some (name_of t)) ≡ true
        → (more : List Token) × (x : SelItem) × IsItem (t ∷ more) x
    by (Some function) e h =
        let rest : List Token = mark_token marks.Open ∷ name_token ∷ mark_token marks.Close ∷ [] in (
          rest,
          plain_item (aggregate function a_column),
          record {
            front = t ∷ rest;
            back = [];
            value = aggregate function a_column;
            whole = refl;
            first = inl (function, e, call function);
            second = inr refl;
          },
        )
    by None e h =
        let n = some_of (name_of t) h in
        let column : ColRef = plain_column n.0 in
        let expr : Then IsColumn (λ c. AtEnd (exprs.Column c)) (t ∷ []) (exprs.Column column) =
        record {
          front = t ∷ [];
          back = [];
          value = column;
          whole = refl;
          first = (n.0, n.1, inr refl);
          second = refl;
        } in (
          [],
          plain_item (exprs.Column column),
          record {
            front = t ∷ [];
            back = [];
            value = exprs.Column column;
            whole = refl;
            first = inr expr;
            second = inr refl;
          },
        )
