-- A query that was read is readable.
use Rattle.std.proofs.Common.{◌≡◌, ℕ, ◌≤◌, true, List, [], ◌∷◌, Option, Some, None, Result, Ok, Err, length, Bool}
use Rattle.std.proofs.Common.{refl, arith}
use Rattle.std.specs.Prelude.{IfOk}
use Rattle.std.specs.List.{list_all}
use Rattle.sql_reader.specs.declared.faults.Limit.TheVariants as limits
use Rattle.sql_reader.specs.declared.faults.SqlFault.{SqlFault}
use Rattle.sql_reader.specs.declared.syntax.ColRef.{ColRef}
use Rattle.sql_reader.specs.declared.syntax.SelFunc.{SelFunc}
use Rattle.sql_reader.specs.declared.syntax.SelFunc.TheVariants as funcs
use Rattle.sql_reader.specs.declared.syntax.SelExpr.{SelExpr}
use Rattle.sql_reader.specs.declared.syntax.SelExpr.TheVariants as exprs
use Rattle.sql_reader.specs.declared.syntax.SelItem.{SelItem}
use Rattle.sql_reader.specs.declared.syntax.FromItem.{FromItem}
use Rattle.sql_reader.specs.declared.syntax.Select.{Select}
use Rattle.sql_reader.specs.Faults.{IsReading}
use Rattle.sql_reader.specs.Readable.{has_its_argument, is_expr, is_named, is_item, is_table, IsReadable}
use Rattle.sql_reader.proofs.Printable.{tokens_good}
use Rattle.sql_reader.specs.Spellable.{IsSpellablePart, IsSpellableCall, IsSpellableExpr, IsSpellableItem}
use Rattle.sql_reader.specs.Spellable.{IsSpellableTable, OneOrMore, Each}
use Rattle.sql_reader.proofs.GoodQueries.{query_good}
use Rattle.sql_reader.proofs.Spelled.{keeps_limits}

-- a good call has its argument
call_takes : (func : SelFunc) (arg : Option ColRef) → IsSpellableCall func arg → has_its_argument func arg ≡ true
call_takes funcs.CountAll None g = refl
call_takes funcs.CountAll (Some column) g = absurd g
call_takes funcs.Count None g = absurd g
call_takes funcs.Sum None g = absurd g
call_takes funcs.Min None g = absurd g
call_takes funcs.Max None g = absurd g
call_takes funcs.Count (Some column) g = refl
call_takes funcs.Sum (Some column) g = refl
call_takes funcs.Min (Some column) g = refl
call_takes funcs.Max (Some column) g = refl

expr_is : (expr : SelExpr) → IsSpellableExpr expr → is_expr expr ≡ true
expr_is (exprs.Column column) g = refl
expr_is (exprs.Agg func arg) g = call_takes func arg g

-- a good name, where there is one, has the form of a name
part_named : (name : Option (List ℕ)) → IsSpellablePart name → is_named name ≡ true
part_named None g = refl
part_named (Some name) g = rw g.0 refl

item_is : (item : SelItem) → IsSpellableItem item → is_item item ≡ true
item_is item g = rw (expr_is item.expr g.0, part_named item.name g.1) refl

table_is : (item : FromItem) → IsSpellableTable item → is_table item ≡ true
table_is item g = rw (g.0.0, part_named item.alias g.1) refl

-- where each good element passes the test, all of some good elements do, and there is one
module _ {X : Type 0} (IsGood : X → Type 0) (test : X → Bool) (each : (x : X) → IsGood x → test x ≡ true) where
  all_pass : (xs : List X) → Each IsGood xs → list_all test xs ≡ true
  all_pass [] g = refl
  all_pass (x ∷ xs) g = rw (each x g.0, all_pass xs g.1) refl

  some_pass : (xs : List X) → OneOrMore IsGood xs → (1 ≤ length xs) × (list_all test xs ≡ true)
  some_pass [] g = absurd g
  some_pass (x ∷ xs) g = (omega arith, all_pass (x ∷ xs) g)

-- a reading is readable
readable : (text : List ℕ) (s : Select) → IsReading text s → IsReadable s
readable text s r =
    let good = query_good r.spells.tokens s (tokens_good text s r) r.spells.query in
    let within = keeps_limits text s r in
    let chosen = some_pass IsSpellableItem is_item item_is s.items good.items in
    let from = some_pass IsSpellableTable is_table table_is s.from good.from in
    record {
      some_items = chosen.0;
      few_items = within limits.Items;
      items = chosen.1;
      some_tables = from.0;
      few_tables = within limits.Tables;
      tables = from.1;
      few_preds = within limits.Predicates;
      few_columns = within limits.GroupBy;
      few_keys = within limits.OrderBy;
      spellable = good;
    }

-- an answer that is a reading is readable
pub ok_readable : (text : List ℕ) (result : Result Select SqlFault) → IfOk result (IsReading text)
    → IfOk result IsReadable
ok_readable text (Ok s) r = readable text s r
ok_readable text (Err f) r = tt
