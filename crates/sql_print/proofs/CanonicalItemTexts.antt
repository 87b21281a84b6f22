-- The texts of columns, calls, elements and tables are pieces, which spell their kinds.
use Rattle.std.proofs.Common.{◌≡◌, ℕ, true, List, [], ◌∷◌, ◌++◌, Option, Some, None}
use Rattle.std.proofs.Common.{refl, ap, ◌∙◌}
use Rattle.std.specs.Prelude.{codes}
use Rattle.std.specs.List.{list_all}
use Rattle.orca_base.specs.Name.{has_name_form}
use Rattle.sql_reader.specs.declared.tokens.Mark.TheVariants as marks
use Rattle.sql_reader.specs.declared.tokens.Function.{Function}
use Rattle.sql_reader.specs.declared.tokens.Function.TheVariants as functions
use Rattle.sql_reader.specs.declared.tokens.Kind.{Kind}
use Rattle.sql_reader.specs.declared.tokens.Kind.TheVariants as kinds
use Rattle.sql_reader.specs.declared.syntax.ColRef.{ColRef}
use Rattle.sql_reader.specs.declared.syntax.SelFunc.{SelFunc}
use Rattle.sql_reader.specs.declared.syntax.SelFunc.TheVariants as funcs
use Rattle.sql_reader.specs.declared.syntax.SelExpr.{SelExpr}
use Rattle.sql_reader.specs.declared.syntax.SelExpr.TheVariants as exprs
use Rattle.sql_reader.specs.declared.syntax.SelItem.{SelItem}
use Rattle.sql_reader.specs.declared.syntax.FromItem.{FromItem}
use Rattle.sql_reader.specs.Words.{word_of, function_of}
use Rattle.sql_reader.specs.Pieces.{name, sign}
use Rattle.sql_reader.specs.Lexing.{named_kind, function_kind, called, is_open}
use Rattle.sql_print.specs.Canonical.{table_part, column_text, func_text, argument_text, expr_text, as_text, item_text}
use Rattle.sql_print.specs.Canonical.{table_text}
use Rattle.sql_reader.proofs.Printable.{shown_plain}
use Rattle.sql_reader.specs.Spellable.{is_plain, IsSpellableName, IsSpellablePart, IsSpellableColumn}
use Rattle.sql_reader.specs.Spellable.{IsSpellableCall, IsSpellableExpr, IsSpellableItem, IsSpellableTable}
use Rattle.sql_print.proofs.CanonicalKinds.{column_kinds, call_kinds, expr_kinds, as_kinds, item_kinds, table_kinds}
use Rattle.sql_print.proofs.Printed.{calls, before_kind, Safe, Any, Printed, joined, nothing, name_printed}
use Rattle.sql_print.proofs.Printed.{mark_before}
use Rattle.sql_print.proofs.CanonicalWords.{short_ends, dot_printed, close_printed, star_printed}
use Rattle.sql_print.proofs.CanonicalWords.{as_printed}

-- ---- columns and calls

column_printed_by : (table : Option (List ℕ)) (text : List ℕ) → IsSpellablePart table → IsSpellableName text
    → Printed Safe (table_part table ++ text) (column_kinds (record { at = 0; table = table; name = text }))
column_printed_by None text t g = name_printed text g
column_printed_by (Some table) text t g =
    joined (joined (name_printed table t) dot_printed (λ rest m. (refl, refl))) (name_printed text g) (λ rest m. tt)

pub column_printed : (c : ColRef) → IsSpellableColumn c → Printed Safe (column_text c) (column_kinds c)
column_printed c g = column_printed_by c.table c.name g.0 g.1

func_printed : (word : List ℕ) (function : Function) → word_of word ≡ None → function_of word ≡ Some function
    → has_name_form word ≡ true → list_all is_plain (word ++ 40 ∷ []) ≡ true → list_all is_plain word ≡ true
    → Printed Any (word ++ 40 ∷ []) (kinds.Function function ∷ kinds.Mark marks.Open ∷ [])
func_printed word function w f form plain inside = record {
  pieces = name word ∷ sign (40 ∷ []) ∷ [];
  whole = refl;
  calls_are = λ next n.
      (let k : named_kind word (word_of word) ≡ kinds.Name word =
      ap (named_kind word) w ∙ ap kinds.Name (shown_plain word inside) in
      let opens : before_kind (kinds.Mark marks.Open) next ≡ kinds.Mark marks.Open = mark_before marks.Open next in
      ap (λ (x : Kind). called x ∷ before_kind (kinds.Mark marks.Open) next ∷ calls next) k
      ∙ ap (λ (o : Option Function). function_kind word o ∷ before_kind (kinds.Mark marks.Open) next ∷ calls next) f
      ∙ ap (λ (o : Kind). kinds.Function function ∷ o ∷ calls next) opens);
  closed = λ next n. ap is_open (ap (named_kind word) w ∙ ap kinds.Name (shown_plain word inside));
  line = λ rest m. (form, refl, (refl, short_ends 40 (λ b. refl) rest, tt));
  plain = plain;
}

count_printed : Printed Any (codes "COUNT(") (kinds.Function functions.Count ∷ kinds.Mark marks.Open ∷ [])
unfolding word_of function_of
count_printed = func_printed (codes "COUNT") functions.Count refl refl refl refl refl

sum_printed : Printed Any (codes "SUM(") (kinds.Function functions.Sum ∷ kinds.Mark marks.Open ∷ [])
unfolding word_of function_of
sum_printed = func_printed (codes "SUM") functions.Sum refl refl refl refl refl

min_printed : Printed Any (codes "MIN(") (kinds.Function functions.Min ∷ kinds.Mark marks.Open ∷ [])
unfolding word_of function_of
min_printed = func_printed (codes "MIN") functions.Min refl refl refl refl refl

max_printed : Printed Any (codes "MAX(") (kinds.Function functions.Max ∷ kinds.Mark marks.Open ∷ [])
unfolding word_of function_of
max_printed = func_printed (codes "MAX") functions.Max refl refl refl refl refl

weaker : {t : List ℕ} {ks : List Kind} → Printed Any t ks → Printed Safe t ks
weaker p = record {
  pieces = p.pieces;
  whole = p.whole;
  calls_are = p.calls_are;
  closed = p.closed;
  line = λ rest m. p.line rest tt;
  plain = p.plain;
}

closing : {t : List ℕ} {function : Function} → Printed Any t (kinds.Function function ∷ kinds.Mark marks.Open ∷ [])
    → (c : ColRef) → IsSpellableColumn c
    → Printed Safe (t ++ column_text c ++ codes ")")
    (kinds.Function function ∷ kinds.Mark marks.Open ∷ (column_kinds c ++ kinds.Mark marks.Close ∷ []))
closing p c g = weaker (joined (joined p (column_printed c g) (λ rest m. tt)) close_printed (λ rest m. (refl, refl)))

call_printed : (func : SelFunc) (arg : Option ColRef) → IsSpellableCall func arg
    → Printed Safe (func_text func ++ argument_text arg ++ codes ")") (call_kinds func arg)
call_printed funcs.CountAll None g =
    weaker (joined (joined count_printed star_printed (λ rest m. tt)) close_printed (λ rest m. tt))
call_printed funcs.CountAll (Some c) g = absurd g
call_printed funcs.Count None g = absurd g
call_printed funcs.Sum None g = absurd g
call_printed funcs.Min None g = absurd g
call_printed funcs.Max None g = absurd g
call_printed funcs.Count (Some c) g = closing count_printed c g
call_printed funcs.Sum (Some c) g = closing sum_printed c g
call_printed funcs.Min (Some c) g = closing min_printed c g
call_printed funcs.Max (Some c) g = closing max_printed c g

expr_printed : (e : SelExpr) → IsSpellableExpr e → Printed Safe (expr_text e) (expr_kinds e)
expr_printed (exprs.Column c) g = column_printed c g
expr_printed (exprs.Agg func arg) g = call_printed func arg g

part_printed : (part : Option (List ℕ)) → IsSpellablePart part → Printed Safe (as_text part) (as_kinds part)
part_printed None g = nothing
part_printed (Some text) g = joined as_printed (name_printed text g) (λ rest m. tt)

part_safe : (part : Option (List ℕ)) (rest : List ℕ) → Safe rest → Safe (as_text part ++ rest)
part_safe None rest m = m
part_safe (Some text) rest m = (refl, refl)

pub item_printed : (i : SelItem) → IsSpellableItem i → Printed Safe (item_text i) (item_kinds i)
item_printed i g = joined (expr_printed i.expr g.0) (part_printed i.name g.1) (part_safe i.name)

pub table_printed : (t : FromItem) → IsSpellableTable t → Printed Safe (table_text t) (table_kinds t)
table_printed t g = joined (name_printed t.table g.0) (part_printed t.alias g.1) (part_safe t.alias)
