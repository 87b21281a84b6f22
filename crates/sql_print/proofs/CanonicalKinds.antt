-- What kinds of tokens a canonical text has, and tokens taken apart by their kinds.
use Rattle.std.proofs.Common.{◌≡◌, ℕ, eq-eqb, Bool, true, false, cond, List, [], ◌∷◌, ◌++◌, map, Option, Some, None}
use Rattle.std.proofs.Common.{refl, ap, ◌∙◌}
use Rattle.sql_reader.specs.Marks.{mark_number}
use Rattle.sql_reader.specs.declared.tokens.Mark.{Mark}
use Rattle.sql_reader.specs.declared.tokens.Mark.TheVariants as marks
use Rattle.sql_reader.specs.declared.tokens.Function.{Function}
use Rattle.sql_reader.specs.declared.tokens.Function.TheVariants as functions
use Rattle.sql_reader.specs.declared.tokens.Kind.{Kind}
use Rattle.sql_reader.specs.declared.tokens.Kind.TheVariants as kinds
use Rattle.sql_reader.specs.declared.tokens.Token.{Token}
use Rattle.sql_reader.specs.declared.syntax.ColRef.{ColRef}
use Rattle.sql_reader.specs.declared.syntax.SelFunc.{SelFunc}
use Rattle.sql_reader.specs.declared.syntax.SelFunc.TheVariants as funcs
use Rattle.sql_reader.specs.declared.syntax.SelExpr.{SelExpr}
use Rattle.sql_reader.specs.declared.syntax.SelExpr.TheVariants as exprs
use Rattle.sql_reader.specs.declared.syntax.SelItem.{SelItem}
use Rattle.sql_reader.specs.declared.syntax.FromItem.{FromItem}
use Rattle.sql_reader.specs.declared.syntax.SelOp.{SelOp}
use Rattle.sql_reader.specs.declared.syntax.SelOp.TheVariants as ops
use Rattle.sql_reader.specs.declared.syntax.SelOperand.{SelOperand}
use Rattle.sql_reader.specs.declared.syntax.SelOperand.TheVariants as operands
use Rattle.sql_reader.specs.declared.syntax.SelPred.{SelPred}
use Rattle.sql_reader.specs.declared.syntax.SelKey.{SelKey}
use Rattle.sql_reader.specs.declared.syntax.Select.{Select}
use Rattle.sql_reader.specs.Tokens.{is_mark, place_of, name_in, name_of}

abbrev pub kinds_of : List Token → List Kind
kinds_of = map (λ t. t.kind)

-- ---- taking tokens apart by their kinds

pub record Halves (us : List Token) (ks ls : List Kind) : Type 0 where
  pub front : List Token
  pub back : List Token
  pub whole : us ≡ front ++ back
  pub front_is : kinds_of front ≡ ks
  pub back_is : kinds_of back ≡ ls

pub halves : (us : List Token) (ks ls : List Kind) → kinds_of us ≡ ks ++ ls → Halves us ks ls
halves us [] ls e = record { front = []; back = us; whole = refl; front_is = refl; back_is = e }
halves [] (k ∷ ks) ls e = absurd cc
halves (u ∷ us) (k ∷ ks) ls e =
    let first : u.kind ≡ k = cc in
    let rest : kinds_of us ≡ ks ++ ls = cc in
    let h = halves us ks ls rest in
    record {
      front = u ∷ h.front;
      back = h.back;
      whole = ap (λ (ts : List Token). u ∷ ts) h.whole;
      front_is = (let f = h.front_is in cc);
      back_is = h.back_is;
    }

pub name_is : (u : Token) (text : List ℕ) → u.kind ≡ kinds.Name text
    → name_of u ≡ Some (record { at = u.at; text = text })
name_is u text e = ap (name_in u.at) e

pub mark_is : (u : Token) (m : Mark) → u.kind ≡ kinds.Mark m → place_of m u ≡ Some u.at
mark_is u m e = ap (λ (k : Kind). cond (is_mark m k) (Some u.at) None) e
    ∙ ap (λ (b : Bool). cond b (Some u.at) None) (eq-eqb (mark_number m) (mark_number m) refl)

-- ---- what each part is printed as

abbrev pub column_by : Option (List ℕ) → List ℕ → List Kind
column_by None name = kinds.Name name ∷ []
column_by (Some table) name = kinds.Name table ∷ kinds.Mark marks.Dot ∷ kinds.Name name ∷ []

abbrev pub column_kinds : ColRef → List Kind
column_kinds c = column_by c.table c.name

-- the function of a call with an argument
abbrev pub function_for : SelFunc → Function
function_for funcs.CountAll = functions.Count
function_for funcs.Count = functions.Count
function_for funcs.Sum = functions.Sum
function_for funcs.Min = functions.Min
function_for funcs.Max = functions.Max

abbrev pub call_kinds : SelFunc → Option ColRef → List Kind
call_kinds func None = kinds.Function functions.Count ∷ kinds.Mark marks.Open ∷ kinds.Mark marks.Star ∷ kinds.Mark
    marks.Close ∷ []
call_kinds func (Some c) = kinds.Function (function_for func) ∷ kinds.Mark
    marks.Open ∷ (column_kinds c ++ kinds.Mark marks.Close ∷ [])

abbrev pub expr_kinds : SelExpr → List Kind
expr_kinds (exprs.Column column) = column_kinds column
expr_kinds (exprs.Agg func arg) = call_kinds func arg

abbrev pub as_kinds : Option (List ℕ) → List Kind
as_kinds None = []
as_kinds (Some name) = kinds.Mark marks.As ∷ kinds.Name name ∷ []

abbrev pub item_kinds : SelItem → List Kind
item_kinds i = expr_kinds i.expr ++ as_kinds i.name

abbrev pub table_kinds : FromItem → List Kind
table_kinds t = kinds.Name t.table ∷ as_kinds t.alias

abbrev pub op_mark : SelOp → Mark
op_mark ops.Eq = marks.Equal
op_mark ops.Ne = marks.NotEqual
op_mark ops.Lt = marks.Less
op_mark ops.Le = marks.LessEqual
op_mark ops.Gt = marks.Greater
op_mark ops.Ge = marks.GreaterEqual

abbrev pub operand_kinds : SelOperand → List Kind
operand_kinds (operands.Column column) = column_kinds column
operand_kinds (operands.Int number) = kinds.Integer number ∷ []
operand_kinds (operands.Str text) = kinds.Quoted text ∷ []

abbrev pub pred_kinds : SelPred → List Kind
pred_kinds p = column_kinds p.left ++ kinds.Mark (op_mark p.op) ∷ operand_kinds p.right

abbrev pub direction_kinds : Bool → List Kind
direction_kinds true = kinds.Mark marks.Desc ∷ []
direction_kinds false = []

abbrev pub key_kinds : SelKey → List Kind
key_kinds k = column_kinds k.col ++ direction_kinds k.desc

abbrev pub others_kinds : {X : Type 0} → Mark → (X → List Kind) → List X → List Kind
others_kinds mark each [] = []
others_kinds mark each (x ∷ xs) = kinds.Mark mark ∷ (each x ++ others_kinds mark each xs)

abbrev pub list_kinds : {X : Type 0} → Mark → (X → List Kind) → List X → List Kind
list_kinds mark each [] = []
list_kinds mark each (x ∷ xs) = each x ++ others_kinds mark each xs

abbrev pub clause_kinds : {X : Type 0} → List Kind → Mark → (X → List Kind) → List X → List Kind
clause_kinds words mark each [] = []
clause_kinds words mark each (x ∷ xs) = words ++ list_kinds mark each (x ∷ xs)

abbrev pub group_words : List Kind
group_words = kinds.Mark marks.Group ∷ kinds.Mark marks.By ∷ []

abbrev pub order_words : List Kind
order_words = kinds.Mark marks.Order ∷ kinds.Mark marks.By ∷ []

abbrev pub query_kinds : Select → List Kind
query_kinds s =
    (((((kinds.Mark marks.Select ∷ []) ++ list_kinds marks.Comma item_kinds s.items) ++ kinds.Mark marks.From ∷ []) ++
    list_kinds marks.Comma table_kinds s.from)
    ++ clause_kinds (kinds.Mark marks.Where ∷ []) marks.And pred_kinds s.preds)
    ++ clause_kinds group_words marks.Comma column_kinds s.group_by
    ++ clause_kinds order_words marks.Comma key_kinds s.order_by
