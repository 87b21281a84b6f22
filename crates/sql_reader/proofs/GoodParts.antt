-- What a part of a query is made of is good where its tokens are.
use Rattle.std.proofs.Common.{◌≡◌, ℕ, true, false, List, [], ◌∷◌, Option, Some, None, ℤ, inl, inr, sym, ap, subst}
use Rattle.std.specs.List.{list_all}
use Rattle.sql_reader.specs.declared.tokens.Mark.TheVariants as marks
use Rattle.sql_reader.specs.declared.tokens.Function.{Function}
use Rattle.sql_reader.specs.declared.tokens.Function.TheVariants as functions
use Rattle.sql_reader.specs.declared.tokens.Kind.{Kind}
use Rattle.sql_reader.specs.declared.tokens.Kind.TheVariants as kinds
use Rattle.sql_reader.specs.declared.tokens.Token.{Token}
use Rattle.sql_reader.specs.declared.tokens.Name.{Name}
use Rattle.sql_reader.specs.declared.syntax.ColRef.{ColRef}
use Rattle.sql_reader.specs.declared.syntax.SelExpr.{SelExpr}
use Rattle.sql_reader.specs.declared.syntax.SelExpr.TheVariants as exprs
use Rattle.sql_reader.specs.declared.syntax.SelItem.{SelItem}
use Rattle.sql_reader.specs.declared.syntax.FromItem.{FromItem}
use Rattle.sql_reader.specs.declared.syntax.SelOperand.{SelOperand}
use Rattle.sql_reader.specs.declared.syntax.SelOperand.TheVariants as operands
use Rattle.sql_reader.specs.declared.syntax.SelPred.{SelPred}
use Rattle.sql_reader.specs.declared.syntax.SelKey.{SelKey}
use Rattle.sql_reader.specs.Tokens.{place_of, name_in, name_of, integer_in, quoted_in, op_of}
use Rattle.sql_reader.specs.Grammar.{AtEnd, After, Then, Either}
use Rattle.sql_reader.specs.Query.{plain_column, column_in, aggregate, plain_item, named_item, plain_table}
use Rattle.sql_reader.specs.Query.{aliased_table, key, IsColumn, IsArgument, IsCall, IsExpr, IsOutput}
use Rattle.sql_reader.specs.Query.{IsItem, IsTable, IsOperand, IsPred, IsDirection, IsKey}
use Rattle.sql_reader.proofs.Printable.{IsGoodKind, AreGood, good_front, good_back}
use Rattle.sql_reader.specs.Spellable.{is_plain, IsSpellableName, IsSpellableNumber, IsSpellableColumn}
use Rattle.sql_reader.specs.Spellable.{IsSpellableExpr, IsSpellableItem, IsSpellableKey, IsSpellableOperand}
use Rattle.sql_reader.specs.Spellable.{IsSpellablePred, IsSpellableTable}

-- ---- single tokens

name_good : (at : ℕ) (kind : Kind) (n : Name) → IsGoodKind kind → name_in at kind ≡ Some n → IsSpellableName n.text
name_good at (kinds.Name text) n g e = let k : text ≡ n.text = ap text_in e in subst IsSpellableName k g
  where
    text_in : Option Name → List ℕ
    text_in None = text
    text_in (Some m) = m.text
name_good at (kinds.Mark mark) n g e = absurd cc
name_good at (kinds.Function function) n g e = absurd cc
name_good at (kinds.Integer number) n g e = absurd cc
name_good at (kinds.Quoted text) n g e = absurd cc

integer_good : (kind : Kind) (z : ℤ) → IsGoodKind kind → integer_in kind ≡ Some z → IsSpellableNumber z
integer_good (kinds.Integer number) z g e = let k : number ≡ z = cc in subst IsSpellableNumber k g
integer_good (kinds.Mark mark) z g e = absurd cc
integer_good (kinds.Name text) z g e = absurd cc
integer_good (kinds.Function function) z g e = absurd cc
integer_good (kinds.Quoted text) z g e = absurd cc

quoted_good : (kind : Kind) (s : List ℕ) → IsGoodKind kind → quoted_in kind ≡ Some s → list_all is_plain s ≡ true
quoted_good (kinds.Quoted text) s g e = let k : text ≡ s = cc in subst (λ (t : List ℕ). list_all is_plain t ≡ true) k g
quoted_good (kinds.Mark mark) s g e = absurd cc
quoted_good (kinds.Name text) s g e = absurd cc
quoted_good (kinds.Function function) s g e = absurd cc
quoted_good (kinds.Integer number) s g e = absurd cc

-- ---- productions

pub column_good : (tokens : List Token) (c : ColRef) → AreGood tokens → IsColumn tokens c → IsSpellableColumn c
column_good [] c g h = absurd h
column_good (t ∷ tokens) c g h = by tokens g.1 h.2
  where
    by : (ts : List Token) → AreGood ts
        → Either (After (place_of marks.Dot) (λ _. After name_of (λ name. AtEnd (column_in h.0 name))))
        (AtEnd (plain_column h.0)) ts c → IsSpellableColumn c
    by [] k (inl d) = absurd d
    by (u ∷ []) k (inl d) = absurd d.2
    by (u ∷ v ∷ []) k (inl d) =
        let second = name_good v.at v.kind d.2.0 k.1.0 d.2.1 in
        subst IsSpellableColumn (sym d.2.2) (name_good t.at t.kind h.0 g.0 h.1, second)
    by (u ∷ v ∷ w ∷ ts) k (inl d) = absurd d.2.2
    by [] k (inr d) = subst IsSpellableColumn (sym d) (tt, name_good t.at t.kind h.0 g.0 h.1)
    by (u ∷ ts) k (inr d) = absurd d

pub done_good : {X : Type 0} (IsGood : X → Type 0) (value x : X) (tokens : List Token) → AtEnd value tokens x
    → IsGood value → IsGood x
done_good IsGood value x [] d g = subst IsGood (sym d) g
done_good IsGood value x (t ∷ tokens) d g = absurd d

as_column_good : {X : Type 0} (IsGood : X → Type 0) (f : ColRef → X) (tokens : List Token) (x : X)
    → ((c : ColRef) → IsSpellableColumn c → IsGood (f c)) → AreGood tokens → Then IsColumn (λ c. AtEnd (f c)) tokens x
    → IsGood x
as_column_good IsGood f tokens x into g h =
    let parts = rw h.whole at g in
    done_good IsGood (f h.value) x h.back h.second
    (into h.value (column_good h.front h.value (good_front h.front h.back parts) h.first))

argument_good : (function : Function) (tokens : List Token) (e : SelExpr) → AreGood tokens
    → IsArgument function tokens e → IsSpellableExpr e
argument_good functions.Count [] e g (inl h) = absurd h
argument_good functions.Count (t ∷ tokens) e g (inl h) = done_good IsSpellableExpr _ e tokens h.2 tt
argument_good functions.Count tokens e g (inr h) =
    as_column_good IsSpellableExpr (aggregate functions.Count) tokens e (λ c k. k) g h
argument_good functions.Sum tokens e g h =
    as_column_good IsSpellableExpr (aggregate functions.Sum) tokens e (λ c k. k) g h
argument_good functions.Min tokens e g h =
    as_column_good IsSpellableExpr (aggregate functions.Min) tokens e (λ c k. k) g h
argument_good functions.Max tokens e g h =
    as_column_good IsSpellableExpr (aggregate functions.Max) tokens e (λ c k. k) g h

close_good : (value e : SelExpr) (tokens : List Token) → After (place_of marks.Close) (λ _. AtEnd value) tokens e
    → IsSpellableExpr value → IsSpellableExpr e
close_good value e [] h g = absurd h
close_good value e (t ∷ tokens) h g = done_good IsSpellableExpr value e tokens h.2 g

call_good : (function : Function) (tokens : List Token) (e : SelExpr) → AreGood tokens → IsCall function tokens e
    → IsSpellableExpr e
call_good function [] e g h = absurd h
call_good function (t ∷ tokens) e g h =
    let parts = rw h.2.whole at g.1 in
    close_good h.2.value e h.2.back h.2.second
    (argument_good function h.2.front h.2.value (good_front h.2.front h.2.back parts) h.2.first)

expr_good : (tokens : List Token) (e : SelExpr) → AreGood tokens → IsExpr tokens e → IsSpellableExpr e
expr_good [] e g (inl h) = absurd h
expr_good (t ∷ tokens) e g (inl h) = call_good h.0 tokens e g.1 h.2
expr_good tokens e g (inr h) = as_column_good IsSpellableExpr exprs.Column tokens e (λ c k. k) g h

output_good : (expr : SelExpr) (tokens : List Token) (i : SelItem) → IsSpellableExpr expr → AreGood tokens
    → IsOutput expr tokens i → IsSpellableItem i
output_good expr [] i e g (inl h) = absurd h
output_good expr (t ∷ []) i e g (inl h) = absurd h.2
output_good expr (t ∷ u ∷ tokens) i e g (inl h) =
    done_good IsSpellableItem (named_item expr h.2.0) i tokens h.2.2 (e, name_good u.at u.kind h.2.0 g.1.0 h.2.1)
output_good expr tokens i e g (inr h) = done_good IsSpellableItem (plain_item expr) i tokens h (e, tt)

pub item_good : (tokens : List Token) (i : SelItem) → AreGood tokens → IsItem tokens i → IsSpellableItem i
item_good tokens i g h =
    let parts = rw h.whole at g in
    output_good h.value h.back i (expr_good h.front h.value (good_front h.front h.back parts) h.first)
    (good_back h.front h.back parts) h.second

pub table_good : (tokens : List Token) (x : FromItem) → AreGood tokens → IsTable tokens x → IsSpellableTable x
table_good [] x g h = absurd h
table_good (t ∷ tokens) x g h = by tokens g.1 h.2
  where
    by : (ts : List Token) → AreGood ts
        → Either (After (place_of marks.As) (λ _. After name_of (λ alias. AtEnd (aliased_table h.0 alias))))
        (Either (After name_of (λ alias. AtEnd (aliased_table h.0 alias))) (AtEnd (plain_table h.0))) ts x
        → IsSpellableTable x
    by [] k (inl d) = absurd d
    by (u ∷ []) k (inl d) = absurd d.2
    by (u ∷ v ∷ ts) k (inl d) = done_good IsSpellableTable (aliased_table h.0 d.2.0) x ts d.2.2
        (name_good t.at t.kind h.0 g.0 h.1, name_good v.at v.kind d.2.0 k.1.0 d.2.1)
    by [] k (inr (inl d)) = absurd d
    by (u ∷ ts) k (inr (inl d)) = done_good IsSpellableTable (aliased_table h.0 d.0) x ts d.2
        (name_good t.at t.kind h.0 g.0 h.1, name_good u.at u.kind d.0 k.0 d.1)
    by ts k (inr (inr d)) = done_good IsSpellableTable (plain_table h.0) x ts d (name_good t.at t.kind h.0 g.0 h.1, tt)

operand_good : (tokens : List Token) (x : SelOperand) → AreGood tokens → IsOperand tokens x → IsSpellableOperand x
operand_good [] x g (inl h) = absurd h
operand_good (t ∷ tokens) x g (inl h) =
    done_good IsSpellableOperand (operands.Int h.0) x tokens h.2 (integer_good t.kind h.0 g.0 h.1)
operand_good [] x g (inr (inl h)) = absurd h
operand_good (t ∷ tokens) x g (inr (inl h)) =
    done_good IsSpellableOperand (operands.Str h.0) x tokens h.2 (quoted_good t.kind h.0 g.0 h.1)
operand_good tokens x g (inr (inr h)) = as_column_good IsSpellableOperand operands.Column tokens x (λ c k. k) g h

pub pred_good : (tokens : List Token) (x : SelPred) → AreGood tokens → IsPred tokens x → IsSpellablePred x
pred_good tokens x g h =
    let parts = rw h.whole at g in
    by h.back (good_back h.front h.back parts) h.second
  where
    by : (ts : List Token) → AreGood ts
        → After op_of (λ op. Then IsOperand (λ right. AtEnd (record { left = h.value; op = op; right = right }))) ts x
        → IsSpellablePred x
    by [] k d = absurd d
    by (u ∷ ts) k d =
        let rest = rw d.2.whole at k.1 in
        let all = rw h.whole at g in
        done_good IsSpellablePred (record { left = h.value; op = d.0; right = d.2.value }) x d.2.back d.2.second (
          column_good h.front h.value (good_front h.front h.back all) h.first,
          operand_good d.2.front d.2.value
              (good_front d.2.front d.2.back rest) d.2.first,
        )

direction_good : (c : ColRef) (tokens : List Token) (x : SelKey) → IsSpellableColumn c → IsDirection c tokens x
    → IsSpellableKey x
direction_good c [] x g (inl h) = absurd h
direction_good c (t ∷ tokens) x g (inl h) = done_good IsSpellableKey (key c false) x tokens h.2 g
direction_good c [] x g (inr (inl h)) = absurd h
direction_good c (t ∷ tokens) x g (inr (inl h)) = done_good IsSpellableKey (key c true) x tokens h.2 g
direction_good c tokens x g (inr (inr h)) = done_good IsSpellableKey (key c false) x tokens h g

pub key_good : (tokens : List Token) (x : SelKey) → AreGood tokens → IsKey tokens x → IsSpellableKey x
key_good tokens x g h =
    let parts = rw h.whole at g in
    direction_good h.value h.back x (column_good h.front h.value (good_front h.front h.back parts) h.first) h.second
