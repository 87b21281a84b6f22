-- The productions up to an element of a list are read exactly.
use Rattle.std.proofs.Common.{◌≡◌, ℕ, List, true, false, ◌⊎◌, inl, inr, refl, arith}
use Rattle.sql_reader.specs.Marks.{mark_number}
use Rattle.sql_reader.specs.declared.tokens.Mark.TheVariants as marks
use Rattle.sql_reader.specs.declared.tokens.Function.{Function}
use Rattle.sql_reader.specs.declared.tokens.Function.TheVariants as functions
use Rattle.sql_reader.specs.declared.tokens.Token.{Token}
use Rattle.sql_reader.specs.declared.syntax.ColRef.{ColRef}
use Rattle.sql_reader.specs.declared.syntax.SelExpr.{SelExpr}
use Rattle.sql_reader.specs.declared.syntax.SelExpr.TheVariants as exprs
use Rattle.sql_reader.specs.declared.syntax.SelOperand.TheVariants as operands
use Rattle.sql_reader.specs.declared.syntax.SelOp.TheVariants as ops
use Rattle.sql_reader.specs.Grammar.{AtEnd, Then}
use Rattle.sql_reader.specs.Steps.{Step, done_at, then_at}
use Rattle.sql_reader.specs.Query.{plain_column, column_in, count_all, aggregate, plain_item, named_item, plain_table}
use Rattle.sql_reader.specs.Query.{aliased_table, predicate, key, IsColumn, IsArgument, IsCall, IsExpr, IsOutput}
use Rattle.sql_reader.specs.Query.{IsItem, IsTable, IsOperand, IsPred, IsDirection, IsKey}
use Rattle.sql_reader.specs.Reading.{column_at, argument_at, call_at, expr_at, output_at, item_at, table_at, operand_at}
use Rattle.sql_reader.specs.Reading.{pred_at, direction_at, key_at}
use Rattle.sql_reader.proofs.Exact.{Exact, Never, NoToken, as_exact}
use Rattle.sql_reader.proofs.Choices.{done_exact}
use Rattle.sql_reader.proofs.Branches.{after, choice}
use Rattle.sql_reader.proofs.Sequences.{both_exact}
use Rattle.sql_reader.proofs.Apart.{AMark, AName, ACall, AnInteger, AText, AnOp, mark_token, name_token, one_mark}
use Rattle.sql_reader.proofs.Apart.{name_mark, name_call, integer_name, quoted_name, integer_quoted, op_mark}

-- a production and another behind it, where no limit is spoken of
sequence : {X Z : Type 0} {IsX : List Token → X → Type 0} {First1 More1 : Token → Type 0} {Empty1 : Type 0}
    {read1 : List Token → Step X}
    {IsZ : X → List Token → Z → Type 0} {First2 More2 : Token → Type 0} {Empty2 : Type 0}
    {read2 : X → List Token → Step Z}
    → Exact IsX First1 More1 Empty1 Never read1 → ((x : X) → Exact (IsZ x) First2 More2 Empty2 Never (read2 x))
    → ((t : Token) → More1 t → First2 t → ⊥)
    → Exact (Then IsX IsZ) (λ t. First1 t ⊎ (Empty1 × First2 t)) (λ t. More2 t ⊎ (Empty2 × More1 t)) (Empty1 × Empty2)
    Never (then_at read1 read2)
sequence e1 e2 clash = both_exact _ _ _ _ _ _ _ _ _ _ _ _ _ e1 e2 clash (λ w x tokens z k h. h) (λ w z h. h)
    (λ w x tokens z k h. inr h)

-- ---- sets of tokens, made smaller

begun : (A B : Type 0) → A ⊎ (⊥ × B) → A
begun A B (inl h) = h
begun A B (inr h) = absurd h.0

only_last : (A : Type 0) → ⊥ ⊎ (⊥ ⊎ (Unit {0} × A)) → A
only_last A (inl h) = absurd h
only_last A (inr (inl h)) = absurd h
only_last A (inr (inr h)) = h.1

passed : (A : Type 0) → ⊥ ⊎ (Unit {0} × A) → A
passed A (inl h) = absurd h
passed A (inr h) = h.1

never_passed : (A : Type 0) → ⊥ ⊎ (⊥ × A) → ⊥
never_passed A (inl h) = h
never_passed A (inr h) = h.0

second_only : (A B : Type 0) → ⊥ ⊎ (A ⊎ (⊥ × B)) → A
second_only A B (inl h) = absurd h
second_only A B (inr (inl h)) = h
second_only A B (inr (inr h)) = absurd h.0

either_none : (A : Type 0) → A ⊎ ⊥ → A
either_none A (inl h) = h
either_none A (inr h) = absurd h

passed_or : (A B : Type 0) → A ⊎ (Unit {0} × B) → A ⊎ B
passed_or A B (inl h) = inl h
passed_or A B (inr h) = inr h.1

two_last : (A B : Type 0) → ⊥ ⊎ ((⊥ ⊎ (⊥ ⊎ (Unit {0} × A))) ⊎ (Unit {0} × B)) → B ⊎ A
two_last A B (inl h) = absurd h
two_last A B (inr (inl h)) = inr (only_last A h)
two_last A B (inr (inr h)) = inl h.1

-- ---- productions

pub column_exact : Exact IsColumn AName (AMark marks.Dot) ⊥ Never column_at
unfolding column_at
column_exact = as_exact
    (after name_token _ refl (λ first.
    choice (λ (_ : ℕ). after name_token _ refl (λ name. done_exact (column_in first name)))
    (done_exact (plain_column first)) (λ t v s k. k)))
    (λ t h. h) (λ t h. only_last (AMark marks.Dot t) h) (λ h. h)

-- a column, as something else
as_column : {Z : Type 0} (f : ColRef → Z)
    → Exact (Then IsColumn (λ column. AtEnd (f column))) AName (AMark marks.Dot) ⊥ Never
    (then_at column_at (λ column. done_at (f column)))
as_column f = as_exact (sequence column_exact (λ column. done_exact (f column)) (λ t m n. n))
    (λ t h. begun (AName t) ⊥ h) (λ t h. passed (AMark marks.Dot t) h) (λ h. h.0)

Argues : Token → Type 0
Argues t = AMark marks.Star t ⊎ AName t

star_or_column : Exact (IsArgument functions.Count) Argues (AMark marks.Dot) ⊥ Never (argument_at functions.Count)
unfolding argument_at Argues
star_or_column = as_exact
    (choice (λ (_ : ℕ). done_exact count_all) (as_column (aggregate functions.Count))
    (λ t v s n. name_mark marks.Star t n (v, s)))
    (λ t h. h) (λ t h. second_only (AMark marks.Dot t) (AMark marks.Star t) h) (λ h. h)

argument_exact : (function : Function)
    → Exact (IsArgument function) Argues (AMark marks.Dot) ⊥ Never (argument_at function)
unfolding argument_at Argues
argument_exact functions.Count = star_or_column
argument_exact functions.Sum = as_exact (as_column (aggregate functions.Sum)) (λ t h. inr h) (λ t h. h) (λ h. h)
argument_exact functions.Min = as_exact (as_column (aggregate functions.Min)) (λ t h. inr h) (λ t h. h) (λ h. h)
argument_exact functions.Max = as_exact (as_column (aggregate functions.Max)) (λ t h. inr h) (λ t h. h) (λ h. h)

call_exact : (function : Function) → Exact (IsCall function) (AMark marks.Open) NoToken ⊥ Never (call_at function)
unfolding call_at
call_exact function = as_exact
    (after (mark_token marks.Open) _ refl (λ (_ : ℕ).
    sequence (argument_exact function) (λ call. after (mark_token marks.Close) _ refl (λ (_ : ℕ). done_exact call))
    (λ t h k. let e : mark_number marks.Dot ≡ mark_number marks.Close = one_mark marks.Dot marks.Close t h k in
    absurd (omega (arith, e)))))
    (λ t h. h) (λ t h. never_passed (AMark marks.Dot t) h) (λ h. h)

abbrev pub Begins : Token → Type 0
Begins t = ACall t ⊎ AName t

expr_exact : Exact IsExpr Begins (AMark marks.Dot) ⊥ Never expr_at
unfolding expr_at
expr_exact = as_exact (choice call_exact (as_column exprs.Column) (λ t v s n. name_call t n (v, s)))
    (λ t h. h) (λ t h. second_only (AMark marks.Dot t) (ACall t) h) (λ h. h)

output_exact : (expr : SelExpr)
    → Exact (IsOutput expr) (AMark marks.As) (AMark marks.As) (Unit {0}) Never (output_at expr)
unfolding output_at
output_exact expr = as_exact
    (choice (λ (_ : ℕ). after name_token _ refl (λ name. done_exact (named_item expr name)))
    (done_exact (plain_item expr)) (λ t v s k. k))
    (λ t h. either_none (AMark marks.As t) h) (λ t h. only_last (AMark marks.As t) h) (λ h. h)

pub item_exact : Exact IsItem Begins (λ t. AMark marks.As t ⊎ AMark marks.Dot t) ⊥ Never item_at
unfolding item_at
item_exact = as_exact
    (sequence expr_exact output_exact
    (λ t h k. let e : mark_number marks.Dot ≡ mark_number marks.As = one_mark marks.Dot marks.As t h k in
    absurd (omega (arith, e))))
    (λ t h. begun (Begins t) (AMark marks.As t) h) (λ t h. passed_or (AMark marks.As t) (AMark marks.Dot t) h)
    (λ h. h.0)

pub table_exact : Exact IsTable AName (λ t. AMark marks.As t ⊎ AName t) ⊥ Never table_at
unfolding table_at
table_exact = as_exact
    (after name_token _ refl (λ table.
    choice (λ (_ : ℕ). after name_token _ refl (λ alias. done_exact (aliased_table table alias)))
    (choice (λ alias. done_exact (aliased_table table alias)) (done_exact (plain_table table)) (λ t v s k. k))
    (λ t v s n. name_mark marks.As t (either_none (AName t) n) (v, s))))
    (λ t h. h) (λ t h. two_last (AName t) (AMark marks.As t) h) (λ h. h)

abbrev Operates : Token → Type 0
Operates t = AnInteger t ⊎ (AText t ⊎ AName t)

operand_exact : Exact IsOperand Operates (AMark marks.Dot) ⊥ Never operand_at
unfolding operand_at
operand_exact = as_exact
    (choice (λ number. done_exact (operands.Int number))
    (choice (λ text. done_exact (operands.Str text)) (as_column operands.Column) (λ t v s n. quoted_name t (v, s) n))
    (λ t v s n. integer_or t (v, s) n))
    (λ t h. h) (λ t h. second_only (AMark marks.Dot t) (AText t)
    (second_only (⊥ ⊎ (AMark marks.Dot t ⊎ (⊥ × AText t))) (AnInteger t) h)) (λ h. h)
  where
    integer_or : (t : Token) → AnInteger t → AText t ⊎ AName t → ⊥
    integer_or t h (inl k) = integer_quoted t h k
    integer_or t h (inr k) = integer_name t h k

pub pred_exact : Exact IsPred AName (AMark marks.Dot) ⊥ Never pred_at
unfolding pred_at
pred_exact = as_exact
    (sequence column_exact (λ left. after (mark_token marks.Equal) ops.Eq refl
    (λ op. sequence operand_exact (λ right. done_exact (predicate left op right)) (λ t m n. n)))
    (λ t h k. absurd (omega (arith, op_mark marks.Dot t k h))))
    (λ t h. begun (AName t) (AnOp t) h)
    (λ t h. passed (AMark marks.Dot t) (begun (⊥ ⊎ (Unit {0} × AMark marks.Dot t)) (AMark marks.Dot t) h))
    (λ h. h.0)

abbrev pub Directs : Token → Type 0
Directs t = AMark marks.Asc t ⊎ AMark marks.Desc t

direction_exact : (column : ColRef) → Exact (IsDirection column) Directs Directs (Unit {0}) Never (direction_at column)
unfolding direction_at
direction_exact column = as_exact
    (choice (λ (_ : ℕ). done_exact (key column false))
    (choice (λ (_ : ℕ). done_exact (key column true)) (done_exact (key column false)) (λ t v s k. k))
    (λ t v s n. let e : mark_number marks.Asc ≡ mark_number marks.Desc =
    one_mark marks.Asc marks.Desc t (v, s) (either_none (AMark marks.Desc t) n) in absurd (omega (arith, e))))
    (λ t h. three (AMark marks.Asc t) (AMark marks.Desc t) h)
    (λ t h. two_last (AMark marks.Desc t) (AMark marks.Asc t) h) (λ h. h)
  where
    three : (A B : Type 0) → A ⊎ (B ⊎ ⊥) → A ⊎ B
    three A B (inl h) = inl h
    three A B (inr (inl h)) = inr h
    three A B (inr (inr h)) = absurd h

pub key_exact : Exact IsKey AName (λ t. Directs t ⊎ AMark marks.Dot t) ⊥ Never key_at
unfolding key_at
key_exact = as_exact (sequence column_exact direction_exact dot_direction)
    (λ t h. begun (AName t) (Directs t) h) (λ t h. passed_or (Directs t) (AMark marks.Dot t) h) (λ h. h.0)
  where
    dot_direction : (t : Token) → AMark marks.Dot t → Directs t → ⊥
    dot_direction t h (inl k) = let e : mark_number marks.Dot ≡ mark_number marks.Asc =
        one_mark marks.Dot marks.Asc t h k in absurd (omega (arith, e))
    dot_direction t h (inr k) = let e : mark_number marks.Dot ≡ mark_number marks.Desc =
        one_mark marks.Dot marks.Desc t h k in absurd (omega (arith, e))
