-- No token says two different things.
use Rattle.std.proofs.Common.{◌≡◌, ℕ, ◌≤◌, Bool, true, false, cond, eqb, List, [], Option, Some, None, ℤ, pos, refl}
use Rattle.std.proofs.Common.{arith, eqb-true}
use Rattle.std.specs.Prelude.{is_some}
use Rattle.sql_reader.specs.Marks.{mark_number}
use Rattle.sql_reader.specs.declared.tokens.Mark.{Mark}
use Rattle.sql_reader.specs.declared.tokens.Mark.TheVariants as marks
use Rattle.sql_reader.specs.declared.tokens.Function.{Function}
use Rattle.sql_reader.specs.declared.tokens.Kind.{Kind}
use Rattle.sql_reader.specs.declared.tokens.Kind.TheVariants as kinds
use Rattle.sql_reader.specs.declared.tokens.Token.{Token}
use Rattle.sql_reader.specs.declared.tokens.Name.{Name}
use Rattle.sql_reader.specs.declared.syntax.SelOp.{SelOp}
use Rattle.sql_reader.specs.Tokens.{is_mark, place_of, name_in, name_of, function_in, called_of, integer_in, integer_of}
use Rattle.sql_reader.specs.Tokens.{quoted_in, quoted_of, comparison, op_in, op_of}
use Rattle.sql_reader.proofs.Choices.{Says}

abbrev pub AMark : Mark → Token → Type 0
AMark mark = Says (place_of mark)

abbrev pub AName : Token → Type 0
AName = Says name_of

abbrev pub ACall : Token → Type 0
ACall = Says called_of

abbrev pub AnInteger : Token → Type 0
AnInteger = Says integer_of

abbrev pub AText : Token → Type 0
AText = Says quoted_of

abbrev pub AnOp : Token → Type 0
AnOp = Says op_of

-- tokens of which each is of its kind
abbrev pub mark_token : Mark → Token
mark_token mark = record { at = 0; kind = kinds.Mark mark }

abbrev pub name_token : Token
name_token = record { at = 0; kind = kinds.Name [] }

abbrev pub integer_token : Token
integer_token = record { at = 0; kind = kinds.Integer (pos 0) }

-- the value that is there
pub some_of : {V : Type 0} (o : Option V) → is_some o ≡ true → (v : V) × (o ≡ Some v)
some_of None h = absurd cc
some_of (Some v) h = (v, refl)

-- what kind a token has that says something
abbrev pub HasMark : ℕ → Kind → Type 0
HasMark n (kinds.Mark mark) = mark_number mark ≡ n
HasMark n (kinds.Name text) = ⊥
HasMark n (kinds.Function function) = ⊥
HasMark n (kinds.Integer number) = ⊥
HasMark n (kinds.Quoted text) = ⊥

chosen : (b : Bool) (at p : ℕ) → cond b (Some at) None ≡ Some p → b ≡ true
chosen true at p h = refl
chosen false at p h = absurd cc

has_mark : (mark : Mark) (at p : ℕ) (kind : Kind) → cond (is_mark mark kind) (Some at) None ≡ Some p
    → HasMark (mark_number mark) kind
has_mark mark at p (kinds.Mark other) h = let e =
    eqb-true (mark_number mark) (mark_number other) (chosen (eqb (mark_number mark) (mark_number other)) at p h) in
    omega (arith, e)
has_mark mark at p (kinds.Name text) h = absurd cc
has_mark mark at p (kinds.Function function) h = absurd cc
has_mark mark at p (kinds.Integer number) h = absurd cc
has_mark mark at p (kinds.Quoted text) h = absurd cc

pub marked : (mark : Mark) (t : Token) → AMark mark t → HasMark (mark_number mark) t.kind
marked mark t h = has_mark mark t.at h.0 t.kind h.1

two_marks : (m n : ℕ) (kind : Kind) → HasMark m kind → HasMark n kind → m ≡ n
two_marks m n (kinds.Mark mark) h k = omega arith
two_marks m n (kinds.Name text) h k = absurd h
two_marks m n (kinds.Function function) h k = absurd h
two_marks m n (kinds.Integer number) h k = absurd h
two_marks m n (kinds.Quoted text) h k = absurd h

pub one_mark : (a b : Mark) (t : Token) → AMark a t → AMark b t → mark_number a ≡ mark_number b
one_mark a b t h k = two_marks (mark_number a) (mark_number b) t.kind (marked a t h) (marked b t k)

name_no_mark : (n : ℕ) (at : ℕ) (name : Name) (kind : Kind) → name_in at kind ≡ Some name → HasMark n kind → ⊥
name_no_mark n at name (kinds.Mark mark) h k = absurd cc
name_no_mark n at name (kinds.Name text) h k = k
name_no_mark n at name (kinds.Function function) h k = k
name_no_mark n at name (kinds.Integer number) h k = k
name_no_mark n at name (kinds.Quoted text) h k = k

pub name_mark : (mark : Mark) (t : Token) → AName t → AMark mark t → ⊥
name_mark mark t h k = name_no_mark (mark_number mark) t.at h.0 t.kind h.1 (marked mark t k)

name_no_call : (at : ℕ) (name : Name) (function : Function) (kind : Kind) → name_in at kind ≡ Some name
    → function_in kind ≡ Some function → ⊥
name_no_call at name function (kinds.Mark mark) h k = absurd cc
name_no_call at name function (kinds.Name text) h k = absurd cc
name_no_call at name function (kinds.Function other) h k = absurd cc
name_no_call at name function (kinds.Integer number) h k = absurd cc
name_no_call at name function (kinds.Quoted text) h k = absurd cc

pub name_call : (t : Token) → AName t → ACall t → ⊥
name_call t h k = name_no_call t.at h.0 k.0 t.kind h.1 k.1

integer_no_name : (at : ℕ) (number : ℤ) (name : Name) (kind : Kind) → integer_in kind ≡ Some number
    → name_in at kind ≡ Some name → ⊥
integer_no_name at number name (kinds.Mark mark) h k = absurd cc
integer_no_name at number name (kinds.Name text) h k = absurd cc
integer_no_name at number name (kinds.Function other) h k = absurd cc
integer_no_name at number name (kinds.Integer other) h k = absurd cc
integer_no_name at number name (kinds.Quoted text) h k = absurd cc

pub integer_name : (t : Token) → AnInteger t → AName t → ⊥
integer_name t h k = integer_no_name t.at h.0 k.0 t.kind h.1 k.1

quoted_no_name : (at : ℕ) (quoted : List ℕ) (name : Name) (kind : Kind) → quoted_in kind ≡ Some quoted
    → name_in at kind ≡ Some name → ⊥
quoted_no_name at quoted name (kinds.Mark mark) h k = absurd cc
quoted_no_name at quoted name (kinds.Name text) h k = absurd cc
quoted_no_name at quoted name (kinds.Function other) h k = absurd cc
quoted_no_name at quoted name (kinds.Integer other) h k = absurd cc
quoted_no_name at quoted name (kinds.Quoted text) h k = absurd cc

pub quoted_name : (t : Token) → AText t → AName t → ⊥
quoted_name t h k = quoted_no_name t.at h.0 k.0 t.kind h.1 k.1

integer_no_quoted : (number : ℤ) (quoted : List ℕ) (kind : Kind) → integer_in kind ≡ Some number
    → quoted_in kind ≡ Some quoted → ⊥
integer_no_quoted number quoted (kinds.Mark mark) h k = absurd cc
integer_no_quoted number quoted (kinds.Name text) h k = absurd cc
integer_no_quoted number quoted (kinds.Function other) h k = absurd cc
integer_no_quoted number quoted (kinds.Integer other) h k = absurd cc
integer_no_quoted number quoted (kinds.Quoted text) h k = absurd cc

pub integer_quoted : (t : Token) → AnInteger t → AText t → ⊥
integer_quoted t h k = integer_no_quoted h.0 k.0 t.kind h.1 k.1

-- the comparisons come last among the marks
compares : (mark : Mark) (op : SelOp) → comparison mark ≡ Some op → 13 ≤ mark_number mark
compares marks.Equal op h = omega arith
compares marks.NotEqual op h = omega arith
compares marks.Less op h = omega arith
compares marks.LessEqual op h = omega arith
compares marks.Greater op h = omega arith
compares marks.GreaterEqual op h = omega arith
compares _ op h = absurd cc

op_above : (n : ℕ) (op : SelOp) (kind : Kind) → op_in kind ≡ Some op → HasMark n kind → 13 ≤ n
op_above n op (kinds.Mark mark) h k = omega (arith, compares mark op h)
op_above n op (kinds.Name text) h k = absurd k
op_above n op (kinds.Function other) h k = absurd k
op_above n op (kinds.Integer other) h k = absurd k
op_above n op (kinds.Quoted text) h k = absurd k

pub op_mark : (mark : Mark) (t : Token) → AnOp t → AMark mark t → 13 ≤ mark_number mark
op_mark mark t h k = op_above (mark_number mark) h.0 t.kind h.1 (marked mark t k)
