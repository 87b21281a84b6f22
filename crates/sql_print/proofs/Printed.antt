-- Texts that are pieces, and what tokens these spell.
use Rattle.std.proofs.Common.{◌≡◌, ℕ, ◌+◌, Bool, true, false, cond, List, [], ◌∷◌, ◌++◌, length, Option, Some, None}
use Rattle.std.proofs.Common.{refl, sym, ap, subst, ◌∙◌, append_assoc}
use Rattle.std.specs.List.{list_all}
use Rattle.std.proofs.lemmas.List.{append-nil}
use Rattle.std.proofs.lemmas.List.Folds.{list_all-append}
use Rattle.orca_base.specs.Name.{continues_name}
use Rattle.sql_reader.specs.declared.tokens.Mark.{Mark}
use Rattle.sql_reader.specs.declared.tokens.Kind.{Kind}
use Rattle.sql_reader.specs.declared.tokens.Kind.TheVariants as kinds
use Rattle.sql_reader.specs.declared.tokens.Token.{Token}
use Rattle.sql_reader.specs.Pieces.{Piece, name, is_quote, spelling, Fits, EndsPiece, Stands, Are}
use Rattle.sql_reader.specs.Lexing.{named_kind, kind_of, called, is_open_mark, is_open, before, with_kind, tokens_of}
use Rattle.sql_reader.proofs.Added.{called_open}
use Rattle.sql_reader.specs.Spellable.{is_plain, IsSpellableName}
use Rattle.sql_reader.proofs.Printable.{shown_plain}
use Rattle.sql_print.proofs.CanonicalKinds.{kinds_of}

-- ---- the bytes and the kinds of pieces

abbrev pub spelled : List Piece → List ℕ
spelled [] = []
spelled (piece ∷ pieces) = spelling piece ++ spelled pieces

spelled-append : (ps qs : List Piece) → spelled (ps ++ qs) ≡ spelled ps ++ spelled qs
spelled-append [] qs = refl
spelled-append (p ∷ ps) qs = ap (λ (ts : List ℕ). spelling p ++ ts) (spelled-append ps qs)
    ∙ sym (append_assoc (spelling p) (spelled ps) (spelled qs))

abbrev pub with_raw : Option Kind → List Kind → List Kind
with_raw None ks = ks
with_raw (Some kind) ks = kind ∷ ks

-- what the pieces spell, before `(` is looked at
abbrev pub raw : List Piece → List Kind
raw [] = []
raw (piece ∷ pieces) = with_raw (kind_of piece) (raw pieces)

with_raw-append : (o : Option Kind) (ks ls : List Kind) → with_raw o (ks ++ ls) ≡ with_raw o ks ++ ls
with_raw-append None ks ls = refl
with_raw-append (Some kind) ks ls = refl

raw-append : (ps qs : List Piece) → raw (ps ++ qs) ≡ raw ps ++ raw qs
raw-append [] qs = refl
raw-append (p ∷ ps) qs = ap (with_raw (kind_of p)) (raw-append ps qs) ∙ with_raw-append (kind_of p) (raw ps) (raw qs)

-- a kind with these behind it
abbrev pub before_kind : Kind → List Kind → Kind
before_kind kind [] = kind
before_kind kind (next ∷ ks) = cond (is_open next) (called kind) kind

abbrev pub calls : List Kind → List Kind
calls [] = []
calls (kind ∷ ks) = before_kind kind ks ∷ calls ks

-- the first is not `(`
abbrev pub NotOpen : List Kind → Type 0
NotOpen [] = Unit {0}
NotOpen (kind ∷ ks) = is_open kind ≡ false

before_called : (kind : Kind) (ks : List Kind) (tokens : List Token) → kinds_of tokens ≡ calls ks
    → before kind tokens ≡ before_kind kind ks
before_called kind [] [] e = refl
before_called kind [] (t ∷ tokens) e = absurd cc
before_called kind (k ∷ ks) [] e = absurd cc
before_called kind (k ∷ ks) (t ∷ tokens) e =
    let first : t.kind ≡ before_kind k ks = cc in
    ap (λ (b : Bool). cond b (called kind) kind) (ap is_open first ∙ same_open k ks)
  where
    by : (c : Bool) (k : Kind) → is_open (cond c (called k) k) ≡ is_open k
    by true k = called_open k
    by false k = refl

    same_open : (k : Kind) (ks : List Kind) → is_open (before_kind k ks) ≡ is_open k
    same_open k [] = refl
    same_open k (l ∷ ks) = by (is_open l) k

kinds_with : (at : ℕ) (o : Option Kind) (ks : List Kind) (tokens : List Token) → kinds_of tokens ≡ calls ks
    → kinds_of (with_kind at o tokens) ≡ calls (with_raw o ks)
kinds_with at None ks tokens e = e
kinds_with at (Some kind) ks tokens e = let b = before_called kind ks tokens e in cc

pub kinds_are : (at : ℕ) (pieces : List Piece) → kinds_of (tokens_of at pieces) ≡ calls (raw pieces)
kinds_are at [] = refl
kinds_are at (piece ∷ pieces) =
    kinds_with at (kind_of piece) (raw pieces) (tokens_of (at + length (spelling piece)) pieces)
    (kinds_are (at + length (spelling piece)) pieces)

-- ---- pieces that stand one behind the other

abbrev pub AreInLine : List Piece → List ℕ → Type 0
AreInLine [] rest = Unit {0}
AreInLine (piece ∷ pieces) rest = Fits piece × Stands piece (spelled pieces ++ rest) × AreInLine pieces rest

line-append : (ps qs : List Piece) (rest : List ℕ) → AreInLine ps (spelled qs ++ rest) → AreInLine qs rest
    → AreInLine (ps ++ qs) rest
line-append [] qs rest a b = b
line-append (p ∷ ps) qs rest a b =
    let e : spelled (ps ++ qs) ++ rest ≡ spelled ps ++ (spelled qs ++ rest) =
    ap (λ (ts : List ℕ). ts ++ rest) (spelled-append ps qs) ∙ append_assoc (spelled ps) (spelled qs) rest in
    (a.0, subst (Stands p) (sym e) a.1, line-append ps qs rest a.2 b)

pub line_are : (ps : List Piece) (rest : List ℕ) → AreInLine ps rest → Are ps (spelled ps ++ rest) rest
line_are [] rest l = refl
line_are (p ∷ ps) rest l = (
  spelled ps ++ rest,
  record
      { fits = l.0; stands = l.1; whole = append_assoc (spelling p) (spelled ps) rest },
  line_are ps rest l.2,
)

-- ---- texts that are printed

-- no letter, digit, `_` or quote follows
abbrev pub Safe : List ℕ → Type 0
Safe rest = EndsPiece continues_name rest × EndsPiece is_quote rest

abbrev pub Any : List ℕ → Type 0
Any rest = Unit {0}

-- the text is pieces that stand before what May follow, and they spell these kinds
pub record Printed (May : List ℕ → Type 0) (text : List ℕ) (ks : List Kind) : Type 0 where
  pub pieces : List Piece
  pub whole : text ≡ spelled pieces
  pub calls_are : (next : List Kind) → NotOpen next → calls (raw pieces ++ next) ≡ ks ++ calls next
  pub closed : (next : List Kind) → NotOpen next → NotOpen (raw pieces ++ next)
  pub line : (rest : List ℕ) → May rest → AreInLine pieces rest
  pub plain : list_all is_plain text ≡ true

all_plain : (t u : List ℕ) → list_all is_plain t ≡ true → list_all is_plain u ≡ true → list_all is_plain (t ++ u) ≡ true
all_plain t u a b = list_all-append is_plain t u ∙ (rw (a, b) refl)

-- one text behind another
pub joined : {May Next : List ℕ → Type 0} {t u : List ℕ} {ks ls : List Kind} → Printed May t ks → Printed Next u ls
    → ((rest : List ℕ) → Next rest → May (u ++ rest)) → Printed Next (t ++ u) (ks ++ ls)
joined {May = May} {t = t} {u = u} {ks = ks} {ls = ls} a b may = record {
  pieces = a.pieces ++ b.pieces;
  whole = rw (a.whole, b.whole) (sym (spelled-append a.pieces b.pieces));
  calls_are = λ next n.
      (let e : raw (a.pieces ++ b.pieces) ++ next ≡ raw a.pieces ++ (raw b.pieces ++ next) =
      ap (λ (xs : List Kind). xs ++ next) (raw-append a.pieces b.pieces)
      ∙ append_assoc (raw a.pieces) (raw b.pieces) next in
      ap calls e ∙ a.calls_are (raw b.pieces ++ next) (b.closed next n)
      ∙ ap (λ (xs : List Kind). ks ++ xs) (b.calls_are next n) ∙ sym (append_assoc ks ls (calls next)));
  closed = λ next n.
      (let e : raw (a.pieces ++ b.pieces) ++ next ≡ raw a.pieces ++ (raw b.pieces ++ next) =
      ap (λ (xs : List Kind). xs ++ next) (raw-append a.pieces b.pieces)
      ∙ append_assoc (raw a.pieces) (raw b.pieces) next in
      subst NotOpen (sym e) (a.closed (raw b.pieces ++ next) (b.closed next n)));
  line = λ rest n. line-append a.pieces b.pieces rest
      (a.line (spelled b.pieces ++ rest) (subst (λ (x : List ℕ). May (x ++ rest)) b.whole (may rest n)))
      (b.line rest n);
  plain = all_plain t u a.plain b.plain;
}

-- nothing
pub nothing : {May : List ℕ → Type 0} → Printed May [] []
nothing = record {
  pieces = [];
  whole = refl;
  calls_are = λ next n. refl;
  closed = λ next n. n;
  line = λ rest m. tt;
  plain = refl;
}

-- ---- marks

abbrev pub ArePlainMarks : List Kind → Type 0
ArePlainMarks [] = Unit {0}
ArePlainMarks (kinds.Mark mark ∷ ks) = (is_open_mark mark ≡ false) × ArePlainMarks ks
ArePlainMarks (kinds.Name text ∷ ks) = ⊥
ArePlainMarks (kinds.Function function ∷ ks) = ⊥
ArePlainMarks (kinds.Integer number ∷ ks) = ⊥
ArePlainMarks (kinds.Quoted text ∷ ks) = ⊥

pub mark_before : (mark : Mark) (ks : List Kind) → before_kind (kinds.Mark mark) ks ≡ kinds.Mark mark
mark_before mark [] = refl
mark_before mark (k ∷ ks) = by (is_open k)
  where
    by : (c : Bool) → cond c (kinds.Mark mark) (kinds.Mark mark) ≡ kinds.Mark mark
    by true = refl
    by false = refl

marks_called : (ks next : List Kind) → ArePlainMarks ks → calls (ks ++ next) ≡ ks ++ calls next
marks_called [] next p = refl
marks_called (kinds.Mark mark ∷ ks) next p = let a = mark_before mark (ks ++ next) in let b =
    marks_called ks next p.1 in cc
marks_called (kinds.Name text ∷ ks) next p = absurd p
marks_called (kinds.Function function ∷ ks) next p = absurd p
marks_called (kinds.Integer number ∷ ks) next p = absurd p
marks_called (kinds.Quoted text ∷ ks) next p = absurd p

marks_closed : (ks next : List Kind) → ArePlainMarks ks → NotOpen next → NotOpen (ks ++ next)
marks_closed [] next p n = n
marks_closed (kinds.Mark mark ∷ ks) next p n = p.0
marks_closed (kinds.Name text ∷ ks) next p n = absurd p
marks_closed (kinds.Function function ∷ ks) next p n = absurd p
marks_closed (kinds.Integer number ∷ ks) next p n = absurd p
marks_closed (kinds.Quoted text ∷ ks) next p n = absurd p

-- words and symbols of the language
pub marks_printed : (May : List ℕ → Type 0) (pieces : List Piece) (ks : List Kind) → raw pieces ≡ ks
    → ArePlainMarks ks → ((rest : List ℕ) → May rest → AreInLine pieces rest)
    → list_all is_plain (spelled pieces) ≡ true
    → Printed May (spelled pieces) ks
marks_printed May pieces ks e p line plain = record {
  pieces = pieces;
  whole = refl;
  calls_are = λ next n. ap (λ (xs : List Kind). calls (xs ++ next)) e ∙ marks_called ks next p;
  closed = λ next n. subst (λ (xs : List Kind). NotOpen (xs ++ next)) (sym e) (marks_closed ks next p n);
  line = line;
  plain = plain;
}

-- ---- one piece that is no mark

pub one_printed : (May : List ℕ → Type 0) (piece : Piece) (kind : Kind) → kind_of piece ≡ Some kind
    → is_open kind ≡ false → Fits piece → ((rest : List ℕ) → May rest → Stands piece rest)
    → list_all is_plain (spelling piece) ≡ true → Printed May (spelling piece) (kind ∷ [])
one_printed May piece kind e shut fits stands plain = record {
  pieces = piece ∷ [];
  whole = sym (append-nil (spelling piece));
  calls_are = λ next n. ap (λ (o : Option Kind). calls (with_raw o [] ++ next)) e
      ∙ ap (λ (k : Kind). k ∷ calls next) (alone next n);
  closed = λ next n. subst (λ (o : Option Kind). NotOpen (with_raw o [] ++ next)) (sym e) shut;
  line = λ rest m. (fits, stands rest m, tt);
  plain = plain;
}
  where
    alone : (next : List Kind) → NotOpen next → before_kind kind next ≡ kind
    alone [] n = refl
    alone (k ∷ ks) n = rw n refl

pub name_printed : (text : List ℕ) → IsSpellableName text → Printed Safe text (kinds.Name text ∷ [])
name_printed text g = one_printed Safe (name text) (kinds.Name text)
    (ap (λ (o : Option Mark). Some (named_kind text o)) g.1
    ∙ ap (λ (t : List ℕ). Some (kinds.Name t)) (shown_plain text g.2)) refl g.0 (λ rest m. m.0) g.2
