-- The tokens of a text with one more piece.
use Rattle.std.proofs.Common.{◌≡◌, ℕ, ◌+◌, ◌-◌, Bool, true, false, cond, List, [], ◌∷◌, ◌++◌, length, Option, Some}
use Rattle.std.proofs.Common.{None, refl, sym, ap, ◌∙◌, arith}
use Rattle.std.proofs.lemmas.List.{length-append}
use Rattle.sql_reader.specs.declared.tokens.Function.{Function}
use Rattle.sql_reader.specs.declared.tokens.Kind.{Kind}
use Rattle.sql_reader.specs.declared.tokens.Kind.TheVariants as kinds
use Rattle.sql_reader.specs.declared.tokens.Token.{Token}
use Rattle.sql_reader.specs.Words.{function_of}
use Rattle.sql_reader.specs.Pieces.{Piece, spelling, BeginsWithPiece, Are}
use Rattle.sql_reader.specs.Lexing.{function_kind, called, is_open, with_kind, kind_of, tokens_of}
use Rattle.std.specs.Option.{option_map}
use Rattle.sql_reader.specs.Lexing.{IsLexed}
use Rattle.sql_reader.specs.Cutting.{Cut, piece_cut, kind_cut}
use Rattle.sql_reader.proofs.PieceCuts.{are_more, none_stands}
use Rattle.sql_reader.specs.Adding.{called_token, added, extended}

-- how many bytes the pieces have
abbrev pub spelled_len : List Piece → ℕ
spelled_len [] = 0
spelled_len (piece ∷ pieces) = length (spelling piece) + spelled_len pieces

pub lengths : (pieces : List Piece) (text rest : List ℕ) → Are pieces text rest
    → length text ≡ spelled_len pieces + length rest
lengths [] text rest a = rw a (omega arith)
lengths (piece ∷ pieces) text rest a =
    let h = lengths pieces a.0 rest a.2 in
    omega (arith, h, ap length a.1.whole, length-append (spelling piece) a.0)

-- a name is no `(`, and neither is a function
function_closed : (text : List ℕ) (function : Option Function) → is_open (function_kind text function) ≡ false
function_closed text None = refl
function_closed text (Some function) = refl

pub called_open : (kind : Kind) → is_open (called kind) ≡ is_open kind
called_open (kinds.Mark mark) = refl
called_open (kinds.Name text) = function_closed text (function_of text)
called_open (kinds.Function function) = refl
called_open (kinds.Integer number) = refl
called_open (kinds.Quoted text) = refl

last_open : (c : Bool) (t : Token) → is_open (cond c (called_token t) t).kind ≡ is_open t.kind
last_open true t = called_open t.kind
last_open false t = refl

chosen_first : (c : Bool) (at : ℕ) (kind : Kind)
    → record { at = at; kind = cond c (called kind) kind } ≡ cond c (called_token (record { at = at; kind = kind }))
    (record { at = at; kind = kind })
chosen_first true at kind = refl
chosen_first false at kind = refl

with_kind_added : (at : ℕ) (kind : Kind) (tokens : List Token) (token : Token)
    → with_kind at (Some kind) (added tokens token) ≡ added (with_kind at (Some kind) tokens) token
with_kind_added at kind [] token = ap (λ (t : Token). t ∷ token ∷ []) (chosen_first (is_open token.kind) at kind)
with_kind_added at kind (t ∷ []) token =
    let e = last_open (is_open token.kind) t in
    ap (λ (c : Bool). record { at = at; kind = cond c (called kind) kind } ∷ cond (is_open token.kind)
    (called_token t) t ∷ token ∷ []) e
with_kind_added at kind (t ∷ s ∷ tokens) token = refl

with_kind_extended : (at : ℕ) (o : Option Kind) (tokens : List Token) (place : ℕ) (more : Option Kind)
    → with_kind at o (extended tokens place more) ≡ extended (with_kind at o tokens) place more
with_kind_extended at None tokens place more = refl
with_kind_extended at (Some kind) tokens place None = refl
with_kind_extended at (Some kind) tokens place (Some next) =
    with_kind_added at kind tokens (record { at = place; kind = next })

pub tokens_more : (at : ℕ) (pieces : List Piece) (piece : Piece)
    → tokens_of at (pieces ++ piece ∷ []) ≡ extended (tokens_of at pieces) (at + spelled_len pieces) (kind_of piece)
tokens_more at [] piece = let k : at + 0 ≡ at = omega arith in rw k (alone (kind_of piece))
  where
    alone : (o : Option Kind) → with_kind at o [] ≡ extended [] at o
    alone None = refl
    alone (Some kind) = refl
tokens_more at (p ∷ pieces) piece =
    let k : at + length (spelling p) + spelled_len pieces ≡ at + (length (spelling p) + spelled_len pieces) =
    omega arith in
    ap (with_kind at (kind_of p)) (tokens_more (at + length (spelling p)) pieces piece)
    ∙ with_kind_extended at (kind_of p) (tokens_of (at + length (spelling p)) pieces)
    (at + length (spelling p) + spelled_len pieces) (kind_of piece)
    ∙ ap (λ (n : ℕ). extended (with_kind at (kind_of p) (tokens_of (at + length (spelling p)) pieces)) n
    (kind_of piece)) k

-- ---- how a token is added

pub added_plain : (tokens : List Token) (token : Token) → is_open token.kind ≡ false
    → added tokens token ≡ tokens ++ token ∷ []
added_plain [] token h = refl
added_plain (t ∷ []) token h = rw h refl
added_plain (t ∷ s ∷ tokens) token h = ap (λ (ts : List Token). t ∷ ts) (added_plain (s ∷ tokens) token h)

pub added_open : (tokens : List Token) (last token : Token) → is_open token.kind ≡ true
    → added (tokens ++ last ∷ []) token ≡ (tokens ++ called_token last ∷ []) ++ token ∷ []
added_open [] last token h = rw h refl
added_open (t ∷ []) last token h = rw h refl
added_open (t ∷ s ∷ tokens) last token h = ap (λ (ts : List Token). t ∷ ts) (added_open (s ∷ tokens) last token h)

-- ---- the pieces so far

pub record AreSoFar (text : List ℕ) (tokens : List Token) (rest : List ℕ) : Type 0 where
  pub pieces : List Piece
  pub are : Are pieces text rest
  pub tokens_are : tokens ≡ tokens_of 0 pieces

pub none_yet : (text : List ℕ) → AreSoFar text [] text
none_yet text = record { pieces = []; are = refl; tokens_are = refl }

pub one_more : (text : List ℕ) (tokens : List Token) (rest : List ℕ) (piece : Piece) (more : List ℕ)
    → AreSoFar text tokens rest → BeginsWithPiece rest piece more
    → AreSoFar text (extended tokens (length text - length rest) (kind_of piece)) more
one_more text tokens rest piece more s h =
    let len = lengths s.pieces text rest s.are in
    let place : length text - length rest ≡ 0 + spelled_len s.pieces = omega (arith, len) in
    record {
      pieces = s.pieces ++ piece ∷ [];
      are = are_more s.pieces text rest piece more s.are h;
      tokens_are = rw (place, s.tokens_are) (sym (tokens_more 0 s.pieces piece));
    }

pub all_so_far : (text : List ℕ) (tokens : List Token) (rest : List ℕ) → AreSoFar text tokens rest
    → piece_cut rest ≡ None → IsLexed text tokens rest
all_so_far text tokens rest s e =
    record { pieces = s.pieces; cut = record { are = s.are; no_more = none_stands rest e }; tokens_are = s.tokens_are }

-- what was found, by what the reader of a piece says of it
pub found_none : (cut : Cut) → None ≡ option_map kind_cut cut → cut ≡ None
found_none None e = refl
found_none (Some p) e = absurd cc

pub record FoundSome (cut : Cut) (kind : Option Kind) (more : List ℕ) : Type 0 where
  pub piece : Piece
  pub is : cut ≡ Some (piece, more)
  pub spells : kind ≡ kind_of piece

pub found_some : (cut : Cut) (kind : Option Kind) (more : List ℕ) → Some (kind, more) ≡ option_map kind_cut cut
    → FoundSome cut kind more
found_some None kind more e = absurd cc
found_some (Some p) kind more e =
    let q : (kind, more) ≡ kind_cut p = cc in
    record {
      piece = p.0;
      is = rw (ap (λ (x : Option Kind × List ℕ). x.1) q) refl;
      spells = ap (λ (x : Option Kind × List ℕ). x.0) q;
    }
