-- Where the tokens of a text stand.
use Rattle.std.proofs.Common.{◌≡◌, ℕ, ◌+◌, ◌-◌, ◌≤◌, ◌<◌, List, [], ◌∷◌, length, Option, Some, None, sym, ap, subst}
use Rattle.std.proofs.Common.{◌∙◌, arith}
use Rattle.sql_reader.specs.declared.tokens.Kind.{Kind}
use Rattle.sql_reader.specs.declared.tokens.Token.{Token}
use Rattle.sql_reader.specs.Pieces.{Piece, spelling, Are}
use Rattle.sql_reader.specs.Lexing.{with_kind, kind_of, tokens_of, IsLexed}
use Rattle.sql_reader.proofs.PieceCuts.{spelled_some, same_pieces}
use Rattle.sql_reader.proofs.Added.{spelled_len, lengths}
use Rattle.sql_reader.proofs.Prefixes.{Rising, rises_from}

rises_with : (at n : ℕ) (o : Option Kind) (tokens : List Token) (high : ℕ) → 0 < n → Rising (at + n) tokens high
    → Rising at (with_kind at o tokens) high
rises_with at n None tokens high lt h = rises_from at (at + n) tokens high (omega arith) h
rises_with at n (Some kind) tokens high lt h =
    (omega arith, rises_from (at + 1) (at + n) tokens high (omega (arith, lt)) h)

pub tokens_rise : (at : ℕ) (pieces : List Piece) (text rest : List ℕ) → Are pieces text rest
    → Rising at (tokens_of at pieces) (at + spelled_len pieces)
tokens_rise at [] text rest a = omega arith
tokens_rise at (piece ∷ pieces) text rest a =
    let n = length (spelling piece) in
    let k : at + n + spelled_len pieces ≡ at + (n + spelled_len pieces) = omega arith in
    let h = tokens_rise (at + n) pieces a.0 rest a.2 in
    rises_with at n (kind_of piece) (tokens_of (at + n) pieces) (at + (n + spelled_len pieces))
    (spelled_some piece a.1.fits) (subst (λ (high : ℕ). Rising (at + n) (tokens_of (at + n) pieces) high) k h)

-- the tokens of a text rise up to where it is stuck
pub lexed_rise : (text : List ℕ) (tokens : List Token) (rest : List ℕ) → IsLexed text tokens rest
    → Rising 0 tokens (length text - length rest)
lexed_rise text tokens rest l =
    let len = lengths l.pieces text rest l.cut.are in
    let k : 0 + spelled_len l.pieces ≡ length text - length rest = omega (arith, len) in
    rw (l.tokens_are) (subst (λ (high : ℕ). Rising 0 (tokens_of 0 l.pieces) high) k
    (tokens_rise 0 l.pieces text rest l.cut.are))

pub rest_short : (text : List ℕ) (tokens : List Token) (rest : List ℕ) → IsLexed text tokens rest
    → length rest ≤ length text
rest_short text tokens rest l = let len = lengths l.pieces text rest l.cut.are in omega (arith, len)

-- a text has these tokens alone
pub same_tokens : (text : List ℕ) (ts us : List Token) (r s : List ℕ) → IsLexed text ts r → IsLexed text us s
    → (ts ≡ us) × (r ≡ s)
same_tokens text ts us r s l m =
    let p = same_pieces text l.pieces m.pieces r s l.cut m.cut in
    (l.tokens_are ∙ ap (tokens_of 0) p.0 ∙ sym m.tokens_are, p.1)
