-- Each text has an outcome.
use Rattle.std.proofs.Common.{◌≡◌, ℕ, zero, suc, ◌^◌, ◌≤◌, List, [], ◌∷◌, length, Some, None, Result, Ok, Err, ◌⊎◌, inl}
use Rattle.std.proofs.Common.{inr, refl, arith}
use Rattle.std.proofs.lemmas.Bool.{cases_lt}
use Rattle.sql_reader.specs.declared.tokens.Token.{Token}
use Rattle.sql_reader.specs.declared.faults.SqlFault.{SqlFault}
use Rattle.sql_reader.specs.declared.faults.SqlFault.TheVariants as faults
use Rattle.sql_reader.specs.declared.syntax.Select.{Select}
use Rattle.sql_reader.specs.Pieces.{Piece, IsCut}
use Rattle.sql_reader.specs.Lexing.{tokens_of, IsLexed}
use Rattle.sql_reader.specs.Cutting.{Cut, piece_cut}
use Rattle.sql_reader.specs.Reading.{parse_at}
use Rattle.sql_reader.specs.Faults.{IsFirst, IsReading}
use Rattle.sql_reader.specs.Outcome.{first_bad, stuck_at, earlier, outcome}
use Rattle.sql_reader.proofs.PieceCuts.{found_stands, none_stands, shorter}
use Rattle.sql_reader.proofs.Outcomes.{Right, right, too_long_first}

abbrev HasCut : List ℕ → Type 0
HasCut text = (pieces : List Piece) × (rest : List ℕ) × IsCut text pieces rest

-- what is found at the front of a text stands before a cut of the rest
cut_behind : (n : ℕ) (text : List ℕ) → length text ≤ suc n → ((rest : List ℕ) → length rest ≤ n → HasCut rest)
    → (found : Cut) → piece_cut text ≡ found → HasCut text
cut_behind n text le behind None e = ([], text, record { are = refl; no_more = none_stands text e })
cut_behind n text le behind (Some (piece, rest)) e =
    let here = found_stands text piece rest e in
    let less = shorter text piece rest here in
    let more = behind rest (omega (arith, less, le)) in
    (piece ∷ more.0, more.1, record { are = (rest, here, more.2.are); no_more = more.2.no_more })

-- each text has a cut
cut_of : (n : ℕ) (text : List ℕ) → length text ≤ n → HasCut text
cut_of zero text le = (
  [],
  text,
  record {
    are = refl;
    no_more = λ piece rest h. let less = shorter text piece rest h in
        absurd (omega (arith, less, le));
  },
)
cut_of (suc n) text le = cut_behind n text le (cut_of n) (piece_cut text) refl

abbrev HasOutcome : List ℕ → Type 0
HasOutcome text = ((s : Select) × IsReading text s) ⊎ ((f : SqlFault) × IsFirst text f)

-- a text that isn't too long is its tokens' query, or has a first fault
short_outcome : (text : List ℕ) (cut : HasCut text) → length text ≤ 2 ^ 16 → HasOutcome text
short_outcome text cut short =
    by (outcome (earlier (first_bad 0 text) (stuck_at cut.1 (length text))) (parse_at tokens) (length text))
    (right text tokens cut.1 lexed short)
  where
    tokens : List Token
    tokens = tokens_of 0 cut.0

    lexed : IsLexed text tokens cut.1
    lexed = record { pieces = cut.0; cut = cut.2; tokens_are = refl }

    by : (r : Result Select SqlFault) → Right text tokens cut.1 lexed short r → HasOutcome text
    by (Ok s) h = inl (s, h)
    by (Err f) h = inr (f, h)

-- a text is a query, or has a first fault
pub some_outcome : (text : List ℕ) → HasOutcome text
some_outcome text = elim (cases_lt (2 ^ 16) (length text)) [
  | inl long ↦ inr (faults.TooLong, too_long_first text long)
  | inr short ↦ short_outcome text
      (cut_of (length text) text refl_le) short
]
  where
    refl_le : length text ≤ length text
    refl_le = omega arith
