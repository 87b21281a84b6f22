-- A text has one outcome.
use Rattle.std.proofs.Common.{◌≡◌, ℕ, ◌^◌, ◌-◌, ◌≤◌, ◌≢◌, List, [], ◌∷◌, length, Result, Ok, Err, ◌⊎◌, inl, inr, refl}
use Rattle.std.proofs.Common.{sym, ap, ◌∙◌, arith}
use Rattle.std.specs.Prelude.{IfOk, IfErr}
use Rattle.std.proofs.lemmas.Bool.{cases_lt}
use Rattle.sql_reader.specs.declared.tokens.Token.{Token}
use Rattle.sql_reader.specs.declared.faults.SqlFault.{SqlFault}
use Rattle.sql_reader.specs.declared.faults.SqlFault.TheVariants as faults
use Rattle.sql_reader.specs.declared.syntax.Select.{Select}
use Rattle.sql_reader.specs.Lexing.{IsLexed}
use Rattle.sql_reader.specs.Query.{IsQuery}
use Rattle.orca_base.specs.Checked.{◌>>=◌, Yields}
use Rattle.sql_reader.specs.Steps.{Step, Stopped}
use Rattle.sql_reader.specs.Reading.{all_read, query_at, parse_at}
use Rattle.sql_reader.specs.Faults.{IsBefore, IsFirst, IsReading}
use Rattle.sql_reader.specs.Outcome.{fault_at}
use Rattle.sql_reader.proofs.Exact.{Again}
use Rattle.sql_reader.proofs.WholeQuery.{OverAny}
use Rattle.sql_reader.proofs.Parsed.{query_again}
use Rattle.sql_reader.proofs.Judged.{real, past, Verdict, verdict}
use Rattle.sql_reader.proofs.Places.{lexed_rise, same_tokens}
use Rattle.sql_reader.proofs.Outcomes.{Right, together}

module _ (text : List ℕ) (tokens : List Token) (rest : List ℕ) (lexed : IsLexed text tokens rest)
    (short : length text ≤ 2 ^ 16) where
  -- an answer that is right, unless memory ran out
  pub ok_right : (result due : Result Select SqlFault) → Yields faults.Memory due result
      → Right text tokens rest lexed short due → IfOk result (IsReading text)
  ok_right (Ok s) due e h = rw e at h
  ok_right (Err f) due e h = tt

  pub err_right : (result due : Result Select SqlFault) → Yields faults.Memory due result
      → Right text tokens rest lexed short due
      → IfErr result (λ f. f ≢ faults.Memory → IsFirst text f)
  err_right (Ok s) due e h = tt
  err_right (Err f) due e h = λ free. (let is = e free in rw is at h)

-- no fault is before itself
never_before : (f g : SqlFault) → IsBefore f g → IsBefore g f → ⊥
never_before f g (inl a) (inl b) = absurd (omega (arith, a, b))
never_before f g (inl a) (inr b) = absurd (omega (arith, a, b.0))
never_before f g (inr a) (inl b) = absurd (omega (arith, a.0, b))
never_before f g (inr a) (inr b) = absurd (omega (arith, a.1, b.1))

pub one_fault : (text : List ℕ) (f g : SqlFault) → IsFirst text f → IsFirst text g → f ≡ g
one_fault text f g a b = by (a.first g b.has) (b.first f a.has)
  where
    by : (f ≡ g) ⊎ IsBefore f g → (g ≡ f) ⊎ IsBefore g f → f ≡ g
    by (inl e) k = e
    by (inr h) (inl e) = sym e
    by (inr h) (inr k) = absurd (never_before f g h k)

pub no_fault : (text : List ℕ) (s : Select) (f : SqlFault) → IsReading text s → IsFirst text f → ⊥
no_fault text s f r h = r.faultless f h.has

-- ---- one reading

parsed_is : (s x : Select) (r : Step Select) → Again OverAny s [] r → (r >>= all_read) ≡ Ok x → x ≡ s
parsed_is s x (Ok (p, [])) a e = let k : p ≡ x = cc in sym k ∙ a.0
parsed_is s x (Ok (p, t ∷ tokens)) a e = absurd cc
parsed_is s x (Err stopped) a e = absurd cc

parse_is : (tokens : List Token) (s x : Select) → IsQuery tokens s → parse_at tokens ≡ Ok x → x ≡ s
unfolding parse_at
parse_is tokens s x q e = parsed_is s x (query_at tokens) (query_again tokens s q) e

pub short_of : (text : List ℕ) (s : Select) → IsReading text s → length text ≤ 2 ^ 16
short_of text s r = elim (cases_lt (2 ^ 16) (length text))
    [ inl lt ↦ absurd (r.faultless faults.TooLong lt) | inr le ↦ le ]

-- the parser reads it
pub parses : (text : List ℕ) (s : Select) (r : IsReading text s) → parse_at r.spells.tokens ≡ Ok s
parses text s r = by (parse_at r.spells.tokens) refl
    (verdict r.spells.tokens [] (length text) (length text - 0) (lexed_rise text r.spells.tokens [] r.spells.lexed)
    (omega arith))
  where
    by : (a : Result Select Stopped) → parse_at r.spells.tokens ≡ a → Verdict r.spells.tokens [] (length text) a
        → parse_at r.spells.tokens ≡ Ok s
    by (Ok x) e v = e ∙ ap (λ (y : Select). Ok y) (parse_is r.spells.tokens s x r.spells.query e)
    by (Err stopped) e (real h first) =
        absurd (r.faultless (fault_at stopped (length text))
        (together text r.spells.tokens [] r.spells.lexed (short_of text s r) (fault_at stopped (length text)) (inr h)))
    by (Err stopped) e (past some at none) = absurd (some refl)

pub one_reading : (text : List ℕ) (s t : Select) → IsReading text s → IsReading text t → s ≡ t
one_reading text s t a b =
    let e = (same_tokens text a.spells.tokens b.spells.tokens [] [] a.spells.lexed b.spells.lexed).0 in
    let p = parses text s a in
    let q : parse_at a.spells.tokens ≡ Ok t = ap parse_at e ∙ parses text t b in
    cc
