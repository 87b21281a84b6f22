-- What a reading is: a query within limits that plain bytes spell, where they aren't too many.
use Rattle.std.proofs.Common.{◌≡◌, ℕ, ◌+◌, ◌-◌, ◌^◌, ◌<◌, ◌≤◌, Bool, true, false, cond, leb, List, [], ◌∷◌, length}
use Rattle.std.proofs.Common.{Option, Some, None, Ok, Err, refl, sym, ap, subst, ◌∙◌, arith}
use Rattle.std.specs.Prelude.{not, nat_lt}
use Rattle.std.specs.List.{list_all}
use Rattle.std.specs.Option.{option_or}
use Rattle.std.proofs.lemmas.Bool.{ltb-true, leb-true, and_parts}
use Rattle.sql_reader.specs.declared.faults.SqlFault.{SqlFault}
use Rattle.sql_reader.specs.declared.faults.SqlFault.TheVariants as faults
use Rattle.sql_reader.specs.declared.syntax.Select.{Select}
use Rattle.sql_reader.specs.Pieces.{is_control}
use Rattle.sql_reader.specs.Steps.{Step, unexpected, too_many}
use Rattle.sql_reader.specs.Reading.{query_at}
use Rattle.sql_reader.specs.Faults.{most, count_of, KeepsLimits, Spells, IsReading}
use Rattle.sql_reader.specs.Outcome.{bad_byte, first_bad}
use Rattle.sql_reader.specs.Spellable.{is_plain, IsPlain}
use Rattle.sql_reader.proofs.Exact.{Again}
use Rattle.sql_reader.proofs.WholeQuery.{OverAny, over_exceeds}
use Rattle.sql_reader.proofs.Places.{lexed_rise, same_tokens}
use Rattle.sql_reader.proofs.Parsed.{Reads, query_again}
use Rattle.sql_reader.proofs.Judged.{Verdict, verdict}
use Rattle.sql_reader.proofs.BadBytes.{IsLeast}
use Rattle.sql_reader.proofs.FaultRanks.{IsByteFault}
use Rattle.sql_reader.proofs.Outcomes.{before_least, reading}
use Rattle.sql_reader.proofs.OneOutcome.{parses, short_of}
use Rattle.sql_reader.proofs.Printable.{all_plain}

-- ---- no byte of a plain text has a fault

plain_not_bad : (at b : ℕ) → is_plain b ≡ true → bad_byte at b ≡ None
plain_not_bad at b h =
    let p = and_parts (nat_lt b 128) (not (is_control b)) h in
    by (leb 128 b) (is_control b) refl refl p.0 p.1
  where
    by : (a c : Bool) → leb 128 b ≡ a → is_control b ≡ c → nat_lt b 128 ≡ true → not (is_control b) ≡ true
        → cond a (Some (faults.NotAscii at)) (cond c (Some (faults.Token at)) None) ≡ None
    by true c e k lt n = absurd (let x = leb-true _ _ e in let y = ltb-true _ _ lt in omega (arith, x, y))
    by false true e k lt n = absurd (let m : not true ≡ true = rw k at n in cc)
    by false false e k lt n = refl

none_bad : (at : ℕ) (bytes : List ℕ) → list_all is_plain bytes ≡ true → first_bad at bytes ≡ None
none_bad at [] h = refl
none_bad at (b ∷ bytes) h =
    let p = and_parts (is_plain b) (list_all is_plain bytes) h in
    ap (λ (o : Option SqlFault). option_or o (first_bad (at + 1) bytes)) (plain_not_bad at b p.0)
    ∙ none_bad (at + 1) bytes p.1

-- ---- a reading, and what it is

-- a reading is within the limits
pub keeps_limits : (text : List ℕ) (s : Select) → IsReading text s → KeepsLimits s
keeps_limits text s r w =
    let tokens = r.spells.tokens in
    let v = verdict tokens [] (length text) (length text - 0) (lexed_rise text tokens [] r.spells.lexed) (omega arith)
    in
    let reads : Reads tokens s = subst (λ a. Verdict tokens [] (length text) a) (parses text s r) v in
    at_most (most w) (count_of w s) (reads.within w)
  where
    at_most : (limit count : ℕ) → (limit < count → ⊥) → count ≤ limit
    at_most limit count h = omega (arith, h)

pub reading_is : (text : List ℕ) (s : Select) → IsReading text s
    → Spells text s × KeepsLimits s × IsPlain text × (length text ≤ 2 ^ 16)
reading_is text s r = (r.spells, keeps_limits text s r, all_plain text [] text refl r.faultless, short_of text s r)

-- no byte and no token of such a text has a fault
pub is_reading : (text : List ℕ) (s : Select) → Spells text s × KeepsLimits s × IsPlain text × (length text ≤ 2 ^ 16)
    → IsReading text s
is_reading text s (spells, within, plain, short) =
    let none : first_bad 0 text ≡ None = none_bad 0 text plain in
    let least : IsLeast (IsByteFault text) None =
    subst (λ (o : Option SqlFault). IsLeast (IsByteFault text) o) none
    (before_least text spells.tokens [] spells.lexed short) in
    reading text spells.tokens [] spells.lexed short s
    (record { query = spells.query; within = λ w h. let le = within w in absurd (omega (arith, h, le)) }) least

-- ---- a text spells one query within the limits

one_by : (s t : Select) (r : Step Select) → KeepsLimits s → Again OverAny s [] r → Again OverAny t [] r → s ≡ t
one_by s t (Ok p) within a b = sym a.0 ∙ b.0
one_by s t (Err (unexpected rest)) within a b = absurd a
one_by s t (Err (too_many w rest)) within a b =
    absurd (let over = over_exceeds w s a in let le = within w in omega (arith, over, le))

pub one_spelled : (text : List ℕ) (s t : Select) → Spells text s → KeepsLimits s → Spells text t → s ≡ t
one_spelled text s t a within b =
    let e = (same_tokens text a.tokens b.tokens [] [] a.lexed b.lexed).0 in
    let here : Again OverAny t [] (query_at a.tokens) = rw e (query_again b.tokens t b.query) in
    one_by s t (query_at a.tokens) within (query_again a.tokens s a.query) here
