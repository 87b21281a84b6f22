-- The answer to a text is its reading, or its first fault.
use Rattle.std.proofs.Common.{◌≡◌, ℕ, ◌-◌, ◌^◌, ◌≤◌, ◌<◌, List, [], ◌∷◌, length, Option, Some, None, Result, Ok, Err}
use Rattle.std.proofs.Common.{◌⊎◌, inl, inr, refl, sym, ap, subst, ◌∙◌, arith}
use Rattle.std.proofs.lemmas.Bool.{le-ltb}
use Rattle.sql_reader.specs.declared.tokens.Token.{Token}
use Rattle.sql_reader.specs.declared.faults.SqlFault.{SqlFault}
use Rattle.sql_reader.specs.declared.faults.SqlFault.TheVariants as faults
use Rattle.sql_reader.specs.declared.syntax.Select.{Select}
use Rattle.sql_reader.specs.Lexing.{IsLexed}
use Rattle.sql_reader.specs.Steps.{Stopped}
use Rattle.sql_reader.specs.Reading.{parse_at}
use Rattle.sql_reader.specs.Faults.{IsStuck, IsUnexpected, IsUnfinished, IsSurplus, HasFault, place, IsFirst}
use Rattle.sql_reader.specs.Faults.{IsReading}
use Rattle.sql_reader.specs.Outcome.{first_bad, stuck_at, sooner, earlier, fault_at, outcome}
use Rattle.sql_reader.proofs.Parsed.{Reads, IsTokenFault, First, reads_no_unexpected, reads_no_surplus}
use Rattle.sql_reader.proofs.Judged.{Judged, real, past, Verdict, verdict}
use Rattle.sql_reader.proofs.BadBytes.{IsLeast, HasBad, bad_least}
use Rattle.sql_reader.proofs.Places.{lexed_rise, rest_short, same_tokens}
use Rattle.sql_reader.proofs.EarlierFault.{sooner_least, earlier_least}
use Rattle.sql_reader.proofs.FaultRanks.{IsStuckFault, IsByteFault, stuck_tie, byte_rank, token_rank}

-- ---- a text and its tokens

module _ (text : List ℕ) (tokens : List Token) (rest : List ℕ) (lexed : IsLexed text tokens rest)
    (short : length text ≤ 2 ^ 16) where
  abbrev ByTokens : SqlFault → Type 0
  ByTokens = IsTokenFault tokens rest (length text)

  stuck_place : (at : ℕ) → IsStuck text at → at ≡ length text - length rest
  stuck_place at s = let e = (same_tokens text tokens s.0 rest s.1 lexed s.2).1 in omega (arith, s.4, ap length e)

  never_stuck : rest ≡ [] → (at : ℕ) → IsStuck text at → ⊥
  never_stuck none at s = let e = (same_tokens text tokens s.0 rest s.1 lexed s.2).1 in
      absurd (omega (arith, s.3, ap length e, ap length none))

  stuck_least_by : (bytes : List ℕ) → rest ≡ bytes → IsLeast (IsStuckFault text) (stuck_at bytes (length text))
  stuck_least_by [] e = none
    where
      none : (g : SqlFault) → IsStuckFault text g → ⊥
      none faults.TooLong h = h
      none (faults.NotAscii p) h = h
      none (faults.Token p) h = never_stuck e p h
      none (faults.Grammar p) h = h
      none (faults.TooMany what p) h = h
      none faults.Memory h = h
  stuck_least_by (b ∷ bytes) e =
      let le = rest_short text tokens rest lexed in (
        (
          tokens,
          b ∷ bytes,
          subst (λ (bs : List ℕ). IsLexed text tokens bs) e lexed,
          omega arith,
          omega
              (arith, le, ap length e),
        ),
        first,
      )
    where
      first : (g : SqlFault) → IsStuckFault text g → First (faults.Token (length text - length (b ∷ bytes))) g
      first faults.TooLong h = absurd h
      first (faults.NotAscii p) h = absurd h
      first (faults.Token p) h = inl
          (ap faults.Token (ap (λ (bs : List ℕ). length text - length bs) (sym e) ∙ sym (stuck_place p h)))
      first (faults.Grammar p) h = absurd h
      first (faults.TooMany what p) h = absurd h
      first faults.Memory h = absurd h

  pub before_least : IsLeast (IsByteFault text) (earlier (first_bad 0 text) (stuck_at rest (length text)))
  before_least = earlier_least (HasBad 0 text) (IsStuckFault text) (stuck_tie text) (first_bad 0 text)
      (stuck_at rest (length text)) (bad_least 0 text) (stuck_least_by rest refl)

  -- ---- the faults of the text are those of its bytes and its tokens

  apart : (f : SqlFault) → HasFault text f → IsByteFault text f ⊎ ByTokens f
  apart faults.TooLong h = absurd (omega (arith, h, short))
  apart (faults.NotAscii at) h =
      inl (inl (record { front = h.0; byte = h.1; others = h.2; whole = h.3; bad = (omega (arith, h.4), h.5) }))
  apart (faults.Token at) (inl h) =
      inl (inl (record { front = h.0; byte = h.1; others = h.2; whole = h.3; bad = (omega (arith, h.4), h.5) }))
  apart (faults.Token at) (inr h) = inl (inr h)
  apart (faults.Grammar at) h =
      let e = same_tokens text tokens h.0 rest h.1 lexed h.2 in
      inr (by (sym e.0) (sym e.1) h.3)
    where
      by : h.0 ≡ tokens → h.1 ≡ rest → IsUnexpected h.0 at ⊎ ((h.1 ≡ []) × (at ≡ length text) × IsUnfinished h.0)
          → IsUnexpected tokens at ⊎ ((rest ≡ []) × (at ≡ length text) × IsUnfinished tokens)
      by e k (inl u) = inl (subst (λ (ts : List Token). IsUnexpected ts at) e u)
      by e k (inr u) = inr (sym k ∙ u.0, u.1, subst IsUnfinished e u.2)
  apart (faults.TooMany what at) h =
      inr (subst (λ (ts : List Token). IsSurplus what ts at) (sym (same_tokens text tokens h.0 rest h.1 lexed h.2).0)
      h.3)
  apart faults.Memory h = absurd h

  pub together : (f : SqlFault) → IsByteFault text f ⊎ ByTokens f → HasFault text f
  together faults.TooLong (inl (inl h)) = absurd h.bad
  together faults.TooLong (inl (inr h)) = absurd h
  together faults.TooLong (inr h) = absurd h
  together (faults.NotAscii at) (inl (inl h)) =
      (h.front, h.byte, h.others, h.whole, let k = h.bad.0 in omega (arith, k), h.bad.1)
  together (faults.NotAscii at) (inl (inr h)) = absurd h
  together (faults.NotAscii at) (inr h) = absurd h
  together (faults.Token at) (inl (inl h)) =
      inl (h.front, h.byte, h.others, h.whole, let k = h.bad.0 in omega (arith, k), h.bad.1)
  together (faults.Token at) (inl (inr h)) = inr h
  together (faults.Token at) (inr h) = absurd h
  together (faults.Grammar at) (inl (inl h)) = absurd h.bad
  together (faults.Grammar at) (inl (inr h)) = absurd h
  together (faults.Grammar at) (inr h) = (tokens, rest, lexed, h)
  together (faults.TooMany what at) (inl (inl h)) = absurd h.bad
  together (faults.TooMany what at) (inl (inr h)) = absurd h
  together (faults.TooMany what at) (inr h) = (tokens, rest, lexed, h)
  together faults.Memory (inl (inl h)) = absurd h.bad
  together faults.Memory (inl (inr h)) = absurd h
  together faults.Memory (inr h) = absurd h

  is_first : (f : SqlFault) → IsLeast (λ g. IsByteFault text g ⊎ ByTokens g) (Some f) → IsFirst text f
  is_first f l = record { has = together f l.0; first = λ g h. l.1 g (apart g h) }

  -- a query's tokens have no fault
  reads_faultless : (s : Select) → Reads tokens s → (f : SqlFault) → ByTokens f → ⊥
  reads_faultless s r faults.TooLong h = h
  reads_faultless s r (faults.NotAscii at) h = h
  reads_faultless s r (faults.Token at) h = h
  reads_faultless s r (faults.Grammar at) (inl h) = reads_no_unexpected tokens s at r h
  reads_faultless s r (faults.Grammar at) (inr h) = h.2 s r.query
  reads_faultless s r (faults.TooMany what at) h = reads_no_surplus what tokens s at r h
  reads_faultless s r faults.Memory h = h

  nothing_left : IsLeast (IsByteFault text) None → (bytes : List ℕ) → rest ≡ bytes → rest ≡ []
  nothing_left l [] e = e
  nothing_left l (b ∷ bytes) e =
      absurd (let m = stuck_least_by (b ∷ bytes) e in l (faults.Token (length text - length (b ∷ bytes))) (inr m.0))

  abbrev pub Right : Result Select SqlFault → Type 0
  Right (Ok s) = IsReading text s
  Right (Err f) = IsFirst text f

  pub reading : (s : Select) → Reads tokens s → IsLeast (IsByteFault text) None → IsReading text s
  reading s r l = record {
    spells = record {
      tokens = tokens;
      lexed = subst (λ (bs : List ℕ). IsLexed text tokens bs) (nothing_left l rest refl) lexed;
      query = r.query;
    };
    faultless = λ f h. by f (apart f h);
  }
    where
      by : (f : SqlFault) → IsByteFault text f ⊎ ByTokens f → ⊥
      by f (inl h) = l f h
      by f (inr h) = reads_faultless s r f h

  only_bytes : (f : SqlFault) → ((g : SqlFault) → ByTokens g → ⊥) → IsLeast (IsByteFault text) (Some f) → IsFirst text f
  only_bytes f none l = is_first f (inl l.0, λ g h. by g h)
    where
      by : (g : SqlFault) → IsByteFault text g ⊎ ByTokens g → First f g
      by g (inl h) = l.1 g h
      by g (inr h) = absurd (none g h)

  tie : (f g : SqlFault) → IsByteFault text f → ByTokens g → place f ≡ place g → First f g
  tie f g h k e = let a = byte_rank text f h in let b = token_rank tokens rest (length text) g k in
      inr (inr (e, omega (arith, a, b)))

  -- a fault of the bytes stands before the end where bytes are left
  before_end : (f : SqlFault) → IsLeast (IsByteFault text) (Some f) → (bytes : List ℕ) → rest ≡ bytes
      → (rest ≡ [] → ⊥) → place f < length text
  before_end f l [] e some = absurd (some e)
  before_end f l (b ∷ bytes) e some =
      by (l.1 (faults.Token (length text - length (b ∷ bytes))) (inr (stuck_least_by (b ∷ bytes) e).0))
    where
      by : First f (faults.Token (length text - length (b ∷ bytes))) → place f < length text
      by (inl k) = let p = ap place k in let q : length (b ∷ bytes) ≤ length text =
          (let n = rest_short text tokens rest lexed in omega (arith, n, ap length e)) in omega (arith, p, q)
      by (inr (inl k)) = omega (arith, k)
      by (inr (inr k)) = let p = k.0 in let q : length (b ∷ bytes) ≤ length text =
          (let n = rest_short text tokens rest lexed in omega (arith, n, ap length e)) in omega (arith, p, q)

  keeps_first : (f g : SqlFault) → place f ≤ place g → sooner (Some f) g ≡ f
  keeps_first f g le = let k = le-ltb (place g) (place f) le in rw k refl

  stopped_right : (stopped : Stopped) (a : Option SqlFault) → IsLeast (IsByteFault text) a
      → Judged tokens rest (length text) (fault_at stopped (length text))
      → IsFirst text (sooner a (fault_at stopped (length text)))
  stopped_right stopped a l (real h first) =
      is_first (sooner a (fault_at stopped (length text)))
      (sooner_least (IsByteFault text) ByTokens tie a (fault_at stopped (length text)) l (h, first))
  stopped_right stopped None l (past some at none) = absurd (some (nothing_left l rest refl))
  stopped_right stopped (Some f) l (past some at none) =
      let lt = before_end f l rest refl some in
      let e = keeps_first f (fault_at stopped (length text)) (omega (arith, lt, at)) in
      rw e (only_bytes f none l)

  right_by : (a : Option SqlFault) (r : Result Select Stopped) → IsLeast (IsByteFault text) a
      → Verdict tokens rest (length text) r → Right (outcome a r (length text))
  right_by None (Ok s) l v = reading s v l
  right_by (Some f) (Ok s) l v = only_bytes f (reads_faultless s v) l
  right_by None (Err stopped) l v = stopped_right stopped None l v
  right_by (Some f) (Err stopped) l v = stopped_right stopped (Some f) l v

  -- the answer is right
  pub right : Right (outcome (earlier (first_bad 0 text) (stuck_at rest (length text))) (parse_at tokens) (length text))
  right = right_by (earlier (first_bad 0 text) (stuck_at rest (length text))) (parse_at tokens) before_least
      (verdict tokens rest (length text) (length text - length rest) (lexed_rise text tokens rest lexed) (omega arith))

-- ---- a text that is too long

pub too_long_first : (text : List ℕ) → 2 ^ 16 < length text → IsFirst text faults.TooLong
too_long_first text h = record { has = h; first = λ g k. by g k }
  where
    by : (g : SqlFault) → HasFault text g → First faults.TooLong g
    by faults.TooLong k = inl refl
    by (faults.NotAscii at) k = grind arith
    by (faults.Token at) k = grind arith
    by (faults.Grammar at) k = grind arith
    by (faults.TooMany what at) k = grind arith
    by faults.Memory k = absurd k
