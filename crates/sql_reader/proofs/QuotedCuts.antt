-- A quoted text that is found stands there, and one that stands there is found.
use Rattle.std.proofs.Common.{◌≡◌, ℕ, Bool, true, false, cond, eqb-true, List, [], ◌∷◌, ◌++◌, Option, Some, None, refl}
use Rattle.std.proofs.Common.{sym, ap, ◌∙◌, append_assoc}
use Rattle.std.specs.Option.{option_map}
use Rattle.sql_reader.specs.Pieces.{quoted, is_quote, doubled, EndsPiece}
use Rattle.sql_reader.specs.Cutting.{quoting_of, quoted_by, quoted_from, with_byte, as_quoted}
use Rattle.sql_reader.proofs.Cuts.{Sound}

-- the bytes of a text up to its closing quote; behind a quote, that quote is written already
abbrev Closes : Bool → List ℕ → List ℕ → List ℕ → Type 0
Closes false bytes text rest = (bytes ≡ doubled text ++ 39 ∷ rest) × EndsPiece is_quote rest
Closes true bytes text rest = (39 ∷ bytes ≡ doubled text ++ 39 ∷ rest) × EndsPiece is_quote rest

abbrev Closed : Bool → List ℕ → Option (List ℕ × List ℕ) → Type 0
Closed after bytes None = Unit {0}
Closed after bytes (Some p) = Closes after bytes p.0 p.1

closed_part : (b : ℕ) (bytes : List ℕ) → is_quote b ≡ false → (found : Option (List ℕ × List ℕ))
    → Closed false bytes found → Closed false (b ∷ bytes) (with_byte b found)
closed_part b bytes q None c = tt
closed_part b bytes q (Some p) c = (rw q (ap (λ (t : List ℕ). b ∷ t) c.0), c.1)

closed_quote : (bytes : List ℕ) (found : Option (List ℕ × List ℕ)) → Closed false bytes found
    → Closed true (39 ∷ bytes) (with_byte 39 found)
closed_quote bytes None c = tt
closed_quote bytes (Some p) c = (ap (λ (t : List ℕ). 39 ∷ 39 ∷ t) c.0, c.1)

opened : (bytes : List ℕ) (found : Option (List ℕ × List ℕ)) → Closed true bytes found → Closed false (39 ∷ bytes) found
opened bytes None c = tt
opened bytes (Some p) c = c

inside_by : (b : ℕ) (bytes : List ℕ) (c : Bool) → is_quote b ≡ c → Closed false bytes (quoted_from false bytes)
    → Closed true bytes (quoted_from true bytes)
    → Closed false (b ∷ bytes) (quoted_by (quoting_of false b) (quoted_from false bytes) (quoted_from true bytes)
    (b ∷ bytes))
inside_by b bytes true e inside behind = rw (eqb-true b 39 e) (opened bytes (quoted_from true bytes) behind)
inside_by b bytes false e inside behind = rw e (closed_part b bytes e (quoted_from false bytes) inside)

behind_by : (b : ℕ) (bytes : List ℕ) (c : Bool) → is_quote b ≡ c → Closed false bytes (quoted_from false bytes)
    → Closed true bytes (quoted_from true bytes)
    → Closed true (b ∷ bytes) (quoted_by (quoting_of true b) (quoted_from false bytes) (quoted_from true bytes)
    (b ∷ bytes))
behind_by b bytes true e inside behind = rw (eqb-true b 39 e) (closed_quote bytes (quoted_from false bytes) inside)
behind_by b bytes false e inside behind = rw e (refl, e)

closed : (bytes : List ℕ) → Closed false bytes (quoted_from false bytes) × Closed true bytes (quoted_from true bytes)
closed [] = (tt, (refl, tt))
closed (b ∷ bytes) =
    let c = closed bytes in
    (inside_by b bytes (is_quote b) refl c.0 c.1, behind_by b bytes (is_quote b) refl c.0 c.1)

sound_from : (bytes : List ℕ) (found : Option (List ℕ × List ℕ)) → Closed false bytes found
    → Sound (39 ∷ bytes) (option_map as_quoted found)
sound_from bytes None c = tt
sound_from bytes (Some p) c = record {
  fits = tt;
  stands = c.1;
  whole = ap (λ (t : List ℕ). 39 ∷ t) (c.0 ∙ sym (append_assoc (doubled p.0) (39 ∷ []) p.1));
}

pub quoted_sound : (bytes : List ℕ) → Sound (39 ∷ bytes) (option_map as_quoted (quoted_from false bytes))
quoted_sound bytes = sound_from bytes (quoted_from false bytes) (closed bytes).0

-- ---- what stands there is found

closes_here : (rest : List ℕ) → EndsPiece is_quote rest → quoted_from true rest ≡ Some ([], rest)
closes_here [] e = refl
closes_here (b ∷ rest) e = rw e refl

again_by : (b : ℕ) (text rest : List ℕ) (c : Bool) → is_quote b ≡ c
    → quoted_from false (doubled text ++ 39 ∷ rest) ≡ Some (text, rest)
    → quoted_from false (cond c (39 ∷ 39 ∷ doubled text) (b ∷ doubled text) ++ 39 ∷ rest) ≡ Some (b ∷ text, rest)
again_by b text rest true e h = let k = eqb-true b 39 e in rw (h, k) refl
again_by b text rest false e h = rw (e, h) refl

found_again : (text rest : List ℕ) → EndsPiece is_quote rest
    → quoted_from false (doubled text ++ 39 ∷ rest) ≡ Some (text, rest)
found_again [] rest e = closes_here rest e
found_again (b ∷ text) rest e = again_by b text rest (is_quote b) refl (found_again text rest e)

pub quoted_again : (text rest : List ℕ) → EndsPiece is_quote rest
    → option_map as_quoted (quoted_from false ((doubled text ++ 39 ∷ []) ++ rest)) ≡ Some (quoted text, rest)
quoted_again text rest e = ap (λ (ts : List ℕ). option_map as_quoted (quoted_from false ts))
    (append_assoc (doubled text) (39 ∷ []) rest)
    ∙ ap (λ (o : Option (List ℕ × List ℕ)). option_map as_quoted o) (found_again text rest e)
