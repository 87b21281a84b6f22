-- A quoted text, read byte by byte.
use Rattle.std.proofs.Common.{◌≡◌, ℕ, Bool, true, false, List, [], ◌∷◌, ◌++◌, map, Option, Some, None, refl, sym, ap}
use Rattle.std.proofs.Common.{◌∙◌, append_assoc}
use Rattle.std.proofs.lemmas.List.{append-nil}
use Rattle.std.specs.Option.{option_map}
use Rattle.sql_reader.specs.declared.pieces.Quoting.{Quoting}
use Rattle.sql_reader.specs.declared.pieces.Quoting.TheVariants as quotings
use Rattle.sql_reader.specs.Lexing.{shown}
use Rattle.sql_reader.specs.Cutting.{with_byte, quoting_of, quoted_by, quoted_from, shown_text}

-- a text and what is behind it, where there is one
abbrev pub Quoted : Type 0
Quoted = Option (List ℕ × List ℕ)

-- with a text in front
abbrev pub behind_text : List ℕ → List ℕ × List ℕ → List ℕ × List ℕ
behind_text front p = (front ++ p.0, p.1)

-- the text so far, with what is still read behind it
abbrev pub with_text : List ℕ → Quoted → Quoted
with_text front found = option_map (behind_text front) (option_map shown_text found)

-- what was read before, and what is still read, is what is read in all
abbrev pub ReadsOn : List ℕ → Bool → List ℕ → Quoted → Type 0
ReadsOn front after bytes total = with_text front (quoted_from after bytes) ≡ total

by_byte : (after : Bool) (byte : ℕ) (bytes : List ℕ)
    → quoted_from after (byte ∷ bytes)
    ≡ quoted_by (quoting_of after byte) (quoted_from false bytes) (quoted_from true bytes) (byte ∷ bytes)
by_byte true byte bytes = refl
by_byte false byte bytes = refl

module _ (front : List ℕ) (after : Bool) (byte : ℕ) (bytes : List ℕ) (total : Quoted) where
  what_byte_does : (q : Quoting) → quoting_of after byte ≡ q → ReadsOn front after (byte ∷ bytes) total
      → with_text front (quoted_by q (quoted_from false bytes) (quoted_from true bytes) (byte ∷ bytes)) ≡ total
  what_byte_does q e h = rw (by_byte after byte bytes, e) at h

  -- a byte of the text goes last
  pub part : (shows : ℕ) → quoting_of after byte ≡ quotings.Part shows → ReadsOn front after (byte ∷ bytes) total
      → ReadsOn (front ++ shown shows ∷ []) false bytes total
  part shows e h = moved (quoted_from false bytes) ∙ what_byte_does (quotings.Part shows) e h
    where
      moved : (found : Quoted)
          → with_text (front ++ shown shows ∷ []) found ≡ with_text front (with_byte shows found)
      moved None = refl
      moved (Some p) = ap (λ (text : List ℕ). Some (text, p.1)) (append_assoc front (shown shows ∷ []) (map shown p.0))

  -- a quote may close the text
  pub may_close : quoting_of after byte ≡ quotings.MayClose → ReadsOn front after (byte ∷ bytes) total
      → ReadsOn front true bytes total
  may_close e h = what_byte_does quotings.MayClose e h

  -- the quote before the byte closed the text
  pub closed : quoting_of after byte ≡ quotings.Closed → ReadsOn front after (byte ∷ bytes) total
      → Some (front, byte ∷ bytes) ≡ total
  closed e h = ap (λ (text : List ℕ). Some (text, byte ∷ bytes)) (sym (append-nil front))
      ∙ what_byte_does quotings.Closed e h
