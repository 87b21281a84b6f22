-- The lines of a text, from its front.
use Rattle.std.proofs.Common.{◌≡◌, ℕ, zero, suc, ◌<◌, ◌==◌, Bool, true, false, List, [], ◌∷◌, ◌++◌, length, get_or}
use Rattle.std.proofs.Common.{◌-◌, take, drop, arith, refl, sym, ap, ◌∙◌, subst, append_assoc}
use Rattle.std.specs.Borrow.{Bor}
use Rattle.std.proofs.lemmas.List.{map-append}
use Rattle.std.proofs.Math.Seq.{take-length}
use Rattle.std.proofs.lemmas.Bool.Decides.{nat_tests}
use Rattle.memchr.specs.Find.{NoneBefore, Passes, is_byte}
use Rattle.orca_cli.specs.Lists.{with_byte, lines_of}
use Rattle.orca_cli.specs.Views.{lines_read}

-- the byte at a place is a line feed
abbrev pub IsFeed : List ℕ → ℕ → Type 0
IsFeed text k = (get_or text k 0 == 10) ≡ true

is_false : (b : Bool) → (b ≡ true → ⊥) → b ≡ false
is_false true never = absurd (never refl)
is_false false never = refl

-- a byte that is no line feed stands in front of the first line
in_front : (byte : ℕ) (more : List ℕ) → ((byte == 10) ≡ true → ⊥)
    → lines_of (byte ∷ more) ≡ with_byte byte (lines_of more)
in_front byte more never = rw (is_false (byte == 10) never) refl

-- what stands behind a line, and begins with a line feed
pub record IsCut (line behind : List ℕ) : Type 0 where
  pub more : List ℕ
  pub feed : behind ≡ 10 ∷ more
  pub lines : lines_of (line ++ behind) ≡ line ∷ lines_of more

-- a text that is cut at its first line feed
pub cut_first : (line behind : List ℕ) → ((k : ℕ) → k < length line → IsFeed (line ++ behind) k → ⊥)
    → IsFeed (line ++ behind) (length line) → IsCut line behind
cut_first [] [] none here = cc
cut_first [] (byte ∷ more) none here =
    let feed : byte ≡ 10 = grind (arith, nat_tests, here) in
    record { more = more; feed = ap (λ (b : ℕ). b ∷ more) feed; lines = rw here refl }
cut_first (byte ∷ line) behind none here =
    let long : length (byte ∷ line) ≡ suc (length line) = omega arith in
    let there : IsFeed (line ++ behind) (length line) =
    subst (λ (k : ℕ). IsFeed (byte ∷ line ++ behind) k) long here in
    let rest = cut_first line behind (λ k near is. none (suc k) (omega (arith, near, long)) is) there in
    record {
      more = rest.more;
      feed = rest.feed;
      lines = in_front byte (line ++ behind) (none zero (omega arith)) ∙ ap (with_byte byte) rest.lines;
    }

-- the last line may lack its line feed
pub line_last : (line : List ℕ) → ((k : ℕ) → k < length line → IsFeed line k → ⊥) → 0 < length line
    → lines_of line ≡ line ∷ []
line_last [] none some = absurd (omega (arith, some))
line_last (byte ∷ []) none some = in_front byte [] (none zero (omega arith))
line_last (byte ∷ next ∷ more) none some =
    let long : length (byte ∷ next ∷ more) ≡ suc (length (next ∷ more)) = omega arith in
    in_front byte (next ∷ more) (none zero (omega arith))
    ∙ ap (with_byte byte) (line_last (next ∷ more) (λ k near is. none (suc k) (omega (arith, near, long)) is)
    (omega arith))

-- a text that is cut at the first place at which a line feed is found
pub line_cut : (text line behind : List ℕ) (at : ℕ) → NoneBefore (Passes (is_byte 10) text) 0 (length text) at
    → Passes (is_byte 10) text at → text ≡ line ++ behind → length line ≡ at → IsCut line behind
line_cut text line behind at none here whole long =
    cut_first line behind
    (λ k near is. none.before k (omega arith) (omega (arith, near, long)) (subst (λ t. IsFeed t k) (sym whole) is))
    (subst (λ t. IsFeed t (length line)) whole (subst (λ (j : ℕ). IsFeed text j) (sym long) here))

-- one line more was read
pub lines_push : (text rest more : List ℕ) (lines new : List (Bor (List ℕ))) (line : Bor (List ℕ))
    → lines_of text ≡ lines_read lines ++ lines_of rest → new ≡ lines ++ line ∷ []
    → lines_of rest ≡ line.now ∷ lines_of more → lines_of text ≡ lines_read new ++ lines_of more
lines_push text rest more lines new line is pushed cut =
    is ∙ ap (λ l. lines_read lines ++ l) cut
    ∙ sym (append_assoc (lines_read lines) (line.now ∷ []) (lines_of more))
    ∙ ap (λ l. l ++ lines_of more) (sym (ap lines_read pushed
    ∙ map-append (λ (b : Bor (List ℕ)). b.now) lines (line ∷ [])))

-- what stands behind a line feed
pub behind_feed : (behind more : List ℕ) → behind ≡ 10 ∷ more → take (length behind - 1) (drop 1 behind) ≡ more
behind_feed behind more is =
    let count : length (10 ∷ more) - 1 ≡ length more = omega arith in
    ap (λ (b : List ℕ). take (length b - 1) (drop 1 b)) is ∙ ap (λ (n : ℕ). take n more) count ∙ take-length more
