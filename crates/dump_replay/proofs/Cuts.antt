-- A text is cut at its first newline, in one way.
use Rattle.std.proofs.Common.{◌≡◌, ℕ, suc, zero, ◌-◌, ◌<◌, ◌≤◌, ◌==◌, Bool, true, false, not, List, [], ◌∷◌, ◌++◌}
use Rattle.std.proofs.Common.{length, get_or, take, drop, refl, sym, ap, ◌∙◌, arith}
use Rattle.std.proofs.lemmas.Bool.{false≢true, and_parts}
use Rattle.std.proofs.lemmas.Bool.Decides.{nat_tests}
use Rattle.std.proofs.lemmas.List.{get_or_append_left, get_or_at, get_or_past, length-append, take-append-drop}
use Rattle.std.proofs.lemmas.List.Folds.{list_all-append}
use Rattle.std.proofs.Math.Seq.{take-length}
use Rattle.memchr.specs.Find.{NoneBefore, Passes, is_byte}
use Rattle.dump_replay.specs.Lines.{is_one_line, IsCut}

-- the text has no newline
abbrev pub IsOneLine : List ℕ → Type 0
IsOneLine text = is_one_line text ≡ true

-- two texts without a newline, one behind the other
pub both_one_line : (front back : List ℕ) → IsOneLine front → IsOneLine back → IsOneLine (front ++ back)
both_one_line front back is_front is_back =
    rw (list_all-append (λ byte. not (byte == 10)) front back, is_front, is_back) refl

-- the newline is none of the bytes of such a text
no_feed : (byte : ℕ) (more : List ℕ) → IsOneLine (byte ∷ more) → byte ≡ 10 → ⊥
no_feed byte more line is = let test = (and_parts (not (byte == 10)) (is_one_line more) line).0 in
    let yes : (byte == 10) ≡ true = grind (arith, nat_tests) in absurd (false≢true (rw yes at test))

-- texts that are cut at their first newlines are cut alike
pub one_cut : (a b r s : List ℕ) → IsOneLine a → IsOneLine b → a ++ (10 ∷ r) ≡ b ++ (10 ∷ s) → (a ≡ b) × (r ≡ s)
one_cut [] [] r s is_a is_b same = (refl, cc)
one_cut [] (y ∷ b) r s is_a is_b same = absurd (no_feed y b is_b (cc))
one_cut (x ∷ a) [] r s is_a is_b same = absurd (no_feed x a is_a (cc))
one_cut (x ∷ a) (y ∷ b) r s is_a is_b same =
    let first : x ≡ y = cc in
    let others : a ++ (10 ∷ r) ≡ b ++ (10 ∷ s) = cc in
    let rest = one_cut a b r s (and_parts (not (x == 10)) (is_one_line a) is_a).1
    (and_parts (not (y == 10)) (is_one_line b) is_b).1 others in
    let line = rest.0 in
    (cc, rest.1)

-- a text has one cut
pub same_cut : (text a b r s : List ℕ) → IsCut text a r → IsCut text b s → (a ≡ b) × (r ≡ s)
same_cut text a b r s x y = one_cut a b r s x.one_line y.one_line (sym x.whole ∙ y.whole)

-- the byte at a place is a newline
abbrev IsFeed : List ℕ → ℕ → Type 0
IsFeed text k = (get_or text k 0 == 10) ≡ true

not_feed : (b : Bool) → (b ≡ true → ⊥) → not b ≡ true
not_feed true never = absurd (never refl)
not_feed false never = refl

-- a text in which no byte is a newline
no_feeds : (line : List ℕ) → ((k : ℕ) → k < length line → IsFeed line k → ⊥) → IsOneLine line
no_feeds [] none = refl
no_feeds (byte ∷ line) none =
    let here : not (byte == 10) ≡ true = not_feed (byte == 10) (none zero (omega arith)) in
    rw here (no_feeds line (λ k near is. none (suc k) (omega (arith, near)) is))

-- where the first newline is found, the text is cut
pub found_cut : (text line behind : List ℕ) (at : ℕ) → NoneBefore (Passes (is_byte 10) text) 0 (length text) at
    → Passes (is_byte 10) text at → line ≡ take at text → behind ≡ drop at text → length line ≡ at
    → IsCut text line (take (length behind - 1) (drop 1 behind))
found_cut text line behind at none here front back long =
    let whole : text ≡ line ++ behind = sym (take-append-drop at text)
    ∙ ap (λ (t : List ℕ). t ++ drop at text) (sym front) ∙ ap (λ (t : List ℕ). line ++ t) (sym back) in
    of_behind behind whole refl
  where
    before : (rest : List ℕ) → text ≡ line ++ rest → (k : ℕ) → k < length line → IsFeed line k → ⊥
    before rest whole k near is = none.before k (omega arith) (omega (arith, near, long))
        (rw (whole, get_or_append_left line rest 0 k near) is)

    of_behind : (rest : List ℕ) → text ≡ line ++ rest → behind ≡ rest
        → IsCut text line (take (length behind - 1) (drop 1 behind))
    of_behind [] whole is = absurd (false≢true (rw (whole, past) at here))
      where
        past : get_or (line ++ []) at 0 ≡ 0
        past = get_or_past (line ++ []) at 0 (omega (arith, length-append line [], long))
    of_behind (byte ∷ more) whole is =
        let first : get_or text at 0 ≡ byte = ap (λ t. get_or t at 0) whole ∙ get_or_at line byte more 0 at long in
        let feed : byte ≡ 10 = let test = rw first at here in grind (arith, nat_tests, test) in
        let rest : take (length behind - 1) (drop 1 behind) ≡ more =
        rw is (let count : length (byte ∷ more) - 1 ≡ length more = omega arith in rw count (take-length more)) in
        rw rest (record {
          one_line = no_feeds line (before (byte ∷ more) whole);
          whole = whole ∙ ap (λ (b : ℕ). line ++ (b ∷ more)) feed;
        })

-- where no newline is found, nothing is cut
pub not_cut : (text line rest : List ℕ) → ((k : ℕ) → 0 ≤ k → k < length text → Passes (is_byte 10) text k → ⊥)
    → IsCut text line rest → ⊥
not_cut text line rest none cut =
    let here : get_or text (length line) 0 ≡ 10 = ap (λ t. get_or t (length line) 0) cut.whole
    ∙ get_or_at line 10 rest 0 (length line) refl in
    none (length line) (omega arith) (omega (arith, ap length cut.whole, length-append line (10 ∷ rest))) (rw here refl)
