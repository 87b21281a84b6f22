-- The parts of a line are those at which it is cut.
use Rattle.std.proofs.Common.{◌≡◌, ℕ, true, List, [], ◌∷◌, ◌++◌, take, drop, refl, sym, ap, ◌∙◌, subst, append_assoc}
use Rattle.std.specs.Prelude.{codes}
use Rattle.std.specs.Char.{is_ascii_digit}
use Rattle.std.specs.List.{list_all, prefix_len}
use Rattle.std.proofs.lemmas.Bool.{and_parts}
use Rattle.std.proofs.lemmas.List.{take-append-drop, append_cancel_right}
use Rattle.std.proofs.lemmas.List.Folds.{list_all-append}
use Rattle.plan_reading.proofs.Fronts.{EndsFront}
use Rattle.plan_reading.proofs.Fronts.{front_passes, front_ends, taken_again, left_again}
use Rattle.plan_reading.specs.Reading.{is_space, is_bare, IsFlush, ArePartsOf}
use Rattle.plan_reading.proofs.Cuts.{cut_once}
use Rattle.plan_reading.proofs.LineTexts.{turned}
use Rattle.plan_reading.proofs.BareWords.{bare_append}

-- the line is cut behind its spaces, and then before the first equals sign
pub record IsSplit (line spaces rest front back : List ℕ) : Type 0 where
  pub spaces_are : spaces ≡ take (prefix_len is_space line) line
  pub rest_is : rest ≡ drop (prefix_len is_space line) line
  pub front_is : front ≡ take (prefix_len is_bare rest) rest
  pub back_is : back ≡ drop (prefix_len is_bare rest) rest

-- what is behind the digits of the rows
abbrev pub tail : List ℕ → List ℕ
tail cost = 32 ∷ 99 ∷ 111 ∷ 115 ∷ 116 ∷ 61 ∷ cost

flush_end : (n r : List ℕ) → IsFlush n → EndsFront is_space (n ++ r)
flush_end [] r flush = absurd flush
flush_end (b ∷ n) r flush = flush

pub record AreCut (spaces front back own name rows cost : List ℕ) : Type 0 where
  pub spaces_are : spaces ≡ own
  pub front_is : front ≡ name ++ codes " rows"
  pub back_is : back ≡ 61 ∷ (rows ++ tail cost)

pub parts_cut : (line spaces rest front back s n r c : List ℕ) → IsSplit line spaces rest front back
    → ArePartsOf line s n r c → AreCut spaces front back s n r c
parts_cut line spaces rest front back s n r c split parts =
    let behind = n ++ (32 ∷ 114 ∷ 111 ∷ 119 ∷ 115 ∷ 61 ∷ (r ++ tail c)) in
    let whole : line ≡ s ++ behind =
    parts.whole ∙ turned s n r c ∙ ap (λ t. t ++ (61 ∷ (r ++ tail c))) (append_assoc s n (codes " rows"))
    ∙ append_assoc s (n ++ codes " rows") (61 ∷ (r ++ tail c))
    ∙ ap (λ t. s ++ t) (append_assoc n (codes " rows") (61 ∷ (r ++ tail c))) in
    let rest_is : rest ≡ (n ++ codes " rows") ++ (61 ∷ (r ++ tail c)) =
    split.rest_is ∙ ap (λ t. drop (prefix_len is_space t) t) whole
    ∙ left_again is_space s behind parts.spaced (flush_end n (32 ∷ 114 ∷ 111 ∷ 119 ∷ 115 ∷ 61 ∷ (r ++ tail c)) parts.flush)
    ∙ sym (append_assoc n (codes " rows") (61 ∷ (r ++ tail c))) in
    let named = bare_append n (codes " rows") parts.bare refl in
    record {
      spaces_are = split.spaces_are ∙ ap (λ t. take (prefix_len is_space t) t) whole
          ∙ taken_again is_space s behind parts.spaced
          (flush_end n (32 ∷ 114 ∷ 111 ∷ 119 ∷ 115 ∷ 61 ∷ (r ++ tail c)) parts.flush);
      front_is = split.front_is ∙ ap (λ t. take (prefix_len is_bare t) t) rest_is
          ∙ taken_again is_bare (n ++ codes " rows") (61 ∷ (r ++ tail c)) named refl;
      back_is = split.back_is ∙ ap (λ t. drop (prefix_len is_bare t) t) rest_is
          ∙ left_again is_bare (n ++ codes " rows") (61 ∷ (r ++ tail c)) named refl;
    }

-- behind the digits
pub tail_cut : (numbers back n r c front spaces s : List ℕ) → back ≡ 61 ∷ numbers → AreCut spaces front back s n r c
    → list_all is_ascii_digit r ≡ true → drop (prefix_len is_ascii_digit numbers) numbers ≡ tail c
tail_cut numbers back n r c front spaces s sign cut digits =
    let same : numbers ≡ r ++ tail c = ap (drop 1) (sym sign ∙ cut.back_is) in
    ap (λ t. drop (prefix_len is_ascii_digit t) t) same ∙ left_again is_ascii_digit r (tail c) digits refl

flush_name : (name rest more : List ℕ) → rest ≡ (name ++ codes " rows") ++ more → EndsFront is_space rest → IsFlush name
flush_name [] rest more is ends = let begins = subst (EndsFront is_space) is ends in absurd cc
flush_name (b ∷ name) rest more is ends = subst (EndsFront is_space) is ends

-- what is cut so are the parts
pub parts_found : (line spaces rest front back name numbers rows behind cost : List ℕ)
    → IsSplit line spaces rest front back → front ≡ name ++ codes " rows" → back ≡ 61 ∷ numbers
    → rows ≡ take (prefix_len is_ascii_digit numbers) numbers → behind ≡ drop (prefix_len is_ascii_digit numbers) numbers
    → behind ≡ tail cost → ArePartsOf line spaces name rows cost
parts_found line spaces rest front back name numbers rows behind cost split front_is back_is rows_are behind_is cost_is =
    let numbers_are : numbers ≡ rows ++ tail cost =
    sym (take-append-drop (prefix_len is_ascii_digit numbers) numbers)
    ∙ ap (λ t. t ++ drop (prefix_len is_ascii_digit numbers) numbers) (sym rows_are)
    ∙ ap (λ t. rows ++ t) (sym behind_is ∙ cost_is) in
    let rest_is : rest ≡ (name ++ codes " rows") ++ (61 ∷ (rows ++ tail cost)) =
    sym (take-append-drop (prefix_len is_bare rest) rest)
    ∙ ap (λ t. t ++ drop (prefix_len is_bare rest) rest) (sym split.front_is ∙ front_is)
    ∙ ap (λ t. (name ++ codes " rows") ++ t) (sym split.back_is ∙ back_is ∙ ap (λ t. 61 ∷ t) numbers_are) in
    let line_is : line ≡ spaces ++ rest =
    sym (take-append-drop (prefix_len is_space line) line)
    ∙ ap (λ t. t ++ drop (prefix_len is_space line) line) (sym split.spaces_are)
    ∙ ap (λ t. spaces ++ t) (sym split.rest_is) in
    let front_bare : list_all is_bare (name ++ codes " rows") ≡ true =
    subst (λ t. list_all is_bare t ≡ true) (sym split.front_is ∙ front_is) (front_passes is_bare rest) in
    record {
      spaced = subst (λ t. list_all is_space t ≡ true) (sym split.spaces_are) (front_passes is_space line);
      flush = flush_name name rest (61 ∷ (rows ++ tail cost)) rest_is
          (subst (EndsFront is_space) (sym split.rest_is) (front_ends is_space line));
      bare = (and_parts (list_all is_bare name) (list_all is_bare (codes " rows"))
          (sym (list_all-append is_bare name (codes " rows")) ∙ front_bare)).0;
      digits = subst (λ t. list_all is_ascii_digit t ≡ true) (sym rows_are) (front_passes is_ascii_digit numbers);
      whole = line_is ∙ ap (λ t. spaces ++ t) rest_is
          ∙ sym (append_assoc spaces (name ++ codes " rows") (61 ∷ (rows ++ tail cost)))
          ∙ ap (λ t. t ++ (61 ∷ (rows ++ tail cost))) (sym (append_assoc spaces name (codes " rows")))
          ∙ sym (turned spaces name rows cost);
    }

-- a line has its parts once
pub record AreOne (s n r c t m k d : List ℕ) : Type 0 where
  pub spaces : s ≡ t
  pub name : n ≡ m
  pub rows : r ≡ k
  pub cost : c ≡ d

split_itself : (line : List ℕ) → IsSplit line (take (prefix_len is_space line) line) (drop (prefix_len is_space line) line)
    (take (prefix_len is_bare (drop (prefix_len is_space line) line)) (drop (prefix_len is_space line) line))
    (drop (prefix_len is_bare (drop (prefix_len is_space line) line)) (drop (prefix_len is_space line) line))
split_itself line = record { spaces_are = refl; rest_is = refl; front_is = refl; back_is = refl }

pub parts_one : (line s n r c t m k d : List ℕ) → ArePartsOf line s n r c → ArePartsOf line t m k d → AreOne s n r c t m k d
parts_one line s n r c t m k d x y =
    let a = parts_cut line _ _ _ _ s n r c (split_itself line) x in
    let b = parts_cut line _ _ _ _ t m k d (split_itself line) y in
    let back : r ++ tail c ≡ k ++ tail d = ap (drop 1) (sym a.back_is ∙ b.back_is) in
    let numbers = cut_once is_ascii_digit r k (tail c) (tail d) x.digits y.digits refl refl back in
    record {
      spaces = sym a.spaces_are ∙ b.spaces_are;
      name = append_cancel_right n m (codes " rows") (sym a.front_is ∙ b.front_is);
      rows = numbers.0;
      cost = ap (drop 6) numbers.1;
    }
