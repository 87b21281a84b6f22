-- A line's text is that of one line.
use Rattle.std.proofs.Common.{◌≡◌, ℕ, zero, suc, ◌*◌, ◌<◌, ◌^◌, true, List, [], ◌∷◌, ◌++◌, length, drop, refl, sym}
use Rattle.std.proofs.Common.{ap, ◌∙◌}
use Rattle.std.proofs.Common.{append_assoc, arith, decimal, length-append}
use Rattle.std.specs.Prelude.{codes}
use Rattle.std.specs.Char.{is_ascii_digit}
use Rattle.std.specs.List.{list_all}
use Rattle.std.proofs.lemmas.Bool.{and_parts, eqb-true}
use Rattle.std.proofs.lemmas.Fmt.{decimal_injective}
use Rattle.std.proofs.lemmas.List.{append_cancel_right}
use Rattle.std.proofs.lemmas.List.Folds.{list_all-append}
use Rattle.plan_reading.proofs.Fronts.{EndsFront}
use Rattle.plan_lines.specs.Text.{indent}
use Rattle.plan_reading.proofs.Cuts.{cut_once}
use Rattle.plan_reading.specs.Reading.{is_bare, is_space}
use Rattle.plan_reading.proofs.BareWords.{IsBare, bare_append, decimal_digits}

-- ---- spaces

pub indent_spaces : (d : ℕ) → list_all is_space (indent d) ≡ true
indent_spaces zero = refl
indent_spaces (suc d) = rw (list_all-append is_space (indent d) (codes "  "), indent_spaces d) refl

pub indent_long : (d : ℕ) → length (indent d) ≡ 2 * d
indent_long zero = refl
indent_long (suc d) = let rest = indent_long d in let whole = length-append (indent d) (codes "  ") in omega arith

pub indent_one : (d e : ℕ) → indent d ≡ indent e → d ≡ e
indent_one d e same = let x = indent_long d in let y = indent_long e in let l = ap length same in omega arith

pub indent_bare : (d : ℕ) → IsBare (indent d)
indent_bare zero = refl
indent_bare (suc d) = bare_append (indent d) (codes "  ") (indent_bare d) refl

-- ---- the parts of a line

-- a line without its newline
abbrev pub unended : List ℕ → List ℕ → ℕ → ℕ → List ℕ
unended spaces name rows cost = spaces ++ name ++ codes " rows=" ++ decimal rows ++ codes " cost=" ++ decimal cost

-- the first equals sign
pub turned : (s n r c : List ℕ) → (((((s ++ n) ++ codes " rows=") ++ r) ++ codes " cost=") ++ c)
    ≡ ((s ++ n) ++ codes " rows") ++ (61 ∷ (r ++ (32 ∷ 99 ∷ 111 ∷ 115 ∷ 116 ∷ 61 ∷ c)))
turned s n r c =
    append_assoc (((s ++ n) ++ codes " rows=") ++ r) (codes " cost=") c
    ∙ append_assoc ((s ++ n) ++ codes " rows=") r (codes " cost=" ++ c)
    ∙ append_assoc (s ++ n) (codes " rows=") (r ++ (codes " cost=" ++ c))
    ∙ sym (append_assoc (s ++ n) (codes " rows") (61 ∷ (r ++ (codes " cost=" ++ c))))

pub record AreSame (d e : ℕ) (n m : List ℕ) : Type 0 where
  pub level : d ≡ e
  pub name : n ≡ m

-- a text that begins with no space
abbrev pub IsFlush : List ℕ → Type 0
IsFlush text = EndsFront is_space text

module _ (d e : ℕ) (n m : List ℕ) (r s c k : ℕ) (n_bare : IsBare n) (m_bare : IsBare m) (n_flush : IsFlush n)
    (m_flush : IsFlush m) (same : unended (indent d) n r c ≡ unended (indent e) m s k) where
  cut_lines : (((indent d ++ n) ++ codes " rows") ≡ ((indent e ++ m) ++ codes " rows"))
      × ((61 ∷ (decimal r ++ (32 ∷ 99 ∷ 111 ∷ 115 ∷ 116 ∷ 61 ∷ decimal c)))
      ≡ (61 ∷ (decimal s ++ (32 ∷ 99 ∷ 111 ∷ 115 ∷ 116 ∷ 61 ∷ decimal k))))
  cut_lines = cut_once is_bare ((indent d ++ n) ++ codes " rows") ((indent e ++ m) ++ codes " rows")
      (61 ∷ (decimal r ++ (32 ∷ 99 ∷ 111 ∷ 115 ∷ 116 ∷ 61 ∷ decimal c)))
      (61 ∷ (decimal s ++ (32 ∷ 99 ∷ 111 ∷ 115 ∷ 116 ∷ 61 ∷ decimal k)))
      (bare_append (indent d ++ n) (codes " rows") (bare_append (indent d) n (indent_bare d) n_bare) refl)
      (bare_append (indent e ++ m) (codes " rows") (bare_append (indent e) m (indent_bare e) m_bare) refl) refl refl
      (sym (turned (indent d) n (decimal r) (decimal c)) ∙ same ∙ turned (indent e) m (decimal s) (decimal k))

  -- the level and the name
  pub names_one : AreSame d e n m
  names_one =
      let named = cut_once is_space (indent d) (indent e) n m (indent_spaces d) (indent_spaces e) n_flush m_flush
      (append_cancel_right (indent d ++ n) (indent e ++ m) (codes " rows") cut_lines.0) in
      record { level = indent_one d e named.0; name = named.1 }

  -- and the two numbers
  pub numbers_one : r < 2 ^ 64 → s < 2 ^ 64 → c < 2 ^ 64 → k < 2 ^ 64 → (r ≡ s) × (c ≡ k)
  numbers_one r_small s_small c_small k_small =
      let numbers = cut_once is_ascii_digit (decimal r) (decimal s) (32 ∷ 99 ∷ 111 ∷ 115 ∷ 116 ∷ 61 ∷ decimal c)
      (32 ∷ 99 ∷ 111 ∷ 115 ∷ 116 ∷ 61 ∷ decimal k) (decimal_digits r) (decimal_digits s) refl refl
      (ap (drop 1) cut_lines.1) in
      (decimal_injective r s r_small s_small numbers.0, decimal_injective c k c_small k_small (ap (drop 6) numbers.1))

-- spaces as many as the indent has are the indent
same_spaces : (xs ys : List ℕ) → list_all is_space xs ≡ true → list_all is_space ys ≡ true → length xs ≡ length ys → xs ≡ ys
same_spaces [] [] in_xs in_ys long = refl
same_spaces [] (y ∷ ys) in_xs in_ys long = absurd (omega (arith, long))
same_spaces (x ∷ xs) [] in_xs in_ys long = absurd (omega (arith, long))
same_spaces (x ∷ xs) (y ∷ ys) in_xs in_ys long =
    let a = and_parts (is_space x) (list_all is_space xs) in_xs in
    let b = and_parts (is_space y) (list_all is_space ys) in_ys in
    let first : x ≡ y = eqb-true x 32 a.0 ∙ sym (eqb-true y 32 b.0) in
    let rest = same_spaces xs ys a.1 b.1 (omega (arith, long)) in
    cc

pub spaces_indent : (xs : List ℕ) (d : ℕ) → list_all is_space xs ≡ true → length xs ≡ 2 * d → xs ≡ indent d
spaces_indent xs d spaced long = same_spaces xs (indent d) spaced (indent_spaces d) (long ∙ sym (indent_long d))
