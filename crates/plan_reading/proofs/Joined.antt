-- Lists of texts with a comma and a space between each two are told apart in one way.
use Rattle.std.proofs.Common.{◌≡◌, ℕ, List, [], ◌∷◌, ◌++◌, refl, sym, ◌∙◌, append_assoc, inl, inr, arith}
use Rattle.std.specs.Prelude.{codes, flat_map}
use Rattle.plan_reading.proofs.Sorted.{IsBehind}

-- what stands behind a whole list
abbrev pub IsShut : List ℕ → Type 0
IsShut [] = Unit {0}
IsShut (b ∷ rest) = b ≡ 41

-- each element has the fact
abbrev pub Each : (ℕ → Type 0) → List ℕ → Type 0
Each Fact [] = Unit {0}
Each Fact (x ∷ xs) = Fact x × Each Fact xs

end_of_shut : (r : List ℕ) → IsShut r → IsBehind r
end_of_shut [] shut = tt
end_of_shut (b ∷ r) shut = inl shut

module _ (text : ℕ → List ℕ) (Fact : ℕ → Type 0)
    (one : (x y : ℕ) (r s : List ℕ) → Fact x → Fact y → IsBehind r → IsBehind s → text x ++ r ≡ text y ++ s → (x ≡ y) × (r ≡ s))
    (some : (x : ℕ) (r s : List ℕ) → Fact x → IsShut r → r ≡ text x ++ s → ⊥) where
  abbrev others : List ℕ → List ℕ
  others xs = flat_map (λ x. codes ", " ++ text x) xs

  abbrev joined : List ℕ → List ℕ
  joined [] = []
  joined (x ∷ xs) = text x ++ others xs

  end_of_others : (xs r : List ℕ) → IsShut r → IsBehind (others xs ++ r)
  end_of_others [] r shut = end_of_shut r shut
  end_of_others (x ∷ xs) r shut = inr refl

  no_comma : (r rest : List ℕ) → IsShut r → r ≡ 44 ∷ rest → ⊥
  no_comma [] rest shut is = absurd cc
  no_comma (b ∷ r) rest shut is = let first : b ≡ 44 = cc in omega (arith, shut, first)

  -- one more, and what is behind it
  next : (x : ℕ) (xs r : List ℕ) → others (x ∷ xs) ++ r ≡ 44 ∷ 32 ∷ (text x ++ (others xs ++ r))
  next x xs r = append_assoc (codes ", " ++ text x) (others xs) r ∙ append_assoc (codes ", ") (text x) (others xs ++ r)

  others_one : (xs ys r s : List ℕ) → Each Fact xs → Each Fact ys → IsShut r → IsShut s → others xs ++ r ≡ others ys ++ s
      → (xs ≡ ys) × (r ≡ s)
  others_one [] [] r s in_xs in_ys r_shut s_shut same = (refl, same)
  others_one [] (y ∷ ys) r s in_xs in_ys r_shut s_shut same =
      absurd (no_comma r (32 ∷ (text y ++ (others ys ++ s))) r_shut (same ∙ next y ys s))
  others_one (x ∷ xs) [] r s in_xs in_ys r_shut s_shut same =
      absurd (no_comma s (32 ∷ (text x ++ (others xs ++ r))) s_shut (sym same ∙ next x xs r))
  others_one (x ∷ xs) (y ∷ ys) r s in_xs in_ys r_shut s_shut same =
      let turned = sym (next x xs r) ∙ same ∙ next y ys s in
      let behind : text x ++ (others xs ++ r) ≡ text y ++ (others ys ++ s) = cc in
      let here = one x y (others xs ++ r) (others ys ++ s) in_xs.0 in_ys.0 (end_of_others xs r r_shut)
      (end_of_others ys s s_shut) behind in
      let later = others_one xs ys r s in_xs.1 in_ys.1 r_shut s_shut here.1 in
      (let first = here.0 in let rest = later.0 in cc, later.1)

  pub joined_one : (xs ys r s : List ℕ) → Each Fact xs → Each Fact ys → IsShut r → IsShut s → joined xs ++ r ≡ joined ys ++ s
      → (xs ≡ ys) × (r ≡ s)
  joined_one [] [] r s in_xs in_ys r_shut s_shut same = (refl, same)
  joined_one [] (y ∷ ys) r s in_xs in_ys r_shut s_shut same =
      absurd (some y r (others ys ++ s) in_ys.0 r_shut (same ∙ append_assoc (text y) (others ys) s))
  joined_one (x ∷ xs) [] r s in_xs in_ys r_shut s_shut same =
      absurd (some x s (others xs ++ r) in_xs.0 s_shut (sym same ∙ append_assoc (text x) (others xs) r))
  joined_one (x ∷ xs) (y ∷ ys) r s in_xs in_ys r_shut s_shut same =
      let turned : text x ++ (others xs ++ r) ≡ text y ++ (others ys ++ s) =
      sym (append_assoc (text x) (others xs) r) ∙ same ∙ append_assoc (text y) (others ys) s in
      let here = one x y (others xs ++ r) (others ys ++ s) in_xs.0 in_ys.0 (end_of_others xs r r_shut)
      (end_of_others ys s s_shut) turned in
      let later = others_one xs ys r s in_xs.1 in_ys.1 r_shut s_shut here.1 in
      (let first = here.0 in let rest = later.0 in cc, later.1)
