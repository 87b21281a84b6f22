-- What lies between two bounds is a part of ascending words.
use Rattle.std.proofs.Common.{◌≡◌, ℕ, ◌+◌, ◌-◌, ◌<◌, ◌≤◌, List, length, take, drop, get_or, min, ap, sym, subst, ◌∙◌}
use Rattle.std.proofs.Common.{arith, inl, inr, length-take, length-drop}
use Rattle.std.specs.Prelude.{slice_index}
use Rattle.std.specs.List.{Contains}
use Rattle.std.specs.List.Sorted.{IsStrictlyIncreasing}
use Rattle.std.proofs.lemmas.Bool.{cases_lt}
use Rattle.std.proofs.lemmas.List.{get_or-take, get_or-drop, get_or_default, take_all}

-- a word that isn't below the one bound, and is below the other, is in the part between them
pub in_part : (words : List ℕ) (start n low high w : ℕ) → ((k : ℕ) → k < start → slice_index words k < low)
    → ((k : ℕ) → n ≤ k → k < length (take (length words - start) (drop start words))
    → high ≤ slice_index (take (length words - start) (drop start words)) k)
    → low ≤ w → w < high → Contains words w → Contains (take n (take (length words - start) (drop start words))) w
in_part words start n low high w before after above below (k, within, is) =
    let rest : take (length words - start) (drop start words) ≡ drop start words =
    take_all _ _ (omega (arith, length-drop start words)) in
    let value : get_or words k 0 ≡ w = get_or_default words k 0 w within ∙ is in
    let from : start ≤ k = elim (cases_lt k start) [
      | inl less ↦ absurd (omega (arith, before k less, value, above))
      | inr more ↦ more
    ] in
    let length_rest : length (drop start words) ≡ length words - start = length-drop start words in
    let moved : get_or (drop start words) (k - start) 0 ≡ w = get_or-drop start words (k - start) 0
    ∙ ap (λ i. get_or words i 0) (omega (arith, from)) ∙ value in
    let to : k - start < n = elim (cases_lt (k - start) n) [
      | inl less ↦ less
      | inr more ↦
          let late : high ≤ get_or (drop start words) (k - start) 0 =
          subst (λ xs. k - start < length xs → high ≤ get_or xs (k - start) 0) rest (after (k - start) more)
          (omega (arith, length_rest, within, from)) in
          absurd (omega (arith, late, moved, below))
    ] in
    subst (λ xs. Contains (take n xs) w) (sym rest) (
      k - start,
      omega (arith, length-take n (drop start words), length_rest, to, within, from),
      get_or_default (take n (drop start words)) (k - start) w 0
          (omega (arith, length-take n (drop start words), length_rest, to, within, from))
          ∙ get_or-take n (drop start words) (k - start) 0 to ∙ moved,
    )

-- and what is in the part is such a word
pub part_between : (words : List ℕ) (start n low high w : ℕ)
    → ((k : ℕ) → start ≤ k → k < length words → low ≤ slice_index words k)
    → ((k : ℕ) → k < n → slice_index (take (length words - start) (drop start words)) k < high)
    → Contains (take n (take (length words - start) (drop start words))) w → (low ≤ w) × (w < high)
part_between words start n low high w after before (k, within, is) =
    let rest : take (length words - start) (drop start words) ≡ drop start words =
    take_all _ _ (omega (arith, length-drop start words)) in
    let length_rest : length (drop start words) ≡ length words - start = length-drop start words in
    let count : length (take n (take (length words - start) (drop start words))) ≡ min n (length (drop start words)) =
    length-take n (take (length words - start) (drop start words)) ∙ ap (λ xs. min n (length xs)) rest in
    let value : get_or (take (length words - start) (drop start words)) k 0 ≡ w =
    sym (get_or-take n (take (length words - start) (drop start words)) k 0 (omega (arith, count, within)))
    ∙ get_or_default (take n (take (length words - start) (drop start words))) k 0 w within ∙ is in
    let moved : get_or words (start + k) 0 ≡ w = sym (get_or-drop start words k 0) ∙ sym (ap (λ xs. get_or xs k 0) rest)
    ∙ value in (
      omega (arith, after (start + k) (omega arith) (omega (arith, count, length_rest, within)), moved),
      omega (arith, before k (omega (arith, count, within)), value),
    )

-- ---- what a part keeps of the words

-- the first words ascend as all do
pub take_rises : (words : List ℕ) (n : ℕ) → IsStrictlyIncreasing words → IsStrictlyIncreasing (take n words)
take_rises words n rises k within =
    let fits : k + 1 < min n (length words) = omega (arith, length-take n words, within) in
    omega (
      arith,
      get_or-take n words k 0 (omega (arith, fits)),
      get_or-take n words (k + 1) 0 (omega (arith, fits)),
      rises k (omega (arith, fits)),
    )

-- and so do those from a place on
pub drop_rises : (words : List ℕ) (n : ℕ) → IsStrictlyIncreasing words → IsStrictlyIncreasing (drop n words)
drop_rises words n rises k within =
    let same : get_or words (n + (k + 1)) 0 ≡ get_or words (n + k + 1) 0 = ap (λ i. get_or words i 0) (omega arith) in
    omega (
      arith,
      get_or-drop n words k 0,
      get_or-drop n words (k + 1) 0,
      same,
      rises (n + k) (omega (arith, length-drop n words, within)),
    )

-- one of the first words is one of them all
pub take_has : (words : List ℕ) (n word : ℕ) → Contains (take n words) word → Contains words word
take_has words n word (k, within, is) =
    let fits : k < min n (length words) = omega (arith, length-take n words, within) in
    (k, omega (arith, fits), sym (get_or-take n words k word (omega (arith, fits))) ∙ is)

-- and so is one from a place on
pub drop_has : (words : List ℕ) (n word : ℕ) → Contains (drop n words) word → Contains words word
drop_has words n word (k, within, is) =
    (n + k, omega (arith, length-drop n words, within), sym (get_or-drop n words k word) ∙ is)
