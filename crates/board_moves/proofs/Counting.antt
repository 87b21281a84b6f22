-- Two falling lists of words, of which one has the words of the other.
use Rattle.std.proofs.Common.{◌≡◌, ◌≢◌, ℕ, ◌<◌, ◌≤◌, List, [], ◌∷◌, length, refl, subst, inl, inr, ⊎_elim, arith}
use Rattle.board_rule.specs.Seats.{Among}
use Rattle.board_rule.proofs.Lists.{each_at}
use Rattle.board_moves.specs.Collects.{Falls}

-- the words of the list are among those of the other
abbrev pub Within : List ℕ → List ℕ → Type 0
Within words others = (word : ℕ) → Among words word → Among others word

-- the rest of a falling list doesn't have its first word
above_rest : (word : ℕ) (words : List ℕ) → Falls (word ∷ words) → (other : ℕ) → Among words other → other < word
above_rest word words falls other at = each_at (λ (x : ℕ). x < word) words other falls.0 at

-- a falling list of numbers above 0 is no longer than its first number
pub falls_short : (word : ℕ) (words : List ℕ) → Falls (word ∷ words)
    → ((other : ℕ) → Among (word ∷ words) other → other ≢ 0) → length (word ∷ words) ≤ word
falls_short word [] falls some = let is_some : word ≢ 0 = some word (inl refl) in omega arith
falls_short word (next ∷ words) falls some = let short : length (next ∷ words) ≤ next =
    falls_short next words falls.1 (λ other at. some other (inr at)) in let less : next < word = falls.0.0 in
    omega arith

-- where a falling list has a word, it is the first or among the rest; below the first, among the rest
among_below : (word : ℕ) (words : List ℕ) → (other : ℕ) → other < word → Among (word ∷ words) other → Among words other
among_below word words other less at = ⊎_elim (λ (e : word ≡ other). absurd (omega arith))
    (λ (t : Among words other). t) at

-- a falling list within another is no longer
pub not_longer : (words others : List ℕ) → Falls words → Falls others → Within words others
    → length words ≤ length others
not_longer [] others falls fall within = omega arith
not_longer (word ∷ words) [] falls fall within = absurd (within word (inl refl))
not_longer (word ∷ words) (other ∷ others) falls fall within =
    let first : Among (other ∷ others) word = within word (inl refl) in
    let at_most : word ≤ other = ⊎_elim (λ (e : other ≡ word). omega arith) (λ (t : Among others word). let less =
    above_rest other others fall word t in omega arith) first in
    let rest = not_longer words others falls.1 fall.1 (λ x at. let less = above_rest word words falls x at in
    among_below other others x (omega arith) (within x (inr at))) in
    omega arith

-- of two falling lists of one length, one within the other, each has the words of the other
pub same_words : (words others : List ℕ) → Falls words → Falls others → Within words others
    → length words ≡ length others → Within others words
same_words [] [] falls fall within same x at = at
same_words [] (other ∷ others) falls fall within same x at = absurd (omega arith)
same_words (word ∷ words) [] falls fall within same x at = absurd at
same_words (word ∷ words) (other ∷ others) falls fall within same x at =
    let first : Among (other ∷ others) word = within word (inl refl) in
    let at_most : word ≤ other = ⊎_elim (λ (e : other ≡ word). omega arith) (λ (t : Among others word). let less =
    above_rest other others fall word t in omega arith) first in
    let within_rest : Within words others = λ y among. let less = above_rest word words falls y among in
    among_below other others y (omega arith) (within y (inr among)) in
    let is_first : other ≡ word = ⊎_elim (λ (e : other ≡ word). e)
    (λ (t : Among others word). let longer =
    not_longer (word ∷ words) others falls fall.1
    (λ y among. ⊎_elim (λ (e : word ≡ y). subst (Among others) e t) (λ (rest : Among words y). within_rest y rest)
    among) in absurd (omega arith)) first in
    ⊎_elim (λ (e : other ≡ x). inl (let same_first : word ≡ x = omega arith in same_first))
    (λ (t : Among others x). inr (same_words words others falls.1 fall.1 within_rest (omega arith) x t)) at
