-- What two seats have looked at, of which one is to take in the other.
use Rattle.std.proofs.Common.{ne_eqb, ◌≡◌, ℕ, ◌⊎◌, Bool, true, false, ◌&&◌, ◌||◌, ◌==◌, ◌%◌, cond}
use Rattle.std.proofs.Common.{List, [], ◌∷◌, ◌++◌, sym, refl, ap, ◌∙◌, inl, inr, ⊎_elim, arith}
use Rattle.board_rule.specs.Meaning.{Meaning}
use Rattle.board_rule.specs.Words.{full_word, cell_word}
use Rattle.board_rule.specs.Looks.{Looked, RemembersAbsence}
use Rattle.board_rule.specs.Seats.{lasts, lasting}

-- what was looked at by two seats
pub looked_append : (ls ms : List (ℕ × ℕ)) (word found : ℕ) → Looked (ls ++ ms) word found → Looked ls word found
    ⊎ Looked ms word found
looked_append [] ms word found at = inr at
looked_append (l ∷ ls) ms word found at =
    ⊎_elim (λ (t : (l.0 ≡ word) × (l.1 ≡ found)). inl (inl t))
    (λ (t : Looked (ls ++ ms) word found). ⊎_elim (λ u. inl (inr u)) (λ u. inr u) (looked_append ls ms word found t)) at

pub lasting_looked : (ls : List (ℕ × ℕ)) (word found : ℕ) → Looked (lasting ls) word found → Looked ls word found
lasting_looked [] word found at = at
lasting_looked (l ∷ ls) word found at = by (lasts l) (lasting_looked ls word found) at
  where
    by : (b : Bool) → (Looked (lasting ls) word found → Looked ls word found)
        → Looked (cond b (l ∷ lasting ls) (lasting ls)) word found → Looked (l ∷ ls) word found
    by true more h = ⊎_elim (λ (t : (l.0 ≡ word) × (l.1 ≡ found)). inl t)
        (λ (t : Looked (lasting ls) word found). inr (more t)) h
    by false more h = inr (more h)

-- a look at an empty cell tells of the past alone
lasts_not : (look : ℕ × ℕ) (p : ℕ) → cell_word p ≡ look.0 → look.1 ≡ 0 → lasts look ≡ false
lasts_not look p is e =
    let other : (look.0 % 14 == 3) ≡ false = ne_eqb (look.0 % 14) 3 (λ three. omega arith) in
    ap (λ (x : ℕ). lasts (look.0, x)) e ∙ none_of (look.0 == full_word) (look.0 % 14 == 1) (look.0 % 14 == 3) other
  where
    none_of : (a b c : Bool) → c ≡ false → ((a && false) || ((b && false) || c)) ≡ false
    none_of true true c h = h
    none_of true false c h = h
    none_of false true c h = h
    none_of false false c h = h

pub absence_append : (meaning : Meaning) (capacity : ℕ) (ls ms : List (ℕ × ℕ)) → RemembersAbsence meaning capacity ms
    → RemembersAbsence meaning capacity (lasting ls ++ ms)
absence_append meaning capacity [] ms h = h
absence_append meaning capacity (l ∷ ls) ms h = by (lasts l) refl (absence_append meaning capacity ls ms h)
  where
    by : (b : Bool) → lasts l ≡ b → RemembersAbsence meaning capacity (lasting ls ++ ms)
        → RemembersAbsence meaning capacity (cond b (l ∷ lasting ls) (lasting ls) ++ ms)
    by true is more = (
      (λ e word p near at shows saw. let no : true ≡ false = sym is ∙ lasts_not l p at e in
          let bad : ⊥ = cc in bad),
      more,
    )
    by false is more = more

-- a look of the second seat is one of both
pub looked_right : (ls ms : List (ℕ × ℕ)) (word found : ℕ) → Looked ms word found → Looked (ls ++ ms) word found
looked_right [] ms word found at = at
looked_right (l ∷ ls) ms word found at = inr (looked_right ls ms word found at)
