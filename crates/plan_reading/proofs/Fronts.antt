-- The longest front of bytes that pass a test.
use Rattle.std.proofs.Common.{◌≡◌, ℕ, suc, ◌+◌, Bool, true, false, cond, List, [], ◌∷◌, ◌++◌, length, take, drop, refl}
use Rattle.std.proofs.Common.{sym, arith}
use Rattle.std.specs.List.{prefix_len, list_all}
use Rattle.std.proofs.lemmas.List.{take_at, drop_at}
use Rattle.std.proofs.lemmas.Bool.{and_parts}

-- the text is empty, or its first byte fails
abbrev pub EndsFront : (ℕ → Bool) → List ℕ → Type 0
EndsFront test [] = Unit {0}
EndsFront test (byte ∷ rest) = test byte ≡ false

one_more : (n : ℕ) → 1 + n ≡ suc n
one_more n = omega arith

passes_by : (test : ℕ → Bool) (b : ℕ) (bytes : List ℕ) (n : ℕ) (c : Bool) → test b ≡ c
    → list_all test (take n bytes) ≡ true → list_all test (take (cond c (1 + n) 0) (b ∷ bytes)) ≡ true
passes_by test b bytes n true e h = rw (one_more n, e) h
passes_by test b bytes n false e h = refl

-- all of the front pass
pub front_passes : (test : ℕ → Bool) (bytes : List ℕ) → list_all test (take (prefix_len test bytes) bytes) ≡ true
front_passes test [] = refl
front_passes test (b ∷ bytes) = passes_by test b bytes (prefix_len test bytes) (test b) refl (front_passes test bytes)

ends_by : (test : ℕ → Bool) (b : ℕ) (bytes : List ℕ) (n : ℕ) (c : Bool) → test b ≡ c → EndsFront test (drop n bytes)
    → EndsFront test (drop (cond c (1 + n) 0) (b ∷ bytes))
ends_by test b bytes n true e h = rw (one_more n) h
ends_by test b bytes n false e h = e

-- and the next doesn't
pub front_ends : (test : ℕ → Bool) (bytes : List ℕ) → EndsFront test (drop (prefix_len test bytes) bytes)
front_ends test [] = tt
front_ends test (b ∷ bytes) = ends_by test b bytes (prefix_len test bytes) (test b) refl (front_ends test bytes)

-- a front that passes, before what doesn't, is the longest
longest : (test : ℕ → Bool) (front rest : List ℕ) → list_all test front ≡ true → EndsFront test rest
    → prefix_len test (front ++ rest) ≡ length front
longest test [] [] h e = refl
longest test [] (b ∷ rest) h e = rw e refl
longest test (b ∷ front) rest h e =
    let p = and_parts (test b) (list_all test front) h in
    let k = longest test front rest p.1 e in
    rw p.0 (omega (arith, k))

-- so it is what is taken
pub taken_again : (test : ℕ → Bool) (front rest : List ℕ) → list_all test front ≡ true → EndsFront test rest
    → take (prefix_len test (front ++ rest)) (front ++ rest) ≡ front
taken_again test front rest h e =
    take_at front rest (prefix_len test (front ++ rest)) (sym (longest test front rest h e))

-- and what is behind it is what is left
pub left_again : (test : ℕ → Bool) (front rest : List ℕ) → list_all test front ≡ true → EndsFront test rest
    → drop (prefix_len test (front ++ rest)) (front ++ rest) ≡ rest
left_again test front rest h e =
    drop_at front rest (prefix_len test (front ++ rest)) (sym (longest test front rest h e))
