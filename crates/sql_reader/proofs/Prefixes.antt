-- Fronts of one list of tokens, compared.
use Rattle.std.proofs.Common.{◌≡◌, ℕ, ◌+◌, ◌≤◌, ◌<◌, List, [], ◌∷◌, ◌++◌, refl, sym, ap, subst, append_assoc, arith}
use Rattle.sql_reader.specs.declared.tokens.Token.{Token}

-- of two fronts, each with a token behind it: they are the same, or one goes on from the other
pub data Compared (a b : List Token) (t u : Token) : Type 0 where
  same : a ≡ b → t ≡ u → Compared a b t u
  shorter : (mid : List Token) → b ≡ a ++ t ∷ mid → Compared a b t u
  longer : (mid : List Token) → a ≡ b ++ u ∷ mid → Compared a b t u

more_behind : (x : Token) (a b : List Token) (t u : Token) → Compared a b t u → Compared (x ∷ a) (x ∷ b) t u
more_behind x a b t u (same e f) = same (ap (λ (ts : List Token). x ∷ ts) e) f
more_behind x a b t u (shorter mid e) = shorter mid (ap (λ (ts : List Token). x ∷ ts) e)
more_behind x a b t u (longer mid e) = longer mid (ap (λ (ts : List Token). x ∷ ts) e)

pub compared : (a b : List Token) (t u : Token) (ts us : List Token) → a ++ t ∷ ts ≡ b ++ u ∷ us → Compared a b t u
compared [] [] t u ts us e = same refl cc
compared [] (y ∷ b) t u ts us e = shorter b (let k : t ≡ y = cc in ap (λ (z : Token). z ∷ b) (sym k))
compared (x ∷ a) [] t u ts us e = longer a (let k : x ≡ u = cc in ap (λ (z : Token). z ∷ a) k)
compared (x ∷ a) (y ∷ b) t u ts us e =
    let k : x ≡ y = cc in
    let rest : a ++ t ∷ ts ≡ b ++ u ∷ us = cc in
    subst (λ (z : Token). Compared (x ∷ a) (z ∷ b) t u) k (more_behind x a b t u (compared a b t u ts us rest))

-- without its last token a list goes on from every shorter front
pub before_last : (f : List Token) (l : Token) (a : List Token) (t : Token) (mid : List Token)
    → f ++ l ∷ [] ≡ a ++ t ∷ mid → (m : List Token) × (f ≡ a ++ m)
before_last f l [] t mid e = (f, refl)
before_last [] l (x ∷ []) t mid e = absurd cc
before_last [] l (x ∷ y ∷ a) t mid e = absurd cc
before_last (y ∷ f) l (x ∷ a) t mid e =
    let k : y ≡ x = cc in
    let rest : f ++ l ∷ [] ≡ a ++ t ∷ mid = cc in
    let m = before_last f l a t mid rest in
    (m.0, cc)

-- ---- places rise

-- from the low place on each token stands behind the one before it, all below the high place
abbrev pub Rising : ℕ → List Token → ℕ → Type 0
Rising low [] high = low ≤ high
Rising low (t ∷ tokens) high = (low ≤ t.at) × Rising (t.at + 1) tokens high

pub rises_from : (a b : ℕ) (tokens : List Token) (high : ℕ) → a ≤ b → Rising b tokens high → Rising a tokens high
rises_from a b [] high le h = omega arith
rises_from a b (t ∷ tokens) high le h = (omega (arith, h.0), h.1)

pub rises_to : (low : ℕ) (tokens : List Token) (high : ℕ) → Rising low tokens high → low ≤ high
rises_to low [] high h = h
rises_to low (t ∷ tokens) high h = let k = rises_to (t.at + 1) tokens high h.1 in omega (arith, h.0, k)

pub rises_behind : (low : ℕ) (front : List Token) (t : Token) (others : List Token) (high : ℕ)
    → Rising low (front ++ t ∷ others) high → (low ≤ t.at) × Rising (t.at + 1) others high
rises_behind low [] t others high h = h
rises_behind low (x ∷ front) t others high h =
    let k = rises_behind (x.at + 1) front t others high h.1 in
    (omega (arith, h.0, k.0), k.1)

-- a token stands below the high place
pub below_high : (front : List Token) (t : Token) (others : List Token) (high : ℕ)
    → Rising 0 (front ++ t ∷ others) high → t.at < high
below_high front t others high h = let k = rises_to (t.at + 1) others high (rises_behind 0 front t others high h).1 in
    omega (arith, k)

-- and before those behind it
pub before_later : (front : List Token) (t : Token) (mid : List Token) (u : Token) (others : List Token) (high : ℕ)
    → Rising 0 ((front ++ t ∷ mid) ++ u ∷ others) high → t.at < u.at
before_later front t mid u others high h =
    let e : (front ++ t ∷ mid) ++ u ∷ others ≡ front ++ t ∷ (mid ++ u ∷ others) =
    append_assoc front (t ∷ mid) (u ∷ others) in
    let k = rises_behind 0 front t (mid ++ u ∷ others) high (rw e at h) in
    let l = rises_behind (t.at + 1) mid u others high k.1 in
    omega (arith, l.0)
