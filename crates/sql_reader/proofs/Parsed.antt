-- What the parser's answer says of the faults of tokens.
use Rattle.std.proofs.Common.{◌≡◌, ℕ, ◌≤◌, ◌<◌, List, [], ◌∷◌, ◌++◌, length, Ok, Err, ◌⊎◌, inl, inr, refl, sym, ap}
use Rattle.std.proofs.Common.{subst, ◌∙◌, append_assoc, arith}
use Rattle.std.proofs.lemmas.List.{append-nil}
use Rattle.sql_reader.specs.declared.tokens.Token.{Token}
use Rattle.sql_reader.specs.declared.faults.Limit.{Limit}
use Rattle.sql_reader.specs.declared.faults.SqlFault.{SqlFault}
use Rattle.sql_reader.specs.declared.faults.SqlFault.TheVariants as faults
use Rattle.sql_reader.specs.declared.syntax.Select.{Select}
use Rattle.sql_reader.specs.Query.{IsQuery}
use Rattle.sql_reader.specs.Steps.{Step, unexpected, too_many}
use Rattle.sql_reader.specs.Reading.{query_at}
use Rattle.sql_reader.specs.Faults.{Exceeds, CanGoOn, IsAtLimit, IsUnexpected, IsUnfinished, IsSurplus, IsBefore}
use Rattle.sql_reader.proofs.Exact.{GoesOn, Refuses, Again}
use Rattle.sql_reader.proofs.WholeQuery.{OverAny, over_exceeds, exceeds_over, query_exact}
use Rattle.sql_reader.proofs.Prefixes.{Compared, same, shorter, longer, compared, before_last, Rising, below_high}
use Rattle.sql_reader.proofs.Prefixes.{before_later}

-- a front and one token more, before others: a query can begin so where one begins with all of them
pub goes_through : (all front : List Token) (t : Token) (mid more : List Token) (s : Select) → all ≡ front ++ t ∷ mid
    → IsQuery (all ++ more) s → CanGoOn (front ++ t ∷ [])
goes_through all front t mid more s e q =
    let k : all ++ more ≡ (front ++ t ∷ []) ++ (mid ++ more) = rw e (simp append_assoc) in
    (mid ++ more, s, rw k at q)

-- a query within the limits that begins with the front shows that it isn't full
not_full : (front rest : List Token) (s : Select) (w : Limit) → IsQuery (front ++ rest) s
    → ((v : Limit) → OverAny v s → ⊥) → IsAtLimit w front → ⊥
not_full front rest s w q within full = within w (exceeds_over w s (full rest s q))

-- and so does one that begins with more
still_goes : (all front m : List Token) (w : Limit) → all ≡ front ++ m → GoesOn IsQuery OverAny all → IsAtLimit w front
    → ⊥
still_goes all front m w e g full =
    let k : all ++ g.more ≡ front ++ (m ++ g.more) = rw e (append_assoc front m g.more) in
    not_full front (m ++ g.more) g.value w (rw k at g.member) g.within full

-- a front before the last token isn't full
early_not_full : (all last front : List Token) (t : Token) (mid : List Token) (w : Limit) → length last ≤ 1
    → all ++ last ≡ front ++ t ∷ mid → GoesOn IsQuery OverAny all → IsAtLimit w front → ⊥
early_not_full all [] front t mid w le e g full = still_goes all front (t ∷ mid) w (sym (append-nil all) ∙ e) g full
early_not_full all (l ∷ []) front t mid w le e g full = let m = before_last all l front t mid e in
    still_goes all front m.0 w m.1 g full
early_not_full all (l ∷ k ∷ last) front t mid w le e g full = absurd (omega (arith, le))

-- a query that begins so is read, or exceeds a limit
pub query_again : (tokens : List Token) (s : Select) → IsQuery tokens s → Again OverAny s [] (query_at tokens)
query_again tokens s q = subst (λ (ts : List Token). Again OverAny s [] (query_at ts)) (append-nil tokens)
    (query_exact.again tokens s [] q tt)

-- where the reader stops for an unexpected token there is no query
pub no_query : (tokens rest : List Token) (s : Select) → query_at tokens ≡ Err (unexpected rest) → IsQuery tokens s → ⊥
no_query tokens rest s e q = let a = rw e at (query_again tokens s q) in a

-- nor where it leaves tokens
pub no_longer : (tokens rest : List Token) (t : Token) (x s : Select) → query_at tokens ≡ Ok (x, t ∷ rest)
    → IsQuery tokens s → ⊥
no_longer tokens rest t x s e q = let a = rw e at (query_again tokens s q) in absurd (let k : t ∷ rest ≡ [] = a.1 in cc)

refused_over : (w : Limit) (s : Select) (r : Step Select) → Refuses w r → Again OverAny s [] r → OverAny w s
refused_over w s (Ok p) f a = absurd f
refused_over w s (Err (unexpected rest)) f a = absurd a
refused_over w s (Err (too_many v rest)) f a = subst (λ (u : Limit). OverAny u s) f a

-- behind the last token all queries exceed the limit
pub full_behind : (front : List Token) (w : Limit) → ((after : List Token) → Refuses w (query_at (front ++ after)))
    → IsAtLimit w front
full_behind front w full more s q =
    over_exceeds w s (refused_over w s (query_at (front ++ more)) (full more) (query_again (front ++ more) s q))

-- ---- a query

pub record Reads (tokens : List Token) (s : Select) : Type 0 where
  pub query : IsQuery tokens s
  pub within : (w : Limit) → Exceeds w s → ⊥

pub reads_no_unexpected : (tokens : List Token) (s : Select) (at : ℕ) → Reads tokens s → IsUnexpected tokens at → ⊥
reads_no_unexpected tokens s at r u =
    let f = u.2 in
    u.3 (goes_through tokens u.0 u.1 f.0 [] s f.1
    (subst (λ (ts : List Token). IsQuery ts s) (sym (append-nil tokens)) r.query))

pub reads_no_surplus : (w : Limit) (tokens : List Token) (s : Select) (at : ℕ) → Reads tokens s
    → IsSurplus w tokens at → ⊥
reads_no_surplus w tokens s at r u =
    let f = u.2 in
    r.within w (u.3 (u.1 ∷ f.0) s (rw f.1 at r.query))

-- ---- where the parser stopped

-- the faults of tokens, of a text of this length with the rest behind them
abbrev pub IsTokenFault : List Token → List ℕ → ℕ → SqlFault → Type 0
IsTokenFault tokens rest len faults.TooLong = ⊥
IsTokenFault tokens rest len (faults.NotAscii at) = ⊥
IsTokenFault tokens rest len (faults.Token at) = ⊥
IsTokenFault tokens rest len (faults.Grammar at) =
    IsUnexpected tokens at ⊎ ((rest ≡ []) × (at ≡ len) × IsUnfinished tokens)
IsTokenFault tokens rest len (faults.TooMany what at) = IsSurplus what tokens at
IsTokenFault tokens rest len faults.Memory = ⊥

abbrev pub First : SqlFault → SqlFault → Type 0
First f g = (f ≡ g) ⊎ IsBefore f g

same_grammar : (a b : ℕ) → a ≡ b → First (faults.Grammar a) (faults.Grammar b)
same_grammar a b e = inl (ap faults.Grammar e)

module _ (tokens : List Token) (rest : List ℕ) (len high : ℕ) (rising : Rising 0 tokens high) (below : high ≤ len) where
  -- an unexpected token behind a front with which queries can begin
  module _ (all last : List Token) (short : length last ≤ 1) (goes : GoesOn IsQuery OverAny all) (more : List Token)
      (x : Select) (member : IsQuery ((all ++ last) ++ more) x)
      (t : Token) (others : List Token) (whole : tokens ≡ (all ++ last) ++ t ∷ others) where
    t_below : t.at < len
    t_below = let k = below_high (all ++ last) t others high (rw whole at rising) in omega (arith, k, below)

    -- what stands behind the front in front of the token
    unexpected_first : (at : ℕ) → IsUnexpected tokens at → First (faults.Grammar t.at) (faults.Grammar at)
    unexpected_first at u =
        let f = u.2 in
        by (compared u.0 (all ++ last) u.1 t f.0 others (sym f.1 ∙ whole))
      where
        by : Compared u.0 (all ++ last) u.1 t → First (faults.Grammar t.at) (faults.Grammar at)
        by (same e k) = same_grammar t.at at (ap (λ (v : Token). v.at) (sym k) ∙ u.2.2)
        by (shorter mid e) = absurd (u.3 (goes_through (all ++ last) u.0 u.1 mid more x e member))
        by (longer mid e) =
            let k = before_later (all ++ last) t mid u.1 u.2.0 high (rw (← e, ← u.2.1) rising) in
            inr (inl (omega (arith, k, u.2.2)))

    surplus_after : (w : Limit) (at : ℕ) → IsSurplus w tokens at → First (faults.Grammar t.at) (faults.TooMany w at)
    surplus_after w at u =
        let f = u.2 in
        by (compared u.0 (all ++ last) u.1 t f.0 others (sym f.1 ∙ whole))
      where
        by : Compared u.0 (all ++ last) u.1 t → First (faults.Grammar t.at) (faults.TooMany w at)
        by (same e k) = inr (inr (ap (λ (v : Token). v.at) (sym k) ∙ u.2.2, omega arith))
        by (shorter mid e) = absurd (early_not_full all last u.0 u.1 mid w short e goes u.3)
        by (longer mid e) =
            let k = before_later (all ++ last) t mid u.1 u.2.0 high (rw (← e, ← u.2.1) rising) in
            inr (inl (omega (arith, k, u.2.2)))

    pub unexpected_is_first : (g : SqlFault) → IsTokenFault tokens rest len g → First (faults.Grammar t.at) g
    unexpected_is_first faults.TooLong h = absurd h
    unexpected_is_first (faults.NotAscii at) h = absurd h
    unexpected_is_first (faults.Token at) h = absurd h
    unexpected_is_first (faults.Grammar at) (inl u) = unexpected_first at u
    unexpected_is_first (faults.Grammar at) (inr e) = inr (inl (omega (arith, t_below, e.1)))
    unexpected_is_first (faults.TooMany w at) u = surplus_after w at u
    unexpected_is_first faults.Memory h = absurd h

  -- the end behind a front with which queries can begin
  module _ (all last : List Token) (short : length last ≤ 1) (goes : GoesOn IsQuery OverAny all) (more : List Token)
      (x : Select) (member : IsQuery ((all ++ last) ++ more) x)
      (whole : tokens ≡ all ++ last) where
    pub no_other : (g : SqlFault) → IsTokenFault tokens rest len g → (rest ≡ []) × (g ≡ faults.Grammar len)
    no_other faults.TooLong h = absurd h
    no_other (faults.NotAscii at) h = absurd h
    no_other (faults.Token at) h = absurd h
    no_other (faults.Grammar at) (inl u) =
        absurd (u.3 (goes_through (all ++ last) u.0 u.1 u.2.0 more x (sym whole ∙ u.2.1) member))
    no_other (faults.Grammar at) (inr e) = (e.0, ap faults.Grammar e.1)
    no_other (faults.TooMany w at) u =
        absurd (early_not_full all last u.0 u.1 u.2.0 w short (sym whole ∙ u.2.1) goes u.3)
    no_other faults.Memory h = absurd h

  -- an element too many behind a full front
  module _ (w : Limit) (all : List Token) (l : Token) (goes : GoesOn IsQuery OverAny all) (t : Token)
      (others more : List Token) (x : Select) (member : IsQuery (all ++ l ∷ t ∷ more) x)
      (alone : (v : Limit) → OverAny v x → v ≡ w) (whole : tokens ≡ all ++ l ∷ t ∷ others) where
    front : List Token
    front = all ++ l ∷ []

    regrouped : (ts : List Token) → all ++ l ∷ t ∷ ts ≡ (all ++ l ∷ []) ++ t ∷ ts
    regrouped ts = sym (append_assoc all (l ∷ []) (t ∷ ts))

    past : List Token
    past = (all ++ l ∷ []) ++ t ∷ []

    member_past : IsQuery (((all ++ l ∷ []) ++ t ∷ []) ++ more) x
    member_past = let e : all ++ l ∷ t ∷ more ≡ ((all ++ l ∷ []) ++ t ∷ []) ++ more = simp append_assoc in
        rw e at member

    whole_past : tokens ≡ (all ++ l ∷ []) ++ t ∷ others
    whole_past = whole ∙ regrouped others

    t_under : t.at < len
    t_under = let k = below_high (all ++ l ∷ []) t others high (rw whole_past at rising) in omega (arith, k, below)

    unexpected_after : (at : ℕ) → IsUnexpected tokens at → First (faults.TooMany w t.at) (faults.Grammar at)
    unexpected_after at u = by (compared u.0 (all ++ l ∷ []) u.1 t u.2.0 others (sym u.2.1 ∙ whole_past))
      where
        by : Compared u.0 (all ++ l ∷ []) u.1 t → First (faults.TooMany w t.at) (faults.Grammar at)
        by (same e k) = absurd (u.3 (goes_through ((all ++ l ∷ []) ++ t ∷ []) u.0 u.1 [] more x (rw (e, k) refl)
            member_past))
        by (shorter mid e) =
            let longer_mid : (all ++ l ∷ []) ++ t ∷ [] ≡ u.0 ++ u.1 ∷ (mid ++ t ∷ []) =
            ap (λ (ts : List Token). ts ++ t ∷ []) e ∙ append_assoc u.0 (u.1 ∷ mid) (t ∷ []) in
            absurd (u.3 (goes_through ((all ++ l ∷ []) ++ t ∷ []) u.0 u.1 (mid ++ t ∷ []) more x longer_mid
            member_past))
        by (longer mid e) =
            let k = before_later (all ++ l ∷ []) t mid u.1 u.2.0 high (rw (← e, ← u.2.1) rising) in
            inr (inl (omega (arith, k, u.2.2)))

    surplus_first : (v : Limit) (at : ℕ) → IsSurplus v tokens at → First (faults.TooMany w t.at) (faults.TooMany v at)
    surplus_first v at u = by (compared u.0 (all ++ l ∷ []) u.1 t u.2.0 others (sym u.2.1 ∙ whole_past))
      where
        by : Compared u.0 (all ++ l ∷ []) u.1 t → First (faults.TooMany w t.at) (faults.TooMany v at)
        by (same e k) =
            let begins : all ++ l ∷ t ∷ more ≡ u.0 ++ t ∷ more =
            regrouped more ∙ ap (λ (ts : List Token). ts ++ t ∷ more) (sym e) in
            let o = alone v (exceeds_over v x (u.3 (t ∷ more) x (rw begins at member))) in
            let here : t.at ≡ at = ap (λ (y : Token). y.at) (sym k) ∙ u.2.2 in
            inl (ap (λ (z : Limit). faults.TooMany z t.at) (sym o) ∙ ap (λ (n : ℕ). faults.TooMany v n) here)
        by (shorter mid e) = absurd (early_not_full all (l ∷ []) u.0 u.1 mid v (omega arith) e goes u.3)
        by (longer mid e) =
            let k = before_later (all ++ l ∷ []) t mid u.1 u.2.0 high (rw (← e, ← u.2.1) rising) in
            inr (inl (omega (arith, k, u.2.2)))

    pub too_many_is_first : (g : SqlFault) → IsTokenFault tokens rest len g → First (faults.TooMany w t.at) g
    too_many_is_first faults.TooLong h = absurd h
    too_many_is_first (faults.NotAscii at) h = absurd h
    too_many_is_first (faults.Token at) h = absurd h
    too_many_is_first (faults.Grammar at) (inl u) = unexpected_after at u
    too_many_is_first (faults.Grammar at) (inr e) = inr (inl (omega (arith, t_under, e.1)))
    too_many_is_first (faults.TooMany v at) u = surplus_first v at u
    too_many_is_first faults.Memory h = absurd h
