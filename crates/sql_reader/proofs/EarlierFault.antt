-- The earlier of two faults is the first of both kinds.
use Rattle.std.proofs.Common.{◌≡◌, ◌<◌, Bool, true, false, cond, ltb, Option, Some, None, ◌⊎◌, inl, inr, refl, sym}
use Rattle.std.proofs.Common.{subst, arith}
use Rattle.std.proofs.lemmas.Bool.{ltb-true, ltb-false}
use Rattle.sql_reader.specs.declared.faults.SqlFault.{SqlFault}
use Rattle.sql_reader.specs.Faults.{place, rank, IsBefore}
use Rattle.sql_reader.specs.Outcome.{sooner, earlier}
use Rattle.sql_reader.proofs.Parsed.{First}
use Rattle.sql_reader.proofs.BadBytes.{IsLeast}

-- ---- the earlier of two

not_before_first : (f g h : SqlFault) → (place f < place g) ⊎ ((place f ≡ place g) × (rank f < rank g)) → First g h
    → First f h
not_before_first f g h b (inl e) = inr (subst (λ (x : SqlFault). IsBefore f x) e b)
not_before_first f g h (inl b) (inr (inl c)) = inr (inl (omega (arith, b, c)))
not_before_first f g h (inl b) (inr (inr c)) = inr (inl (omega (arith, b, c.0)))
not_before_first f g h (inr b) (inr (inl c)) = inr (inl (omega (arith, b.0, c)))
not_before_first f g h (inr b) (inr (inr c)) = inr (inr (omega (arith, b.0, c.0), omega (arith, b.1, c.1)))

pub first_through : (f g h : SqlFault) → First f g → First g h → First f h
first_through f g h (inl e) k = subst (λ (x : SqlFault). First x h) (sym e) k
first_through f g h (inr b) k = not_before_first f g h b k

module _ (Has Also : SqlFault → Type 0) (ties : (f g : SqlFault) → Has f → Also g → place f ≡ place g → First f g) where
  sooner_by : (f g : SqlFault) (b : Bool) → ltb (place g) (place f) ≡ b → IsLeast Has (Some f) → IsLeast Also (Some g)
      → IsLeast (λ x. Has x ⊎ Also x) (Some (cond b g f))
  sooner_by f g true e l m = (inr m.0, λ h k. by h k)
    where
      by : (h : SqlFault) → Has h ⊎ Also h → First g h
      by h (inl k) = first_through g f h (inr (inl (ltb-true _ _ e))) (l.1 h k)
      by h (inr k) = m.1 h k
  sooner_by f g false e l m = (inl l.0, λ h k. by h k)
    where
      begins : (place f < place g) ⊎ (place f ≡ place g) → First f g
      begins (inl lt) = inr (inl lt)
      begins (inr eq) = ties f g l.0 m.0 eq

      by : (h : SqlFault) → Has h ⊎ Also h → First f h
      by h (inl k) = l.1 h k
      by h (inr k) = first_through f g h (begins (let le = ltb-false _ _ e in grind arith)) (m.1 h k)

  -- the sooner of two is the first of both kinds
  pub sooner_least : (a : Option SqlFault) (g : SqlFault) → IsLeast Has a → IsLeast Also (Some g)
      → IsLeast (λ x. Has x ⊎ Also x) (Some (sooner a g))
  sooner_least None g l m = (inr m.0, λ h k. by h k)
    where
      by : (h : SqlFault) → Has h ⊎ Also h → First g h
      by h (inl k) = absurd (l h k)
      by h (inr k) = m.1 h k
  sooner_least (Some f) g l m = sooner_by f g (ltb (place g) (place f)) refl l m

  pub earlier_least : (a b : Option SqlFault) → IsLeast Has a → IsLeast Also b
      → IsLeast (λ x. Has x ⊎ Also x) (earlier a b)
  earlier_least None None l m = λ g h. by g h
    where
      by : (h : SqlFault) → Has h ⊎ Also h → ⊥
      by h (inl k) = l h k
      by h (inr k) = m h k
  earlier_least (Some f) None l m = (inl l.0, λ h k. by h k)
    where
      by : (h : SqlFault) → Has h ⊎ Also h → First f h
      by h (inl k) = l.1 h k
      by h (inr k) = absurd (m h k)
  earlier_least None (Some g) l m = sooner_least None g l m
  earlier_least (Some f) (Some g) l m = sooner_least (Some f) g l m
