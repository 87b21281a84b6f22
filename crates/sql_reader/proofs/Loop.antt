-- Reading elements one after the other, as a loop does.
use Rattle.std.proofs.Common.{◌≡◌, ℕ, suc, ◌-◌, ◌+◌, ◌<◌, ◌≤◌, Bool, true, false, cond, List, Result, [], ◌∷◌, ◌++◌}
use Rattle.std.proofs.Common.{Option, Some, None}
use Rattle.std.proofs.Common.{Ok, Err, refl, sym, ap, ◌∙◌, append_assoc, arith}
use Rattle.std.specs.Prelude.{is_none}
use Rattle.sql_reader.specs.declared.tokens.Token.{Token}
use Rattle.sql_reader.specs.declared.tokens.Mark.{Mark}
use Rattle.sql_reader.specs.declared.faults.Limit.{Limit}
use Rattle.sql_reader.specs.declared.stops.Stop.{Stop}
use Rattle.sql_reader.specs.declared.stops.Stop.TheVariants as stops
use Rattle.sql_reader.specs.Tokens.{place_of}
use Rattle.orca_base.specs.Checked.{◌>>=◌}
use Rattle.sql_reader.specs.Steps.{Step, unexpected, too_many, Takes, refused, elements_at}
use Rattle.sql_reader.specs.Doing.{Fails, Does}

-- what was read before, and what is still read
abbrev pub with_front : {X : Type 0} → List X → Step (List X) → Step (List X)
with_front front read = read >>= λ p. Ok (front ++ p.0, p.1)

regroup : {X : Type 0} (front : List X) (x : X) (read : Step (List X))
    → with_front front (read >>= λ p. Ok (x ∷ p.0, p.1)) ≡ with_front (front ++ x ∷ []) read
regroup front x (Ok p) = ap (λ (xs : List _). Ok (xs, p.1)) (simp append_assoc)
regroup front x (Err stopped) = refl

module _ {X : Type 0} (mark : Mark) (begins : Token → Bool) (read : List Token → Step X) (what : Limit) where
  abbrev reads : ℕ → List Token → Step (List X)
  reads = elements_at mark begins read what

  step : (count i : ℕ) (tokens : List Token) → i < count
      → reads (count - i) tokens ≡ reads (suc (count - (i + 1))) tokens
  step count i tokens lt = let k : count - i ≡ suc (count - (i + 1)) = omega arith in ap (λ (n : ℕ). reads n tokens) k

  -- a mark follows the element, and the others are read behind it
  pub goes_on : (front : List X) (count i : ℕ) (tokens : List Token) (x : X) (after : List Token) (found : Option ℕ)
      (rest : List Token)
      (total : Step (List X)) → i < count → read tokens ≡ Ok (x, after) → Takes (place_of mark) after found rest
      → is_none found ≡ false
      → with_front front (reads (count - i) tokens) ≡ total
      → with_front (front ++ x ∷ []) (reads (count - (i + 1)) rest) ≡ total
  goes_on front count i tokens x after None rest total lt h m some so_far = absurd cc
  goes_on front count i tokens x after (Some at) rest total lt h m some so_far =
      let one_more : reads (suc (count - (i + 1)))
      tokens ≡ (reads (count - (i + 1)) rest >>= λ p. Ok (x ∷ p.0, p.1)) = rw (h, m.0, m.1) refl in
      sym (regroup front x (reads (count - (i + 1)) rest))
      ∙ ap (λ (r : Step (List X)). with_front front r) (sym (step count i tokens lt ∙ one_more)) ∙ so_far

  -- no mark follows the element, which is the last
  pub ends : (front : List X) (count i : ℕ) (tokens : List Token) (x : X) (after : List Token) (found : Option ℕ)
      (rest : List Token)
      (total : Step (List X)) → i < count → read tokens ≡ Ok (x, after) → Takes (place_of mark) after found rest
      → is_none found ≡ true
      → with_front front (reads (count - i) tokens) ≡ total → total ≡ Ok (front ++ x ∷ [], rest)
  ends front count i tokens x after (Some at) rest total lt h m none so_far = absurd cc
  ends front count i tokens x after None rest total lt h m none so_far =
      let last : reads (suc (count - (i + 1))) tokens ≡ Ok (x ∷ [], rest) = rw (h, m.0, m.2) refl in
      sym so_far ∙ ap (λ (r : Step (List X)). with_front front r) (step count i tokens lt ∙ last)

  -- what is refused is no list
  not_listed : (tokens : List Token) (xs : List X) (rest : List Token)
      → refused begins what {X = List X} tokens ≡ Ok (xs, rest) → ⊥
  not_listed [] xs rest e = absurd cc
  not_listed (t ∷ tokens) xs rest e = by (begins t) e
    where
      by : (b : Bool)
          → cond {A = Step (List X)} b (Err (too_many what (t ∷ tokens))) (Err (unexpected (t ∷ tokens))) ≡ Ok
          (xs, rest)
          → ⊥
      by true k = absurd cc
      by false k = absurd cc

  stops_behind : (stop : Stop) (front : List X) (tokens rest : List Token)
      → Fails (refused begins what {X = List X} tokens) stop rest
      → Fails (with_front front (refused begins what tokens)) stop rest
  stops_behind stops.Memory front tokens rest h = tt
  stops_behind stops.Unexpected front tokens rest h = rw h refl
  stops_behind (stops.TooMany w) front tokens rest h = rw h refl

  -- there is no room for another
  pub refuses : (result : Result (List X) Stop) (front : List X) (count i : ℕ) (tokens rest : List Token)
      (total : Step (List X)) → count ≤ i → Does (refused begins what tokens) result rest
      → with_front front (reads (count - i) tokens) ≡ total → Does total result rest
  refuses (Ok xs) front count i tokens rest total le h so_far = absurd (not_listed tokens xs rest h)
  refuses (Err stop) front count i tokens rest total le h so_far =
      let none : count - i ≡ 0 = omega arith in
      rw (← so_far, none) (stops_behind stop front tokens rest h)
