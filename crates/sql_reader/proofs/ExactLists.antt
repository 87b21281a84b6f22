-- Elements with a mark between, up to a limit.
use Rattle.std.proofs.Common.{◌≡◌, ℕ, zero, suc, Bool, true, false, cond, List, [], ◌∷◌, ◌++◌, Option, Some, None, Ok}
use Rattle.std.proofs.Common.{Err, ◌⊎◌, inl, inr, refl, sym, ap, ◌∙◌, arith}
use Rattle.std.specs.Prelude.{is_some, if◌then◌else◌}
use Rattle.std.proofs.lemmas.List.{append-nil}
use Rattle.sql_reader.specs.declared.tokens.Token.{Token}
use Rattle.sql_reader.specs.declared.tokens.Mark.{Mark}
use Rattle.sql_reader.specs.declared.faults.Limit.{Limit}
use Rattle.sql_reader.specs.Tokens.{place_of}
use Rattle.sql_reader.specs.Grammar.{AtEnd, Then, Others, Elements}
use Rattle.sql_reader.specs.Steps.{Step, unexpected, too_many, done_at, then_at, ahead, branch_at, refused, elements_at}
use Rattle.sql_reader.proofs.Exact.{BeginAlike, Blocked, GoesOn, Breaks, Overflows, Refuses, Answers, Again, Exact}
use Rattle.sql_reader.proofs.Exact.{Never, NoToken, as_exact}
use Rattle.sql_reader.proofs.Choices.{Says, done_exact, done_within, same_exact}
use Rattle.sql_reader.proofs.Branches.{says_nothing, looks_alike, choice}
use Rattle.sql_reader.proofs.Sequences.{both_exact}
use Rattle.sql_reader.proofs.ListParts.{Above, out_of_others, into_others}

module _ {X : Type 0} (mark : Mark) (IsX : List Token → X → Type 0) (First More : Token → Type 0)
    (read : List Token → Step X) (starts : Token → Bool) (what : Limit)
    (e : Exact IsX First More ⊥ Never read)
    (opens : (t : Token) → First t → starts t ≡ true)
    (begins : (t : Token) → starts t ≡ true → (more : List Token) × (x : X) × IsX (t ∷ more) x)
    (clash : (t : Token) → More t → Says (place_of mark) t → ⊥)
  where
    abbrev Separates : Token → Type 0
    Separates = Says (place_of mark)

    abbrev MoreOf : Token → Type 0
    MoreOf t = Separates t ⊎ More t

    -- the elements behind the first
    abbrev tail_at : ℕ → List Token → Step (List X)
    tail_at room = branch_at (place_of mark) (λ _. elements_at mark starts read what room) (done_at [])

    -- ---- no room for another

    no_other : GoesOn (Others mark IsX) (Above what 0) []
    no_other = record { more = []; value = []; member = tt; within = λ w h. absurd (omega (arith, h.1)) }

    -- one element too many could follow the mark
    one_other : (t : Token) (at : ℕ) → place_of mark t ≡ Some at → (ts : List Token) (x : X) → IsX ts x
        → Others mark IsX (t ∷ ts) (x ∷ [])
    one_other t at s ts x h = (at, s, ts, [], sym (append-nil ts), h, tt)

    tail_refused : (t : Token) (at : ℕ) → place_of mark t ≡ Some at → (ts : List Token)
        → tail_at 0 (t ∷ ts) ≡ refused starts what ts
    tail_refused t at s ts = rw s refl

    tail_ends : (ts : List Token) → ahead (place_of mark) ts ≡ false → tail_at 0 ts ≡ Ok ([], ts)
    tail_ends ts h = rw h refl

    ended : (tokens : List Token) → ahead (place_of mark) tokens ≡ false
        → Answers (Others mark IsX) (Above what 0) (tail_at 0) tokens (tail_at 0 tokens)
    ended tokens h = rw (tail_ends tokens h) (record {
      front = [];
      whole = refl;
      member = tt;
      within = λ w k. absurd (omega (arith, k.1));
      local = λ others b. tail_ends others (looks_alike (place_of mark) others tokens b ∙ h);
    })

    abbrev stops : List Token → Step (List X)
    stops ts = Err (unexpected ts)

    refuses : (ts : List Token) → Refuses {X = List X} what (refused starts what ts)
    refuses [] = tt
    refuses (t ∷ ts) = by (starts t)
      where
        by : (b : Bool) → Refuses {X = List X} what
            (if b then Err (too_many what (t ∷ ts)) else Err (unexpected (t ∷ ts)))
        by true = refl
        by false = tt

    refused_alike : (ts others : List Token) → BeginAlike others ts
        → refused starts what {X = List X} ts ≡ Err (unexpected ts)
        → refused starts what {X = List X} others ≡ Err (unexpected others)
    refused_alike [] [] b h = refl
    refused_alike [] (u ∷ others) b h = absurd b
    refused_alike (t ∷ ts) [] b h = absurd b
    refused_alike (t ∷ ts) (u ∷ others) b h = by (starts t) refl h
      where
        by : (c : Bool) → starts t ≡ c → cond c (Err (too_many what (t ∷ ts))) (stops (t ∷ ts)) ≡ stops (t ∷ ts)
            → refused starts what {X = List X} (u ∷ others) ≡ Err (unexpected (u ∷ others))
        by true s k = absurd cc
        by false s k = rw (ap starts b ∙ s) refl

    broken : (t : Token) (at : ℕ) → place_of mark t ≡ Some at → (ts : List Token)
        → refused starts what {X = List X} ts ≡ Err (unexpected ts)
        → Breaks (Others mark IsX) (Above what 0) (tail_at 0) (t ∷ ts) ts
    broken t at s ts h = record {
      front = [];
      last = t ∷ [];
      short = omega arith;
      whole = refl;
      goes = no_other;
      more = e.start.more;
      value = e.start.value ∷ [];
      member = one_other t at s e.start.more e.start.value e.start.member;
      local = λ others b. tail_refused t at s others ∙ refused_alike ts others b h;
    }

    overflown : (t : Token) (at : ℕ) → place_of mark t ≡ Some at → (u : Token) (ts : List Token) → starts u ≡ true
        → Overflows (Others mark IsX) (Above what 0) (tail_at 0) what (t ∷ u ∷ ts) (u ∷ ts)
    overflown t at s u ts h =
        let b = begins u h in
        record {
          front = [];
          last = t;
          whole = refl;
          goes = no_other;
          next = u;
          others = ts;
          rest_is = refl;
          more = b.0;
          value = b.1 ∷ [];
          member = one_other t at s (u ∷ b.0) b.1 b.2;
          alone = λ v o. o.0;
          full = λ after. rw (tail_refused t at s after) (refuses after);
        }

    said_at_none : (t : Token) (at : ℕ) → place_of mark t ≡ Some at → (ts : List Token)
        → Answers (Others mark IsX) (Above what 0) (tail_at 0) (t ∷ ts) (refused starts what ts)
    said_at_none t at s [] = broken t at s [] refl
    said_at_none t at s (u ∷ ts) = by (starts u) refl
      where
        by : (c : Bool) → starts u ≡ c
            → Answers (Others mark IsX) (Above what 0) (tail_at 0) (t ∷ u ∷ ts)
            (cond c (Err (too_many what (u ∷ ts))) (Err (unexpected (u ∷ ts))))
        by true h = overflown t at s u ts h
        by false h = broken t at s (u ∷ ts) (rw h refl)

    answers_at_none : (tokens : List Token)
        → Answers (Others mark IsX) (Above what 0) (tail_at 0) tokens (tail_at 0 tokens)
    answers_at_none [] = ended [] refl
    answers_at_none (t ∷ ts) = by (place_of mark t) refl
      where
        by : (o : Option ℕ) → place_of mark t ≡ o
            → Answers (Others mark IsX) (Above what 0) (tail_at 0) (t ∷ ts) (tail_at 0 (t ∷ ts))
        by (Some at) s = rw (tail_refused t at s ts) (said_at_none t at s ts)
        by None s = ended (t ∷ ts) (ap is_some s)

    blocked_mark : (rest : List Token) → Blocked MoreOf rest → ahead (place_of mark) rest ≡ false
    blocked_mark [] b = refl
    blocked_mark (t ∷ rest) b = ap is_some (says_nothing (place_of mark t) (λ at s. b (inl (at, s))))

    refused_element : (front back rest : List Token) (x : X) → IsX front x
        → refused starts what {X = List X} ((front ++ back) ++ rest) ≡ Err (too_many what ((front ++ back) ++ rest))
    refused_element [] back rest x h = absurd (e.empty x h)
    refused_element (u ∷ front) back rest x h = rw (opens u (e.first u front x h)) refl

    again_at_none : (front : List Token) (xs : List X) (rest : List Token) → Others mark IsX front xs
        → Blocked MoreOf rest → Again (Above what 0) xs rest (tail_at 0 (front ++ rest))
    again_at_none [] [] rest h b = rw (tail_ends rest (blocked_mark rest b)) (refl, refl)
    again_at_none (t ∷ front) [] rest h b = absurd h
    again_at_none [] (x ∷ xs) rest h b = absurd h
    again_at_none (t ∷ front) (x ∷ xs) rest h b =
        rw (tail_refused t h.0 h.1 (front ++ rest), h.4, refused_element h.2 h.3 rest x h.5) (refl, omega arith)

    first_of_others : (t : Token) (tokens : List Token) (xs : List X) → Others mark IsX (t ∷ tokens) xs → Separates t
    first_of_others t tokens [] h = absurd h
    first_of_others t tokens (x ∷ xs) h = (h.0, h.1)

    no_more_exact : Exact (Others mark IsX) Separates MoreOf (Unit {0}) (Above what 0) (tail_at 0)
    no_more_exact = record {
      first = first_of_others;
      empty = λ x h. tt;
      again = again_at_none;
      answers = answers_at_none;
      start = no_other;
    }

    -- ---- room for more

    longer : (room : ℕ) (x : X) (w : Limit) (xs : List X) (tokens : List Token) (z : List X) → AtEnd (x ∷ xs) tokens z
        → Above what room w xs → Above what (suc room) w z
    longer room x w xs [] z d h = rw d (h.0, omega (arith, h.1))
    longer room x w xs (t ∷ tokens) z d h = absurd d

    shorter : (room : ℕ) (x : X) (w : Limit) (xs : List X) (tokens : List Token) (z : List X) → AtEnd (x ∷ xs) tokens z
        → Above what (suc room) w z → Above what room w xs
    shorter room x w xs [] z d h = let k : Above what (suc room) w (x ∷ xs) = rw d at h in (k.0, omega (arith, k.1))
    shorter room x w xs (t ∷ tokens) z d h = absurd d

    cons_exact : (room : ℕ) (x : X)
        → Exact (Others mark IsX) Separates MoreOf (Unit {0}) (Above what room) (tail_at room)
        → Exact (Then (Others mark IsX) (λ xs. AtEnd (x ∷ xs))) Separates MoreOf (Unit {0}) (Above what (suc room))
        (then_at (tail_at room) (λ xs. done_at (x ∷ xs)))
    cons_exact room x o = as_exact
        (both_exact (Others mark IsX) Separates MoreOf (Unit {0}) (Above what room) (tail_at room)
        (λ xs. AtEnd (x ∷ xs)) NoToken NoToken (Unit {0}) Never (λ xs. done_at (x ∷ xs)) (Above what (suc room)) o
        (λ xs. done_exact (x ∷ xs))
        (λ t m n. n) (λ w xs tokens z d h. longer room x w xs tokens z d h) (λ w z h. absurd h)
        (λ w xs tokens z d h. inl (shorter room x w xs tokens z d h)))
        separated more_behind (λ u. tt)
      where
        separated : (t : Token) → Separates t ⊎ (Unit {0} × NoToken t) → Separates t
        separated t (inl h) = h
        separated t (inr h) = absurd h.1

        more_behind : (t : Token) → NoToken t ⊎ (Unit {0} × MoreOf t) → MoreOf t
        more_behind t (inl h) = absurd h
        more_behind t (inr h) = h.1

    elements_from_others : (room : ℕ)
        → Exact (Others mark IsX) Separates MoreOf (Unit {0}) (Above what room) (tail_at room)
        → Exact (Elements mark IsX) First MoreOf ⊥ (Above what (suc room))
        (elements_at mark starts read what (suc room))
    elements_from_others room o = as_exact
        (both_exact IsX First More ⊥ Never read
        (λ x. Then (Others mark IsX) (λ xs. AtEnd (x ∷ xs))) Separates MoreOf (Unit {0}) (Above what (suc room))
        (λ x. then_at (tail_at room) (λ xs. done_at (x ∷ xs)))
        (Above what (suc room)) e (λ x. cons_exact room x o) clash (λ w x tokens z k h. absurd h) (λ w z h. h)
        (λ w x tokens z k h. inr h))
        begun more_behind (λ u. u.0)
      where
        begun : (t : Token) → First t ⊎ (⊥ × Separates t) → First t
        begun t (inl h) = h
        begun t (inr h) = absurd h.0

        more_behind : (t : Token) → MoreOf t ⊎ (Unit {0} × More t) → MoreOf t
        more_behind t (inl h) = h
        more_behind t (inr h) = inr h.1

    others_exact : (room : ℕ) → Exact (Others mark IsX) Separates MoreOf (Unit {0}) (Above what room) (tail_at room)
    others_exact zero = no_more_exact
    others_exact (suc room) = same_exact (into_others mark IsX) (out_of_others mark IsX) (as_exact
        (choice (λ (_ : ℕ). elements_from_others room (others_exact room))
        (done_within [] (Above what (suc room)) (λ w h. absurd (omega (arith, h.1)))) (λ t v s k. k))
        separated more_behind (λ u. u))
      where
        separated : (t : Token) → Separates t ⊎ NoToken t → Separates t
        separated t (inl h) = h
        separated t (inr h) = absurd h

        more_behind : (t : Token) → MoreOf t ⊎ (NoToken t ⊎ (Unit {0} × Separates t)) → MoreOf t
        more_behind t (inl h) = h
        more_behind t (inr (inl h)) = absurd h
        more_behind t (inr (inr h)) = inl h.1

    pub elements_exact : (room : ℕ)
        → Exact (Elements mark IsX) First MoreOf ⊥ (Above what (suc room))
        (elements_at mark starts read what (suc room))
    elements_exact room = elements_from_others room (others_exact room)
