-- A production and another behind it.
use Rattle.std.proofs.Common.{◌≡◌, List, [], ◌∷◌, ◌++◌, Ok, Err, ◌⊎◌, inl, inr, refl, sym, ap, subst, ◌∙◌, append_assoc}
use Rattle.sql_reader.specs.declared.tokens.Token.{Token}
use Rattle.sql_reader.specs.declared.faults.Limit.{Limit}
use Rattle.sql_reader.specs.Grammar.{Then}
use Rattle.orca_base.specs.Checked.{◌>>=◌}
use Rattle.sql_reader.specs.Steps.{Step, unexpected, too_many, then_at}
use Rattle.sql_reader.proofs.Exact.{BeginAlike, BeginAlike-append, Blocked, GoesOn, Found, Refuses, Answers, Again}
use Rattle.sql_reader.proofs.Exact.{Exact}

module _
    {X Z : Type 0} (IsX : List Token → X → Type 0) (First1 More1 : Token → Type 0) (Empty1 : Type 0)
    (Over1 : Limit → X → Type 0) (read1 : List Token → Step X)
    (IsZ : X → List Token → Z → Type 0) (First2 More2 : Token → Type 0) (Empty2 : Type 0) (Over2 : Limit → Z → Type 0)
    (read2 : X → List Token → Step Z)
    (Over : Limit → Z → Type 0)
    (e1 : Exact IsX First1 More1 Empty1 Over1 read1)
    (e2 : (x : X) → Exact (IsZ x) First2 More2 Empty2 Over2 (read2 x))
    (clash : (t : Token) → More1 t → First2 t → ⊥)
    (by_first : (w : Limit) (x : X) (tokens : List Token) (z : Z) → IsZ x tokens z → Over1 w x → Over w z)
    (by_second : (w : Limit) (z : Z) → Over2 w z → Over w z)
    (by_either : (w : Limit) (x : X) (tokens : List Token) (z : Z) → IsZ x tokens z → Over w z → Over1 w x ⊎ Over2 w z)
  where
    abbrev Both : List Token → Z → Type 0
    Both = Then IsX IsZ

    abbrev read : List Token → Step Z
    read = then_at read1 read2

    put : (front back : List Token) (x : X) (z : Z) → IsX front x → IsZ x back z → Both (front ++ back) z
    put front back x z h k = record { front = front; back = back; value = x; whole = refl; first = h; second = k }

    put_at : (tokens front back : List Token) (x : X) (z : Z) → tokens ≡ front ++ back → IsX front x → IsZ x back z
        → Both tokens z
    put_at tokens front back x z e h k =
        record { front = front; back = back; value = x; whole = e; first = h; second = k }

    neither : (w : Limit) (x : X) (z : Z) → (Over1 w x → ⊥) → (Over2 w z → ⊥) → Over1 w x ⊎ Over2 w z → ⊥
    neither w x z a b (inl h) = a h
    neither w x z a b (inr h) = b h

    first_of_both : (t : Token) (tokens : List Token) (z : Z) (front back : List Token) (x : X)
        → t ∷ tokens ≡ front ++ back → IsX front x → IsZ x back z → First1 t ⊎ (Empty1 × First2 t)
    first_of_both t tokens z [] back x e h k =
        inr (e1.empty x h, (e2 x).first t tokens z (subst (λ (b : List Token). IsZ x b z) (sym e) k))
    first_of_both t tokens z (u ∷ front) back x e h k =
        inl (let same : t ≡ u = cc in subst First1 (sym same) (e1.first u front x h))

    empty_of_both : (z : Z) (front back : List Token) (x : X) → [] ≡ front ++ back → IsX front x → IsZ x back z
        → Empty1 × Empty2
    empty_of_both z [] back x e h k = (e1.empty x h, (e2 x).empty z (subst (λ (b : List Token). IsZ x b z) (sym e) k))
    empty_of_both z (u ∷ front) back x e h k = absurd cc

    abbrev More : Token → Type 0
    More t = More2 t ⊎ (Empty2 × More1 t)

    blocked_first : (back rest : List Token) (x : X) (z : Z) → IsZ x back z → Blocked More rest
        → Blocked More1 (back ++ rest)
    blocked_first [] [] x z k b = tt
    blocked_first [] (t ∷ rest) x z k b = λ m. b (inr ((e2 x).empty z k, m))
    blocked_first (t ∷ back) rest x z k b = λ m. clash t m ((e2 x).first t back z k)

    blocked_second : (rest : List Token) → Blocked More rest → Blocked More2 rest
    blocked_second [] b = tt
    blocked_second (t ∷ rest) b = λ m. b (inl m)

    again_second : (z : Z) (rest : List Token) (r : Step Z) → Again Over2 z rest r → Again Over z rest r
    again_second z rest (Ok p) a = a
    again_second z rest (Err (unexpected r)) a = absurd a
    again_second z rest (Err (too_many w r)) a = by_second w z a

    again_first : (back rest : List Token) (x : X) (z : Z) (r : Step X) → IsZ x back z → Blocked More rest
        → Again Over1 x (back ++ rest) r → Again Over z rest (r >>= λ p. read2 p.0 p.1)
    again_first back rest x z (Ok p) k b a =
        let same : Again Over2 z rest (read2 x (back ++ rest)) = (e2 x).again back z rest k (blocked_second rest b) in
        again_second z rest (read2 p.0 p.1) (rw (a.0, a.1) same)
    again_first back rest x z (Err (unexpected r)) k b a = absurd a
    again_first back rest x z (Err (too_many w r)) k b a = by_first w x back z k a

    again_both : (front : List Token) (z : Z) (rest : List Token) → Both front z → Blocked More rest
        → Again Over z rest (read (front ++ rest))
    again_both front z rest h b =
        let e : front ++ rest ≡ h.front ++ (h.back ++ rest) =
        ap (λ (ts : List Token). ts ++ rest) h.whole ∙ append_assoc h.front h.back rest in
        rw e (again_first h.back rest h.value z (read1 (h.front ++ (h.back ++ rest))) h.second b
        (e1.again h.front h.value (h.back ++ rest) h.first (blocked_first h.back rest h.value z h.second b)))

    -- what goes on within the first goes on within both
    goes_first : (front : List Token) → GoesOn IsX Over1 front → GoesOn Both Over front
    goes_first front g =
        let s = (e2 g.value).start in
        record {
          more = g.more ++ s.more;
          value = s.value;
          member = put_at (front ++ (g.more ++ s.more)) (front ++ g.more) s.more g.value s.value
              (sym (append_assoc front g.more s.more)) g.member s.member;
          within = λ w h. neither w g.value s.value (g.within w) (s.within w)
              (by_either w g.value s.more s.value s.member h);
        }

    -- what goes on within the second goes on behind a whole first
    goes_second : (front1 front2 : List Token) (x : X) → IsX front1 x → ((w : Limit) → Over1 w x → ⊥)
        → GoesOn (IsZ x) Over2 front2 → GoesOn Both Over (front1 ++ front2)
    goes_second front1 front2 x h within g = record {
      more = g.more;
      value = g.value;
      member = put_at ((front1 ++ front2) ++ g.more) front1 (front2 ++ g.more) x g.value
          (append_assoc front1 front2 g.more) h g.member;
      within = λ w o. neither w x g.value (within w) (g.within w) (by_either w x (front2 ++ g.more) g.value g.member o);
    }

    -- ---- an answer of the second, behind a whole first

    module _ (tokens : List Token) (x : X) (rest1 : List Token) (found : Found IsX Over1 read1 tokens x rest1) where
      whole_both : (front last : List Token) → rest1 ≡ front ++ last → tokens ≡ (found.front ++ front) ++ last
      whole_both front last e = found.whole ∙ ap (λ (ts : List Token). found.front ++ ts) e
          ∙ sym (append_assoc found.front front last)

      member_both : (front more : List Token) (z : Z) → IsZ x (front ++ more) z
          → Both ((found.front ++ front) ++ more) z
      member_both front more z k = put_at ((found.front ++ front) ++ more) found.front (front ++ more) x z
          (append_assoc found.front front more) found.member k

      -- what begins as the rest does is read by the second
      reads_on : (front last after : List Token) → rest1 ≡ front ++ last → BeginAlike after last
          → read ((found.front ++ front) ++ after) ≡ read2 x (front ++ after)
      reads_on front last after e b =
          let alike : BeginAlike (front ++ after) rest1 = rw e (BeginAlike-append front after last b) in
          ap read (append_assoc found.front front after)
          ∙ ap (λ (r : Step X). r >>= λ p. read2 p.0 p.1) (found.local (front ++ after) alike)

      over_both : (back : List Token) (z : Z) (w : Limit) → IsZ x back z → (Over2 w z → ⊥) → Over w z → ⊥
      over_both back z w k not o = neither w x z (found.within w) not (by_either w x back z k o)

      only_both : (back : List Token) (z : Z) (v w : Limit) → IsZ x back z → (Over2 v z → v ≡ w) → Over v z → v ≡ w
      only_both back z v w k alone o =
          elim (by_either v x back z k o) [ inl h ↦ absurd (found.within v h) | inr h ↦ alone h ]

      goes_both : (front : List Token) → GoesOn (IsZ x) Over2 front → GoesOn Both Over (found.front ++ front)
      goes_both front g = goes_second found.front front x found.member found.within g

      second : (r : Step Z) → Answers (IsZ x) Over2 (read2 x) rest1 r → Answers Both Over read tokens r
      second (Ok p) a = record {
        front = found.front ++ a.front;
        whole = whole_both a.front p.1 a.whole;
        member = put found.front a.front x p.0 found.member a.member;
        within = λ w o. over_both a.front p.0 w a.member (a.within w) o;
        local = λ others b. reads_on a.front p.1 others a.whole b ∙ a.local others b;
      }
      second (Err (unexpected rest)) a = record {
        front = found.front ++ a.front;
        last = a.last;
        short = a.short;
        whole = whole_both a.front (a.last ++ rest) a.whole;
        goes = goes_both a.front a.goes;
        more = a.more;
        value = a.value;
        member = member_both a.front (a.last ++ a.more) a.value a.member;
        local = λ others b. reads_on a.front (a.last ++ rest) (a.last ++ others) a.whole
            (BeginAlike-append a.last others rest b) ∙ a.local others b;
      }
      second (Err (too_many w rest)) a = record {
        front = found.front ++ a.front;
        last = a.last;
        whole = whole_both a.front (a.last ∷ rest) a.whole;
        goes = goes_both a.front a.goes;
        next = a.next;
        others = a.others;
        rest_is = a.rest_is;
        more = a.more;
        value = a.value;
        member = member_both a.front (a.last ∷ a.next ∷ a.more) a.value a.member;
        alone = λ v o. only_both (a.front ++ a.last ∷ a.next ∷ a.more) a.value v w a.member (a.alone v) o;
        full = λ after. subst (λ (r : Step Z). Refuses w r)
            (sym (reads_on a.front (a.last ∷ rest) (a.last ∷ after) a.whole refl)) (a.full after);
      }

    -- ---- where the first stopped

    broken_stays : (tokens : List Token) (rest : List Token) → read1 tokens ≡ Err (unexpected rest)
        → read tokens ≡ Err (unexpected rest)
    broken_stays tokens rest e = ap (λ (r : Step X). r >>= λ p. read2 p.0 p.1) e

    refused_stays : (w : Limit) (r : Step X) → Refuses w r → Refuses w (r >>= λ p. read2 p.0 p.1)
    refused_stays w (Ok p) h = absurd h
    refused_stays w (Err (unexpected rest)) h = tt
    refused_stays w (Err (too_many v rest)) h = h

    -- the first, and the least of the second behind it
    closed : (tokens more : List Token) (x : X) → IsX (tokens ++ more) x
        → Both (tokens ++ (more ++ (e2 x).start.more)) (e2 x).start.value
    closed tokens more x h =
        let s = (e2 x).start in
        put_at (tokens ++ (more ++ s.more)) (tokens ++ more) s.more x s.value (sym (append_assoc tokens more s.more))
        h s.member

    both_answers : (tokens : List Token) (r : Step X) → Answers IsX Over1 read1 tokens r
        → Answers Both Over read tokens (r >>= λ p. read2 p.0 p.1)
    both_answers tokens (Ok p) a = second tokens p.0 p.1 a (read2 p.0 p.1) ((e2 p.0).answers p.1)
    both_answers tokens (Err (unexpected rest)) a = record {
      front = a.front;
      last = a.last;
      short = a.short;
      whole = a.whole;
      goes = goes_first a.front a.goes;
      more = a.more ++ (e2 a.value).start.more;
      value = (e2 a.value).start.value;
      member =
          let s = (e2 a.value).start in
          let e : a.front ++ (a.last ++ (a.more ++ s.more)) ≡ (a.front ++ (a.last ++ a.more)) ++ s.more =
          simp append_assoc in
          put_at (a.front ++ (a.last ++ (a.more ++ s.more))) (a.front ++ (a.last ++ a.more)) s.more a.value s.value e
          a.member s.member;
      local = λ others b. broken_stays (a.front ++ (a.last ++ others)) others (a.local others b);
    }
    both_answers tokens (Err (too_many w rest)) a = record {
      front = a.front;
      last = a.last;
      whole = a.whole;
      goes = goes_first a.front a.goes;
      next = a.next;
      others = a.others;
      rest_is = a.rest_is;
      more = a.more ++ (e2 a.value).start.more;
      value = (e2 a.value).start.value;
      member =
          let s = (e2 a.value).start in
          let e : a.front ++ a.last ∷ a.next ∷ (a.more ++ s.more) ≡ (a.front ++ a.last ∷ a.next ∷ a.more) ++ s.more =
          simp append_assoc in
          put_at (a.front ++ a.last ∷ a.next ∷ (a.more ++ s.more)) (a.front ++ a.last ∷ a.next ∷ a.more) s.more
          a.value s.value e a.member s.member;
      alone = λ v o.
          let s = (e2 a.value).start in
          elim (by_either v a.value s.more s.value s.member o) [ inl h ↦ a.alone v h | inr h ↦ absurd (s.within v h) ];
      full = λ after. refused_stays w (read1 (a.front ++ a.last ∷ after)) (a.full after);
    }

    pub both_exact : Exact Both (λ t. First1 t ⊎ (Empty1 × First2 t)) More (Empty1 × Empty2) Over read
    both_exact = record {
      first = λ t tokens z h. first_of_both t tokens z h.front h.back h.value h.whole h.first h.second;
      empty = λ z h. empty_of_both z h.front h.back h.value h.whole h.first h.second;
      again = again_both;
      answers = λ tokens. both_answers tokens (read1 tokens) (e1.answers tokens);
      start = goes_first [] e1.start;
    }
