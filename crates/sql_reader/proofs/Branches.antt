-- One token with something behind it, and a choice by the next token.
use Rattle.std.proofs.Common.{◌≡◌, true, false, List, [], ◌∷◌, ◌++◌, Option, Some, None, Err, ◌⊎◌, inl, inr, refl, ap}
use Rattle.std.proofs.Common.{◌∙◌}
use Rattle.std.specs.Prelude.{is_some}
use Rattle.sql_reader.specs.declared.tokens.Token.{Token}
use Rattle.sql_reader.specs.declared.faults.Limit.{Limit}
use Rattle.sql_reader.specs.Grammar.{After, Either}
use Rattle.orca_base.specs.Checked.{◌>>=◌}
use Rattle.sql_reader.specs.Steps.{Step, unexpected, taken, ahead, after_at, branch_at}
use Rattle.sql_reader.proofs.Exact.{BeginAlike, Blocked, GoesOn, Answers, Again, Exact}
use Rattle.sql_reader.proofs.Choices.{Says, moved, behind, stuck}

pub says_nothing : {V : Type 0} (o : Option V) → ((v : V) → o ≡ Some v → ⊥) → o ≡ None
says_nothing None h = refl
says_nothing (Some v) h = absurd (h v refl)

-- what begins alike is looked at alike
pub looks_alike : {V : Type 0} (says : Token → Option V) (xs ys : List Token) → BeginAlike xs ys
    → ahead says xs ≡ ahead says ys
looks_alike says [] [] h = refl
looks_alike says [] (y ∷ ys) h = absurd h
looks_alike says (x ∷ xs) [] h = absurd h
looks_alike says (x ∷ xs) (y ∷ ys) h = ap (λ (t : Token). is_some (says t)) h

module _ {V X : Type 0} (says : Token → Option V) (IsX : V → List Token → X → Type 0) (First More : Token → Type 0)
    (Empty : Type 0) (Over : Limit → X → Type 0) (read : V → List Token → Step X)
    (e : (v : V) → Exact (IsX v) First More Empty Over (read v)) where
  -- behind a token that says something its production reads
  pub reads_behind : (t : Token) (v : V) (rest : List Token) → says t ≡ Some v
      → after_at says read (t ∷ rest) ≡ read v rest
  reads_behind t v rest h = ap (λ (o : Option V). taken o (t ∷ rest) rest >>= λ p. read p.0 p.1) h

  pub stops_at : (t : Token) (rest : List Token) → says t ≡ None
      → after_at says read (t ∷ rest) ≡ Err (unexpected (t ∷ rest))
  stops_at t rest h = ap (λ (o : Option V). taken o (t ∷ rest) rest >>= λ p. read p.0 p.1) h

  pub after_again : (front : List Token) (x : X) (rest : List Token) → After says IsX front x → Blocked More rest
      → Again Over x rest (after_at says read (front ++ rest))
  after_again [] x rest h b = absurd h
  after_again (t ∷ front) x rest h b = rw (reads_behind t h.0 (front ++ rest) h.1) ((e h.0).again front x rest h.2 b)

  pub after_goes : (t : Token) (v : V) → says t ≡ Some v → GoesOn (After says IsX) Over []
  after_goes t v h =
      let s = (e v).start in
      record { more = t ∷ s.more; value = s.value; member = (v, h, s.member); within = s.within }

  pub after_answers_said : (t : Token) (v : V) (tokens : List Token) → says t ≡ Some v
      → Answers (After says IsX) Over (after_at says read) (t ∷ tokens) (after_at says read (t ∷ tokens))
  after_answers_said t v tokens h =
      rw (reads_behind t v tokens h)
      (behind (IsX v) (After says IsX) Over (read v) (after_at says read) t tokens (λ ts x k. (v, h, k))
      (λ ts. reads_behind t v ts h) (read v tokens) ((e v).answers tokens))

  stops_alike : (t : Token) (tokens : List Token) → says t ≡ None → (others : List Token)
      → BeginAlike others (t ∷ tokens) → after_at says read others ≡ Err (unexpected others)
  stops_alike t tokens h [] b = absurd b
  stops_alike t tokens h (u ∷ others) b = stops_at u others (ap says b ∙ h)

  ends_alike : (others : List Token) → BeginAlike others [] → after_at says read others ≡ Err (unexpected others)
  ends_alike [] b = refl
  ends_alike (u ∷ others) b = absurd b

  after_answers_by : (g : GoesOn (After says IsX) Over []) (t : Token) (tokens : List Token) (o : Option V)
      → says t ≡ o → Answers (After says IsX) Over (after_at says read) (t ∷ tokens) (after_at says read (t ∷ tokens))
  after_answers_by g t tokens (Some v) h = after_answers_said t v tokens h
  after_answers_by g t tokens None h =
      rw (stops_at t tokens h) (stuck (After says IsX) Over (after_at says read) (t ∷ tokens) g
      (stops_alike t tokens h))

  after_answers : (g : GoesOn (After says IsX) Over []) (tokens : List Token)
      → Answers (After says IsX) Over (after_at says read) tokens (after_at says read tokens)
  after_answers g [] = stuck (After says IsX) Over (after_at says read) [] g ends_alike
  after_answers g (t ∷ tokens) = after_answers_by g t tokens (says t) refl

  pub after_is_exact : (t : Token) (v : V) → says t ≡ Some v
      → Exact (After says IsX) (Says says) More ⊥ Over (after_at says read)
  after_is_exact t v h = record {
    first = λ u tokens x k. (k.0, k.1);
    empty = λ x k. k;
    again = after_again;
    answers = after_answers (after_goes t v h);
    start = after_goes t v h;
  }

  module _ (IsY : List Token → X → Type 0) (FirstY MoreY : Token → Type 0) (EmptyY : Type 0)
      (other : List Token → Step X)
      (y : Exact IsY FirstY MoreY EmptyY Over other) (clash : (t : Token) (v : V) → says t ≡ Some v → FirstY t → ⊥)
    where
      abbrev Choice : List Token → X → Type 0
      Choice = Either (After says IsX) IsY

      abbrev choose : List Token → Step X
      choose = branch_at says read other

      abbrev MoreOfChoice : Token → Type 0
      MoreOfChoice t = More t ⊎ (MoreY t ⊎ (EmptyY × Says says t))

      takes_first : (tokens : List Token) → ahead says tokens ≡ true → choose tokens ≡ after_at says read tokens
      takes_first tokens h = rw h refl

      takes_other : (tokens : List Token) → ahead says tokens ≡ false → choose tokens ≡ other tokens
      takes_other tokens h = rw h refl

      first_of_choice : (t : Token) (tokens : List Token) (x : X) → Choice (t ∷ tokens) x → Says says t ⊎ FirstY t
      first_of_choice t tokens x (inl h) = inl (h.0, h.1)
      first_of_choice t tokens x (inr h) = inr (y.first t tokens x h)

      empty_of_choice : (x : X) → Choice [] x → EmptyY
      empty_of_choice x (inl h) = absurd h
      empty_of_choice x (inr h) = y.empty x h

      blocked_after : (rest : List Token) → Blocked MoreOfChoice rest → Blocked More rest
      blocked_after [] b = tt
      blocked_after (t ∷ rest) b = λ m. b (inl m)

      blocked_other : (rest : List Token) → Blocked MoreOfChoice rest → Blocked MoreY rest
      blocked_other [] b = tt
      blocked_other (t ∷ rest) b = λ m. b (inr (inl m))

      not_ahead : (front : List Token) (x : X) (rest : List Token) → IsY front x → Blocked MoreOfChoice rest
          → ahead says (front ++ rest) ≡ false
      not_ahead [] x [] h b = refl
      not_ahead [] x (t ∷ rest) h b = ap is_some (says_nothing (says t) (λ v s. b (inr (inr (y.empty x h, (v, s))))))
      not_ahead (t ∷ front) x rest h b = ap is_some (says_nothing (says t) (λ v s. clash t v s (y.first t front x h)))

      is_ahead : (front : List Token) (x : X) (rest : List Token) → After says IsX front x
          → ahead says (front ++ rest) ≡ true
      is_ahead [] x rest h = absurd h
      is_ahead (t ∷ front) x rest h = ap is_some h.1

      again_of_choice : (front : List Token) (x : X) (rest : List Token) → Choice front x → Blocked MoreOfChoice rest
          → Again Over x rest (choose (front ++ rest))
      again_of_choice front x rest (inl h) b =
          rw (takes_first (front ++ rest) (is_ahead front x rest h)) (after_again front x rest h (blocked_after rest b))
      again_of_choice front x rest (inr h) b =
          rw (takes_other (front ++ rest) (not_ahead front x rest h b)) (y.again front x rest h (blocked_other rest b))

      said_answers : (t : Token) (v : V) (tokens : List Token) → says t ≡ Some v
          → Answers Choice Over choose (t ∷ tokens) (choose (t ∷ tokens))
      said_answers t v tokens h =
          let same : (ts : List Token) → choose (t ∷ ts) ≡ read v ts =
          λ ts. takes_first (t ∷ ts) (ap is_some h) ∙ reads_behind t v ts h in
          rw (same tokens) (behind (IsX v) Choice Over (read v) choose t tokens (λ ts x k. inl (v, h, k)) same
          (read v tokens) ((e v).answers tokens))

      other_answers : (tokens : List Token) → ahead says tokens ≡ false
          → Answers Choice Over choose tokens (choose tokens)
      other_answers tokens h =
          rw (takes_other tokens h)
          (moved IsY Choice Over other choose tokens (λ ts x k. inr k)
          (λ ts b. takes_other ts (looks_alike says ts tokens b ∙ h)) (other tokens) (y.answers tokens))

      answers_by : (t : Token) (tokens : List Token) (o : Option V) → says t ≡ o
          → Answers Choice Over choose (t ∷ tokens) (choose (t ∷ tokens))
      answers_by t tokens (Some v) h = said_answers t v tokens h
      answers_by t tokens None h = other_answers (t ∷ tokens) (ap is_some h)

      answers_of_choice : (tokens : List Token) → Answers Choice Over choose tokens (choose tokens)
      answers_of_choice [] = other_answers [] refl
      answers_of_choice (t ∷ tokens) = answers_by t tokens (says t) refl

      pub choice_is_exact : Exact Choice (λ t. Says says t ⊎ FirstY t) MoreOfChoice EmptyY Over choose
      choice_is_exact = record {
        first = first_of_choice;
        empty = empty_of_choice;
        again = again_of_choice;
        answers = answers_of_choice;
        start = record {
          more = y.start.more;
          value = y.start.value;
          member = inr y.start.member;
          within = y.start.within;
        };
      }

-- one token that says something, and its production
pub after : {V X : Type 0} {says : Token → Option V} {IsX : V → List Token → X → Type 0} {First More : Token → Type 0}
    {Empty : Type 0} {Over : Limit → X → Type 0} {read : V → List Token → Step X}
    (t : Token) (v : V) → says t ≡ Some v → ((v : V) → Exact (IsX v) First More Empty Over (read v))
    → Exact (After says IsX) (Says says) More ⊥ Over (after_at says read)
after t v h e = after_is_exact _ _ _ _ _ _ _ e t v h

-- that, or something else
pub choice : {V X : Type 0} {says : Token → Option V} {IsX : V → List Token → X → Type 0}
    {First More : Token → Type 0} {Empty : Type 0} {Over : Limit → X → Type 0} {read : V → List Token → Step X}
    {IsY : List Token → X → Type 0} {FirstY MoreY : Token → Type 0} {EmptyY : Type 0} {other : List Token → Step X}
    → ((v : V) → Exact (IsX v) First More Empty Over (read v)) → Exact IsY FirstY MoreY EmptyY Over other
    → ((t : Token) (v : V) → says t ≡ Some v → FirstY t → ⊥)
    → Exact (Either (After says IsX) IsY) (λ t. Says says t ⊎ FirstY t)
    (λ t. More t ⊎ (MoreY t ⊎ (EmptyY × Says says t))) EmptyY Over (branch_at says read other)
choice e y clash = choice_is_exact _ _ _ _ _ _ _ e _ _ _ _ _ y clash
