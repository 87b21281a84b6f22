-- Nothing, one token with something behind it, and a choice by the next token.
use Rattle.std.proofs.Common.{◌≡◌, List, [], ◌∷◌, ◌++◌, Option, Some, Ok, Err, refl, sym, ap, ◌∙◌, arith}
use Rattle.sql_reader.specs.declared.tokens.Token.{Token}
use Rattle.sql_reader.specs.declared.faults.Limit.{Limit}
use Rattle.sql_reader.specs.Grammar.{AtEnd}
use Rattle.sql_reader.specs.Steps.{Step, unexpected, too_many, done_at}
use Rattle.sql_reader.proofs.Exact.{BeginAlike, BeginAlike-append, Blocked, GoesOn, Breaks, Answers, Again, Exact}
use Rattle.sql_reader.proofs.Exact.{Never, NoToken}

-- the token says something
abbrev pub Says : {V : Type 0} → (Token → Option V) → Token → Type 0
Says {V} says t = (v : V) × (says t ≡ Some v)

pub done_within : {X : Type 0} (value : X) (Over : Limit → X → Type 0) → ((w : Limit) → Over w value → ⊥)
    → Exact (AtEnd value) NoToken NoToken (Unit {0}) Over (done_at value)
done_within value Over within = record {
  first = λ t tokens x h. h;
  empty = λ x h. tt;
  again = again;
  answers = λ tokens. record { front = []; whole = refl; member = refl; within = within; local = λ others b. refl };
  start = record { more = []; value = value; member = refl; within = within };
}
  where
    again : (front : List Token) (x : _) (rest : List Token) → AtEnd value front x → Blocked NoToken rest
        → Again Over x rest (done_at value (front ++ rest))
    again [] x rest h b = (sym h, refl)
    again (t ∷ front) x rest h b = absurd h

pub done_exact : {X : Type 0} (value : X) → Exact (AtEnd value) NoToken NoToken (Unit {0}) Never (done_at value)
done_exact value = done_within value Never (λ w h. h)

-- an answer for a language is one for a larger, where the readers agree on what begins alike
pub moved : {X : Type 0} (IsX IsY : List Token → X → Type 0) (Over : Limit → X → Type 0)
    (read reads : List Token → Step X) (tokens : List Token)
    → ((ts : List Token) (x : X) → IsX ts x → IsY ts x)
    → ((ts : List Token) → BeginAlike ts tokens → reads ts ≡ read ts)
    → (r : Step X) → Answers IsX Over read tokens r → Answers IsY Over reads tokens r
moved IsX IsY Over read reads tokens into same (Ok p) a = record {
  front = a.front;
  whole = a.whole;
  member = into a.front p.0 a.member;
  within = a.within;
  local = λ others b. same (a.front ++ others) (rw a.whole (BeginAlike-append a.front others p.1 b)) ∙ a.local others b;
}
moved IsX IsY Over read reads tokens into same (Err (unexpected rest)) a = record {
  front = a.front;
  last = a.last;
  short = a.short;
  whole = a.whole;
  goes = record {
    more = a.goes.more;
    value = a.goes.value;
    member = into (a.front ++ a.goes.more) a.goes.value a.goes.member;
    within = a.goes.within;
  };
  more = a.more;
  value = a.value;
  member = into (a.front ++ (a.last ++ a.more)) a.value a.member;
  local = λ others b. same (a.front ++ (a.last ++ others))
      (rw a.whole (BeginAlike-append a.front (a.last ++ others) (a.last ++ rest)
      (BeginAlike-append a.last others rest b))) ∙ a.local others b;
}
moved IsX IsY Over read reads tokens into same (Err (too_many w rest)) a = record {
  front = a.front;
  last = a.last;
  whole = a.whole;
  goes = record {
    more = a.goes.more;
    value = a.goes.value;
    member = into (a.front ++ a.goes.more) a.goes.value a.goes.member;
    within = a.goes.within;
  };
  next = a.next;
  others = a.others;
  rest_is = a.rest_is;
  more = a.more;
  value = a.value;
  member = into (a.front ++ a.last ∷ a.next ∷ a.more) a.value a.member;
  alone = a.alone;
  full = λ after. rw (same (a.front ++ a.last ∷ after)
      (rw a.whole (BeginAlike-append a.front (a.last ∷ after) (a.last ∷ rest) refl))) (a.full after);
}

-- an answer behind one token
pub behind : {X : Type 0} (IsX IsY : List Token → X → Type 0) (Over : Limit → X → Type 0)
    (read reads : List Token → Step X) (t : Token) (tokens : List Token)
    → ((ts : List Token) (x : X) → IsX ts x → IsY (t ∷ ts) x) → ((ts : List Token) → reads (t ∷ ts) ≡ read ts)
    → (r : Step X) → Answers IsX Over read tokens r → Answers IsY Over reads (t ∷ tokens) r
behind IsX IsY Over read reads t tokens into same (Ok p) a = record {
  front = t ∷ a.front;
  whole = ap (λ (ts : List Token). t ∷ ts) a.whole;
  member = into a.front p.0 a.member;
  within = a.within;
  local = λ others b. same (a.front ++ others) ∙ a.local others b;
}
behind IsX IsY Over read reads t tokens into same (Err (unexpected rest)) a = record {
  front = t ∷ a.front;
  last = a.last;
  short = a.short;
  whole = ap (λ (ts : List Token). t ∷ ts) a.whole;
  goes = record {
    more = a.goes.more;
    value = a.goes.value;
    member = into (a.front ++ a.goes.more) a.goes.value a.goes.member;
    within = a.goes.within;
  };
  more = a.more;
  value = a.value;
  member = into (a.front ++ (a.last ++ a.more)) a.value a.member;
  local = λ others b. same (a.front ++ (a.last ++ others)) ∙ a.local others b;
}
behind IsX IsY Over read reads t tokens into same (Err (too_many w rest)) a = record {
  front = t ∷ a.front;
  last = a.last;
  whole = ap (λ (ts : List Token). t ∷ ts) a.whole;
  goes = record {
    more = a.goes.more;
    value = a.goes.value;
    member = into (a.front ++ a.goes.more) a.goes.value a.goes.member;
    within = a.goes.within;
  };
  next = a.next;
  others = a.others;
  rest_is = a.rest_is;
  more = a.more;
  value = a.value;
  member = into (a.front ++ a.last ∷ a.next ∷ a.more) a.value a.member;
  alone = a.alone;
  full = λ after. rw (same (a.front ++ a.last ∷ after)) (a.full after);
}

-- nothing can be read at the first token, though something begins here
pub stuck : {X : Type 0} (IsX : List Token → X → Type 0) (Over : Limit → X → Type 0) (read : List Token → Step X)
    (tokens : List Token)
    → GoesOn IsX Over [] → ((others : List Token) → BeginAlike others tokens → read others ≡ Err (unexpected others))
    → Breaks IsX Over read tokens tokens
stuck IsX Over read tokens g local = record {
  front = [];
  last = [];
  short = omega arith;
  whole = refl;
  goes = g;
  more = g.more;
  value = g.value;
  member = g.member;
  local = local;
}

-- two names of one language
pub same_exact : {X : Type 0} {IsX IsY : List Token → X → Type 0} {First More : Token → Type 0} {Empty : Type 0}
    {Over : Limit → X → Type 0} {read : List Token → Step X}
    → ((ts : List Token) (x : X) → IsX ts x → IsY ts x) → ((ts : List Token) (x : X) → IsY ts x → IsX ts x)
    → Exact IsX First More Empty Over read → Exact IsY First More Empty Over read
same_exact {IsX = IsX} {IsY = IsY} {Over = Over} {read = read} into out e = record {
  first = λ t tokens x h. e.first t tokens x (out (t ∷ tokens) x h);
  empty = λ x h. e.empty x (out [] x h);
  again = λ front x rest h b. e.again front x rest (out front x h) b;
  answers = λ tokens. moved IsX IsY Over read read tokens into (λ ts b. refl) (read tokens) (e.answers tokens);
  start = record {
    more = e.start.more;
    value = e.start.value;
    member = into e.start.more e.start.value e.start.member;
    within = e.start.within;
  };
}
