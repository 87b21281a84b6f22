-- What comes of claims, sweeps and looks at the root goal, one after the other.
use Rattle.std.proofs.Common.{◌≡◌, ℕ, ◌+◌, ◌<◌, ◌≤◌, [], ◌∷◌, Bool, true, false, Option, None, Some, true≢false, sym}
use Rattle.std.proofs.Common.{refl, subst, inl, inr, ⊎_elim, arith}
use Rattle.std.proofs.lemmas.Bool.{cases_lt}
use mathlib.Core.Logic.{dite}
use native.Mathlib.Decide.{ℕ_discrete}
use Rattle.board_rule.specs.Meaning.{Meaning}
use Rattle.board_rule.specs.Words.{full_word, head_word}
use Rattle.board_rule.specs.Looks.{Looked, ShowsFull, ShowsClosed, seen_closed}
use Rattle.board_rule.specs.declared.hands.Hands.{Hands}
use Rattle.goal_board.specs.declared.board.Right.{Right}
use Rattle.goal_board.specs.declared.answers.Answer.{Answer}
use Rattle.goal_board.specs.Calls.{Reads, ReadsFull}
use Rattle.goal_board.specs.RightCalls.{ShowsBusy, ClaimsGoal, Claims}
use Rattle.job_scheduler.specs.Workers.{OnlyLooked, ShowsGoal, Later}
use Rattle.job_scheduler.specs.Claims.{LooksAndClaims, MayClaimOne, FindsAllBusy, FindsRootOpen, FindsRootClosed}
use Rattle.job_scheduler.specs.Claims.{FindsFullSet}
use Rattle.job_scheduler.specs.Claims.{Seeks}
use Rattle.job_scheduler.specs.declared.sought.Sought.{Sought}
use Rattle.job_scheduler.specs.declared.sought.Sought.TheVariants as sought
use Rattle.job_scheduler.proofs.Looking.{busy_later, busy_earlier, closed_later, full_later, no_look, looks_both}
use Rattle.job_scheduler.proofs.Looking.{looks_later}

module _ {R : Type 0} (meaning : Meaning) (capacity : ℕ) where
  -- one claim
  pub claims_one : (v : Hands R) (at : ℕ) (result : Option Right) (w : Hands R) → Claims meaning capacity v at result w
      → MayClaimOne meaning capacity v result w
  claims_one v at (Some right) w t = record {
    middle = v;
    looks = no_look v;
    claims = subst (λ p. ClaimsGoal meaning capacity v p right w) (sym t.there) t;
  }
  claims_one v at None w t = record { more = t.more; hands_are = t.hands_are; alone = t.looks.alone }

  -- a claim after looks
  pub claims_after : (u v : Hands R) (right : Right) (w : Hands R) → OnlyLooked u v
      → LooksAndClaims meaning capacity v right w → LooksAndClaims meaning capacity u right w
  claims_after u v right w a t = record {
    middle = t.middle;
    looks = looks_both u v t.middle a t.looks;
    claims = t.claims;
  }

  -- what was seen was seen
  pub claims_later : (v : Hands R) (right : Right) (w : Hands R) → LooksAndClaims meaning capacity v right w
      → Later v.looks w.looks
  claims_later v right w t word found look =
      subst (λ (h : Hands R). Looked h.looks word found) (sym t.claims.hands_are)
      (inr (inr (inr (looks_later v t.middle t.looks word found look))))

  pub may_claim_later : (v : Hands R) (result : Option Right) (w : Hands R) → MayClaimOne meaning capacity v result w
      → Later v.looks w.looks
  may_claim_later v (Some right) w t = claims_later v right w t
  may_claim_later v None w t = looks_later v w t

  pub claim_later : (v : Hands R) (at : ℕ) (result : Option Right) (w : Hands R) → Claims meaning capacity v at result w
      → Later v.looks w.looks
  claim_later v at result w t = may_claim_later v result w (claims_one v at result w t)

  -- no place was looked at
  pub none_busy : (v : Hands R) (from : ℕ) → FindsAllBusy meaning capacity v from from v
  none_busy v from = record { looks = no_look v; busy = λ at above below. absurd (omega arith) }

  -- one place more
  pub busy_more : (u v w : Hands R) (from at : ℕ) → FindsAllBusy meaning capacity u from at v
      → Claims meaning capacity v at None w → FindsAllBusy meaning capacity u from (at + 1) w
  busy_more u v w from at a t =
      let one : OnlyLooked v w = record { more = t.more; hands_are = t.hands_are; alone = t.looks.alone } in record {
        looks = looks_both u v w a.looks one;
        busy = λ p above below. dite (ℕ_discrete p at)
            (λ e. busy_later meaning t.more a.looks.more p (subst (ShowsBusy meaning t.more) (sym e) t.busy))
            (λ ne. busy_earlier meaning t.more a.looks.more p (a.busy p above (omega arith)));
      }

  -- further looks
  pub busy_after : (u v w : Hands R) (from to : ℕ) → FindsAllBusy meaning capacity u from to v → OnlyLooked v w
      → FindsAllBusy meaning capacity u from to w
  busy_after u v w from to a b = record {
    looks = looks_both u v w a.looks b;
    busy = λ p above below. busy_earlier meaning b.more a.looks.more p (a.busy p above below);
  }

  -- the places before, and those from there on, in whatever order they were swept
  pub busy_both : (u v w : Hands R) (from mid to : ℕ) → FindsAllBusy meaning capacity u from mid v
      → FindsAllBusy meaning capacity v mid to w → FindsAllBusy meaning capacity u from to w
  busy_both u v w from mid to a b = record {
    looks = looks_both u v w a.looks b.looks;
    busy = λ p above below. ⊎_elim
        (λ (lt : p < mid). busy_earlier meaning b.looks.more a.looks.more p (a.busy p above lt))
        (λ (le : mid ≤ p). busy_later meaning b.looks.more a.looks.more p (b.busy p le below))
        (cases_lt p mid);
  }

  pub busy_round : (u v w : Hands R) (mid to : ℕ) → FindsAllBusy meaning capacity u mid to v
      → FindsAllBusy meaning capacity v 0 mid w → FindsAllBusy meaning capacity u 0 to w
  busy_round u v w mid to a b = record {
    looks = looks_both u v w a.looks b.looks;
    busy = λ p above below. ⊎_elim
        (λ (lt : p < mid). busy_later meaning b.looks.more a.looks.more p (b.busy p above lt))
        (λ (le : mid ≤ p). busy_earlier meaning b.looks.more a.looks.more p (a.busy p le below))
        (cases_lt p mid);
  }

  -- a look at the root goal
  pub answer_looks : (v : Hands R) (at : ℕ) (result : Option Answer) (w : Hands R)
      → Reads meaning capacity v at result w
      → OnlyLooked v w
  answer_looks v at (Some answer) w t =
      record {
        more = (_, answer.node) ∷ ((_, answer.cost) ∷ ((head_word at, t.head) ∷ []));
        hands_are = t.hands_are;
        alone = t.looks.alone;
      }
  answer_looks v at None w t = record {
    more = (head_word at, t.head) ∷ [];
    hands_are = t.hands_are;
    alone = t.looks.alone;
  }

  pub answer_closed : (v : Hands R) (at : ℕ) (answer : Answer) (w : Hands R)
      → Reads meaning capacity v at (Some answer) w
      → FindsRootClosed meaning capacity v at w
  answer_closed v at answer w t = record {
    looks = record {
      more = (_, answer.node) ∷ ((_, answer.cost) ∷ ((head_word at, t.head) ∷ []));
      hands_are = t.hands_are;
      alone = t.looks.alone;
    };
    closed = (t.head, inr (inr (inl (refl, refl))), t.closed);
    left_out = t.left_out;
  }

  -- a look at the full word
  abbrev pub full_looks : (v : Hands R) (full : Bool) (w : Hands R) → ReadsFull meaning capacity v full w
      → OnlyLooked v w
  full_looks v full w t = record { more = (0, t.value) ∷ []; hands_are = t.hands_are; alone = t.alone }

  pub full_set : (u v w : Hands R) → OnlyLooked u v → ReadsFull meaning capacity v true w
      → FindsFullSet meaning capacity u w
  full_set u v w a t = record {
    looks = looks_both u v w a (full_looks v true w t);
    full = (t.value, inl (refl, refl), t.set refl);
  }

  -- the root goal was found open, and then the full word not set
  pub root_open : (u v w : Hands R) (at goal : ℕ) → ShowsGoal meaning u.looks at goal
      → Reads meaning capacity u at None v
      → ReadsFull meaning capacity v false w → FindsRootOpen meaning capacity u at w
  root_open u v w at goal shown t f =
      let one : OnlyLooked u v = record {
        more = (head_word at, t.head) ∷ [];
        hands_are = t.hands_are;
        alone = t.looks.alone;
      } in record {
        looks = looks_both u v w one (full_looks v false w f);
        root_open = (t.head, inr (inl (refl, refl)), t.not_closed);
        ready = λ kept is free. t.lone kept is free goal shown.some_goal shown.stands shown.is_goal;
      }

  -- a goal whose head was seen closed isn't found open
  pub not_open : (v w : Hands R) (at goal : ℕ) → at < capacity → ShowsGoal meaning v.looks at goal
      → ShowsClosed v.looks at
      → Reads meaning capacity v at None w → ⊥
  not_open v w at goal near shown closed t =
      t.unfinished goal shown.some_goal shown.stands (seen_closed goal at near shown.some_goal shown.stands closed)

  -- a part of the places
  pub busy_within : (u v : Hands R) (from to at : ℕ) → to ≤ at → FindsAllBusy meaning capacity u from at v
      → FindsAllBusy meaning capacity u from to v
  busy_within u v from to at le a = record { looks = a.looks; busy = λ p above below. a.busy p above (omega arith) }

  -- after looks
  pub closed_after : (u v : Hands R) (root : ℕ) (w : Hands R) → OnlyLooked u v
      → FindsRootClosed meaning capacity v root w
      → FindsRootClosed meaning capacity u root w
  closed_after u v root w a t = record {
    looks = looks_both u v w a t.looks;
    closed = closed_later t.looks.more a.more root t.closed;
    left_out = t.left_out;
  }

  pub full_after : (u v w : Hands R) → OnlyLooked u v → FindsFullSet meaning capacity v w
      → FindsFullSet meaning capacity u w
  full_after u v w a t = record { looks = looks_both u v w a t.looks; full = full_later t.looks.more a.more t.full }

  -- what ends a search ends one that began earlier
  pub seeks_on : (u v w : Hands R) (root at end from to : ℕ) (answer : Sought) → (answer ≡ sought.Busy → ⊥)
      → OnlyLooked u v → Seeks meaning capacity v root at end answer w → Seeks meaning capacity u root from to answer w
  seeks_on u v w root at end from to (sought.Claimed right) some a t = claims_after u v right w a t
  seeks_on u v w root at end from to sought.Busy some a t = absurd (some refl)
  seeks_on u v w root at end from to sought.Done some a t = closed_after u v root w a t
  seeks_on u v w root at end from to sought.Full some a t = full_after u v w a t

  pub seeks_after : (u v w : Hands R) (root from to : ℕ) (answer : Sought) → OnlyLooked u v
      → Seeks meaning capacity v root from to answer w → Seeks meaning capacity u root from to answer w
  seeks_after u v w root from to (sought.Claimed right) a t = claims_after u v right w a t
  seeks_after u v w root from to sought.Busy a t = record {
    looks = looks_both u v w a t.looks;
    busy = λ p above below. busy_later meaning t.looks.more a.more p (t.busy p above below);
  }
  seeks_after u v w root from to sought.Done a t = closed_after u v root w a t
  seeks_after u v w root from to sought.Full a t = full_after u v w a t

  -- the places from one on were found busy, and then those before it were looked at
  pub seeks_round : (u v w : Hands R) (root mid end to : ℕ) (answer : Sought) → to ≤ end
      → FindsAllBusy meaning capacity u mid end v → Seeks meaning capacity v root 0 mid answer w
      → Seeks meaning capacity u root 0 to answer w
  seeks_round u v w root mid end to (sought.Claimed right) le a t = claims_after u v right w a.looks t
  seeks_round u v w root mid end to sought.Busy le a t = busy_round u v w mid to (busy_within u v mid to end le a) t
  seeks_round u v w root mid end to sought.Done le a t = closed_after u v root w a.looks t
  seeks_round u v w root mid end to sought.Full le a t = full_after u v w a.looks t

  -- where the full word was seen set it is found set
  pub full_stays : (u v w : Hands R) → OnlyLooked u v → ShowsFull u.looks → ReadsFull meaning capacity v false w → ⊥
  full_stays u v w a full t = true≢false (sym (t.stays (full.0, looks_later u v a full_word full.0 full.1, full.2)))
