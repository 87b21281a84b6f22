-- What a step does, from what its parts did.
use Rattle.std.proofs.Common.{◌≡◌, ◌⊎◌, ℕ, ◌+◌, ◌*◌, ◌<◌, ◌≤◌, List, [], ◌∷◌, ◌++◌, true, false, Some, slice_index}
use Rattle.std.proofs.Common.{slice_set, true≢false, mul-le-mul_right, append_assoc, sym, refl, ap, ◌∙◌, subst, inl}
use Rattle.std.proofs.Common.{inr, ⊎_elim, arith}
use Rattle.board_rule.specs.Meaning.{Meaning}
use Rattle.board_rule.specs.Words.{mem, cell_word, run_word}
use Rattle.board_rule.specs.Looks.{Looked}
use Rattle.board_rule.specs.Seats.{fresh_right, changed}
use Rattle.board_rule.specs.declared.hands.Hands.{Hands}
use Rattle.goal_board.specs.declared.board.Right.{Right}
use Rattle.goal_board.specs.Alone.{IsReadyIn}
use Rattle.goal_board.specs.RightCalls.{ShowsBusy}
use Rattle.goal_board.proofs.Seen.{looked_later}
use Rattle.board_moves.specs.Counts.{empty_count, open_count, Advances, AdvancesAlone, finishes, fills, waits}
use Rattle.board_moves.specs.Counts.{has_ready}
use Rattle.board_moves.proofs.CountLemmas.{number_at_most, CountsClaim, claim_counts}
use Rattle.job_scheduler.specs.Workers.{OnlyLooked}
use Rattle.job_scheduler.specs.Claims.{LooksAndClaims, FindsAllBusy, FindsRootOpen, FindsRootClosed, FindsFullSet}
use Rattle.job_scheduler.specs.Steps.{Keeps, TurnKeeps, FinishesOne, SuspendsOne, RunsOne, RunsOut, Runs, TellsIdle}
use Rattle.job_scheduler.specs.Steps.{TellsDone, TellsFull, Steps, StepsAlone, work_left}
use Rattle.job_scheduler.specs.declared.stepped.Stepped.{Stepped}
use Rattle.job_scheduler.specs.declared.stepped.Stepped.TheVariants as stepped
use Rattle.job_scheduler.proofs.Looking.{busy_later, open_earlier, full_later, looks_both, looks_later, alone_stays}
use Rattle.job_scheduler.proofs.Finding.{claims_later}

-- a turn that advances leaves less to do than there was before the claim
pub advances_less : (meaning : Meaning) (capacity : ℕ) (before middle after : List ℕ)
    → CountsClaim meaning capacity before middle → Advances meaning capacity middle after
    → work_left meaning capacity after < work_left meaning capacity before
advances_less meaning capacity before middle after c (finishes fewer same) =
    let few = number_at_most (has_ready meaning (mem after)) capacity in
    let less : (open_count capacity after + empty_count capacity after + 1) *
    (capacity + 1) ≤ (open_count capacity before + empty_count
    capacity before) * (capacity + 1) =
    mul-le-mul_right (capacity + 1) (omega (arith, c.same_empty, c.same_open, fewer, same)) in
    omega (arith, less, few)
advances_less meaning capacity before middle after c (fills same fewer) =
    let few = number_at_most (has_ready meaning (mem after)) capacity in
    let less : (open_count capacity after + empty_count capacity after + 1) *
    (capacity + 1) ≤ (open_count capacity before + empty_count
    capacity before) * (capacity + 1) =
    mul-le-mul_right (capacity + 1) (omega (arith, c.same_empty, c.same_open, fewer, same)) in
    omega (arith, less, few)
advances_less meaning capacity before middle after c (waits same same_empty same_ready) =
    let less : (open_count capacity after + empty_count capacity after) *
    (capacity + 1) ≤ (open_count capacity before + empty_count
    capacity before) * (capacity + 1) =
    mul-le-mul_right (capacity + 1) (omega (arith, c.same_empty, c.same_open, same, same_empty)) in
    omega (arith, less, c.fewer_ready, same_ready)

-- what was found busy isn't ready in the words that were kept
busy_unready : (meaning : Meaning) (capacity : ℕ) (kept : List ℕ) (looks : List (ℕ × ℕ)) (at : ℕ)
    → ((word value : ℕ) → Looked looks word value → slice_index kept word ≡ value) → ShowsBusy meaning looks at
    → IsReadyIn meaning capacity kept at → ⊥
busy_unready meaning capacity kept looks at agrees (inl (word, look, none)) ready =
    let is : slice_index kept (cell_word at) ≡ word = agrees (cell_word at) word look in
    ⊎_elim (λ (e : word ≡ 0). ready.some_goal (is ∙ e))
    (λ (e : meaning.goal word ≡ false). true≢false (sym ready.is_goal ∙ (ap meaning.goal is ∙ e))) none
busy_unready meaning capacity kept looks at agrees (inr t) ready =
    let look : Looked looks (run_word at) t.run =
    subst (λ (l : List (ℕ × ℕ)). Looked l (run_word at) t.run) (sym t.split)
    (looked_later t.later t.earlier (run_word at) t.run t.found) in
    t.taken (sym (agrees (run_word at) t.run look) ∙ ready.ready)

module _ {R : Type 0} where
  -- what came of a turn, by the same number
  pub runs_as : (number other place : ℕ) (v : Hands R) (result : Stepped) (w : Hands R) → number ≡ other
      → Runs number place v result w → Runs other place v result w
  runs_as number other place v result w same r = subst (λ n. Runs n place v result w) same r

  -- a seat that only looked
  pub looked_keeps : (v w : Hands R) → OnlyLooked v w → Keeps v w
  looked_keeps v w a = record {
    parts = ap (λ (h : Hands R). h.parts) a.hands_are;
    rights = ap (λ (h : Hands R). h.rights) a.hands_are;
    looks = looks_later v w a;
  }

module _ {R : Type 0} (meaning : Meaning) (capacity : ℕ) where
  -- what a claim leaves as it was, and what it adds
  module _ (u : Hands R) (right : Right) (v : Hands R) (t : LooksAndClaims meaning capacity u right v) where
    pub claim_only : u.rights ≡ [] → v.rights ≡ fresh_right right.place ∷ []
    claim_only free = ap (λ (h : Hands R). h.rights) t.claims.hands_are
        ∙ (ap (λ (h : Hands R). fresh_right right.place ∷ h.rights) t.looks.hands_are
        ∙ ap (λ rights. fresh_right right.place ∷ rights) free)

    claim_claims : v.claims ≡ right.place ∷ u.claims
    claim_claims = ap (λ (h : Hands R). h.claims) t.claims.hands_are
        ∙ ap (λ (h : Hands R). right.place ∷ h.claims) t.looks.hands_are

    claim_parts : v.parts ≡ u.parts
    claim_parts = ap (λ (h : Hands R). h.parts) t.claims.hands_are ∙ ap (λ (h : Hands R). h.parts) t.looks.hands_are

    claim_done : v.done ≡ u.done
    claim_done = ap (λ (h : Hands R). h.done) t.claims.hands_are ∙ ap (λ (h : Hands R). h.done) t.looks.hands_are

    claim_suspensions : v.suspensions ≡ u.suspensions
    claim_suspensions = ap (λ (h : Hands R). h.suspensions) t.claims.hands_are
        ∙ ap (λ (h : Hands R). h.suspensions) t.looks.hands_are

    -- the looks of the claim and of those before it
    abbrev claim_more : List (ℕ × ℕ)
    claim_more = (run_word right.place, 0)
        ∷ ((run_word right.place, 0) ∷ ((cell_word right.place, right.goal) ∷ t.looks.more))

    claim_looks : v.looks ≡ claim_more ++ u.looks
    claim_looks = ap (λ (h : Hands R). h.looks) t.claims.hands_are
        ∙ ap (λ (h : Hands R). (run_word right.place, 0)
        ∷ ((run_word right.place, 0) ∷ ((cell_word right.place, right.goal) ∷ h.looks)))
        t.looks.hands_are

    -- of the words that a seat keeps while it is alone, one ready goal less is ready
    pub claim_alone : (kept : List ℕ) → u.alone ≡ Some kept
        → (v.alone ≡ Some (slice_set kept (run_word right.place) 256))
        × CountsClaim meaning capacity kept (slice_set kept (run_word right.place) 256)
    claim_alone kept is =
        let c = t.claims in
        let middle_is : t.middle.alone ≡ Some kept = alone_stays u t.middle t.looks ∙ is in
        let cell_is : slice_index kept (cell_word right.place) ≡ right.goal =
        c.looks.alone kept middle_is (cell_word right.place) right.goal (inr (inr (inl (refl, refl)))) in
        let run_is : slice_index kept (run_word right.place) ≡ 0 =
        c.looks.alone kept middle_is (run_word right.place) 0 (inl (refl, refl)) in (
          ap (λ (h : Hands R). h.alone) c.hands_are ∙ ap (changed (run_word right.place) 256) middle_is,
          claim_counts meaning capacity right.place kept c.its.near (c.lone kept middle_is)
              (λ e. c.its.some_goal (sym cell_is ∙ e)) (subst (λ g. meaning.goal g ≡ true) (sym cell_is) c.its.is_goal)
              run_is,
        )

    -- a turn after the claim
    pub turn_keeps : (w : Hands R) → u.rights ≡ [] → TurnKeeps v w right.place → Keeps u w
    turn_keeps w free k = record {
      parts = k.parts ∙ claim_parts;
      rights = k.rights (claim_only free) ∙ sym free;
      looks = λ word found look. k.looks word found (claims_later meaning capacity u right v t word found look);
    }

    runs_one : (number : ℕ) (w : Hands R) → TurnKeeps v w right.place → FinishesOne v w number right.place
        ⊎ SuspendsOne v w right.place → RunsOne u w number
    runs_one number w k (inl f) = record {
      place = right.place;
      claims = k.claims ∙ claim_claims;
      ends = inl (record {
        cost = f.cost;
        node = f.node;
        done = f.done ∙ ap (λ done. record {
          place = right.place;
          worker = number;
          cost = f.cost;
          node = f.node;
        } ∷ done) claim_done;
        suspensions = f.suspensions ∙ claim_suspensions;
      });
    }
    runs_one number w k (inr f) = record {
      place = right.place;
      claims = k.claims ∙ claim_claims;
      ends = inr (record {
        waits = f.waits;
        some_wait = f.some_wait;
        suspensions = f.suspensions ∙ ap (λ suspensions. record { place = right.place; waits = f.waits } ∷ suspensions)
            claim_suspensions;
        done = f.done ∙ claim_done;
      });
    }

    turn_full : (w : Hands R) → TurnKeeps v w right.place → RunsOut v w → TellsFull meaning capacity 0 u w
    turn_full w k o = record {
      runs_out = record {
        more = o.more ++ claim_more;
        looks = o.looks ∙ (ap (λ looks. o.more ++ looks) claim_looks ∙ sym (append_assoc o.more claim_more u.looks));
        full = full_later o.more claim_more o.full;
        done = o.done ∙ claim_done;
      };
      claims = inr (right.place, k.claims ∙ claim_claims);
    }

    pub turn_steps : (root number : ℕ) (result : Stepped) (w : Hands R) → TurnKeeps v w right.place
        → Runs number right.place v result w → Steps meaning capacity root number u result w
    turn_steps root number stepped.Ran w k r = runs_one number w k r
    turn_steps root number stepped.Idle w k r = absurd r
    turn_steps root number stepped.Done w k r = absurd r
    turn_steps root number stepped.Full w k r = let f = turn_full w k r in
        record { runs_out = f.runs_out; claims = f.claims }

    pub turn_alone : (number : ℕ) (result : Stepped) (w : Hands R) → Runs number right.place v result w
        → (result ≡ stepped.Ran → AdvancesAlone meaning capacity v w) → StepsAlone meaning capacity u result w
    turn_alone number stepped.Ran w r advances = λ kept is.
        let c = claim_alone kept is in
        let a = advances refl (slice_set kept (run_word right.place) 256) c.0 in
        (a.0, a.1, advances_less meaning capacity kept (slice_set kept (run_word right.place) 256) a.0 c.1 a.2)
    turn_alone number stepped.Idle w r advances = absurd r
    turn_alone number stepped.Done w r advances = tt
    turn_alone number stepped.Full w r advances = tt

  pub step_done : (root : ℕ) (v w : Hands R) → FindsRootClosed meaning capacity v root w
      → TellsDone meaning capacity root v w
  step_done root v w t = record { looks = t.looks; closed = t.closed; left_out = t.left_out }

  pub step_full : (root : ℕ) (v w : Hands R) → FindsFullSet meaning capacity v w → TellsFull meaning capacity root v w
  step_full root v w t = record {
    runs_out = record {
      more = t.looks.more;
      looks = ap (λ (h : Hands R). h.looks) t.looks.hands_are;
      full = t.full;
      done = ap (λ (h : Hands R). h.done) t.looks.hands_are;
    };
    claims = inl (ap (λ (h : Hands R). h.claims) t.looks.hands_are);
  }

  -- the root goal was found open, and then no goal ready
  pub step_idle : (root : ℕ) (u v w : Hands R) → FindsRootOpen meaning capacity u root v
      → FindsAllBusy meaning capacity v 0 capacity w → TellsIdle meaning capacity root u w
  step_idle root u v w a t = record {
    looks = looks_both u v w a.looks t.looks;
    busy = λ at below. busy_later meaning t.looks.more a.looks.more at (t.busy at (omega arith) below);
    root_open = open_earlier t.looks.more a.looks.more root a.root_open;
  }

  -- so a seat that is alone, without a right, finds some goal ready
  pub idle_alone : (root : ℕ) (u v w : Hands R) → u.rights ≡ [] → FindsRootOpen meaning capacity u root v
      → FindsAllBusy meaning capacity v 0 capacity w → (kept : List ℕ) → u.alone ≡ Some kept → ⊥
  idle_alone root u v w free a t kept is =
      let r = a.ready kept is free in
      busy_unready meaning capacity kept t.looks.more r.0
      (λ word value look. t.looks.alone kept (alone_stays u v a.looks ∙ is) word value look)
      (t.busy r.0 (omega arith) r.1.near) r.1
