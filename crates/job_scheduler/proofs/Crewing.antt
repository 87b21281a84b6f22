-- Lists of workers: one more, one less, and what each gives.
use Rattle.std.proofs.Common.{◌≡◌, ℕ, zero, suc, ◌+◌, ◌<◌, All, List, [], ◌∷◌, ◌++◌, length, slice_index_or, sym, ap}
use Rattle.std.proofs.Common.{subst, refl, inl, inr, arith}
use lib.Seq.{take-append_seam, drop-append_seam}
use Rattle.std.proofs.lemmas.List.Elements.{All-append, All-take, All-drop}
use Rattle.board_rule.specs.Meaning.{Meaning}
use Rattle.board_rule.specs.Seats.{parted, part, joined, lasting}
use Rattle.board_rule.specs.Records.{Ended}
use Rattle.board_rule.specs.Words.{full_word}
use Rattle.board_rule.specs.Looks.{ShowsClosed, ShowsFull}
use Rattle.board_rule.specs.declared.hands.Hands.{Hands}
use Rattle.board_rule.proofs.Lists.{total-append, each_append}
use Rattle.goal_board.proofs.Seen.{looked_earlier}
use Rattle.goal_board.specs.declared.board.Board.{Board}
use Rattle.goal_board.specs.Seats.{hands}
use Rattle.job_scheduler.specs.Workers.{IsFreeWorkerOf}
use Rattle.job_scheduler.specs.Crews.{AreDoneBelow, IsOfCrew, ShowsEnd, parts_of}
use Rattle.job_scheduler.specs.declared.worker.Worker.{Worker}
use Rattle.job_scheduler.proofs.Looking.{closed_earlier}

module _ {A : Type 0} (P : A → Type 0) where
  all_one : (x : A) → P x → All P (x ∷ [])
  all_one x p zero d near = p
  all_one x p (suc k) d near = absurd (omega arith)

  pub all_push : (xs ys : List A) (x : A) → ys ≡ xs ++ x ∷ [] → All P xs → P x → All P ys
  all_push xs ys x is h p = subst (All P) (sym is) (All-append P xs (x ∷ []) h (all_one x p))

  pub all_pop : (xs ys : List A) (x : A) → ys ≡ xs ++ x ∷ [] → All P ys → All P xs
  all_pop xs ys x is h = subst (All P) (take-append_seam xs (x ∷ []))
      (All-take P (length xs) (xs ++ x ∷ []) (subst (All P) is h))

  pub last_pop : (xs ys : List A) (x : A) → ys ≡ xs ++ x ∷ [] → All P ys → P x
  last_pop xs ys x is h = subst (All P) (drop-append_seam xs (x ∷ []))
      (All-drop P (length xs) (xs ++ x ∷ []) (subst (All P) is h)) 0 x (omega arith)

module _ {R : Type 0} where
  pub parts_push : (xs ys : List (Worker R)) (x : Worker R) → ys ≡ xs ++ x ∷ []
      → parts_of ys ≡ parts_of xs + (hands x.seat).parts
  parts_push xs ys x is = let e = ap (λ (l : List (Worker R)). parts_of l) is in let t =
      total-append (λ (w : Worker R). (hands w.seat).parts) xs (x ∷ []) in omega (arith, e, t)

  -- as many workers with the same parts, one by one
  pub parts_same : (xs ys : List (Worker R)) → length ys ≡ length xs
      → ((i : ℕ) (d : Worker R) → i < length xs
      → (hands (slice_index_or ys i d).seat).parts ≡ (hands (slice_index_or xs i d).seat).parts)
      → parts_of ys ≡ parts_of xs
  parts_same [] [] long same = refl
  parts_same [] (y ∷ ys) long same = absurd (omega arith)
  parts_same (x ∷ xs) [] long same = absurd (omega arith)
  parts_same (x ∷ xs) (y ∷ ys) long same =
      let first : (hands y.seat).parts ≡ (hands x.seat).parts = same 0 x (omega arith) in
      let rest = parts_same xs ys (omega arith) (λ i d near. same (suc i) d (omega arith)) in
      omega (arith, first, rest)

  module _ (meaning_of : R → Meaning) (b : Board R) (root goal n : ℕ) where
    -- who split another off
    pub member_left : (v w : Worker R) → IsOfCrew meaning_of b root goal n v → IsFreeWorkerOf meaning_of b root goal w
        → w.number ≡ v.number → hands w.seat ≡ parted (hands v.seat)
        → IsOfCrew meaning_of b root goal n w
    member_left v w old its same is = record {
      its = its;
      number = subst (λ k. k < n) (sym same) old.number;
      done = subst (AreDoneBelow n) (sym (ap (λ (h : Hands R). h.done) is)) old.done;
    }

    -- the other
    pub member_new : (v w : Worker R) (k : ℕ) → k < n → IsFreeWorkerOf meaning_of b root goal w → w.number ≡ k
        → hands w.seat ≡ part (hands v.seat) → IsOfCrew meaning_of b root goal n w
    member_new v w k small its same is = record {
      its = its;
      number = subst (λ j. j < n) (sym same) small;
      done = subst (AreDoneBelow n) (sym (ap (λ (h : Hands R). h.done) is)) tt;
    }

    -- who took another in
    pub member_joined : (v o w : Worker R) → IsOfCrew meaning_of b root goal n v → IsOfCrew meaning_of b root goal n o
        → IsFreeWorkerOf meaning_of b root goal w → w.number ≡ v.number
        → hands w.seat ≡ joined (hands v.seat) (hands o.seat) → IsOfCrew meaning_of b root goal n w
    member_joined v o w old other its same is = record {
      its = its;
      number = subst (λ k. k < n) (sym same) old.number;
      done = subst (AreDoneBelow n) (sym (ap (λ (h : Hands R). h.done) is))
          (each_append (λ (e : Ended). e.worker < n) (hands o.seat).done (hands v.seat).done other.done old.done);
    }

  -- what it has seen stays
  pub joined_ends : (root : ℕ) (v o w : Hands R) → w ≡ joined v o → ShowsEnd v.looks root → ShowsEnd w.looks root
  joined_ends root v o w is (inl closed) =
      inl (subst (λ (h : Hands R). ShowsClosed h.looks root) (sym is)
      (closed_earlier (lasting o.looks) v.looks root closed))
  joined_ends root v o w is (inr full) =
      inr (subst (λ (h : Hands R). ShowsFull h.looks) (sym is)
      (full.0, looked_earlier (lasting o.looks) v.looks full_word full.0 full.1, full.2))
