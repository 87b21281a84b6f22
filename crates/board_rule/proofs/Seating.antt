-- A board is sound once a seat was split in two or has taken in another.
use Rattle.std.proofs.Common.{◌≡◌, ℕ, ◌<◌, ◌≤◌, ◌≢◌}
use Rattle.std.proofs.Common.{List, [], ◌∷◌, ◌++◌, set, Some, sym, refl, ap, subst, ◌∙◌, inl, inr, ⊎_elim, arith}
use mathlib.Core.Option.{some}
use lib.ListN.{get_elem?}
use Rattle.atomic_table.specs.Table.{Splits, Joins}
use Rattle.atomic_table.proofs.Lists.{at_set, at_snoc, set_else}
use Rattle.board_rule.specs.Meaning.{Meaning}
use Rattle.board_rule.specs.Records.{Claimed, Paused, Ended}
use Rattle.board_rule.specs.Words.{mem}
use Rattle.board_rule.specs.Seats.{times, in_hand, lasting, spent, parted, part, joined}
use Rattle.board_rule.specs.Soundness.{IsRecorded, AreHands, OfAll, KeepsAlone, IsSound, held, ended, IsAwake}
use Rattle.board_rule.specs.declared.hands.Hands.{Hands}
use Rattle.board_rule.proofs.Lists.{some_below, each_append, times-append, total-append, total-set, total_same}
use Rattle.board_rule.proofs.Frames.{are_rights_as, awake_has, of_all_set}
use Rattle.board_rule.proofs.Chains.{count}
use Rattle.board_rule.proofs.Waits.{waits_as, pending_as}
use Rattle.board_rule.proofs.Looking.{Holds}
use Rattle.board_rule.proofs.Opening.{hands_of_nothing}
use Rattle.board_rule.proofs.SeenByTwo.{looked_append, lasting_looked, absence_append, looked_right}
use Rattle.board_rule.specs.May.{HasPart, MaySplit, MayJoin}

module _ {R : Type 0} where
  -- a seat that is not alone keeps nothing of the words
  not_alone : (words : List ℕ) (views : List (Hands R)) (u : Hands R) → ((kept : List ℕ) → u.alone ≡ Some kept → ⊥)
      → KeepsAlone words views u
  not_alone words views u never = record {
    every_word = λ kept is. absurd (never kept is);
    only = λ kept is. absurd (never kept is);
  }

  -- where there are two seats, none is alone
  none_alone : (words : List ℕ) (views : List (Hands R)) (id other : ℕ) (v w : Hands R) → get_elem? views id ≡ some v
      → get_elem? views other ≡ some w → other ≢ id
      → OfAll (KeepsAlone words views) views → (k : ℕ) (u : Hands R) → get_elem? views k ≡ some u → (kept : List ℕ)
      → u.alone ≡ Some kept → ⊥
  none_alone words views id other v w mine its apart old k u there kept is =
      apart (omega (arith, (old k u there).only kept is, some_below views id v mine, some_below views other w its))

module _ {R : Type 0} (meaning_of : R → Meaning) (rules : R) (capacity : ℕ) where
  -- a board is sound once one of its seats was split
  split_keeps : (words : List ℕ) (views : List (Hands R)) (id : ℕ) (v : Hands R)
      → IsSound (meaning_of rules) rules capacity words views → get_elem? views id ≡ some v → 2 ≤ v.parts
      → IsSound (meaning_of rules) rules capacity words (set views id (parted v) ++ part v ∷ [])
  split_keeps words views id v sound mine two =
      let k = sound.by_kinds in
      let own = k.hands id v mine in
      let has = awake_has rules capacity v (omega arith) own.awake in
      let left : Hands R = parted v in
      let right : Hands R = part v in
      let rest : List (Hands R) = set views id left in
      let h : (p : ℕ) → held (rest ++ right ∷ []) p ≡ held views p = λ p.
      let f : Hands R → ℕ = λ u. times (λ (r : Claimed). r.place) p u.rights in
      omega (arith, total-append f rest (right ∷ []), total_same f views id v left mine refl) in
      let d : (p : ℕ) → ended (rest ++ right ∷ []) p ≡ ended views p = λ p.
      let f : Hands R → ℕ = λ u. times (λ (e : Ended). e.place) p u.done in
      omega (arith, total-append f rest (right ∷ []), total_same f views id v left mine refl) in
      let left_awake : IsAwake rules capacity left = inr (omega arith, has.1, has.2) in
      let is_left : AreHands (meaning_of rules) rules capacity (mem words) left = assumption (own, left_awake) in
      let right_awake : IsAwake rules capacity right = inr (omega arith, has.1, has.2) in
      let nothing = hands_of_nothing (meaning_of rules) rules capacity (mem words) spent (inl refl) in
      let is_right : AreHands (meaning_of rules) rules capacity (mem words) right =
      assumption (own.stays, own.absence, nothing, right_awake) in
      record {
        count = sound.count;
        by_kinds = record {
          cells = k.cells;
          blank = k.blank;
          rights = λ p near. are_rights_as (mem words).run (mem words).head views (rest ++ right ∷ []) p (h p) (d p)
              (k.rights p near);
          waits = waits_as (meaning_of rules) capacity (mem words).cell (mem words).head (mem words).next
              (mem words).run
              (mem words).run views (rest ++ right ∷ []) (λ p b few. refl)
              (λ q. let f : Hands R → ℕ = λ u. count q (in_hand u.pending u.walk) in
              omega (arith, total-append f rest (right ∷ []), total_same f views id v left mine refl)) k.waits;
          promises = k.promises;
          full = k.full;
          hands = λ j u there. ⊎_elim
              (λ old. of_all_set (AreHands (meaning_of rules) rules capacity (mem words)) views id left k.hands
              is_left j u
              old)
              (λ e. subst (AreHands (meaning_of rules) rules capacity (mem words)) e is_right)
              (at_snoc rest right u j there);
          parts = let f : Hands R → ℕ = λ u. u.parts in
              omega (arith, total-append f rest (right ∷ []), total-set f views id v left mine, k.parts);
        };
        alone = λ j u there. not_alone words (rest ++ right ∷ []) u (⊎_elim
            (λ old. ⊎_elim
            (λ t. subst (λ (x : Hands R). (kept : List ℕ) → x.alone ≡ Some kept → ⊥) t.1 (λ kept is. let no : ⊥ = cc in
            no))
            (λ t. none_alone words views id j v u mine t.1 t.0 sound.alone j u t.1)
            (at_set views id j left u old))
            (λ e. subst (λ (x : Hands R). (kept : List ℕ) → x.alone ≡ Some kept → ⊥) e (λ kept is. let no : ⊥ = cc in
            no))
            (at_snoc rest right u j there));
      }

  pub split_allowed : (id : ℕ) (v : Hands R) → MaySplit v
      → Splits (Holds meaning_of rules capacity) id v (parted v) (part v)
  split_allowed id v two s sound mine = split_keeps s.words s.views id v sound mine two

  -- a board is sound once one of its seats took in another
  join_keeps : (words : List ℕ) (views : List (Hands R)) (id other : ℕ) (v w : Hands R)
      → IsSound (meaning_of rules) rules capacity words views → get_elem? views id ≡ some v → other ≢ id
      → get_elem? views other ≡ some w → 0 < v.parts → MayJoin w
      → IsSound (meaning_of rules) rules capacity words (set (set views id (joined v w)) other spent)
  join_keeps words views id other v w sound mine apart its some_part may =
      let k = sound.by_kinds in
      let own = k.hands id v mine in
      let theirs = k.hands other w its in
      let has = awake_has rules capacity v some_part own.awake in
      let both : Hands R = joined v w in
      let middle : List (Hands R) = set views id both in
      let after : List (Hands R) = set middle other spent in
      let its_still : get_elem? middle other ≡ some w = set_else views id other both apart ∙ its in
      let none_right : (p : ℕ) → times (λ (r : Claimed). r.place) p w.rights ≡ 0 =
      λ p. ap (times (λ (r : Claimed). r.place) p) may.no_right in
      let h : (p : ℕ) → held after p ≡ held views p = λ p.
      let f : Hands R → ℕ = λ u. times (λ (r : Claimed). r.place) p u.rights in
      omega (arith, total-set f middle other w spent its_still, total_same f views id v both mine refl, none_right p) in
      let d : (p : ℕ) → ended after p ≡ ended views p = λ p.
      let f : Hands R → ℕ = λ u. times (λ (e : Ended). e.place) p u.done in
      omega (
        arith,
        total-set f middle other w spent its_still,
        total-set f views id v both mine,
        times-append (λ (e : Ended). e.place) p w.done v.done,
      ) in
      let is_both : AreHands (meaning_of rules) rules capacity (mem words) both = record {
        stays = record {
          cells = λ p found at some_found. ⊎_elim (λ t.
              theirs.stays.cells p found (lasting_looked w.looks _ found t) some_found)
              (λ t. own.stays.cells p found t some_found) (looked_append (lasting w.looks) v.looks _ found at);
          heads = λ p found at. ⊎_elim (λ t. theirs.stays.heads p found (lasting_looked w.looks _ found t))
              (λ t. own.stays.heads p found t) (looked_append (lasting w.looks) v.looks _ found at);
          set_full = λ found at some_found. ⊎_elim
              (λ t. theirs.stays.set_full found (lasting_looked w.looks _ found t) some_found)
              (λ t. own.stays.set_full found t some_found) (looked_append (lasting w.looks) v.looks _ found at);
        };
        absence = absence_append (meaning_of rules) capacity w.looks v.looks own.absence;
        recorded = each_append (IsRecorded capacity (mem words).head (mem words).cost (mem words).node (mem words).who)
            w.done v.done theirs.recorded own.recorded;
        stored = own.stored;
        ends = λ p. omega (
          arith,
          own.ends p,
          theirs.ends p,
          none_right p,
          times-append (λ (c : ℕ). c) p w.claims v.claims,
          times-append (λ (x : Paused). x.place) p w.suspensions v.suspensions,
          times-append (λ (e : Ended). e.place) p w.done v.done,
        );
        raised = own.raised;
        pends = pending_as (meaning_of rules) capacity (mem words).cell (mem words).next (mem words).cell
            (mem words).next
            v.looks both.looks v.rights v.rights v.pending
            (λ x is old. record {
              has = old.has;
              its_wait = old.its_wait;
              seen = old.seen;
              looked = λ head at. looked_right (lasting w.looks) v.looks _ head (old.looked head at);
            }) own.pends;
        walked = own.walked;
        awake = inr (omega arith, has.1, has.2);
      } in
      let is_spent : AreHands (meaning_of rules) rules capacity (mem words) spent =
      hands_of_nothing (meaning_of rules) rules capacity (mem words) spent (inl refl) in
      let all = AreHands (meaning_of rules) rules capacity (mem words) in
      record {
        count = sound.count;
        by_kinds = record {
          cells = k.cells;
          blank = k.blank;
          rights = λ p near. are_rights_as (mem words).run (mem words).head views after p (h p) (d p) (k.rights p near);
          waits = waits_as (meaning_of rules) capacity (mem words).cell (mem words).head (mem words).next
              (mem words).run
              (mem words).run views after (λ p b few. refl)
              (λ q. let f : Hands R → ℕ = λ u. count q (in_hand u.pending u.walk) in
              omega (
                arith,
                total-set f middle other w spent its_still,
                total_same f views id v both mine refl,
                ap (count q) (ap (λ o. in_hand o w.walk) may.free ∙ may.walked),
              )) k.waits;
          promises = k.promises;
          full = k.full;
          hands = of_all_set all middle other spent (of_all_set all views id both k.hands is_both) is_spent;
          parts = let f : Hands R → ℕ = λ u. u.parts in
              omega (arith, total-set f middle other w spent its_still, total-set f views id v both mine, k.parts);
        };
        alone = λ j u there. not_alone words after u (⊎_elim
            (λ t. subst (λ (x : Hands R). (kept : List ℕ) → x.alone ≡ Some kept → ⊥) t.1 (λ kept is. let no : ⊥ = cc in
            no))
            (λ t. ⊎_elim
            (λ q. subst (λ (x : Hands R). (kept : List ℕ) → x.alone ≡ Some kept → ⊥) q.1
            (none_alone words views id other v w mine its apart sound.alone id v mine))
            (λ q. none_alone words views id other v w mine its apart sound.alone j u q.1)
            (at_set views id j both u t.1))
            (at_set middle other j spent u there));
      }

  pub join_allowed : (id other : ℕ) (v w : Hands R) → HasPart v → MayJoin w
      → Joins (Holds meaning_of rules capacity) id v other w (joined v w) spent
  join_allowed id other v w some_part may s sound mine apart its =
      join_keeps s.words s.views id other v w sound mine apart (sym (set_else s.views id other (joined v w) apart)
      ∙ its) some_part may
