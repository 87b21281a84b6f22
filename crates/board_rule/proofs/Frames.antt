-- What a step leaves as it was, whatever its kind.
use Rattle.std.proofs.Common.{◌≡◌, ℕ, ◌<◌, ◌≤◌, ◌≢◌, List, length, get_or, set, Option, None, Some, sym, refl, ap}
use Rattle.std.proofs.Common.{subst, ◌∙◌, ⊎_elim, arith, length-set}
use mathlib.Core.Option.{some}
use lib.ListN.{get_elem?}
use Rattle.atomic_table.proofs.Lists.{at_set}
use Rattle.board_rule.specs.Meaning.{Meaning}
use Rattle.board_rule.specs.Records.{Claimed, Ended}
use Rattle.board_rule.specs.Seats.{times, spent, changed}
use Rattle.board_rule.specs.Soundness.{AreRights, KeepsRights, IsAwake, OfAll, KeepsAlone, IsSound, held, ended, IsFull}
use Rattle.board_rule.specs.Soundness.{AreCells, KeepsBlank, KeepsWaits, KeepsPromises, AreHands, IsSoundBy}
use Rattle.board_rule.specs.Plays.{Moment, Leaves, Tells}
use Rattle.board_rule.specs.declared.hands.Hands.{Hands}
use Rattle.board_rule.proofs.Lists.{some_below, total_same}
use Rattle.board_rule.specs.Words.{Mem, mem}

module _ {R : Type 0} where
  -- a seat with a part is not spent
  pub awake_has : (rules : R) (capacity : ℕ) (v : Hands R) → 0 < v.parts → IsAwake rules capacity v → (1 ≤ v.parts)
      × (v.rules ≡ Some rules) × (v.capacity ≡ capacity)
  awake_has rules capacity v some-part is = ⊎_elim
      (λ (e : v ≡ spent). absurd (omega (arith, ap (λ (h : Hands R). h.parts) e))) (λ t. t) is

  -- a fact of all seats holds once one of them has other hands of which it holds
  pub of_all_set : (Fact : Hands R → Type 0) (views : List (Hands R)) (id : ℕ) (w : Hands R) → OfAll Fact views → Fact w
      → OfAll Fact (set views id w)
  of_all_set Fact views id w old new k u e =
      ⊎_elim (λ t. subst Fact t.1 new) (λ t. old k u t.1) (at_set views id k w u e)

  -- also where the fact of the others may depend on their being others
  pub of_others_set : (P Q : Hands R → Type 0) (views : List (Hands R)) (id : ℕ) (w : Hands R)
      → ((k : ℕ) (u : Hands R) → k ≢ id → get_elem? views k ≡ some u → P u → Q u) → OfAll P views → Q w
      → OfAll Q (set views id w)
  of_others_set P Q views id w follows old new k u e =
      ⊎_elim (λ t. subst Q t.1 new) (λ t. follows k u t.0 t.1 (old k u t.1)) (at_set views id k w u e)

  -- what is said of a place stays where the sums over rights and done stay
  pub are_rights_as : (run head : ℕ → ℕ) (old_views new_views : List (Hands R)) (p : ℕ)
      → held new_views p ≡ held old_views p → ended new_views p ≡ ended old_views p
      → AreRights run head old_views p → AreRights run head new_views p
  are_rights_as run head old_views new_views p h d old = record {
    once = omega (arith, h, d, old.once);
    running = omega (arith, h, d, old.running);
    small = old.small;
    closed = λ one. old.closed (sym d ∙ one);
    run_ended = λ one. old.run_ended (sym d ∙ one);
    is_open = λ zero_done. old.is_open (sym d ∙ zero_done);
  }

  -- the sums over rights and done stay where the seat's stay
  pub rights_stay : (capacity : ℕ) (run head : ℕ → ℕ) (views : List (Hands R)) (id : ℕ) (v w : Hands R)
      → get_elem? views id ≡ some v
      → ((p : ℕ) → times (λ (r : Claimed). r.place) p w.rights ≡ times (λ (r : Claimed). r.place) p v.rights)
      → w.done ≡ v.done
      → KeepsRights capacity run head views → KeepsRights capacity run head (set views id w)
  rights_stay capacity run head views id v w mine rights done old =
      let h : (p : ℕ) → held (set views id w) p ≡ held views p =
      λ p. total_same (λ (u : Hands R). times (λ (r : Claimed). r.place) p u.rights) views id v w mine (rights p) in
      let d : (p : ℕ) → ended (set views id w) p ≡ ended views p =
      λ p. total_same (λ (u : Hands R). times (λ (e : Ended). e.place) p u.done) views id v w mine
      (ap (times (λ (e : Ended). e.place) p) done) in
      λ p near. are_rights_as run head views (set views id w) p (h p) (d p) (old p near)

  -- where a seat that is alone keeps the board's words, all seats do
  pub alone_moved : (old_words new_words : List ℕ) (views : List (Hands R)) (id : ℕ) (v w : Hands R)
      → get_elem? views id ≡ some v
      → ((kept : List ℕ) → w.alone ≡ Some kept → (before : List ℕ) × (v.alone ≡ Some before)
      × (before ≡ old_words → kept ≡ new_words))
      → OfAll (KeepsAlone old_words views) views → OfAll (KeepsAlone new_words (set views id w)) (set views id w)
  alone_moved old_words new_words views id v w mine moves old =
      let count : length (set views id w) ≡ length views = length-set views id w in
      of_others_set (KeepsAlone old_words views) (KeepsAlone new_words (set views id w)) views id w
      (λ k u ne there keeps. record {
        every_word = λ kept is. absurd (ne (omega
            (arith, keeps.only kept is, some_below views k u there, some_below views id v mine)));
        only = λ kept is. count ∙ keeps.only kept is;
      })
      old
      (record {
        every_word = λ kept is. let m = moves kept is in m.2 ((old id v mine).every_word m.0 m.1);
        only = λ kept is. let m = moves kept is in count ∙ (old id v mine).only m.0 m.1;
      })

-- words that were changed come from words that were there
pub changed_from : (word x : ℕ) (o : Option (List ℕ)) (kept : List ℕ) → changed word x o ≡ Some kept → (before : List ℕ)
    × (o ≡ Some before) × (set before word x ≡ kept)
changed_from word x None kept e = let no : ⊥ = cc in absurd no
changed_from word x (Some before) kept e = (before, refl, cc)

module _ {R : Type 0} where
  -- a store in a word of the seat that is alone, as of the board
  pub alone_set : (words : List ℕ) (views : List (Hands R)) (id word x : ℕ) (v w : Hands R)
      → get_elem? views id ≡ some v → w.alone ≡ changed word x v.alone
      → OfAll (KeepsAlone words views) views → OfAll (KeepsAlone (set words word x) (set views id w)) (set views id w)
  alone_set words views id word x v w mine changes =
      alone_moved words (set words word x) views id v w mine
      (λ kept is. let t = changed_from word x v.alone kept (sym changes ∙ is) in
      (t.0, t.1, λ e. sym t.2 ∙ ap (λ (ws : List ℕ). set ws word x) e))

module _ {R : Type 0} (meaning : Meaning) (rules : R) (capacity : ℕ) where
  -- what has to hold of the words after a store, and of the seats, of which one has other hands
  pub record HoldsAfter (old new : Mem) (views : List (Hands R)) (id : ℕ) (w : Hands R) : Type 0 where
    pub cells : AreCells meaning capacity new.cell
    pub blank : KeepsBlank meaning capacity new
    pub rights : KeepsRights capacity new.run new.head (set views id w)
    pub waits : KeepsWaits meaning capacity new.cell new.run new.head new.next (set views id w)
    pub promises : KeepsPromises meaning capacity new.cell new.head new.cost new.node
    pub full : new.full ≢ 0 → IsFull meaning capacity new.cell
    pub others : (other : ℕ) (u : Hands R) → other ≢ id → get_elem? views other ≡ some u
        → AreHands meaning rules capacity old u → AreHands meaning rules capacity new u
    pub own : AreHands meaning rules capacity new w

  -- then the board is sound after the store
  pub store_keeps : (words : List ℕ) (views : List (Hands R)) (id : ℕ) (v w : Hands R) (word x : ℕ) (new : Mem)
      → IsSound meaning rules capacity words views → get_elem? views id ≡ some v
      → mem (set words word x) ≡ new → w.parts ≡ v.parts → w.alone ≡ changed word x v.alone
      → HoldsAfter (mem words) new views id w
      → IsSound meaning rules capacity (set words word x) (set views id w)
  store_keeps words views id v w word x new sound mine stored parts changes after =
      let k = sound.by_kinds in
      let hands = of_others_set (AreHands meaning rules capacity (mem words)) (AreHands meaning rules capacity new)
      views id w after.others k.hands after.own in
      let all_parts = total_same (λ (u : Hands R). u.parts) views id v w mine parts ∙ k.parts in
      record {
        count = length-set words word x ∙ sound.count;
        by_kinds = subst (λ m. IsSoundBy meaning rules capacity m (set views id w)) (sym stored)
            (assumption (after, hands, all_parts));
        alone = alone_set words views id word x v w mine changes sound.alone;
      }

module _ {R : Type 0} (meaning_of : R → Meaning) (rules : R) (capacity : ℕ) (words : List ℕ) (views : List (Hands R))
    (id : ℕ) (v : Hands R) (word : ℕ) (sound : IsSound (meaning_of rules) rules capacity words views)
    (mine : get_elem? views id ≡ some v) (some_part : 0 < v.parts) where
  -- the board at a step
  pub moment_of : Moment meaning_of v word (get_or words word 0)
  moment_of =
      let has = awake_has rules capacity v some_part (sound.by_kinds.hands id v mine).awake in
      record {
        rules = rules;
        its_rules = has.1;
        words = words;
        views = views;
        id = id;
        sound = subst (λ n. IsSound (meaning_of rules) rules n words views) (sym has.2) sound;
        mine = mine;
        value = refl;
      }

  -- what a step that leaves a seat with these hands tells it
  pub told_left : (left : Hands R) (slots : List (ℕ × Unit {0}))
      → Tells meaning_of (Leaves meaning_of v word (get_or words word 0) left) (v, slots) (left, slots)
  told_left left slots = record { hands = record { hands_are = refl; moment = moment_of }; slots = refl }
