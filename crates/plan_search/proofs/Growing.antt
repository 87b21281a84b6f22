-- What comes to a list of words, and passes in which more and more comes.
use Rattle.std.proofs.Common.{◌≡◌, ℕ, ◌<◌, ◌≤◌, ◌+◌, List, length, get_or, sym, subst, ◌∙◌, refl, arith, inl, inr}
use Rattle.std.specs.Prelude.{slice_index}
use Rattle.std.specs.List.{All, Contains}
use Rattle.std.specs.BTreeSet.{insert_key}
use Rattle.std.specs.Ordering.{nat_cmp}
use Rattle.std.proofs.lemmas.Bool.{cases_eq}
use Rattle.std.proofs.lemmas.List.{get_or_default}
use Rattle.std.proofs.lemmas.List.Elements.{All-contains, Contains-get_or}
use Rattle.query_core.specs.Expressions.{word_of}
use Rattle.query_core.specs.declared.query.Query.{Query}
use Rattle.query_core.specs.declared.expressions.ExprParts.{ExprParts}
use Rattle.xform_rules.specs.Closure.{IsMember, IsMemberWord}
use Rattle.plan_search.specs.Steps.{Grows, GrowsTo, ContainsWordOf}
use Rattle.plan_search.proofs.WordLists.{insert_keeps, insert_longer, insert_same, insert_cases, insert_there}

-- a fact of the words found that stays true when words come
abbrev pub Stays : Query → (List ℕ → Type 0) → Type 0
Stays q Fact = (xs ys : List ℕ) → Grows q xs ys → Fact xs → Fact ys

module _ (q : Query) where
  -- where nothing comes
  pub grows_not : (xs : List ℕ) → Grows q xs xs
  grows_not xs = record {
    kept = λ w has. has;
    members = λ w has. inl has;
    longer = omega arith;
    same = λ no_longer. refl;
  }

  -- what comes and then comes again
  pub grows_on : (xs ys zs : List ℕ) → Grows q xs ys → Grows q ys zs → Grows q xs zs
  grows_on xs ys zs first second = record {
    kept = λ w has. second.kept w (first.kept w has);
    members = λ w has. elim (second.members w has) [
      | inl old ↦ first.members w old
      | inr new ↦ inr new
    ];
    longer = omega (arith, first.longer, second.longer);
    same = λ no_longer.
        second.same (omega (arith, no_longer, first.longer)) ∙ first.same (omega (arith, no_longer, second.longer));
  }

  -- the word of a member comes
  grows_by_one : (xs : List ℕ) (k : ℕ) → IsMemberWord q k → Grows q xs (insert_key nat_cmp xs k)
  grows_by_one xs k member = record {
    kept = insert_keeps xs k;
    members = λ w has. elim (insert_cases xs k w has) [
      | inl old ↦ inl old
      | inr same ↦ inr (subst (IsMemberWord q) same member)
    ];
    longer = insert_longer xs k;
    same = insert_same xs k;
  }

  -- a member's word that comes is found
  pub added : (old new : List ℕ) (word : ℕ) (e : ExprParts) → word ≡ word_of e → IsMember q e
      → new ≡ insert_key nat_cmp old word
      → GrowsTo q (λ words. ContainsWordOf words e) old new
  added old new word e is member comes = subst (GrowsTo q (λ words. ContainsWordOf words e) old) (sym comes) (record {
    grows = grows_by_one old word (e, member, sym is);
    holds = subst (Contains (insert_key nat_cmp old word)) is (insert_there old word);
  })

  -- the words stay those of members
  pub members_on : (xs ys : List ℕ) → Grows q xs ys → All (IsMemberWord q) xs → All (IsMemberWord q) ys
  members_on xs ys grows members k d within = elim (grows.members (get_or ys k d) (Contains-get_or ys k d within)) [
    | inl old ↦ All-contains (IsMemberWord q) xs (get_or ys k d) members old
    | inr new ↦ new
  ]

-- what is done at each place before this one
abbrev pub Before : (ℕ → List ℕ → Type 0) → ℕ → List ℕ → Type 0
Before Done n found = (k : ℕ) → k < n → Done k found

module _ (q : Query) (Done : ℕ → List ℕ → Type 0) where
  -- before the first nothing is done
  pub none_yet : (xs : List ℕ) → GrowsTo q (Before Done 0) xs xs
  none_yet xs = record {
    grows = grows_not q xs;
    holds = λ k below. absurd (omega (arith, below));
  }

  -- what is done at one place more leaves what was done
  pub one_more : ((k : ℕ) → Stays q (Done k)) → (n : ℕ) (xs ys zs : List ℕ) → GrowsTo q (Before Done n) xs ys
      → GrowsTo q (Done n) ys zs
      → GrowsTo q (Before Done (n + 1)) xs zs
  one_more stays n xs ys zs before this = record {
    grows = grows_on q xs ys zs before.grows this.grows;
    holds = λ k below. elim (cases_eq k n) [
      | inl same ↦ subst (λ i. Done i zs) (sym same) this.holds
      | inr other ↦ stays k ys zs this.grows (before.holds k (omega (arith, below, other)))
    ];
  }

-- ---- a pass over words of members

-- the fact holds of the member whose word stands at this place
abbrev pub HoldsAt : Query → (ExprParts → List ℕ → Type 0) → List ℕ → ℕ → List ℕ → Type 0
HoldsAt q Fact words k found = (e : ExprParts) → IsMember q e → word_of e ≡ slice_index words k → Fact e found

-- it holds of each member whose word is among these
abbrev pub HoldsOfAll : Query → (ExprParts → List ℕ → Type 0) → List ℕ → List ℕ → Type 0
HoldsOfAll q Fact words found = (e : ExprParts) → IsMember q e → ContainsWordOf words e → Fact e found

module _ (q : Query) (Fact : ExprParts → List ℕ → Type 0) (words : List ℕ) where
  -- the word at one place more is that of this member
  pub one_member_more : ((e : ExprParts) → Stays q (Fact e)) → (n : ℕ) (m : ExprParts) (xs ys zs : List ℕ)
      → ((e : ExprParts) → IsMember q e → word_of e ≡ slice_index words n → e ≡ m)
      → GrowsTo q (Before (HoldsAt q Fact words) n) xs ys → GrowsTo q (Fact m) ys zs
      → GrowsTo q (Before (HoldsAt q Fact words) (n + 1)) xs zs
  one_member_more stays n m xs ys zs only before this =
      one_more q (HoldsAt q Fact words) (λ k xs ys grows holds e member is. stays e xs ys grows (holds e member is)) n
      xs ys zs before (record {
        grows = this.grows;
        holds = λ e member is. subst (λ x. Fact x zs) (sym (only e member is)) this.holds;
      })

  -- all words have been gone over
  pub all_members : (n : ℕ) (xs ys : List ℕ) → length words ≤ n → GrowsTo q (Before (HoldsAt q Fact words) n) xs ys
      → GrowsTo q (HoldsOfAll q Fact words) xs ys
  all_members n xs ys end before = record {
    grows = before.grows;
    holds = λ e member (k, within, is). before.holds k (omega (arith, within, end)) e member
        (sym (get_or_default words k 0 (word_of e) within ∙ is));
  }
