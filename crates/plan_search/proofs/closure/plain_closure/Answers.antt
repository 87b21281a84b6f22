use Rattle.std.proofs.Common.{◌≡◌, ◌∙◌, ◌≤◌, ap, sym, subst, length}
use Rattle.std.specs.List.{All}
use Rattle.std.proofs.lemmas.List.Elements.{All-nil}
use Rattle.xform_rules.specs.Closure.{IsMemberWord, IsClosureOf}
use Rattle.query_core.specs.Goals.{EXPRS}
use Rattle.plan_search.specs.Steps.{AreMemberWords, GrowsTo, AreSteps}
use Rattle.plan_search.proofs.WordLists.{few_words}
use Rattle.plan_search.proofs.Growing.{members_on}
use Rattle.plan_search.proofs.FoundSteps.{all_small, closed, none_done, longer_smaller}
use Rattle.plan_search.proofs.closure.plain_closure.Goals as goal

pub loop-done-init : goal.loop-done-init
loop-done-init c =
    let q = c.args.query.now in
    record {
      members = members_on q c.new-found.result c.add_root.new.found c.in_ok-add_root.ensures.grows
          (subst (All (IsMemberWord q)) (sym c.new-found.ensures) (All-nil (IsMemberWord q)));
      root = c.in_ok-add_root.ensures.holds;
      done = subst (λ ws. AreSteps q ws ws c.add_root.new.found) (sym c.new-done.ensures.items)
          (none_done q c.add_root.new.found);
    }

-- what is done stays done
pub add_new_steps-requires : goal.add_new_steps-requires
add_new_steps-requires c =
    let q = c.args.query.now in
    record {
      words = subst (AreMemberWords q) (sym (c.deref.ensures.value ∙ c.in_ok-words.ensures.value))
          (record { members = c.loop-done.invariant.members; ascending = c.in_ok-words.ensures.ascending });
      done = subst (λ ws. AreSteps q ws ws c.loop-done.found) (sym c.deref-in-loop-done.ensures.value)
          c.loop-done.invariant.done;
    }

-- no word has come, so all steps from the words are among them
pub returns-then-len : goal.returns-then-len
returns-then-len c =
    let q = c.args.query.now in
    let words = c.in_ok-words.words.items in
    let old = c.loop-done.found in
    let new = c.add_new_steps.new.found in
    let count : length c.deref.result.now ≡ length old =
    ap length (c.deref.ensures.value ∙ c.in_ok-words.ensures.value) in
    let no_longer : length new ≡ length old =
    sym c.len.ensures.value ∙ c.if-len.true ∙ c.len-in-loop-done.ensures ∙ sym c.deref.ensures.len ∙ count in
    let steps : GrowsTo q (AreSteps q words words) old new =
    subst (λ ws. GrowsTo q (AreSteps q ws ws) old new) c.deref.ensures.value c.in_ok-add_new_steps.ensures in
    subst (IsClosureOf q) (sym c.of.ensures)
    (closed q words old new c.in_ok-words.ensures.value steps no_longer c.loop-done.invariant.members
    c.len.ensures.ascending c.loop-done.invariant.root)

-- words have come, and there are at most EXPRS
pub loop-done-smaller : goal.loop-done-smaller
loop-done-smaller c =
    let q = c.args.query.now in
    let old = c.loop-done.found in
    let new = c.add_new_steps.new.found in
    let members = members_on q old new c.in_ok-add_new_steps.ensures.grows c.loop-done.invariant.members in
    let few : length new ≤ EXPRS = few_words new (EXPRS) c.len.ensures.ascending
    (all_small q c.members_are_known.ensures.small new members) in
    let count : length c.deref.result.now ≡ length old =
    ap length (c.deref.ensures.value ∙ c.in_ok-words.ensures.value) in
    let same_count : c.len-in-loop-done.result ≡ length old = c.len-in-loop-done.ensures ∙ sym c.deref.ensures.len
    ∙ count in
    let differs : length new ≡ length old → ⊥ = λ same. c.if-len.false (c.len.ensures.value ∙ same ∙ sym same_count) in
    longer_smaller (length old) (length new) (EXPRS) few c.in_ok-add_new_steps.ensures.grows.longer differs

pub loop-done-preserved : goal.loop-done-preserved
loop-done-preserved c =
    let q = c.args.query.now in
    let new = c.add_new_steps.new.found in
    record {
      members = members_on q c.loop-done.found new c.in_ok-add_new_steps.ensures.grows c.loop-done.invariant.members;
      root = c.in_ok-add_new_steps.ensures.grows.kept _ c.loop-done.invariant.root;
      done = subst (λ ws. AreSteps q ws ws new) c.deref.ensures.value c.in_ok-add_new_steps.ensures.holds;
    }
