use Rattle.std.proofs.Common.{◌≡◌, ◌+◌, subst, sym, ◌∙◌, ap}
use Rattle.std.specs.Prelude.{slice_index}
use Rattle.query_core.specs.declared.expressions.ExprParts.{ExprParts}
use Rattle.xform_rules.specs.Closure.{IsMember}
use Rattle.query_core.specs.Expressions.{expr_of, word_of, IsCandidate, IsPacked}
use Rattle.plan_search.specs.Natives.{AddsModes}
use Rattle.query_core.proofs.ExpressionLemmas.{expr_of_one}
use Rattle.plan_search.proofs.Listed.{AreMade, made_more, made_past, made_all}
use Rattle.plan_search.proofs.native.natives_of.Goals as goal
use Rattle.plan_search.proofs.native.natives_of.Goals.{in-Some+in_ok-push_modes, in_default}

-- the word is that of a member
pub known_parts-requires : goal.known_parts-requires
known_parts-requires c =
    let q = c.args.query.now in
    let found = c.requires.members.sound c.loop-word.word-index 0 c.loop-word-test.true in (
      found.0,
      record {
        packed = c.candidates_are_known.ensures.packed q found.0 (c.members_are_candidates.ensures q found.0 found.1);
        number = found.3;
      },
    )

-- and the member is a candidate
pub push_modes-requires-clause-candidate : goal.push_modes-requires-clause-candidate
push_modes-requires-clause-candidate c =
    let q = c.args.query.now in
    let found = c.requires.members.sound c.loop-word.word-index 0 c.loop-word-test.true in
    let candidate = c.members_are_candidates.ensures q found.0 found.1 in
    let same = c.known_parts.ensures.only found.0
    (record { packed = c.candidates_are_known.ensures.packed q found.0 candidate; number = found.3 }) in
    subst (IsCandidate q) (same ∙ c.in-Some.ensures) candidate

-- its modes come to those of the words before, where it is physical
pub loop-word-preserved : goal.loop-word-preserved
loop-word-preserved c =
    let q = c.args.query.now in
    let group = c.args.group in
    let words = c.args.words.now in
    let i = c.loop-word.word-index in
    let parts = c.known_parts.result in
    let packed : (f : ExprParts) → IsMember q f → IsPacked f =
    λ f is. c.candidates_are_known.ensures.packed q f (c.members_are_candidates.ensures q f is) in
    let found = c.requires.members.sound i 0 c.loop-word-test.true in
    let same : found.0 ≡ parts = c.known_parts.ensures.only found.0
    (record { packed = packed found.0 found.1; number = found.3 }) in
    let member : IsMember q parts = subst (IsMember q) same found.1 in
    let of_group : parts.group ≡ group = subst (λ (e : ExprParts). e.group ≡ group) same found.2 in
    elim c.match-as_physical.branch [
      | in-Some+in_ok-push_modes w ↦
          let e = w.in-Some.expr in
          let is : parts ≡ expr_of e = w.in-Some.ensures in
          let here : IsMember q (expr_of e) = subst (IsMember q) is member in
          made_more q group words c.requires.members.ascending
          (c.modes_are_few.ensures.few q c.requires.props.few_lists) i e c.loop-word.list.items _
          c.loop-word-test.true here
          (subst (λ (x : ExprParts). x.group ≡ group) is of_group)
          (c.expressions_are_one.ensures.small (expr_of e) (packed (expr_of e) here))
          (subst (λ x. word_of x ≡ slice_index words i) is c.known_parts.ensures.has.number)
          (λ f is_member of_word. expr_of_one f e (c.expressions_are_one.ensures.expressions (expr_of f) (expr_of e)
          (packed (expr_of f) is_member) (packed (expr_of e) here) of_word))
          c.loop-word.invariant (subst (AddsModes q e c.loop-word.list.items) (sym (ap (λ l. l.items) w.list-is))
          w.in_ok-push_modes.ensures)
      | in_default w ↦
          subst (AreMade q group words (i + 1)) (sym (ap (λ l. l.items) w.list-is))
          (made_past q group words c.requires.members.ascending i parts c.loop-word.list.items c.loop-word-test.true
          (c.expressions_are_one.ensures.small parts (packed parts member))
          c.known_parts.ensures.has.number
          (λ f is_member of_word. w.in_default.ensures f
          (sym (c.expressions_are_one.ensures.expressions (expr_of f) parts (packed (expr_of f) is_member)
          (packed parts member) of_word)))
          c.loop-word.invariant)
    ]

pub returns : goal.returns
returns c = made_all c.args.query.now c.args.group c.args.words.now c.requires.members.ascending c.loop-word.word-index
    c.loop-word.list.items c.loop-word-test.false c.requires.members.complete c.loop-word.invariant
