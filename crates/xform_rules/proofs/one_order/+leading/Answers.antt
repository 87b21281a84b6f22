use Rattle.std.proofs.Common.{◌<◌, ◌^◌, refl, sym, subst, ◌∙◌, arith, inl, inr}
use Rattle.std.proofs.lemmas.Bool.{false≢true}
use Rattle.query_core.proofs.Bits.{bit-none, same_tables}
use Rattle.query_core.proofs.Whole.{bit_cases}
use Rattle.xform_rules.specs.OneOrder.{LeadsTo, LeadsBeside, begun, there, less}
use Rattle.xform_rules.proofs.Beginnings.{cut_less, cut_one, begins_le, begins_then, begins_within, splits_some}
use Rattle.xform_rules.proofs.Leading.{leads_within, leads_cut, leads_on, leads_back, beside_back, beside_on}
use Rattle.xform_rules.proofs.Leading.{beside_here, beside_less}
use Rattle.xform_rules.proofs.one_order.+leading.Goals as goal
use Rattle.xform_rules.proofs.one_order.+leading.Goals.{leads_beside-else-splits_after-via-then-splits_after+else-leads_to}
use Rattle.xform_rules.proofs.one_order.+leading.Goals.{leads_beside-else-splits_after-via-else-splits_after}

-- the start is a part of the set
pub leads_beside-others-requires : goal.leads_beside-others-requires
leads_beside-others-requires t c = begins_within c.args.query.now c.args.set c.args.start c.requires.begins

-- the right side is less than the set
pub leads_beside-leads_to-requires : goal.leads_beside-leads_to-requires
leads_beside-leads_to-requires t c =
    let small : c.args.set < 2 ^ 32 = omega (arith, c.ranges.set) in
    let some = splits_some c.args.query.now c.args.set c.args.start small
    (c.splits_after.ensures.0 c.if-splits_after.true) in (
      omega (
        arith,
        c.others.ensures,
        some,
        begins_le c.args.query.now c.args.set c.args.start c.requires.begins,
        c.ranges.set,
        c.decreases,
      ),
      tt,
    )

pub leads_beside-returns-then-leads_to : goal.leads_beside-returns-then-leads_to
leads_beside-returns-then-leads_to t c = (
  λ yes.
      beside_here c.args.query.now c.args.set c.args.start c.args.part (c.splits_after.ensures.0 c.if-splits_after.true)
      (subst (λ x. LeadsTo c.args.query.now x c.args.part) c.others.ensures (c.leads_to.ensures.0 c.if-leads_to.true)),
  λ leads. refl,
)

-- what is left without the start's last cut is less than the start
pub leads_beside-leads_beside-requires : goal.leads_beside-leads_beside-requires
leads_beside-leads_beside-requires t c =
    let below = cut_less c.args.query.now c.args.start c.in-Some.next c.in-Some.ensures in (
      omega (arith, below, c.decreases),
      (
        begins_then c.args.query.now c.args.set c.args.start c.in-Some.next c.requires.begins
            (less c.args.start c.in-Some.next c.in-Some.next c.in-Some.ensures (begun c.in-Some.next)),
        λ same. absurd (omega (
          arith,
          below,
          same,
          begins_le c.args.query.now c.args.set c.args.start c.requires.begins,
        )),
      ),
    )

-- where nothing leads on beside the start itself, it does beside what the last cut leaves
pub leads_beside-returns-in-Some : goal.leads_beside-returns-in-Some
leads_beside-returns-in-Some t c = (
  λ yes. beside_less c.args.query.now c.args.set c.args.start c.in-Some.next c.args.part c.in-Some.ensures
      (c.leads_beside.ensures.0 yes),
  λ leads. elim (beside_on c.args.query.now c.args.set c.args.start c.args.part leads) [
    | inl (splits, right) ↦ elim c.else-splits_after.branch [
      | leads_beside-else-splits_after-via-then-splits_after+else-leads_to w ↦
          absurd (false≢true (sym w.if-leads_to.false
          ∙ w.leads_to.ensures.1 (subst (λ x. LeadsTo c.args.query.now x c.args.part) (sym w.others.ensures)
          right)))
      | leads_beside-else-splits_after-via-else-splits_after w ↦
          absurd (false≢true (sym w.if-splits_after.false ∙ c.splits_after.ensures.1 splits))
    ]
    | inr (next, cuts, beside) ↦
        c.leads_beside.ensures.1 (subst (λ x. LeadsBeside c.args.query.now c.args.set x c.args.part)
        (cut_one c.args.query.now c.args.start next c.in-Some.next cuts c.in-Some.ensures) beside)
  ],
)

pub leads_beside-returns-in-None : goal.leads_beside-returns-in-None
leads_beside-returns-in-None t c = (
  λ never. absurd (false≢true never),
  λ leads. elim (beside_on c.args.query.now c.args.set c.args.start c.args.part leads) [
    | inl (splits, right) ↦ elim c.else-splits_after.branch [
      | leads_beside-else-splits_after-via-then-splits_after+else-leads_to w ↦
          absurd (false≢true (sym w.if-leads_to.false
          ∙ w.leads_to.ensures.1 (subst (λ x. LeadsTo c.args.query.now x c.args.part) (sym w.others.ensures)
          right)))
      | leads_beside-else-splits_after-via-else-splits_after w ↦
          absurd (false≢true (sym w.if-splits_after.false ∙ c.splits_after.ensures.1 splits))
    ]
    | inr (next, cuts, beside) ↦ absurd (c.in-None.ensures next cuts)
  ],
)

pub leads_to-returns-then-set-part : goal.leads_to-returns-then-set-part
leads_to-returns-then-set-part t c = (
  λ yes.
      subst (LeadsTo c.args.query.now c.args.set) c.if-set-part.true (there c.args.set),
  λ leads. refl,
)

-- a group leads to groups of parts only
pub leads_to-returns-then-difference-ne0 : goal.leads_to-returns-then-difference-ne0
leads_to-returns-then-difference-ne0 t c = (
  λ never. absurd (false≢true never),
  λ leads. absurd (c.if-difference-ne0.true (same_tables c.difference.result 0 (λ u. elim (bit_cases c.args.part u) [
    | inl has ↦ omega (
      arith,
      c.difference.ensures u,
      bit-none u,
      has,
      leads_within c.args.query.now c.args.set c.args.part leads u has,
    )
    | inr none ↦ omega (arith, c.difference.ensures u, bit-none u, none)
  ]))),
)

-- what the last cut leaves is a beginning
pub leads_to-leads_beside-requires : goal.leads_to-leads_beside-requires
leads_to-leads_beside-requires t c =
    let below = cut_less c.args.query.now c.args.set c.in-Some.next c.in-Some.ensures in (
      omega (arith, below, c.ranges.set, c.decreases),
      (
        less c.args.set c.in-Some.next c.in-Some.next c.in-Some.ensures (begun c.in-Some.next),
        λ same.
            absurd (omega (arith, below, same)),
      ),
    )

pub leads_to-returns-then-leads_to : goal.leads_to-returns-then-leads_to
leads_to-returns-then-leads_to t c = (
  λ yes. leads_back c.args.query.now c.args.set c.in-Some.next c.args.part c.in-Some.ensures (c.leads_to.ensures.0 yes),
  λ leads. c.if-leads_to.true,
)

-- it leads on by what the cut leaves, or beside that
pub leads_to-returns-else-leads_to : goal.leads_to-returns-else-leads_to
leads_to-returns-else-leads_to t c = (
  λ yes. beside_back c.args.query.now c.args.set c.in-Some.next c.args.part (c.leads_beside.ensures.0 yes),
  λ leads. elim (leads_on c.args.query.now c.args.set c.in-Some.next c.args.part c.in-Some.ensures c.if-set-part.false
      leads) [
        | inl by_cut ↦ absurd (false≢true (sym c.if-leads_to.false ∙ c.leads_to.ensures.1 by_cut))
        | inr beside ↦ c.leads_beside.ensures.1 beside
      ],
)

pub leads_to-returns-in-None : goal.leads_to-returns-in-None
leads_to-returns-in-None t c = (
  λ never. absurd (false≢true never),
  λ leads.
      let (next, cuts) = leads_cut c.args.query.now c.args.set c.args.part c.if-set-part.false leads in
      absurd (c.in-None.ensures next cuts),
)
