use Rattle.std.proofs.Common.{◌≡◌, ◌∙◌, List, IfOk, ap, subst}
use Rattle.sql_bind.specs.declared.columns.Column.{Column}
use Rattle.sql_bind.specs.Columns.{is_among}
use Rattle.sql_bind.specs.Used.{UsedColumn, used_by, used_from, wanted_by}
use Rattle.sql_bind.proofs.Ascending.{ascend_from, ascending_differ}
use Rattle.sql_bind.proofs.Wanted.{same_used}
use Rattle.sql_bind.proofs.used.used_by.Goals as goal

-- they ascend, and so each comes once
pub of-requires : goal.of-requires
of-requires c =
    let wanted = c.in_ok-wanted.wanted.keys in
    let scope = c.as_slice.result.now in
    rw (c.in_ok-used.ensures) (ascending_differ (used_from wanted 0 scope) (ascend_from wanted 0 scope))

-- the set has the columns that are wanted
pub returns : goal.returns
unfolding used_by
returns c =
    let parts = c.args.parts.now in
    let wanted = c.in_ok-wanted.wanted.keys in
    let same = λ (q : Column). c.in_ok-wanted.ensures q
    ∙ ap (λ (cs : List Column). is_among cs q) (c.deref.ensures.value ∙ c.in_ok-named.ensures) in
    let all : c.in_ok-used.used ≡ used_by parts = c.in_ok-used.ensures
    ∙ (ap (λ scope. used_from wanted 0 scope) c.as_slice.ensures
    ∙ same_used wanted (wanted_by parts) same 0 parts.scope) in
    subst (λ (used : List UsedColumn). IfOk c.of.result (λ made. made ≡ used)) all c.of.ensures
