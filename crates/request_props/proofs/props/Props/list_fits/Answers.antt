use Rattle.std.proofs.Common.{◌≡◌, ◌↔◌, ℕ, Bool, List, [], ◌<◌, IsTrue, length, ◌∙◌}
use Rattle.query_core.specs.declared.query.Query.{Query}
use Rattle.query_core.specs.declared.words.KeyParts.{KeyParts}
use Rattle.request_props.specs.Fitting.{HashFits}
use Rattle.request_props.specs.Lying.{ListLiesIn}
use Rattle.request_props.specs.Numbered.{list_of, lists_of}
use Rattle.request_props.proofs.props.Props.list_fits.Goals as goal

-- the list at the place has the number
fits_at : (q : Query) (group : KeyParts) (list : ℕ) (items : List ℕ) (lies : Bool) → list < length (lists_of q)
    → items ≡ list_of q list → IsTrue lies ↔ ListLiesIn q group items → IsTrue lies ↔ HashFits q group list
fits_at q group list items lies numbered here told = (
  λ yes. record { numbered = numbered; lies_in = rw (← here) (told.0 yes) },
  λ fits. told.1 (rw here fits.lies_in),
)

-- it lies in the group as its items do
pub returns-in-Some : goal.returns-in-Some
returns-in-Some c =
    let same = c.as_slice.ensures ∙ c.requires.lists in
    fits_at c.args.query.now c.args.group c.args.list c.in-Some.items.now c.list_lies_in.result
    (rw same at c.in-Some.ensures.lookup.3.0) (rw same at c.in-Some.ensures.lookup.3.1 [])
    (rw c.as_slice-in-Some.ensures at c.list_lies_in.ensures)
