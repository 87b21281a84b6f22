use Rattle.std.proofs.Common.{rules, List, ℕ}
use Rattle.std.specs.Ordering.{eq_by_cmp}
use Rattle.std.proofs.lemmas.Fn.{dedup_same}
use Rattle.std.proofs.lemmas.List.Sorted.{ranks_by, answers_always}
use Rattle.request_props.specs.Listing.{list_cmp}
use Rattle.request_props.proofs.Inserted.{listing_only}
use Rattle.request_props.proofs.Ordered.{list_cmp_total, sorted_listing}
use Rattle.request_props.proofs.numbering.numbered.Goals as goal

-- sorted, of each run of equal lists the first is kept
pub returns-clause-value : goal.returns-clause-value
returns-clause-value c =
    let found = c.args.found.items in
    let ranks = ranks_by list_cmp_total (λ (list : List ℕ). list) in
    let sorted = c.in_ok-sort_by.ensures.sorted _ ranks (answers_always _ _ _ (λ f a r f' k. search rules)) in
    let kept = dedup_same _ (eq_by_cmp list_cmp) _ (λ x y b f' x' y' k. search rules) _ _ c.dedup_by.ensures.filtered in
    (listing_only found c.dedup_by.new.self.items).0
    (rw kept (sorted_listing found _ c.in_ok-sort_by.ensures.permutation sorted))
