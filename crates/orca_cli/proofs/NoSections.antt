-- A text with no section behind it.
use Rattle.std.proofs.Common.{◌≡◌, ℕ, Bool, false, List, [], ◌++◌, refl, sym, subst, append-nil}
use Rattle.query_core.specs.declared.query.Query.{Query}
use Rattle.command_line.specs.declared.settings.Settings.{Settings}
use Rattle.orca_cli.specs.Sections.{is_asked, IsWhere, IsBehind, GoesOn}
use Rattle.orca_cli.specs.declared.sections.Section.{Section}
use Rattle.orca_cli.specs.declared.sections.Section.TheVariants as sections

module _ (settings : Settings) (query : Query) (front : List ℕ) where
  -- a section that isn't asked for adds nothing
  not_behind : (section : Section) → is_asked settings section ≡ false → IsBehind settings query section front front
  not_behind section none = record {
    added = [];
    is_added = subst (λ (b : Bool). IsWhere b settings query section []) (sym none) refl;
    joined = sym (append-nil front);
  }

  pub goes_nowhere : settings.memo ≡ false → settings.trace ≡ false → settings.by_worker ≡ false
      → GoesOn settings query front front
  goes_nowhere memo trace by_worker = (
    front,
    not_behind sections.Memo memo,
    (front, not_behind sections.Trace trace, (front, not_behind sections.ByWorker by_worker, refl)),
  )
