use Rattle.std.proofs.Common.{◌≡◌, false}
use Rattle.orca_cli.proofs.NoSections.{goes_nowhere}
use Rattle.orca_cli.proofs.sections.asks_for_sections.Goals as goal
use Rattle.orca_cli.proofs.sections.asks_for_sections.Goals.{then-settings, else-settings}

-- where none of the three is asked for, the text goes on nowhere
pub returns-else-settings-2 : goal.returns-else-settings-2
returns-else-settings-2 c =
    elim c.if-settings.branch [
      | then-settings w ↦ cc
      | else-settings w ↦ record {
        none = λ by_worker query front.
            let memo : c.args.settings.memo ≡ false = cc in
            let trace : c.args.settings.trace ≡ false = cc in
            goes_nowhere c.args.settings query front memo trace by_worker;
      }
    ]
