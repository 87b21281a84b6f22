use Rattle.std.proofs.Common.{◌≡◌, [], map, string_bytes, Some, None, option_map, sym, ap, ◌∙◌}
use Rattle.command_line.specs.Reading.{task_named}
use Rattle.command_line.specs.Views.{command_read}
use Rattle.command_line.proofs.FirstPieces.{of_name, of_no_name}
use Rattle.command_line.proofs.words.read_command.Goals as goal

-- the words behind the task's word
pub returns : goal.returns
returns c =
    let first = string_bytes c.in_ok-first.first.now in
    let named : task_named first ≡ Some c.in_ok-task.task = ap task_named (sym c.as_str.ensures.value)
    ∙ sym c.read_task.ensures ∙ c.in_ok-task.was in
    c.read_behind.ensures c.in_ok-task.task [] c.new.ensures
    ∙ sym (of_name c.in_ok-task.task (map string_bytes c.args.words.now) first
    (map string_bytes c.in_ok-first.others.now) (ap (map string_bytes) c.in_ok-first.ensures.cases.0) named)

-- no task's word stands first
pub returns-in_err-task : goal.returns-in_err-task
returns-in_err-task c =
    let first = string_bytes c.in_ok-first.first.now in
    let none : task_named first ≡ None = ap task_named (sym c.as_str.ensures.value) ∙ sym c.read_task.ensures
    ∙ c.in_err-task.was in
    ap (option_map command_read) c.from_residual-in_err-task.ensures
    ∙ sym (of_no_name (map string_bytes c.args.words.now) first (map string_bytes c.in_ok-first.others.now)
    (ap (map string_bytes) c.in_ok-first.ensures.cases.0) none)
