use Rattle.std.proofs.Common.{◌==◌, sym, ◌∙◌}
use Rattle.script_text.specs.declared.script.Section.{Section}
use Rattle.script_text.proofs.ScriptLemmas.{list_any-last}
use Rattle.script_text.proofs.reading.has_section.Goals as goal

pub returns-else-is_done : goal.returns-else-is_done
returns-else-is_done c =
    sym (list_any-last (λ (section : Section). section.number == c.args.number) c.args.draft.now.done.items
    (record { number = c.args.draft.now.number; commands = c.args.draft.now.commands.items }) (rw (← c.as_slice.ensures.value) (sym c.is_done.ensures ∙ c.if-is_done.false)))
