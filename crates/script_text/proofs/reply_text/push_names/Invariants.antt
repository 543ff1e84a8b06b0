use Rattle.std.proofs.Common.{◌≡◌, ◌++◌, map, take}
use Rattle.command_text.specs.word_forms.Texts.{behind_spaces}
use Rattle.script_text.specs.History.{name_item_text}
use Rattle.script_text.proofs.reply_text.push_names.Given as goal

abbrev pub invariant-loop-item : goal.invariant-loop-item
invariant-loop-item l = l.out.items ≡ l.fn.out.items ++ behind_spaces (map name_item_text (take l.item-index l.items))
