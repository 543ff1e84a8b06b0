use Rattle.std.proofs.Common.{codes, ◌∙◌}
use Rattle.std.proofs.lemmas.List.{append_assoc}
use Rattle.word_forms.specs.Texts.{place_text}
use Rattle.command_text.specs.Texts.{command_text}
use Rattle.command_text.proofs.writing.push_command.Goals as goal

pub returns-in_ok-push_placed-in-Defragment : goal.returns-in_ok-push_placed-in-Defragment
unfolding command_text
returns-in_ok-push_placed-in-Defragment c =
    rw c.in-Defragment.is (c.in_ok-push_placed-in-Defragment.ensures ∙ append_assoc c.args.out.now.items (codes "defragment ") (place_text c.in-Defragment.place))
