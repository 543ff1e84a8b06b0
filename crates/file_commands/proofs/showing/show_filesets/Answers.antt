use Rattle.std.proofs.Common.{◌∙◌, refl}
use Rattle.name_commands.specs.domain_memory.Staged.{staged_in}
use Rattle.name_commands.proofs.OfDomainMemory.SettledKept.{settled_kept}
use Rattle.file_commands.proofs.Shown.{shown, shown_names}
use Rattle.name_commands.proofs.ToldAgain.{none_a_clone}
use Rattle.file_commands.proofs.showing.show_filesets.Goals as goal

pub returns : goal.returns
returns c = λ all stands.
    let memory = c.args.memory.now in
    let slots = (settled_kept memory all c.requires.settled stands).staged.stands.slots in (
      refl,
      shown all c.in_ok-names.names c.in_ok-rows.rows (none_a_clone memory c.requires.settled all stands) c.in_ok-rows.ensures.ordered (λ q. c.in_ok-names.ensures q ∙ shown_names (staged_in memory) all slots q) c.in_ok-rows.ensures.rows,
    )
