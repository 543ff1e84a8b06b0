use Rattle.std.proofs.Common.{◌∙◌, Err, List, inl, ap, subst}
use Rattle.domain_attaching.specs.fileset_values.declared.entry.Entry.{Entry}
use Rattle.run_parts.specs.script_text.History.{history_text}
use Rattle.run_parts.specs.Transfer.{AppendsPart}
use Rattle.advfs_run.proofs.Endings.{unprinted}
use Rattle.advfs_run.proofs.running.print_ran.Goals as goal
use Rattle.advfs_run.proofs.running.print_ran.Goals.{in-Err, in-Ok}

pub returns-clause-status : goal.returns-clause-status
returns-clause-status g c =
    let before = g.K.Sink.held c.args.sink.now in
    let after = g.K.Sink.held c.print_history.new.sink in
    elim c.match-print_history.branch [
      | in-Ok w ↦ inl w.status-is
      | in-Err w ↦
          unprinted before after c.args.ran.history.items c.match-print_history.status c.args.ran.end w.in-Err.error (w.status-is ∙ w.from-status.ensures)
          (λ same. subst (λ (l : List Entry). AppendsPart before after (history_text l)) c.as_slice.ensures.value (c.print_history.ensures.out_of_memory (w.in-Err.is ∙ ap Err same)))
    ]
