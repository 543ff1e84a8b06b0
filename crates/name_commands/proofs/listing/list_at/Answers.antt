use Rattle.std.proofs.Common.{◌≡◌, ◌∙◌, ◌∷◌, [], IfOk, ap, not, subst, sym}
use Rattle.domain_changes.specs.fileset_model.Paths.{first_refusal, refuse_if, rows_of}
use Rattle.domain_changes.specs.fileset_values.declared.reply.Refusal.TheVariants.{NotDirectory}
use Rattle.domain_changes.specs.fileset_values.declared.reply.Reply.TheVariants.{Names}
use Rattle.domain_changes.specs.name_space.Names.{is_directory_kind}
use Rattle.name_commands.proofs.Listed.{list_answer, list_refusal}
use Rattle.name_commands.proofs.listing.list_at.Goals as goal

pub returns-in-Ok-clause-replies : goal.returns-in-Ok-clause-replies
returns-in-Ok-clause-replies c = λ all place p.
    let listed = subst (λ r. IfOk r (λ list. list ≡ rows_of p.fileset.tree place.path)) c.in-Ok.is (c.list_names-memory.ensures.names all p.entry p.fileset place.path p.has p.leads.at) in (
      list_refusal c.args.memory all place c.args.at.number c.args.at.tag c.args.at.kind p ∙ ap (λ k. first_refusal (refuse_if (not (is_directory_kind k)) NotDirectory ∷ [])) c.in-Directory.is,
      ap Names listed ∙ sym (list_answer c.args.memory all place c.args.at.number c.args.at.tag c.args.at.kind p),
    )
