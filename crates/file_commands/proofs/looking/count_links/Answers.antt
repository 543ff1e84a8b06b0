use Rattle.std.proofs.Common.{◌∙◌, ◌∷◌, [], ap, sym}
use Rattle.name_commands.specs.fileset_model.Paths.{first_refusal, refuse_if}
use Rattle.name_commands.specs.fileset_values.declared.reply.Refusal.TheVariants.{IsDirectory}
use Rattle.name_commands.specs.fileset_values.declared.reply.Reply.TheVariants.{Count}
use Rattle.name_commands.specs.name_space.Names.{is_directory_kind}
use Rattle.name_commands.proofs.PlacedThere.{file_of, links_answer, read_refusal}
use Rattle.file_commands.proofs.looking.count_links.Goals as goal

pub returns-in-File : goal.returns-in-File
returns-in-File c = λ all place p.
    let memory = c.args.memory.now in
    let is = c.describe-what.ensures.is place.path all p.entry p.fileset (file_of memory all place c.args.at.number c.args.at.tag c.args.at.kind p) in (
      read_refusal memory all place c.args.at.number c.args.at.tag c.args.at.kind p ∙ ap (λ k. first_refusal (refuse_if (is_directory_kind k) IsDirectory ∷ [])) c.in-File.is,
      ap Count (c.from.ensures ∙ is.links) ∙ sym (links_answer memory all place c.args.at.number c.args.at.tag c.args.at.kind p),
    )
