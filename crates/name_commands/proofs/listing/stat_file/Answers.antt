use Rattle.std.proofs.Common.{refl, sym}
use Rattle.domain_changes.specs.domain_base.declared.place.Kind.TheVariants.{File}
use Rattle.name_commands.proofs.Listed.{file_answer, stat_refusal}
use Rattle.name_commands.proofs.PlacedThere.{file_of}
use Rattle.name_commands.proofs.listing.stat_file.Goals as goal

pub returns : goal.returns
returns c = λ all place p is.
    let memory = c.args.memory.now in (
      stat_refusal memory all place c.args.at.number c.args.at.tag File p,
      sym (file_answer memory all place c.args.at.number c.args.at.tag File p c.args.what is refl c.in_ok-pages.pages (c.in_ok-pages.ensures place.path all p.entry p.fileset (file_of memory all place c.args.at.number c.args.at.tag File p))),
    )
