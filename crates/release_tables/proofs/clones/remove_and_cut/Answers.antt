use Rattle.std.proofs.Common.{ap, subst}
use Rattle.std.proofs.lemmas.Bool.{false_from_ne_true}
use Rattle.release_steps.specs.domain_base.declared.place.Tag.{Tag}
use Rattle.release_steps.specs.page_store.Bitfiles.{same_tag}
use Rattle.release_steps.specs.page_store.Homes.{pages_of}
use Rattle.release_steps.specs.fileset_files.Changes.{without_chain}
use Rattle.release_steps.specs.fileset_files.Truncation.{Truncates}
use Rattle.release_steps.proofs.OfFilesetFiles.OneFile.{tags_same}
use Rattle.release_tables.proofs.Trims.{two_cut}
use Rattle.release_tables.proofs.clones.remove_and_cut.Goals as goal

pub attributes-requires-2 : goal.attributes-requires-2
attributes-requires-2 c =
    let world = c.args.world.now in
    (without_chain c.args.clone c.requires.0, (c.in_ok-clone_at.ensures.together world.space world.cells c.requires.0 c.requires.1).files)

pub truncate-requires-clause-files : goal.truncate-requires-clause-files
truncate-requires-clause-files c =
    let world = c.args.world.now in
    (without_chain c.args.clone c.requires.0, (c.in_ok-clone_at.ensures.together world.space world.cells c.requires.0 c.requires.1).files)

pub returns : goal.returns
returns c =
    let world = c.args.world.now in
    let chains = c.requires.0 in
    let first = c.in_ok-clone_at.ensures in
    let second = c.in_ok-left.ensures in
    let between = first.together world.space world.cells chains c.requires.1 in
    let rest = without_chain c.args.clone chains in
    two_cut (pages_of world.pages.entries.items) (pages_of c.remove.new.pages.entries.items) (pages_of c.truncate.new.pages.entries.items) world.files.fileset world.files.tags world.space world.cells c.args.file c.args.clone
    (false_from_ne_true (same_tag c.args.file c.args.clone) (λ same. c.if-file-clone.false (ap (λ (t : Tag). t.slot) (tags_same c.args.file c.args.clone same))))
    chains c.requires.1 c.in_ok-at.at c.in_ok-clone_at.clone_at (first.ok chains c.requires.1.files).pending c.args.size c.remove.new.self.fileset c.remove.new.self.tags
    (subst (λ left. Truncates c.remove.new.self.fileset c.remove.new.self.tags c.args.file c.args.size left rest (pages_of c.truncate.new.pages.entries.items)) c.in_ok-at.ensures.ok_part (second.ok rest between.files))
    (second.together world.space world.cells rest between) (second.beside rest between.files)
