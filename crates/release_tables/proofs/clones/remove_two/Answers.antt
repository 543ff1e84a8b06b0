use Rattle.std.proofs.Common.{ap}
use Rattle.std.proofs.lemmas.Bool.{false_from_ne_true}
use Rattle.release_steps.specs.domain_base.declared.place.Tag.{Tag}
use Rattle.release_steps.specs.page_store.Bitfiles.{same_tag}
use Rattle.release_steps.specs.page_store.Homes.{pages_of}
use Rattle.release_steps.specs.fileset_files.Changes.{without_chain}
use Rattle.release_steps.proofs.OfFilesetFiles.OneFile.{tags_same}
use Rattle.release_tables.proofs.Removals.{two_removed}
use Rattle.release_tables.proofs.clones.remove_two.Goals as goal

pub attributes-requires-2 : goal.attributes-requires-2
attributes-requires-2 c =
    let world = c.args.world.now in
    (without_chain c.args.clone c.requires.0, (c.in_ok-clone_at.ensures.together world.space world.cells c.requires.0 c.requires.1).files)

pub remove-requires-2-clause-files : goal.remove-requires-2-clause-files
remove-requires-2-clause-files c =
    let world = c.args.world.now in
    (without_chain c.args.clone c.requires.0, (c.in_ok-clone_at.ensures.together world.space world.cells c.requires.0 c.requires.1).files)

pub returns : goal.returns
returns c =
    let world = c.args.world.now in
    let chains = c.requires.0 in
    let first = c.in_ok-clone_at.ensures in
    let second = c.in_ok-at.ensures in
    let between = first.together world.space world.cells chains c.requires.1 in
    let rest = without_chain c.args.clone chains in
    let last = second.together world.space world.cells rest between in
    two_removed (pages_of world.pages.entries.items) (pages_of c.remove.new.pages.entries.items) (pages_of c.remove-2.new.pages.entries.items) world.files.fileset world.files.tags world.space world.cells c.args.file c.args.clone
    (false_from_ne_true (same_tag c.args.file c.args.clone) (λ same. c.if-file-clone.false (ap (λ (t : Tag). t.slot) (tags_same c.args.file c.args.clone same))))
    chains c.requires.1 last.allocated c.in_ok-at.at c.in_ok-clone_at.clone_at
    (first.ok chains c.requires.1.files).pending (second.ok rest between.files).pending c.remove.new.self.tags (second.beside rest between.files)
