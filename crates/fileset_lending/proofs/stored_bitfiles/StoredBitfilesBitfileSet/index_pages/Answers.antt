use Rattle.std.proofs.Common.{refl, sym}
use Rattle.domain_memory.specs.page_store.Bitfiles.{IsDirectory}
use Rattle.domain_memory.proofs.OfStoredSet.StableSet.{has_set}
use Rattle.fileset_lending.specs.Shown.{shown, shown_sound, shown_stands}
use Rattle.fileset_lending.proofs.Held.{of_each}
use Rattle.fileset_lending.proofs.Looks.{no_index}
use Rattle.fileset_lending.proofs.stored_bitfiles.StoredBitfilesBitfileSet.index_pages.Goals as goal

pub returns-then-not-has_directory : goal.returns-then-not-has_directory
returns-then-not-has_directory g c =
    let set = c.args.self.now in
    let pages = g.M.MetaPages.pages set.parts.pages in
    sym (no_index (shown set.parts.files.fileset set.parts.files.tags set.parts.space set.parts.cells pages set.held) c.args.tag (shown_sound set.parts.files.fileset set.parts.files.tags set.parts.space set.parts.cells pages set.held (g.met.M.MetaPages.whole set.parts.pages)) (c.if-not-has_directory.ensures.no refl))

pub count_index_of-requires-clause-set : goal.count_index_of-requires-clause-set
count_index_of-requires-clause-set g c =
    let set = c.args.self.now in
    let pages = g.M.MetaPages.pages set.parts.pages in
    has_set set.parts.files.fileset set.parts.files.tags set.parts.space set.parts.cells pages set.held

pub count_index_of-requires-clause-directory : goal.count_index_of-requires-clause-directory
count_index_of-requires-clause-directory g c =
    let set = c.args.self.now in
    let pages = g.M.MetaPages.pages set.parts.pages in
    of_each set.parts.files.fileset set.parts.files.tags set.parts.space set.parts.cells pages set.held (λ s. IsDirectory s c.args.tag) (c.if-not-has_directory.ensures.yes refl)

pub returns : goal.returns
returns g c =
    let set = c.args.self.now in
    let pages = g.M.MetaPages.pages set.parts.pages in
    c.count_index_of.ensures _ (shown_stands set.parts.files.fileset set.parts.files.tags set.parts.space set.parts.cells pages set.held)
