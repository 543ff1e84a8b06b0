use Rattle.std.proofs.Common.{refl, sym}
use Rattle.domain_memory.specs.page_store.Bitfiles.{IsDirectory}
use Rattle.domain_memory.proofs.OfStoredSet.StableSet.{has_set}
use Rattle.fileset_lending.specs.Shown.{shown, shown_sound, shown_stands}
use Rattle.fileset_lending.proofs.Held.{of_each}
use Rattle.fileset_lending.proofs.Looks.{no_page}
use Rattle.fileset_lending.proofs.stored_bitfiles.StoredBitfilesBitfileSet.dir_page.Goals as goal

pub returns-then-not-has_directory : goal.returns-then-not-has_directory
returns-then-not-has_directory g c =
    let set = c.args.self.now in
    let pages = g.M.MetaPages.pages set.parts.pages in
    sym (no_page (shown set.parts.files.fileset set.parts.files.tags set.parts.space set.parts.cells pages set.held) c.args.tag c.args.page (shown_sound set.parts.files.fileset set.parts.files.tags set.parts.space set.parts.cells pages set.held (g.met.M.MetaPages.whole set.parts.pages)) (c.if-not-has_directory.ensures.no refl))

pub page_of-requires-clause-set : goal.page_of-requires-clause-set
page_of-requires-clause-set g c =
    let set = c.args.self.now in
    let pages = g.M.MetaPages.pages set.parts.pages in
    has_set set.parts.files.fileset set.parts.files.tags set.parts.space set.parts.cells pages set.held

pub page_of-requires-clause-directory : goal.page_of-requires-clause-directory
page_of-requires-clause-directory g c =
    let set = c.args.self.now in
    let pages = g.M.MetaPages.pages set.parts.pages in
    of_each set.parts.files.fileset set.parts.files.tags set.parts.space set.parts.cells pages set.held (λ s. IsDirectory s c.args.tag) (c.if-not-has_directory.ensures.yes refl)

pub returns : goal.returns
returns g c =
    let set = c.args.self.now in
    let pages = g.M.MetaPages.pages set.parts.pages in
    c.page_of.ensures _ (shown_stands set.parts.files.fileset set.parts.files.tags set.parts.space set.parts.cells pages set.held)
