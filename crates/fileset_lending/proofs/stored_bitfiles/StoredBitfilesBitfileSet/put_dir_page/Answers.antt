use Rattle.std.proofs.Common.{◌≡◌, ◌<◌, arith, refl}
use Rattle.domain_memory.specs.page_store.Bitfiles.{IsDirectory, count_pages}
use Rattle.domain_memory.proofs.OfStoredSet.StableSet.{has_set}
use Rattle.fileset_lending.specs.Shown.{shown, shown_is, shown_stands}
use Rattle.fileset_lending.proofs.Held.{at_ends, changed_held, err_map, of_each, on_err_map, on_ok_map}
use Rattle.fileset_lending.proofs.Misses.{added_less, none_added, none_added_less}
use Rattle.fileset_lending.proofs.Rests.{kept}
use Rattle.fileset_lending.specs.Rest.{parts_of}
use Rattle.fileset_lending.proofs.Arounds.{add_around}
use Rattle.set_standing.proofs.PartsCalls.{written_kept}
use Rattle.fileset_lending.proofs.KeptParts.{add_keeps, same_kept}
use Rattle.fileset_lending.proofs.stored_bitfiles.StoredBitfilesBitfileSet.put_dir_page.Goals as goal

pub write_page-requires-clause-set : goal.write_page-requires-clause-set
write_page-requires-clause-set g c =
    let set = c.args.self.now in
    let pages = g.M.MetaPages.pages set.parts.pages in
    has_set set.parts.files.fileset set.parts.files.tags set.parts.space set.parts.cells pages set.held

pub write_page-requires-clause-directory : goal.write_page-requires-clause-directory
write_page-requires-clause-directory g c =
    let set = c.args.self.now in
    let pages = g.M.MetaPages.pages set.parts.pages in
    of_each set.parts.files.fileset set.parts.files.tags set.parts.space set.parts.cells pages set.held (λ s. IsDirectory s c.args.tag) c.requires.directory

pub write_page-requires-clause-there : goal.write_page-requires-clause-there
write_page-requires-clause-there g c =
    let set = c.args.self.now in
    let pages = g.M.MetaPages.pages set.parts.pages in
    of_each set.parts.files.fileset set.parts.files.tags set.parts.space set.parts.cells pages set.held (λ s. c.args.page < count_pages s c.args.tag) (omega arith)

pub invariant_of-self : goal.invariant_of-self
invariant_of-self g c =
    let set = c.args.self.now in
    let pages = g.M.MetaPages.pages set.parts.pages in
    record { held = ∣ (_, (c.write_page.ensures.put _ (shown_stands set.parts.files.fileset set.parts.files.tags set.parts.space set.parts.cells pages set.held))) ∣₁ }

pub returns-then-page-count-clause-ok : goal.returns-then-page-count-clause-ok
returns-then-page-count-clause-ok g c =
    let set = c.args.self.now in
    let pages = g.M.MetaPages.pages set.parts.pages in
    shown_is set.parts.files.fileset set.parts.files.tags set.parts.space set.parts.cells (g.M.MetaPages.pages c.write_page.new.pages) _ _ (c.write_page.ensures.put _ (shown_stands set.parts.files.fileset set.parts.files.tags set.parts.space set.parts.cells pages set.held))

pub add_page-requires-clause-set : goal.add_page-requires-clause-set
add_page-requires-clause-set g c =
    let set = c.args.self.now in
    let pages = g.M.MetaPages.pages set.parts.pages in
    has_set set.parts.files.fileset set.parts.files.tags set.parts.space set.parts.cells pages set.held

pub add_page-requires-clause-directory : goal.add_page-requires-clause-directory
add_page-requires-clause-directory g c =
    let set = c.args.self.now in
    let pages = g.M.MetaPages.pages set.parts.pages in
    of_each set.parts.files.fileset set.parts.files.tags set.parts.space set.parts.cells pages set.held (λ s. IsDirectory s c.args.tag) c.requires.directory

pub add_page-requires-clause-last : goal.add_page-requires-clause-last
add_page-requires-clause-last g c =
    let set = c.args.self.now in
    let pages = g.M.MetaPages.pages set.parts.pages in
    of_each set.parts.files.fileset set.parts.files.tags set.parts.space set.parts.cells pages set.held (λ s. c.args.page ≡ count_pages s c.args.tag) (omega arith)

pub invariant_of-self-2 : goal.invariant_of-self-2
invariant_of-self-2 g c =
    let set = c.args.self.now in
    let pages = g.M.MetaPages.pages set.parts.pages in
    record { held = changed_held set.parts.files.fileset set.parts.files.tags c.add_page.new.space c.add_page.new.cells (g.M.MetaPages.pages c.add_page.new.pages) _ _ c.add_page.result (c.add_page.ensures.ok _ (shown_stands set.parts.files.fileset set.parts.files.tags set.parts.space set.parts.cells pages set.held)) (c.add_page.ensures.err _ (shown_stands set.parts.files.fileset set.parts.files.tags set.parts.space set.parts.cells pages set.held)) }

pub returns-clause-ok : goal.returns-clause-ok
returns-clause-ok g c =
    let set = c.args.self.now in
    let pages = g.M.MetaPages.pages set.parts.pages in
    on_ok_map (λ was. shown_is set.parts.files.fileset set.parts.files.tags c.add_page.new.space c.add_page.new.cells (g.M.MetaPages.pages c.add_page.new.pages) _ _ was) c.add_page.result (c.add_page.ensures.ok _ (shown_stands set.parts.files.fileset set.parts.files.tags set.parts.space set.parts.cells pages set.held))

pub returns-clause-err : goal.returns-clause-err
returns-clause-err g c =
    let set = c.args.self.now in
    let pages = g.M.MetaPages.pages set.parts.pages in
    on_err_map (λ was. shown_is set.parts.files.fileset set.parts.files.tags c.add_page.new.space c.add_page.new.cells (g.M.MetaPages.pages c.add_page.new.pages) _ _ was) c.add_page.result (c.add_page.ensures.err _ (shown_stands set.parts.files.fileset set.parts.files.tags set.parts.space set.parts.cells pages set.held))

pub returns-clause-no_page : goal.returns-clause-no_page
returns-clause-no_page g c =
    let set = c.args.self.now in
    let pages = g.M.MetaPages.pages set.parts.pages in
    let was = (shown_stands set.parts.files.fileset set.parts.files.tags set.parts.space set.parts.cells pages set.held) in
    err_map (λ fault none. none_added set.parts.space c.add_page.new.space (omega (arith, c.misses.ensures.value)) c.args.tag c.args.page was.chains set.parts.cells fault none) c.add_page.result (c.add_page.ensures.none was.chains was.stands.together)

pub returns-clause-count : goal.returns-clause-count
returns-clause-count g c =
    let set = c.args.self.now in
    let pages = g.M.MetaPages.pages set.parts.pages in
    let was = (shown_stands set.parts.files.fileset set.parts.files.tags set.parts.space set.parts.cells pages set.held) in
    at_ends (λ some. added_less _ _ c.args.tag c.args.page _ _ _ was.chains set.parts.space c.add_page.new.space set.parts.cells c.add_page.new.cells pages (g.M.MetaPages.pages c.add_page.new.pages) some) (λ fault none. none_added_less set.parts.space c.add_page.new.space (omega (arith, c.misses.ensures.value)) c.args.tag c.args.page was.chains set.parts.cells fault none) c.add_page.result (c.add_page.ensures.adds was.chains was.stands.together) (c.add_page.ensures.none was.chains was.stands.together)

pub returns-then-page-count-clause-rest : goal.returns-then-page-count-clause-rest
returns-then-page-count-clause-rest g c =
    let set = c.args.self.now in
    let pages = g.M.MetaPages.pages set.parts.pages in
    let was = (shown_stands set.parts.files.fileset set.parts.files.tags set.parts.space set.parts.cells pages set.held) in
    let p = parts_of set.parts.files.tags pages set.parts.space set.parts.cells in
    kept _ _ _ _ _ _ _ _ refl c.write_page.ensures.before (same_kept p (parts_of set.parts.files.tags (g.M.MetaPages.pages c.write_page.new.pages) set.parts.space set.parts.cells) refl refl) (written_kept set.parts.files.fileset set.settings.version set.settings.born p (g.M.MetaPages.pages c.write_page.new.pages) c.args.tag c.args.page (shown set.parts.files.fileset set.parts.files.tags set.parts.space set.parts.cells pages set.held) was c.requires.directory c.write_page.ensures.elsewhere)

pub returns-clause-rest : goal.returns-clause-rest
returns-clause-rest g c =
    let set = c.args.self.now in
    let pages = g.M.MetaPages.pages set.parts.pages in
    let was = (shown_stands set.parts.files.fileset set.parts.files.tags set.parts.space set.parts.cells pages set.held) in
    let p = parts_of set.parts.files.tags pages set.parts.space set.parts.cells in
    kept _ _ _ _ _ _ _ _ refl c.add_page.ensures.before (add_keeps p (parts_of set.parts.files.tags (g.M.MetaPages.pages c.add_page.new.pages) c.add_page.new.space c.add_page.new.cells) set.parts.files.fileset c.args.tag c.args.page c.args.bytes set.settings.prefer set.settings.version was.chains c.add_page.result (c.add_page.ensures.adds was.chains was.stands.together) (c.add_page.ensures.none was.chains was.stands.together) c.add_page.ensures.cells) (add_around set.parts.files.fileset set.settings.version set.settings.born p (parts_of set.parts.files.tags (g.M.MetaPages.pages c.add_page.new.pages) c.add_page.new.space c.add_page.new.cells) c.args.tag c.args.page c.args.bytes set.settings.prefer (shown set.parts.files.fileset set.parts.files.tags set.parts.space set.parts.cells pages set.held) was c.requires.directory (omega arith) c.requires.fits c.add_page.result refl c.add_page.ensures.adds c.add_page.ensures.none c.add_page.ensures.cells c.add_page.ensures.pages)
