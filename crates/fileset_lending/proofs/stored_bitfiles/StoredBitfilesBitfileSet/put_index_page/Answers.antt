use Rattle.std.proofs.Common.{◌∙◌, ◌<◌, ◌≤◌, arith, refl}
use Rattle.domain_memory.specs.page_store.Bitfiles.{IsDirectory, count_index, shown_index}
use Rattle.domain_memory.proofs.OfStoredSet.StableSet.{has_set}
use Rattle.fileset_lending.specs.Shown.{shown, shown_is, shown_stands}
use Rattle.fileset_lending.proofs.Behind.{put_behind}
use Rattle.fileset_lending.proofs.Held.{at_ends, changed_held, err_map, of_each, on_err_map, on_ok_map, still}
use Rattle.fileset_lending.proofs.Misses.{index_less, none_found, none_found_less}
use Rattle.fileset_lending.proofs.Rests.{kept}
use Rattle.fileset_lending.specs.Rest.{parts_of}
use Rattle.fileset_lending.proofs.Arounds.{insert_around, still_around}
use Rattle.set_standing.proofs.PartsCalls.{reindexed_kept}
use Rattle.fileset_lending.proofs.KeptParts.{insert_keeps, same_kept}
use Rattle.fileset_lending.proofs.stored_bitfiles.StoredBitfilesBitfileSet.put_index_page.Goals as goal

pub write_index_page-requires-clause-set : goal.write_index_page-requires-clause-set
write_index_page-requires-clause-set g c =
    let set = c.args.self.now in
    let pages = g.M.MetaPages.pages set.parts.pages in
    has_set set.parts.files.fileset set.parts.files.tags set.parts.space set.parts.cells pages set.held

pub write_index_page-requires-clause-directory : goal.write_index_page-requires-clause-directory
write_index_page-requires-clause-directory g c =
    let set = c.args.self.now in
    let pages = g.M.MetaPages.pages set.parts.pages in
    of_each set.parts.files.fileset set.parts.files.tags set.parts.space set.parts.cells pages set.held (λ s. IsDirectory s c.args.tag) c.requires.directory

pub write_index_page-requires-clause-there : goal.write_index_page-requires-clause-there
write_index_page-requires-clause-there g c =
    let set = c.args.self.now in
    let pages = g.M.MetaPages.pages set.parts.pages in
    of_each set.parts.files.fileset set.parts.files.tags set.parts.space set.parts.cells pages set.held (λ s. c.args.page < count_index s c.args.tag) (omega arith)

pub returns-in-Ok-clause-ok : goal.returns-in-Ok-clause-ok
returns-in-Ok-clause-ok g c =
    let set = c.args.self.now in
    let pages = g.M.MetaPages.pages set.parts.pages in
    shown_is set.parts.files.fileset set.parts.files.tags set.parts.space set.parts.cells (g.M.MetaPages.pages c.write_index_page.new.pages) _ _ (c.in-Ok.ensures.ok _ (shown_stands set.parts.files.fileset set.parts.files.tags set.parts.space set.parts.cells pages set.held))

pub returns-in-Err-clause-err : goal.returns-in-Err-clause-err
returns-in-Err-clause-err g c =
    let set = c.args.self.now in
    let pages = g.M.MetaPages.pages set.parts.pages in
    shown_is set.parts.files.fileset set.parts.files.tags set.parts.space set.parts.cells (g.M.MetaPages.pages c.write_index_page.new.pages) _ _ (still set.parts.files set.parts.files set.parts.space set.parts.space set.parts.cells pages (g.M.MetaPages.pages c.write_index_page.new.pages) (shown set.parts.files.fileset set.parts.files.tags set.parts.space set.parts.cells pages set.held) (shown_stands set.parts.files.fileset set.parts.files.tags set.parts.space set.parts.cells pages set.held) refl refl c.in-Err.ensures.err)

pub insert_index_page-requires-clause-set : goal.insert_index_page-requires-clause-set
insert_index_page-requires-clause-set g c =
    let set = c.args.self.now in
    let pages = g.M.MetaPages.pages set.parts.pages in
    has_set set.parts.files.fileset set.parts.files.tags set.parts.space set.parts.cells pages set.held

pub insert_index_page-requires-clause-directory : goal.insert_index_page-requires-clause-directory
insert_index_page-requires-clause-directory g c =
    let set = c.args.self.now in
    let pages = g.M.MetaPages.pages set.parts.pages in
    of_each set.parts.files.fileset set.parts.files.tags set.parts.space set.parts.cells pages set.held (λ s. IsDirectory s c.args.tag) c.requires.directory

pub insert_index_page-requires-clause-there : goal.insert_index_page-requires-clause-there
insert_index_page-requires-clause-there g c =
    let set = c.args.self.now in
    let pages = g.M.MetaPages.pages set.parts.pages in
    of_each set.parts.files.fileset set.parts.files.tags set.parts.space set.parts.cells pages set.held (λ s. c.args.page ≤ count_index s c.args.tag) c.requires.place

pub invariant_of-self-2 : goal.invariant_of-self-2
invariant_of-self-2 g c =
    let set = c.args.self.now in
    let pages = g.M.MetaPages.pages set.parts.pages in
    record { held = changed_held set.parts.files.fileset set.parts.files.tags c.insert_index_page.new.space set.parts.cells (g.M.MetaPages.pages c.insert_index_page.new.pages) _ _ c.insert_index_page.result (c.insert_index_page.ensures.ok _ (shown_stands set.parts.files.fileset set.parts.files.tags set.parts.space set.parts.cells pages set.held)) (c.insert_index_page.ensures.err _ (shown_stands set.parts.files.fileset set.parts.files.tags set.parts.space set.parts.cells pages set.held)) }

pub returns-clause-ok : goal.returns-clause-ok
returns-clause-ok g c =
    let set = c.args.self.now in
    let pages = g.M.MetaPages.pages set.parts.pages in
    on_ok_map (λ was. shown_is set.parts.files.fileset set.parts.files.tags c.insert_index_page.new.space set.parts.cells (g.M.MetaPages.pages c.insert_index_page.new.pages) _ _ was ∙ put_behind (shown set.parts.files.fileset set.parts.files.tags set.parts.space set.parts.cells pages set.held) c.args.tag c.args.page (shown_index c.args.bytes) (omega arith)) c.insert_index_page.result (c.insert_index_page.ensures.ok _ (shown_stands set.parts.files.fileset set.parts.files.tags set.parts.space set.parts.cells pages set.held))

pub returns-clause-err : goal.returns-clause-err
returns-clause-err g c =
    let set = c.args.self.now in
    let pages = g.M.MetaPages.pages set.parts.pages in
    on_err_map (λ was. shown_is set.parts.files.fileset set.parts.files.tags c.insert_index_page.new.space set.parts.cells (g.M.MetaPages.pages c.insert_index_page.new.pages) _ _ was) c.insert_index_page.result (c.insert_index_page.ensures.err _ (shown_stands set.parts.files.fileset set.parts.files.tags set.parts.space set.parts.cells pages set.held))

pub returns-clause-no_page : goal.returns-clause-no_page
returns-clause-no_page g c =
    let set = c.args.self.now in
    let pages = g.M.MetaPages.pages set.parts.pages in
    err_map (λ fault none. none_found set.parts.space c.insert_index_page.new.space (omega (arith, c.misses.ensures.value)) fault none) c.insert_index_page.result c.insert_index_page.ensures.none

pub returns-clause-count : goal.returns-clause-count
returns-clause-count g c =
    let set = c.args.self.now in
    let pages = g.M.MetaPages.pages set.parts.pages in
    let was = (shown_stands set.parts.files.fileset set.parts.files.tags set.parts.space set.parts.cells pages set.held) in
    at_ends (λ adds. index_less _ _ _ _ _ _ _ _ _ set.parts.space c.insert_index_page.new.space _ _ adds) (λ fault none. none_found_less set.parts.space c.insert_index_page.new.space (omega (arith, c.misses.ensures.value)) fault none) c.insert_index_page.result (c.insert_index_page.ensures.adds was.chains (was.indexes c.args.tag) was.stands.together (was.stands.indexed c.args.tag)) c.insert_index_page.ensures.none

pub invariant_of-self : goal.invariant_of-self
invariant_of-self g c =
    let set = c.args.self.now in
    let pages = g.M.MetaPages.pages set.parts.pages in
    record { held = changed_held set.parts.files.fileset set.parts.files.tags set.parts.space set.parts.cells (g.M.MetaPages.pages c.write_index_page.new.pages) _ (shown set.parts.files.fileset set.parts.files.tags set.parts.space set.parts.cells pages set.held) c.write_index_page.result (c.write_index_page.ensures.ok _ (shown_stands set.parts.files.fileset set.parts.files.tags set.parts.space set.parts.cells pages set.held)) (on_err_map (λ err. still set.parts.files set.parts.files set.parts.space set.parts.space set.parts.cells pages (g.M.MetaPages.pages c.write_index_page.new.pages) (shown set.parts.files.fileset set.parts.files.tags set.parts.space set.parts.cells pages set.held) (shown_stands set.parts.files.fileset set.parts.files.tags set.parts.space set.parts.cells pages set.held) refl refl err) c.write_index_page.result c.write_index_page.ensures.err) }

pub returns-clause-rest : goal.returns-clause-rest
returns-clause-rest g c =
    let set = c.args.self.now in
    let pages = g.M.MetaPages.pages set.parts.pages in
    let was = (shown_stands set.parts.files.fileset set.parts.files.tags set.parts.space set.parts.cells pages set.held) in
    let p = parts_of set.parts.files.tags pages set.parts.space set.parts.cells in
    kept _ _ _ _ _ _ _ _ refl c.insert_index_page.ensures.before (insert_keeps p (parts_of set.parts.files.tags (g.M.MetaPages.pages c.insert_index_page.new.pages) c.insert_index_page.new.space set.parts.cells) set.parts.files.fileset c.args.tag c.args.page c.args.bytes set.settings.prefer was.chains (was.indexes c.args.tag) c.insert_index_page.result (c.insert_index_page.ensures.adds was.chains (was.indexes c.args.tag) was.stands.together (was.stands.indexed c.args.tag)) c.insert_index_page.ensures.none refl) (insert_around set.parts.files.fileset set.settings.version set.settings.born p (g.M.MetaPages.pages c.insert_index_page.new.pages) c.insert_index_page.new.space c.args.tag c.args.page set.settings.prefer c.args.bytes _ was c.requires.directory c.insert_index_page.result c.insert_index_page.ensures.adds c.insert_index_page.ensures.none c.insert_index_page.ensures.pages)

pub returns-in-Ok-clause-rest : goal.returns-in-Ok-clause-rest
returns-in-Ok-clause-rest g c =
    let set = c.args.self.now in
    let pages = g.M.MetaPages.pages set.parts.pages in
    let was = (shown_stands set.parts.files.fileset set.parts.files.tags set.parts.space set.parts.cells pages set.held) in
    let p = parts_of set.parts.files.tags pages set.parts.space set.parts.cells in
    kept _ _ _ _ _ _ _ _ refl c.write_index_page.ensures.before (same_kept p (parts_of set.parts.files.tags (g.M.MetaPages.pages c.write_index_page.new.pages) set.parts.space set.parts.cells) refl refl) (reindexed_kept set.parts.files.fileset set.settings.version set.settings.born p (g.M.MetaPages.pages c.write_index_page.new.pages) c.args.tag c.args.page c.args.bytes _ was c.requires.directory c.in-Ok.ensures.writes)

pub returns-in-Err-clause-rest : goal.returns-in-Err-clause-rest
returns-in-Err-clause-rest g c =
    let set = c.args.self.now in
    let pages = g.M.MetaPages.pages set.parts.pages in
    let was = (shown_stands set.parts.files.fileset set.parts.files.tags set.parts.space set.parts.cells pages set.held) in
    let p = parts_of set.parts.files.tags pages set.parts.space set.parts.cells in
    kept _ _ _ _ _ _ _ _ refl c.write_index_page.ensures.before (same_kept p (parts_of set.parts.files.tags (g.M.MetaPages.pages c.write_index_page.new.pages) set.parts.space set.parts.cells) refl refl) (still_around set.parts.files.fileset set.settings.version set.settings.born p (g.M.MetaPages.pages c.write_index_page.new.pages) c.in-Err.ensures.err)
