use Rattle.std.proofs.Common.{IsSome, refl}
use Rattle.domain_memory.proofs.OfStoredSet.StableSet.{has_set}
use Rattle.fileset_lending.specs.Shown.{shown, shown_is, shown_stands}
use Rattle.fileset_lending.proofs.Held.{changed_held, of_each, on_err_map, still}
use Rattle.fileset_lending.proofs.Rests.{kept}
use Rattle.fileset_lending.specs.Rest.{parts_of}
use Rattle.fileset_lending.proofs.Arounds.{still_around}
use Rattle.set_standing.proofs.PartsCalls.{linked_kept}
use Rattle.fileset_lending.proofs.KeptParts.{same_kept}
use Rattle.fileset_lending.proofs.stored_bitfiles.StoredBitfilesBitfileSet.set_links.Goals as goal

pub set_links-requires-clause-set : goal.set_links-requires-clause-set
set_links-requires-clause-set g c =
    let set = c.args.self.now in
    let pages = g.M.MetaPages.pages set.parts.pages in
    has_set set.parts.files.fileset set.parts.files.tags set.parts.space set.parts.cells pages set.held

pub set_links-requires-clause-live : goal.set_links-requires-clause-live
set_links-requires-clause-live g c =
    let set = c.args.self.now in
    let pages = g.M.MetaPages.pages set.parts.pages in
    of_each set.parts.files.fileset set.parts.files.tags set.parts.space set.parts.cells pages set.held (λ s. IsSome (s c.args.tag)) c.requires.live

pub returns-in-Ok-clause-ok : goal.returns-in-Ok-clause-ok
returns-in-Ok-clause-ok g c =
    let set = c.args.self.now in
    let pages = g.M.MetaPages.pages set.parts.pages in
    shown_is set.parts.files.fileset set.parts.files.tags set.parts.space set.parts.cells (g.M.MetaPages.pages c.set_links.new.pages) _ _ (c.in-Ok.ensures.ok _ (shown_stands set.parts.files.fileset set.parts.files.tags set.parts.space set.parts.cells pages set.held))

pub returns-in-Err-clause-err : goal.returns-in-Err-clause-err
returns-in-Err-clause-err g c =
    let set = c.args.self.now in
    let pages = g.M.MetaPages.pages set.parts.pages in
    shown_is set.parts.files.fileset set.parts.files.tags set.parts.space set.parts.cells (g.M.MetaPages.pages c.set_links.new.pages) _ _ (still set.parts.files set.parts.files set.parts.space set.parts.space set.parts.cells pages (g.M.MetaPages.pages c.set_links.new.pages) (shown set.parts.files.fileset set.parts.files.tags set.parts.space set.parts.cells pages set.held) (shown_stands set.parts.files.fileset set.parts.files.tags set.parts.space set.parts.cells pages set.held) refl refl c.in-Err.ensures.err)

pub invariant_of-self : goal.invariant_of-self
invariant_of-self g c =
    let set = c.args.self.now in
    let pages = g.M.MetaPages.pages set.parts.pages in
    record { held = changed_held set.parts.files.fileset set.parts.files.tags set.parts.space set.parts.cells (g.M.MetaPages.pages c.set_links.new.pages) _ (shown set.parts.files.fileset set.parts.files.tags set.parts.space set.parts.cells pages set.held) c.set_links.result (c.set_links.ensures.ok _ (shown_stands set.parts.files.fileset set.parts.files.tags set.parts.space set.parts.cells pages set.held)) (on_err_map (λ err. still set.parts.files set.parts.files set.parts.space set.parts.space set.parts.cells pages (g.M.MetaPages.pages c.set_links.new.pages) (shown set.parts.files.fileset set.parts.files.tags set.parts.space set.parts.cells pages set.held) (shown_stands set.parts.files.fileset set.parts.files.tags set.parts.space set.parts.cells pages set.held) refl refl err) c.set_links.result c.set_links.ensures.err) }

pub returns-in-Ok-clause-rest : goal.returns-in-Ok-clause-rest
returns-in-Ok-clause-rest g c =
    let set = c.args.self.now in
    let pages = g.M.MetaPages.pages set.parts.pages in
    let was = (shown_stands set.parts.files.fileset set.parts.files.tags set.parts.space set.parts.cells pages set.held) in
    let p = parts_of set.parts.files.tags pages set.parts.space set.parts.cells in
    kept _ _ _ _ _ _ _ _ refl c.set_links.ensures.before (same_kept p (parts_of set.parts.files.tags (g.M.MetaPages.pages c.set_links.new.pages) set.parts.space set.parts.cells) refl refl) (linked_kept set.parts.files.fileset set.settings.version set.settings.born p (g.M.MetaPages.pages c.set_links.new.pages) c.args.tag c.args.links c.requires.named c.requires.most c.set_links.ensures.beside c.in-Ok.ensures.says)

pub returns-in-Err-clause-rest : goal.returns-in-Err-clause-rest
returns-in-Err-clause-rest g c =
    let set = c.args.self.now in
    let pages = g.M.MetaPages.pages set.parts.pages in
    let was = (shown_stands set.parts.files.fileset set.parts.files.tags set.parts.space set.parts.cells pages set.held) in
    let p = parts_of set.parts.files.tags pages set.parts.space set.parts.cells in
    kept _ _ _ _ _ _ _ _ refl c.set_links.ensures.before (same_kept p (parts_of set.parts.files.tags (g.M.MetaPages.pages c.set_links.new.pages) set.parts.space set.parts.cells) refl refl) (still_around set.parts.files.fileset set.settings.version set.settings.born p (g.M.MetaPages.pages c.set_links.new.pages) c.in-Err.ensures.err)
