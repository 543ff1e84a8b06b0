use Rattle.std.proofs.Common.{refl}
use Rattle.std.proofs.lemmas.Result.{on_err_weaker, on_ok_weaker}
use Rattle.domain_memory.proofs.OfStoredSet.Live.{live_any}
use Rattle.fileset_lending.specs.Shown.{shown, shown_is, shown_stands}
use Rattle.fileset_lending.proofs.Held.{both_ends, is_there, still}
use Rattle.fileset_lending.proofs.ParentSaid.{put_in_stands}
use Rattle.fileset_lending.proofs.Rests.{kept}
use Rattle.fileset_lending.specs.Rest.{parts_of}
use Rattle.fileset_lending.proofs.Arounds.{parent_around, still_around}
use Rattle.fileset_lending.proofs.KeptParts.{same_kept}
use Rattle.fileset_lending.proofs.stored_bitfiles.StoredBitfiles.set_parent.Goals as goal

pub set_parent-requires-clause-files : goal.set_parent-requires-clause-files
set_parent-requires-clause-files g c =
    let set = c.args.self.now in
    let pages = g.M.MetaPages.pages set.parts.pages in
    let was = (shown_stands set.parts.files.fileset set.parts.files.tags set.parts.space set.parts.cells pages set.held) in
    (was.chains, was.stands.together.files)

pub set_parent-requires-clause-live : goal.set_parent-requires-clause-live
set_parent-requires-clause-live g c = λ chains are.
    let set = c.args.self.now in
    let pages = g.M.MetaPages.pages set.parts.pages in
    let was = (shown_stands set.parts.files.fileset set.parts.files.tags set.parts.space set.parts.cells pages set.held) in
    live_any set.parts.files.fileset set.parts.files.tags set.parts.space set.parts.cells pages _ was c.args.tag (is_there _ c.requires) chains are

pub invariant_of-self : goal.invariant_of-self
invariant_of-self g c =
    let set = c.args.self.now in
    let old = g.M.MetaPages.pages set.parts.pages in
    let new = g.M.MetaPages.pages c.set_parent.new.pages in
    let files = set.parts.files in
    let space = set.parts.space in
    let cells = set.parts.cells in
    let was = (shown_stands files.fileset files.tags space cells old set.held) in
    record { held = ∣ (shown files.fileset files.tags space cells old set.held, both_ends (λ together. put_in_stands files.fileset files.tags space cells old new _ was c.args.tag c.args.parent (c.set_parent.ensures.beside was.chains was.stands.together.files) together) (λ err. still files files space space cells old new _ was refl refl err) c.set_parent.result (c.set_parent.ensures.together space cells was.chains was.stands.together) c.set_parent.ensures.err) ∣₁ }

pub returns-clause-files : goal.returns-clause-files
returns-clause-files g c =
    let set = c.args.self.now in
    let old = g.M.MetaPages.pages set.parts.pages in
    let new = g.M.MetaPages.pages c.set_parent.new.pages in
    let files = set.parts.files in
    let space = set.parts.space in
    let cells = set.parts.cells in
    let was = (shown_stands files.fileset files.tags space cells old set.held) in
    shown_is files.fileset files.tags space cells new _ _
    (both_ends (λ together. put_in_stands files.fileset files.tags space cells old new _ was c.args.tag c.args.parent (c.set_parent.ensures.beside was.chains was.stands.together.files) together) (λ err. still files files space space cells old new _ was refl refl err) c.set_parent.result (c.set_parent.ensures.together space cells was.chains was.stands.together) c.set_parent.ensures.err)

pub returns-clause-says : goal.returns-clause-says
returns-clause-says g c = λ chains together. c.set_parent.ensures.together c.args.self.now.parts.space c.args.self.now.parts.cells chains together

pub returns-clause-rest : goal.returns-clause-rest
returns-clause-rest g c =
    let set = c.args.self.now in
    let pages = g.M.MetaPages.pages set.parts.pages in
    let was = (shown_stands set.parts.files.fileset set.parts.files.tags set.parts.space set.parts.cells pages set.held) in
    let p = parts_of set.parts.files.tags pages set.parts.space set.parts.cells in
    on_ok_weaker c.set_parent.result
    (λ around. kept _ _ _ _ _ _ _ _ refl c.set_parent.ensures.before (same_kept p (parts_of set.parts.files.tags (g.M.MetaPages.pages c.set_parent.new.pages) set.parts.space set.parts.cells) refl refl) around)
    (parent_around set.parts.files.fileset set.settings.version set.settings.born p (g.M.MetaPages.pages c.set_parent.new.pages) c.args.tag c.args.parent _ was c.requires c.set_parent.result c.set_parent.ensures.beside (c.set_parent.ensures.together set.parts.space set.parts.cells))

pub returns-clause-rest_err : goal.returns-clause-rest_err
returns-clause-rest_err g c =
    let set = c.args.self.now in
    let pages = g.M.MetaPages.pages set.parts.pages in
    let p = parts_of set.parts.files.tags pages set.parts.space set.parts.cells in
    on_err_weaker c.set_parent.result
    (λ err. kept _ _ _ _ _ _ _ _ refl c.set_parent.ensures.before (same_kept p (parts_of set.parts.files.tags (g.M.MetaPages.pages c.set_parent.new.pages) set.parts.space set.parts.cells) refl refl) (still_around set.parts.files.fileset set.settings.version set.settings.born p (g.M.MetaPages.pages c.set_parent.new.pages) err))
    c.set_parent.ensures.err
