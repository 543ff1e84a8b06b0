use Rattle.std.proofs.Common.{ap, arith}
use Rattle.domain_memory.proofs.OfStoredSet.StableSet.{has_set}
use Rattle.fileset_lending.specs.Shown.{shown_is, shown_stands}
use Rattle.fileset_lending.proofs.Held.{at_ends, err_map, made_held, ok_map, on_err_map}
use Rattle.fileset_lending.proofs.Misses.{made_less, none_made, none_made_less}
use Rattle.fileset_lending.proofs.Rests.{kept}
use Rattle.fileset_lending.specs.Rest.{parts_of}
use Rattle.fileset_lending.proofs.Arounds.{make_around}
use Rattle.domain_memory.specs.fileset_files.declared.bitfiles.Bitfiles.{Bitfiles as FilesOf}
use Rattle.fileset_lending.proofs.KeptParts.{make_keeps}
use Rattle.fileset_lending.proofs.stored_bitfiles.StoredBitfilesBitfileSet.make.Goals as goal

pub make-requires : goal.make-requires
make-requires g c =
    let set = c.args.self.now in
    let pages = g.M.MetaPages.pages set.parts.pages in
    has_set set.parts.files.fileset set.parts.files.tags set.parts.space set.parts.cells pages set.held

pub invariant_of-self : goal.invariant_of-self
invariant_of-self g c =
    let set = c.args.self.now in
    let pages = g.M.MetaPages.pages set.parts.pages in
    record { held = made_held c.make.new.files.fileset c.make.new.files.tags c.make.new.space c.make.new.cells (g.M.MetaPages.pages c.make.new.pages) _ _ c.make.result (c.make.ensures.ok _ (shown_stands set.parts.files.fileset set.parts.files.tags set.parts.space set.parts.cells pages set.held)) (c.make.ensures.err _ (shown_stands set.parts.files.fileset set.parts.files.tags set.parts.space set.parts.cells pages set.held)) }

pub returns-clause-ok : goal.returns-clause-ok
returns-clause-ok g c =
    let set = c.args.self.now in
    let pages = g.M.MetaPages.pages set.parts.pages in
    ok_map (λ tag was. shown_is c.make.new.files.fileset c.make.new.files.tags c.make.new.space c.make.new.cells (g.M.MetaPages.pages c.make.new.pages) _ _ was) c.make.result (c.make.ensures.ok _ (shown_stands set.parts.files.fileset set.parts.files.tags set.parts.space set.parts.cells pages set.held))

pub returns-clause-err : goal.returns-clause-err
returns-clause-err g c =
    let set = c.args.self.now in
    let pages = g.M.MetaPages.pages set.parts.pages in
    on_err_map (λ was. shown_is c.make.new.files.fileset c.make.new.files.tags c.make.new.space c.make.new.cells (g.M.MetaPages.pages c.make.new.pages) _ _ was) c.make.result (c.make.ensures.err _ (shown_stands set.parts.files.fileset set.parts.files.tags set.parts.space set.parts.cells pages set.held))

pub returns-clause-no_page : goal.returns-clause-no_page
returns-clause-no_page g c =
    let set = c.args.self.now in
    let pages = g.M.MetaPages.pages set.parts.pages in
    err_map (λ fault none. none_made set.parts.space c.make.new.space (omega (arith, c.misses.ensures.value)) set.parts.files.tags set.parts.cells pages fault none) c.make.result c.make.ensures.none

pub returns-clause-count : goal.returns-clause-count
returns-clause-count g c =
    let set = c.args.self.now in
    let pages = g.M.MetaPages.pages set.parts.pages in
    at_ends (λ taken. made_less set.settings.prefer set.parts.files.tags c.make.new.files.tags set.parts.space c.make.new.space set.parts.cells c.make.new.cells pages taken) (λ fault none. none_made_less set.parts.space c.make.new.space (omega (arith, c.misses.ensures.value)) set.parts.files.tags set.parts.cells pages fault none) c.make.result c.make.ensures.taken c.make.ensures.none

pub returns-clause-rest : goal.returns-clause-rest
returns-clause-rest g c =
    let set = c.args.self.now in
    let pages = g.M.MetaPages.pages set.parts.pages in
    let was = (shown_stands set.parts.files.fileset set.parts.files.tags set.parts.space set.parts.cells pages set.held) in
    let p = parts_of set.parts.files.tags pages set.parts.space set.parts.cells in
    kept _ _ _ _ _ _ _ _ c.make.ensures.fileset c.make.ensures.before (make_keeps p (parts_of c.make.new.files.tags (g.M.MetaPages.pages c.make.new.pages) c.make.new.space c.make.new.cells) set.settings.prefer c.make.result c.make.ensures.taken c.make.ensures.none c.make.ensures.cells) (make_around set.parts.files.fileset set.settings.version set.settings.born p (parts_of c.make.new.files.tags (g.M.MetaPages.pages c.make.new.pages) c.make.new.space c.make.new.cells) c.args.kind c.args.uid c.args.gid set.settings.prefer c.make.result c.make.ensures.creates c.make.ensures.taken c.make.ensures.others c.make.ensures.elsewhere c.make.ensures.next c.make.ensures.none (on_err_map (λ same. ap (λ (f : FilesOf). f.tags) same) c.make.result c.make.ensures.same) c.make.ensures.cells c.make.ensures.pages)
