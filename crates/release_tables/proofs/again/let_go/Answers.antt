use Rattle.std.proofs.Common.{Option, subst, sym, arith}
use Rattle.release_steps.specs.file_release.declared.reader.OwnPages.{OwnPages}
use Rattle.release_steps.specs.file_release.Sharing.{IsKnown}
use Rattle.release_steps.specs.release_list.declared.cursor.Cursor.{Cursor}
use Rattle.release_steps.specs.release_list.Cursors.{IsAhead}
use Rattle.release_steps.specs.release_list.Listing.{Listing}
use Rattle.release_steps.specs.release_list.Standing.{Files}
use Rattle.release_steps.specs.release_list.Steps.{IsWell, LetsGo, now_of}
use Rattle.release_steps.specs.page_store.Homes.{pages_of}
use Rattle.release_tables.specs.Called.{parts_of}
use Rattle.release_tables.proofs.Agains.{cut_chain, let_go, well}
use Rattle.release_tables.proofs.again.let_go.Goals as goal

pub release_some-requires : goal.release_some-requires
release_some-requires c =
    let world = c.args.world.now in
    let parts = parts_of world c.args.list.now.list in
    let first = c.requires.0 in
    let cut = c.requires.1 in
    let chain = cut_chain world.files.fileset c.args.version c.args.tag c.args.at.now first parts cut in
    let pages = pages_of world.pages.entries.items in
    record {
      most = omega arith;
      ahead = subst (λ (o : Option Cursor). IsAhead pages o) (sym c.start_over.ensures.cursor) tt;
      known = subst (λ (o : Option OwnPages). IsKnown pages o) (sym c.start_over.ensures.known) tt;
      well = subst (λ (l : Listing). (files : Files) × IsWell (now_of l files world.space world.cells pages)) (sym c.start_over.ensures.list) (
        _,
        well world.files.fileset c.args.version c.args.tag c.args.at.now first parts cut c.add.new.self.list c.in_ok-add.ensures.ok c.in_ok-add.ensures.tag_pages (c.is_trimmed.ensures chain.chain chain.file c.if-not-is_trimmed.false),
      );
    }

pub returns-clause-went : goal.returns-clause-went
returns-clause-went c = λ first cut.
    let world = c.args.world.now in
    let parts = parts_of world c.args.list.now.list in
    let now = c.release_some.new in
    let chain = cut_chain world.files.fileset c.args.version c.args.tag c.args.at.now first parts cut in
    let trim = c.is_trimmed.ensures chain.chain chain.file c.if-not-is_trimmed.false in
    let adds = c.in_ok-add.ensures.ok in
    let same = c.in_ok-add.ensures.tag_pages in
    let pages = pages_of world.pages.entries.items in
    let new = pages_of now.pages.entries.items in
    let count = c.in_ok-release_some.field-0 in
    let went =
    subst (λ (l : Listing). (files : Files) → IsWell (now_of l files world.space world.cells pages) → LetsGo 5 c.args.version (now_of l files world.space world.cells pages) count now.self.list now.space now.cells new) c.start_over.ensures.list
    c.in_ok-release_some.ensures.ok in
    let_go world.files.fileset c.args.version c.args.tag c.args.at.now first parts cut c.add.new.self.list adds same trim
    count now.self.list now.space now.cells new
    (went _ (well world.files.fileset c.args.version c.args.tag c.args.at.now first parts cut c.add.new.self.list adds same trim))
