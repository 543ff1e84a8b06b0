use Rattle.std.proofs.Common.{Option, subst, sym, arith}
use Rattle.release_steps.specs.domain_base.declared.version.Version.TheVariants.{Four}
use Rattle.release_steps.specs.page_store.Homes.{pages_of}
use Rattle.release_steps.specs.file_release.declared.reader.OwnPages.{OwnPages}
use Rattle.release_steps.specs.file_release.Sharing.{IsKnown}
use Rattle.release_steps.specs.release_list.declared.cursor.Cursor.{Cursor}
use Rattle.release_steps.specs.release_list.Cursors.{IsAhead}
use Rattle.release_steps.specs.release_list.Listing.{Listing}
use Rattle.release_steps.specs.release_list.Standing.{Files}
use Rattle.release_steps.specs.release_list.Steps.{IsWell, LetsGo, now_of}
use Rattle.release_tables.proofs.Stoods.{released_stood}
use Rattle.release_tables.proofs.removing.release_some.Goals as goal

pub release_some-requires : goal.release_some-requires
release_some-requires c =
    let world = c.args.world.now in
    let pages = pages_of world.pages.entries.items in
    record {
      most = omega arith;
      well = subst (λ (l : Listing). (files : Files) × IsWell (now_of l files world.space world.cells pages)) (sym c.start_over.ensures.list) (c.requires.0, c.requires.3.well);
      ahead = subst (λ (o : Option Cursor). IsAhead pages o) (sym c.start_over.ensures.cursor) tt;
      known = subst (λ (o : Option OwnPages). IsKnown pages o) (sym c.start_over.ensures.known) tt;
    }

pub returns : goal.returns
returns c =
    let r = c.requires in
    let world = c.args.world.now in
    let now = c.release_some.new in
    let pages = pages_of world.pages.entries.items in
    let new = pages_of now.pages.entries.items in
    let count = c.in_ok-release_some.field-0 in
    let went =
    subst (λ (l : Listing). (files : Files) → IsWell (now_of l files world.space world.cells pages) → LetsGo 5 Four (now_of l files world.space world.cells pages) count now.self.list now.space now.cells new) c.start_over.ensures.list
    c.in_ok-release_some.ensures.ok in
    released_stood world.files.fileset 5 Four world.files.tags (now_of c.args.list.now.list r.0 world.space world.cells pages) r.1 r.2 r.3
    count now.self.list now.space now.cells new (went r.0 r.3.well)
