use Rattle.extent_records.specs.extent_maps.declared.run.PagePlace.TheVariants.{At}
use Rattle.file_chains.proofs.Chosen.{changed_ok, has_room}
use Rattle.file_chains.proofs.putting.put_at.Goals as goal

pub set_record-requires-clause-room : goal.set_record-requires-clause-room
set_record-requires-clause-room g c =
    has_room (g.M.MetaPages.pages c.args.pages.now) c.args.at.now c.args.value.now c.put_page.new.value c.requires.map c.in_ok-put_page.ensures.ok.is_map c.in_ok-put_page.ensures.ok.same_kind

pub returns-clause-ok : goal.returns-clause-ok
returns-clause-ok g c =
    let written = c.in_ok-put_page.ensures.ok in
    changed_ok c.set_record.result (g.M.MetaPages.pages c.args.pages.now) (g.M.MetaPages.pages c.set_record.new.pages) c.args.at.now c.args.value.now c.put_page.new.value c.args.page (At c.args.home.now)
    written.is_map written.same_kind (written.written (written.fits.1 c.requires.takes.1)).says.same c.set_record.ensures.ok
