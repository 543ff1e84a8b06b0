use Rattle.std.proofs.Common.{◌∙◌, sym}
use Rattle.cell_faults.specs.page_ways.Frame.{frame_in}
use Rattle.tag_faults.proofs.SlotPages.{read_there}
use Rattle.tag_faults.proofs.directories.read_directory.Goals as goal

pub returns : goal.returns
returns g c =
    read_there (g.M.MetaPages.pages c.args.pages.now) (frame_in c.args.frame.now) c.args.table.now c.args.number c.in-Some.first c.in_ok-read.read.homes.items c.in_ok-read.read.unread
    (record { item = c.slot.result.now; there = c.slot.ensures.value; has = sym c.first_tag.ensures ∙ c.in-Some.is }) c.in_ok-read.ensures
