use Rattle.std.proofs.Common.{List, sym, subst}
use Rattle.slot_files.specs.page_ways.Frame.{frame_in}
use Rattle.slot_files.specs.directory_faults.There.{AreFilesIn}
use Rattle.slot_files.specs.directory_faults.declared.there.FileThere.{FileThere}
use Rattle.slot_files.proofs.OfFilesetShapes.Answered.{on_ok}
use Rattle.domain_faults.proofs.directories.insert_slot_faults.Goals as goal

pub returns : goal.returns
returns g c =
    let table = c.args.tables.now.filesets in
    let are = subst (λ (l : List FileThere). AreFilesIn (g.M.MetaPages.pages c.args.pages.now) (frame_in c.args.frame.now) table c.args.number l) (sym c.deref.ensures.value) c.in_ok-files.ensures in
    on_ok c.insert_directory_faults.result _ _ (λ put home. put table c.args.number are c.is_clone.ensures home) c.insert_directory_faults.ensures
