use Rattle.std.proofs.Common.{◌⊎◌, ◌↔◌, ℕ, subst, arith}
use Rattle.slot_files.specs.domain_base.declared.place.Home.{Home}
use Rattle.slot_files.specs.sorted_sets.Members.{IsIn}
use Rattle.slot_files.specs.page_ways.Frame.{frame_in}
use Rattle.slot_files.specs.directory_faults.Slot.{HasDirectoryFault}
use Rattle.domain_faults.proofs.FoundFaults.{all_below, below_more, below_none}
use Rattle.slot_files.proofs.SlotFiles.{is_table}
use Rattle.domain_faults.proofs.directories.directory_faults.Goals as goal

pub loop-n-init : goal.loop-n-init
loop-n-init g c = below_none (g.M.MetaPages.pages c.args.pages.now) (frame_in c.args.frame.now) c.args.tables.now.filesets (IsIn c.new-found.result) c.new-found.ensures

pub loop-n-preserved : goal.loop-n-preserved
loop-n-preserved g c =
    let pages = g.M.MetaPages.pages c.args.pages.now in
    let frame = frame_in c.args.frame.now in
    let table = c.args.tables.now.filesets in
    below_more pages frame table (IsIn c.loop-n.found) (IsIn c.insert_slot_faults.new.found) c.loop-n.n c.loop-n.invariant
    (subst (λ (n : ℕ). (home : Home) → IsIn c.insert_slot_faults.new.found home ↔ (IsIn c.loop-n.found home ⊎ HasDirectoryFault pages frame table n home)) c.in-Some.ensures.value c.in_ok-insert_slot_faults.ensures)

pub returns : goal.returns
returns g c =
    let pages = g.M.MetaPages.pages c.args.pages.now in
    let frame = frame_in c.args.frame.now in
    all_below pages frame c.args.tables.now.filesets (is_table pages frame c.args.tables.now c.requires.tables) (IsIn c.loop-n.found) c.loop-n.n (omega (arith, c.loop-n-test.false)) c.loop-n.invariant
