use Rattle.std.proofs.Common.{◌⊎◌, ◌↔◌, ℕ, subst, arith}
use Rattle.slot_files.specs.domain_base.declared.place.Home.{Home}
use Rattle.slot_files.specs.sorted_sets.Members.{IsIn}
use Rattle.slot_files.specs.page_ways.Frame.{frame_in}
use Rattle.slot_files.specs.index_row_faults.Wrong.{HasWrongIndex}
use Rattle.slot_files.proofs.SlotFiles.{is_table}
use Rattle.domain_faults.proofs.FoundIndexes.{all_wrong_below, wrong_more, wrong_none}
use Rattle.domain_faults.proofs.indexes.faults_of_indexes.Goals as goal

pub loop-n-init : goal.loop-n-init
loop-n-init g c = wrong_none (g.M.MetaPages.pages c.args.pages.now) (frame_in c.args.frame.now) c.args.tables.now.filesets (IsIn c.in_ok-found.found) c.in_ok-found.ensures

pub loop-n-preserved : goal.loop-n-preserved
loop-n-preserved g c =
    let pages = g.M.MetaPages.pages c.args.pages.now in
    let frame = frame_in c.args.frame.now in
    let table = c.args.tables.now.filesets in
    wrong_more pages frame table (IsIn c.loop-n.found) (IsIn c.insert_slot_indexes.new.found) c.loop-n.n c.loop-n.invariant
    (subst (λ (n : ℕ). (home : Home) → IsIn c.insert_slot_indexes.new.found home ↔ (IsIn c.loop-n.found home ⊎ HasWrongIndex pages frame table n home)) c.in-Some.ensures.value c.in_ok-insert_slot_indexes.ensures)

pub returns : goal.returns
returns g c =
    let pages = g.M.MetaPages.pages c.args.pages.now in
    let frame = frame_in c.args.frame.now in
    all_wrong_below pages frame c.args.tables.now.filesets (is_table pages frame c.args.tables.now c.requires.tables) (IsIn c.loop-n.found) c.loop-n.n (omega (arith, c.loop-n-test.false)) c.loop-n.invariant
