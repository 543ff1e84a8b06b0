use Rattle.std.proofs.Common.{◌≡◌, ◌+◌, length, Option, Some, None, refl, sym, subst, Vec, Global}
use Rattle.std.proofs.lemmas.Option.{slice_get_read}
use Rattle.index_row_faults.proofs.OfDirectoryFaults.Inserted.{at_among}
use Rattle.index_row_faults.specs.declared.there.IndexThere.{IndexThere}
use Rattle.slot_files.specs.Indexes.{ReadsIndex}
use Rattle.slot_files.proofs.Indexed.{AreIndexesBefore, all_before, before_none, before_one, before_same, indexes_in}
use Rattle.slot_files.proofs.indexes.read_slot_indexes.Goals as goal
use Rattle.slot_files.proofs.indexes.read_slot_indexes.Goals.{in-Some+in_ok-push, in_default}

none_by : (o : Option IndexThere) → ((index : IndexThere) → o ≡ Some index → ⊥) → o ≡ None
none_by None never = refl
none_by (Some index) never = absurd (never index refl)

pub read_index-requires : goal.read_index-requires
read_index-requires g c =
    let files = c.args.files.now in
    let file = c.file-item.result in
    c.requires file (at_among files c.loop-file.file-index file (slice_get_read files (length files) c.loop-file.file-index file refl c.loop-file-test.true c.file-item.is))

pub loop-file-init : goal.loop-file-init
loop-file-init g c =
    let pages = g.M.MetaPages.pages c.args.pages.now in
    subst (AreIndexesBefore pages c.args.files.now 0) (sym c.new-indexes.ensures.items) (before_none pages c.args.files.now)

pub loop-file-preserved : goal.loop-file-preserved
loop-file-preserved g c =
    let pages = g.M.MetaPages.pages c.args.pages.now in
    let files = c.args.files.now in
    let number = c.loop-file.file-index in
    let file = c.file-item.result in
    let there = slice_get_read files (length files) number file refl c.loop-file-test.true c.file-item.is in
    elim c.match-branch-2.branch [
      | in-Some+in_ok-push w ↦
          let reads : ReadsIndex pages file (Some w.in-Some.index) = subst (ReadsIndex pages file) w.in-Some.is c.in_ok-index.ensures in
          subst (λ (v : Vec IndexThere Global). AreIndexesBefore pages files (number + 1) v.items) (sym w.indexes-is)
          (subst (AreIndexesBefore pages files (number + 1)) (sym w.in_ok-push.ensures.items)
          (before_one pages files number file there c.loop-file.indexes.items c.loop-file.invariant w.in-Some.index reads))
      | in_default w ↦
          let reads : ReadsIndex pages file None = subst (ReadsIndex pages file) (none_by c.in_ok-index.field-0 w.in_default.not-Some) c.in_ok-index.ensures in
          subst (λ (v : Vec IndexThere Global). AreIndexesBefore pages files (number + 1) v.items) (sym w.indexes-is)
          (before_same pages files number file there c.loop-file.indexes.items c.loop-file.invariant reads)
    ]

pub returns : goal.returns
returns g c frame table number are =
    let pages = g.M.MetaPages.pages c.args.pages.now in
    let files = c.args.files.now in
    let indexes = c.loop-file.indexes.items in
    indexes_in pages frame table number files are indexes (all_before pages files c.loop-file.file-index indexes c.loop-file-test.false c.loop-file.invariant)
