use Rattle.std.proofs.Common.{◌≡◌, ℕ, ◌+◌, length, Option, Some, None, slice_get, refl, sym, subst, arith, rules, Vec, Global, vec_len}
use Rattle.std.proofs.lemmas.Option.{slice_get_read}
use Rattle.index_row_faults.specs.page_ways.Frame.{frame_in}
use Rattle.index_row_faults.specs.fileset_shapes.Tags.{IsUsed}
use Rattle.index_row_faults.specs.directory_faults.declared.there.FileThere.{FileThere}
use Rattle.slot_files.specs.Files.{IsInOriginal, ReadsSo}
use Rattle.slot_files.proofs.AllFiles.{AreSoFar, far_begin, far_end, far_none, far_one}
use Rattle.slot_files.proofs.SlotFiles.{original_used}
use Rattle.slot_files.proofs.slots.read_original_files.Goals as goal
use Rattle.slot_files.proofs.slots.read_original_files.Goals.{in-Some+in_ok-push, in_default}

none_by : (o : Option FileThere) → ((file : FileThere) → o ≡ Some file → ⊥) → o ≡ None
none_by None never = refl
none_by (Some file) never = absurd (never file refl)

pub loop-i-init : goal.loop-i-init
loop-i-init g c =
    let pages = g.M.MetaPages.pages c.args.pages.now in
    subst (AreSoFar (frame_in c.args.frame.now) (IsInOriginal pages c.args.dir.now) c.in_ok-tags.tags.items 0) (sym c.new-files.ensures.items)
    (far_begin (frame_in c.args.frame.now) (IsInOriginal pages c.args.dir.now) (IsUsed pages c.args.dir.now) c.in_ok-tags.tags.items c.in_ok-tags.ensures)

pub loop-i-preserved : goal.loop-i-preserved
loop-i-preserved g c =
    let pages = g.M.MetaPages.pages c.args.pages.now in
    let frame = frame_in c.args.frame.now in
    let is = IsInOriginal pages c.args.dir.now in
    let used = IsUsed pages c.args.dir.now in
    let tags = c.in_ok-tags.tags in
    let tag = c.index.result.now in
    let lists = c.in_ok-tags.ensures in
    let size : vec_len tags ≡ length tags.items = search rules in
    let there : slice_get tags.items c.loop-i.i ≡ Some tag =
    slice_get_read tags.items (vec_len tags) c.loop-i.i tag size (omega (arith, c.loop-i-test.true, c.len-i-end.ensures)) c.index.ensures in
    elim c.match-branch-3.branch [
      | in-Some+in_ok-push w ↦
          let reads : ReadsSo frame tag (is tag) (Some w.in-Some.file) = subst (ReadsSo frame tag (is tag)) w.in-Some.is c.in_ok-file.ensures in
          subst (λ (v : Vec FileThere Global). AreSoFar frame is tags.items (c.loop-i.i + 1) v.items) (sym w.files-is)
          (subst (AreSoFar frame is tags.items (c.loop-i.i + 1)) (sym w.in_ok-push.ensures.items)
          (far_one frame is used tags.items lists c.loop-i.i tag there c.loop-i.files.items c.loop-i.invariant w.in-Some.file reads))
      | in_default w ↦
          let reads : ReadsSo frame tag (is tag) None = subst (ReadsSo frame tag (is tag)) (none_by c.in_ok-file.field-0 w.in_default.not-Some) c.in_ok-file.ensures in
          subst (λ (v : Vec FileThere Global). AreSoFar frame is tags.items (c.loop-i.i + 1) v.items) (sym w.files-is)
          (far_none frame is used tags.items lists c.loop-i.i tag there c.loop-i.files.items c.loop-i.invariant reads)
    ]

pub returns : goal.returns
returns g c =
    let pages = g.M.MetaPages.pages c.args.pages.now in
    let frame = frame_in c.args.frame.now in
    let is = IsInOriginal pages c.args.dir.now in
    let used = IsUsed pages c.args.dir.now in
    let tags = c.in_ok-tags.tags in
    let size : vec_len tags ≡ length tags.items = search rules in
    let all : c.loop-i.i ≡ length tags.items = omega (arith, c.loop-i-test.false, c.loop-i.auto.i-end, c.len-i-end.ensures, size) in
    far_end frame is used tags.items c.in_ok-tags.ensures c.loop-i.files.items
    (subst (λ (n : ℕ). AreSoFar frame is tags.items n c.loop-i.files.items) all c.loop-i.invariant) (original_used pages c.args.dir.now)
