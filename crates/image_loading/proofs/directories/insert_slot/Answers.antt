use Rattle.std.proofs.Common.{◌≡◌, ℕ, Some, length, refl, sym, arith}
use Rattle.std.proofs.lemmas.Option.{slice_get_read}
use Rattle.slot_files.specs.domain_base.declared.place.Home.{Home}
use Rattle.slot_files.specs.filesets_reading.Seen.{home_in}
use Rattle.slot_files.specs.sorted_sets.Members.{IsIn}
use Rattle.slot_files.specs.directory_faults.declared.there.FileThere.{FileThere}
use Rattle.image_loading.proofs.Listed.{hold_all, hold_next, hold_none}
use Rattle.image_loading.proofs.directories.insert_slot.Goals as goal

pub loop-file-init : goal.loop-file-init
loop-file-init g c = record {
  grows = λ home is. is;
  below = hold_none c.deref-file-items.result.now (λ (file : FileThere). (page : ℕ) (home : Home) → home_in file.seen.homes.items page ≡ Some home → IsIn c.args.found.now home);
}

pub loop-file-preserved : goal.loop-file-preserved
loop-file-preserved g c = record {
  grows = λ home is. c.in_ok-insert_pages.ensures.grows home (c.loop-file.invariant.grows home is);
  below = hold_next c.deref-file-items.result.now c.loop-file.file-index c.file-item.result (λ (file : FileThere). (page : ℕ) (home : Home) → home_in file.seen.homes.items page ≡ Some home → IsIn c.loop-file.found home)
      (λ (file : FileThere). (page : ℕ) (home : Home) → home_in file.seen.homes.items page ≡ Some home → IsIn c.insert_pages.new.found home) c.loop-file-test.true c.file-item.is (λ file holds page home is. c.in_ok-insert_pages.ensures.grows home (holds page home is)) c.loop-file.invariant.below
      c.in_ok-insert_pages.ensures.pages;
}

pub returns-clause-pages : goal.returns-clause-pages
returns-clause-pages g c = λ dir cells seen has kind page home at within.
    let files = c.in_ok-files.files.items in
    let was = c.in_ok-files.ensures.all dir cells seen has in
    hold_all files c.deref-file-items.result.now c.loop-file.file-index (λ (file : FileThere). (page : ℕ) (home : Home) → home_in file.seen.homes.items page ≡ Some home → IsIn c.loop-file.found home) c.deref-file-items.ensures.value (omega (arith, c.loop-file-test.false)) c.loop-file.invariant.below
    was.among.0 was.file (slice_get_read files (length files) was.among.0 was.file refl was.among.1 (sym was.among.2)) page home ((was.read.homes kind page home).1 (at, within))
