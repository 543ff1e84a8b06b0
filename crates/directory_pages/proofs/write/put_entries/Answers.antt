use Rattle.std.proofs.Common.{◌∙◌, ◌<◌, length, get_or, arith}
use Rattle.std.proofs.lemmas.List.{get_or_default}
use Rattle.directory_pages.specs.declared.entry.IndexEntry.{IndexEntry}
use Rattle.directory_pages.proofs.Pages.{fit_more, one_more}
use Rattle.directory_pages.proofs.write.put_entries.Goals as goal

pub loop-place-preserved : goal.loop-place-preserved
loop-place-preserved c =
    let entries = c.args.entries.now in
    let k = c.loop-place.place in
    let none : IndexEntry = record { hash = 0; page = 0 } in
    let entry = get_or entries k none in
    let below : k < length entries = omega arith in
    let item = get_or_default entries k none entry below in
    record {
      written = c.put_entry.ensures.value ∙ one_more entries k entry c.args.page.now c.loop-place.page below item c.requires.whole c.requires.few c.loop-place.invariant.written;
      fit = fit_more entries k entry below item c.loop-place.invariant.fit c.put_entry.ensures.fits;
    }
