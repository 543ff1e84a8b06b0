use Rattle.std.proofs.Common.{List, subst, sym}
use Rattle.no_faults.specs.cell_records.declared.record.Record.{Record}
use Rattle.no_faults.specs.quota_book.Book.{Book}
use Rattle.no_faults.specs.quota_book.Sums.{IsBookOf}
use Rattle.no_faults.specs.fileset_shapes.declared.found.TaggedFile.{TaggedFile}
use Rattle.attached_domain.specs.Counted.{CountsAll}
use Rattle.attached_domain.specs.Limits.{HasLimitsAlone}
use Rattle.attached_domain.proofs.AttachedBooks.{is_book}
use Rattle.attached_domain.proofs.book.read_book.Goals as goal

pub returns-clause-book : goal.returns-clause-book
returns-clause-book c = λ pages shape contents slot sees none fills.
    let entry = c.args.entry.now in
    let alone = c.in_ok-book.book.book in
    let book = c.charge_files.new.book.book in
    let limits = subst (λ (rs : List Record). HasLimitsAlone entry rs alone) c.as_slice.ensures c.in_ok-book.ensures in
    let counts = subst (λ (fs : List TaggedFile). CountsAll fs alone book) c.as_slice-2.ensures.value c.in_ok-charge_files.ensures in
    subst (λ (b : Book). IsBookOf b slot.tree) (sym c.keep.ensures.book) (is_book pages entry shape c.args.found.now contents slot sees none fills alone book limits counts)
