use Rattle.std.proofs.Common.{◌≡◌, ◌∙◌, [], ap}
use Rattle.std.specs.FinMap.{empty, from_sorted}
use Rattle.fileset_model.specs.fileset_values.Orders.{owner_cmp}
use Rattle.fileset_model.specs.declared.fileset.Limits.{Limits}
use Rattle.fileset_model.specs.declared.fileset.Usage.{Usage}
use Rattle.fileset_model.proofs.OfSortedSets.EntryLemmas.{from_sorted-empty}
use Rattle.quota_book.specs.Accounts.{books_of}
use Rattle.quota_book.proofs.book.QuotaBook.new.Goals as goal

pub returns : goal.returns
returns c =
    let totals : from_sorted {X = Usage} {R = owner_cmp} [] ≡ empty = from_sorted-empty owner_cmp in
    let limits : from_sorted {X = Limits} {R = owner_cmp} [] ≡ empty = from_sorted-empty owner_cmp in
    ap books_of c.new.ensures.items
    ∙ (λ i. record {
      book = record { totals = totals i; limits = limits i };
      kept = record { totals = totals i; limits = limits i };
    })
