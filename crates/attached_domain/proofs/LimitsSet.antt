-- The limits of a book, set from the last record to the first.
use Rattle.std.proofs.Common.{◌≡◌, ◌∙◌, ℕ, suc, List, Some, drop, length, slice_get, refl, sym, subst}
use Rattle.std.specs.FinMap as map
use Rattle.no_faults.specs.cell_records.declared.record.Record.{Record}
use Rattle.no_faults.specs.fileset_model.Fileset.{Fileset}
use Rattle.no_faults.specs.fileset_values.declared.command.Owner.TheVariants as owner
use Rattle.no_faults.specs.fileset_table.declared.slot.FilesetEntry.{FilesetEntry}
use Rattle.no_faults.specs.quota_book.Book.{Book, empty_book}
use Rattle.no_faults.specs.quota_book.QuotaCells.{TakesLimits, limits_said, said_by}
use Rattle.no_faults.proofs.OfFilesetShapes.Said.{limits_there, said_none, said_on}
use Rattle.no_faults.specs.fileset_shapes.Limits.{HasSaid, book_of}
use Rattle.attached_domain.specs.Limits.{HasLimitsAlone}

-- a fileset with the limits of a book and nothing else
abbrev tree_of : Book → Fileset
tree_of book = record { paths = map.empty; nodes = map.empty; limits = book.limits }

-- what the records from one on say, and no totals
pub record SaysFrom (n : ℕ) (records : List Record) (book : Book) : Type 0 where
  pub unused : book.totals ≡ map.empty
  pub said : HasSaid (said_by (drop n records)) (tree_of book)

alone : (old new : Book) (said : _) → TakesLimits said old new → TakesLimits said (book_of (tree_of old)) (book_of (tree_of new))
alone old new said takes = record { totals = refl; limits = takes.limits; binding = takes.binding }

pub says_none : (records : List Record) (n : ℕ) (book : Book) → book ≡ empty_book → n ≡ length records → SaysFrom n records book
says_none records n book is all = subst (SaysFrom n records) (sym is) (record { unused = refl; said = said_none (tree_of empty_book) records n refl all })

pub says_on : (records : List Record) (n : ℕ) (r : Record) (old new : Book) → slice_get records n ≡ Some r → SaysFrom (suc n) records old → TakesLimits (limits_said r) old new → SaysFrom n records new
says_on records n r old new at says takes = record {
  unused = takes.totals ∙ says.unused;
  said = said_on records n r (tree_of old) (tree_of new) at says.said (alone old new (limits_said r) takes);
}

pub says_all : (entry : FilesetEntry) (records : List Record) (old new : Book) → SaysFrom 0 records old → TakesLimits (Some (owner.Fileset, record { files = entry.files_limit; blocks = entry.blocks_limit })) old new
    → HasLimitsAlone entry records new
says_all entry records old new says takes =
    let has = limits_there entry records (tree_of old) (tree_of new) (subst (λ (rs : List Record). HasSaid (said_by rs) (tree_of old)) (drop_none records) says.said) (alone old new _ takes) in
    record { unused = takes.totals ∙ says.unused; limits = has.limits; binding = has.binding }
  where
    drop_none : (rs : List Record) → drop 0 rs ≡ rs
    drop_none rs = refl
