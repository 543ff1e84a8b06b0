-- The index of a directory after its pages were changed.
use Rattle.std.proofs.Common.{◌≡◌, ◌∙◌, ◌⊎◌, inl, inr, ℕ, ◌*◌, ◌≤◌, List, [], length, sym, ap, subst, arith}
use Rattle.std.proofs.lemmas.Grind.{common_steps}
use Rattle.directory_pages.specs.domain_base.declared.place.Tag.{Tag}
use Rattle.directory_pages.specs.page_store.Bitfiles.{Bitfiles, IsDirectory, count_index}
use Rattle.directory_pages.specs.declared.entry.IndexEntry.{IndexEntry}
use Rattle.directory_pages.specs.Changes.{AddsEntry, OnlyIndex, RemovesEntry, SetsEntries}
use Rattle.directory_pages.specs.Index.{all_entries, index_pages, part_count}
use Rattle.directory_pages.proofs.Removed.{count_is as index_long}
use Rattle.directory_rows.specs.Directory.{AreEntriesOf, row_pages}
use Rattle.directory_rows.specs.RowChanges.{GetsNoIndex}
use Rattle.directory_rows.specs.Steps.{CompletesIndex, LacksEntry, SparesEntry, TrimsIndex}
use Rattle.directory_rows.proofs.Counted.{exact_with, exact_without}
use Rattle.directory_rows.proofs.Files.{pages_stay}
use Rattle.directory_rows.proofs.Parts.{count_is}

-- where an index is there, it is the one that lacks or spares an entry
pub there_is : {P : Type 0} (index : List (List ℕ)) → (index ≡ []) ⊎ P → 1 ≤ length index → P
there_is index (inl none) some = absurd (omega (arith, ap length none, some))
there_is index (inr holds) some = holds

-- so few entries have room on four pages
few_parts : (n : ℕ) → n ≤ 4088 → part_count n ≤ 4
few_parts n few = grind (arith, common_steps)

module _ (dir : Tag) (old new : Bitfiles) where
  some_now : 1 ≤ length (index_pages new dir) → 1 ≤ count_index new dir
  some_now some = omega (arith, some, index_long new dir)

  no_room : IsDirectory old dir → OnlyIndex dir old new → 2 ≤ length (row_pages old dir) → length (row_pages old dir) ≤ 4 → GetsNoIndex dir old new
  no_room directory only many few had outside =
      let long = count_is new dir ∙ ap length (pages_stay dir old new directory only) in
      elim outside [ inl one ↦ absurd (omega (arith, one, long, many)) | inr more ↦ absurd (omega (arith, more, long, few)) ]

  pub indexes_added : (entry : IndexEntry) → LacksEntry entry (row_pages old dir) (index_pages old dir) → 1 ≤ length (index_pages old dir) → AddsEntry dir entry old new → CompletesIndex dir old new
  indexes_added entry lacks there adds =
      let some = some_now adds.good.some in
      record {
        sets = record {
          others = adds.others;
          index = inr (record { some = lacks.some; good = adds.good; exact = exact_with (row_pages old dir) entry (all_entries (index_pages old dir)) (all_entries (index_pages new dir)) adds.front adds.back lacks.exact adds.were adds.are });
          kept = λ had. some;
        };
        indexed = λ least most. some;
        bare = λ none outside. absurd (omega (arith, none, index_long old dir, there));
        grown = (
          λ none. absurd (omega (arith, none, index_long old dir, there)),
          λ had. omega (arith, adds.most, index_long old dir, index_long new dir),
        );
      }

  pub indexes_made : (list : List IndexEntry) → IsDirectory old dir → index_pages old dir ≡ [] → length list ≤ 1022 * length (row_pages old dir) → length (row_pages old dir) ≤ 4 → 2 ≤ length (row_pages old dir) → AreEntriesOf (row_pages old dir) list → SetsEntries dir list old new → CompletesIndex dir old new
  indexes_made list directory was short few many exact sets =
      let some = some_now sets.good.some in
      record {
        sets = record {
          others = sets.others;
          index = inr (record { some = many; good = sets.good; exact = subst (AreEntriesOf (row_pages old dir)) (sym sets.entries) exact });
          kept = λ had. some;
        };
        indexed = λ least most. some;
        bare = no_room directory sets.others many few;
        grown = (
          λ none. omega (arith, few_parts (length list) (omega (arith, short, few)), sets.count, index_long new dir),
          λ had. absurd (omega (arith, had, index_long old dir, ap length was)),
        );
      }

  pub forgets : (entry : IndexEntry) → SparesEntry entry (row_pages old dir) (index_pages old dir) → RemovesEntry dir entry old new → TrimsIndex dir old new
  forgets entry spares removes = record {
    sets = record {
      others = removes.others;
      index = inr (record { some = spares.some; good = removes.good; exact = exact_without (row_pages old dir) entry (all_entries (index_pages old dir)) spares.exact (all_entries (index_pages new dir)) removes.front removes.back removes.were removes.are });
      kept = λ had. some_now removes.good.some;
    };
    count = omega (arith, removes.count, index_long old dir, index_long new dir);
  }
