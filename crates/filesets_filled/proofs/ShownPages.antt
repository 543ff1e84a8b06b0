-- Index pages as a set shows them are well formed where the stored ones are.
use Rattle.std.proofs.Common.{◌≡◌, ◌∙◌, ℕ, ◌+◌, ◌≤◌, List, [], ◌∷◌, ◌++◌, length, map, take, drop, sym, ap, subst, arith, append_assoc, length-append, length-drop, length-take}
use Rattle.std.proofs.lemmas.List.{drop-append-le, take-append-drop, take-append-le}
use Rattle.std.specs.List.{AllByRecursion}
use Rattle.fileset_shapes.specs.domain_base.Page.{zero_bytes, length-zero_bytes}
use Rattle.fileset_shapes.specs.page_store.Bitfiles.{shown_index}
use Rattle.fileset_shapes.specs.cell_records.Fields.{number_at}
use Rattle.fileset_shapes.proofs.OfCellRecords.Bytes.{little_number-take}
use Rattle.fileset_shapes.specs.directory_pages.Index.{IsIndexPage}
use Rattle.fileset_shapes.specs.domain_layout.DirectoryRules.{IsGoodIndexPage}

-- a number among the first bytes is that of these bytes
number_front : (front rest : List ℕ) (w at : ℕ) → at + w ≤ length front → number_at w at (front ++ rest) ≡ number_at w at front
unfolding number_at
number_front front rest w at within =
    little_number-take w (drop at (front ++ rest)) (drop at front)
    (ap (take w) (drop-append-le at front rest (omega (arith, within))) ∙ take-append-le w (drop at front) rest (omega (arith, length-drop at front, within)))

module _ (page : List ℕ) (whole : length page ≡ 8192) where
  parted : shown_index page ≡ take 8 page ++ (zero_bytes 8 ++ drop (8 + length (zero_bytes 8)) page)
  parted = append_assoc (take 8 page) (zero_bytes 8) (drop (8 + length (zero_bytes 8)) page)

  number_shown : (at : ℕ) → at + 4 ≤ 8 → number_at 4 at (shown_index page) ≡ number_at 4 at page
  number_shown at within =
      let long : at + 4 ≤ length (take 8 page) = omega (arith, length-take 8 page, whole, within) in
      ap (number_at 4 at) parted ∙ number_front (take 8 page) (zero_bytes 8 ++ drop (8 + length (zero_bytes 8)) page) 4 at long
      ∙ sym (number_front (take 8 page) (drop 8 page) 4 at long) ∙ ap (number_at 4 at) (take-append-drop 8 page)

  length_shown : length (shown_index page) ≡ 8192
  length_shown =
      omega (arith, length-append (take 8 page ++ zero_bytes 8) (drop (8 + length (zero_bytes 8)) page), length-append (take 8 page) (zero_bytes 8), length-take 8 page, length-drop (8 + length (zero_bytes 8)) page, whole, length-zero_bytes 8)

one_good : (page : List ℕ) → IsIndexPage page → IsIndexPage (shown_index page)
one_good page good = record {
  whole = length_shown page good.whole;
  magic = number_shown page good.whole 0 (omega arith) ∙ good.magic;
  count = subst (λ n. n ≤ 1022) (sym (number_shown page good.whole 4 (omega arith))) good.count;
}

pub shown_good : (pages : List (List ℕ)) → AllByRecursion IsGoodIndexPage pages → AllByRecursion IsIndexPage (map shown_index pages)
shown_good [] good = tt
shown_good (page ∷ pages) good = (one_good page good.0.0, shown_good pages good.1)
