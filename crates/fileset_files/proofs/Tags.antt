-- The files of a fileset after a change of one file's first cell.
use Rattle.std.proofs.Common.{◌≡◌, ◌∙◌, ℕ, zero, suc, ◌+◌, ◌/◌, ◌%◌, ◌&&◌, Bool, true, false, cond, nat_eq, nat_lt, List, [], ◌∷◌, slice_get, Option, Some, None, IfSome, IsSome, IsSomeAnd, Contains, refl, sym, ap, subst, arith, ⊎_elim}
use Rattle.std.proofs.lemmas.Bool.{and_parts, cases_Bool, eqb-true, false_from_ne_true, or_left, or_right, true≢false}
use Rattle.std.specs.List.{AllByRecursion}
use Rattle.std.specs.Option.{option_and_then, option_map}
use Rattle.file_chains.specs.domain_base.declared.place.CellAt.{CellAt}
use Rattle.file_chains.specs.domain_base.declared.place.Home.{Home}
use Rattle.file_chains.specs.domain_base.declared.place.Tag.{Tag}
use Rattle.file_chains.specs.page_store.Pages.{Pages, same_home}
use Rattle.file_chains.specs.cell_records.Fields.{number_at}
use Rattle.file_chains.specs.metadata_cells.CellPage.{cell_at, cell_of as bytes_of, home_of, is_cell_page}
use Rattle.file_chains.specs.metadata_cells.Chain.{LeavesOthers, PlacedCell, is_at, places as places_of_cells}
use Rattle.file_chains.proofs.OfMetadataCells.Changed.{homes_same, same_itself}
use Rattle.file_chains.proofs.OfMetadataCells.Frames.{stands_stays}
use Rattle.tag_dirs.specs.declared.dir.TagPlace.{TagPlace}
use Rattle.tag_dirs.specs.declared.page.TagEntry.{TagEntry}
use Rattle.tag_dirs.specs.TagPage.{entry_of}
use Rattle.tag_dirs.specs.Directory.{IsDirectory, IsPageOf, cell_for, cell_of, entry_at, has_home, home_with, sequence_of}
use Rattle.file_chains.specs.Files.{AreFile}
use Rattle.file_chains.proofs.ChainChanges.{at_apart, follow_apart}

-- ---- pages of tags are none of cells

pub all_by_index : {X : Type 0} (P : X → Type 0) (xs : List X) → ((k : ℕ) → IfSome (slice_get xs k) P) → AllByRecursion P xs
all_by_index P [] all = tt
all_by_index P (x ∷ xs) all = (all 0, all_by_index P xs (λ k. all (suc k)))

pub page_stands : (pages : Pages) (at : CellAt) (bytes : List ℕ) → cell_at pages at ≡ Some bytes → IsSomeAnd (pages (home_of at)) (λ page. is_cell_page page ≡ true)
page_stands pages at bytes there = by_page (pages (home_of at)) there
  where
    none_is_some : None ≡ Some bytes → ⊥
    none_is_some e = cc

    by_page : (o : Option (List ℕ)) → option_and_then (λ page. cond (is_cell_page page && nat_lt at.cell 28) (Some (bytes_of page at.cell)) None) o ≡ Some bytes → IsSomeAnd o (λ page. is_cell_page page ≡ true)
    by_page None is = none_is_some is
    by_page (Some page) is = ⊎_elim
        (λ both. (and_parts (is_cell_page page) (nat_lt at.cell 28) both).0)
        (λ not_both. absurd (none_is_some (sym (ap (λ (b : Bool). cond b (Some (bytes_of page at.cell)) None) not_both) ∙ is)))
        (cases_Bool (is_cell_page page && nat_lt at.cell 28))

pub not_both_kinds : (o : Option (List ℕ)) (place : TagPlace) (next : Option Home) → IsSomeAnd o (λ page. is_cell_page page ≡ true) → IsSomeAnd o (IsPageOf place next) → ⊥
not_both_kinds None place next cells tags = cells
not_both_kinds (Some page) place next cells tags = omega (arith, eqb-true (number_at 4 0 page) 0x50544d42 cells, tags.good.magic)

-- the pages of tags are as they were
module _ (old new : Pages) (places : List TagPlace) (directory : IsDirectory old places) (page_same : (k : ℕ) → IfSome (slice_get places k) (λ place. new place.home ≡ old place.home)) where
  pub directory_same : IsDirectory new places
  directory_same = record {
    run = λ k. by_place k (slice_get places k) (page_same k) (directory.run k);
    apart = directory.apart;
    first = directory.first;
  }
    where
      by_place : (k : ℕ) (o : Option TagPlace) → IfSome o (λ place. new place.home ≡ old place.home) → IfSome o (λ place. IsSomeAnd (old place.home) (IsPageOf place (option_map (λ (p : TagPlace). p.home) (slice_get places (k + 1)))))
          → IfSome o (λ place. IsSomeAnd (new place.home) (IsPageOf place (option_map (λ (p : TagPlace). p.home) (slice_get places (k + 1)))))
      by_place k None same run = tt
      by_place k (Some place) same run = subst (λ o. IsSomeAnd o (IsPageOf place (option_map (λ (p : TagPlace). p.home) (slice_get places (k + 1))))) (sym same) run

  pages_with : (ps : List TagPlace) (index : ℕ) → AllByRecursion (λ (p : TagPlace). new p.home ≡ old p.home) ps → option_and_then new (home_with ps index) ≡ option_and_then old (home_with ps index)
  pages_with [] index all = refl
  pages_with (p ∷ ps) index all = ⊎_elim
      (λ same. ap (λ (b : Bool). option_and_then new (cond b (Some p.home) (home_with ps index))) same ∙ all.0 ∙ sym (ap (λ (b : Bool). option_and_then old (cond b (Some p.home) (home_with ps index))) same))
      (λ other. ap (λ (b : Bool). option_and_then new (cond b (Some p.home) (home_with ps index))) other ∙ pages_with ps index all.1
      ∙ sym (ap (λ (b : Bool). option_and_then old (cond b (Some p.home) (home_with ps index))) other))
      (cases_Bool (nat_eq p.index index))

  pub entry_same : (slot : ℕ) → entry_at new places slot ≡ entry_at old places slot
  entry_same slot =
      ap (option_map (λ page. entry_of page (slot % 1022))) (pages_with places (slot / 1022) (all_by_index (λ (p : TagPlace). new p.home ≡ old p.home) places page_same))

  pub cell_same : (tag : Tag) → cell_of new places tag ≡ cell_of old places tag
  cell_same tag = ap (option_and_then (cell_for tag.seq)) (entry_same tag.slot)

module _ (old new : Pages) (places : List TagPlace) (at : CellAt) (directory : IsDirectory old places) (bytes : List ℕ) (there : cell_at old at ≡ Some bytes)
    (elsewhere : (home : Home) → same_home home (home_of at) ≡ false → new home ≡ old home) where
  page_same : (k : ℕ) → IfSome (slice_get places k) (λ place. new place.home ≡ old place.home)
  page_same k = by_place (slice_get places k) (directory.run k)
    where
      by_place : (o : Option TagPlace) → IfSome o (λ place. IsSomeAnd (old place.home) (IsPageOf place (option_map (λ (p : TagPlace). p.home) (slice_get places (k + 1))))) → IfSome o (λ place. new place.home ≡ old place.home)
      by_place None run = tt
      by_place (Some place) run = elsewhere place.home (false_from_ne_true (same_home place.home (home_of at))
          (λ same. not_both_kinds (old (home_of at)) place (option_map (λ (p : TagPlace). p.home) (slice_get places (k + 1))) (page_stands old at bytes there)
          (subst (λ (h : Home). IsSomeAnd (old h) (IsPageOf place (option_map (λ (p : TagPlace). p.home) (slice_get places (k + 1))))) (homes_same place.home (home_of at) same) run)))

  pub directory_stays : IsDirectory new places
  directory_stays = directory_same old new places directory page_same

  pub cell_stays : (tag : Tag) → cell_of new places tag ≡ cell_of old places tag
  cell_stays = cell_same old new places directory page_same

  pub sequence_stays : (slot : ℕ) → sequence_of new places slot ≡ sequence_of old places slot
  sequence_stays slot = ap (option_map (λ (e : TagEntry). e.seq)) (entry_same old new places directory page_same slot)

-- a tag that leads to a cell has its slot's last sequence
pub used_sequence : (pages : Pages) (places : List TagPlace) (tag : Tag) → IsSome (cell_of pages places tag) → sequence_of pages places tag.slot ≡ Some tag.seq
used_sequence pages places tag used = by_entry (entry_at pages places tag.slot) used
  where
    by_entry : (o : Option TagEntry) → IsSome (option_and_then (cell_for tag.seq) o) → option_map (λ (e : TagEntry). e.seq) o ≡ Some tag.seq
    by_entry None used = absurd (true≢false (sym used))
    by_entry (Some e) used = by_seq (nat_eq e.seq tag.seq) refl used
      where
        by_seq : (b : Bool) → nat_eq e.seq tag.seq ≡ b → IsSome (cond b e.at None) → Some e.seq ≡ Some tag.seq
        by_seq true same used = ap Some (eqb-true e.seq tag.seq same)
        by_seq false other used = absurd (true≢false (sym used))

-- a page of the directory stands at each place
pub home_there : (places : List TagPlace) (k : ℕ) → IfSome (slice_get places k) (λ place. has_home places place.home ≡ true)
home_there [] k = tt
home_there (p ∷ ps) zero = or_left (same_home p.home p.home) (has_home ps p.home) (same_itself p.home)
home_there (p ∷ ps) (suc k) = later (slice_get ps k) (home_there ps k)
  where
    later : (o : Option TagPlace) → IfSome o (λ place. has_home ps place.home ≡ true) → IfSome o (λ place. has_home (p ∷ ps) place.home ≡ true)
    later None has = tt
    later (Some place) has = or_right (same_home place.home p.home) (has_home ps place.home) has

pub pages_same : (old new : Pages) (places : List TagPlace) → ((home : Home) → has_home places home ≡ true → new home ≡ old home) → (k : ℕ) → IfSome (slice_get places k) (λ place. new place.home ≡ old place.home)
pages_same old new places same k = by_place (slice_get places k) (home_there places k)
  where
    by_place : (o : Option TagPlace) → IfSome o (λ place. has_home places place.home ≡ true) → IfSome o (λ place. new place.home ≡ old place.home)
    by_place None has = tt
    by_place (Some place) has = same place.home has

-- ---- files of other tags

pub file_stays : (old new : Pages) (at : CellAt) → LeavesOthers (is_at at) old new → (first : PlacedCell) (rest : List PlacedCell) → ¬ Contains (places_of_cells (first ∷ rest)) at → AreFile old first rest → AreFile new first rest
file_stays old new at leaves first rest apart are = record {
  links = record {
    stands = stands_stays old new (is_at at) leaves first.at first.cell (at_apart at first.at (λ same. apart (0, omega arith, sym same))) are.links.stands;
    follow = follow_apart old new at leaves first.cell.head rest (λ inside. apart (suc inside.0, omega (arith, inside.1), inside.2)) are.links.follow;
    distinct = are.links.distinct;
  };
  primary = are.primary;
  attributes = are.attributes;
  value = are.value;
  map = are.map;
  others = are.others;
  one_map = are.one_map;
}
