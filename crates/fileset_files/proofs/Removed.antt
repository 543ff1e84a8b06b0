-- A tag is taken out of use: the cells of files stay, since they stand on other pages than tags do.
use Rattle.std.proofs.Common.{◌≡◌, ◌∙◌, ℕ, ◌+◌, ◌&&◌, Bool, true, false, cond, List, [], ◌∷◌, slice_get, nat_lt, Option, Some, None, IfSome, IsSomeAnd, refl, sym, ap, subst, ⊎_elim}
use Rattle.std.proofs.lemmas.Bool.{cases_Bool, false_from_ne_true, or_from}
use Rattle.std.specs.List.{AllByRecursion}
use Rattle.std.specs.Option.{option_and_then, option_map}
use Rattle.file_chains.specs.domain_base.declared.place.CellAt.{CellAt}
use Rattle.file_chains.specs.domain_base.declared.place.Home.{Home}
use Rattle.file_chains.specs.domain_base.declared.place.Tag.{Tag}
use Rattle.file_chains.specs.page_store.Pages.{Pages, same_home}
use Rattle.file_chains.specs.page_store.Bitfiles.{same_tag}
use Rattle.file_chains.specs.metadata_cells.declared.head.CellHead.{CellHead}
use Rattle.file_chains.specs.metadata_cells.Cell.{Cell}
use Rattle.file_chains.specs.metadata_cells.CellPage.{cell_of as bytes_of, home_of, is_cell_page}
use Rattle.file_chains.specs.metadata_cells.Chain.{Follow, PlacedCell, StandsAt}
use Rattle.file_chains.proofs.OfMetadataCells.Changed.{homes_same}
use Rattle.tag_dirs.specs.declared.dir.TagPlace.{TagPlace}
use Rattle.tag_dirs.specs.Directory.{IsDirectory, IsPageOf, SetsTag, cell_of, has_home}
use Rattle.tag_dirs.proofs.Slots.{off_slot}
use Rattle.file_chains.specs.Files.{AreFile, IsFile}
use Rattle.fileset_files.specs.Files.{AreApart, AreFiles, Chains, LeadsToFile}
use Rattle.fileset_files.specs.Changes.{with_chain, with_first, without_chain}
use Rattle.fileset_files.proofs.Tags.{all_by_index, not_both_kinds, page_stands}

-- a page of cells is none of a tag directory
some_page : (pages : Pages) (home : Home) (ps : List TagPlace) (next : TagPlace → Option Home) → IsSomeAnd (pages home) (λ page. is_cell_page page ≡ true)
    → AllByRecursion (λ (p : TagPlace). (n : Option Home) × IsSomeAnd (pages p.home) (IsPageOf p n)) ps → has_home ps home ≡ false
some_page pages home [] next cells all = refl
some_page pages home (p ∷ ps) next cells all =
    or_from (same_home home p.home) (has_home ps home)
    (false_from_ne_true (same_home home p.home) (λ same. not_both_kinds (pages home) p all.0.0 cells (subst (λ (h : Home). IsSomeAnd (pages h) (IsPageOf p all.0.0)) (sym (homes_same home p.home same)) all.0.1)))
    (some_page pages home ps next cells all.1)

no_tag_home : (pages : Pages) (places : List TagPlace) (at : CellAt) (cell : Cell) → IsDirectory pages places → StandsAt pages at cell → has_home places (home_of at) ≡ false
no_tag_home pages places at cell directory stands =
    some_page pages (home_of at) places (λ p. None) (page_stands pages at stands.bytes stands.there)
    (all_by_index (λ (p : TagPlace). (n : Option Home) × IsSomeAnd (pages p.home) (IsPageOf p n)) places (λ k. by_place k (slice_get places k) (directory.run k)))
  where
    by_place : (k : ℕ) (o : Option TagPlace) → IfSome o (λ p. IsSomeAnd (pages p.home) (IsPageOf p (option_map (λ (p : TagPlace). p.home) (slice_get places (k + 1)))))
        → IfSome o (λ p. (n : Option Home) × IsSomeAnd (pages p.home) (IsPageOf p n))
    by_place k None run = tt
    by_place k (Some p) run = (option_map (λ (p : TagPlace). p.home) (slice_get places (k + 1)), run)

module _ (old new : Pages) (places : List TagPlace) (directory : IsDirectory old places) (elsewhere : (h : Home) → has_home places h ≡ false → new h ≡ old h) where
  pub stands_kept : (at : CellAt) (cell : Cell) → StandsAt old at cell → StandsAt new at cell
  stands_kept at cell stands = record {
    bytes = stands.bytes;
    there = ap (λ o. option_and_then (λ page. cond (is_cell_page page && nat_lt at.cell 28) (Some (bytes_of page at.cell)) None) o) (elsewhere (home_of at) (no_tag_home old places at cell directory stands)) ∙ stands.there;
    is = stands.is;
  }

  follow_kept : (head : CellHead) (cs : List PlacedCell) → Follow old head cs → Follow new head cs
  follow_kept head [] follow = follow
  follow_kept head (c ∷ cs) follow = (follow.0, follow.1, stands_kept c.at c.cell follow.2, follow_kept c.cell.head cs follow.3)

  file_kept : (first : PlacedCell) (rest : List PlacedCell) → AreFile old first rest → AreFile new first rest
  file_kept first rest are = record {
    links = record {
      stands = stands_kept first.at first.cell are.links.stands;
      follow = follow_kept first.cell.head rest are.links.follow;
      distinct = are.links.distinct;
    };
    primary = are.primary;
    attributes = are.attributes;
    value = are.value;
    map = are.map;
    others = are.others;
    one_map = are.one_map;
  }

  pub is_file_kept : (at : CellAt) (cells : List PlacedCell) → IsFile old at cells → IsFile new at cells
  is_file_kept at [] is = is
  is_file_kept at (first ∷ rest) is = (is.0, file_kept first rest is.1)

module _ (old new : Pages) (fileset : ℕ) (places : List TagPlace) (tag : Tag) (chains : Chains) (change : Cell → Cell) (are : AreFiles fileset places old (with_chain tag (with_first change) chains)) (was : (s t : Tag) → same_tag s t ≡ false → IfSome (chains s) (λ xs. IfSome (chains t) (AreApart xs)))
    (sets : SetsTag tag None places old new) where
  other_cell : (t : Tag) → same_tag t tag ≡ false → cell_of new places t ≡ cell_of old places t
  other_cell t other = sets.cells t ∙ ap (λ (b : Bool). cond b None (cell_of old places t)) other

  before : (t : Tag) → same_tag t tag ≡ false → with_chain tag (with_first change) chains t ≡ chains t
  before t other = ap (λ (b : Bool). cond b (option_map (with_first change) (chains t)) (chains t)) other

  now_none : (t : Tag) → same_tag t tag ≡ true → without_chain tag chains t ≡ None
  now_none t same = ap (λ (b : Bool). cond b None (chains t)) same

  now_other : (t : Tag) → same_tag t tag ≡ false → without_chain tag chains t ≡ chains t
  now_other t other = ap (λ (b : Bool). cond b None (chains t)) other

  leads_kept : (t : Tag) → same_tag t tag ≡ false → (cells : List PlacedCell) → LeadsToFile fileset places old t cells → LeadsToFile fileset places new t cells
  leads_kept t other cells leads = record {
    leads = subst (λ o. IsSomeAnd o (λ at. IsFile new at cells)) (sym (other_cell t other)) (by_cell (cell_of old places t) leads.leads);
    is_of = leads.is_of;
    kinds = leads.kinds;
  }
    where
      by_cell : (o : Option CellAt) → IsSomeAnd o (λ at. IsFile old at cells) → IsSomeAnd o (λ at. IsFile new at cells)
      by_cell None leads = leads
      by_cell (Some at) leads = is_file_kept old new places are.directory (λ h none. sets.elsewhere h (off_slot places tag.slot h none)) at cells leads

  some_kept : (t : Tag) → IfSome (without_chain tag chains t) (LeadsToFile fileset places new t)
  some_kept t = ⊎_elim
      (λ same. subst (λ o. IfSome o (LeadsToFile fileset places new t)) (sym (now_none t same)) tt)
      (λ other. subst (λ o. IfSome o (LeadsToFile fileset places new t)) (sym (now_other t other))
      (by_chain other (chains t) (subst (λ o. IfSome o (LeadsToFile fileset places old t)) (before t other) (are.some t))))
      (cases_Bool (same_tag t tag))
    where
      by_chain : same_tag t tag ≡ false → (o : Option (List PlacedCell)) → IfSome o (LeadsToFile fileset places old t) → IfSome o (LeadsToFile fileset places new t)
      by_chain other None some = tt
      by_chain other (Some cells) some = leads_kept t other cells some

  none_kept : (t : Tag) → without_chain tag chains t ≡ None → cell_of new places t ≡ None
  none_kept t none = ⊎_elim
      (λ same. sets.cells t ∙ ap (λ (b : Bool). cond b None (cell_of old places t)) same)
      (λ other. other_cell t other ∙ are.none t (before t other ∙ sym (now_other t other) ∙ none))
      (cases_Bool (same_tag t tag))

  apart_kept : (s t : Tag) → same_tag s t ≡ false → IfSome (without_chain tag chains s) (λ xs. IfSome (without_chain tag chains t) (AreApart xs))
  apart_kept s t differ = ⊎_elim
      (λ same. subst (λ o. IfSome o (λ xs. IfSome (without_chain tag chains t) (AreApart xs))) (sym (now_none s same)) tt)
      (λ other_s. ⊎_elim
      (λ same. subst (λ o. IfSome (without_chain tag chains s) (λ xs. IfSome o (AreApart xs))) (sym (now_none t same)) (none_apart (without_chain tag chains s)))
      (λ other_t. subst (λ o. IfSome o (λ xs. IfSome (without_chain tag chains t) (AreApart xs))) (sym (now_other s other_s))
      (subst (λ o. IfSome (chains s) (λ xs. IfSome o (AreApart xs))) (sym (now_other t other_t)) (was s t differ)))
      (cases_Bool (same_tag t tag)))
      (cases_Bool (same_tag s tag))
    where
      none_apart : (o : Option (List PlacedCell)) → IfSome o (λ xs. IfSome None (AreApart xs))
      none_apart None = tt
      none_apart (Some xs) = tt

  pub files_without : AreFiles fileset places new (without_chain tag chains)
  files_without = record {
    directory = sets.directory;
    none = none_kept;
    some = some_kept;
    apart = apart_kept;
  }
