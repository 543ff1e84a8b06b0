-- The memory of a domain that was just made stands for no fileset.
use Rattle.std.proofs.Common.{◌≡◌, ◌∙◌, ℕ, ◌<◌, ◌≤◌, List, [], ◌∷◌, Option, Some, None, IsSomeAnd, replicate, refl, sym, ap, subst, arith}
use Rattle.std.specs.FinMap.{empty}
use Rattle.standing_laws.specs.domain_base.Version.{most_pages, number_of}
use Rattle.standing_laws.specs.domain_base.declared.version.Version.{Version}
use Rattle.standing_laws.specs.page_store.Pages.{Pages}
use Rattle.standing_laws.specs.log_recovery.Range.{IsLogInside}
use Rattle.standing_laws.specs.log_ring.Homes.{IsMember, member_of}
use Rattle.standing_laws.specs.free_cells.Cells.{Cells, Holds, is_closed, is_free, table_of, taken_back}
use Rattle.standing_laws.specs.free_cells.VolumeTable.{KeptTable}
use Rattle.standing_laws.specs.free_space.Spaces.{Spaces, change_volumes, kept_spaces}
use Rattle.standing_laws.specs.free_space.VolumeSpace.{keeping}
use Rattle.standing_laws.specs.disk_label.FirstPages.{first_pages}
use Rattle.standing_laws.specs.fileset_table.Page.{IsTablePage}
use Rattle.standing_laws.specs.fileset_table.Table.{IsNewTable}
use Rattle.standing_laws.specs.fileset_table.declared.slot.SlotItem.TheVariants as slot
use Rattle.standing_laws.specs.quota_book.Book.{Book}
use Rattle.standing_laws.specs.release_list.Listing.{IsEmpty}
use Rattle.standing_laws.specs.filesets_reading.Good.{AreGood}
use Rattle.standing_laws.specs.domain_standing.Marks.{IsMarked}
use Rattle.standing_laws.specs.domain_standing.Space.{AreCellsOf, AreFew, IsSpaceOf}
use Rattle.standing_laws.proofs.OfDomainStanding.Marked.{marked_space}
use Rattle.standing_laws.specs.domain_layout.Layout.{IsLayout, Layout}
use Rattle.standing_laws.specs.domain_layout.Owners.{frame_of}
use Rattle.standing_laws.specs.domain_layout.Reached.{Frame}
use Rattle.standing_laws.proofs.OfDomainLayout.NoTables.{none_of_tables}
use Rattle.standing_laws.specs.domain_layout.NewDomain.{IsNew, IsNewTablePage, firsts, on_first, size_of}
use Rattle.standing_laws.proofs.OfDomainLayout.NewDomain.{no_fault}
use Rattle.standing_laws.proofs.OfDomainLayout.NewTags.{all_free, has_none}
use Rattle.standing_laws.specs.domain_standing.Domain.{DomainNow, layout_of}
use Rattle.standing_laws.specs.domain_standing.Sources.{StandAlone}
use Rattle.standing_laws.specs.domain_standing.Standing.{AreBooksOf, HaveParents, IsMarkedBut, StandsDomain}
use Rattle.standing_laws.proofs.OfDomainStanding.NewDomain.{new_alone, new_stands}
use Rattle.standing_laws.specs.Sound.{IsSound}
use Rattle.domain_making.specs.Making.{new_frame}
use Rattle.standing_laws.specs.page_ways.Frame.{frame_in}
use Rattle.staged_pages.specs.Store.{before_of}
use Rattle.domain_memory.specs.Slots.{kept_places, slot_in}
use Rattle.domain_memory.specs.Memory.{StandsFor, books_in, kept_in, with_was}
use Rattle.domain_memory.specs.declared.memory.DomainMemory.{DomainMemory}
use Rattle.domain_memory.proofs.KeptCells.{cells_of_other}
use Rattle.domain_memory.proofs.KeptSpace.{kept_is, marked_kept}
use Rattle.domain_memory.proofs.NewLayout.{laid_with, layout_with}
use Rattle.domain_memory.proofs.NewSound.{new_sound}
use Rattle.domain_memory.proofs.NewMarks.{has_bitmaps, marked_behind, marked_held}
use Rattle.domain_memory.proofs.SlotsKept.{nothing_in}

-- the one page of cells
abbrev pub first_table : Frame → ℕ → List ℕ
first_table frame vol = (firsts frame).cells ∷ []

-- pages of a new domain are good ones
pub new_is_good : (pages : Pages) (frame : Frame) → IsNew pages frame → frame.anchor.version ≡ number_of frame.version → AreGood pages frame
new_is_good pages frame new version = by_page (pages (on_first (firsts frame).table)) refl new.table
  where
    by_page : (o : Option (List ℕ)) → pages (on_first (firsts frame).table) ≡ o → IsSomeAnd o IsNewTablePage → AreGood pages frame
    by_page None at is = absurd is
    by_page (Some page) at is = record {
      table = is.table;
      says = record {
        home = on_first (firsts frame).table;
        at = new.anchor.table;
        there = subst (λ o. IsSomeAnd o (λ p. IsTablePage p is.table)) (sym at) is.says;
      };
      version = version;
      no_fault = none_of_tables pages frame (no_fault pages frame new);
    }

-- so few pages
pub one_member : (P : ℕ → Type 0) (pages : Pages) (frame : Frame) → IsNew pages frame → P (size_of frame) → (vol : ℕ) → IsMember frame.anchor vol → P (member_of frame.anchor vol).pages
one_member P pages frame new first vol member = subst (λ v. P (member_of frame.anchor v).pages) (sym (new.anchor.alone vol member)) first

module _ (d : DomainNow) (new : IsNew d.pages d.frame) (version : d.frame.anchor.version ≡ number_of d.frame.version) (most : size_of d.frame ≤ most_pages d.frame.version)
    (log : IsLogInside d.frame.version d.frame.anchor) (fresh : IsNewTable d.table) (marked : IsMarked d.pages d.frame d.space)
    (are : (layout : Layout) → IsLayout d.pages layout → frame_of layout ≡ d.frame → AreCellsOf d.pages layout d.cells)
    (untagged : (number : ℕ) → d.tags number ≡ []) (nothing : IsEmpty d.list) where
  abbrev first_layout : Layout
  first_layout = layout_with d.frame d.table (first_table d.frame)

  first_laid : IsLayout d.pages first_layout
  first_laid = laid_with d.pages d.frame new version d.table fresh (first_table d.frame) refl

  first_cells : AreCellsOf d.pages first_layout d.cells
  first_cells = are first_layout first_laid refl

  is_laid : IsLayout d.pages (layout_of d)
  is_laid =
      let tags : (λ (number : ℕ). []) ≡ d.tags = λ i number. sym (untagged number) i in
      subst (λ t. IsLayout d.pages (record { anchor = d.frame.anchor; version = d.frame.version; table = d.table; cells = table_of d.cells; tags = t })) tags
      (laid_with d.pages d.frame new version d.table fresh (table_of d.cells) (first_cells.tables 1 new.anchor.member))

  cells : AreCellsOf d.pages (layout_of d) d.cells
  cells = cells_of_other d.pages first_layout (layout_of d) refl (λ vol member. first_cells.tables vol member) d.cells d.cells first_cells (λ vol. refl) (λ vol. refl) (λ at. refl)

  few : AreFew (layout_of d)
  few = one_member (λ n. n ≤ most_pages d.frame.version) d.pages d.frame new most

  space : IsSpaceOf d.pages (layout_of d) d.space
  space = marked_space d.pages (layout_of d) is_laid (no_fault d.pages d.frame new) few (has_bitmaps d.pages d.frame new most) d.space marked

  pub stands : StandsDomain d empty
  stands = new_stands d new is_laid log few space cells untagged nothing

  pub alone : StandAlone d
  alone = new_alone d new is_laid log few space cells untagged nothing

  pub sound : IsSound d
  sound = new_sound d empty stands (no_fault d.pages d.frame new) untagged (all_free d.table fresh) nothing

  pub parents : HaveParents d
  parents = λ number tag cells seen has. absurd (has_none d.table fresh d.pages number tag cells seen has)

  pub marks : IsMarkedBut d
  marks = record {
    there = has_bitmaps d.pages d.frame new most;
    bits = marked_held d.pages d.frame new most d.space marked;
    behind = marked_behind d.pages d.frame new most;
  }

  pub books : (of : ℕ → Book) → AreBooksOf of d empty
  books of number entry there =
      let free : slot.Original entry ≡ slot.Free = all_free d.table fresh number (slot.Original entry) there in
      absurd (cc)

-- ---- the memory

log_inside : (version : Version) (pages : ℕ) → (first_pages version pages).table < pages → IsLogInside version (new_frame version pages).anchor
log_inside version pages room = record { within = omega (arith, room); behind = omega arith }

-- pages, space and cells that were just kept
module _ (m : DomainMemory) (version : Version) (pages : ℕ) (room : (first_pages version pages).table < pages) (most : pages ≤ most_pages version) (frame : frame_in m.frame ≡ new_frame version pages)
    (new : IsNew (before_of m.pages) (new_frame version pages)) (space : Spaces) (marked : IsMarked (before_of m.pages) (new_frame version pages) space) (space_is : m.space ≡ change_volumes keeping space)
    (cells : Cells) (are : (layout : Layout) → IsLayout (before_of m.pages) layout → frame_of layout ≡ frame_in m.frame → AreCellsOf (before_of m.pages) layout cells)
    (kept : ℕ → KeptTable) (same : Holds (table_of cells) (is_closed cells) (is_free cells) kept m.cells) (settled : taken_back m.cells ≡ m.cells)
    (fresh : IsNewTable m.table) (entries : m.list.list.entries ≡ []) (tag_pages : m.list.list.tag_pages ≡ []) (slots : m.slots.items ≡ replicate 32 None) (was : m.was ≡ None) where
  frames : (P : Frame → Type 0) → P (new_frame version pages) → P (frame_in m.frame)
  frames P p = subst P (sym frame) p

  kept_are : (layout : Layout) → IsLayout (before_of m.pages) layout → frame_of layout ≡ frame_in m.frame → AreCellsOf (before_of m.pages) layout (taken_back m.cells)
  kept_are layout laid is =
      cells_of_other (before_of m.pages) layout layout refl (λ vol member. refl) cells (taken_back m.cells) (are layout laid is)
      (λ vol. ap (λ (c : Cells). table_of c vol) settled ∙ same.tables vol) (λ vol. ap (λ (c : Cells). is_closed c vol) settled ∙ same.marks vol) (λ at. ap (λ (c : Cells). is_free c at) settled ∙ same.cells at)

  kept_marks : IsMarked (before_of m.pages) (frame_in m.frame) (kept_spaces m.space)
  kept_marks =
      let is : kept_spaces m.space ≡ change_volumes keeping space = ap kept_spaces space_is ∙ kept_is space in
      frames (λ f. IsMarked (before_of m.pages) f (kept_spaces m.space)) (subst (IsMarked (before_of m.pages) (new_frame version pages)) (sym is) (marked_kept (before_of m.pages) (new_frame version pages) space marked))

  untagged : (number : ℕ) → kept_places (slot_in m.slots.items number) ≡ []
  untagged number = ap (λ s. kept_places (slot_in s number)) slots ∙ ap kept_places (nothing_in 32 number)

  is_new : IsNew (before_of m.pages) (frame_in m.frame)
  is_new = frames (λ f. IsNew (before_of m.pages) f) new

  says : (frame_in m.frame).anchor.version ≡ number_of (frame_in m.frame).version
  says = frames (λ f. f.anchor.version ≡ number_of f.version) refl

  few_pages : size_of (frame_in m.frame) ≤ most_pages (frame_in m.frame).version
  few_pages = frames (λ f. size_of f ≤ most_pages f.version) most

  log : IsLogInside (frame_in m.frame).version (frame_in m.frame).anchor
  log = frames (λ f. IsLogInside f.version f.anchor) (log_inside version pages room)

  fresh_kept : IsNewTable (with_was m.was m.table)
  fresh_kept = subst (λ w. IsNewTable (with_was w m.table)) (sym was) fresh

  pub stands_for : StandsFor m empty
  stands_for = record {
    stands = stands (kept_in m) is_new says few_pages log fresh_kept kept_marks kept_are untagged (entries, tag_pages);
    alone = alone (kept_in m) is_new says few_pages log fresh_kept kept_marks kept_are untagged (entries, tag_pages);
    sound = sound (kept_in m) is_new says few_pages log fresh_kept kept_marks kept_are untagged (entries, tag_pages);
    parents = parents (kept_in m) is_new says few_pages log fresh_kept kept_marks kept_are untagged (entries, tag_pages);
    marked = marks (kept_in m) is_new says few_pages log fresh_kept kept_marks kept_are untagged (entries, tag_pages);
    books = books (kept_in m) is_new says few_pages log fresh_kept kept_marks kept_are untagged (entries, tag_pages) (books_in m);
  }
