-- An index that gets one page more, after the directory's first cell tells of it.
use Rattle.std.proofs.Common.{◌≡◌, ◌∙◌, ◌≤◌, ℕ, Bool, true, false, cond, Option, Some, None, IfSome, List, [], ◌∷◌, Contains, refl, sym, ap, subst, ⊎_elim}
use Rattle.std.proofs.lemmas.Bool.{false_from_ne_true, true≢false}
use Rattle.std.specs.List.{insert}
use Rattle.index_pages.specs.domain_base.declared.place.CellAt.{CellAt}
use Rattle.index_pages.specs.domain_base.declared.place.Home.{Home}
use Rattle.index_pages.specs.domain_base.declared.place.Tag.{Tag}
use Rattle.index_pages.specs.page_store.Bitfiles.{Bitfiles, IsDirectory, insert_index, shown_index, with_change}
use Rattle.index_pages.specs.page_store.Pages.{Pages, same_home}
use Rattle.index_pages.specs.metadata_cells.CellPage.{cell_at, home_of}
use Rattle.index_pages.specs.metadata_cells.Chain.{LeavesOthers, PlacedCell, is_at}
use Rattle.index_pages.proofs.OfMetadataCells.Changed.{homes_same}
use Rattle.index_pages.specs.tag_dirs.Directory.{has_home}
use Rattle.index_pages.specs.tag_dirs.declared.dir.TagPlace.{TagPlace}
use Rattle.index_pages.specs.free_cells.Cells.{Cells, table_of}
use Rattle.index_pages.specs.free_space.VolumeSpace.{with_page}
use Rattle.index_pages.specs.free_space.Spaces.{CanTake, Spaces, change_volume}
use Rattle.index_pages.proofs.OfFileChains.Spaces.{not_held}
use Rattle.index_pages.specs.file_chains.FileChanges.{AreOnTables}
use Rattle.index_pages.specs.fileset_files.declared.indexing.IndexPlace.{IndexPlace}
use Rattle.index_pages.specs.fileset_files.Changes.{ChangesFirst, with_chain, with_first}
use Rattle.index_pages.specs.fileset_files.Files.{Chains}
use Rattle.index_pages.specs.fileset_files.Index.{says_index}
use Rattle.index_pages.specs.fileset_files.Together.{AreTogether}
use Rattle.index_pages.proofs.OfFilesetFiles.Grown.{apart_now}
use Rattle.index_pages.specs.Changes.{InsertsIndexPage}
use Rattle.index_pages.proofs.Held.{in_inserted}
use Rattle.index_pages.proofs.Homes.{kept_same, shown_same}
use Rattle.stored_set.proofs.FirstTells.{off_tables_still}
use Rattle.stored_set.proofs.IndexInserted.{inserted}
use Rattle.stored_set.proofs.Together.{together_away}
use Rattle.stored_set.specs.Standing.{Indexes, StandsShown, with_index}

-- the page of a chain's first cell
abbrev is_first_page : Home → List PlacedCell → Bool
is_first_page h [] = false
is_first_page h (first ∷ rest) = same_home h (home_of first.at)

abbrev is_page : Home → Option (List PlacedCell) → Bool
is_page h None = false
is_page h (Some chain) = is_first_page h chain

-- the pages in which the first cell says what it did, and the index has the page more
abbrev between : Option (List PlacedCell) → Pages → Pages → Pages
between chain old new = λ h. cond (is_page h chain) (old h) (new h)

module _ (fileset : ℕ) (places : List TagPlace) (space : Spaces) (cells : Cells) (old said new : Pages) (chains : Chains) (indexes : Indexes) (files : Bitfiles) (was : StandsShown fileset places space cells old chains indexes files)
    (tag : Tag) (number : ℕ) (page : List ℕ) (home : Home) (index : IndexPlace) (low : 1 ≤ home.vol) (free : CanTake space home.vol home.page) (first : ChangesFirst (chains tag) old said) (inserts : InsertsIndexPage index.first home number page said new (indexes tag)) where
  abbrev space_now : Spaces
  space_now = change_volume (with_page home.page) space home.vol

  abbrev homes_now : List Home
  homes_now = insert (indexes tag) number home

  off_home : ¬ Contains (table_of cells home.vol) home.page
  off_home = (apart_now space cells old home low was.together.allocated free).off_table

  off_index : (h : Home) → Contains homes_now h → ¬ Contains (table_of cells h.vol) h.page
  off_index h inside = ⊎_elim (λ here. subst (λ (x : Home). ¬ Contains (table_of cells x.vol) x.page) here off_home) (λ before. (was.stand tag h before).apart.off_table) (in_inserted (indexes tag) number home h inside)

  -- a page of a table is none of the index
  new_said : (h : Home) → Contains (table_of cells h.vol) h.page → new h ≡ said h
  new_said h on = inserts.others h (λ inside. (was.stand tag h inside).apart.off_table on) (false_from_ne_true (same_home h home) (λ same. off_home (subst (λ (x : Home). Contains (table_of cells x.vol) x.page) (homes_same h home same) on)))

  on_page : (o : Option (List PlacedCell)) → IfSome o (AreOnTables cells) → (h : Home) → is_page h o ≡ true → Contains (table_of cells h.vol) h.page
  on_page None on h at = absurd (true≢false (sym at))
  on_page (Some []) on h at = absurd (true≢false (sym at))
  on_page (Some (c ∷ cs)) on h at = subst (λ (x : Home). Contains (table_of cells x.vol) x.page) (sym (homes_same h (home_of c.at) at)) on.0

  said_same : (o : Option (List PlacedCell)) → ChangesFirst o old said → (h : Home) → is_page h o ≡ false → said h ≡ old h
  said_same None changes h off = ap (λ (ps : Pages). ps h) changes
  said_same (Some []) changes h off = ap (λ (ps : Pages). ps h) changes
  said_same (Some (c ∷ cs)) changes h off = changes.1 h off

  abbrev mid : Pages
  mid = between (chains tag) old new

  mid_new : (h : Home) → ¬ Contains (table_of cells h.vol) h.page → mid h ≡ new h
  mid_new h off = by_page (is_page h (chains tag)) refl
    where
      by_page : (b : Bool) → is_page h (chains tag) ≡ b → mid h ≡ new h
      by_page true at = absurd (off (on_page (chains tag) (was.together.on_tables tag) h at))
      by_page false at = ap (λ (b : Bool). cond b (old h) (new h)) at

  inserts_mid : InsertsIndexPage index.first home number page old mid (indexes tag)
  inserts_mid = record {
    are = kept_same new mid (Some index.first) homes_now inserts.are (λ h inside. mid_new h (off_index h inside));
    shown = shown_same new mid homes_now (λ h inside. mid_new h (off_index h inside)) ∙ inserts.shown
        ∙ ap (λ xs. insert xs number (shown_index page)) (shown_same old said (indexes tag) (λ h inside. off_tables_still cells (chains tag) old said (was.together.on_tables tag) first h (was.stand tag h inside).apart.off_table));
    others = λ h off apart. by_page h off apart (is_page h (chains tag)) refl;
  }
    where
      by_page : (h : Home) → ¬ Contains (indexes tag) h → same_home h home ≡ false → (b : Bool) → is_page h (chains tag) ≡ b → mid h ≡ old h
      by_page h off apart true at = ap (λ (b : Bool). cond b (old h) (new h)) at
      by_page h off apart false at = ap (λ (b : Bool). cond b (old h) (new h)) at ∙ inserts.others h off apart ∙ said_same (chains tag) first h at

  -- of the pages between these only the first cell changes
  changes_mid : (o : Option (List PlacedCell)) → IfSome o (AreOnTables cells) → ChangesFirst o old said → ChangesFirst o (between o old new) new
  changes_mid None on changes = refl
  changes_mid (Some []) on changes = refl
  changes_mid (Some (c ∷ cs)) on changes = (others, λ h other. sym (ap (λ (b : Bool). cond b (old h) (new h)) other))
    where
      by_page : (at : CellAt) → is_at c.at at ≡ false → (b : Bool) → same_home (home_of at) (home_of c.at) ≡ b → cell_at new at ≡ cell_at (between (Some (c ∷ cs)) old new) at
      by_page at other true same =
          ap (λ (o : Option (List ℕ)). cell_at (λ _. o) at) (new_said (home_of at) (on_page (Some (c ∷ cs)) on (home_of at) same))
          ∙ changes.0 at other ∙ ap (λ (o : Option (List ℕ)). cell_at (λ _. o) at) (sym (ap (λ (b : Bool). cond b (old (home_of at)) (new (home_of at))) same))
      by_page at other false same = ap (λ (o : Option (List ℕ)). cell_at (λ _. o) at) (sym (ap (λ (b : Bool). cond b (old (home_of at)) (new (home_of at))) same))

      others : LeavesOthers (is_at c.at) (between (Some (c ∷ cs)) old new) new
      others at other = by_page at other (same_home (home_of at) (home_of c.at)) refl

  no_tags : has_home places home ≡ false
  no_tags = false_from_ne_true (has_home places home) (λ has. not_held space home.vol home.page free (was.together.tag_pages home has).held)

  together_new : AreTogether fileset places space_now cells said (with_chain tag (with_first (says_index (Some index))) chains) → AreTogether fileset places space_now cells new (with_chain tag (with_first (says_index (Some index))) chains)
  together_new together =
      together_away said new cells new_said fileset places space_now (with_chain tag (with_first (says_index (Some index))) chains)
      (λ h has. inserts.others h (λ inside. true≢false (sym has ∙ (was.stand tag h inside).no_tags)) (false_from_ne_true (same_home h home) (λ same. true≢false (sym has ∙ ap (has_home places) (homes_same h home same) ∙ no_tags)))) together

  pub linked_in : AreTogether fileset places space_now cells said (with_chain tag (with_first (says_index (Some index))) chains) → IsDirectory files tag
      → StandsShown fileset places space_now cells new (with_chain tag (with_first (says_index (Some index))) chains) (with_index tag homes_now indexes) (with_change tag (insert_index number (shown_index page)) files)
  linked_in together directory =
      inserted fileset places space cells old mid chains indexes files was tag number page home index low free inserts_mid new (changes_mid (chains tag) (was.together.on_tables tag) first) (together_new together) directory
