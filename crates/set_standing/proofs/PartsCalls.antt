-- A domain stands on around a slot after each call that changes its set of files, by the parts in which they stand.
use Rattle.std.proofs.Common.{◌≡◌, ◌∙◌, ◌⊎◌, ◌<◌, ◌≤◌, ℕ, List, [], Option, Some, None, IsSomeAnd, refl, sym, ap, subst}
use Rattle.std.specs.Option.{option_and_then}
use Rattle.standing_laws.specs.domain_base.Limits.{file_pages, max_links}
use Rattle.standing_laws.specs.domain_base.declared.place.Home.{Home}
use Rattle.standing_laws.specs.domain_base.declared.place.Tag.{Tag}
use Rattle.standing_laws.specs.domain_base.declared.version.Version.{Version}
use Rattle.standing_laws.specs.page_store.Bitfiles.{Bitfiles as SetOf, IsDirectory, count_pages}
use Rattle.standing_laws.specs.page_store.Pages.{Pages}
use Rattle.standing_laws.specs.tag_dirs.declared.dir.TagPlace.{TagPlace}
use Rattle.standing_laws.specs.extent_maps.declared.run.PagePlace.TheVariants.{At}
use Rattle.standing_laws.specs.free_space.Spaces.{Spaces, missed}
use Rattle.standing_laws.specs.file_chains.FileChanges.{LeavesOtherCells}
use Rattle.standing_laws.specs.fileset_files.declared.attributes.Attributes.{Attributes}
use Rattle.standing_laws.specs.fileset_files.declared.new_cells.NewFile.{NewFile}
use Rattle.standing_laws.specs.fileset_files.Changes.{ChangesFirst, says_attributes, says_parent, with_chain, with_first}
use Rattle.standing_laws.specs.fileset_files.Creation.{Creates, LeavesBeside, TakesForFile, TakesNext}
use Rattle.standing_laws.specs.fileset_files.Files.{AreFiles, Chains, attributes_of, of_live, place_at}
use Rattle.standing_laws.specs.fileset_files.Shown.{index_of}
use Rattle.standing_laws.specs.fileset_files.Together.{AreTogether}
use Rattle.standing_laws.specs.index_pages.Homes.{AreIndexHomes}
use Rattle.standing_laws.specs.stored_set.Sets.{AddsIndexPage, AddsPage, StandsAsSet, WritesIndexPage, attributes_at}
use Rattle.standing_laws.specs.release_list.Listing.{Listing}
use Rattle.standing_laws.specs.release_steps.Tags.{start_of}
use Rattle.standing_laws.specs.IndexCalls.{KeepsTables}
use Rattle.standing_laws.specs.OtherPages.{KeepsPlaces}
use Rattle.set_standing.specs.Around.{BytesFollow, ChangesSlot, GoesOnAround, StandsAround}
use Rattle.set_standing.specs.Parts.{KeepsAround, Parts, Surroundings, TagsOf, domain_of}
use Rattle.set_standing.proofs.Added.{is_added}
use Rattle.set_standing.proofs.CallsAround.{is_linked, is_made, is_put_in, is_refused}
use Rattle.set_standing.proofs.AroundDirectories.{first_there, index_there, is_live}
use Rattle.set_standing.proofs.IndexAround.{is_put_in as is_inserted, is_written as is_reindexed}
use Rattle.set_standing.proofs.PartsKept.{same_tags}
use Rattle.set_standing.proofs.AroundWritten.{is_written}

module _ (number : ℕ) (version : Version) (born : ℕ) (p q : Parts) where
  slot_changes : (s : Surroundings) (tags tags_now : ℕ → List TagPlace) (list list_now : Listing) → TagsOf number p q tags tags_now → list_now ≡ list → ChangesSlot number (domain_of s tags p list) (domain_of s tags_now q list_now)
  slot_changes s tags tags_now list list_now of same = record { frame = refl; table = refl; list = same; tags = of.others }

  follows : (s : Surroundings) (tags tags_now : ℕ → List TagPlace) (list list_now : Listing) → BytesFollow (domain_of s tags p list) (domain_of s tags_now q list_now)
  follows s tags tags_now list list_now home same = s.alone q.pages p.pages home same

  together_was : (s : Surroundings) (tags tags_now : ℕ → List TagPlace) (list : Listing) → TagsOf number p q tags tags_now → (around : StandsAround number (domain_of s tags p list)) → AreTogether number p.tags p.space p.cells p.pages around.chains
  together_was s tags tags_now list of around = subst (λ (ts : List TagPlace). AreTogether number ts p.space p.cells p.pages around.chains) of.was around.well.together

  pub refused_kept : q.tags ≡ p.tags → q.cells ≡ p.cells → q.pages ≡ p.pages → (q.space ≡ p.space) ⊎ (q.space ≡ missed p.space) → KeepsAround None number version born [] p q
  refused_kept same cells pages space s tags tags_now list list_now v b of adds around =
      is_refused number (domain_of s tags p list) (domain_of s tags_now q list_now) around (slot_changes s tags tags_now list list_now of adds) (follows s tags tags_now list list_now) (of.is ∙ same ∙ sym of.was) cells pages space

  pub made_kept : (tag : Tag) (what : NewFile) (prefer : ℕ) → what.birth ≡ born
      → ((chains : Chains) → AreTogether number p.tags p.space p.cells p.pages chains → Creates number q.tags tag version what chains q.space p.cells q.cells p.pages q.pages)
      → TakesForFile prefer p.tags q.tags p.space q.space p.cells q.cells p.pages → LeavesOtherCells p.cells [] p.pages q.pages → LeavesBeside q.cells q.tags p.pages q.pages → TakesNext tag p.tags q.tags p.pages q.pages → KeepsAround None number version born [] p q
  made_kept tag what prefer birth creates takes others elsewhere next s tags tags_now list list_now v b of adds around =
      is_made number tag what prefer (domain_of s tags p list) (domain_of s tags_now q list_now) around (slot_changes s tags tags_now list list_now of adds) (follows s tags tags_now list list_now) (subst (λ (n : ℕ). n ≤ s.table.made) (sym birth) b)
      (subst (λ (w : Version). Creates number (tags_now number) tag w what around.chains q.space p.cells q.cells p.pages q.pages) (sym v)
      (subst (λ (ts : List TagPlace). Creates number ts tag version what around.chains q.space p.cells q.cells p.pages q.pages) (sym of.is)
      (creates around.chains (together_was s tags tags_now list of around))))
      (subst (λ (ts : List TagPlace). TakesForFile prefer ts (tags_now number) p.space q.space p.cells q.cells p.pages) (sym of.was)
      (subst (λ (ts : List TagPlace). TakesForFile prefer p.tags ts p.space q.space p.cells q.cells p.pages) (sym of.is) takes))
      others (subst (λ (ts : List TagPlace). LeavesBeside q.cells ts p.pages q.pages) (sym of.is) elsewhere)
      (subst (λ (ts : List TagPlace). TakesNext tag ts (tags_now number) p.pages q.pages) (sym of.was) (subst (λ (ts : List TagPlace). TakesNext tag p.tags ts p.pages q.pages) (sym of.is) next))

  pub added_kept : (tag : Tag) (page : ℕ) (bytes : List ℕ) (prefer : ℕ) (set : SetOf) → StandsAsSet number p.tags p.space p.cells p.pages set → IsDirectory set tag → page ≡ count_pages set tag → page < file_pages → q.tags ≡ p.tags
      → ((chains : Chains) → AreTogether number p.tags p.space p.cells p.pages chains → IsSomeAnd (attributes_at chains tag) (AddsPage number p.tags tag page bytes prefer version chains p.space q.space p.cells q.cells p.pages q.pages)) → KeepsAround None number version born [] p q
  added_kept tag page bytes prefer set stood directory last small same added s tags tags_now list list_now v b of adds around =
      is_added number tag page bytes prefer (domain_of s tags p list) (domain_of s tags_now q list_now) around (slot_changes s tags tags_now list list_now of adds) (follows s tags tags_now list list_now) (of.is ∙ same ∙ sym of.was) set
      (subst (λ (ts : List TagPlace). StandsAsSet number ts p.space p.cells p.pages set) (sym of.was) stood) directory last small
      (subst (λ (w : Version). IsSomeAnd (attributes_at around.chains tag) (AddsPage number (tags number) tag page bytes prefer w around.chains p.space q.space p.cells q.cells p.pages q.pages)) (sym v)
      (subst (λ (ts : List TagPlace). IsSomeAnd (attributes_at around.chains tag) (AddsPage number ts tag page bytes prefer version around.chains p.space q.space p.cells q.cells p.pages q.pages)) (sym of.was)
      (added around.chains (together_was s tags tags_now list of around))))

-- ---- calls that change pages alone, and free space

module _ (number : ℕ) (version : Version) (born : ℕ) (p : Parts) (pages : Pages) where
  abbrev with_pages : Parts
  with_pages = record p { pages = pages }

  keeps_places : (s : Surroundings) (tags tags_now : ℕ → List TagPlace) (list list_now : Listing) → TagsOf number p with_pages tags tags_now → list_now ≡ list → KeepsPlaces (domain_of s tags p list) (domain_of s tags_now with_pages list_now)
  keeps_places s tags tags_now list list_now of same = λ i. domain_of s (same_tags number p with_pages tags tags_now of refl i) with_pages (same i)

  files_was : (s : Surroundings) (tags tags_now : ℕ → List TagPlace) (list : Listing) → TagsOf number p with_pages tags tags_now → (around : StandsAround number (domain_of s tags p list)) → AreTogether number p.tags p.space p.cells p.pages around.chains
  files_was s tags tags_now list of around = subst (λ (ts : List TagPlace). AreTogether number ts p.space p.cells p.pages around.chains) of.was around.well.together

  pub linked_kept : (tag : Tag) (links : ℕ) → 1 ≤ links → links ≤ max_links → ((chains : Chains) → AreFiles number p.tags p.pages chains → ChangesFirst (chains tag) p.pages pages)
      → ((chains : Chains) → AreTogether number p.tags p.space p.cells p.pages chains
      → IsSomeAnd (option_and_then (of_live attributes_of) (chains tag)) (λ was. AreTogether number p.tags p.space p.cells pages (with_chain tag (with_first (says_attributes (record was { links = links }))) chains))) → KeepsAround None number version born [] p with_pages
  linked_kept tag links named most changes says s tags tags_now list list_now v b of adds around = by_attributes (attributes_at around.chains tag) refl (says around.chains was)
    where
      was : AreTogether number p.tags p.space p.cells p.pages around.chains
      was = files_was s tags tags_now list of around

      by_attributes : (o : Option Attributes) → attributes_at around.chains tag ≡ o → IsSomeAnd o (λ a. AreTogether number p.tags p.space p.cells pages (with_chain tag (with_first (says_attributes (record a { links = links }))) around.chains))
          → GoesOnAround None number (domain_of s tags p list) (domain_of s tags_now with_pages list_now)
      by_attributes None is together = absurd together
      by_attributes (Some a) is together =
          is_linked number tag (domain_of s tags p list) (domain_of s tags_now with_pages list_now) around (keeps_places s tags tags_now list list_now of adds) (λ home same. s.alone pages p.pages home same) (changes around.chains was.files) a links is named most
          (subst (λ (ts : List TagPlace). AreTogether number ts p.space p.cells pages (with_chain tag (with_first (says_attributes (record a { links = links }))) around.chains)) (sym of.was) together)

  pub put_in_kept : (tag parent : Tag) (set : SetOf) → StandsAsSet number p.tags p.space p.cells p.pages set → IsDirectory set tag → ((chains : Chains) → AreFiles number p.tags p.pages chains → ChangesFirst (chains tag) p.pages pages)
      → ((chains : Chains) → AreTogether number p.tags p.space p.cells p.pages chains → AreTogether number p.tags p.space p.cells pages (with_chain tag (with_first (says_parent parent)) chains)) → KeepsAround (Some (tag, parent)) number version born [] p with_pages
  put_in_kept tag parent set stood directory changes says s tags tags_now list list_now v b of adds around =
      let was = files_was s tags tags_now list of around in
      is_put_in number tag (domain_of s tags p list) (domain_of s tags_now with_pages list_now) around (keeps_places s tags tags_now list list_now of adds) (λ home same. s.alone pages p.pages home same) (changes around.chains was.files) parent
      (is_live number (domain_of s tags p list) around set (subst (λ (ts : List TagPlace). StandsAsSet number ts p.space p.cells p.pages set) (sym of.was) stood) tag directory)
      (subst (λ (ts : List TagPlace). AreTogether number ts p.space p.cells pages (with_chain tag (with_first (says_parent parent)) around.chains)) (sym of.was) (says around.chains was))

  pub written_kept : (tag : Tag) (page : ℕ) (set : SetOf) → StandsAsSet number p.tags p.space p.cells p.pages set → IsDirectory set tag → ((chains : Chains) → AreFiles number p.tags p.pages chains → (home : Home) → ¬ place_at chains tag page ≡ At home → pages home ≡ p.pages home) → KeepsAround None number version born [] p with_pages
  written_kept tag page set stood directory elsewhere s tags tags_now list list_now v b of adds around =
      is_written number tag page (domain_of s tags p list) (domain_of s tags_now with_pages list_now) around (keeps_places s tags tags_now list list_now of adds) (λ home same. s.alone pages p.pages home same)
      (is_live number (domain_of s tags p list) around set (subst (λ (ts : List TagPlace). StandsAsSet number ts p.space p.cells p.pages set) (sym of.was) stood) tag directory)
      (elsewhere around.chains (files_was s tags tags_now list of around).files)

  pub reindexed_kept : (tag : Tag) (page : ℕ) (bytes : List ℕ) (set : SetOf) → StandsAsSet number p.tags p.space p.cells p.pages set → IsDirectory set tag
      → ((chains : Chains) (homes : List Home) → AreTogether number p.tags p.space p.cells p.pages chains → AreIndexHomes p.pages (option_and_then index_of (chains tag)) homes → WritesIndexPage number p.tags p.space p.cells tag page bytes chains homes p.pages pages)
      → KeepsAround None number version born [] p with_pages
  reindexed_kept tag page bytes set stood directory writes s tags tags_now list list_now v b of adds around =
      let d = domain_of s tags p list in
      let stood_there = subst (λ (ts : List TagPlace). StandsAsSet number ts p.space p.cells p.pages set) (sym of.was) stood in
      let h = first_there number d around set stood_there tag directory in
      is_reindexed number tag h.first.at page bytes d (domain_of s tags_now with_pages list_now) around (keeps_places s tags tags_now list list_now of adds) (λ home same. s.alone pages p.pages home same) (ap (option_and_then start_of) h.is)
      (subst (λ (ts : List TagPlace). WritesIndexPage number ts p.space p.cells tag page bytes around.chains (around.indexes h.first.at) p.pages pages) (sym of.was)
      (writes around.chains (around.indexes h.first.at) (files_was s tags tags_now list of around) (index_there number d around set stood_there tag directory)))

  module _ (space : Spaces) where
    abbrev with_space : Parts
    with_space = record p { pages = pages; space = space }

    keeps_tables : (s : Surroundings) (tags tags_now : ℕ → List TagPlace) (list list_now : Listing) → TagsOf number p with_space tags tags_now → list_now ≡ list → KeepsTables (domain_of s tags p list) (domain_of s tags_now with_space list_now)
    keeps_tables s tags tags_now list list_now of same = λ i. domain_of s (same_tags number p with_space tags tags_now of refl i) with_space (same i)

    pub inserted_kept : (tag : Tag) (place prefer : ℕ) (bytes : List ℕ) (set : SetOf) → StandsAsSet number p.tags p.space p.cells p.pages set → IsDirectory set tag
        → ((chains : Chains) (homes : List Home) → AreTogether number p.tags p.space p.cells p.pages chains → AreIndexHomes p.pages (option_and_then index_of (chains tag)) homes
        → AddsIndexPage number p.tags p.cells tag place bytes prefer chains homes p.space space p.pages pages) → KeepsAround None number version born [] p with_space
    inserted_kept tag place prefer bytes set stood directory added s tags tags_now list list_now v b of adds around =
        let d = domain_of s tags p list in
        let stood_there = subst (λ (ts : List TagPlace). StandsAsSet number ts p.space p.cells p.pages set) (sym of.was) stood in
        let h = first_there number d around set stood_there tag directory in
        let was = subst (λ (ts : List TagPlace). AreTogether number ts p.space p.cells p.pages around.chains) of.was around.well.together in
        is_inserted number tag h.first.at place prefer bytes d (domain_of s tags_now with_space list_now) around (keeps_tables s tags tags_now list list_now of adds) (λ home same. s.alone pages p.pages home same) (ap (option_and_then start_of) h.is)
        (subst (λ (ts : List TagPlace). AddsIndexPage number ts p.cells tag place bytes prefer around.chains (around.indexes h.first.at) p.space space p.pages pages) (sym of.was)
        (added around.chains (around.indexes h.first.at) was (index_there number d around set stood_there tag directory)))
