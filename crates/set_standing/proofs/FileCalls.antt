-- The calls that change one file of a slot, and no name, whatever the domain is called then.
use Rattle.std.proofs.Common.{◌≡◌, ◌∙◌, ◌⊎◌, ℕ, Bool, true, false, cond, List, ◌∷◌, Option, Some, None, IsSome, IsSomeAnd, refl, sym, ap, subst, ⊎_elim}
use Rattle.std.specs.Option.{option_and_then, option_map}
use Rattle.standing_laws.specs.domain_base.declared.place.CellAt.{CellAt}
use Rattle.standing_laws.specs.domain_base.declared.place.Home.{Home}
use Rattle.standing_laws.specs.domain_base.declared.place.Kind.TheVariants.{File}
use Rattle.standing_laws.specs.domain_base.declared.place.Tag.{Tag}
use Rattle.standing_laws.specs.cell_records.declared.record.Record.{Record}
use Rattle.standing_laws.specs.metadata_cells.Cell.{record_of}
use Rattle.standing_laws.specs.metadata_cells.Chain.{PlacedCell}
use Rattle.standing_laws.specs.extent_maps.declared.run.PagePlace.TheVariants.{Absent, At}
use Rattle.standing_laws.specs.file_chains.Files.{places_of}
use Rattle.standing_laws.specs.fileset_files.declared.attributes.Attributes.{Attributes}
use Rattle.standing_laws.specs.fileset_files.Changes.{CanSay, ChangesFirst, says_attributes, with_chain, with_first}
use Rattle.standing_laws.specs.fileset_files.Files.{attributes_of, is_removed, of_live, place_at}
use Rattle.standing_laws.specs.fileset_files.State.{FileState, state_of}
use Rattle.standing_laws.specs.fileset_files.Together.{AreTogether}
use Rattle.standing_laws.specs.fileset_files.Truncation.{IsLowered, pending_cell, says_truncated}
use Rattle.standing_laws.specs.fileset_files.States.{cut, described, is_removing, placed}
use Rattle.standing_laws.specs.stored_set.Sets.{GetsPage, attributes_at}
use Rattle.standing_laws.proofs.OfStoredSet.Lengthened.{can_say}
use Rattle.standing_laws.specs.release_list.Listing.{Adds, Listing}
use Rattle.standing_laws.proofs.OfReleaseList.Spread.{none_not, some_same}
use Rattle.standing_laws.specs.domain_standing.Domain.{DomainNow}
use Rattle.standing_laws.proofs.OfDomainLayout.Reached.{same_number}
use Rattle.standing_laws.specs.Leads.{IsLiveOf}
use Rattle.standing_laws.specs.OtherPages.{KeepsPlaces}
use Rattle.set_standing.specs.Around.{BytesFollow, ChangesSlot, StandsAround}
use Rattle.set_standing.specs.Beside.{ChangesOneFile}
use Rattle.set_standing.proofs.CallsAround.{HasFirst, first_of}
use Rattle.set_standing.proofs.FileGiven.{page_given}
use Rattle.set_standing.proofs.FilePage.{page_put}
use Rattle.set_standing.proofs.FileCut.{cut_listed}
use Rattle.set_standing.proofs.FileSaid.{h, is_cut, is_described, mine}
use Rattle.set_standing.proofs.FileShown.{IsShownAlike, says_state}

-- what a live file is, by its state
live_is : (cells : List PlacedCell) (was : Attributes) (state : FileState) → of_live attributes_of cells ≡ Some was → state_of cells ≡ Some state → was ≡ state.attributes
live_is cells was state live is = by_removed (is_removed cells) (attributes_of cells) live (says_state cells state is).attributes
  where
    by_removed : (b : Bool) (o : Option Attributes) → cond b None o ≡ Some was → o ≡ Some state.attributes → was ≡ state.attributes
    by_removed true o live is = absurd (none_not was live)
    by_removed false o live is = some_same was state.attributes (sym live ∙ is)

-- ---- another size, and another flag

module _ (number : ℕ) (tag : Tag) (was : Attributes) (size : ℕ) (flag : Bool) (d now : DomainNow) (around : StandsAround number d) (same : KeepsPlaces d now) (bytes : BytesFollow d now) (is : attributes_at around.chains tag ≡ Some was) (file : was.kind ≡ File) (changes : ChangesFirst (around.chains tag) d.pages now.pages)
    (together : AreTogether number (d.tags number) d.space d.cells now.pages (with_chain tag (with_first (says_attributes (record was { size = size; is_logged = flag }))) around.chains))
  where
    abbrev value : Attributes
    value = record was { size = size; is_logged = flag }

    said_bytes : BytesFollow d (record d { pages = now.pages; contents = now.contents })
    said_bytes home still = bytes home still

    said_live : IsLiveOf File (around.chains tag)
    said_live = subst (λ o. IsSomeAnd o (λ (a : Attributes). a.kind ≡ File)) (sym is) file

    abbrev said_cells : List PlacedCell
    said_cells = mine number tag d around now.pages now.contents said_bytes changes said_live

    can : CanSay value tag around.chains
    can =
        let fit = can_say number (d.tags number) d.pages around.chains around.well.together.files tag was is 0 in
        record { kind = subst (λ o. IsSomeAnd o (λ (w : Attributes). w.kind ≡ value.kind)) (sym is) refl; named = fit.named; most = fit.most }

    alike : (state : FileState) → state_of said_cells ≡ Some state → IsShownAlike state (described value state)
    alike state there =
        let cells_are = (h number tag d around now.pages now.contents said_bytes changes said_live).is in
        let said : was ≡ state.attributes = live_is said_cells was state (sym (ap (option_and_then (of_live attributes_of)) cells_are) ∙ is) there in
        record {
          kind = ap (λ (a : Attributes). a.kind) said;
          uid = ap (λ (a : Attributes). a.uid) said;
          gid = ap (λ (a : Attributes). a.gid) said;
          links = ap (λ (a : Attributes). a.links) said;
          removing = refl;
          index = refl;
        }

    pub described_again : ChangesOneFile number tag (described value) (λ page. ⊥) around.chains d now
    described_again =
        subst (ChangesOneFile number tag (described value) (λ page. ⊥) around.chains d) (sym same)
        (is_described number tag d around now.pages now.contents said_bytes changes said_live value can alike together)

-- ---- a page is put in place

pub put_again : (number : ℕ) (tag : Tag) (page : ℕ) (d now : DomainNow) → (around : StandsAround number d) → KeepsPlaces d now → BytesFollow d now → IsLiveOf File (around.chains tag)
    → ((home : Home) → ¬ place_at around.chains tag page ≡ At home → now.pages home ≡ d.pages home) → ChangesOneFile number tag (λ (state : FileState). state) (λ k. k ≡ page) around.chains d now
put_again number tag page d now around same bytes live elsewhere =
    subst (ChangesOneFile number tag (λ (state : FileState). state) (λ k. k ≡ page) around.chains d) (sym same)
    (page_put number tag page d around now.pages now.contents elsewhere (it.first ∷ it.rest) it.is (λ home still. bytes home still) (subst (IsLiveOf File) it.is live))
  where
    it : HasFirst around.chains tag
    it = first_of number d around tag (λ (w : Attributes). w.kind ≡ File) live

-- ---- a page is given

pub given_again : (number : ℕ) (tag : Tag) (page : ℕ) (bytes : List ℕ) (prefer : ℕ) (d now : DomainNow) (chain : List PlacedCell) → (around : StandsAround number d) → ChangesSlot number d now → BytesFollow d now → now.tags number ≡ d.tags number
    → IsLiveOf File (around.chains tag) → around.chains tag ≡ Some chain → places_of chain page ≡ Absent
    → (gets : GetsPage number (d.tags number) tag page bytes prefer d.frame.version around.chains d.space now.space d.cells now.cells d.pages now.pages chain)
    → ChangesOneFile number tag (placed page (At gets.home)) (λ k. ⊥) around.chains d now
given_again number tag page bytes prefer d now chain around changes follow same_tags live is absent gets =
    subst (ChangesOneFile number tag (placed page (At gets.home)) (λ k. ⊥) around.chains d) (sym same)
    (page_given number tag page bytes prefer d around now.pages now.contents now.space now.cells chain is absent gets (λ home still. follow home still) (subst (IsLiveOf File) is live))
  where
    tags_same : now.tags ≡ d.tags
    tags_same = λ i n. each n i
      where
        each : (n : ℕ) → now.tags n ≡ d.tags n
        each n = ⊎_elim
            (λ here. subst (λ (k : ℕ). now.tags k ≡ d.tags k) (sym here) same_tags)
            (λ differ. changes.tags n differ)
            (same_number n number)

    same : now ≡ record d { pages = now.pages; contents = now.contents; space = now.space; cells = now.cells }
    same = λ i. record {
      frame = changes.frame i;
      table = changes.table i;
      tags = tags_same i;
      pages = now.pages;
      contents = now.contents;
      space = now.space;
      cells = now.cells;
      list = changes.list i;
    }

-- ---- a file is cut

-- a set shows the same of it
cut_alike : (cells : List PlacedCell) (size : ℕ) (lowered : Option ℕ) → IsLiveOf File (Some cells) → (state : FileState) → state_of cells ≡ Some state → IsShownAlike state (cut size lowered state)
cut_alike cells size None live state is = record { kind = refl; uid = refl; gid = refl; links = refl; removing = refl; index = refl }
cut_alike cells size (Some keep) live state is = record { kind = refl; uid = refl; gid = refl; links = refl; removing = by_removed (is_removed cells) live (says_state cells state is).removed; index = refl }
  where
    by_removed : (b : Bool) → IsSomeAnd (cond b None (attributes_of cells)) (λ (a : Attributes). a.kind ≡ File) → b ≡ is_removing state.pending → false ≡ is_removing state.pending
    by_removed true live is = absurd live
    by_removed false live is = is

module _ (number : ℕ) (tag : Tag) (size : ℕ) (d now : DomainNow) (around : StandsAround number d) (same : KeepsPlaces d now) (bytes : BytesFollow d now) (live : IsLiveOf File (around.chains tag)) (changes : ChangesFirst (around.chains tag) d.pages now.pages) where
  follow : BytesFollow d (record d { pages = now.pages; contents = now.contents })
  follow home still = bytes home still

  abbrev cells : List PlacedCell
  cells = mine number tag d around now.pages now.contents follow changes live

  live_too : IsLiveOf File (Some cells)
  live_too = subst (IsLiveOf File) (h number tag d around now.pages now.contents follow changes live).is live

  pub cut_again : IsSomeAnd (around.chains tag) (λ chain. IsLowered size chain None) → AreTogether number (d.tags number) d.space d.cells now.pages (with_chain tag (with_first (says_truncated size None)) around.chains)
      → ChangesOneFile number tag (cut size None) (λ page. ⊥) around.chains d now
  cut_again lowered together =
      subst (ChangesOneFile number tag (cut size None) (λ page. ⊥) around.chains d) (sym same)
      (is_cut number tag d around now.pages now.contents follow changes live size lowered (cut_alike cells size None live_too) together)

  pub cut_listed_again : (lowered : Option ℕ) (at : CellAt) (listed : Listing) → IsSomeAnd (around.chains tag) (λ chain. IsLowered size chain lowered)
      → AreTogether number (d.tags number) d.space d.cells now.pages (with_chain tag (with_first (says_truncated size lowered)) around.chains)
      → IsSomeAnd (around.chains tag) (λ chain. Some at ≡ pending_cell (with_first (says_truncated size lowered) chain)) → Adds at None d.list.entries listed.entries → listed.tag_pages ≡ d.list.tag_pages
      → ChangesOneFile number tag (cut size lowered) (λ page. ⊥) around.chains d (record now { list = listed })
  cut_listed_again lowered at listed stale together pending adds same_pages =
      subst (λ (x : DomainNow). ChangesOneFile number tag (cut size lowered) (λ page. ⊥) around.chains d (record x { list = listed })) (sym same)
      (cut_listed number tag d around now.pages now.contents follow changes live size lowered stale together (cut_alike cells size lowered live_too) listed here.0
      (subst (λ (a : CellAt). Adds a None d.list.entries listed.entries) here.1 adds) same_pages)
    where
      by_record : (o : Option Record) → Some at ≡ option_map (λ _. (h number tag d around now.pages now.contents follow changes live).first.at) o → IsSome o × (at ≡ (h number tag d around now.pages now.contents follow changes live).first.at)
      by_record None is = absurd (none_not at (sym is))
      by_record (Some r) is = (refl, some_same at (h number tag d around now.pages now.contents follow changes live).first.at is)

      here : IsSome (record_of 6 (says_truncated size lowered (h number tag d around now.pages now.contents follow changes live).first.cell).records) × (at ≡ (h number tag d around now.pages now.contents follow changes live).first.at)
      here = by_record (record_of 6 (says_truncated size lowered (h number tag d around now.pages now.contents follow changes live).first.cell).records)
          (subst (λ o. IsSomeAnd o (λ chain. Some at ≡ pending_cell (with_first (says_truncated size lowered) chain))) (h number tag d around now.pages now.contents follow changes live).is pending)
