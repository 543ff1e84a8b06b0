-- A domain stands on around a slot where the first cell of a file says something else of it.
use Rattle.std.proofs.Common.{◌≡◌, ◌∙◌, ℕ, List, ◌∷◌, Some, None, IsSomeAnd, Contains, refl, sym, ap, subst}
use Rattle.std.specs.Option.{option_and_then, option_map, option_map_or}
use Rattle.standing_laws.specs.domain_base.declared.place.Home.{Home}
use Rattle.standing_laws.specs.domain_base.declared.place.Kind.TheVariants.{File}
use Rattle.standing_laws.specs.domain_base.declared.place.Tag.{Tag}
use Rattle.standing_laws.specs.page_store.Bitfiles.{Bitfiles}
use Rattle.standing_laws.specs.page_store.Pages.{Pages}
use Rattle.standing_laws.specs.metadata_cells.Cell.{Cell}
use Rattle.standing_laws.specs.metadata_cells.Chain.{PlacedCell}
use Rattle.standing_laws.specs.extent_maps.declared.run.PagePlace.TheVariants.{Absent, At}
use Rattle.standing_laws.specs.file_chains.Files.{AreFile, places_of}
use Rattle.standing_laws.specs.fileset_files.declared.attributes.Attributes.{Attributes}
use Rattle.standing_laws.specs.fileset_files.Changes.{CanSay, ChangesFirst, says_attributes, with_chain, with_first}
use Rattle.standing_laws.specs.fileset_files.Files.{Chains, place_at}
use Rattle.standing_laws.specs.fileset_files.State.{FileState, state_of}
use Rattle.standing_laws.specs.fileset_files.Together.{AreTogether}
use Rattle.standing_laws.specs.fileset_files.Truncation.{IsLowered, says_truncated}
use Rattle.standing_laws.proofs.OfFilesetFiles.Created.{one_chains}
use Rattle.standing_laws.proofs.OfFilesetFiles.OneChain.{chain_other, chain_same, same_tag_itself}
use Rattle.standing_laws.specs.fileset_files.States.{cut as cut_state, described as described_state}
use Rattle.standing_laws.proofs.OfFilesetFiles.FirstCells.{attributes_said, size_said}
use Rattle.standing_laws.proofs.OfFilesetFiles.Parts.{file_at}
use Rattle.standing_laws.proofs.OfStoredSet.FirstTells.{off_tables_still}
use Rattle.standing_laws.specs.stored_set.Sets.{StandsAsSet}
use Rattle.standing_laws.specs.release_list.Listing.{Listing}
use Rattle.standing_laws.specs.release_list.Standing.{Files, with_file}
use Rattle.standing_laws.specs.release_steps.Calls.{Call, cut, described}
use Rattle.standing_laws.specs.domain_layout.Filled.{Contents}
use Rattle.standing_laws.specs.domain_standing.Domain.{DomainNow}
use Rattle.standing_laws.specs.Leads.{IsLiveOf, fileset_now}
use Rattle.set_standing.specs.Around.{BytesFollow, ChangesSlot, StandsAround}
use Rattle.set_standing.specs.Beside.{ChangesOneFile, StaysBeside}
use Rattle.set_standing.proofs.CallsAround.{HasFirst, first_of, sets}
use Rattle.set_standing.proofs.FileShown.{HasState, IsShownAlike, live_alike, says_state, shown_again, state_there}
use Rattle.set_standing.proofs.Led.{around_now, leads}
use Rattle.set_standing.proofs.LedBeside.{beside_led, own_page}

state_place : (cells : List PlacedCell) (state : FileState) → state_of cells ≡ Some state → (page : ℕ) → state.places page ≡ places_of cells page
state_place cells state is page = sym ((says_state cells state is).places page)

module _ (number : ℕ) (tag : Tag) (d : DomainNow) (around : StandsAround number d) (pages : Pages) (contents : Contents) where
  abbrev now : DomainNow
  now = record d { pages = pages; contents = contents }

  same_slot : ChangesSlot number d now
  same_slot = record { frame = refl; table = refl; list = refl; tags = λ other differ. refl }

  module _ (bytes : BytesFollow d now) (changes : ChangesFirst (around.chains tag) d.pages pages) (live : IsLiveOf File (around.chains tag)) where
    pub h : HasFirst around.chains tag
    h = first_of number d around tag (λ (w : Attributes). w.kind ≡ File) live

    abbrev pub mine : List PlacedCell
    mine = h.first ∷ h.rest

    pub its_file : AreFile d.pages h.first h.rest
    its_file = (file_at number (d.tags number) d.pages around.chains around.well.together.files tag mine h.is).is_file.1

    had : HasState mine
    had = state_there File mine (subst (IsLiveOf File) h.is live)

    module _ (says : Cell → Cell) where
      abbrev pub said_chains : Chains
      said_chains = with_chain tag (with_first says) around.chains

      abbrev pub said_files : Files
      said_files = with_file h.first.at (Some (with_first says mine)) around.files

    module _ (says : Cell → Cell) (how : FileState → FileState) (said : state_of (with_first says mine) ≡ option_map how (state_of mine)) (alike : (state : FileState) → state_of mine ≡ Some state → IsShownAlike state (how state))
        (same_places : (state : FileState) (page : ℕ) → (how state).places page ≡ state.places page) (together : AreTogether number (d.tags number) d.space d.cells pages (with_chain tag (with_first says) around.chains)) where
      said_tag : said_chains says tag ≡ Some (with_first says mine)
      said_tag = chain_same tag (with_first says) around.chains tag (same_tag_itself tag) ∙ ap (option_map (with_first says)) h.is

      now_state : state_of (with_first says mine) ≡ Some (how had.state)
      now_state = said ∙ ap (option_map how) had.is

      -- a page of an index, or of a file, is off the tables
      off_same : (home : Home) (t : Tag) (k : ℕ) → place_at around.chains t k ≡ At home → pages home ≡ d.pages home
      off_same home t k at = off_tables_still d.cells (around.chains tag) d.pages pages (around.well.together.on_tables tag) changes home (around.well.together.file_pages t k home at).apart.off_table

      module _ (shown : Bitfiles) (was : StandsAsSet number (d.tags number) d.space d.cells d.pages shown) where
        same_chains : around.chains ≡ was.chains
        same_chains = λ i t. one_chains d.pages number (d.tags number) around.chains was.chains around.well.together.files was.stands.together.files t i

        index_off : (t : Tag) (home : Home) → Contains (was.indexes t) home → pages home ≡ d.pages home
        index_off t home inside = off_tables_still d.cells (around.chains tag) d.pages pages (around.well.together.on_tables tag) changes home (was.stands.stand t home inside).apart.off_table

        -- where its pages stand is what it was
        place_was : (k : ℕ) (home : Home) → place_at (said_chains says) tag k ≡ At home → place_at was.chains tag k ≡ At home
        place_was k home at =
            ap (λ (c : Chains). place_at c tag k) (sym same_chains)
            ∙ ap (λ o. option_map_or (λ cs. places_of cs k) o Absent) h.is
            ∙ sym (state_place mine had.state had.is k)
            ∙ sym (same_places had.state k)
            ∙ state_place (with_first says mine) (how had.state) now_state k
            ∙ sym (ap (λ o. option_map_or (λ cs. places_of cs k) o Absent) said_tag)
            ∙ at

        set_now : StandsAsSet number (d.tags number) d.space d.cells pages shown
        set_now = shown_again number (d.tags number) d.space d.space d.cells d.cells d.pages pages shown was tag mine (with_first says mine) (said_chains says)
            (ap (λ (c : Chains). c tag) (sym same_chains) ∙ h.is) said_tag (λ t differ. chain_other tag (with_first says) around.chains t differ ∙ ap (λ (c : Chains). c t) same_chains) (subst (IsLiveOf File) h.is live)
            had.state (how had.state) had.is now_state (alike had.state had.is)
            (λ t k home differ at. off_same home t k (ap (λ (c : Chains). place_at c t k) same_chains ∙ at)) index_off together was.stands.stand
            (λ s k home inside at. was.stands.apart s tag k home inside (place_was k home at))

      -- whatever the domain lists then
      pub file_said : (listed : Listing) → StandsAround number (record now { list = listed }) → StaysBeside number d (record now { list = listed }) → ((t : Tag) (page : ℕ) (home : Home) → place_at around.chains t page ≡ At home → pages home ≡ d.pages home)
          → ChangesOneFile number tag how (λ k. ⊥) around.chains d (record now { list = listed })
      file_said listed around_then beside own_pages = record {
        around = around_then;
        beside = beside;
        chains_now = said_chains says;
        are = together.files;
        state = record {
          others = chain_other tag (with_first says) around.chains;
          own = ap (option_and_then state_of) said_tag ∙ said ∙ sym (ap (λ o. option_map how (option_and_then state_of o)) h.is);
        };
        live = subst (IsLiveOf File) (sym said_tag) (live_alike File mine (with_first says mine) had.state (how had.state) had.is now_state (alike had.state had.is) (subst (IsLiveOf File) h.is live));
        pages = λ t page home differ at. own_pages t page home at;
        bytes = record {
          others = λ t page home differ at. bytes home (own_pages t page home at);
          own = λ page home no at. bytes home (own_pages tag page home at);
        };
        set = set_now;
      }

    -- ---- what it is

    pub is_described : (value : Attributes) → CanSay value tag around.chains → ((state : FileState) → state_of mine ≡ Some state → IsShownAlike state (described_state value state))
        → AreTogether number (d.tags number) d.space d.cells pages (with_chain tag (with_first (says_attributes value)) around.chains) → ChangesOneFile number tag (described_state value) (λ k. ⊥) around.chains d now
    is_described value can alike together =
        let says = says_attributes value in
        let call : Call number d.frame.version tag (fileset_now d number around.chains around.files) (fileset_now now number (said_chains says) (said_files says)) = described value (sets number tag d now around refl bytes changes says h together) in
        let led = leads number tag d now around same_slot (said_chains says) (said_files says) call can tt in
        file_said says (described_state value) (attributes_said d.pages h.first h.rest its_file value) alike (λ state page. refl) together d.list
        (around_now number tag d now around same_slot (said_chains says) (said_files says) call can tt) (beside_led number tag d now around (said_chains says) (said_files says) led bytes refl)
        (own_page number tag d now around (said_chains says) (said_files says) led)

    -- its size, where none of its pages is stale then
    pub is_cut : (size : ℕ) → IsSomeAnd (around.chains tag) (λ chain. IsLowered size chain None) → ((state : FileState) → state_of mine ≡ Some state → IsShownAlike state (cut_state size None state))
        → AreTogether number (d.tags number) d.space d.cells pages (with_chain tag (with_first (says_truncated size None)) around.chains) → ChangesOneFile number tag (cut_state size None) (λ k. ⊥) around.chains d now
    is_cut size lowered alike together =
        let says = says_truncated size None in
        let call : Call number d.frame.version tag (fileset_now d number around.chains around.files) (fileset_now now number (said_chains says) (said_files says)) = cut size None (sets number tag d now around refl bytes changes says h together) in
        let led = leads number tag d now around same_slot (said_chains says) (said_files says) call lowered refl in
        file_said says (cut_state size None) (size_said d.pages h.first h.rest its_file size None) alike (λ state page. refl) together d.list
        (around_now number tag d now around same_slot (said_chains says) (said_files says) call lowered refl) (beside_led number tag d now around (said_chains says) (said_files says) led bytes refl)
        (own_page number tag d now around (said_chains says) (said_files says) led)
