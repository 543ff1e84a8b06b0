-- A domain stands on around a slot where a directory gets a page behind its last one.
use Rattle.std.proofs.Common.{◌≡◌, ◌∙◌, ℕ, ◌+◌, ◌<◌, ◌≤◌, true, false, cond, List, [], ◌∷◌, Option, Some, None, IsSomeAnd, Contains, refl, sym, ap, subst, ⊎_elim}
use Rattle.std.proofs.lemmas.Bool.{eq-eqb, false_from_ne_true}
use Rattle.std.proofs.lemmas.List.{append-nil}
use Rattle.std.specs.Option.{option_and_then, option_map, option_map_or}
use Rattle.standing_laws.specs.domain_base.Limits.{file_pages}
use Rattle.standing_laws.specs.domain_base.declared.place.CellAt.{CellAt}
use Rattle.standing_laws.specs.domain_base.declared.place.Home.{Home}
use Rattle.standing_laws.specs.domain_base.declared.place.Kind.TheVariants.{Directory}
use Rattle.standing_laws.specs.domain_base.declared.place.Tag.{Tag}
use Rattle.standing_laws.specs.page_store.Bitfiles.{Bitfiles as SetOf, IsDirectory, count_pages, same_tag}
use Rattle.standing_laws.specs.page_store.Pages.{Pages, same_home}
use Rattle.standing_laws.specs.metadata_cells.Chain.{PlacedCell}
use Rattle.standing_laws.proofs.OfMetadataCells.Changed.{homes_same}
use Rattle.standing_laws.specs.tag_dirs.Directory.{has_home as has_home_in}
use Rattle.standing_laws.specs.extent_maps.declared.run.PagePlace.TheVariants.{Absent, At}
use Rattle.standing_laws.specs.free_cells.Cells.{Cells, table_of}
use Rattle.standing_laws.specs.free_space.Spaces.{Spaces}
use Rattle.standing_laws.specs.file_chains.Files.{places_of}
use Rattle.standing_laws.specs.fileset_files.declared.attributes.Attributes.{Attributes}
use Rattle.standing_laws.specs.fileset_files.Changes.{CanSay, ChangesFirst, says_attributes, with_chain, with_first}
use Rattle.standing_laws.specs.fileset_files.Files.{Chains, attributes_of, of_live, place_at}
use Rattle.standing_laws.specs.fileset_files.State.{FileState, state_of}
use Rattle.standing_laws.specs.fileset_files.Together.{AreTogether}
use Rattle.standing_laws.proofs.OfFilesetFiles.Created.{one_chains}
use Rattle.standing_laws.proofs.OfFilesetFiles.OneChain.{chain_same, same_tag_itself, tag_after}
use Rattle.standing_laws.specs.fileset_files.States.{described as described_state, placed}
use Rattle.standing_laws.proofs.OfFilesetFiles.FirstCells.{attributes_said}
use Rattle.standing_laws.proofs.OfFilesetFiles.Parts.{file_at}
use Rattle.standing_laws.proofs.OfFilesetFiles.Placed.{page_placed}
use Rattle.standing_laws.specs.stored_set.Sets.{AddsPage, GetsPage, StandsAsSet, attributes_at, long, with_length}
use Rattle.standing_laws.proofs.OfStoredSet.Lengthened.{can_say, may_grow_any}
use Rattle.standing_laws.specs.release_list.Standing.{Files, place_in, with_file}
use Rattle.standing_laws.proofs.OfReleaseList.Spread.{some_same}
use Rattle.standing_laws.proofs.OfReleaseList.Standings.{file_other, low_home}
use Rattle.standing_laws.specs.release_steps.Calls.{Call, PutsPage, described, given}
use Rattle.standing_laws.specs.release_steps.Tags.{start_of}
use Rattle.standing_laws.proofs.OfReleaseSteps.Tags.{IsNamed, named}
use Rattle.standing_laws.specs.domain_layout.Filled.{Contents}
use Rattle.standing_laws.specs.domain_layout.Seen.{SeenFile, seen_in}
use Rattle.standing_laws.proofs.OfDomainLayout.Reached.{same_number}
use Rattle.set_standing.specs.Nodes.{seen_of}
use Rattle.standing_laws.specs.domain_standing.Domain.{DomainNow}
use Rattle.standing_laws.specs.domain_standing.Holders.Holder.{of_file}
use Rattle.standing_laws.specs.Leads.{IsLiveOf, fileset_now}
use Rattle.standing_laws.proofs.IndexWas.{off_first}
use Rattle.standing_laws.proofs.OtherSlots.{seen_place}
use Rattle.standing_laws.proofs.TablesTaken.{unheld_taken}
use Rattle.set_standing.specs.Around.{BytesFollow, ChangesSlot, GoesOnAround, StandsAround}
use Rattle.set_standing.specs.Follow.{ComesFrom, FilesFollow}
use Rattle.set_standing.proofs.CallsAround.{HasFirst, first_of, sets}
use Rattle.set_standing.proofs.AroundDirectories.{is_live, live_said, live_still}
use Rattle.set_standing.proofs.FilesKept.{IsSameDirectory, KeepsBytesOf, comes_directory_changed, parent_kept, seen_directory, seen_says}
use Rattle.set_standing.proofs.Following.{chain_changed, kept_sequences, other_begins, same_sequences}
use Rattle.set_standing.proofs.Joined.{joined}
use Rattle.set_standing.proofs.Led.{KeepsOthers, around_now, follow as files_of_call, led, led_as, other_page}
use Rattle.set_standing.proofs.AroundWritten.{is_written}

-- nothing changes but pages, their bytes, free space and cells
same_rest : (number : ℕ) (d now : DomainNow) → ChangesSlot number d now → now.tags number ≡ d.tags number → now ≡ record d { pages = now.pages; contents = now.contents; space = now.space; cells = now.cells }
same_rest number d now changes same_tags = λ i. record {
  frame = changes.frame i;
  table = changes.table i;
  tags = tags_same i;
  pages = now.pages;
  contents = now.contents;
  space = now.space;
  cells = now.cells;
  list = changes.list i;
}
  where
    tags_same : now.tags ≡ d.tags
    tags_same = λ i n. each n i
      where
        each : (n : ℕ) → now.tags n ≡ d.tags n
        each n = ⊎_elim
            (λ same. subst (λ (k : ℕ). now.tags k ≡ d.tags k) (sym same) same_tags)
            (λ differ. changes.tags n differ)
            (same_number n number)

module _ (number : ℕ) (tag : Tag) (page : ℕ) (bytes : List ℕ) (prefer : ℕ) (d : DomainNow) (around : StandsAround number d) (pages : Pages) (contents : Contents) (space : Spaces) (cells : Cells) (set : SetOf) (stood : StandsAsSet number (d.tags number) d.space d.cells d.pages set) (directory : IsDirectory set tag)
    (last : page ≡ count_pages set tag) (small : page < file_pages) (a : Attributes) (is_a : attributes_at around.chains tag ≡ Some a) (adds : AddsPage number (d.tags number) tag page bytes prefer d.frame.version around.chains d.space space d.cells cells d.pages pages a) where
  abbrev now : DomainNow
  now = record d { pages = pages; contents = contents; space = space; cells = cells }

  abbrev value : Attributes
  value = long (page + 1) a

  h : HasFirst around.chains tag
  h = first_of number d around tag (λ (w : Attributes). w.kind ≡ a.kind) (subst (λ o. IsSomeAnd o (λ (w : Attributes). w.kind ≡ a.kind)) (sym is_a) refl)

  -- ---- its first cell says that it is longer

  abbrev mid : DomainNow
  mid = record d { pages = adds.said }

  abbrev chain_mid : List PlacedCell
  chain_mid = with_first (says_attributes value) (h.first ∷ h.rest)

  abbrev chains_mid : Chains
  chains_mid = with_length (page + 1) a tag around.chains

  abbrev files_mid : Files
  files_mid = with_file h.first.at (Some chain_mid) around.files

  can : CanSay value tag around.chains
  can = can_say number (d.tags number) d.pages around.chains around.well.together.files tag a is_a (page + 1)

  abbrev says_longer : Call number d.frame.version tag (fileset_now d number around.chains around.files) (fileset_now mid number chains_mid files_mid)
  says_longer = described value (sets number tag d mid around refl (λ home same. refl) adds.first (says_attributes value) h adds.together)

  changes_mid : ChangesSlot number d mid
  changes_mid = record { frame = refl; table = refl; list = refl; tags = λ other differ. refl }

  abbrev around_mid : StandsAround number mid
  around_mid = around_now number tag d mid around changes_mid chains_mid files_mid says_longer can tt

  live : IsLiveOf Directory (around.chains tag)
  live = is_live number d around set stood tag directory

  live_first : IsLiveOf Directory (Some (h.first ∷ h.rest))
  live_first = subst (IsLiveOf Directory) h.is live

  -- as a directory, whatever its size
  said_mid : state_of chain_mid ≡ option_map (described_state value) (state_of (h.first ∷ h.rest))
  said_mid = attributes_said d.pages h.first h.rest (file_at number (d.tags number) d.pages around.chains around.well.together.files tag (h.first ∷ h.rest) h.is).is_file.1 value

  stays_directory : (is : SeenFile) → seen_in chain_mid ≡ Some is → ComesFrom d mid (Some (h.first ∷ h.rest)) is
  stays_directory = comes_directory_changed d mid (h.first ∷ h.rest) chain_mid (described_state value) (λ s. refl) alike said_mid
    where
      alike : (state : FileState) → seen_in (h.first ∷ h.rest) ≡ Some (seen_of state) → IsSameDirectory (seen_of state) (seen_of (described_state value state))
      alike state seen =
          let said : a ≡ state.attributes = some_same a state.attributes (sym is_a ∙ ap (option_and_then (of_live attributes_of)) h.is ∙ seen_says (h.first ∷ h.rest) (seen_of state) seen) in
          record {
            directory = seen_directory (h.first ∷ h.rest) (seen_of state) live_first seen;
            kind = ap (λ (w : Attributes). w.kind) said;
            uid = ap (λ (w : Attributes). w.uid) said;
            gid = ap (λ (w : Attributes). w.gid) said;
          }

  off_first_cell : (home : Home) → has_home_in (d.tags number) home ≡ true → adds.said home ≡ d.pages home
  off_first_cell home has = changes_first.1 home
      (off_first d around.files around.indexes around.below number tag around.chains around.well h.first h.rest h.is home (around.well.together.tag_pages home has).off_table)
    where
      changes_first : ChangesFirst (Some (h.first ∷ h.rest)) d.pages adds.said
      changes_first = subst (λ o. ChangesFirst o d.pages adds.said) h.is adds.first

  is_longer : GoesOnAround None number d mid
  is_longer = led number tag d mid around changes_mid chains_mid files_mid says_longer can tt (λ home same. refl)
      (files_of_call number tag d mid around changes_mid chains_mid files_mid says_longer can tt [] (sym (append-nil (d.tags number)))
      (same_sequences number d mid refl (kept_sequences d.pages adds.said (d.tags number) around.well.together.files.directory off_first_cell))
      (chain_changed number d mid around.chains tag (with_first (says_attributes value)) (h.first ∷ h.rest) h.is
      (λ t cells differ there seen is file page home at. refl) stays_directory (parent_kept tag (h.first ∷ h.rest) chain_mid (described_state value) (λ s. refl) (λ s. refl) said_mid)))

  is_mid : chains_mid tag ≡ Some chain_mid
  is_mid = chain_same tag (with_first (says_attributes value)) around.chains tag (same_tag_itself tag) ∙ ap (option_map (with_first (says_attributes value))) h.is

  -- ---- it gets a home for the page

  abbrev Gets : List PlacedCell → Type 0
  Gets = GetsPage number (d.tags number) tag page bytes prefer d.frame.version chains_mid d.space space d.cells cells adds.said pages

  gets : Gets chain_mid
  gets = subst (λ o. IsSomeAnd o Gets) is_mid adds.gets

  abbrev after : List PlacedCell
  after = gets.given.change.changes.after

  abbrev held : DomainNow
  held = record d { pages = gets.between; contents = contents; space = space; cells = cells }

  abbrev chains_held : Chains
  chains_held = with_chain tag (λ _. after) chains_mid

  abbrev files_held : Files
  files_held = with_file gets.given.start (Some after) files_mid

  abbrev puts : PutsPage number d.frame.version tag gets.home chain_mid (fileset_now mid number chains_mid files_mid) (fileset_now held number chains_held files_held)
  puts = record {
    page = page;
    is = is_mid;
    change = gets.given;
    others = gets.others;
    elsewhere = gets.elsewhere;
    places = refl;
    chains = refl;
    list = refl;
    files = refl;
  }

  abbrev is_given : Call number d.frame.version tag (fileset_now mid number chains_mid files_mid) (fileset_now held number chains_held files_held)
  is_given = given (record { home = gets.home; chain = chain_mid; puts = puts; prefer = prefer; taken = gets.taken })

  -- it did not have it
  same_chains : around.chains ≡ stood.chains
  same_chains = λ i t. one_chains d.pages number (d.tags number) around.chains stood.chains around.well.together.files stood.stands.together.files t i

  absent : places_of chain_mid page ≡ Absent
  absent =
      let grow = may_grow_any number (d.tags number) d.space d.cells d.pages adds.said set stood tag a (subst (λ (c : Chains). attributes_at c tag ≡ Some a) same_chains is_a) page small directory last
      (subst (λ (c : Chains). ChangesFirst (c tag) d.pages adds.said) same_chains adds.first)
      (subst (λ (c : Chains). AreTogether number (d.tags number) d.space d.cells adds.said (with_length (page + 1) a tag c)) same_chains adds.together)
      chains_mid adds.together.files
      in
      ap (λ o. option_map_or (λ cs. places_of cs page) o Absent) (sym is_mid) ∙ grow.absent

  changes_held : ChangesSlot number mid held
  changes_held = record { frame = refl; table = refl; list = refl; tags = λ other differ. refl }

  -- a page elsewhere is what it was
  put_apart : (home : Home) → same_home home gets.home ≡ false → pages home ≡ gets.between home
  put_apart home other = ap (λ (ps : Pages). ps home) gets.put ∙ ap (λ b. cond b (Some bytes) (gets.between home)) other

  module _ (follow : BytesFollow d now) where
    kept : KeepsOthers number tag mid held around_mid changes_held chains_held files_held is_given absent tt
    kept at k home none there = sym (follow home (put_apart home not_it ∙ other_page number tag mid held around_mid changes_held chains_held files_held is_given absent tt at k home there ∙ other_page number tag d mid around changes_mid chains_mid files_mid says_longer can tt at k home was))
      where
        apart : ¬ at ≡ h.first.at
        apart same = none (ap (option_and_then start_of) is_mid ∙ ap Some (sym same))

        was : place_in around.files at k ≡ At home
        was = ap (λ o. option_map_or (λ cs. places_of cs k) o Absent) (sym (file_other h.first.at (Some chain_mid) around.files at apart)) ∙ there

        low : 1 ≤ home.vol
        low = low_home d.space d.cells d.pages around.files around.below.chains.well.together at k home was

        not_it : same_home home gets.home ≡ false
        not_it = false_from_ne_true (same_home home gets.home) (λ here.
            let same = homes_same home gets.home here in
            unheld_taken d around.files around.indexes around.below.owned gets.home (subst (λ (x : Home). 1 ≤ x.vol) same low) gets.taken.free (of_file at k) (subst (λ (x : Home). place_in around.files at k ≡ At x) same was))

    -- the bytes of another tag's file stay
    other_bytes : (t : Tag) (cells : List PlacedCell) → same_tag t tag ≡ false → chains_mid t ≡ Some cells → KeepsBytesOf mid held cells
    other_bytes t cells differ there seen is file k home at =
        sym (kept m.at k home (λ mine. apart (some_same first_mid m.at (sym (ap (option_and_then start_of) is_mid) ∙ mine)))
        (ap (λ o. option_map_or (λ cs. places_of cs k) o Absent) m.is ∙ seen_place cells seen k home at is))
      where
        m : IsNamed files_mid cells
        m = named files_mid chains_mid t cells there (around_mid.well.among.same t)

        m_mid : IsNamed files_mid chain_mid
        m_mid = named files_mid chains_mid tag chain_mid is_mid (around_mid.well.among.same tag)

        first_mid : CellAt
        first_mid = h.first.at

        apart : ¬ first_mid ≡ m.at
        apart same =
            other_begins number (d.tags number) adds.said chains_mid adds.together.files files_mid t tag cells chain_mid there is_mid differ m m_mid
            (sym same ∙ some_same first_mid m_mid.at m_mid.start)

    -- pages of tags stay
    tag_stays : (home : Home) → has_home_in (d.tags number) home ≡ true → gets.between home ≡ adds.said home
    tag_stays home has = gets.elsewhere home (λ on. off_held home has on)
      where
        off_held : (home : Home) → has_home_in (d.tags number) home ≡ true → ¬ Contains (table_of cells home.vol) home.page
        off_held home has = ((around_now number tag mid held around_mid changes_held chains_held files_held is_given absent tt).well.together.tag_pages home has).off_table

    after_is : state_of after ≡ option_map (placed page (At gets.home)) (state_of chain_mid)
    after_is = page_placed page (At gets.home) chain_mid after gets.given.change.changes.first gets.given.change.changes.at

    live_mid : IsLiveOf Directory (Some chain_mid)
    live_mid = live_still (h.first ∷ h.rest) chain_mid (described_state value) (live_said number (d.tags number) d.pages around.chains around.well.together.files tag (h.first ∷ h.rest) h.is)
        (live_said number (d.tags number) adds.said chains_mid adds.together.files tag chain_mid is_mid) (λ s. refl) (λ s live_was kind_was. kind_said s live_was) said_mid live_first
      where
        kind_said : (s : FileState) → of_live attributes_of (h.first ∷ h.rest) ≡ Some s.attributes → value.kind ≡ s.attributes.kind
        kind_said s live_was = ap (λ (w : Attributes). w.kind) (some_same a s.attributes (sym is_a ∙ ap (option_and_then (of_live attributes_of)) h.is ∙ live_was))

    live_after : IsLiveOf Directory (Some after)
    live_after = live_still chain_mid after (placed page (At gets.home)) (live_said number (d.tags number) adds.said chains_mid adds.together.files tag chain_mid is_mid)
        (live_said number (d.tags number) gets.between chains_held gets.given.together.files tag after (tag_after tag after chains_mid chain_mid is_mid tag (same_tag_itself tag))) (λ s. refl) (λ s live_was kind_was. refl) after_is live_mid

    follow_held : FilesFollow None number mid held
    follow_held = files_of_call number tag mid held around_mid changes_held chains_held files_held is_given absent tt [] (sym (append-nil (d.tags number)))
        (same_sequences number mid held refl (kept_sequences adds.said gets.between (d.tags number) adds.together.files.directory tag_stays))
        (chain_changed number mid held chains_mid tag (λ _. after) chain_mid is_mid other_bytes
        (comes_directory_changed mid held chain_mid after (placed page (At gets.home)) (λ s. refl)
        (λ state seen. record { directory = seen_directory chain_mid (seen_of state) live_mid seen; kind = refl; uid = refl; gid = refl }) after_is)
        (parent_kept tag chain_mid after (placed page (At gets.home)) (λ s. refl) (λ s. refl) after_is))

    has_home : GoesOnAround None number mid held
    has_home = led_as number tag mid held around_mid changes_held chains_held files_held is_given absent tt kept follow_held

    abbrev around_held : StandsAround number held
    around_held = around_now number tag mid held around_mid changes_held chains_held files_held is_given absent tt

    -- ---- its bytes are put there

    its_place : place_at chains_held tag page ≡ At gets.home
    its_place =
        ap (λ o. option_map_or (λ cs. places_of cs page) o Absent) (tag_after tag after chains_mid chain_mid is_mid tag (same_tag_itself tag))
        ∙ gets.given.change.changes.at page
        ∙ ap (λ b. cond b (At gets.home) (places_of chain_mid page)) (eq-eqb page page refl)

    place_of_it : (home : Home) → ¬ place_at chains_held tag page ≡ At home → same_home home gets.home ≡ false
    place_of_it home none = false_from_ne_true (same_home home gets.home) (λ here. none (its_place ∙ ap At (sym (homes_same home gets.home here))))

    is_put : GoesOnAround None number held now
    is_put = is_written number tag page held now around_held refl (λ home same. refl) live_there (λ home none. put_apart home (place_of_it home none))
      where
        live_there : IsLiveOf Directory (chains_held tag)
        live_there = subst (IsLiveOf Directory) (sym (tag_after tag after chains_mid chain_mid is_mid tag (same_tag_itself tag))) live_after

    pub page_added : GoesOnAround None number d now
    page_added = joined None number d mid now is_longer (joined None number mid held now has_home is_put)

pub is_added : (number : ℕ) (tag : Tag) (page : ℕ) (bytes : List ℕ) (prefer : ℕ) (d now : DomainNow) (around : StandsAround number d) → ChangesSlot number d now → BytesFollow d now → now.tags number ≡ d.tags number
    → (set : SetOf) → StandsAsSet number (d.tags number) d.space d.cells d.pages set → IsDirectory set tag → page ≡ count_pages set tag → page < file_pages
    → IsSomeAnd (attributes_at around.chains tag) (AddsPage number (d.tags number) tag page bytes prefer d.frame.version around.chains d.space now.space d.cells now.cells d.pages now.pages) → GoesOnAround None number d now
is_added number tag page bytes prefer d now around changes follow same_tags set stood directory last small adds = by_attributes (attributes_at around.chains tag) refl adds
  where
    same : now ≡ record d { pages = now.pages; contents = now.contents; space = now.space; cells = now.cells }
    same = same_rest number d now changes same_tags

    by_attributes : (o : Option Attributes) → attributes_at around.chains tag ≡ o → IsSomeAnd o (AddsPage number (d.tags number) tag page bytes prefer d.frame.version around.chains d.space now.space d.cells now.cells d.pages now.pages) → GoesOnAround None number d now
    by_attributes None is adds = absurd adds
    by_attributes (Some a) is adds = subst (GoesOnAround None number d) (sym same)
        (page_added number tag page bytes prefer d around now.pages now.contents now.space now.cells set stood directory last small a is adds follow)
