-- A domain stands on around a slot where a file gets a page, with its bytes.
use Rattle.std.proofs.Common.{◌≡◌, ◌∙◌, ◌<◌, ℕ, ◌≤◌, Bool, true, false, cond, nat_eq, List, Some, Contains, slice_get, refl, sym, ap, subst}
use Rattle.std.proofs.lemmas.Bool.{eq-eqb, false_from_ne_true}
use Rattle.std.specs.Option.{option_and_then, option_map, option_map_or}
use Rattle.standing_laws.specs.domain_base.declared.place.CellAt.{CellAt}
use Rattle.standing_laws.specs.domain_base.declared.place.Home.{Home}
use Rattle.standing_laws.specs.domain_base.declared.place.Kind.TheVariants.{File}
use Rattle.standing_laws.specs.domain_base.declared.place.Tag.{Tag}
use Rattle.standing_laws.specs.page_store.Bitfiles.{Bitfiles}
use Rattle.standing_laws.specs.page_store.Pages.{Pages, same_home}
use Rattle.standing_laws.specs.metadata_cells.Chain.{PlacedCell}
use Rattle.standing_laws.proofs.OfMetadataCells.Changed.{homes_same}
use Rattle.standing_laws.specs.extent_maps.declared.run.PagePlace.TheVariants.{Absent, At}
use Rattle.standing_laws.specs.free_cells.Cells.{Cells}
use Rattle.standing_laws.specs.free_space.VolumeSpace.{with_page as space_with}
use Rattle.standing_laws.specs.free_space.Spaces.{IsHeld, Spaces, change_volume}
use Rattle.standing_laws.specs.file_chains.Files.{places_of}
use Rattle.standing_laws.proofs.OfFileChains.Spaces.{not_held}
use Rattle.standing_laws.specs.fileset_files.Changes.{with_chain}
use Rattle.standing_laws.specs.fileset_files.Files.{Chains, place_at}
use Rattle.standing_laws.specs.fileset_files.State.{state_of}
use Rattle.standing_laws.specs.fileset_files.Together.{IsFilePage}
use Rattle.standing_laws.proofs.OfFilesetFiles.Created.{one_chains}
use Rattle.standing_laws.proofs.OfFilesetFiles.Grown.{apart_grows, apart_taken}
use Rattle.standing_laws.proofs.OfFilesetFiles.OneChain.{chain_other, same_tag_itself, tag_after}
use Rattle.standing_laws.specs.fileset_files.States.{placed}
use Rattle.standing_laws.proofs.OfFilesetFiles.Placed.{page_placed}
use Rattle.standing_laws.specs.stored_set.Sets.{GetsPage, StandsAsSet}
use Rattle.standing_laws.specs.fileset_table.Table.{Table}
use Rattle.standing_laws.specs.release_list.Standing.{Files, place_in, with_file}
use Rattle.standing_laws.proofs.OfReleaseList.Standings.{low_home}
use Rattle.standing_laws.specs.release_steps.Calls.{Call, PutsPage, given}
use Rattle.standing_laws.specs.domain_layout.Filled.{Contents}
use Rattle.standing_laws.specs.domain_layout.CellRules.{of_clone}
use Rattle.standing_laws.specs.domain_layout.Reached.{Frame, first_cells}
use Rattle.standing_laws.specs.domain_standing.Domain.{DomainNow}
use Rattle.standing_laws.specs.domain_standing.Holders.Holder.{of_file}
use Rattle.standing_laws.specs.log_ring.Homes.{IsMember}
use Rattle.standing_laws.specs.Leads.{IsLiveOf, fileset_now}
use Rattle.standing_laws.proofs.TablesTaken.{unheld_taken}
use Rattle.set_standing.specs.Around.{BytesFollow, ChangesSlot, StandsAround}
use Rattle.set_standing.specs.Beside.{ChangesOneFile, StaysBeside}
use Rattle.set_standing.proofs.Again.{at_slot}
use Rattle.set_standing.proofs.FilePage.{around_put, beside_put}
use Rattle.set_standing.proofs.FileShown.{HasState, live_alike, shown_again, state_there}
use Rattle.set_standing.proofs.Led.{KeepsOthers, around_now, leads, other_page}
use Rattle.set_standing.proofs.LedBeside.{beside_as}
use Rattle.set_standing.proofs.OwnPages.{held_for}

-- one change beside another
pub beside_joined : (number : ℕ) (d between now : DomainNow) → StaysBeside number d between → StaysBeside number between now → StaysBeside number d now
beside_joined number d between now one two = record {
  frame = two.frame ∙ one.frame;
  table = two.table ∙ one.table;
  tags = λ n. two.tags n ∙ one.tags n;
  slots = λ other entry shape fileset differ at stood.
      two.slots other entry shape fileset differ (ap (λ (t : Table). slice_get t.slots other) one.table ∙ at) (one.slots other entry shape fileset differ at stood);
  parents = λ other differ stands had.
      two.parents other differ (record {
        no_clone = ap (λ (t : Table). of_clone (slice_get t.slots other)) one.table ∙ stands.no_clone;
        each = λ entry at.
            let there = sym (ap (λ (t : Table). slice_get t.slots other) one.table) ∙ at in
            let was = stands.each entry there in
            (was.0, was.1, one.slots other entry was.0 was.1 differ there was.2);
      }) (one.parents other differ stands had);
  limits = λ entry limits at are. two.limits entry limits (ap (λ (t : Table). slice_get t.slots number) one.table ∙ at) (one.limits entry limits at are);
  volumes = λ home of.
      two.volumes home (subst (λ (f : Frame). IsMember f.anchor home.vol × (home.page < first_cells f home.vol)) (sym one.frame) of) ∙ one.volumes home of;
}

module _ (number : ℕ) (tag : Tag) (page : ℕ) (bytes : List ℕ) (prefer : ℕ) (d : DomainNow) (around : StandsAround number d) (pages : Pages) (contents : Contents) (space : Spaces) (cells : Cells) (mine : List PlacedCell) (is : around.chains tag ≡ Some mine)
    (absent : places_of mine page ≡ Absent) (gets : GetsPage number (d.tags number) tag page bytes prefer d.frame.version around.chains d.space space d.cells cells d.pages pages mine) where
  abbrev now : DomainNow
  now = record d { pages = pages; contents = contents; space = space; cells = cells }

  -- ---- it gets a home

  abbrev held : DomainNow
  held = record d { pages = gets.between; contents = contents; space = space; cells = cells }

  abbrev after : List PlacedCell
  after = gets.given.change.changes.after

  abbrev chains_held : Chains
  chains_held = with_chain tag (λ _. after) around.chains

  abbrev files_held : Files
  files_held = with_file gets.given.start (Some after) around.files

  abbrev puts : PutsPage number d.frame.version tag gets.home mine (fileset_now d number around.chains around.files) (fileset_now held number chains_held files_held)
  puts = record {
    page = page;
    is = is;
    change = gets.given;
    others = gets.others;
    elsewhere = gets.elsewhere;
    places = refl;
    chains = refl;
    list = refl;
    files = refl;
  }

  abbrev is_given : Call number d.frame.version tag (fileset_now d number around.chains around.files) (fileset_now held number chains_held files_held)
  is_given = given (record { home = gets.home; chain = mine; puts = puts; prefer = prefer; taken = gets.taken })

  same_slot : ChangesSlot number d held
  same_slot = record { frame = refl; table = refl; list = refl; tags = λ other differ. refl }

  abbrev around_held : StandsAround number held
  around_held = around_now number tag d held around same_slot chains_held files_held is_given absent tt

  held_tag : around_held.chains tag ≡ Some after
  held_tag = tag_after tag after around.chains mine is tag (same_tag_itself tag)

  its_place : place_at around_held.chains tag page ≡ At gets.home
  its_place =
      ap (λ o. option_map_or (λ cs. places_of cs page) o Absent) held_tag
      ∙ gets.given.change.changes.at page
      ∙ ap (λ b. cond b (At gets.home) (places_of mine page)) (eq-eqb page page refl)

  -- ---- a page elsewhere is what it was

  put_apart : (home : Home) → same_home home gets.home ≡ false → pages home ≡ gets.between home
  put_apart home other = ap (λ (ps : Pages). ps home) gets.put ∙ ap (λ b. cond b (Some bytes) (gets.between home)) other

  -- a page of a file is not the free one
  not_it : (at : CellAt) (k : ℕ) (home : Home) → place_in around.files at k ≡ At home → same_home home gets.home ≡ false
  not_it at k home there = false_from_ne_true (same_home home gets.home) (λ here.
      let same = homes_same home gets.home here in
      let low : 1 ≤ home.vol = low_home d.space d.cells d.pages around.files around.below.chains.well.together at k home there in
      unheld_taken d around.files around.indexes around.below.owned gets.home (subst (λ (x : Home). 1 ≤ x.vol) same low) gets.taken.free (of_file at k) (subst (λ (x : Home). place_in around.files at k ≡ At x) same there))

  page_same : (at : CellAt) (k : ℕ) (home : Home) → place_in around.files at k ≡ At home → pages home ≡ d.pages home
  page_same at k home there = put_apart home (not_it at k home there) ∙ other_page number tag d held around same_slot chains_held files_held is_given absent tt at k home there

  own_same : (t : Tag) (k : ℕ) (home : Home) → place_at around.chains t k ≡ At home → pages home ≡ d.pages home
  own_same t k home at = let h = held_for number d (at_slot number d around) t k home at in page_same h.name.at k home h.placed

  place_of_it : (home : Home) → ¬ place_at around_held.chains tag page ≡ At home → pages home ≡ gets.between home
  place_of_it home none = put_apart home (false_from_ne_true (same_home home gets.home) (λ here. none (its_place ∙ ap At (sym (homes_same home gets.home here)))))

  module _ (follow : BytesFollow d now) where
    kept : KeepsOthers number tag d held around same_slot chains_held files_held is_given absent tt
    kept at k home none there = sym (follow home (page_same at k home there))

    abbrev around_is : StandsAround number now
    around_is = around_put number tag page held around_held pages contents place_of_it after held_tag

    beside_is : StaysBeside number d now
    beside_is = beside_joined number d held now
        (beside_as number tag d held around chains_held files_held (leads number tag d held around same_slot chains_held files_held is_given absent tt) kept refl)
        (beside_put number tag page held around_held pages contents place_of_it after held_tag (λ home same. refl))

    module _ (live : IsLiveOf File (Some mine)) where
      had : HasState mine
      had = state_there File mine live

      after_state : state_of after ≡ option_map (placed page (At gets.home)) (state_of mine)
      after_state = page_placed page (At gets.home) mine after gets.given.change.changes.first gets.given.change.changes.at

      module _ (shown : Bitfiles) (was : StandsAsSet number (d.tags number) d.space d.cells d.pages shown) where
        same_chains : around.chains ≡ was.chains
        same_chains = λ i t. one_chains d.pages number (d.tags number) around.chains was.chains around.well.together.files was.stands.together.files t i

        not_home : (h : Home) → IsFilePage d.space d.cells (d.tags number) h → ¬ h ≡ gets.home
        not_home h file_page e = not_held d.space gets.home.vol gets.home.page gets.taken.free (subst (λ (x : Home). IsHeld d.space x.vol x.page) e file_page.apart.held)

        index_page : (t : Tag) (h : Home) → Contains (was.indexes t) h → IsFilePage space cells (d.tags number) h
        index_page t h inside = record {
          apart = apart_grows page (At gets.home) mine prefer (change_volume (space_with gets.home.page) d.space gets.home.vol) space d.cells cells d.pages gets.taken.taken h (apart_taken d.space d.cells gets.home h (was.stands.stand t h inside).apart);
          no_tags = (was.stands.stand t h inside).no_tags;
        }

        index_stays : (t : Tag) (h : Home) → Contains (was.indexes t) h → pages h ≡ d.pages h
        index_stays t h inside =
            put_apart h (false_from_ne_true (same_home h gets.home) (λ here. not_home h (was.stands.stand t h inside) (homes_same h gets.home here)))
            ∙ gets.elsewhere h (index_page t h inside).apart.off_table

        apart_held : (s : Tag) (k : ℕ) (h : Home) → Contains (was.indexes s) h → ¬ place_at chains_held tag k ≡ At h
        apart_held s k h inside at = by_page (nat_eq k page) refl
          where
            here : place_at chains_held tag k ≡ cond (nat_eq k page) (At gets.home) (places_of mine k)
            here = ap (λ o. option_map_or (λ cs. places_of cs k) o Absent) held_tag ∙ gets.given.change.changes.at k

            home_of : (x y : Home) → At x ≡ At y → x ≡ y
            home_of x y e = cc

            by_page : (b : Bool) → nat_eq k page ≡ b → ⊥
            by_page true same = not_home h (was.stands.stand s h inside) (home_of h gets.home (sym at ∙ here ∙ ap (λ (b : Bool). cond b (At gets.home) (places_of mine k)) same))
            by_page false other =
                was.stands.apart s tag k h inside
                (ap (λ (c : Chains). place_at c tag k) (sym same_chains) ∙ ap (λ o. option_map_or (λ cs. places_of cs k) o Absent) is ∙ sym (ap (λ (b : Bool). cond b (At gets.home) (places_of mine k)) other) ∙ sym here ∙ at)

        set_now : StandsAsSet number (d.tags number) space cells pages shown
        set_now = shown_again number (d.tags number) d.space space d.cells cells d.pages pages shown was tag mine after chains_held
            (ap (λ (c : Chains). c tag) (sym same_chains) ∙ is) held_tag (λ t differ. chain_other tag (λ _. after) around.chains t differ ∙ ap (λ (c : Chains). c t) same_chains) live
            had.state (placed page (At gets.home) had.state) had.is (after_state ∙ ap (option_map (placed page (At gets.home))) had.is)
            (record { kind = refl; uid = refl; gid = refl; links = refl; removing = refl; index = refl })
            (λ t k home differ at. own_same t k home (ap (λ (c : Chains). place_at c t k) same_chains ∙ at)) index_stays around_is.well.together index_page apart_held

      pub page_given : ChangesOneFile number tag (placed page (At gets.home)) (λ k. ⊥) around.chains d now
      page_given = record {
        around = around_is;
        beside = beside_is;
        chains_now = chains_held;
        are = around_is.well.together.files;
        state = record {
          others = chain_other tag (λ _. after) around.chains;
          own = ap (option_and_then state_of) held_tag ∙ after_state ∙ sym (ap (λ o. option_map (placed page (At gets.home)) (option_and_then state_of o)) is);
        };
        live = subst (IsLiveOf File) (sym held_tag)
            (live_alike File mine after had.state (placed page (At gets.home) had.state) had.is (after_state ∙ ap (option_map (placed page (At gets.home))) had.is)
            (record { kind = refl; uid = refl; gid = refl; links = refl; removing = refl; index = refl }) live);
        pages = λ t k home differ at. own_same t k home at;
        bytes = record {
          others = λ t k home differ at. follow home (own_same t k home at);
          own = λ k home no at. follow home (own_same tag k home at);
        };
        set = set_now;
      }
