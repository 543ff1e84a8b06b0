-- A domain stands on around a slot where a page of a file is put in place.
use Rattle.std.proofs.Common.{◌≡◌, ◌∙◌, ℕ, true, false, List, Option, Some, None, IfSome, Contains, refl, sym, ap, subst, true≢false}
use Rattle.std.specs.Option.{option_and_then, option_map, option_map_or}
use Rattle.standing_laws.specs.domain_base.declared.place.CellAt.{CellAt}
use Rattle.standing_laws.specs.domain_base.declared.place.Home.{Home}
use Rattle.standing_laws.specs.domain_base.declared.place.Kind.TheVariants.{File}
use Rattle.standing_laws.specs.domain_base.declared.place.Tag.{Tag}
use Rattle.standing_laws.specs.page_store.Bitfiles.{Bitfiles, same_tag}
use Rattle.standing_laws.specs.page_store.Pages.{Pages}
use Rattle.standing_laws.specs.metadata_cells.CellPage.{cell_at, home_of}
use Rattle.standing_laws.specs.metadata_cells.Chain.{PlacedCell, is_at}
use Rattle.standing_laws.specs.tag_dirs.Directory.{cell_of, has_home}
use Rattle.standing_laws.specs.extent_maps.declared.run.PagePlace.TheVariants.{Absent, At}
use Rattle.standing_laws.specs.free_cells.Cells.{table_of}
use Rattle.standing_laws.specs.file_chains.Files.{places_of}
use Rattle.standing_laws.specs.fileset_files.Files.{Chains, LeadsToFile, place_at}
use Rattle.standing_laws.specs.fileset_files.State.{FileState, state_of}
use Rattle.standing_laws.specs.fileset_files.Together.{AreTogether}
use Rattle.standing_laws.proofs.OfFilesetFiles.Created.{one_chains}
use Rattle.standing_laws.proofs.OfStoredSet.Together.{together_away}
use Rattle.standing_laws.specs.stored_set.Sets.{StandsAsSet}
use Rattle.standing_laws.specs.release_list.Standing.{place_in}
use Rattle.standing_laws.proofs.OfReleaseSteps.Tags.{IsNamed, named}
use Rattle.standing_laws.specs.domain_layout.Filled.{Contents}
use Rattle.standing_laws.specs.domain_standing.Domain.{DomainNow}
use Rattle.standing_laws.specs.domain_standing.Holders.Holder.{of_file, of_volume}
use Rattle.standing_laws.specs.Leads.{IsLiveOf, StandsBelow}
use Rattle.standing_laws.specs.OtherPages.{KeepsWhere}
use Rattle.standing_laws.proofs.OthersStand.{others_stand}
use Rattle.standing_laws.proofs.SoundInPlace.{but_elsewhere}
use Rattle.set_standing.specs.Around.{BytesFollow, IsNamedIn, StandsAround}
use Rattle.set_standing.specs.Beside.{ChangesOneFile, StaysBeside}
use Rattle.set_standing.proofs.Again.{at_slot, its_number, says_some}
use Rattle.set_standing.proofs.Aside.{own_quotas, parents_aside, slot_aside}
use Rattle.set_standing.proofs.Besides.{IsOff, is_off}
use Rattle.set_standing.proofs.FileShown.{HasState, shown_again, state_there}
use Rattle.set_standing.proofs.Following.{other_begins}
use Rattle.set_standing.proofs.OwnLimits.{limits_still}
use Rattle.set_standing.proofs.OwnPages.{held_for}

module _ (number : ℕ) (tag : Tag) (page : ℕ) (d : DomainNow) (around : StandsAround number d) (pages : Pages) (contents : Contents) (elsewhere : (home : Home) → ¬ place_at around.chains tag page ≡ At home → pages home ≡ d.pages home) (cs : List PlacedCell) (some : around.chains tag ≡ Some cs) where
  abbrev now : DomainNow
  now = record d { pages = pages; contents = contents }

  m : IsNamed around.files cs
  m = named around.files around.chains tag cs some (around.well.among.same tag)

  place_there : (home : Home) → place_at around.chains tag page ≡ At home → place_in around.files m.at page ≡ At home
  place_there home at = ap (λ o. option_map_or (λ cs. places_of cs page) o Absent) m.is ∙ sym (ap (λ o. option_map_or (λ cs. places_of cs page) o Absent) some) ∙ at

  pub keeps_where : KeepsWhere d now around.files around.indexes
  keeps_where home holder holds no_volume no_log no_file =
      elsewhere home (λ at. no_file m.at page (around.below.owned.once home holder (of_file m.at page) holds (place_there home at)))

  pub below_now : StandsBelow now around.files around.indexes
  below_now = others_stand d now around.files around.indexes around.below refl keeps_where

  on_table : (home : Home) → Contains (table_of d.cells home.vol) home.page → pages home ≡ d.pages home
  on_table home on = elsewhere home (λ at. (around.well.together.file_pages tag page home at).apart.off_table on)

  on_tag : (home : Home) → has_home (d.tags number) home ≡ true → pages home ≡ d.pages home
  on_tag home has = elsewhere home (λ at. true≢false (sym has ∙ (around.well.together.file_pages tag page home at).no_tags))

  pub together_now : AreTogether number (d.tags number) d.space d.cells pages around.chains
  together_now = together_away d.pages pages d.cells on_table number (d.tags number) d.space around.chains on_tag around.well.together

  abbrev pub around_put : StandsAround number now
  around_put =
      let among = around.well.among in
      record {
        entry = around.entry;
        original = around.original;
        files = around.files;
        indexes = around.indexes;
        below = below_now;
        chains = around.chains;
        well = record {
          well = below_now.chains.well;
          together = together_now;
          among = record { same = among.same; live = among.live; trimmed = among.trimmed; low = among.low; no_tags = among.no_tags; not_listed = among.not_listed };
        };
        alone = around.alone;
        sound = but_elsewhere d now around.files around.indexes (IsNamedIn around.chains) around.sound refl keeps_where;
      }

  leads : LeadsToFile number (d.tags number) d.pages tag cs
  leads = subst (λ o. IfSome o (LeadsToFile number (d.tags number) d.pages tag)) some (around.well.together.files.some tag)

  -- the page is of no other tag's file
  pub page_elsewhere : (t : Tag) (k : ℕ) (home : Home) → same_tag t tag ≡ false → place_at around.chains t k ≡ At home → pages home ≡ d.pages home
  page_elsewhere t k home differ at = elsewhere home (λ mine.
      let h = held_for number d (at_slot number d around) t k home at in
      other_begins number (d.tags number) d.pages around.chains around.well.together.files around.files t tag h.cells cs h.there some differ h.name m
      (one_start h.name.at k m.at page (around.below.owned.once home (of_file h.name.at k) (of_file m.at page) h.placed (place_there home mine))))
    where
      one_start : (a : CellAt) (j : ℕ) (b : CellAt) (k : ℕ) → of_file a j ≡ of_file b k → a ≡ b
      one_start a j b k e = cc

  module _ (bytes : BytesFollow d now) where
    cell_same : (at : CellAt) → Contains (table_of d.cells at.vol) at.page → is_at m.at at ≡ false → cell_at pages at ≡ cell_at d.pages at
    cell_same at on other = ap (λ (o : Option (List ℕ)). cell_at (λ _. o) at) (on_table (home_of at) on)

    page_same : (home : Home) → IsOff number m.at d around.files around.indexes home → pages home ≡ d.pages home
    page_same home off = elsewhere home (λ at. off.no_page page (place_there home at))

    pub beside_put : StaysBeside number d now
    beside_put =
        let of = its_number number tag cs leads.is_of in
        let says = says_some d.pages (cell_of d.pages (d.tags number) tag) cs leads.leads in
        let allocated = below_now.chains.well.together.allocated in
        record {
          frame = refl;
          table = refl;
          tags = λ n. refl;
          slots = slot_aside number m.at d now around.files around.indexes around.below cs m.is of says (λ n differ. refl) refl allocated cell_same page_same (λ home off held. held) bytes;
          parents = λ other differ stands had.
              parents_aside number m.at d now around.files around.indexes around.below cs m.is of says (λ n differ. refl) refl allocated cell_same page_same (λ home off held. held) bytes other differ stands refl refl had;
          limits = λ entry limits at.
              limits_still number d now around.files (around.below.chains.quotas number)
              (own_quotas number m.at d now around.files around.indexes around.below cs m.is of says (λ n differ. refl) refl allocated cell_same page_same (λ home off held. held) bytes) entry at limits;
          volumes = λ home of. page_same home (is_off number m.at d around.files around.indexes around.below of_volume home of.0.first tt of);
        }

    module _ (live : IsLiveOf File (Some cs)) where
      had : HasState cs
      had = state_there File cs live

      module _ (shown : Bitfiles) (was : StandsAsSet number (d.tags number) d.space d.cells d.pages shown) where
        same_chains : around.chains ≡ was.chains
        same_chains = λ i t. one_chains d.pages number (d.tags number) around.chains was.chains around.well.together.files was.stands.together.files t i

        set_now : StandsAsSet number (d.tags number) d.space d.cells pages shown
        set_now = shown_again number (d.tags number) d.space d.space d.cells d.cells d.pages pages shown was tag cs cs around.chains
            (ap (λ (c : Chains). c tag) (sym same_chains) ∙ some) some (λ t differ. ap (λ (c : Chains). c t) same_chains) live
            had.state had.state had.is had.is (record { kind = refl; uid = refl; gid = refl; links = refl; removing = refl; index = refl })
            (λ t k home differ at. page_elsewhere t k home differ (ap (λ (c : Chains). place_at c t k) same_chains ∙ at))
            (λ t home inside. elsewhere home (λ at. was.stands.apart t tag page home inside (ap (λ (c : Chains). place_at c tag page) (sym same_chains) ∙ at)))
            together_now was.stands.stand
            (λ s k home inside at. was.stands.apart s tag k home inside (ap (λ (c : Chains). place_at c tag k) (sym same_chains) ∙ at))

      same_map : (o : Option FileState) → o ≡ option_map (λ (s : FileState). s) o
      same_map None = refl
      same_map (Some s) = refl

      pub page_put : ChangesOneFile number tag (λ (s : FileState). s) (λ k. k ≡ page) around.chains d now
      page_put = record {
        around = around_put;
        beside = beside_put;
        chains_now = around.chains;
        are = together_now.files;
        state = record { others = λ t differ. refl; own = same_map (option_and_then state_of (around.chains tag)) };
        live = subst (IsLiveOf File) (sym some) live;
        pages = page_elsewhere;
        bytes = record {
          others = λ t k home differ at. bytes home (page_elsewhere t k home differ at);
          own = λ k home other at. bytes home (elsewhere home (λ mine. other (around.well.together.once tag tag k page home at mine).1));
        };
        set = set_now;
      }
