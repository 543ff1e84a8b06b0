-- What is asked where a tag is taken out of use of what is in a slot: it is known as soon as it is
-- known that memory is that of a domain.
use Rattle.std.proofs.Common.{◌≡◌, ◌∙◌, ◌<◌, ◌≤◌, ℕ, zero, suc, Bool, true, false, cond, Option, Some, None, IfSome, IsSome, IsSomeAnd, List, [], ◌∷◌, Contains, is_some, slice_get, refl, sym, ap, subst, arith, ⊎_elim, true≢false}
use Rattle.std.proofs.Math.Logic.{∥∥₁_map}
use Rattle.std.proofs.lemmas.Bool.{cases_Bool, false_from_ne_true}
use Rattle.std.specs.Coded.{Coded-set, coded_list}
use Rattle.std.specs.FinSet.{contains}
use Rattle.std.specs.Option.{option_and_then, option_map_or}
use Rattle.domain_changes.specs.domain_base.declared.place.Home.{Home}
use Rattle.domain_changes.specs.domain_base.declared.place.Tag.{Tag}
use Rattle.domain_changes.specs.page_store.Pages.{Pages}
use Rattle.domain_changes.specs.cell_records.Records.{kind_of}
use Rattle.domain_changes.specs.cell_records.declared.record.Record.{Record}
use Rattle.domain_changes.specs.cell_records.declared.record.Record.TheVariants as written
use Rattle.domain_changes.specs.metadata_cells.Cell.{record_of}
use Rattle.domain_changes.specs.metadata_cells.Chain.{PlacedCell}
use Rattle.domain_changes.specs.tag_dirs.Directory.{cell_of, has_home}
use Rattle.domain_changes.specs.tag_dirs.declared.dir.TagPlace.{TagPlace}
use Rattle.domain_changes.specs.free_space.Spaces.{IsHeld, Spaces, volume_of}
use Rattle.domain_changes.specs.free_space.VolumeSpace.{VolumeSpace, is_waiting}
use Rattle.domain_changes.specs.file_chains.Files.{AreFile}
use Rattle.domain_changes.proofs.OfFileChains.MapRecords.{kind_found}
use Rattle.domain_changes.specs.fileset_files.Changes.{IsLive, is_page_of_first}
use Rattle.domain_changes.specs.fileset_files.Files.{AreFiles, Chains, HasFiles, LeadsToFile, attributes_in, attributes_of, is_removed, of_live}
use Rattle.domain_changes.specs.fileset_files.Shown.{index_of}
use Rattle.domain_changes.proofs.OfFilesetFiles.Created.{one_chains}
use Rattle.domain_changes.specs.index_pages.Changes.{AreHeld}
use Rattle.domain_changes.specs.index_pages.Homes.{AreIndexHomes}
use Rattle.domain_changes.proofs.OfIndexPages.Homes.{one_list}
use Rattle.domain_changes.proofs.OfStoredSet.Stable.{IsStable, both, determined, home_code, is_there, one_bool, one_number, some_and}
use Rattle.domain_changes.proofs.OfStoredSet.StableFiles.{chains_set, files}
use Rattle.domain_changes.proofs.OfStoredSet.StableSets.{index_homes}
use Rattle.domain_changes.specs.staged_pages.Store.{pages_of}
use Rattle.domain_changes.specs.fileset_model.Filesets.{FilesetMap}
use Rattle.domain_changes.specs.domain_layout.Layout.{first_tag_of}
use Rattle.domain_changes.specs.domain_layout.Reached.{IsWithin}
use Rattle.domain_changes.specs.domain_standing.Chains.{HasFilesAmong, StandsInSlot}
use Rattle.domain_changes.specs.domain_standing.Domain.{DomainNow, named_by}
use Rattle.domain_changes.specs.domain_standing.Holders.{AreHeldAt, AreHeldOn}
use Rattle.domain_changes.specs.domain_standing.Holders.Holder.{of_index}
use Rattle.domain_changes.specs.standing_laws.Sound.{StandsSound}
use Rattle.domain_changes.proofs.OfStandingLaws.IndexWas.{file_was, index_low_was, index_was, live_was, off_cells, off_first, off_tags}
use Rattle.domain_changes.proofs.OfStandingLaws.SlotTogether.{slot_together}
use Rattle.domain_changes.proofs.OfStandingLaws.SourcesSaid.{files_alone}
use Rattle.set_standing.specs.Around.{IsNamedIn, StandsAtSlot}
use Rattle.domain_changes.proofs.OfStandingLaws.SoundParted.{sound_but}
use Rattle.domain_changes.specs.domain_memory.Slots.{HasNumber, places_in, slot_in}
use Rattle.domain_changes.specs.domain_memory.declared.slots.SlotFiles.{SlotFiles}
use Rattle.domain_changes.specs.domain_memory.Staged.{IsStaged, IsStagedForSome, MayGoBack, staged_in}
use Rattle.domain_changes.specs.domain_memory.declared.memory.DomainMemory.{DomainMemory}
use Rattle.domain_changes.specs.domain_memory.Going.{IsUsedIn}
use Rattle.release_changes.specs.Emptying.{HasIndexApart, MayTakeOut}

-- ---- a file that is not to be removed has attributes

attributes_there : (r : Record) → kind_of r ≡ 1 → IsSome (attributes_in r)
attributes_there (written.Attributes kind uid gid flags size keep links birth unsynced) is = refl
attributes_there (written.CloneFile vol cell page frozen) is = absurd (omega (arith, is))
attributes_there (written.Extents rows) is = absurd (omega (arith, is))
attributes_there (written.ShortExtents rows) is = absurd (omega (arith, is))
attributes_there (written.Holes rows) is = absurd (omega (arith, is))
attributes_there (written.Pending what) is = absurd (omega (arith, is))
attributes_there (written.UserQuota id files blocks) is = absurd (omega (arith, is))
attributes_there (written.GroupQuota id files blocks) is = absurd (omega (arith, is))
attributes_there (written.DirIndex vol page entries) is = absurd (omega (arith, is))
attributes_there (written.Parent slot seq) is = absurd (omega (arith, is))
attributes_there (written.Stripe width mark vols) is = absurd (omega (arith, is))
attributes_there (written.Volume vol pages bitmap_pages) is = absurd (omega (arith, is))
attributes_there (written.DenseExtents rows) is = absurd (omega (arith, is))
attributes_there (written.ShortDense rows) is = absurd (omega (arith, is))

is_live : (pages : Pages) (first : PlacedCell) (rest : List PlacedCell) → AreFile pages first rest → is_removed (first ∷ rest) ≡ false → IsSome (of_live attributes_of (first ∷ rest))
is_live pages first rest file stays =
    subst (λ (b : Bool). IsSome (cond b None (attributes_of (first ∷ rest)))) (sym stays) (by_record (record_of 1 first.cell.records) refl file.attributes)
  where
    by_record : (o : Option Record) → record_of 1 first.cell.records ≡ o → IsSome o → IsSome (option_and_then attributes_in o)
    by_record None is some = some
    by_record (Some r) is some = attributes_there r (kind_found 1 first.cell.records r is)

-- ---- a used tag of a domain

module _ (number : ℕ) (tag : Tag) (d : DomainNow) (at : StandsAtSlot number d) (sound : StandsSound d at.files at.indexes) (used : IsSome (cell_of d.pages (d.tags number) tag)) where
  record Chained : Type 0 where
    first : PlacedCell
    rest : List PlacedCell
    is : at.chains tag ≡ Some (first ∷ rest)

  are : AreFiles number (d.tags number) d.pages at.chains
  are = at.well.together.files

  chained : Chained
  chained = by_chain (at.chains tag) refl (are.some tag)
    where
      by_chain : (o : Option (List PlacedCell)) → at.chains tag ≡ o → IfSome o (LeadsToFile number (d.tags number) d.pages tag) → Chained
      by_chain None is leads = absurd (true≢false (sym used ∙ ap is_some (are.none tag is)))
      by_chain (Some []) is leads = absurd leads.is_of
      by_chain (Some (first ∷ rest)) is leads = record { first = first; rest = rest; is = is }

  abbrev first : PlacedCell
  first = chained.first

  abbrev rest : List PlacedCell
  rest = chained.rest

  pub live_then : IsLive tag at.chains
  live_then = subst (λ o. IsSome (option_and_then (of_live attributes_of) o)) (sym chained.is)
      (is_live d.pages first rest (file_was d at.files at.indexes at.below number tag at.chains at.well first rest chained.is) (live_was d at.files at.indexes at.below number tag at.chains at.well first rest chained.is))

  low : (home : Home) → Contains (at.indexes first.at) home → 1 ≤ home.vol
  low = index_low_was d at.files at.indexes at.below number tag at.chains at.well first rest chained.is

  place_in_list : (homes : List Home) (home : Home) → Contains homes home → (k : ℕ) × (slice_get homes k ≡ Some home)
  place_in_list [] home inside = absurd (omega (arith, inside.1))
  place_in_list (h ∷ homes) home (zero, within, is) = (0, ap Some is)
  place_in_list (h ∷ homes) home (suc k, within, is) = let p = place_in_list homes home (k, omega (arith, within), is) in (suc p.0, p.1)

  held : (home : Home) → Contains (at.indexes first.at) home → IsHeld d.space home.vol home.page
  held home inside = by_volume (volume_of d.space home.vol) (at.below.owned.spaces home.vol (low home inside))
    where
      place : (k : ℕ) × (slice_get (at.indexes first.at) k ≡ Some home)
      place = place_in_list (at.indexes first.at) home inside

      within : IsWithin d.frame home
      within = sound.within home (of_index first.at place.0) (λ e. cc) (λ e. cc) place.1

      is_used : (v : VolumeSpace) → AreHeldOn d at.files at.indexes home.vol v → contains v.used home.page ≡ true
      is_used v is = ⊎_elim
          (λ used. used)
          (λ free. let inside : home.page < v.pages = omega (arith, within.1, is.count) in absurd (((is.free home.page inside).0 free).0 (of_index first.at place.0) place.1))
          (cases_Bool (contains v.used home.page))

      none_waits : (v : VolumeSpace) → AreHeldOn d at.files at.indexes home.vol v → is_waiting v home.page ≡ false
      none_waits v is = ⊎_elim (λ waits. absurd (is.waits home.page waits (of_index first.at place.0) place.1)) (λ none. none) (cases_Bool (is_waiting v home.page))

      by_volume : (o : Option VolumeSpace) → AreHeldAt d at.files at.indexes home.vol o → IsSomeAnd o (λ v. (contains v.used home.page ≡ true) × (is_waiting v home.page ≡ false))
      by_volume None none = absurd (none within.0)
      by_volume (Some v) is = (is_used v is.1, none_waits v is.1)

  pub index_then : HasIndexApart (d.tags number) d.space d.pages (at.chains tag)
  index_then = record {
    homes = at.indexes first.at;
    are = subst (λ o. AreIndexHomes d.pages (option_and_then index_of o) (at.indexes first.at)) (sym chained.is) (index_was d at.files at.indexes at.below number tag at.chains at.well first rest chained.is);
    held = held;
    no_tags = λ home inside. false_from_ne_true (has_home (d.tags number) home) (off_tags d at.files at.indexes at.below number tag at.chains at.well first rest chained.is number home inside);
    no_first = λ home inside. ap (λ o. option_map_or (is_page_of_first home) o false) chained.is
        ∙ off_first d at.files at.indexes at.below number tag at.chains at.well first rest chained.is home (off_cells d at.files at.indexes at.below number tag at.chains at.well first rest chained.is home inside);
  }

-- ---- as soon as it is known

pub held_known : (space : Spaces) (home : Home) → IsStable (IsHeld space home.vol home.page)
held_known space home = some_and (λ (v : VolumeSpace). (contains v.used home.page ≡ true) × (is_waiting v home.page ≡ false)) (λ v. both (one_bool _ _) (one_bool _ _)) (volume_of space home.vol)

module _ (places : List TagPlace) (space : Spaces) (pages : Pages) (chain : Option (List PlacedCell)) where
  abbrev Rest : List Home → Type 0
  Rest homes = AreIndexHomes pages (option_and_then index_of chain) homes × (AreHeld space homes
      × (((home : Home) → Contains homes home → has_home places home ≡ false) × ((home : Home) → Contains homes home → option_map_or (is_page_of_first home) chain false ≡ false)))

  rest_known : (homes : List Home) → IsStable (Rest homes)
  rest_known homes = both (index_homes pages (option_and_then index_of chain) homes)
      (both (λ t home inside. held_known space home (∥∥₁_map t (λ f. f home inside)))
      (both (λ t home inside. one_bool _ _ (∥∥₁_map t (λ f. f home inside))) (λ t home inside. one_bool _ _ (∥∥₁_map t (λ f. f home inside)))))

  pub index_known : IsStable (HasIndexApart places space pages chain)
  index_known t =
      let found : (homes : List Home) × Rest homes = determined Rest (λ a b. Coded-set (coded_list home_code) a b) (λ a b x y. one_list pages (option_and_then index_of chain) a b x.0 y.0) rest_known
      (∥∥₁_map t (λ x. (x.homes, (x.are, (x.held, (x.no_tags, x.no_first)))))) in
      record { homes = found.0; are = found.1.0; held = found.1.1.0; no_tags = found.1.1.1.0; no_first = found.1.1.1.1 }

pub files_known : (fileset : ℕ) (places : List TagPlace) (pages : Pages) → IsStable (HasFiles fileset places pages)
files_known fileset places pages =
    determined (AreFiles fileset places pages) chains_set (λ a b x y. λ i t. one_chains pages fileset places a b x y t i) (files fileset places pages)

-- ---- what is in a slot of memory

module _ (memory : DomainMemory) (number : ℕ) (all : FilesetMap) (is : IsStaged memory all) where
  abbrev d : DomainNow
  d = staged_in memory

  -- if a tag is used, the slot has files
  pub has_by : (tag : Tag) → IsUsedIn memory number tag → HasFilesAmong d is.sound.files number
  has_by tag used = by_first (named_by first_tag_of d number) (is.sound.below.chains.slots number)
    where
      unused : cell_of d.pages (d.tags number) tag ≡ None → ⊥
      unused none = true≢false (sym used ∙ ap is_some none)

      by_first : (o : Option Home) → StandsInSlot d is.sound.files number o → HasFilesAmong d is.sound.files number
      by_first None empty = absurd (unused (ap (λ (ps : List TagPlace). cell_of d.pages ps tag) empty))
      by_first (Some home) stood = ⊎_elim (λ has. has) (λ empty. absurd (unused (empty.none tag))) stood

  module _ (has : HasFilesAmong d is.sound.files number) where
    abbrev pub at_slot : StandsAtSlot number d
    at_slot = record {
      files = is.sound.files;
      indexes = is.sound.indexes;
      below = is.sound.below;
      chains = has.chains;
      well = record { well = is.sound.below.chains.well; together = slot_together d is.sound.files is.sound.indexes is.sound.below is.sound.sound number has; among = has.among };
      alone = files_alone d is.sound.files is.sound.indexes is.sound.below is.alone;
      sound = sound_but d is.sound.files is.sound.indexes (IsNamedIn has.chains) is.sound.sound;
    }

module _ (memory : DomainMemory) (number : ℕ) (tag : Tag) (staged : ∥ IsStagedForSome memory ∥₁) (may : ∥ MayGoBack memory ∥₁) (used : IsUsedIn memory number tag) where
  pub there : IsSome (slot_in memory.slots.items number)
  there = by_slot (slot_in memory.slots.items number) refl
    where
      by_slot : (o : Option SlotFiles) → slot_in memory.slots.items number ≡ o → IsSome o
      by_slot None none = absurd (true≢false (sym used ∙ ap (λ o. is_some (cell_of (pages_of memory.pages) (places_in o) tag)) none))
      by_slot (Some files) some = refl

  module _ (slot : SlotFiles) (in_slot : slot_in memory.slots.items number ≡ Some slot) where
    pub its_number : slot.files.fileset ≡ number
    its_number = one_number slot.files.fileset number (∥∥₁_map may (λ m. subst (λ o. IfSome o (HasNumber number)) in_slot (m.has.numbered number)))

    -- files by the number are files by the slot
    files_by : (chains : Chains) → AreFiles number (places_in (slot_in memory.slots.items number)) (pages_of memory.pages) chains → AreFiles slot.files.fileset slot.files.tags (pages_of memory.pages) chains
    files_by chains are =
        subst (λ (n : ℕ). AreFiles n slot.files.tags (pages_of memory.pages) chains) (sym its_number)
        (subst (λ (o : Option SlotFiles). AreFiles number (places_in o) (pages_of memory.pages) chains) in_slot are)

    pub may_take : MayTakeOut tag memory.space (pages_of memory.pages) slot
    may_take = record {
      files = files_known slot.files.fileset slot.files.tags (pages_of memory.pages) (∥∥₁_map staged (λ s.
          let has = has_by memory number s.0 s.1 tag used in
          (has.chains, files_by has.chains has.are)));
      live = λ chains are. is_there (option_and_then (of_live attributes_of) (chains tag)) (∥∥₁_map staged (λ s.
          let has = has_by memory number s.0 s.1 tag used in
          subst (λ o. IsSome (option_and_then (of_live attributes_of) o)) (one_chains (pages_of memory.pages) slot.files.fileset slot.files.tags has.chains chains (files_by has.chains has.are) are tag)
          (live_then number tag (staged_in memory) (at_slot memory number s.0 s.1 has) s.1.sound.sound used)));
      index = λ chains are. index_known slot.files.tags memory.space (pages_of memory.pages) (chains tag) (∥∥₁_map staged (λ s.
          let has = has_by memory number s.0 s.1 tag used in
          subst (HasIndexApart slot.files.tags memory.space (pages_of memory.pages)) (one_chains (pages_of memory.pages) slot.files.fileset slot.files.tags has.chains chains (files_by has.chains has.are) are tag)
          (subst (λ (o : Option SlotFiles). HasIndexApart (places_in o) memory.space (pages_of memory.pages) (has.chains tag)) in_slot
          (index_then number tag (staged_in memory) (at_slot memory number s.0 s.1 has) s.1.sound.sound used))));
    }

  pub asks : IsSomeAnd (slot_in memory.slots.items number) (MayTakeOut tag memory.space (pages_of memory.pages))
  asks = by_slot (slot_in memory.slots.items number) refl there
    where
      by_slot : (o : Option SlotFiles) → slot_in memory.slots.items number ≡ o → IsSome o → IsSomeAnd o (MayTakeOut tag memory.space (pages_of memory.pages))
      by_slot None none some = absurd (true≢false (sym some))
      by_slot (Some slot) is some = may_take slot is
