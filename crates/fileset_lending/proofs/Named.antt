-- Lent files whose names have changed.
use Rattle.std.proofs.Common.{◌≡◌, ◌∙◌, ◌≤◌, ℕ, List, Some, IfSome, length, sym, ap, subst}
use Rattle.std.specs.FinMap.{get, insert}
use Rattle.domain_memory.specs.page_store.Bitfiles.{Bitfiles}
use Rattle.domain_memory.specs.tag_dirs.declared.dir.TagPlace.{TagPlace}
use Rattle.domain_memory.specs.free_cells.Cells.{Cells}
use Rattle.domain_memory.specs.free_space.Spaces.{Spaces}
use Rattle.domain_memory.specs.stored_set.Sets.{StandsAsSet}
use Rattle.fileset_lending.specs.Shown.{one_set, shown_stands}
use Rattle.fileset_lending.specs.declared.parts.CallSettings.{CallSettings}
use Rattle.domain_memory.specs.fileset_model.Filesets.{FilesetMap}
use Rattle.domain_memory.specs.fileset_model.declared.fileset.FilesetSlot.{FilesetSlot}
use Rattle.domain_memory.specs.fileset_model.declared.fileset.Role.{Role}
use Rattle.domain_memory.specs.fileset_model.declared.fileset.Role.TheVariants.{Original}
use Rattle.domain_memory.specs.legal_histories.Valid.{IsValidAs}
use Rattle.domain_memory.specs.fileset_table.declared.slot.FilesetEntry.{FilesetEntry}
use Rattle.domain_memory.specs.fileset_table.declared.slot.SlotItem.TheVariants as slot
use Rattle.domain_memory.specs.name_space.Changes.{IsOriginal}
use Rattle.domain_memory.specs.staged_pages.Store.{pages_of}
use Rattle.domain_memory.proofs.OfReleaseList.Spread.{some_same}
use Rattle.domain_memory.specs.domain_layout.Filled.{IsRole}
use Rattle.domain_memory.specs.domain_standing.Domain.{item_in}
use Rattle.domain_memory.proofs.OfStandingLaws.FilesetPut.{stood_in}
use Rattle.set_standing.specs.Around.{GoesOnAround}
use Rattle.set_standing.specs.Follow.{Said}
use Rattle.set_standing.specs.NamesNodes.{NodesFollow, named_shape}
use Rattle.set_standing.proofs.Filled.{new_stands}
use Rattle.domain_memory.specs.Slots.{HasNumber, places_in, slot_in}
use Rattle.domain_memory.specs.Staged.{IsStaged, MayGoBack, staged_in}
use Rattle.domain_memory.specs.declared.memory.DomainMemory.{DomainMemory}
use Rattle.fileset_lending.specs.Chosen.{AreSettingsOf, CallsChange, Lends, files_in}
use Rattle.fileset_lending.specs.declared.chosen.Chosen.{Chosen}
use Rattle.fileset_lending.proofs.Back.{go, now_staged, number_is}

-- the set that memory has lent stands in memory
pub set_of : (memory : DomainMemory) (number : ℕ) (settings : CallSettings) (chosen : Chosen) → Lends memory number settings chosen → chosen.set.parts.files.fileset ≡ number
    → let d = staged_in memory in StandsAsSet number (d.tags number) d.space d.cells d.pages (files_in chosen)
set_of memory number settings chosen lends is =
    let p = chosen.set.parts in
    let tags = places_in (slot_in memory.slots.items number) in
    subst (λ (n : ℕ). StandsAsSet n tags memory.space memory.cells (pages_of memory.pages) (files_in chosen)) is
    (subst (λ (ps : List TagPlace). StandsAsSet p.files.fileset ps memory.space memory.cells (pages_of memory.pages) (files_in chosen)) (sym (ap places_in lends.slot))
    (subst (λ (s : Spaces). StandsAsSet p.files.fileset p.files.tags s memory.cells (pages_of memory.pages) (files_in chosen)) lends.space
    (subst (λ (c : Cells). StandsAsSet p.files.fileset p.files.tags p.space c (pages_of memory.pages) (files_in chosen)) lends.cells
    (subst (λ (s : _). StandsAsSet p.files.fileset p.files.tags p.space p.cells (pages_of s) (files_in chosen)) lends.pages
    (shown_stands p.files.fileset p.files.tags p.space p.cells (pages_of p.pages) chosen.set.held)))))

module _ {said : Said} (old now : DomainMemory) (number : ℕ) (settings settings_now : CallSettings) (chosen after : Chosen) (entry : FilesetEntry) (all : FilesetMap) (is : IsStaged old all) (may : MayGoBack old) (item : item_in (staged_in old) number ≡ Some (slot.Original entry))
    (right : AreSettingsOf old settings) (lends : Lends old number settings chosen) (calls : CallsChange said chosen after) (lends_now : Lends now number settings_now after)
  where
    around : GoesOnAround said number (staged_in old) (staged_in now)
    around = go old now number settings settings_now chosen after entry all is may item right lends calls lends_now

    module _ (room : length now.listed.items ≤ now.list.room) (fileset fileset_now : FilesetSlot) (there : get all entry.name ≡ Some fileset) (makes : IsOriginal (files_in after) fileset_now) (follow : NodesFollow fileset.tree fileset_now.tree) where
      pub new_names_staged : IsStaged now (insert all entry.name fileset_now)
      new_names_staged =
          let it = stood_in (staged_in old) all is.stands.slots number entry item in
          let same : fileset ≡ it.fileset_was = some_same fileset it.fileset_was (sym there ∙ it.filled) in
          let number_now : after.set.parts.files.fileset ≡ number =
          calls.set.same_number ∙ number_is old now number settings settings_now chosen after entry all is may item right lends calls lends_now in
          let set = set_of now number settings_now after lends_now number_now in
          now_staged old now number settings settings_now chosen after entry all is may item right lends calls lends_now room (named_shape set.chains (files_in after) it.shape_was.limits) fileset_now
          (new_stands number entry (staged_in old) (staged_in now) it.shape_was it.fileset_was fileset_now (files_in after) is.stands.tables around.0.below.tables item it.stood around.1 set makes
          (subst (λ (f : FilesetSlot). NodesFollow f.tree fileset_now.tree) same follow))

-- the fileset that memory stands for is the one that the rows of the lent set make
pub lent_names : (memory : DomainMemory) (number : ℕ) (settings : CallSettings) (chosen : Chosen) (entry : FilesetEntry) (all : FilesetMap) → IsStaged memory all → MayGoBack memory → item_in (staged_in memory) number ≡ Some (slot.Original entry) → Lends memory number settings chosen
    → (fileset : FilesetSlot) → get all entry.name ≡ Some fileset → IsOriginal (files_in chosen) fileset
lent_names memory number settings chosen entry all is may item lends fileset there =
    let it = stood_in (staged_in memory) all is.stands.slots number entry item in
    let d = staged_in memory in
    let p = chosen.set.parts in
    let same : it.fileset_was ≡ fileset = some_same it.fileset_was fileset (sym it.filled ∙ there) in
    let number_of : p.files.fileset ≡ number = subst (λ o. IfSome o (HasNumber number)) lends.slot (may.has.numbered number) in
    let set = set_of memory number settings chosen lends number_of in
    let shown : files_in chosen ≡ it.shape_was.shown = one_set number (d.tags number) d.space d.cells d.pages (files_in chosen) it.shape_was.shown set it.stood.set in
    let role : it.fileset_was.role ≡ Original = subst (λ o. IsRole o it.fileset_was.role) it.stood.is.none it.stood.filled.role in
    subst (IsOriginal (files_in chosen)) same (subst (λ (files : Bitfiles). IsOriginal files it.fileset_was) (sym shown) (record {
      names = it.stood.filled.names;
      role = role;
      valid = subst (λ (r : Role). IsValidAs r it.fileset_was) role it.stood.filled.valid;
    }))
