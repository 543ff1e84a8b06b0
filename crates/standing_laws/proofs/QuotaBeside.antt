-- Bits and parents stay where an owner's limits are set.
use Rattle.std.proofs.Common.{◌≡◌, ◌∙◌, ⊎_elim, ℕ, false, Some, refl, sym, ap, subst}
use Rattle.domain_standing.specs.domain_base.declared.place.Home.{Home}
use Rattle.domain_standing.specs.free_space.Spaces.{Spaces}
use Rattle.domain_standing.specs.tag_dirs.Directory.{IsDirectoryAt}
use Rattle.domain_standing.specs.fileset_files.Files.{AreFiles}
use Rattle.domain_standing.specs.fileset_model.Filesets.{FilesetMap}
use Rattle.domain_standing.specs.fileset_table.declared.slot.FilesetEntry.{FilesetEntry}
use Rattle.domain_standing.specs.fileset_table.declared.slot.SlotItem.{SlotItem}
use Rattle.domain_standing.specs.fileset_table.declared.slot.SlotItem.TheVariants as slot
use Rattle.domain_standing.specs.release_list.Standing.{Files}
use Rattle.domain_standing.proofs.OfReleaseList.Spread.{some_same}
use Rattle.domain_standing.specs.domain_layout.CellRules.{of_clone}
use Rattle.domain_standing.specs.Chains.{IndexesAt}
use Rattle.domain_standing.specs.Domain.{DomainNow, item_in}
use Rattle.domain_standing.specs.Holders.Holder.{of_cells, of_table, of_volume}
use Rattle.domain_standing.specs.Slots.{StandSlots}
use Rattle.domain_standing.specs.Standing.{HaveParents, IsMarkedBut}
use Rattle.standing_laws.specs.Leads.{StandsBelow}
use Rattle.standing_laws.specs.OtherPages.{KeepsVolumes}
use Rattle.standing_laws.specs.SetsQuota.{SetsQuota, entry_limited}
use Rattle.standing_laws.proofs.BitsStay.{bits_stay}
use Rattle.standing_laws.proofs.FilesetPut.{StoodIn, stood_in}
use Rattle.standing_laws.proofs.ParentsElsewhere.{FilesStay, slot_parents}
use Rattle.standing_laws.proofs.QuotaSets.{begins, its_together, page_same}
use Rattle.standing_laws.proofs.QuotaSlots.{item_mine, item_other, number_or_not, off_tables}

no_cells : of_volume ≡ of_cells → ⊥
no_cells e = cc

no_table : of_volume ≡ of_table → ⊥
no_table e = cc

module _ (number : ℕ) (d now : DomainNow) (files files_now : Files) (indexes : IndexesAt) (below : StandsBelow d files indexes) (s : SetsQuota number d now files files_now) where
  keeps : KeepsVolumes d now
  keeps home member first = s.elsewhere home
      (off_tables number d now files files_now indexes below s of_volume home (member, first) no_cells)
      (λ at. no_table (below.owned.once home of_volume of_table (member, first) at))

  pub bits_limited : (space : Spaces) → IsMarkedBut (record d { space = space }) → IsMarkedBut (record now { space = space })
  bits_limited = bits_stay d now below.tables s.frame keeps

  module _ (all : FilesetMap) (slots : StandSlots d all) where
    abbrev entry_now : FilesetEntry
    entry_now = entry_limited s.sets.start s.entry

    mine : item_in now number ≡ Some (slot.Original entry_now)
    mine = item_mine number d now files files_now indexes below s

    others : (n : ℕ) → ¬ n ≡ number → item_in now n ≡ item_in d n
    others = item_other number d now files files_now indexes below s

    stay : (n : ℕ) (entry : FilesetEntry) → item_in d n ≡ Some (slot.Original entry) → (its : FilesetEntry) → entry.first_tag ≡ its.first_tag → FilesStay n d now its
    stay n entry there its same = record {
      entry = entry;
      there = there;
      chains = was.stood.set.chains;
      begins = begins_was;
      begins_now = subst (λ (home : Home). IsDirectoryAt now.pages home (d.tags n)) same (record { directory = files_here.directory; begins = begins_was.begins });
      are = was.stood.set.stands.together.files;
      are_now = files_here;
      same = page_same number d now files files_now indexes below s n entry was.shape_was was.fileset_was there was.stood;
    }
      where
        was : StoodIn d all slots n entry
        was = stood_in d all slots n entry there

        begins_was : IsDirectoryAt d.pages entry.first_tag (d.tags n)
        begins_was = begins number d now files files_now indexes below s n entry was.shape_was was.fileset_was there was.stood

        files_here : AreFiles n (d.tags n) now.pages was.stood.set.chains
        files_here = (its_together number d now files files_now indexes below s n entry was.shape_was was.fileset_was there was.stood).files

    first_of : SlotItem → Home → Home
    first_of (slot.Original entry) home = entry.first_tag
    first_of _ home = home

    first_same : (one other : FilesetEntry) → slot.Original one ≡ slot.Original other → one.first_tag ≡ other.first_tag
    unfolding first_of
    first_same one other same = ap (λ (item : SlotItem). first_of item one.first_tag) same

    stay_now : (n : ℕ) (its : FilesetEntry) → item_in now n ≡ Some (slot.Original its) → FilesStay n d now its
    stay_now n its at = ⊎_elim
        (λ same. stay n s.entry (ap (item_in d) same ∙ s.original) its (first_same entry_now its (some_same (slot.Original entry_now) (slot.Original its) (sym mine ∙ ap (item_in now) (sym same) ∙ at))))
        (λ differ. stay n its (sym (others n differ) ∙ at) its refl)
        (number_or_not number d now files files_now indexes below s n)

    no_clone_now : (n : ℕ) → of_clone (item_in now n) ≡ false
    no_clone_now n = ⊎_elim
        (λ same. ap (λ (k : ℕ). of_clone (item_in now k)) same ∙ ap of_clone mine)
        (λ differ. ap of_clone (others n differ) ∙ slots.no_clone n)
        (number_or_not number d now files files_now indexes below s n)

    pub parents_limited : HaveParents d → HaveParents now
    parents_limited parents n = slot_parents d now n s.frame (no_clone_now n) (stay_now n) (parents n)
