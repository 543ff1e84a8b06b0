-- Memory stands for the same filesets if a quota cell of what is being removed goes.
use Rattle.std.proofs.Common.{◌≡◌, ◌≤◌, ◌∙◌, ℕ, Some, IsSomeAnd, length, sym, ap, subst}
use Rattle.std.specs.FinMap.{get}
use Rattle.domain_changes.specs.free_space.Spaces.{Spaces, kept_spaces}
use Rattle.domain_changes.specs.fileset_model.Filesets.{FilesetMap}
use Rattle.domain_changes.specs.fileset_table.declared.slot.FilesetEntry.{FilesetEntry}
use Rattle.domain_changes.specs.fileset_table.declared.slot.SlotItem.TheVariants as slot
use Rattle.domain_changes.specs.release_list.Standing.{Files}
use Rattle.domain_changes.specs.quota_book.Book.{Book}
use Rattle.domain_changes.specs.quota_book.Sums.{IsBookOf}
use Rattle.domain_changes.specs.domain_standing.Chains.{IndexesAt}
use Rattle.domain_changes.specs.domain_standing.Domain.{DomainNow, item_in}
use Rattle.domain_changes.specs.standing_laws.Leads.{StandsBelow}
use Rattle.release_laws.specs.QuotaCells.{EndsQuotaOf, LosesQuotaOf}
use Rattle.domain_changes.specs.domain_standing.Slots.{StandSlots}
use Rattle.domain_changes.specs.standing_laws.Sound.{StandsSound}
use Rattle.domain_changes.specs.domain_standing.Sources.{StandAlone}
use Rattle.domain_changes.specs.domain_standing.Standing.{HaveParents, IsMarkedBut}
use Rattle.release_laws.proofs.QuotaEnded.{alone_ended, below_ended, bits_ended, original_ended, parents_ended, slots_ended, sound_ended}
use Rattle.release_laws.proofs.QuotaLost.{alone_lost, below_lost, bits_lost, parents_lost, slots_lost, sound_lost}
use Rattle.domain_changes.specs.domain_memory.Listing.{HaveOnce}
use Rattle.domain_changes.specs.domain_memory.Slots.{book_in, slot_in}
use Rattle.domain_changes.specs.domain_memory.Staged.{MayBeKept, staged_in}
use Rattle.domain_changes.specs.domain_memory.declared.memory.DomainMemory.{DomainMemory}

module _ (old new : DomainMemory) (same : new ≡ record old { pages = new.pages; cells = new.cells; table = new.table; was = new.was }) (all : FilesetMap) (ready : MayBeKept old all) (files_now : Files) where
  abbrev d : DomainNow
  d = staged_in old

  abbrev now : DomainNow
  now = staged_in new

  abbrev pub files : Files
  files = ready.staged.sound.files

  abbrev indexes : IndexesAt
  indexes = ready.staged.sound.indexes

  kept_same : kept_spaces new.space ≡ kept_spaces old.space
  kept_same = ap (λ (m : DomainMemory). kept_spaces m.space) same

  module _ (after : StandsBelow now files_now indexes) (alone_now : StandAlone now) (sound_now : StandsSound now files_now indexes) (slots_now : StandSlots now all) (parents_now : HaveParents now)
      (marked_now : IsMarkedBut (record now { space = kept_spaces old.space })) (originals : (n : ℕ) (entry : FilesetEntry) → item_in now n ≡ Some (slot.Original entry) → item_in d n ≡ Some (slot.Original entry)) where
    kept_so : MayBeKept new all
    kept_so = record {
      staged = record {
        stands = record { tables = after.tables; files = files_now; indexes = indexes; chains = after.chains; owned = after.owned; rest = after.rest; slots = slots_now };
        alone = alone_now;
        sound = record { files = files_now; indexes = indexes; below = after; sound = sound_now };
        marked = subst (λ (s : Spaces). IsMarkedBut (record now { space = s })) (sym kept_same) marked_now;
        once = subst (λ (m : DomainMemory). HaveOnce m.list.list.entries) (sym same) ready.staged.once;
        room = subst (λ (m : DomainMemory). length m.listed.items ≤ m.list.room) (sym same) ready.staged.room;
      };
      parents = parents_now;
      books = λ n entry there. subst (λ (b : Book). IsSomeAnd (get all entry.name) (λ fileset. IsBookOf b fileset.tree)) (sym (ap (λ (m : DomainMemory). book_in (slot_in m.slots.items n)) same)) (ready.books n entry (originals n entry there));
    }

  pub kept_lost : (number : ℕ) → LosesQuotaOf number d now files files_now → MayBeKept new all
  kept_lost number s =
      let below = ready.staged.sound.below in
      let alone = ready.staged.alone in
      kept_so
      (below_lost d now files files_now indexes below alone number s)
      (alone_lost d now files files_now indexes below alone number s)
      (sound_lost d now files files_now indexes below alone number s ready.staged.sound.sound)
      (slots_lost d now files files_now indexes below alone number s all ready.staged.stands.slots)
      (parents_lost d now files files_now indexes below alone number s all ready.staged.stands.slots ready.parents)
      (bits_lost d now files files_now indexes below alone number s (kept_spaces old.space) ready.staged.marked)
      (λ n entry there. ap (λ (x : DomainNow). item_in x n) (sym s.same) ∙ there)

  pub kept_ended : (number : ℕ) → EndsQuotaOf number d now files files_now → MayBeKept new all
  kept_ended number s =
      let below = ready.staged.sound.below in
      let alone = ready.staged.alone in
      kept_so
      (below_ended d now files files_now indexes below alone number s)
      (alone_ended d now files files_now indexes below alone number s)
      (sound_ended d now files files_now indexes below alone number s ready.staged.sound.sound)
      (slots_ended d now files files_now indexes below alone number s all ready.staged.stands.slots)
      (parents_ended d now files files_now indexes below alone number s all ready.staged.stands.slots ready.parents)
      (bits_ended d now files files_now indexes below alone number s (kept_spaces old.space) ready.staged.marked)
      (original_ended d now files files_now indexes below alone number s)
