-- A domain with the change by which the limits of a whole fileset are set.
use Rattle.std.proofs.Common.{◌≡◌, ◌≤◌, ℕ, List, [], Option, Some, None, length, sym, ap, subst}
use Rattle.std.specs.FinMap.{get}
use Rattle.std.specs.Option.{unwrap_or}
use Rattle.domain_memory.specs.domain_base.declared.place.Home.{Home}
use Rattle.domain_memory.specs.free_space.Spaces.{Spaces, kept_spaces}
use Rattle.domain_memory.specs.fileset_model.Filesets.{FilesetMap}
use Rattle.domain_memory.specs.fileset_values.declared.command.Owner.TheVariants as owner
use Rattle.domain_memory.specs.fileset_model.declared.fileset.FilesetSlot.{FilesetSlot}
use Rattle.domain_memory.specs.fileset_model.declared.fileset.Limits.{Limits}
use Rattle.domain_memory.specs.fileset_table.declared.slot.FilesetEntry.{FilesetEntry}
use Rattle.domain_memory.specs.fileset_table.declared.slot.SlotItem.TheVariants as slot
use Rattle.domain_memory.specs.domain_standing.Domain.{DomainNow}
use Rattle.domain_memory.specs.domain_standing.Standing.{IsMarkedBut}
use Rattle.domain_memory.specs.Listing.{HaveOnce}
use Rattle.domain_memory.specs.standing_laws.BoundedFileset.{BoundsFileset, entry_bounded}
use Rattle.domain_memory.specs.standing_laws.Leads.{StandsBelow}
use Rattle.domain_memory.proofs.OfStandingLaws.FilesetBounded.{after, alone_bounded, bits_bounded, books_bounded, domain_bounded, parents_bounded}
use Rattle.domain_memory.specs.standing_laws.Sound.{IsSound}
use Rattle.domain_memory.proofs.OfStandingLaws.SoundInPlace.{sound_bounded}
use Rattle.domain_memory.specs.Staged.{IsStaged, staged_books, staged_in}
use Rattle.domain_memory.specs.declared.memory.DomainMemory.{DomainMemory}
use Rattle.domain_changes.specs.Table.{HasOriginal, PutsSlot}
use Rattle.domain_changes.proofs.Limited.{IsLimited}
use Rattle.domain_changes.proofs.SlotPut.{staged_put}

module _ (number : ℕ) (entry : FilesetEntry) (limits : Limits) (old new : DomainMemory) (fresh : old.was ≡ None) (has : HasOriginal old number entry) (puts : PutsSlot number (slot.Original (entry_bounded limits entry)) old new)
    (all : FilesetMap) (is : IsStaged old all) (fileset : FilesetSlot) (there : get all entry.name ≡ Some fileset)
  where
    abbrev d : DomainNow
    d = staged_in old

    abbrev now : DomainNow
    now = staged_in new

    bounds : BoundsFileset number entry limits d now
    bounds = record {
      was = has;
      table = puts.table;
      says = puts.says;
      others = puts.others;
      same = staged_put number (slot.Original (entry_bounded limits entry)) old new fresh puts;
    }

    bytes : (home : Home) → now.pages home ≡ d.pages home → now.contents home ≡ d.contents home
    bytes home same = ap (λ (o : Option (List ℕ)). unwrap_or o []) same

    below : StandsBelow d is.stands.files is.stands.indexes
    below = record { tables = is.stands.tables; chains = is.stands.chains; owned = is.stands.owned; rest = is.stands.rest }

    sound_still : IsSound now
    sound_still = record {
      files = is.sound.files;
      indexes = is.sound.indexes;
      below = after number entry limits d now is.sound.files is.sound.indexes is.sound.below bounds;
      sound = sound_bounded number entry limits d now is.sound.files is.sound.indexes is.sound.below is.sound.sound bounds;
    }

    pub bounded_so : IsLimited number owner.Fileset limits entry all fileset old new
    bounded_so = record {
      staged = record {
        stands = domain_bounded number entry limits d now bounds bytes all is.stands fileset there;
        alone = alone_bounded number entry limits d now is.stands.files is.stands.indexes below bounds is.alone;
        sound = sound_still;
        marked = subst (λ (s : Spaces). IsMarkedBut (record now { space = kept_spaces s })) (sym (ap (λ (m : DomainMemory). m.space) puts.same))
            (bits_bounded number entry limits d now is.stands.files is.stands.indexes below bounds (kept_spaces old.space) is.marked);
        once = subst (λ (m : DomainMemory). HaveOnce m.list.list.entries) (sym puts.same) is.once;
        room = subst (λ (m : DomainMemory). length m.listed.items ≤ m.list.room) (sym puts.same) is.room;
      };
      parents = parents_bounded number entry limits d now is.stands.files is.stands.indexes below bounds all is.stands.slots;
      books = λ books others limited are. books_bounded number entry limits d now is.stands.files is.stands.indexes below bounds (staged_books old) books others limited all fileset there are;
    }
