-- A call on names over the files that memory has lent.
use Rattle.std.proofs.Common.{◌≡◌, ◌∙◌, ◌≤◌, length, true, true≢false, Option, Some, None, Result, Ok, Err, IfOk, IfErr, refl, sym, subst, ℕ}
use Rattle.std.proofs.Math.Logic.{∥∥₁_map₂}
use Rattle.fileset_lending.specs.domain_base.declared.place.Kind.{Kind}
use Rattle.fileset_lending.specs.domain_base.declared.place.Kind.TheVariants as kind
use Rattle.fileset_lending.specs.page_store.Bitfiles.{Bitfiles}
use Rattle.fileset_lending.specs.fileset_model.Fileset.{Fileset}
use Rattle.fileset_lending.specs.fileset_model.Filesets.{FilesetMap}
use Rattle.fileset_lending.specs.fileset_model.declared.fileset.FilesetSlot.{FilesetSlot}
use Rattle.fileset_lending.specs.fileset_table.declared.slot.FilesetEntry.{FilesetEntry}
use Rattle.fileset_lending.specs.fileset_table.declared.slot.SlotItem.{SlotItem}
use Rattle.fileset_lending.specs.fileset_table.declared.slot.SlotItem.TheVariants as slot
use Rattle.fileset_lending.specs.name_space.Changes.{Checks, HasOriginal, IsFaultOf, IsOriginal, new_node}
use Rattle.fileset_lending.specs.name_space.declared.fault.NameFault.{NameFault}
use Rattle.fileset_lending.specs.name_space.declared.fault.NameFault.TheVariants.{NoPage, OutOfMemory, Refused}
use Rattle.name_changes.proofs.AtHand.{at_hand}
use Rattle.fileset_lending.specs.set_standing.NamesNodes.{IsNewNode, NodesFollow}
use Rattle.fileset_lending.specs.Rest.{rest_is, rest_joined}
use Rattle.fileset_lending.specs.declared.parts.CallSettings.{CallSettings}
use Rattle.fileset_lending.specs.domain_layout.CellRules.{of_original}
use Rattle.fileset_lending.specs.domain_standing.Domain.{item_in}
use Rattle.fileset_lending.proofs.OfStandingLaws.FilesetPut.{stood_in}
use Rattle.fileset_lending.specs.domain_memory.Kept.{KeepsKept}
use Rattle.fileset_lending.specs.domain_memory.Staged.{IsStagedForSome, MayGoBack, staged_in}
use Rattle.fileset_lending.specs.domain_memory.declared.memory.DomainMemory.{DomainMemory}
use Rattle.fileset_lending.specs.Chosen.{AreSettingsOf, CallsChange, Lends, files_in}
use Rattle.fileset_lending.specs.declared.chosen.Chosen.{Chosen}
use Rattle.fileset_lending.specs.set_standing.Follow.{Said}
use Rattle.fileset_lending.proofs.Back.{goes_back, kept_still}
use Rattle.fileset_lending.proofs.Named.{lent_names, new_names_staged}
use Rattle.name_changes.specs.Stages.{HasFileset, IsRefused, StandsWith}

-- ---- answers

pub ok_by : {A E : Type 0} (P Q : A → Type 0) (r : Result A E) → IfOk r P → ((a : A) → P a → Q a) → IfOk r Q
ok_by P Q (Ok a) is by = by a is
ok_by P Q (Err e) is by = is

pub ok_both : {A E : Type 0} (P Q : A → Type 0) (r : Result A E) → IfOk r P → IfOk r Q → IfOk r (λ a. P a × Q a)
ok_both P Q (Ok a) one two = (one, two)
ok_both P Q (Err e) one two = one

pub err_by : {A : Type 0} (P Q : NameFault → Type 0) (r : Result A NameFault) → IfErr r P → ((e : NameFault) → P e → Q e) → IfErr r Q
err_by P Q (Ok a) is by = is
err_by P Q (Err e) is by = by e is

pub is_refused : (checks : Checks) (old new : Bitfiles) (before after : ℕ) (fileset : FilesetSlot) → IsOriginal old fileset → (fault : NameFault) → IsFaultOf checks old new before after fault → IsRefused checks fileset fault
is_refused checks old new before after fileset was (Refused refusal) is = is.1 fileset was
is_refused checks old new before after fileset was NoPage is = is.1 fileset was
is_refused checks old new before after fileset was OutOfMemory is = tt

pub new_is : (of : Kind) (uid gid : ℕ) → IsNewNode (new_node of uid gid)
new_is kind.File uid gid = (refl, refl, refl)
new_is kind.Directory uid gid = tt

-- ---- one call after another

pub no_calls : (chosen : Chosen) → CallsChange None chosen chosen
no_calls chosen = record { set = rest_is _ _ _ _ _; rest = refl }

pub calls_joined : {said : Said} (chosen between after : Chosen) → CallsChange None chosen between → CallsChange said between after → CallsChange said chosen after
calls_joined {said} chosen between after one two = record { set = rest_joined said _ _ _ _ _ _ _ _ _ _ _ _ _ _ _ one.set two.set; rest = two.rest ∙ one.rest }

-- ---- what memory has lent

abbrev pub HasEntry : Option SlotItem → Type 0
HasEntry o = (entry : FilesetEntry) × (o ≡ Some (slot.Original entry))

has_entry : (o : Option SlotItem) → of_original o ≡ true → HasEntry o
has_entry None is = absurd (true≢false (sym is))
has_entry (Some slot.Free) is = absurd (true≢false (sym is))
has_entry (Some (slot.Original entry)) is = (entry, refl)
has_entry (Some (slot.Clone of clone entry)) is = absurd (true≢false (sym is))
has_entry (Some (slot.Removed first_tag quota)) is = absurd (true≢false (sym is))

module _ (memory : DomainMemory) (number : ℕ) (settings : CallSettings) (chosen : Chosen) (lends : Lends memory number settings chosen) (staged : ∥ IsStagedForSome memory ∥₁) (may : ∥ MayGoBack memory ∥₁) (original : of_original (item_in (staged_in memory) number) ≡ true) where
  pub its : HasEntry (item_in (staged_in memory) number)
  its = has_entry (item_in (staged_in memory) number) original

  pub has_names : HasOriginal (files_in chosen)
  has_names = at_hand (files_in chosen) (∥∥₁_map₂ staged may (λ s m.
      let it = stood_in (staged_in memory) s.0 s.1.stands.slots number its.0 its.1 in
      (it.fileset_was, lent_names memory number settings chosen its.0 s.0 s.1 m its.1 lends it.fileset_was it.filled)))

  pub names_were : (all : FilesetMap) (entry : FilesetEntry) (fileset : FilesetSlot) → HasFileset memory number all entry fileset → IsOriginal (files_in chosen) fileset
  names_were all entry fileset h = lent_names memory number settings chosen entry all h.staged h.may h.original lends fileset h.there

  module _ {said : Said} (right : AreSettingsOf memory settings) (after : Chosen) (now : DomainMemory) (calls : CallsChange said chosen after) (lends_now : Lends now after.rest.number after.set.settings after) (same : after.rest.number ≡ chosen.rest.number) where
    pub lends_here : Lends now number after.set.settings after
    lends_here = subst (λ (n : ℕ). Lends now n after.set.settings after) (same ∙ lends.same_number) lends_now

    pub kept : ∥ KeepsKept memory now ∥₁
    kept = ∥∥₁_map₂ staged may (λ s m. kept_still memory now number settings after.set.settings chosen after its.0 s.0 s.1 m its.1 right lends calls lends_here)

    pub back : ∥ MayGoBack now ∥₁
    back = ∥∥₁_map₂ staged may (λ s m. goes_back memory now number settings after.set.settings chosen after its.0 s.0 s.1 m its.1 right lends calls lends_here)

    pub stands_with : (all : FilesetMap) (entry : FilesetEntry) (fileset : FilesetSlot) → HasFileset memory number all entry fileset → (tree : Fileset) → IsOriginal (files_in after) (record fileset { tree = tree }) → NodesFollow fileset.tree tree → length now.listed.items ≤ now.list.room → StandsWith all entry fileset now tree
    stands_with all entry fileset h tree makes follow room =
        new_names_staged memory now number settings after.set.settings chosen after entry all h.staged h.may h.original right lends calls lends_here room fileset (record fileset { tree = tree }) h.there makes follow
