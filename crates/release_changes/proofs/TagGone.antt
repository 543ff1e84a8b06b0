-- A tag that was taken out of use leads to nothing, and no other tag comes into use by it.
use Rattle.std.proofs.Common.{◌≡◌, ◌∙◌, ℕ, Bool, true, false, cond, List, Option, Some, None, IsSome, is_some, refl, sym, ap, subst, true≢false}
use Rattle.std.proofs.Math.Logic.{∥∥₁_elim}
use Rattle.domain_changes.specs.domain_base.declared.place.CellAt.{CellAt}
use Rattle.domain_changes.specs.domain_base.declared.place.Tag.{Tag}
use Rattle.domain_changes.specs.page_store.Bitfiles.{same_tag}
use Rattle.domain_changes.specs.tag_dirs.Directory.{cell_of}
use Rattle.domain_changes.specs.tag_dirs.declared.dir.TagPlace.{TagPlace}
use Rattle.domain_changes.specs.fileset_files.Changes.{without_chain}
use Rattle.domain_changes.specs.fileset_files.Files.{AreFiles}
use Rattle.domain_changes.proofs.OfFilesetFiles.Live.{each_named}
use Rattle.domain_changes.proofs.OfFilesetFiles.OneChain.{same_tag_itself}
use Rattle.domain_changes.specs.fileset_model.Filesets.{FilesetMap}
use Rattle.domain_changes.specs.staged_pages.Store.{pages_of}
use Rattle.domain_changes.specs.domain_layout.Read.{contents_of}
use Rattle.set_standing.specs.Around.{StandsAtSlot}
use Rattle.domain_changes.specs.domain_memory.Slots.{places_in, slot_in}
use Rattle.domain_changes.specs.domain_memory.declared.slots.SlotFiles.{SlotFiles}
use Rattle.domain_changes.specs.domain_memory.Going.{IsUsedIn}
use Rattle.domain_changes.specs.domain_memory.Staged.{IsStaged, IsStagedForSome, staged_in}
use Rattle.domain_changes.specs.domain_memory.declared.memory.DomainMemory.{DomainMemory}
use Rattle.release_changes.specs.Emptying.{TakesOut, UsesFewer}
use Rattle.release_changes.proofs.OutOfUse.{files_out}
use Rattle.release_changes.proofs.TagAsks.{at_slot, has_by}
use Rattle.release_changes.proofs.UsedTag.{names_used}

module _ (old new : DomainMemory) (number : ℕ) (tag : Tag) (used : IsUsedIn old number tag) (group : ℕ) (start : CellAt) (out : TakesOut group number (places_in (slot_in old.slots.items number)) tag start old.space new.space (pages_of old.pages) (pages_of new.pages))
    (slots : new.slots.items ≡ old.slots.items) where
  abbrev dir : List TagPlace
  dir = places_in (slot_in old.slots.items number)

  module _ (all : FilesetMap) (is : IsStaged old all) where
    abbrev at : StandsAtSlot number (staged_in old)
    at = at_slot old number all is (has_by old number all is tag used)

    files_now : AreFiles number dir (pages_of new.pages) (without_chain tag at.chains)
    files_now = files_out number tag group (staged_in old) at (pages_of new.pages) (contents_of (pages_of new.pages)) new.space start out

    none_now : cell_of (pages_of new.pages) dir tag ≡ None
    none_now = files_now.none tag (ap (λ (b : Bool). cond b None (at.chains tag)) (same_tag_itself tag))

    chain_was : (t : Tag) (b : Bool) → IsSome (cond b None (at.chains t)) → IsSome (at.chains t)
    chain_was t true some = absurd (true≢false (sym some))
    chain_was t false some = some

    used_was : (t : Tag) → IsSome (cell_of (pages_of new.pages) dir t) → IsSome (cell_of (pages_of old.pages) dir t)
    used_was t some =
        names_used number dir (pages_of old.pages) at.chains at.well.together.files t
        (chain_was t (same_tag t tag) (each_named number dir (pages_of new.pages) (without_chain tag at.chains) files_now (Some t) some))

  here : (t : Tag) → IsUsedIn new number t → IsSome (cell_of (pages_of new.pages) dir t)
  here t some = subst (λ (l : List (Option SlotFiles)). IsSome (cell_of (pages_of new.pages) (places_in (slot_in l number)) t)) slots some

  module _ (staged : ∥ IsStagedForSome old ∥₁) where
    none_then : ¬ IsUsedIn new number tag
    none_then some = ∥∥₁_elim staged (λ x y. absurd x) (λ s. true≢false (sym (here tag some) ∙ ap is_some (none_now s.0 s.1)))

    was_then : (t : Tag) → IsUsedIn new number t → IsUsedIn old number t
    was_then t some = by_test (is_some (cell_of (pages_of old.pages) dir t)) refl
      where
        by_test : (b : Bool) → is_some (cell_of (pages_of old.pages) dir t) ≡ b → b ≡ true
        by_test true is = refl
        by_test false is = absurd (∥∥₁_elim staged (λ x y. absurd x) (λ s. true≢false (sym (used_was s.0 s.1 t (here t some)) ∙ is)))

    pub uses_fewer : UsesFewer number old new
    uses_fewer = record { tag = tag; was = used; gone = none_then; others = was_then }
