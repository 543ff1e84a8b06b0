-- Pages that were brought agree with the image where the rules look.
use Rattle.std.proofs.Common.{◌≡◌, ◌∙◌, ℕ, List, Option, Some, None, refl, sym, ap, ⊎_elim}
use Rattle.std.specs.Option.{option_or}
use Rattle.slot_files.specs.page_store.Pages.{Pages}
use Rattle.slot_files.specs.volume_disk.Disk.{Disk, Tells}
use Rattle.slot_files.specs.log_ring.Groups.{Group, pages_in, redone}
use Rattle.slot_files.specs.domain_layout.Reached.{Frame}
use Rattle.slot_files.specs.domain_layout.Looks.{AgreeWhereRulesLook}
use Rattle.image_loading.specs.Loading.{AreImagesOf, Brings, HasWhereRulesLook}
use Rattle.image_loading.proofs.Brought.{none_there, some_there}

pub brought_agree : (old new : Disk) (before after : Pages) (groups : List Group) (frame : Frame) → Tells old → AreImagesOf groups before → Brings old new before after → HasWhereRulesLook after frame
    → AgreeWhereRulesLook after (redone groups old.now.contents) frame
brought_agree old new before after groups frame told images brings has home looked = by_before (before home) refl
  where
    laid : option_or (before home) (pages_in old.now.contents home) ≡ redone groups old.now.contents home
    laid = ap (λ o. option_or o (pages_in old.now.contents home)) (images home)

    by_before : (o : Option (List ℕ)) → before home ≡ o → after home ≡ redone groups old.now.contents home
    by_before (Some page) is =
        brings.kept home (some_there (before home) page is) ∙ is ∙ sym (ap (λ o. option_or o (pages_in old.now.contents home)) is) ∙ laid
    by_before None is =
        ⊎_elim (λ gone. absurd (none_there (after home) gone (has home looked)))
        (λ there. there ∙ sym (ap (λ o. option_or o (pages_in old.now.contents home)) is) ∙ laid) (brings.added told home is)
