-- The files of a fileset are among those of a domain once one of them is another, or new.
use Rattle.std.proofs.Common.{◌≡◌, ◌∙◌, ℕ, ◌≤◌, true, false, List, Option, Some, None, IfSome, Contains, refl, sym, ap, subst, ⊎_elim}
use Rattle.std.proofs.lemmas.Bool.{cases_Bool}
use Rattle.std.specs.Option.{option_and_then}
use Rattle.release_list.specs.domain_base.declared.place.CellAt.{CellAt}
use Rattle.release_list.specs.domain_base.declared.place.Home.{Home}
use Rattle.release_list.specs.domain_base.declared.place.Tag.{Tag}
use Rattle.release_list.specs.page_store.Bitfiles.{same_tag}
use Rattle.release_list.specs.page_store.Pages.{Pages}
use Rattle.release_list.specs.cell_records.declared.record.Leftover.TheVariants.{Trim}
use Rattle.release_list.specs.metadata_cells.Chain.{PlacedCell}
use Rattle.release_list.specs.tag_dirs.declared.dir.TagPlace.{TagPlace}
use Rattle.release_list.specs.tag_dirs.Directory.{has_home}
use Rattle.release_list.specs.free_cells.Cells.{Cells}
use Rattle.release_list.specs.free_space.Spaces.{Spaces}
use Rattle.release_list.specs.fileset_files.Files.{Chains, is_removed}
use Rattle.release_list.specs.fileset_files.Together.{IsHeldApart}
use Rattle.release_list.proofs.OfFilesetFiles.OneFile.{tags_same}
use Rattle.release_list.specs.declared.list.Entry.{Entry}
use Rattle.release_list.specs.Listed.{left_of}
use Rattle.release_list.specs.Listing.{Listing}
use Rattle.release_list.specs.Standing.{Files, StandTogether, with_file}
use Rattle.release_list.specs.Steps.{now_of}
use Rattle.release_list.proofs.Standings.{file_other}
use Rattle.release_steps.specs.Tags.{AreAmong, chains_in, start_of}
use Rattle.release_steps.proofs.OneFile.{IsPut, was_there}

-- the file of a tag, by where it begins
pub file_of_tag : (files : Files) (chains : Chains) (tag : Tag) (cs : List PlacedCell) (at : CellAt) → chains_in files chains tag ≡ chains tag → chains tag ≡ Some cs → start_of cs ≡ Some at → files at ≡ Some cs
file_of_tag files chains tag cs at same is start =
    sym (ap (λ o. option_and_then files (option_and_then start_of o)) is ∙ ap (option_and_then files) start) ∙ same ∙ is

module _ (list : Listing) (space space_now : Spaces) (cells cells_now : Cells) (old new : Pages) (files : Files) (together : StandTogether space cells old files) (at : CellAt) (after : List PlacedCell) (more : ℕ → Home → Type 0) (put : IsPut space space_now cells cells_now new files at after more)
    (tag : Tag) (places places_now : List TagPlace) (chains chains_now : Chains) (among : AreAmong (now_of list files space cells old) places chains) (others : (t : Tag) → same_tag t tag ≡ false → chains_now t ≡ chains t)
    (starts : (t : Tag) (a : CellAt) → same_tag t tag ≡ false → option_and_then start_of (chains t) ≡ Some a → ¬ a ≡ at) (own : chains_in (with_file at (Some after) files) chains_now tag ≡ chains_now tag) (live : IfSome (chains_now tag) (λ cells. is_removed cells ≡ false))
    (trim : (e : Entry) → Contains list.entries e → option_and_then start_of (chains_now tag) ≡ Some e.at → option_and_then left_of (chains_now tag) ≡ Some Trim)
    (low : (home : Home) → has_home places_now home ≡ true → 1 ≤ home.vol) (tags : (home : Home) → IsHeldApart space cells home → has_home places home ≡ false → has_home places_now home ≡ false) (more_tags : (p : ℕ) (home : Home) → more p home → has_home places_now home ≡ false)
    (listed : (home : Home) → Contains list.tag_pages home → IsHeldApart space cells home) where
  abbrev now : Files
  now = with_file at (Some after) files

  other_chain : (t : Tag) → same_tag t tag ≡ false → chains_in now chains_now t ≡ chains_now t
  other_chain t other =
      ap (λ o. option_and_then now (option_and_then start_of o)) (others t other)
      ∙ by_start (option_and_then start_of (chains t)) refl ∙ among.same t ∙ sym (others t other)
    where
      by_start : (o : Option CellAt) → option_and_then start_of (chains t) ≡ o → option_and_then now (option_and_then start_of (chains t)) ≡ option_and_then files (option_and_then start_of (chains t))
      by_start None is = ap (option_and_then now) is ∙ sym (ap (option_and_then files) is)
      by_start (Some a) is = ap (option_and_then now) is ∙ file_other at (Some after) files a (starts t a other is) ∙ sym (ap (option_and_then files) is)

  pub still_among : AreAmong (now_of list now space_now cells_now new) places_now chains_now
  still_among = record {
    same = λ t. ⊎_elim
        (λ same. subst (λ (u : Tag). chains_in now chains_now u ≡ chains_now u) (sym (tags_same t tag same)) own)
        (λ other. other_chain t other)
        (cases_Bool (same_tag t tag));
    live = λ t. ⊎_elim
        (λ same. subst (λ (u : Tag). IfSome (chains_now u) (λ cells. is_removed cells ≡ false)) (sym (tags_same t tag same)) live)
        (λ other. subst (λ o. IfSome o (λ cells. is_removed cells ≡ false)) (sym (others t other)) (among.live t))
        (cases_Bool (same_tag t tag));
    trimmed = λ e inside t. ⊎_elim
        (λ same. subst (λ (u : Tag). option_and_then start_of (chains_now u) ≡ Some e.at → option_and_then left_of (chains_now u) ≡ Some Trim) (sym (tags_same t tag same)) (trim e inside))
        (λ other. subst (λ o. option_and_then start_of o ≡ Some e.at → option_and_then left_of o ≡ Some Trim) (sym (others t other)) (among.trimmed e inside t))
        (cases_Bool (same_tag t tag));
    low = low;
    no_tags = λ a p home is. ⊎_elim
        (λ was. tags home (together.held a p home was) (among.no_tags a p home was))
        (λ fresh. more_tags p home fresh.1)
        (was_there space space_now cells cells_now old new files together at after more put a p home is);
    not_listed = λ home inside. tags home (listed home inside) (among.not_listed home inside);
  }
