-- What waits goes on to wait over calls on a tag, and nothing else does.
use Rattle.std.proofs.Common.{◌≡◌, ◌∙◌, ◌-◌, ⊎_elim, ℕ, Bool, true, false, nat_eq, List, Option, Some, None, IsSomeAnd, Contains, get_or, refl, sym, ap, subst}
use Rattle.std.proofs.lemmas.Bool.{both_ways, eq-eqb, eqb-true}
use Rattle.std.specs.Option.{option_map}
use Rattle.release_list.specs.domain_base.declared.place.Tag.{Tag}
use Rattle.release_list.specs.domain_base.declared.version.Version.{Version}
use Rattle.release_list.specs.page_store.Pages.{Pages}
use Rattle.release_list.specs.free_cells.Cells.{Cells}
use Rattle.release_list.specs.free_space.declared.waiting.Waiting.{Waiting}
use Rattle.release_list.specs.free_space.VolumeSpace.{VolumeSpace, with_page}
use Rattle.release_list.specs.free_space.Spaces.{Spaces, change_volume, volume_of}
use Rattle.release_list.proofs.OfFreeSpace.Places.{volume_of-change_other, volume_of-change_same}
use Rattle.release_list.specs.file_chains.MapChanges.{TakesOne}
use Rattle.release_steps.specs.Calls.{Call, Calls, FilesetNow, cut, described, dropped, given, indexed, made, moved, no_call, one_more, put_in, refused}
use Rattle.release_steps.specs.Waits.{Waits}

-- what waits on a volume
abbrev pub waiting_on : Spaces → ℕ → Option (List Waiting)
waiting_on space vol = option_map (λ (v : VolumeSpace). v.waiting) (volume_of space vol)

pub waiting_taken : (space : Spaces) (vol p other : ℕ) → waiting_on (change_volume (with_page p) space vol) other ≡ waiting_on space other
waiting_taken space vol p other = by_volume (nat_eq (other - 1) (vol - 1)) refl
  where
    still : (o : Option VolumeSpace) → option_map (λ (v : VolumeSpace). v.waiting) (option_map (with_page p) o) ≡ option_map (λ (v : VolumeSpace). v.waiting) o
    still None = refl
    still (Some v) = refl

    by_volume : (b : Bool) → nat_eq (other - 1) (vol - 1) ≡ b → waiting_on (change_volume (with_page p) space vol) other ≡ waiting_on space other
    by_volume true is =
        let same = eqb-true (other - 1) (vol - 1) is in
        ap (option_map (λ (v : VolumeSpace). v.waiting)) (ap (λ i. get_or (change_volume (with_page p) space vol).volumes i None) same ∙ volume_of-change_same (with_page p) space vol ∙ ap (λ i. option_map (with_page p) (get_or space.volumes i None)) (sym same))
        ∙ still (volume_of space other)
    by_volume false apart =
        ap (option_map (λ (v : VolumeSpace). v.waiting)) (volume_of-change_other (with_page p) space vol other (λ same. both_ways (nat_eq (other - 1) (vol - 1)) apart (eq-eqb (other - 1) (vol - 1) same)))

pub waiting_one : (prefer : ℕ) (space space_now : Spaces) (cells cells_now : Cells) (old : Pages) → TakesOne prefer space space_now cells cells_now old → (vol : ℕ) → waiting_on space_now vol ≡ waiting_on space vol
waiting_one prefer space space_now cells cells_now old one vol = ⊎_elim
    (λ had. ap (λ s. waiting_on s vol) had.same_space)
    (λ none. ap (λ s. waiting_on s vol) none.adds.used ∙ waiting_taken space none.home.vol none.home.page vol)
    one.takes.before

module _ (fileset : ℕ) (version : Version) (tag : Tag) (old new : FilesetNow) (vol : ℕ) where
  abbrev Same : Type 0
  Same = waiting_on new.domain.space vol ≡ waiting_on old.domain.space vol

  same_space : new.domain.space ≡ old.domain.space → Same
  same_space same = ap (λ s. waiting_on s vol) same

  waiting_call : Call fileset version tag old new → Same
  waiting_call (refused s) = ⊎_elim same_space (λ miss. ap (λ s. waiting_on s vol) miss) s.space
  waiting_call (given s) = ⊎_elim
      (λ same. ap (λ s. waiting_on s vol) same.0 ∙ waiting_taken old.domain.space s.home.vol s.home.page vol)
      (λ one. waiting_one s.prefer _ new.domain.space old.domain.cells new.domain.cells old.domain.pages one.1 vol ∙ waiting_taken old.domain.space s.home.vol s.home.page vol)
      s.taken.taken
  waiting_call (moved s) = ⊎_elim
      (λ same. same_space same.0)
      (λ one. waiting_one s.home.vol old.domain.space new.domain.space old.domain.cells new.domain.cells old.domain.pages one.1 vol)
      s.taken
  waiting_call (described value s) = same_space s.space
  waiting_call (put_in parent s) = same_space s.space
  waiting_call (indexed index s) = same_space s.space
  waiting_call (cut size lowered s) = same_space s.space
  waiting_call (dropped s) = same_space s.space
  waiting_call (made s) = ⊎_elim
      (λ cell. waiting_one s.prefer old.domain.space new.domain.space old.domain.cells new.domain.cells old.domain.pages cell.cell vol)
      (λ page. waiting_one s.prefer _ new.domain.space old.domain.cells new.domain.cells old.domain.pages page.cell vol ∙ waiting_taken old.domain.space page.home.vol page.home.page vol)
      s.taken

waiting_still : (fileset : ℕ) (version : Version) (tag : Tag) (first last : FilesetNow) → Calls fileset version tag first last → (vol : ℕ) → waiting_on last.domain.space vol ≡ waiting_on first.domain.space vol
waiting_still fileset version tag first last calls vol =
    elim calls as (λ last calls. waiting_on last.domain.space vol ≡ waiting_on first.domain.space vol) [
      | no_call ↦ refl
      | one_more between last (calls → was) call ↦ waiting_call fileset version tag between last vol call ∙ was
    ]

pub among : (page : Waiting) (o : Option VolumeSpace) → IsSomeAnd o (λ v. Contains v.waiting page) → IsSomeAnd (option_map (λ (v : VolumeSpace). v.waiting) o) (λ ws. Contains ws page)
among page None is = is
among page (Some v) is = is

pub back : (page : Waiting) (o : Option VolumeSpace) → IsSomeAnd (option_map (λ (v : VolumeSpace). v.waiting) o) (λ ws. Contains ws page) → IsSomeAnd o (λ v. Contains v.waiting page)
back page None is = is
back page (Some v) is = is

pub same_waits : (fileset : ℕ) (version : Version) (tag : Tag) (first last : FilesetNow) → Calls fileset version tag first last → (vol : ℕ) (page : Waiting)
    → (Waits last.domain.space vol page → Waits first.domain.space vol page) × (Waits first.domain.space vol page → Waits last.domain.space vol page)
same_waits fileset version tag first last calls vol page =
    let same = waiting_still fileset version tag first last calls vol in (
      (λ is. back page (volume_of first.domain.space vol) (subst (λ o. IsSomeAnd o (λ ws. Contains ws page)) same (among page (volume_of last.domain.space vol) is))),
      (λ is. back page (volume_of last.domain.space vol) (subst (λ o. IsSomeAnd o (λ ws. Contains ws page)) (sym same) (among page (volume_of first.domain.space vol) is))),
    )
