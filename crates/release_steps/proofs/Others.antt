-- Files beside a list stay.
use Rattle.std.proofs.Common.{◌≡◌, ◌∙◌, ℕ, List, Option, Some, None, refl, sym, ap, ⊎_elim}
use Rattle.release_list.specs.domain_base.declared.place.CellAt.{CellAt}
use Rattle.release_list.specs.domain_base.declared.version.Version.{Version}
use Rattle.release_list.specs.metadata_cells.Chain.{PlacedCell}
use Rattle.release_list.specs.Standing.{Files}
use Rattle.release_list.specs.Steps.{Now, Step, Steps, file_ends, more, none, pages_go, quota_goes, reading_ends, tag_page_goes, trim_ends, with_clone}
use Rattle.release_list.proofs.Spread.{none_not}
use Rattle.release_list.proofs.Standings.{file_other}
use Rattle.release_steps.specs.Kept.{IsBeside}
use Rattle.release_steps.proofs.Narrower.{in_last, narrower_step}

-- a clone's file that is another one
pub clone_other : (clone : Option CellAt) (own : List PlacedCell) (files : Files) (a : CellAt) → ¬ clone ≡ Some a → with_clone clone own files a ≡ files a
clone_other None own files a other = refl
clone_other (Some c) own files a other = file_other c (Some own) files a (λ same. other (ap Some (sym same)))

not_itself : (a b : CellAt) → ¬ a ≡ b → ¬ b ≡ a
not_itself a b other same = other (sym same)

pub beside_same : (group : ℕ) (version : Version) (old new : Now) → Step group version old new → (at : CellAt) → IsBeside old.list at → new.files at ≡ old.files at
beside_same group version old new (pages_go s) at beside =
    let apart = beside s.entry (in_last old.list s.front s.entry s.last) in
    ap (λ (f : Files). f at) s.files
    ∙ file_other s.entry.at (Some s.releases.after) (with_clone s.entry.clone s.releases.own_now old.files) at (not_itself s.entry.at at apart.0)
    ∙ clone_other s.entry.clone s.releases.own_now old.files at apart.1
beside_same group version old new (quota_goes s) at beside =
    let apart = beside s.entry (in_last old.list s.front s.entry s.last) in
    ap (λ (f : Files). f at) s.files ∙ file_other s.entry.at _ old.files at (not_itself s.entry.at at apart.0)
beside_same group version old new (trim_ends s) at beside =
    let apart = beside s.entry (in_last old.list s.front s.entry s.last) in
    ap (λ (f : Files). f at) s.files ∙ file_other s.entry.at _ old.files at (not_itself s.entry.at at apart.0)
beside_same group version old new (reading_ends s) at beside =
    let apart = beside s.entry (in_last old.list s.front s.entry s.last) in
    ap (λ (f : Files). f at) s.files ∙ file_other s.clone _ old.files at (λ same. apart.1 (s.given ∙ ap Some (sym same)))
beside_same group version old new (file_ends s) at beside =
    let apart = beside s.entry (in_last old.list s.front s.entry s.last) in
    ap (λ (f : Files). f at) s.files ∙ file_other s.entry.at None old.files at (not_itself s.entry.at at apart.0)
beside_same group version old new (tag_page_goes s) at beside = ap (λ (f : Files). f at) s.same_files

pub beside_still : (group : ℕ) (version : Version) (old new : Now) → Step group version old new → (at : CellAt) → IsBeside old.list at → IsBeside new.list at
beside_still group version old new step at beside e inside =
    let n = narrower_step group version old new step e inside in
    let apart = beside n.was n.inside in (
      (λ same. apart.0 (n.at ∙ same)),
      (λ some. ⊎_elim (λ kept. apart.1 (sym kept ∙ some)) (λ gone. none_not at (sym gone ∙ some)) n.clone),
    )

record StaysBeside (first now : Now) (at : CellAt) : Type 0 where
  same : now.files at ≡ first.files at
  beside : IsBeside now.list at

stays_beside : (group : ℕ) (version : Version) (first : Now) (count : ℕ) (last : Now) → Steps group version first count last → (at : CellAt) → IsBeside first.list at → StaysBeside first last at
stays_beside group version first count last steps at beside =
    elim steps as (λ count last steps. StaysBeside first last at) [
      | none ↦ record { same = refl; beside = beside }
      | more n between last (steps → was) step ↦ record {
        same = beside_same group version between last step at was.beside ∙ was.same;
        beside = beside_still group version between last step at was.beside;
      }
    ]

pub others_stay : (group : ℕ) (version : Version) (first : Now) (count : ℕ) (last : Now) → Steps group version first count last → (at : CellAt) → IsBeside first.list at → last.files at ≡ first.files at
others_stay group version first count last steps at beside = (stays_beside group version first count last steps at beside).same
