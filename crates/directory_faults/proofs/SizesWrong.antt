-- Directories that are found to have a wrong size are those of the rule.
use Rattle.std.proofs.Common.{◌≡◌, ◌∙◌, ◌⊎◌, ◌↔◌, ◌≤◌, inl, inr, ℕ, List, length, Contains, sym, ap, subst, ⊎_elim}
use Rattle.fileset_shapes.specs.domain_base.declared.place.Home.{Home}
use Rattle.fileset_shapes.specs.domain_base.declared.place.Kind.TheVariants.{Directory}
use Rattle.fileset_shapes.specs.page_store.Pages.{Pages}
use Rattle.fileset_shapes.specs.metadata_cells.CellPage.{home_of}
use Rattle.fileset_shapes.specs.fileset_files.declared.attributes.Attributes.{Attributes}
use Rattle.fileset_shapes.specs.fileset_table.Table.{Table}
use Rattle.fileset_shapes.specs.domain_layout.DirectoryRules.{IsFirstHome}
use Rattle.fileset_shapes.specs.domain_layout.Reached.{Frame}
use Rattle.directory_faults.specs.Sizes.{HasWrongSizeThere, IsOfWrongSize, IsOfWrongSizeAt}
use Rattle.directory_faults.specs.There.{AreFilesIn}
use Rattle.directory_faults.specs.declared.there.FileThere.{FileThere}
use Rattle.directory_faults.proofs.Inserted.{AreIn, all_in, iff_trans}
use Rattle.directory_faults.proofs.LinksWrong.{first_home, only_home}

module _ (pages : Pages) (frame : Frame) (table : Table) (number : ℕ) (files : List FileThere) (are_files : AreFilesIn pages frame table number files) where
  by_files : (home : Home) (old : Type 0) → (old ⊎ ((file : FileThere) × Contains files file × IsOfWrongSizeAt file home)) ↔ (old ⊎ HasWrongSizeThere pages table number home)
  by_files home old = (
    λ which. ⊎_elim (λ first. inl first) (λ (file, among, (wrong, same)). inr (to_rule file among wrong same)) which,
    λ which. ⊎_elim (λ first. inl first) (λ wrong. inr (from_rule wrong)) which,
  )
    where
      to_rule : (file : FileThere) → Contains files file → IsOfWrongSize file → home ≡ home_of file.at → HasWrongSizeThere pages table number home
      to_rule file among (kind, wrong) same =
          let read = are_files.each file among in
          let of : read.seen.is.kind ≡ Directory = sym (ap (λ (a : Attributes). a.kind) read.read.is) ∙ kind in
          record {
            tag = file.tag;
            cells = read.cells;
            seen = read.seen;
            has = read.has;
            at = subst (IsFirstHome read.cells) (sym same) (first_home read.cells file.at read.read.begins);
            kind = of;
            wrong = (read.read.size of).0 wrong;
          }

      from_rule : HasWrongSizeThere pages table number home → (file : FileThere) × Contains files file × IsOfWrongSizeAt file home
      from_rule wrong =
          let was = are_files.all wrong.tag wrong.cells wrong.seen wrong.has in (
            was.file,
            was.among,
            (
              (ap (λ (a : Attributes). a.kind) was.read.is ∙ wrong.kind, (was.read.size wrong.kind).1 wrong.wrong),
              only_home wrong.cells was.file.at home was.read.begins wrong.at,
            ),
          )

  pub all_sizes : (old new : Home → Type 0) (count : ℕ) → length files ≤ count → AreIn files IsOfWrongSizeAt old new count → (home : Home) → new home ↔ (old home ⊎ HasWrongSizeThere pages table number home)
  all_sizes old new count whole said home = iff_trans (all_in files IsOfWrongSizeAt old new count whole said home) (by_files home (old home))
