-- Directories that are found to be misplaced are those of the rule.
use Rattle.std.proofs.Common.{◌≡◌, ◌∙◌, ◌⊎◌, ◌↔◌, ◌≤◌, inl, inr, ℕ, Bool, List, length, IsTrue, Contains, slice_get, sym, ap, subst, ⊎_elim}
use Rattle.fileset_shapes.specs.domain_base.declared.place.Home.{Home}
use Rattle.fileset_shapes.specs.domain_base.declared.place.Tag.{Tag}
use Rattle.fileset_shapes.specs.page_store.Pages.{Pages}
use Rattle.fileset_shapes.specs.metadata_cells.CellPage.{home_of}
use Rattle.fileset_shapes.specs.fileset_files.declared.attributes.Attributes.{Attributes}
use Rattle.fileset_shapes.specs.fileset_table.Table.{Table}
use Rattle.fileset_shapes.specs.name_space.Names.{root_tag}
use Rattle.fileset_shapes.specs.domain_layout.CellRules.{of_clone}
use Rattle.fileset_shapes.specs.domain_layout.DirectoryRules.{AreAllRead, IsFirstHome, RowsLead}
use Rattle.fileset_shapes.specs.domain_layout.Reached.{Frame}
use Rattle.directory_faults.specs.Parents.{HasTag}
use Rattle.directory_faults.specs.Rows.{AreRowsIn}
use Rattle.directory_faults.specs.There.{AreFilesIn}
use Rattle.directory_faults.specs.declared.rows.RowThere.{RowThere}
use Rattle.directory_faults.specs.declared.there.FileThere.{FileThere}
use Rattle.directory_faults.proofs.Inserted.{AreIn, all_in, iff_trans}
use Rattle.directory_faults.proofs.LinksWrong.{first_home, only_home}
use Rattle.directory_faults.specs.Misplaced.{HasMisplaced, IsMisplacedAt, IsMisplacedIn}
use Rattle.directory_faults.specs.Tree.{IsTree}
use Rattle.directory_faults.specs.Walk.{IsBelow}
use Rattle.directory_faults.specs.declared.tree.Tree.{Tree}
use Rattle.directory_faults.proofs.OfTree.{all_read, from_rows, to_rows}

module _ (pages : Pages) (frame : Frame) (table : Table) (number : ℕ) (files : List FileThere) (rows : List RowThere) (is_clone : Bool) (tree : Tree)
    (are_files : AreFilesIn pages frame table number files) (are : AreRowsIn pages frame table number rows) (slot : of_clone (slice_get table.slots number) ≡ is_clone)
    (is_tree : IsTree files rows is_clone tree) where
  abbrev IsWrong : Tag → Type 0
  IsWrong tag = IsBelow tree.children tag tag ⊎ (IsTrue tree.are_all_read × ¬ HasTag tree.reached tag)

  abbrev IsRuled : Tag → Type 0
  IsRuled tag = RowsLead pages frame table number tag tag ⊎ (AreAllRead pages frame table number × ¬ RowsLead pages frame table number root_tag tag)

  down : (dir tag : Tag) → IsBelow tree.children dir tag → RowsLead pages frame table number dir tag
  down = to_rows pages frame table number files rows is_clone tree are_files are slot is_tree

  up : (dir tag : Tag) → RowsLead pages frame table number dir tag → IsBelow tree.children dir tag
  up = from_rows pages frame table number files rows is_clone tree are_files are slot is_tree

  read : IsTrue tree.are_all_read ↔ AreAllRead pages frame table number
  read = all_read pages frame table number files rows is_clone tree are_files are slot is_tree

  ruled : (tag : Tag) → IsWrong tag ↔ IsRuled tag
  ruled tag = (
    λ which. ⊎_elim (λ below. inl (down tag tag below)) (λ (all, none). inr (read.0 all, λ lead. none ((is_tree.reached tag).1 (up root_tag tag lead)))) which,
    λ which. ⊎_elim (λ lead. inl (up tag tag lead)) (λ (all, none). inr (read.1 all, λ is. none (down root_tag tag ((is_tree.reached tag).0 is)))) which,
  )

  by_files : (home : Home) (old : Type 0) → (old ⊎ ((file : FileThere) × Contains files file × IsMisplacedAt tree file home)) ↔ (old ⊎ HasMisplaced pages frame table number home)
  by_files home old = (
    λ which. ⊎_elim (λ first. inl first) (λ (file, among, (wrong, same)). inr (to_rule file among wrong same)) which,
    λ which. ⊎_elim (λ first. inl first) (λ wrong. inr (from_rule wrong)) which,
  )
    where
      to_rule : (file : FileThere) → Contains files file → IsMisplacedIn tree file → home ≡ home_of file.at → HasMisplaced pages frame table number home
      to_rule file among wrong same =
          let read = are_files.each file among in
          record {
            tag = file.tag;
            cells = read.cells;
            seen = read.seen;
            has = read.has;
            at = subst (IsFirstHome read.cells) (sym same) (first_home read.cells file.at read.read.begins);
            kind = sym (ap (λ (a : Attributes). a.kind) read.read.is) ∙ wrong.kind;
            other = wrong.other;
            wrong = (ruled file.tag).0 wrong.wrong;
          }

      from_rule : HasMisplaced pages frame table number home → (file : FileThere) × Contains files file × IsMisplacedAt tree file home
      from_rule wrong =
          let was = are_files.all wrong.tag wrong.cells wrong.seen wrong.has in
          let file = was.file in (
            file,
            was.among,
            (
              record {
                kind = ap (λ (a : Attributes). a.kind) was.read.is ∙ wrong.kind;
                other = λ root. wrong.other (sym was.tag_is ∙ root);
                wrong = subst IsWrong (sym was.tag_is) ((ruled wrong.tag).1 wrong.wrong);
              },
              only_home wrong.cells file.at home was.read.begins wrong.at,
            ),
          )

  pub all_misplaced : (old new : Home → Type 0) (count : ℕ) → length files ≤ count → AreIn files (IsMisplacedAt tree) old new count → (home : Home) → new home ↔ (old home ⊎ HasMisplaced pages frame table number home)
  all_misplaced old new count whole said home = iff_trans (all_in files (IsMisplacedAt tree) old new count whole said home) (by_files home (old home))
