-- Directories that are found to stand in another one than they say are those of the rule.
use Rattle.std.proofs.Common.{◌≡◌, ◌∙◌, ◌⊎◌, ◌↔◌, ◌≤◌, inl, inr, ℕ, List, length, Option, Some, Contains, slice_get, refl, sym, ap, subst, ⊎_elim}
use Rattle.std.specs.BTreeSet.{BTreeSet}
use Rattle.fileset_shapes.specs.domain_base.declared.place.Home.{Home}
use Rattle.fileset_shapes.specs.domain_base.declared.place.Kind.TheVariants.{Directory}
use Rattle.fileset_shapes.specs.domain_base.declared.place.Tag.{Tag}
use Rattle.fileset_shapes.specs.page_store.Pages.{Pages}
use Rattle.fileset_shapes.specs.metadata_cells.CellPage.{home_of}
use Rattle.fileset_shapes.specs.fileset_files.declared.attributes.Attributes.{Attributes}
use Rattle.fileset_shapes.specs.directory_pages.declared.row.Row.{Row}
use Rattle.fileset_shapes.specs.fileset_table.Table.{Table}
use Rattle.fileset_shapes.specs.name_space.Names.{root_tag}
use Rattle.fileset_shapes.specs.domain_layout.DirectoryRules.{HasWrongParent, IsFirstHome, IsRow, RowPlace}
use Rattle.fileset_shapes.specs.domain_layout.Reached.{Frame}
use Rattle.directory_faults.specs.Parents.{AreAstray, HasAstrayParent, HasTag, IsAstrayAt, IsAstrayOf, SaysParents}
use Rattle.directory_faults.specs.Rows.{AreRowsIn, place_of}
use Rattle.directory_faults.specs.There.{AreFilesIn}
use Rattle.directory_faults.specs.declared.rows.RowThere.{RowThere}
use Rattle.directory_faults.specs.declared.there.FileThere.{FileThere}
use Rattle.directory_faults.proofs.Inserted.{AreIn, all_in, among_at, iff_trans}
use Rattle.directory_faults.proofs.LinksWrong.{first_home, only_home}

some_same : {X : Type 0} (a b : X) → Some a ≡ Some b → a ≡ b
some_same a b e = cc

module _ (pages : Pages) (frame : Frame) (table : Table) (number : ℕ) (files : List FileThere) (rows : List RowThere) (parents : BTreeSet (Tag × Tag)) (astray : BTreeSet Tag)
    (are_files : AreFilesIn pages frame table number files) (are : AreRowsIn pages frame table number rows) (says : SaysParents files parents) (strays : AreAstray parents rows astray) where
  -- a row leads to a tag as to a directory, from one that what is there does not say
  pub record ComesAstray (tag : Tag) (parent : Option Tag) : Type 0 where
    pub at : RowPlace
    pub row : Row
    pub home : Home
    pub is : IsRow pages frame table number at row home
    pub tag_is : row.tag ≡ tag
    pub kind : row.kind ≡ Directory
    pub apart : ¬ parent ≡ Some at.dir

  one_file : (one other : FileThere) → Contains files one → Contains files other → one.tag ≡ other.tag → one ≡ other
  one_file one other among also same =
      let a = among_at files one among in
      let b = among_at files other also in
      let places = are_files.once a.0 b.0 one other a.1 b.1 same in
      some_same one other (sym a.1 ∙ ap (slice_get files) places ∙ b.1)

  to_stray : (file : FileThere) → Contains files file → HasTag astray file.tag → ComesAstray file.tag file.parent
  to_stray file among has =
      let (r, among_rows, leads) = (strays file.tag).0 has in
      record {
        at = place_of r;
        row = r.row;
        home = r.at.home;
        is = (are.each r).0 among_rows;
        tag_is = leads.tag_is;
        kind = leads.kind;
        apart = λ same. leads.apart ((says r.row.tag r.at.dir).1 (file, among, (sym leads.tag_is, same)));
      }

  from_stray : (file : FileThere) → Contains files file → ComesAstray file.tag file.parent → HasTag astray file.tag
  from_stray file among comes =
      let r : RowThere = record { at = record { dir = comes.at.dir; page = comes.at.page; home = comes.home }; place = comes.at.place; row = comes.row } in
      (strays file.tag).1 (
        r,
        (are.each r).1 comes.is,
        record {
          tag_is = comes.tag_is;
          kind = comes.kind;
          apart = λ has.
              let (other, also, (tag_is, parent_is)) = (says comes.row.tag comes.at.dir).0 has in
              comes.apart (ap (λ (f : FileThere). f.parent) (one_file file other among also (sym comes.tag_is ∙ sym tag_is)) ∙ parent_is);
        },
      )

  by_files : (home : Home) (old : Type 0) → (old ⊎ ((file : FileThere) × Contains files file × IsAstrayAt astray file home)) ↔ (old ⊎ HasAstrayParent pages frame table number home)
  by_files home old = (
    λ which. ⊎_elim (λ first. inl first) (λ (file, among, (wrong, same)). inr (to_rule file among wrong same)) which,
    λ which. ⊎_elim (λ first. inl first) (λ wrong. inr (from_rule wrong)) which,
  )
    where
      to_rule : (file : FileThere) → Contains files file → IsAstrayOf astray file → home ≡ home_of file.at → HasAstrayParent pages frame table number home
      to_rule file among wrong same =
          let read = are_files.each file among in
          record {
            tag = file.tag;
            cells = read.cells;
            seen = read.seen;
            has = read.has;
            at = subst (IsFirstHome read.cells) (sym same) (first_home read.cells file.at read.read.begins);
            kind = sym (ap (λ (a : Attributes). a.kind) read.read.is) ∙ wrong.kind;
            wrong = ⊎_elim {C = HasWrongParent pages frame table number file.tag read.cells}
                (λ (root, other). record { parent = root_tag; is = inl (root, refl); wrong = λ e. other (read.read.parent ∙ e) })
                (λ (apart, has).
                let comes = to_stray file among has in
                record { parent = comes.at.dir; is = inr (comes.at, comes.row, comes.home, comes.is, comes.tag_is, comes.kind, refl, apart); wrong = λ e. comes.apart (read.read.parent ∙ e) })
                wrong.wrong;
          }

      from_rule : HasAstrayParent pages frame table number home → (file : FileThere) × Contains files file × IsAstrayAt astray file home
      from_rule wrong =
          let was = are_files.all wrong.tag wrong.cells wrong.seen wrong.has in
          let file = was.file in
          let parent = wrong.wrong.parent in (
            file,
            was.among,
            (
              record {
                kind = ap (λ (a : Attributes). a.kind) was.read.is ∙ wrong.kind;
                wrong = ⊎_elim {C = ((file.tag ≡ root_tag) × ¬ file.parent ≡ Some root_tag) ⊎ (¬ file.tag ≡ root_tag × HasTag astray file.tag)}
                    (λ (root, parent_is). inl (was.tag_is ∙ root, λ e. wrong.wrong.wrong (sym was.read.parent ∙ e ∙ ap (λ (t : Tag). Some t) (sym parent_is))))
                    (λ (at, row, there, is, tag_is, kind, dir_is, apart). inr (
                      (λ root. apart (sym was.tag_is ∙ root)),
                      from_stray file was.among (record {
                        at = at;
                        row = row;
                        home = there;
                        is = is;
                        tag_is = tag_is ∙ sym was.tag_is;
                        kind = kind;
                        apart = λ e. wrong.wrong.wrong (sym was.read.parent ∙ e ∙ ap (λ (t : Tag). Some t) dir_is);
                      }),
                    ))
                    wrong.wrong.is;
              },
              only_home wrong.cells file.at home was.read.begins wrong.at,
            ),
          )

  pub all_parents : (old new : Home → Type 0) (count : ℕ) → length files ≤ count → AreIn files (IsAstrayAt astray) old new count → (home : Home) → new home ↔ (old home ⊎ HasAstrayParent pages frame table number home)
  all_parents old new count whole said home = iff_trans (all_in files (IsAstrayAt astray) old new count whole said home) (by_files home (old home))
