-- The rules of files and directories one by one are those of all.
use Rattle.std.proofs.Common.{◌≡◌, ◌⊎◌, ◌↔◌, ◌<◌, inl, inr, ℕ, List, length, refl, sym, subst, ⊎_elim}
use Rattle.fileset_shapes.specs.domain_base.declared.place.Home.{Home}
use Rattle.fileset_shapes.specs.domain_base.declared.place.Kind.{Kind}
use Rattle.fileset_shapes.specs.domain_base.declared.place.Kind.TheVariants.{Directory, File}
use Rattle.fileset_shapes.specs.domain_base.declared.place.Tag.{Tag}
use Rattle.fileset_shapes.specs.page_store.Pages.{Pages}
use Rattle.fileset_shapes.specs.metadata_cells.Chain.{PlacedCell}
use Rattle.fileset_shapes.specs.fileset_table.Table.{Table}
use Rattle.fileset_shapes.specs.domain_layout.DirectoryRules.{AreAllRead, AreRowsTo, Has, IsDirectoryFault, IsFirstHome, IsWrongFile, RowPlace}
use Rattle.fileset_shapes.specs.domain_layout.Reached.{Frame}
use Rattle.fileset_shapes.specs.domain_layout.Seen.{SeenFile}
use Rattle.directory_faults.specs.Links.{AreWrongLinks, HasWrongLinks}
use Rattle.directory_faults.specs.Parents.{HasAstrayParent}
use Rattle.directory_faults.specs.Rows.{AreRowsIn}
use Rattle.directory_faults.specs.Sizes.{HasWrongSizeThere}
use Rattle.directory_faults.specs.declared.rows.RowThere.{RowThere}
use Rattle.directory_faults.proofs.RowPlaces.{passing, rows_to}
use Rattle.directory_faults.specs.Counts.{leads_so}
use Rattle.directory_faults.specs.Few.{HasFewRows}
use Rattle.directory_faults.specs.Misplaced.{HasMisplaced}
use Rattle.directory_faults.specs.Slot.{HasDirectoryFault, HasFileFault}

-- one of two after the other
pub two_put : {old mid new A B : Type 0} → mid ↔ (old ⊎ A) → new ↔ (mid ⊎ B) → new ↔ (old ⊎ (A ⊎ B))
two_put first second = (
  λ is. ⊎_elim (λ before. ⊎_elim (λ start. inl start) (λ a. inr (inl a)) (first.0 before)) (λ b. inr (inr b)) (second.0 is),
  λ which. ⊎_elim (λ start. second.1 (inl (first.1 (inl start)))) (λ either. ⊎_elim (λ a. second.1 (inl (first.1 (inr a)))) (λ b. second.1 (inr b)) either) which,
)

pub put_as : {old new A B : Type 0} → new ↔ (old ⊎ A) → A ↔ B → new ↔ (old ⊎ B)
put_as put same = (
  λ is. ⊎_elim (λ start. inl start) (λ a. inr (same.0 a)) (put.0 is),
  λ which. put.1 (⊎_elim (λ start. inl start) (λ b. inr (same.1 b)) which),
)

-- four in a row, and the last three as one
pub four_put : {old one two three new A B C D : Type 0} → one ↔ (old ⊎ A) → two ↔ (one ⊎ B) → three ↔ (two ⊎ C) → new ↔ (three ⊎ D) → new ↔ (old ⊎ (A ⊎ (B ⊎ (C ⊎ D))))
four_put {old} {one} {two} {three} {new} {A} {B} {C} {D} a b c d = two_put {mid = one} a (two_put {mid = two} b (two_put {mid = three} c d))

module _ (pages : Pages) (frame : Frame) (table : Table) (number : ℕ) (rows : List RowThere) (are : AreRowsIn pages frame table number rows) (home : Home) where
  -- the five rules of files and directories
  abbrev pub AreFive : Type 0
  AreFive = HasWrongSizeThere pages table number home
      ⊎ (HasWrongLinks pages frame table number home
      ⊎ (HasAstrayParent pages frame table number home
      ⊎ (HasMisplaced pages frame table number home ⊎ HasFewRows pages frame table number home)))

  with_kind : (tag : Tag) (cells : List PlacedCell) (seen : SeenFile) (of : Kind) → seen.is.kind ≡ of → Has pages table number tag cells seen → IsFirstHome cells home
      → IsWrongFile pages frame table number tag cells seen of → HasFileFault pages frame table number home
  with_kind tag cells seen of kind has at wrong = record { tag = tag; cells = cells; seen = seen; has = has; at = at; wrong = subst (IsWrongFile pages frame table number tag cells seen) (sym kind) wrong }

  places : (tag : Tag) (of : Kind) → AreRowsTo pages frame table number tag of (passing (leads_so tag of) rows)
  places = rows_to pages frame table number rows are

  by_links : (tag : Tag) (cells : List PlacedCell) (seen : SeenFile) (of : Kind) → AreWrongLinks pages frame table number tag seen of → IsWrongFile pages frame table number tag cells seen of
  by_links tag cells seen File wrong = ⊎_elim (λ root. inl root) (λ (to, all, more). inr (to, all, inl more)) wrong
  by_links tag cells seen Directory wrong = ⊎_elim (λ other. inr (inl other)) (λ (apart, (to, all, more)). inr (inr (inr (apart, (to, all, inl more))))) wrong

  to_fault : AreFive → HasFileFault pages frame table number home
  to_fault (inl size) = with_kind size.tag size.cells size.seen Directory size.kind size.has size.at (inl size.wrong)
  to_fault (inr (inl links)) = record { tag = links.tag; cells = links.cells; seen = links.seen; has = links.has; at = links.at; wrong = by_links links.tag links.cells links.seen links.seen.is.kind links.wrong }
  to_fault (inr (inr (inl astray))) = with_kind astray.tag astray.cells astray.seen Directory astray.kind astray.has astray.at (inr (inr (inl astray.wrong)))
  to_fault (inr (inr (inr (inl lies)))) =
      with_kind lies.tag lies.cells lies.seen Directory lies.kind lies.has lies.at (inr (inr (inr (lies.other, (passing (leads_so lies.tag Directory) rows, places lies.tag Directory, inr lies.wrong)))))
  to_fault (inr (inr (inr (inr few)))) =
      let (to, all, less) = few.few in
      with_kind few.tag few.cells few.seen File few.kind few.has few.at (inr (to, all, inr (few.read, less)))

  module _ (tag : Tag) (cells : List PlacedCell) (seen : SeenFile) (has : Has pages table number tag cells seen) (at : IsFirstHome cells home) where
    links_by : (of : Kind) → seen.is.kind ≡ of → AreWrongLinks pages frame table number tag seen of → AreFive
    links_by of kind wrong = inr (inl (record { tag = tag; cells = cells; seen = seen; has = has; at = at; wrong = subst (AreWrongLinks pages frame table number tag seen) (sym kind) wrong }))

    few_by : seen.is.kind ≡ File → (to : List RowPlace) → AreRowsTo pages frame table number tag File to → AreAllRead pages frame table number → length to < seen.is.links → AreFive
    few_by kind to all read less = inr (inr (inr (inr (record { tag = tag; cells = cells; seen = seen; has = has; at = at; kind = kind; read = read; few = (to, all, less) }))))

    by_kind : (of : Kind) → seen.is.kind ≡ of → IsWrongFile pages frame table number tag cells seen of → AreFive
    by_kind File kind wrong =
        ⊎_elim (λ root. links_by File kind (inl root))
        (λ (to, all, which). ⊎_elim (λ more. links_by File kind (inr (to, all, more))) (λ (read, less). few_by kind to all read less) which)
        wrong
    by_kind Directory kind (inl size) = inl (record { tag = tag; cells = cells; seen = seen; has = has; at = at; kind = kind; wrong = size })
    by_kind Directory kind (inr (inl other)) = links_by Directory kind (inl other)
    by_kind Directory kind (inr (inr (inl astray))) = inr (inr (inl (record { tag = tag; cells = cells; seen = seen; has = has; at = at; kind = kind; wrong = astray })))
    by_kind Directory kind (inr (inr (inr (apart, (to, all, inl more))))) = links_by Directory kind (inr (apart, (to, all, more)))
    by_kind Directory kind (inr (inr (inr (apart, (to, all, inr lies))))) = inr (inr (inr (inl (record { tag = tag; cells = cells; seen = seen; has = has; at = at; kind = kind; other = apart; wrong = lies }))))

  pub five : AreFive ↔ HasFileFault pages frame table number home
  five = (to_fault, λ fault. by_kind fault.tag fault.cells fault.seen fault.has fault.at fault.seen.is.kind refl fault.wrong)

-- ---- by slots

module _ (pages : Pages) (frame : Frame) (table : Table) (home : Home) where
  to_slot : IsDirectoryFault pages frame table home → (number : ℕ) × HasDirectoryFault pages frame table number home
  to_slot (inl (number, dir, page, bytes, is, bad)) = (number, inl (inl (dir, page, bytes, is, bad)))
  to_slot (inr (inl f)) = (
    f.number,
    inl (inr (inl (record { early = f.early; late = f.late; one = f.one; other = f.other; first_home = f.first_home; is_early = f.is_early; is_late = f.is_late; same = f.same; order = f.order; names = f.names }))),
  )
  to_slot (inr (inr (inl f))) = (f.number, inl (inr (inr (inl (record { at = f.at; row = f.row; is = f.is; wrong = f.wrong })))))
  to_slot (inr (inr (inr (inl f)))) = (f.number, inl (inr (inr (inr (record { at = f.at; row = f.row; is = f.is; lost = f.lost; wrong = f.wrong })))))
  to_slot (inr (inr (inr (inr f)))) = (f.number, inr (record { tag = f.tag; cells = f.cells; seen = f.seen; has = f.has; at = f.at; wrong = f.wrong }))

  of_slot : (number : ℕ) → HasDirectoryFault pages frame table number home → IsDirectoryFault pages frame table home
  of_slot number (inl (inl (dir, page, bytes, is, bad))) = inl (number, dir, page, bytes, is, bad)
  of_slot number (inl (inr (inl f))) = inr (inl (record {
    number = number;
    early = f.early;
    late = f.late;
    one = f.one;
    other = f.other;
    first_home = f.first_home;
    is_early = f.is_early;
    is_late = f.is_late;
    same = f.same;
    order = f.order;
    names = f.names;
  }))
  of_slot number (inl (inr (inr (inl f)))) = inr (inr (inl (record { number = number; at = f.at; row = f.row; is = f.is; wrong = f.wrong })))
  of_slot number (inl (inr (inr (inr f)))) = inr (inr (inr (inl (record { number = number; at = f.at; row = f.row; is = f.is; lost = f.lost; wrong = f.wrong }))))
  of_slot number (inr f) = inr (inr (inr (inr (record { number = number; tag = f.tag; cells = f.cells; seen = f.seen; has = f.has; at = f.at; wrong = f.wrong }))))

  pub by_slot : IsDirectoryFault pages frame table home ↔ ((number : ℕ) × HasDirectoryFault pages frame table number home)
  by_slot = (to_slot, λ (number, fault). of_slot number fault)
