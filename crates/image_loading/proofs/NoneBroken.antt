-- Whether a rule of tables is broken, by the homes at which one is.
use Rattle.std.proofs.Common.{◌≡◌, ◌∙◌, ◌↔◌, inl, inr, ℕ, Bool, true, false, not, ◌&&◌, List, [], ◌∷◌, length, nat_eq, Some, None, IsTrue, IsSomeAnd, refl, sym, ap, subst, arith, if◌then◌else◌, ⊎_elim}
use Rattle.std.proofs.lemmas.Bool.{eq-eqb, ne_eqb}
use Rattle.slot_files.specs.domain_base.declared.place.Home.{Home}
use Rattle.slot_files.specs.page_store.Pages.{Pages}
use Rattle.slot_files.specs.fileset_table.Page.{IsTablePage}
use Rattle.slot_files.specs.fileset_table.Table.{Table}
use Rattle.slot_files.proofs.OfFilesetTable.Unique.{table_unique}
use Rattle.slot_files.proofs.OfDomainLayout.OnePage.{one_of, some_same}
use Rattle.slot_files.specs.domain_layout.CellRules.{IsCellsFault}
use Rattle.slot_files.specs.domain_layout.Faults.{HasNoTablesFault, IsTablesFault, FaultRow, SaysTable}
use Rattle.slot_files.specs.domain_layout.Reached.{Frame}
use Rattle.slot_files.specs.domain_layout.TagRules.{IsTagsFault}
use Rattle.slot_files.specs.sorted_sets.Homes.{number_of}
use Rattle.slot_files.specs.sorted_sets.Rising.{value_at}
use Rattle.slot_files.specs.sorted_sets.Members.{IsIn, entries}
use Rattle.slot_files.specs.sorted_sets.Order.{AreNumbered}
use Rattle.slot_files.specs.sorted_sets.declared.home_set.HomeSet.{HomeSet}
use Rattle.slot_files.specs.cell_faults.Read.{IsWholeTable}

-- two tables that pages say are one
pub one_table : (pages : Pages) (frame : Frame) (a b : Table) → SaysTable pages frame a → SaysTable pages frame b → a ≡ b
one_table pages frame a b says also =
    let homes : also.home ≡ says.home = some_same also.home says.home (sym also.at ∙ says.at) in
    let page = one_of (pages says.home) (λ page. IsTablePage page a) says.there in
    let there : IsSomeAnd (pages says.home) (λ page. IsTablePage page b) = subst (λ h. IsSomeAnd (pages h) (λ page. IsTablePage page b)) homes also.there in
    table_unique page.value a b page.is (subst (λ o. IsSomeAnd o (λ page. IsTablePage page b)) page.there there)

none_broken : (pages : Pages) (frame : Frame) (table : Table) (cells tags : HomeSet) → IsWholeTable pages frame table → ((home : Home) → IsIn cells home ↔ IsCellsFault pages frame table home) → ((home : Home) → IsIn tags home ↔ IsTagsFault pages frame table home)
    → ((home : Home) → ¬ IsIn cells home) → ((home : Home) → ¬ IsIn tags home) → HasNoTablesFault pages frame
none_broken pages frame table cells tags whole of_cells of_tags no_cells no_tags = record { table = whole.1; tables = none }
  where
    none : (row : FaultRow) → ¬ IsTablesFault pages frame row
    none row (said, says, which) =
        let same : said ≡ table = one_table pages frame said table says whole.0 in
        ⊎_elim (λ w. no_cells row.home ((of_cells row.home).1 (subst (λ t. IsCellsFault pages frame t row.home) same w.1)))
        (λ w. no_tags row.home ((of_tags row.home).1 (subst (λ t. IsTagsFault pages frame t row.home) same w.1))) which

module _ (pages : Pages) (frame : Frame) (table : Table) (cells : HomeSet) (whole : IsWholeTable pages frame table) (of_cells : (home : Home) → IsIn cells home ↔ IsCellsFault pages frame table home) where
  -- where a rule of cells is broken
  pub some_told : (a : Bool) → (IsTrue a ↔ ((home : Home) → ¬ IsIn cells home)) → a ≡ false → (true ≡ false) ↔ HasNoTablesFault pages frame
  some_told a no_cells some = (
    (λ is. absurd (cc)),
    (λ none.
        let clean : a ≡ true = no_cells.1 (λ home there. none.tables (record { code = 5; home = home }) (table, whole.0, inl (refl, (of_cells home).0 there))) in
        sym clean ∙ some),
  )

  -- and where none is
  pub tags_told : (tags : HomeSet) → ((home : Home) → IsIn tags home ↔ IsTagsFault pages frame table home) → ((home : Home) → ¬ IsIn cells home) → (b : Bool) → (IsTrue b ↔ ((home : Home) → ¬ IsIn tags home)) → (not b ≡ false) ↔ HasNoTablesFault pages frame
  tags_told tags of_tags no_cells b no_tags = (told b no_tags, clean)
    where
      told : (b : Bool) → (IsTrue b ↔ ((home : Home) → ¬ IsIn tags home)) → not b ≡ false → HasNoTablesFault pages frame
      told true no_tags is = none_broken pages frame table cells tags whole of_cells of_tags no_cells (no_tags.0 refl)
      told false no_tags is = absurd (let e : true ≡ false = is in absurd (cc))

      clean : HasNoTablesFault pages frame → not b ≡ false
      clean none = ap not (no_tags.1 (λ home there. none.tables (record { code = 6; home = home }) (table, whole.0, inr (refl, (of_tags home).0 there))))

-- a set is empty where its list is
pub empty_set : (set : HomeSet) (lent : List (ℕ × Home)) (empty : Bool) → lent ≡ entries set → AreNumbered lent → empty ≡ nat_eq (length lent) 0 → IsTrue empty ↔ ((home : Home) → ¬ IsIn set home)
empty_set set [] empty same numbered is = (
  (λ so home there. let e : None ≡ Some home = ap (λ l. value_at l (number_of home)) same ∙ there in absurd (cc)),
  (λ none. is),
)
empty_set set (e ∷ es) empty same numbered is = (
  (λ so. absurd (let e : true ≡ false = sym so ∙ is ∙ ne_eqb (length (e ∷ es)) 0 (λ zero. omega (arith, zero)) in absurd (cc))),
  (λ none. absurd (none e.1 in_set)),
)
  where
    first : value_at (e ∷ es) e.0 ≡ Some e.1
    first = ap (λ b. if b then Some e.1 else value_at es e.0) (eq-eqb e.0 e.0 refl)

    in_set : IsIn set e.1
    in_set =
        subst (λ l. value_at l (number_of e.1) ≡ Some e.1) same
        (subst (λ n. value_at (e ∷ es) n ≡ Some e.1) (numbered e.0 e.1 first).0 first)
