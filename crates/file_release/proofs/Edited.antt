-- What is written where a cell lets go of pages.
use Rattle.std.proofs.Common.{◌≡◌, ◌∙◌, ℕ, zero, suc, true, false, List, [], ◌∷◌, ◌++◌, length, Option, Some, None, Result, Ok, Err, IfOk, refl, sym, ap, subst, arith, ⊎_elim, ◌⊎◌, inl, inr}
use Rattle.std.proofs.lemmas.Bool.{both_ways, cases_Bool}
use Rattle.std.specs.List.{AllByRecursion}
use Rattle.fileset_files.specs.domain_base.declared.place.CellAt.{CellAt}
use Rattle.fileset_files.specs.page_store.Pages.{Pages}
use Rattle.fileset_files.specs.cell_records.declared.record.Record.{Record}
use Rattle.fileset_files.specs.cell_records.Records.{kind_of}
use Rattle.fileset_files.specs.metadata_cells.Cell.{Cell}
use Rattle.fileset_files.specs.metadata_cells.CellPage.{KeepsHeaders, KeepsWellFormed}
use Rattle.fileset_files.specs.metadata_cells.Chain.{LeavesOthers, PlacedCell, StandsAt, is_at}
use Rattle.fileset_files.specs.extent_maps.declared.run.PagePlace.TheVariants.{Absent}
use Rattle.fileset_files.specs.extent_maps.declared.run.Run.{Run}
use Rattle.fileset_files.specs.extent_maps.Runs.{place_of}
use Rattle.fileset_files.specs.extent_records.Rows.{IsPlaced, runs_in}
use Rattle.fileset_files.specs.free_cells.Cells.{Cells, is_free}
use Rattle.fileset_files.specs.free_cells.Belong.{Belong}
use Rattle.fileset_files.proofs.OfFreeCells.Belongs.{belong_still}
use Rattle.fileset_files.specs.file_chains.Changes.{with_record}
use Rattle.fileset_files.proofs.OfFileChains.ChainChanges.{at_same}
use Rattle.file_release.specs.declared.edits.ChainEdit.{ChainEdit}
use Rattle.file_release.specs.Reading.{HasPageFrom}
use Rattle.file_release.specs.Steps.{AllStand, EditsCell, IsCut, edited, last_place}
use Rattle.file_release.proofs.Chains.{all_back}
use Rattle.file_release.proofs.Found.{first_there}

pub belong_written : (cells : Cells) (old new : Pages) (at : CellAt) → Belong cells old → LeavesOthers (is_at at) old new → KeepsWellFormed old new → KeepsHeaders old new → is_free cells at ≡ false → Belong cells new
belong_written cells old new at belong others good headers used =
    belong_still cells old new (is_at at) others good headers
    (λ q free. ⊎_elim (λ is. absurd (both_ways (is_free cells at) used (subst (λ (a : CellAt). is_free cells a ≡ true) (sym (at_same at q is)) free))) (λ is. is) (cases_Bool (is_at at q)))
    belong

-- the last of some cells
pub record Last (front : List PlacedCell) (at : CellAt) : Type 0 where
  pub earlier : List PlacedCell
  pub c : PlacedCell
  pub all : front ≡ earlier ++ c ∷ []
  pub place : c.at ≡ at

none_some : (at : CellAt) → None ≡ Some at → ⊥
none_some at e = cc

some_at : (a b : CellAt) → Some a ≡ Some b → a ≡ b
some_at a b e = cc

pub last_of : (front : List PlacedCell) (at : CellAt) → last_place front ≡ Some at → Last front at
last_of [] at is = absurd (none_some at is)
last_of (x ∷ []) at is = record { earlier = []; c = x; all = refl; place = some_at x.at at is }
last_of (x ∷ y ∷ cs) at is =
    let later = last_of (y ∷ cs) at is in
    record { earlier = x ∷ later.earlier; c = later.c; all = ap (λ (xs : List PlacedCell). x ∷ xs) later.all; place = later.place }

pub none_last : (front : List PlacedCell) → last_place front ≡ None → front ≡ []
none_last [] is = refl
none_last (x ∷ []) is = absurd (none_some x.at (sym is))
none_last (x ∷ y ∷ cs) is = absurd (later y cs is)
  where
    later : (y : PlacedCell) (cs : List PlacedCell) → last_place (y ∷ cs) ≡ None → ⊥
    later y [] is = none_some y.at (sym is)
    later y (z ∷ cs) is = later z cs is

nothing_in : (runs : List Run) → length runs ≡ 0 → (p : ℕ) → place_of runs p ≡ Absent
nothing_in [] none p = refl
nothing_in (r ∷ rs) none p = absurd (omega (arith, none))

some_in : (runs : List Run) → AllByRecursion IsPlaced runs → ¬ length runs ≡ 0 → HasPageFrom 0 (place_of runs)
some_in [] all some = absurd (some refl)
some_in (r ∷ rs) all some = first_there r rs all

both_ok : {A E : Type 0} {P Q R : A → Type 0} (r : Result A E) → ((x : A) → P x → Q x → R x) → IfOk r P → IfOk r Q → IfOk r R
both_ok (Ok x) f a b = f x a b
both_ok (Err e) f a b = a

by_length : (n : ℕ) → (n ≡ 0) ⊎ (n ≡ 0 → ⊥)
by_length zero = inl refl
by_length (suc n) = inr (λ is. omega (arith, is))

module _ {E : Type 0} (pages : Pages) (front : List PlacedCell) (d : PlacedCell) (value after : Record) (from : ℕ) (at : CellAt) where
  pub edits_past : (before : CellAt) (stale_before past : Option CellAt) (r : Result ChainEdit E) → AllStand pages front → StandsAt pages d.at d.cell → d.at ≡ at → stale_before ≡ last_place front → past ≡ Some before → (length (runs_in after) ≡ 0 → past ≡ stale_before)
      → (¬ length (runs_in after) ≡ 0 → past ≡ None) → IsCut from value after → IfOk r (λ edit. (edit.at ≡ before) × (edit.freed ≡ Some at))
      → ((first gone : Cell) → StandsAt pages before first → StandsAt pages at gone → IfOk r (λ edit. edited edit ≡ record first { head = record first.head { next = gone.head.next } })) → IfOk r (EditsCell front d value from)
  edits_past before stale_before past r stand stands at_is before_is past_is empty some cut place cell = ⊎_elim
      (λ none.
      let l = last_of front before (sym before_is ∙ sym (empty none) ∙ past_is) in
      let last_stands = (all_back (λ (c : PlacedCell). StandsAt pages c.at c.cell) l.earlier (l.c ∷ []) (subst (AllStand pages) l.all stand)).0 in
      both_ok r
      (λ edit p e. record {
        after = after;
        cut = cut;
        how = inr (
          record { earlier = l.earlier; before = l.c; all = l.all; place = p.0 ∙ sym l.place; cell = e; freed = p.1 ∙ ap Some (sym at_is) },
          nothing_in (runs_in after) none,
        );
      })
      place (cell l.c.cell d.cell (subst (λ (a : CellAt). StandsAt pages a l.c.cell) l.place last_stands) (subst (λ (a : CellAt). StandsAt pages a d.cell) at_is stands)))
      (λ more. absurd (none_some before (sym (some more) ∙ past_is)))
      (by_length (length (runs_in after)))

  pub edits_record : (stale_before past : Option CellAt) (r : Result ChainEdit E) → StandsAt pages d.at d.cell → d.at ≡ at → stale_before ≡ last_place front → past ≡ None → (length (runs_in after) ≡ 0 → past ≡ stale_before) → IsCut from value after
      → IfOk r (λ edit. (edit.at ≡ at) × (edit.freed ≡ None)) → ((cell : Cell) → StandsAt pages at cell → IfOk r (λ edit. edited edit ≡ with_record (kind_of after) (Some after) cell)) → IfOk r (EditsCell front d value from)
  edits_record stale_before past r stands at_is before_is past_is empty cut place cell =
      both_ok r
      (λ edit p e. record {
        after = after;
        cut = cut;
        how = inl (
          record { place = p.0 ∙ sym at_is; cell = e ∙ ap (λ (k : ℕ). with_record k (Some after) d.cell) cut.same_kind; none = p.1 },
          (λ front_some. ⊎_elim
              (λ none. absurd (front_some (none_last front (sym before_is ∙ sym (empty none) ∙ past_is))))
              (λ more. some_in (runs_in after) cut.is_map.placed more)
              (by_length (length (runs_in after)))),
        );
      })
      place (cell d.cell (subst (λ (a : CellAt). StandsAt pages a d.cell) at_is stands))
