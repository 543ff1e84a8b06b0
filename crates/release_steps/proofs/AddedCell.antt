-- A quota cell more: the first of a fileset, or one after the last of its chain.
use Rattle.std.proofs.Common.{◌≡◌, ◌∙◌, ◌⊎◌, ◌||◌, ⊎_elim, inl, inr, ℕ, zero, suc, ◌≤◌, true, false, not, List, [], ◌∷◌, ◌++◌, Option, Some, None, Contains, refl, sym, ap, subst, arith}
use Rattle.std.proofs.lemmas.Bool.{and_parts, not-true, or_from}
use Rattle.std.specs.List.{AllByRecursion}
use Rattle.std.specs.Option.{option_map_or}
use Rattle.release_list.specs.domain_base.Page.{zero_bytes}
use Rattle.release_list.specs.domain_base.declared.place.CellAt.{CellAt}
use Rattle.release_list.specs.domain_base.declared.place.Home.{Home}
use Rattle.release_list.specs.page_store.Pages.{Pages, same_home}
use Rattle.release_list.specs.metadata_cells.declared.head.CellKind.{CellKind}
use Rattle.release_list.specs.metadata_cells.declared.head.CellKind.TheVariants.{Quota}
use Rattle.release_list.specs.metadata_cells.Cell.{Cell}
use Rattle.release_list.specs.metadata_cells.CellPage.{KeepsHeaders, KeepsWellFormed, cell_at, home_of}
use Rattle.release_list.specs.metadata_cells.Chain.{AreDistinct, LeavesOthers, PlacedCell, StandsAt, is_at, may_follow, places}
use Rattle.release_list.proofs.OfMetadataCells.Frames.{stands_stays}
use Rattle.release_list.specs.file_chains.Allocated.{AreAllocated, Takes}
use Rattle.release_list.specs.file_chains.FileChanges.{AreOnTables, LeavesOtherCells}
use Rattle.release_list.specs.file_chains.MapChanges.{ChangesAtMost, LeavesOffTables}
use Rattle.release_list.proofs.OfFileChains.Added.{at_on, handed_now, not_zeros, off_table, stands_taken, taken_elsewhere, tables_kept}
use Rattle.release_list.proofs.OfFileChains.ChainChanges.{at_apart, in_first, in_later}
use Rattle.release_list.proofs.OfFileChains.FewPages.{linked_changes}
use Rattle.release_list.proofs.OfFileChains.Still.{allocated_still}
use Rattle.release_list.specs.file_release.Steps.{AllStand}
use Rattle.release_list.proofs.OfFileRelease.Chains.{all_back, all_front, all_join, fresh_front, in_back, in_middle}
use Rattle.release_list.specs.Standing.{IsQuotaCell, IsQuotas}
use Rattle.quota_book.specs.fileset_values.declared.command.Owner.{Owner}
use Rattle.quota_book.specs.fileset_values.declared.command.Owner.TheVariants as owner
use Rattle.quota_book.specs.fileset_model.declared.fileset.Limits.{Limits}
use Rattle.release_list.specs.free_cells.Cells.{Cells, is_free, table_of}
use Rattle.release_list.specs.free_space.Spaces.{Spaces}
use Rattle.quota_book.specs.QuotaCells.{Said, said_by, touched, with_quota}
use Rattle.release_steps.specs.QuotaChain.{SetsLimits, filesets_in, quota_head, records_for, said_in, with_fileset, with_limits}
use Rattle.release_steps.proofs.Chains.{all_quotas, quotas_after, quotas_stand}
use Rattle.release_steps.proofs.Once.{once_after}
use Rattle.release_steps.proofs.ReadCells.{distinct_quotas}
use Rattle.release_steps.proofs.SaidRecords.{all_of_limits, records_said, said_records}

module _ (prefer : ℕ) (at : CellAt) (space space_now : Spaces) (cells cells_now : Cells) (old between : Pages) (low : 1 ≤ at.vol) (allocated : AreAllocated space cells old) (takes : Takes prefer at space space_now cells cells_now old between)
    (zeros : cell_at between at ≡ Some (zero_bytes 292)) (fileset : ℕ) (who : Owner) (limits : Limits) (named : ¬ who ≡ owner.Fileset) (new : Pages)
    (stands : StandsAt new at (record { head = quota_head fileset; records = records_for ((who, limits) ∷ []) })) where
  abbrev pub more : PlacedCell
  more = record { at = at; cell = record { head = quota_head fileset; records = records_for ((who, limits) ∷ []) } }

  more_said : said_by more.cell.records ≡ (who, limits) ∷ []
  more_said = said_records ((who, limits) ∷ []) (named, tt)

  more_cell : IsQuotaCell more.cell
  more_cell = record { kind = refl; limits = all_of_limits ((who, limits) ∷ []) }

  -- no cell in use of the tables stood there
  pub fresh_at : (q : CellAt) (cell : Cell) → Contains (table_of cells q.vol) q.page → StandsAt old q cell → ¬ at ≡ q
  fresh_at q cell on stood = not_zeros between at q cell zeros (stands_taken prefer at space space_now cells cells_now old between low allocated takes q cell on stood)

  -- ---- the first one

  said_first : said_in (more ∷ []) ≡ with_limits who limits (said_in [])
  said_first = ap (λ (s : Said). s ∷ []) more_said

  pub first_set : SetsLimits fileset who limits at [] cells cells_now old new
  first_set = record {
    after = more ∷ [];
    is = (refl, record { links = record { stands = stands; follow = refl; distinct = ((λ inside. omega (arith, inside.1)), tt) }; cells = (more_cell, tt) });
    said = said_first;
    once = once_after old [] who limits tt (more ∷ []) said_first;
    filesets = refl;
    on_tables = (at_on prefer at space space_now cells cells_now old between low allocated takes, tt);
    kept = λ q inside. absurd (omega (arith, inside.1));
    joined = λ q inside apart cell stood on. one_place q inside cell stood on;
    handed = λ q is. ⊎_elim (λ was. inl was) (λ same. inr (in_first q more [] same)) (handed_now prefer at space space_now cells cells_now old between low allocated takes q is);
  }
    where
      one_place : (q : CellAt) → Contains (places (more ∷ [])) q → (cell : Cell) → StandsAt old q cell → Contains (table_of cells q.vol) q.page → ⊥
      one_place q (zero, within, is) cell stood on = fresh_at q cell on stood is
      one_place q (suc k, within, is) cell stood on = omega (arith, within)

  -- ---- one after the last

  module _ (start : CellAt) (front : List PlacedCell) (c : PlacedCell) (quotas : IsQuotas old start (front ++ c ∷ [])) (on : AreOnTables cells (front ++ c ∷ []))
      (last : StandsAt new c.at (record { head = record c.cell.head { next = Some at }; records = records_for (said_by c.cell.records) })) (others : LeavesOthers (λ q. is_at at q || is_at c.at q) between new) where
    abbrev pub now : PlacedCell
    now = record { at = c.at; cell = record { head = record c.cell.head { next = Some at }; records = records_for (said_by c.cell.records) } }

    cells_were : AllByRecursion (λ (q : PlacedCell). IsQuotaCell q.cell) (front ++ c ∷ [])
    cells_were = all_quotas old start (front ++ c ∷ []) quotas

    last_was : IsQuotaCell c.cell
    last_was = (all_back (λ (q : PlacedCell). IsQuotaCell q.cell) front (c ∷ []) cells_were).0

    -- what was said is
    same_records : records_for (said_by c.cell.records) ≡ c.cell.records
    same_records = records_said c.cell.records last_was.limits

    stays : (cs : List PlacedCell) → AllStand old cs → AreOnTables cells cs → ((q : CellAt) → Contains (places cs) q → ¬ c.at ≡ q) → AllStand new cs
    stays [] stood on apart = tt
    stays (x ∷ cs) stood on apart = (
      stands_stays between new (λ q. is_at at q || is_at c.at q) others x.at x.cell
          (or_from (is_at at x.at) (is_at c.at x.at) (at_apart at x.at (fresh_at x.at x.cell on.0 stood.0)) (at_apart c.at x.at (apart x.at (in_first x.at x cs refl))))
          (stands_taken prefer at space space_now cells cells_now old between low allocated takes x.at x.cell on.0 stood.0),
      stays cs stood.1 on.1 (λ q inside. apart q (in_later q x cs inside)),
    )

    stood : AllStand old (front ++ c ∷ [])
    stood = quotas_stand old start (front ++ c ∷ []) quotas

    front_stands : AllStand new front
    front_stands = stays front (all_front (λ (q : PlacedCell). StandsAt old q.at q.cell) front (c ∷ []) stood) (all_front (λ (q : PlacedCell). Contains (table_of cells q.at.vol) q.at.page) front (c ∷ []) on)
        (λ q inside same. fresh_front front c [] (distinct_quotas old start (front ++ c ∷ []) quotas) (subst (Contains (places front)) (sym same) inside))

    -- none of the chain's cells stood at the new one's place
    none_there : (cs : List PlacedCell) → AllStand old cs → AreOnTables cells cs → ¬ Contains (places cs) at
    none_there [] stood on inside = omega (arith, inside.1)
    none_there (x ∷ cs) stood on (zero, within, is) = fresh_at x.at x.cell on.0 stood.0 (sym is)
    none_there (x ∷ cs) stood on (suc k, within, is) = none_there cs stood.1 on.1 (k, omega (arith, within), is)

    fresh_more : ¬ Contains (places (front ++ c ∷ [])) at
    fresh_more = none_there (front ++ c ∷ []) stood on

    -- what is in the chain then
    in_after : (front : List PlacedCell) (q : CellAt) → Contains (places (front ++ now ∷ more ∷ [])) q → Contains (places (front ++ c ∷ [])) q ⊎ (at ≡ q)
    in_after [] q (zero, within, is) = inl (0, omega arith, is)
    in_after [] q (suc zero, within, is) = inr is
    in_after [] q (suc (suc k), within, is) = absurd (omega (arith, within))
    in_after (f ∷ front) q (zero, within, is) = inl (in_first q f (front ++ c ∷ []) is)
    in_after (f ∷ front) q (suc k, within, is) = ⊎_elim (λ was. inl (in_later q f (front ++ c ∷ []) was)) (λ same. inr same) (in_after front q (k, omega (arith, within), is))

    in_now : (front : List PlacedCell) (q : CellAt) → Contains (places (front ++ c ∷ [])) q → Contains (places (front ++ now ∷ more ∷ [])) q
    in_now [] q (zero, within, is) = in_first q now (more ∷ []) is
    in_now [] q (suc k, within, is) = absurd (omega (arith, within))
    in_now (f ∷ front) q (zero, within, is) = in_first q f (front ++ now ∷ more ∷ []) is
    in_now (f ∷ front) q (suc k, within, is) = in_later q f (front ++ now ∷ more ∷ []) (in_now front q (k, omega (arith, within), is))

    at_end : (front : List PlacedCell) → Contains (places (front ++ now ∷ more ∷ [])) at
    at_end front = in_back front (now ∷ more ∷ []) at (in_later at now (more ∷ []) (in_first at more [] refl))

    distinct_more : (front : List PlacedCell) → AreDistinct (front ++ c ∷ []) → ¬ Contains (places (front ++ c ∷ [])) at → AreDistinct (front ++ now ∷ more ∷ [])
    distinct_more [] distinct fresh = (one_other, ((λ inside. omega (arith, inside.1)), tt))
      where
        one_other : ¬ Contains (places (more ∷ [])) c.at
        one_other (zero, within, is) = fresh (0, omega arith, sym is)
        one_other (suc k, within, is) = omega (arith, within)
    distinct_more (f ∷ front) distinct fresh = (
      (λ inside. ⊎_elim distinct.0 (λ same. fresh (in_first at f (front ++ c ∷ []) (sym same))) (in_after front f.at inside)),
      distinct_more front distinct.1 (λ inside. fresh (in_later at f (front ++ c ∷ []) inside)),
    )

    said_more : (front : List PlacedCell) → said_in (front ++ now ∷ more ∷ []) ≡ said_in (front ++ c ∷ []) ++ ((who, limits) ∷ []) ∷ []
    said_more [] = (λ i. said_by (same_records i) ∷ more_said i ∷ [])
    said_more (f ∷ front) = ap (λ (s : List Said). said_by f.cell.records ∷ s) (said_more front)

    filesets_more : (front : List PlacedCell) → filesets_in (front ++ now ∷ more ∷ []) ≡ filesets_in (front ++ c ∷ []) ++ Some fileset ∷ []
    filesets_more [] = refl
    filesets_more (f ∷ front) = ap (λ (os : List (Option ℕ)). f.cell.head.fileset ∷ os) (filesets_more front)

    now_cell : IsQuotaCell now.cell
    now_cell = record { kind = last_was.kind; limits = all_of_limits (said_by c.cell.records) }

    abbrev pub after : List PlacedCell
    after = front ++ now ∷ more ∷ []

    pub quotas_then : IsQuotas new start after
    quotas_then = quotas_after old new start c now [] (more ∷ []) refl refl last
        (refl, subst (λ (k : CellKind). may_follow k Quota ≡ true) (sym last_was.kind) refl, stands, refl)
        front quotas front_stands (distinct_more front (distinct_quotas old start (front ++ c ∷ []) quotas) fresh_more)
        (all_join (λ (q : PlacedCell). IsQuotaCell q.cell) front (now ∷ more ∷ []) (all_front (λ (q : PlacedCell). IsQuotaCell q.cell) front (c ∷ []) cells_were) (now_cell, (more_cell, tt)))

    on_now : AreOnTables cells_now after
    on_now = all_join (λ (q : PlacedCell). Contains (table_of cells_now q.at.vol) q.at.page) front (now ∷ more ∷ [])
        (all_front (λ (q : PlacedCell). Contains (table_of cells_now q.at.vol) q.at.page) front (c ∷ []) (tables_kept prefer at space space_now cells cells_now old between low allocated takes (front ++ c ∷ []) on)) (
          (all_back (λ (q : PlacedCell). Contains (table_of cells_now q.at.vol) q.at.page) front (c ∷ []) (tables_kept prefer at space space_now cells cells_now old between low allocated takes (front ++ c ∷ []) on)).0,
          (at_on prefer at space space_now cells cells_now old between low allocated takes, tt),
        )

    said_behind : touched (said_in (front ++ c ∷ [])) who ≡ None → said_in after ≡ with_limits who limits (said_in (front ++ c ∷ []))
    said_behind none = said_more front ∙ ap (λ o. option_map_or (λ k. with_quota k who limits (said_in (front ++ c ∷ []))) o (said_in (front ++ c ∷ []) ++ ((who, limits) ∷ []) ∷ [])) (sym none)

    pub behind_set : touched (said_in (front ++ c ∷ [])) who ≡ None → SetsLimits fileset who limits start (front ++ c ∷ []) cells cells_now old new
    behind_set none = record {
      after = after;
      is = quotas_then;
      said = said_behind none;
      once = once_after old (front ++ c ∷ []) who limits stood after (said_behind none);
      filesets = filesets_more front ∙ ap (λ o. with_fileset fileset o (filesets_in (front ++ c ∷ []))) (sym none);
      on_tables = on_now;
      kept = λ q inside. in_now front q inside;
      joined = λ q inside apart cell there on. ⊎_elim apart (λ same. fresh_at q cell on there same) (in_after front q inside);
      handed = λ q is. ⊎_elim (λ was. inl was) (λ same. inr (subst (Contains (places after)) same (at_end front))) (handed_now prefer at space space_now cells cells_now old between low allocated takes q is);
    }

    pub behind_others : LeavesOtherCells cells (front ++ c ∷ []) old new
    behind_others q cell there on apart =
        stands_stays between new (λ q. is_at at q || is_at c.at q) others q cell
        (or_from (is_at at q) (is_at c.at q) (at_apart at q (fresh_at q cell on there)) (at_apart c.at q (λ same. apart (subst (Contains (places (front ++ c ∷ []))) same (in_middle front c [])))))
        (stands_taken prefer at space space_now cells cells_now old between low allocated takes q cell on there)

  pub first_others : LeavesOthers (is_at at) between new → LeavesOtherCells cells [] old new
  first_others others q cell there on apart =
      stands_stays between new (is_at at) others q cell (at_apart at q (fresh_at q cell on there)) (stands_taken prefer at space space_now cells cells_now old between low allocated takes q cell on there)

  module _ (elsewhere : (h : Home) → same_home h (home_of at) ≡ false → new h ≡ between h) where
    pub first_elsewhere : LeavesOffTables cells_now old new
    first_elsewhere h out =
        elsewhere h (off_table cells_now at h (at_on prefer at space space_now cells cells_now old between low allocated takes) out)
        ∙ taken_elsewhere prefer at space space_now cells cells_now old between low allocated takes h out

    pub first_few : ChangesAtMost 3 old new
    first_few = linked_changes prefer at space space_now cells cells_now old between new takes at (λ h here there. elsewhere h here)

  pub first_allocated : AreAllocated space_now cells_now between → KeepsWellFormed between new → KeepsHeaders between new → LeavesOthers (is_at at) between new → AreAllocated space_now cells_now new
  first_allocated now good headers others = allocated_still space_now cells_now between new now good headers (is_at at) others
      (λ q free. not-true (is_at at q) (and_parts (not (is_at at q)) (is_free takes.between q) (sym (takes.taken.cells q) ∙ free)).0)
