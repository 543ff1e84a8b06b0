-- A chain of quota cells, one of which says an owner's limits in their place.
use Rattle.std.proofs.Common.{◌≡◌, ◌∙◌, ◌⊎◌, inl, inr, ℕ, ◌+◌, ◌<◌, true, false, List, [], ◌∷◌, ◌++◌, length, take, drop, get_or, set, Option, Some, None, Contains, refl, sym, ap, subst}
use Rattle.std.proofs.lemmas.List.{drop_more, take-append-drop}
use Rattle.std.specs.List.{AllByRecursion}
use Rattle.std.specs.Option.{option_map_or}
use Rattle.std.specs.FinMap.Entries.{put}
use Rattle.release_list.specs.domain_base.declared.place.CellAt.{CellAt}
use Rattle.release_list.specs.page_store.Pages.{Pages}
use Rattle.release_list.specs.metadata_cells.Chain.{LeavesOthers, PlacedCell, StandsAt, is_at, places}
use Rattle.release_list.specs.file_chains.FileChanges.{AreOnTables}
use Rattle.release_list.proofs.OfFileChains.ChainChanges.{at_apart}
use Rattle.release_list.proofs.OfFileChains.Still.{on_by_places}
use Rattle.release_list.proofs.OfFilesetFiles.OneChain.{follow_by}
use Rattle.release_list.specs.file_release.Steps.{AllStand}
use Rattle.release_list.proofs.OfFileRelease.Chains.{all_back, all_front, all_join, distinct_same, fresh_front, fresh_rest, places_same}
use Rattle.release_list.proofs.OfFileRelease.Stepped.{stand_apart}
use Rattle.release_list.specs.Standing.{IsQuotaCell, IsQuotas}
use Rattle.quota_book.specs.fileset_values.Orders.{owner_cmp}
use Rattle.quota_book.specs.fileset_values.declared.command.Owner.{Owner}
use Rattle.quota_book.specs.fileset_values.declared.command.Owner.TheVariants as owner
use Rattle.quota_book.specs.fileset_model.declared.fileset.Limits.{Limits}
use Rattle.release_list.specs.free_cells.Cells.{Cells}
use Rattle.quota_book.specs.QuotaCells.{Said, has_room, is_said, or_else, first_where, said_by, touched, with_quota}
use Rattle.release_steps.specs.QuotaChain.{SetsLimits, filesets_in, records_for, said_in, with_fileset, with_limits}
use Rattle.release_steps.proofs.Chains.{all_quotas, follow_back, quotas_after, quotas_stand}
use Rattle.release_steps.proofs.Once.{once_after}
use Rattle.release_steps.proofs.ReadCells.{distinct_quotas}
use Rattle.release_steps.proofs.SaidRecords.{all_named, all_of_limits, put_named, said_records}
use Rattle.release_steps.proofs.Touched.{found_there}

-- ---- the touched cell

-- the cell is there, and says something of the owner or has room
pub touched_there : (cells : List Said) (who : Owner) (k : ℕ) → touched cells who ≡ Some k → (k < length cells) × ((is_said who (get_or cells k []) ≡ true) ⊎ (has_room (get_or cells k []) ≡ true))
touched_there cells who k is = by_first (first_where (is_said who) cells) refl is
  where
    by_first : (o : Option ℕ) → first_where (is_said who) cells ≡ o → or_else o (first_where has_room cells) ≡ Some k → (k < length cells) × ((is_said who (get_or cells k []) ≡ true) ⊎ (has_room (get_or cells k []) ≡ true))
    by_first None none is = let f = found_there has_room cells k is in (f.0, inr f.1)
    by_first (Some j) some is = let f = found_there (is_said who) cells k (some ∙ is) in (f.0, inl f.1)

-- the chain, cut at a place
pub cut_at : (chain : List PlacedCell) (k : ℕ) (d : PlacedCell) → k < length chain → chain ≡ take k chain ++ get_or chain k d ∷ drop (k + 1) chain
cut_at chain k d within = sym (take-append-drop k chain) ∙ ap (λ (cs : List PlacedCell). take k chain ++ cs) (drop_more chain k d within)

-- ---- the chain then

set_said : (front : List PlacedCell) (c now : PlacedCell) (rest : List PlacedCell) → said_in (front ++ now ∷ rest) ≡ set (said_in (front ++ c ∷ rest)) (length front) (said_by now.cell.records)
set_said [] c now rest = refl
set_said (f ∷ front) c now rest = ap (λ (s : List Said). said_by f.cell.records ∷ s) (set_said front c now rest)

there_said : (front : List PlacedCell) (c : PlacedCell) (rest : List PlacedCell) (d : Said) → get_or (said_in (front ++ c ∷ rest)) (length front) d ≡ said_by c.cell.records
there_said [] c rest d = refl
there_said (f ∷ front) c rest d = there_said front c rest d

same_filesets : (front : List PlacedCell) (c now : PlacedCell) (rest : List PlacedCell) → now.cell.head.fileset ≡ c.cell.head.fileset → filesets_in (front ++ now ∷ rest) ≡ filesets_in (front ++ c ∷ rest)
same_filesets [] c now rest same = ap (λ (o : Option ℕ). o ∷ filesets_in rest) same
same_filesets (f ∷ front) c now rest same = ap (λ (os : List (Option ℕ)). f.cell.head.fileset ∷ os) (same_filesets front c now rest same)

module _ (old new : Pages) (start : CellAt) (front : List PlacedCell) (c : PlacedCell) (rest : List PlacedCell) (quotas : IsQuotas old start (front ++ c ∷ rest))
    (who : Owner) (limits : Limits) (named : ¬ who ≡ owner.Fileset)
    (stands : StandsAt new c.at (record { head = c.cell.head; records = records_for (put owner_cmp who limits (said_by c.cell.records)) }))
    (others : LeavesOthers (is_at c.at) old new) where
  abbrev pub now : PlacedCell
  now = record { at = c.at; cell = record { head = c.cell.head; records = records_for (put owner_cmp who limits (said_by c.cell.records)) } }

  said_now : said_by now.cell.records ≡ put owner_cmp who limits (said_by c.cell.records)
  said_now = said_records (put owner_cmp who limits (said_by c.cell.records)) (put_named who limits (said_by c.cell.records) named (all_named c.cell.records))

  cells_were : AllByRecursion (λ (q : PlacedCell). IsQuotaCell q.cell) (front ++ c ∷ rest)
  cells_were = all_quotas old start (front ++ c ∷ rest) quotas

  stood : AllStand old (front ++ c ∷ rest)
  stood = quotas_stand old start (front ++ c ∷ rest) quotas

  apart_front : (q : CellAt) → Contains (places front) q → is_at c.at q ≡ false
  apart_front q inside = at_apart c.at q (λ same. fresh_front front c rest (distinct_quotas old start (front ++ c ∷ rest) quotas) (subst (Contains (places front)) (sym same) inside))

  apart_rest : (q : CellAt) → Contains (places rest) q → is_at c.at q ≡ false
  apart_rest q inside = at_apart c.at q (λ same. fresh_rest front c rest (distinct_quotas old start (front ++ c ∷ rest) quotas) (subst (Contains (places rest)) (sym same) inside))

  front_stands : AllStand new front
  front_stands = stand_apart old new (is_at c.at) others front apart_front (all_front (λ (q : PlacedCell). StandsAt old q.at q.cell) front (c ∷ rest) stood)

  rest_stands : AllStand new rest
  rest_stands = stand_apart old new (is_at c.at) others rest apart_rest (all_back (λ (q : PlacedCell). StandsAt old q.at q.cell) front (c ∷ rest) stood).1

  cell_now : IsQuotaCell now.cell
  cell_now = record {
    kind = (all_back (λ (q : PlacedCell). IsQuotaCell q.cell) front (c ∷ rest) cells_were).0.kind;
    limits = all_of_limits (put owner_cmp who limits (said_by c.cell.records));
  }

  cells_now : AllByRecursion (λ (q : PlacedCell). IsQuotaCell q.cell) (front ++ now ∷ rest)
  cells_now = all_join (λ (q : PlacedCell). IsQuotaCell q.cell) front (now ∷ rest) (all_front (λ (q : PlacedCell). IsQuotaCell q.cell) front (c ∷ rest) cells_were)
      (cell_now, (all_back (λ (q : PlacedCell). IsQuotaCell q.cell) front (c ∷ rest) cells_were).1)

  pub quotas_now : IsQuotas new start (front ++ now ∷ rest)
  quotas_now = quotas_after old new start c now rest rest refl refl stands (follow_by new old c.cell.head rest rest_stands (follow_back old start front c rest quotas)) front quotas front_stands
      (distinct_same front c now rest refl (distinct_quotas old start (front ++ c ∷ rest) quotas)) cells_now

  same_places : places (front ++ now ∷ rest) ≡ places (front ++ c ∷ rest)
  same_places = sym (places_same front c now rest refl)

  module _ (touches : touched (said_in (front ++ c ∷ rest)) who ≡ Some (length front)) (fileset : ℕ) (cells : Cells) (on : AreOnTables cells (front ++ c ∷ rest)) where
    said_then : said_in (front ++ now ∷ rest) ≡ with_limits who limits (said_in (front ++ c ∷ rest))
    said_then = set_said front c now rest ∙ ap (set (said_in (front ++ c ∷ rest)) (length front)) (said_now ∙ ap (put owner_cmp who limits) (sym (there_said front c rest [])))
        ∙ ap (λ o. option_map_or (λ k. with_quota k who limits (said_in (front ++ c ∷ rest))) o (said_in (front ++ c ∷ rest) ++ ((who, limits) ∷ []) ∷ [])) (sym touches)

    pub set_limits_there : SetsLimits fileset who limits start (front ++ c ∷ rest) cells cells old new
    set_limits_there = record {
      after = front ++ now ∷ rest;
      is = quotas_now;
      said = said_then;
      once = once_after old (front ++ c ∷ rest) who limits stood (front ++ now ∷ rest) said_then;
      filesets = same_filesets front c now rest refl
          ∙ ap (λ o. with_fileset fileset o (filesets_in (front ++ c ∷ rest))) (sym touches);
      on_tables = on_by_places cells (front ++ now ∷ rest) (front ++ c ∷ rest) same_places on;
      kept = λ at inside. subst (λ (ps : List CellAt). Contains ps at) (sym same_places) inside;
      joined = λ at inside apart. absurd (apart (subst (λ (ps : List CellAt). Contains ps at) same_places inside));
      handed = λ at is. inl is;
    }
