-- A quota cell goes: what is kept, and where pages are read.
use Rattle.std.proofs.Common.{◌≡◌, ◌∙◌, ◌⊎◌, inr, ℕ, ◌<◌, false, nat_le, ◌∷◌, List, Some, None, Contains, refl, sym, ap, subst, arith, ⊎_elim}
use Rattle.std.specs.Option.{option_and_then, option_map_or}
use Rattle.release_list.specs.domain_base.declared.place.CellAt.{CellAt}
use Rattle.release_list.specs.domain_base.declared.version.Version.{Version}
use Rattle.release_list.specs.cell_records.declared.record.Leftover.TheVariants.{Trim}
use Rattle.release_list.specs.metadata_cells.Chain.{PlacedCell}
use Rattle.release_list.specs.extent_maps.declared.run.PagePlace.TheVariants.{Absent}
use Rattle.release_list.specs.extent_records.Writing.{most_rows}
use Rattle.release_list.specs.file_chains.FileChanges.{SameFirst}
use Rattle.release_list.specs.file_chains.Files.{places_of}
use Rattle.release_list.specs.fileset_files.Files.{first_record}
use Rattle.release_list.specs.declared.list.Entry.{Entry}
use Rattle.release_list.specs.Listed.{GoesWhole, left_of, leftover_in, stale_from}
use Rattle.release_list.specs.Listing.{AreInOrder, Listing}
use Rattle.release_list.specs.Standing.{Files, IsQuotaCell, IsQuotas, place_in, read_at, source_at, source_in, source_of}
use Rattle.release_list.specs.Steps.{LosesQuotaCell, Now, quota_goes}
use Rattle.release_list.proofs.Firsts.{first_same}
use Rattle.release_list.proofs.Lists.{AreEntriesOnce}
use Rattle.release_list.proofs.Spread.{some_same}
use Rattle.release_list.proofs.Standings.{file_other, file_there, place_by, quota_first, quota_place, reads_by, same_or_not}
use Rattle.release_steps.specs.Kept.{Stays}
use Rattle.release_steps.proofs.Fits.{Fits, HasOneMap, fits_by}
use Rattle.release_steps.proofs.Narrower.{inside_by}
use Rattle.release_steps.proofs.ReadHomes.{read_beside, read_same, stale_same}

module _ (group : ℕ) (version : Version) (old new : Now) (s : LosesQuotaCell old new) where
  abbrev pub chain : List PlacedCell
  chain = s.first ∷ s.second ∷ s.rest

  pub quota_is : new.files s.entry.at ≡ Some s.after
  quota_is = ap (λ (f : Files). f s.entry.at) s.files ∙ file_there s.entry.at (Some s.after) old.files

  pub quota_beside : (a : CellAt) → ¬ a ≡ s.entry.at → new.files a ≡ old.files a
  quota_beside a not_at = ap (λ (f : Files). f a) s.files ∙ file_other s.entry.at (Some s.after) old.files a not_at

  pub quota_says : SameFirst chain s.after
  quota_says = subst (SameFirst chain) (sym s.after_is) (refl, refl, refl, refl)

  pub quota_record : (k : ℕ) → nat_le 1 (most_rows k) ≡ false → first_record k s.after ≡ first_record k chain
  quota_record k none = first_same k none chain s.after quota_says

  -- all of it goes
  pub quota_left : left_of chain ≡ None
  quota_left = ap (option_and_then leftover_in) (quota_first old.pages s.entry.at chain s.quotas 6 (λ e. omega (arith, e)) (λ e. omega (arith, e)))

  pub not_trimmed : (cells : List PlacedCell) → old.files s.entry.at ≡ Some cells → ¬ left_of cells ≡ Some Trim
  not_trimmed cells is trim = let no : None ≡ Some Trim = sym quota_left ∙ ap left_of (some_same chain cells (sym s.is ∙ is)) ∙ trim in absurd (cc)

  pub quota_whole : GoesWhole s.after
  quota_whole trim = let no : None ≡ Some Trim = sym quota_left ∙ sym (ap (option_and_then leftover_in) (quota_record 6 refl)) ∙ trim in absurd (cc)

  pub quota_absent : (p : ℕ) → places_of chain p ≡ Absent
  quota_absent p = quota_place old.pages s.entry.at chain s.quotas p

  absent_now : (p : ℕ) → places_of s.after p ≡ Absent
  absent_now p = quota_place new.pages s.entry.at s.after s.stands p

  pub quota_sources : (a : CellAt) → source_at new.files a ≡ source_at old.files a
  quota_sources a = ⊎_elim
      (λ same.
      ap (option_and_then source_of) (ap new.files same ∙ quota_is) ∙ ap (option_and_then source_in) (quota_record 2 refl)
      ∙ sym (ap (option_and_then source_of) (ap old.files same ∙ s.is)))
      (λ not_at. ap (option_and_then source_of) (quota_beside a not_at))
      (same_or_not a s.entry.at)

  pub quota_places : (a : CellAt) (p : ℕ) → place_in new.files a p ≡ place_in old.files a p
  quota_places a p = ⊎_elim
      (λ same.
      place_by new.files a s.after p (ap new.files same ∙ quota_is) ∙ absent_now p
      ∙ sym (place_by old.files a chain p (ap old.files same ∙ s.is) ∙ quota_absent p))
      (λ not_at. ap (λ o. option_map_or (λ cs. places_of cs p) o Absent) (quota_beside a not_at))
      (same_or_not a s.entry.at)

  pub quota_was : (e : Entry) → Contains new.list.entries e → Contains old.list.entries e
  quota_was e inside = inside_by old.list new.list e s.same_list inside

  module _ (fits : Fits old) where
    maps_now : (a : CellAt) (first : PlacedCell) (rest : List PlacedCell) → new.files a ≡ Some (first ∷ rest) → HasOneMap first.cell ⊎ IsQuotaCell first.cell
    maps_now a first rest is = ⊎_elim
        (λ same.
        let it : s.after ≡ first ∷ rest = some_same s.after (first ∷ rest) (sym quota_is ∙ sym (ap new.files same) ∙ is) in
        inr (subst (IsQuotas new.pages s.entry.at) it s.stands).1.cells.0)
        (λ not_at. fits.maps a first rest (sym (quota_beside a not_at) ∙ is))
        (same_or_not a s.entry.at)

    pub quota_fits : Fits new
    quota_fits = fits_by group version old new (quota_goes s) fits
        (subst (λ (l : Listing). AreEntriesOnce l.entries) (sym s.same_list) fits.once)
        (subst (λ (l : Listing). AreInOrder l.entries) (sym s.same_list) fits.order)
        (λ a b reads. reads_by old.files new.files a b (quota_sources a) reads)
        (λ c e inside some reads. reads_by new.files old.files c e.at (sym (quota_sources c)) reads)
        (λ e inside c reads. fits.all e (quota_was e inside) c (reads_by old.files new.files c e.at (quota_sources c) reads))
        maps_now

    pub quota_stays : (a : CellAt) (p : ℕ) → Stays old a p → Stays new a p
    quota_stays a p stays e inside at ds is = ⊎_elim
        (λ same.
        subst (λ (cs : List PlacedCell). p < stale_from cs) (some_same s.after ds (sym quota_is ∙ sym (ap new.files same) ∙ is))
        (subst (λ (n : ℕ). p < n) (sym (stale_same chain s.after (quota_record 6 refl) (quota_record 1 refl))) (stays e (quota_was e inside) at chain (ap old.files same ∙ s.is))))
        (λ not_at. stays e (quota_was e inside) at ds (sym (quota_beside a not_at) ∙ is))
        (same_or_not a s.entry.at)

    pub quota_reads : (a : CellAt) (p : ℕ) → read_at new.files a p ≡ read_at old.files a p
    quota_reads a p = ⊎_elim
        (λ same. read_same old.files new.files a p chain s.after (ap old.files same ∙ s.is) (ap new.files same ∙ quota_is) (ap (option_and_then source_in) (quota_record 2 refl)) (absent_now p ∙ sym (quota_absent p)) (λ x is_x. quota_places x.at p))
        (λ not_at. read_beside old.files new.files a p (quota_beside a not_at) (λ x is_x. quota_places x.at p))
        (same_or_not a s.entry.at)
