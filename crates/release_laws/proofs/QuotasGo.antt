-- The quota cells that a slot names stay its own over steps, where cells behind the first one go.
use Rattle.std.proofs.Common.{◌≡◌, ◌∙◌, ◌++◌, ◌+◌, ℕ, Bool, false, List, [], ◌∷◌, Option, Some, None, IsSomeAnd, Contains, sym, ap, subst, arith, ⊎_elim}
use Rattle.std.specs.List.{AllByRecursion, IsDistinct, cons_option, filter_map}
use Rattle.std.specs.Option.{option_and_then}
use Rattle.standing_laws.specs.domain_base.declared.place.CellAt.{CellAt}
use Rattle.standing_laws.specs.domain_base.declared.version.Version.{Version}
use Rattle.standing_laws.specs.cell_records.declared.record.Leftover.TheVariants.{Trim}
use Rattle.standing_laws.specs.metadata_cells.Chain.{PlacedCell, records_of}
use Rattle.standing_laws.specs.fileset_files.Files.{first_record}
use Rattle.standing_laws.specs.release_list.Listed.{left_of, leftover_in}
use Rattle.standing_laws.specs.release_list.Standing.{Files, IsQuotas, Source, source_at, source_in, source_of}
use Rattle.standing_laws.specs.release_list.Steps.{IsWell, Now, Step, Steps, file_ends, leads_to, more, none, pages_go, quota_goes, reading_ends, tag_page_goes, trim_ends, with_clone}
use Rattle.standing_laws.specs.release_list.declared.list.Entry.{Entry}
use Rattle.standing_laws.proofs.OfReleaseList.Spread.{none_not, some_same}
use Rattle.standing_laws.proofs.OfReleaseList.Standings.{file_other, file_there, quota_first, same_or_not, standing}
use Rattle.standing_laws.proofs.OfReleaseSteps.Narrower.{in_last}
use Rattle.standing_laws.proofs.OfReleaseSteps.Others.{clone_other}
use Rattle.standing_laws.proofs.OfReleaseSteps.QuotaStep.{quota_beside, quota_is}
use Rattle.standing_laws.proofs.OfReleaseSteps.SaysStill.{said_so}
use Rattle.standing_laws.proofs.OfReleaseSteps.Tags.{has_attributes}
use Rattle.standing_laws.proofs.OfReleaseSteps.Wells.{wells_stay}
use Rattle.standing_laws.specs.domain_standing.Chains.{AreQuotasOf}
use Rattle.standing_laws.specs.domain_standing.Domain.{DomainNow}

-- ---- a list in which nothing is twice, without a part of it

module _ {X K : Type 0} (h : X → Option K) where
  all_behind : (P : K → Type 0) (b c : List X) → AllByRecursion P (filter_map h (b ++ c)) → AllByRecursion P (filter_map h c)
  all_behind P [] c all = all
  all_behind P (x ∷ b) c all = by_first (h x) all (all_behind P b c)
    where
      by_first : (o : Option K) → AllByRecursion P (cons_option o (filter_map h (b ++ c))) → (AllByRecursion P (filter_map h (b ++ c)) → AllByRecursion P (filter_map h c)) → AllByRecursion P (filter_map h c)
      by_first None all later = later all
      by_first (Some k) all later = later all.1

  all_beside : (P : K → Type 0) (a b c : List X) → AllByRecursion P (filter_map h (a ++ (b ++ c))) → AllByRecursion P (filter_map h (a ++ c))
  all_beside P [] b c all = all_behind P b c all
  all_beside P (x ∷ a) b c all = by_first (h x) all (all_beside P a b c)
    where
      by_first : (o : Option K) → AllByRecursion P (cons_option o (filter_map h (a ++ (b ++ c)))) → (AllByRecursion P (filter_map h (a ++ (b ++ c))) → AllByRecursion P (filter_map h (a ++ c)))
          → AllByRecursion P (cons_option o (filter_map h (a ++ c)))
      by_first None all later = later all
      by_first (Some k) all later = (all.0, later all.1)

  module _ (e : K → K → Bool) where
    once_behind : (b c : List X) → IsDistinct e (filter_map h (b ++ c)) → IsDistinct e (filter_map h c)
    unfolding IsDistinct
    once_behind [] c once = once
    once_behind (x ∷ b) c once = by_first (h x) once (once_behind b c)
      where
        by_first : (o : Option K) → IsDistinct e (cons_option o (filter_map h (b ++ c))) → (IsDistinct e (filter_map h (b ++ c)) → IsDistinct e (filter_map h c)) → IsDistinct e (filter_map h c)
        by_first None once later = later once
        by_first (Some k) once later = later once.1

    once_beside : (a b c : List X) → IsDistinct e (filter_map h (a ++ (b ++ c))) → IsDistinct e (filter_map h (a ++ c))
    unfolding IsDistinct
    once_beside [] b c once = once_behind b c once
    once_beside (x ∷ a) b c once = by_first (h x) once (once_beside a b c)
      where
        by_first : (o : Option K) → IsDistinct e (cons_option o (filter_map h (a ++ (b ++ c)))) → (IsDistinct e (filter_map h (a ++ (b ++ c))) → IsDistinct e (filter_map h (a ++ c)))
            → IsDistinct e (cons_option o (filter_map h (a ++ c)))
        by_first None once later = later once
        by_first (Some k) once later = (all_beside (λ y. e k y ≡ false) a b c once.0, later once.1)

-- ---- one step

module _ (d : DomainNow) (n : ℕ) (at : CellAt) where
  -- these are the slot's quota cells, with these pages
  abbrev AreItsQuotas : Now → List PlacedCell → Type 0
  AreItsQuotas now cells = AreQuotasOf (record d { pages = now.pages }) n at cells

  -- a chain whose second cell is gone
  without_second : (old new : Now) (first second : PlacedCell) (rest : List PlacedCell) → AreItsQuotas old (first ∷ second ∷ rest) → IsQuotas new.pages at (leads_to second.cell.head.next first ∷ rest)
      → AreItsQuotas new (leads_to second.cell.head.next first ∷ rest)
  without_second old new first second rest are stands = record { quotas = stands; of = are.of; once = once_beside _ _ first.cell.records second.cell.records (records_of rest) are.once }

  module _ (group : ℕ) (version : Version) (old new : Now) (well : IsWell old) (well_now : IsWell new) (cells : List PlacedCell) (there : old.files at ≡ Some cells) (are : AreItsQuotas old cells) (after : List PlacedCell) (is : new.files at ≡ Some after) where
    -- no entry reads through it
    no_clone : (e : Entry) → Contains old.list.entries e → ¬ e.clone ≡ Some at
    no_clone e inside clone = by_source (source_at old.files at) no_source ((well.listed.each e inside).given at clone)
      where
        no_source : source_at old.files at ≡ None
        no_source = ap (option_and_then source_of) there ∙ ap (option_and_then source_in) (quota_first old.pages at cells are.quotas 2 (λ e. omega (arith, e)) (λ e. omega (arith, e)))

        by_source : (o : Option Source) → o ≡ None → IsSomeAnd o (λ source. source.at ≡ e.at) → ⊥
        by_source None missing given = given
        by_source (Some source) missing given = none_not source (sym missing)

    -- the chain is as it was
    as_it_was : new.files at ≡ old.files at → AreItsQuotas new after
    as_it_was same =
        let chain : cells ≡ after = some_same cells after (sym there ∙ sym same ∙ is) in
        let bare = quota_first old.pages at cells are.quotas 1 (λ e. omega (arith, e)) (λ e. omega (arith, e)) in
        let stands : IsQuotas new.pages at cells = ⊎_elim
        (λ file. absurd (has_attributes new.pages at cells file bare))
        (λ quotas. quotas) (standing new.space new.cells new.pages new.files well_now.together at cells (is ∙ ap Some (sym chain))).stands in
        subst (AreItsQuotas new) chain (record { quotas = stands; of = are.of; once = are.once })

    keeps : Step group version old new → AreItsQuotas new after
    keeps (pages_go s) = ⊎_elim
        (λ same. absurd (has_attributes old.pages s.entry.at s.chain s.file (subst (λ cs. first_record 1 cs ≡ None) (some_same cells s.chain (sym there ∙ ap old.files same ∙ s.is))
        (quota_first old.pages at cells are.quotas 1 (λ e. omega (arith, e)) (λ e. omega (arith, e))))))
        (λ other. as_it_was (ap (λ (f : Files). f at) s.files
        ∙ file_other s.entry.at (Some s.releases.after) (with_clone s.entry.clone s.releases.own_now old.files) at other
        ∙ clone_other s.entry.clone s.releases.own_now old.files at (no_clone s.entry (in_last old.list s.front s.entry s.last))))
        (same_or_not at s.entry.at)
    keeps (quota_goes s) = ⊎_elim
        (λ same.
        let chain : cells ≡ s.first ∷ s.second ∷ s.rest = some_same cells (s.first ∷ s.second ∷ s.rest) (sym there ∙ ap old.files same ∙ s.is) in
        let then_is : leads_to s.second.cell.head.next s.first ∷ s.rest ≡ after = sym s.after_is ∙ some_same s.after after (sym (ap new.files same ∙ quota_is group version old new s) ∙ is) in
        subst (AreItsQuotas new) then_is
        (without_second old new s.first s.second s.rest (subst (AreItsQuotas old) chain are)
        (subst (λ (a : CellAt). IsQuotas new.pages a (leads_to s.second.cell.head.next s.first ∷ s.rest)) (sym same) (subst (IsQuotas new.pages s.entry.at) s.after_is s.stands))))
        (λ other. as_it_was (quota_beside group version old new s at other))
        (same_or_not at s.entry.at)
    keeps (trim_ends s) = ⊎_elim
        (λ same.
        let bare = quota_first old.pages at cells are.quotas 6 (λ e. omega (arith, e)) (λ e. omega (arith, e)) in
        let left : None ≡ Some Trim = sym (ap (option_and_then leftover_in) bare) ∙ ap left_of (some_same cells s.chain (sym there ∙ ap old.files same ∙ s.is)) ∙ s.trim in absurd (cc))
        (λ other. as_it_was (ap (λ (f : Files). f at) s.files ∙ file_other s.entry.at _ old.files at other))
        (same_or_not at s.entry.at)
    keeps (reading_ends s) = ⊎_elim
        (λ same. absurd (no_clone s.entry (in_last old.list s.front s.entry s.last) (s.given ∙ ap Some (sym same))))
        (λ other. as_it_was (ap (λ (f : Files). f at) s.files ∙ file_other s.clone _ old.files at other))
        (same_or_not at s.clone)
    keeps (file_ends s) = ⊎_elim
        (λ same. absurd (none_not after (sym (ap new.files same ∙ ap (λ (f : Files). f s.entry.at) s.files ∙ file_there s.entry.at None old.files) ∙ is)))
        (λ other. as_it_was (ap (λ (f : Files). f at) s.files ∙ file_other s.entry.at None old.files at other))
        (same_or_not at s.entry.at)
    keeps (tag_page_goes s) = as_it_was (ap (λ (f : Files). f at) s.same_files)

-- ---- any number of them

module _ (d : DomainNow) (n : ℕ) (at : CellAt) (group : ℕ) (version : Version) (first : Now) (well : IsWell first) (are : (cells : List PlacedCell) → first.files at ≡ Some cells → AreQuotasOf (record d { pages = first.pages }) n at cells) where
  pub quotas_go : (count : ℕ) (last : Now) → Steps group version first count last → (after : List PlacedCell) → last.files at ≡ Some after → AreQuotasOf (record d { pages = last.pages }) n at after
  quotas_go count last steps =
      elim steps as (λ count last steps. (after : List PlacedCell) → last.files at ≡ Some after → AreQuotasOf (record d { pages = last.pages }) n at after) [
        | none ↦ are
        | more m between last (steps → was) step ↦ λ after is.
            let well_then = wells_stay group version first m between well steps in
            let well_now = wells_stay group version first (m + 1) last well (more m between last steps step) in
            let one = said_so group version between (0 + 1) last well_then (more 0 between last none step) at after is in
            keeps d n at group version between last well_then well_now one.0 one.1 (was one.0 one.1) after is step
      ]
