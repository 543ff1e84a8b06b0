-- What is on the list is still to be done over steps, and what is to be done is on it.
use Rattle.std.proofs.Common.{◌≡◌, ◌∙◌, ◌⊎◌, inl, inr, ℕ, zero, suc, List, [], ◌∷◌, Option, Some, None, IsSome, is_some, Contains, refl, sym, ap, subst, arith, ⊎_elim, true≢false}
use Rattle.std.specs.Option.{option_and_then}
use Rattle.standing_laws.specs.domain_base.declared.place.CellAt.{CellAt}
use Rattle.standing_laws.specs.domain_base.declared.version.Version.{Version}
use Rattle.standing_laws.specs.cell_records.Records.{kind_of}
use Rattle.standing_laws.specs.cell_records.declared.record.Leftover.{Leftover}
use Rattle.standing_laws.specs.cell_records.declared.record.Leftover.TheVariants.{Remove, Trim}
use Rattle.standing_laws.specs.cell_records.declared.record.Record.{Record}
use Rattle.standing_laws.specs.cell_records.declared.record.Record.TheVariants as written
use Rattle.standing_laws.specs.metadata_cells.Cell.{record_of}
use Rattle.standing_laws.specs.metadata_cells.Chain.{PlacedCell}
use Rattle.standing_laws.proofs.OfFileChains.MapRecords.{kind_found}
use Rattle.standing_laws.specs.fileset_files.Files.{first_record, keep_in, keep_of}
use Rattle.standing_laws.specs.release_list.declared.list.Entry.{Entry}
use Rattle.standing_laws.specs.release_list.Listed.{GoesWhole, left_of, leftover_in}
use Rattle.standing_laws.specs.release_list.Steps.{IsWell, Now, Steps, more, none}
use Rattle.standing_laws.proofs.OfReleaseList.Spread.{none_not}
use Rattle.standing_laws.proofs.OfReleaseList.Standings.{same_or_not}
use Rattle.standing_laws.specs.release_steps.Kept.{HasNoEntry, KeepsAll, KeepsOrIsTrimmed}
use Rattle.standing_laws.proofs.OfReleaseSteps.AllKept.{trimmed_keep_all}
use Rattle.standing_laws.proofs.OfReleaseSteps.Emptied.{removed_are_gone}
use Rattle.standing_laws.proofs.OfReleaseSteps.LeftStill.{left_so}
use Rattle.standing_laws.proofs.OfReleaseSteps.Narrower.{narrower_step}

-- ---- what is left to be done

-- a first cell with the record says what is left
pending_left : (r : Record) → kind_of r ≡ 6 → IsSome (leftover_in r)
pending_left (written.Attributes kind uid gid flags size keep links birth unsynced) is = absurd (omega (arith, is))
pending_left (written.CloneFile vol cell page frozen) is = absurd (omega (arith, is))
pending_left (written.Extents rows) is = absurd (omega (arith, is))
pending_left (written.ShortExtents rows) is = absurd (omega (arith, is))
pending_left (written.Holes rows) is = absurd (omega (arith, is))
pending_left (written.Pending what) is = refl
pending_left (written.UserQuota id files blocks) is = absurd (omega (arith, is))
pending_left (written.GroupQuota id files blocks) is = absurd (omega (arith, is))
pending_left (written.DirIndex vol page entries) is = absurd (omega (arith, is))
pending_left (written.Parent slot seq) is = absurd (omega (arith, is))
pending_left (written.Stripe width mark vols) is = absurd (omega (arith, is))
pending_left (written.Volume vol pages bitmap_pages) is = absurd (omega (arith, is))
pending_left (written.DenseExtents rows) is = absurd (omega (arith, is))
pending_left (written.ShortDense rows) is = absurd (omega (arith, is))

six_left : (cs : List PlacedCell) → IsSome (first_record 6 cs) → IsSome (left_of cs)
six_left [] some = absurd (true≢false (sym some))
six_left (first ∷ rest) some = by_record (record_of 6 first.cell.records) refl some
  where
    by_record : (o : Option Record) → record_of 6 first.cell.records ≡ o → IsSome o → IsSome (option_and_then leftover_in o)
    by_record None is some = absurd (true≢false (sym some))
    by_record (Some r) is some = pending_left r (kind_found 6 first.cell.records r is)

-- the file of an entry has something to be let go of, or is of quotas: it was not trimmed
pub not_done : (now : Now) → IsWell now → (e : Entry) → Contains now.list.entries e → (cs : List PlacedCell) → now.files e.at ≡ Some cs → keep_of cs ≡ Some 65536 → left_of cs ≡ None → ⊥
not_done now well e inside cs is keep left = ⊎_elim
    (λ six. true≢false (sym (six_left cs (subst (λ o. IsSome (option_and_then (first_record 6) o)) is six)) ∙ ap is_some left))
    (λ nothing. none_not 65536 (sym (ap (option_and_then keep_in) (ap (option_and_then (first_record 1)) (sym is) ∙ nothing)) ∙ keep))
    (well.listed.each e inside).says

-- a list has an entry at a place, or none
on_or_not : (entries : List Entry) (at : CellAt) → ((e : Entry) × Contains entries e × (e.at ≡ at)) ⊎ ((e : Entry) → Contains entries e → ¬ e.at ≡ at)
on_or_not [] at = inr (λ e inside. absurd (omega (arith, inside.1)))
on_or_not (x ∷ xs) at = ⊎_elim
    (λ same. inl (x, (0, omega arith, refl), same))
    (λ apart. ⊎_elim
    (λ later. inl (later.0, (suc later.1.0, omega (arith, later.1.1), later.1.2), later.2))
    (λ nobody. inr (out apart nobody))
    (on_or_not xs at))
    (same_or_not x.at at)
  where
    out : ¬ x.at ≡ at → ((e : Entry) → Contains xs e → ¬ e.at ≡ at) → (e : Entry) → Contains (x ∷ xs) e → ¬ e.at ≡ at
    out apart nobody e (zero, less, is) same = apart (ap (λ (y : Entry). y.at) is ∙ same)
    out apart nobody e (suc k, less, is) same = nobody e (k, omega (arith, less), is) same

module _ (group : ℕ) (version : Version) (first : Now) (count : ℕ) (last : Now) (well : IsWell first) (steps : Steps group version first count last) where
  -- an entry is of a file of which one was
  abbrev pub Was : Now → Entry → Type 0
  Was now e = (w : Entry) × Contains first.list.entries w × (w.at ≡ e.at)

  pub entry_was : (e : Entry) → Contains last.list.entries e → Was last e
  entry_was =
      elim steps as (λ count last steps. (e : Entry) → Contains last.list.entries e → Was last e) [
        | none ↦ λ e inside. (e, inside, refl)
        | more n between last (steps → was) step ↦ λ e inside.
            let k = narrower_step group version between last step e inside in
            let w = was k.was k.inside in
            (w.0, w.1, w.2 ∙ k.at)
      ]

  -- a file says the same to be left, or it was trimmed
  pub left_was : (a : CellAt) (after : List PlacedCell) → last.files a ≡ Some after → (chain : List PlacedCell) × (first.files a ≡ Some chain) × KeepsOrIsTrimmed first.list a chain after
  left_was = left_so group version first count last well steps

  -- what is to be done was, and is on the list still
  pub to_do_on : (a : CellAt) (after : List PlacedCell) → last.files a ≡ Some after → IsSome (left_of after) → (w : Entry) → Contains first.list.entries w → w.at ≡ a → (e : Entry) × Contains last.list.entries e × (e.at ≡ a)
  to_do_on a after is some w inside at = ⊎_elim
      (λ on. on)
      (λ nobody. let c = left_was a after is in absurd (by_left c.0 (subst (λ (b : CellAt). first.files b ≡ Some c.0) (sym at) c.1) (left_of c.0) refl nobody))
      (on_or_not last.list.entries a)
    where
      there : (chain : List PlacedCell) → first.files w.at ≡ Some chain → GoesWhole chain → HasNoEntry last.list a → ⊥
      there chain was whole nobody =
          none_not after (sym (removed_are_gone group version first count last well steps w inside (λ e on same. nobody e on (same ∙ at)) chain was whole) ∙ ap last.files at ∙ is)

      by_left : (chain : List PlacedCell) → first.files w.at ≡ Some chain → (o : Option Leftover) → left_of chain ≡ o → HasNoEntry last.list a → ⊥
      by_left chain was None left nobody = there chain was (λ trim. none_not Trim (sym left ∙ trim)) nobody
      by_left chain was (Some Remove) left nobody = there chain was (λ trim. let e : Some Remove ≡ Some Trim = sym left ∙ trim in cc) nobody
      by_left chain was (Some Trim) left nobody =
          let keeps : KeepsAll (last.files w.at) = trimmed_keep_all group version first count last well steps w inside (λ e on same. nobody e on (same ∙ at)) chain was left in
          let after_keeps : KeepsAll (Some after) = subst KeepsAll (ap last.files at ∙ is) keeps in
          true≢false (sym some ∙ ap is_some after_keeps.1)
