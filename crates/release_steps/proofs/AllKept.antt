-- Files that were trimmed keep all their pages once nothing is on the list.
use Rattle.std.proofs.Common.{◌≡◌, ◌∙◌, ◌⊎◌, inl, inr, ℕ, List, [], ◌∷◌, ◌++◌, Option, Some, None, IfSome, IsSome, Contains, refl, sym, ap, subst, arith, ⊎_elim}
use Rattle.std.proofs.lemmas.Bool.{true≢false}
use Rattle.std.specs.Option.{option_and_then, option_map}
use Rattle.release_list.specs.domain_base.declared.place.CellAt.{CellAt}
use Rattle.release_list.specs.domain_base.declared.version.Version.{Version}
use Rattle.release_list.specs.cell_records.declared.record.Record.{Record}
use Rattle.release_list.specs.cell_records.declared.record.Record.TheVariants as written
use Rattle.release_list.specs.cell_records.declared.record.Leftover.TheVariants.{Trim}
use Rattle.release_list.specs.cell_records.Records.{kind_of}
use Rattle.release_list.specs.metadata_cells.Cell.{Cell, record_of}
use Rattle.release_list.specs.metadata_cells.Chain.{PlacedCell}
use Rattle.release_list.specs.file_chains.Changes.{with_kind}
use Rattle.release_list.proofs.OfFileChains.MapRecords.{kind_found}
use Rattle.release_list.specs.fileset_files.Changes.{with_first}
use Rattle.release_list.specs.fileset_files.Files.{first_record, keep_in, keep_of}
use Rattle.release_list.proofs.OfFilesetFiles.FirstCell.{find_other, find_put}
use Rattle.release_list.specs.declared.list.Entry.{Entry}
use Rattle.release_list.specs.Listed.{left_of, leftover_in}
use Rattle.release_list.specs.Listing.{without}
use Rattle.release_list.specs.Steps.{EndsFile, EndsReading, EndsTrim, IsLast, IsWell, LetsPages, Now, Step, Steps, file_ends, kept_all, more, none, pages_go, quota_goes, reading_ends, says_no_source, says_trimmed, tag_page_goes, trim_ends}
use Rattle.release_list.proofs.Lists.{IsIn, earlier, in_start, last_in, not_last, this}
use Rattle.release_list.proofs.Records.{kept_kind, sourceless_other}
use Rattle.release_list.proofs.Spread.{Which, other, reading, some_same, source, which}
use Rattle.release_list.proofs.Standings.{same_or_not}
use Rattle.release_steps.specs.Kept.{HasNoEntry, KeepsAll}
use Rattle.release_steps.proofs.Emptied.{place_in_list, sole}
use Rattle.release_steps.proofs.Ended.{ended_other, file_now, file_once, reading_other, reading_there, same_file, trim_front, trim_once, trim_other, trim_there}
use Rattle.release_steps.proofs.Fits.{Fits, alone, trim_maps, well_fits}
use Rattle.release_steps.proofs.DeferredLaws.{fits_step}
use Rattle.release_steps.proofs.Narrower.{in_last, inside_by, narrower_step}
use Rattle.release_steps.proofs.PagesGo.{after_left, at_other, at_source, clone_now, clone_was, own_first}
use Rattle.release_steps.proofs.QuotaStep.{not_trimmed, quota_beside}

-- ---- what a first cell says then

keeps_kept : (r : Record) → kind_of r ≡ 1 → keep_in (kept_all r) ≡ Some 65536
keeps_kept (written.Attributes kind uid gid flags size keep links birth unsynced) is = refl
keeps_kept (written.CloneFile vol cell page frozen) is = absurd (omega (arith, is))
keeps_kept (written.Extents rows) is = absurd (omega (arith, is))
keeps_kept (written.ShortExtents rows) is = absurd (omega (arith, is))
keeps_kept (written.Holes rows) is = absurd (omega (arith, is))
keeps_kept (written.Pending what) is = absurd (omega (arith, is))
keeps_kept (written.UserQuota id files blocks) is = absurd (omega (arith, is))
keeps_kept (written.GroupQuota id files blocks) is = absurd (omega (arith, is))
keeps_kept (written.DirIndex vol page entries) is = absurd (omega (arith, is))
keeps_kept (written.Parent slot seq) is = absurd (omega (arith, is))
keeps_kept (written.Stripe width mark vols) is = absurd (omega (arith, is))
keeps_kept (written.Volume vol pages bitmap_pages) is = absurd (omega (arith, is))
keeps_kept (written.DenseExtents rows) is = absurd (omega (arith, is))
keeps_kept (written.ShortDense rows) is = absurd (omega (arith, is))

module _ (cell : Cell) where
  of_kind : (o : Option Record) → record_of 1 cell.records ≡ o → IfSome (option_map kept_all o) (λ r. kind_of r ≡ 1)
  of_kind None is = tt
  of_kind (Some r) is = kept_kind r ∙ kind_found 1 cell.records r is

  keep_said : (o : Option Record) → record_of 1 cell.records ≡ o → IsSome o → option_and_then keep_in (option_map kept_all o) ≡ Some 65536
  keep_said None is some = absurd (true≢false (sym some))
  keep_said (Some r) is some = keeps_kept r (kind_found 1 cell.records r is)

  -- the record of attributes that is said then
  pub trimmed_first : record_of 1 (says_trimmed cell).records ≡ option_map kept_all (record_of 1 cell.records)
  trimmed_first =
      find_other 6 1 None (with_kind 1 (option_map kept_all (record_of 1 cell.records)) cell.records) (λ same. omega (arith, same)) tt
      ∙ find_put 1 (option_map kept_all (record_of 1 cell.records)) cell.records (of_kind (record_of 1 cell.records) refl)

  keep_trimmed : IsSome (record_of 1 cell.records) → option_and_then keep_in (record_of 1 (says_trimmed cell).records) ≡ Some 65536
  keep_trimmed some = ap (option_and_then keep_in) trimmed_first ∙ keep_said (record_of 1 cell.records) refl some

  pub none_trimmed : record_of 6 (says_trimmed cell).records ≡ None
  none_trimmed = find_put 6 None (with_kind 1 (option_map kept_all (record_of 1 cell.records)) cell.records) tt

pub trimmed_keep : (cells : List PlacedCell) → ((first : PlacedCell) (rest : List PlacedCell) → cells ≡ first ∷ rest → IsSome (record_of 1 first.cell.records)) → ¬ cells ≡ [] → keep_of (with_first says_trimmed cells) ≡ Some 65536
trimmed_keep [] some not_nil = absurd (not_nil refl)
trimmed_keep (first ∷ rest) some not_nil = keep_trimmed first.cell (some first rest refl)

pub trimmed_left : (cells : List PlacedCell) → left_of (with_first says_trimmed cells) ≡ None
trimmed_left [] = refl
trimmed_left (first ∷ rest) = ap (option_and_then leftover_in) (none_trimmed first.cell)

-- what is said beside the file through which a clone's file reads stays
pub sourceless_first : (k : ℕ) → ¬ k ≡ 2 → (cells : List PlacedCell) → first_record k (with_first says_no_source cells) ≡ first_record k cells
sourceless_first k two [] = refl
sourceless_first k two (first ∷ rest) = sourceless_other first.cell k two

-- an entry is the file's, which is to be trimmed
record IsToTrim (now : Now) (a : CellAt) : Type 0 where
  entry : Entry
  inside : Contains now.list.entries entry
  at : entry.at ≡ a
  chain : List PlacedCell
  is : now.files a ≡ Some chain
  left : left_of chain ≡ Some Trim

-- the file keeps all, and no entry is its
record IsDone (now : Now) (a : CellAt) : Type 0 where
  chain : List PlacedCell
  is : now.files a ≡ Some chain
  keep : keep_of chain ≡ Some 65536
  left : left_of chain ≡ None
  no_entry : (e : Entry) → Contains now.list.entries e → ¬ e.at ≡ a

module _ (group : ℕ) (version : Version) (old new : Now) (fits : Fits old) (a : CellAt) where
  module _ (k : IsToTrim old a) where
    still_to_trim : (e : Entry) → Contains new.list.entries e → e.at ≡ a → new.files a ≡ old.files a → IsToTrim new a
    still_to_trim e inside at same = record { entry = e; inside = inside; at = at; chain = k.chain; is = same ∙ k.is; left = k.left }

    -- it is the last entry's file
    entry_chain : (chain : List PlacedCell) (at : CellAt) → old.files at ≡ Some chain → a ≡ at → chain ≡ k.chain
    entry_chain chain at is same = some_same chain k.chain (sym is ∙ sym (ap old.files same) ∙ k.is)

    lets_to_trim : LetsPages group version old new → IsToTrim new a
    lets_to_trim s = by_which (which s.entry.at s.entry.clone a)
      where
        inside_now : Contains new.list.entries k.entry
        inside_now = inside_by new.list old.list k.entry (sym s.same_list) k.inside

        by_which : Which s.entry.at s.entry.clone a → IsToTrim new a
        by_which (source same) = record {
          entry = k.entry;
          inside = inside_now;
          at = k.at;
          chain = s.releases.after;
          is = ap new.files same ∙ at_source group version old new fits s;
          left = after_left group version old new fits s ∙ ap left_of (entry_chain s.chain s.entry.at s.is same) ∙ k.left;
        }
        by_which (reading some) = absurd (alone old fits s.front s.entry s.last k.entry k.inside (some ∙ ap Some (sym k.at)))
        by_which (other not_at not_it) = still_to_trim k.entry inside_now k.at (at_other group version old new fits s a not_at not_it)

    trim_done : EndsTrim old new → IsToTrim new a ⊎ IsDone new a
    trim_done s = by_place (place_in_list old.list s.front s.entry k.entry s.last k.inside)
      where
        not_nil : ¬ s.chain ≡ []
        not_nil empty = let e : Some Trim ≡ None = sym s.trim ∙ ap left_of empty in absurd (cc)

        by_place : IsIn s.front s.entry k.entry → IsToTrim new a ⊎ IsDone new a
        by_place (earlier is) =
            inl (still_to_trim k.entry (inside_by new.list (record { entries = s.front; tag_pages = old.list.tag_pages }) k.entry (sym s.list) is) k.at
            (trim_other group version old new fits s a (λ same. not_last s.front s.entry k.entry (trim_once group version old new fits s) is (k.at ∙ same))))
        by_place (this same) =
            let at : a ≡ s.entry.at = sym k.at ∙ ap (λ (e : Entry). e.at) same in
            inr (record {
              chain = with_first says_trimmed s.chain;
              is = ap new.files at ∙ trim_there group version old new fits s;
              keep = trimmed_keep s.chain (λ first rest e. (trim_maps old new fits s first rest e).attributes) not_nil;
              left = trimmed_left s.chain;
              no_entry = λ e inside is. not_last s.front s.entry e (trim_once group version old new fits s) (trim_front group version old new fits s e inside) (is ∙ at);
            })

    reading_to_trim : EndsReading old new → IsToTrim new a
    reading_to_trim s = by_place (place_in_list old.list s.front s.entry k.entry s.last k.inside)
      where
        now_in : (e : Entry) → Contains (s.front ++ (sole s.entry) ∷ []) e → Contains new.list.entries e
        now_in e inside = inside_by new.list (record { entries = s.front ++ (sole s.entry) ∷ []; tag_pages = old.list.tag_pages }) e (sym s.list) inside

        same_chain : new.files a ≡ old.files a
        same_chain = reading_other group version old new fits s a (λ same. alone old fits s.front s.entry s.last k.entry k.inside (s.given ∙ ap Some (sym same ∙ sym k.at)))

        by_place : IsIn s.front s.entry k.entry → IsToTrim new a
        by_place (earlier is) = still_to_trim k.entry (now_in k.entry (in_start s.front ((sole s.entry) ∷ []) k.entry is)) k.at same_chain
        by_place (this same) = still_to_trim (sole s.entry) (now_in (sole s.entry) (last_in s.front (sole s.entry))) (sym (ap (λ (e : Entry). e.at) same) ∙ k.at) same_chain

    file_to_trim : EndsFile old new → IsToTrim new a
    file_to_trim s = by_place (place_in_list old.list s.front s.entry k.entry s.last k.inside)
      where
        by_place : IsIn s.front s.entry k.entry → IsToTrim new a
        by_place (earlier is) =
            still_to_trim (without s.entry.at k.entry) (file_now group version old new fits s k.entry is) k.at
            (ended_other group version old new fits s a (λ same. not_last s.front s.entry k.entry (file_once group version old new fits s) is (k.at ∙ same)))
        by_place (this same) =
            absurd (s.whole (ap left_of (entry_chain s.chain s.entry.at s.is (sym k.at ∙ ap (λ (e : Entry). e.at) same)) ∙ k.left))

    to_trim_step : Step group version old new → IsToTrim new a ⊎ IsDone new a
    to_trim_step (pages_go s) = inl (lets_to_trim s)
    to_trim_step (quota_goes s) =
        inl (still_to_trim k.entry (inside_by new.list old.list k.entry (sym s.same_list) k.inside) k.at (quota_beside group version old new s a (λ same. not_trimmed group version old new s k.chain (sym (ap old.files same) ∙ k.is) k.left)))
    to_trim_step (trim_ends s) = trim_done s
    to_trim_step (reading_ends s) = inl (reading_to_trim s)
    to_trim_step (file_ends s) = inl (file_to_trim s)
    to_trim_step (tag_page_goes s) = inl (still_to_trim k.entry (inside_by new.list (record { entries = old.list.entries; tag_pages = s.takes.front }) k.entry (sym s.takes.is) k.inside) k.at (same_file group version old new fits s a))

  -- ---- and it goes on to keep all

  module _ (d : IsDone old a) where
    no_entry_now : Step group version old new → (e : Entry) → Contains new.list.entries e → ¬ e.at ≡ a
    no_entry_now step e inside same = let n = narrower_step group version old new step e inside in d.no_entry n.was n.inside (n.at ∙ same)

    same_done : Step group version old new → new.files a ≡ old.files a → IsDone new a
    same_done step same = record { chain = d.chain; is = same ∙ d.is; keep = d.keep; left = d.left; no_entry = no_entry_now step }

    -- with another chain whose first cell says the same
    says_done : Step group version old new → (cells after : List PlacedCell) → old.files a ≡ Some cells → new.files a ≡ Some after → first_record 1 after ≡ first_record 1 cells → first_record 6 after ≡ first_record 6 cells → IsDone new a
    says_done step cells after is is_now one six =
        let was : cells ≡ d.chain = some_same cells d.chain (sym is ∙ d.is) in
        record {
          chain = after;
          is = is_now;
          keep = ap (option_and_then keep_in) one ∙ ap keep_of was ∙ d.keep;
          left = ap (option_and_then leftover_in) six ∙ ap left_of was ∙ d.left;
          no_entry = no_entry_now step;
        }

    not_last_entry : (front : List Entry) (entry : Entry) → IsLast front entry old.list → ¬ a ≡ entry.at
    not_last_entry front entry last same = d.no_entry entry (in_last old.list front entry last) (sym same)

    lets_done : LetsPages group version old new → IsDone new a
    lets_done s = by_which (which s.entry.at s.entry.clone a)
      where
        by_which : Which s.entry.at s.entry.clone a → IsDone new a
        by_which (source same) = absurd (not_last_entry s.front s.entry s.last same)
        by_which (reading some) = says_done (pages_go s) s.own s.releases.own_now (clone_was group version old new fits s a some) (clone_now group version old new fits s a some) (own_first group version old new fits s 1 refl) (own_first group version old new fits s 6 refl)
        by_which (other not_at not_it) = same_done (pages_go s) (at_other group version old new fits s a not_at not_it)

    reading_done : EndsReading old new → IsDone new a
    reading_done s = ⊎_elim
        (λ same. says_done (reading_ends s) s.own (with_first says_no_source s.own) (ap old.files same ∙ s.own_is) (ap new.files same ∙ reading_there group version old new fits s) (sourceless_first 1 (λ e. omega (arith, e)) s.own) (sourceless_first 6 (λ e. omega (arith, e)) s.own))
        (λ not_at. same_done (reading_ends s) (reading_other group version old new fits s a not_at))
        (same_or_not a s.clone)

    done_step : Step group version old new → IsDone new a
    done_step (pages_go s) = lets_done s
    done_step (quota_goes s) = same_done (quota_goes s) (quota_beside group version old new s a (not_last_entry s.front s.entry s.last))
    done_step (trim_ends s) = same_done (trim_ends s) (trim_other group version old new fits s a (not_last_entry s.front s.entry s.last))
    done_step (reading_ends s) = reading_done s
    done_step (file_ends s) = same_done (file_ends s) (ended_other group version old new fits s a (not_last_entry s.front s.entry s.last))
    done_step (tag_page_goes s) = same_done (tag_page_goes s) (same_file group version old new fits s a)

record TrimsStill (now : Now) (a : CellAt) : Type 0 where
  fits : Fits now
  state : IsToTrim now a ⊎ IsDone now a

trims_still : (group : ℕ) (version : Version) (first : Now) (count : ℕ) (last : Now) → IsWell first → Steps group version first count last → (a : CellAt) → IsToTrim first a → TrimsStill last a
trims_still group version first count last well steps a k =
    elim steps as (λ count last steps. TrimsStill last a) [
      | none ↦ record { fits = well_fits first well; state = inl k }
      | more n between last (steps → was) step ↦ record {
        fits = fits_step group version between last was.fits step;
        state = ⊎_elim
            (λ k. to_trim_step group version between last was.fits a k step)
            (λ d. inr (done_step group version between last was.fits a d step))
            was.state;
      }
    ]

pub trimmed_keep_all : (group : ℕ) (version : Version) (first : Now) (count : ℕ) (last : Now) → IsWell first → Steps group version first count last
    → (entry : Entry) → Contains first.list.entries entry → HasNoEntry last.list entry.at → (chain : List PlacedCell) → first.files entry.at ≡ Some chain → left_of chain ≡ Some Trim → KeepsAll (last.files entry.at)
trimmed_keep_all group version first count last well steps entry inside nobody chain is left =
    ⊎_elim
    (λ k. absurd (nobody k.entry k.inside k.at))
    (λ d. subst KeepsAll (sym d.is) (d.keep, d.left))
    (trims_still group version first count last well steps entry.at (record { entry = entry; inside = inside; at = refl; chain = chain; is = is; left = left })).state
