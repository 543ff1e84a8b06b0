-- A domain stands on around a slot where a file is cut, and is to be let go of behind its end.
use Rattle.std.proofs.Common.{◌≡◌, ◌∙◌, ℕ, List, ◌∷◌, Option, Some, None, IsSome, IsSomeAnd, inl, is_some, refl, sym, ap, subst, true≢false}
use Rattle.std.specs.Option.{option_and_then}
use Rattle.standing_laws.specs.domain_base.declared.place.CellAt.{CellAt}
use Rattle.standing_laws.specs.domain_base.declared.place.Kind.TheVariants.{File}
use Rattle.standing_laws.specs.domain_base.declared.place.Tag.{Tag}
use Rattle.standing_laws.specs.page_store.Pages.{Pages}
use Rattle.standing_laws.specs.cell_records.Records.{kind_of}
use Rattle.standing_laws.specs.cell_records.declared.record.Leftover.TheVariants.{Trim}
use Rattle.standing_laws.specs.cell_records.declared.record.Record.{Record}
use Rattle.standing_laws.specs.cell_records.declared.record.Record.TheVariants as written
use Rattle.standing_laws.specs.metadata_cells.Cell.{record_of}
use Rattle.standing_laws.specs.metadata_cells.Chain.{PlacedCell}
use Rattle.standing_laws.proofs.OfFileChains.MapRecords.{kind_found}
use Rattle.standing_laws.specs.fileset_files.Changes.{ChangesFirst, with_chain, with_first}
use Rattle.standing_laws.specs.fileset_files.Files.{Chains, first_record}
use Rattle.standing_laws.specs.fileset_files.State.{FileState, state_of}
use Rattle.standing_laws.specs.fileset_files.Together.{AreTogether}
use Rattle.standing_laws.specs.fileset_files.Truncation.{IsLowered, says_size, says_truncated}
use Rattle.standing_laws.proofs.OfFilesetFiles.FirstCell.{find_other}
use Rattle.standing_laws.specs.fileset_files.States.{cut as cut_state}
use Rattle.standing_laws.proofs.OfFilesetFiles.FirstCells.{size_said}
use Rattle.standing_laws.specs.release_list.Listed.{IsEntry, leftover_in}
use Rattle.standing_laws.specs.release_list.Listing.{Adds, Listing}
use Rattle.standing_laws.specs.release_list.Standing.{Files, ReadsThrough, source_at}
use Rattle.standing_laws.proofs.OfReleaseList.Spread.{none_not}
use Rattle.standing_laws.proofs.OfReleaseList.Standings.{file_there}
use Rattle.standing_laws.specs.release_steps.Calls.{cut}
use Rattle.standing_laws.specs.release_steps.Tags.{start_of}
use Rattle.standing_laws.specs.domain_layout.Filled.{Contents}
use Rattle.standing_laws.specs.domain_standing.Chains.{IsToDo}
use Rattle.standing_laws.specs.domain_standing.Domain.{DomainNow}
use Rattle.standing_laws.specs.Leads.{IsLiveOf, LeadsOn, StandsBelow}
use Rattle.standing_laws.proofs.BelowStands.{below_listed}
use Rattle.standing_laws.proofs.ChainsGoOn.{size_other}
use Rattle.standing_laws.specs.Sound.{StandsSoundBut}
use Rattle.standing_laws.proofs.SoundCalled.{but_called}
use Rattle.standing_laws.proofs.SoundKept.{but_kept}
use Rattle.standing_laws.proofs.SoundParted.{sound_more}
use Rattle.set_standing.specs.Around.{BytesFollow, IsNamedIn, StandsAround}
use Rattle.set_standing.specs.Beside.{ChangesOneFile, StaysBeside}
use Rattle.set_standing.proofs.Again.{alone_said, around_of, at_slot}
use Rattle.set_standing.proofs.CallsAround.{sets}
use Rattle.set_standing.proofs.FileSaid.{file_said, h, its_file, mine, said_files}
use Rattle.set_standing.proofs.FileShown.{IsShownAlike}
use Rattle.set_standing.proofs.LedBeside.{beside_led, own_page}
use Rattle.set_standing.proofs.NamesStay.{said_starts, still_named}

-- a record of what is left to be done says something
left_said : (r : Record) → kind_of r ≡ 6 → IsSome (leftover_in r)
left_said (written.Pending what) is = refl
left_said (written.Attributes kind uid gid flags size keep links birth unsynced) is = absurd (cc)
left_said (written.CloneFile vol cell page frozen) is = absurd (cc)
left_said (written.Extents rows) is = absurd (cc)
left_said (written.ShortExtents rows) is = absurd (cc)
left_said (written.Holes rows) is = absurd (cc)
left_said (written.UserQuota id files blocks) is = absurd (cc)
left_said (written.GroupQuota id files blocks) is = absurd (cc)
left_said (written.DirIndex vol page entries) is = absurd (cc)
left_said (written.Parent slot seq) is = absurd (cc)
left_said (written.Stripe width mark vols) is = absurd (cc)
left_said (written.Volume vol pages bitmap_pages) is = absurd (cc)
left_said (written.DenseExtents rows) is = absurd (cc)
left_said (written.ShortDense rows) is = absurd (cc)

left_found : (rs : List Record) → IsSome (record_of 6 rs) → IsSome (option_and_then leftover_in (record_of 6 rs))
left_found rs some = by_record (record_of 6 rs) refl some
  where
    by_record : (o : Option Record) → record_of 6 rs ≡ o → IsSome o → IsSome (option_and_then leftover_in o)
    by_record None is some = absurd (true≢false (sym some))
    by_record (Some r) is some = left_said r (kind_found 6 rs r is)

module _ (number : ℕ) (tag : Tag) (d : DomainNow) (around : StandsAround number d) (pages : Pages) (contents : Contents) (bytes : BytesFollow d (record d { pages = pages; contents = contents })) (changes : ChangesFirst (around.chains tag) d.pages pages) (live : IsLiveOf File (around.chains tag)) (size : ℕ) (lowered : Option ℕ)
    (stale : IsSomeAnd (around.chains tag) (λ chain. IsLowered size chain lowered))
    (together : AreTogether number (d.tags number) d.space d.cells pages (with_chain tag (with_first (says_truncated size lowered)) around.chains))
    (alike : (state : FileState) → state_of (mine number tag d around pages contents bytes changes live) ≡ Some state → IsShownAlike state (cut_state size lowered state))
  where
    abbrev now : DomainNow
    now = record d { pages = pages; contents = contents }

    abbrev first : PlacedCell
    first = (h number tag d around pages contents bytes changes live).first

    abbrev rest : List PlacedCell
    rest = (h number tag d around pages contents bytes changes live).rest

    is : around.chains tag ≡ Some (first ∷ rest)
    is = (h number tag d around pages contents bytes changes live).is

    abbrev chains_now : Chains
    chains_now = with_chain tag (with_first (says_truncated size lowered)) around.chains

    abbrev files_now : Files
    files_now = said_files number tag d around pages contents bytes changes live (says_truncated size lowered)

    leads : LeadsOn number tag d now around.chains chains_now around.files files_now
    leads = record {
      entry = around.entry;
      original = around.original;
      well = around.well;
      call = cut size lowered (sets number tag d now around refl bytes changes (says_truncated size lowered) (h number tag d around pages contents bytes changes live) together);
      may = stale;
      frame = refl;
      table = refl;
      tags = λ other differ. refl;
    }

    source_same : (o : Option ℕ) → record_of 2 (says_truncated size o first.cell).records ≡ record_of 2 first.cell.records
    source_same None = size_other size None first.cell 2 (λ e. cc)
    source_same (Some keep) =
        find_other 6 2 (Some (written.Pending Trim)) (says_size size (Some keep) first.cell).records (λ e. cc) refl
        ∙ size_other size (Some keep) first.cell 2 (λ e. cc)

    alone_now : (at : CellAt) → source_at files_now at ≡ None
    alone_now = alone_said number tag d (at_slot number d around) first rest is (says_truncated size lowered) (source_same lowered)

    there_now : files_now first.at ≡ Some (with_first (says_truncated size lowered) (first ∷ rest))
    there_now = file_there first.at (Some (with_first (says_truncated size lowered) (first ∷ rest))) around.files

    module _ (listed : Listing) (pending : IsSome (record_of 6 (says_truncated size lowered first.cell).records)) (adds : Adds first.at None d.list.entries listed.entries) (same_pages : listed.tag_pages ≡ d.list.tag_pages) where
      abbrev then : DomainNow
      then = record now { list = listed }

      to_do : IsToDo files_now first.at
      to_do = subst (λ o. IsSome (option_and_then (λ cs. option_and_then leftover_in (first_record 6 cs)) o)) (sym there_now) (left_found (says_truncated size lowered first.cell).records pending)

      entry : IsEntry files_now (record { at = first.at; clone = None })
      entry = record {
        there = ap is_some there_now;
        says = inl (ap (λ o. is_some (option_and_then (first_record 6) o)) there_now ∙ pending);
        given = λ clone none. absurd (none_not clone none);
        all = λ clone reads. absurd (none_reads clone reads);
      }
        where
          none_reads : (clone : CellAt) → ReadsThrough files_now clone first.at → ⊥
          none_reads clone reads = subst (λ o. IsSomeAnd o (λ source. source.at ≡ first.at)) (alone_now clone) reads

      below_then : StandsBelow then files_now around.indexes
      below_then = below_listed number tag d now around.chains chains_now around.files files_now around.indexes around.below leads first.at None listed (ap (option_and_then start_of) is) to_do entry adds same_pages

      sound_now : StandsSoundBut (IsNamedIn chains_now) now files_now around.indexes
      sound_now = sound_more now files_now around.indexes (IsNamedIn around.chains) (IsNamedIn chains_now)
          (still_named around.chains chains_now (said_starts tag around.chains (says_truncated size lowered)))
          (but_called number tag d now around.chains chains_now around.files files_now around.indexes (IsNamedIn around.chains) around.below around.sound leads)

      around_then : StandsAround number then
      around_then = around_of number then around.entry around.original files_now around.indexes below_then chains_now together alone_now
          (but_kept now then files_now around.indexes (IsNamedIn chains_now) sound_now refl (λ vol. refl) (λ n home has. inl has) (λ home held. refl) (λ at k home held. refl))

      beside_then : StaysBeside number d then
      beside_then =
          let b = beside_led number tag d now around chains_now files_now leads bytes refl in
          record {
            frame = b.frame;
            table = b.table;
            tags = b.tags;
            slots = λ other its shape fileset differ at stood. let s = b.slots other its shape fileset differ at stood in record { is = s.is; filled = s.filled; set = s.set };
            parents = b.parents;
            volumes = b.volumes;
            limits = b.limits;
          }

      pub cut_listed : ChangesOneFile number tag (cut_state size lowered) (λ k. ⊥) around.chains d then
      cut_listed =
          file_said number tag d around pages contents bytes changes live (says_truncated size lowered) (cut_state size lowered)
          (size_said d.pages first rest (its_file number tag d around pages contents bytes changes live) size lowered) alike (same_places lowered) together listed around_then beside_then
          (own_page number tag d now around chains_now files_now leads)
        where
          same_places : (o : Option ℕ) (state : FileState) (page : ℕ) → (cut_state size o state).places page ≡ state.places page
          same_places None state page = refl
          same_places (Some keep) state page = refl
