-- A fileset's files go on to belong together with a list, and none reads through another.
use Rattle.std.proofs.Common.{◌≡◌, ◌∙◌, ◌⊎◌, inl, inr, ℕ, ◌<◌, Bool, true, cond, is_some, List, [], ◌∷◌, ◌++◌, Option, Some, None, IsSomeAnd, get_or, length, refl, sym, ap, subst, arith, ⊎_elim}
use Rattle.std.proofs.lemmas.Bool.{cases_Bool, or_left, true≢false}
use Rattle.std.specs.Option.{option_and_then}
use Rattle.release_steps.specs.domain_base.declared.place.CellAt.{CellAt}
use Rattle.release_steps.specs.domain_base.declared.place.Home.{Home}
use Rattle.release_steps.specs.domain_base.declared.place.Tag.{Tag}
use Rattle.release_steps.specs.domain_base.declared.version.Version.{Version}
use Rattle.release_steps.specs.page_store.Bitfiles.{same_tag}
use Rattle.release_steps.specs.page_store.Pages.{Pages, same_home}
use Rattle.release_steps.specs.page_store.declared.fault.StoreFault.{StoreFault}
use Rattle.release_steps.specs.page_store.declared.fault.StoreFault.TheVariants.{NoPage, OutOfMemory}
use Rattle.release_steps.specs.cell_records.declared.record.Leftover.TheVariants.{Remove, Trim}
use Rattle.release_steps.specs.cell_records.declared.record.Record.TheVariants as written
use Rattle.release_steps.specs.metadata_cells.Chain.{PlacedCell}
use Rattle.release_steps.proofs.OfMetadataCells.Changed.{same_itself}
use Rattle.release_steps.specs.tag_dirs.declared.dir.TagPlace.{TagPlace}
use Rattle.release_steps.specs.tag_dirs.Directory.{has_home}
use Rattle.release_steps.specs.free_cells.Cells.{Cells}
use Rattle.release_steps.specs.free_space.Spaces.{Spaces, missed}
use Rattle.release_steps.specs.file_chains.Allocated.{FindsNone}
use Rattle.release_steps.specs.file_chains.Files.{IsFile}
use Rattle.release_steps.specs.fileset_files.Changes.{ChangesBeside, Removes, says_removed, with_first, without_chain}
use Rattle.release_steps.specs.fileset_files.Files.{Chains, first_record}
use Rattle.release_steps.specs.fileset_files.Together.{AreTogether}
use Rattle.release_steps.proofs.OfFilesetFiles.FirstCell.{find_put}
use Rattle.release_steps.specs.release_list.Listed.{IsEntry, left_of}
use Rattle.release_steps.specs.release_list.Listing.{Adds, Listing}
use Rattle.release_steps.specs.release_list.Standing.{Files, ReadsThrough, Source, source_at, with_file}
use Rattle.release_steps.specs.release_list.Steps.{IsWell, LetsGo, Now, Steps, now_of}
use Rattle.release_steps.proofs.OfReleaseList.Standings.{file_there}
use Rattle.release_steps.specs.Calls.{Calls, Drops, FilesetNow, StandsWell, dropped, no_call, one_more, refused}
use Rattle.release_steps.specs.Lists.{with_list}
use Rattle.release_steps.specs.Tags.{chains_in, start_of}
use Rattle.release_steps.proofs.CallsWell.{stands_still}
use Rattle.release_steps.proofs.Listing.{entry_among, entry_listed, page_listed}
use Rattle.release_steps.proofs.ReadBack.{no_more_read}
use Rattle.release_steps.proofs.ReadHomes.{through}
use Rattle.release_steps.proofs.SourcesStay.{sources_stay}
use Rattle.release_steps.proofs.Tags.{tags_stay_together}
use Rattle.release_steps.proofs.TagsBeside.{begin_apart}
use Rattle.release_steps.proofs.Wells.{wells_stay}
use Rattle.release_tables.specs.Called.{HasCalled, HasCut, HasNoClone, IsCut, Parts, fileset_in}
use Rattle.release_tables.specs.Stood.{IsStood}
use Rattle.release_tables.proofs.Agains.{among, cut_chain, stands, well}
use Rattle.release_tables.proofs.Callings.{stands_now}
use Rattle.release_tables.proofs.Wells.{no_files, none_some}

-- ---- no file

pub nothing_stood : (fileset : ℕ) (now : Parts) → StandsWell fileset (fileset_in now no_files (λ t. None)) → IsStood fileset now
nothing_stood fileset now stood = (no_files, λ t. None, λ a. refl, stood)

-- ---- calls

pub called_stood : (fileset : ℕ) (version : Version) (tag : Tag) (first : FilesetNow) (now : Parts) → HasNoClone first.domain.files → StandsWell fileset first → HasCalled fileset version tag first now → IsStood fileset now
called_stood fileset version tag first now alone stood called = (
  called.files,
  called.chains,
  (λ a. sources_stay fileset version tag first (fileset_in now called.files called.chains) called.calls stood a ∙ alone a),
  stands_now fileset version tag first now stood called,
)

pub made_stood : {a b c : ℕ} {version : Version} {tag : Tag} {first : FilesetNow} {made gave : Parts} → b ≡ a → HasCalled a version tag first made → c ≡ b → (StandsWell b first → HasCalled b version tag first made → HasCalled c version tag first gave)
    → HasNoClone first.domain.files → StandsWell a first → IsStood c gave
made_stood {c = c} {version = version} {tag = tag} {first = first} {made = made} {gave = gave} same_b called same_c gives alone stood =
    let stood_b = subst (λ (f : ℕ). StandsWell f first) (sym same_b) stood in
    called_stood c version tag first gave alone (subst (λ (f : ℕ). StandsWell f first) (sym same_c) stood_b) (gives stood_b (subst (λ (f : ℕ). HasCalled f version tag first made) (sym same_b) called))

-- no call led here
pub itself : (fileset : ℕ) (version : Version) (tag : Tag) (now : Parts) (files : Files) (chains : Chains) → HasCalled fileset version tag (fileset_in now files chains) now
itself fileset version tag now files chains = record { files = files; chains = chains; calls = no_call }

-- ---- a file is cut and listed

pub cut_from : {a d : ℕ} {version : Version} {tag : Tag} {first : FilesetNow} {cuts : Parts} {left : Option CellAt} {at : CellAt} → d ≡ a → HasCut d version tag first cuts left → left ≡ Some at → HasNoClone first.domain.files → StandsWell a first
    → IsCut d version tag at first cuts
cut_from {d = d} {version = version} {tag = tag} {first = first} {cuts = cuts} same cut is alone stood = record {
  stood = subst (λ (f : ℕ). StandsWell f first) (sym same) stood;
  alone = alone;
  cut = subst (HasCut d version tag first cuts) is cut;
}

pub cut_stood : (fileset : ℕ) (version : Version) (tag : Tag) (at : CellAt) (first : FilesetNow) (parts : Parts) → (c : IsCut fileset version tag at first parts) → (listed : Listing) → Adds at None parts.list.entries listed.entries → listed.tag_pages ≡ parts.list.tag_pages
    → left_of (cut_chain fileset version tag at first parts c).chain ≡ Some Trim → IsStood fileset (record { places = parts.places; list = listed; space = parts.space; cells = parts.cells; pages = parts.pages })
cut_stood fileset version tag at first parts c listed adds same trim =
    let w = well fileset version tag at first parts c listed adds same trim in
    let m = among fileset version tag at first parts c listed adds same trim in (
      c.cut.0.files,
      c.cut.0.chains,
      (λ a. sources_stay fileset version tag first (fileset_in parts c.cut.0.files c.cut.0.chains) c.cut.0.calls c.stood a ∙ c.alone a),
      record {
        well = record { together = w.together; listed = w.listed };
        together = (stands fileset version tag at first parts c).together;
        among = record { same = m.same; live = m.live; trimmed = m.trimmed; low = m.low; no_tags = m.no_tags; not_listed = m.not_listed };
      },
    )

-- ---- a tag is taken out of use, and its file listed

module _ (fileset : ℕ) (version : Version) (tag : Tag) (places : List TagPlace) (list : Listing) (space : Spaces) (cells : Cells) (old new : Pages) (files : Files) (chains : Chains) (alone : HasNoClone files)
    (stood : StandsWell fileset (fileset_in (record { places = places; list = list; space = space; cells = cells; pages = old }) files chains)) (at : CellAt) (removes : Removes fileset places tag at chains new)
    (together : AreTogether fileset places space cells new (without_chain tag chains)) (beside : ChangesBeside places (chains tag) old new) (listed : Listing) (adds : Adds at None list.entries listed.entries) (same : listed.tag_pages ≡ list.tag_pages) where
  module _ (f : PlacedCell) (r : List PlacedCell) (is : chains tag ≡ Some (f ∷ r)) (file : IsFile new at (with_first says_removed (f ∷ r))) where
    abbrev chain : List PlacedCell
    chain = with_first says_removed (f ∷ r)

    abbrev files_now : Files
    files_now = with_file at (Some chain) files

    abbrev after : FilesetNow
    after = fileset_in (record { places = places; list = list; space = space; cells = cells; pages = new }) files_now (without_chain tag chains)

    drops : Drops fileset tag (fileset_in (record { places = places; list = list; space = space; cells = cells; pages = old }) files chains) after
    drops = record {
      first = f;
      rest = r;
      is = is;
      at = at;
      removes = removes;
      together = together;
      beside = beside;
      places = refl;
      chains = refl;
      list = refl;
      files = refl;
      space = refl;
      cells = refl;
    }

    calls : Calls fileset version tag (fileset_in (record { places = places; list = list; space = space; cells = cells; pages = old }) files chains) after
    calls = one_more _ _ no_call (dropped drops)

    stood_after : StandsWell fileset after
    stood_after = stands_still fileset version tag _ after calls stood

    alone_after : HasNoClone files_now
    alone_after a = sources_stay fileset version tag _ after calls stood a ∙ alone a

    reads_none : (a b : CellAt) → ReadsThrough files_now a b → ⊥
    reads_none a b reads = subst (λ o. IsSomeAnd o (λ (source : Source). source.at ≡ b)) (alone_after a) reads

    there : files_now at ≡ Some chain
    there = file_there at (Some chain) files

    may : IsEntry files_now (record { at = at; clone = None })
    may = record {
      there = ap is_some there;
      says = inl (ap (λ o. is_some (option_and_then (first_record 6) o)) there ∙ ap is_some (find_put 6 (Some (written.Pending Remove)) f.cell.records refl));
      given = λ c some. absurd (none_some c some);
      all = λ c reads. absurd (reads_none c at reads);
    }

    -- no other tag's file begins there
    no_start : (t : Tag) → ¬ option_and_then start_of (without_chain tag chains t) ≡ Some at
    no_start t starts = ⊎_elim
        (λ it. none_some at (sym (ap (λ (b : Bool). option_and_then start_of (cond b None (chains t))) it) ∙ starts))
        (λ other. begin_apart fileset places space cells old chains stood.together t tag other at
        (sym (ap (λ (b : Bool). option_and_then start_of (cond b None (chains t))) other) ∙ starts)
        (ap (option_and_then start_of) is ∙ ap Some file.0))
        (cases_Bool (same_tag t tag))

    listed_stood : IsStood fileset (record { places = places; list = listed; space = space; cells = cells; pages = new })
    listed_stood =
        let w = entry_listed after.domain at None listed stood_after.well may adds same in
        let m = entry_among after.domain listed places (without_chain tag chains) stood_after.among at None adds same (λ t starts. absurd (no_start t starts)) in (
          files_now,
          without_chain tag chains,
          alone_after,
          record {
            well = record { together = w.together; listed = w.listed };
            together = together;
            among = record { same = m.same; live = m.live; trimmed = m.trimmed; low = m.low; no_tags = m.no_tags; not_listed = m.not_listed };
          },
        )

  pub dropped_stood : IsStood fileset (record { places = places; list = listed; space = space; cells = cells; pages = new })
  dropped_stood = by_chain (chains tag) refl removes.pending
    where
      by_chain : (o : Option (List PlacedCell)) → chains tag ≡ o → IsSomeAnd o (λ cs. IsFile new at (with_first says_removed cs)) → IsStood fileset (record { places = places; list = listed; space = space; cells = cells; pages = new })
      by_chain None is file = absurd file
      by_chain (Some []) is file = absurd file
      by_chain (Some (f ∷ r)) is file = listed_stood f r is file

-- ---- things are let go of

module _ (fileset group : ℕ) (version : Version) (places : List TagPlace) (first : Now) (chains : Chains) (alone : HasNoClone first.files) (stood : StandsWell fileset (record { places = places; chains = chains; domain = first })) where
  abbrev gone : Now → FilesetNow
  gone now = record { places = places; chains = chains_in now.files chains; domain = now }

  stood_gone : (count : ℕ) (now : Now) → Steps group version first count now → StandsWell fileset (gone now)
  stood_gone count now steps =
      let both = tags_stay_together group version first count now stood.well steps fileset places chains stood.together stood.among in
      record { well = wells_stay group version first count now stood.well steps; together = both.0; among = both.1 }

  alone_gone : (count : ℕ) (now : Now) → Steps group version first count now → HasNoClone now.files
  alone_gone count now steps a = by_source (source_at now.files a) refl
    where
      by_source : (o : Option Source) → source_at now.files a ≡ o → source_at now.files a ≡ None
      by_source None is = is
      by_source (Some s) is =
          let reads = no_more_read group version first count now stood.well steps a s.at (through now.files a s is) in
          absurd (subst (λ o. IsSomeAnd o (λ (source : Source). source.at ≡ s.at)) (alone a) reads)

  by_fault : (before space : Spaces) (cells : Cells) (fault : StoreFault) → FindsNone before space cells fault → (space ≡ before) ⊎ (space ≡ missed before)
  by_fault before space cells NoPage none = inr none.2
  by_fault before space cells OutOfMemory none = inl none

  pub released_stood : (count : ℕ) (list : Listing) (space : Spaces) (cells : Cells) (pages : Pages) → LetsGo group version first count list space cells pages → IsStood fileset (record { places = places; list = list; space = space; cells = cells; pages = pages })
  released_stood count list space cells pages goes = ⊎_elim
      (λ leads. (
        leads.files,
        chains_in leads.files chains,
        alone_gone count (now_of list leads.files space cells pages) leads.steps,
        stood_gone count (now_of list leads.files space cells pages) leads.steps,
      ))
      (λ stops. (
        stops.files,
        chains_in stops.files chains,
        alone_gone count (now_of list stops.files stops.before cells pages) stops.steps,
        stands_still fileset version (record { slot = 0; seq = 0 }) (gone (now_of list stops.files stops.before cells pages)) (gone (now_of list stops.files space cells pages))
            (one_more _ _ no_call (refused (record { places = refl; chains = refl; list = refl; files = refl; space = by_fault stops.before space cells stops.fault stops.cause; cells = refl; pages = refl })))
            (stood_gone count (now_of list stops.files stops.before cells pages) stops.steps),
      ))
      goes

-- ---- the page of tags

pub first_home : (places : List TagPlace) (d p : TagPlace) → 0 < length places → p ≡ get_or places 0 d → has_home places p.home ≡ true
first_home [] d p some is = absurd (omega (arith, some))
first_home (x ∷ xs) d p some is = or_left (same_home p.home x.home) (has_home xs p.home) (ap (same_home p.home) (sym (ap (λ (q : TagPlace). q.home) is)) ∙ same_itself p.home)

pub tags_well : (fileset : ℕ) (now : FilesetNow) → StandsWell fileset now → (home : Home) → has_home now.places home ≡ true → (listed : Listing) → listed.tag_pages ≡ now.domain.list.tag_pages ++ home ∷ [] → listed.entries ≡ now.domain.list.entries
    → IsWell (with_list listed now.domain)
tags_well fileset now stood home has listed adds same = page_listed now.domain home listed stood.well
    (record {
      low = stood.among.low home has;
      nowhere = λ a p there. true≢false (sym has ∙ stood.among.no_tags a p home there);
      not_listed = λ inside. true≢false (sym has ∙ stood.among.not_listed home inside);
      apart = stood.together.tag_pages home has;
    })
    adds same
