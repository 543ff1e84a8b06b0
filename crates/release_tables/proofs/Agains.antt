-- A file that was cut is let go of, and calls go on.
use Rattle.std.proofs.Common.{◌≡◌, ◌∙◌, ◌⊎◌, ⊎_elim, inl, inr, ℕ, ◌≤◌, false, List, [], ◌∷◌, Option, Some, None, IsSomeAnd, is_some, Contains, refl, sym, ap, subst}
use Rattle.std.specs.Option.{option_and_then}
use Rattle.release_steps.specs.domain_base.declared.place.CellAt.{CellAt}
use Rattle.release_steps.specs.domain_base.declared.place.Home.{Home}
use Rattle.release_steps.specs.domain_base.declared.place.Tag.{Tag}
use Rattle.release_steps.specs.domain_base.declared.version.Version.{Version}
use Rattle.release_steps.specs.page_store.Bitfiles.{same_tag}
use Rattle.release_steps.specs.page_store.Pages.{Pages}
use Rattle.release_steps.specs.page_store.declared.fault.StoreFault.{StoreFault}
use Rattle.release_steps.specs.page_store.declared.fault.StoreFault.TheVariants.{NoPage, OutOfMemory}
use Rattle.release_steps.specs.cell_records.declared.record.Leftover.TheVariants.{Trim}
use Rattle.release_steps.specs.metadata_cells.Chain.{PlacedCell}
use Rattle.release_steps.specs.free_cells.Cells.{Cells, table_of}
use Rattle.release_steps.specs.free_space.Spaces.{Spaces, missed}
use Rattle.release_steps.specs.file_chains.Allocated.{FindsNone}
use Rattle.release_steps.specs.file_chains.Files.{IsFile}
use Rattle.release_steps.specs.release_list.declared.list.Entry.{Entry}
use Rattle.release_steps.specs.release_list.Listed.{IsEntry, left_of}
use Rattle.release_steps.specs.release_list.Listing.{Adds, Listing}
use Rattle.release_steps.specs.release_list.Standing.{ReadsThrough, Source}
use Rattle.release_steps.specs.release_list.Steps.{IsWell, LetsGo, Now, Steps, now_of}
use Rattle.release_steps.specs.Calls.{FilesetNow, StandsWell, no_call, one_more, refused}
use Rattle.release_steps.specs.Kept.{IsBeside}
use Rattle.release_steps.specs.Lists.{with_list}
use Rattle.release_steps.specs.Tags.{AreAmong, chains_in, start_of}
use Rattle.release_steps.specs.Taken.{IsHeldAt, IsTaken}
use Rattle.release_steps.specs.Waits.{IsGivenUp}
use Rattle.release_steps.proofs.CallsWell.{stands_still}
use Rattle.release_steps.specs.fileset_files.Files.{first_record}
use Rattle.release_steps.proofs.FirstWell.{are_file, some_record}
use Rattle.release_steps.proofs.HeldPages.{held_exactly}
use Rattle.release_steps.proofs.HeldSteps.{held_after}
use Rattle.release_steps.proofs.Listing.{entry_among, entry_listed, list_stays, which_entry}
use Rattle.release_steps.proofs.SourcesStay.{sources_stay}
use Rattle.release_steps.proofs.TagCalls.{others_same}
use Rattle.release_steps.proofs.Tags.{tags_stay_together}
use Rattle.release_steps.proofs.TagsBeside.{begin_apart, beside_stay}
use Rattle.release_steps.proofs.Wells.{wells_stay}
use Rattle.release_tables.specs.Called.{HasCalled, HasCut, HasLetGo, HasNoClone, IsCut, IsWrittenAgain, Parts, fileset_in}
use Rattle.release_tables.proofs.Wells.{none_some, some_same}

-- ---- it is made, given pages and cut

pub cut_so : {a b c d : ℕ} {version : Version} {tag : Tag} {first : FilesetNow} {made gave cuts : Parts} {left : Option CellAt} {at : CellAt} → b ≡ a → HasCalled a version tag first made → c ≡ b
    → (StandsWell b first → HasCalled b version tag first made → HasCalled c version tag first gave) → d ≡ c → (StandsWell c first → HasCalled c version tag first gave → HasCut d version tag first cuts left) → left ≡ Some at
    → HasNoClone first.domain.files → StandsWell a first → IsCut d version tag at first cuts
cut_so {d = d} {version = version} {tag = tag} {first = first} {made = made} {cuts = cuts} same_b called same_c gives same_d cut is none stood =
    let stood_b = subst (λ (f : ℕ). StandsWell f first) (sym same_b) stood in
    let stood_c = subst (λ (f : ℕ). StandsWell f first) (sym same_c) stood_b in
    record {
      stood = subst (λ (f : ℕ). StandsWell f first) (sym same_d) stood_c;
      alone = none;
      cut = subst (HasCut d version tag first cuts) is (cut stood_c (gives stood_b (subst (λ (f : ℕ). HasCalled f version tag first made) (sym same_b) called)));
    }

-- ---- its file

pub record HasChain (fileset : ℕ) (tag : Tag) (at : CellAt) (now : FilesetNow) : Type 0 where
  pub chain : List PlacedCell
  pub there : now.domain.files at ≡ Some chain
  pub file : IsFile now.domain.pages at chain

module _ (fileset : ℕ) (tag : Tag) (at : CellAt) (now : FilesetNow) (stood : StandsWell fileset now) (begins : option_and_then start_of (now.chains tag) ≡ Some at) where
  -- a tag's file that begins there is that one
  pub by_start : (t : Tag) → option_and_then start_of (now.chains t) ≡ Some at → now.chains t ≡ now.domain.files at
  by_start t starts = sym (stood.among.same t) ∙ ap (option_and_then now.domain.files) starts

  pub chain_at : HasChain fileset tag at now
  chain_at = by_chain (now.chains tag) refl begins
    where
      by_chain : (o : Option (List PlacedCell)) → now.chains tag ≡ o → option_and_then start_of o ≡ Some at → HasChain fileset tag at now
      by_chain None is starts = absurd (none_some at starts)
      by_chain (Some []) is starts = absurd (none_some at starts)
      by_chain (Some (first ∷ rest)) is starts = record {
        chain = first ∷ rest;
        there = sym (by_start tag begins) ∙ is;
        file = (some_same first.at at starts, are_file fileset now.places now.domain.pages now.chains stood.together.files tag first rest is);
      }

-- ---- it is put on the list, and steps are done

module _ (fileset : ℕ) (version : Version) (tag : Tag) (at : CellAt) (first : FilesetNow) (parts : Parts) (c : IsCut fileset version tag at first parts) where
  abbrev pub cut : FilesetNow
  cut = fileset_in parts c.cut.0.files c.cut.0.chains

  pub stands : StandsWell fileset cut
  stands = stands_still fileset version tag first cut c.cut.0.calls c.stood

  pub cut_chain : HasChain fileset tag at cut
  cut_chain = chain_at fileset tag at cut stands c.cut.1

  reads_none : (a b : CellAt) → ReadsThrough cut.domain.files a b → ⊥
  reads_none a b reads = subst (λ o. IsSomeAnd o (λ (source : Source). source.at ≡ b)) (sources_stay fileset version tag first cut c.cut.0.calls c.stood a ∙ c.alone a) reads

  may : left_of cut_chain.chain ≡ Some Trim → IsEntry cut.domain.files (record { at = at; clone = None })
  may trim = record {
    there = ap is_some cut_chain.there;
    says = inl (ap (λ o. is_some (option_and_then (first_record 6) o)) cut_chain.there ∙ some_record (first_record 6 cut_chain.chain) trim);
    given = λ clone is. absurd (none_some clone is);
    all = λ clone reads. absurd (reads_none clone at reads);
  }

  module _ (listed : Listing) (adds : Adds at None parts.list.entries listed.entries) (same : listed.tag_pages ≡ parts.list.tag_pages) (trim : left_of cut_chain.chain ≡ Some Trim) where
    pub well : IsWell (with_list listed cut.domain)
    well = entry_listed cut.domain at None listed stands.well (may trim) adds same

    pub among : AreAmong (with_list listed cut.domain) cut.places cut.chains
    among = entry_among cut.domain listed cut.places cut.chains stands.among at None adds same
        (λ t starts. ap (option_and_then left_of) (by_start fileset tag at cut stands c.cut.1 t starts ∙ cut_chain.there) ∙ trim)

    abbrev gone : (now : Now) → FilesetNow
    gone now = record { places = parts.places; chains = chains_in now.files cut.chains; domain = now }

    stands_gone : (count : ℕ) (now : Now) → Steps 5 version (with_list listed cut.domain) count now → StandsWell fileset (gone now)
    stands_gone count now steps =
        let both = tags_stay_together 5 version (with_list listed cut.domain) count now well steps fileset cut.places cut.chains stands.together among in
        record { well = wells_stay 5 version (with_list listed cut.domain) count now well steps; together = both.0; among = both.1 }

    by_fault : (before space : Spaces) (cells : Cells) (fault : StoreFault) → FindsNone before space cells fault → (space ≡ before) ⊎ (space ≡ missed before)
    by_fault before space cells NoPage none = inr none.2
    by_fault before space cells OutOfMemory none = inl none

    let_go_by : (count : ℕ) (now : Now) (steps : Steps 5 version (with_list listed cut.domain) count now) (last : Parts) → HasCalled fileset version tag (gone now) last → HasLetGo fileset version tag first last
    let_go_by count now steps last again = record {
      cut = cut;
      calls = c.cut.0.calls;
      at = at;
      begins = c.cut.1;
      listed = listed;
      adds = adds;
      well = well;
      among = among;
      gone = gone now;
      count = count;
      steps = steps;
      places = refl;
      chains = refl;
      stands = stands_gone count now steps;
      again = again;
    }

    pub let_go : (count : ℕ) (list : Listing) (space : Spaces) (cells : Cells) (pages : Pages) → LetsGo 5 version (with_list listed cut.domain) count list space cells pages
        → HasLetGo fileset version tag first (record { places = parts.places; list = list; space = space; cells = cells; pages = pages })
    let_go count list space cells pages goes = ⊎_elim
        (λ leads. let_go_by count (now_of list leads.files space cells pages) leads.steps _ (record { files = leads.files; chains = chains_in leads.files cut.chains; calls = no_call }))
        (λ stops. let_go_by count (now_of list stops.files stops.before cells pages) stops.steps _ (record {
          files = stops.files;
          chains = chains_in stops.files cut.chains;
          calls = one_more _ _ no_call (refused (record { places = refl; chains = refl; list = refl; files = refl; space = by_fault stops.before space cells stops.fault stops.cause; cells = refl; pages = refl }));
        }))
        goes

-- ---- calls go on

pub go_on : (fileset last : ℕ) (version : Version) (tag : Tag) (first : FilesetNow) (between now : Parts) → last ≡ fileset → (went : HasLetGo fileset version tag first between) → HasCalled last version tag went.gone now → HasLetGo last version tag first now
go_on fileset last version tag first between now same went again = subst (λ (f : ℕ). HasCalled f version tag went.gone now → HasLetGo f version tag first now) (sym same) goes again
  where
    goes : HasCalled fileset version tag went.gone now → HasLetGo fileset version tag first now
    goes called = record {
      cut = went.cut;
      calls = went.calls;
      at = went.at;
      begins = went.begins;
      listed = went.listed;
      adds = went.adds;
      well = went.well;
      among = went.among;
      gone = went.gone;
      count = went.count;
      steps = went.steps;
      places = went.places;
      chains = went.chains;
      stands = went.stands;
      again = called;
    }

-- ---- what is so at the end

module _ (fileset : ℕ) (version : Version) (tag : Tag) (first : FilesetNow) (now : Parts) (stood : StandsWell fileset first) (went : HasLetGo fileset version tag first now) where
  abbrev last : FilesetNow
  last = fileset_in now went.again.files went.again.chains

  stands_cut : StandsWell fileset went.cut
  stands_cut = stands_still fileset version tag first went.cut went.calls stood

  others : (other : Tag) → same_tag other tag ≡ false → ((at : CellAt) → option_and_then start_of (first.chains other) ≡ Some at → IsBeside first.domain.list at) → last.chains other ≡ first.chains other
  others other differ beside =
      others_same fileset version tag went.gone last went.again.calls other differ
      ∙ ap (λ (cs : Tag → Option (List PlacedCell)). cs other) went.chains
      ∙ beside_stay 5 version (with_list went.listed went.cut.domain) went.count went.gone.domain went.steps went.cut.places went.cut.chains went.among other beside_now
      ∙ same
    where
      same : went.cut.chains other ≡ first.chains other
      same = others_same fileset version tag first went.cut went.calls other differ

      beside_now : (a : CellAt) → option_and_then start_of (went.cut.chains other) ≡ Some a → IsBeside went.listed a
      beside_now a starts e inside = ⊎_elim
          (λ was. beside a (ap (option_and_then start_of) (sym same) ∙ starts) e (subst (λ (l : Listing). Contains l.entries e) (list_stays fileset version tag first went.cut went.calls) was))
          (λ this. (
            (λ is. begin_apart fileset went.cut.places went.cut.domain.space went.cut.domain.cells went.cut.domain.pages went.cut.chains stands_cut.together other tag differ a starts
                (went.begins ∙ ap Some (sym (ap (λ (x : Entry). x.at) this) ∙ is))),
            (λ is. none_some a (sym (ap (λ (x : Entry). x.clone) this) ∙ is)),
          ))
          (which_entry went.cut.domain.list.entries went.listed.entries went.at None went.adds e inside)

  module _ (home : Home) (low : 1 ≤ home.vol) where
    abbrev IsKept : Type 0
    IsKept = (IsHeldAt first home ⊎ IsTaken fileset version tag first went.cut home) × ¬ IsGivenUp (with_list went.listed went.cut.domain) went.gone.domain home

    abbrev IsOnTable : Type 0
    IsOnTable = Contains (table_of went.gone.domain.cells home.vol) home.page

    abbrev IsTakenAgain : Type 0
    IsTakenAgain = IsTaken fileset version tag went.gone last home

    held : (IsHeldAt last home → (IsKept ⊎ IsOnTable) ⊎ IsTakenAgain) × ((IsKept ⊎ IsOnTable) ⊎ IsTakenAgain → IsHeldAt last home)
    held =
        let a = held_exactly fileset version tag first went.cut went.calls stood.together home low in
        let b = held_after 5 version (with_list went.listed went.cut.domain) went.count went.gone.domain went.well went.steps home low in
        let c = held_exactly fileset version tag went.gone last went.again.calls went.stands.together home low in (
          (λ is. ⊎_elim (λ gone. inl (⊎_elim (λ kept. inl (a.0 kept.0, kept.1)) (λ on. inr on) (b.0 gone))) (λ taken. inr taken) (c.0 is)),
          (λ is. c.1 (⊎_elim (λ gone. inl (b.1 (⊎_elim (λ kept. inl (a.1 kept.0, kept.1)) (λ on. inr on) gone))) (λ taken. inr taken) is)),
        )

  pub written_again : IsWrittenAgain fileset version tag first now
  written_again = record {
    went = went;
    last = last;
    is = refl;
    stands = stands_still fileset version tag went.gone last went.again.calls went.stands;
    others = others;
    held = held;
  }
