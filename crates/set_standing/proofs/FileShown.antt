-- A set shows the same where a file changes, and nothing that is said of its names.
use Rattle.std.proofs.Common.{◌≡◌, ◌∙◌, ℕ, Bool, true, false, cond, List, ◌∷◌, Option, Some, None, IsSomeAnd, Contains, refl, sym, ap, subst}
use Rattle.std.specs.Option.{option_and_then, option_map, option_map_or}
use Rattle.standing_laws.specs.domain_base.declared.place.Home.{Home}
use Rattle.standing_laws.specs.domain_base.declared.place.Kind.{Kind}
use Rattle.standing_laws.specs.domain_base.declared.place.Kind.TheVariants.{Directory, File}
use Rattle.standing_laws.specs.domain_base.declared.place.Tag.{Tag}
use Rattle.standing_laws.specs.page_store.Bitfiles.{Bitfile, Bitfiles, same_tag}
use Rattle.standing_laws.specs.page_store.Pages.{Pages}
use Rattle.standing_laws.specs.cell_records.declared.record.Leftover.TheVariants.{Remove, Trim}
use Rattle.standing_laws.specs.cell_records.declared.record.Record.{Record}
use Rattle.standing_laws.specs.cell_records.declared.record.Record.TheVariants as written
use Rattle.standing_laws.specs.metadata_cells.Chain.{PlacedCell}
use Rattle.standing_laws.specs.tag_dirs.declared.dir.TagPlace.{TagPlace}
use Rattle.standing_laws.specs.extent_maps.declared.run.PagePlace.TheVariants.{Absent, At}
use Rattle.standing_laws.specs.free_cells.Cells.{Cells}
use Rattle.standing_laws.specs.free_space.Spaces.{Spaces}
use Rattle.standing_laws.specs.file_chains.Files.{places_of}
use Rattle.standing_laws.specs.fileset_files.declared.attributes.Attributes.{Attributes}
use Rattle.standing_laws.specs.fileset_files.declared.indexing.IndexPlace.{IndexPlace}
use Rattle.standing_laws.specs.fileset_files.Files.{Chains, attributes_in, attributes_of, first_record, is_removed, of_live, place_at, says_remove}
use Rattle.standing_laws.specs.fileset_files.Index.{index_place_in}
use Rattle.standing_laws.specs.fileset_files.Shown.{AreIndexPages, IsWhat, ShowsAt, ShowsFile, index_in, index_of, shown_page}
use Rattle.standing_laws.specs.fileset_files.State.{FileState, pending_in, state_of, state_with, states_of}
use Rattle.standing_laws.specs.fileset_files.Together.{AreTogether, IsFilePage}
use Rattle.standing_laws.proofs.OfFilesetFiles.OneFile.{tags_same}
use Rattle.standing_laws.specs.fileset_files.States.{is_removing}
use Rattle.standing_laws.specs.index_pages.Homes.{AreIndexHomes}
use Rattle.standing_laws.proofs.OfIndexPages.Homes.{kept_same}
use Rattle.standing_laws.specs.stored_set.Standing.{StandsShown}
use Rattle.standing_laws.specs.stored_set.Whole.{AreWholeDirectories, IsWholeAt}
use Rattle.standing_laws.proofs.OfStoredSet.Beside.{stands_beside}
use Rattle.standing_laws.proofs.OfStoredSet.Kept.{index_kept}
use Rattle.standing_laws.proofs.OfStoredSet.Told.{kind_told}
use Rattle.standing_laws.specs.stored_set.Sets.{StandsAsSet}
use Rattle.standing_laws.specs.Leads.{IsLiveOf}

-- ---- what a chain says, by its state

removed_is : (o : Option Record) → option_map_or says_remove o false ≡ is_removing (option_and_then pending_in o)
removed_is None = refl
removed_is (Some r) = by_record r
  where
    by_record : (r : Record) → says_remove r ≡ is_removing (pending_in r)
    by_record (written.Pending Remove) = refl
    by_record (written.Pending Trim) = refl
    by_record r = refl

index_is : (o : Option Record) → option_and_then index_in o ≡ option_map (λ (i : IndexPlace). i.first) (option_and_then index_place_in o)
index_is None = refl
index_is (Some r) = by_record r
  where
    by_record : (r : Record) → index_in r ≡ option_map (λ (i : IndexPlace). i.first) (index_place_in r)
    by_record (written.DirIndex vol page entries) = refl
    by_record r = refl

pub record SaysState (cells : List PlacedCell) (state : FileState) : Type 0 where
  pub attributes : attributes_of cells ≡ Some state.attributes
  pub removed : is_removed cells ≡ is_removing state.pending
  pub index : index_of cells ≡ option_map (λ (i : IndexPlace). i.first) state.index
  pub places : (page : ℕ) → places_of cells page ≡ state.places page

pub says_state : (cells : List PlacedCell) (state : FileState) → state_of cells ≡ Some state → SaysState cells state
says_state cells state is = by_record (first_record 1 cells) refl is
  where
    one : (s : FileState) → Some s ≡ Some state → s ≡ state
    one s same = ap (λ o. option_map_or (λ (x : FileState). x) o s) same

    none : None ≡ Some state → SaysState cells state
    none e = absurd (cc)

    by_record : (o : Option Record) → first_record 1 cells ≡ o → option_and_then (state_with cells) o ≡ Some state → SaysState cells state
    by_record None first same = none same
    by_record (Some (written.Attributes kind uid gid flags size keep links birth unsynced)) first same =
        let e = one _ same in
        record {
          attributes = ap (option_and_then attributes_in) first ∙ ap (λ (s : FileState). Some s.attributes) e;
          removed = removed_is (first_record 6 cells) ∙ ap (λ (s : FileState). is_removing s.pending) e;
          index = index_is (first_record 9 cells) ∙ ap (λ (s : FileState). option_map (λ (i : IndexPlace). i.first) s.index) e;
          places = λ page. ap (λ (s : FileState). s.places page) e;
        }
    by_record (Some r) first same = none same

-- a live file or directory has one
pub record HasState (cells : List PlacedCell) : Type 0 where
  pub state : FileState
  pub is : state_of cells ≡ Some state

pub state_there : (kind : Kind) (cells : List PlacedCell) → IsLiveOf kind (Some cells) → HasState cells
state_there kind cells live = by_state (state_of cells) refl
  where
    none_said : (o : Option Record) → option_and_then (state_with cells) o ≡ None → option_and_then attributes_in o ≡ None
    none_said None none = refl
    none_said (Some (written.Attributes kind uid gid flags size keep links birth unsynced)) none = absurd (cc)
    none_said (Some r) none = refl

    none_live : (b : Bool) (o : Option Attributes) → o ≡ None → IsSomeAnd (cond b None o) (λ a. a.kind ≡ kind) → ⊥
    none_live true o none live = live
    none_live false None none live = live
    none_live false (Some a) none live = cc

    by_state : (o : Option FileState) → state_of cells ≡ o → HasState cells
    by_state None none = absurd (none_live (is_removed cells) (attributes_of cells) (none_said (first_record 1 cells) none) live)
    by_state (Some state) is = record { state = state; is = is }

-- ---- of which a set shows the same

pub record IsShownAlike (state now : FileState) : Type 0 where
  pub kind : now.attributes.kind ≡ state.attributes.kind
  pub uid : now.attributes.uid ≡ state.attributes.uid
  pub gid : now.attributes.gid ≡ state.attributes.gid
  pub links : now.attributes.links ≡ state.attributes.links
  pub removing : is_removing now.pending ≡ is_removing state.pending
  pub index : now.index ≡ state.index

-- so it is live, of the kind that it was
pub live_alike : (kind : Kind) (cs cs_now : List PlacedCell) (state now : FileState) → state_of cs ≡ Some state → state_of cs_now ≡ Some now → IsShownAlike state now → IsLiveOf kind (Some cs) → IsLiveOf kind (Some cs_now)
live_alike kind cs cs_now state now there there_now alike live =
    subst (λ o. IsSomeAnd (cond (is_removed cs_now) None o) (λ a. a.kind ≡ kind)) (sym says_now.attributes)
    (subst (λ b. IsSomeAnd (cond b None (Some now.attributes)) (λ a. a.kind ≡ kind)) (sym (says_now.removed ∙ alike.removing ∙ sym says.removed))
    (by_removed (is_removed cs) (subst (λ o. IsSomeAnd (cond (is_removed cs) None o) (λ a. a.kind ≡ kind)) says.attributes live)))
  where
    says : SaysState cs state
    says = says_state cs state there

    says_now : SaysState cs_now now
    says_now = says_state cs_now now there_now

    by_removed : (b : Bool) → IsSomeAnd (cond b None (Some state.attributes)) (λ a. a.kind ≡ kind) → IsSomeAnd (cond b None (Some now.attributes)) (λ a. a.kind ≡ kind)
    by_removed true live = live
    by_removed false live = alike.kind ∙ live

module _ (number : ℕ) (places : List TagPlace) (space space_now : Spaces) (cells cells_now : Cells) (old new : Pages) (files : Bitfiles) (was : StandsAsSet number places space cells old files) (tag : Tag) (cs cs_now : List PlacedCell) (now : Chains)
    (is : was.chains tag ≡ Some cs) (is_now : now tag ≡ Some cs_now) (other : (t : Tag) → same_tag t tag ≡ false → now t ≡ was.chains t) (live : IsLiveOf File (Some cs))
    (state state_now : FileState) (there : state_of cs ≡ Some state) (there_now : state_of cs_now ≡ Some state_now) (alike : IsShownAlike state state_now)
    (pages_stay : (t : Tag) (k : ℕ) (h : Home) → same_tag t tag ≡ false → place_at was.chains t k ≡ At h → new h ≡ old h) (index_stays : (t : Tag) (h : Home) → Contains (was.indexes t) h → new h ≡ old h)
    (together : AreTogether number places space_now cells_now new now) (index_page : (t : Tag) (h : Home) → Contains (was.indexes t) h → IsFilePage space_now cells_now places h)
    (apart : (s : Tag) (k : ℕ) (h : Home) → Contains (was.indexes s) h → ¬ place_at now tag k ≡ At h)
  where
    says : SaysState cs state
    says = says_state cs state there

    says_now : SaysState cs_now state_now
    says_now = says_state cs_now state_now there_now

    removed_same : is_removed cs_now ≡ is_removed cs
    removed_same = says_now.removed ∙ alike.removing ∙ sym says.removed

    index_same : index_of cs_now ≡ index_of cs
    index_same = says_now.index ∙ ap (option_map (λ (i : IndexPlace). i.first)) alike.index ∙ sym says.index

    here : IsSomeAnd (files tag) (λ file. file.kind ≡ File)
    here = by_kind (files tag) (option_and_then (of_live attributes_of) (was.chains tag)) (kind_told number places space cells old was.chains was.indexes files was.stands tag) (subst (IsLiveOf File) (sym is) live)
      where
        by_kind : (o : Option Bitfile) (a : Option Attributes) → option_map (λ (file : Bitfile). file.kind) o ≡ option_map (λ (a : Attributes). a.kind) a → IsSomeAnd a (λ a. a.kind ≡ File) → IsSomeAnd o (λ file. file.kind ≡ File)
        by_kind o None same live = absurd live
        by_kind None (Some a) same live = absurd (cc)
        by_kind (Some file) (Some a) same live = ap (λ o. option_map_or (λ k. k) o file.kind) same ∙ live

    indexed_before : AreIndexHomes old (index_of cs) (was.indexes tag)
    indexed_before = subst (λ o. AreIndexHomes old (option_and_then index_of o) (was.indexes tag)) is (was.stands.indexed tag)

    what_again : (file : Bitfile) → IsSomeAnd (attributes_of cs) (IsWhat file) → IsSomeAnd (attributes_of cs_now) (IsWhat file)
    what_again file what = subst (λ o. IsSomeAnd o (IsWhat file)) (sym says_now.attributes) (again (subst (λ o. IsSomeAnd o (IsWhat file)) says.attributes what))
      where
        again : IsWhat file state.attributes → IsWhat file state_now.attributes
        again w = record { kind = w.kind ∙ sym alike.kind; uid = w.uid ∙ sym alike.uid; gid = w.gid ∙ sym alike.gid; links = w.links ∙ sym alike.links }

    shows_file : (file : Bitfile) → file.kind ≡ File → ShowsFile old cs file → ShowsFile new cs_now file
    shows_file file kind shows = record {
      what = what_again file shows.what;
      each = λ k. shows.each k ∙ ap (λ of. shown_page old cs of k) kind ∙ sym (ap (λ of. shown_page new cs_now of k) kind);
      index = subst (λ o. AreIndexPages new o file.index) (sym index_same) (index_kept old new (index_of cs) (was.indexes tag) file.index indexed_before (index_stays tag) shows.index);
    }

    shows_tag : ShowsAt new (now tag) (files tag)
    shows_tag = subst (λ o. ShowsAt new o (files tag)) (sym is_now) (by_file (files tag) here (subst (λ o. ShowsAt old o (files tag)) is (was.stands.shows tag)))
      where
        by_removed : (file : Bitfile) → file.kind ≡ File → (b : Bool) → IsSomeAnd (cond b None (Some cs)) (λ live. ShowsFile old live file) → IsSomeAnd (cond b None (Some cs_now)) (λ live. ShowsFile new live file)
        by_removed file kind true shows = shows
        by_removed file kind false shows = shows_file file kind shows

        by_file : (o : Option Bitfile) → IsSomeAnd o (λ file. file.kind ≡ File) → ShowsAt old (Some cs) o → ShowsAt new (Some cs_now) o
        by_file None kind shows = absurd kind
        by_file (Some file) kind shows = subst (λ (b : Bool). IsSomeAnd (cond b None (Some cs_now)) (λ live. ShowsFile new live file)) (sym removed_same) (by_removed file kind (is_removed cs) shows)

    apart_now : (s t : Tag) (k : ℕ) (h : Home) → Contains (was.indexes s) h → ¬ place_at now t k ≡ At h
    apart_now s t k h inside at = by_tag (same_tag t tag) refl
      where
        by_tag : (b : Bool) → same_tag t tag ≡ b → ⊥
        by_tag true same = apart s k h inside (subst (λ (u : Tag). place_at now u k ≡ At h) (tags_same t tag same) at)
        by_tag false differ = was.stands.apart s t k h inside (ap (λ o. option_map_or (λ cs. places_of cs k) o Absent) (sym (other t differ)) ∙ at)

    stands_now : StandsShown number places space_now cells_now new now was.indexes files
    stands_now = stands_beside number places places space space_now cells cells_now old new was.chains now was.indexes was.indexes files files was.stands tag other (λ t differ. refl) (λ t differ. refl) pages_stay (λ t h differ. index_stays t h) together shows_tag
        (subst (λ o. AreIndexHomes new (option_and_then index_of o) (was.indexes tag)) (sym is_now) (subst (λ o. AreIndexHomes new o (was.indexes tag)) (sym index_same) (kept_same old new (index_of cs) (was.indexes tag) indexed_before (index_stays tag))))
        index_page apart_now was.stands.once

    whole_now : AreWholeDirectories (states_of now) files
    whole_now t = by_tag (same_tag t tag) refl
      where
        whole_file : (o : Option Bitfile) → IsSomeAnd o (λ file. file.kind ≡ File) → IsWholeAt (states_of now tag) o
        whole_file None kind = tt
        whole_file (Some file) kind = λ directory. let e : File ≡ Directory = sym kind ∙ directory in absurd (cc)

        by_tag : (b : Bool) → same_tag t tag ≡ b → IsWholeAt (states_of now t) (files t)
        by_tag true same = subst (λ (u : Tag). IsWholeAt (states_of now u) (files u)) (sym (tags_same t tag same)) (whole_file (files tag) here)
        by_tag false differ = subst (λ s. IsWholeAt s (files t)) (ap (option_and_then state_of) (sym (other t differ))) (was.whole t)

    pub shown_again : StandsAsSet number places space_now cells_now new files
    shown_again = record { chains = now; indexes = was.indexes; stands = stands_now; whole = whole_now; bare = was.bare; low = was.low }
