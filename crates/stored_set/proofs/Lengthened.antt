-- A directory that says that it is longer by a page, and then gets one or none.
use Rattle.std.proofs.Common.{◌≡◌, ◌∙◌, ◌+◌, ◌*◌, ◌<◌, ◌≤◌, ◌&&◌, ℕ, nat_lt, Bool, true, false, cond, List, [], ◌∷◌, length, Some, None, Option, IfSome, IsSome, IsSomeAnd, refl, sym, ap, subst, arith}
use Rattle.std.proofs.lemmas.Bool.{true≢false}
use Rattle.std.specs.List.{AllByRecursion}
use Rattle.std.specs.Option.{option_and_then, option_map, option_map_or}
use Rattle.index_pages.specs.domain_base.Limits.{file_pages, max_links, page_bytes}
use Rattle.index_pages.specs.domain_base.declared.place.CellAt.{CellAt}
use Rattle.index_pages.specs.domain_base.declared.place.Home.{Home}
use Rattle.index_pages.specs.domain_base.declared.place.Kind.TheVariants.{Directory}
use Rattle.index_pages.specs.domain_base.declared.place.Tag.{Tag}
use Rattle.index_pages.specs.domain_base.declared.version.Version.{Version}
use Rattle.index_pages.specs.page_store.Bitfiles.{Bitfile, Bitfiles as SetOf, IsDirectory, count_pages, put_page, same_tag, with_change, with_file}
use Rattle.index_pages.specs.page_store.Pages.{Pages, same_home, with_page}
use Rattle.index_pages.proofs.OfMetadataCells.Changed.{homes_same}
use Rattle.index_pages.specs.page_store.declared.fault.StoreFault.{StoreFault}
use Rattle.index_pages.specs.page_store.declared.fault.StoreFault.TheVariants.{NoPage, OutOfMemory}
use Rattle.index_pages.specs.cell_records.declared.record.Record.{Record}
use Rattle.index_pages.specs.cell_records.declared.record.Record.TheVariants as written
use Rattle.index_pages.specs.cell_records.Records.{Allowed}
use Rattle.index_pages.specs.metadata_cells.Cell.{record_of}
use Rattle.index_pages.specs.metadata_cells.CellPage.{cell_of, home_of, is_cell_page}
use Rattle.index_pages.specs.metadata_cells.Chain.{PlacedCell}
use Rattle.index_pages.specs.tag_dirs.declared.dir.TagPlace.{TagPlace}
use Rattle.index_pages.specs.extent_maps.declared.run.PagePlace.TheVariants.{Absent, At}
use Rattle.index_pages.specs.free_cells.Cells.{Cells}
use Rattle.index_pages.specs.free_space.Spaces.{Spaces, missed}
use Rattle.index_pages.specs.file_chains.FileChanges.{LeavesOtherCells}
use Rattle.index_pages.specs.file_chains.Files.{IsFile, places_of}
use Rattle.index_pages.specs.file_chains.MapChanges.{LeavesOffTables}
use Rattle.index_pages.specs.fileset_files.declared.attributes.Attributes.{Attributes}
use Rattle.index_pages.specs.fileset_files.Changes.{CanSay, ChangesFirst, says_attributes, with_chain, with_first}
use Rattle.index_pages.specs.fileset_files.Files.{AreFiles, Chains, IsLiveCell, attributes_in, attributes_of, first_record, is_removed, keep_of, of_live, place_at}
use Rattle.index_pages.specs.fileset_files.Pages.{ChangesFile, GetsNone, MayGrow, TakesHome}
use Rattle.index_pages.specs.fileset_files.Shown.{IsWhat}
use Rattle.index_pages.specs.fileset_files.State.{FileState, States, state_of, states_of, with_changed}
use Rattle.index_pages.specs.fileset_files.Together.{AreTogether}
use Rattle.index_pages.proofs.OfFilesetFiles.Again.{together_missed}
use Rattle.index_pages.proofs.OfFilesetFiles.Created.{one_chains}
use Rattle.index_pages.proofs.OfFilesetFiles.Live.{live_some}
use Rattle.index_pages.proofs.OfFilesetFiles.OneChain.{chain_same, same_tag_itself}
use Rattle.index_pages.proofs.OfFilesetFiles.OneFile.{tags_same}
use Rattle.index_pages.proofs.OfFilesetFiles.Room.{allowed_found}
use Rattle.index_pages.specs.fileset_files.States.{described, if_live, is_removing, live_at, placed}
use Rattle.index_pages.proofs.OfFilesetFiles.FirstCells.{attributes_said}
use Rattle.index_pages.proofs.OfFilesetFiles.Parts.{file_at, states_changed}
use Rattle.index_pages.proofs.OfFilesetFiles.Placed.{page_placed}
use Rattle.index_pages.proofs.OfFilesetFiles.Told.{told_attributes, told_keep, told_place}
use Rattle.stored_set.proofs.Owned.{set as owner_set}
use Rattle.stored_set.proofs.PageAdded.{added}
use Rattle.stored_set.proofs.Wholeness.{whole_added}
use Rattle.stored_set.specs.Standing.{StandsShown, owned}
use Rattle.stored_set.specs.Whole.{AreWholeDirectories, IsWholeDirectory}
use Rattle.stored_set.proofs.Bare.{bare_written}
use Rattle.stored_set.proofs.Live.{missed_still, told_any}
use Rattle.stored_set.proofs.Sized.{IsAt, count_here, the_file, whole_here}
use Rattle.stored_set.proofs.States.{said_states}
use Rattle.stored_set.specs.Sets.{AddsNone, AddsPage, GetsPage, StandsAsSet, attributes_at, long, with_length}

-- a file has as many links as one may
pub record HasLinks (a : Attributes) : Type 0 where
  pub named : 1 ≤ a.links
  pub most : a.links ≤ max_links

some_is : {X : Type 0} (x y : X) → Some x ≡ Some y → x ≡ y
some_is x y e = ap (λ o. option_map_or (λ z. z) o x) e

none_is_some : {X : Type 0} (x : X) → None ≡ Some x → ⊥
none_is_some x e = cc

links_allowed : (r : Record) (a : Attributes) → Allowed r → attributes_in r ≡ Some a → HasLinks a
unfolding Allowed
links_allowed (written.Attributes kind uid gid flags size keep links birth unsynced) a allowed is =
    let links_is : links ≡ a.links = ap (λ o. option_map_or (λ (x : Attributes). x.links) o 0) is in
    record { named = omega (arith, links_is, allowed.6.0); most = omega (arith, links_is, allowed.6.1) }
links_allowed r a allowed is = absurd (none_is_some a is)

module _ (fileset : ℕ) (places : List TagPlace) (pages : Pages) (chains : Chains) (are : AreFiles fileset places pages chains) (tag : Tag) (a : Attributes) (is : attributes_at chains tag ≡ Some a) where
  pub links_fit : HasLinks a
  links_fit = by_chain (chains tag) refl is
    where
      by_record : (first : PlacedCell) → AllByRecursion Allowed first.cell.records → (o : Option Record) → record_of 1 first.cell.records ≡ o → option_and_then attributes_in o ≡ Some a → HasLinks a
      by_record first allowed None at is = absurd (none_is_some a is)
      by_record first allowed (Some r) at is = links_allowed r a (allowed_found 1 first.cell.records r at allowed) is

      by_cells : (cells : List PlacedCell) (at : CellAt) → IsFile pages at cells → (removed : Bool) → cond removed None (attributes_of cells) ≡ Some a → HasLinks a
      by_cells [] at is_file removed is = absurd is_file
      by_cells (first ∷ rest) at is_file true is = absurd (none_is_some a is)
      by_cells (first ∷ rest) at is_file false is = by_record first is_file.1.links.stands.is.well_formed.allowed (record_of 1 first.cell.records) refl is

      by_chain : (o : Option (List PlacedCell)) → chains tag ≡ o → option_and_then (of_live attributes_of) o ≡ Some a → HasLinks a
      by_chain None at is = absurd (none_is_some a is)
      by_chain (Some cells) at is = let f = file_at fileset places pages chains are tag cells at in by_cells cells f.at f.is_file (is_removed cells) is

  pub can_say : (count : ℕ) → CanSay (long count a) tag chains
  can_say count = record {
    kind = subst (λ o. IsSomeAnd o (λ (w : Attributes). w.kind ≡ a.kind)) (sym is) refl;
    named = links_fit.named;
    most = links_fit.most;
  }

-- what such a set is where its first cell was said anew
module _ (fileset : ℕ) (places : List TagPlace) (space : Spaces) (cells : Cells) (old mid : Pages) (set : SetOf) (was : StandsAsSet fileset places space cells old set) (tag : Tag) (a : Attributes) (is : attributes_at was.chains tag ≡ Some a) (page : ℕ) (small : page < file_pages)
    (directory : IsDirectory set tag) (last : page ≡ count_pages set tag) (changes : ChangesFirst (was.chains tag) old mid) (together : AreTogether fileset places space cells mid (with_length (page + 1) a tag was.chains)) where
  abbrev value : Attributes
  value = long (page + 1) a

  abbrev now : Chains
  now = with_length (page + 1) a tag was.chains

  -- the set shows the same
  owner_same : with_change tag (owned value) set ≡ set
  owner_same = λ i t. each t i
    where
      by_what : (file : Bitfile) → IsWhat file a → owned value file ≡ file
      by_what file what = λ i. record { kind = file.kind; uid = sym what.uid i; gid = sym what.gid i; links = sym what.links i; pages = file.pages; index = file.index }

      by_tag : (file : Bitfile) → set tag ≡ Some file → IsWhat file a → (t : Tag) (b : Bool) → same_tag t tag ≡ b → cond b (Some (owned value file)) (set t) ≡ set t
      by_tag file at what t true same = ap Some (by_what file what) ∙ sym at ∙ ap set (sym (tags_same t tag same))
      by_tag file at what t false other = refl

      by_file : (o : Option Bitfile) → set tag ≡ o → IsSomeAnd o (λ file. IsWhat file a) → (t : Tag) → option_map_or (λ file. with_file tag (owned value file) set) o set t ≡ set t
      by_file None at what t = absurd what
      by_file (Some file) at what t = by_tag file at what t (same_tag t tag) refl

      what_told : IsSomeAnd (set tag) (λ file. IsWhat file a)
      what_told = by_shown (set tag) directory (subst (λ o. told_as o (set tag)) is (told_any fileset places space cells old set was tag was.chains was.stands.together.files))
        where
          told_as : Option Attributes → Option Bitfile → Type 0
          told_as o None = o ≡ None
          told_as o (Some file) = IsSomeAnd o (IsWhat file)

          by_shown : (file : Option Bitfile) → IsSomeAnd file (λ file. file.kind ≡ Directory) → told_as (Some a) file → IsSomeAnd file (λ file. IsWhat file a)
          by_shown None directory what = absurd directory
          by_shown (Some file) directory what = what

      each : (t : Tag) → with_change tag (owned value) set t ≡ set t
      each t = by_file (set tag) refl what_told t

  pub shown_said : StandsShown fileset places space cells mid now was.indexes set
  shown_said = subst (λ (s : SetOf). StandsShown fileset places space cells mid now was.indexes s) owner_same
      (owner_set fileset places space cells old mid was.chains was.indexes set was.stands tag value (can_say fileset places old was.chains was.stands.together.files tag a is (page + 1)) changes together)

  states_said : states_of now ≡ with_changed tag (described value) (states_of was.chains)
  states_said = said_states fileset places old was.chains tag (says_attributes value) (described value) was.stands.together.files (λ pages first rest file. attributes_said pages first rest file value)

  -- what stands at the tag is whole, and live
  here : IsAt set tag
  here = the_file set tag directory

  whole_at : IsSomeAnd (states_of was.chains tag) (IsWholeDirectory here.file)
  whole_at = whole_here fileset places space cells old set was tag here

  behind : length here.file.pages ≤ page
  behind = omega (arith, last, count_here fileset places space cells old set was tag here)

  state_here : states_of now tag ≡ option_map (described value) (states_of was.chains tag)
  state_here = (λ i. states_said i tag) ∙ ap (λ (b : Bool). cond b (option_map (described value) (states_of was.chains tag)) (states_of was.chains tag)) (same_tag_itself tag)

  live_here : option_map (λ (s : FileState). s.attributes) (live_at (states_of was.chains) tag) ≡ Some a
  live_here = sym (told_attributes fileset places old was.chains was.stands.together.files tag) ∙ is

  pub may_grow : MayGrow tag page now
  may_grow = record {
    kept = subst (λ o. IsSomeAnd o (λ keep. page < keep)) (sym (told_keep fileset places mid now together.files tag)) (subst (λ s. IsSomeAnd (option_map (λ (s : FileState). s.keep) (option_and_then if_live s)) (λ keep. page < keep)) (sym state_here) (kept_by (states_of was.chains tag) whole_at live_here));
    absent = told_place fileset places mid now together.files tag page ∙ ap (λ o. option_map_or (λ (s : FileState). s.places page) o Absent) state_here ∙ absent_by (states_of was.chains tag) whole_at;
  }
    where
      kept_live : (s : FileState) (b : Bool) → s.keep ≡ file_pages → option_map (λ (s : FileState). s.attributes) (cond b None (Some s)) ≡ Some a → IsSomeAnd (option_map (λ (s : FileState). s.keep) (cond b None (Some (described value s)))) (λ keep. page < keep)
      kept_live s true keeps live = absurd (none_is_some a live)
      kept_live s false keeps live = omega (arith, keeps, small)

      kept_by : (o : Option FileState) → IsSomeAnd o (IsWholeDirectory here.file) → option_map (λ (s : FileState). s.attributes) (option_and_then if_live o) ≡ Some a
          → IsSomeAnd (option_map (λ (s : FileState). s.keep) (option_and_then if_live (option_map (described value) o))) (λ keep. page < keep)
      kept_by None whole live = absurd whole
      kept_by (Some s) whole live = kept_live s (is_removing s.pending) whole.keeps live

      absent_by : (o : Option FileState) → IsSomeAnd o (IsWholeDirectory here.file) → option_map_or (λ (s : FileState). s.places page) (option_map (described value) o) Absent ≡ Absent
      absent_by None whole = refl
      absent_by (Some s) whole = whole.none page behind

  pub may_grow_any : (chains : Chains) → AreFiles fileset places mid chains → MayGrow tag page chains
  may_grow_any chains are = record {
    kept = subst (λ o. IsSomeAnd (option_and_then (of_live keep_of) o) (λ keep. page < keep)) (one_chains mid fileset places now chains together.files are tag) may_grow.kept;
    absent = ap (λ o. option_map_or (λ cs. places_of cs page) o Absent) (sym (one_chains mid fileset places now chains together.files are tag)) ∙ may_grow.absent;
  }

  -- it gets the page
  module _ (space_now : Spaces) (cells_now : Cells) (given : Pages) (home : Home) (bytes : List ℕ) (version : Version) (prefer : ℕ) (elsewhere : LeavesOffTables cells_now mid given) where
    pub added_set : IsSomeAnd (now tag) (ChangesFile fileset places tag page (At home) version now space_now cells cells_now mid given) → IsSomeAnd (now tag) (λ chain. TakesHome prefer page home chain space space_now cells cells_now mid)
        → StandsAsSet fileset places space_now cells_now (with_page home bytes given) (with_change tag (put_page page bytes) set)
    added_set gives takes = by_chain (now tag) refl gives takes
      where
        by_chain : (o : Option (List PlacedCell)) → now tag ≡ o → IsSomeAnd o (ChangesFile fileset places tag page (At home) version now space_now cells cells_now mid given) → IsSomeAnd o (λ chain. TakesHome prefer page home chain space space_now cells cells_now mid)
            → StandsAsSet fileset places space_now cells_now (with_page home bytes given) (with_change tag (put_page page bytes) set)
        by_chain None at gives takes = absurd gives
        by_chain (Some chain) at gives takes = record {
          chains = with_chain tag (λ _. gives.change.changes.after) now;
          indexes = was.indexes;
          stands = added fileset prefer places space space_now cells cells_now mid given now was.indexes set shown_said tag page home bytes version chain at gives takes elsewhere directory last;
          whole = subst (λ (s : States). AreWholeDirectories s (with_change tag (put_page page bytes) set)) (sym states_now) (whole_added (states_of was.chains) set was.whole tag value page home bytes last small refl);
          bare = bare_written set was.bare tag page bytes;
          low = was.low;
        }
          where
            states_now : states_of (with_chain tag (λ _. gives.change.changes.after) now) ≡ with_changed tag (placed page (At home)) (with_changed tag (described value) (states_of was.chains))
            states_now = states_changed tag (λ _. gives.change.changes.after) (placed page (At home)) now
                (λ cs there. subst (λ (cs : List PlacedCell). state_of gives.change.changes.after ≡ option_map (placed page (At home)) (state_of cs)) (some_is chain cs (sym at ∙ there))
                (page_placed page (At home) chain gives.change.changes.after gives.change.changes.first gives.change.changes.at))
                ∙ ap (with_changed tag (placed page (At home))) states_said

-- ---- what is told of the chains

module _ (fileset : ℕ) (places : List TagPlace) (tag : Tag) (page : ℕ) (bytes : List ℕ) (prefer : ℕ) (version : Version) (chains : Chains) (space space_now : Spaces) (cells cells_now : Cells) (mid given new : Pages) (home : Home) where
  pub gets_page : (o : Option (List PlacedCell)) → IsSomeAnd o (ChangesFile fileset places tag page (At home) version chains space_now cells cells_now mid given) → IsSomeAnd o (λ chain. TakesHome prefer page home chain space space_now cells cells_now mid)
      → IfSome o (λ chain. LeavesOtherCells cells chain mid given) → LeavesOffTables cells_now mid given → new ≡ with_page home bytes given
      → IsSomeAnd o (GetsPage fileset places tag page bytes prefer version chains space space_now cells cells_now mid new)
  gets_page None gives takes others elsewhere put = absurd gives
  gets_page (Some chain) gives takes others elsewhere put = record {
    home = home;
    taken = takes;
    between = given;
    given = gives;
    others = others;
    elsewhere = elsewhere;
    put = put;
  }

-- a tag that names something has a chain, also where that says something else
pub has_chain : (count : ℕ) (a : Attributes) (tag : Tag) (chains : Chains) → attributes_at chains tag ≡ Some a → IsSome (with_length count a tag chains tag)
has_chain count a tag chains is = subst (λ o. IsSome o) (sym (chain_same tag (with_first (says_attributes (long count a))) chains tag (same_tag_itself tag))) (by_chain (chains tag) is)
  where
    by_chain : (o : Option (List PlacedCell)) → option_and_then (of_live attributes_of) o ≡ Some a → IsSome (option_map (with_first (says_attributes (long count a))) o)
    by_chain None is = absurd (none_is_some a is)
    by_chain (Some cs) is = refl

-- none is added
pub adds_none : (tag : Tag) (page : ℕ) (chains : Chains) (a : Attributes) (space space_now : Spaces) (cells : Cells) (fault : StoreFault) → attributes_at chains tag ≡ Some a
    → IsSomeAnd (with_length (page + 1) a tag chains tag) (λ chain. GetsNone page chain space space_now cells fault) → AddsNone tag page chains space space_now cells fault
adds_none tag page chains a space space_now cells fault is none =
    subst (λ o. IsSomeAnd o (λ was. IsSomeAnd (with_length (page + 1) was tag chains tag) (λ chain. GetsNone page chain space space_now cells fault))) (sym is) none

pub memory_short : (tag : Tag) (page : ℕ) (chains : Chains) (a : Attributes) (space : Spaces) (cells : Cells) (fault : StoreFault) → fault ≡ OutOfMemory → attributes_at chains tag ≡ Some a → AddsNone tag page chains space space cells fault
memory_short tag page chains a space cells fault short is = adds_none tag page chains a space space cells fault is (by_chain (with_length (page + 1) a tag chains tag) (has_chain (page + 1) a tag chains is))
  where
    by_chain : (o : Option (List PlacedCell)) → IsSome o → IsSomeAnd o (λ chain. GetsNone page chain space space cells fault)
    by_chain None some = absurd (true≢false (sym some))
    by_chain (Some chain) some = subst (λ f. GetsNone page chain space space cells f) (sym short) refl

-- ---- and the set is as it was

module _ (fileset : ℕ) (places : List TagPlace) (space space_now : Spaces) (cells : Cells) (old : Pages) (set : SetOf) (was : StandsAsSet fileset places space cells old set) (tag : Tag) (page : ℕ) where
  pub set_still : (fault : StoreFault) → AddsNone tag page was.chains space space_now cells fault → StandsAsSet fileset places space_now cells old set
  set_still fault none = by_was fault (attributes_at was.chains tag) none
    where
      by_chain : (fault : StoreFault) (o : Option (List PlacedCell)) → IsSomeAnd o (λ chain. GetsNone page chain space space_now cells fault) → StandsAsSet fileset places space_now cells old set
      by_chain fault None none = absurd none
      by_chain NoPage (Some chain) none = subst (λ (s : Spaces). StandsAsSet fileset places s cells old set) (sym none.1) (record {
        chains = was.chains;
        indexes = was.indexes;
        stands = missed_still fileset places space cells old was.chains was.indexes set was.stands (together_missed old fileset places was.chains space cells was.stands.together);
        whole = was.whole;
        bare = was.bare;
        low = was.low;
      })
      by_chain OutOfMemory (Some chain) none = subst (λ (s : Spaces). StandsAsSet fileset places s cells old set) (sym none) was

      by_was : (fault : StoreFault) (o : Option Attributes) → IsSomeAnd o (λ a. IsSomeAnd (with_length (page + 1) a tag was.chains tag) (λ chain. GetsNone page chain space space_now cells fault)) → StandsAsSet fileset places space_now cells old set
      by_was fault None none = absurd none
      by_was fault (Some a) none = by_chain fault (with_length (page + 1) a tag was.chains tag) none

-- the page of the first cell is put back
pub put_back : (chain : Option (List PlacedCell)) (at : CellAt) (old mid new : Pages) (saved : List ℕ) → IsSomeAnd chain (IsFile old at) → ChangesFirst chain old mid → old (home_of at) ≡ Some saved → new ≡ with_page (home_of at) saved mid → new ≡ old
put_back None at old mid new saved is changes there put = absurd is
put_back (Some []) at old mid new saved is changes there put = absurd is
put_back (Some (first ∷ rest)) at old mid new saved is changes there put = put ∙ (λ i h. each h i)
  where
    by_home : (h : Home) (b : Bool) → same_home h (home_of at) ≡ b → cond b (Some saved) (mid h) ≡ old h
    by_home h true same = sym there ∙ ap old (sym (homes_same h (home_of at) same))
    by_home h false other = changes.1 h (ap (λ (x : CellAt). same_home h (home_of x)) is.0 ∙ other)

    each : (h : Home) → with_page (home_of at) saved mid h ≡ old h
    each h = by_home h (same_home h (home_of at)) refl

-- where a file's chain begins a page stands
pub first_there : (pages : Pages) (at : CellAt) (cells : List PlacedCell) → IsFile pages at cells → IsSome (pages (home_of at))
first_there pages at [] is = absurd is
first_there pages at (first ∷ rest) is = subst (λ (x : CellAt). IsSome (pages (home_of x))) is.0 (by_page (pages (home_of first.at)) is.1.links.stands.bytes is.1.links.stands.there)
  where
    by_page : (o : Option (List ℕ)) (bytes : List ℕ) → option_and_then (λ page. cond (is_cell_page page && nat_lt first.at.cell 28) (Some (cell_of page first.at.cell)) None) o ≡ Some bytes → IsSome o
    by_page None bytes there = absurd (none_is_some bytes there)
    by_page (Some page) bytes there = refl

-- the chain of a tag that is live
pub chain_there : (pages : Pages) (chain : Option (List PlacedCell)) (at : CellAt) → IsLiveCell pages chain (Some at) → IsSomeAnd chain (IsFile pages at)
chain_there pages chain at live = let l = live_some attributes_of pages chain at live in subst (λ o. IsSomeAnd o (IsFile pages at)) (sym l.is) l.is_file

pub is_some : (set : SetOf) (tag : Tag) → IsDirectory set tag → IsSome (set tag)
is_some set tag directory = by_file (set tag) directory
  where
    by_file : (o : Option Bitfile) → IsSomeAnd o (λ file. file.kind ≡ Directory) → IsSome o
    by_file None directory = absurd directory
    by_file (Some file) directory = refl
