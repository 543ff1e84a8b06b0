-- At its opening a domain holds no more pages than its state has room for: each of them is one of
-- its volumes' first ones, of the log or of the fileset table, or a file's of a fileset, or it is
-- counted as old.
use Rattle.std.proofs.Common.{◌≡◌, ◌∙◌, ℕ, zero, suc, ◌+◌, ◌*◌, ◌-◌, ◌<◌, ◌≤◌, ◌==◌, List, [], ◌∷◌, ◌++◌, length, Contains, Option, Some, None, IfSome, slice_index_or, refl, sym, ap, subst, arith, ⊎_elim, eqb-true, eq-eqb}
use Rattle.std.proofs.lemmas.Bool.{cases_Bool, true≢false}
use Rattle.std.proofs.lemmas.List.{length-append}
use Rattle.std.proofs.lemmas.List.Elements.{Contains-append_left, Contains-append_right}
use Rattle.std.specs.FinMap as map
use Rattle.std.specs.FinMap.{get, nat_cmp-IsAntisymmetric}
use Rattle.std.specs.List.{AllByRecursion, flat_map}
use Rattle.no_faults.specs.domain_base.declared.place.Home.{Home}
use Rattle.no_faults.specs.domain_base.declared.place.Kind.TheVariants.{File}
use Rattle.no_faults.specs.domain_base.declared.place.Tag.{Tag}
use Rattle.no_faults.specs.metadata_cells.Chain.{PlacedCell}
use Rattle.no_faults.specs.log_ring.Homes.{IsLogPage, IsMember, member_of}
use Rattle.no_faults.specs.fileset_model.Filesets.{FilesetMap}
use Rattle.no_faults.specs.fileset_table.Table.{Table}
use Rattle.no_faults.specs.legal_histories.Room.{path_count, present_pages, room}
use Rattle.no_faults.specs.legal_histories.State.{Member, MemberMap, State}
use Rattle.no_faults.specs.page_ways.Frame.{frame_in}
use Rattle.no_faults.specs.staged_pages.Store.{before_of}
use Rattle.no_faults.specs.domain_layout.DirectoryRules.{Has}
use Rattle.no_faults.specs.domain_layout.Owners.{IsOwned, frame_of}
use Rattle.no_faults.specs.domain_layout.Reached.{Frame, first_cells}
use Rattle.no_faults.specs.domain_layout.Seen.{SeenFile}
use Rattle.no_faults.specs.domain_standing.Domain.{DomainNow, layout_of}
use Rattle.no_faults.specs.domain_standing.Holders.{AreHeldAt}
use Rattle.no_faults.specs.domain_standing.Standing.{StandsDomain}
use Rattle.no_faults.specs.standing_laws.Sound.{IsSound, StandsSound}
use Rattle.no_faults.proofs.OneLayout.{owned_here, table_here}
use Rattle.no_faults.proofs.OneSound.{one_sound}
use Rattle.no_faults.proofs.Owners.{owned_as}
use Rattle.no_faults.specs.domain_memory.Held.{held_open}
use Rattle.no_faults.specs.domain_memory.Memory.{StandsFor, kept_in}
use Rattle.no_faults.specs.free_space.Sound.{AreSound, IsSoundVolume}
use Rattle.no_faults.specs.free_space.Spaces.{kept_spaces, volume_of}
use Rattle.no_faults.specs.free_space.VolumeSpace.{VolumeSpace}
use Rattle.no_faults.specs.domain_memory.declared.memory.DomainMemory.{DomainMemory}
use Rattle.domain_state.specs.Opening.{CountsOld, IsFixed, IsMemberAs, IsOldPage, IsStartOf}
use Rattle.domain_state.proofs.Beginning.{looks_so}
use Rattle.domain_state.proofs.FileHomes.{entry_among, few, file_homes, listed}
use Rattle.domain_state.proofs.HeldHomes.{HasHeldOn, held_within}
use Rattle.domain_state.proofs.HomeLists.{among_false, among_true, is_among, listed_in}
use Rattle.domain_state.proofs.NoClones.{have_no_clone, same_filesets}
use Rattle.domain_state.proofs.RunHomes.{few_bitmaps, firsts_length, run_among, run_homes, run_length}

-- ---- the free space of a volume is sound

sound_at : (volumes : List (Option VolumeSpace)) (k : ℕ) → AllByRecursion (λ o. IfSome o IsSoundVolume) volumes → IfSome (slice_index_or volumes k None) IsSoundVolume
sound_at [] k sound = tt
sound_at (v ∷ more) zero sound = sound.0
sound_at (v ∷ more) (suc k) sound = sound_at more k sound.1

-- ---- a list of five parts

module _ (a b c d e : List Home) (home : Home) where
  in_first : Contains a home → Contains (a ++ (b ++ (c ++ (d ++ e)))) home
  in_first there = Contains-append_left a (b ++ (c ++ (d ++ e))) home there

  behind_one : Contains (b ++ (c ++ (d ++ e))) home → Contains (a ++ (b ++ (c ++ (d ++ e)))) home
  behind_one there = Contains-append_right a (b ++ (c ++ (d ++ e))) home there

  in_second : Contains b home → Contains (a ++ (b ++ (c ++ (d ++ e)))) home
  in_second there = behind_one (Contains-append_left b (c ++ (d ++ e)) home there)

  behind_two : Contains (c ++ (d ++ e)) home → Contains (a ++ (b ++ (c ++ (d ++ e)))) home
  behind_two there = behind_one (Contains-append_right b (c ++ (d ++ e)) home there)

  in_third : Contains c home → Contains (a ++ (b ++ (c ++ (d ++ e)))) home
  in_third there = behind_two (Contains-append_left c (d ++ e) home there)

  in_fourth : Contains d home → Contains (a ++ (b ++ (c ++ (d ++ e)))) home
  in_fourth there = behind_two (Contains-append_right c (d ++ e) home (Contains-append_left d e home there))

  in_fifth : Contains e home → Contains (a ++ (b ++ (c ++ (d ++ e)))) home
  in_fifth there = behind_two (Contains-append_right c (d ++ e) home (Contains-append_right d e home there))

all_lengths : (a b c d e : List Home) → length (a ++ (b ++ (c ++ (d ++ e)))) ≡ length a + length b + length c + length d + length e
all_lengths a b c d e =
    let one = length-append a (b ++ (c ++ (d ++ e))) in
    let two = length-append b (c ++ (d ++ e)) in
    let three = length-append c (d ++ e) in
    let four = length-append d e in
    omega (arith, one, two, three, four)

abbrev table_homes : Option Home → List Home
table_homes None = []
table_homes (Some home) = home ∷ []

one_table : (o : Option Home) → length (table_homes o) ≤ 1
one_table None = omega arith
one_table (Some home) = omega arith

table_among : (o : Option Home) (home : Home) → o ≡ Some home → Contains (table_homes o) home
table_among None home is = absurd (cc)
table_among (Some other) home is = (0, omega arith, let same : other ≡ home = cc in same)

-- ---- the members of a state

shown : (frame : Frame) (vol : ℕ) → IsMember frame.anchor vol → IsMemberAs frame.anchor vol (record { pages = (member_of frame.anchor vol).pages; is_open = (member_of frame.anchor vol).state == 1 })
shown frame vol there = record {
  there = there;
  pages = refl;
  opened = (eqb-true (member_of frame.anchor vol).state 1, eq-eqb (member_of frame.anchor vol).state 1);
}

abbrev firsts : MemberMap → List Home
firsts members = flat_map (λ (e : ℕ × Member). run_homes e.0 0 18) (map.entries members)

first_among : (members : MemberMap) (member : Member) (home : Home) → get members home.vol ≡ Some member → home.page < 18 → Contains (firsts members) home
first_among members member home there low =
    listed_in (λ (e : ℕ × Member). run_homes e.0 0 18) (map.entries members) (home.vol, member) home (entry_among nat_cmp-IsAntisymmetric members home.vol member there) (run_among home.vol 0 18 home refl (omega arith) (omega (arith, low)))

-- ---- what is held, and what is listed

module _ (d : DomainNow) (all : FilesetMap) (stands : StandsDomain d all) (sizes : List ℕ) (start : State) (is : IsStartOf d.pages d.frame sizes start) where
  abbrev old : CountsOld d.pages d.frame start.old_pages
  old = is.old_pages

  abbrev first_part : List Home
  first_part = firsts start.members

  abbrev log_part : List Home
  log_part = run_homes d.frame.anchor.log_vol d.frame.anchor.log_page 128

  abbrev table_part : List Home
  table_part = table_homes d.frame.anchor.table

  abbrev file_part : List Home
  file_part = file_homes stands.slots.shapes all

  abbrev homes : List Home
  homes = first_part ++ (log_part ++ (table_part ++ (file_part ++ old.homes)))

  module _ (home : Home) where
    first_listed : (frame : Frame) → frame ≡ d.frame → IsMember frame.anchor home.vol → home.page < first_cells frame home.vol → Contains homes home
    first_listed frame same member low =
        let there : IsMember d.frame.anchor home.vol = subst (λ (f : Frame). IsMember f.anchor home.vol) same member in
        let less : home.page < first_cells d.frame home.vol = subst (λ (f : Frame). home.page < first_cells f home.vol) same low in
        let few_of = few_bitmaps d.frame.version (member_of d.frame.anchor home.vol).pages (stands.tables.few home.vol there) in
        in_first first_part log_part table_part file_part old.homes home
        (first_among start.members (record { pages = (member_of d.frame.anchor home.vol).pages; is_open = (member_of d.frame.anchor home.vol).state == 1 }) home
        ((is.volumes.members home.vol (record { pages = (member_of d.frame.anchor home.vol).pages; is_open = (member_of d.frame.anchor home.vol).state == 1 })).1 (shown d.frame home.vol there)) (omega (arith, less, few_of)))

    log_listed : (frame : Frame) → frame ≡ d.frame → IsLogPage frame.anchor home → Contains homes home
    log_listed frame same logged =
        let in_log : IsLogPage d.frame.anchor home = subst (λ (f : Frame). IsLogPage f.anchor home) same logged in
        in_second first_part log_part table_part file_part old.homes home (run_among d.frame.anchor.log_vol d.frame.anchor.log_page 128 home in_log.0 in_log.1 in_log.2)

    table_listed : (frame : Frame) → frame ≡ d.frame → frame.anchor.table ≡ Some home → Contains homes home
    table_listed frame same at =
        in_third first_part log_part table_part file_part old.homes home (table_among d.frame.anchor.table home (subst (λ (f : Frame). f.anchor.table ≡ Some home) same at))

    fixed_listed : IsFixed d.pages old.layout home → Contains homes home
    fixed_listed fixed = ⊎_elim (λ first. first_listed (frame_of old.layout) old.same first.0 first.1)
        (λ more. ⊎_elim (log_listed (frame_of old.layout) old.same) (table_listed (frame_of old.layout) old.same) more) fixed

    file_listed : (number : ℕ) (tag : Tag) (cells : List PlacedCell) (seen : SeenFile) → Has d.pages old.layout.table number tag cells seen → seen.is.kind ≡ File → (page : ℕ) → seen.homes page ≡ Some home → Contains homes home
    file_listed number tag cells seen has kind page at =
        let table : old.layout.table ≡ d.table = table_here d stands.tables old.layout old.same old.laid in
        in_fourth first_part log_part table_part file_part old.homes home (listed d all stands home (record {
          number = number;
          tag = tag;
          cells = cells;
          seen = seen;
          page = page;
          has = subst (λ (t : Table). Has d.pages t number tag cells seen) table has;
          kind = kind;
          at = at;
        }))

    -- what has an owner is listed
    owned_listed : ¬ ¬ IsOwned d.pages (layout_of d) home → Contains homes home
    owned_listed owned = ⊎_elim (among_true homes home) (λ none. absurd (unlisted (among_false homes home none))) (cases_Bool (is_among homes home))
      where
        unlisted : ¬ Contains homes home → ⊥
        unlisted out =
            let is_old : IsOldPage d.pages old.layout home = record {
              owned = λ none. owned (λ has. none (owned_here d stands.tables old.layout old.same old.laid home has));
              beside = λ fixed. out (fixed_listed fixed);
              no_files = λ number tag cells seen has kind page at. out (file_listed number tag cells seen has kind page at);
            } in
            out (in_fifth first_part log_part table_part file_part old.homes home ((old.each home).1 is_old))

  module _ (so : IsSound d) (spaces : AreSound d.space) where
    -- the domain as it is sound
    abbrev as_sound : StandsDomain d all
    as_sound = record {
      tables = so.below.tables;
      files = so.files;
      indexes = so.indexes;
      chains = so.below.chains;
      owned = so.below.owned;
      rest = so.below.rest;
      slots = stands.slots;
    }

    sound_so : StandsSound d stands.files stands.indexes
    sound_so = one_sound d all as_sound stands so.sound

    volume_listed : (vol : ℕ) (o : Option VolumeSpace) → IfSome o IsSoundVolume → AreHeldAt d stands.files stands.indexes vol o → HasHeldOn homes vol o
    volume_listed vol None good held = tt
    volume_listed vol (Some v) good held = λ opened page used settled. owned_listed (record { vol = vol; page = page }) (λ none.
        let low : page < v.pages = good.within page used in
        true≢false (sym used ∙ (held.1.free page low).1 (
          (λ holder holds. none (owned_as d all stands sound_so holder (record { vol = vol; page = page }) holds)),
          settled,
        )))

    held_listed : (vol : ℕ) → 1 ≤ vol → HasHeldOn homes vol (volume_of d.space vol)
    held_listed vol low = volume_listed vol (volume_of d.space vol) (sound_at d.space.volumes (vol - 1) spaces) (stands.owned.spaces vol low)

  few_homes : start.filesets ≡ all → length homes ≤ start.old_pages + room start
  few_homes filesets =
      let parts = all_lengths first_part log_part table_part file_part old.homes in
      let firsts_few : length first_part ≡ 18 * map.len start.members = firsts_length (λ (e : ℕ × Member). e.0) (map.entries start.members) ∙ ap (λ n. 18 * n) (sym (map.len-entries start.members)) in
      let log_few = run_length d.frame.anchor.log_vol d.frame.anchor.log_page 128 in
      let table_few = one_table d.frame.anchor.table in
      let same : present_pages start.filesets ≡ present_pages all = ap present_pages filesets in
      let files_few = few stands.slots.shapes all in
      within (length first_part) (length log_part) (length table_part) (length file_part) (length old.homes) (present_pages start.filesets) (path_count start.filesets) (map.len start.members) (length homes) start.old_pages
      parts firsts_few log_few table_few (subst (λ n. length file_part ≤ n) (sym same) files_few) old.counted
    where
      within : (a b c e f pages paths members many count : ℕ) → many ≡ a + b + c + e + f → a ≡ 18 * members → b ≡ 128 → c ≤ 1 → e ≤ pages → f ≡ count → many ≤ count + (3 * pages + 4 * paths + 64 * members + 512)
      within a b c e f pages paths members many count parts firsts log table files old = omega (arith, parts, firsts, log, table, files, old)

-- a domain whose free space is sound holds no more pages than a state that its pages mean counts as
-- old and has room for
pub begins_within_room : (memory : DomainMemory) (sizes : List ℕ) (all : FilesetMap) → StandsFor memory all → AreSound (kept_spaces memory.space) → (start : State) → IsStartOf (before_of memory.pages) (frame_in memory.frame) sizes start
    → held_open (kept_spaces memory.space) ≤ start.old_pages + room start
begins_within_room memory sizes all stands sound start is =
    let d : DomainNow = kept_in memory in
    let same = same_filesets start.filesets all (have_no_clone d all stands.stands.slots) (looks_so memory sizes all stands start is) in
    let most = held_within (kept_spaces memory.space) (homes d all stands.stands sizes start is) (held_listed d all stands.stands sizes start is stands.sound sound) in
    let few_of = few_homes d all stands.stands sizes start is same in
    omega (arith, most, few_of)
