-- A file that goes, and one that reads through it.
use Rattle.std.proofs.Common.{◌≡◌, ◌∙◌, ◌⊎◌, inl, inr, ℕ, ◌≤◌, false, nat_le, List, [], ◌∷◌, ◌++◌, Option, Some, is_some, None, IsSome, IsSomeAnd, Contains, refl, sym, ap, subst, arith, ⊎_elim}
use Rattle.std.specs.Option.{option_and_then, option_map_or}
use Rattle.release_steps.specs.domain_base.declared.place.CellAt.{CellAt}
use Rattle.release_steps.specs.domain_base.declared.place.Home.{Home}
use Rattle.release_steps.specs.page_store.Pages.{Pages}
use Rattle.release_steps.specs.cell_records.declared.record.Record.{Record}
use Rattle.release_steps.specs.cell_records.Records.{kind_of}
use Rattle.release_steps.specs.metadata_cells.Cell.{Cell, record_of}
use Rattle.release_steps.specs.metadata_cells.CellPage.{KeepsHeaders, KeepsWellFormed}
use Rattle.release_steps.specs.metadata_cells.Chain.{LeavesOthers, PlacedCell, StandsAt, is_at, places as cell_places}
use Rattle.release_steps.specs.extent_maps.declared.run.PagePlace.TheVariants.{Absent, At}
use Rattle.release_steps.specs.extent_maps.Runs.{place_of}
use Rattle.release_steps.specs.extent_records.Writing.{most_rows}
use Rattle.release_steps.specs.free_cells.Cells.{Cells}
use Rattle.release_steps.specs.free_space.VolumeSpace.{with_page}
use Rattle.release_steps.specs.free_space.Spaces.{CanTake, Spaces, change_volume}
use Rattle.release_steps.specs.file_chains.Allocated.{AreAllocated}
use Rattle.release_steps.specs.file_chains.Changes.{HasRoom, with_kind, with_record}
use Rattle.release_steps.specs.file_chains.Files.{AreFile, IsFile, has_rows, places_of}
use Rattle.release_steps.proofs.OfFileChains.Added.{not_zeros}
use Rattle.release_steps.proofs.OfFileChains.ChainChanges.{at_apart}
use Rattle.release_steps.proofs.OfFileChains.Spaces.{not_held}
use Rattle.release_steps.proofs.OfFileChains.Still.{allocated_still}
use Rattle.release_steps.specs.fileset_files.Changes.{with_first}
use Rattle.release_steps.specs.fileset_files.Files.{AreApart, first_record, is_first_kind}
use Rattle.release_steps.proofs.OfFilesetFiles.FirstCell.{file_now, find_other, find_put, map_stays}
use Rattle.release_steps.proofs.OfFilesetFiles.FirstRoom.{first_room, kinds_replaced}
use Rattle.release_steps.proofs.OfFilesetFiles.FirstTogether.{not_of, rows, runs_kept}
use Rattle.release_steps.proofs.OfFilesetFiles.Grown.{allocated_taken, apart_now, apart_taken}
use Rattle.release_steps.proofs.OfFileRelease.Once.{absent_not}
use Rattle.release_steps.specs.release_list.Listed.{IsEntry, IsListed, SaysWhatGoes}
use Rattle.release_steps.specs.release_list.Listing.{Adds, Listing}
use Rattle.release_steps.specs.release_list.Standing.{Files, IsStanding, ReadsThrough, Source, StandTogether, place_in, source_in, source_of, with_file}
use Rattle.release_steps.specs.release_list.Steps.{IsWell, now_of}
use Rattle.release_steps.proofs.OfReleaseList.Spread.{Which, other, reading, source, which}
use Rattle.release_steps.proofs.OfReleaseList.Standings.{apart_from, each_from, file_beside, file_other, file_there, source_by}
use Rattle.release_steps.specs.Waits.{IsNowhere}
use Rattle.release_steps.proofs.CallsWell.{well_held}
use Rattle.release_steps.proofs.Listing.{entry_listed, page_listed}
use Rattle.release_tables.specs.Pairs.{AreTwo, IsCloneOf, IsPair}
use Rattle.release_tables.proofs.Wells.{in_none, listing, no_files, none_some, some_same}

-- ---- files of two chains

module _ (space : Spaces) (cells : Cells) (pages : Pages) (a b : CellAt) (chain own : List PlacedCell) (two : AreTwo space cells pages a b chain own) where
  in_chain : (cs : List PlacedCell) (at : CellAt) → IsFile pages at cs → Contains (cell_places cs) at
  in_chain [] at is = absurd is
  in_chain (c ∷ cs) at is = (0, omega arith, is.0)

  differ : ¬ b ≡ a
  differ same = two.apart a (in_chain chain a two.file.file) (subst (Contains (cell_places own)) same (in_chain own b two.reader.file))

  abbrev files : Files
  files = with_file a (Some chain) (with_file b (Some own) no_files)

  at_a : files a ≡ Some chain
  at_a = file_there a (Some chain) (with_file b (Some own) no_files)

  at_b : files b ≡ Some own
  at_b = file_other a (Some chain) (with_file b (Some own) no_files) b differ ∙ file_there b (Some own) no_files

  nowhere : (x : CellAt) → ¬ x ≡ a → ¬ Some b ≡ Some x → files x ≡ None
  nowhere x not_a not_b = file_other a (Some chain) (with_file b (Some own) no_files) x not_a ∙ file_other b (Some own) no_files x (λ same. not_b (ap Some (sym same)))

  -- which of the two it is
  one_of : (x : CellAt) (cs : List PlacedCell) → files x ≡ Some cs → ((x ≡ a) × (cs ≡ chain)) ⊎ ((x ≡ b) × (cs ≡ own))
  one_of x cs is = by_which (which a (Some b) x)
    where
      by_which : Which a (Some b) x → ((x ≡ a) × (cs ≡ chain)) ⊎ ((x ≡ b) × (cs ≡ own))
      by_which (source same) = inl (same, some_same cs chain (sym is ∙ ap files same ∙ at_a))
      by_which (reading some) = let same = some_same b x some in inr (sym same, some_same cs own (sym is ∙ ap files (sym same) ∙ at_b))
      by_which (other not_a not_b) = absurd (none_some cs (sym (nowhere x not_a not_b) ∙ is))

  page_of : (x : CellAt) (p : ℕ) (home : Home) → place_in files x p ≡ At home → ((x ≡ a) × (places_of chain p ≡ At home)) ⊎ ((x ≡ b) × (places_of own p ≡ At home))
  page_of x p home is = by_chain (files x) refl is
    where
      by_chain : (o : Option (List PlacedCell)) → files x ≡ o → option_map_or (λ cs. places_of cs p) o Absent ≡ At home → ((x ≡ a) × (places_of chain p ≡ At home)) ⊎ ((x ≡ b) × (places_of own p ≡ At home))
      by_chain None is_x said = absurd (absent_not home said)
      by_chain (Some cs) is_x said = ⊎_elim
          (λ it. inl (it.0, sym (ap (λ (xs : List PlacedCell). places_of xs p) it.1) ∙ said))
          (λ it. inr (it.0, sym (ap (λ (xs : List PlacedCell). places_of xs p) it.1) ∙ said))
          (one_of x cs is_x)

  apart_back : AreApart own chain
  apart_back q in_own in_chain = two.apart q in_chain in_own

  -- they stand together where neither reads through what is read through
  stand : ((x y z : CellAt) → ReadsThrough files x y → ¬ ReadsThrough files y z) → StandTogether space cells pages files
  stand deep = record {
    allocated = two.file.allocated;
    each = each_from cells pages files (λ x cs is. ⊎_elim
        (λ it. subst (λ (q : CellAt). IsStanding cells pages q cs) (sym it.0) (subst (IsStanding cells pages a) (sym it.1) (record { stands = inl two.file.file; on_tables = two.file.on_tables })))
        (λ it. subst (λ (q : CellAt). IsStanding cells pages q cs) (sym it.0) (subst (IsStanding cells pages b) (sym it.1) (record { stands = inl two.reader.file; on_tables = two.reader.on_tables })))
        (one_of x cs is));
    apart = apart_from files (λ x y xs ys is_x is_y not_same. ⊎_elim
        (λ it. ⊎_elim
        (λ jt. absurd (not_same (it.0 ∙ sym jt.0)))
        (λ jt. subst (λ zs. AreApart zs ys) (sym it.1) (subst (AreApart chain) (sym jt.1) two.apart))
        (one_of y ys is_y))
        (λ it. ⊎_elim
        (λ jt. subst (λ zs. AreApart zs ys) (sym it.1) (subst (AreApart own) (sym jt.1) apart_back))
        (λ jt. absurd (not_same (it.0 ∙ sym jt.0)))
        (one_of y ys is_y))
        (one_of x xs is_x));
    held = λ x p home is. ⊎_elim (λ it. two.file.held p home it.1) (λ it. two.reader.held p home it.1) (page_of x p home is);
    once = λ x y p q home is_x is_y. ⊎_elim
        (λ it. ⊎_elim
        (λ jt. (it.0 ∙ sym jt.0, two.file.once p q home it.1 jt.1))
        (λ jt. absurd (two.not_own p q home it.1 jt.1))
        (page_of y q home is_y))
        (λ it. ⊎_elim
        (λ jt. absurd (two.not_own q p home jt.1 it.1))
        (λ jt. (it.0 ∙ sym jt.0, two.reader.once p q home it.1 jt.1))
        (page_of y q home is_y))
        (page_of x p home is_x);
    one_deep = deep;
  }

  nothing_listed : IsListed space cells files (listing [] [])
  nothing_listed = record {
    each = λ e inside. absurd (in_none e inside);
    once = λ i j d less_i less_j same. absurd (omega (arith, less_i));
    order = λ i j d less_i less_j same. absurd (omega (arith, less_i));
    pages_once = tt;
    pages_low = λ home inside. absurd (in_none home inside);
    pages_held = λ home inside. absurd (in_none home inside);
    pages_apart = λ home inside. absurd (in_none home inside);
  }

  says_at : (at : CellAt) (cs : List PlacedCell) → files at ≡ Some cs → IsSome (first_record 6 cs) → SaysWhatGoes files at
  says_at at cs is says = inl (ap (λ o. is_some (option_and_then (first_record 6) o)) is ∙ says)

  module _ (frozen : ℕ) (alone : source_of chain ≡ None) (says : IsSome (first_record 6 chain)) (own_says : IsSome (first_record 6 own)) (reads : source_of own ≡ Some (record { at = a; frozen = frozen })) where
    reads_one : (x y : CellAt) → ReadsThrough files x y → (x ≡ b) × (a ≡ y)
    reads_one x y is = by_chain (files x) refl is
      where
        by_chain : (o : Option (List PlacedCell)) → files x ≡ o → IsSomeAnd (option_and_then source_of o) (λ (s : Source). s.at ≡ y) → (x ≡ b) × (a ≡ y)
        by_chain None is_x said = absurd said
        by_chain (Some cs) is_x said = ⊎_elim
            (λ it. absurd (subst (λ o. IsSomeAnd o (λ (s : Source). s.at ≡ y)) (ap source_of it.1 ∙ alone) said))
            (λ it. (it.0, subst (λ o. IsSomeAnd o (λ (s : Source). s.at ≡ y)) (ap source_of it.1 ∙ reads) said))
            (one_of x cs is_x)

    together : StandTogether space cells pages files
    together = stand (λ x y z xy yz. differ (sym (reads_one y z yz).0 ∙ sym (reads_one x y xy).1))

    is_entry : IsEntry files (record { at = a; clone = Some b })
    is_entry = record {
      there = ap is_some at_a;
      says = says_at a chain at_a says;
      given = λ c is. subst (λ (q : CellAt). ReadsThrough files q a) (some_same b c is) (subst (λ o. IsSomeAnd o (λ (s : Source). s.at ≡ a)) (sym (source_by files b own at_b ∙ reads)) refl);
      all = λ c is. ap Some (sym (reads_one c a is).0);
    }

    -- and none reads through the second
    clone_entry : IsEntry files (record { at = b; clone = None })
    clone_entry = record {
      there = ap is_some at_b;
      says = says_at b own at_b own_says;
      given = λ c is. absurd (none_some c is);
      all = λ c is. absurd (differ (sym (reads_one c b is).1));
    }

    pub pair_is : IsPair space cells pages a b (listing [] []) files
    pair_is = record {
      well = record {
        together = together;
        listed = nothing_listed;
      };
      first = is_entry;
      second = clone_entry;
    }

  -- neither reads through a file: both on a list, with a page that was free
  module _ (first_alone : source_of chain ≡ None) (second_alone : source_of own ≡ None) (first_says : IsSome (first_record 6 chain)) (second_says : IsSome (first_record 6 own)) where
    reads_none : (x y : CellAt) → ReadsThrough files x y → ⊥
    reads_none x y is = by_chain (files x) refl is
      where
        by_chain : (o : Option (List PlacedCell)) → files x ≡ o → IsSomeAnd (option_and_then source_of o) (λ (s : Source). s.at ≡ y) → ⊥
        by_chain None is_x said = said
        by_chain (Some cs) is_x said = ⊎_elim
            (λ it. subst (λ o. IsSomeAnd o (λ (s : Source). s.at ≡ y)) (ap source_of it.1 ∙ first_alone) said)
            (λ it. subst (λ o. IsSomeAnd o (λ (s : Source). s.at ≡ y)) (ap source_of it.1 ∙ second_alone) said)
            (one_of x cs is_x)

    lone_entry : (at : CellAt) → IsSome (files at) → SaysWhatGoes files at → IsEntry files (record { at = at; clone = None })
    lone_entry at there says = record {
      there = there;
      says = says;
      given = λ c is. absurd (none_some c is);
      all = λ c is. absurd (reads_none c at is);
    }

    module _ (home : Home) (low : 1 ≤ home.vol) (can : CanTake space home.vol home.page) where
      abbrev taken : Spaces
      taken = change_volume (with_page home.page) space home.vol

      taken_allocated : AreAllocated taken cells pages
      taken_allocated = allocated_taken space cells pages home two.file.allocated

      well_with : IsWell (now_of (listing [] []) files taken cells pages)
      well_with = well_held (listing [] []) files space taken cells pages taken_allocated (λ h is. apart_taken space cells home h is)
          (record { together = stand (λ x y z xy. absurd (reads_none x y xy)); listed = nothing_listed })

      nowhere_taken : IsNowhere files home
      nowhere_taken x p is = ⊎_elim
          (λ it. not_held space home.vol home.page can (two.file.held p home it.1).held)
          (λ it. not_held space home.vol home.page can (two.reader.held p home it.1).held)
          (page_of x p home is)

      pub all_listed : (none one both all : Listing) → none.entries ≡ [] → none.tag_pages ≡ [] → Adds a None none.entries one.entries → one.tag_pages ≡ none.tag_pages → Adds b None one.entries both.entries → both.tag_pages ≡ one.tag_pages
          → all.tag_pages ≡ both.tag_pages ++ home ∷ [] → all.entries ≡ both.entries → (space_now : Spaces) → space_now ≡ taken → (fs : Files) × IsWell (now_of all fs space_now cells pages)
      all_listed none one both all no_entry no_page adds_a same_a adds_b same_b adds same space_now is =
          let empty : IsWell (now_of none files taken cells pages) = subst (λ (l : Listing). IsWell (now_of l files taken cells pages)) (λ i. listing (sym no_entry i) (sym no_page i)) well_with in
          let first = entry_listed (now_of none files taken cells pages) a None one empty (lone_entry a (ap is_some at_a) (says_at a chain at_a first_says)) adds_a same_a in
          let second = entry_listed (now_of one files taken cells pages) b None both (record { together = first.together; listed = first.listed }) (lone_entry b (ap is_some at_b) (says_at b own at_b second_says)) adds_b same_b in
          let no_pages : both.tag_pages ≡ [] = same_b ∙ same_a ∙ no_page in
          let last = page_listed (now_of both files taken cells pages) home all (record { together = second.together; listed = second.listed })
          (record {
            low = low;
            nowhere = nowhere_taken;
            not_listed = λ inside. in_none home (subst (λ (hs : List Home). Contains hs home) no_pages inside);
            apart = apart_now space cells pages home low two.file.allocated can;
          })
          adds same in
          (files, subst (λ (s : Spaces). IsWell (now_of all files s cells pages)) (sym is) (record { together = last.together; listed = last.listed }))

-- ---- the second says that it reads through the first

module _ (space : Spaces) (cells : Cells) (old new : Pages) (a b : CellAt) (chain : List PlacedCell) (first : PlacedCell) (rest : List PlacedCell) (two : AreTwo space cells old a b chain (first ∷ rest)) (frozen : ℕ) (value : Record) (is : IsCloneOf a frozen value)
    (stands : StandsAt new b (with_record (kind_of value) (Some value) first.cell)) (leaves : LeavesOthers (is_at b) old new) (good : KeepsWellFormed old new) (headers : KeepsHeaders old new) where
  abbrev says : Cell → Cell
  says = with_record (kind_of value) (Some value)

  abbrev own : List PlacedCell
  own = with_first says (first ∷ rest)

  file : AreFile old first rest
  file = two.reader.file.1

  first_at : first.at ≡ b
  first_at = two.reader.file.0

  no_rows : has_rows value ≡ false
  no_rows = ap (λ k. nat_le 1 (most_rows k)) is.of_kind

  other_kind : ¬ kind_of file.value ≡ kind_of value
  other_kind same = not_of file.value 2 (rows old first rest file) refl (same ∙ is.of_kind)

  not_first : ¬ 1 ≡ kind_of value
  not_first same = omega (arith, same, is.of_kind)

  stands_now : AreFile new (record { at = first.at; cell = says first.cell }) rest
  stands_now = file_now old new first rest (kind_of value) (Some value) file
      (subst (λ (q : CellAt). LeavesOthers (is_at q) old new) (sym first_at) leaves)
      (subst (λ (q : CellAt). StandsAt new q (says first.cell)) (sym first_at) stands)
      refl no_rows other_kind
      (subst IsSome (sym (find_other (kind_of value) 1 (Some value) first.cell.records not_first refl)) file.attributes)

  same : (p : ℕ) → places_of own p ≡ places_of (first ∷ rest) p
  same p = ap (λ rs. place_of rs p) (runs_kept says first rest (map_stays (kind_of value) (Some value) first.cell.records file.value file.map.only other_kind no_rows ∙ sym file.map.only))

  allocated : AreAllocated space cells new
  allocated =
      allocated_still space cells old new two.file.allocated good headers (is_at b) leaves
      (λ q free. at_apart b q (λ same. not_zeros old q first.at first.cell (two.file.allocated.belong.zeros q free) file.links.stands (sym same ∙ sym first_at)))

  out : ¬ Contains (cell_places chain) b
  out inside = two.apart b inside (0, omega arith, first_at)

  reads : source_of own ≡ Some (record { at = a; frozen = frozen })
  reads =
      ap (λ (k : ℕ). option_and_then source_in (record_of k (with_kind (kind_of value) (Some value) first.cell.records))) (sym is.of_kind)
      ∙ ap (option_and_then source_in) (find_put (kind_of value) (Some value) first.cell.records refl) ∙ is.says

  now : AreTwo space cells new a b chain own
  now = record {
    file = record {
      allocated = allocated;
      file = file_beside old new b a chain leaves out two.file.file;
      on_tables = two.file.on_tables;
      held = two.file.held;
      once = two.file.once;
    };
    reader = record {
      allocated = allocated;
      file = (first_at, stands_now);
      on_tables = two.reader.on_tables;
      held = λ p home there. two.reader.held p home (sym (same p) ∙ there);
      once = λ p q home x y. two.reader.once p q home (sym (same p) ∙ x) (sym (same q) ∙ y);
    };
    apart = two.apart;
    not_own = λ p q home x y. two.not_own p q home x (sym (same q) ∙ y);
    kinds = kinds_replaced (kind_of value) (Some value) first.cell.records two.kinds (ap is_first_kind is.of_kind);
  }

  -- what is left to be done is said as before
  own_says : IsSome (first_record 6 (first ∷ rest)) → IsSome (first_record 6 own)
  own_says says = ap is_some (find_other (kind_of value) 6 (Some value) first.cell.records (λ same. omega (arith, same, is.of_kind)) refl) ∙ says

  pub now_pair : source_of chain ≡ None → IsSome (first_record 6 chain) → IsSome (first_record 6 (first ∷ rest)) → (fs : Files) × IsPair space cells new a b (listing [] []) fs
  now_pair alone says reader_says = (_, pair_is space cells new a b chain own now frozen alone says (own_says reader_says) reads)

-- room for the record
pub pair_room : (space : Spaces) (cells : Cells) (pages : Pages) (a b : CellAt) (chain own : List PlacedCell) → AreTwo space cells pages a b chain own → (frozen : ℕ) (value : Record) → IsCloneOf a frozen value → HasRoom pages b (kind_of value) (Some value)
pair_room space cells pages a b chain [] two frozen value is = absurd two.reader.file
pair_room space cells pages a b chain (first ∷ rest) two frozen value is =
    first_room pages b first.cell value (subst (λ (q : CellAt). StandsAt pages q first.cell) two.reader.file.0 two.reader.file.1.links.stands) two.kinds (ap is_first_kind is.of_kind) is.allowed

pub pair_well : (space : Spaces) (cells : Cells) (old new : Pages) (a b : CellAt) (chain own : List PlacedCell) → AreTwo space cells old a b chain own → (frozen : ℕ) (value : Record) → IsCloneOf a frozen value
    → ((cell : Cell) → StandsAt old b cell → StandsAt new b (with_record (kind_of value) (Some value) cell)) → LeavesOthers (is_at b) old new → KeepsWellFormed old new → KeepsHeaders old new → source_of chain ≡ None → IsSome (first_record 6 chain) → IsSome (first_record 6 own)
    → (list : Listing) → list.entries ≡ [] → list.tag_pages ≡ [] → (fs : Files) × IsPair space cells new a b list fs
pair_well space cells old new a b chain [] two frozen value is stands leaves good headers alone says own_says list no_entry no_page = absurd two.reader.file
pair_well space cells old new a b chain (first ∷ rest) two frozen value is stands leaves good headers alone says own_says list no_entry no_page =
    let here = stands first.cell (subst (λ (q : CellAt). StandsAt old q first.cell) two.reader.file.0 two.reader.file.1.links.stands) in
    let pair = now_pair space cells old new a b chain first rest two frozen value is here leaves good headers alone says own_says in
    (pair.0, subst (λ (l : Listing). IsPair space cells new a b l pair.0) (λ i. listing (sym no_entry i) (sym no_page i)) pair.1)

-- ---- one of the two, or both, on the list

pub pair_listed : (space : Spaces) (cells : Cells) (pages : Pages) (a b at : CellAt) (clone : Option CellAt) (before list : Listing) (files : Files) → IsPair space cells pages a b before files → IsEntry files (record { at = at; clone = clone })
    → Adds at clone before.entries list.entries → list.tag_pages ≡ before.tag_pages → IsPair space cells pages a b list files
pair_listed space cells pages a b at clone before list files pair entry adds same =
    let well = entry_listed (now_of before files space cells pages) at clone list pair.well entry adds same in
    record { well = record { together = well.together; listed = well.listed }; first = pair.first; second = pair.second }
