-- Where no rule is broken, tables stand, directories say the ones in which they stand, and bits say what is used.
use Rattle.std.proofs.Common.{◌≡◌, ◌∙◌, ◌⊎◌, inl, inr, ℕ, ◌+◌, ◌*◌, ◌/◌, ◌%◌, ◌<◌, ◌≤◌, ◌↔◌, Bool, true, false, List, [], ◌∷◌, Option, Some, None, IsSome, IsSomeAnd, Contains, refl, sym, ap, subst, arith, ⊎_elim}
use Rattle.std.proofs.lemmas.Bool.{cases_Bool, true≢false}
use Rattle.std.specs.FinSet.{contains}
use Rattle.std.specs.Option.{option_map_or}
use Rattle.domain_memory.specs.domain_base.Version.{bitmap_pages}
use Rattle.domain_memory.specs.domain_base.declared.place.CellAt.{CellAt}
use Rattle.domain_memory.specs.domain_base.declared.place.Home.{Home}
use Rattle.domain_memory.specs.domain_base.declared.version.Version.{Version}
use Rattle.domain_memory.specs.domain_base.declared.version.Version.TheVariants.{Four, Three}
use Rattle.domain_memory.specs.cell_records.declared.record.Record.{Record}
use Rattle.domain_memory.specs.cell_records.declared.record.Record.TheVariants as written
use Rattle.domain_memory.specs.free_space.Bits.{is_set}
use Rattle.domain_memory.specs.log_ring.Homes.{IsMember, member_of}
use Rattle.domain_memory.specs.log_recovery.Range.{IsLogInside}
use Rattle.domain_memory.specs.metadata_cells.Cell.{Cell}
use Rattle.domain_memory.specs.metadata_cells.CellPage.{home_of}
use Rattle.domain_memory.specs.metadata_cells.Chain.{StandsAt}
use Rattle.domain_memory.specs.metadata_cells.declared.head.CellKind.{CellKind}
use Rattle.domain_memory.specs.metadata_cells.declared.head.CellKind.TheVariants as kinds
use Rattle.domain_memory.proofs.OfMetadataCells.CellKinds.{used_not_zeros}
use Rattle.domain_memory.proofs.OfMetadataCells.Unique.{one_stands}
use Rattle.domain_memory.specs.free_space.Spaces.{volume_of}
use Rattle.domain_memory.specs.free_space.VolumeSpace.{VolumeSpace, is_among, is_waiting}
use Rattle.domain_memory.specs.domain_standing.Marks.{HasBitmaps, IsMarked, IsMarkedAt}
use Rattle.domain_memory.specs.domain_standing.Space.{AreCellsOf, AreFew}
use Rattle.domain_memory.specs.free_cells.Marks.{bitmap_home, is_marked}
use Rattle.domain_memory.specs.domain_layout.CellRules.{IsPlace, SaysVolume}
use Rattle.domain_memory.specs.domain_layout.DirectoryRules.{IsWrongFile}
use Rattle.domain_memory.specs.domain_layout.Faults.{HasNoFault, HasNoTablesFault}
use Rattle.domain_memory.specs.domain_layout.Layout.{IsLayout}
use Rattle.domain_memory.specs.domain_layout.Owners.{IsOwned, frame_of}
use Rattle.domain_memory.specs.domain_layout.Reached.{Frame, IsWithin, first_cells}
use Rattle.domain_memory.proofs.OfDomainLayout.NoTables.{none_of_tables}
use Rattle.domain_memory.proofs.OfDomainLayout.Named.{no_cell}
use Rattle.domain_memory.proofs.OfDomainLayout.OwnedOnce.{cell_place, no_files}
use Rattle.domain_memory.proofs.OfDomainLayout.Reached.{same_number}
use Rattle.domain_memory.proofs.OfFilesetsReading.OnTables.{contains_at}
use Rattle.domain_memory.proofs.OfFilesetShapes.ShapeFacts.{has_first}
use Rattle.domain_memory.specs.domain_standing.Domain.{DomainNow, layout_of}
use Rattle.domain_memory.specs.domain_standing.Standing.{HaveParents, IsMarkedBut}
use Rattle.domain_memory.specs.domain_standing.Tables.{HasVolumeCell, StandTables, first_place}
use Rattle.no_faults.proofs.OnTables.{HasPlaceOf, used_or_zeros, used_there}
use Rattle.no_faults.proofs.Searched.{Decides}

-- ---- what the first cell of a volume says

kind_or_not : (kind : CellKind) → Decides (kind ≡ kinds.Volume)
kind_or_not kinds.Primary = inr (λ same. absurd (cc))
kind_or_not kinds.Chain = inr (λ same. absurd (cc))
kind_or_not kinds.Quota = inr (λ same. absurd (cc))
kind_or_not kinds.Volume = inl refl

none_or_not : (o : Option CellAt) → Decides (o ≡ None)
none_or_not None = inl refl
none_or_not (Some at) = inr (λ same. absurd (cc))

abbrev is_volume : List Record → Bool
is_volume (written.Volume vol pages bits ∷ []) = true
is_volume _ = false

abbrev is_one : List Record → Bool
is_one [] = false
is_one (r ∷ []) = true
is_one (r ∷ s ∷ rs) = false

abbrev volume_in : List Record → ℕ
volume_in (written.Volume vol pages bits ∷ []) = vol
volume_in _ = 0

abbrev pages_in : List Record → ℕ
pages_in (written.Volume vol pages bits ∷ []) = pages
pages_in _ = 0

abbrev bits_in : List Record → ℕ
bits_in (written.Volume vol pages bits ∷ []) = bits
bits_in _ = 0

records_or_not : (vol pages bits : ℕ) (rs : List Record) → Decides (rs ≡ written.Volume vol pages bits ∷ [])
records_or_not vol pages bits (written.Volume v p b ∷ []) =
    ⊎_elim (λ one. ⊎_elim (λ two. ⊎_elim (λ three. inl (λ i. written.Volume (one i) (two i) (three i) ∷ []))
    (λ other. inr (λ same. other (ap bits_in same))) (same_number b bits))
    (λ other. inr (λ same. other (ap pages_in same))) (same_number p pages))
    (λ other. inr (λ same. other (ap volume_in same))) (same_number v vol)
records_or_not vol pages bits [] = inr (λ same. true≢false (sym (ap is_volume same)))
records_or_not vol pages bits (r ∷ s ∷ rs) = inr (λ same. true≢false (sym (ap is_one same)))
records_or_not vol pages bits (r ∷ []) = inr (λ same. true≢false (sym (ap is_volume same)))

says_or_not : (frame : Frame) (vol : ℕ) (cell : Cell) → Decides (SaysVolume frame vol cell)
says_or_not frame vol cell =
    ⊎_elim (λ kind. ⊎_elim (λ alone. ⊎_elim (λ says. inl (record { kind = kind; alone = alone; says = says }))
    (λ other. inr (λ (is : SaysVolume frame vol cell). other is.says)) (records_or_not vol (member_of frame.anchor vol).pages (bitmap_pages frame.version (member_of frame.anchor vol).pages) cell.records))
    (λ other. inr (λ (is : SaysVolume frame vol cell). other is.alone)) (none_or_not cell.head.next))
    (λ other. inr (λ (is : SaysVolume frame vol cell). other is.kind)) (kind_or_not cell.head.kind)

module _ (d : DomainNow) (laid : IsLayout d.pages (layout_of d)) (none : HasNoFault d.pages (frame_of (layout_of d))) where
  tables : HasNoTablesFault d.pages (frame_of (layout_of d))
  tables = none_of_tables d.pages (frame_of (layout_of d)) none

  -- ---- tables

  module _ (vol : ℕ) (member : IsMember d.frame.anchor vol) where
    first : CellAt
    first = first_place d.frame vol

    on_table : Contains ((layout_of d).cells vol) (first_cells d.frame vol)
    on_table = contains_at ((layout_of d).cells vol) 0 (first_cells d.frame vol) (laid.cells vol member).begins

    has_place : HasPlaceOf d.pages (layout_of d) laid (first_place d.frame vol)
    has_place = record { member = member; table = on_table; within = omega arith }

    place : IsPlace d.pages (frame_of (layout_of d)) (first_place d.frame vol)
    place =
        let of = cell_place d.pages (layout_of d) laid tables (home_of (first_place d.frame vol)) member on_table in
        record { place = of.place; page = of.page; is = of.is; within = omega arith }

    wrong : ¬ ((cell : Cell) → StandsAt d.pages (first_place d.frame vol) cell → ¬ SaysVolume d.frame vol cell)
    wrong silent = no_cell d.pages (layout_of d) laid tables (first_place d.frame vol) (inl (inl (place, (refl, refl), silent)))

    volume_cell : HasVolumeCell d vol
    volume_cell =
        ⊎_elim (λ used. of_cell used.0 used.1.stands)
        (λ zeros. absurd (wrong (λ cell stands says. used_not_zeros d.pages (first_place d.frame vol) (used_there d.pages (first_place d.frame vol) cell stands) zeros)))
        (used_or_zeros d.pages (layout_of d) laid (first_place d.frame vol) has_place)
      where
        of_cell : (cell : Cell) → StandsAt d.pages (first_place d.frame vol) cell → HasVolumeCell d vol
        of_cell cell stands =
            ⊎_elim (λ says. record { cell = cell; stands = stands; says = says })
            (λ silent. absurd (wrong (λ other also says. silent (subst (SaysVolume d.frame vol) (one_stands d.pages (first_place d.frame vol) other cell also stands) says))))
            (says_or_not d.frame vol cell)

    some_pages : 0 < (member_of d.frame.anchor vol).pages
    some_pages = let may = place.is.read.may.0.1 in omega (arith, may)

  pub tables_stand : IsLogInside d.frame.version d.frame.anchor → AreFew (layout_of d) → ((home : Home) → d.frame.anchor.table ≡ Some home → IsWithin d.frame home)
      → AreCellsOf d.pages (layout_of d) d.cells → StandTables d
  tables_stand log few within cells = record {
    laid = laid;
    log = log;
    few = few;
    may = λ home at. (within home at, λ reserved. tables.table home (record { at = at; wrong = inl reserved }));
    volumes = volume_cell;
    cells = cells;
  }

  -- ---- parents

  pub parents_are_right : HaveParents d
  parents_are_right number tag cells seen has is wrong_parent =
      let home = has_first d.pages d.table number tag cells seen has in
      no_files d.pages (layout_of d) laid none (record { code = 9; home = home.0 }) (
        layout_of d,
        refl,
        laid,
        inr (inr (inl (
          refl,
          inr (inr (inr (inr (record {
            number = number;
            tag = tag;
            cells = cells;
            seen = seen;
            has = has;
            at = home.1;
            wrong = subst (IsWrongFile d.pages (frame_of (layout_of d)) d.table number tag cells seen) (sym is) (inr (inr (inl wrong_parent)));
          })))),
        ))),
      )

  -- ---- bits

  module _ (few : AreFew (layout_of d)) (there : HasBitmaps d.pages d.frame) (marked : IsMarked d.pages d.frame d.space) where
    held_by : (vol page : ℕ) → page < (member_of d.frame.anchor vol).pages → (o : Option VolumeSpace) → IsMarkedAt d.pages d.frame vol o → IsMember d.frame.anchor vol
        → (is_marked d.pages vol page ≡ true) ↔ IsSomeAnd o (λ v. (contains v.used page ≡ true) × (is_waiting v page ≡ false))
    held_by vol page within None away member = absurd (away member)
    held_by vol page within (Some v) of member =
        let used = of.1.used page (subst (λ n. page < n) (sym of.1.count) within) in (
          (λ is. (used ∙ is, ap (λ waiting. is_among waiting page) of.1.settled)),
          (λ held. sym used ∙ held.0),
        )

    -- a page of the bitmap has the bit of a page of the volume
    bitmap_there : (vol page : ℕ) → IsMember d.frame.anchor vol → page < 65536 * bitmap_pages d.frame.version (member_of d.frame.anchor vol).pages → IsSome (d.pages (bitmap_home vol page))
    bitmap_there vol page member low = by_version d.frame.version (some_pages vol member) low
      where
        same_home : (other : ℕ) → other / 65536 ≡ page / 65536 → other < (member_of d.frame.anchor vol).pages → IsSome (d.pages (bitmap_home vol page))
        same_home other same within = subst (λ k. IsSome (d.pages (record { vol = vol; page = 2 + k }))) same (there vol other member within)

        by_version : (version : Version) → 0 < (member_of d.frame.anchor vol).pages → page < 65536 * bitmap_pages version (member_of d.frame.anchor vol).pages → IsSome (d.pages (bitmap_home vol page))
        by_version Three some below = same_home 0 (omega (arith, below)) some
        by_version Four some below = same_home (65536 * (page / 65536)) (omega arith) (omega (arith, below, some))

    behind : (vol page : ℕ) → IsMember d.frame.anchor vol → (member_of d.frame.anchor vol).pages ≤ page → page < 65536 * bitmap_pages d.frame.version (member_of d.frame.anchor vol).pages
        → is_marked d.pages vol page ≡ true
    behind vol page member past low = by_page (d.pages (bitmap_home vol page)) refl (bitmap_there vol page member low)
      where
        right : (bytes : List ℕ) → d.pages (bitmap_home vol page) ≡ Some bytes
            → ¬ ¬ ((is_set bytes (page % 65536) ≡ true) ↔ (IsOwned d.pages (layout_of d) (record { vol = vol; page = 65536 * (page / 65536) + page % 65536 })
            ⊎ ((member_of d.frame.anchor vol).pages ≤ 65536 * (page / 65536) + page % 65536)))
        right bytes at not_so = no_files d.pages (layout_of d) laid none (record { code = 8; home = bitmap_home vol page }) (
          layout_of d,
          refl,
          laid,
          inr (inl (
            refl,
            record {
              member = member;
              number = page / 65536;
              within = omega (arith, low);
              at = refl;
              bytes = bytes;
              there = at;
              bit = page % 65536;
              some = omega arith;
              wrong = not_so;
            },
          )),
        )

        by_page : (o : Option (List ℕ)) → d.pages (bitmap_home vol page) ≡ o → IsSome o → option_map_or (λ bytes. is_set bytes (page % 65536)) o false ≡ true
        by_page None at some = absurd (true≢false (sym some))
        by_page (Some bytes) at some =
            ⊎_elim (λ set. set) (λ clear. absurd (right bytes at (λ both. true≢false (sym (both.1 (inr (omega (arith, past)))) ∙ clear)))) (cases_Bool (is_set bytes (page % 65536)))

    pub bits_are_right : IsMarkedBut d
    bits_are_right = record {
      there = there;
      bits = λ vol page member within. held_by vol page within (volume_of d.space vol) (marked vol member.first) member;
      behind = behind;
    }
