-- The chain once a cell was written again, or left out.
use Rattle.std.proofs.Common.{◌≡◌, ◌∙◌, ℕ, zero, suc, ◌<◌, ◌≤◌, ◌||◌, Bool, true, false, cond, nat_lt, List, [], ◌∷◌, ◌++◌, length, map, Option, Some, None, IfSome, Contains, refl, sym, ap, subst, arith, append_assoc, length-append, ⊎_elim, ◌⊎◌, inl, inr}
use Rattle.std.proofs.lemmas.List.Elements.{Contains-append_cases, Contains-append_left, Contains-append_right}
use Rattle.fileset_files.specs.domain_base.declared.place.CellAt.{CellAt}
use Rattle.fileset_files.specs.page_store.Pages.{Pages}
use Rattle.fileset_files.specs.cell_records.declared.record.Record.{Record}
use Rattle.fileset_files.specs.cell_records.Fields.{number_at}
use Rattle.fileset_files.specs.cell_records.Records.{kind_of}
use Rattle.fileset_files.specs.metadata_cells.Cell.{AreRecords, Cell, IsAddress, spellings}
use Rattle.fileset_files.specs.metadata_cells.CellPage.{IsUsedAt}
use Rattle.fileset_files.specs.metadata_cells.Chain.{AreDistinct, LeavesOthers, PlacedCell, StandsAt, is_at, places, records_of}
use Rattle.fileset_files.proofs.OfMetadataCells.Frames.{stands_stays}
use Rattle.fileset_files.specs.extent_maps.declared.run.PagePlace.{PagePlace}
use Rattle.fileset_files.specs.extent_maps.declared.run.PagePlace.TheVariants.{Absent}
use Rattle.fileset_files.specs.extent_records.Rows.{AreOneMap}
use Rattle.fileset_files.specs.extent_records.Writing.{places_in}
use Rattle.fileset_files.specs.free_cells.Cells.{Cells}
use Rattle.fileset_files.specs.file_chains.Changes.{with_record}
use Rattle.fileset_files.specs.file_chains.FileChanges.{KeepKinds, map_kinds}
use Rattle.fileset_files.specs.file_chains.Files.{HasMap, IsFile, places_of}
use Rattle.fileset_files.proofs.OfFileChains.Added.{used_of}
use Rattle.fileset_files.proofs.OfFileChains.ChainChanges.{at_apart, in_first, in_later, inside_places, kinds_on, kinds_same, stand_file}
use Rattle.fileset_files.proofs.OfFileChains.OneRecord.{has_after, replaced_fits}
use Rattle.fileset_files.proofs.OfFileChains.Replaced.{records_replaced}
use Rattle.fileset_files.proofs.OfFileChains.Walks.{distinct_file}
use Rattle.file_release.specs.declared.edits.ChainEdit.{ChainEdit}
use Rattle.file_release.specs.Reading.{HasPageFrom}
use Rattle.file_release.specs.Releases.{ChangesOne, FreesOne, LosesPage, Progresses}
use Rattle.file_release.specs.Steps.{AllStand, EditsCell, IsCut, IsFreed, Rewrites, Unlinks, WritesEdit, edited, is_freed, went}
use Rattle.file_release.proofs.Chains.{Stays, all_back, all_front, fresh_front, fresh_rest, in_front, in_less, in_middle, in_more, places_same, rewritten, unlinked}
use Rattle.file_release.proofs.Cuts.{Cuts, cuts_rewritten, cuts_unlinked}
use Rattle.file_release.proofs.Once.{file_map}

-- ---- a cell that may be written

pub record IsWritable (cell : Cell) : Type 0 where
  pub next : IfSome cell.head.next (λ at. at.cell < 28)
  pub good : AreRecords cell.records
  pub fits : length (spellings cell.records) ≤ 272

next_small : (vol cell page : ℕ) (o : Option CellAt) → IsAddress vol cell page o → IfSome o (λ at. at.cell < 28)
next_small vol cell page None is = tt
next_small vol cell page (Some at) is = omega (arith, is.0.2, ap (λ (a : CellAt). a.cell) is.1)

pub writable : (pages : Pages) (at : CellAt) (cell : Cell) → StandsAt pages at cell → IsWritable cell
writable pages at cell stands = record { next = next_small (number_at 1 2 stands.bytes) (number_at 1 3 stands.bytes) (number_at 4 4 stands.bytes) cell.head.next stands.is.head.next; good = stands.is.well_formed; fits = stands.is.head.fits }

pub writable_record : (pages : Pages) (at : CellAt) (cell : Cell) (value after : Record) (from : ℕ) → StandsAt pages at cell → HasMap cell value → IsCut from value after → IsWritable (with_record (kind_of value) (Some after) cell)
writable_record pages at cell value after from stands has cut = record {
  next = (writable pages at cell stands).next;
  good = records_replaced (kind_of value) (Some after) cell.records stands.is.well_formed cut.is_map.allowed cut.same_kind;
  fits = omega (arith, replaced_fits value after cut.is_map cut.same_kind cell.records has.only has.is_map.allowed, stands.is.head.fits);
}

-- ---- cells apart from those that are changed

pub stand_apart : (old new : Pages) (changed : CellAt → Bool) → LeavesOthers changed old new → (cs : List PlacedCell) → ((at : CellAt) → Contains (places cs) at → changed at ≡ false) → AllStand old cs → AllStand new cs
stand_apart old new changed leaves [] apart stand = tt
stand_apart old new changed leaves (c ∷ cs) apart stand = (
  stands_stays old new changed leaves c.at c.cell (apart c.at (in_first c.at c cs refl)) stand.0,
  stand_apart old new changed leaves cs (λ at inside. apart at (in_later at c cs inside)) stand.1,
)

in_split : (xs ys : List PlacedCell) (at : CellAt) → Contains (places (xs ++ ys)) at → Contains (places xs) at ⊎ Contains (places ys) at
in_split [] ys at inside = inr inside
in_split (x ∷ xs) ys at (zero, within, is) = inl (in_first at x xs is)
in_split (x ∷ xs) ys at (suc k, within, is) = ⊎_elim (λ front. inl (in_later at x xs front)) (λ back. inr back) (in_split xs ys at (k, omega (arith, within), is))

-- a row of cells, one of which is new
one_changed : (xs : List PlacedCell) (d : PlacedCell) (ys chain : List PlacedCell) → ((c : PlacedCell) → Contains xs c → Contains chain c) → ((c : PlacedCell) → Contains ys c → Contains chain c) → ChangesOne chain (xs ++ d ∷ ys)
one_changed xs d ys chain front back = record {
  at = d.at;
  others = λ c inside other. ⊎_elim (λ first. front c first) (λ second. by_place c other second) (Contains-append_cases xs (d ∷ ys) c inside);
}
  where
    by_place : (c : PlacedCell) → ¬ c.at ≡ d.at → Contains (d ∷ ys) c → Contains chain c
    by_place c other (zero, within, is) = absurd (other (ap (λ (x : PlacedCell). x.at) (sym is)))
    by_place c other (suc k, within, is) = back c (k, omega (arith, within), is)

-- a row of cells, one of which says where pages stand in a record of the kind that it had
kinds_row : (xs : List PlacedCell) (c d : PlacedCell) (ys : List PlacedCell) → d.at ≡ c.at → map_kinds d.cell.records ≡ map_kinds c.cell.records → AreDistinct (xs ++ c ∷ ys) → KeepKinds (xs ++ c ∷ ys) (xs ++ d ∷ ys)
kinds_row [] c d ys at same distinct = kinds_on c d ys ys at same distinct.0 distinct.0 (kinds_same ys distinct.1)
kinds_row (x ∷ xs) c d ys at same distinct =
    kinds_on x x (xs ++ c ∷ ys) (xs ++ d ∷ ys) refl refl distinct.0 (λ inside. distinct.0 (subst (λ (ps : List CellAt). Contains ps x.at) (places_same xs d c ys at) inside))
    (kinds_row xs c d ys at same distinct.1)

-- and the one after it is left out
kinds_less : (xs : List PlacedCell) (b d c : PlacedCell) (ys : List PlacedCell) → d.at ≡ b.at → map_kinds d.cell.records ≡ map_kinds b.cell.records → AreDistinct (xs ++ b ∷ c ∷ ys) → KeepKinds (xs ++ b ∷ c ∷ ys) (xs ++ d ∷ ys)
kinds_less [] b d c ys at same distinct =
    kinds_on b d (c ∷ ys) ys at same distinct.0 (λ inside. distinct.0 (in_later b.at c ys inside)) (λ was now in_was in_now here. by_place was now in_was in_now here)
  where
    by_place : (was now : PlacedCell) → Contains (c ∷ ys) was → Contains ys now → now.at ≡ was.at → map_kinds now.cell.records ≡ map_kinds was.cell.records
    by_place was now (zero, within, is) in_now here =
        absurd (distinct.1.0 (subst (Contains (places ys)) (here ∙ ap (λ (x : PlacedCell). x.at) (sym is)) (inside_places ys now in_now)))
    by_place was now (suc k, within, is) in_now here = kinds_same ys distinct.1.1 was now (k, omega (arith, within), is) in_now here
kinds_less (x ∷ xs) b d c ys at same distinct =
    kinds_on x x (xs ++ b ∷ c ∷ ys) (xs ++ d ∷ ys) refl refl distinct.0
    (λ inside. distinct.0 (among xs x.at (subst (λ (ps : List CellAt). Contains ps x.at) (places_same xs d b ys at) inside)))
    (kinds_less xs b d c ys at same distinct.1)
  where
    among : (xs : List PlacedCell) (a : CellAt) → Contains (places (xs ++ b ∷ ys)) a → Contains (places (xs ++ b ∷ c ∷ ys)) a
    among [] a (zero, within, is) = in_first a b (c ∷ ys) is
    among [] a (suc k, within, is) = in_later a b (c ∷ ys) (in_later a c ys (k, omega (arith, within), is))
    among (x ∷ xs) a (zero, within, is) = in_first a x (xs ++ b ∷ c ∷ ys) is
    among (x ∷ xs) a (suc k, within, is) = in_later a x (xs ++ b ∷ c ∷ ys) (among xs a (k, omega (arith, within), is))

behind : (d : PlacedCell) (ys : List PlacedCell) (c : PlacedCell) → Contains ys c → Contains (d ∷ ys) c
behind d ys c (k, within, is) = (suc k, omega (arith, within), is)

-- ---- before it is written

module _ (from : ℕ) (pages : Pages) (start : CellAt) (chain front rest : List PlacedCell) (c : PlacedCell) (value : Record) (edit : ChainEdit) (file : IsFile pages start chain) (all : chain ≡ front ++ c ∷ rest) (has : HasMap c.cell value) (edits : EditsCell front c value from edit) where
  all_stand : AllStand pages (front ++ c ∷ rest)
  all_stand = subst (AllStand pages) all (stand_file pages start chain file)

  c_stands : StandsAt pages c.at c.cell
  c_stands = (all_back (λ (c : PlacedCell). StandsAt pages c.at c.cell) front (c ∷ rest) all_stand).0

  distinct : AreDistinct (front ++ c ∷ rest)
  distinct = subst AreDistinct all (distinct_file pages start chain file)

  b_stands : (u : Unlinks front c edit) → StandsAt pages u.before.at u.before.cell
  b_stands u = (all_back (λ (c : PlacedCell). StandsAt pages c.at c.cell) u.earlier (u.before ∷ []) (subst (AllStand pages) u.all (all_front (λ (c : PlacedCell). StandsAt pages c.at c.cell) front (c ∷ rest) all_stand))).0

  -- the cell that is written is one of the chain, and stands
  pub record Written : Type 0 where
    pub cell : Cell
    pub stands : StandsAt pages edit.at cell
    pub inside : Contains (places chain) edit.at
    pub writes : IsWritable (edited edit)
    pub freed : IfSome edit.freed (λ freed. (is_at edit.at freed ≡ false) × IsUsedAt pages freed × Contains (places chain) freed)

  c_inside : Contains (places chain) c.at
  c_inside = subst (λ (cs : List PlacedCell). Contains (places cs) c.at) (sym all) (in_middle front c rest)

  pub written : Written
  written = ⊎_elim
      (λ r. record {
        cell = c.cell;
        stands = subst (λ (a : CellAt). StandsAt pages a c.cell) (sym r.0.place) c_stands;
        inside = subst (Contains (places chain)) (sym r.0.place) c_inside;
        writes = subst IsWritable (sym r.0.cell) (writable_record pages c.at c.cell value edits.after from c_stands has edits.cut);
        freed = subst (λ o. IfSome o (λ freed. (is_at edit.at freed ≡ false) × IsUsedAt pages freed × Contains (places chain) freed)) (sym r.0.none) tt;
      })
      (λ u.
      let in_it : Contains (places front) u.0.before.at = subst (λ (cs : List PlacedCell). Contains (places cs) u.0.before.at) (sym u.0.all) (in_middle u.0.earlier u.0.before []) in
      let apart : ¬ u.0.before.at ≡ c.at = (λ same. fresh_front front c rest distinct (subst (Contains (places front)) same in_it)) in
      let next = (writable pages c.at c.cell c_stands).next in
      let of = writable pages u.0.before.at u.0.before.cell (b_stands u.0) in
      record {
        cell = u.0.before.cell;
        stands = subst (λ (a : CellAt). StandsAt pages a u.0.before.cell) (sym u.0.place) (b_stands u.0);
        inside = subst (Contains (places chain)) (sym u.0.place) (subst (λ (cs : List PlacedCell). Contains (places cs) u.0.before.at) (sym all) (in_front front (c ∷ rest) u.0.before.at in_it));
        writes = subst IsWritable (sym u.0.cell) (record { next = next; good = of.good; fits = of.fits });
        freed = subst (λ o. IfSome o (λ freed. (is_at edit.at freed ≡ false) × IsUsedAt pages freed × Contains (places chain) freed)) (sym u.0.freed)
            (subst (λ (a : CellAt). is_at a c.at ≡ false) (sym u.0.place) (at_apart u.0.before.at c.at apart), used_of pages c.at c.cell c_stands, c_inside);
      })
      edits.how

  -- ---- and then

  module _ (new : Pages) (cells cells_now : Cells) (writes : WritesEdit edit cells cells_now pages new) where
    -- something is there to let go of
    abbrev pub HasSomething : Type 0
    HasSomething = HasPageFrom from (places_in value) ⊎ ((¬ front ≡ []) × ((page : ℕ) → places_in value page ≡ Absent))

    pub record Steps : Type 0 where
      pub after : List PlacedCell
      pub stays : Stays start new chain after
      pub within : (at : CellAt) → Contains (places after) at → Contains (places chain) at
      pub keeps : (at : CellAt) → Contains (places chain) at → ¬ edit.freed ≡ Some at → Contains (places after) at
      pub cuts : Cuts from value chain after
      pub one : ChangesOne chain after
      pub kinds : KeepKinds chain after
      pub progress : HasSomething → Progresses (went edit.freed) from chain after cells cells_now

    abbrev changed : CellAt → Bool
    changed at = is_at edit.at at || is_freed edit.freed at

    one_old : AreOneMap (records_of (front ++ c ∷ rest))
    one_old = subst (λ (cs : List PlacedCell). AreOneMap (records_of cs)) all (file_map pages start chain file)

    file_old : IsFile pages start (front ++ c ∷ rest)
    file_old = subst (IsFile pages start) all file

    -- its record is another
    module _ (r : Rewrites c value edits.after edit) (more : ¬ front ≡ [] → HasPageFrom 0 (places_in edits.after)) where
      c_now : PlacedCell
      c_now = record { at = c.at; cell = with_record (kind_of value) (Some edits.after) c.cell }

      same_changed : (at : CellAt) → ¬ c.at ≡ at → changed at ≡ false
      same_changed at apart = (λ i. is_at (r.place i) at || is_freed (r.none i) at) ∙ ap (λ (b : Bool). b || false) (at_apart c.at at apart)

      cut_now : Cuts from value (front ++ c ∷ rest) (front ++ c_now ∷ rest)
      unfolding c_now
      cut_now = cuts_rewritten from front c c_now rest value edits.after has (has_after value edits.after edits.cut.is_map edits.cut.same_kind c.cell has) edits.cut one_old

      stays_now : Stays start new (front ++ c ∷ rest) (front ++ c_now ∷ rest)
      unfolding c_now
      stays_now =
          rewritten pages new start c rest value edits.after has edits.cut.is_map edits.cut.same_kind front file_old
          (stand_apart pages new changed writes.others front (λ at inside. same_changed at (λ same. fresh_front front c rest distinct (subst (Contains (places front)) (sym same) inside))) (all_front (λ (c : PlacedCell). StandsAt pages c.at c.cell) front (c ∷ rest) all_stand))
          (subst (λ (a : CellAt). StandsAt new a c_now.cell) r.place (subst (StandsAt new edit.at) r.cell writes.stands))
          (stand_apart pages new changed writes.others rest (λ at inside. same_changed at (λ same. fresh_rest front c rest distinct (subst (Contains (places rest)) (sym same) inside))) (all_back (λ (c : PlacedCell). StandsAt pages c.at c.cell) front (c ∷ rest) all_stand).1)
          cut_now.one_map

      same_now : places (front ++ c_now ∷ rest) ≡ places chain
      unfolding c_now
      same_now = places_same front c_now c rest refl ∙ ap places (sym all)

      kinds_now : KeepKinds (front ++ c ∷ rest) (front ++ c_now ∷ rest)
      unfolding c_now
      kinds_now = kinds_row front c c_now rest refl
          (ap (map kind_of) (has_after value edits.after edits.cut.is_map edits.cut.same_kind c.cell has).only ∙ ap (λ (k : ℕ). k ∷ []) edits.cut.same_kind ∙ sym (ap (map kind_of) has.only))
          distinct

      loses : HasSomething → LosesPage from chain (front ++ c_now ∷ rest) cells cells_now
      loses how = ⊎_elim
          (λ page. record {
            page = page.page;
            begins = page.begins;
            was = λ none. page.there (sym (cut_now.shown page.page page.there) ∙ ap (λ (cs : List PlacedCell). places_of cs page.page) (sym all) ∙ none);
            gone = cut_now.gone page.page page.begins page.there;
            same_places = same_now;
            same_cells = subst (λ o. IsFreed o cells cells_now) r.none writes.freed;
          })
          (λ empty. let left = more empty.0 in absurd (left.there (edits.cut.at_page left.page ∙ by_less (nat_lt left.page from) (empty.1 left.page))))
          how
        where
          by_less : (b : Bool) {x : PagePlace} → x ≡ Absent → cond b x Absent ≡ Absent
          by_less true none = none
          by_less false none = refl

      steps_rewritten : Steps
      steps_rewritten = record {
        after = front ++ c_now ∷ rest;
        stays = subst (λ (cs : List PlacedCell). Stays start new cs (front ++ c_now ∷ rest)) (sym all) stays_now;
        within = λ at inside. subst (λ (ps : List CellAt). Contains ps at) same_now inside;
        keeps = λ at inside other. subst (λ (ps : List CellAt). Contains ps at) (sym same_now) inside;
        cuts = subst (λ (cs : List PlacedCell). Cuts from value cs (front ++ c_now ∷ rest)) (sym all) cut_now;
        kinds = subst (λ (cs : List PlacedCell). KeepKinds cs (front ++ c_now ∷ rest)) (sym all) kinds_now;
        one = subst (λ (cs : List PlacedCell). ChangesOne cs (front ++ c_now ∷ rest)) (sym all)
            (one_changed front c_now rest (front ++ c ∷ rest) (λ x inside. Contains-append_left front (c ∷ rest) x inside) (λ x inside. Contains-append_right front (c ∷ rest) x (behind c rest x inside)));
        progress = λ how. subst (λ o. Progresses (went o) from chain (front ++ c_now ∷ rest) cells cells_now) (sym r.none) (loses how);
      }

    -- it is left out
    module _ (u : Unlinks front c edit) (none : (page : ℕ) → places_in edits.after page ≡ Absent) where
      b_now : PlacedCell
      b_now = record { at = u.before.at; cell = record u.before.cell { head = record u.before.cell.head { next = c.cell.head.next } } }

      in_row : front ++ c ∷ rest ≡ u.earlier ++ u.before ∷ c ∷ rest
      in_row = ap (λ (f : List PlacedCell). f ++ c ∷ rest) u.all ∙ append_assoc u.earlier (u.before ∷ []) (c ∷ rest)

      distinct_row : AreDistinct (u.earlier ++ u.before ∷ c ∷ rest)
      distinct_row = subst AreDistinct in_row distinct

      both_apart : (at : CellAt) → ¬ u.before.at ≡ at → ¬ c.at ≡ at → changed at ≡ false
      both_apart at first second = (λ i. is_at (u.place i) at || is_freed (u.freed i) at) ∙ ap (λ (b : Bool). b || is_at c.at at) (at_apart u.before.at at first) ∙ at_apart c.at at second

      all_row : AllStand pages (u.earlier ++ u.before ∷ c ∷ rest)
      all_row = subst (AllStand pages) in_row all_stand

      cut_out : Cuts from value (u.earlier ++ u.before ∷ c ∷ rest) (u.earlier ++ b_now ∷ rest)
      unfolding b_now
      cut_out = cuts_unlinked from u.earlier u.before b_now c rest value has refl (λ p. sym (edits.cut.at_page p) ∙ none p) (subst (λ (cs : List PlacedCell). AreOneMap (records_of cs)) in_row one_old)

      stays_out : Stays start new (u.earlier ++ u.before ∷ c ∷ rest) (u.earlier ++ b_now ∷ rest)
      unfolding b_now
      stays_out =
          unlinked pages new start u.before c rest u.earlier (subst (IsFile pages start) in_row file_old)
          (stand_apart pages new changed writes.others u.earlier
          (λ at inside. both_apart at (λ same. fresh_front u.earlier u.before (c ∷ rest) distinct_row (subst (Contains (places u.earlier)) (sym same) inside))
          (λ same. fresh_front front c rest distinct (subst (Contains (places front)) (sym same) (subst (λ (cs : List PlacedCell). Contains (places cs) at) (sym u.all) (in_front u.earlier (u.before ∷ []) at inside)))))
          (all_front (λ (c : PlacedCell). StandsAt pages c.at c.cell) u.earlier (u.before ∷ c ∷ rest) all_row))
          (subst (λ (a : CellAt). StandsAt new a b_now.cell) u.place (subst (StandsAt new edit.at) u.cell writes.stands))
          (stand_apart pages new changed writes.others rest
          (λ at inside. both_apart at (λ same. fresh_rest u.earlier u.before (c ∷ rest) distinct_row (in_later u.before.at c rest (subst (Contains (places rest)) (sym same) inside)))
          (λ same. fresh_rest front c rest distinct (subst (Contains (places rest)) (sym same) inside)))
          (all_back (λ (c : PlacedCell). StandsAt pages c.at c.cell) front (c ∷ rest) all_stand).1)
          cut_out.one_map

      kinds_out : KeepKinds (u.earlier ++ u.before ∷ c ∷ rest) (u.earlier ++ b_now ∷ rest)
      unfolding b_now
      kinds_out = kinds_less u.earlier u.before b_now c rest refl refl distinct_row

      -- its cells are the others
      places_out : places (u.earlier ++ b_now ∷ rest) ≡ places (front ++ rest)
      unfolding b_now
      places_out = places_same u.earlier b_now u.before rest refl ∙ ap places (sym (append_assoc u.earlier (u.before ∷ []) rest) ∙ ap (λ (f : List PlacedCell). f ++ rest) (sym u.all))

      frees_one : FreesOne chain (u.earlier ++ b_now ∷ rest) cells cells_now
      frees_one = record {
        at = c.at;
        was = c_inside;
        gone = λ inside. ⊎_elim (λ front_has. fresh_front front c rest distinct front_has) (λ rest_has. fresh_rest front c rest distinct rest_has) (in_split front rest c.at (subst (λ (ps : List CellAt). Contains ps c.at) places_out inside));
        frees = subst (λ o. IsFreed o cells cells_now) u.freed writes.freed;
        fewer = omega (arith, length-append u.earlier (b_now ∷ rest), length-append u.earlier (u.before ∷ c ∷ rest), ap length (all ∙ in_row));
      }

      steps_unlinked : Steps
      steps_unlinked = record {
        after = u.earlier ++ b_now ∷ rest;
        stays = subst (λ (cs : List PlacedCell). Stays start new cs (u.earlier ++ b_now ∷ rest)) (sym (all ∙ in_row)) stays_out;
        within = λ at inside. subst (λ (cs : List PlacedCell). Contains (places cs) at) (sym all) (in_more front c rest at (subst (λ (ps : List CellAt). Contains ps at) places_out inside));
        keeps = λ at inside other.
            subst (λ (ps : List CellAt). Contains ps at) (sym places_out)
            (in_less front c rest at (subst (λ (cs : List PlacedCell). Contains (places cs) at) all inside) (λ same. other (u.freed ∙ ap Some same)));
        cuts = subst (λ (cs : List PlacedCell). Cuts from value cs (u.earlier ++ b_now ∷ rest)) (sym (all ∙ in_row)) cut_out;
        kinds = subst (λ (cs : List PlacedCell). KeepKinds cs (u.earlier ++ b_now ∷ rest)) (sym (all ∙ in_row)) kinds_out;
        one = subst (λ (cs : List PlacedCell). ChangesOne cs (u.earlier ++ b_now ∷ rest)) (sym (all ∙ in_row))
            (one_changed u.earlier b_now rest (u.earlier ++ u.before ∷ c ∷ rest) (λ x inside. Contains-append_left u.earlier (u.before ∷ c ∷ rest) x inside)
            (λ x inside. Contains-append_right u.earlier (u.before ∷ c ∷ rest) x (behind u.before (c ∷ rest) x (behind c rest x inside))));
        progress = λ _. subst (λ o. Progresses (went o) from chain (u.earlier ++ b_now ∷ rest) cells cells_now) (sym u.freed) frees_one;
      }

    pub steps : Steps
    steps = ⊎_elim (λ r. steps_rewritten r.0 r.1) (λ u. steps_unlinked u.0 u.1) edits.how
