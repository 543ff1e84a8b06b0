-- What letting go of things on a list asks, and what it leaves where memory was short.
use Rattle.std.proofs.Common.{MatchBool, zero, suc, ◌<◌, get_or, is_some, arith, Option, Some, IsSome, slice_get, ◌-◌, true≢false, ⊎_elim, ◌≡◌, ◌∙◌, ℕ, Bool, true, false, List, [], ◌∷◌, None, IfSome, Contains, length, sym, ap, subst, refl}
use Rattle.std.proofs.Math.Logic.{∥∥₁_map}
use Rattle.domain_changes.specs.domain_base.declared.place.CellAt.{CellAt}
use Rattle.domain_changes.specs.domain_base.declared.place.Home.{Home}
use Rattle.domain_changes.specs.metadata_cells.Cell.{Cell}
use Rattle.domain_changes.specs.metadata_cells.Chain.{PlacedCell, StandsAt}
use Rattle.domain_changes.specs.fileset_model.Filesets.{FilesetMap}
use Rattle.domain_changes.specs.fileset_table.Table.{IsTable}
use Rattle.domain_changes.specs.free_cells.Cells.{is_closed, kept_of, taken_back}
use Rattle.domain_changes.specs.free_space.Spaces.{Spaces, kept_spaces, volume_of}
use Rattle.domain_changes.specs.release_list.declared.list.Entry.{Entry}
use Rattle.domain_changes.specs.release_list.Listing.{IsEmpty, Listing}
use Rattle.domain_changes.specs.release_list.Standing.{Files, IsFileOrQuotas}
use Rattle.domain_changes.proofs.OfReleaseList.Standings.{standing}
use Rattle.domain_changes.specs.release_list.Steps.{IsWell, LacksRoom, now_of}
use Rattle.domain_changes.proofs.OfStoredSet.Stable.{nothing}
use Rattle.domain_changes.specs.staged_pages.Store.{before_of, pages_of}
use Rattle.domain_changes.specs.domain_memory.Listing.{list_with}
use Rattle.domain_changes.specs.domain_memory.Slots.{CanGoBack, HasNumber, book_in, kept_book, kept_places, places_in, slot_in}
use Rattle.domain_changes.specs.domain_memory.Kept.{KeepsKept}
use Rattle.domain_changes.specs.domain_memory.Memory.{StandsFor, with_was}
use Rattle.domain_changes.specs.domain_memory.Staged.{IsSettled, IsStagedForSome, MayBeKept, MayGoBack, staged_in}
use Rattle.domain_changes.specs.domain_memory.declared.memory.DomainMemory.{DomainMemory}
use Rattle.domain_changes.proofs.OfDomainMemory.SettledKept.{settled_kept}
use Rattle.release_laws.proofs.Entries.{gives_none}
use Rattle.release_laws.proofs.FilesAtHand.{files_at_hand}
use Rattle.domain_changes.specs.domain_memory.Going.{HavePlain, MayLetGo, are_plain}
use Rattle.release_changes.specs.LettingGo.{StandsForAny}
use Rattle.release_changes.proofs.LetGo.{no_lack}

module _ (memory : DomainMemory) (settled : IsSettled memory) (stands : ∥ StandsForAny memory ∥₁) where
  ready : (all : FilesetMap) → StandsFor memory all → MayBeKept memory all
  ready all stood = settled_kept memory all settled stood

  list_is : (staged_in memory).list ≡ memory.list.list
  list_is = ap (λ l. list_with l memory.list.list) settled.listed

  pub asks_well : (files : Files) × IsWell (now_of memory.list.list files memory.space memory.cells (pages_of memory.pages))
  asks_well =
      let found = files_at_hand (staged_in memory) (∥∥₁_map stands (λ s. let is = (ready s.0 s.1).staged.sound in (is.files, is.indexes, is.below))) in (
        found.0,
        subst (λ (l : Listing). IsWell (now_of l found.0 memory.space memory.cells (pages_of memory.pages))) list_is found.1,
      )

  pub never_lacks : (files : Files) → LacksRoom memory.list.list files → ⊥
  never_lacks files lacks = nothing (∥∥₁_map stands (λ s.
      let is = (ready s.0 s.1).staged in
      no_lack memory.list.list files (subst (λ (l : Listing). (e : Entry) → Contains l.entries e → e.clone ≡ None) list_is (gives_none (staged_in memory) is.sound.files is.sound.indexes is.sound.below is.alone)) lacks))

  pub stands_staged : ∥ IsStagedForSome memory ∥₁
  stands_staged = ∥∥₁_map stands (λ s. (s.0, (ready s.0 s.1).staged))

-- ---- whether all may go

pub get_same : {X : Type 0} (xs : List X) (k : ℕ) (d e : X) → k < length xs → get_or xs k d ≡ get_or xs k e
get_same [] k d e within = absurd (omega (arith, within))
get_same (x ∷ xs) zero d e within = refl
get_same (x ∷ xs) (suc k) d e within = get_same xs k d e (omega (arith, within))

pub got_or : {X : Type 0} (xs : List X) (x : X) (inside : Contains xs x) → get_or xs inside.0 x ≡ x
got_or [] x inside = absurd (omega (arith, inside.1))
got_or (y ∷ ys) x (zero, within, is) = is
got_or (y ∷ ys) x (suc k, within, is) = got_or ys x (k, omega (arith, within), is)

pub none_of : (o : Option Home) → is_some o ≡ false → o ≡ None
none_of None is = refl
none_of (Some home) is = absurd (true≢false is)

pub last_none : (homes : List Home) → slice_get homes (length homes - 1) ≡ None → homes ≡ []
last_none [] none = refl
last_none (home ∷ homes) none = absurd (let same : length (home ∷ homes) - 1 ≡ length homes = omega arith in some_last home homes (ap (slice_get (home ∷ homes)) (sym same) ∙ none))
  where
    some_last : (home : Home) (homes : List Home) → slice_get (home ∷ homes) (length homes) ≡ None → ⊥
    some_last home [] none = absurd (let e : Some home ≡ None = none in absurd (cc))
    some_last home (next ∷ homes) none = some_last next homes none

module _ (memory : DomainMemory) (settled : IsSettled memory) (stands : ∥ StandsForAny memory ∥₁) where
  -- if the first cell of an entry is not plain, not all are
  pub not_plain : (entry : Entry) → Contains memory.list.list.entries entry → ((cell : Cell) → StandsAt (pages_of memory.pages) entry.at cell → are_plain cell.records ≡ false) → HavePlain memory memory.list.list.entries → ⊥
  not_plain entry inside other plain = nothing (∥∥₁_map stands (λ s. by_files (ready memory settled stands s.0 s.1).staged.sound.files (ready memory settled stands s.0 s.1).staged.sound.below.chains.well))
    where
      by_files : (files : Files) → IsWell (now_of (staged_in memory).list files memory.space memory.cells (pages_of memory.pages)) → ⊥
      by_files files well = by_chain (files entry.at) refl (well.listed.each entry (subst (λ (l : Listing). Contains l.entries entry) (sym (list_is memory settled stands)) inside)).there
        where
          at_first : (first : PlacedCell) (rest : List PlacedCell) → IsFileOrQuotas (pages_of memory.pages) entry.at (first ∷ rest) → StandsAt (pages_of memory.pages) entry.at first.cell
          at_first first rest = ⊎_elim
              (λ file. subst (λ (a : CellAt). StandsAt (pages_of memory.pages) a first.cell) file.0 file.1.links.stands)
              (λ quotas. subst (λ (a : CellAt). StandsAt (pages_of memory.pages) a first.cell) quotas.0 quotas.1.links.stands)

          no_cells : IsFileOrQuotas (pages_of memory.pages) entry.at [] → ⊥
          no_cells = ⊎_elim (λ file. file) (λ quotas. quotas)

          by_chain : (o : Option (List PlacedCell)) → files entry.at ≡ o → IsSome o → ⊥
          by_chain None there is_there = true≢false (sym is_there)
          by_chain (Some []) there is_there = no_cells (standing memory.space memory.cells (pages_of memory.pages) files well.together entry.at [] there).stands
          by_chain (Some (first ∷ rest)) there is_there =
              let stood = at_first first rest (standing memory.space memory.cells (pages_of memory.pages) files well.together entry.at (first ∷ rest) there).stands in
              true≢false (sym (plain entry inside first.cell stood) ∙ other first.cell stood)

  pub may_or_not : ¬ IsEmpty memory.list.list → memory.list.list.tag_pages ≡ [] → (b : Bool) → (b ≡ true → HavePlain memory memory.list.list.entries)
      → (b ≡ false → (entry : Entry) × Contains memory.list.list.entries entry × ((cell : Cell) → StandsAt (pages_of memory.pages) entry.at cell → are_plain cell.records ≡ false)) → MatchBool b (MayLetGo memory) (¬ MayLetGo memory)
  may_or_not some tags true all one = record { some = some; tag_pages = tags; plain = all refl }
  may_or_not some tags false all one = λ may. let it = one refl in not_plain it.0 it.1 it.2 may.plain

-- ---- where memory was short

module _ (old new : DomainMemory) (same : new ≡ record old { pages = new.pages; space = new.space; cells = new.cells; list = new.list }) where
  pub back_stays : ∥ MayGoBack old ∥₁ → ∥ MayGoBack new ∥₁
  back_stays may = ∥∥₁_map may (λ m. record {
    has = record {
      count = subst (λ (x : DomainMemory). length x.slots.items ≡ 32) (sym same) m.has.count;
      numbered = subst (λ (x : DomainMemory). (number : ℕ) → IfSome (slot_in x.slots.items number) (HasNumber number)) (sym same) m.has.numbered;
    };
    table = subst (λ (x : DomainMemory). IsTable (with_was x.was x.table)) (sym same) m.table;
    slots = subst (λ (x : DomainMemory). (number : ℕ) → IfSome (slot_in x.slots.items number) CanGoBack) (sym same) m.slots;
  })

  module _ (before : before_of new.pages ≡ before_of old.pages) (space : new.space ≡ old.space) (cells : new.cells ≡ old.cells) (list : new.list.list ≡ old.list.list) where
    pub short_kept : KeepsKept old new
    short_kept = record {
      frame = ap (λ (m : DomainMemory). m.frame) same;
      table = ap (λ (m : DomainMemory). with_was m.was m.table) same;
      places = λ number. ap (λ (m : DomainMemory). kept_places (slot_in m.slots.items number)) same;
      books = λ number entry there. ap (λ (m : DomainMemory). kept_book (slot_in m.slots.items number)) same;
      pages = before;
      spaces = λ vol. ap (λ (s : Spaces). volume_of (kept_spaces s) vol) space;
      cells = λ vol. ap (λ c. kept_of c vol) cells;
      marks = λ vol. ap (λ c. is_closed c vol) cells;
      list = list;
    }

    pub short_settled : pages_of new.pages ≡ pages_of old.pages → IsSettled old → IsSettled new
    short_settled pages settled = record {
      pages = pages ∙ settled.pages ∙ sym before;
      space = subst (λ (s : Spaces). kept_spaces s ≡ s) (sym space) settled.space;
      cells = subst (λ c. taken_back c ≡ c) (sym cells) settled.cells;
      places = subst (λ (m : DomainMemory). (number : ℕ) → places_in (slot_in m.slots.items number) ≡ kept_places (slot_in m.slots.items number)) (sym same) settled.places;
      books = subst (λ (m : DomainMemory). (number : ℕ) → book_in (slot_in m.slots.items number) ≡ kept_book (slot_in m.slots.items number)) (sym same) settled.books;
      was = subst (λ (m : DomainMemory). m.was ≡ None) (sym same) settled.was;
      listed = subst (λ (m : DomainMemory). m.listed.items ≡ []) (sym same) settled.listed;
    }
