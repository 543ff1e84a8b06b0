-- A tail that is handed over or given back.
use Rattle.std.proofs.Common.{◌≡◌, ◌∙◌, ℕ, ◌<◌, List, Option, Some, None, IfSome, IsSome, Result, Ok, Err, IfErr, OnOk, Contains, refl, sym, ap, subst, arith}
use Rattle.fileset_files.specs.domain_base.declared.place.CellAt.{CellAt}
use Rattle.fileset_files.specs.domain_base.declared.place.Home.{Home}
use Rattle.fileset_files.specs.page_store.Pages.{Pages}
use Rattle.fileset_files.specs.metadata_cells.Chain.{PlacedCell, records_of}
use Rattle.fileset_files.specs.extent_maps.declared.run.PagePlace.TheVariants.{Absent, At}
use Rattle.fileset_files.specs.extent_maps.Runs.{place_of}
use Rattle.fileset_files.specs.extent_records.Rows.{AreOneMap, runs_in}
use Rattle.fileset_files.specs.extent_records.Writing.{places_in}
use Rattle.fileset_files.specs.free_cells.Cells.{Cells, table_of}
use Rattle.fileset_files.specs.free_space.Spaces.{IsHeld, Spaces}
use Rattle.fileset_files.specs.file_chains.Files.{IsFile, places_of}
use Rattle.fileset_files.specs.file_chains.MapChanges.{NoneTakes}
use Rattle.file_release.specs.declared.reader.Reader.{Reader}
use Rattle.file_release.specs.declared.releasing.Plan.{Plan}
use Rattle.file_release.specs.Releases.{LacksPlace}
use Rattle.file_release.specs.Sharing.{IsReader, frozen_of}
use Rattle.file_release.specs.Steps.{IsPlanned, IsReadLast, MayHandOver}
use Rattle.file_release.proofs.Given.{absent_home}
use Rattle.file_release.proofs.Once.{IsGoodPage, file_map, good_page, shown_value}

some_reader : (reader : Option Reader) (page : ℕ) → page < frozen_of reader → IsSome reader
some_reader None page less = absurd (omega (arith, less))
some_reader (Some r) page less = refl

module _ (from : ℕ) (start : CellAt) (reader : Option Reader) (plan : Plan) (space : Spaces) (cells : Cells) (pages : Pages) (chain own : List PlacedCell) (is : IsPlanned from start reader plan space cells pages chain own) where
  value_there : (page : ℕ) (home : Home) → place_of plan.map page ≡ At home → places_in is.planned.spot.value page ≡ At home
  value_there page home there = sym (is.planned.map page) ∙ there

  pub shown : (page : ℕ) → (places_in is.planned.spot.value page ≡ Absent → ⊥) → places_of chain page ≡ places_in is.planned.spot.value page
  shown page some =
      let spot = is.planned.spot in
      ap (λ (cs : List PlacedCell). places_of cs page) spot.all
      ∙ shown_value spot.front spot.c spot.rest spot.value spot.map (subst (λ cs. AreOneMap (records_of cs)) spot.all (file_map pages start chain is.sharing.file)) page some

  pub chain_there : (page : ℕ) (home : Home) → place_of plan.map page ≡ At home → places_of chain page ≡ At home
  chain_there page home there = let at = value_there page home there in shown page (λ none. absent_home home none at) ∙ at

  pub map_good : (page : ℕ) (home : Home) → place_of plan.map page ≡ At home → IsGoodPage page home
  map_good page home there = good_page (runs_in is.planned.spot.value) is.planned.spot.map.is_map.placed page home (value_there page home there)

  pub map_held : (page : ℕ) (home : Home) → place_of plan.map page ≡ At home → IsHeld space home.vol home.page
  map_held page home there = (is.sharing.held page home (chain_there page home there)).held

  pub map_off : (page : ℕ) (home : Home) → place_of plan.map page ≡ At home → ¬ Contains (table_of cells home.vol) home.page
  map_off page home there = (is.sharing.held page home (chain_there page home there)).off_table

  pub map_once : (p q : ℕ) (home : Home) → place_of plan.map p ≡ At home → place_of plan.map q ≡ At home → p ≡ q
  map_once p q home a b = is.sharing.once p q home (chain_there p home a) (chain_there q home b)

  module _ (home : Home) (some : plan.tail.home ≡ Some home) where
    pub read_last : IsReadLast plan.tail.from (frozen_of reader) (places_of own) (places_in is.planned.spot.value) home
    read_last = subst (λ o. IfSome o (IsReadLast plan.tail.from (frozen_of reader) (places_of own) (places_in is.planned.spot.value))) some is.planned.tail.read

    pub may_hand_over : MayHandOver plan.tail.from reader cells pages own
    may_hand_over = record {
      some = some_reader reader plan.tail.from read_last.is_frozen;
      reads = is.sharing.reads;
      on_tables = is.sharing.own_on_tables;
      absent = read_last.absent;
    }

    pub small : plan.tail.from < 65536
    small = (good_page (runs_in is.planned.spot.value) is.planned.spot.map.is_map.placed plan.tail.from home read_last.there).small

    pub lacks : NoneTakes plan.tail.from (At home) own → LacksPlace from (frozen_of reader) chain own
    lacks none = record {
      page = plan.tail.from;
      home = home;
      begins = is.planned.tail.begins;
      is_frozen = read_last.is_frozen;
      absent = read_last.absent;
      there = shown plan.tail.from (λ gone. absent_home home gone read_last.there) ∙ read_last.there;
      none_takes = none;
    }

pub on_both : {A E P Q R : Type 0} (r : Result A E) → (P → Q → R) → OnOk r P → OnOk r Q → OnOk r R
on_both (Ok x) f p q = f p q
on_both (Err e) f p q = tt

pub on_three : {A E P Q S R : Type 0} (r : Result A E) → (P → Q → S → R) → OnOk r P → OnOk r Q → OnOk r S → OnOk r R
on_three (Ok x) f p q s = f p q s
on_three (Err e) f p q s = tt

-- the reader's chain
pub reader_is : (pages : Pages) (reader : Option Reader) (r : Reader) (page : ℕ) (cells : Cells) (own : List PlacedCell) → reader ≡ Some r → MayHandOver page reader cells pages own → IsFile pages r.at own
reader_is pages reader r page cells own is may = subst (λ o. IsReader pages o own) is may.reads

pub map_err : {A E : Type 0} {P Q : E → Type 0} (r : Result A E) → ((x : E) → P x → Q x) → IfErr r P → IfErr r Q
map_err (Ok x) f is = tt
map_err (Err e) f is = f e is
