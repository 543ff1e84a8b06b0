-- A chain of quota cells that loses its second cell, or its last.
use Rattle.std.proofs.Common.{◌≡◌, ◌∙◌, ◌||◌, inr, ℕ, true, false, zero, suc, List, [], ◌∷◌, Some, None, is_some, Contains, refl, sym, ap, subst, arith, ⊎_elim}
use Rattle.std.proofs.lemmas.Bool.{or_from, or_parts}
use Rattle.std.specs.List.{AllByRecursion}
use Rattle.std.specs.Option.{option_and_then}
use Rattle.file_release.specs.domain_base.declared.place.CellAt.{CellAt}
use Rattle.file_release.specs.domain_base.declared.place.Home.{Home}
use Rattle.file_release.specs.domain_base.declared.version.Version.{Version}
use Rattle.file_release.specs.page_store.Pages.{Pages, same_home}
use Rattle.file_release.specs.cell_records.declared.record.Leftover.TheVariants.{Trim}
use Rattle.file_release.specs.metadata_cells.declared.head.CellHead.{CellHead}
use Rattle.file_release.specs.metadata_cells.declared.head.CellKind.TheVariants.{Quota}
use Rattle.file_release.specs.metadata_cells.Cell.{Cell}
use Rattle.file_release.specs.metadata_cells.CellPage.{IsUsedAt, KeepsHeaders, KeepsWellFormed, home_of}
use Rattle.file_release.proofs.OfMetadataCells.Frames.{stands_stays}
use Rattle.file_release.specs.metadata_cells.Chain.{Follow, LeavesOthers, PlacedCell, StandsAt, is_at, may_follow, places}
use Rattle.file_release.specs.free_cells.Belong.{Belong}
use Rattle.file_release.specs.free_cells.Cells.{Cells, FreesCell, is_free, table_of}
use Rattle.file_release.proofs.OfFreeCells.Belongs.{used_not_free}
use Rattle.file_release.specs.free_space.Spaces.{Spaces}
use Rattle.file_release.specs.file_chains.Allocated.{AreAllocated}
use Rattle.file_release.specs.file_chains.Changes.{IsInUse}
use Rattle.file_release.proofs.OfFileChains.Added.{not_zeros, off_table, used_of}
use Rattle.file_release.proofs.OfFileChains.FewPages.{one_changes, then_changes}
use Rattle.file_release.proofs.OfFileChains.Still.{allocated_still}
use Rattle.file_release.proofs.Edited.{belong_written}
use Rattle.file_release.proofs.Freed.{allocated_freed}
use Rattle.file_release.specs.file_chains.Files.{IsFile, places_of}
use Rattle.file_release.specs.file_chains.MapChanges.{LeavesOffTables}
use Rattle.file_release.proofs.OfFileChains.ChainChanges.{at_apart, in_first, in_later}
use Rattle.file_release.specs.fileset_files.Together.{IsHeldApart}
use Rattle.file_release.proofs.OfFilesetFiles.Grown.{on_grown}
use Rattle.file_release.proofs.OfFilesetFiles.OneChain.{follow_by}
use Rattle.file_release.specs.Sharing.{IsReleased}
use Rattle.file_release.proofs.Stepped.{stand_apart}
use Rattle.release_list.specs.declared.list.Entry.{Entry}
use Rattle.release_list.specs.declared.went.Went.TheVariants as went
use Rattle.release_list.specs.Listed.{IsListed, leftover_in, record_at}
use Rattle.release_list.specs.Listing.{Listing}
use Rattle.release_list.specs.Standing.{Files, IsFileOrQuotas, IsQuotas, IsStanding, StandTogether, source_at, source_of, with_file}
use Rattle.release_list.specs.Steps.{HasEntry, HasFileEntry, HasQuotas, IsEndingWhole, Leaves, Now, leads_to, list_after, now_of, quota_goes}
use Rattle.release_list.proofs.Lists.{last_in}
use Rattle.release_list.proofs.Spread.{none_not, some_same}
use Rattle.file_release.specs.fileset_files.Files.{first_record}
use Rattle.release_list.proofs.Firsts.{says_by}
use Rattle.release_list.proofs.Standings.{AreNarrower, apart_by, chain_by, file_other, file_there, narrower_together, quota_first, quota_place, reads_by, same_or_not, stand_chain, standing, was_there}
use Rattle.release_list.proofs.Well.{chain_of}

-- ---- the chain then

-- what followed a quota cell follows the one before it
quota_follow : (old new : Pages) (b c : CellHead) (rest : List PlacedCell) → b.kind ≡ Quota → c.kind ≡ Quota → AllByRecursion (λ (x : PlacedCell). StandsAt new x.at x.cell) rest → Follow old c rest → Follow new (record b { next = c.next }) rest
quota_follow old new b c [] kind_b kind_c stand follow = follow
quota_follow old new b c (r ∷ rest) kind_b kind_c stand follow = (
  follow.0,
  subst (λ k. may_follow k r.cell.head.kind ≡ true) (kind_c ∙ sym kind_b) follow.1,
  stand.0,
  follow_by new old r.cell.head rest stand.1 follow.3,
)

-- of cells that are neither of the two
two_apart : (first second q : CellAt) → ¬ q ≡ first → ¬ q ≡ second → (is_at first q || is_at second q) ≡ false
two_apart first second q one two = or_from (is_at first q) (is_at second q) (at_apart first q (λ same. one (sym same))) (at_apart second q (λ same. two (sym same)))

module _ (old new : Pages) (at : CellAt) (first second : PlacedCell) (rest : List PlacedCell) (quotas : IsQuotas old at (first ∷ second ∷ rest)) (stands : StandsAt new first.at (leads_to second.cell.head.next first).cell)
    (others : LeavesOthers (λ q. is_at first.at q || is_at second.at q) old new) where
  rest_apart : (q : CellAt) → Contains (places rest) q → (is_at first.at q || is_at second.at q) ≡ false
  rest_apart q inside = two_apart first.at second.at q
      (λ same. quotas.1.links.distinct.0 (in_later first.at second rest (subst (Contains (places rest)) same inside)))
      (λ same. quotas.1.links.distinct.1.0 (subst (Contains (places rest)) same inside))

  rest_stand : AllByRecursion (λ (x : PlacedCell). StandsAt new x.at x.cell) rest
  rest_stand = stand_apart old new (λ q. is_at first.at q || is_at second.at q) others rest rest_apart (stand_chain old at (first ∷ second ∷ rest) (inr quotas)).1.1

  pub quotas_after : IsQuotas new at (leads_to second.cell.head.next first ∷ rest)
  quotas_after = (
    quotas.0,
    record {
      links = record {
        stands = stands;
        follow = quota_follow old new first.cell.head second.cell.head rest quotas.1.cells.0.kind quotas.1.cells.1.0.kind rest_stand quotas.1.links.follow.3;
        distinct = ((λ inside. quotas.1.links.distinct.0 (in_later first.at second rest inside)), quotas.1.links.distinct.1.1);
      };
      cells = (record { kind = quotas.1.cells.0.kind; limits = quotas.1.cells.0.limits }, quotas.1.cells.1.1);
    },
  )

-- ---- all belongs together

module _ (space : Spaces) (cells cells_now : Cells) (old new : Pages) (files : Files) (together : StandTogether space cells old files) (at : CellAt) (first second : PlacedCell) (rest : List PlacedCell) (is : files at ≡ Some (first ∷ second ∷ rest)) (quotas : IsQuotas old at (first ∷ second ∷ rest))
    (after : List PlacedCell) (after_is : after ≡ leads_to second.cell.head.next first ∷ rest) (stands : IsQuotas new at after) (others : LeavesOthers (λ q. is_at first.at q || is_at second.at q) old new) (frees : FreesCell second.at cells cells_now) (allocated : AreAllocated space cells_now new) where
  abbrev pub quota_now : Files
  quota_now = with_file at (Some after) files

  pub quota_there : quota_now at ≡ Some after
  quota_there = file_there at (Some after) files

  pub quota_other : (a : CellAt) → ¬ a ≡ at → quota_now a ≡ files a
  quota_other a not_at = file_other at (Some after) files a not_at

  chain_on : IsStanding cells old at (first ∷ second ∷ rest)
  chain_on = standing space cells old files together at (first ∷ second ∷ rest) is

  tables : (vol p : ℕ) → Contains (table_of cells vol) p → Contains (table_of cells_now vol) p
  tables vol p on = subst (λ (t : List ℕ). Contains t p) (sym (frees.tables vol)) on

  after_on : IsStanding cells_now new at after
  after_on = record {
    stands = inr stands;
    on_tables = subst (λ (cs : List PlacedCell). AllByRecursion (λ (c : PlacedCell). Contains (table_of cells_now c.at.vol) c.at.page) cs) (sym after_is)
        (tables first.at.vol first.at.page chain_on.on_tables.0, on_grown cells cells_now tables rest chain_on.on_tables.1.1);
  }

  within : (q : CellAt) → Contains (places after) q → Contains (places (first ∷ second ∷ rest)) q
  within q inside = by_place (subst (λ (cs : List PlacedCell). Contains (places cs) q) after_is inside)
    where
      by_place : Contains (places (leads_to second.cell.head.next first ∷ rest)) q → Contains (places (first ∷ second ∷ rest)) q
      by_place (zero, less, same) = in_first q first (second ∷ rest) same
      by_place (suc k, less, same) = in_later q first (second ∷ rest) (in_later q second rest (k, omega (arith, less), same))

  pub quota_sources : (a : CellAt) → source_at quota_now a ≡ source_at files a
  quota_sources a = ⊎_elim
      (λ same.
      ap (option_and_then source_of) (ap quota_now same ∙ quota_there) ∙ ap source_of after_is
      ∙ sym (ap (option_and_then source_of) (ap files same ∙ is)))
      (λ not_at. ap (option_and_then source_of) (quota_other a not_at))
      (same_or_not a at)

  narrower : AreNarrower files quota_now
  narrower = record {
    was = λ a cs is_a. ⊎_elim
        (λ same.
        let it : after ≡ cs = some_same after cs (sym quota_there ∙ sym (ap quota_now same) ∙ is_a) in (
          first ∷ second ∷ rest,
          ap files same ∙ is,
          (λ q inside. within q (subst (λ (xs : List PlacedCell). Contains (places xs) q) (sym it) inside)),
          (λ p. sym (ap (λ (xs : List PlacedCell). places_of xs p) it) ∙ quota_place new at after stands p ∙ sym (quota_place old at (first ∷ second ∷ rest) quotas p)),
        ))
        (λ not_at. (cs, sym (quota_other a not_at) ∙ is_a, (λ q inside. inside), λ p. refl))
        (same_or_not a at);
    reads = λ a b reads. reads_by files quota_now a b (quota_sources a) reads;
  }

  still_held : (home : Home) → IsHeldApart space cells home → IsHeldApart space cells_now home
  still_held home held = record { held = held.held; off_table = λ on. held.off_table (subst (λ (t : List ℕ). Contains t home.page) (frees.tables home.vol) on) }

  beside : (a : CellAt) (cs : List PlacedCell) → files a ≡ Some cs → ¬ a ≡ at → (q : CellAt) → Contains (places cs) q → (is_at first.at q || is_at second.at q) ≡ false
  beside a cs is_a not_at q inside =
      let apart = apart_by space cells old files together at a (first ∷ second ∷ rest) cs is is_a (λ same. not_at (sym same)) in
      two_apart first.at second.at q
      (λ same. apart q (in_first q first (second ∷ rest) (sym same)) inside)
      (λ same. apart q (in_later q first (second ∷ rest) (in_first q second rest (sym same))) inside)

  pub quota_together : StandTogether space cells_now new quota_now
  quota_together = narrower_together files quota_now narrower space space cells cells_now old new together allocated
      (λ a cs is_a. ⊎_elim
      (λ same.
      let it : after ≡ cs = some_same after cs (sym quota_there ∙ sym (ap quota_now same) ∙ is_a) in
      subst (IsStanding cells_now new a) it (subst (λ (b : CellAt). IsStanding cells_now new b after) (sym same) after_on))
      (λ not_at.
      let is_was = sym (quota_other a not_at) ∙ is_a in
      let was = standing space cells old files together a cs is_was in
      record {
        stands = chain_by old new a cs (stand_apart old new (λ q. is_at first.at q || is_at second.at q) others cs (beside a cs is_was not_at) (stand_chain old a cs was.stands)) was.stands;
        on_tables = on_grown cells cells_now tables cs was.on_tables;
      })
      (same_or_not a at))
      (λ a p home was held. still_held home held)

  quota_some : (a : CellAt) → is_some (quota_now a) ≡ is_some (files a)
  quota_some a = ⊎_elim
      (λ same. ap is_some (ap quota_now same ∙ quota_there) ∙ sym (ap is_some (ap files same ∙ is)))
      (λ not_at. ap is_some (quota_other a not_at))
      (same_or_not a at)

  quota_records : (k : ℕ) (a : CellAt) → record_at quota_now k a ≡ record_at files k a
  quota_records k a = ⊎_elim
      (λ same. ap (option_and_then (first_record k)) (ap quota_now same ∙ quota_there) ∙ ap (first_record k) after_is ∙ sym (ap (option_and_then (first_record k)) (ap files same ∙ is)))
      (λ not_at. ap (option_and_then (first_record k)) (quota_other a not_at))
      (same_or_not a at)

  pub quota_listed : (list : Listing) → IsListed space cells files list → IsListed space cells_now quota_now list
  quota_listed list listed = record {
    each = λ e inside. let was = listed.each e inside in record {
      there = quota_some e.at ∙ was.there;
      says = says_by files quota_now e.at (quota_records 6 e.at) (quota_records 1 e.at) was.says;
      given = λ c some. reads_by quota_now files c e.at (sym (quota_sources c)) (was.given c some);
      all = λ c reads. was.all c (reads_by files quota_now c e.at (quota_sources c) reads);
    };
    once = listed.once;
    order = listed.order;
    pages_once = listed.pages_once;
    pages_low = listed.pages_low;
    pages_held = λ home inside. still_held home (listed.pages_held home inside);
    pages_apart = λ home inside a p there. listed.pages_apart home inside a p (was_there files quota_now narrower a p home there);
  }

-- ---- the steps

-- what the first cell leads to is the second one
record HasSecond (chain : List PlacedCell) (next : CellAt) : Type 0 where
  first : PlacedCell
  second : PlacedCell
  rest : List PlacedCell
  is : chain ≡ first ∷ second ∷ rest
  at : second.at ≡ next

has_second : (pages : Pages) (at next : CellAt) (chain : List PlacedCell) → IsQuotas pages at chain → ((cell : Cell) → StandsAt pages at cell → Some next ≡ cell.head.next) → HasSecond chain next
has_second pages at next [] quotas leads = absurd quotas
has_second pages at next (first ∷ []) quotas leads =
    absurd (none_not next (sym quotas.1.links.follow ∙ sym (leads first.cell (subst (λ (a : CellAt). StandsAt pages a first.cell) quotas.0 quotas.1.links.stands))))
has_second pages at next (first ∷ second ∷ rest) quotas leads = record {
  first = first;
  second = second;
  rest = rest;
  is = refl;
  at = some_same second.at next (sym quotas.1.links.follow.0 ∙ sym (leads first.cell (subst (λ (a : CellAt). StandsAt pages a first.cell) quotas.0 quotas.1.links.stands)));
}

-- of an entry of quota cells, whose first one leads to another
pub record IsTwo (entry : Entry) (next : CellAt) (at : Now) : Type 0 where
  pub first : PlacedCell
  pub second : PlacedCell
  pub rest : List PlacedCell
  pub is : at.files entry.at ≡ Some (first ∷ second ∷ rest)
  pub quotas : IsQuotas at.pages entry.at (first ∷ second ∷ rest)
  pub at_next : second.at ≡ next

pub is_two : (front : List Entry) (entry : Entry) (next : CellAt) (at : Now) → HasQuotas front entry at → ((cell : Cell) → StandsAt at.pages entry.at cell → Some next ≡ cell.head.next) → IsTwo entry next at
is_two front entry next at has leads =
    let s = has_second at.pages entry.at next has.chain has.quotas leads in
    record { first = s.first; second = s.second; rest = s.rest; is = has.is ∙ ap Some s.is; quotas = subst (IsQuotas at.pages entry.at) s.is has.quotas; at_next = s.at }

module _ (list : Listing) (front : List Entry) (files : Files) (entry : Entry) (space : Spaces) (cells : Cells) (old : Pages) (next : CellAt) (has : HasQuotas front entry (now_of list files space cells old)) (two : IsTwo entry next (now_of list files space cells old)) where
  pub first_stands_there : StandsAt old entry.at two.first.cell
  first_stands_there = subst (λ (a : CellAt). StandsAt old a two.first.cell) two.quotas.0 two.quotas.1.links.stands

  second_stands : StandsAt old two.second.at two.second.cell
  second_stands = two.quotas.1.links.follow.2

  pub first_used : IsInUse old entry.at
  first_used = (two.first.cell, first_stands_there)

  pub next_stands : StandsAt old next two.second.cell
  next_stands = subst (λ (a : CellAt). StandsAt old a two.second.cell) two.at_next second_stands

  pub next_used : IsInUse old next
  next_used = (two.second.cell, next_stands)

  on : IsStanding cells old entry.at (two.first ∷ two.second ∷ two.rest)
  on = standing space cells old files has.has.well.together entry.at (two.first ∷ two.second ∷ two.rest) two.is

  pub next_on : Contains (table_of cells next.vol) next.page
  next_on = subst (λ (a : CellAt). Contains (table_of cells a.vol) a.page) two.at_next on.on_tables.1.0

  differ : ¬ entry.at ≡ next
  differ same = two.quotas.1.links.distinct.0 (in_first two.first.at two.second two.rest (two.at_next ∙ sym same ∙ sym two.quotas.0))

  module _ (mid : Pages) (leaves : LeavesOthers (is_at entry.at) old mid) (good : KeepsWellFormed old mid) (headers : KeepsHeaders old mid) where
    not_free : is_free cells entry.at ≡ false
    not_free = used_not_free cells old has.has.well.together.allocated.belong entry.at (used_of old entry.at two.first.cell first_stands_there)

    pub mid_belong : Belong cells mid
    mid_belong = belong_written cells old mid entry.at has.has.well.together.allocated.belong leaves good headers not_free

    next_stays : StandsAt mid next two.second.cell
    next_stays = stands_stays old mid (is_at entry.at) leaves next two.second.cell (at_apart entry.at next differ) (subst (λ (a : CellAt). StandsAt old a two.second.cell) two.at_next second_stands)

    pub mid_used : IsUsedAt mid next
    mid_used = used_of mid next two.second.cell next_stays

    module _ (stands : StandsAt mid entry.at (leads_to two.second.cell.head.next two.first).cell) (leaves_off : (home : Home) → same_home home (home_of entry.at) ≡ false → mid home ≡ old home) (cells_now : Cells) (new : Pages) (frees : FreesCell next cells cells_now) (clears : LeavesOthers (is_at next) mid new)
        (belong : Belong cells_now new) (good_now : KeepsWellFormed mid new) (headers_now : KeepsHeaders mid new) (clears_off : (home : Home) → same_home home (home_of next) ≡ false → new home ≡ mid home) where
      pub mid_allocated : AreAllocated space cells mid
      mid_allocated = allocated_still space cells old mid has.has.well.together.allocated good headers (is_at entry.at) leaves (λ q free. at_apart entry.at q (λ same. not_zeros old q entry.at two.first.cell (has.has.well.together.allocated.belong.zeros q free) first_stands_there (sym same)))

      pub allocated : AreAllocated space cells_now new
      allocated = allocated_freed next space cells cells_now mid new mid_allocated frees belong headers_now

      pub others : LeavesOthers (λ q. is_at two.first.at q || is_at two.second.at q) old new
      others q apart =
          let both = or_parts (is_at two.first.at q) (is_at two.second.at q) apart in
          clears q (subst (λ (a : CellAt). is_at a q ≡ false) two.at_next both.1) ∙ leaves q (subst (λ (a : CellAt). is_at a q ≡ false) two.quotas.0 both.0)

      pub elsewhere : LeavesOffTables cells_now old new
      elsewhere home off =
          let out : ¬ Contains (table_of cells home.vol) home.page = (λ on. off (subst (λ (t : List ℕ). Contains t home.page) (sym (frees.tables home.vol)) on)) in
          clears_off home (off_table cells next home next_on out)
          ∙ leaves_off home (off_table cells entry.at home (subst (λ (a : CellAt). Contains (table_of cells a.vol) a.page) two.quotas.0 on.on_tables.0) out)

      pub stands_now : StandsAt new two.first.at (leads_to two.second.cell.head.next two.first).cell
      stands_now = subst (λ (a : CellAt). StandsAt new a (leads_to two.second.cell.head.next two.first).cell) (sym two.quotas.0)
          (stands_stays mid new (is_at next) clears entry.at (leads_to two.second.cell.head.next two.first).cell (at_apart next entry.at (λ same. differ (sym same))) stands)

      after_quotas : IsQuotas new entry.at (leads_to two.second.cell.head.next two.first ∷ two.rest)
      after_quotas = quotas_after old new entry.at two.first two.second two.rest two.quotas stands_now others

      frees_second : FreesCell two.second.at cells cells_now
      frees_second = subst (λ (a : CellAt). FreesCell a cells cells_now) (sym two.at_next) frees

      pub quota_went : (group : ℕ) (version : Version) → Leaves group version (now_of list files space cells old) (list_after went.Part front entry list) space cells_now new
      quota_went group version =
          let after = leads_to two.second.cell.head.next two.first ∷ two.rest in
          record {
            files = with_file entry.at (Some after) files;
            step = quota_goes (record {
              front = front;
              entry = entry;
              last = has.has.last;
              first = two.first;
              second = two.second;
              rest = two.rest;
              is = two.is;
              quotas = two.quotas;
              after = after;
              after_is = refl;
              stands = after_quotas;
              files = refl;
              same_list = refl;
              same_space = refl;
              frees = frees_second;
              allocated = allocated;
              others = others;
              elsewhere = elsewhere;
              few = then_changes 1 1 old mid new (one_changes old mid (home_of entry.at) leaves_off) (one_changes mid new (home_of next) clears_off);
            });
            well = record {
              together = quota_together space cells cells_now old new files has.has.well.together entry.at two.first two.second two.rest two.is two.quotas after refl after_quotas others frees_second allocated;
              listed = quota_listed space cells cells_now old new files has.has.well.together entry.at two.first two.second two.rest two.is two.quotas after refl after_quotas others frees_second allocated list has.has.well.listed;
            };
          }

-- ---- one cell is left

last_quota : (pages : Pages) (at : CellAt) (chain : List PlacedCell) → IsQuotas pages at chain → ((cell : Cell) → StandsAt pages at cell → None ≡ cell.head.next) → IsReleased 0 chain
last_quota pages at [] quotas leads = absurd quotas
last_quota pages at (first ∷ []) quotas leads = record { absent = λ p from. quota_place pages at (first ∷ []) quotas p; later = tt }
last_quota pages at (first ∷ second ∷ rest) quotas leads =
    absurd (none_not second.at (leads first.cell (subst (λ (a : CellAt). StandsAt pages a first.cell) quotas.0 quotas.1.links.stands) ∙ quotas.1.links.follow.0))

pub quota_ending : (front : List Entry) (entry : Entry) (at : Now) → (has : HasQuotas front entry at) → ((cell : Cell) → StandsAt at.pages entry.at cell → None ≡ cell.head.next) → IsEndingWhole front entry at
quota_ending front entry at has leads = record {
  has = has.has;
  chain = has.chain;
  is = has.is;
  whole = λ trim. let e : None ≡ Some Trim = sym (ap (option_and_then leftover_in) (quota_first at.pages entry.at has.chain has.quotas 6 (λ e. omega (arith, e)) (λ e. omega (arith, e)))) ∙ trim in absurd (cc);
  done = last_quota at.pages entry.at has.chain has.quotas leads;
}

-- an entry is of quota cells, or of a file, by what its chain is
module _ (list : Listing) (front : List Entry) (files : Files) (entry : Entry) (space : Spaces) (cells : Cells) (pages : Pages) (has : HasEntry front entry (now_of list files space cells pages)) where
  pub of_quotas : ((chain : List PlacedCell) → IsFileOrQuotas pages entry.at chain → IsQuotas pages entry.at chain) → HasQuotas front entry (now_of list files space cells pages)
  of_quotas quotas =
      let c = chain_of files entry.at (has.well.listed.each entry (subst (λ (es : List Entry). Contains es entry) (sym has.last) (last_in front entry))).there in
      record { has = has; chain = c.0; is = c.1; quotas = quotas c.0 (standing space cells pages files has.well.together entry.at c.0 c.1).stands }

  pub of_file : ((chain : List PlacedCell) → IsFileOrQuotas pages entry.at chain → IsFile pages entry.at chain) → HasFileEntry front entry (now_of list files space cells pages)
  of_file file = record { has = has; file = λ chain is. file chain (standing space cells pages files has.well.together entry.at chain is).stands }
