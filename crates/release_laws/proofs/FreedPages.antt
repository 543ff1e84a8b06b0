-- A domain stands with all pages free that wait.
use Rattle.std.proofs.Common.{◌≡◌, ◌∙◌, ◌↔◌, inl, inr, ℕ, ◌<◌, ◌≤◌, Bool, true, false, not, ◌&&◌, List, Option, Some, None, IsSomeAnd, slice_index, refl, sym, ap, subst, arith, ⊎_elim}
use Rattle.std.proofs.lemmas.Bool.{cases_Bool, true≢false}
use Rattle.std.proofs.lemmas.Option.{slice_get_within}
use Rattle.std.specs.FinSet.{contains}
use Rattle.std.specs.Option.{option_map}
use Rattle.standing_laws.specs.domain_base.declared.place.CellAt.{CellAt}
use Rattle.standing_laws.specs.domain_base.declared.place.Home.{Home}
use Rattle.standing_laws.specs.metadata_cells.Chain.{PlacedCell}
use Rattle.standing_laws.specs.page_store.Bitfiles.{Bitfiles}
use Rattle.standing_laws.specs.tag_dirs.declared.dir.TagPlace.{TagPlace}
use Rattle.standing_laws.specs.free_space.Spaces.{CanTake, IsHeld, volume_of}
use Rattle.standing_laws.specs.free_space.VolumeSpace.{IsFreePage, VolumeSpace, is_among, with_none_waiting}
use Rattle.standing_laws.proofs.OfFreeSpace.Freeing.{contains-without_waiting}
use Rattle.standing_laws.proofs.OfFreeSpace.Kept.{volume_of-changed}
use Rattle.standing_laws.specs.free_cells.Cells.{is_closed, table_of}
use Rattle.standing_laws.specs.file_chains.Allocated.{AreAllocated}
use Rattle.standing_laws.specs.fileset_files.Files.{Chains}
use Rattle.standing_laws.specs.fileset_files.Together.{AreTogether, IsFilePage, IsHeldApart}
use Rattle.standing_laws.specs.stored_set.Sets.{StandsAsSet}
use Rattle.standing_laws.specs.fileset_model.Filesets.{FilesetMap}
use Rattle.standing_laws.specs.release_list.Standing.{Files}
use Rattle.standing_laws.specs.release_list.Steps.{IsWell}
use Rattle.standing_laws.specs.domain_layout.Layout.{first_tag_of}
use Rattle.standing_laws.specs.domain_layout.Reached.{first_cells}
use Rattle.standing_laws.specs.domain_standing.Chains.{AreQuotasOf, HasEmptyTags, HasFilesAmong, IndexesAt, StandChains, StandsInSlot}
use Rattle.standing_laws.specs.domain_standing.Domain.{DomainNow, all_of, named_by}
use Rattle.standing_laws.specs.domain_standing.Holders.{AreHeldAt, HoldsOwned, IsUnheld}
use Rattle.standing_laws.specs.domain_standing.Holders.Holder.{of_volume}
use Rattle.standing_laws.specs.domain_standing.Slots.{StandSlots}
use Rattle.standing_laws.specs.domain_standing.Standing.{IsMarkedBut}
use Rattle.standing_laws.specs.Leads.{StandsBelow}
use Rattle.release_laws.specs.Freed.{freed}

-- a page of a volume is held then just where it was
abbrev IsHeldOf : Option VolumeSpace → ℕ → Type 0
IsHeldOf o p = IsSomeAnd o (λ (v : VolumeSpace). (contains v.used p ≡ true) × (is_among v.waiting p ≡ false))

both_true : (a b : Bool) → (a && b) ≡ true → (a ≡ true) × (b ≡ true)
both_true true b is = (refl, is)
both_true false b is = absurd (true≢false (sym is))

not_true : (b : Bool) → not b ≡ true → b ≡ false
not_true true is = absurd (true≢false (sym is))
not_true false is = refl

held_on : (o : Option VolumeSpace) (p : ℕ) → IsHeldOf o p ↔ IsHeldOf (option_map with_none_waiting o) p
held_on None p = ((λ is. is), (λ is. is))
held_on (Some v) p = (
  (λ is. (contains-without_waiting v.used v.waiting p ∙ (λ i. is.0 i && not (is.1 i)), refl)),
  (λ is. let two = both_true (contains v.used p) (not (is_among v.waiting p)) (sym (contains-without_waiting v.used v.waiting p) ∙ is.0) in (two.0, not_true (is_among v.waiting p) two.1)),
)

module _ (d : DomainNow) where
  pub held_both : (vol p : ℕ) → IsHeld d.space vol p ↔ IsHeld (freed d).space vol p
  held_both vol p = subst (λ o. IsHeldOf (volume_of d.space vol) p ↔ IsHeldOf o p) (sym (volume_of-changed with_none_waiting d.space vol)) (held_on (volume_of d.space vol) p)

  held : (vol p : ℕ) → IsHeld d.space vol p → IsHeld (freed d).space vol p
  held vol p = (held_both vol p).0

  apart : (home : Home) → IsHeldApart d.space d.cells home → IsHeldApart (freed d).space d.cells home
  apart home is = record { held = held home.vol home.page is.held; off_table = is.off_table }

  file_page : (places : List TagPlace) (home : Home) → IsFilePage d.space d.cells places home → IsFilePage (freed d).space d.cells places home
  file_page places home is = record { apart = apart home is.apart; no_tags = is.no_tags }

  pub bits_freed : IsMarkedBut d → IsMarkedBut (freed d)
  bits_freed is = record {
    there = is.there;
    bits = λ vol page member within. let said = is.bits vol page member within in ((λ marked. (held_both vol page).0 (said.0 marked)), (λ now. said.1 ((held_both vol page).1 now)));
    behind = is.behind;
  }

module _ (d : DomainNow) (files : Files) (indexes : IndexesAt) (below : StandsBelow d files indexes) where
  -- ---- a page that can be taken

  record CouldBeTaken (vol p : ℕ) : Type 0 where
    v : VolumeSpace
    there : volume_of d.space vol ≡ Some v
    open_one : v.is_open ≡ true
    unused : (contains v.used p && not (is_among v.waiting p)) ≡ false
    within : p < v.pages

  could : (vol p : ℕ) → CanTake (freed d).space vol p → CouldBeTaken vol p
  could vol p can = by_volume (volume_of d.space vol) refl (subst (λ o. IsSomeAnd o (λ (v : VolumeSpace). (v.is_open ≡ true) × IsFreePage v p)) (volume_of-changed with_none_waiting d.space vol) can)
    where
      by_volume : (o : Option VolumeSpace) → volume_of d.space vol ≡ o → IsSomeAnd (option_map with_none_waiting o) (λ (v : VolumeSpace). (v.is_open ≡ true) × IsFreePage v p) → CouldBeTaken vol p
      by_volume None is can = absurd can
      by_volume (Some v) is can = record { v = v; there = is; open_one = can.0; unused = sym (contains-without_waiting v.used v.waiting p) ∙ can.1.unused; within = can.1.within }

  on_volume : (vol p : ℕ) → 1 ≤ vol → (c : CouldBeTaken vol p) → AreHeldAt d files indexes vol (Some c.v)
  on_volume vol p low c = subst (AreHeldAt d files indexes vol) c.there (below.owned.spaces vol low)

  -- what waits is held for nothing, nor is what is not used
  unheld_page : (vol : ℕ) (v : VolumeSpace) (p : ℕ) → AreHeldAt d files indexes vol (Some v) → p < v.pages → (contains v.used p && not (is_among v.waiting p)) ≡ false → IsUnheld d files indexes (record { vol = vol; page = p })
  unheld_page vol v p is within free = by_tests (contains v.used p) (is_among v.waiting p) refl refl
    where
      by_tests : (used waits : Bool) → contains v.used p ≡ used → is_among v.waiting p ≡ waits → IsUnheld d files indexes (record { vol = vol; page = p })
      by_tests used true used_is waits = is.1.waits p waits
      by_tests false false used_is waits = ((is.1.free p within).0 used_is).0
      by_tests true false used_is waits = absurd (true≢false (sym (λ i. used_is i && not (waits i)) ∙ free))

  allocated : AreAllocated (freed d).space d.cells d.pages
  allocated =
      let is = below.chains.well.together.allocated in
      record {
        belong = is.belong;
        held = λ vol place low within. held d vol (slice_index (table_of d.cells vol) place) (is.held vol place low within);
        table = λ vol p low can. slice_get_within (table_of d.cells vol) 0 _ (below.tables.laid.cells vol (on_volume vol p low (could vol p can)).0).begins;
        opened = λ vol p low can. open_then vol p low (could vol p can);
        first = λ vol p low can is_first. no_first vol p low (could vol p can) is_first;
        ends = is.ends;
      }
    where
      open_then : (vol p : ℕ) → 1 ≤ vol → CouldBeTaken vol p → is_closed d.cells vol ≡ false
      open_then vol p low c =
          let on = on_volume vol p low c in
          ⊎_elim
          (λ closed. absurd ((below.tables.cells.closed vol on.0).0 closed (on.1.opened.0 c.open_one)))
          (λ opened. opened)
          (cases_Bool (is_closed d.cells vol))

      no_first : (vol p : ℕ) → 1 ≤ vol → CouldBeTaken vol p → ¬ p ≡ 0
      no_first vol p low c is_first =
          let on = on_volume vol p low c in
          unheld_page vol c.v p on c.within c.unused of_volume (on.0, subst (λ (n : ℕ). n < first_cells d.frame vol) (sym is_first) (omega arith))

  -- ---- the chains

  well : IsWell (all_of (freed d) files)
  well =
      let is = below.chains.well in
      record {
        together = record {
          allocated = allocated;
          each = is.together.each;
          apart = is.together.apart;
          held = λ at page home stands. apart d home (is.together.held at page home stands);
          once = is.together.once;
          one_deep = is.together.one_deep;
        };
        listed = record {
          each = is.listed.each;
          once = is.listed.once;
          order = is.listed.order;
          pages_once = is.listed.pages_once;
          pages_low = is.listed.pages_low;
          pages_held = λ home on. apart d home (is.listed.pages_held home on);
          pages_apart = is.listed.pages_apart;
        };
      }

  among : (number : ℕ) → HasFilesAmong d files number → HasFilesAmong (freed d) files number
  among number is = record {
    chains = is.chains;
    are = is.are;
    among = record { same = is.among.same; live = is.among.live; trimmed = is.among.trimmed; low = is.among.low; no_tags = is.among.no_tags; not_listed = is.among.not_listed };
  }

  empty : (number : ℕ) → HasEmptyTags d number → HasEmptyTags (freed d) number
  empty number is = record { removed = is.removed; none = is.none; listed = is.listed }

  slot_on : (number : ℕ) (first : Option Home) → StandsInSlot d files number first → StandsInSlot (freed d) files number first
  slot_on number None is = is
  slot_on number (Some first) is = ⊎_elim (λ are. inl (among number are)) (λ none. inr (empty number none)) is

  chains : StandChains (freed d) files indexes
  chains =
      let is = below.chains in
      record {
        well = well;
        slots = λ number. slot_on number (named_by first_tag_of d number) (is.slots number);
        quotas = λ number at names. by_chain number at (files at) (is.quotas number at names);
        indexed = is.indexed;
        used = is.used;
        named = is.named;
        to_do = is.to_do;
        listed = is.listed;
        tag_pages = λ home on. let found = is.tag_pages home on in (found.0, empty found.0 found.1);
      }
    where
      by_chain : (number : ℕ) (at : CellAt) (o : Option (List PlacedCell)) → IsSomeAnd o (AreQuotasOf d number at) → IsSomeAnd o (AreQuotasOf (freed d) number at)
      by_chain number at None are = absurd are
      by_chain number at (Some chain) are = record { quotas = are.quotas; of = are.of; once = are.once }

  -- ---- what pages are held for

  owned : HoldsOwned (freed d) files indexes
  owned = record {
    once = below.owned.once;
    spaces = λ vol low. subst (AreHeldAt (freed d) files indexes vol) (sym (volume_of-changed with_none_waiting d.space vol)) (by_volume vol (volume_of d.space vol) (below.owned.spaces vol low));
  }
    where
      by_volume : (vol : ℕ) (o : Option VolumeSpace) → AreHeldAt d files indexes vol o → AreHeldAt (freed d) files indexes vol (option_map with_none_waiting o)
      by_volume vol None is = is
      by_volume vol (Some v) is = (
        is.0,
        record {
          count = is.1.count;
          opened = is.1.opened;
          free = λ page within. (
            (λ unused. (unheld_page vol v page is within (sym (contains-without_waiting v.used v.waiting page) ∙ unused), refl)),
            (λ f. contains-without_waiting v.used v.waiting page ∙ by_waiting page within f.0 (is_among v.waiting page) refl),
          );
          waits = λ page waits. absurd (true≢false (sym waits));
        },
      )
        where
          by_waiting : (page : ℕ) → page < v.pages → IsUnheld d files indexes (record { vol = vol; page = page }) → (waits : Bool) → is_among v.waiting page ≡ waits → (contains v.used page && not (is_among v.waiting page)) ≡ false
          by_waiting page within unheld true waits = ap (λ (b : Bool). contains v.used page && not b) waits ∙ and_false (contains v.used page)
            where
              and_false : (b : Bool) → (b && false) ≡ false
              and_false true = refl
              and_false false = refl
          by_waiting page within unheld false waits = ap (λ (b : Bool). b && not (is_among v.waiting page)) ((is.1.free page within).1 (unheld, waits))

  pub below_freed : StandsBelow (freed d) files indexes
  below_freed =
      let t = below.tables in
      let r = below.rest in
      record {
        tables = record { laid = record { version = t.laid.version; table = t.laid.table; cells = t.laid.cells; tags = t.laid.tags }; log = t.log; few = t.few; may = t.may; volumes = λ vol member. let v = t.volumes vol member in record { cell = v.cell; stands = v.stands; says = v.says }; cells = t.cells };
        chains = chains;
        owned = owned;
        rest = record {
          kinds = r.kinds;
          firsts = r.firsts;
          births = λ at cell value of. r.births at cell value (record { number = of.number; original = of.original; tag = of.tag; leads = of.leads });
          holes = r.holes;
        };
      }

  -- ---- filesets

  together : (number : ℕ) (places : List TagPlace) (its : Chains) → AreTogether number places d.space d.cells d.pages its → AreTogether number places (freed d).space d.cells d.pages its
  together number places its is = record {
    files = is.files;
    allocated = allocated;
    on_tables = is.on_tables;
    tag_pages = λ home has. apart d home (is.tag_pages home has);
    file_pages = λ tag page home stands. file_page d places home (is.file_pages tag page home stands);
    once = is.once;
  }

  set_on : (number : ℕ) (places : List TagPlace) (shown : Bitfiles) → StandsAsSet number places d.space d.cells d.pages shown → StandsAsSet number places (freed d).space d.cells d.pages shown
  set_on number places shown is = record {
    chains = is.chains;
    indexes = is.indexes;
    stands = record {
      together = together number places is.chains is.stands.together;
      shows = is.stands.shows;
      indexed = is.stands.indexed;
      stand = λ tag home inside. file_page d places home (is.stands.stand tag home inside);
      apart = is.stands.apart;
      once = is.stands.once;
    };
    whole = is.whole;
    bare = is.bare;
    low = is.low;
  }

  pub slots_freed : (all : FilesetMap) → StandSlots d all → StandSlots (freed d) all
  slots_freed all is = record {
    shapes = is.shapes;
    are = is.are;
    filled = is.filled;
    sets = λ number entry shape item named. set_on number (d.tags number) shape.shown (is.sets number entry shape item named);
    no_clone = is.no_clone;
  }
