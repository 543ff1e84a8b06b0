-- A file's chain with another record in a cell, or without a later cell.
use Rattle.std.proofs.Common.{◌≡◌, ◌∙◌, ℕ, zero, suc, true, List, [], ◌∷◌, ◌++◌, map, Some, Contains, refl, sym, ap, subst, arith}
use Rattle.std.proofs.lemmas.Bool.{true≢false}
use Rattle.std.specs.List.{AllByRecursion}
use Rattle.fileset_files.specs.domain_base.declared.place.CellAt.{CellAt}
use Rattle.fileset_files.specs.page_store.Pages.{Pages}
use Rattle.fileset_files.specs.cell_records.declared.record.Record.{Record}
use Rattle.fileset_files.specs.cell_records.Records.{kind_of}
use Rattle.fileset_files.specs.metadata_cells.declared.head.CellHead.{CellHead}
use Rattle.fileset_files.specs.metadata_cells.declared.head.CellKind.{CellKind}
use Rattle.fileset_files.specs.metadata_cells.declared.head.CellKind.TheVariants.{Primary, Chain, Quota, Volume}
use Rattle.fileset_files.specs.metadata_cells.Chain.{AreDistinct, Follow, PlacedCell, StandsAt, may_follow, places, records_of}
use Rattle.fileset_files.specs.extent_records.Rows.{AreOneMap}
use Rattle.fileset_files.specs.extent_records.Writing.{IsMapRecord}
use Rattle.fileset_files.specs.file_chains.Changes.{with_record}
use Rattle.fileset_files.specs.file_chains.FileChanges.{SameFirst}
use Rattle.fileset_files.specs.file_chains.Files.{HasMap, IsFile, IsMapCell}
use Rattle.fileset_files.proofs.OfFileChains.ChainChanges.{in_first, in_later}
use Rattle.fileset_files.proofs.OfFileChains.MapRecords.{rows_kind, value_has_rows}
use Rattle.fileset_files.proofs.OfFileChains.OneRecord.{has_after, map_cell_after, only_after, others_same, still_found}
use Rattle.fileset_files.proofs.OneChain.{follow_by}
use Rattle.file_release.specs.Steps.{AllStand}

-- ---- places

pub places_same : (front : List PlacedCell) (c d : PlacedCell) (rest : List PlacedCell) → c.at ≡ d.at → places (front ++ c ∷ rest) ≡ places (front ++ d ∷ rest)
places_same [] c d rest same = ap (λ (a : CellAt). a ∷ places rest) same
places_same (f ∷ front) c d rest same = ap (λ (ps : List CellAt). f.at ∷ ps) (places_same front c d rest same)

-- what stands in a list without a cell stands in it
pub in_more : (front : List PlacedCell) (c : PlacedCell) (rest : List PlacedCell) (at : CellAt) → Contains (places (front ++ rest)) at → Contains (places (front ++ c ∷ rest)) at
in_more [] c rest at inside = in_later at c rest inside
in_more (f ∷ front) c rest at (zero, within, is) = in_first at f (front ++ c ∷ rest) is
in_more (f ∷ front) c rest at (suc k, within, is) = in_later at f (front ++ c ∷ rest) (in_more front c rest at (k, omega (arith, within), is))

-- and the other way round, but for that cell
pub in_less : (front : List PlacedCell) (c : PlacedCell) (rest : List PlacedCell) (at : CellAt) → Contains (places (front ++ c ∷ rest)) at → ¬ c.at ≡ at → Contains (places (front ++ rest)) at
in_less [] c rest at (zero, within, is) other = absurd (other is)
in_less [] c rest at (suc k, within, is) other = (k, omega (arith, within), is)
in_less (f ∷ front) c rest at (zero, within, is) other = in_first at f (front ++ rest) is
in_less (f ∷ front) c rest at (suc k, within, is) other = in_later at f (front ++ rest) (in_less front c rest at (k, omega (arith, within), is) other)

pub in_front : (front : List PlacedCell) (rest : List PlacedCell) (at : CellAt) → Contains (places front) at → Contains (places (front ++ rest)) at
in_front [] rest at inside = absurd (omega (arith, inside.1))
in_front (f ∷ front) rest at (zero, within, is) = in_first at f (front ++ rest) is
in_front (f ∷ front) rest at (suc k, within, is) = in_later at f (front ++ rest) (in_front front rest at (k, omega (arith, within), is))

pub in_back : (front : List PlacedCell) (rest : List PlacedCell) (at : CellAt) → Contains (places rest) at → Contains (places (front ++ rest)) at
in_back [] rest at inside = inside
in_back (f ∷ front) rest at inside = in_later at f (front ++ rest) (in_back front rest at inside)

pub in_middle : (front : List PlacedCell) (c : PlacedCell) (rest : List PlacedCell) → Contains (places (front ++ c ∷ rest)) c.at
in_middle front c rest = in_back front (c ∷ rest) c.at (in_first c.at c rest refl)

-- ---- no cell twice

pub distinct_same : (front : List PlacedCell) (c d : PlacedCell) (rest : List PlacedCell) → c.at ≡ d.at → AreDistinct (front ++ c ∷ rest) → AreDistinct (front ++ d ∷ rest)
distinct_same [] c d rest same distinct = (subst (λ (a : CellAt). ¬ Contains (places rest) a) same distinct.0, distinct.1)
distinct_same (f ∷ front) c d rest same distinct = (
  (λ inside. distinct.0 (subst (λ (ps : List CellAt). Contains ps f.at) (sym (places_same front c d rest same)) inside)),
  distinct_same front c d rest same distinct.1,
)

pub distinct_less : (front : List PlacedCell) (c : PlacedCell) (rest : List PlacedCell) → AreDistinct (front ++ c ∷ rest) → AreDistinct (front ++ rest)
distinct_less [] c rest distinct = distinct.1
distinct_less (f ∷ front) c rest distinct = ((λ inside. distinct.0 (in_more front c rest f.at inside)), distinct_less front c rest distinct.1)

-- the cell in the middle is none of the others
pub fresh_front : (front : List PlacedCell) (c : PlacedCell) (rest : List PlacedCell) → AreDistinct (front ++ c ∷ rest) → ¬ Contains (places front) c.at
fresh_front [] c rest distinct inside = omega (arith, inside.1)
fresh_front (f ∷ front) c rest distinct (zero, within, is) = distinct.0 (subst (λ (a : CellAt). Contains (places (front ++ c ∷ rest)) a) (sym is) (in_middle front c rest))
fresh_front (f ∷ front) c rest distinct (suc k, within, is) = fresh_front front c rest distinct.1 (k, omega (arith, within), is)

pub fresh_rest : (front : List PlacedCell) (c : PlacedCell) (rest : List PlacedCell) → AreDistinct (front ++ c ∷ rest) → ¬ Contains (places rest) c.at
fresh_rest [] c rest distinct = distinct.0
fresh_rest (f ∷ front) c rest distinct = fresh_rest front c rest distinct.1

-- ---- properties of all

pub all_front : (P : PlacedCell → Type 0) (xs ys : List PlacedCell) → AllByRecursion P (xs ++ ys) → AllByRecursion P xs
all_front P [] ys all = tt
all_front P (x ∷ xs) ys all = (all.0, all_front P xs ys all.1)

pub all_back : (P : PlacedCell → Type 0) (xs ys : List PlacedCell) → AllByRecursion P (xs ++ ys) → AllByRecursion P ys
all_back P [] ys all = all
all_back P (x ∷ xs) ys all = all_back P xs ys all.1

pub all_join : (P : PlacedCell → Type 0) (xs ys : List PlacedCell) → AllByRecursion P xs → AllByRecursion P ys → AllByRecursion P (xs ++ ys)
all_join P [] ys all more = more
all_join P (x ∷ xs) ys all more = (all.0, all_join P xs ys all.1 more)

-- ---- what follows what

-- with another tail
follow_tail : (old new : Pages) (front xs ys : List PlacedCell) → AllStand new front → ((h : CellHead) → Follow old h xs → Follow new h ys) → (h : CellHead) → Follow old h (front ++ xs) → Follow new h (front ++ ys)
follow_tail old new [] xs ys stand tail h follow = tail h follow
follow_tail old new (f ∷ front) xs ys stand tail h follow = (follow.0, follow.1, stand.0, follow_tail old new front xs ys stand.1 tail f.cell.head follow.3)

follows_first : (k : CellKind) → may_follow Chain k ≡ true → may_follow Primary k ≡ true
follows_first Primary is = is
follows_first Chain is = refl
follows_first Quota is = is
follows_first Volume is = is

skip_kind : (a b c : CellKind) → may_follow a b ≡ true → may_follow b c ≡ true → may_follow a c ≡ true
skip_kind Primary Chain c x y = follows_first c y
skip_kind Chain Chain c x y = y
skip_kind Quota Quota c x y = y
skip_kind Primary Primary c x y = absurd (true≢false (sym x))
skip_kind Primary Quota c x y = absurd (true≢false (sym x))
skip_kind Primary Volume c x y = absurd (true≢false (sym x))
skip_kind Chain Primary c x y = absurd (true≢false (sym x))
skip_kind Chain Quota c x y = absurd (true≢false (sym x))
skip_kind Chain Volume c x y = absurd (true≢false (sym x))
skip_kind Quota Primary c x y = absurd (true≢false (sym x))
skip_kind Quota Chain c x y = absurd (true≢false (sym x))
skip_kind Quota Volume c x y = absurd (true≢false (sym x))
skip_kind Volume Primary c x y = absurd (true≢false (sym x))
skip_kind Volume Chain c x y = absurd (true≢false (sym x))
skip_kind Volume Quota c x y = absurd (true≢false (sym x))
skip_kind Volume Volume c x y = absurd (true≢false (sym x))

-- what followed a cell follows the one before it
skip_cell : (old new : Pages) (b : CellHead) (c : CellHead) (rest : List PlacedCell) → may_follow b.kind c.kind ≡ true → AllStand new rest → Follow old c rest → Follow new (record b { next = c.next }) rest
skip_cell old new b c [] kinds stand follow = follow
skip_cell old new b c (r ∷ rest) kinds stand follow = (follow.0, skip_kind b.kind c.kind r.cell.head.kind kinds follow.1, stand.0, follow_by new old r.cell.head rest stand.1 follow.3)

-- ---- the chains

pub record Stays (start : CellAt) (new : Pages) (chain after : List PlacedCell) : Type 0 where
  pub is_file : IsFile new start after
  pub first : SameFirst chain after

-- a cell has another record of the same kind
module _ (old new : Pages) (start : CellAt) (c : PlacedCell) (rest : List PlacedCell) (value after : Record) (has : HasMap c.cell value) (is_map : IsMapRecord after) (same : kind_of after ≡ kind_of value) where
  abbrev pub cell_now : PlacedCell
  cell_now = record { at = c.at; cell = with_record (kind_of value) (Some after) c.cell }

  pub rewritten : (front : List PlacedCell) → IsFile old start (front ++ c ∷ rest) → AllStand new front → StandsAt new c.at cell_now.cell → AllStand new rest → AreOneMap (records_of (front ++ cell_now ∷ rest)) → Stays start new (front ++ c ∷ rest) (front ++ cell_now ∷ rest)
  rewritten [] is stand stands later one = record {
    is_file = (
      is.0,
      record {
        links = record { stands = stands; follow = follow_by new old c.cell.head rest later is.1.links.follow; distinct = is.1.links.distinct };
        primary = is.1.primary;
        attributes = still_found value after is_map same 1 c.cell.records (rows_kind value (value_has_rows value has.is_map)) is.1.attributes;
        value = after;
        map = has_after value after is_map same c.cell has;
        others = is.1.others;
        one_map = one;
      },
    );
    first = (
      refl,
      refl,
      others_same value after is_map same c.cell.records is.1.links.stands.is.well_formed,
      ap (map kind_of) (only_after value after is_map same c.cell.records has.only) ∙ ap (λ (k : ℕ). k ∷ []) same ∙ sym (ap (map kind_of) has.only),
    );
  }
  rewritten (f ∷ front) is stand stands later one = record {
    is_file = (
      is.0,
      record {
        links = record {
          stands = stand.0;
          follow = follow_tail old new front (c ∷ rest) (cell_now ∷ rest) stand.1 (λ h follow. (follow.0, follow.1, stands, follow_by new old c.cell.head rest later follow.3)) f.cell.head is.1.links.follow;
          distinct = distinct_same (f ∷ front) c cell_now rest refl is.1.links.distinct;
        };
        primary = is.1.primary;
        attributes = is.1.attributes;
        value = is.1.value;
        map = is.1.map;
        others = let both = all_back (λ (c : PlacedCell). IsMapCell c.cell) front (c ∷ rest) is.1.others in
            all_join (λ (c : PlacedCell). IsMapCell c.cell) front (cell_now ∷ rest) (all_front (λ (c : PlacedCell). IsMapCell c.cell) front (c ∷ rest) is.1.others) (map_cell_after value after is_map same c.cell has both.0, both.1);
        one_map = one;
      },
    );
    first = (refl, refl, refl, refl);
  }

-- a later cell is left out
module _ (old new : Pages) (start : CellAt) (b c : PlacedCell) (rest : List PlacedCell) where
  abbrev pub before_now : PlacedCell
  before_now = record { at = b.at; cell = record b.cell { head = record b.cell.head { next = c.cell.head.next } } }

  pub unlinked : (front : List PlacedCell) → IsFile old start (front ++ b ∷ c ∷ rest) → AllStand new front → StandsAt new b.at before_now.cell → AllStand new rest → AreOneMap (records_of (front ++ before_now ∷ rest)) → Stays start new (front ++ b ∷ c ∷ rest) (front ++ before_now ∷ rest)
  unlinked [] is stand stands later one = record {
    is_file = (
      is.0,
      record {
        links = record {
          stands = stands;
          follow = skip_cell old new b.cell.head c.cell.head rest is.1.links.follow.1 later is.1.links.follow.3;
          distinct = ((λ inside. is.1.links.distinct.0 (in_later b.at c rest inside)), is.1.links.distinct.1.1);
        };
        primary = is.1.primary;
        attributes = is.1.attributes;
        value = is.1.value;
        map = record { only = is.1.map.only; is_map = is.1.map.is_map };
        others = is.1.others.1;
        one_map = one;
      },
    );
    first = (refl, refl, refl, refl);
  }
  unlinked (f ∷ front) is stand stands later one = record {
    is_file = (
      is.0,
      record {
        links = record {
          stands = stand.0;
          follow = follow_tail old new front (b ∷ c ∷ rest) (before_now ∷ rest) stand.1 (λ h follow. (follow.0, follow.1, stands, skip_cell old new b.cell.head c.cell.head rest follow.3.1 later follow.3.3)) f.cell.head is.1.links.follow;
          distinct = distinct_same (f ∷ front) b before_now rest refl (skip_distinct (f ∷ front) is.1.links.distinct);
        };
        primary = is.1.primary;
        attributes = is.1.attributes;
        value = is.1.value;
        map = is.1.map;
        others = let both = all_back (λ (c : PlacedCell). IsMapCell c.cell) front (b ∷ c ∷ rest) is.1.others in
            all_join (λ (c : PlacedCell). IsMapCell c.cell) front (before_now ∷ rest) (all_front (λ (c : PlacedCell). IsMapCell c.cell) front (b ∷ c ∷ rest) is.1.others)
            (record { value = both.0.value; only = both.0.only; is_map = both.0.is_map }, both.1.1);
        one_map = one;
      },
    );
    first = (refl, refl, refl, refl);
  }
    where
      skip_distinct : (front : List PlacedCell) → AreDistinct (front ++ b ∷ c ∷ rest) → AreDistinct (front ++ b ∷ rest)
      skip_distinct [] distinct = ((λ inside. distinct.0 (in_later b.at c rest inside)), distinct.1.1)
      skip_distinct (x ∷ front) distinct = ((λ inside. distinct.0 (skip_inside x front inside)), skip_distinct front distinct.1)
        where
          skip_inside : (x : PlacedCell) (front : List PlacedCell) → Contains (places (front ++ b ∷ rest)) x.at → Contains (places (front ++ b ∷ c ∷ rest)) x.at
          skip_inside x [] (zero, within, is) = in_first x.at b (c ∷ rest) is
          skip_inside x [] (suc k, within, is) = in_later x.at b (c ∷ rest) (in_later x.at c rest (k, omega (arith, within), is))
          skip_inside x (y ∷ ys) (zero, within, is) = in_first x.at y (ys ++ b ∷ c ∷ rest) is
          skip_inside x (y ∷ ys) (suc k, within, is) = in_later x.at y (ys ++ b ∷ c ∷ rest) (skip_inside x ys (k, omega (arith, within), is))
