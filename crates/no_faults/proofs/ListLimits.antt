-- Where no rule of tables is broken, nothing is said of an owner twice in a chain of quota cells.
use Rattle.std.proofs.Common.{◌≡◌, ◌∙◌, inl, inr, ℕ, zero, suc, ◌+◌, ◌*◌, ◌^◌, ◌<◌, true, false, List, [], ◌∷◌, ◌++◌, Option, Some, None, Contains, refl, sym, ap, arith, ⊎_elim}
use Rattle.std.proofs.lemmas.Bool.{cases_Bool}
use Rattle.std.specs.List.{AllByRecursion, IsDistinct, cons_option}
use Rattle.domain_memory.specs.domain_base.declared.place.CellAt.{CellAt}
use Rattle.domain_memory.specs.page_store.Pages.{Pages}
use Rattle.domain_memory.specs.cell_records.Records.{kind_of}
use Rattle.domain_memory.specs.cell_records.declared.record.Record.{Record}
use Rattle.domain_memory.specs.cell_records.declared.record.Record.TheVariants as written
use Rattle.domain_memory.specs.metadata_cells.Cell.{AreRising, id_of, place_of}
use Rattle.domain_memory.specs.metadata_cells.Chain.{Follow, PlacedCell, StandsAt, records_of}
use Rattle.domain_memory.specs.metadata_cells.declared.head.CellKind.TheVariants.{Quota}
use Rattle.domain_memory.specs.fileset_values.declared.command.Owner.{Owner}
use Rattle.domain_memory.specs.fileset_values.declared.command.Owner.TheVariants.{Group, User}
use Rattle.domain_memory.specs.fileset_model.declared.fileset.Limits.{Limits}
use Rattle.domain_memory.specs.quota_book.Owners.{same_owner}
use Rattle.domain_memory.specs.quota_book.QuotaCells.{AreOnce, limits_said, said_by}
use Rattle.domain_memory.proofs.OfQuotaBook.Cells.{same_is}
use Rattle.domain_memory.specs.domain_layout.CellRules.{Follows, IsChainHead, Link}
use Rattle.domain_memory.specs.domain_layout.Faults.{HasNoTablesFault}
use Rattle.domain_memory.specs.domain_layout.Layout.{IsLayout, Layout}
use Rattle.domain_memory.specs.domain_layout.Owners.{IsOnTable, frame_of}
use Rattle.domain_memory.proofs.OfDomainLayout.Named.{follows_on, link_to, no_cell}
use Rattle.domain_memory.proofs.OfDomainLayout.OnePage.{some_same}
use Rattle.domain_memory.proofs.OfDomainLayout.OwnedOnce.{used_on}
use Rattle.no_faults.proofs.Begun.{nowhere}
use Rattle.no_faults.proofs.Searched.{in_front}
use Rattle.no_faults.proofs.Walked.{IsOnWay}

-- ---- records of one owner

abbrev kind_by : Owner → ℕ
kind_by (User id) = 7
kind_by (Group id) = 8
kind_by _ = 0

abbrev id_by : Owner → ℕ
id_by (User id) = id
id_by (Group id) = id
id_by _ = 0

said_of : (r : Record) (e : Owner × Limits) → limits_said r ≡ Some e → (kind_of r ≡ kind_by e.0) × (id_of r ≡ id_by e.0)
said_of (written.UserQuota id files blocks) e is =
    let same : User id ≡ e.0 = ap (λ (x : Owner × Limits). x.0) (some_same (User id, record { files = files; blocks = blocks }) e is) in (ap kind_by same, ap id_by same)
said_of (written.GroupQuota id files blocks) e is =
    let same : Group id ≡ e.0 = ap (λ (x : Owner × Limits). x.0) (some_same (Group id, record { files = files; blocks = blocks }) e is) in (ap kind_by same, ap id_by same)
said_of r e is = nowhere e is

-- of one kind and one number
abbrev pub Clash : Record → Record → Type 0
Clash r s = (kind_of r ≡ kind_of s) × (id_of r ≡ id_of s)

one_owner : (r s : Record) (a b : Owner × Limits) → limits_said r ≡ Some a → limits_said s ≡ Some b → same_owner a.0 b.0 ≡ true → Clash r s
one_owner r s a b one other same =
    let of_r = said_of r a one in
    let of_s = said_of s b other in
    let who : a.0 ≡ b.0 = same_is a.0 b.0 same in
    (of_r.0 ∙ ap kind_by who ∙ sym of_s.0, of_r.1 ∙ ap id_by who ∙ sym of_s.1)

-- no two of the records are
abbrev AllApart : List Record → Type 0
AllApart [] = Unit {0}
AllApart (r ∷ rs) = AllByRecursion (λ s. ¬ Clash r s) rs × AllApart rs

others_said : (r : Record) (e : Owner × Limits) → limits_said r ≡ Some e → (ss : List Record) → AllByRecursion (λ s. ¬ Clash r s) ss
    → AllByRecursion (λ (y : Owner × Limits). same_owner e.0 y.0 ≡ false) (said_by ss)
others_said r e said [] all = tt
others_said r e said (s ∷ ss) all = by_next (others_said r e said ss all.1) (limits_said s) refl
  where
    by_next : AllByRecursion (λ (y : Owner × Limits). same_owner e.0 y.0 ≡ false) (said_by ss)
        → (o : Option (Owner × Limits)) → limits_said s ≡ o → AllByRecursion (λ (y : Owner × Limits). same_owner e.0 y.0 ≡ false) (cons_option o (said_by ss))
    by_next rest None also = rest
    by_next rest (Some f) also = (⊎_elim (λ same. absurd (all.0 (one_owner r s e f said also same))) (λ other. other) (cases_Bool (same_owner e.0 f.0)), rest)

once_by : (rs : List Record) → AllApart rs → AreOnce (said_by rs)
unfolding IsDistinct
once_by [] all = tt
once_by (r ∷ rs) all = by_said (limits_said r) refl (once_by rs all.1)
  where
    by_said : (o : Option (Owner × Limits)) → limits_said r ≡ o → AreOnce (said_by rs) → AreOnce (cons_option o (said_by rs))
    by_said None said once = once
    by_said (Some e) said once = (others_said r e said rs all.0, once)

-- ---- lists of records

all_both : {X : Type 0} (P : X → Type 0) (xs ys : List X) → AllByRecursion P xs → AllByRecursion P ys → AllByRecursion P (xs ++ ys)
all_both P [] ys first second = second
all_both P (x ∷ xs) ys first second = (first.0, all_both P xs ys first.1 second)

apart_both : (xs ys : List Record) → AllApart xs → AllApart ys → AllByRecursion (λ x. AllByRecursion (λ y. ¬ Clash x y) ys) xs → AllApart (xs ++ ys)
apart_both [] ys first second across = second
apart_both (x ∷ xs) ys first second across = (all_both (λ y. ¬ Clash x y) xs ys first.0 across.0, apart_both xs ys first.1 second across.1)

by_each : {X : Type 0} (P : X → Type 0) (xs : List X) → ((x : X) → Contains xs x → P x) → AllByRecursion P xs
by_each P [] each = tt
by_each P (x ∷ xs) each = (each x (0, omega arith, refl), by_each P xs (λ y among. each y (in_front x y xs among)))

above : (place : ℕ) (rs : List Record) → AreRising place rs → AllByRecursion (λ s. place < place_of s) rs
above place [] rising = tt
above place (r ∷ rs) rising = (rising.0, higher rs (above (place_of r) rs rising.1))
  where
    higher : (ss : List Record) → AllByRecursion (λ s. place_of r < place_of s) ss → AllByRecursion (λ s. place < place_of s) ss
    higher [] all = tt
    higher (s ∷ ss) all = (omega (arith, rising.0, all.0), higher ss all.1)

-- records of one cell
rising_apart : (place : ℕ) (rs : List Record) → AreRising place rs → AllApart rs
rising_apart place [] rising = tt
rising_apart place (r ∷ rs) rising = (differ rs (above (place_of r) rs rising.1), rising_apart (place_of r) rs rising.1)
  where
    no_clash : (s : Record) → place_of r < place_of s → ¬ Clash r s
    no_clash s less clash = let same : place_of r ≡ place_of s = (λ i. 2 ^ 32 * clash.0 i + clash.1 i) in omega (arith, less, same)

    differ : (ss : List Record) → AllByRecursion (λ s. place_of r < place_of s) ss → AllByRecursion (λ s. ¬ Clash r s) ss
    differ [] all = tt
    differ (s ∷ ss) all = (no_clash s all.0, differ ss all.1)

-- a record of one cell, and those of others
to_records : (r : Record) (cs : List PlacedCell) → AllByRecursion (λ (d : PlacedCell). (s : Record) → Contains d.cell.records s → ¬ Clash r s) cs → AllByRecursion (λ s. ¬ Clash r s) (records_of cs)
to_records r [] all = tt
to_records r (d ∷ ds) all = all_both (λ s. ¬ Clash r s) d.cell.records (records_of ds) (by_each (λ s. ¬ Clash r s) d.cell.records all.0) (to_records r ds all.1)

for_one : (e : PlacedCell) (r : Record) → Contains e.cell.records r → (cs : List PlacedCell)
    → AllByRecursion (λ (d : PlacedCell). (r s : Record) → Contains e.cell.records r → Contains d.cell.records s → ¬ Clash r s) cs
    → AllByRecursion (λ (d : PlacedCell). (s : Record) → Contains d.cell.records s → ¬ Clash r s) cs
for_one e r among [] all = tt
for_one e r among (d ∷ ds) all = ((λ s in_d. all.0 r s among in_d), for_one e r among ds all.1)

in_more : (passed : List CellAt) (x at : CellAt) → Contains passed at → Contains (passed ++ x ∷ []) at
in_more [] x at (k, within, is) = absurd (omega (arith, within))
in_more (y ∷ ys) x at (zero, within, is) = (zero, omega arith, is)
in_more (y ∷ ys) x at (suc k, within, is) = in_front y at (ys ++ x ∷ []) (in_more ys x at (k, omega (arith, within), is))

last_in : (passed : List CellAt) (x : CellAt) → Contains (passed ++ x ∷ []) x
last_in [] x = (0, omega arith, refl)
last_in (y ∷ ys) x = in_front y x (ys ++ x ∷ []) (last_in ys x)

-- ---- cells of a chain

module _ (pages : Pages) (layout : Layout) (laid : IsLayout pages layout) (none : HasNoTablesFault pages (frame_of layout)) (start : CellAt) (first : Link)
    (head : ¬ ¬ IsChainHead pages (frame_of layout) start first) (kind : first.kind ≡ Quota) where
  next_on : (passed : List CellAt) (c d : PlacedCell) → ¬ ¬ Follows pages (frame_of layout) start passed c.at (link_to c.cell) → c.cell.head.next ≡ Some d.at → StandsAt pages d.at d.cell
      → ¬ ¬ Follows pages (frame_of layout) start (passed ++ c.at ∷ []) d.at (link_to d.cell)
  next_on passed c d on leads stands alone =
      head (λ h. on (λ follows. follows_on pages layout laid none start first h passed c.at d.at c.cell d.cell follows leads stands alone))

  across : (e : PlacedCell) → IsOnTable pages layout e.at e.cell → (passed : List CellAt) (c : PlacedCell) → ¬ ¬ Follows pages (frame_of layout) start passed c.at (link_to c.cell)
      → Contains (passed ++ c.at ∷ []) e.at → (cs : List PlacedCell) → Follow pages c.cell.head cs → AllByRecursion (IsOnWay pages layout start) cs
      → AllByRecursion (λ (d : PlacedCell). (r s : Record) → Contains e.cell.records r → Contains d.cell.records s → ¬ Clash r s) cs
  across e on_e passed c on among [] follow all = tt
  across e on_e passed c on among (d ∷ ds) (leads, may, stands, more) all =
      let on_d = next_on passed c d on leads stands in (
        (λ r s in_e in_d clash. head (λ h. on_d (λ follows.
            no_cell pages layout laid none d.at (inr (inr (inr (inr (inr (inr (inl (record {
              first = first;
              early = e.cell;
              late = d.cell;
              chain = record {
                start = start;
                is_head = h;
                passed = passed ++ c.at ∷ [];
                link = link_to d.cell;
                follows = follows;
                late_is = used_on pages layout laid none d.at d.cell all.0.on;
                before = e.at;
                among = among;
                early_is = used_on pages layout laid none e.at e.cell on_e;
              };
              quotas = kind;
              one = r;
              other = s;
              in_early = in_e;
              in_late = in_d;
              kinds = clash.0;
              ids = clash.1;
            }))))))))))),
        across e on_e (passed ++ c.at ∷ []) d on_d (in_more (passed ++ c.at ∷ []) d.at e.at among) ds more all.1,
      )

  one_apart : (passed : List CellAt) (c : PlacedCell) → ¬ ¬ Follows pages (frame_of layout) start passed c.at (link_to c.cell) → (cs : List PlacedCell) → Follow pages c.cell.head cs
      → AllByRecursion (IsOnWay pages layout start) (c ∷ cs) → AllApart (records_of cs) → AllApart (records_of (c ∷ cs))
  one_apart passed c on cs follow all rest =
      apart_both c.cell.records (records_of cs) (rising_apart 0 c.cell.records all.0.on.stands.is.well_formed.rising) rest
      (by_each (λ r. AllByRecursion (λ s. ¬ Clash r s) (records_of cs)) c.cell.records
      (λ r among. to_records r cs (for_one c r among cs (across c all.0.on passed c on (last_in passed c.at) cs follow all.1))))

  all_apart : (passed : List CellAt) (c : PlacedCell) → ¬ ¬ Follows pages (frame_of layout) start passed c.at (link_to c.cell) → (cs : List PlacedCell) → Follow pages c.cell.head cs
      → AllByRecursion (IsOnWay pages layout start) (c ∷ cs) → AllApart (records_of (c ∷ cs))
  all_apart passed c on [] follow all = one_apart passed c on [] follow all tt
  all_apart passed c on (d ∷ ds) (leads, may, stands, more) all =
      one_apart passed c on (d ∷ ds) (leads, may, stands, more) all (all_apart (passed ++ c.at ∷ []) d (next_on passed c d on leads stands) ds more all.1)

  pub limits_once : (c : PlacedCell) → ¬ ¬ Follows pages (frame_of layout) start [] c.at (link_to c.cell) → (cs : List PlacedCell) → Follow pages c.cell.head cs
      → AllByRecursion (IsOnWay pages layout start) (c ∷ cs) → AreOnce (said_by (records_of (c ∷ cs)))
  limits_once c on cs follow all = once_by (records_of (c ∷ cs)) (all_apart [] c on cs follow all)
