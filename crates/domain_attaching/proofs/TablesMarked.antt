-- Pages of tables that are marked.
use Rattle.std.proofs.Common.{◌≡◌, ◌∙◌, ◌⊎◌, ◌↔◌, ◌+◌, ◌-◌, ◌<◌, ◌≤◌, ℕ, Bool, true, false, List, [], Vec, Global, length, get_or, get_or-set_other, get_or-set_same, replicate, set, Option, Some, None, IsSomeAnd, inl, inr, sym, ap, subst, arith, ⊎_elim}
use Rattle.std.specs.Prelude.{Contains, map, slice_get}
use Rattle.std.specs.Option.{option_map_or}
use Rattle.std.proofs.lemmas.Bool.{both_ways, cases_eq, cases_lt}
use Rattle.std.proofs.lemmas.List.{get_or-replicate, length-replicate, length-set}
use Rattle.std.proofs.lemmas.Option.{slice_get-get_or, slice_get_past}
use Rattle.attached_domain.specs.domain_base.declared.place.Home.{Home}
use Rattle.attached_domain.specs.disk_label.declared.anchor.Anchor.{Anchor}
use Rattle.attached_domain.specs.log_ring.Homes.{member_of}
use Rattle.attached_domain.specs.domain_layout.Layout.{Layout}
use Rattle.domain_attaching.specs.Tables.{AreTables, AreTablesOn, HasMarksFor, HasMarksOn, HasTablesOn, HasTagPage, IsTableHome, Marks}
use Rattle.domain_attaching.specs.declared.tables.TablePages.{TablePages}
use Rattle.domain_attaching.proofs.Marked.{AreEach, contains_nothing, each_at, marks_as, marks_none, marks_then}

nothing : (list : List Home) (home : Home) → list ≡ [] → Contains list home → ⊥
nothing list home none has = contains_nothing home (subst (λ l. Contains l home) none has)

-- ---- tag directories

-- those of the slots below a number
abbrev pub HasTagPageBelow : Layout → ℕ → ℕ → ℕ → Type 0
HasTagPageBelow layout vol n k = (number : ℕ) × (number < n) × HasTagPage layout number (record { vol = vol; page = k })

module _ (layout : Layout) (vol : ℕ) where
  pub no_slots : (marks : List Bool) → Marks (HasTagPageBelow layout vol 0) marks marks
  no_slots marks = marks_none (HasTagPageBelow layout vol 0) marks (λ k has. let below = has.1 in omega (arith, below))

  pub one_slot_more : (n : ℕ) (old mid new : List Bool) → Marks (HasTagPageBelow layout vol n) old mid → Marks (λ k. HasTagPage layout n (record { vol = vol; page = k })) mid new → Marks (HasTagPageBelow layout vol (n + 1)) old new
  one_slot_more n old mid new some one =
      marks_as (λ k. HasTagPageBelow layout vol n k ⊎ HasTagPage layout n (record { vol = vol; page = k })) (HasTagPageBelow layout vol (n + 1)) old new
      (λ k either. ⊎_elim (λ has. let below = has.1 in (has.0, omega (arith, below), has.2)) (λ last. (n, omega arith, last)) either)
      (λ k has. ⊎_elim (λ less. inl (has.0, less, has.2)) (λ most. let below = has.1 in let at : has.0 ≡ n = omega (arith, most, below) in inr (subst (λ m. HasTagPage layout m (record { vol = vol; page = k })) at has.2)) (cases_lt has.0 n))
      (marks_then (HasTagPageBelow layout vol n) (λ k. HasTagPage layout n (record { vol = vol; page = k })) old mid new some one)

  pub all_slots : (n : ℕ) (old new : List Bool) → ((number : ℕ) → n ≤ number → layout.tags number ≡ []) → Marks (HasTagPageBelow layout vol n) old new → Marks (λ k. (number : ℕ) × HasTagPage layout number (record { vol = vol; page = k })) old new
  all_slots n old new none =
      marks_as (HasTagPageBelow layout vol n) (λ k. (number : ℕ) × HasTagPage layout number (record { vol = vol; page = k })) old new
      (λ k has. (has.0, has.2))
      (λ k has. ⊎_elim (λ less. (has.0, less, has.1)) (λ most. absurd (nothing (map (λ place. place.home) (layout.tags has.0)) (record { vol = vol; page = k }) (ap (map (λ place. place.home)) (none has.0 most)) has.1)) (cases_lt has.0 n))

-- ---- all tables

-- what is marked where nothing was
pub from_none : (P : ℕ → Type 0) (n : ℕ) (marks : List Bool) → Marks P (replicate n false) marks → (k : ℕ) → k < length marks → (get_or marks k false ≡ true) ↔ P k
from_none P n marks is k below =
    let size = is.count ∙ length-replicate n false in
    let within : k < n = subst (λ m. k < m) size below in
    let before : get_or (replicate n false) k false ≡ false = get_or-replicate n k false false within in
    let each = is.each k (subst (λ m. k < m) (sym (length-replicate n false)) within) in (
      λ marked. ⊎_elim (λ was. absurd (both_ways (get_or (replicate n false) k false) before was)) (λ p. p) (each.0 marked),
      λ p. each.1 (inr p),
    )

pub three_marked : (layout : Layout) (vol : ℕ) (old cells slots all : List Bool) → Marks (Contains (layout.cells vol)) old cells → Marks (λ k. (number : ℕ) × HasTagPage layout number (record { vol = vol; page = k })) cells slots
    → Marks (λ k. layout.anchor.table ≡ Some (record { vol = vol; page = k })) slots all → Marks (λ k. IsTableHome layout (record { vol = vol; page = k })) old all
three_marked layout vol old cells slots all one two three =
    let A : ℕ → Type 0 = λ k. Contains (layout.cells vol) k in
    let B : ℕ → Type 0 = λ k. (number : ℕ) × HasTagPage layout number (record { vol = vol; page = k }) in
    let C : ℕ → Type 0 = λ k. layout.anchor.table ≡ Some (record { vol = vol; page = k }) in
    marks_as (λ k. A k ⊎ (B k ⊎ C k)) (λ k. IsTableHome layout (record { vol = vol; page = k })) old all (λ k is. is) (λ k is. is)
    (marks_then A (λ k. B k ⊎ C k) old cells all one (marks_then B C cells slots all two three))

-- ---- the marks of one volume

module _ {X : Type 0} (xs : List X) (i : ℕ) (x : X) where
  set_here : (k : ℕ) → k ≡ i → i < length xs → slice_get (set xs i x) k ≡ Some x
  set_here k same within =
      subst (λ (j : ℕ). slice_get (set xs i x) j ≡ Some x) (sym same)
      (slice_get-get_or (set xs i x) i x (subst (λ (n : ℕ). i < n) (sym (length-set xs i x)) within) ∙ ap (λ (y : X). Some y) (get_or-set_same xs i x x within))

  pub set_other : (k : ℕ) → ¬ k ≡ i → slice_get (set xs i x) k ≡ slice_get xs k
  set_other k other =
      let size = length-set xs i x in
      ⊎_elim
      (λ within. slice_get-get_or (set xs i x) k x (omega (arith, within, size)) ∙ ap (λ (y : X). Some y) (get_or-set_other xs i k x x other) ∙ sym (slice_get-get_or xs k x within))
      (λ past. slice_get_past (set xs i x) k (omega (arith, past, size)) ∙ sym (slice_get_past xs k past))
      (cases_lt k (length xs))

  within_there : (P : X → Type 0) (k : ℕ) → IsSomeAnd (slice_get xs k) P → k < length xs
  within_there P k some = ⊎_elim (λ within. within) (λ past. absurd (none (slice_get_past xs k past))) (cases_lt k (length xs))
    where
      none : slice_get xs k ≡ None → ⊥
      none is = subst (λ (o : Option X). IsSomeAnd o P) is some

  -- what is so of an element that is put is so of the one that is there then
  pub put_there : (P Q : X → Type 0) (k : ℕ) → k ≡ i → IsSomeAnd (slice_get xs k) P → Q x → IsSomeAnd (slice_get (set xs i x) k) Q
  put_there P Q k same some is =
      let within = within_there P k some in
      subst (λ (o : Option X). IsSomeAnd o Q) (sym (set_here k same (omega (arith, within, same)))) is

-- ---- those of all volumes

-- as many as an anchor has pages
abbrev pub HasCount : Anchor → ℕ → Vec Bool Global → Type 0
HasCount anchor k marks = length marks.items ≡ (member_of anchor (k + 1)).pages

pub counted_marks : (anchor : Anchor) (tables : TablePages) → AreEach (HasCount anchor) tables.volumes.items → 8 ≤ length tables.volumes.items → HasMarksFor anchor tables
counted_marks anchor tables each eight vol first last =
    let at : vol - 1 + 1 ≡ vol = omega (arith, first) in
    subst (λ (v : ℕ). IsSomeAnd (slice_get tables.volumes.items (vol - 1)) (λ marks. length marks.items ≡ (member_of anchor v).pages)) at
    (each_at (HasCount anchor) tables.volumes.items (vol - 1) each (omega (arith, first, last, eight)))

-- one volume is marked, and the others are left
module _ (layout : Layout) (old new : TablePages) (vol : ℕ) (first : 1 ≤ vol) (others : (k : ℕ) → ¬ k ≡ vol - 1 → slice_get new.volumes.items k ≡ slice_get old.volumes.items k) where
  still : (P : Vec Bool Global → Type 0) (v : ℕ) → 1 ≤ v → ¬ v ≡ vol → IsSomeAnd (slice_get old.volumes.items (v - 1)) P → IsSomeAnd (slice_get new.volumes.items (v - 1)) P
  still P v low apart = subst (λ (o : Option (Vec Bool Global)). IsSomeAnd o P) (sym (others (v - 1) (λ same. apart (omega (arith, same, low, first)))))

  pub marks_still : HasMarksFor layout.anchor old → HasMarksOn layout.anchor new vol → HasMarksFor layout.anchor new
  marks_still all here v low high =
      ⊎_elim (λ same. subst (λ (u : ℕ). HasMarksOn layout.anchor new u) (sym same) here)
      (λ apart. still (λ marks. length marks.items ≡ (member_of layout.anchor v).pages) v low apart (all v low high))
      (cases_eq v vol)

  pub one_volume_more : ((v : ℕ) → 1 ≤ v → v < vol → HasTablesOn layout old v) → HasTablesOn layout new vol → (v : ℕ) → 1 ≤ v → v < vol + 1 → HasTablesOn layout new v
  one_volume_more before here v low below =
      ⊎_elim (λ same. subst (λ (u : ℕ). HasTablesOn layout new u) (sym same) here)
      (λ apart. still (λ marks. AreTablesOn layout v marks.items) v low apart (before v low (omega (arith, below, apart))))
      (cases_eq v vol)

pub tables_marked : (layout : Layout) (tables : TablePages) → HasMarksFor layout.anchor tables → ((vol : ℕ) → 1 ≤ vol → vol ≤ 8 → HasTablesOn layout tables vol) → AreTables layout tables
tables_marked layout tables all each home first last within = by_marks (slice_get tables.volumes.items (home.vol - 1)) (all home.vol first last) (each home.vol first last)
  where
    by_marks : (o : Option (Vec Bool Global)) → IsSomeAnd o (λ marks. length marks.items ≡ (member_of layout.anchor home.vol).pages) → IsSomeAnd o (λ marks. AreTablesOn layout home.vol marks.items)
        → (option_map_or (λ marks. get_or marks.items home.page false) o false ≡ true) ↔ IsTableHome layout home
    by_marks None count on = absurd count
    by_marks (Some marks) count on = on home.page (subst (λ (n : ℕ). home.page < n) (sym count) within)
