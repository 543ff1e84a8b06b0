-- Types that have an element at hand as soon as it is known that there is one.
use Rattle.std.proofs.Common.{◌≡◌, ◌⊎◌, ◌<◌, ◌≤◌, ℕ, zero, suc, nat_eq, Bool, true, false, cond, Option, Some, None, IfSome, IsSome, IsSomeAnd, List, [], ◌∷◌, Contains, drop, get_or, inl, inr, refl, arith, ⊎_elim}
use Rattle.std.proofs.lemmas.Bool.{eq-eqb, eqb-true, both_ways}
use Rattle.std.proofs.Math.Logic.{∥∥₁_elim, ∥∥₁_map, ∥∥₁_prop}
use Rattle.std.specs.Coded.{Coded, Coded-set, code_by, coded×, coded_ℕ, coded_bool, coded_list, coded_option, le_prop}
use Rattle.std.specs.List.{AllByRecursion}
use Rattle.index_pages.specs.domain_base.declared.place.CellAt.{CellAt}
use Rattle.index_pages.specs.domain_base.declared.place.Home.{Home}
use Rattle.index_pages.specs.domain_base.declared.place.Kind.{Kind}
use Rattle.index_pages.specs.domain_base.declared.place.Kind.TheVariants.{Directory, File}
use Rattle.index_pages.specs.domain_base.declared.place.Tag.{Tag}
use Rattle.index_pages.specs.cell_records.declared.record.ExtentField.{ExtentField}
use Rattle.index_pages.specs.cell_records.declared.record.HoleField.{HoleField}
use Rattle.index_pages.specs.cell_records.declared.record.Leftover.{Leftover}
use Rattle.index_pages.specs.cell_records.declared.record.Leftover.TheVariants.{Remove, Trim}
use Rattle.index_pages.specs.cell_records.declared.record.Record.{Record}
use Rattle.index_pages.specs.cell_records.declared.record.Record.TheVariants as written
use Rattle.index_pages.specs.metadata_cells.declared.head.CellHead.{CellHead}
use Rattle.index_pages.specs.metadata_cells.declared.head.CellKind.{CellKind}
use Rattle.index_pages.specs.metadata_cells.declared.head.CellKind.TheVariants.{Chain, Primary, Quota, Volume}
use Rattle.index_pages.specs.metadata_cells.Cell.{Cell}
use Rattle.index_pages.specs.metadata_cells.Chain.{PlacedCell}
use Rattle.index_pages.specs.page_store.Bitfiles.{Bitfile}

abbrev pub IsStable : Type 0 → Type 0
IsStable A = ∥ A ∥₁ → A

pub prop : {A : Type 0} → IsProp A → IsStable A
prop p t = ∥∥₁_elim t p (λ a. a)

pub each : {X : Type 0} (B : X → Type 0) → ((x : X) → IsStable (B x)) → IsStable ((x : X) → B x)
each B s t x = s x (∥∥₁_map t (λ f. f x))

pub when : {A : Type 0} (B : Type 0) → IsStable B → IsStable (A → B)
when B s t a = s (∥∥₁_map t (λ f. f a))

pub both : {A B : Type 0} → IsStable A → IsStable B → IsStable (A × B)
both a b t = (a (∥∥₁_map t (λ p. p.0)), b (∥∥₁_map t (λ p. p.1)))

pub three : {A B C : Type 0} → IsStable A → IsStable B → IsStable C → IsStable (A × B × C)
three a b c t = (a (∥∥₁_map t (λ p. p.0)), b (∥∥₁_map t (λ p. p.1)), c (∥∥₁_map t (λ p. p.2)))

pub four : {A B C D : Type 0} → IsStable A → IsStable B → IsStable C → IsStable D → IsStable (A × B × C × D)
four a b c d t = (a (∥∥₁_map t (λ p. p.0)), b (∥∥₁_map t (λ p. p.1)), c (∥∥₁_map t (λ p. p.2)), d (∥∥₁_map t (λ p. p.3)))

-- nothing is had of what is not
pub nothing : IsStable ⊥
nothing t = ∥∥₁_elim t (λ x y. absurd x) (λ a. a)

pub unit : IsStable (Unit {0})
unit t = tt

pub not : {A : Type 0} → IsStable (¬ A)
not t a = nothing (∥∥₁_map t (λ f. f a))

pub equal : {A : Type 0} → Coded A → (x y : A) → IsStable (x ≡ y)
equal code x y = prop (Coded-set code x y)

pub less : (n m : ℕ) → IsStable (n ≤ m)
less n m = prop le_prop

pub one_number : (n m : ℕ) → IsStable (n ≡ m)
one_number = equal coded_ℕ

pub one_bool : (n m : Bool) → IsStable (n ≡ m)
one_bool = equal coded_bool

pub one_page : (xs ys : List ℕ) → IsStable (xs ≡ ys)
one_page = equal (coded_list coded_ℕ)

pub is_there : {X : Type 0} (o : Option X) → IsStable (IsSome o)
is_there None = one_bool _ _
is_there (Some x) = one_bool _ _

some_is_none : {X : Type 0} (x : X) → Some x ≡ None → ⊥
some_is_none x e = cc

pub is_none : {X : Type 0} (o : Option X) → IsStable (o ≡ None)
is_none None t = refl
is_none (Some x) t = absurd (nothing (∥∥₁_map t (some_is_none x)))

pub some_and : {X : Type 0} (P : X → Type 0) → ((x : X) → IsStable (P x)) → (o : Option X) → IsStable (IsSomeAnd o P)
some_and P s None = nothing
some_and P s (Some x) = s x

pub if_some : {X : Type 0} (P : X → Type 0) → ((x : X) → IsStable (P x)) → (o : Option X) → IsStable (IfSome o P)
if_some P s None = unit
if_some P s (Some x) = s x

pub all : {X : Type 0} (P : X → Type 0) → ((x : X) → IsStable (P x)) → (xs : List X) → IsStable (AllByRecursion P xs)
all P s [] = unit
all P s (x ∷ xs) = both (s x) (all P s xs)

-- of two, the one that can be
pub first_of : {A B : Type 0} → (B → ⊥) → IsStable A → IsStable (A ⊎ B)
first_of never s t = inl (s (∥∥₁_map t (λ x. ⊎_elim (λ a. a) (λ b. absurd (never b)) x)))

pub second_of : {A B : Type 0} → (A → ⊥) → IsStable B → IsStable (A ⊎ B)
second_of never s t = inr (s (∥∥₁_map t (λ x. ⊎_elim (λ a. absurd (never a)) (λ b. b) x)))

pub contains : (xs : List ℕ) (n : ℕ) → IsStable (Contains xs n)
contains [] n t = absurd (nothing (∥∥₁_map t (λ c. none c.1)))
  where
    none : {k : ℕ} → k < 0 → ⊥
    none less = omega (arith, less)
contains (x ∷ xs) n t = by_same (nat_eq x n) refl (λ later. contains xs n later)
  where
    behind : nat_eq x n ≡ false → Contains (x ∷ xs) n → Contains xs n
    behind other (zero, within, is) = absurd (both_ways (nat_eq x n) other (eq-eqb x n is))
    behind other (suc k, within, is) = (k, omega (arith, within), is)

    by_same : (b : Bool) → nat_eq x n ≡ b → (∥ Contains xs n ∥₁ → Contains xs n) → Contains (x ∷ xs) n
    by_same true is rest = (0, omega arith, eqb-true x n is)
    by_same false other rest = let c = rest (∥∥₁_map t (behind other)) in (suc c.0, omega (arith, c.1), c.2)

-- what is determined, with what is known of it
module _ {A : Type 0} (B : A → Type 0) (set : (a b : A) → IsProp (a ≡ b)) (one : (a b : A) → B a → B b → a ≡ b) where
  abbrev Known : Type 0
  Known = (a : A) × ∥ B a ∥₁

  known_once : IsProp Known
  known_once a b = λ i. (same i, ∥∥₁_prop (coe 0 i (j. ∥ B (same j) ∥₁) a.1) (coe 1 i (j. ∥ B (same j) ∥₁) b.1) i)
    where
      same : a.0 ≡ b.0
      same = ∥∥₁_elim a.1 (set a.0 b.0) (λ x. ∥∥₁_elim b.1 (set a.0 b.0) (λ y. one a.0 b.0 x y))

  pub determined : ((a : A) → IsStable (B a)) → IsStable ((a : A) × B a)
  determined s t = let known : Known = ∥∥₁_elim t known_once (λ x. (x.0, ∣ x.1 ∣₁)) in (known.0, s known.0 known.1)

-- ---- codes of what cells have

abbrev pub home_code : Coded Home
home_code = code_by (ℕ × ℕ) (coded× coded_ℕ coded_ℕ) (λ h. (h.vol, h.page)) (λ p. record { vol = p.0; page = p.1 }) (λ _. refl)

abbrev pub tag_code : Coded Tag
tag_code = code_by (ℕ × ℕ) (coded× coded_ℕ coded_ℕ) (λ t. (t.slot, t.seq)) (λ p. record { slot = p.0; seq = p.1 }) (λ _. refl)

abbrev pub place_code : Coded CellAt
place_code = code_by (ℕ × (ℕ × ℕ)) (coded× coded_ℕ (coded× coded_ℕ coded_ℕ)) (λ a. (a.vol, (a.page, a.cell))) (λ p. record { vol = p.0; page = p.1.0; cell = p.1.1 }) (λ _. refl)

abbrev is_directory : Kind → Bool
is_directory Directory = true
is_directory File = false

pub kind_back : (k : Kind) → cond (is_directory k) Directory File ≡ k
kind_back Directory = refl
kind_back File = refl

abbrev pub kind_code : Coded Kind
kind_code = code_by Bool coded_bool is_directory (λ b. cond b Directory File) kind_back

abbrev pub file_code : Coded Bitfile
file_code =
    code_by (Kind × (ℕ × (ℕ × (ℕ × (List (List ℕ) × List (List ℕ)))))) (coded× kind_code (coded× coded_ℕ (coded× coded_ℕ (coded× coded_ℕ (coded× (coded_list (coded_list coded_ℕ)) (coded_list (coded_list coded_ℕ)))))))
    (λ f. (f.kind, (f.uid, (f.gid, (f.links, (f.pages, f.index)))))) (λ p. record { kind = p.0; uid = p.1.0; gid = p.1.1.0; links = p.1.1.1.0; pages = p.1.1.1.1.0; index = p.1.1.1.1.1 }) (λ _. refl)

abbrev cell_kind_number : CellKind → ℕ
cell_kind_number Primary = 0
cell_kind_number Chain = 1
cell_kind_number Quota = 2
cell_kind_number Volume = 3

abbrev cell_kind_of : ℕ → CellKind
cell_kind_of n = cond (nat_eq n 0) Primary (cond (nat_eq n 1) Chain (cond (nat_eq n 2) Quota Volume))

pub cell_kind_back : (k : CellKind) → cell_kind_of (cell_kind_number k) ≡ k
cell_kind_back Primary = refl
cell_kind_back Chain = refl
cell_kind_back Quota = refl
cell_kind_back Volume = refl

abbrev pub cell_kind_code : Coded CellKind
cell_kind_code = code_by ℕ coded_ℕ cell_kind_number cell_kind_of cell_kind_back

abbrev pub head_code : Coded CellHead
head_code =
    code_by (Option CellAt × (ℕ × (ℕ × (Option ℕ × CellKind)))) (coded× (coded_option place_code) (coded× coded_ℕ (coded× coded_ℕ (coded× (coded_option coded_ℕ) cell_kind_code))))
    (λ h. (h.next, (h.slot, (h.seq, (h.fileset, h.kind))))) (λ p. record { next = p.0; slot = p.1.0; seq = p.1.1.0; fileset = p.1.1.1.0; kind = p.1.1.1.1 }) (λ _. refl)

abbrev extent_code : Coded ExtentField
extent_code =
    code_by (ℕ × (ℕ × (ℕ × ℕ))) (coded× coded_ℕ (coded× coded_ℕ (coded× coded_ℕ coded_ℕ))) (λ e. (e.page, (e.count, (e.vol, e.first))))
    (λ p. record { page = p.0; count = p.1.0; vol = p.1.1.0; first = p.1.1.1 }) (λ _. refl)

abbrev hole_code : Coded HoleField
hole_code = code_by (ℕ × ℕ) (coded× coded_ℕ coded_ℕ) (λ h. (h.page, h.count)) (λ p. record { page = p.0; count = p.1 }) (λ _. refl)

-- a record as its kind, its numbers and its rows
abbrev Parts : Type 0
Parts = ℕ × (List ℕ × (List ExtentField × List HoleField))

abbrev leftover_number : Leftover → ℕ
leftover_number Trim = 0
leftover_number Remove = 1

abbrev parts_of : Record → Parts
parts_of (written.Attributes kind uid gid flags size keep links birth unsynced) = (0, (kind ∷ uid ∷ gid ∷ flags ∷ size ∷ keep ∷ links ∷ birth ∷ unsynced ∷ [], ([], [])))
parts_of (written.CloneFile vol cell page frozen) = (1, (vol ∷ cell ∷ page ∷ frozen ∷ [], ([], [])))
parts_of (written.Extents rows) = (2, ([], (rows, [])))
parts_of (written.ShortExtents rows) = (3, ([], (rows, [])))
parts_of (written.Holes rows) = (4, ([], ([], rows)))
parts_of (written.Pending what) = (5, (leftover_number what ∷ [], ([], [])))
parts_of (written.UserQuota id files blocks) = (6, (id ∷ files ∷ blocks ∷ [], ([], [])))
parts_of (written.GroupQuota id files blocks) = (7, (id ∷ files ∷ blocks ∷ [], ([], [])))
parts_of (written.DirIndex vol page entries) = (8, (vol ∷ page ∷ entries ∷ [], ([], [])))
parts_of (written.Parent slot seq) = (9, (slot ∷ seq ∷ [], ([], [])))
parts_of (written.Stripe width mark vols) = (10, (width ∷ mark ∷ vols, ([], [])))
parts_of (written.Volume vol pages bitmap_pages) = (11, (vol ∷ pages ∷ bitmap_pages ∷ [], ([], [])))
parts_of (written.DenseExtents rows) = (12, ([], (rows, [])))
parts_of (written.ShortDense rows) = (13, ([], (rows, [])))

abbrev at : List ℕ → ℕ → ℕ
at ns k = get_or ns k 0

abbrev from_parts : Parts → Record
from_parts p =
    cond (nat_eq p.0 0) (written.Attributes (at p.1.0 0) (at p.1.0 1) (at p.1.0 2) (at p.1.0 3) (at p.1.0 4) (at p.1.0 5) (at p.1.0 6) (at p.1.0 7) (at p.1.0 8)) (cond (nat_eq p.0 1) (written.CloneFile (at p.1.0 0) (at p.1.0 1) (at p.1.0 2) (at p.1.0 3))
    (cond (nat_eq p.0 2) (written.Extents p.1.1.0) (cond (nat_eq p.0 3) (written.ShortExtents p.1.1.0) (cond (nat_eq p.0 4) (written.Holes p.1.1.1) (cond (nat_eq p.0 5) (written.Pending (cond (nat_eq (at p.1.0 0) 0) Trim Remove))
    (cond (nat_eq p.0 6) (written.UserQuota (at p.1.0 0) (at p.1.0 1) (at p.1.0 2)) (cond (nat_eq p.0 7) (written.GroupQuota (at p.1.0 0) (at p.1.0 1) (at p.1.0 2)) (cond (nat_eq p.0 8) (written.DirIndex (at p.1.0 0) (at p.1.0 1) (at p.1.0 2))
    (cond (nat_eq p.0 9) (written.Parent (at p.1.0 0) (at p.1.0 1)) (cond (nat_eq p.0 10) (written.Stripe (at p.1.0 0) (at p.1.0 1) (drop 2 p.1.0)) (cond (nat_eq p.0 11) (written.Volume (at p.1.0 0) (at p.1.0 1) (at p.1.0 2))
    (cond (nat_eq p.0 12) (written.DenseExtents p.1.1.0) (written.ShortDense p.1.1.0)))))))))))))

pub parts_back : (r : Record) → from_parts (parts_of r) ≡ r
parts_back (written.Attributes kind uid gid flags size keep links birth unsynced) = refl
parts_back (written.CloneFile vol cell page frozen) = refl
parts_back (written.Extents rows) = refl
parts_back (written.ShortExtents rows) = refl
parts_back (written.Holes rows) = refl
parts_back (written.Pending Trim) = refl
parts_back (written.Pending Remove) = refl
parts_back (written.UserQuota id files blocks) = refl
parts_back (written.GroupQuota id files blocks) = refl
parts_back (written.DirIndex vol page entries) = refl
parts_back (written.Parent slot seq) = refl
parts_back (written.Stripe width mark vols) = refl
parts_back (written.Volume vol pages bitmap_pages) = refl
parts_back (written.DenseExtents rows) = refl
parts_back (written.ShortDense rows) = refl

abbrev pub record_code : Coded Record
record_code = code_by Parts (coded× coded_ℕ (coded× (coded_list coded_ℕ) (coded× (coded_list extent_code) (coded_list hole_code)))) parts_of from_parts parts_back

abbrev pub cell_code : Coded Cell
cell_code = code_by (CellHead × List Record) (coded× head_code (coded_list record_code)) (λ c. (c.head, c.records)) (λ p. record { head = p.0; records = p.1 }) (λ _. refl)

abbrev pub placed_code : Coded PlacedCell
placed_code = code_by (CellAt × Cell) (coded× place_code cell_code) (λ c. (c.at, c.cell)) (λ p. record { at = p.0; cell = p.1 }) (λ _. refl)
