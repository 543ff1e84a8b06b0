-- What the records of a quota cell say, and the records that say it.
use Rattle.std.proofs.Common.{◌≡◌, ◌∙◌, ◌⊎◌, ⊎_elim, inl, inr, ℕ, suc, ◌+◌, ◌*◌, ◌^◌, ◌<◌, ◌≤◌, Bool, true, false, cond, nat_lt, List, [], ◌∷◌, ◌++◌, length, IfSome, is_some, IsTrue, refl, ap, arith, length-append}
use Rattle.std.proofs.lemmas.Bool.{and_from, and_parts, lt-ltb, ltb-true, cases_lt}
use Rattle.std.specs.List.{AllByRecursion, cons_option}
use Rattle.std.specs.declared.cmp.Ordering.{Ordering}
use Rattle.std.specs.declared.cmp.Ordering.TheVariants.{Less, Equal, Greater}
use Rattle.std.specs.Ordering.{is_lt, nat_cmp}
use Rattle.std.specs.FinMap.Entries.{below_all, by_order as ordered, find, is_sorted, length-put, put}
use Rattle.release_list.proofs.OfSortedSets.EntryLemmas.{less, to_T}
use Rattle.release_list.specs.cell_records.declared.record.Record.{Record}
use Rattle.release_list.specs.cell_records.declared.record.Record.TheVariants.{Attributes, CloneFile, Extents, ShortExtents, Holes, Pending, UserQuota, GroupQuota, DirIndex, Parent, Stripe, Volume, DenseExtents, ShortDense}
use Rattle.release_list.specs.cell_records.Records.{Allowed, kind_of, spelling}
use Rattle.release_list.specs.cell_records.Layouts.{size_of}
use Rattle.release_list.proofs.OfCellRecords.WholeRecord.{length-spelling}
use Rattle.release_list.specs.metadata_cells.Cell.{AreRecords, AreRising, place_of, spellings}
use Rattle.quota_book.specs.fileset_values.Orders.{owner_cmp, owner_cmp-total}
use Rattle.quota_book.specs.fileset_values.declared.command.Owner.{Owner}
use Rattle.quota_book.specs.fileset_values.declared.command.Owner.TheVariants as owner
use Rattle.quota_book.specs.fileset_model.declared.fileset.Limits.{Limits}
use Rattle.quota_book.specs.QuotaCells.{Said, has_room, is_said, limits_said, said_by}
use Rattle.release_steps.specs.QuotaChain.{record_for, records_for}

-- ---- there and back

-- one of these owners has a record
abbrev pub IsNamed : Owner × Limits → Type 0
IsNamed e = ¬ e.0 ≡ owner.Fileset

cons_said : (who : Owner) (limits : Limits) → ¬ who ≡ owner.Fileset → (rest : List Record) → said_by (cons_option (record_for who limits) rest) ≡ (who, limits) ∷ said_by rest
cons_said (owner.User id) limits named rest = refl
cons_said (owner.Group id) limits named rest = refl
cons_said owner.Fileset limits named rest = absurd (named refl)

pub said_records : (said : Said) → AllByRecursion IsNamed said → said_by (records_for said) ≡ said
said_records [] named = refl
said_records (e ∷ said) named = cons_said e.0 e.1 named.0 (records_for said) ∙ ap (λ (s : Said). e ∷ s) (said_records said named.1)

-- a record of limits
abbrev pub IsOfLimits : Record → Type 0
IsOfLimits r = (kind_of r ≡ 7) ⊎ (kind_of r ≡ 8)

neither : (k : ℕ) → (k ≡ 7 → ⊥) → (k ≡ 8 → ⊥) → (k ≡ 7) ⊎ (k ≡ 8) → ⊥
neither k a b is = ⊎_elim a b is

cons_record : (r : Record) → IsOfLimits r → (said : Said) → records_for (cons_option (limits_said r) said) ≡ r ∷ records_for said
cons_record (UserQuota id files blocks) is said = refl
cons_record (GroupQuota id files blocks) is said = refl
cons_record (Attributes kind uid gid flags size keep links birth unsynced) is said = absurd (neither 1 (λ e. omega (arith, e)) (λ e. omega (arith, e)) is)
cons_record (CloneFile vol cell page frozen) is said = absurd (neither 2 (λ e. omega (arith, e)) (λ e. omega (arith, e)) is)
cons_record (Extents rows) is said = absurd (neither 3 (λ e. omega (arith, e)) (λ e. omega (arith, e)) is)
cons_record (ShortExtents rows) is said = absurd (neither 4 (λ e. omega (arith, e)) (λ e. omega (arith, e)) is)
cons_record (Holes rows) is said = absurd (neither 5 (λ e. omega (arith, e)) (λ e. omega (arith, e)) is)
cons_record (Pending what) is said = absurd (neither 6 (λ e. omega (arith, e)) (λ e. omega (arith, e)) is)
cons_record (DirIndex vol page entries) is said = absurd (neither 9 (λ e. omega (arith, e)) (λ e. omega (arith, e)) is)
cons_record (Parent slot seq) is said = absurd (neither 10 (λ e. omega (arith, e)) (λ e. omega (arith, e)) is)
cons_record (Stripe width mark vols) is said = absurd (neither 11 (λ e. omega (arith, e)) (λ e. omega (arith, e)) is)
cons_record (Volume vol pages bitmap_pages) is said = absurd (neither 12 (λ e. omega (arith, e)) (λ e. omega (arith, e)) is)
cons_record (DenseExtents rows) is said = absurd (neither 13 (λ e. omega (arith, e)) (λ e. omega (arith, e)) is)
cons_record (ShortDense rows) is said = absurd (neither 14 (λ e. omega (arith, e)) (λ e. omega (arith, e)) is)

pub records_said : (records : List Record) → AllByRecursion IsOfLimits records → records_for (said_by records) ≡ records
records_said [] all = refl
records_said (r ∷ records) all = cons_record r all.0 (said_by records) ∙ ap (λ (rs : List Record). r ∷ rs) (records_said records all.1)

-- all owners of whom records say something are named
named_cons : (r : Record) (said : Said) → AllByRecursion IsNamed said → AllByRecursion IsNamed (cons_option (limits_said r) said)
named_cons (UserQuota id files blocks) said all = ((λ same. user_apart id same), all)
  where
    user_apart : (id : ℕ) → owner.User id ≡ owner.Fileset → ⊥
    user_apart id same = cc
named_cons (GroupQuota id files blocks) said all = ((λ same. group_apart id same), all)
  where
    group_apart : (id : ℕ) → owner.Group id ≡ owner.Fileset → ⊥
    group_apart id same = cc
named_cons (Attributes kind uid gid flags size keep links birth unsynced) said all = all
named_cons (CloneFile vol cell page frozen) said all = all
named_cons (Extents rows) said all = all
named_cons (ShortExtents rows) said all = all
named_cons (Holes rows) said all = all
named_cons (Pending what) said all = all
named_cons (DirIndex vol page entries) said all = all
named_cons (Parent slot seq) said all = all
named_cons (Stripe width mark vols) said all = all
named_cons (Volume vol pages bitmap_pages) said all = all
named_cons (DenseExtents rows) said all = all
named_cons (ShortDense rows) said all = all

pub all_named : (records : List Record) → AllByRecursion IsNamed (said_by records)
all_named [] = tt
all_named (r ∷ records) = named_cons r (said_by records) (all_named records)

pub put_named : (who : Owner) (limits : Limits) (said : Said) → ¬ who ≡ owner.Fileset → AllByRecursion IsNamed said → AllByRecursion IsNamed (put owner_cmp who limits said)
put_named who limits [] named all = (named, tt)
put_named who limits (e ∷ said) named all = by_order (owner_cmp who e.0) (put_named who limits said named all.1)
  where
    by_order : (o : Ordering) → AllByRecursion IsNamed (put owner_cmp who limits said)
        → AllByRecursion IsNamed (ordered o ((who, limits) ∷ e ∷ said) ((e.0, limits) ∷ said) (e ∷ put owner_cmp who limits said))
    by_order Less rest = (named, all)
    by_order Equal rest = (all.0, all.1)
    by_order Greater rest = (all.0, rest)

-- the records that say something are of limits
of_limits_cons : (who : Owner) (limits : Limits) (rest : List Record) → AllByRecursion IsOfLimits rest → AllByRecursion IsOfLimits (cons_option (record_for who limits) rest)
of_limits_cons (owner.User id) limits rest all = (inl refl, all)
of_limits_cons (owner.Group id) limits rest all = (inr refl, all)
of_limits_cons owner.Fileset limits rest all = all

pub all_of_limits : (said : Said) → AllByRecursion IsOfLimits (records_for said)
all_of_limits [] = tt
all_of_limits (e ∷ said) = of_limits_cons e.0 e.1 (records_for said) (all_of_limits said)

-- ---- their order

-- where an owner's record stands among others
abbrev owner_place : Owner → ℕ
owner_place (owner.User id) = 2 ^ 32 * 7 + id
owner_place (owner.Group id) = 2 ^ 32 * 8 + id
owner_place owner.Fileset = 2 ^ 32 * 9

abbrev IsShort : Owner → Type 0
IsShort (owner.User id) = id < 2 ^ 32
IsShort (owner.Group id) = id < 2 ^ 32
IsShort owner.Fileset = Unit {0}

num_less : (a b : ℕ) → nat_cmp a b ≡ Less → a < b
num_less a b is = ⊎_elim (λ lt. lt) (λ le. absurd (not_less (nat_lt a b) refl le)) (cases_lt a b)
  where
    not_less : (l : Bool) → nat_lt a b ≡ l → b ≤ a → ⊥
    not_less l same le = grind (arith, is, same, le)

owner_less : (a b : Owner) → IsShort a → IsShort b → owner_cmp a b ≡ Less → owner_place a < owner_place b
owner_less (owner.User i) (owner.User j) a b is = let lt = num_less i j is in omega (arith, lt)
owner_less (owner.User i) (owner.Group j) a b is = omega (arith, a)
owner_less (owner.User i) owner.Fileset a b is = omega (arith, a)
owner_less (owner.Group i) (owner.User j) a b is = absurd (cc)
owner_less (owner.Group i) (owner.Group j) a b is = let lt = num_less i j is in omega (arith, lt)
owner_less (owner.Group i) owner.Fileset a b is = omega (arith, a)
owner_less owner.Fileset (owner.User j) a b is = absurd (cc)
owner_less owner.Fileset (owner.Group j) a b is = absurd (cc)
owner_less owner.Fileset owner.Fileset a b is = absurd (cc)

less_owner : (a b : Owner) → IsShort a → IsShort b → owner_place a < owner_place b → owner_cmp a b ≡ Less
less_owner (owner.User i) (owner.User j) a b lt = less_num i j (omega (arith, lt))
  where
    less_num : (i j : ℕ) → i < j → nat_cmp i j ≡ Less
    less_num i j lt = rw (lt-ltb i j lt) refl
less_owner (owner.User i) (owner.Group j) a b lt = refl
less_owner (owner.User i) owner.Fileset a b lt = refl
less_owner (owner.Group i) (owner.User j) a b lt = absurd (omega (arith, lt, b))
less_owner (owner.Group i) (owner.Group j) a b lt = less_num i j (omega (arith, lt))
  where
    less_num : (i j : ℕ) → i < j → nat_cmp i j ≡ Less
    less_num i j lt = rw (lt-ltb i j lt) refl
less_owner (owner.Group i) owner.Fileset a b lt = refl
less_owner owner.Fileset (owner.User j) a b lt = absurd (omega (arith, lt, b))
less_owner owner.Fileset (owner.Group j) a b lt = absurd (omega (arith, lt, b))
less_owner owner.Fileset owner.Fileset a b lt = absurd (omega (arith, lt))

-- an owner whose record stands above a place
abbrev IsAbove : ℕ → Owner × Limits → Type 0
IsAbove low e = (low < owner_place e.0) × IsShort e.0

less_above : (low high : ℕ) (said : Said) → low ≤ high → AllByRecursion (IsAbove high) said → AllByRecursion (IsAbove low) said
less_above low high [] less all = tt
less_above low high (e ∷ said) less all = let above = all.0.0 in ((omega (arith, less, above), all.0.1), less_above low high said less all.1)

above_cons : (low : ℕ) (r : Record) (said : Said) → low < place_of r → Allowed r → AllByRecursion (IsAbove low) said → AllByRecursion (IsAbove low) (cons_option (limits_said r) said)
unfolding Allowed
above_cons low (UserQuota id files blocks) said above allowed all = ((above, allowed.0), all)
above_cons low (GroupQuota id files blocks) said above allowed all = ((above, allowed.0), all)
above_cons low (Attributes kind uid gid flags size keep links birth unsynced) said above allowed all = all
above_cons low (CloneFile vol cell page frozen) said above allowed all = all
above_cons low (Extents rows) said above allowed all = all
above_cons low (ShortExtents rows) said above allowed all = all
above_cons low (Holes rows) said above allowed all = all
above_cons low (Pending what) said above allowed all = all
above_cons low (DirIndex vol page entries) said above allowed all = all
above_cons low (Parent slot seq) said above allowed all = all
above_cons low (Stripe width mark vols) said above allowed all = all
above_cons low (Volume vol pages bitmap_pages) said above allowed all = all
above_cons low (DenseExtents rows) said above allowed all = all
above_cons low (ShortDense rows) said above allowed all = all

all_above : (low : ℕ) (records : List Record) → AreRising low records → AllByRecursion Allowed records → AllByRecursion (IsAbove low) (said_by records)
all_above low [] rising allowed = tt
all_above low (r ∷ records) rising allowed =
    let here = rising.0 in
    above_cons low r (said_by records) here allowed.0 (less_above low (place_of r) (said_by records) (omega (arith, here)) (all_above (place_of r) records rising.1 allowed.1))

below_from : (who : Owner) (said : Said) → IsShort who → AllByRecursion (IsAbove (owner_place who)) said → IsTrue (below_all owner_cmp who said)
below_from who [] short all = refl
below_from who (e ∷ said) short all =
    and_from (is_lt (owner_cmp who e.0)) (below_all owner_cmp who said) (ap is_lt (less_owner who e.0 short all.0.1 all.0.0)) (below_from who said short all.1)

sorted_cons : (r : Record) (said : Said) → Allowed r → AllByRecursion (IsAbove (place_of r)) said → IsTrue (is_sorted owner_cmp said) → IsTrue (is_sorted owner_cmp (cons_option (limits_said r) said))
unfolding Allowed
sorted_cons (UserQuota id files blocks) said allowed above sorted =
    and_from (below_all owner_cmp (owner.User id) said) (is_sorted owner_cmp said) (below_from (owner.User id) said allowed.0 above) sorted
sorted_cons (GroupQuota id files blocks) said allowed above sorted =
    and_from (below_all owner_cmp (owner.Group id) said) (is_sorted owner_cmp said) (below_from (owner.Group id) said allowed.0 above) sorted
sorted_cons (Attributes kind uid gid flags size keep links birth unsynced) said allowed above sorted = sorted
sorted_cons (CloneFile vol cell page frozen) said allowed above sorted = sorted
sorted_cons (Extents rows) said allowed above sorted = sorted
sorted_cons (ShortExtents rows) said allowed above sorted = sorted
sorted_cons (Holes rows) said allowed above sorted = sorted
sorted_cons (Pending what) said allowed above sorted = sorted
sorted_cons (DirIndex vol page entries) said allowed above sorted = sorted
sorted_cons (Parent slot seq) said allowed above sorted = sorted
sorted_cons (Stripe width mark vols) said allowed above sorted = sorted
sorted_cons (Volume vol pages bitmap_pages) said allowed above sorted = sorted
sorted_cons (DenseExtents rows) said allowed above sorted = sorted
sorted_cons (ShortDense rows) said allowed above sorted = sorted

sorted_rising : (low : ℕ) (records : List Record) → AreRising low records → AllByRecursion Allowed records → IsTrue (is_sorted owner_cmp (said_by records))
sorted_rising low [] rising allowed = refl
sorted_rising low (r ∷ records) rising allowed =
    sorted_cons r (said_by records) allowed.0 (all_above (place_of r) records rising.1 allowed.1) (sorted_rising (place_of r) records rising.1 allowed.1)

-- what a cell says is in the order of owners
pub said_sorted : (records : List Record) → AreRecords records → IsTrue (is_sorted owner_cmp (said_by records))
said_sorted records good = sorted_rising 0 records good.rising good.allowed

-- ---- and back

abbrev IsWritten : Owner × Limits → Type 0
IsWritten e = IfSome (record_for e.0 e.1) Allowed

written_cons : (who : Owner) (limits : Limits) (rest : List Record) → AllByRecursion Allowed (cons_option (record_for who limits) rest) → IfSome (record_for who limits) Allowed × AllByRecursion Allowed rest
written_cons (owner.User id) limits rest all = all
written_cons (owner.Group id) limits rest all = all
written_cons owner.Fileset limits rest all = (tt, all)

all_written : (said : Said) → AllByRecursion Allowed (records_for said) → AllByRecursion IsWritten said
all_written [] all = tt
all_written (e ∷ said) all = let both = written_cons e.0 e.1 (records_for said) all in (both.0, all_written said both.1)

short_of : (who : Owner) (limits : Limits) → IfSome (record_for who limits) Allowed → IsShort who
unfolding Allowed
short_of (owner.User id) limits allowed = allowed.0
short_of (owner.Group id) limits allowed = allowed.0
short_of owner.Fileset limits allowed = tt

abbrev AreBehind : ℕ → Said → Type 0
AreBehind low said = AllByRecursion (λ (e : Owner × Limits). low < owner_place e.0) said

bound_by : (who : Owner) (said : Said) → IsShort who → AllByRecursion IsWritten said → IsTrue (below_all owner_cmp who said) → AreBehind (owner_place who) said
bound_by who [] short written below = tt
bound_by who (e ∷ said) short written below =
    let both = and_parts (is_lt (owner_cmp who e.0)) (below_all owner_cmp who said) below in
    (owner_less who e.0 short (short_of e.0 e.1 written.0) (less (owner_cmp who e.0) (to_T (is_lt (owner_cmp who e.0)) both.0)), bound_by who said short written.1 both.1)

rising_cons : (who : Owner) (limits : Limits) (low : ℕ) (said : Said) → low < owner_place who → ((l : ℕ) → AreBehind l said → AreRising l (records_for said)) → AreBehind low said → AreBehind (owner_place who) said
    → AreRising low (cons_option (record_for who limits) (records_for said))
rising_cons (owner.User id) limits low said above rest behind bound = (above, rest (2 ^ 32 * 7 + id) bound)
rising_cons (owner.Group id) limits low said above rest behind bound = (above, rest (2 ^ 32 * 8 + id) bound)
rising_cons owner.Fileset limits low said above rest behind bound = rest low behind

rising_records : (said : Said) → IsTrue (is_sorted owner_cmp said) → AllByRecursion IsWritten said → (low : ℕ) → AreBehind low said → AreRising low (records_for said)
rising_records [] sorted written low behind = tt
rising_records (e ∷ said) sorted written low behind =
    let both = and_parts (below_all owner_cmp e.0 said) (is_sorted owner_cmp said) sorted in
    rising_cons e.0 e.1 low said behind.0 (rising_records said both.1 written.1) behind.1 (bound_by e.0 said (short_of e.0 e.1 written.0) written.1 both.0)

some_place : (who : Owner) → 0 < owner_place who
some_place (owner.User id) = omega arith
some_place (owner.Group id) = omega arith
some_place owner.Fileset = omega arith

all_behind : (said : Said) → AreBehind 0 said
all_behind [] = tt
all_behind (e ∷ said) = (some_place e.0, all_behind said)

-- records in the order of owners are those of a cell
pub records_good : (said : Said) → IsTrue (is_sorted owner_cmp said) → AllByRecursion Allowed (records_for said) → AreRecords (records_for said)
records_good said sorted allowed = record { allowed = allowed; rising = rising_records said sorted (all_written said allowed) 0 (all_behind said) }

-- ---- how many bytes they have

size_of_limits : (r : Record) → IsOfLimits r → Allowed r → length (spelling r) ≡ 28
size_of_limits r is allowed = length-spelling r allowed ∙ ⊎_elim (λ k. ap size_of k) (λ k. ap size_of k) is

pub sizes : (records : List Record) → AllByRecursion IsOfLimits records → AllByRecursion Allowed records → length (spellings records) ≡ 28 * length records
sizes [] is allowed = refl
sizes (r ∷ records) is allowed = omega (arith, length-append (spelling r) (spellings records), size_of_limits r is.0 allowed.0, sizes records is.1 allowed.1)

count_cons : (who : Owner) (limits : Limits) (rest : List Record) → length (cons_option (record_for who limits) rest) ≤ length rest + 1
count_cons (owner.User id) limits rest = omega arith
count_cons (owner.Group id) limits rest = omega arith
count_cons owner.Fileset limits rest = omega arith

pub count_records : (said : Said) → length (records_for said) ≤ length said
count_records [] = omega arith
count_records (e ∷ said) = omega (arith, count_cons e.0 e.1 (records_for said), count_records said)

pub records_fit : (said : Said) → length said ≤ 9 → AllByRecursion Allowed (records_for said) → length (spellings (records_for said)) ≤ 272
records_fit said few allowed = omega (arith, sizes (records_for said) (all_of_limits said) allowed, count_records said, few)

-- what a cell says is of nine owners at most
pub few_said : (records : List Record) → AllByRecursion IsOfLimits records → AllByRecursion Allowed records → length (spellings records) ≤ 272 → length (said_by records) ≤ 9
few_said records is allowed fits =
    let said = said_by records in
    let same = records_said records is in
    omega (arith, sizes records is allowed, fits, count_named said (all_named records), ap length same)
  where
    named_count : (who : Owner) (limits : Limits) → ¬ who ≡ owner.Fileset → (rest : List Record) → length (cons_option (record_for who limits) rest) ≡ suc (length rest)
    named_count (owner.User id) limits named rest = refl
    named_count (owner.Group id) limits named rest = refl
    named_count owner.Fileset limits named rest = absurd (named refl)

    count_named : (said : Said) → AllByRecursion IsNamed said → length (records_for said) ≡ length said
    count_named [] named = refl
    count_named (e ∷ said) named = named_count e.0 e.1 named.0 (records_for said) ∙ ap suc (count_named said named.1)

-- an owner's limits fit into a cell that says them, or that has room
pub put_few : (who : Owner) (limits : Limits) (said : Said) → IsTrue (is_sorted owner_cmp said) → length said ≤ 9 → (is_said who said ≡ true) ⊎ (has_room said ≡ true) → length (put owner_cmp who limits said) ≤ 9
put_few who limits said sorted few room =
    let long = length-put owner_cmp owner_cmp-total who limits said (to_T (is_sorted owner_cmp said) sorted) in
    ⊎_elim
    (λ is. let same = ap (λ (b : Bool). cond b (length said) (length said + 1)) is in omega (arith, long, same, few))
    (λ has. let less = ltb-true (length said) 9 has in let most = at_most (is_some (find owner_cmp who said)) (length said) in omega (arith, long, less, most))
    room
  where
    at_most : (b : Bool) (n : ℕ) → cond b n (n + 1) ≤ n + 1
    at_most true n = omega arith
    at_most false n = omega arith

pub one_more_allowed : (records : List Record) (r : Record) → AllByRecursion Allowed records → Allowed r → AllByRecursion Allowed (records ++ r ∷ [])
one_more_allowed [] r all allowed = (allowed, tt)
one_more_allowed (x ∷ records) r all allowed = (all.0, one_more_allowed records r all.1 allowed)
