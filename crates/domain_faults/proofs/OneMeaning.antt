-- An image means one thing.
use Rattle.std.proofs.Common.{◌≡◌, ◌∙◌, ◌⊎◌, inl, inr, ℕ, zero, suc, ◌+◌, ◌<◌, ◌≤◌, List, [], ◌∷◌, Some, Contains, length, refl, sym, ap, subst, arith, ⊎_elim}
use Rattle.std.specs.Prelude.{get_or}
use Rattle.std.specs.List.{AllByRecursion}
use Rattle.slot_files.specs.domain_base.Version.{number_of}
use Rattle.slot_files.specs.domain_base.declared.version.Version.{Version}
use Rattle.slot_files.specs.domain_base.declared.version.Version.TheVariants.{Four, Three}
use Rattle.slot_files.specs.page_store.Pages.{Pages}
use Rattle.slot_files.specs.volume_disk.Image.{Image}
use Rattle.slot_files.specs.disk_label.declared.anchor.Anchor.{Anchor}
use Rattle.slot_files.proofs.OfDiskLabel.Slots.{IsAnchorBelow-unique}
use Rattle.slot_files.proofs.OfLogRing.HeaderPages.{one_header}
use Rattle.slot_files.specs.log_ring.Groups.{AreGroups, Group, HasLog, redone}
use Rattle.slot_files.proofs.OfLogRing.OnImages.{one_way}
use Rattle.slot_files.specs.log_recovery.Outcome.{IsFirstFault}
use Rattle.slot_files.proofs.OfLogRecovery.OneOutcome.{has_one_fault}
use Rattle.slot_files.specs.domain_layout.Faults.{AreFaults, AreInOrder, FaultRow, HasNoFault, IsBefore, IsFault}
use Rattle.slot_files.specs.domain_layout.Read.{Means}
use Rattle.slot_files.specs.domain_layout.Reached.{Frame}
use Rattle.slot_files.specs.filesets_reading.Good.{frame_at}
use Rattle.slot_files.proofs.OfDomainLayout.OneMeaning.{means_once}
use Rattle.slot_files.proofs.OfDomainLayout.OnePage.{some_same}
use Rattle.domain_faults.specs.Rows.{rows_there}
use Rattle.slot_files.specs.filesets_reading.Faulty.{HasFaults}
use Rattle.domain_faults.specs.Meaning.{AreSameMeaning, IsMeaningOf}
use Rattle.domain_faults.specs.declared.meaning.Meaning.{Meaning}
use Rattle.domain_faults.specs.declared.meaning.Meaning.TheVariants.{Faulty, Filesets, NoDomain}

-- ---- lists in strict order that have the same rows

in_first : (x : FaultRow) (xs : List FaultRow) → Contains (x ∷ xs) x
in_first x xs = (0, omega arith, refl)

in_rest : (x y : FaultRow) (xs : List FaultRow) → Contains xs y → Contains (x ∷ xs) y
in_rest x y xs (k, within, is) = (suc k, omega (arith, within), is)

first_or_rest : (x y : FaultRow) (xs : List FaultRow) → Contains (x ∷ xs) y → (x ≡ y) ⊎ Contains xs y
first_or_rest x y xs (zero, within, is) = inl is
first_or_rest x y xs (suc k, within, is) = inr (k, omega (arith, within), is)

all_of : (P : FaultRow → Type 0) (xs : List FaultRow) → AllByRecursion P xs → (y : FaultRow) → Contains xs y → P y
all_of P [] all y (k, within, is) = absurd (omega (arith, within))
all_of P (x ∷ xs) all y (zero, within, is) = subst P is all.0
all_of P (x ∷ xs) all y (suc k, within, is) = all_of P xs all.1 y (k, omega (arith, within), is)

-- no row is in front of itself, nor two in front of each other
never_both : (a b : FaultRow) → IsBefore a b → IsBefore b a → ⊥
never_both a b first second =
    ⊎_elim (λ code. ⊎_elim (λ back. omega (arith, code, back)) (λ same. omega (arith, code, same.0)) second)
    (λ (same, place). ⊎_elim (λ back. omega (arith, same, back))
    (λ (again, other). ⊎_elim
    (λ vol. ⊎_elim (λ back. omega (arith, vol, back)) (λ more. omega (arith, vol, more.0)) other)
    (λ (vol, page). ⊎_elim (λ back. omega (arith, vol, back)) (λ more. omega (arith, page, more.1)) other) place) second) first

never_itself : (a b : FaultRow) → a ≡ b → IsBefore a b → ⊥
never_itself a b same before = never_both a b before (subst (λ (r : FaultRow). IsBefore r a) same (subst (IsBefore a) (sym same) before))

first_same : (x y : FaultRow) (xs ys : List FaultRow) → AreInOrder (x ∷ xs) → AreInOrder (y ∷ ys) → Contains (y ∷ ys) x → Contains (x ∷ xs) y → x ≡ y
first_same x y xs ys one other there back =
    ⊎_elim (λ same. sym same)
    (λ later. ⊎_elim (λ same. same)
    (λ behind. absurd (never_both y x (all_of (IsBefore y) ys other.0 x later) (all_of (IsBefore x) xs one.0 y behind))) (first_or_rest x y xs back))
    (first_or_rest y x ys there)

rest_in : (x y : FaultRow) (xs ys : List FaultRow) → x ≡ y → AreInOrder (x ∷ xs) → ((row : FaultRow) → Contains (x ∷ xs) row → Contains (y ∷ ys) row) → (row : FaultRow) → Contains xs row → Contains ys row
rest_in x y xs ys same one to row among =
    ⊎_elim (λ first. absurd (never_itself x row (same ∙ first) (all_of (IsBefore x) xs one.0 row among))) (λ more. more)
    (first_or_rest y row ys (to row (in_rest x row xs among)))

same_lists : (xs ys : List FaultRow) → AreInOrder xs → AreInOrder ys → ((row : FaultRow) → Contains xs row → Contains ys row) → ((row : FaultRow) → Contains ys row → Contains xs row) → xs ≡ ys
same_lists [] [] one other to back = refl
same_lists [] (y ∷ ys) one other to back = absurd (let none = back y (in_first y ys) in omega (arith, none.1))
same_lists (x ∷ xs) [] one other to back = absurd (let none = to x (in_first x xs) in omega (arith, none.1))
same_lists (x ∷ xs) (y ∷ ys) one other to back =
    let first : x ≡ y = first_same x y xs ys one other (to x (in_first x xs)) (back y (in_first y ys)) in
    let rest : xs ≡ ys = same_lists xs ys one.1 other.1 (rest_in x y xs ys first one to) (rest_in y x ys xs (sym first) other back) in
    (λ i. first i ∷ rest i)

-- ---- one log

record IsOneLog (a b : Anchor) (groups others : List Group) : Type 0 where
  anchor : a ≡ b
  same : groups ≡ others

one_log : (sizes : List ℕ) (image : Image) (a b : Anchor) (groups others : List Group) → HasLog sizes a groups image → HasLog sizes b others image → IsOneLog a b groups others
one_log sizes image a b groups others one two =
    let anchor : a ≡ b = some_same a b (IsAnchorBelow-unique 16 sizes image (Some a) (Some b) one.anchor_is two.anchor_is) in
    let moved : AreGroups b b.start b.group groups image = subst (λ (x : Anchor). AreGroups x x.start x.group groups image) anchor one.groups_are in
    record { anchor = anchor; same = one_way one_header b b.start b.group groups others image moved two.groups_are }

one_version : (a b : Version) → number_of a ≡ number_of b → a ≡ b
one_version Three Three same = refl
one_version Three Four same = absurd (omega (arith, same))
one_version Four Three same = absurd (omega (arith, same))
one_version Four Four same = refl

-- a fault of the pages of one is one of the other
fault_moves : (sizes : List ℕ) (image : Image) (a b : Anchor) (groups others : List Group) (v w : Version) → HasLog sizes a groups image → HasLog sizes b others image → a.version ≡ number_of v → b.version ≡ number_of w
    → (row : FaultRow) → IsFault (redone groups image) (frame_at a v) row → IsFault (redone others image) (frame_at b w) row
fault_moves sizes image a b groups others v w one two is_v is_w row fault =
    let log = one_log sizes image a b groups others one two in
    let version : v ≡ w = one_version v w (sym is_v ∙ ap (λ (x : Anchor). x.version) log.anchor ∙ is_w) in
    subst (λ (gs : List Group). IsFault (redone gs image) (frame_at b w) row) log.same
    (subst (λ (x : Anchor). IsFault (redone groups image) (frame_at x w) row) log.anchor (subst (λ (u : Version). IsFault (redone groups image) (frame_at a u) row) version fault))

one_list : (sizes : List ℕ) (image : Image) (rows others : List FaultRow) → HasFaults sizes image rows → HasFaults sizes image others → rows ≡ others
one_list sizes image rows others one two =
    same_lists rows others one.faults.order two.faults.order
    (λ row among. (two.faults.each row).1 (fault_moves sizes image one.anchor two.anchor one.groups two.groups one.version two.version one.log two.log one.is_version two.is_version row ((one.faults.each row).0 among)))
    (λ row among. (one.faults.each row).1 (fault_moves sizes image two.anchor one.anchor two.groups one.groups two.version one.version two.log one.log two.is_version one.is_version row ((two.faults.each row).0 among)))

no_rows : (rows : List FaultRow) → ((row : FaultRow) → ¬ Contains rows row) → rows ≡ []
no_rows [] none = refl
no_rows (x ∷ xs) none = absurd (none x (in_first x xs))

faulty_or_means : (sizes : List ℕ) (image : Image) (rows : List FaultRow) → HasFaults sizes image rows → (no_fault : (row : FaultRow) → Contains rows row → ⊥) → ⊥
faulty_or_means sizes image rows has no_fault = has.some (no_rows rows no_fault)

-- ---- one meaning

pub one_meaning : (sizes : List ℕ) (image : Image) (one other : Meaning) → IsMeaningOf sizes image one → IsMeaningOf sizes image other → AreSameMeaning one other
one_meaning sizes image (NoDomain vol at) (NoDomain other page) is also = has_one_fault sizes image vol at other page is also
one_meaning sizes image (NoDomain vol at) (Faulty rows) is also = also.no_first vol at is
one_meaning sizes image (NoDomain vol at) (Filesets all) is also = also.no_first vol at is
one_meaning sizes image (Faulty rows) (NoDomain vol at) is also = is.no_first vol at also
one_meaning sizes image (Faulty rows) (Faulty others) is also = one_list sizes image (rows_there rows.items) (rows_there others.items) is also
one_meaning sizes image (Faulty rows) (Filesets all) is also =
    faulty_or_means sizes image (rows_there rows.items) is
    (λ row among. also.no_fault row (fault_moves sizes image is.anchor also.anchor is.groups also.groups is.version also.version is.log also.log is.is_version also.is_version row ((is.faults.each row).0 among)))
one_meaning sizes image (Filesets all) (NoDomain vol at) is also = is.no_first vol at also
one_meaning sizes image (Filesets all) (Faulty rows) is also =
    faulty_or_means sizes image (rows_there rows.items) also
    (λ row among. is.no_fault row (fault_moves sizes image also.anchor is.anchor also.groups is.groups also.version is.version also.log is.log also.is_version is.is_version row ((also.faults.each row).0 among)))
one_meaning sizes image (Filesets all) (Filesets others) is also = means_once sizes image all others is.reads also.reads
