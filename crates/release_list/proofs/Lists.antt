-- Lists with one thing after the others.
use Rattle.std.proofs.Common.{◌≡◌, ◌∙◌, ◌⊎◌, inl, inr, ℕ, zero, suc, ◌-◌, ◌<◌, true, cond, List, [], ◌∷◌, ◌++◌, Option, Some, None, Contains, get_or, length, slice_set, refl, sym, ap, subst, arith, ⊎_elim}
use Rattle.std.proofs.lemmas.Bool.{cases_lt}
use Rattle.std.proofs.lemmas.List.{get_or-map, length-map}
use Rattle.std.proofs.lemmas.Option.{get_or_from_slice_get, slice_get_within}
use Rattle.file_release.specs.domain_base.declared.place.CellAt.{CellAt}
use Rattle.file_release.specs.domain_base.declared.place.Home.{Home}
use Rattle.file_release.specs.metadata_cells.Chain.{is_at}
use Rattle.file_release.proofs.OfFileChains.Allocated.{there_is}
use Rattle.file_release.proofs.OfFileChains.ChainChanges.{at_apart}
use Rattle.file_release.specs.Releases.{AreAllOnce}
use Rattle.release_list.specs.declared.list.Entry.{Entry}
use Rattle.release_list.specs.Listing.{AreInOrder, clone_but, without, without_clone}
use Rattle.release_list.specs.Steps.{last_home}
use Rattle.release_list.proofs.Spread.{some_same}
use Rattle.release_list.proofs.Standings.{at_itself, same_or_not}

pub in_start : {X : Type 0} (xs ys : List X) (e : X) → Contains xs e → Contains (xs ++ ys) e
in_start [] ys e inside = absurd (omega (arith, inside.1))
in_start (x ∷ xs) ys e (zero, within, is) = (zero, omega arith, is)
in_start (x ∷ xs) ys e (suc k, within, is) = let later = in_start xs ys e (k, omega (arith, within), is) in (suc later.0, omega (arith, later.1), later.2)

pub last_in : {X : Type 0} (xs : List X) (e : X) → Contains (xs ++ e ∷ []) e
last_in [] e = (zero, omega arith, refl)
last_in (x ∷ xs) e = let later = last_in xs e in (suc later.0, omega (arith, later.1), later.2)

pub get_front : {X : Type 0} (xs ys : List X) (k : ℕ) (d : X) → k < length xs → get_or (xs ++ ys) k d ≡ get_or xs k d
get_front [] ys k d within = absurd (omega (arith, within))
get_front (x ∷ xs) ys zero d within = refl
get_front (x ∷ xs) ys (suc k) d within = get_front xs ys k d (omega (arith, within))

pub get_last : {X : Type 0} (xs : List X) (e d : X) → get_or (xs ++ e ∷ []) (length xs) d ≡ e
get_last [] e d = refl
get_last (x ∷ xs) e d = get_last xs e d

pub longer : {X : Type 0} (xs : List X) (e : X) → length (xs ++ e ∷ []) ≡ suc (length xs)
longer [] e = refl
longer (x ∷ xs) e = ap suc (longer xs e)

pub set_last : {X : Type 0} (xs : List X) (e y : X) → slice_set (xs ++ e ∷ []) (length xs) y ≡ xs ++ y ∷ []
set_last [] e y = refl
set_last (x ∷ xs) e y = ap (λ ys. x ∷ ys) (set_last xs e y)

-- the files of entries, if the last has another clone
pub same_files : (front : List Entry) (a b : Entry) → a.at ≡ b.at → (k : ℕ) (d : Entry) → (get_or (front ++ a ∷ []) k d).at ≡ (get_or (front ++ b ∷ []) k d).at
same_files [] a b same zero d = same
same_files [] a b same (suc k) d = refl
same_files (x ∷ front) a b same zero d = refl
same_files (x ∷ front) a b same (suc k) d = same_files front a b same k d

-- an entry of such a list
pub data IsIn (front : List Entry) (last e : Entry) : Type 0 where
  earlier : Contains front e → IsIn front last e
  this : e ≡ last → IsIn front last e

pub is_in : (front : List Entry) (last e : Entry) → Contains (front ++ last ∷ []) e → IsIn front last e
is_in [] last e (zero, within, is) = this (sym is)
is_in [] last e (suc k, within, is) = absurd (omega (arith, within))
is_in (x ∷ front) last e (zero, within, is) = earlier (zero, omega arith, is)
is_in (x ∷ front) last e (suc k, within, is) = by_rest (is_in front last e (k, omega (arith, within), is))
  where
    by_rest : IsIn front last e → IsIn (x ∷ front) last e
    by_rest (earlier inside) = earlier (suc inside.0, omega (arith, inside.1), inside.2)
    by_rest (this same) = this same

-- no file has two entries of a list
abbrev pub AreEntriesOnce : List Entry → Type 0
AreEntriesOnce entries = (i j : ℕ) (d : Entry) → i < length entries → j < length entries → (get_or entries i d).at ≡ (get_or entries j d).at → i ≡ j

pub once_front : (front : List Entry) (last : Entry) → AreEntriesOnce (front ++ last ∷ []) → AreEntriesOnce front
once_front front last once i j d less_i less_j same =
    once i j d (omega (arith, less_i, longer front last)) (omega (arith, less_j, longer front last))
    (ap (λ (e : Entry). e.at) (get_front front (last ∷ []) i d less_i) ∙ same ∙ sym (ap (λ (e : Entry). e.at) (get_front front (last ∷ []) j d less_j)))

pub once_last : (front : List Entry) (last other : Entry) → other.at ≡ last.at → AreEntriesOnce (front ++ last ∷ []) → AreEntriesOnce (front ++ other ∷ [])
once_last front last other same once i j d less_i less_j is =
    once i j d (omega (arith, less_i, longer front last, longer front other)) (omega (arith, less_j, longer front last, longer front other))
    (sym (same_files front other last same i d) ∙ is ∙ same_files front other last same j d)

-- an earlier one has another file
pub not_last : (front : List Entry) (last e : Entry) → AreEntriesOnce (front ++ last ∷ []) → Contains front e → ¬ e.at ≡ last.at
not_last front last e once (k, within, is) same =
    let all : k ≡ length front = once k (length front) e (omega (arith, within, longer front last)) (omega (arith, longer front last))
    (ap (λ (e : Entry). e.at) (get_front front (last ∷ []) k e within ∙ is) ∙ same ∙ sym (ap (λ (e : Entry). e.at) (get_last front last e))) in
    omega (arith, all, within)

-- and one with the same file is the same
pub one_entry : (entries : List Entry) → AreEntriesOnce entries → (a b : Entry) → Contains entries a → Contains entries b → a.at ≡ b.at → a ≡ b
one_entry entries once a b (i, less_i, is_a) (j, less_j, is_b) same =
    let b_there : get_or entries j a ≡ b = there_is entries j a b less_j ∙ is_b in
    let all : i ≡ j = once i j a less_i less_j (ap (λ (e : Entry). e.at) is_a ∙ same ∙ sym (ap (λ (e : Entry). e.at) b_there)) in
    sym is_a ∙ ap (λ n. get_or entries n a) all ∙ b_there

-- ---- what reads through a file stands after it

pub order_front : (front : List Entry) (last : Entry) → AreInOrder (front ++ last ∷ []) → AreInOrder front
order_front front last order i j d less_i less_j same =
    order i j d (omega (arith, less_i, longer front last)) (omega (arith, less_j, longer front last))
    (ap (λ (e : Entry). e.clone) (get_front front (last ∷ []) i d less_i) ∙ same ∙ sym (ap (λ (e : Entry). Some e.at) (get_front front (last ∷ []) j d less_j)))

-- the last one's clone has no entry
pub last_alone : (front : List Entry) (last e : Entry) → AreInOrder (front ++ last ∷ []) → Contains (front ++ last ∷ []) e → ¬ last.clone ≡ Some e.at
last_alone front last e order (k, within, is) some =
    let behind : length front < k = order (length front) k e (omega (arith, longer front last)) within (ap (λ (x : Entry). x.clone) (get_last front last e) ∙ some ∙ sym (ap (λ (x : Entry). Some x.at) is)) in
    omega (arith, behind, within, longer front last)

-- or the last one has no clone any more
pub order_last : (front : List Entry) (last other : Entry) → other.at ≡ last.at → other.clone ≡ None → AreInOrder (front ++ last ∷ []) → AreInOrder (front ++ other ∷ [])
order_last front last other same_at none order i j d less_i less_j same = ⊎_elim
    (λ before.
    order i j d (omega (arith, less_i, longer front last, longer front other)) (omega (arith, less_j, longer front last, longer front other))
    (ap (λ (e : Entry). e.clone) (get_front front (last ∷ []) i d before ∙ sym (get_front front (other ∷ []) i d before)) ∙ same ∙ ap Some (same_files front other last same_at j d)))
    (λ behind.
    let at_end : i ≡ length front = omega (arith, behind, less_i, longer front other) in
    let is : get_or (front ++ other ∷ []) i d ≡ other = ap (λ n. get_or (front ++ other ∷ []) n d) at_end ∙ get_last front other d in
    let no_clone : None ≡ Some (get_or (front ++ other ∷ []) j d).at = sym none ∙ sym (ap (λ (e : Entry). e.clone) is) ∙ same in
    absurd (cc))
    (cases_lt i (length front))

-- ---- a clone that no entry gives any more

pub but_some : (at c : CellAt) (o : Option CellAt) → clone_but at o ≡ Some c → (o ≡ Some c) × (¬ c ≡ at)
but_some at c None some = absurd (let e : None ≡ Some c = some in cc)
but_some at c (Some clone) some = ⊎_elim
    (λ same. absurd (let e : None ≡ Some c = sym (ap (λ b. cond b None (Some clone)) (subst (λ (x : CellAt). is_at clone x ≡ true) same (at_itself clone))) ∙ some in cc))
    (λ other.
    let is : Some clone ≡ Some c = sym (ap (λ b. cond b None (Some clone)) (at_apart clone at other)) ∙ some in
    (is, λ same. other (some_same clone c is ∙ same)))
    (same_or_not clone at)

pub but_other : (at c : CellAt) → ¬ c ≡ at → clone_but at (Some c) ≡ Some c
but_other at c other = ap (λ b. cond b None (Some c)) (at_apart c at other)

pub but_either : (at : CellAt) (o : Option CellAt) → (clone_but at o ≡ o) ⊎ (clone_but at o ≡ None)
but_either at None = inl refl
but_either at (Some clone) = ⊎_elim
    (λ same. inr (ap (λ b. cond b None (Some clone)) (subst (λ (x : CellAt). is_at clone x ≡ true) same (at_itself clone))))
    (λ other. inl (but_other at clone other))
    (same_or_not clone at)

pub get_without : (at : CellAt) (xs : List Entry) (k : ℕ) (d : Entry) → k < length xs → get_or (without_clone at xs) k d ≡ without at (get_or xs k d)
get_without at xs k d within = get_or-map (without at) xs k d d within

-- an entry that is left was one, but for its clone
pub in_without : (at : CellAt) (xs : List Entry) (e : Entry) → Contains (without_clone at xs) e → (was : Entry) × Contains xs was × (e ≡ without at was)
in_without at xs e (k, within, is) =
    let inside : k < length xs = omega (arith, within, length-map xs (without at)) in
    (get_or xs k e, (k, inside, there_is xs k (get_or xs k e) e inside), sym is ∙ get_without at xs k e inside)

pub without_in : (at : CellAt) (xs : List Entry) (e : Entry) → Contains xs e → Contains (without_clone at xs) (without at e)
without_in at xs e (k, within, is) =
    (k, omega (arith, within, length-map xs (without at)), get_or-map (without at) xs k e (without at e) within ∙ ap (without at) is)

pub once_without : (at : CellAt) (xs : List Entry) → AreEntriesOnce xs → AreEntriesOnce (without_clone at xs)
once_without at xs once i j d less_i less_j same =
    let in_i : i < length xs = omega (arith, less_i, length-map xs (without at)) in
    let in_j : j < length xs = omega (arith, less_j, length-map xs (without at)) in
    once i j d in_i in_j (sym (ap (λ (e : Entry). e.at) (get_without at xs i d in_i)) ∙ same ∙ ap (λ (e : Entry). e.at) (get_without at xs j d in_j))

pub order_without : (at : CellAt) (xs : List Entry) → AreInOrder xs → AreInOrder (without_clone at xs)
order_without at xs order i j d less_i less_j same =
    let in_i : i < length xs = omega (arith, less_i, length-map xs (without at)) in
    let in_j : j < length xs = omega (arith, less_j, length-map xs (without at)) in
    order i j d in_i in_j
    (but_some at (get_or xs j d).at (get_or xs i d).clone
    (sym (ap (λ (e : Entry). e.clone) (get_without at xs i d in_i)) ∙ same ∙ ap (λ (e : Entry). Some e.at) (get_without at xs j d in_j))).0

-- the last of a list and those before it
pub last_split : (xs : List Entry) (n : ℕ) (d e : Entry) → length xs ≡ suc n → get_or xs n d ≡ e → (front : List Entry) × (xs ≡ front ++ e ∷ [])
last_split [] n d e len is = absurd (omega (arith, len))
last_split (x ∷ []) zero d e len is = ([], ap (λ (y : Entry). y ∷ []) is)
last_split (x ∷ []) (suc n) d e len is = absurd (omega (arith, len))
last_split (x ∷ y ∷ ys) zero d e len is = absurd (omega (arith, len))
last_split (x ∷ y ∷ ys) (suc n) d e len is = let r = last_split (y ∷ ys) n d e (omega (arith, len)) is in (x ∷ r.0, ap (λ (zs : List Entry). x ∷ zs) r.1)

pub nil_of : (xs : List Entry) → length xs ≡ 0 → xs ≡ []
nil_of [] none = refl
nil_of (x ∷ xs) none = absurd (omega (arith, none))

-- homes
pub last_inside : (homes : List Home) (home : Home) → last_home homes ≡ Some home → Contains homes home
last_inside homes home is = (length homes - 1, slice_get_within homes (length homes - 1) home is, get_or_from_slice_get homes (length homes - 1) home home is)

pub homes_front : (front : List Home) (last : Home) → AreAllOnce (front ++ last ∷ []) → AreAllOnce front
homes_front [] last once = tt
homes_front (x ∷ front) last once = ((λ inside. once.0 (in_start front (last ∷ []) x inside)), homes_front front last once.1)

pub home_not_last : (front : List Home) (last : Home) → AreAllOnce (front ++ last ∷ []) → ¬ Contains front last
home_not_last [] last once inside = omega (arith, inside.1)
home_not_last (x ∷ front) last once (zero, within, is) = once.0 (subst (Contains (front ++ last ∷ [])) (sym is) (last_in front last))
home_not_last (x ∷ front) last once (suc k, within, is) = home_not_last front last once.1 (k, omega (arith, within), is)
