-- Limits as records say them, and a change of one cell of a chain.
use Rattle.std.proofs.Common.{◌≡◌, ◌∙◌, ℕ, zero, suc, ◌+◌, ◌<◌, ◌≤◌, Bool, true, false, cond, List, [], ◌∷◌, ◌++◌, length, take, drop, get_or, Option, Some, None, is_some, unwrap_or, Result, Ok, Err, ◌==◌, if◌then◌else◌, refl, sym, ap, subst, arith}
use Rattle.std.proofs.lemmas.Bool.{and_parts, eqb-true, true≢false}
use Rattle.std.proofs.lemmas.Cmp.{eq_by_cmp_equiv}
use Rattle.std.specs.List.{AllByRecursion, IsDistinct, cons_option}
use Rattle.std.proofs.lemmas.List.{append-nil, drop_more, take-append-drop, take_all, take_more}
use Rattle.std.proofs.lemmas.List.Elements.{filter_map-append}
use Rattle.std.specs.Result.{OnOk}
use Rattle.std.specs.Option.{option_map}
use Rattle.std.specs.FinMap as map
use Rattle.std.specs.declared.cmp.Ordering.{Ordering}
use Rattle.std.specs.declared.cmp.Ordering.TheVariants.{Less, Equal, Greater}
use Rattle.std.specs.Ordering.{is_eq}
use Rattle.std.specs.FinMap.Entries.{find, find-put, put}
use Rattle.cell_records.specs.declared.record.Record.{Record}
use Rattle.fileset_model.specs.fileset_values.Orders.{owner_cmp, owner_cmp-total}
use Rattle.fileset_model.specs.Usage.{is_unlimited, with_limits}
use Rattle.fileset_model.specs.fileset_values.declared.command.Owner.{Owner}
use Rattle.fileset_model.specs.declared.fileset.Limits.{Limits}
use Rattle.fileset_model.proofs.OwnerLemmas.{owner_cmp-IsAntisymmetric}
use Rattle.quota_book.specs.Owners.{same_owner}
use Rattle.quota_book.specs.Book.{Book, HasBindingLimits, empty_book, limits_in}
use Rattle.quota_book.specs.QuotaCells.{AreOnce, HasLimits, Said, TakesLimits, all_said, first_where, has_room, is_said, limits_at, limits_said, or_else, said_by, touched, with_quota}

abbrev pub no_limits : Limits
no_limits = record { files = 0; blocks = 0 }

abbrev or : Option Limits → Option Limits → Option Limits
or None other = other
or (Some x) other = Some x

find-append : (q : Owner) (xs ys : Said) → find owner_cmp q (xs ++ ys) ≡ or (find owner_cmp q xs) (find owner_cmp q ys)
find-append q [] ys = refl
find-append q (x ∷ xs) ys = by_test (same_owner q x.0) (find-append q xs ys)
  where
    by_test : (b : Bool) → find owner_cmp q (xs ++ ys) ≡ or (find owner_cmp q xs) (find owner_cmp q ys) → cond b (Some x.1) (find owner_cmp q (xs ++ ys)) ≡ or (cond b (Some x.1) (find owner_cmp q xs)) (find owner_cmp q ys)
    by_test true rest = refl
    by_test false rest = rest

pub same_is : (a b : Owner) → same_owner a b ≡ true → a ≡ b
same_is a b is = owner_cmp-IsAntisymmetric a b (equal (owner_cmp a b) is)
  where
    equal : (r : Ordering) → is_eq r ≡ true → r ≡ Equal
    equal Less is = absurd (cc)
    equal Equal is = refl
    equal Greater is = absurd (cc)

-- ---- one cell of a chain is changed

-- in no cell before this one something is said of the owner
abbrev NoneBefore : Owner → ℕ → List Said → Type 0
NoneBefore who zero cells = Unit {0}
NoneBefore who (suc k) [] = Unit {0}
NoneBefore who (suc k) (c ∷ cs) = (find owner_cmp who c ≡ None) × NoneBefore who k cs

changed_at : (cells : List Said) (k : ℕ) (who other : Owner) (limits : Limits) → k < length cells → NoneBefore who k cells
    → find owner_cmp other (all_said (with_quota k who limits cells)) ≡ cond (same_owner other who) (Some limits) (find owner_cmp other (all_said cells))
changed_at [] k who other limits within none = absurd (omega (arith, within))
changed_at (c ∷ cs) zero who other limits within none =
    find-append other (put owner_cmp who limits c) (all_said cs) ∙ ap (λ o. or o (find owner_cmp other (all_said cs))) (find-put owner_cmp owner_cmp-total other who limits c)
    ∙ by_test (same_owner other who) ∙ ap (λ o. cond (same_owner other who) (Some limits) o) (sym (find-append other c (all_said cs)))
  where
    by_test : (b : Bool) → or (cond b (Some limits) (find owner_cmp other c)) (find owner_cmp other (all_said cs)) ≡ cond b (Some limits) (or (find owner_cmp other c) (find owner_cmp other (all_said cs)))
    by_test true = refl
    by_test false = refl
changed_at (c ∷ cs) (suc k) who other limits within none =
    find-append other c (all_said (with_quota k who limits cs)) ∙ ap (or (find owner_cmp other c)) (changed_at cs k who other limits (omega (arith, within)) none.1)
    ∙ by_test (same_owner other who) refl ∙ ap (λ o. cond (same_owner other who) (Some limits) o) (sym (find-append other c (all_said cs)))
  where
    by_test : (b : Bool) → same_owner other who ≡ b → or (find owner_cmp other c) (cond b (Some limits) (find owner_cmp other (all_said cs))) ≡ cond b (Some limits) (or (find owner_cmp other c) (find owner_cmp other (all_said cs)))
    by_test true same = ap (λ o. or o (Some limits)) (ap (λ q. find owner_cmp q c) (same_is other who same) ∙ none.0)
    by_test false apart = refl

not_some : (o : Option Limits) → is_some o ≡ false → o ≡ None
not_some None is = refl
not_some (Some x) is = absurd (true≢false is)

-- no cell says anything of the owner
abbrev NoneSaid : Owner → List Said → Type 0
NoneSaid who cells = AllByRecursion (λ c. find owner_cmp who c ≡ None) cells

pub record IsFirst (who : Owner) (k : ℕ) (cells : List Said) : Type 0 where
  pub within : k < length cells
  pub none : NoneBefore who k cells

some_suc : (o : Option ℕ) (k : ℕ) → option_map suc o ≡ Some k → (j : ℕ) × (o ≡ Some j) × (k ≡ suc j)
some_suc None k is = absurd (cc)
some_suc (Some j) k is = (j, refl, cc)

first_said : (cells : List Said) (who : Owner) (k : ℕ) → first_where (is_said who) cells ≡ Some k → IsFirst who k cells
first_said [] who k is = absurd (cc)
first_said (c ∷ cs) who k is = by_test (is_said who c) refl is (λ j at. first_said cs who j at)
  where
    by_test : (b : Bool) → is_said who c ≡ b → cond b (Some 0) (option_map suc (first_where (is_said who) cs)) ≡ Some k → ((j : ℕ) → first_where (is_said who) cs ≡ Some j → IsFirst who j cs) → IsFirst who k (c ∷ cs)
    by_test true said is rest = let e : 0 ≡ k = cc in subst (λ n. IsFirst who n (c ∷ cs)) e (record { within = omega arith; none = tt })
    by_test false unsaid is rest =
        let s = some_suc (first_where (is_said who) cs) k is in
        let r = rest s.0 s.1 in
        subst (λ n. IsFirst who n (c ∷ cs)) (sym s.2) (record { within = (let w = r.within in omega (arith, w)); none = (not_some (find owner_cmp who c) unsaid, r.none) })

none_said : (cells : List Said) (who : Owner) → first_where (is_said who) cells ≡ None → NoneSaid who cells
none_said [] who is = tt
none_said (c ∷ cs) who is = by_test (is_said who c) refl is (λ none. none_said cs who none)
  where
    none_mapped : (o : Option ℕ) → option_map suc o ≡ None → o ≡ None
    none_mapped None is = refl
    none_mapped (Some j) is = absurd (cc)

    by_test : (b : Bool) → is_said who c ≡ b → cond b (Some 0) (option_map suc (first_where (is_said who) cs)) ≡ None → (first_where (is_said who) cs ≡ None → NoneSaid who cs) → NoneSaid who (c ∷ cs)
    by_test true said is rest = absurd (cc)
    by_test false unsaid is rest = (not_some (find owner_cmp who c) unsaid, rest (none_mapped (first_where (is_said who) cs) is))

first_room : (cells : List Said) (who : Owner) (k : ℕ) → NoneSaid who cells → first_where has_room cells ≡ Some k → IsFirst who k cells
first_room [] who k none is = absurd (cc)
first_room (c ∷ cs) who k none is = by_test (has_room c) is (λ j at. first_room cs who j none.1 at)
  where
    by_test : (b : Bool) → cond b (Some 0) (option_map suc (first_where has_room cs)) ≡ Some k → ((j : ℕ) → first_where has_room cs ≡ Some j → IsFirst who j cs) → IsFirst who k (c ∷ cs)
    by_test true is rest = let e : 0 ≡ k = cc in subst (λ n. IsFirst who n (c ∷ cs)) e (record { within = omega arith; none = tt })
    by_test false is rest =
        let s = some_suc (first_where has_room cs) k is in
        let r = rest s.0 s.1 in
        subst (λ n. IsFirst who n (c ∷ cs)) (sym s.2) (record { within = (let w = r.within in omega (arith, w)); none = (none.0, r.none) })

touched_first : (cells : List Said) (who : Owner) (k : ℕ) → touched cells who ≡ Some k → IsFirst who k cells
touched_first cells who k is = by_case (first_where (is_said who) cells) refl is
  where
    by_case : (o : Option ℕ) → first_where (is_said who) cells ≡ o → or_else o (first_where has_room cells) ≡ Some k → IsFirst who k cells
    by_case None none is = first_room cells who k (none_said cells who none) is
    by_case (Some j) at is = first_said cells who k (at ∙ is)

pub one_touched : (cells : List Said) (who other : Owner) (limits : Limits) (k : ℕ) → touched cells who ≡ Some k
    → limits_at (all_said (with_quota k who limits cells)) other ≡ cond (same_owner other who) limits (limits_at (all_said cells) other)
one_touched cells who other limits k is =
    let first = touched_first cells who k is in
    ap (λ o. unwrap_or o no_limits) (changed_at cells k who other limits first.within first.none) ∙ by_test (same_owner other who)
  where
    by_test : (b : Bool) → unwrap_or (cond b (Some limits) (find owner_cmp other (all_said cells))) no_limits ≡ cond b limits (limits_at (all_said cells) other)
    by_test true = refl
    by_test false = refl

added_at : (cells : List Said) (who other : Owner) (limits : Limits) → NoneSaid who cells
    → find owner_cmp other (all_said (cells ++ ((who, limits) ∷ []) ∷ [])) ≡ cond (same_owner other who) (Some limits) (find owner_cmp other (all_said cells))
added_at [] who other limits none = refl
added_at (c ∷ cs) who other limits none =
    find-append other c (all_said (cs ++ ((who, limits) ∷ []) ∷ [])) ∙ ap (or (find owner_cmp other c)) (added_at cs who other limits none.1)
    ∙ by_test (same_owner other who) refl ∙ ap (λ o. cond (same_owner other who) (Some limits) o) (sym (find-append other c (all_said cs)))
  where
    by_test : (b : Bool) → same_owner other who ≡ b → or (find owner_cmp other c) (cond b (Some limits) (find owner_cmp other (all_said cs))) ≡ cond b (Some limits) (or (find owner_cmp other c) (find owner_cmp other (all_said cs)))
    by_test true same = ap (λ o. or o (Some limits)) (ap (λ q. find owner_cmp q c) (same_is other who same) ∙ none.0)
    by_test false apart = refl

untouched : (cells : List Said) (who : Owner) → touched cells who ≡ None → NoneSaid who cells
untouched cells who is = by_case (first_where (is_said who) cells) refl is
  where
    by_case : (o : Option ℕ) → first_where (is_said who) cells ≡ o → or_else o (first_where has_room cells) ≡ None → NoneSaid who cells
    by_case None none is = none_said cells who none
    by_case (Some j) at is = absurd (cc)

pub one_added : (cells : List Said) (who other : Owner) (limits : Limits) → touched cells who ≡ None
    → limits_at (all_said (cells ++ ((who, limits) ∷ []) ∷ [])) other ≡ cond (same_owner other who) limits (limits_at (all_said cells) other)
one_added cells who other limits is =
    ap (λ o. unwrap_or o no_limits) (added_at cells who other limits (untouched cells who is)) ∙ by_test (same_owner other who)
  where
    by_test : (b : Bool) → unwrap_or (cond b (Some limits) (find owner_cmp other (all_said cells))) no_limits ≡ cond b limits (limits_at (all_said cells) other)
    by_test true = refl
    by_test false = refl

-- ---- limits that records say, taken one after the other

pub unlimited_is : (limits : Limits) → is_unlimited limits ≡ true → limits ≡ no_limits
unlimited_is limits is =
    let parts = and_parts (limits.files == 0) (limits.blocks == 0) is in
    λ i. record { files = eqb-true limits.files 0 parts.0 i; blocks = eqb-true limits.blocks 0 parts.1 i }

set_taken : (book : Book) (who : Owner) (limits : Limits) → TakesLimits (Some (who, limits)) book (record book { limits = with_limits book.limits who limits })
set_taken book who limits = record { totals = refl; limits = λ q. by_test q (is_unlimited limits) refl; binding = λ old q l at. binds old q l (is_unlimited limits) refl at }
  where
    after_removal : (q : Owner) (b : Bool) → is_unlimited limits ≡ true → unwrap_or (cond b None (map.get book.limits q)) no_limits ≡ cond b limits (limits_in book q)
    after_removal q true none = sym (unlimited_is limits none)
    after_removal q false none = refl

    after_insert : (q : Owner) (b : Bool) → unwrap_or (cond b (Some limits) (map.get book.limits q)) no_limits ≡ cond b limits (limits_in book q)
    after_insert q true = refl
    after_insert q false = refl

    by_test : (q : Owner) (b : Bool) → is_unlimited limits ≡ b
        → unwrap_or (map.get (if b then map.remove book.limits who else map.insert book.limits who limits) q) no_limits ≡ cond (same_owner q who) limits (limits_in book q)
    by_test q true none = ap (λ o. unwrap_or o no_limits) (map.get-remove owner_cmp-total book.limits who q) ∙ after_removal q (same_owner q who) none
    by_test q false some = ap (λ o. unwrap_or o no_limits) (map.get-insert owner_cmp-total book.limits who limits q) ∙ after_insert q (same_owner q who)

    binds : HasBindingLimits book → (q : Owner) (l : Limits) (b : Bool) → is_unlimited limits ≡ b
        → map.get (if b then map.remove book.limits who else map.insert book.limits who limits) q ≡ Some l → is_unlimited l ≡ false
    binds old q l true none at = of_rest (same_owner q who) (sym (map.get-remove owner_cmp-total book.limits who q) ∙ at)
      where
        of_rest : (s : Bool) → cond s None (map.get book.limits q) ≡ Some l → is_unlimited l ≡ false
        of_rest true at = absurd (cc)
        of_rest false at = old q l at
    binds old q l false some at = of_rest (same_owner q who) (sym (map.get-insert owner_cmp-total book.limits who limits q) ∙ at)
      where
        of_rest : (s : Bool) → cond s (Some limits) (map.get book.limits q) ≡ Some l → is_unlimited l ≡ false
        of_rest true at = let e : limits ≡ l = cc in subst (λ x. is_unlimited x ≡ false) e some
        of_rest false at = old q l at

pub takes_set : {E : Type 0} (old new : Book) (who : Owner) (limits : Limits) (r : Result (Unit {0}) E) → OnOk r (new ≡ record old { limits = with_limits old.limits who limits })
    → OnOk r (TakesLimits (Some (who, limits)) old new)
takes_set old new who limits (Ok x) is = subst (TakesLimits (Some (who, limits)) old) (sym is) (set_taken old who limits)
takes_set old new who limits (Err e) is = tt

pub none_taken : (book : Book) → book ≡ empty_book → HasLimits [] book
none_taken book is = subst (HasLimits []) (sym is) (record { unused = refl; limits = λ who. ap (λ o. unwrap_or o no_limits) (map.get-empty owner_cmp who); binding = λ who l at. no_entry who l (sym (map.get-empty owner_cmp who) ∙ at) })
  where
    no_entry : (who : Owner) (l : Limits) → None ≡ Some l → is_unlimited l ≡ false
    no_entry who l is = absurd (cc)

apart_at : (x : Owner × Limits) (xs : Said) (e : Owner × Limits) (ys : Said) → AllByRecursion (λ (y : Owner × Limits). same_owner x.0 y.0 ≡ false) (xs ++ e ∷ ys) → same_owner x.0 e.0 ≡ false
apart_at x [] e ys all = all.0
apart_at x (y ∷ xs) e ys all = apart_at x xs e ys all.1

pub once_before : (xs : Said) (e : Owner × Limits) (ys : Said) → AreOnce (xs ++ e ∷ ys) → find owner_cmp e.0 xs ≡ None
unfolding IsDistinct
once_before [] e ys once = refl
once_before (x ∷ xs) e ys once =
    ap (λ b. cond b (Some x.1) (find owner_cmp e.0 xs)) ((eq_by_cmp_equiv owner_cmp-total).symm e.0 x.0 ∙ apart_at x xs e ys once.0) ∙ once_before xs e ys once.1

limits-append : (xs : Said) (who : Owner) → limits_at (xs ++ []) who ≡ limits_at xs who
limits-append xs who = ap (λ (s : Said). limits_at s who) (append-nil xs)

taken_on : (xs ys : Said) (o : Option (Owner × Limits)) (old new : Book) → AreOnce (xs ++ cons_option o ys) → HasLimits xs old → TakesLimits o old new → HasLimits (xs ++ cons_option o []) new
taken_on xs ys None old new once has takes = record { unused = takes.totals ∙ has.unused; limits = λ who. takes.limits who ∙ has.limits who ∙ sym (limits-append xs who); binding = takes.binding has.binding }
taken_on xs ys (Some e) old new once has takes = record { unused = takes.totals ∙ has.unused; limits = λ who. takes.limits who ∙ by_test who (same_owner who e.0) refl; binding = takes.binding has.binding }
  where
    or_none : (o : Option Limits) → o ≡ or o None
    or_none None = refl
    or_none (Some x) = refl

    by_test : (who : Owner) (b : Bool) → same_owner who e.0 ≡ b → cond (same_owner who e.0) e.1 (limits_in old who) ≡ limits_at (xs ++ e ∷ []) who
    by_test who true same =
        ap (λ b. cond b e.1 (limits_in old who)) same
        ∙ sym (ap (λ o. unwrap_or o no_limits) (find-append who xs (e ∷ []) ∙ ap (λ o. or o (find owner_cmp who (e ∷ []))) (ap (λ q. find owner_cmp q xs) (same_is who e.0 same) ∙ once_before xs e ys once) ∙ ap (λ b. cond b (Some e.1) None) same))
    by_test who false apart =
        ap (λ b. cond b e.1 (limits_in old who)) apart ∙ has.limits who
        ∙ ap (λ o. unwrap_or o no_limits) (or_none (find owner_cmp who xs) ∙ sym (find-append who xs (e ∷ []) ∙ ap (λ b. or (find owner_cmp who xs) (cond b (Some e.1) None)) apart))

pub taken_more : (records : List Record) (i : ℕ) (d : Record) (old new : Book) → i < length records → AreOnce (said_by records) → HasLimits (said_by (take i records)) old → TakesLimits (limits_said (get_or records i d)) old new
    → HasLimits (said_by (take (i + 1) records)) new
taken_more records i d old new within once has takes =
    let r = get_or records i d in
    let front = take i records in
    let rest = drop (i + 1) records in
    let all : said_by records ≡ said_by front ++ cons_option (limits_said r) (said_by rest) =
    ap said_by (sym (take-append-drop i records)) ∙ filter_map-append limits_said front (drop i records) ∙ ap (λ (rs : List Record). said_by front ++ said_by rs) (drop_more records i d within) in
    let next : said_by (take (i + 1) records) ≡ said_by front ++ cons_option (limits_said r) [] = ap said_by (take_more records i d within) ∙ filter_map-append limits_said front (r ∷ []) in
    subst (λ (s : Said). HasLimits s new) (sym next) (taken_on (said_by front) (said_by rest) (limits_said r) old new (subst AreOnce all once) has takes)

pub taken_all : (records : List Record) (i : ℕ) (book : Book) → length records ≤ i → HasLimits (said_by (take i records)) book → HasLimits (said_by records) book
taken_all records i book all has = subst (λ (rs : List Record). HasLimits (said_by rs) book) (take_all i records all) has
