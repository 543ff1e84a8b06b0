-- What it does to accounts, and to the list of owners, that one owner gets a share.
use Rattle.std.proofs.Common.{◌≡◌, ◌∙◌, ◌+◌, ◌<◌, ◌≤◌, ◌||◌, ℕ, Bool, true, false, cond, List, [], ◌∷◌, length, unwrap_or, is_some, IsTrue, T, Option, Some, None, refl, sym, ap, subst, arith, if◌then◌else◌}
use Rattle.std.proofs.lemmas.Bool.{true≢false}
use Rattle.std.proofs.lemmas.List.{length-append}
use Rattle.std.proofs.lemmas.List.Folds.{list_any-append}
use Rattle.std.proofs.lemmas.Cmp.{eq_by_cmp_equiv}
use Rattle.std.specs.declared.cmp.Ordering.{Ordering}
use Rattle.std.specs.declared.cmp.Ordering.TheVariants.{Less, Equal, Greater}
use Rattle.std.specs.Ordering.{is_eq}
use Rattle.std.specs.FinMap.Entries.{below_all, by_order, find, find-put, is_sorted, length-put, put}
use Rattle.fileset_model.specs.fileset_values.Orders.{owner_cmp, owner_cmp-total}
use Rattle.fileset_model.specs.fileset_values.declared.command.Owner.{Owner}
use Rattle.fileset_model.proofs.OfSortedSets.EntryLemmas.{first, is_sorted_put, less, second, to_T}
use Rattle.quota_book.specs.declared.account.Account.{Account}
use Rattle.quota_book.specs.declared.account.Account.TheVariants.{Same}
use Rattle.quota_book.specs.declared.account.Share.{Share}
use Rattle.quota_book.specs.Owners.{same_owner}
use Rattle.quota_book.specs.Accounts.{Accounts, AreAccounts, Kept, Now, SetsShare, account_at, count_same, is_listed, is_same, no_share, share_at, share_on, with_owner}
use Rattle.quota_book.proofs.Cells.{same_is}

-- ---- how many say one share

abbrev pub counts : Account → ℕ
counts account = if is_same account then 1 else 0

abbrev pub counts_found : Option Account → ℕ
counts_found None = 0
counts_found (Some account) = counts account

pub counted : (e : Owner × Account) (es : Accounts) → count_same (e ∷ es) ≡ counts e.1 + count_same es
counted e es = elim (is_same e.1) as (λ b. (if b then 1 + count_same es else count_same es) ≡ (if b then 1 else 0) + count_same es) [
  | true ↦ refl
  | false ↦ omega arith
]

below_none : (q x : Owner) (es : Accounts) → owner_cmp q x ≡ Less → T (below_all owner_cmp x es) → find owner_cmp q es ≡ None
below_none q x [] low below = refl
below_none q x (e ∷ es) low below =
    let apart : owner_cmp q e.0 ≡ Less = owner_cmp-total.trans q x e.0 low (less _ (first _ _ below)) in
    ap (λ r. cond (is_eq r) (Some e.1) (find owner_cmp q es)) apart ∙ below_none q x es low (second _ _ below)

pub count_put : (who : Owner) (account : Account) (es : Accounts) → T (is_sorted owner_cmp es)
    → count_same (put owner_cmp who account es) + counts_found (find owner_cmp who es) ≡ count_same es + counts account
count_put who account [] sorted = omega (arith, counted (who, account) [])
count_put who account (e ∷ es) sorted = by_place (owner_cmp who e.0) refl (count_put who account es (second _ _ sorted))
  where
    by_place : (r : Ordering) → owner_cmp who e.0 ≡ r → count_same (put owner_cmp who account es) + counts_found (find owner_cmp who es) ≡ count_same es + counts account
        → count_same (by_order r ((who, account) ∷ e ∷ es) ((e.0, account) ∷ es) (e ∷ put owner_cmp who account es)) + counts_found (cond (is_eq r) (Some e.1) (find owner_cmp who es))
        ≡ count_same (e ∷ es) + counts account
    by_place Less is rest =
        let none = ap counts_found (below_none who e.0 es is (first _ _ sorted)) in
        let more = counted (who, account) (e ∷ es) in
        omega (arith, more, none)
    by_place Equal is rest =
        let new = counted (e.0, account) es in
        let old = counted e es in
        omega (arith, new, old)
    by_place Greater is rest =
        let new = counted e (put owner_cmp who account es) in
        let old = counted e es in
        omega (arith, rest, new, old)

-- ---- the list of owners

pub itself : (who : Owner) → same_owner who who ≡ true
itself who = (eq_by_cmp_equiv owner_cmp-total).refl who

listed_more : (was : Bool) (who : Owner) (changed : List Owner) (q : Owner) → is_listed changed q ≡ true → is_listed (with_owner was who changed) q ≡ true
listed_more true who changed q is = list_any-append (same_owner q) changed (who ∷ []) ∙ ap (λ b. b || is_listed (who ∷ []) q) is
listed_more false who changed q is = is

or_right : (a b : Bool) → b ≡ true → (a || b) ≡ true
or_right true b t = refl
or_right false b t = t

listed_now : (was : Bool) (who : Owner) (changed : List Owner) → (was ≡ false → is_listed changed who ≡ true) → is_listed (with_owner was who changed) who ≡ true
listed_now true who changed other =
    list_any-append (same_owner who) changed (who ∷ []) ∙ or_right (is_listed changed who) _ (ap (λ b. b || false) (itself who))
listed_now false who changed other = other refl

length_more : (was : Bool) (who : Owner) (changed : List Owner) → length (with_owner was who changed) ≡ length changed + (if was then 1 else 0)
length_more true who changed = length-append changed (who ∷ [])
length_more false who changed = omega arith

-- ---- an account is put in its place

module _ (es : Accounts) (who : Owner) (account : Account) where
  abbrev pub with_account : Accounts
  with_account = put owner_cmp who account es

  found : (q : Owner) → find owner_cmp q with_account ≡ cond (same_owner q who) (Some account) (find owner_cmp q es)
  found q = find-put owner_cmp owner_cmp-total q who account es

  pub sets_put : (share : Share) → share_on Now account ≡ share → share_on Kept account ≡ share_at Kept es who → SetsShare who share es with_account
  sets_put share now kept = record {
    now = λ q. ap (λ o. share_on Now (unwrap_or o (Same no_share))) (found q) ∙ by_now q (same_owner q who);
    kept = λ q. ap (λ o. share_on Kept (unwrap_or o (Same no_share))) (found q) ∙ by_kept q (same_owner q who) refl;
  }
    where
      by_now : (q : Owner) (b : Bool) → share_on Now (unwrap_or (cond b (Some account) (find owner_cmp q es)) (Same no_share)) ≡ cond b share (share_at Now es q)
      by_now q true = now
      by_now q false = refl

      by_kept : (q : Owner) (b : Bool) → same_owner q who ≡ b → share_on Kept (unwrap_or (cond b (Some account) (find owner_cmp q es)) (Same no_share)) ≡ share_at Kept es q
      by_kept q true same = kept ∙ ap (share_at Kept es) (sym (same_is q who same))
      by_kept q false apart = refl

  module _ (changed : List Owner) (are : AreAccounts es changed) where
    length_is : length with_account ≡ cond (is_some (find owner_cmp who es)) (length es) (length es + 1)
    length_is = length-put owner_cmp owner_cmp-total who account es (to_T _ are.sorted)

    pub accounts_put : is_same account ≡ false → AreAccounts with_account (with_owner (is_same (account_at es who)) who changed)
    accounts_put changes = record {
      sorted = is_sorted_put owner_cmp-total es who account are.sorted;
      listed = λ q other at changed_so. by_owner q other (same_owner q who) refl (sym (found q) ∙ at) changed_so;
      once = fits (find owner_cmp who es) (count_put who account es (to_T _ are.sorted)) length_is (length_more (is_same (account_at es who)) who changed);
    }
      where
        now_listed : (o : Option Account) → find owner_cmp who es ≡ o → is_same (unwrap_or o (Same no_share)) ≡ false → is_listed changed who ≡ true
        now_listed None at not_same = absurd (true≢false not_same)
        now_listed (Some a) at not_same = are.listed who a at not_same

        by_owner : (q : Owner) (other : Account) (b : Bool) → same_owner q who ≡ b → cond b (Some account) (find owner_cmp q es) ≡ Some other → is_same other ≡ false
            → is_listed (with_owner (is_same (account_at es who)) who changed) q ≡ true
        by_owner q other true same at not_same =
            subst (λ n. is_listed (with_owner (is_same (account_at es who)) who changed) n ≡ true) (sym (same_is q who same))
            (listed_now (is_same (account_at es who)) who changed (now_listed (find owner_cmp who es) refl))
        by_owner q other false apart at not_same = listed_more (is_same (account_at es who)) who changed q (are.listed q other at not_same)

        none_counts : counts account ≡ 0
        none_counts = ap (λ b. if b then 1 else 0) changes

        fits : (o : Option Account) → count_same with_account + counts_found o ≡ count_same es + counts account → length with_account ≡ cond (is_some o) (length es) (length es + 1)
            → length (with_owner (is_same (account_at es who)) who changed) ≡ length changed + (if is_same (unwrap_or o (Same no_share)) then 1 else 0)
            → length (with_owner (is_same (account_at es who)) who changed) + count_same with_account ≤ length with_account
        fits None count many list = omega (arith, count, many, list, none_counts, are.once)
        fits (Some a) count many list = omega (arith, count, many, list, none_counts, are.once)

    -- where an account says one share, the list has room for its owner
    pub has_room : IsTrue (is_some (find owner_cmp who es)) → is_same (account_at es who) ≡ true → is_same account ≡ false → length changed < length es
    has_room there same changes = by_found (find owner_cmp who es) there same (count_put who account es (to_T _ are.sorted))
      where
        by_found : (o : Option Account) → IsTrue (is_some o) → is_same (unwrap_or o (Same no_share)) ≡ true → count_same with_account + counts_found o ≡ count_same es + counts account → length changed < length es
        by_found None there same count = absurd (true≢false (sym there))
        by_found (Some a) there same count =
            let one : counts a ≡ 1 = ap (λ b. if b then 1 else 0) same in
            let none : counts account ≡ 0 = ap (λ b. if b then 1 else 0) changes in
            omega (arith, one, none, count, are.once)

    pub length_stays : IsTrue (is_some (find owner_cmp who es)) → length with_account ≡ length es
    length_stays there = length_is ∙ ap (λ b. cond b (length es) (length es + 1)) there
