-- What it does to accounts that the share of one owner, and then of all, is kept or taken back.
use Rattle.std.proofs.Common.{◌≡◌, ◌∙◌, ◌+◌, ◌≤◌, ◌||◌, Bool, true, false, cond, List, [], ◌∷◌, ◌++◌, length, unwrap_or, is_some, IsTrue, Option, Some, None, refl, sym, ap, subst, arith}
use Rattle.std.proofs.lemmas.Bool.{true≢false}
use Rattle.std.proofs.lemmas.Option.{same_Some}
use Rattle.std.proofs.lemmas.List.{length-append}
use Rattle.std.specs.Option.{ForSome}
use Rattle.std.specs.FinMap.Entries.{find, find-put, is_sorted, length-put, put}
use Rattle.fileset_model.specs.fileset_values.Orders.{owner_cmp, owner_cmp-total}
use Rattle.fileset_model.specs.fileset_values.declared.command.Owner.{Owner}
use Rattle.fileset_model.proofs.OfSortedSets.EntryLemmas.{to_T}
use Rattle.fileset_model.proofs.OfSortedSets.Removal.{others}
use Rattle.quota_book.specs.declared.account.Account.{Account}
use Rattle.quota_book.specs.declared.account.Account.TheVariants.{Same, Changed}
use Rattle.quota_book.specs.declared.account.Share.{Share}
use Rattle.quota_book.specs.declared.account.Side.{Side}
use Rattle.quota_book.specs.Owners.{same_owner}
use Rattle.quota_book.specs.Accounts.{Accounts, AreAccounts, SettlesOne, is_listed, is_same, no_share, share_at, share_on}
use Rattle.quota_book.proofs.Cells.{same_is}
use Rattle.quota_book.proofs.Shares.{count_put, counts, counts_found, itself}

none_some : {A : Type 0} (x : A) → None ≡ Some x → ⊥
none_some x is = absurd (cc)

counts_most : (account : Account) → counts account ≤ 1
counts_most (Same share) = omega arith
counts_most (Changed now was) = omega arith

-- ---- the share of one owner

module _ (side : Side) (who : Owner) (es : Accounts) (sorted : IsTrue (is_sorted owner_cmp es)) where
  pub settles_none : find owner_cmp who es ≡ None → SettlesOne side who es es
  settles_none none = record {
    others = λ q apart. refl;
    same = λ account at. absurd (none_some account (sym none ∙ at));
    share = refl;
    count = omega arith;
  }

  module _ (account : Account) (there : find owner_cmp who es ≡ Some account) where
    share_there : share_at side es who ≡ share_on side account
    share_there = ap (λ o. share_on side (unwrap_or o (Same no_share))) there

    pub length_put : (share : Share) → length (put owner_cmp who (Same share) es) ≡ length es
    length_put share = length-put owner_cmp owner_cmp-total who (Same share) es (to_T _ sorted) ∙ ap (λ (o : Option Account). cond (is_some o) (length es) (length es + 1)) there

    pub settles_put : (share : Share) → share ≡ share_on side account → SettlesOne side who es (put owner_cmp who (Same share) es)
    settles_put share is = record {
      others = λ q apart. found q ∙ ap (λ b. cond b (Some (Same share)) (find owner_cmp q es)) apart;
      same = λ other at. subst (λ a. is_same a ≡ true) (same_Some (Same share) other (sym here ∙ at)) refl;
      share = ap (λ o. share_on side (unwrap_or o (Same no_share))) here ∙ is ∙ sym share_there;
      count = (let a = count_put who (Same share) es (to_T _ sorted) in
          let b = length_put share in
          let c = ap counts_found there in
          let d = counts_most account in
          omega (arith, a, b, c, d));
    }
      where
        found : (q : Owner) → find owner_cmp q (put owner_cmp who (Same share) es) ≡ cond (same_owner q who) (Some (Same share)) (find owner_cmp q es)
        found q = find-put owner_cmp owner_cmp-total q who (Same share) es

        here : find owner_cmp who (put owner_cmp who (Same share) es) ≡ Some (Same share)
        here = found who ∙ ap (λ b. cond b (Some (Same share)) (find owner_cmp who es)) (itself who)

-- ---- of all owners on the list

listed_before : (changed : List Owner) (who q : Owner) → same_owner q who ≡ false → is_listed (changed ++ who ∷ []) q ≡ true → is_listed changed q ≡ true
listed_before [] who q apart is = absurd (true≢false (sym is ∙ ap (λ b. b || false) apart))
listed_before (x ∷ xs) who q apart is = by_test (same_owner q x) is (λ later. listed_before xs who q apart later)
  where
    by_test : (b : Bool) → (b || is_listed (xs ++ who ∷ []) q) ≡ true → (is_listed (xs ++ who ∷ []) q ≡ true → is_listed xs q ≡ true) → (b || is_listed xs q) ≡ true
    by_test true is rest = refl
    by_test false is rest = rest is

-- accounts, the last one on the list settled
pub accounts_settled : (side : Side) (old new : Accounts) (listed changed : List Owner) (who : Owner) → AreAccounts old listed → listed ≡ changed ++ who ∷ [] → SettlesOne side who old new
    → IsTrue (is_sorted owner_cmp new) → AreAccounts new changed
accounts_settled side old new listed changed who are is settles sorted = record {
  sorted = sorted;
  listed = λ q account at changes. by_owner q account (same_owner q who) refl at changes;
  once = (let a = settles.count in
      let b = are.once in
      let c = ap (λ (l : List Owner). length l) is ∙ length-append changed (who ∷ []) in
      omega (arith, a, b, c));
}
  where
    by_owner : (q : Owner) (account : Account) (b : Bool) → same_owner q who ≡ b → find owner_cmp q new ≡ Some account → is_same account ≡ false → is_listed changed q ≡ true
    by_owner q account true same at changes = absurd (true≢false (sym (settles.same account (ap (λ n. find owner_cmp n new) (sym (same_is q who same)) ∙ at)) ∙ changes))
    by_owner q account false apart at changes =
        listed_before changed who q apart (ap (λ l. is_listed l q) (sym is) ∙ are.listed q account (sym (settles.others q apart) ∙ at) changes)

-- so each share is as it was on that side
pub shares_settled : (side : Side) (old new : Accounts) (who : Owner) → SettlesOne side who old new → (q : Owner) → share_at side new q ≡ share_at side old q
shares_settled side old new who settles q = by_owner (same_owner q who) refl
  where
    by_owner : (b : Bool) → same_owner q who ≡ b → share_at side new q ≡ share_at side old q
    by_owner true same = subst (λ n. share_at side new n ≡ share_at side old n) (sym (same_is q who same)) settles.share
    by_owner false apart = ap (λ o. share_on side (unwrap_or o (Same no_share))) (settles.others q apart)

-- where no owner is listed, no account has changed
pub none_changed : (es : Accounts) (changed : List Owner) → AreAccounts es changed → changed ≡ [] → (q : Owner) → ForSome (find owner_cmp q es) (λ account. is_same account ≡ true)
none_changed es changed are none q account at = by_test (is_same account) refl
  where
    by_test : (b : Bool) → is_same account ≡ b → b ≡ true
    by_test true is = refl
    by_test false is = absurd (true≢false (sym (ap (λ l. is_listed l q) (sym none) ∙ are.listed q account at is)))

-- and then both shares of each owner are one
pub one_share : (side other : Side) (es : Accounts) (q : Owner) → ForSome (find owner_cmp q es) (λ account. is_same account ≡ true) → share_at side es q ≡ share_at other es q
one_share side other es q same = by_found (find owner_cmp q es) same
  where
    of_account : (account : Account) → is_same account ≡ true → share_on side account ≡ share_on other account
    of_account (Same share) is = refl
    of_account (Changed now was) is = absurd (true≢false (sym is))

    by_found : (o : Option Account) → ForSome o (λ account. is_same account ≡ true) → share_on side (unwrap_or o (Same no_share)) ≡ share_on other (unwrap_or o (Same no_share))
    by_found None same = refl
    by_found (Some account) same = of_account account (same account refl)
