-- What the books of accounts show.
use Rattle.std.proofs.Common.{◌≡◌, ◌∙◌, ◌&&◌, ◌==◌, ℕ, Bool, true, false, cond, not, List, [], ◌∷◌, map, unwrap_or, IsTrue, Option, Some, None, refl, sym, ap, subst}
use Rattle.std.proofs.lemmas.Bool.{and_parts, eqb-true, true≢false}
use Rattle.std.specs.Ordering.{is_lt}
use Rattle.std.specs.Option.{option_map}
use Rattle.std.specs.FinMap as fin_map
use Rattle.std.specs.FinMap.Entries.{below_all, find, find-where_key, is_sorted, where_key}
use Rattle.fileset_model.specs.fileset_values.Orders.{owner_cmp, owner_cmp-total}
use Rattle.fileset_model.specs.Usage.{is_owned, is_unlimited, with_limits}
use Rattle.fileset_model.specs.fileset_values.declared.command.Owner.{Owner}
use Rattle.fileset_model.specs.fileset_values.declared.command.Owner.TheVariants.{User, Group, Fileset}
use Rattle.fileset_model.specs.declared.fileset.Limits.{Limits}
use Rattle.fileset_model.specs.declared.fileset.Usage.{Usage}
use Rattle.fileset_model.proofs.OwnerLemmas.{owner_cmp-IsAntisymmetric}
use Rattle.fileset_model.proofs.OfSortedSets.EntryLemmas.{get-from_sorted, is_sorted_where}
use Rattle.quota_book.specs.declared.account.Account.{Account}
use Rattle.quota_book.specs.declared.account.Account.TheVariants.{Same}
use Rattle.quota_book.specs.declared.account.Share.{Share}
use Rattle.quota_book.specs.declared.account.Side.{Side}
use Rattle.quota_book.specs.Owners.{nothing, same_owner}
use Rattle.quota_book.specs.Book.{FitsAll, HasAll, HasNoTrace, IsBelow, IsWithin, KeptBook, is_nothing, limits_in, used}
use Rattle.quota_book.specs.Accounts.{Accounts, ChangesUsage, Kept, Now, SetsShare, SettlesAll, book_on, books_of, is_bound, no_share, share_at, share_on, used_at, uses_some}
use Rattle.quota_book.proofs.Settled.{one_share}
use Rattle.quota_book.proofs.Cells.{no_limits, same_is, unlimited_is}

-- ---- the values of a list's entries, each by a function

module _ {X : Type 0} (f : Account → X) where
  abbrev mapped : Accounts → List (Owner × X)
  mapped es = map (λ (e : Owner × Account). (e.0, f e.1)) es

  find_mapped : (q : Owner) (es : Accounts) → find owner_cmp q (mapped es) ≡ option_map f (find owner_cmp q es)
  find_mapped q [] = refl
  find_mapped q (e ∷ es) = by_test (same_owner q e.0) (find_mapped q es)
    where
      by_test : (b : Bool) → find owner_cmp q (mapped es) ≡ option_map f (find owner_cmp q es) → cond b (Some (f e.1)) (find owner_cmp q (mapped es)) ≡ option_map f (cond b (Some e.1) (find owner_cmp q es))
      by_test true rest = refl
      by_test false rest = rest

  below_mapped : (x : Owner) (es : Accounts) → below_all owner_cmp x (mapped es) ≡ below_all owner_cmp x es
  below_mapped x [] = refl
  below_mapped x (e ∷ es) = ap (λ b. is_lt (owner_cmp x e.0) && b) (below_mapped x es)

  sorted_mapped : (es : Accounts) → is_sorted owner_cmp (mapped es) ≡ is_sorted owner_cmp es
  sorted_mapped [] = refl
  sorted_mapped (e ∷ es) = λ i. below_mapped e.0 es i && sorted_mapped es i

  -- of the entries whose keys pass a test
  get_mapped : (p : Owner → Bool) (es : Accounts) (q : Owner) → IsTrue (is_sorted owner_cmp es)
      → fin_map.get (fin_map.from_sorted {R = owner_cmp} (mapped (where_key owner_cmp p es))) q ≡ option_map f (cond (p q) (find owner_cmp q es) None)
  get_mapped p es q sorted =
      get-from_sorted owner_cmp (mapped (where_key owner_cmp p es)) q (sorted_mapped (where_key owner_cmp p es) ∙ is_sorted_where owner_cmp p es sorted)
      ∙ find_mapped q (where_key owner_cmp p es)
      ∙ ap (option_map f) (find-where_key owner_cmp p q (λ x tied. ap p (sym (owner_cmp-IsAntisymmetric q x tied))) es)

-- ---- a book's entries, by the shares of a side

abbrev pub usage_entry : Usage → Option Usage
usage_entry usage = cond (is_nothing usage) None (Some usage)

abbrev pub limits_entry : Limits → Option Limits
limits_entry limits = cond (is_unlimited limits) None (Some limits)

module _ (side : Side) (es : Accounts) (sorted : IsTrue (is_sorted owner_cmp es)) where
  pub totals_get : (q : Owner) → fin_map.get (book_on side es).totals q ≡ usage_entry (share_at side es q).usage
  totals_get q = get_mapped (λ account. (share_on side account).usage) (uses_some side es) es q sorted ∙ by_found (find owner_cmp q es)
    where
      by_test : (account : Account) (b : Bool) → option_map (λ (a : Account). (share_on side a).usage) (cond (not b) (Some account) None) ≡ cond b None (Some (share_on side account).usage)
      by_test account true = refl
      by_test account false = refl

      by_found : (o : Option Account)
          → option_map (λ (a : Account). (share_on side a).usage) (cond (not (is_nothing (share_on side (unwrap_or o (Same no_share))).usage)) o None) ≡ usage_entry (share_on side (unwrap_or o (Same no_share))).usage
      by_found None = refl
      by_found (Some account) = by_test account (is_nothing (share_on side account).usage)

  pub limits_get : (q : Owner) → fin_map.get (book_on side es).limits q ≡ limits_entry (share_at side es q).limits
  limits_get q = get_mapped (λ account. (share_on side account).limits) (is_bound side es) es q sorted ∙ by_found (find owner_cmp q es)
    where
      by_test : (account : Account) (b : Bool) → option_map (λ (a : Account). (share_on side a).limits) (cond (not b) (Some account) None) ≡ cond b None (Some (share_on side account).limits)
      by_test account true = refl
      by_test account false = refl

      by_found : (o : Option Account)
          → option_map (λ (a : Account). (share_on side a).limits) (cond (not (is_unlimited (share_on side (unwrap_or o (Same no_share))).limits)) o None) ≡ limits_entry (share_on side (unwrap_or o (Same no_share))).limits
      by_found None = refl
      by_found (Some account) = by_test account (is_unlimited (share_on side account).limits)

  nothing_is : (usage : Usage) → is_nothing usage ≡ true → usage ≡ nothing
  nothing_is usage is =
      let parts = and_parts (usage.files == 0) (usage.blocks == 0) is in
      λ i. record { files = eqb-true usage.files 0 parts.0 i; blocks = eqb-true usage.blocks 0 parts.1 i }

  -- what an owner uses and may use in the book is the share
  pub used_shown : (q : Owner) → used (book_on side es) q ≡ (share_at side es q).usage
  used_shown q = ap (λ o. unwrap_or o nothing) (totals_get q) ∙ by_test (share_at side es q).usage (is_nothing (share_at side es q).usage) refl
    where
      by_test : (usage : Usage) (b : Bool) → is_nothing usage ≡ b → unwrap_or (cond b None (Some usage)) nothing ≡ usage
      by_test usage true none = sym (nothing_is usage none)
      by_test usage false some = refl

  pub limits_shown : (q : Owner) → limits_in (book_on side es) q ≡ (share_at side es q).limits
  limits_shown q = ap (λ o. unwrap_or o no_limits) (limits_get q) ∙ by_test (share_at side es q).limits (is_unlimited (share_at side es q).limits) refl
    where
      by_test : (limits : Limits) (b : Bool) → is_unlimited limits ≡ b → unwrap_or (cond b None (Some limits)) no_limits ≡ limits
      by_test limits true none = sym (unlimited_is limits none)
      by_test limits false some = refl

  pub no_trace : HasNoTrace (book_on side es)
  no_trace q at = by_test (share_at side es q).usage (is_nothing (share_at side es q).usage) refl (sym (totals_get q) ∙ at)
    where
      by_test : (usage : Usage) (b : Bool) → is_nothing usage ≡ b → cond b None (Some usage) ≡ Some nothing → ⊥
      by_test usage true none is = absurd (cc)
      by_test usage false some is = true≢false (sym (ap (λ o. is_nothing (unwrap_or o nothing)) is) ∙ some)

module _ (side other : Side) (es fs : Accounts) (sorted : IsTrue (is_sorted owner_cmp es)) (ordered : IsTrue (is_sorted owner_cmp fs)) where
  same_totals : ((q : Owner) → (share_at side es q).usage ≡ (share_at other fs q).usage) → (book_on side es).totals ≡ (book_on other fs).totals
  same_totals same =
      fin_map.same_map owner_cmp-total owner_cmp-IsAntisymmetric _ _ (λ q. totals_get side es sorted q ∙ ap usage_entry (same q) ∙ sym (totals_get other fs ordered q))

  pub same_limits : ((q : Owner) → (share_at side es q).limits ≡ (share_at other fs q).limits) → (book_on side es).limits ≡ (book_on other fs).limits
  same_limits same =
      fin_map.same_map owner_cmp-total owner_cmp-IsAntisymmetric _ _ (λ q. limits_get side es sorted q ∙ ap limits_entry (same q) ∙ sym (limits_get other fs ordered q))

  -- accounts whose shares are the same show one book
  pub same_book : ((q : Owner) → share_at side es q ≡ share_at other fs q) → book_on side es ≡ book_on other fs
  same_book same =
      let totals = same_totals (λ q. ap (λ (s : Share). s.usage) (same q)) in
      let limits = same_limits (λ q. ap (λ (s : Share). s.limits) (same q)) in
      λ i. record { totals = totals i; limits = limits i }

-- ---- the limits of one owner

module _ (es fs : Accounts) (who : Owner) (limits : Limits) (sorted : IsTrue (is_sorted owner_cmp es)) (ordered : IsTrue (is_sorted owner_cmp fs))
    (sets : SetsShare who (record { usage = used_at es who; limits = limits }) es fs)
  where
    used_still : (q : Owner) → (share_at Now fs q).usage ≡ (share_at Now es q).usage
    used_still q = ap (λ (s : Share). s.usage) (sets.now q) ∙ by_owner (same_owner q who) refl
      where
        by_owner : (b : Bool) → same_owner q who ≡ b → (cond b (record { usage = used_at es who; limits = limits }) (share_at Now es q)).usage ≡ (share_at Now es q).usage
        by_owner true same = ap (used_at es) (sym (same_is q who same))
        by_owner false apart = refl

    limits_now : (q : Owner) → (share_at Now fs q).limits ≡ cond (same_owner q who) limits (share_at Now es q).limits
    limits_now q = ap (λ (s : Share). s.limits) (sets.now q) ∙ by_owner (same_owner q who)
      where
        by_owner : (b : Bool) → (cond b (record { usage = used_at es who; limits = limits }) (share_at Now es q)).limits ≡ cond b limits (share_at Now es q).limits
        by_owner true = refl
        by_owner false = refl

    with_entry : (q : Owner) → fin_map.get (with_limits (book_on Now es).limits who limits) q ≡ limits_entry (cond (same_owner q who) limits (share_at Now es q).limits)
    with_entry q = by_test (is_unlimited limits) refl
      where
        removed : (b : Bool) → is_unlimited limits ≡ true → cond b None (limits_entry (share_at Now es q).limits) ≡ limits_entry (cond b limits (share_at Now es q).limits)
        removed true none = sym (ap (λ u. cond u None (Some limits)) none)
        removed false none = refl

        inserted : (b : Bool) → is_unlimited limits ≡ false → cond b (Some limits) (limits_entry (share_at Now es q).limits) ≡ limits_entry (cond b limits (share_at Now es q).limits)
        inserted true some = sym (ap (λ u. cond u None (Some limits)) some)
        inserted false some = refl

        by_test : (b : Bool) → is_unlimited limits ≡ b
            → fin_map.get (cond b (fin_map.remove (book_on Now es).limits who) (fin_map.insert (book_on Now es).limits who limits)) q ≡ limits_entry (cond (same_owner q who) limits (share_at Now es q).limits)
        by_test true none = fin_map.get-remove owner_cmp-total (book_on Now es).limits who q ∙ ap (λ o. cond (same_owner q who) None o) (limits_get Now es sorted q) ∙ removed (same_owner q who) none
        by_test false some =
            fin_map.get-insert owner_cmp-total (book_on Now es).limits who limits q ∙ ap (λ o. cond (same_owner q who) (Some limits) o) (limits_get Now es sorted q) ∙ inserted (same_owner q who) some

    pub limits_set : book_on Now fs ≡ record (book_on Now es) { limits = with_limits (book_on Now es).limits who limits }
    limits_set =
        let totals = same_totals Now Now fs es ordered sorted used_still in
        let set : (book_on Now fs).limits ≡ with_limits (book_on Now es).limits who limits =
        fin_map.same_map owner_cmp-total owner_cmp-IsAntisymmetric _ _ (λ q. limits_get Now fs ordered q ∙ ap limits_entry (limits_now q) ∙ sym (with_entry q)) in
        λ i. record { totals = totals i; limits = set i }

-- ---- what the user, the group and the fileset use

pub fits_same : (uid gid files blocks : ℕ) (u v : Owner → Usage) → ((who : Owner) → u who ≡ v who) → FitsAll uid gid files blocks u → FitsAll uid gid files blocks v
fits_same uid gid files blocks u v same fits = record {
  user = subst (IsBelow files blocks) (same (User uid)) fits.user;
  group = subst (IsBelow files blocks) (same (Group gid)) fits.group;
  all = subst (IsBelow files blocks) (same Fileset) fits.all;
}

pub has_same : (uid gid files blocks : ℕ) (u v : Owner → Usage) → ((who : Owner) → u who ≡ v who) → HasAll uid gid files blocks u → HasAll uid gid files blocks v
has_same uid gid files blocks u v same has = record {
  user = subst (IsWithin (record { files = files; blocks = blocks })) (same (User uid)) has.user;
  group = subst (IsWithin (record { files = files; blocks = blocks })) (same (Group gid)) has.group;
  all = subst (IsWithin (record { files = files; blocks = blocks })) (same Fileset) has.all;
}

-- ---- what all functions of a book say of it

-- books of accounts with the same shares on both sides
module _ (es : Accounts) (now : KeptBook) (view_is : books_of es ≡ now) (sorted : IsTrue (is_sorted owner_cmp es)) where
  pub used_now : (q : Owner) → used_at es q ≡ used now.book q
  used_now q = sym (used_shown Now es sorted q) ∙ ap (λ (b : KeptBook). used b.book q) view_is

  pub limits_now_are : (q : Owner) → (share_at Now es q).limits ≡ limits_in now.book q
  limits_now_are q = sym (limits_shown Now es sorted q) ∙ ap (λ (b : KeptBook). limits_in b.book q) view_is

  module _ (fs : Accounts) (ordered : IsTrue (is_sorted owner_cmp fs)) where
    pub kept_still : ((q : Owner) → share_at Kept fs q ≡ share_at Kept es q) → book_on Kept fs ≡ now.kept
    kept_still same = same_book Kept Kept fs es ordered sorted same ∙ ap (λ (b : KeptBook). b.kept) view_is

    pub used_changes : (change : Usage → Usage) (uid gid : ℕ) → ChangesUsage change (λ who. is_owned who uid gid) es fs
        → (who : Owner) → used (book_on Now fs) who ≡ cond (is_owned who uid gid) (change (used now.book who)) (used now.book who)
    used_changes change uid gid changes who =
        used_shown Now fs ordered who ∙ changes.used who ∙ ap (λ u. cond (is_owned who uid gid) (change u) u) (used_now who)

    pub limits_stay : (change : Usage → Usage) (is_one : Owner → Bool) → ChangesUsage change is_one es fs → (book_on Now fs).limits ≡ now.book.limits
    limits_stay change is_one changes = same_limits Now Now fs es ordered sorted changes.limits ∙ ap (λ (b : KeptBook). b.book.limits) view_is

    module _ (side : Side) (settles : SettlesAll side es fs) where
      -- either side of accounts that were settled shows the book of that side
      pub settled_book : (other : Side) → book_on other fs ≡ book_on side es
      settled_book other = same_book other side fs es ordered sorted (λ q. one_share other side fs q (settles.same q) ∙ settles.shares q)
