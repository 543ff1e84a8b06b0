-- What is so of all filesets stays so where one is made, cloned or removed.
use Rattle.std.proofs.Common.{◌≡◌, ◌≢◌, ℕ, ◌+◌, ◌-◌, ◌<◌, ◌≤◌, Bool, true, false, cond, ◌||◌, is_some, List, [], ◌∷◌, IsSomeAnd, Some, None, refl, sym, ap, subst, ◌∙◌, inl, inr, true≢false, arith}
use Rattle.std.specs.declared.cmp.Ordering.{Ordering}
use Rattle.std.specs.Ordering.{eq_by_cmp}
use Rattle.std.specs.Cmp.Lexicographic.{bytes_decides}
use Rattle.std.specs.FinMap as map
use Rattle.std.specs.FinMap.Entries.{find}
use Rattle.fileset_model.specs.fileset_values.Orders.{Name, name_cmp, name_cmp-total, name_cmp-IsAntisymmetric}
use Rattle.fileset_model.specs.Filesets.{FilesetMap}
use Rattle.legal_histories.specs.Valid.{AreValid, IsValidSlot}
use Rattle.fileset_model.specs.Apply.{empty_fileset, has_clone, is_clone_of, original_of}
use Rattle.fileset_model.specs.declared.fileset.FilesetSlot.{FilesetSlot}
use Rattle.fileset_model.specs.declared.fileset.NumberSet.{NumberSet}
use Rattle.fileset_model.specs.declared.fileset.Role.TheVariants.{Original, CloneOf}
use Rattle.fileset_model.proofs.OfFilesetValues.MapLemmas.{got-insert, got-remove, get-insert_other, get-remove_other}
use Rattle.legal_histories.proofs.ValidLemmas.{from_some_and, original_tree, some_inj, to_some_and}
use Rattle.legal_histories.proofs.LooksLemmas.{looks_like_itself}
use Rattle.legal_histories.proofs.ValidTreeLemmas.{empty_fileset-valid, some≢none, without_limits-valid}
use Rattle.fileset_model.proofs.WholeLemmas.{any_value, cloned}

-- ---- none

pub none-valid : AreValid map.empty
none-valid =
    let nothing : (name : Name) (slot : FilesetSlot) → map.get (map.empty {X = FilesetSlot} {R = name_cmp}) name ≢ Some slot = λ name slot is. some≢none slot (sym is ∙ map.get-empty name_cmp name) in
    record {
      few = omega (arith, map.len-empty name_cmp FilesetSlot);
      each = λ name slot is. absurd (nothing name slot is);
      originals = λ name original slot out is role. absurd (nothing name slot is);
      one_clone = λ p q original slot other out out' at_p at_q r s. absurd (nothing p slot at_p);
    }

-- ---- one more

-- what a fileset has to be so that it can join the others: a clone's original is an original with no clone so far
pub record CanJoin (all : FilesetMap) (slot : FilesetSlot) : Type 0 where
  pub tree : IsValidSlot slot
  pub of_original : (original : Name) (out : NumberSet) → slot.role ≡ CloneOf original out → IsSomeAnd (map.get all original) (λ of. of.role ≡ Original)
  pub first_clone : (original q : Name) (other : FilesetSlot) (out out' : NumberSet) → slot.role ≡ CloneOf original out → map.get all q ≡ Some other → other.role ≢ CloneOf original out'

pub insert-valid : (all : FilesetMap) (name : Name) (slot : FilesetSlot) → AreValid all → map.get all name ≡ None → map.len all < 16 → CanJoin all slot → AreValid (map.insert all name slot)
insert-valid all name slot v absent few join =
    let o = name_cmp-total in
    let a = name_cmp-IsAntisymmetric in
    let stays : (q : Name) → IsSomeAnd (map.get all q) (λ of. of.role ≡ Original) → IsSomeAnd (map.get (map.insert all name slot) q) (λ of. of.role ≡ Original) = λ q there.
    let of = from_some_and (λ (x : FilesetSlot). x.role ≡ Original) (map.get all q) there in
    let apart : q ≢ name = λ e. some≢none of.0 (sym of.1 ∙ ap (map.get all) e ∙ absent) in
    to_some_and (λ (x : FilesetSlot). x.role ≡ Original) (map.get (map.insert all name slot) q) of.0 (get-insert_other o a all name slot q apart ∙ of.1) of.2 in
    record {
      few = let there : map.contains_key all name ≡ false = ap is_some absent in
          let more : map.len (map.insert all name slot) ≡ map.len all + 1 = map.len-insert o all name slot ∙ ap (λ b. cond b (map.len all) (map.len all + 1)) there in
          omega arith;
      each = λ q s found. elim (got-insert o a all name slot q _ found) as (λ _. IsValidSlot s) [
        | inl here ↦ subst IsValidSlot (sym (some_inj here.1)) join.tree
        | inr other ↦ v.each q s other.1
      ];
      originals = λ q of s out found role. stays of (elim (got-insert o a all name slot q _ found) as (λ _. IsSomeAnd (map.get all of) (λ (x : FilesetSlot). x.role ≡ Original)) [
        | inl here ↦ join.of_original of out (ap (λ (x : FilesetSlot). x.role) (sym (some_inj here.1)) ∙ role)
        | inr other ↦ v.originals q of s out other.1 role
      ]);
      one_clone = λ p q of s t out out' at_p at_q role_p role_q. elim (got-insert o a all name slot p _ at_p) as (λ _. p ≡ q) [
        | inl here ↦ elim (got-insert o a all name slot q _ at_q) as (λ _. p ≡ q) [
          | inl also ↦ here.0 ∙ sym also.0
          | inr other ↦ absurd (join.first_clone of q t out out' (ap (λ (x : FilesetSlot). x.role) (sym (some_inj here.1)) ∙ role_p) other.1 role_q)
        ]
        | inr other ↦ elim (got-insert o a all name slot q _ at_q) as (λ _. p ≡ q) [
          | inl here ↦ absurd (join.first_clone of p s out' out (ap (λ (x : FilesetSlot). x.role) (sym (some_inj here.1)) ∙ role_q) other.1 role_p)
          | inr also ↦ v.one_clone p q of s t out out' other.1 also.1 role_p role_q
        ]
      ];
    }

pub original≢clone : (original : Name) (out : NumberSet) → Original ≢ CloneOf original out
original≢clone original out e = some≢none original (sym (ap original_of e))

pub new-joins : (all : FilesetMap) (root : ℕ) → CanJoin all (record { tree = empty_fileset root; role = Original })
new-joins all root = record {
  tree = empty_fileset-valid root;
  of_original = λ original out role. absurd (original≢clone original out role);
  first_clone = λ original q other out out' role. absurd (original≢clone original out role);
}

-- ---- clones

no_value : {K X : Type 0} (R : K → K → Ordering) (test : X → Bool) (es : List (K × X)) (q : K) (x : X) → any_value test es ≡ false → find R q es ≡ Some x → test x ≡ false
no_value R test [] q x none found = absurd (some≢none x (sym found))
no_value R test (e ∷ es) q x none found =
    elim (test e.1) as (λ b. test e.1 ≡ b → (b || any_value test es) ≡ false → test x ≡ false) [
      | true ↦ λ t h. absurd (true≢false h)
      | false ↦ λ t h. elim (eq_by_cmp R q e.0) as (λ b. cond b (Some e.1) (find R q es) ≡ Some x → test x ≡ false) [
        | true ↦ λ is. ap test (sym (some_inj is)) ∙ t
        | false ↦ λ is. no_value R test es q x h is
      ] found
    ] refl none

-- where a fileset has no clone, no fileset is one of it
pub no_clone : (all : FilesetMap) (name q : Name) (slot : FilesetSlot) (out : NumberSet) → has_clone all name ≡ false → map.get all q ≡ Some slot → slot.role ≢ CloneOf name out
no_clone all name q slot out none is role =
    let not_of : is_clone_of name slot.role ≡ false = no_value name_cmp (λ (s : FilesetSlot). is_clone_of name s.role) (map.entries all) q slot none (sym (map.get-entries all q) ∙ is) in
    true≢false (sym ((bytes_decides name name).1 refl) ∙ ap (is_clone_of name) (sym role) ∙ not_of)

pub clone-joins : (all : FilesetMap) (name : Name) (slot : FilesetSlot) → AreValid all → map.get all name ≡ Some slot → slot.role ≡ Original → has_clone all name ≡ false → CanJoin all (cloned name slot)
clone-joins all name slot v is original none =
    let of : (of : Name) (out : NumberSet) → (cloned name slot).role ≡ CloneOf of out → name ≡ of = λ of out role. some_inj (ap original_of role) in
    record {
      tree = record {
        whole = record slot.tree { limits = map.empty };
        valid = without_limits-valid slot.tree (original_tree slot original (v.each name slot is));
        shows = looks_like_itself (cloned name slot);
      };
      of_original = λ other out role. subst (λ n. IsSomeAnd (map.get all n) (λ (x : FilesetSlot). x.role ≡ Original)) (of other out role)
          (to_some_and (λ (x : FilesetSlot). x.role ≡ Original) (map.get all name) slot is original);
      first_clone = λ other q clone out out' role at_q also. no_clone all name q clone out' none at_q (also ∙ ap (λ n. CloneOf n out') (sym (of other out role)));
    }

-- ---- one less

pub remove-valid : (all : FilesetMap) (name : Name) → AreValid all → has_clone all name ≡ false → AreValid (map.remove all name)
remove-valid all name v none =
    let o = name_cmp-total in
    let a = name_cmp-IsAntisymmetric in
    let was : (q : Name) (s : FilesetSlot) → map.get (map.remove all name) q ≡ Some s → map.get all q ≡ Some s = λ q s is. (got-remove o a all name q s is).1 in
    record {
      few = rw (map.len-remove o all name) (elim (map.contains_key all name) as (λ b. cond b (map.len all - 1) (map.len all) ≤ 16) [ true ↦ omega (arith, v.few) | false ↦ v.few ]);
      each = λ q s is. v.each q s (was q s is);
      originals = λ q of s out is role.
          let apart : of ≢ name = λ e. no_clone all name q s out none (was q s is) (role ∙ ap (λ n. CloneOf n out) e) in
          subst (λ x. IsSomeAnd x (λ (t : FilesetSlot). t.role ≡ Original)) (sym (get-remove_other o a all name of apart)) (v.originals q of s out (was q s is) role);
      one_clone = λ p q of s t out out' at_p at_q. v.one_clone p q of s t out out' (was p s at_p) (was q t at_q);
    }
