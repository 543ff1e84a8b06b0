-- What is always so of filesets stays so under a change of one of them.
use Rattle.std.proofs.Common.{◌≡◌, ◌+◌, Bool, true, false, cond, Option, Some, None, is_some, IsSomeAnd, List, ◌∷◌, refl, sym, ap, subst, ◌∙◌, inl, inr}
use Rattle.std.specs.Option.{option_map_or}
use Rattle.std.specs.FinMap as map
use Rattle.fileset_model.specs.fileset_values.Orders.{Name, name_cmp-total, name_cmp-IsAntisymmetric}
use Rattle.fileset_model.specs.Fileset.{Fileset}
use Rattle.fileset_model.specs.Paths.{first_refusal, refuse_if}
use Rattle.fileset_model.specs.Filesets.{FilesetMap}
use Rattle.legal_histories.specs.Valid.{AreValid, IsValidAs, IsValidFileset, IsValidSlot}
use Rattle.fileset_model.specs.Apply.{in_fileset, with_tree}
use Rattle.fileset_model.specs.declared.fileset.FilesetSlot.{FilesetSlot}
use Rattle.fileset_model.specs.declared.fileset.Role.TheVariants.{Original, CloneOf}
use Rattle.fileset_model.specs.fileset_values.declared.reply.Refusal.{Refusal}
use Rattle.fileset_model.specs.fileset_values.declared.reply.Refusal.TheVariants.{NoFileset}
use Rattle.fileset_model.specs.declared.fileset.NumberSet.{NumberSet}
use Rattle.fileset_model.proofs.OfFilesetValues.MapLemmas.{got-insert}
use Rattle.fileset_model.proofs.SlotLemmas.{with_tree-at}

-- ---- what a list of checks that all pass says of each

pub passed : (check : Option Refusal) (checks : List (Option Refusal)) → first_refusal (check ∷ checks) ≡ None → (check ≡ None) × (first_refusal checks ≡ None)
passed None checks h = (refl, h)
passed (Some refusal) checks h = absurd (cc)

pub passed_test : (test : Bool) (refusal : Refusal) → refuse_if test refusal ≡ None → test ≡ false
passed_test true refusal h = absurd (cc)
passed_test false refusal h = refl

pub passed_in : (all : FilesetMap) (name : Name) (checks : FilesetSlot → List (Option Refusal)) → in_fileset all name checks ≡ None
    → (slot : FilesetSlot) × (map.get all name ≡ Some slot) × (first_refusal (checks slot) ≡ None)
passed_in all name checks h =
    elim (map.get all name) as (λ o. map.get all name ≡ o → option_map_or (λ slot. first_refusal (checks slot)) o (Some NoFileset) ≡ None
    → (slot : FilesetSlot) × (map.get all name ≡ Some slot) × (first_refusal (checks slot) ≡ None)) [
      | None ↦ λ is none. absurd (cc)
      | Some slot ↦ λ is none. (slot, is, none)
    ] refl h

pub some_inj : {X : Type 0} {x y : X} → Some x ≡ Some y → x ≡ y
some_inj {X} {x} {y} h = ap (λ (q : Option X). option_map_or (λ w. w) q x) h

pub from_some_and : {X : Type 0} (P : X → Type 0) (o : Option X) → IsSomeAnd o P → (x : X) × (o ≡ Some x) × P x
from_some_and P None h = absurd h
from_some_and P (Some x) h = (x, refl, h)

pub to_some_and : {X : Type 0} (P : X → Type 0) (o : Option X) (x : X) → o ≡ Some x → P x → IsSomeAnd o P
to_some_and {X} P o x is h = subst (λ (q : Option X). IsSomeAnd q P) (sym is) h

-- ---- filesets that have the same roles

-- each fileset of one has its role in the other
abbrev pub SameRoles : FilesetMap → FilesetMap → Type 0
SameRoles all new = (q : Name) (s : FilesetSlot) → map.get new q ≡ Some s → (before : FilesetSlot) × (map.get all q ≡ Some before) × (s.role ≡ before.role)

-- with the same roles on both sides, clones have their originals, and one each
pub same_roles-originals : (all new : FilesetMap) → AreValid all → SameRoles all new → SameRoles new all → (q original : Name) (s : FilesetSlot) (out : NumberSet)
    → map.get new q ≡ Some s → s.role ≡ CloneOf original out → IsSomeAnd (map.get new original) (λ of. of.role ≡ Original)
same_roles-originals all new v back on q original s out found role =
    let before = back q s found in
    let of = from_some_and (λ (x : FilesetSlot). x.role ≡ Original) (map.get all original) (v.originals q original before.0 out before.1 (sym before.2 ∙ role)) in
    let after = on original of.0 of.1 in
    to_some_and (λ (x : FilesetSlot). x.role ≡ Original) (map.get new original) after.0 after.1 (sym after.2 ∙ of.2)

pub same_roles-one_clone : (all new : FilesetMap) → AreValid all → SameRoles all new → (p q original : Name) (s t : FilesetSlot) (out out' : NumberSet)
    → map.get new p ≡ Some s → map.get new q ≡ Some t → s.role ≡ CloneOf original out → t.role ≡ CloneOf original out' → p ≡ q
same_roles-one_clone all new v back p q original s t out out' fp fq rp rq =
    let bp = back p s fp in
    let bq = back q t fq in
    v.one_clone p q original bp.0 bq.0 out out' bp.1 bq.1 (sym bp.2 ∙ rp) (sym bq.2 ∙ rq)

-- ---- originals

-- an original is valid where its tree is
pub as_original : (slot : FilesetSlot) → slot.role ≡ Original → IsValidFileset slot.tree → IsValidSlot slot
as_original slot original tree = subst (λ r. IsValidAs r slot) (sym original) tree

pub original_tree : (slot : FilesetSlot) → slot.role ≡ Original → IsValidSlot slot → IsValidFileset slot.tree
original_tree slot original valid = subst (λ r. IsValidAs r slot) original valid

-- ---- a change of one tree

-- a valid tree in the place of an original's keeps all filesets valid
pub with_tree-valid : (all : FilesetMap) (name : Name) (slot : FilesetSlot) (change : Fileset → Fileset) → AreValid all → map.get all name ≡ Some slot
    → slot.role ≡ Original → IsValidFileset (change slot.tree) → AreValid (with_tree all name change)
with_tree-valid all name slot change v is original tree =
    let slot' : FilesetSlot = record slot { tree = change slot.tree } in
    let o = name_cmp-total in
    let a = name_cmp-IsAntisymmetric in
    let new : FilesetMap = map.insert all name slot' in
    let back : SameRoles all new = λ q s found.
    elim (got-insert o a all name slot' q _ found) as (λ _. (before : FilesetSlot) × (map.get all q ≡ Some before) × (s.role ≡ before.role)) [
      | inl here ↦ (slot, ap (map.get all) here.0 ∙ is, ap (λ (x : FilesetSlot). x.role) (some_inj here.1))
      | inr other ↦ (s, other.1, refl)
    ] in
    let on : SameRoles new all = λ q s found.
    elim (got-insert o a all name slot' q _ refl) as (λ _. (after : FilesetSlot) × (map.get new q ≡ Some after) × (s.role ≡ after.role)) [
      | inl here ↦ (slot', here.1, ap (λ (x : FilesetSlot). x.role) (some_inj (sym found ∙ ap (map.get all) here.0 ∙ is)))
      | inr other ↦ (s, sym other.1 ∙ found, refl)
    ] in
    subst AreValid (sym (with_tree-at all name slot change is)) (record {
      few = let there : map.contains_key all name ≡ true = ap is_some is in
          let same : map.len (map.insert all name slot') ≡ map.len all = map.len-insert o all name slot' ∙ ap (λ b. cond b (map.len all) (map.len all + 1)) there in
          rw same v.few;
      each = λ q s found. elim (got-insert o a all name slot' q _ found) as (λ _. IsValidSlot s) [
        | inl here ↦ subst IsValidSlot (sym (some_inj here.1)) (as_original slot' original tree)
        | inr other ↦ v.each q s other.1
      ];
      originals = same_roles-originals all new v back on;
      one_clone = same_roles-one_clone all new v back;
    })
